-- The places of the sessions' lines, noted one after another, and handed out.
use Rattle.std.proofs.Common.{◌≡◌, ℕ, zero, suc, ◌+◌, ◌-◌, ◌<◌, ◌≤◌, Bool, true, false, cond, ◌==◌, List, [], ◌∷◌, ◌++◌, length, replicate, take, slice_get}
use Rattle.std.proofs.Common.{slice_set, slice_index_or, Some, refl, sym, ap, ◌∙◌, arith, append-nil}
use Rattle.std.proofs.lemmas.Bool.Decides.{nat_tests}
use Rattle.std.proofs.lemmas.Option.{slice_get-get_or}
use Rattle.flat_base.specs.declared.ids.Actor.{Actor}
use Rattle.flat_base.specs.declared.ids.Actor.TheVariants.{Display, Session, Probe}
use Rattle.flat_base.specs.declared.ids.SessionNo.{SessionNo}
use Rattle.flat_scene.specs.declared.script.ScriptLine.{ScriptLine}
use Rattle.flat_scene.specs.History.{is_session}
use Rattle.flat_places.specs.declared.script.Script.{Script}
use Rattle.flat_scene.specs.declared.script.LineBody.{LineBody}
use Rattle.flat_scene.specs.declared.script.LineBody.TheVariants as body
use Rattle.flat_scene.specs.declared.setup.Setup.{Setup}
use Rattle.flat_scene.specs.Setups.{is_declared}
use Rattle.flat_playable.specs.Playable.{is_playable, is_played}
use Rattle.flat_base.proofs.lemmas.Tests.{and-left}
use Rattle.flat_play.proofs.lemmas.PlaySteps.{below_declared}
use Rattle.flat_play.proofs.lemmas.Slots.{got-other, got-same, set-length}
use Rattle.flat_play.proofs.lemmas.Steps.{at_place}
use Rattle.flat_race.specs.PlaceLists.{ArePlaces, noted}
use Rattle.flat_race.specs.OwnLines.{own_places, places_from}

-- ---- one line more

-- the places of one line more
abbrev last-place : SessionNo → ℕ → ScriptLine → List ℕ
last-place s place x = cond (is_session s x.actor) (place ∷ []) []

by-last : (b : Bool) (first : ℕ) (xs ys : List ℕ) → cond b (first ∷ (xs ++ ys)) (xs ++ ys) ≡ cond b (first ∷ xs) xs ++ ys
by-last true first xs ys = refl
by-last false first xs ys = refl

places-behind : (s : SessionNo) (first : ℕ) (lines : List ScriptLine) (x : ScriptLine)
    → places_from s first (lines ++ x ∷ []) ≡ places_from s first lines ++ last-place s (first + length lines) x
places-behind s first [] x = ap (λ n. last-place s n x) (let same : first ≡ first + 0 = omega arith in same)
places-behind s first (next ∷ later) x =
    let at : suc first + length later ≡ first + suc (length later) = omega arith in
    let rest : places_from s (suc first) (later ++ x ∷ []) ≡ places_from s (suc first) later ++ last-place s (first + suc (length later)) x =
    places-behind s (suc first) later x ∙ ap (λ n. places_from s (suc first) later ++ last-place s n x) at in
    ap (λ ps. cond (is_session s next.actor) (first ∷ ps) ps) rest
    ∙ by-last (is_session s next.actor) first (places_from s (suc first) later) (last-place s (first + suc (length later)) x)

module _ (lines : List ScriptLine) (place : ℕ) (x : ScriptLine) (taken : take (place + 1) lines ≡ take place lines ++ x ∷ [])
    (long : length (take place lines) ≡ place) where
  own-more : (s : SessionNo) → own_places s (take (place + 1) lines) ≡ own_places s (take place lines) ++ last-place s place x
  own-more s = ap (own_places s) taken ∙ places-behind s 0 (take place lines) x
      ∙ ap (λ n. own_places s (take place lines) ++ last-place s n x) (let same : 0 + length (take place lines) ≡ place = omega (arith, long) in same)

  own-same : (s : SessionNo) → is_session s x.actor ≡ false → own_places s (take (place + 1) lines) ≡ own_places s (take place lines)
  own-same s other = own-more s ∙ ap (λ b. own_places s (take place lines) ++ cond b (place ∷ []) []) other ∙ append-nil (own_places s (take place lines))

  own-one : (s : SessionNo) → is_session s x.actor ≡ true → own_places s (take (place + 1) lines) ≡ own_places s (take place lines) ++ place ∷ []
  own-one s is = own-more s ∙ ap (λ b. own_places s (take place lines) ++ cond b (place ∷ []) []) is

  -- a line that is no session's
  noted-none : (places : List (List ℕ)) → ((s : SessionNo) → is_session s x.actor ≡ false) → ArePlaces (take place lines) 0 places
      → ArePlaces (take (place + 1) lines) 0 places
  noted-none places none are = record { each = λ k own le got. are.each k own le got ∙ sym (own-same (record { 0 = k + 1 }) (none (record { 0 = k + 1 }))) }

  -- a session's line
  noted-one : (s : SessionNo) (places : List (List ℕ)) → x.actor ≡ Session s → 0 < s.0 → s.0 - 1 < length places → ArePlaces (take place lines) 0 places
      → ArePlaces (take (place + 1) lines) 0 (noted (Session s) place places)
  noted-one s places who some within are = record { each = λ k own le got. by k own got (s.0 == (k + 1)) refl }
    where
      of : (k : ℕ) → SessionNo
      of k = record { 0 = k + 1 }

      by : (k : ℕ) (own : List ℕ) → slice_get (noted (Session s) place places) k ≡ Some own → (b : Bool) → (s.0 == (k + 1)) ≡ b
          → own ≡ own_places (of k) (take (place + 1) lines)
      by k own got true is =
          let here : k ≡ s.0 - 1 = let same : s.0 ≡ k + 1 = grind (arith, nat_tests) in omega (arith, same) in
          let new : List ℕ = slice_index_or places (s.0 - 1) [] ++ place ∷ [] in
          let old : slice_index_or places (s.0 - 1) [] ≡ own_places (of k) (take place lines) =
          are.each k (slice_index_or places (s.0 - 1) []) (omega arith) (ap (slice_get places) here ∙ slice_get-get_or places (s.0 - 1) [] within) in
          let mine : Some own ≡ Some new = sym got ∙ ap (slice_get (noted (Session s) place places)) here ∙ got-same places (s.0 - 1) new within in
          let one : own ≡ new = cc in
          one ∙ ap (λ ps. ps ++ place ∷ []) old ∙ sym (own-one (of k) (ap (is_session (of k)) who ∙ is))
      by k own got false is =
          let apart : k ≡ s.0 - 1 → ⊥ = λ same. (let wrong : (s.0 == (k + 1)) ≡ true =
          (let at : s.0 ≡ k + 1 = omega (arith, same, some) in grind (arith, nat_tests)) in let both : true ≡ false = sym wrong ∙ is in absurd (cc)) in
          are.each k own (omega arith) (sym (got-other places (s.0 - 1) k (slice_index_or places (s.0 - 1) [] ++ place ∷ []) apart) ∙ got)
          ∙ sym (own-same (of k) (ap (is_session (of k)) who ∙ is))

  -- a line
  pub noted-line : (places : List (List ℕ)) → ((s : SessionNo) → x.actor ≡ Session s → (0 < s.0) × (s.0 ≤ length places))
      → ArePlaces (take place lines) 0 places → ArePlaces (take (place + 1) lines) 0 (noted x.actor place places)
  noted-line places within are = by x.actor refl
    where
      by : (who : Actor) → x.actor ≡ who → ArePlaces (take (place + 1) lines) 0 (noted who place places)
      by (Session s) who = let inside = within s who in noted-one s places who inside.0 (let some = inside.0 in let few = inside.1 in omega (arith, some, few))
          are
      by Display who = noted-none places (λ s. ap (is_session s) who) are
      by (Probe p) who = noted-none places (λ s. ap (is_session s) who) are

-- there are as many lists as before
pub noted-long : (who : Actor) (place : ℕ) (places : List (List ℕ)) → length (noted who place places) ≡ length places
noted-long (Session s) place places = set-length places (s.0 - 1) (slice_index_or places (s.0 - 1) [] ++ place ∷ [])
noted-long Display place places = refl
noted-long (Probe p) place places = refl

-- each item of a list that repeats none
repeated : (n k : ℕ) (own : List ℕ) → slice_get (replicate n []) k ≡ Some own → own ≡ []
repeated zero k own got = absurd (cc)
repeated (suc n) zero own got = cc
repeated (suc n) (suc k) own got = repeated n k own got

pub none-repeated : (n : ℕ) (places : List (List ℕ)) → places ≡ replicate n [] → (k : ℕ) (own : List ℕ) → slice_get places k ≡ Some own → own ≡ []
none-repeated n places is k own got = repeated n k own (ap (λ (ps : List (List ℕ)). slice_get ps k) (sym is) ∙ got)

-- before any line
pub placed-none : (lines : List ScriptLine) (places : List (List ℕ)) → ((k : ℕ) (own : List ℕ) → slice_get places k ≡ Some own → own ≡ [])
    → ArePlaces (take 0 lines) 0 places
placed-none lines places none = record { each = λ k own le got. none k own got }

-- ---- handing them out

-- the next session's
pub placed-own : (lines : List ScriptLine) (k : ℕ) (places : List (List ℕ)) (own : List ℕ) → slice_get places k ≡ Some own → ArePlaces lines k places
    → own ≡ own_places (record { 0 = k + 1 }) lines
placed-own lines k places own got are = are.each k own (omega arith) got

-- and those behind it
pub placed-next : (lines : List ScriptLine) (k : ℕ) (places : List (List ℕ)) (other : List ℕ) → ArePlaces lines k places
    → ArePlaces lines (k + 1) (slice_set places k other)
placed-next lines k places other are = record {
  each = λ j own le got. are.each j own (omega (arith, le))
      (sym (got-other places k j other (λ same. let wrong : ⊥ = absurd (omega (arith, le, same)) in wrong)) ∙ got);
}

-- the session of a line is declared
declared-of : (setup : Setup) (s : SessionNo) (text : LineBody) → is_played setup (Session s) text ≡ true → is_declared setup s ≡ true
declared-of setup s (body.Session line) played = and-left _ _ played
declared-of setup s (body.Display line) played = absurd (let wrong : false ≡ true = played in cc)
declared-of setup s (body.Probe line) played = absurd (let wrong : false ≡ true = played in cc)

pub declared-at : (script : Script) (place : ℕ) (x : ScriptLine) (s : SessionNo) → is_playable script ≡ true → slice_get script.lines place ≡ Some x
    → x.actor ≡ Session s → (0 < s.0) × (s.0 ≤ script.setup.sessions)
declared-at script place x s playable here who =
    below_declared script.setup s (declared-of script.setup s x.body
    (sym (ap (λ a. is_played script.setup a x.body) who) ∙ (at_place script place x playable here).played))
