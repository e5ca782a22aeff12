-- A session's lines, read one after another at their places.
use Rattle.std.proofs.Common.{◌≡◌, ℕ, zero, suc, ◌+◌, ◌<◌, ◌≤◌, Bool, true, false, cond, List, [], ◌∷◌, length, drop, slice_get, slice_index_or, Some}
use Rattle.std.proofs.Common.{refl, sym, ap, ◌∙◌, subst, arith, add-one}
use Rattle.std.proofs.Math.Seq.{drop-cons}
use Rattle.flat_base.specs.declared.ids.SessionNo.{SessionNo}
use Rattle.flat_scene.specs.declared.script.ScriptLine.{ScriptLine}
use Rattle.flat_scene.specs.History.{is_session}
use Rattle.flat_places.specs.declared.script.Script.{Script}
use Rattle.flat_playable.specs.Playable.{is_playable}
use Rattle.flat_stage.specs.Seats.{SessionView, StageView}
use Rattle.flat_play.proofs.lemmas.Places.{drop_at}
use Rattle.flat_play.proofs.lemmas.Steps.{at_place}
use Rattle.flat_race.specs.OwnLines.{StandsBefore, places_from}
use Rattle.flat_race.specs.Sessions.{SessionStands}
use Rattle.flat_race.proofs.SessionSteps.{no_line, skips}

same-some : (x y : ScriptLine) → Some x ≡ Some y → x ≡ y
same-some x y is = cc

first-is : (x y : ℕ) (xs ys : List ℕ) → x ∷ xs ≡ y ∷ ys → x ≡ y
first-is x y xs ys is = cc

rest-is : (x y : ℕ) (xs ys : List ℕ) → x ∷ xs ≡ y ∷ ys → xs ≡ ys
rest-is x y xs ys is = cc

module _ (script : Script) (view : StageView) (s : SessionNo) (seat : SessionView) (playable : is_playable script ≡ true) where
  -- A seat before its next line stands at that place.
  pub record StandsAt (place : ℕ) (left : List ℕ) : Type 0 where
    pub line : ScriptLine
    pub here : slice_get script.lines place ≡ Some line
    pub mine : is_session s line.actor ≡ true
    pub stands : SessionStands script view s place seat
    pub are_left : left ≡ places_from s (place + 1) (drop (place + 1) script.lines)

  -- the line at a place, and those behind it
  got-first : (place : ℕ) (lines : List ScriptLine) (x : ScriptLine) (later : List ScriptLine) → drop place lines ≡ x ∷ later → slice_get lines place ≡ Some x
  got-first zero (y ∷ ys) x later is = let same : y ≡ x = cc in ap Some same
  got-first zero [] x later is = absurd (cc)
  got-first (suc place) [] x later is = absurd (cc)
  got-first (suc place) (y ∷ ys) x later is = got-first place ys x later is

  same-later : (x y : ScriptLine) (xs ys : List ScriptLine) → x ∷ xs ≡ y ∷ ys → xs ≡ ys
  same-later x y xs ys is = cc

  stand-on : (place : ℕ) (x : ScriptLine) → slice_get script.lines place ≡ Some x → is_session s x.actor ≡ false → SessionStands script view s place seat
      → SessionStands script view s (place + 1) seat
  stand-on place x here other stands = skips script view s place x (at_place script place x playable here) (no_line s x.actor x.number x.body other) seat stands

  behind-is : (place : ℕ) (x : ScriptLine) (later : List ScriptLine) → drop place script.lines ≡ x ∷ later → later ≡ drop (place + 1) script.lines
  behind-is place x later is = same-later x x later (drop (place + 1) script.lines)
      (sym is ∙ drop_at script.lines place x (got-first place script.lines x later is))

  next-at : (lines : List ScriptLine) (place next : ℕ) (left : List ℕ) → drop place script.lines ≡ lines → next ∷ left ≡ places_from s place lines
      → SessionStands script view s place seat → StandsAt next left
  next-at [] place next left at is stands = absurd (cc)
  next-at (x ∷ later) place next left at is stands =
      by (is_session s x.actor) refl is (next-at later (suc place) next left (ap (λ n. drop n script.lines) step ∙ sym behind))
    where
      here : slice_get script.lines place ≡ Some x
      here = got-first place script.lines x later at

      behind : later ≡ drop (place + 1) script.lines
      behind = behind-is place x later at

      step : suc place ≡ place + 1
      step = omega arith

      by : (b : Bool) → is_session s x.actor ≡ b → next ∷ left ≡ cond b (place ∷ places_from s (suc place) later) (places_from s (suc place) later)
          → (next ∷ left ≡ places_from s (suc place) later → SessionStands script view s (suc place) seat → StandsAt next left) → StandsAt next left
      by true mine is again =
          let same : place ≡ next = sym (first-is next place left _ is) in
          let rest : left ≡ places_from s (place + 1) (drop (place + 1) script.lines) =
          rest-is next place left _ is ∙ (λ i. places_from s (step i) (behind i)) in
          subst (λ n. StandsAt n left) same (record { line = x; here = here; mine = mine; stands = stands; are_left = rest })
      by false other is again = again is (subst (λ n. SessionStands script view s n seat) (sym step) (stand-on place x here other stands))

  pub next-line : (next : ℕ) (left : List ℕ) → StandsBefore script view s (next ∷ left) seat → StandsAt next left
  next-line next left before = next-at (drop before.place script.lines) before.place next left refl before.are_left before.stands

  all-behind : (lines : List ScriptLine) (place : ℕ) → drop place script.lines ≡ lines → [] ≡ places_from s place lines → place ≤ length script.lines
      → SessionStands script view s place seat → SessionStands script view s (length script.lines) seat
  all-behind [] place at is within stands = subst (λ n. SessionStands script view s n seat) (end place script.lines at within) stands
    where
      end : (n : ℕ) (ys : List ScriptLine) → drop n ys ≡ [] → n ≤ length ys → n ≡ length ys
      end zero [] none le = refl
      end (suc n) [] none le = absurd (omega arith)
      end zero (y ∷ ys) none le = absurd (cc)
      end (suc n) (y ∷ ys) none le = ap suc (end n ys none (omega arith))
  all-behind (x ∷ later) place at is within stands =
      by (is_session s x.actor) refl is (λ none on. all-behind later (suc place) (ap (λ n. drop n script.lines) step ∙ sym (behind-is place x later at)) none
      (more place script.lines at) on)
    where
      step : suc place ≡ place + 1
      step = omega arith

      more : (n : ℕ) (ys : List ScriptLine) → drop n ys ≡ x ∷ later → suc n ≤ length ys
      more zero [] some = absurd (cc)
      more zero (y ∷ ys) some = omega arith
      more (suc n) [] some = absurd (cc)
      more (suc n) (y ∷ ys) some = let rest = more n ys some in omega (arith, rest)

      by : (b : Bool) → is_session s x.actor ≡ b → [] ≡ cond b (place ∷ places_from s (suc place) later) (places_from s (suc place) later)
          → ([] ≡ places_from s (suc place) later → SessionStands script view s (suc place) seat → SessionStands script view s (length script.lines) seat)
          → SessionStands script view s (length script.lines) seat
      by true mine is again = absurd (cc)
      by false other is again = again is (subst (λ n. SessionStands script view s n seat) (sym step)
          (stand-on place x (got-first place script.lines x later at) other stands))

  pub all-read : StandsBefore script view s [] seat → SessionStands script view s (length script.lines) seat
  all-read before = all-behind (drop before.place script.lines) before.place refl before.are_left before.within before.stands

  -- behind a line that was read
  pub line-read : (seat' : SessionView) (place : ℕ) (left : List ℕ) → StandsAt place left → SessionStands script view s (place + 1) seat'
      → StandsBefore script view s left seat'
  line-read seat' place left at stands = record {
    place = place + 1;
    within = inside place script.lines at.line at.here;
    stands = stands;
    are_left = at.are_left;
  }
    where
      inside : (n : ℕ) (ys : List ScriptLine) (x : ScriptLine) → slice_get ys n ≡ Some x → n + 1 ≤ length ys
      inside n [] x got = absurd (cc)
      inside zero (y ∷ ys) x got = omega arith
      inside (suc n) (y ∷ ys) x got = let rest = inside n ys x got in omega (arith, rest)

  -- ---- the same at a place of the list

  module _ (places : List ℕ) (i : ℕ) (inside : i < length places) (before : StandsBefore script view s (drop i places) seat) where
    there : StandsAt (slice_index_or places i 0) (drop (i + 1) places)
    there = next-line (slice_index_or places i 0) (drop (i + 1) places)
        (subst (λ left. StandsBefore script view s left seat)
        (drop-cons places i 0 inside ∙ ap (λ n. slice_index_or places i 0 ∷ drop n places) (sym (add-one i))) before)

    pub line-here : SessionStands script view s (slice_index_or places i 0) seat
    line-here = there.stands

    pub line-within : slice_index_or places i 0 < length script.lines
    line-within = bound (slice_index_or places i 0) script.lines there.line there.here
      where
        bound : (n : ℕ) (ys : List ScriptLine) (x : ScriptLine) → slice_get ys n ≡ Some x → n < length ys
        bound n [] x got = absurd (cc)
        bound zero (y ∷ ys) x got = omega arith
        bound (suc n) (y ∷ ys) x got = let rest = bound n ys x got in omega (arith, rest)

    pub line-mine : (next : ScriptLine) → slice_get script.lines (slice_index_or places i 0) ≡ Some next → is_session s next.actor ≡ true
    line-mine next here = ap (λ (x : ScriptLine). is_session s x.actor) (same-some next there.line (sym here ∙ there.here)) ∙ there.mine

    pub stands-at : (seat' : SessionView) → SessionStands script view s (slice_index_or places i 0 + 1) seat'
        → StandsBefore script view s (drop (i + 1) places) seat'
    stands-at seat' stands = line-read seat' (slice_index_or places i 0) (drop (i + 1) places) there stands
