-- Tokens, told by the stamp of the last use's release.
use Rattle.std.proofs.Common.{◌≡◌, ◌∙◌, sym, subst, ℕ, ◌+◌, ◌-◌, ◌≤◌, Bool, true, false, List, [], ◌∷◌, ◌++◌, length, refl, arith, ap, Some, None, drop}
use Rattle.std.specs.Prelude.{cond, not, ◌&&◌, ◌==◌, nat_le, Option, slice_get}
use Rattle.std.proofs.lemmas.Bool.Decides.{nat_tests}
use Rattle.flat_base.specs.declared.ids.PairNo.{PairNo}
use Rattle.flat_base.specs.declared.ids.SessionNo.{SessionNo}
use Rattle.flat_scene.specs.declared.calls.Call.{Call}
use Rattle.flat_scene.specs.declared.calls.Call.TheVariants.{CreateViewport}
use Rattle.flat_scene.specs.declared.calls.ViewportProps.{ViewportProps}
use Rattle.flat_scene.specs.declared.journal.Entry.{Entry}
use Rattle.flat_scene.specs.declared.setup.Setup.{Setup}
use Rattle.flat_scene.specs.Frames.{taken}
use Rattle.flat_scene.specs.History.{calls, is_closed}
use Rattle.flat_scene.specs.Setups.{is_declared}
use Rattle.flat_base.proofs.lemmas.Tests.{and-left}
use Rattle.flat_facts.specs.declared.live_viewport.LiveViewport.{LiveViewport}
use Rattle.flat_rules.specs.Ends.{to_begin, to_finished, releases_viewport, viewport_uses}
use Rattle.flat_rules.specs.Legal.{Legal, has_token, owns_viewport, is_frame_open, all_but_last, makes_viewport}
use Rattle.flat_facts.specs.Lives.{held_of, lives_after, lives_then}
use Rattle.flat_rules.specs.Posts.{releases_seen}
use Rattle.flat_rules.specs.Stamps.{first_at, is_seen, IsStamp, happens_often}
use Rattle.flat_facts.proofs.lemmas.Earlier.{begin-earlier, begun-earlier, finished-earlier, taken-begun, taken-drop}
use Rattle.flat_facts.proofs.lemmas.LiveCounts.{held-append, lives-append}
use Rattle.flat_facts.proofs.lemmas.StampSteps.{stamp-of, stamp-taken}
use Rattle.flat_facts.proofs.lemmas.Stamped.{stamped, often-lasts}
use Rattle.flat_facts.proofs.lemmas.TokenLaw.{counted, balanced, seen-rises, seen-then, released, live_in}
use Rattle.flat_facts.proofs.lemmas.TokensBack.{came}
use Rattle.flat_facts.proofs.lemmas.ViewCalls.{split-last}
use Rattle.flat_rules.proofs.lemmas.ListLemmas.{not-some}

module _ (setup : Setup) (s : SessionNo) (p : PairNo) (owned : owns_viewport setup s p ≡ true) (declared : is_declared setup s ≡ true) where
  -- the stamp of the release of the last of so many uses
  abbrev pub IsReleaseStamp : ℕ → List Entry → Option ℕ → Type 0
  IsReleaseStamp n h stamp = IsStamp (happens_often setup (releases_viewport p) n) s h stamp

  -- an end that wasn't used can be used
  pub unused-token : (h : List Entry) → Legal setup h → is_closed s h ≡ false → length (viewport_uses p h) ≡ 0 → has_token setup p h ≡ true
  unused-token h legal opened none = (counted setup s p owned declared h legal opened).token ∙ rw none (grind (arith, nat_tests))

  -- else it can be used where a finished frame has seen the release of its last use
  pub used-token : (h : List Entry) → Legal setup h → is_closed s h ≡ false → (stamp : Option ℕ) → IsReleaseStamp (length (viewport_uses p h)) h stamp
      → has_token setup p h ≡ is_seen stamp (taken setup (to_finished h) s)
  used-token h legal opened stamp is =
      (counted setup s p owned declared h legal opened).token
      ∙ stamp-taken setup (happens_often setup (releases_viewport p) (length (viewport_uses p h))) s (to_finished h) h stamp (finished-earlier h) is

  -- ---- the tokens that the open frame brings back

  pub unused-came : (h : List Entry) → Legal setup h → is_closed s h ≡ false → length (viewport_uses p h) ≡ 0 → came setup p h s p ≡ 0
  unused-came h legal opened none =
      let seen = seen-then setup s p (to_begin h) h (begin-earlier h) in
      let all = balanced setup s p owned h legal opened in
      omega (arith, seen, all, none)

  counts : (u f b : ℕ) → f ≤ b → b ≤ u → u ≤ f + 1 → b - f ≡ cond (nat_le u b && not (nat_le u f)) 1 0
  counts u f b rises fits near = by_tests (nat_le u b) (nat_le u f) refl refl
    where
      by_tests : (x y : Bool) → nat_le u b ≡ x → nat_le u f ≡ y → b - f ≡ cond (x && not y) 1 0
      by_tests true true i j = grind (arith, nat_tests)
      by_tests true false i j = grind (arith, nat_tests)
      by_tests false true i j = absurd (grind (arith, nat_tests))
      by_tests false false i j = grind (arith, nat_tests)

  -- one comes back where that frame has seen the release, and none before it had
  pub used-came : (h : List Entry) → Legal setup h → is_closed s h ≡ false → is_frame_open h ≡ true → (stamp : Option ℕ)
      → IsReleaseStamp (length (viewport_uses p h)) h stamp
      → came setup p h s p ≡ cond (is_seen stamp (taken setup (to_begin h) s) && not (is_seen stamp (taken setup (to_finished h) s))) 1 0
  used-came h legal opened going stamp is =
      let u : ℕ = length (viewport_uses p h) in
      let b : ℕ = releases_seen setup (to_begin h) s p in
      let f : ℕ = releases_seen setup (drop 1 (to_begin h)) s p in
      let test : List Call → Bool = happens_often setup (releases_viewport p) u in
      let last : taken setup (drop 1 (to_begin h)) s ≡ taken setup (to_finished h) s = taken-begun setup s h legal going in
      let before_it : f ≤ released setup s p h = seen-rises setup s p (drop 1 (to_begin h)) (to_finished h) h (begun-earlier h) (finished-earlier h)
      (omega (arith, last)) in
      let after_it : released setup s p h ≤ f = seen-rises setup s p (to_finished h) (drop 1 (to_begin h)) h (finished-earlier h) (begun-earlier h)
      (omega (arith, last)) in
      let less : taken setup (drop 1 (to_begin h)) s ≤ taken setup (to_begin h) s = taken-drop setup s (to_begin h) in
      let rises : f ≤ b = seen-rises setup s p (drop 1 (to_begin h)) (to_begin h) h (begun-earlier h) (begin-earlier h) less in
      let seen = seen-then setup s p (to_begin h) h (begin-earlier h) in
      let all = balanced setup s p owned h legal opened in
      let near = (counted setup s p owned declared h legal opened).near in
      let now : nat_le u b ≡ is_seen stamp (taken setup (to_begin h) s) = stamp-taken setup test s (to_begin h) h stamp (begin-earlier h) is in
      let then : nat_le u f ≡ is_seen stamp (taken setup (to_finished h) s) =
      stamp-taken setup test s (drop 1 (to_begin h)) h stamp (begun-earlier h) is ∙ ap (is_seen stamp) last in
      counts u f b rises (omega (arith, seen, all)) (omega (arith, near, before_it, after_it)) ∙ rw (now, then) refl

  -- ---- a new use

  -- it isn't released yet
  pub fresh-stamp : (h : List Entry) → Legal setup h → is_closed s h ≡ false → 1 ≤ held_of p (live_in s h) → IsReleaseStamp (length (viewport_uses p h)) h None
  fresh-stamp h legal opened lives =
      let u : ℕ = length (viewport_uses p h) in
      let test : List Call → Bool = happens_often setup (releases_viewport p) u in
      let all = balanced setup s p owned h legal opened in
      let lasting = often-lasts setup (releases_viewport p) u (omega (arith, all, lives)) in
      let none : test (calls s h) ≡ false = grind (arith, nat_tests) in
      let is : first_at test s h ≡ None = not-some (first_at test s h) ((stamped test lasting s h).some ∙ none) in
      subst (IsStamp test s h) is (stamp-of test lasting s h)

-- the last call of a viewport's entry leaves it alive
last-pair : (p : PairNo) (props : ViewportProps) (lives : List LiveViewport) (call : Call) → makes_viewport p props (Some call) ≡ true
    → 1 ≤ held_of p (lives_then lives call)
last-pair p props lives (CreateViewport c q w h inset) is =
    let same : (q.0 == p.0) ≡ true = and-left (q.0 == p.0) _ (and-left _ _ (and-left _ _ is)) in
    let one : held_of p ((let live : LiveViewport = record { name = c; pair = q } in live) ∷ []) ≡ 1 = rw same refl in
    omega (arith, held-append p lives ((let live : LiveViewport = record { name = c; pair = q } in live) ∷ []), one)
last-pair p props lives _ is = cc

pub made-lives : (p : PairNo) (props : ViewportProps) (lives : List LiveViewport) (carries : List Call) (last : Option Call)
    → slice_get carries (length carries - 1) ≡ last → makes_viewport p props last ≡ true → 1 ≤ held_of p (lives_after lives carries)
made-lives p props lives carries None at is = cc
made-lives p props lives carries (Some call) at is =
    let split : carries ≡ all_but_last carries ++ call ∷ [] = split-last carries call at in
    let after : lives_after lives carries ≡ lives_then (lives_after lives (all_but_last carries)) call =
    ap (lives_after lives) split ∙ lives-append lives (all_but_last carries) (call ∷ []) in
    let H : List LiveViewport → Type 0 = λ l. 1 ≤ held_of p l in
    subst H (sym after) (last-pair p props (lives_after lives (all_but_last carries)) call is)
