-- What is kept of the watchers of a pair, entry by entry.
use Rattle.std.proofs.Common.{◌≡◌, ◌≢◌, ◌∙◌, sym, ℕ, zero, suc, ◌+◌, ◌-◌, ◌<◌, ◌≤◌, Bool, true, false, List, [], ◌∷◌, ◌++◌, length, refl, arith, ap, Some, None}
use Rattle.std.specs.Prelude.{Option, cond, not, is_some, option_map, unwrap_or, ◌&&◌, ◌==◌, nat_lt, nat_le}
use Rattle.std.proofs.lemmas.Bool.Decides.{nat_tests}
use Rattle.std.proofs.lemmas.List.{append-nil}
use Rattle.std.proofs.lemmas.Grind.{flat_map-append}
use Rattle.flat_base.specs.declared.ids.Actor.{Actor}
use Rattle.flat_base.specs.declared.ids.Actor.TheVariants.{Display, Session, Probe}
use Rattle.flat_base.specs.declared.ids.PairNo.{PairNo}
use Rattle.flat_base.specs.declared.ids.SessionNo.{SessionNo}
use Rattle.flat_scene.specs.declared.calls.Watch.{Watch}
use Rattle.flat_scene.specs.declared.journal.Entry.{Entry}
use Rattle.flat_scene.specs.declared.journal.WatcherValue.{WatcherValue}
use Rattle.flat_scene.specs.declared.setup.Setup.{Setup}
use Rattle.flat_scene.specs.History.{◌▹◌, is_session}
use Rattle.flat_watch.specs.Told.{Watching, answered_by, news, settled}
use Rattle.flat_watch.specs.HangingGets.{new_hanging_get}
use Rattle.flat_rules.specs.Ends.{viewport_uses}
use Rattle.flat_rules.specs.Legal.{Legal}
use Rattle.flat_rules.specs.Local.{pair_watched}
use Rattle.flat_rules.specs.Posts.{up_to}
use Rattle.flat_rules.specs.Watch.{Watcher, layout_of, status_of, child_of, watching, told}
use Rattle.flat_rules.proofs.lemmas.ListLemmas.{flat-each}
use Rattle.flat_gets.specs.declared.pair.FormerGet.{FormerGet}
use Rattle.flat_gets.specs.declared.pair.PairWatchers.{PairWatchers}
use Rattle.flat_gets.specs.Pairs.{AreAt, IsSameBut, IsStarted, IsUnasked, former_gets, former_of, former_with, still_waiting}
use Rattle.flat_gets.specs.Watchers.{reached}
use Rattle.flat_gets.proofs.lemmas.GetHistory.{fresh-use, next-fresh}
use Rattle.flat_states.proofs.lemmas.Lists.{flat-filtered}
use Rattle.flat_gets.proofs.WatchFacts.{unused-fresh}

-- ---- the children of earlier uses

pub formers-same : (f g : ℕ → Watching) → ((k : ℕ) → f k ≡ g k) → (n : ℕ) → former_gets f n ≡ former_gets g n
formers-same f g same n = flat-each (λ k. former_of (f k)) (λ k. former_of (g k)) (λ k. ap former_of (same k)) (up_to n)

formers-last : (f : ℕ → Watching) (n : ℕ) → former_gets f (suc n) ≡ former_gets f n ++ former_of (f (suc n))
formers-last f n = flat_map-append (λ k. former_of (f k)) (up_to n) (suc n ∷ [])
    ∙ ap (λ (l : List FormerGet). former_gets f n ++ l) (append-nil (former_of (f (suc n))))

pub formers-below : (f g : ℕ → Watching) (n : ℕ) → ((k : ℕ) → 0 < k → k ≤ n → f k ≡ g k) → former_gets f n ≡ former_gets g n
formers-below f g zero same = refl
formers-below f g (suc n) same =
    let rest : former_gets f n ≡ former_gets g n = formers-below f g n (λ k some low. same k some (omega (arith, low))) in
    let last : former_of (f (suc n)) ≡ former_of (g (suc n)) = ap former_of (same (suc n) (omega arith) (omega arith)) in
    formers-last f n ∙ rw (rest, last) refl ∙ sym (formers-last g n)

pub former-more : (f : ℕ → Watching) (n : ℕ) → (n ≡ 0 → former_of (f 0) ≡ []) → former_gets f (n - 1) ++ former_of (f n) ≡ former_gets f n
former-more f zero none = none refl
former-more f (suc n) none = let less : suc n - 1 ≡ n = omega arith in ap (λ (m : ℕ). former_gets f m ++ former_of (f (suc n))) less ∙ sym (formers-last f n)

-- ---- what a watcher's answer leaves

former-settled : (now : Option WatcherValue) (w : Watching) → former_of (settled true now w) ≡ still_waiting now (former_of w)
former-settled now w = by_waits w.waits
  where
    by_news : (get : Watch) (o : Option WatcherValue) → former_of (answered_by o (record { last = w.last; waits = Some get }))
        ≡ cond (not (is_some o)) ((record { get = get; last = w.last }) ∷ []) []
    by_news get (Some value) = refl
    by_news get None = refl

    by_waits : (o : Option Watch) → former_of (settled true now (record { last = w.last; waits = o })) ≡ still_waiting now (former_with w.last o)
    by_waits None = refl
    by_waits (Some get) = by_news get (news now w.last)

-- those of earlier uses that wait on, where each was told this
pub formers-settled : (now : Option WatcherValue) (f g : ℕ → Watching) (n : ℕ) → ((k : ℕ) → g k ≡ settled true now (f k))
    → former_gets g n ≡ still_waiting now (former_gets f n)
formers-settled now f g n told =
    flat-each (λ k. former_of (g k)) (λ k. still_waiting now (former_of (f k))) (λ k. ap former_of (told k) ∙ former-settled now (f k)) (up_to n)
    ∙ sym (flat-filtered (λ (former : FormerGet). not (is_some (news now former.last))) (λ k. former_of (f k)) (up_to n))

-- where none waits, what is told changes nothing
unheld-settled : (now : Option WatcherValue) (w : Watching) → w.waits ≡ None → settled true now w ≡ w
unheld-settled now w none = rw none refl

pub quiet-settled : (now : Option WatcherValue) (w : Watching) (b : Bool) → (b ≡ false → is_some w.waits ≡ false) → settled b now w ≡ settled true now w
quiet-settled now w true quiet = refl
quiet-settled now w false quiet = sym (unheld-settled now w (none w.waits (quiet refl)))
  where
    none : (o : Option Watch) → is_some o ≡ false → o ≡ None
    none None h = refl
    none (Some get) h = cc

-- ---- a pair

module _ (setup : Setup) where
  pub at-unasked : (p : PairNo) (w : PairWatchers) → IsUnasked w → AreAt setup [] [] p w
  at-unasked p w is = record { layout = is.layout; status = is.status; child = is.child; former = is.former }

  pub at-same : (view viewport : List Entry) (p : PairNo) (old new : PairWatchers) → IsSameBut old new → AreAt setup view viewport p old
      → AreAt setup view viewport p new
  at-same view viewport p old new same is = record {
    layout = same.layout ∙ is.layout;
    status = same.status ∙ is.status;
    child = same.child ∙ is.child;
    former = same.former ∙ is.former;
  }

  -- its watchers rest, and no viewport end of it is used
  pub at-rested : (h h' : List Entry) (p : PairNo) (w : PairWatchers) → AreAt setup h h p w
      → ((v : Watcher) → pair_watched v ≡ p → watching setup v h' ≡ watching setup v h) → length (viewport_uses p h') ≡ length (viewport_uses p h)
      → AreAt setup h' h' p w
  at-rested h h' p w is rests same =
      let then : (k : ℕ) → watching setup (child_of p k) h ≡ watching setup (child_of p k) h' = λ k. sym (rests (child_of p k) refl) in
      record {
        layout = is.layout ∙ sym (rests (layout_of p) refl);
        status = is.status ∙ sym (rests (status_of p) refl);
        child = is.child ∙ then (length (viewport_uses p h)) ∙ ap (λ (n : ℕ). watching setup (child_of p n) h') (sym same);
        former =
            is.former ∙ formers-same (λ k. watching setup (child_of p k) h) (λ k. watching setup (child_of p k) h') then (length (viewport_uses p h) - 1)
            ∙ ap (λ (n : ℕ). former_gets (λ k. watching setup (child_of p k) h') (n - 1)) (sym same);
      }

  -- its viewport end is used anew
  pub at-started : (h : List Entry) (e : Entry) → Legal setup (h ▹ e) → (p : PairNo) (old new : PairWatchers) → IsStarted old new
      → length (viewport_uses p (h ▹ e)) ≡ length (viewport_uses p h) + 1
      → ((k : ℕ) → watching setup (child_of p k) (h ▹ e) ≡ watching setup (child_of p k) h) → AreAt setup (h ▹ e) h p old → AreAt setup (h ▹ e) (h ▹ e) p new
  at-started h e legal p old new started more rests is =
      let n : ℕ = length (viewport_uses p h) in
      let f : ℕ → Watching = λ k. watching setup (child_of p k) h in
      let g : ℕ → Watching = λ k. watching setup (child_of p k) (h ▹ e) in
      let past : n < n + 1 = omega arith in
      let fresh : g (n + 1) ≡ new_hanging_get = next-fresh setup p (n + 1) h e past (fresh-use setup p (n + 1) h past) in
      let none : n ≡ 0 → former_of (f 0) ≡ [] = λ zero_uses. ap former_of (unused-fresh setup h legal.0 p) in
      record {
        layout = started.layout ∙ is.layout;
        status = started.status ∙ is.status;
        child = started.child ∙ sym fresh ∙ ap g (sym more);
        former =
            started.former ∙ ap (λ (l : List FormerGet). l ++ former_of old.child) is.former
            ∙ ap (λ (w : Watching). former_gets f (n - 1) ++ former_of w) is.child
            ∙ former-more f n none ∙ formers-same f g (λ k. sym (rests k)) n
            ∙ ap (former_gets g) (let less : n ≡ length (viewport_uses p (h ▹ e)) - 1 = omega (arith, more) in less);
      }

-- ---- up to which session an entry was told

module _ (n : ℕ) (s : SessionNo) (next : s.0 ≡ n + 1) (k h : List Entry) where
  pub reach-before : (o : Option Actor) → unwrap_or (option_map (is_session s) o) false ≡ true → reached n o k h ≡ h
  reach-before None mine = cc
  reach-before (Some Display) mine = refl
  reach-before (Some (Probe i)) mine = refl
  reach-before (Some (Session t)) mine =
      let above : nat_le t.0 n ≡ false = grind (arith, nat_tests) in
      by_test (nat_lt 0 t.0) above
    where
      by_test : (b : Bool) → nat_le t.0 n ≡ false → cond (b && nat_le t.0 n) k h ≡ h
      by_test true above = rw above refl
      by_test false above = refl

  pub reach-after : (o : Option Actor) → unwrap_or (option_map (is_session s) o) false ≡ true → reached (n + 1) o k h ≡ k
  reach-after None mine = cc
  reach-after (Some Display) mine = cc
  reach-after (Some (Probe i)) mine = cc
  reach-after (Some (Session t)) mine =
      let some : nat_lt 0 t.0 ≡ true = grind (arith, nat_tests) in
      let low : nat_le t.0 (n + 1) ≡ true = grind (arith, nat_tests) in
      rw (some, low) refl

  pub reach-other : (o : Option Actor) → unwrap_or (option_map (is_session s) o) false ≡ false → reached n o k h ≡ reached (n + 1) o k h
  reach-other None other = refl
  reach-other (Some Display) other = refl
  reach-other (Some (Probe i)) other = refl
  reach-other (Some (Session t)) other =
      let differ : t.0 ≢ s.0 = λ same. let mine : (t.0 == s.0) ≡ true = grind (arith, nat_tests) in let wrong : true ≡ false = sym mine ∙ other in cc in
      let same : nat_le t.0 n ≡ nat_le t.0 (n + 1) = by_tests (nat_le t.0 n) (nat_le t.0 (n + 1)) refl refl differ in
      ap (λ (b : Bool). cond (nat_lt 0 t.0 && b) k h) same
    where
      by_tests : (a b : Bool) → nat_le t.0 n ≡ a → nat_le t.0 (n + 1) ≡ b → t.0 ≢ s.0 → a ≡ b
      by_tests true true i j differ = refl
      by_tests false false i j differ = refl
      by_tests true false i j differ = absurd (grind (arith, nat_tests))
      by_tests false true i j differ = absurd (differ (grind (arith, nat_tests)))
