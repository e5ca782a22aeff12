-- What is kept of all gets as a frame ends: its sessions are told one after another.
use Rattle.std.proofs.Common.{◌≡◌, ◌∙◌, sym, ℕ, ◌+◌, ◌-◌, Bool, true, false, List, [], length, refl, arith, ap, Some, None}
use Rattle.std.specs.Prelude.{Option, cond, is_some, option_map, unwrap_or, ◌&&◌, ◌==◌, nat_lt, nat_le}
use Rattle.std.proofs.lemmas.Bool.Decides.{nat_tests}
use Rattle.flat_base.specs.declared.ids.Actor.{Actor}
use Rattle.flat_base.specs.declared.ids.Actor.TheVariants.{Display, Session, Probe}
use Rattle.flat_base.specs.declared.ids.PairNo.{PairNo}
use Rattle.flat_base.specs.declared.ids.SessionNo.{SessionNo}
use Rattle.flat_scene.specs.declared.journal.Entry.{Entry}
use Rattle.flat_scene.specs.declared.journal.WatcherValue.{WatcherValue}
use Rattle.flat_scene.specs.declared.setup.Setup.{Setup}
use Rattle.flat_scene.specs.History.{is_closed, is_session}
use Rattle.flat_watch.specs.Told.{Watching, settled}
use Rattle.flat_rules.specs.Ends.{viewport_owner, viewport_uses}
use Rattle.flat_rules.specs.Legal.{Legal}
use Rattle.flat_rules.specs.Watch.{Watcher, layout_of, status_of, child_of, asked, is_open, listener, told, watching}
use Rattle.flat_rules.proofs.lemmas.Watchers.{settled-now, unheld-stays}
use Rattle.flat_facts.specs.Begins.{finish_entry, finished}
use Rattle.flat_gets.specs.declared.pair.FormerGet.{FormerGet}
use Rattle.flat_gets.specs.declared.pair.PairWatchers.{PairWatchers}
use Rattle.flat_gets.specs.Gets.{hears}
use Rattle.flat_gets.specs.Pairs.{AreAt, former_gets, still_waiting}
use Rattle.flat_gets.specs.Watchers.{reached}
use Rattle.flat_facts.proofs.lemmas.ViewHistory.{same-session}
use Rattle.flat_facts.specs.Told.{TellsTheSame}
use Rattle.flat_rules.proofs.lemmas.Still.{rests}
use Rattle.flat_gets.proofs.lemmas.GetHistory.{hears-open}
use Rattle.flat_gets.proofs.GetSteps.{idle-kind}
use Rattle.flat_gets.proofs.WatchFacts.{heard-shut, no-use, rests-shut, undeclared-waits}
use Rattle.flat_gets.proofs.WatchedPairs.{formers-same, formers-settled, quiet-settled, reach-after, reach-before, reach-other}

-- ---- of other histories

-- what is kept of a pair stands for other histories in which its watchers are the same
pub at-moved : (setup : Setup) (a b a' b' : List Entry) (p : PairNo) (x : PairWatchers) → watching setup (layout_of p) a ≡ watching setup (layout_of p) a'
    → watching setup (status_of p) a ≡ watching setup (status_of p) a'
    → ((j : ℕ) → watching setup (child_of p j) b ≡ watching setup (child_of p j) b') → length (viewport_uses p b) ≡ length (viewport_uses p b')
    → AreAt setup a b p x → AreAt setup a' b' p x
at-moved setup a b a' b' p x layout status child uses is = record {
  layout = is.layout ∙ layout;
  status = is.status ∙ status;
  child = is.child ∙ child (length (viewport_uses p b)) ∙ ap (λ (n : ℕ). watching setup (child_of p n) b') uses;
  former =
      is.former ∙ formers-same (λ j. watching setup (child_of p j) b) (λ j. watching setup (child_of p j) b') child (length (viewport_uses p b) - 1)
      ∙ ap (λ (n : ℕ). former_gets (λ j. watching setup (child_of p j) b') (n - 1)) uses;
}

pub reached-none : (o : Option Actor) (k h : List Entry) → reached 0 o k h ≡ h
reached-none None k h = refl
reached-none (Some Display) k h = refl
reached-none (Some (Probe n)) k h = refl
reached-none (Some (Session s)) k h = by_test (nat_lt 0 s.0) (nat_le s.0 0) refl refl
  where
    by_test : (b c : Bool) → nat_lt 0 s.0 ≡ b → nat_le s.0 0 ≡ c → cond (b && c) k h ≡ h
    by_test true true some few = absurd (grind (arith, nat_tests))
    by_test true false some few = refl
    by_test false c some few = refl

-- the last use is as it was, whoever was told
pub reached-uses : (setup : Setup) (n : ℕ) (o : Option Actor) (k h : List Entry) (p : PairNo) → length (viewport_uses p k) ≡ length (viewport_uses p h)
    → length (viewport_uses p (reached n o k h)) ≡ length (viewport_uses p h)
reached-uses setup n None k h p same = refl
reached-uses setup n (Some Display) k h p same = refl
reached-uses setup n (Some (Probe m)) k h p same = refl
reached-uses setup n (Some (Session s)) k h p same = by_test (nat_lt 0 s.0 && nat_le s.0 n)
  where
    by_test : (b : Bool) → length (viewport_uses p (cond b k h)) ≡ length (viewport_uses p h)
    by_test true = same
    by_test false = refl

module _ (setup : Setup) (h : List Entry) (line : ℕ) (legal : Legal setup (finished h line)) where
  abbrev pub k : List Entry
  k = finished h line

  idle : (w : Watcher) → asked setup w h (finish_entry line) ≡ None
  idle w = idle-kind setup h (finish_entry line) refl w

  pub same-uses : (p : PairNo) → length (viewport_uses p k) ≡ length (viewport_uses p h)
  same-uses p = no-use setup h (finish_entry line) legal refl p

  -- a watcher that is told nothing anew stays as it is
  pub rests-told : (s : SessionNo) → TellsTheSame setup h k s → (w : Watcher) → hears setup s w ≡ true → watching setup w k ≡ watching setup w h
  rests-told s same w heard = rests setup w h (finish_entry line) (same w (heard-by s (listener setup w) heard)) (idle w)
    where
      heard-by : (s : SessionNo) (o : Option Actor) → unwrap_or (option_map (is_session s) o) false ≡ true → o ≡ Some (Session s)
      heard-by s None is = let wrong : false ≡ true = is in cc
      heard-by s (Some who) is = ap (λ (a : Actor). Some a) (same-session s who is)

  -- ---- all were told

  reach-last : (w : Watcher) (o : Option Actor) → listener setup w ≡ o → watching setup w (reached setup.sessions o k h) ≡ watching setup w k
  reach-last w None is = sym (rests-shut setup h (finish_entry line) w (ap (λ (x : Option Actor). is_open setup x k) is) (idle w))
  reach-last w (Some Display) is = sym (rests-shut setup h (finish_entry line) w (ap (λ (x : Option Actor). is_open setup x k) is) (idle w))
  reach-last w (Some (Probe n)) is = sym (rests-shut setup h (finish_entry line) w (ap (λ (x : Option Actor). is_open setup x k) is) (idle w))
  reach-last w (Some (Session s)) is = by_declared (nat_lt 0 s.0 && nat_le s.0 setup.sessions) refl
    where
      itself : (s.0 == s.0) ≡ true
      itself = grind (arith, nat_tests)

      by_declared : (b : Bool) → (nat_lt 0 s.0 && nat_le s.0 setup.sessions) ≡ b → watching setup w (cond b k h) ≡ watching setup w k
      by_declared true within = refl
      by_declared false out = sym (unheld-stays setup w h (finish_entry line)
          (undeclared-waits setup h legal.0 s out w (ap (λ (x : Option Actor). unwrap_or (option_map (is_session s) x) false) is ∙ itself)) (idle w))

  pub at-last : (p : PairNo) (x : PairWatchers) → AreAt setup (reached setup.sessions (listener setup (layout_of p)) k h)
      (reached setup.sessions (viewport_owner setup p) k h) p x → AreAt setup k k p x
  at-last p x is =
      at-moved setup (reached setup.sessions (listener setup (layout_of p)) k h) (reached setup.sessions (viewport_owner setup p) k h) k k p x
      (reach-last (layout_of p) (listener setup (layout_of p)) refl) (reach-last (status_of p) (listener setup (status_of p)) refl)
      (λ j. reach-last (child_of p j) (listener setup (child_of p j)) refl)
      (reached-uses setup setup.sessions (viewport_owner setup p) k h p (same-uses p) ∙ sym (same-uses p)) is

  -- ---- the next one

  module _ (n : ℕ) (s : SessionNo) (next : s.0 ≡ n + 1) where
    -- it is closed
    pass-one : is_closed s h ≡ true → (w : Watcher) → watching setup w (reached n (listener setup w) k h)
        ≡ watching setup w (reached (n + 1) (listener setup w) k h)
    pass-one closed w = by_heard (hears setup s w) refl
      where
        by_heard : (b : Bool) → hears setup s w ≡ b → watching setup w (reached n (listener setup w) k h)
            ≡ watching setup w (reached (n + 1) (listener setup w) k h)
        by_heard true heard =
            ap (watching setup w) (reach-before n s next k h (listener setup w) heard)
            ∙ sym (rests-shut setup h (finish_entry line) w (heard-shut (listener setup w) s k heard closed setup) (idle w))
            ∙ ap (watching setup w) (sym (reach-after n s next k h (listener setup w) heard))
        by_heard false other = ap (watching setup w) (reach-other n s next k h (listener setup w) other)

    pub at-passed : is_closed s h ≡ true → (p : PairNo) (x : PairWatchers)
        → AreAt setup (reached n (listener setup (layout_of p)) k h) (reached n (viewport_owner setup p) k h) p x
        → AreAt setup (reached (n + 1) (listener setup (layout_of p)) k h) (reached (n + 1) (viewport_owner setup p) k h) p x
    at-passed closed p x is =
        at-moved setup (reached n (listener setup (layout_of p)) k h) (reached n (viewport_owner setup p) k h)
        (reached (n + 1) (listener setup (layout_of p)) k h) (reached (n + 1) (viewport_owner setup p) k h) p x
        (pass-one closed (layout_of p)) (pass-one closed (status_of p)) (λ j. pass-one closed (child_of p j))
        (reached-uses setup n (viewport_owner setup p) k h p (same-uses p) ∙ sym (reached-uses setup (n + 1) (viewport_owner setup p) k h p (same-uses p))) is

    -- or is told nothing anew
    keep-one : TellsTheSame setup h k s → (w : Watcher) → watching setup w (reached n (listener setup w) k h)
        ≡ watching setup w (reached (n + 1) (listener setup w) k h)
    keep-one same w = by_heard (hears setup s w) refl
      where
        by_heard : (b : Bool) → hears setup s w ≡ b → watching setup w (reached n (listener setup w) k h)
            ≡ watching setup w (reached (n + 1) (listener setup w) k h)
        by_heard true heard = ap (watching setup w) (reach-before n s next k h (listener setup w) heard) ∙ sym (rests-told s same w heard)
            ∙ ap (watching setup w) (sym (reach-after n s next k h (listener setup w) heard))
        by_heard false other = ap (watching setup w) (reach-other n s next k h (listener setup w) other)

    pub at-kept : TellsTheSame setup h k s → (p : PairNo) (x : PairWatchers)
        → AreAt setup (reached n (listener setup (layout_of p)) k h) (reached n (viewport_owner setup p) k h) p x
        → AreAt setup (reached (n + 1) (listener setup (layout_of p)) k h) (reached (n + 1) (viewport_owner setup p) k h) p x
    at-kept same p x is =
        at-moved setup (reached n (listener setup (layout_of p)) k h) (reached n (viewport_owner setup p) k h)
        (reached (n + 1) (listener setup (layout_of p)) k h) (reached (n + 1) (viewport_owner setup p) k h) p x
        (keep-one same (layout_of p)) (keep-one same (status_of p)) (λ j. keep-one same (child_of p j))
        (reached-uses setup n (viewport_owner setup p) k h p (same-uses p) ∙ sym (reached-uses setup (n + 1) (viewport_owner setup p) k h p (same-uses p))) is

    -- or open, and is told
    module _ (opened : is_closed s h ≡ false) where
      pub settles : (w : Watcher) → hears setup s w ≡ true → watching setup w k ≡ settled true (told setup k w) (watching setup w h)
      settles w heard =
          settled-now setup w h (finish_entry line) (idle w)
          ∙ ap (λ (b : Bool). settled b (told setup k w) (watching setup w h)) (hears-open setup s w k heard opened)

      pub tell-one : (w : Watcher) (b : Bool) (old new : Watching) → new ≡ settled b (told setup k w) old
          → old ≡ watching setup w (reached n (listener setup w) k h) → (hears setup s w ≡ true → b ≡ false → is_some old.waits ≡ false)
          → (hears setup s w ≡ false → b ≡ false) → new ≡ watching setup w (reached (n + 1) (listener setup w) k h)
      tell-one w b old new is was quiet foreign = by_heard (hears setup s w) refl
        where
          by_heard : (c : Bool) → hears setup s w ≡ c → new ≡ watching setup w (reached (n + 1) (listener setup w) k h)
          by_heard true heard =
              is ∙ quiet-settled (told setup k w) old b (quiet heard)
              ∙ ap (settled true (told setup k w)) (was ∙ ap (watching setup w) (reach-before n s next k h (listener setup w) heard))
              ∙ sym (settles w heard)
              ∙ ap (watching setup w) (sym (reach-after n s next k h (listener setup w) heard))
          by_heard false other = is ∙ ap (λ (c : Bool). settled c (told setup k w) old) (foreign other) ∙ was
              ∙ ap (watching setup w) (reach-other n s next k h (listener setup w) other)

      -- the gets of earlier uses of a pair's viewport end
      pub tell-formers : (p : PairNo) (b : Bool) (m : ℕ) (old new : List FormerGet) → new ≡ cond b (still_waiting (told setup k (child_of p 0)) old) old
          → old ≡ former_gets (λ j. watching setup (child_of p j) (reached n (viewport_owner setup p) k h)) m
          → (hears setup s (child_of p 0) ≡ true → b ≡ false → old ≡ []) → (hears setup s (child_of p 0) ≡ false → b ≡ false)
          → new ≡ former_gets (λ j. watching setup (child_of p j) (reached (n + 1) (viewport_owner setup p) k h)) m
      tell-formers p b m old new is was quiet foreign = by_heard (hears setup s (child_of p 0)) refl
        where
          now : Option WatcherValue
          now = told setup k (child_of p 0)

          o : Option Actor
          o = viewport_owner setup p

          both : (c : Bool) → b ≡ c → hears setup s (child_of p 0) ≡ true → cond c (still_waiting now old) old ≡ still_waiting now old
          both true b_is heard = refl
          both false b_is heard = rw (quiet heard b_is) refl

          by_heard : (c : Bool) → hears setup s (child_of p 0) ≡ c → new ≡ former_gets (λ j. watching setup (child_of p j) (reached (n + 1) o k h)) m
          by_heard true heard =
              is ∙ both b refl heard ∙ ap (still_waiting now) (was
              ∙ ap (λ (l : List Entry). former_gets (λ j. watching setup (child_of p j) l) m) (reach-before n s next k h o heard))
              ∙ sym (formers-settled now (λ j. watching setup (child_of p j) h) (λ j. watching setup (child_of p j) k) m (λ j. settles (child_of p j) heard))
              ∙ ap (λ (l : List Entry). former_gets (λ j. watching setup (child_of p j) l) m) (sym (reach-after n s next k h o heard))
          by_heard false other = is ∙ ap (λ (c : Bool). cond c (still_waiting now old) old) (foreign other) ∙ was
              ∙ ap (λ (l : List Entry). former_gets (λ j. watching setup (child_of p j) l) m) (reach-other n s next k h o other)
