-- What is kept of a pair after all answers to a session stands for what its watchers are then.
use Rattle.std.proofs.Common.{◌≡◌, ◌∙◌, sym, ℕ, ◌+◌, ◌-◌, ◌<◌, Bool, true, false, List, [], length, refl, ap, slice_index_or}
use Rattle.std.specs.Prelude.{Option, cond, is_some, nat_lt}
use Rattle.flat_base.proofs.lemmas.Tests.{none-left, none-right}
use Rattle.flat_base.specs.declared.ids.Actor.{Actor}
use Rattle.flat_base.specs.declared.ids.PairNo.{PairNo}
use Rattle.flat_base.specs.declared.ids.SessionNo.{SessionNo}
use Rattle.flat_scene.specs.declared.journal.Entry.{Entry}
use Rattle.flat_scene.specs.declared.setup.Setup.{Setup}
use Rattle.flat_scene.specs.History.{is_closed}
use Rattle.flat_scene.specs.declared.journal.WatcherValue.{WatcherValue}
use Rattle.flat_watch.specs.Told.{Watching}
use Rattle.flat_rules.specs.Ends.{view_owner, viewport_owner, viewport_uses}
use Rattle.flat_rules.specs.Legal.{Legal, owns_view}
use Rattle.flat_rules.specs.Watch.{Watcher, layout_of, status_of, child_of, listener, told, watching}
use Rattle.flat_facts.specs.Begins.{finished}
use Rattle.flat_facts.specs.Pairs.{pair}
use Rattle.flat_gets.specs.declared.pair.FormerGet.{FormerGet}
use Rattle.flat_gets.specs.declared.pair.PairWatchers.{PairWatchers}
use Rattle.flat_gets.specs.Gets.{hears}
use Rattle.flat_gets.specs.Listed.{AreListed, KeptGets, is_listed, view_waits, viewport_waits}
use Rattle.flat_gets.specs.Pairs.{AreAt, former_gets, still_waiting}
use Rattle.flat_gets.specs.Watchers.{IsToldAll, reached}
use Rattle.flat_gets.proofs.FinishSteps.{reached-uses, same-uses, tell-formers, tell-one}
use Rattle.flat_gets.proofs.lemmas.GetHistory.{owner-heard, owner-hears}
use Rattle.flat_gets.proofs.PartSteps.{settled-none}
use Rattle.flat_gets.proofs.SettledEvents.{no-formers}
use Rattle.flat_gets.proofs.WatchLists.{view-listed, view-unlisted, viewport-listed, viewport-unlisted, waits-known}

module _ (setup : Setup) (h : List Entry) (line : ℕ) (legal : Legal setup (finished h line)) (n : ℕ) (s : SessionNo) (next : s.0 ≡ n + 1)
    (opened : is_closed s h ≡ false) (pairs : List PairWatchers) (from : KeptGets) (lists : AreListed setup s pairs from) where
  abbrev k : List Entry
  k = finished h line

  module _ (i : ℕ) (d : PairWatchers) (below : i < length pairs) (new : PairWatchers) where
    abbrev p : PairNo
    p = pair i

    abbrev old : PairWatchers
    old = slice_index_or pairs i d

    -- whether the session owns the ends of the pair
    not-owned : (b : Bool) → (b ≡ true → false ≡ true) → b ≡ false
    not-owned false not = refl
    not-owned true not = let wrong : false ≡ true = not refl in cc

    owns : hears setup s (layout_of p) ≡ true → owns_view setup s p ≡ true
    owns heard = owner-heard s (view_owner setup p) heard

    foreign : hears setup s (layout_of p) ≡ false → owns_view setup s p ≡ false
    foreign other = not-owned (owns_view setup s p) (λ mine. sym other ∙ owner-hears s (view_owner setup p) mine)

    -- where a pair isn't listed no get of it waits
    view-quiet : hears setup s (layout_of p) ≡ true → is_listed i from.views ≡ false → view_waits old ≡ false
    view-quiet heard other = sym (waits-known view_waits pairs p d below)
        ∙ lists.views.each p (owns heard) (sym (view-listed setup s pairs from.views lists.views p (owns heard)) ∙ other)

    viewport-quiet : hears setup s (child_of p 0) ≡ true → is_listed i from.viewports ≡ false → viewport_waits old ≡ false
    viewport-quiet heard other = sym (waits-known viewport_waits pairs p d below)
        ∙ lists.viewports.each p heard (sym (viewport-listed setup s pairs from.viewports lists.viewports p heard) ∙ other)

    pub settled-at : IsToldAll (told setup k) from p old new
        → AreAt setup (reached n (listener setup (layout_of p)) k h) (reached n (viewport_owner setup p) k h) p old
        → AreAt setup (reached (n + 1) (listener setup (layout_of p)) k h) (reached (n + 1) (viewport_owner setup p) k h) p new
    settled-at all is =
        let o : Option Actor = viewport_owner setup p in
        let u : ℕ = length (viewport_uses p h) in
        let was : length (viewport_uses p (reached n o k h)) ≡ u = reached-uses setup n o k h p (same-uses setup h line legal p) in
        let now : u ≡ length (viewport_uses p (reached (n + 1) o k h)) = sym (reached-uses setup (n + 1) o k h p (same-uses setup h line legal p)) in
        record {
          layout = tell-one setup h line legal n s next opened (layout_of p) (is_listed i from.views) old.layout new.layout all.layout is.layout
              (λ heard other. none-left (is_some old.layout.waits) (is_some old.status.waits) (view-quiet heard other))
              (λ other. view-unlisted setup s pairs from.views lists.views p (foreign other));
          status = tell-one setup h line legal n s next opened (status_of p) (is_listed i from.views) old.status new.status all.status is.status
              (λ heard other. none-right (is_some old.layout.waits) (is_some old.status.waits) (view-quiet heard other))
              (λ other. view-unlisted setup s pairs from.views lists.views p (foreign other));
          child = tell-one setup h line legal n s next opened (child_of p u) (is_listed i from.viewports) old.child new.child all.child
              (is.child ∙ ap (λ (m : ℕ). watching setup (child_of p m) (reached n o k h)) was)
              (λ heard other. none-left (is_some old.child.waits) (nat_lt 0 (length old.former.items)) (viewport-quiet heard other))
              (λ other. viewport-unlisted setup s pairs from.viewports lists.viewports p other)
              ∙ ap (λ (m : ℕ). watching setup (child_of p m) (reached (n + 1) o k h)) now;
          former = tell-formers setup h line legal n s next opened p (is_listed i from.viewports) (u - 1) old.former.items new.former.items all.former
              (is.former ∙ ap (λ (m : ℕ). former_gets (λ j. watching setup (child_of p j) (reached n o k h)) (m - 1)) was)
              (λ heard other. no-formers old.former.items (none-right (is_some old.child.waits) (nat_lt 0 (length old.former.items))
              (viewport-quiet heard other))) (λ other. viewport-unlisted setup s pairs from.viewports lists.viewports p other)
              ∙ ap (λ (m : ℕ). former_gets (λ j. watching setup (child_of p j) (reached (n + 1) o k h)) (m - 1)) now;
        }

-- ---- where nothing waited nothing does

module _ (now : Watcher → Option WatcherValue) (from : KeptGets) (p : PairNo) (old new : PairWatchers) (all : IsToldAll now from p old new) where
  pub settled-views : view_waits old ≡ false → view_waits new ≡ false
  settled-views none =
      let layout : is_some new.layout.waits ≡ false = ap (λ (w : Watching). is_some w.waits) all.layout
      ∙ settled-none (is_listed p.0 from.views) (now (layout_of p)) old.layout (none-left (is_some old.layout.waits) (is_some old.status.waits) none) in
      let status : is_some new.status.waits ≡ false = ap (λ (w : Watching). is_some w.waits) all.status
      ∙ settled-none (is_listed p.0 from.views) (now (status_of p)) old.status (none-right (is_some old.layout.waits) (is_some old.status.waits) none) in
      rw (layout, status) refl

  pub settled-viewports : viewport_waits old ≡ false → viewport_waits new ≡ false
  settled-viewports none =
      let child : is_some new.child.waits ≡ false = ap (λ (w : Watching). is_some w.waits) all.child
      ∙ settled-none (is_listed p.0 from.viewports) (now (child_of p 0)) old.child
      (none-left (is_some old.child.waits) (nat_lt 0 (length old.former.items)) none) in
      let empty : old.former.items ≡ [] = no-formers old.former.items (none-right (is_some old.child.waits) (nat_lt 0 (length old.former.items)) none) in
      let former : new.former.items ≡ [] = all.former ∙ ap
      (λ (l : List FormerGet). cond (is_listed p.0 from.viewports) (still_waiting (now (child_of p 0)) l) l) empty ∙ same (is_listed p.0 from.viewports) in
      rw (child, former) refl
    where
      same : (b : Bool) → cond b (still_waiting (now (child_of p 0)) []) [] ≡ []
      same true = refl
      same false = refl
