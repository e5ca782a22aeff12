-- All gets of a session that wait are answered: layouts, statuses, children.
use Rattle.std.proofs.Common.{◌≡◌, ◌∙◌, sym, ℕ, ◌+◌, ◌<◌, ◌≤◌, Bool, true, false, List, ◌++◌, length, map, refl, arith, ap, slice_index_or, inl, inr, ◌⊎◌}
use Rattle.std.proofs.Common.{length-append, Some, None}
use Rattle.std.specs.Prelude.{Option, cond, slice_get, ◌&&◌}
use Rattle.std.proofs.lemmas.List.{get_or_past}
use Rattle.std.proofs.lemmas.Option.{slice_get_cases}
use Rattle.flat_base.specs.declared.ids.PairNo.{PairNo}
use Rattle.flat_base.specs.declared.ids.SessionNo.{SessionNo}
use Rattle.flat_scene.specs.declared.journal.Event.{Event}
use Rattle.flat_scene.specs.declared.journal.PostedEvent.{PostedEvent}
use Rattle.flat_scene.specs.declared.journal.WatcherValue.{WatcherValue}
use Rattle.flat_facts.specs.Begins.{post_of}
use Rattle.flat_rules.specs.Posts.{event_of}
use Rattle.flat_rules.specs.Watch.{Watcher}
use Rattle.flat_rules.proofs.lemmas.ListLemmas.{flat-each}
use Rattle.flat_watch.specs.Told.{Watching, answer, settled}
use Rattle.flat_gets.specs.declared.pair.FormerGet.{FormerGet}
use Rattle.flat_gets.specs.declared.pair.PairWatchers.{PairWatchers}
use Rattle.flat_gets.specs.declared.pair.WatchedPart.{WatchedPart}
use Rattle.flat_gets.specs.declared.pair.WatchedPart.TheVariants as parts
use Rattle.flat_gets.specs.Listed.{KeptGets, is_listed}
use Rattle.flat_gets.specs.Pairs.{former_events, is_child, is_layout, is_status, part_events, still_waiting, watcher_at}
use Rattle.flat_gets.specs.Watchers.{IsToldAll, TellsEach, all_answers, part_answers}
use Rattle.flat_gets.proofs.PartSteps.{two-posted}

-- ---- a part, of any pair

-- What is kept of a pair, where it is listed and where it isn't.
record IsToldIf (listed : Bool) (part : WatchedPart) (now : Option WatcherValue) (old new : PairWatchers) : Type 0 where
  layout : new.layout ≡ settled (is_layout part && listed) now old.layout
  status : new.status ≡ settled (is_status part && listed) now old.status
  child : new.child ≡ settled (is_child part && listed) now old.child
  former : new.former.items ≡ cond (is_child part && listed) (still_waiting now old.former.items) old.former.items

module _ (part : WatchedPart) (now : PairNo → Option WatcherValue) (place : ℕ) (s : SessionNo) (listed : List PairNo) (old new : List PairWatchers)
    (posts after : List PostedEvent)
    (count : ℕ) (tells : TellsEach part now place s listed old new posts after count) where
  and-true : (b : Bool) → (b && true) ≡ b
  and-true true = refl
  and-true false = refl

  and-false : (b : Bool) → (b && false) ≡ false
  and-false true = refl
  and-false false = refl

  each-told : (p : PairNo) (d : PairWatchers) → p.0 < length old
      → IsToldIf (is_listed p.0 listed) part (now p) (slice_index_or old p.0 d) (slice_index_or new p.0 d)
  each-told p d below = by_listed (is_listed p.0 listed) refl
    where
      by_listed : (b : Bool) → is_listed p.0 listed ≡ b → IsToldIf b part (now p) (slice_index_or old p.0 d) (slice_index_or new p.0 d)
      by_listed true is =
          let told = tells.told p d below is in
          record {
            layout = told.layout ∙ ap (λ (b : Bool). settled b (now p) (slice_index_or old p.0 d).layout) (sym (and-true (is_layout part)));
            status = told.status ∙ ap (λ (b : Bool). settled b (now p) (slice_index_or old p.0 d).status) (sym (and-true (is_status part)));
            child = told.child ∙ ap (λ (b : Bool). settled b (now p) (slice_index_or old p.0 d).child) (sym (and-true (is_child part)));
            former = told.former ∙ ap (λ (b : Bool). cond b (still_waiting (now p) (slice_index_or old p.0 d).former.items)
                (slice_index_or old p.0 d).former.items) (sym (and-true (is_child part)));
          }
      by_listed false is =
          let same : slice_index_or new p.0 d ≡ slice_index_or old p.0 d = tells.others p.0 d below is in
          record {
            layout = ap (λ (w : PairWatchers). w.layout) same
                ∙ ap (λ (b : Bool). settled b (now p) (slice_index_or old p.0 d).layout) (sym (and-false (is_layout part)));
            status = ap (λ (w : PairWatchers). w.status) same
                ∙ ap (λ (b : Bool). settled b (now p) (slice_index_or old p.0 d).status) (sym (and-false (is_status part)));
            child = ap (λ (w : PairWatchers). w.child) same ∙ ap (λ (b : Bool). settled b (now p) (slice_index_or old p.0 d).child)
                (sym (and-false (is_child part)));
            former = ap (λ (w : PairWatchers). w.former.items) same
                ∙ ap (λ (b : Bool). cond b (still_waiting (now p) (slice_index_or old p.0 d).former.items) (slice_index_or old p.0 d).former.items)
                (sym (and-false (is_child part)));
          }

  -- what another part is asked of is kept, also at a pair that isn't known
  kept : {A : Type 0} (field : PairWatchers → A) → ((p : PairNo) (d : PairWatchers) → p.0 < length old
      → field (slice_index_or new p.0 d) ≡ field (slice_index_or old p.0 d)) → (p : PairNo) (d : PairWatchers)
      → field (slice_index_or new p.0 d) ≡ field (slice_index_or old p.0 d)
  kept field each p d = by_place (slice_get_cases old p.0).1
    where
      by_place : ((x : PairWatchers) × (p.0 < length old) × (slice_get old p.0 ≡ Some x) × (slice_index_or old p.0 x ≡ x))
          ⊎ ((length old ≤ p.0) × (slice_get old p.0 ≡ None)) → field (slice_index_or new p.0 d) ≡ field (slice_index_or old p.0 d)
      by_place (inl there) = each p d there.1
      by_place (inr past) = ap field (get_or_past new p.0 d (omega (arith, past.0, tells.length_is)) ∙ sym (get_or_past old p.0 d past.0))

-- ---- all parts

module _ (now : Watcher → Option WatcherValue) (place : ℕ) (s : SessionNo) (from : KeptGets) (p0 p1 p2 p3 : List PairWatchers) (q0 q1 q2 q3 : List PostedEvent)
    (a b c : ℕ)
    (layouts : TellsEach parts.Layout (λ p. now (watcher_at parts.Layout p 0)) place s from.views p0 p1 q0 q1 a)
    (statuses : TellsEach parts.Status (λ p. now (watcher_at parts.Status p 0)) place s from.views p1 p2 q1 q2 b)
    (children : TellsEach parts.Child (λ p. now (watcher_at parts.Child p 0)) place s from.viewports p2 p3 q2 q3 c) where
  first : (p : PairNo) (d : PairWatchers) → p.0 < length p0
      → IsToldIf (is_listed p.0 from.views) parts.Layout (now (watcher_at parts.Layout p 0)) (slice_index_or p0 p.0 d) (slice_index_or p1 p.0 d)
  first p d below = each-told parts.Layout (λ p. now (watcher_at parts.Layout p 0)) place s from.views p0 p1 q0 q1 a layouts p d below

  second : (p : PairNo) (d : PairWatchers) → p.0 < length p0
      → IsToldIf (is_listed p.0 from.views) parts.Status (now (watcher_at parts.Status p 0)) (slice_index_or p1 p.0 d) (slice_index_or p2 p.0 d)
  second p d below = each-told parts.Status (λ p. now (watcher_at parts.Status p 0)) place s from.views p1 p2 q1 q2 b statuses p d
      (omega (arith, below, layouts.length_is))

  third : (p : PairNo) (d : PairWatchers) → p.0 < length p0
      → IsToldIf (is_listed p.0 from.viewports) parts.Child (now (watcher_at parts.Child p 0)) (slice_index_or p2 p.0 d) (slice_index_or p3 p.0 d)
  third p d below = each-told parts.Child (λ p. now (watcher_at parts.Child p 0)) place s from.viewports p2 p3 q2 q3 c children p d
      (omega (arith, below, layouts.length_is, statuses.length_is))

  pub settled-length : length p3 ≡ length p0
  settled-length = children.length_is ∙ statuses.length_is ∙ layouts.length_is

  pub settled-each : (p : PairNo) (d : PairWatchers) → p.0 < length p0 → IsToldAll now from p (slice_index_or p0 p.0 d) (slice_index_or p3 p.0 d)
  settled-each p d below =
      let x = first p d below in
      let y = second p d below in
      let z = third p d below in
      record {
        layout = z.layout ∙ y.layout ∙ x.layout;
        status = z.status ∙ y.status ∙ ap (settled (is_listed p.0 from.views) (now (watcher_at parts.Status p 0))) x.status;
        child = z.child ∙ ap (settled (is_listed p.0 from.viewports) (now (watcher_at parts.Child p 0))) (y.child ∙ x.child);
        former = z.former ∙ ap (λ (l : List FormerGet). cond (is_listed p.0 from.viewports) (still_waiting (now (watcher_at parts.Child p 0)) l) l)
            (y.former ∙ x.former);
      }

  -- the statuses are answered as if no layout had been, and the children as if none of both
  status-same : (d : PairWatchers) → part_answers parts.Status (λ p. now (watcher_at parts.Status p 0)) p1 d from.views
      ≡ part_answers parts.Status (λ p. now (watcher_at parts.Status p 0)) p0 d from.views
  status-same d =
      flat-each (λ p. part_events parts.Status p (now (watcher_at parts.Status p 0)) (slice_index_or p1 p.0 d))
      (λ p. part_events parts.Status p (now (watcher_at parts.Status p 0)) (slice_index_or p0 p.0 d)) (λ p.
      ap (λ (w : Watching). event_of p w.waits (answer (now (watcher_at parts.Status p 0)) w))
      (kept parts.Layout (λ p. now (watcher_at parts.Layout p 0)) place s from.views p0 p1 q0 q1 a layouts (λ (w : PairWatchers). w.status)
      (λ p d below. (first p d below).status) p d)) from.views

  child-same : (d : PairWatchers) → part_answers parts.Child (λ p. now (watcher_at parts.Child p 0)) p2 d from.viewports
      ≡ part_answers parts.Child (λ p. now (watcher_at parts.Child p 0)) p0 d from.viewports
  child-same d =
      flat-each (λ p. part_events parts.Child p (now (watcher_at parts.Child p 0)) (slice_index_or p2 p.0 d))
      (λ p. part_events parts.Child p (now (watcher_at parts.Child p 0)) (slice_index_or p0 p.0 d)) (λ p.
      let one : (slice_index_or p1 p.0 d).child ≡ (slice_index_or p0 p.0 d).child =
      kept parts.Layout (λ p. now (watcher_at parts.Layout p 0)) place s from.views p0 p1 q0 q1 a layouts (λ (w : PairWatchers). w.child)
      (λ p d below. (first p d below).child) p d in
      let two : (slice_index_or p2 p.0 d).child ≡ (slice_index_or p1 p.0 d).child =
      kept parts.Status (λ p. now (watcher_at parts.Status p 0)) place s from.views p1 p2 q1 q2 b statuses (λ (w : PairWatchers). w.child)
      (λ p d below. (second p d (omega (arith, below, layouts.length_is))).child) p d in
      let three : (slice_index_or p1 p.0 d).former.items ≡ (slice_index_or p0 p.0 d).former.items =
      kept parts.Layout (λ p. now (watcher_at parts.Layout p 0)) place s from.views p0 p1 q0 q1 a layouts (λ (w : PairWatchers). w.former.items)
      (λ p d below. (first p d below).former) p d in
      let four : (slice_index_or p2 p.0 d).former.items ≡ (slice_index_or p1 p.0 d).former.items =
      kept parts.Status (λ p. now (watcher_at parts.Status p 0)) place s from.views p1 p2 q1 q2 b statuses (λ (w : PairWatchers). w.former.items)
      (λ p d below. (second p d (omega (arith, below, layouts.length_is))).former) p d in
      ap (λ (w : Watching). former_events p (now (watcher_at parts.Child p 0)) (slice_index_or p2 p.0 d).former.items
      ++ event_of p w.waits (answer (now (watcher_at parts.Child p 0)) w)) (two ∙ one)
      ∙ ap (λ (l : List FormerGet). former_events p (now (watcher_at parts.Child p 0)) l
      ++ event_of p (slice_index_or p0 p.0 d).child.waits (answer (now (watcher_at parts.Child p 0)) (slice_index_or p0 p.0 d).child)) (four ∙ three))
      from.viewports

  pub settled-posted : (d : PairWatchers) → q3 ≡ q0 ++ map (post_of place s) (all_answers now from p0 d)
  settled-posted d =
      let f : Event → PostedEvent = post_of place s in
      let xs : List Event = part_answers parts.Layout (λ p. now (watcher_at parts.Layout p 0)) p0 d from.views in
      let ys : List Event = part_answers parts.Status (λ p. now (watcher_at parts.Status p 0)) p0 d from.views in
      let zs : List Event = part_answers parts.Child (λ p. now (watcher_at parts.Child p 0)) p0 d from.viewports in
      two-posted f q0 q2 q3 (xs ++ ys) (part_answers parts.Child (λ p. now (watcher_at parts.Child p 0)) p2 d from.viewports) zs
      (two-posted f q0 q1 q2 xs (part_answers parts.Status (λ p. now (watcher_at parts.Status p 0)) p1 d from.views) ys (layouts.posted d) (statuses.posted d)
      (status-same d)) (children.posted d) (child-same d)

  pub settled-counted : (d : PairWatchers) → a + b + c ≡ length (all_answers now from p0 d)
  settled-counted d =
      let xs : List Event = part_answers parts.Layout (λ p. now (watcher_at parts.Layout p 0)) p0 d from.views in
      let ys : List Event = part_answers parts.Status (λ p. now (watcher_at parts.Status p 0)) p0 d from.views in
      let zs : List Event = part_answers parts.Child (λ p. now (watcher_at parts.Child p 0)) p0 d from.viewports in
      omega (
        arith,
        layouts.counted d,
        statuses.counted d,
        children.counted d,
        ap (length {A = Event}) (status-same d),
        ap (length {A = Event}) (child-same d),
        length-append (xs ++ ys) zs,
        length-append xs ys,
      )
