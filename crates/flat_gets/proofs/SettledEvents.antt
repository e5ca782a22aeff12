-- What the listed pairs answer a session are the answers to its gets.
use Rattle.std.proofs.Common.{◌≡◌, ◌∙◌, sym, subst, ℕ, zero, suc, ◌+◌, ◌-◌, ◌<◌, Bool, true, false, List, [], ◌∷◌, ◌++◌, length, filter, refl, arith, ap}
use Rattle.std.proofs.Common.{slice_index_or, Some, None}
use Rattle.std.specs.Prelude.{Option, cond, is_some, flat_map, nat_lt}
use Rattle.std.specs.List.{list_all}
use Rattle.std.proofs.lemmas.Bool.Decides.{nat_tests}
use Rattle.std.proofs.lemmas.List.{append-nil}
use Rattle.std.proofs.lemmas.Grind.{flat_map-append}
use Rattle.flat_base.proofs.lemmas.Tests.{and-left, and-right, none-left, none-right}
use Rattle.flat_base.specs.declared.ids.PairNo.{PairNo}
use Rattle.flat_base.specs.declared.ids.SessionNo.{SessionNo}
use Rattle.flat_scene.specs.declared.calls.Watch.{Watch}
use Rattle.flat_scene.specs.declared.journal.Entry.{Entry}
use Rattle.flat_scene.specs.declared.journal.Event.{Event}
use Rattle.flat_scene.specs.declared.journal.WatcherValue.{WatcherValue}
use Rattle.flat_scene.specs.declared.setup.Setup.{Setup}
use Rattle.flat_watch.specs.Told.{Watching, answer, news}
use Rattle.flat_rules.specs.Ends.{viewport_owner, viewport_uses, view_owner, views_of, viewports_of}
use Rattle.flat_rules.specs.Legal.{Legal, owns_view, owns_viewport}
use Rattle.flat_rules.specs.Numbers.{AllNumbered}
use Rattle.flat_rules.specs.Posts.{event_of, told_event, up_to}
use Rattle.flat_rules.specs.Watch.{Watcher, layout_of, status_of, child_of, listener, told, watching}
use Rattle.flat_rules.proofs.lemmas.AllOrSome.{flat-nested}
use Rattle.flat_rules.proofs.lemmas.EventsLocal.{views-owned, viewports-owned}
use Rattle.flat_rules.proofs.lemmas.ListLemmas.{flat-each}
use Rattle.flat_facts.specs.Begins.{finish_entry, finished}
use Rattle.flat_facts.specs.Pairs.{pair}
use Rattle.flat_gets.specs.declared.pair.FormerGet.{FormerGet}
use Rattle.flat_gets.specs.declared.pair.PairWatchers.{PairWatchers}
use Rattle.flat_gets.specs.declared.pair.WatchedPart.TheVariants as parts
use Rattle.flat_gets.specs.Gets.{answers_to, hears, helds_of}
use Rattle.flat_gets.specs.Listed.{AreListed, KeptGets, view_waits, viewport_waits}
use Rattle.flat_gets.specs.Pairs.{AreAt, former_events, former_gets, former_of, former_with, part_events}
use Rattle.flat_gets.specs.Watchers.{all_answers, part_answers, reached}
use Rattle.flat_gets.proofs.lemmas.GetHistory.{owner-hears, told-part}
use Rattle.flat_gets.proofs.GetMeans.{view-within, viewport-within}
use Rattle.flat_gets.proofs.WatchFacts.{unused-fresh}
use Rattle.flat_gets.proofs.WatchLists.{waits-known}
use Rattle.flat_gets.proofs.WatchedPairs.{reach-before}

-- ---- lists

-- the answers of those listed are those of all, where the others answer nothing
flat-told : {A : Type 0} (owns some : PairNo → Bool) (f g : PairNo → List A) (xs : List PairNo) → list_all owns xs ≡ true
    → ((q : PairNo) → owns q ≡ true → some q ≡ false → f q ≡ []) → ((q : PairNo) → owns q ≡ true → f q ≡ g q) → flat_map f (filter some xs) ≡ flat_map g xs
flat-told owns some f g [] all quiet same = refl
flat-told {A = A} owns some f g (q ∷ xs) all quiet same =
    let mine : owns q ≡ true = and-left (owns q) (list_all owns xs) all in
    let rest : flat_map f (filter some xs) ≡ flat_map g xs = flat-told owns some f g xs (and-right (owns q) (list_all owns xs) all) quiet same in
    by_some mine rest (some q) refl
  where
    by_some : owns q ≡ true → flat_map f (filter some xs) ≡ flat_map g xs → (b : Bool) → some q ≡ b
        → flat_map f (cond b (q ∷ filter some xs) (filter some xs)) ≡ g q ++ flat_map g xs
    by_some mine rest true is = rw (same q mine, rest) refl
    by_some mine rest false is = rest ∙ ap (λ (l : List A). l ++ flat_map g xs) (sym (quiet q mine is) ∙ same q mine)

-- ---- the children of a pair

none-waits : (o : Option Watch) → is_some o ≡ false → o ≡ None
none-waits None none = refl
none-waits (Some get) none = cc

pub no-formers : (xs : List FormerGet) → nat_lt 0 (length xs) ≡ false → xs ≡ []
no-formers [] none = refl
no-formers (x ∷ xs) none = absurd (let some : 0 < length (x ∷ xs) = omega arith in grind (arith, nat_tests))

former-event : (p : PairNo) (now : Option WatcherValue) (v : Watching) → former_events p now (former_of v) ≡ event_of p v.waits (answer now v)
former-event p now v = by_waits v.waits
  where
    by_waits : (o : Option Watch) → former_events p now (former_with v.last o) ≡ event_of p o (answer now (record { last = v.last; waits = o }))
    by_waits None = refl
    by_waits (Some get) = append-nil (event_of p (Some get) (news now v.last))

formers-events : (p : PairNo) (now : Option WatcherValue) (f : ℕ → Watching) (n : ℕ)
    → former_events p now (former_gets f n) ≡ flat_map (λ j. event_of p (f j).waits (answer now (f j))) (up_to n)
formers-events p now f n =
    flat-nested (λ (former : FormerGet). event_of p (Some former.get) (news now former.last)) (λ j. former_of (f j)) (up_to n)
    ∙ flat-each (λ j. former_events p now (former_of (f j))) (λ j. event_of p (f j).waits (answer now (f j))) (λ j. former-event p now (f j)) (up_to n)

children-events : (p : PairNo) (now : Option WatcherValue) (f : ℕ → Watching) → (f 0).waits ≡ None → (n : ℕ)
    → (former_events p now (former_gets f (n - 1)) ++ event_of p (f n).waits (answer now (f n)))
    ≡ flat_map (λ j. event_of p (f j).waits (answer now (f j))) (up_to n)
children-events p now f none zero = rw none refl
children-events p now f none (suc m) =
    let less : suc m - 1 ≡ m = omega arith in
    let g : ℕ → List Event = λ j. event_of p (f j).waits (answer now (f j)) in
    ap (λ (n : ℕ). former_events p now (former_gets f n) ++ g (suc m)) less ∙ ap (λ (l : List Event). l ++ g (suc m)) (formers-events p now f m)
    ∙ ap (λ (l : List Event). flat_map g (up_to m) ++ l) (sym (append-nil (g (suc m))))
    ∙ sym (flat_map-append g (up_to m) (suc m ∷ []))

-- ---- all

module _ (setup : Setup) (h : List Entry) (line : ℕ) (legal : Legal setup (finished h line)) (n : ℕ) (s : SessionNo) (next : s.0 ≡ n + 1)
    (pairs : List PairWatchers) (count : length pairs ≡ length setup.pairs)
    (each : AllNumbered (λ i. AreAt setup (reached n (listener setup (layout_of (pair i))) (finished h line) h)
    (reached n (viewport_owner setup (pair i)) (finished h line) h) (pair i)) pairs) (from : KeptGets) (lists : AreListed setup s pairs from) (d : PairWatchers)
  where
    abbrev k : List Entry
    k = finished h line

    abbrev e : Entry
    e = finish_entry line

    abbrev now : Watcher → Option WatcherValue
    now = told setup k

    abbrev at : PairNo → PairWatchers
    at p = slice_index_or pairs p.0 d

    here : (p : PairNo) → p.0 < length setup.pairs → AreAt setup (reached n (listener setup (layout_of p)) k h) (reached n (viewport_owner setup p) k h) p
        (at p)
    here p within = each p.0 d (omega (arith, within, count))

    view-heard : (p : PairNo) → owns_view setup s p ≡ true → hears setup s (layout_of p) ≡ true
    view-heard p owned = owner-hears s (view_owner setup p) owned

    layout-is : (p : PairNo) → owns_view setup s p ≡ true → (at p).layout ≡ watching setup (layout_of p) h
    layout-is p owned = (here p (view-within setup s p owned)).layout
        ∙ ap (watching setup (layout_of p)) (reach-before n s next k h (listener setup (layout_of p)) (view-heard p owned))

    status-is : (p : PairNo) → owns_view setup s p ≡ true → (at p).status ≡ watching setup (status_of p) h
    status-is p owned = (here p (view-within setup s p owned)).status
        ∙ ap (watching setup (status_of p)) (reach-before n s next k h (listener setup (layout_of p)) (view-heard p owned))

    view-silent : (p : PairNo) → owns_view setup s p ≡ true → lists.views.some p ≡ false → view_waits (at p) ≡ false
    view-silent p owned other = sym (waits-known view_waits pairs p d (omega (arith, view-within setup s p owned, count))) ∙ lists.views.each p owned other

    viewport-silent : (p : PairNo) → owns_viewport setup s p ≡ true → lists.viewports.some p ≡ false → viewport_waits (at p) ≡ false
    viewport-silent p owned other = sym (waits-known viewport_waits pairs p d (omega (arith, viewport-within setup s p owned, count)))
        ∙ lists.viewports.each p owned other

    layouts : part_answers parts.Layout (λ p. now (layout_of p)) pairs d from.views ≡ flat_map (λ p. told_event setup p (layout_of p) h e) (views_of setup s)
    layouts =
        let f : PairNo → List Event = λ p. part_events parts.Layout p (now (layout_of p)) (at p) in
        ap (flat_map f) lists.views.are
        ∙ flat-told (owns_view setup s) lists.views.some f (λ p. told_event setup p (layout_of p) h e) (views_of setup s) (views-owned setup s)
        (λ p owned other. rw (none-waits (at p).layout.waits
        (none-left (is_some (at p).layout.waits) (is_some (at p).status.waits) (view-silent p owned other)))
        refl)
        (λ p owned. ap (λ (v : Watching). event_of p v.waits (answer (now (layout_of p)) v)) (layout-is p owned))

    statuses : part_answers parts.Status (λ p. now (status_of p)) pairs d from.views ≡ flat_map (λ p. told_event setup p (status_of p) h e) (views_of setup s)
    statuses =
        let f : PairNo → List Event = λ p. part_events parts.Status p (now (status_of p)) (at p) in
        ap (flat_map f) lists.views.are
        ∙ flat-told (owns_view setup s) lists.views.some f (λ p. told_event setup p (status_of p) h e) (views_of setup s) (views-owned setup s)
        (λ p owned other. rw (none-waits (at p).status.waits
        (none-right (is_some (at p).layout.waits) (is_some (at p).status.waits) (view-silent p owned other)))
        refl)
        (λ p owned. ap (λ (v : Watching). event_of p v.waits (answer (now (status_of p)) v)) (status-is p owned))

    child-is : (p : PairNo) → owns_viewport setup s p ≡ true
        → part_events parts.Child p (now (child_of p 0)) (at p) ≡ flat_map (λ j. told_event setup p (child_of p j) h e) (up_to (length (viewport_uses p h)))
    child-is p owned =
        let f : ℕ → Watching = λ j. watching setup (child_of p j) h in
        let is : AreAt setup (reached n (listener setup (layout_of p)) k h) h p (at p) =
        subst (λ (l : List Entry). AreAt setup (reached n (listener setup (layout_of p)) k h) l p (at p))
        (reach-before n s next k h (viewport_owner setup p) owned) (here p (viewport-within setup s p owned)) in
        let fresh : (f 0).waits ≡ None = ap (λ (v : Watching). v.waits) (unused-fresh setup h legal.0 p) in
        ap (λ (l : List FormerGet). former_events p (now (child_of p 0)) l ++ event_of p (at p).child.waits (answer (now (child_of p 0)) (at p).child))
        is.former
        ∙ ap (λ (v : Watching). former_events p (now (child_of p 0)) (former_gets f (length (viewport_uses p h) - 1))
        ++ event_of p v.waits (answer (now (child_of p 0)) v)) is.child
        ∙ children-events p (now (child_of p 0)) f fresh (length (viewport_uses p h))

    children : part_answers parts.Child (λ p. now (child_of p 0)) pairs d from.viewports
        ≡ flat_map (λ p. flat_map (λ j. told_event setup p (child_of p j) h e) (up_to (length (viewport_uses p h)))) (viewports_of setup s)
    children =
        let f : PairNo → List Event = λ p. part_events parts.Child p (now (child_of p 0)) (at p) in
        ap (flat_map f) lists.viewports.are
        ∙ flat-told (owns_viewport setup s) lists.viewports.some f
        (λ p. flat_map (λ j. told_event setup p (child_of p j) h e) (up_to (length (viewport_uses p h)))) (viewports_of setup s) (viewports-owned setup s)
        (λ p owned other.
        let silent : viewport_waits (at p) ≡ false = viewport-silent p owned other in
        rw (
          no-formers (at p).former.items (none-right (is_some (at p).child.waits) (nat_lt 0 (length (at p).former.items)) silent),
          none-waits (at p).child.waits (none-left (is_some (at p).child.waits) (nat_lt 0 (length (at p).former.items)) silent),
        ) refl) child-is

    pub settled-events : all_answers now from pairs d ≡ answers_to now (helds_of setup h s)
    settled-events = three layouts statuses children ∙ told-part setup s h e
      where
        three : {a a' b b' c c' : List Event} → a ≡ a' → b ≡ b' → c ≡ c' → (a ++ b ++ c) ≡ (a' ++ b' ++ c')
        three pa pb pc = cc
