-- A begin, for one session.
use Rattle.std.proofs.Common.{◌≡◌, ℕ, zero, suc, ◌+◌, ◌-◌, ◌<◌, ◌≤◌, Bool, true, false, List, [], ◌∷◌, length, refl, arith, sym, ◌∙◌, ap, subst, map, take}
use Rattle.std.proofs.Common.{drop, Some, None, add-zero, add-suc, slice_get}
use Rattle.std.specs.Prelude.{cond, ◌==◌, nat_lt, Option, option_map, option_and_then}
use Rattle.std.specs.Arc.{arc_value}
use Rattle.std.specs.declared.sync.Arc.{Arc}
use Rattle.std.specs.declared.alloc.Global.{Global}
use Rattle.std.proofs.lemmas.Bool.Decides.{nat_tests}
use Rattle.std.proofs.lemmas.List.{take-map, length-map}
use Rattle.flat_base.specs.declared.ids.FenceNo.{FenceNo}
use Rattle.flat_base.specs.declared.ids.SessionNo.{SessionNo}
use Rattle.flat_scene.specs.declared.journal.Entry.{Entry}
use Rattle.flat_scene.specs.declared.journal.Event.TheVariants as event
use Rattle.flat_scene.specs.declared.setup.Setup.{Setup}
use Rattle.flat_scene.specs.declared.trees.Tree.{Tree}
use Rattle.flat_scene.specs.History.{is_closed, presents, Published}
use Rattle.flat_scene.specs.Draft.{of_serial}
use Rattle.flat_rules.specs.Ends.{to_begin}
use Rattle.flat_scene.specs.Frames.{is_signalled, is_unsquashable, taken, waiting, ready_prefix, credits}
use Rattle.flat_rules.specs.Posts.{events_to}
use Rattle.flat_rules.specs.Shown.{shown, tree_of}
use Rattle.flat_queue.specs.declared.queue.WaitingPresent.{WaitingPresent}
use Rattle.flat_scene.specs.Frames.{is_ready}
use Rattle.flat_queue.specs.Line.{credits_of}
use Rattle.flat_snap.specs.declared.snapshot.Snapshot.{Snapshot}
use Rattle.flat_states.specs.declared.state.SessionState.{SessionState}
use Rattle.flat_facts.specs.Begins.{begun, begin_entry}
use Rattle.flat_states.specs.Kept.{IsKept, kept_of, meant}
use Rattle.flat_rules.specs.Legal.{Legal}
use Rattle.flat_rules.specs.Lasts.{last_from}
use Rattle.flat_states.specs.Presents.{TookReady, frame_takes}
use Rattle.flat_states.specs.Seen.{Seen, seen_of}
use Rattle.flat_states.proofs.lemmas.Begun.{seen-begun-open, takes-same, front, kept-ready, then-same}
use Rattle.flat_scene.proofs.lemmas.TakingLemmas.{taken-up-to}
use Rattle.flat_states.proofs.lemmas.Counts.{kept-waiting}
use Rattle.flat_facts.proofs.lemmas.Between.{events-between}
use Rattle.flat_core.proofs.PresentSteps.{stays}
use Rattle.flat_rules.proofs.lemmas.ShownSteps.{serial-get, get-drop, get-map, last-get, last-none, shown-kept}

-- how many presents a begin takes
abbrev pub take_count : Setup → List Entry → ℕ → SessionNo → ℕ
take_count setup h time s = length (ready_prefix time (is_signalled setup h) (waiting setup h s))

pub take-count : (setup : Setup) (h : List Entry) (time : ℕ) (s : SessionNo) (has_it : FenceNo → Bool) (state : SessionState)
    → IsKept setup (seen_of setup h s) state → state.closed ≡ false → ((f : FenceNo) → has_it f ≡ is_signalled setup h f)
    → length (frame_takes time has_it state.queue.waiting) ≡ take_count setup h time s
take-count setup h time s has_it state kept opened fences =
    takes-same setup time has_it (is_signalled setup h) state.queue.waiting (waiting setup h s) fences
    (kept.waiting (stays setup (seen_of setup h s) state kept (sym kept.closed ∙ opened)))

-- they are the first so many
kept-front : (time : ℕ) (has_it : FenceNo → Bool) (waits : List (WaitingPresent (Arc Snapshot Global))) (n : ℕ) → length (frame_takes time has_it waits) ≡ n
    → (frame_takes time has_it waits ≡ take n waits) × (n ≤ length waits)
kept-front time has_it waits n count =
    let ends : WaitingPresent (Arc Snapshot Global) → Bool = λ k. k.args.unsquashable in
    let ready : WaitingPresent (Arc Snapshot Global) → Bool = λ k. is_ready time has_it k.args in
    (sym (front ends ready waits) ∙ ap (λ (m : ℕ). take m waits) count, rw (← count) (taken-up-to ends ready waits).short)

pub kept-begun-open : (setup : Setup) (h : List Entry) (line time : ℕ) (s : SessionNo) (has_it : FenceNo → Bool) (result : Option (Arc Snapshot Global))
    (state new : SessionState) → IsKept setup (seen_of setup h s) state → state.closed ≡ false
    → ((f : FenceNo) → has_it f ≡ is_signalled setup h f)
    → TookReady time has_it result state new
    → IsKept setup (seen_of setup (begun h line time) s) new
kept-begun-open setup h line time s has_it result state new kept opened fences took =
    let was : is_closed s h ≡ false = sym kept.closed ∙ opened in
    let n : ℕ = take_count setup h time s in
    let waits : List Published = waiting setup h s in
    let count : length (frame_takes time has_it state.queue.waiting) ≡ n = take-count setup h time s has_it state kept opened fences in
    let first = kept-front time has_it state.queue.waiting n count in
    let goes : new.going.items ≡ map (λ kept. kept.args.release) (take n state.queue.waiting) = took.going ∙ ap (map (λ kept. kept.args.release)) first.0 in
    let all : IsKept setup (record (seen_of setup h s) { taken = taken setup h s + n; waiting = drop n waits; going = take n waits; took = n }) new =
    kept-ready setup (seen_of setup h s) state new n kept (stays setup (seen_of setup h s) state kept was) first.1 (took.took ∙ count) took.taken took.waiting
    goes took.room took.closed took.let_go took.account in
    rw (seen-begun-open setup h line time s (ready_prefix time (is_signalled setup h) waits) was refl)
    (subst (λ (going : List Published). IsKept setup (record (seen_of setup h s)
    { taken = taken setup h s + n; waiting = drop n waits; going = going; took = n }) new)
    (front is_unsquashable (λ (p : Published). is_ready time (is_signalled setup h) p.args) waits) all)

-- ---- what is shown

shown-begun : (setup : Setup) (h : List Entry) (line time : ℕ) (s : SessionNo) → is_closed s h ≡ false
    → shown setup (begun h line time) s ≡ option_and_then (tree_of setup) (of_serial (presents s h) (taken setup h s + take_count setup h time s))
shown-begun setup h line time s opened =
    rw opened refl

same-tree : (setup : Setup) (snap : Arc Snapshot Global) (kept : Option (WaitingPresent (Arc Snapshot Global))) (present : Option Published)
    → option_map (λ k. k.item) kept ≡ Some snap
    → option_map (λ k. let t : Option Tree = Some (arc_value k.item) in t) kept ≡ option_map (tree_of setup) present
    → option_and_then (tree_of setup) present ≡ Some (arc_value snap)
same-tree setup snap None present is same = cc
same-tree setup snap (Some k) None is same = cc
same-tree setup snap (Some k) (Some p) is same = let item : k.item ≡ snap = cc in let tree : tree_of setup p ≡ Some (arc_value k.item) =
    cc in rw (tree, item) refl

items-last : (n : ℕ) (waits : List (WaitingPresent (Arc Snapshot Global))) → suc n ≤ length waits
    → last_from None (map (λ k. k.item) (take (suc n) waits)) ≡ option_map (λ k. k.item) (slice_get waits n)
items-last n waits fits =
    let item : WaitingPresent (Arc Snapshot Global) → Arc Snapshot Global = λ k. k.item in
    let long : n < length (map item waits) = rw length-map fits in
    ap (last_from None) (sym (take-map item (suc n) waits)) ∙ last-get None (map item waits) n long ∙ get-map item waits n

some-at : (setup : Setup) (h : List Entry) (line time : ℕ) (s : SessionNo) (state : SessionState) (snap : Arc Snapshot Global) (n : ℕ)
    → IsKept setup (seen_of setup h s) state → state.closed ≡ false
    → take_count setup h time s ≡ n → n ≤ length state.queue.waiting → last_from None (map (λ k. k.item) (take n state.queue.waiting)) ≡ Some snap
    → option_and_then (tree_of setup) (of_serial (presents s h) (taken setup h s + n)) ≡ Some (arc_value snap)
some-at setup h line time s state snap zero kept opened is fits last = cc
some-at setup h line time s state snap (suc n) kept opened is fits last =
    let waits = kept.waiting (stays setup (seen_of setup h s) state kept (sym kept.closed ∙ opened)) in
    let trees : map (λ k. let t : Option Tree = Some (arc_value k.item) in t) state.queue.waiting ≡ map (tree_of setup) (waiting setup h s) =
    then-same (λ pair. pair.1) kept_of (meant setup) state.queue.waiting (waiting setup h s) waits in
    let at : option_map (λ k. let t : Option Tree = Some (arc_value k.item) in t) (slice_get state.queue.waiting n)
    ≡ option_map (tree_of setup) (slice_get (waiting setup h s) n) =
    sym (get-map _ state.queue.waiting n) ∙ ap (λ ts. slice_get ts n) trees ∙ get-map (tree_of setup) (waiting setup h s) n in
    let place : of_serial (presents s h) (taken setup h s + suc n) ≡ slice_get (waiting setup h s) n =
    rw add-suc (serial-get (presents s h) (taken setup h s + n) ∙ get-drop (taken setup h s) n (presents s h)) in
    rw place (same-tree setup snap (slice_get state.queue.waiting n) (slice_get (waiting setup h s) n) (sym (items-last n state.queue.waiting fits) ∙ last) at)

-- what was taken last is shown
pub shown-some : (setup : Setup) (h : List Entry) (line time : ℕ) (s : SessionNo) (has_it : FenceNo → Bool) (state : SessionState) (snap : Arc Snapshot Global)
    → IsKept setup (seen_of setup h s) state → state.closed ≡ false
    → ((f : FenceNo) → has_it f ≡ is_signalled setup h f) → Some snap ≡ last_from None (map (λ k. k.item) (frame_takes time has_it state.queue.waiting))
    → shown setup (begun h line time) s ≡ Some (arc_value snap)
shown-some setup h line time s has_it state snap kept opened fences last =
    let n : ℕ = take_count setup h time s in
    let first = kept-front time has_it state.queue.waiting n (take-count setup h time s has_it state kept opened fences) in
    shown-begun setup h line time s (sym kept.closed ∙ opened)
    ∙ some-at setup h line time s state snap n kept opened refl first.1 (ap (λ waits. last_from None (map (λ k. k.item) waits)) (sym first.0) ∙ sym last)

none-taken : (n : ℕ) (waits : List (WaitingPresent (Arc Snapshot Global))) → n ≤ length waits → None ≡ last_from None (map (λ k. k.item) (take n waits)) → n ≡ 0
none-taken zero waits fits last = refl
none-taken (suc n) [] fits last = absurd (omega (arith, fits))
none-taken (suc n) (k ∷ waits) fits last = let none = last-none (map (λ k. k.item) (take (suc n) (k ∷ waits))) (sym last) in cc

pub takes-none : (setup : Setup) (h : List Entry) (time : ℕ) (s : SessionNo) (has_it : FenceNo → Bool) (state : SessionState)
    → IsKept setup (seen_of setup h s) state → state.closed ≡ false
    → ((f : FenceNo) → has_it f ≡ is_signalled setup h f) → None ≡ last_from None (map (λ k. k.item) (frame_takes time has_it state.queue.waiting))
    → take_count setup h time s ≡ 0
takes-none setup h time s has_it state kept opened fences last =
    let first = kept-front time has_it state.queue.waiting (take_count setup h time s) (take-count setup h time s has_it state kept opened fences) in
    none-taken (take_count setup h time s) state.queue.waiting first.1 (last ∙ ap (λ waits. last_from None (map (λ k. k.item) waits)) first.0)

-- and where none is taken, what was shown before
pub shown-none : (setup : Setup) (h : List Entry) (line time : ℕ) (s : SessionNo) → is_closed s h ≡ false → take_count setup h time s ≡ 0
    → shown setup (begun h line time) s ≡ shown setup (to_begin h) s
shown-none setup h line time s opened none =
    shown-begun setup h line time s opened ∙ rw (none, add-zero) (sym (shown-kept setup h s opened))

-- ---- what is posted

pub events-begun : (setup : Setup) (h : List Entry) (line time : ℕ) (s : SessionNo) → Legal setup (begun h line time) → is_closed s h ≡ false
    → events_to setup h (begin_entry line time) s
    ≡ cond (nat_lt (taken setup h s) (taken setup h s + take_count setup h time s))
    (event.Credits (credits setup (begun h line time) s - credits setup h s) ∷ []) []
events-begun setup h line time s legal opened =
    events-between setup h (begin_entry line time) legal s refl refl ∙ rw opened refl

more-than : (m n : ℕ) → 0 < n → nat_lt m (m + n) ≡ true
more-than m n some = grind (arith, nat_tests)

not-more : (m : ℕ) → nat_lt m (m + 0) ≡ false
not-more m = grind (arith, nat_tests)

some-taken : (n : ℕ) (waits : List (WaitingPresent (Arc Snapshot Global))) (snap : Arc Snapshot Global)
    → Some snap ≡ last_from None (map (λ k. k.item) (take n waits)) → 0 < n
some-taken zero waits snap last = cc
some-taken (suc n) waits snap last = omega arith

pub takes-some : (setup : Setup) (h : List Entry) (time : ℕ) (s : SessionNo) (has_it : FenceNo → Bool) (state : SessionState) (snap : Arc Snapshot Global)
    → IsKept setup (seen_of setup h s) state → state.closed ≡ false
    → ((f : FenceNo) → has_it f ≡ is_signalled setup h f) → Some snap ≡ last_from None (map (λ k. k.item) (frame_takes time has_it state.queue.waiting))
    → 0 < take_count setup h time s
takes-some setup h time s has_it state snap kept opened fences last =
    let first = kept-front time has_it state.queue.waiting (take_count setup h time s) (take-count setup h time s has_it state kept opened fences) in
    some-taken (take_count setup h time s) state.queue.waiting snap (last ∙ ap (λ waits. last_from None (map (λ k. k.item) waits)) first.0)

pub credits-line : (setup : Setup) (seen : Seen) (state : SessionState) → IsKept setup seen state → state.let_go ≡ false
    → credits_of state.queue ≡ cond (seen.taken == 0) 1 5 - length seen.waiting
credits-line setup seen state kept here =
    let waits : length state.queue.waiting ≡ length seen.waiting = kept-waiting setup seen state kept false here in
    rw (kept.taken here, waits) refl

pub events-some : (setup : Setup) (h : List Entry) (line time : ℕ) (s : SessionNo) (gained : ℕ) → Legal setup (begun h line time) → is_closed s h ≡ false
    → 0 < take_count setup h time s
    → gained ≡ credits setup (begun h line time) s - credits setup h s → events_to setup h (begin_entry line time) s ≡ event.Credits gained ∷ []
events-some setup h line time s gained legal opened some is =
    let more : nat_lt (taken setup h s) (taken setup h s + take_count setup h time s) ≡ true = more-than (taken setup h s) (take_count setup h time s) some in
    events-begun setup h line time s legal opened ∙ rw (more, is) refl

pub events-none : (setup : Setup) (h : List Entry) (line time : ℕ) (s : SessionNo) → Legal setup (begun h line time) → is_closed s h ≡ false
    → take_count setup h time s ≡ 0
    → events_to setup h (begin_entry line time) s ≡ []
events-none setup h line time s legal opened none =
    let more : nat_lt (taken setup h s) (taken setup h s + 0) ≡ false = not-more (taken setup h s) in
    events-begun setup h line time s legal opened ∙ rw (none, more) refl
