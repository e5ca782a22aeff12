use Rattle.std.proofs.Common.{◌≡◌, ◌∙◌, ℕ, Bool, true, false, cond, List, [], ◌∷◌, Option, Some, None, refl, sym, ap}
use Rattle.std.specs.Option.{IfNone, IfSome, option_copied}
use Rattle.std.specs.List.{slice_get}
use Rattle.std.proofs.lemmas.List.Sums.{take_while-cons}
use Rattle.flat_base.specs.declared.ids.FenceNo.{FenceNo}
use Rattle.flat_scene.specs.Frames.{is_ready}
use Rattle.flat_fence.specs.Fences.{has}
use Rattle.flat_queue.specs.declared.queue.WaitingPresent.{WaitingPresent}
use Rattle.flat_queue.specs.Line.{ready_of}
use Rattle.flat_queue.proofs.queue.Queue.take.Goals as goal

none_weaker : {X : Type 0} (x : Option X) {A B : Type 0} → (A → B) → IfNone x A → IfNone x B
none_weaker None f a = f a
none_weaker (Some x) f a = tt

some_weaker : {X : Type 0} (x : Option X) {P Q : X → Type 0} → ((y : X) → P y → Q y) → IfSome x P → IfSome x Q
some_weaker None f a = tt
some_weaker (Some x) f a = f x a

module _ {T : Type 0} (time : ℕ) (signalled : FenceNo → Bool) where
  -- where the first is ready, it and the ready ones behind it are
  ready : (waiting : List (WaitingPresent T)) (first one : WaitingPresent T) (later : List (WaitingPresent T)) → slice_get waiting 0 ≡ Some first
      → is_ready time signalled first.args ≡ true → waiting ≡ one ∷ later
      → ready_of time signalled waiting ≡ one ∷ ready_of time signalled later
  ready [] first one later at is all = cc
  ready (x ∷ xs) first one later at is all =
      let same : x ≡ first = cc in
      let x_one : x ≡ one = cc in
      let xs_later : xs ≡ later = cc in
      let here : is_ready time signalled x.args ≡ true = ap (λ (y : WaitingPresent T). is_ready time signalled y.args) same ∙ is in
      take_while-cons (λ (kept : WaitingPresent T). is_ready time signalled kept.args) x xs ∙ ap (λ (b : Bool). cond b (x ∷ ready_of time signalled xs) []) here
      ∙ ap (λ (y : WaitingPresent T). y ∷ ready_of time signalled xs) x_one ∙ ap (λ (ys : List (WaitingPresent T)). one ∷ ready_of time signalled ys) xs_later

  -- where it isn't, none is
  waits : (waiting : List (WaitingPresent T)) (first : WaitingPresent T) → slice_get waiting 0 ≡ Some first → is_ready time signalled first.args ≡ false
      → ready_of time signalled waiting ≡ []
  waits [] first at is = refl
  waits (x ∷ xs) first at is =
      let same : x ≡ first = cc in
      let here : is_ready time signalled x.args ≡ false = ap (λ (y : WaitingPresent T). is_ready time signalled y.args) same ∙ is in
      take_while-cons (λ (kept : WaitingPresent T). is_ready time signalled kept.args) x xs ∙ ap (λ (b : Bool). cond b (x ∷ ready_of time signalled xs) []) here

  none_waits : (waiting : List (WaitingPresent T)) → slice_get waiting 0 ≡ None → ready_of time signalled waiting ≡ []
  none_waits [] at = refl
  none_waits (x ∷ xs) at = cc

pub returns-then-is_ready-clause-none : goal.returns-then-is_ready-clause-none
returns-then-is_ready-clause-none g c = none_weaker c.take_any.result (λ none. (none.0, ap (ready_of c.args.now (has c.args.fences.now)) none.1))
    c.take_any.ensures.none

pub returns-then-is_ready-clause-first : goal.returns-then-is_ready-clause-first
returns-then-is_ready-clause-first g c = c.take_any.ensures.first

pub returns-then-is_ready-clause-ready : goal.returns-then-is_ready-clause-ready
returns-then-is_ready-clause-ready g c =
    let waiting = c.args.self.now.waiting in
    let items = sym (ap (λ line. line.waiting) c.self.view_is) ∙ sym c.as_slice.ensures in
    let at : slice_get waiting 0 ≡ Some c.in_ok-first.first.now =
    ap (λ ws. slice_get ws 0) items ∙ sym c.first.ensures.value ∙ ap option_copied c.in_ok-first.was in
    some_weaker c.take_any.result (λ queued gave. ready c.args.now (has c.args.fences.now) waiting c.in_ok-first.first.now _ c.take_any.new.self.waiting at
    (sym c.if-is_ready.ensures) gave.waiting) c.take_any.ensures.first

pub returns-else-is_ready-clause-none : goal.returns-else-is_ready-clause-none
returns-else-is_ready-clause-none g c =
    let waiting = c.args.self.now.waiting in
    let items = sym (ap (λ line. line.waiting) c.self.view_is) ∙ sym c.as_slice.ensures in
    let at : slice_get waiting 0 ≡ Some c.in_ok-first.first.now =
    ap (λ ws. slice_get ws 0) items ∙ sym c.first.ensures.value ∙ ap option_copied c.in_ok-first.was in
    (refl, waits c.args.now (has c.args.fences.now) waiting c.in_ok-first.first.now at (sym c.if-is_ready.ensures))

pub returns-in_err-first-clause-none : goal.returns-in_err-first-clause-none
returns-in_err-first-clause-none g c =
    let waiting = c.args.self.now.waiting in
    let items = sym (ap (λ line. line.waiting) c.self.view_is) ∙ sym c.as_slice.ensures in
    let at : slice_get waiting 0 ≡ None = ap (λ ws. slice_get ws 0) items ∙ sym c.first.ensures.value ∙ ap option_copied c.in_err-first.was in
    rw c.from_residual.ensures (refl, none_waits c.args.now (has c.args.fences.now) waiting at)

pub returns-in_err-first-clause-first : goal.returns-in_err-first-clause-first
returns-in_err-first-clause-first g c = rw c.from_residual.ensures tt

pub returns-in_err-first-clause-ready : goal.returns-in_err-first-clause-ready
returns-in_err-first-clause-ready g c = rw c.from_residual.ensures tt
