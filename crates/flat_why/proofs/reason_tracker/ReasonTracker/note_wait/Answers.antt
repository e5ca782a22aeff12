use Rattle.std.proofs.Common.{sym, ap, ◌∙◌, ◌++◌, ◌∷◌, []}
use Rattle.flat_why.specs.declared.reasons.PendingPresent.{PendingPresent}
use Rattle.flat_why.specs.Reasons.{is_waiting, waiting_of}
use Rattle.flat_why.proofs.Waits.{kept, one-said}
use Rattle.flat_why.proofs.reason_tracker.ReasonTracker.note_wait.Goals as goal

pub returns-clause-dues : goal.returns-clause-dues
returns-clause-dues c =
    let setup = c.args.board.now.setup in
    let history = c.args.board.now.history in
    c.in_ok-push_back.ensures.items ∙ kept (is_waiting setup history) (waiting_of setup history) c.args.self.now.dues.items c.pop_front.new.self.items
    c.in-Some.due c.in-Some.ensures.items (sym c.is_waiting.ensures ∙ c.if-not-is_waiting.false)

pub returns-clause-waits : goal.returns-clause-waits
returns-clause-waits c =
    let setup = c.args.board.now.setup in
    let history = c.args.board.now.history in
    c.in_ok-push.ensures.items ∙ ap (λ (w : PendingPresent). c.args.self.now.waits.items ++ w ∷ []) c.waiting_of.ensures
    ∙ one-said (is_waiting setup history) (waiting_of setup history) c.args.self.now.dues.items c.pop_front.new.self.items c.in-Some.due c.in-Some.ensures.items
    c.args.self.now.waits.items (sym c.is_waiting.ensures ∙ c.if-not-is_waiting.false)
