use Rattle.std.proofs.Common.{◌≡◌, ◌∙◌, false, rules}
use Rattle.flat_draft.proofs.draft.Draft.try_call.Goals as goal

pub returns-in-Ok-clause-tried : goal.returns-in-Ok-clause-tried
returns-in-Ok-clause-tried c = λ setup draft s.
    let not_closed : c.args.self.now.closed ≡ false = search rules in
    let a = rw c.in-Ok.is at (c.apply.ensures.applied setup draft s) in
    (not_closed, a.0, a.1, a.2 ∙ not_closed)

pub returns-in-Err-Bad-clause-tried : goal.returns-in-Err-Bad-clause-tried
returns-in-Err-Bad-clause-tried c = λ setup draft s.
    let not_closed : c.args.self.now.closed ≡ false = search rules in
    let a = rw (c.in-Err-Bad.is, c.in-Err-Bad.field-0-is) at (c.apply.ensures.applied setup draft s) in
    (not_closed, a.0, a.1)

pub returns-in-Err-Memory-clause-tried : goal.returns-in-Err-Memory-clause-tried
returns-in-Err-Memory-clause-tried c = λ setup draft s.
    let not_closed : c.args.self.now.closed ≡ false = search rules in
    let a = rw (c.in-Err-Memory.is, c.in-Err-Memory.field-0-is) at (c.apply.ensures.applied setup draft s) in
    (not_closed, a.0, a.1, a.2)
