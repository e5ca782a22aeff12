use Rattle.std.proofs.Common.{◌≡◌, refl, sym, ◌∙◌, None, Some, false, rules}
use Rattle.flat_scene.specs.Misuse.{first_reason}
use Rattle.flat_draft.specs.Parts.{watch_tests, watched}
use Rattle.flat_draft.proofs.Watching.{watch-reason, watch-pair}
use Rattle.flat_draft.proofs.draft.Draft.get.Goals as goal

pub returns-in-Ok-clause-answered : goal.returns-in-Ok-clause-answered
returns-in-Ok-clause-answered c = λ setup draft s.
    let not_closed : c.args.self.now.closed ≡ false = search rules in
    let allowed : first_reason (watch_tests c.args.self.now.view c.args.self.now.contents c.args.w) ≡ None = search rules in
    let pair : watched c.args.self.now.view c.args.self.now.contents c.args.w ≡ Some c.in-Ok.pair = search rules in
    (not_closed, sym (watch-reason setup c.args.self.now draft s c.args.w) ∙ allowed, sym (watch-pair setup c.args.self.now draft s c.args.w) ∙ pair, refl)

pub returns-in-Err-clause-answered : goal.returns-in-Err-clause-answered
returns-in-Err-clause-answered c = λ setup draft s.
    let not_closed : c.args.self.now.closed ≡ false = search rules in
    let refused : first_reason (watch_tests c.args.self.now.view c.args.self.now.contents c.args.w) ≡ Some c.in-Err.reason = search rules in
    rw c.close.ensures.fault (not_closed, sym (watch-reason setup c.args.self.now draft s c.args.w) ∙ refused, c.close.ensures.closed)
