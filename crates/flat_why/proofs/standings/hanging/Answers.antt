use Rattle.std.proofs.Common.{ap, sym, ◌∙◌, Some}
use Rattle.flat_scene.specs.declared.setup.Setup.{Setup}
use Rattle.flat_rules.specs.Ends.{viewport_owner}
use Rattle.flat_why.proofs.Owners.{owner-declared}
use Rattle.flat_why.proofs.standings.hanging.Goals as goal

pub hanging_below-requires-clause-owner : goal.hanging_below-requires-clause-owner
hanging_below-requires-clause-owner c =
    owner-declared c.args.board.now.setup c.args.p c.in-Some-Session.q c.requires.owners
    (ap (λ (setup : Setup). viewport_owner setup c.args.p) (sym c.setup.ensures) ∙ sym c.viewport_owner.ensures ∙ c.in-Some-Session.is
    ∙ ap Some c.in-Some-Session.field-0-is)
