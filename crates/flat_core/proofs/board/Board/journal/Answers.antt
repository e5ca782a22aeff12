use Rattle.std.proofs.Common.{subst}
use Rattle.flat_base.specs.declared.ids.SessionNo.{SessionNo}
use Rattle.flat_states.specs.Machines.{Machine}
use Rattle.flat_core.specs.Journals.{FamiliesStandAlone, IsDecidedByGlimpses, IsQuietBeside}
use Rattle.flat_core.proofs.Alone.{quiet-beside}
use Rattle.flat_core.proofs.board.Board.journal.Goals as goal

pub returns-clause-families : goal.returns-clause-families
returns-clause-families c =
    let inside = c.self.inside in
    let P : Machine → Type 0 = λ m. FamiliesStandAlone m.setup m.history in
    subst P c.self.view_is (λ declared s. c.families_are_alone.ensures inside.setup declared inside.log.history c.self.invariant.0.legal s)

pub returns-clause-neighbours : goal.returns-clause-neighbours
returns-clause-neighbours c =
    let inside = c.self.inside in
    let P : Machine → Type 0 = λ m. (s : SessionNo) → IsDecidedByGlimpses m.setup s m.history in
    subst P c.self.view_is (λ s other legal same. c.glimpses_decide_outcomes.ensures.decided inside.setup inside.log.history other c.self.invariant.0.legal
    legal s same)

pub returns-clause-others : goal.returns-clause-others
returns-clause-others c =
    let inside = c.self.inside in
    let P : Machine → Type 0 = λ m. (s : SessionNo) → IsQuietBeside m.setup s m.history in
    subst P c.self.view_is (λ s. quiet-beside c.glimpses_decide_outcomes.ensures.others inside.setup s inside.log.history)
