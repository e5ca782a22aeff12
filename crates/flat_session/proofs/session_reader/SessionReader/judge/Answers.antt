use Rattle.std.proofs.Common.{Some, sym, subst}
use Rattle.flat_scene.specs.declared.script.SessionLine.{SessionLine}
use Rattle.flat_session.specs.Reads.{Tells}
use Rattle.flat_session.proofs.session_reader.SessionReader.judge.Goals as goal

pub returns-in-Get-clause-tells : goal.returns-in-Get-clause-tells
returns-in-Get-clause-tells c = λ setup draft stands played.
    let T : SessionLine → Type 0 = λ text. Tells setup c.args.self.now.session draft text c.asked.new.draft (Some c.asked.result) in
    subst T (sym c.in-Get.is) (c.asked.ensures setup c.args.self.now.session draft stands)
