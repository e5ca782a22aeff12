use Rattle.std.proofs.Common.{◌∙◌, sym}
use Rattle.flat_scene.specs.declared.script.SessionLine.TheVariants as line
use Rattle.flat_text.specs.Pieces.{is_space}
use Rattle.flat_text.specs.Left.{pieces_left}
use Rattle.flat_forms.specs.Body.{present}
use Rattle.flat_forms.proofs.lemmas.FormLemmas.{refused_whole, whole_mapped}
use Rattle.flat_forms.proofs.session_forms.other_line.Goals as goal

pub returns-in-Ok : goal.returns-in-Ok
returns-in-Ok c =
    let named = sym c.is_word.ensures ∙ c.if-is_word.true in
    rw named (whole_mapped (λ p. line.Present p) (present c.args.script.now.script c.args.session) (pieces_left is_space c.args.words) c.in-Ok.args
    c.in-Ok.ensures)

pub returns-in-Err : goal.returns-in-Err
returns-in-Err c =
    let named = sym c.is_word.ensures ∙ c.if-is_word.true in
    rw named (refused_whole (λ p. line.Present p) (present c.args.script.now.script c.args.session) (pieces_left is_space c.args.words) c.in-Err.e
    c.in-Err.ensures)
