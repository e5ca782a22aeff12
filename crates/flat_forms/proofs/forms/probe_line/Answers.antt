use Rattle.std.proofs.Common.{◌∙◌, sym}
use Rattle.flat_scene.specs.declared.script.ProbeLine.TheVariants as probe
use Rattle.flat_text.specs.Pieces.{is_space}
use Rattle.flat_text.specs.Left.{pieces_left}
use Rattle.flat_places.specs.Places.{u32}
use Rattle.flat_forms.proofs.lemmas.FormLemmas.{whole_failed}
use Rattle.flat_forms.proofs.forms.probe_line.Goals as goal

pub returns-in-Err : goal.returns-in-Err
returns-in-Err c = λ version.
    let hit = sym c.is_word.ensures ∙ c.if-is_word.false in
    let await = sym c.is_word-2.ensures ∙ c.if-is_word-2.true in
    rw (c.in-Some.is, c.next_piece.ensures, hit, await)
    (sym (whole_failed (λ n. probe.Await n) u32 (pieces_left is_space c.next_piece.result.1) c.in-Err.k (sym c.count.ensures ∙ c.in-Err.is)))
