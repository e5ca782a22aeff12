use Rattle.std.proofs.Common.{◌≡◌, ◌∙◌, [], ap, sym, length, append-nil}
use Rattle.std.proofs.lemmas.Bool.{eqb-true}
use Rattle.flat_script.specs.Ahead.{lines_in}
use Rattle.flat_script.proofs.AheadLemmas.{no_lines}
use Rattle.flat_script.proofs.apart.pieces_of.Goals as goal

pub returns : goal.returns
returns c =
    let none : length c.loop-rest.rest.now ≡ 0 = eqb-true (length c.loop-rest.rest.now) 0 (sym c.is_empty.ensures ∙ c.loop-rest-test.false) in
    ap lines_in (sym (append-nil c.loop-rest.pieces.items)) ∙ c.loop-rest.invariant [] (sym (no_lines c.loop-rest.rest.now none))
