use Rattle.std.proofs.Common.{ap, length, arith}
use Rattle.flat_text.proofs.lemmas.LineLemmas.{lines-few}
use Rattle.flat_script.specs.Ahead.{lines_in}
use Rattle.flat_script.proofs.apart.read_apart.Goals as goal

pub take_pieces-read-requires-clause-counted : goal.take_pieces-read-requires-clause-counted
take_pieces-read-requires-clause-counted g c =
    omega (arith, c.requires.counted, lines-few c.args.text.now, ap (λ ps. length (lines_in ps)) c.as_slice-2.ensures.value, ap length c.in-Ok.ensures)
