use Rattle.flat_page.proofs.Filling.{one_filled}
use Rattle.flat_page.proofs.digits.write_byte.Goals as goal

pub returns : goal.returns
returns c = one_filled c.args.bytes.now c.args.at c.args.byte c.requires.room
