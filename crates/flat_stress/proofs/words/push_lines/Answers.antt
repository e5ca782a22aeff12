use Rattle.std.proofs.Common.{map}
use Rattle.flat_stress.specs.Spelling.{spelling}
use Rattle.flat_stress.specs.Words.{line_text}
use Rattle.flat_stress.proofs.Writing.{all_items}
use Rattle.flat_stress.proofs.words.push_lines.Goals as goal

pub returns : goal.returns
returns c = all_items line_text (λ line. map spelling line.now) _ _ _ _ c.loop-line-test.false c.loop-line.invariant
