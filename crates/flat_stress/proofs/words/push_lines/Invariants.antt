use Rattle.std.proofs.Common.{◌≡◌, ◌++◌, map, take}
use Rattle.std.specs.List.{flat_map}
use Rattle.flat_stress.specs.Spelling.{spelling}
use Rattle.flat_stress.specs.Words.{line_text}
use Rattle.flat_stress.proofs.words.push_lines.Given as goal

abbrev pub invariant-loop-line : goal.invariant-loop-line
invariant-loop-line l = l.page ≡ l.initial.page ++ flat_map (λ line. line_text (map spelling line.now)) (take l.line-index l.lines)
