use Rattle.std.proofs.Common.{◌≡◌, ◌&&◌, drop}
use Rattle.std.specs.List.{list_all}
use Rattle.flat_script.specs.Plain.{is_text_byte}
use Rattle.flat_script.proofs.plain.is_plain_text.Given as goal

abbrev pub invariant-loop-b : goal.invariant-loop-b
invariant-loop-b l = list_all is_text_byte l.text ≡ (l.plain && list_all is_text_byte (drop l.b-index l.text))
