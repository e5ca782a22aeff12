use Rattle.std.proofs.Common.{◌≤◌, ◌≡◌, ◌∙◌, ap, sym, slice_get, ◌-◌, arith}
use Rattle.std.proofs.lemmas.Grind.{common_steps}
use Rattle.std.proofs.lemmas.Option.{gets}
use Rattle.std.specs.Option.{option_copied}
use Rattle.flat_scene.specs.Draft.{of_serial}
use Rattle.flat_content.proofs.Serials.{of_serial-zero, of_serial-place}
use Rattle.flat_content.proofs.table.stored_at.Goals as goal

pub returns-then-serial-eq0 : goal.returns-then-serial-eq0
returns-then-serial-eq0 c = sym (ap (of_serial c.args.contents.now) c.if-serial-eq0.true ∙ of_serial-zero c.args.contents.now)

pub returns : goal.returns
returns c =
    let high : 1 ≤ c.args.serial = omega arith in
    let looked : option_copied c.get.result ≡ slice_get c.args.contents.now (c.args.serial - 1) = grind (arith, common_steps, gets) in
    c.copied.ensures ∙ looked ∙ sym (of_serial-place c.args.contents.now c.args.serial high)
