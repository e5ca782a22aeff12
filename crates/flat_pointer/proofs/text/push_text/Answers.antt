use Rattle.std.proofs.Common.{subst, length, ℕ, ◌++◌, ◌∷◌, []}
use Rattle.flat_page.specs.Happenings.{all_lines, merged}
use Rattle.flat_page.specs.Pages.{WritesLines}
use Rattle.flat_page.proofs.lemmas.PageLemmas.{then_lines}
use Rattle.flat_pointer.specs.declared.text.PointerTouch.{PointerTouch}
use Rattle.flat_pointer.specs.Steps.{Streams, after, lines_with}
use Rattle.flat_pointer.specs.Text.{end_line}
use Rattle.flat_pointer.proofs.text.push_text.Goals as goal

pub returns : goal.returns
returns c =
    let number : PointerTouch → ℕ = λ touch. touch.line.number in
    let P : Streams → Type 0 = λ pointers. WritesLines
    (all_lines (lines_with c.args.names.now) after pointers (merged number c.args.dones.now c.args.frames.now c.args.touches.now)
    ++ end_line (length c.args.touches.now) ∷ []) c.args.page.now c.ends.new.self in
    subst P c.new-pointers.ensures (then_lines c.in_ok-push_happenings.ensures c.in_ok-ends.ensures)
