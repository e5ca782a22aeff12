use Rattle.std.proofs.Common.{◌≡◌, ◌∙◌, ℕ, true, nat_lt, sym, ap, subst, List, map, IfOk, reverse}
use Rattle.std.specs.List.{list_all}
use Rattle.flat_page.specs.Steps.{without_items}
use Rattle.flat_pointer.specs.declared.pointers.TheConstants.{POINTERS}
use Rattle.flat_pointer.specs.declared.text.PointerTouch.{PointerTouch}
use Rattle.flat_pointer.specs.Text.{pointer_text}
use Rattle.flat_report.specs.Report.{finished}
use Rattle.flat_scene.specs.declared.frames.FrameOut.{FrameOut}
use Rattle.flat_texts.specs.Lines.{finish_lines}
use Rattle.flat_run.proofs.Written.{pointers_touched}
use Rattle.flat_run.proofs.texts.pointers_of.Goals as goal

pub print_pointers-requires : goal.print_pointers-requires
print_pointers-requires c =
    let K : List PointerTouch → Type 0 = λ touches. list_all (λ (touch : PointerTouch). nat_lt touch.line.pointer POINTERS) touches ≡ true in
    record {
      all = subst K (sym c.requires.touches) (pointers_touched c.args.reading.now.script.setup c.args.played.board.history c.args.reading.now.pointers
          c.requires.runnable.pointers);
    }

pub returns : goal.returns
returns c =
    let script = c.args.reading.now.script in
    let history = c.args.played.board.history in
    let all : List FrameOut = finished script.setup history in
    let frames : c.as_slice-2.result.now ≡ map without_items all = c.as_slice-2.ensures ∙ c.in_ok-dones.ensures.frames in
    let dones : c.as_slice.result.now ≡ finish_lines (reverse history) = c.as_slice.ensures.value ∙ c.in_ok-dones.ensures.lines in
    let P : List ℕ → Type 0 = λ text. IfOk c.print_pointers.result (λ written. written.items ≡ text) in
    subst P
    (ap (λ (ds : List ℕ). pointer_text script.sessions ds c.as_slice-2.result.now c.args.touches.now) dones
    ∙ ap (λ (fs : List FrameOut). pointer_text script.sessions (finish_lines (reverse history)) fs c.args.touches.now) frames
    ∙ c.pointer_laws.ensures.items_play_no_part script.sessions (finish_lines (reverse history)) all c.args.touches.now)
    c.print_pointers.ensures
