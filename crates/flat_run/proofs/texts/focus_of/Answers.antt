use Rattle.std.proofs.Common.{◌≡◌, ◌∙◌, ℕ, true, nat_le, sym, ap, subst, List, length, map, IfOk, reverse}
use Rattle.std.specs.List.{list_all}
use Rattle.flat_scene.specs.declared.frames.FrameOut.{FrameOut}
use Rattle.flat_focus.specs.declared.text.FocusLine.{FocusLine}
use Rattle.flat_focus.specs.Text.{focus_text}
use Rattle.flat_page.specs.Steps.{without_items}
use Rattle.flat_play.proofs.lemmas.FewViews.{few-played}
use Rattle.flat_report.specs.Report.{finished}
use Rattle.flat_texts.specs.Lines.{finish_lines}
use Rattle.flat_run.proofs.Written.{few-left}
use Rattle.flat_run.proofs.texts.focus_of.Goals as goal

pub print_focus-requires : goal.print_focus-requires
print_focus-requires c =
    let script = c.args.reading.now.script in
    let F : List FrameOut → Type 0 = λ shown. list_all (λ (out : FrameOut). nat_le (length out.tree.nodes) script.setup.sessions) shown ≡ true in
    record {
      few = subst F (sym (c.as_slice-2.ensures ∙ c.in_ok-dones.ensures.frames))
          (few-left script.setup.sessions _ (few-played script _ _ _ c.requires.played c.finished_of.ensures.legal c.views_are_a_tree.ensures.few
          c.shown_states_fit.ensures.begun c.shown_states_fit.ensures.each));
    }

pub returns : goal.returns
returns c =
    let script = c.args.reading.now.script in
    let history = c.args.played.board.history in
    let all : List FrameOut = finished script.setup history in
    let frames : c.as_slice-2.result.now ≡ map without_items all = c.as_slice-2.ensures ∙ c.in_ok-dones.ensures.frames in
    let dones : c.as_slice.result.now ≡ finish_lines (reverse history) = c.as_slice.ensures.value ∙ c.in_ok-dones.ensures.lines in
    let P : List ℕ → Type 0 = λ text. IfOk c.print_focus.result (λ written. written.items ≡ text) in
    subst P
    (ap (λ (lines : List FocusLine). focus_text script.sessions c.as_slice.result.now c.as_slice-2.result.now lines) c.as_slice-3.ensures
    ∙ ap (λ (ds : List ℕ). focus_text script.sessions ds c.as_slice-2.result.now c.args.reading.now.focus) dones
    ∙ ap (λ (fs : List FrameOut). focus_text script.sessions (finish_lines (reverse history)) fs c.args.reading.now.focus) frames
    ∙ c.focus_laws.ensures.items_play_no_part script.sessions (finish_lines (reverse history)) all c.args.reading.now.focus)
    c.print_focus.ensures
