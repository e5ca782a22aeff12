use Rattle.std.proofs.Common.{ℕ, ◌++◌, ◌∷◌, [], ◌∙◌, ap, subst, List, length}
use Rattle.flat_page.specs.Happenings.{all_lines, merged}
use Rattle.flat_page.specs.Words.{text_of}
use Rattle.flat_places.specs.Forms.{Word}
use Rattle.flat_page.specs.Pages.{WritesLines}
use Rattle.flat_page.proofs.lemmas.PageLemmas.{all-put, then_lines}
use Rattle.flat_focus.specs.declared.text.FocusLine.{FocusLine}
use Rattle.flat_focus.specs.Chains.{Focusing}
use Rattle.flat_focus.specs.Text.{end_line}
use Rattle.flat_focus.specs.Steps.{after, lines_with}
use Rattle.flat_focus.proofs.Telling.{lines-follow}
use Rattle.flat_focus.proofs.text.print_focus.Goals as goal

pub returns : goal.returns
returns c =
    let number : FocusLine → ℕ = λ line. line.number in
    let P : Focusing → Type 0 = λ focus. WritesLines
    (all_lines (lines_with c.args.names.now) after focus (merged number c.args.dones.now c.args.frames.now c.args.lines.now)
    ++ end_line (length c.args.lines.now) ∷ []) c.new-page.result c.ends.new.self in
    let put = subst P c.in_ok-focus.ensures (then_lines c.in_ok-push_happenings.ensures c.in_ok-ends.ensures) in
    c.into_text.ensures ∙ all-put _ _ _ c.new-page.ensures put.text
    ∙ ap (λ (lines : List (List Word)). text_of (lines ++ end_line (length c.args.lines.now) ∷ []))
    (lines-follow c.args.names.now c.args.sessions (merged number c.args.dones.now c.args.frames.now c.args.lines.now))
