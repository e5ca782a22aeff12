use Rattle.std.proofs.Common.{ℕ, List, ◌≡◌, ◌+◌, ◌++◌, ◌∷◌, [], ◌∙◌, ap, sym, refl, rules, map, length}
use Rattle.flat_page.specs.Happenings.{Happening, said, finished, merged, all_lines}
use Rattle.flat_page.proofs.lemmas.Merging.{left, fewer, merged-parted}
use Rattle.flat_page.proofs.lemmas.PageLemmas.{same_lines}
use Rattle.flat_page.proofs.lemmas.Telling.{then_later}
use Rattle.flat_focus.specs.Chains.{Focusing}
use Rattle.flat_focus.specs.declared.text.FocusLine.{FocusLine}
use Rattle.flat_focus.specs.Steps.{lines_with, after}
use Rattle.flat_focus.proofs.Rooms.{few-first, few-rest}
use Rattle.flat_focus.proofs.Telling.{sessions-stay}
use Rattle.flat_focus.proofs.text.+push_happenings.Goals as goal

pub push_done-requires : goal.push_done-requires
push_done-requires t c = few-first c.args.focus.now.sessions c.args.frames.now c.frame-item.result c.in-len1-up-frames.len_at_least c.frame-item.is c.requires

pub push_happenings-requires : goal.push_happenings-requires
push_happenings-requires t c =
    let less : length (left c.args.frames.now) + 1 ≡ length c.args.frames.now = fewer c.args.frames.now c.in-len1-up-frames.len_at_least in
    let same : c.push_done.new.focus.sessions ≡ c.args.focus.now.sessions
    = ap (λ (f : Focusing). f.sessions) c.in_ok-push_done-in-len1-up-frames.ensures.after
    ∙ sessions-stay (map said c.split_at.result.0.now ++ finished c.frame-item.result ∷ []) c.args.focus.now in (
      search rules,
      few-rest c.args.focus.now.sessions c.push_done.new.focus.sessions c.args.frames.now c.frame-item.result c.in-len1-up-frames.len_at_least same
          c.requires,
    )

pub returns-in_ok-push_happenings-in-len1-up-frames : goal.returns-in_ok-push_happenings-in-len1-up-frames
returns-in_ok-push_happenings-in-len1-up-frames t c =
    let number : FocusLine → ℕ = λ line. line.number in
    let early : List (Happening FocusLine) = map said c.split_at.result.0.now ++ finished c.frame-item.result ∷ [] in
    let later : List (Happening FocusLine) = merged number (left c.args.dones.now) (left c.args.frames.now) c.split_at.result.1.now in
    let all = merged-parted number c.args.dones.now c.args.frames.now c.args.lines.now c.split_at.result.0.now c.split_at.result.1.now _ c.count_before.result
    c.frame-item.result c.in-len1-up.len_at_least
    c.in-len1-up-frames.len_at_least refl c.frame-item.is c.count_before.ensures c.split_at.ensures.front c.split_at.ensures.back in
    same_lines (ap (all_lines (lines_with c.args.names.now) after c.args.focus.now) (sym all))
    (then_later (lines_with c.args.names.now) after c.args.focus.now c.push_done.new.focus early later c.in_ok-push_done-in-len1-up-frames.ensures.after
    c.in_ok-push_done-in-len1-up-frames.ensures.text c.in_ok-push_happenings-in-len1-up-frames.ensures)
