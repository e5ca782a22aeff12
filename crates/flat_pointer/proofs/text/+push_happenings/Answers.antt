use Rattle.std.proofs.Common.{ℕ, List, ◌≡◌, ◌+◌, ◌++◌, ◌∷◌, [], ap, sym, refl, subst, rules, map, length}
use Rattle.flat_page.specs.Happenings.{Happening, said, finished, merged, all_lines}
use Rattle.flat_page.proofs.lemmas.Merging.{left, fewer, merged-parted}
use Rattle.flat_page.proofs.lemmas.PageLemmas.{same_lines}
use Rattle.flat_page.proofs.lemmas.Telling.{then_later}
use Rattle.flat_pointer.specs.declared.text.PointerTouch.{PointerTouch}
use Rattle.flat_pointer.specs.Steps.{lines_with, after, ArePointers}
use Rattle.flat_pointer.proofs.Telling.{pointers_parted}
use Rattle.flat_pointer.proofs.text.+push_happenings.Goals as goal

pub push_done-requires : goal.push_done-requires
push_done-requires t c = subst (λ (touches : List PointerTouch). ArePointers touches) (sym c.split_at.ensures.front)
    (pointers_parted c.args.touches.now c.count_before.result c.requires).0

pub push_happenings-requires : goal.push_happenings-requires
push_happenings-requires t c =
    let less : length (left c.args.frames.now) + 1 ≡ length c.args.frames.now = fewer c.args.frames.now c.in-len1-up-frames.len_at_least in (
      search rules,
      subst (λ (touches : List PointerTouch). ArePointers touches) (sym c.split_at.ensures.back)
          (pointers_parted c.args.touches.now c.count_before.result c.requires).1,
    )

pub returns-in_ok-push_happenings-in-len1-up-frames : goal.returns-in_ok-push_happenings-in-len1-up-frames
returns-in_ok-push_happenings-in-len1-up-frames t c =
    let number : PointerTouch → ℕ = λ touch. touch.line.number in
    let early : List (Happening PointerTouch) = map said c.split_at.result.0.now ++ finished c.frame-item.result ∷ [] in
    let later : List (Happening PointerTouch) = merged number (left c.args.dones.now) (left c.args.frames.now) c.split_at.result.1.now in
    let all = merged-parted number c.args.dones.now c.args.frames.now c.args.touches.now c.split_at.result.0.now c.split_at.result.1.now _ c.count_before.result
    c.frame-item.result c.in-len1-up.len_at_least
    c.in-len1-up-frames.len_at_least refl c.frame-item.is c.count_before.ensures c.split_at.ensures.front c.split_at.ensures.back in
    same_lines (ap (all_lines (lines_with c.args.names.now) after c.args.pointers.now) (sym all))
    (then_later (lines_with c.args.names.now) after c.args.pointers.now c.push_done.new.pointers early later c.in_ok-push_done-in-len1-up-frames.ensures.after
    c.in_ok-push_done-in-len1-up-frames.ensures.text
    c.in_ok-push_happenings-in-len1-up-frames.ensures)
