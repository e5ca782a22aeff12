-- In a text whose frames have view trees, all events have.
use Rattle.std.proofs.Common.{ℕ, ◌≡◌, refl, sym, ap, ◌∙◌, Bool, true, ◌&&◌, List, [], ◌∷◌, ◌++◌, take, drop, map}
use Rattle.std.specs.List.{list_all}
use Rattle.std.proofs.lemmas.List.Folds.{list_all-append}
use Rattle.flat_base.proofs.lemmas.Tests.{and-left, and-right, and-true}
use Rattle.flat_scene.specs.declared.frames.FrameOut.{FrameOut}
use Rattle.flat_scene.specs.ViewShapes.{is_tree}
use Rattle.flat_page.specs.Happenings.{Happening, finished, said, count_before, merged}
use Rattle.flat_page.specs.Steps.{after_all}
use Rattle.flat_focus.specs.declared.text.FocusLine.{FocusLine}
use Rattle.flat_focus.specs.Events.{FocusEvent, frame, ask}
use Rattle.flat_focus.specs.Laws.{ChainsInTexts, are_trees, events_of}
use Rattle.flat_focus.specs.Text.{event_of}
use Rattle.flat_focus.proofs.Chaining.{chains-are-paths}

abbrev has_tree : FrameOut → Bool
has_tree out = is_tree out.tree.nodes

-- whether what happens is no frame, or one whose views are a tree
abbrev may_be_tree : Happening FocusLine → Bool
may_be_tree (finished out) = has_tree out
may_be_tree (said line) = true

trees-more : (happenings : List (Happening FocusLine)) (before : List FocusEvent) → list_all may_be_tree happenings ≡ true → are_trees before ≡ true
    → are_trees (after_all (λ one before. event_of one ∷ before) happenings before) ≡ true
trees-more [] before all trees = trees
trees-more (finished out ∷ later) before all trees =
    trees-more later (frame out.tree.nodes ∷ before) (and-right (has_tree out) (list_all may_be_tree later) all)
    (and-true (and-left (has_tree out) (list_all may_be_tree later) all) trees)
trees-more (said line ∷ later) before all trees = trees-more later (ask line.by line.of ∷ before) (and-right true (list_all may_be_tree later) all) trees

all-said : (lines : List FocusLine) → list_all may_be_tree (map said lines) ≡ true
all-said [] = refl
all-said (line ∷ lines) = all-said lines

all-merged : (number : FocusLine → ℕ) (dones : List ℕ) (frames : List FrameOut) (lines : List FocusLine) → list_all has_tree frames ≡ true
    → list_all may_be_tree (merged number dones frames lines) ≡ true
all-merged number [] frames lines all = all-said lines
all-merged number (done ∷ dones) [] lines all = all-said lines
all-merged number (done ∷ dones) (out ∷ frames) lines all =
    let n : ℕ = count_before number done lines in
    let later : list_all may_be_tree (merged number dones frames (drop n lines)) ≡ true =
    all-merged number dones frames (drop n lines) (and-right (has_tree out) (list_all has_tree frames) all) in
    list_all-append may_be_tree (map said (take n lines)) (finished out ∷ merged number dones frames (drop n lines))
    ∙ and-true (all-said (take n lines)) (and-true (and-left (has_tree out) (list_all has_tree frames) all) later)

pub chains-in-texts : ChainsInTexts
chains-in-texts dones frames lines all early late parted =
    let whole : list_all may_be_tree (early ++ late) ≡ true =
    ap (list_all may_be_tree) (sym parted) ∙ all-merged (λ line. line.number) dones frames lines all in
    let both : (list_all may_be_tree early && list_all may_be_tree late) ≡ true = sym (list_all-append may_be_tree early late) ∙ whole in
    chains-are-paths (events_of early) (trees-more early [] (and-left (list_all may_be_tree early) (list_all may_be_tree late) both) refl)
