use Rattle.std.proofs.Common.{◌≡◌, List, [], ◌∷◌, ◌++◌, map, Option, sym, ap, ◌∙◌, append-nil}
use Rattle.flat_scene.specs.declared.frames.FrameOut.{FrameOut}
use Rattle.flat_page.specs.Steps.{without_items}
use Rattle.flat_play.specs.Keeping.{listed}
use Rattle.flat_play.proofs.trees.FrameTrees.into_frames.Goals as goal
use Rattle.flat_play.proofs.trees.FrameTrees.into_frames.Goals.{in-Some+in_ok-push, in_default}

pub returns : goal.returns
returns c = λ frames are.
    let own = c.args.self in
    let kept : Option FrameOut → List FrameOut = λ last. own.before ++ map without_items (listed last) in
    let all : c.match-last.before ≡ kept own.last =
    elim c.match-last.branch [
      | in-Some+in_ok-push w ↦
          w.before-is ∙ w.in_ok-push.ensures.ok
          ∙ ap (λ (tree : FrameOut). own.before ++ tree ∷ []) w.without_items-tree.ensures
          ∙ ap kept (sym w.in-Some.is)
      | in_default w ↦
          w.before-is ∙ sym (append-nil own.before) ∙ ap kept (sym w.in_default.is)
    ]
    in
    all ∙ are.before
