use Rattle.std.proofs.Common.{◌≡◌, List, [], ◌∷◌, ◌++◌, map, Option, refl, sym, ap, ◌∙◌, append-nil}
use Rattle.flat_scene.specs.declared.frames.FrameOut.{FrameOut}
use Rattle.flat_page.specs.Steps.{without_items}
use Rattle.flat_play.specs.declared.trees.FrameTrees.{FrameTrees}
use Rattle.flat_play.specs.Keeping.{listed}
use Rattle.flat_play.proofs.KeptTrees.{tree-more}
use Rattle.flat_play.proofs.trees.FrameTrees.push.Goals as goal
use Rattle.flat_play.proofs.trees.FrameTrees.push.Goals.{in-Some+in_ok-push, in_default}

pub returns : goal.returns
returns c = λ frames were.
    let old = c.args.self.now in
    let kept : Option FrameOut → List FrameOut = λ last. old.before ++ map without_items (listed last) in
    let before : c.match-take.self.before ≡ kept old.last =
    elim c.match-take.branch [
      | in-Some+in_ok-push w ↦
          ap (λ (it : FrameTrees). it.before) w.self-is ∙ w.in_ok-push.ensures.ok
          ∙ ap (λ (tree : FrameOut). old.before ++ tree ∷ []) w.without_items-tree.ensures
          ∙ ap kept (sym w.in-Some.is ∙ c.take.ensures.value)
      | in_default w ↦
          ap (λ (it : FrameTrees). it.before) w.self-is ∙ sym (append-nil old.before) ∙ ap kept (sym w.in_default.is ∙ c.take.ensures.value)
    ]
    in
    tree-more frames c.args.frame old _ before refl were
