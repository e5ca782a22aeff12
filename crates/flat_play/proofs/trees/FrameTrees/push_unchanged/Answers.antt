use Rattle.std.proofs.Common.{◌≡◌, List, [], ◌∷◌, ◌++◌, map, Option, Some, None, sym, ap, ◌∙◌}
use Rattle.flat_scene.specs.declared.frames.DrawItem.{DrawItem}
use Rattle.flat_scene.specs.declared.frames.FrameOut.{FrameOut}
use Rattle.flat_page.specs.Steps.{without_items}
use Rattle.flat_report.specs.FrameTexts.{unchanged}
use Rattle.flat_play.specs.Keeping.{listed}
use Rattle.flat_play.proofs.KeptTrees.{tree-more}
use Rattle.flat_play.proofs.trees.FrameTrees.push_unchanged.Goals as goal

-- there is a last frame
pub returns-in_default : goal.returns-in_default
returns-in_default c = λ frames last were is. absurd (let wrong : None ≡ Some last = sym c.in_default.is ∙ c.take.ensures.value ∙ were.last ∙ is in cc)

pub returns : goal.returns
returns c = λ frames last were is.
    let old = c.args.self.now in
    let there : old.last ≡ Some c.in-Some.last = sym c.take.ensures.value ∙ c.in-Some.is in
    let one : c.in-Some.last ≡ last = (let both : Some c.in-Some.last ≡ Some last = sym there ∙ were.last ∙ is in cc) in
    let before : c.push.new.self ≡ old.before ++ map without_items (listed old.last) =
    c.in_ok-push.ensures.ok ∙ ap (λ (pair : FrameOut × List DrawItem). old.before ++ pair.0 ∷ []) c.apart-before.ensures
    ∙ ap (λ (it : Option FrameOut). old.before ++ map without_items (listed it)) (sym there) in
    let items : c.apart-before.result.1 ≡ last.items = ap (λ (pair : FrameOut × List DrawItem). pair.1) c.apart-before.ensures
    ∙ ap (λ (f : FrameOut). f.items) one in
    let frame : List DrawItem → FrameOut = λ xs. record { frame = c.args.number; items = xs; tree = c.args.tree } in
    tree-more frames (unchanged c.args.number c.args.tree last) old _ before (ap (λ (xs : List DrawItem). Some (frame xs)) items) were
