use Rattle.std.proofs.Common.{◌≡◌, sym, drop, ◌+◌, [], ◌∷◌, List, subst, slice_index_or}
use Rattle.flat_scene.specs.declared.trees.ViewportUse.{ViewportUse}
use Rattle.flat_links.specs.Usage.{SeesUses}
use Rattle.flat_links.proofs.Marks.{drop-is, drop-end}
use Rattle.flat_links.proofs.UsageSteps.{sees-more, sees-none}
use Rattle.flat_links.proofs.noted.PairStates.see_uses.Goals as goal

pub loop-one-preserved : goal.loop-one-preserved
loop-one-preserved c last later =
    let i = c.loop-one.one-index in
    let uses = c.args.uses.now in
    let none : ViewportUse = record {
      serial = 0;
      pair = record { 0 = 0 };
      props = record { w = 0; h = 0; inset = record { top = 0; right = 0; bottom = 0; left = 0 } };
    } in
    let one : ViewportUse = slice_index_or uses i none in
    let rest : List ViewportUse = drop (i + 1) uses in
    let is : drop i uses ≡ one ∷ rest = drop-is uses i none c.loop-one-test.true in
    c.loop-one.invariant last
    (subst (λ (l : List ViewportUse). SeesUses l c.loop-one.self.items last) (sym is)
    (sees-more one rest c.loop-one.self.items c.see_use.new.self.items last c.see_use.ensures later))

pub returns : goal.returns
returns c =
    let none : drop c.loop-one.one-index c.args.uses.now ≡ [] = drop-end c.args.uses.now c.loop-one.one-index c.loop-one-test.false in
    c.loop-one.invariant c.loop-one.self.items (subst (λ (l : List ViewportUse). SeesUses l c.loop-one.self.items c.loop-one.self.items) (sym none)
    (sees-none c.loop-one.self.items))
