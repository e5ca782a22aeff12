use Rattle.std.proofs.Common.{◌≡◌, drop, ◌+◌, [], ◌∷◌, List, subst, slice_index_or}
use Rattle.flat_base.specs.declared.ids.PairNo.{PairNo}
use Rattle.flat_links.proofs.Marks.{drop-is, drop-end}
use Rattle.flat_links.proofs.NotedPairs.{SettledBut, settled-end, settled-on, settled-start}
use Rattle.flat_links.proofs.usage.settle_noted.Goals as goal

pub loop-p-init : goal.loop-p-init
loop-p-init c = settled-start c.args.noted.now c.args.pairs.now.items c.requires

pub loop-p-preserved : goal.loop-p-preserved
loop-p-preserved c =
    let i = c.loop-p.p-index in
    let noted = c.args.noted.now in
    let none : PairNo = record { 0 = 0 } in
    let one : PairNo = slice_index_or noted i none in
    let rest : List PairNo = drop (i + 1) noted in
    let is : drop i noted ≡ one ∷ rest = drop-is noted i none c.loop-p-test.true in
    settled-on one rest c.args.pairs.now.items c.loop-p.pairs.items c.settle_one.new.pairs.items c.settle_one.ensures
    (subst (λ (l : List PairNo). SettledBut l c.args.pairs.now.items c.loop-p.pairs.items) is c.loop-p.invariant)

pub returns : goal.returns
returns c =
    let none : drop c.loop-p.p-index c.args.noted.now ≡ [] = drop-end c.args.noted.now c.loop-p.p-index c.loop-p-test.false in
    settled-end c.args.pairs.now.items c.loop-p.pairs.items
    (subst (λ (l : List PairNo). SettledBut l c.args.pairs.now.items c.loop-p.pairs.items) none c.loop-p.invariant)
