use Rattle.std.proofs.Common.{◌≡◌, drop, ◌+◌, [], ◌∷◌, List, Bool, false, subst, slice_index_or}
use Rattle.flat_base.specs.declared.ids.PairNo.{PairNo}
use Rattle.flat_links.specs.Hearing.{AreSettledBut, HearsOne}
use Rattle.flat_links.specs.Noted.{AreNoted, KeptPairs, is_noted}
use Rattle.flat_links.specs.declared.pairs.PairState.{PairState}
use Rattle.flat_links.proofs.Heard.{AreHeardBut, heard-last, heard-next}
use Rattle.flat_links.proofs.Marks.{drop-is, drop-end}
use Rattle.flat_links.proofs.noted.PairStates.heard.Goals as goal

pub loop-p-init : goal.loop-p-init
loop-p-init c i d w below owner some few out none =
    let noted = subst (λ (b : Bool). AreNoted b c.self.inside.noted.items c.self.inside.states.items) c.if-self.false c.self.invariant in
    noted i d below (subst (λ (all : List PairNo). is_noted i all ≡ false) c.as_slice-p-items.ensures none)

pub loop-p-preserved : goal.loop-p-preserved
loop-p-preserved c =
    let all = c.as_slice-p-items.result.now in
    let i = c.loop-p.p-index in
    let none : PairNo = record { 0 = 0 } in
    let p : PairNo = slice_index_or all i none in
    let rest : List PairNo = drop (i + 1) all in
    let is : drop i all ≡ p ∷ rest = drop-is all i none c.loop-p-test.true in
    let states = c.self.inside.states.items in
    let hears = subst (λ (pairs : List PairState). HearsOne c.args.setup.now p pairs c.loop-p.heard c.hear_one.new.heard) c.as_slice.ensures.value
    c.hear_one.ensures in
    heard-next p rest c.loop-p.heard c.hear_one.new.heard c.args.setup.now states hears
    (subst (λ (l : List PairNo). AreHeardBut l c.loop-p.heard c.args.setup.now states) is c.loop-p.invariant)

pub returns : goal.returns
returns c =
    let none : drop c.loop-p.p-index c.as_slice-p-items.result.now ≡ [] = drop-end c.as_slice-p-items.result.now c.loop-p.p-index c.loop-p-test.false in
    let states = c.self.inside.states.items in
    let P : KeptPairs → Type 0 = λ kept. AreSettledBut c.loop-p.heard c.args.setup.now kept.items in
    subst P c.self.view_is (heard-last c.loop-p.heard c.args.setup.now states
    (subst (λ (l : List PairNo). AreHeardBut l c.loop-p.heard c.args.setup.now states) none c.loop-p.invariant))
