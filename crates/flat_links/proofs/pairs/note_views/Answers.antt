use Rattle.std.proofs.Common.{◌≡◌, ◌∙◌, sym, ap, drop, ◌+◌, [], ◌∷◌, List, subst}
use Rattle.std.specs.Prelude.{Option}
use Rattle.flat_base.specs.declared.ids.PairNo.{PairNo}
use Rattle.flat_scene.specs.declared.calls.Call.{Call}
use Rattle.flat_facts.specs.Views.{view_then}
use Rattle.flat_links.specs.Views.{EndsViews}
use Rattle.flat_links.proofs.Marks.{drop-is, drop-end}
use Rattle.flat_links.proofs.ViewMarks.{ends-more, ends-none}
use Rattle.flat_links.proofs.pairs.note_views.Goals as goal

pub loop-call-preserved : goal.loop-call-preserved
loop-call-preserved c last later =
    let i = c.loop-call.call-index in
    let calls = c.args.calls.now in
    let call = c.call-item.result in
    let rest : List Call = drop (i + 1) calls in
    let is : drop i calls ≡ call ∷ rest = drop-is calls i call c.loop-call-test.true ∙ ap (λ (x : Call). x ∷ rest) (sym c.call-item.is) in
    let then : c.view_then-now.result ≡ view_then c.loop-call.now call = c.view_then-now.ensures in
    let moved : EndsViews (view_then c.loop-call.now call) rest c.args.presents c.note_one.new.pairs last =
    subst (λ (v : Option PairNo). EndsViews v rest c.args.presents c.note_one.new.pairs last) then later in
    c.loop-call.invariant last
    (subst (λ (cs : List Call). EndsViews c.loop-call.now cs c.args.presents c.loop-call.pairs last) (sym is)
    (ends-more c.loop-call.now call rest c.args.presents c.loop-call.pairs c.note_one.new.pairs last c.note_one.ensures moved))

pub returns : goal.returns
returns c =
    let none : drop c.loop-call.call-index c.args.calls.now ≡ [] = drop-end c.args.calls.now c.loop-call.call-index c.loop-call-test.false in
    c.loop-call.invariant c.loop-call.pairs
    (subst (λ (cs : List Call). EndsViews c.loop-call.now cs c.args.presents c.loop-call.pairs c.loop-call.pairs) (sym none)
    (ends-none c.loop-call.now c.args.presents c.loop-call.pairs))
