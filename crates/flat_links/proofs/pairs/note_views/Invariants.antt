use Rattle.std.proofs.Common.{drop, List}
use Rattle.flat_links.specs.declared.pairs.PairState.{PairState}
use Rattle.flat_links.specs.Views.{EndsViews}
use Rattle.flat_links.proofs.pairs.note_views.Given as goal

-- what is left leads from here to the same end
abbrev pub invariant-loop-call : goal.invariant-loop-call
invariant-loop-call l = (last : List PairState) → EndsViews l.now (drop l.call-index l.calls) l.presents l.pairs last
    → EndsViews l.fn.view l.calls l.presents l.fn.pairs last
