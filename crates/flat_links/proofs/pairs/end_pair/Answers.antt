use Rattle.std.proofs.Common.{ℕ, None, arith, ap, slice_index_or}
use Rattle.std.specs.Prelude.{Option}
use Rattle.flat_links.specs.declared.pairs.PairState.{PairState}
use Rattle.flat_links.proofs.ViewMarks.{ends-at, ends-beyond, with_end}
use Rattle.flat_links.proofs.pairs.end_pair.Goals as goal

pub returns-then-place-pairs : goal.returns-then-place-pairs
returns-then-place-pairs c =
    let d : PairState = record { ended = None; cleared = None; serial = 0; given = None; seen = None; pending = None } in
    ends-at c.args.p c.args.presents c.args.pairs.now _ d c.if-place-pairs.true
    (ap (λ (stamp : Option ℕ). with_end (slice_index_or c.args.pairs.now c.args.p.0 d) stamp) c.stamp_then-ended.ensures)

pub returns-else-place-pairs : goal.returns-else-place-pairs
returns-else-place-pairs c = ends-beyond c.args.p c.args.presents c.args.pairs.now (λ below. absurd (omega (arith, below, c.if-place-pairs.false)))
