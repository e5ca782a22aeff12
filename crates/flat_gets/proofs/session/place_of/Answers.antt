use Rattle.std.proofs.Common.{rules}
use Rattle.std.specs.Prelude.{nat_lt}
use Rattle.std.proofs.lemmas.List.Sorted.{IsPartitionPoint-from_clause}
use Rattle.flat_base.specs.declared.ids.PairNo.{PairNo}
use Rattle.flat_gets.proofs.PairLists.{parted}
use Rattle.flat_gets.proofs.session.place_of.Goals as goal

pub returns-clause-point : goal.returns-clause-point
returns-clause-point c = IsPartitionPoint-from_clause (λ (q : PairNo). nat_lt q.0 c.args.p.0) _ _ c.partition_point.ensures.partitioned
    (parted c.args.p.0 c.args.listed.now c.requires) (λ a r q k. search rules)
