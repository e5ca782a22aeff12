use Rattle.std.proofs.Common.{rules}
use Rattle.std.specs.Prelude.{nat_lt}
use Rattle.std.proofs.lemmas.List.Sorted.{IsPartitionPoint-from_clause}
use Rattle.flat_graph.proofs.lemmas.NameLemmas.{place-from, rising-parts}
use Rattle.flat_graph.proofs.names.place_of.Goals as goal

pub returns : goal.returns
returns c =
    place-from c.args.id c.args.names.now c.partition_point.result c.partition_point.ensures.bound
    (IsPartitionPoint-from_clause (λ name. nat_lt name.id c.args.id) c.args.names.now c.partition_point.result c.partition_point.ensures.partitioned
    (rising-parts c.args.id c.args.names.now c.requires) (λ a r f k. search rules))
