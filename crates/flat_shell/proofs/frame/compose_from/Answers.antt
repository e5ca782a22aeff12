use Rattle.std.proofs.Common.{arith}
use Rattle.flat_shell.proofs.Living.{few_then}
use Rattle.flat_shell.proofs.frame.compose_from.Goals as goal

pub compose_next-requires-clause-few : goal.compose_next-requires-clause-few
compose_next-requires-clause-few c =
    let number = c.in_ok-last.ensures.number in
    let few = few_then c.journals_keep_seats.ensures.seats c.args.keeper.now c.args.compositor.now.display c.requires.kept in
    omega (arith, number, few)
