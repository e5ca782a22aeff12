use Rattle.std.proofs.Common.{refl}
use Rattle.flat_gets.proofs.WatchedJoins.{watched-roomy}
use Rattle.flat_gets.proofs.watching.Watchers.reserve_use.Goals as goal

pub returns-clause-watched : goal.returns-clause-watched
returns-clause-watched c = λ setup history are.
    (watched-roomy setup history c.args.self.now _ c.args.p.0 c.index_mut.result.now c.reserve_use.new.self c.requires c.index_mut.ensures.value refl refl
    c.reserve_use.ensures.same are).0
