use Rattle.std.proofs.Common.{rules, ◌≡◌, [], ◌∷◌, ◌++◌}
use Rattle.flat_race.proofs.Probed.{home-without, probe-out}
use Rattle.std.proofs.lemmas.Result.{IfOk-from_err}
use Rattle.flat_race.proofs.probe_threads.start_probes.Goals as goal

pub loop-probe-preserved : goal.loop-probe-preserved
loop-probe-preserved g c =
    let was = c.loop-probe.invariant in
    let pushed : c.push_back_reserved.new.self.items ≡ c.loop-probe.out.items ++ c.start-started.result ∷ [] = search rules in
    record {
      out = probe-out c.args.context.now.script.now c.args.published.now.home c.loop-probe.out.items c.push_back_reserved.new.self.items c.start-started.result
          c.loop-probe.probe pushed was.many (search rules) was.out;
      many = search rules;
      room = search rules;
      left = home-without c.args.published.now.home c.loop-probe.probe c.args.context.now.script.now.setup.probes c.loop-probe.probes c.take.new.self
          (search rules) was.left;
    }

pub returns-in_err-out-clause-out : goal.returns-in_err-out-clause-out
returns-in_err-out-clause-out g c = IfOk-from_err _ _ c.from_residual.ensures.0

pub returns-in_err-out-clause-many : goal.returns-in_err-out-clause-many
returns-in_err-out-clause-many g c = IfOk-from_err _ _ c.from_residual.ensures.0

pub start-started-requires-clause-playable : goal.start-started-requires-clause-playable
start-started-requires-clause-playable g c κs within = c.requires.playable
