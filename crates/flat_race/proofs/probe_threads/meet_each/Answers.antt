use Rattle.std.proofs.Common.{rules, ◌≡◌, ◌+◌, ◌≤◌, ◌∷◌, length, ap, ◌∙◌, subst, arith}
use Rattle.flat_publish.specs.State.{Publishing}
use Rattle.flat_publish.specs.Frames.{last_number}
use Rattle.flat_report.specs.Report.{probe_lines_of}
use Rattle.flat_report.specs.Probes.{AreAnsweredBy}
use Rattle.flat_race.specs.Publishing.{hits_of}
use Rattle.flat_play.proofs.lemmas.Places.{setup_is}
use Rattle.flat_race.proofs.Probed.{few-fits, few-probes, answered-more, probe-next}
use Rattle.flat_race.proofs.Settled.{last-stays}
use Rattle.flat_race.proofs.probe_threads.meet_each.Goals as goal

pub overflow_add-probe : goal.overflow_add-probe
overflow_add-probe g c =
    let many = c.loop-next.invariant.many in
    let first : c.loop-next.out.items ≡ c.in-Some.next ∷ c.pop_front.new.self.items = search rules in
    let long = ap length first in
    let few : c.args.script.now.setup.probes ≤ 8 = few-probes c.args.script.now.setup (setup_is c.args.script.now c.requires.playable) in
    let sum : c.loop-next.probe + 1 ≤ 8 = omega (arith, many, long, few) in
    few-fits (c.loop-next.probe + 1) sum

pub loop-next-preserved : goal.loop-next-preserved
loop-next-preserved g c =
    let script = c.args.script.now in
    let was = c.loop-next.invariant in
    let first : c.loop-next.out.items ≡ c.in-Some.next ∷ c.pop_front.new.self.items = search rules in
    let long = ap length first in
    let many = was.many in
    let out = probe-next script c.args.published.now.home c.loop-next.probe c.loop-next.out.items c.pop_front.new.self.items c.in-Some.next first was.out in
    record {
      same = c.meet.ensures.same ∙ was.same;
      stays = let now = c.in-Ok.ensures.stays in record {
        frame = now.frame ∙ was.stays.frame;
        ratio = now.ratio ∙ was.stays.ratio;
        reuse = now.reuse ∙ was.stays.reuse;
        is = now.is;
      };
      out = out.1;
      many = omega (arith, many, long);
      answered = answered-more script (record { home = c.args.published.now.home; frames = c.args.published.now.frames }) c.loop-next.probe
          c.loop-next.answers.items c.push.new.self.items c.in-Ok.met (search rules)
          (subst (λ (p : Publishing). AreAnsweredBy (hits_of p.frames) (last_number p.frames) (probe_lines_of c.loop-next.probe script.lines) c.in-Ok.met)
          was.same (c.in-Ok.ensures.answered (probe_lines_of c.loop-next.probe script.lines) c.wait-back.ensures.answered)) was.answered;
    }

pub meet-requires-clause-setup : goal.meet-requires-clause-setup
meet-requires-clause-setup g c = setup_is c.args.script.now c.requires.playable

pub meet-requires-clause-is : goal.meet-requires-clause-is
meet-requires-clause-is g c = c.loop-next.invariant.stays.is

pub meet-requires-clause-last : goal.meet-requires-clause-last
meet-requires-clause-last g c =
    let was = c.loop-next.invariant in
    let many = was.many in
    let first : c.loop-next.out.items ≡ c.in-Some.next ∷ c.pop_front.new.self.items = search rules in
    let long = ap length first in
    last-stays c.args.script.now.setup c.args.last.now c.loop-next.last c.args.published.now c.loop-next.published was.stays was.same
    (c.requires.last (omega (arith, many, long)))

pub returns-in_default-meet-clause-answered : goal.returns-in_default-meet-clause-answered
returns-in_default-meet-clause-answered g c = tt

pub returns-in_default-meet-clause-stays : goal.returns-in_default-meet-clause-stays
returns-in_default-meet-clause-stays g c = tt

pub returns-in_default-meet-clause-same : goal.returns-in_default-meet-clause-same
returns-in_default-meet-clause-same g c = c.meet.ensures.same ∙ c.loop-next.invariant.same

pub returns-in_default-push-clause-answered : goal.returns-in_default-push-clause-answered
returns-in_default-push-clause-answered g c = tt

pub returns-in_default-push-clause-stays : goal.returns-in_default-push-clause-stays
returns-in_default-push-clause-stays g c = tt

pub returns-in_default-push-clause-same : goal.returns-in_default-push-clause-same
returns-in_default-push-clause-same g c = c.meet.ensures.same ∙ c.loop-next.invariant.same

pub returns-clause-stays : goal.returns-clause-stays
returns-clause-stays g c = c.loop-next.invariant.stays

pub returns-clause-same : goal.returns-clause-same
returns-clause-same g c = c.loop-next.invariant.same
