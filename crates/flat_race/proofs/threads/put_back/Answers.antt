use Rattle.std.proofs.Common.{rules, ◌≡◌, ℕ, ◌≤◌, ◌+◌, [], ◌∷◌, ◌++◌, length, length-append, refl, ap, sym, ◌∙◌, subst, arith}
use Rattle.flat_stage.specs.Homes.{SeatsView}
use Rattle.flat_base.proofs.lemmas.Tests.{and-left, and-right}
use Rattle.flat_play.proofs.lemmas.Places.{setup_is}
use Rattle.flat_play.proofs.lemmas.Starting.{few_sessions}
use Rattle.flat_race.specs.SessionThreads.{AreBack}
use Rattle.flat_race.specs.Sessions.{HasRun}
use Rattle.flat_race.proofs.Outs.{back-more, out-last}
use Rattle.flat_race.proofs.threads.put_back.Goals as goal

pub overflow_cast-session : goal.overflow_cast-session
overflow_cast-session g c =
    let popped : c.loop-last.out.items ≡ c.pop.new.self.items ++ c.in-Some.last ∷ [] = search rules in
    let long = ap length popped ∙ length-append c.pop.new.self.items (c.in-Some.last ∷ []) in
    let most : c.args.context.now.script.now.setup.sessions ≤ 16 =
    few_sessions c.args.context.now.script.now.setup (setup_is c.args.context.now.script.now c.requires.playable) in
    let few = c.loop-last.invariant.few in
    let is = c.len.ensures in
    omega (arith, long, most, few, is)

pub overflow_add-session : goal.overflow_add-session
overflow_add-session g c =
    let popped : c.loop-last.out.items ≡ c.pop.new.self.items ++ c.in-Some.last ∷ [] = search rules in
    let long = ap length popped ∙ length-append c.pop.new.self.items (c.in-Some.last ∷ []) in
    let most : c.args.context.now.script.now.setup.sessions ≤ 16 =
    few_sessions c.args.context.now.script.now.setup (setup_is c.args.context.now.script.now c.requires.playable) in
    let few = c.loop-last.invariant.few in
    let is = c.len.ensures in
    omega (arith, long, most, few, is)

pub wait-seat-requires : goal.wait-seat-requires
wait-seat-requires g c =
    let popped : c.loop-last.out.items ≡ c.pop.new.self.items ++ c.in-Some.last ∷ [] = search rules in
    let is : length c.pop.new.self.items ≡ c.len.result = search rules in
    (out-last c.args.context.now.stage.now c.args.context.now.script.now c.loop-last.out.items c.pop.new.self.items c.in-Some.last c.len.result popped is
    c.loop-last.invariant.out).0

pub loop-last-preserved : goal.loop-last-preserved
loop-last-preserved g c =
    let view = c.args.context.now.stage.now in
    let script = c.args.context.now.script.now in
    let was = c.loop-last.invariant in
    let left = c.pop.new.self.items in
    let back = c.wait-seat.result in
    let popped : c.loop-last.out.items ≡ left ++ c.in-Some.last ∷ [] = search rules in
    let long : length c.loop-last.out.items ≡ length left + 1 = ap length popped ∙ length-append left (c.in-Some.last ∷ []) in
    let few = was.few in
    let is : length left ≡ c.len.result = search rules in
    let S : ℕ → Type 0 = λ k. HasRun view script (record { 0 = k + 1 }) back in
    let run : HasRun view script (record { 0 = length left + 1 }) back = subst S (sym is) c.wait-seat.ensures in
    record {
      out = (out-last view script c.loop-last.out.items left c.in-Some.last (length left) popped refl was.out).1;
      few = omega (arith, long, few);
      own = ap (λ (s : SeatsView). s.stage) c.put.ensures ∙ was.own;
      back = back-more view script (length left) c.loop-last.are_whole c.both-are_whole.result c.loop-last.seats.seats c.put.new.self.seats back run
          (omega (arith, long, few)) (ap (λ (s : SeatsView). s.seats) c.put.ensures)
          (λ whole. let all = sym c.both-are_whole.ensures ∙ whole in
          (and-left c.loop-last.are_whole back.is_whole all, and-right c.loop-last.are_whole back.is_whole all))
          (let B : ℕ → Type 0 = λ k. AreBack view script k c.loop-last.are_whole c.loop-last.seats.seats in subst B long was.back);
    }
