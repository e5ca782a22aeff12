use Rattle.std.proofs.Common.{◌≡◌, refl, ℕ, ◌+◌, ◌<◌, List, length, arith, ◌∙◌, ap, subst, sym, true}
use Rattle.std.specs.Prelude.{nat_lt, nat_le}
use Rattle.std.proofs.lemmas.Bool.Decides.{nat_tests}
use Rattle.flat_base.specs.declared.ids.SessionNo.{SessionNo}
use Rattle.flat_scene.specs.Frames.{going}
use Rattle.flat_scene.specs.Setups.{is_declared}
use Rattle.flat_rules.specs.Numbers.{number}
use Rattle.flat_facts.specs.Told.{TellsTheSame}
use Rattle.flat_scene.specs.declared.journal.Entry.{Entry}
use Rattle.std.proofs.lemmas.List.{length-set}
use Rattle.std.proofs.lemmas.List.Sums.{sum_by-set}
use Rattle.flat_fence.specs.Fences.{has}
use Rattle.flat_states.specs.Machines.{due}
use Rattle.flat_links.specs.AllEnds.{due_back}
use Rattle.flat_facts.specs.Begins.{finish_entry, finished}
use Rattle.flat_rules.specs.Legal.{Legal, LegalEntry}
use Rattle.flat_gets.specs.Watchers.{WatchedUpTo}
use Rattle.flat_states.proofs.lemmas.BeginLoop.{posts-next}
use Rattle.flat_links.proofs.lemmas.DoneEnds.{EndsOf}
use Rattle.flat_states.proofs.lemmas.DoneSteps.{done-here, done-next, members-done, members-next, up-next}
use Rattle.flat_gets.proofs.lemmas.WatchingSteps.{watched-last}
use Rattle.flat_core.proofs.dones.done_all.Goals as goal

pub finish_one-count-requires-clause-others : goal.finish_one-count-requires-clause-others
finish_one-count-requires-clause-others g c out =
    let setup = c.args.end.now.setup.now in
    let i = c.loop-i.i in
    let s : SessionNo = record { 0 = i + 1 } in
    let below : i < setup.sessions = c.loop-i-test.true in
    let first : nat_lt 0 (i + 1) ≡ true = grind (arith, nat_tests) in
    let last : nat_le (i + 1) setup.sessions ≡ true = grind (arith, nat_tests) in
    let declared : is_declared setup s ≡ true = rw (first, last) refl in
    subst (λ (h : List Entry). TellsTheSame setup h (finished h c.args.end.now.line) s) (sym c.loop-i.invariant.history) (c.requires.others s declared out)

pub signal_lists-requires : goal.signal_lists-requires
signal_lists-requires g c =
    let inv = c.loop-i.invariant in
    let below : c.loop-i.i < length c.loop-i.sessions.items = omega (arith, inv.all, c.loop-i-test.true) in
    let kept = done-here c.args.end.now.setup.now c.args.log.now.history c.args.end.now.line c.loop-i.i c.loop-i.sessions.items c.index_mut-state.result.now
    inv.kept below c.index_mut-state.ensures.value in
    rw (c.as_slice.ensures.value, inv.size, c.requires.count) kept.going_below

pub loop-i-preserved : goal.loop-i-preserved
loop-i-preserved g c =
    let inv = c.loop-i.invariant in
    let e = c.finish_one-count.ensures in
    let i = c.loop-i.i in
    let setup = c.args.end.now.setup.now in
    let h = c.args.log.now.history in
    let line = c.args.end.now.line in
    let is = c.index_mut-state.ensures.value in
    let below : i < length c.loop-i.sessions.items = omega (arith, inv.all, c.loop-i-test.true) in
    let same : c.loop-i.log.history ≡ h = inv.history in
    let kept = done-here setup h line i c.loop-i.sessions.items c.index_mut-state.result.now inv.kept below is in
    let sums = sum_by-set due c.loop-i.sessions.items i c.finish_one-count.new.state c.index_mut-state.result.now below in
    let within : i < length c.loop-i.ends.items = omega (arith, inv.ends_all, c.loop-i-test.true) in
    let backs = sum_by-set due_back c.loop-i.ends.items i c.finish_one-count.new.ends c.index_mut-one.result.now within in
    let one_is = c.index_mut-one.ensures.value in
    let ends : EndsOf setup (finished h line) i c.finish_one-count.new.ends =
    subst (λ (k : List Entry). EndsOf setup (finished k line) i c.finish_one-count.new.ends) same e.ends in
    record {
      all = length-set c.loop-i.sessions.items i c.finish_one-count.new.state ∙ inv.all;
      kept = done-next setup c.loop-i.log.history h line i c.loop-i.sessions.items c.finish_one-count.new.state same inv.kept e.kept;
      ends_all = length-set c.loop-i.ends.items i c.finish_one-count.new.ends ∙ inv.ends_all;
      ends = up-next (EndsOf setup) h (finished h line) i c.loop-i.ends.items c.finish_one-count.new.ends inv.ends ends;
      watched = subst (λ (k : List Entry). WatchedUpTo setup (i + 1) (finished k line) k c.finish_one-count.new.watchers) same e.watched;
      size = c.signal_lists.ensures.size ∙ inv.size;
      members = λ g. members-next setup h h i g (has c.args.fences.now g) (has c.loop-i.fences g) (has c.signal_lists.new.fences g) refl (inv.members g)
          (members-done (has c.loop-i.fences g) (has c.signal_lists.new.fences g) _ (going setup h (number i)) g (c.signal_lists.ensures.members g)
          (c.as_slice.ensures.value ∙ kept.going));
      posts = posts-next setup c.loop-i.log.history h (finish_entry line) i c.args.log.now.posts c.loop-i.log.posts c.finish_one-count.new.log.posts same
          inv.posts e.posts;
      posted = omega (arith, e.count, inv.posted);
      history = e.history ∙ same;
      room = e.room ∙ inv.room;
      post_room = omega (arith, e.post_room, inv.post_room);
      due = omega (arith, sums, backs, ap due is, ap due_back one_is, e.due, inv.due);
    }

pub returns-clause-watched : goal.returns-clause-watched
returns-clause-watched g c =
    let setup = c.args.end.now.setup.now in
    let h = c.args.log.now.history in
    let inv = c.loop-i.invariant in
    let last : c.loop-i.i ≡ setup.sessions = omega (arith, c.loop-i.auto.i-end, c.loop-i-test.false) in
    let legal : Legal setup (finished h c.args.end.now.line) = (
      c.requires.legal,
      (let one : LegalEntry setup h (finish_entry c.args.end.now.line) = record { may = c.requires.may; reply = refl } in one),
    ) in
    let W : ℕ → Type 0 = λ n. WatchedUpTo setup n (finished h c.args.end.now.line) h c.loop-i.watchers in
    watched-last setup h c.args.end.now.line legal c.loop-i.watchers (subst W last inv.watched)
