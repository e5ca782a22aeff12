use Rattle.std.proofs.Common.{◌≡◌, ◌<◌, ℕ, length, arith, ◌∙◌, ap, sym, refl, subst, None}
use Rattle.std.proofs.lemmas.List.{append-nil}
use Rattle.flat_rules.specs.Numbers.{AllNumbered}
use Rattle.std.proofs.lemmas.List.{length-set}
use Rattle.std.proofs.lemmas.List.Sums.{sum_by-set}
use Rattle.flat_states.specs.Machines.{due}
use Rattle.flat_facts.specs.Begins.{begin_entry, begun}
use Rattle.flat_states.proofs.lemmas.BeginLoop.{ShownUpTo, kept-start, shown-start, kept-next, shown-next, shown-there, shown-end, posts-next}
use Rattle.flat_rules.specs.Ends.{to_begin}
use Rattle.flat_rules.specs.Shown.{shown}
use Rattle.flat_rules.proofs.lemmas.ShownList.{listed, each-listed}
use Rattle.flat_core.proofs.Changes.{changes-both}
use Rattle.flat_core.proofs.begins.begin_all.Goals as goal

pub loop-i-preserved : goal.loop-i-preserved
loop-i-preserved c =
    let inv = c.loop-i.invariant in
    let e = c.begin_one-count.ensures in
    let i = c.loop-i.i in
    let setup = c.args.begin.setup.now in
    let h = c.args.log.now.history in
    let line = c.args.begin.line in
    let time = c.args.begin.time in
    let is = c.index_mut-state.ensures.value in
    let below : i < length c.loop-i.sessions.items = omega (arith, inv.all, c.loop-i-test.true) in
    let same : c.loop-i.log.history ≡ h = inv.history in
    let after = shown-next setup c.loop-i.log.history h line time i c.loop-i.into c.begin_one-count.new.into same e.shown inv.shown_count inv.shown in
    let sums = sum_by-set due c.loop-i.sessions.items i c.begin_one-count.new.state c.index_mut-state.result.now below in
    record {
      all = length-set c.loop-i.sessions.items i c.begin_one-count.new.state ∙ inv.all;
      kept = kept-next setup c.loop-i.log.history h line time i c.loop-i.sessions.items c.begin_one-count.new.state same inv.kept e.kept;
      shown_count = after.0;
      shown = after.1;
      changes = changes-both _ _ _ _ _ _ inv.changes e.changes;
      posts = posts-next setup c.loop-i.log.history h (begin_entry line time) i c.args.log.now.posts c.loop-i.log.posts c.begin_one-count.new.log.posts same
          inv.posts e.posts;
      posted = omega (arith, e.count, inv.posted);
      history = e.history ∙ same;
      room = e.room ∙ inv.room;
      post_room = omega (arith, e.post_room, inv.post_room);
      due = omega (arith, sums, ap due is, e.due, inv.due);
    }

pub loop-i-init : goal.loop-i-init
loop-i-init c =
    let setup = c.args.begin.setup.now in
    let h = c.args.log.now.history in
    let states = each-listed (shown setup (to_begin h)) c.args.into.now setup.sessions c.requires.shown in
    record {
      all = c.requires.all;
      kept = kept-start setup h c.args.begin.line c.args.begin.time c.args.sessions.now.items c.requires.kept;
      shown_count = states.0;
      shown = shown-start setup h c.args.begin.line c.args.begin.time c.args.into.now states.1;
      changes = λ k none. (none, refl);
      posts = sym (append-nil _);
      posted = omega arith;
      history = refl;
      room = refl;
      post_room = omega arith;
      due = omega arith;
    }

pub begin_one-count-requires-clause-shown : goal.begin_one-count-requires-clause-shown
begin_one-count-requires-clause-shown c =
    let inv = c.loop-i.invariant in
    let below : c.loop-i.i < length c.loop-i.into = omega (arith, inv.shown_count, c.loop-i-test.true) in
    shown-there c.args.begin.setup.now c.loop-i.log.history c.args.log.now.history c.args.begin.line c.args.begin.time c.loop-i.i c.loop-i.into inv.history
    inv.shown below

pub returns-clause-shown : goal.returns-clause-shown
returns-clause-shown c =
    let inv = c.loop-i.invariant in
    let setup = c.args.begin.setup.now in
    let last : c.loop-i.i ≡ setup.sessions = omega (arith, c.loop-i.auto.i-end, c.loop-i-test.false) in
    let P : ℕ → Type 0 = λ n. AllNumbered (ShownUpTo setup c.args.log.now.history c.args.begin.line c.args.begin.time n) c.loop-i.into in
    listed (shown setup (begun c.args.log.now.history c.args.begin.line c.args.begin.time)) c.loop-i.into setup.sessions None inv.shown_count
    (shown-end setup c.args.log.now.history c.args.begin.line c.args.begin.time setup.sessions c.loop-i.into inv.shown_count (subst P last inv.shown))
