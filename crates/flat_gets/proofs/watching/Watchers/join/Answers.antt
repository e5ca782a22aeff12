use Rattle.std.proofs.Common.{◌≡◌, ap, subst, refl, arith, Bool, true, false, length}
use Rattle.flat_scene.specs.declared.journal.Entry.{Entry}
use Rattle.flat_scene.specs.History.{◌▹◌}
use Rattle.flat_rules.specs.Watch.{told}
use Rattle.flat_gets.specs.Watchers.{IsJoin, TellsView}
use Rattle.flat_gets.proofs.WatchedJoins.{joined-is, shut-is, unjoined-is}
use Rattle.flat_gets.proofs.watching.Watchers.join.Goals as goal

pub returns-then-not-is_held-clause-watched : goal.returns-then-not-is_held-clause-watched
returns-then-not-is_held-clause-watched g c = λ setup history entry join stands same posted watched.
    let is : c.args.is_held ≡ false = c.if-not-is_held.true in
    unjoined-is setup history entry c.args.owner c.args.closed c.args.p
    (subst (λ (b : Bool). IsJoin setup history entry b c.args.owner c.args.closed c.args.p) is join) c.args.self.now c.args.log.now.posts posted watched

pub returns-then-closed-clause-watched : goal.returns-then-closed-clause-watched
returns-then-closed-clause-watched g c = λ setup history entry asked stands same posted watched.
    let held : IsJoin setup history entry true c.args.owner c.args.closed c.args.p =
    subst (λ (b : Bool). IsJoin setup history entry b c.args.owner c.args.closed c.args.p) c.if-not-is_held.false asked in
    let join : IsJoin setup history entry true c.args.owner true c.args.p =
    subst (λ (b : Bool). IsJoin setup history entry true c.args.owner b c.args.p) c.if-closed.true held in
    shut-is setup history entry c.args.owner c.args.p join c.args.self.now (record { pairs = _; sessions = _ }) c.index_mut.result.now c.start_use.new.self
    c.args.log.now.posts c.requires.known c.index_mut.ensures.value refl refl c.start_use.ensures posted watched

pub index_mut-requires-2 : goal.index_mut-requires-2
index_mut-requires-2 g c = omega (arith, c.requires.known, c.tell_view-count.ensures.size, c.tell_view-count.new.self.pairs.ok.0)

pub returns-clause-watched : goal.returns-clause-watched
returns-clause-watched g c = λ setup history entry asked stands same posted watched.
    let held : IsJoin setup history entry true c.args.owner c.args.closed c.args.p =
    subst (λ (b : Bool). IsJoin setup history entry b c.args.owner c.args.closed c.args.p) c.if-not-is_held.false asked in
    let join : IsJoin setup history entry true c.args.owner false c.args.p =
    subst (λ (b : Bool). IsJoin setup history entry true c.args.owner b c.args.p) c.if-closed.false held in
    let place : length c.args.log.now.history ≡ length history = ap (length {A = Entry}) same in
    let told_is : TellsView (told setup (history ▹ entry)) (length history) c.args.owner c.args.p c.args.self.now c.tell_view-count.new.self
    c.args.log.now.posts c.tell_view-count.new.log.posts c.tell_view-count.result =
    subst (λ n. TellsView (told setup (history ▹ entry)) n c.args.owner c.args.p c.args.self.now c.tell_view-count.new.self c.args.log.now.posts
    c.tell_view-count.new.log.posts c.tell_view-count.result) place (c.tell_view-count.ensures.told setup (history ▹ entry) stands) in
    joined-is setup history entry c.args.owner c.args.p join c.args.self.now c.tell_view-count.new.self (record { pairs = _; sessions = _ })
    c.index_mut-2.result.now c.start_use-2.new.self c.args.log.now.posts c.tell_view-count.new.log.posts c.tell_view-count.result
    c.requires.known told_is c.tell_view-count.ensures.due c.index_mut-2.ensures.value refl refl c.start_use-2.ensures posted watched
