use Rattle.std.proofs.Common.{◌≡◌, ◌∙◌, ap, rules, refl, arith, ℕ, ◌++◌, map, length, List, length-append, true}
use Rattle.std.specs.Prelude.{is_some, not}
use Rattle.std.proofs.lemmas.Fn.{filter_same}
use Rattle.flat_scene.specs.declared.journal.Entry.{Entry}
use Rattle.flat_facts.specs.Begins.{post_of}
use Rattle.flat_rules.specs.Posts.{event_of}
use Rattle.flat_rules.specs.Legal.{number_if}
use Rattle.flat_watch.specs.HangingGets.{answered_get}
use Rattle.flat_watch.specs.Told.{Watching, answer, news, settled}
use Rattle.flat_gets.specs.declared.pair.FormerGet.{FormerGet}
use Rattle.flat_gets.specs.Pairs.{events_of, former_events, still_waiting}
use Rattle.flat_gets.proofs.PartSteps.{hanging_get-due, events-given, former-due, given-count, two-posted}
use Rattle.flat_gets.proofs.pair.PairWatchers.tell.Goals as goal

pub returns-in-Child-clause-told : goal.returns-in-Child-clause-told
returns-in-Child-clause-told c =
    let left = filter_same _ (λ (one : FormerGet). not (is_some (news c.args.now one.last))) _ (λ x b f' t. search rules) _ _ c.retain.ensures.filtered in
    rw c.in-Child.is (record { layout = refl; status = refl; child = c.tell-in-Child.ensures.after; former = left })

pub returns-in-Child-clause-posts : goal.returns-in-Child-clause-posts
returns-in-Child-clause-posts c =
    let f = post_of (length c.args.log.now.history) c.args.s in
    let p = c.args.p in
    let now = c.args.now in
    let child = c.args.self.now.child in
    let former = c.post_former-earlier.ensures in
    let place : length c.post_former-earlier.new.log.history ≡ length c.args.log.now.history = ap (length {A = Entry}) former.history in
    let first : c.post_former-earlier.new.log.posts ≡ c.args.log.now.posts ++ map f (former_events p now c.args.self.now.former.items) =
    former.posts ∙ ap (λ (l : List FormerGet). c.args.log.now.posts ++ map f (former_events p now l)) c.as_slice.ensures.value in
    let second : c.post_answer-in-Child.new.log.posts ≡ c.post_former-earlier.new.log.posts ++ map f (events_of p c.tell-in-Child.result) =
    c.post_answer-in-Child.ensures.posts ∙ ap (λ (n : ℕ). c.post_former-earlier.new.log.posts ++ map (post_of n c.args.s) (events_of p c.tell-in-Child.result))
    place in
    let given : events_of p c.tell-in-Child.result ≡ event_of p child.waits (answer now child) =
    ap (events_of p) c.tell-in-Child.ensures.answer ∙ events-given p child.waits (answer now child) in
    rw c.in-Child.is (two-posted f c.args.log.now.posts c.post_former-earlier.new.log.posts c.post_answer-in-Child.new.log.posts
    (former_events p now c.args.self.now.former.items) (events_of p c.tell-in-Child.result) (event_of p child.waits (answer now child)) first second given)

pub returns-in-Child-clause-count : goal.returns-in-Child-clause-count
returns-in-Child-clause-count c =
    let p = c.args.p in
    let now = c.args.now in
    let child = c.args.self.now.child in
    let earlier : c.post_former-earlier.result ≡ length (former_events p now c.args.self.now.former.items) =
    c.post_former-earlier.ensures.count ∙ ap (λ (l : List FormerGet). length (former_events p now l)) c.as_slice.ensures.value in
    let last : c.post_answer-in-Child.result ≡ length (event_of p child.waits (answer now child)) =
    c.post_answer-in-Child.ensures.count ∙ ap (λ o. number_if (is_some o)) c.tell-in-Child.ensures.answer ∙ given-count p child.waits (answer now child) in
    rw c.in-Child.is (omega (
      arith,
      earlier,
      last,
      length-append (former_events p now c.args.self.now.former.items)
          (event_of p child.waits (answer now child)),
    ))

pub returns-in-Child-clause-due : goal.returns-in-Child-clause-due
returns-in-Child-clause-due c =
    let p = c.args.p in
    let now = c.args.now in
    let child = c.args.self.now.child in
    let former = c.args.self.now.former.items in
    let left = filter_same _ (λ (one : FormerGet). not (is_some (news c.args.now one.last))) _ (λ x b f' t. search rules) _ _ c.retain.ensures.filtered in
    let fewer : length c.retain.new.self.items ≡ length (still_waiting now former) = ap (length {A = FormerGet}) left in
    let earlier : c.post_former-earlier.result ≡ length (former_events p now former) =
    c.post_former-earlier.ensures.count ∙ ap (λ (l : List FormerGet). length (former_events p now l)) c.as_slice.ensures.value in
    let last : c.post_answer-in-Child.result ≡ number_if (is_some (answered_get child.waits (answer now child))) =
    c.post_answer-in-Child.ensures.count ∙ ap (λ o. number_if (is_some o)) c.tell-in-Child.ensures.answer in
    let waits : number_if (is_some c.tell-in-Child.new.self.waits) ≡ number_if (is_some (settled true now child).waits) =
    ap (λ (w : Watching). number_if (is_some w.waits)) c.tell-in-Child.ensures.after in
    omega (arith, fewer, earlier, last, waits, former-due p now former, hanging_get-due now child)
