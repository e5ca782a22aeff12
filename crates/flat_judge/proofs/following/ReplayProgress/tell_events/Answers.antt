use Rattle.std.proofs.Common.{rules, ◌≡◌, ℕ, length, Option, ap, ◌∙◌, subst, arith}
use Rattle.flat_judge.proofs.LossesTold.{pass-on}
use Rattle.flat_scene.specs.History.{◌▹◌}
use Rattle.flat_rules.specs.AllPosts.{posts}
use Rattle.flat_judge.specs.Following.{Passes, Stays, events_text}
use Rattle.flat_judge.proofs.OneMore.{events-part, events-pass}
use Rattle.flat_judge.proofs.following.ReplayProgress.tell_events.Goals as goal

pub returns-in-Some : goal.returns-in-Some
returns-in-Some c = λ before entry is shown.
    let script = c.args.script.now in
    let P : Option ℕ → Type 0 = Passes c.args.text.now c.args.self.now.at (events_text script before entry) in
    let many : c.len-self.result ≡ length c.journal.result.now.posts.items = search rules in
    let all : c.journal.result.now.posts.items ≡ posts script.setup (before ▹ entry) =
    c.journal.ensures.posts ∙ (λ i. posts (c.requires.shows.setup i) (is i)) in
    let passes = subst P c.in-Some.is (c.in_ok-at.ensures.passes before entry is shown.posted) in
    let on = pass-on c.args.text.now c.args.self.now.at c.in-Some.at (events_text script before entry) c.requires.within passes in
    Stays.stays (events-pass script c.args.text.now before entry c.args.self.now c.in-Some.at c.len-self.result shown passes (many ∙ ap length all))
    (omega (arith, on))

pub returns-in-None : goal.returns-in-None
returns-in-None c = λ before entry is shown.
    let script = c.args.script.now in
    let P : Option ℕ → Type 0 = Passes c.args.text.now c.args.self.now.at (events_text script before entry) in
    Stays.parts (events-part script c.args.text.now before entry c.args.self.now shown
    (subst P c.in-None.is (c.in_ok-at.ensures.passes before entry is shown.posted))) shown.losses
