use Rattle.std.proofs.Common.{◌≡◌, ℕ, List, map, ap, ◌∙◌, subst, arith}
use Rattle.flat_scene.specs.declared.journal.PostedEvent.{PostedEvent}
use Rattle.flat_scene.specs.History.{◌▹◌}
use Rattle.flat_rules.specs.AllPosts.{posts}
use Rattle.flat_page.specs.Words.{text_of}
use Rattle.flat_lines.specs.PostLines.{post_line}
use Rattle.flat_judge.specs.Following.{Passes, events_text}
use Rattle.flat_judge.proofs.LastEntry.{events-are, events-within}
use Rattle.flat_judge.proofs.Pass.{rest-all}
use Rattle.flat_judge.proofs.telling.pass_events.Goals as goal

-- so many events there are
pub returns-then-posts-before-clause-passes : goal.returns-then-posts-before-clause-passes
returns-then-posts-before-clause-passes c = λ earlier entry is count.
    let script = c.args.script.now in
    let all : c.as_slice-posts.result.now ≡ posts script.setup (earlier ▹ entry) =
    c.as_slice-posts.ensures.value ∙ c.journal.ensures.posts ∙ (λ i. posts (c.requires.shows.setup i) (is i)) in
    let within = events-within script.setup earlier entry c.as_slice-posts.result.now c.args.before all count in
    absurd (omega (arith, within, c.if-posts-before.true))

pub returns-clause-passes : goal.returns-clause-passes
returns-clause-passes c = λ earlier entry is count.
    let script = c.args.script.now in
    let all : c.as_slice-posts.result.now ≡ posts script.setup (earlier ▹ entry) =
    c.as_slice-posts.ensures.value ∙ c.journal.ensures.posts ∙ (λ i. posts (c.requires.shows.setup i) (is i)) in
    let lines : c.as_slice.result.now ≡ events_text script earlier entry =
    c.as_slice.ensures.value ∙ c.in_ok-lines.ensures ∙ ap (λ (ps : List PostedEvent). text_of (map (post_line script) ps))
    (rest-all c.as_slice-posts.result.now c.args.before)
    ∙ events-are script earlier entry c.as_slice-posts.result.now c.args.before all count in
    let P : List ℕ → Type 0 = λ b. Passes c.args.text.now c.args.at b c.pass.result in
    subst P lines c.pass.ensures
