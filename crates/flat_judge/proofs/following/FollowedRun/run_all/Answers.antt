use Rattle.std.proofs.Common.{◌≡◌, inl, inr, ◌<◌, ◌^◌, ℕ, suc, List, sym, ap, ◌∙◌, subst}
use Rattle.flat_scene.specs.declared.journal.Entry.{Entry}
use Rattle.flat_rules.specs.Legal.{Legal, frames}
use Rattle.flat_judge.specs.Heeding.{AllHeed}
use Rattle.flat_judge.proofs.DisplayLines.{frames_below}
use Rattle.flat_judge.proofs.HeedingSteps.{fewer, saw-all}
use Rattle.flat_judge.proofs.following.FollowedRun.run_all.Goals as goal

pub returns-clause-stopped : goal.returns-clause-stopped
returns-clause-stopped c = record {
  stop = c.begin.new.self.run.screen.board.history;
  stopped = c.in_ok-begin.ensures.stops;
  grown = c.in_ok-end.ensures.grown;
}

-- where the run stopped it had made all entries of each run with this report
pub returns-clause-sees : goal.returns-clause-sees
returns-clause-sees c = λ read run is same.
    let script = c.args.script.now in
    let hints = c.args.guide.now.seen.items in
    let stop : List Entry = c.begin.new.self.run.screen.board.history in
    let end : List Entry = c.end.new.self.screen.board.history in
    let at : run.history ≡ stop = (c.in_ok-begin.ensures.stops.only read run is).0 in
    let whole = c.in_ok-end.ensures.whole in
    let L : List Entry → Type 0 = Legal script.setup in
    let few = fewer (frames end) (frames_below script c.requires.playable script.setup end _ (subst L same run.is.legal) whole.stands.spent) in
    let N : ℕ → Type 0 = λ n. n < 2 ^ 32 in
    let H : List Entry → Type 0 = λ h. AllHeed script hints (frames h) (suc (frames h)) c.end.new.self.answers.items in
    elim (c.in_ok-begin.ensures.heeds (frames stop)) [
      | inl none ↦ absurd (none read run is)
      | inr heeds ↦ saw-all script c.args.text.now hints c.end.new.self.answers.items c.requires.hints whole.stands.probes.count read run is
          (subst N (sym (ap frames same)) few) (subst H (sym at) (c.in_ok-end.ensures.heeds (sym at ∙ same) heeds))
    ]
