use Rattle.std.proofs.Common.{◌≡◌, ℕ, ℤ, ◌≤◌, List, map, sym, ap, ◌∙◌, subst}
use Rattle.flat_scene.specs.Setups.{at_ratio}
use Rattle.flat_topology.specs.Hits.{hit_list}
use Rattle.flat_publish.specs.Frames.{last_number}
use Rattle.flat_publish.proofs.lemmas.Beginnings.{prefix_trans}
use Rattle.flat_report.specs.declared.probes.ProbeAnswer.{ProbeAnswer}
use Rattle.flat_report.specs.Probes.{AreAnsweredBy}
use Rattle.flat_race.specs.Publishing.{hits_of}
use Rattle.flat_race.specs.Settling.{settled}
use Rattle.flat_race.proofs.lemmas.SeenFrames.{seen-more, hits-later}
use Rattle.flat_race.proofs.Settled.{settled-answers}
use Rattle.flat_race.proofs.probe_threads.hold.Goals as goal

pub returns-clause-answered : goal.returns-clause-answered
returns-clause-answered c = λ lines answered. (
    let published = c.args.published.now.frames in
    let seen = c.frame.new.self.frames in
    let rise = c.frame.ensures.rising in
    let grows = prefix_trans _ _ _ c.meet.ensures.grows c.frame.ensures.grows in
    let meets = prefix_trans _ _ _ c.in_ok-meet.ensures.meets c.frame.ensures.grows in
    let last = c.requires.last in
    let saw = seen-more c.args.back.now.probe.frames seen grows rise lines c.args.back.now.answers (answered c.if-not-back.false) in
    let agree : (n : ℕ) → n ≤ last_number published → (x y : ℤ) → hits_of seen n x y ≡ hits_of published n x y =
    λ n low x y. sym (hits-later published seen n x y meets rise low) in
    let shown = hit_list (at_ratio c.args.last.now.ratio c.args.setup.now) c.args.last.now.reuse in
    let now : c.settle.new.answers ≡ map (settled (last_number published) shown) c.args.back.now.answers =
    c.in_ok-settle.ensures.answers ∙ ap (λ (n : ℕ). map (settled n shown) c.args.back.now.answers) last.number in
    let P : List ProbeAnswer → Type 0 = AreAnsweredBy (hits_of published) (last_number published) lines in
    subst P (sym now) (settled-answers (hits_of seen) (hits_of published) (last_number published) shown agree last.hits (last_number seen) lines
    c.args.back.now.answers saw)
    )

pub settle-requires-clause-setup : goal.settle-requires-clause-setup
settle-requires-clause-setup c = c.requires.setup

pub settle-requires-clause-is : goal.settle-requires-clause-is
settle-requires-clause-is c = c.requires.is
