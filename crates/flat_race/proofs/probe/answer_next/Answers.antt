use Rattle.std.proofs.Common.{◌≡◌, true, false, sym, ◌∙◌}
use Rattle.flat_report.specs.Report.{is_probe}
use Rattle.flat_play.proofs.lemmas.Steps.{At, at_place}
use Rattle.flat_race.proofs.ProbeLines.{no-other, probe-answers, probe-skips}
use Rattle.flat_race.proofs.probe.answer_next.Goals as goal

pub returns-then-not-is_probe-clause-stands : goal.returns-then-not-is_probe-clause-stands
returns-then-not-is_probe-clause-stands g c =
    let script = c.args.asking.now.script.now in
    let x = c.at-line.result.now in
    let at : At script c.args.place x = at_place script c.args.place x c.requires.playable c.at-line.ensures in
    let other : is_probe c.args.asking.now.probe x.actor ≡ false = sym c.is_probe.ensures ∙ c.if-not-is_probe.true in
    probe-skips script c.args.asking.now.probe c.args.place x at other c.args.probe.now c.args.answers.now c.requires.stands

pub unreachable-requires : goal.unreachable-requires
unreachable-requires g c =
    let script = c.args.asking.now.script.now in
    let x = c.at-line.result.now in
    let at : At script c.args.place x = at_place script c.args.place x c.requires.playable c.at-line.ensures in
    let mine : is_probe c.args.asking.now.probe x.actor ≡ true = sym c.is_probe.ensures ∙ c.if-not-is_probe.false in
    no-other script.setup c.args.asking.now.probe x.actor x.body mine at.played (λ asked is. c.in_default.not-Probe asked is)

pub returns-clause-stands : goal.returns-clause-stands
returns-clause-stands g c =
    let script = c.args.asking.now.script.now in
    let x = c.at-line.result.now in
    let at : At script c.args.place x = at_place script c.args.place x c.requires.playable c.at-line.ensures in
    let mine : is_probe c.args.asking.now.probe x.actor ≡ true = sym c.is_probe.ensures ∙ c.if-not-is_probe.false in
    let answered = c.in_ok-answer_line-in-Probe.ensures in
    probe-answers script c.args.asking.now.probe c.args.place x at c.in-Probe.asked mine c.in-Probe.is c.args.probe.now c.answer_line.new.probe
    c.args.answers.now c.answer_line.new.answers answered.grows answered.rising answered.more c.requires.stands
