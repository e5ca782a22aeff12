use Rattle.std.proofs.Common.{◌≡◌, ℕ, ◌+◌, List, length, take, refl, sym, ap, ◌∙◌, subst, arith}
use Rattle.flat_scene.specs.declared.journal.Entry.{Entry}
use Rattle.flat_report.specs.Report.{finished}
use Rattle.flat_base.specs.declared.ids.FrameNo.{FrameNo}
use Rattle.flat_rules.specs.Ends.{to_finished}
use Rattle.flat_rules.specs.Legal.{frames}
use Rattle.flat_play.specs.Beginning.{AreBegun}
use Rattle.flat_play.specs.Explaining.{StandsExplained}
use Rattle.flat_play.proofs.Explained.{entered_so_far}
use Rattle.flat_play.specs.Playing.{PlayStands, last_number}
use Rattle.flat_play.specs.Touching.{AreAnswered}
use Rattle.flat_play.specs.Probing.{ProbesStand}
use Rattle.flat_play.proofs.Probed.{asked-within, probes-unasked, probes-on, probes-more, probes-all}
use Rattle.flat_play.proofs.InTurn.{turns-none, turns-on, turns-more, turns-all}
use Rattle.flat_play.proofs.Touching.{answered-none, answered-more, answered-all}
use Rattle.flat_scene.specs.Setups.{at_ratio}
use Rattle.flat_play.proofs.lemmas.FramesShown.{scaled}
use Rattle.flat_play.proofs.lemmas.PlaySteps.{play_stays}
use Rattle.flat_play.proofs.lemmas.Places.{setup_is}
use Rattle.flat_play.proofs.lemmas.Begun.{play-begins}
use Rattle.flat_play.proofs.lemmas.Steps.{at_place}
use Rattle.flat_play.proofs.lemmas.Seen.{as_long, kept_same, kept_seen, seen_none, seen_line}
use Rattle.flat_play.proofs.run.play_each.Goals as goal

pub loop-place-init : goal.loop-place-init
loop-place-init g c = record {
  stands = c.requires.begins;
  seen = seen_none _ _ _ _ _ _ (ap (λ (h : List Entry). finished c.args.input.script.now.setup h) c.requires.no_entry) c.requires.none;
  keeping = refl;
  number = c.requires.number;
  kinds = refl;
  same = refl;
  answered = answered-none _ _ _ _ c.requires.no_entry c.requires.no_answer c.requires.rise;
  asked = (let P : List Entry → Type 0 = λ h. ProbesStand c.args.input.script.now 0 h c.args.ran.now.probes.items in
      subst P (sym c.requires.no_entry) (probes-unasked c.args.input.script.now c.args.ran.now.probes.items c.requires.unasked));
  turns = turns-none c.args.input.script.now.setup.probes c.args.ran.now.play.board.history c.args.ran.now.probes.items c.requires.unasked;
  explained = (let P : List Entry → Type 0 = λ h. StandsExplained c.args.input.script.now h c.args.explaining.now in
      subst P (sym c.requires.no_entry) c.requires.unexplained);
  on = refl;
  film = refl;
}

pub answer_upto-requires-clause-setup : goal.answer_upto-requires-clause-setup
answer_upto-requires-clause-setup g c = setup_is c.args.input.script.now c.requires.playable

pub answer_upto-requires-clause-is : goal.answer_upto-requires-clause-is
answer_upto-requires-clause-is g c = c.loop-place.invariant.stands.frames.stored.ends.is

pub answer_all-requires-clause-setup : goal.answer_all-requires-clause-setup
answer_all-requires-clause-setup g c = setup_is c.args.input.script.now c.requires.playable

pub answer_all-requires-clause-is : goal.answer_all-requires-clause-is
answer_all-requires-clause-is g c = c.loop-place.invariant.stands.frames.stored.ends.is

pub play_line-requires-clause-stands : goal.play_line-requires-clause-stands
play_line-requires-clause-stands g c =
    let script = c.args.input.script.now in
    let place = c.loop-place.place in
    let play = c.loop-place.ran.play in
    let last = c.answer_upto.new.last in
    play_stays script place (record play { store = record play.store { last = last } }) c.answer_line.new.last c.in_ok-answer_line.ensures.stays
    (play_stays script place play last c.in_ok-left.ensures.stays c.loop-place.invariant.stands)

pub answer_line-requires-clause-setup : goal.answer_line-requires-clause-setup
answer_line-requires-clause-setup g c = setup_is c.args.input.script.now c.requires.playable

pub answer_line-requires-clause-is : goal.answer_line-requires-clause-is
answer_line-requires-clause-is g c = c.in_ok-left.ensures.stays.is

pub answer_line-requires-clause-known : goal.answer_line-requires-clause-known
answer_line-requires-clause-known g c =
    let script = c.args.input.script.now in
    let place = c.loop-place.place in
    let ran = c.loop-place.ran in
    let x = c.at-line.result.now in
    let at = at_place script place x c.requires.playable c.at-line.ensures in
    asked-within script place x at ran.play.board.history ran.probes.items c.loop-place.invariant.asked

pub loop-place-preserved : goal.loop-place-preserved
loop-place-preserved g c =
    let script = c.args.input.script.now in
    let place = c.loop-place.place in
    let was = c.loop-place.invariant in
    let now = c.in_ok-play_line.ensures in
    let x = c.at-line.result.now in
    let at = at_place script place x c.requires.playable c.at-line.ensures in
    let ran = c.loop-place.ran in
    let old = ran.play.board.history in
    let new = c.play_line.new.self.board.history in
    let last = c.answer_upto.new.last in
    let stays = c.in_ok-left.ensures.stays in
    let number : last.frame.0 ≡ frames old = ap (λ (n : FrameNo). n.0) stays.frame ∙ was.stands.frames.stored.ends.number in
    let showing = stays.reuse ∙ was.stands.frames.stored.ends.shows in
    let plays = now.plays x c.at-line.ensures in
    let on = plays.goes_on in
    let asks = c.in_ok-answer_line.ensures.answers in
    record {
      stands = plays.stands;
      seen = seen_line _ _ script.setup _ _ old new refl refl _ _ _ _ _ (omega (arith, was.number, was.same, c.requires.few)) now.shows was.seen;
      number = as_long _ _ _ c.play_line.ensures.displays.kinds ∙ was.number ∙ sym c.play_line.ensures.displays.count;
      kinds = c.play_line.ensures.displays.kinds ∙ was.kinds;
      keeping = plays.keeping ∙ was.keeping;
      same = c.play_line.ensures.displays.count ∙ was.same;
      answered =
          let A : ℕ → Type 0 = λ n. AreAnswered script.setup new n c.args.input.pointers.now c.in_ok-left.left.now c.answer_upto.new.found.items in
          subst A (sym at.last)
          (answered-more script.setup _ _ _ _ _ (at_ratio ran.play.store.last.ratio script.setup) _ was.answered
          (scaled script.setup (to_finished old) ran.play.store.last.ratio was.stands.frames.stored.ends.scales) was.stands.frames.stored.ends.shows
          x.number _ _ _ at.above c.in_ok-left.ensures.answers on);
      asked =
          probes-on script (place + 1) x.number old new c.answer_line.new.answers.items on
          (probes-more script place x at old (at_ratio last.ratio script.setup) last.reuse last.frame.0 number
          (scaled script.setup (to_finished old) last.ratio (stays.ratio ∙ was.stands.frames.stored.ends.scales)) showing ran.probes.items
          c.answer_line.new.answers.items asks was.asked);
      explained = c.in_ok-note.ensures.stands;
      on = c.in_ok-note.ensures.on ∙ was.on;
      film = c.in_ok-note.ensures.film ∙ was.film;
      turns =
          turns-on script place x at old new c.answer_line.new.answers.items on
          (turns-more script place x at old (last_number 0 (take place script.lines)) at.above was.answered.entries (at_ratio last.ratio script.setup)
          last.reuse last.frame.0 number ran.probes.items c.answer_line.new.answers.items was.asked.count asks was.turns);
    }

pub returns-clause-reads : goal.returns-clause-reads
returns-clause-reads g c =
    let script = c.args.input.script.now in
    let setup = script.setup in
    let play = c.loop-place.ran.play in
    let history = play.board.history in
    let was = c.loop-place.invariant in
    let ends = was.stands.frames.stored.ends in
    let last : c.loop-place.place ≡ length script.lines = omega (arith, c.loop-place.auto.place-end, c.loop-place-test.false) in
    let P : ℕ → Type 0 = λ n. PlayStands script n play in
    record {
      stands = play_stays script _ play _ c.in_ok-answer_all.ensures.stays (subst P last was.stands);
      touches =
          answered-all setup _ _ _ _ _ (at_ratio play.store.last.ratio setup) _ was.answered
          (scaled setup (to_finished history) play.store.last.ratio ends.scales) ends.shows _ c.in_ok-answer_all.ensures.answers;
      probes = probes-all script c.loop-place.place history c.loop-place.ran.probes.items last was.asked;
      in_turn = turns-all script c.loop-place.place history c.loop-place.ran.probes.items last was.asked.count was.turns;
      keeping = was.keeping;
      seen = was.seen;
    }

pub returns-clause-notes : goal.returns-clause-notes
returns-clause-notes g c =
    let was = c.loop-place.invariant in
    record { stands = was.explained; on = was.on; film = was.film }

pub returns-clause-kept : goal.returns-clause-kept
returns-clause-kept g c =
    let script = c.args.input.script.now in
    let was = c.loop-place.invariant in
    kept_seen _ _ (AreBegun script) _ _ _ _ _ _ was.kinds
    (play-begins script c.requires.playable c.loop-place.place c.loop-place.ran.play was.stands c.journal-journal-2.ensures.legal) was.seen

pub returns-in_err-play_line-clause-kept : goal.returns-in_err-play_line-clause-kept
returns-in_err-play_line-clause-kept g c =
    let script = c.args.input.script.now in
    let was = c.loop-place.invariant in
    let begun = play-begins script c.requires.playable c.loop-place.place c.loop-place.ran.play was.stands c.journal-journal.ensures.legal in
    kept_same _ _ (AreBegun script) _ _ _ _ (ap (λ v. v.items) c.in_err-play_line.ensures.unshown.1)
    (kept_seen _ _ (AreBegun script) _ _ _ _ _ _ was.kinds begun was.seen)

pub returns-in_err-answer_line-clause-kept : goal.returns-in_err-answer_line-clause-kept
returns-in_err-answer_line-clause-kept g c =
    let script = c.args.input.script.now in
    let was = c.loop-place.invariant in
    kept_seen _ _ (AreBegun script) _ _ _ _ _ _ was.kinds
    (play-begins script c.requires.playable c.loop-place.place c.loop-place.ran.play was.stands c.journal-journal.ensures.legal) was.seen

pub returns-in_err-left-clause-kept : goal.returns-in_err-left-clause-kept
returns-in_err-left-clause-kept g c =
    let script = c.args.input.script.now in
    let was = c.loop-place.invariant in
    kept_seen _ _ (AreBegun script) _ _ _ _ _ _ was.kinds
    (play-begins script c.requires.playable c.loop-place.place c.loop-place.ran.play was.stands c.journal-journal.ensures.legal) was.seen

pub returns-in_err-answer_all-clause-kept : goal.returns-in_err-answer_all-clause-kept
returns-in_err-answer_all-clause-kept g c =
    let script = c.args.input.script.now in
    let was = c.loop-place.invariant in
    kept_seen _ _ (AreBegun script) _ _ _ _ _ _ was.kinds
    (play-begins script c.requires.playable c.loop-place.place c.loop-place.ran.play was.stands c.journal-journal-2.ensures.legal) was.seen

-- ---- what is noted of why sessions are on the display, or aren't

pub note-requires-clause-setup : goal.note-requires-clause-setup
note-requires-clause-setup g c = setup_is c.args.input.script.now c.requires.playable

pub note-requires-clause-of : goal.note-requires-clause-of
note-requires-clause-of g c = (c.in_ok-play_line.ensures.plays c.at-line.result.now c.at-line.ensures).stands.setup

pub note-requires-clause-frames : goal.note-requires-clause-frames
note-requires-clause-frames g c = (c.in_ok-play_line.ensures.plays c.at-line.result.now c.at-line.ensures).stands.frames

pub note-requires-clause-before : goal.note-requires-clause-before
note-requires-clause-before g c =
    let old = c.loop-place.ran.play.board.history in
    let x = c.at-line.result.now in
    let entries = c.journal.result.now.entries in
    let whole = entries.ok in
    let long = entered_so_far entries.items old c.journal.ensures.entries in
    let many = c.len-entries.ensures in
    let number : frames old ≡ c.answer_line.new.last.frame.0 =
    sym (ap (λ (n : FrameNo). n.0) (c.in_ok-answer_line.ensures.stays.frame ∙ c.in_ok-left.ensures.stays.frame)
    ∙ c.loop-place.invariant.stands.frames.stored.ends.number) in (
      old,
      x.number,
      (let all : length old ≡ c.len-entries.result = omega (arith, long, whole, many) in all),
      (c.in_ok-play_line.ensures.plays x c.at-line.ensures).goes_on,
      c.loop-place.invariant.explained,
      number,
    )

pub returns-in_err-note-clause-kept : goal.returns-in_err-note-clause-kept
returns-in_err-note-clause-kept g c =
    let script = c.args.input.script.now in
    let was = c.loop-place.invariant in
    let now = c.in_ok-play_line.ensures in
    let play = c.play_line.new.self in
    let stands = (now.plays c.at-line.result.now c.at-line.ensures).stands in
    kept_seen _ _ (AreBegun script) _ _ _ _ _ _ (c.play_line.ensures.displays.kinds ∙ was.kinds)
    (play-begins script c.requires.playable (c.loop-place.place + 1) play stands c.journal-journal-in-loop-place.ensures.legal)
    (seen_line _ _ script.setup _ _ c.loop-place.ran.play.board.history play.board.history refl refl _ _ _ _ _
    (omega (arith, was.number, was.same, c.requires.few)) now.shows was.seen)
