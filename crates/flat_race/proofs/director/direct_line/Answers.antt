use Rattle.std.proofs.Common.{rules, ◌≡◌, true, refl, ap, sym, ◌∙◌, subst}
use Rattle.std.proofs.lemmas.Result.{MatchResult-from_err}
use Rattle.flat_base.specs.declared.ids.Actor.TheVariants.{Display}
use Rattle.flat_scene.specs.declared.journal.EntryKind.TheVariants.{Begin}
use Rattle.flat_scene.specs.declared.journal.Reply.TheVariants.{Done}
use Rattle.flat_scene.specs.declared.script.LineBody.TheVariants as body
use Rattle.flat_scene.specs.declared.script.DisplayLine.TheVariants as display
use Rattle.flat_scene.specs.declared.script.ScriptLine.{ScriptLine}
use Rattle.flat_scene.specs.declared.setup.Setup.{Setup}
use Rattle.flat_scene.specs.Journals.{history_of}
use Rattle.flat_scene.specs.Interleave.{entry_of_display}
use Rattle.flat_core.specs.Starts.{is_beside}
use Rattle.flat_rules.specs.Legal.{names_declared, Legal}
use Rattle.flat_stage.specs.Seats.{setup_of}
use Rattle.flat_play.specs.Keeping.{keeping_of}
use Rattle.flat_play.specs.Showing.{IsShown}
use Rattle.flat_play.proofs.lemmas.Beside.{leaves_frames}
use Rattle.flat_play.proofs.lemmas.Places.{setup_is}
use Rattle.flat_play.proofs.lemmas.Starting.{few_sessions}
use Rattle.flat_play.proofs.lemmas.Steps.{At, at_place}
use Rattle.flat_play.proofs.lemmas.Storing.{may_follow}
use Rattle.flat_race.specs.declared.race_frames.RaceFrames.{RaceFrames}
use Rattle.flat_race.specs.Directing.{EntersBeside}
use Rattle.flat_race.proofs.Finishing.{finishes_then}
use Rattle.flat_race.proofs.LineSteps.{begins_closed, compositor_looks, finished_still, finished_then, finishes_open, frames_few, line_begins}
use Rattle.flat_race.proofs.LineSteps.{line_beside, line_finishes, looked_beside, seat_room, shown_as, time_fits}
use Rattle.flat_play.proofs.lemmas.Storing.{answers_keep}
use Rattle.flat_race.proofs.LinesBeside.{beside_fits}
use Rattle.flat_race.proofs.Looks.{looked_there}
use Rattle.flat_race.proofs.director.direct_line.Goals as goal

pub begin-requires-clause-own : goal.begin-requires-clause-own
begin-requires-clause-own g c κs within =
    c.requires.stands.seat.own

pub begin-requires-clause-room : goal.begin-requires-clause-room
begin-requires-clause-room g c κs within =
    let script = c.args.context.now.script.now in
    let view = c.args.context.now.stage.now in
    let x : ScriptLine = record { number = c.args.line.number; actor = Display; body = body.Display c.args.line.text } in
    let at : At script c.args.place x = at_place script c.args.place x c.requires.playable c.requires.line in
    seat_room script view c.args.place x at refl c.requires.of c.args.compositor.now.display c.requires.stands.seat

pub finish-requires-clause-own : goal.finish-requires-clause-own
finish-requires-clause-own g c κs within =
    c.requires.stands.seat.own

pub finish-requires-clause-room : goal.finish-requires-clause-room
finish-requires-clause-room g c κs within =
    let script = c.args.context.now.script.now in
    let view = c.args.context.now.stage.now in
    let x : ScriptLine = record { number = c.args.line.number; actor = Display; body = body.Display c.args.line.text } in
    let at : At script c.args.place x = at_place script c.args.place x c.requires.playable c.requires.line in
    seat_room script view c.args.place x at refl c.requires.of c.args.compositor.now.display c.requires.stands.seat

pub enter_beside-requires-clause-own : goal.enter_beside-requires-clause-own
enter_beside-requires-clause-own g c κs within =
    c.requires.stands.seat.own

pub enter_beside-requires-clause-room : goal.enter_beside-requires-clause-room
enter_beside-requires-clause-room g c κs within =
    let script = c.args.context.now.script.now in
    let view = c.args.context.now.stage.now in
    let x : ScriptLine = record { number = c.args.line.number; actor = Display; body = body.Display c.args.line.text } in
    let at : At script c.args.place x = at_place script c.args.place x c.requires.playable c.requires.line in
    seat_room script view c.args.place x at refl c.requires.of c.args.compositor.now.display c.requires.stands.seat

pub begin-requires-clause-closed : goal.begin-requires-clause-closed
begin-requires-clause-closed g c κs within =
    let script = c.args.context.now.script.now in
    let view = c.args.context.now.stage.now in
    let x : ScriptLine = record { number = c.args.line.number; actor = Display; body = body.Display c.args.line.text } in
    let at : At script c.args.place x = at_place script c.args.place x c.requires.playable c.requires.line in
    let is : x.body ≡ body.Display (display.Begin c.in-Begin.time) = ap (λ t. body.Display t) c.in-Begin.is in
    begins_closed script view c.args.place x at refl c.requires.of c.in-Begin.time is c.args.compositor.now c.args.film.now c.requires.stands

pub begin-requires-clause-time : goal.begin-requires-clause-time
begin-requires-clause-time g c κs within =
    let script = c.args.context.now.script.now in
    let view = c.args.context.now.stage.now in
    let x : ScriptLine = record { number = c.args.line.number; actor = Display; body = body.Display c.args.line.text } in
    let at : At script c.args.place x = at_place script c.args.place x c.requires.playable c.requires.line in
    let is : x.body ≡ body.Display (display.Begin c.in-Begin.time) = ap (λ t. body.Display t) c.in-Begin.is in
    time_fits script view c.args.place x at refl c.requires.of c.display_knows_frames.ensures.frames c.seats_tell_actors.ensures
    c.journals_keep_seats.ensures.seats (few_sessions script.setup (setup_is script c.requires.playable)) c.in-Begin.time is c.args.compositor.now.display
    c.requires.stands.seat

pub finish-requires-clause-open : goal.finish-requires-clause-open
finish-requires-clause-open g c κs within =
    let script = c.args.context.now.script.now in
    let view = c.args.context.now.stage.now in
    let x : ScriptLine = record { number = c.args.line.number; actor = Display; body = body.Display c.args.line.text } in
    let at : At script c.args.place x = at_place script c.args.place x c.requires.playable c.requires.line in
    let is : x.body ≡ body.Display display.Done = ap (λ t. body.Display t) c.in-Done.is in
    finishes_open script view c.args.place x at refl c.requires.of is c.args.compositor.now c.args.film.now c.requires.stands

pub finish-requires-clause-setup : goal.finish-requires-clause-setup
finish-requires-clause-setup g c κs within =
    setup_is c.args.context.now.script.now c.requires.playable

pub enter_beside-requires-clause-setup : goal.enter_beside-requires-clause-setup
enter_beside-requires-clause-setup g c κs within =
    setup_is c.args.context.now.script.now c.requires.playable

pub finish-requires-clause-follows : goal.finish-requires-clause-follows
finish-requires-clause-follows g c κs within =
    let script = c.args.context.now.script.now in
    let view = c.args.context.now.stage.now in
    let x : ScriptLine = record { number = c.args.line.number; actor = Display; body = body.Display c.args.line.text } in
    let at : At script c.args.place x = at_place script c.args.place x c.requires.playable c.requires.line in
    may_follow c.shown_states_fit.ensures.begun c.shown_states_fit.ensures.each script (history_of c.args.compositor.now.display.seen)
    c.args.compositor.now.start c.args.film.now.store c.requires.stands.seat.legal
    (frames_few script view c.args.place c.journals_keep_seats.ensures.seats c.requires.playable c.args.compositor.now.display c.requires.stands.seat)
    c.requires.stands.frames

pub finish-requires-clause-number : goal.finish-requires-clause-number
finish-requires-clause-number g c κs within =
    c.requires.number

pub enter_beside-requires-clause-acts : goal.enter_beside-requires-clause-acts
enter_beside-requires-clause-acts g c κs within =
    let script = c.args.context.now.script.now in
    let view = c.args.context.now.stage.now in
    let x : ScriptLine = record { number = c.args.line.number; actor = Display; body = body.Display c.args.line.text } in
    let at : At script c.args.place x = at_place script c.args.place x c.requires.playable c.requires.line in
    let beside : is_beside c.args.line.text ≡ true = search rules in
    (beside_fits script.setup c.args.line.text beside at.played).0

pub enter_beside-requires-clause-named : goal.enter_beside-requires-clause-named
enter_beside-requires-clause-named g c κs within =
    let script = c.args.context.now.script.now in
    let view = c.args.context.now.stage.now in
    let x : ScriptLine = record { number = c.args.line.number; actor = Display; body = body.Display c.args.line.text } in
    let at : At script c.args.place x = at_place script c.args.place x c.requires.playable c.requires.line in
    let beside : is_beside c.args.line.text ≡ true = search rules in
    let N : Setup → Type 0 = λ s. names_declared s (entry_of_display c.args.line.text) ≡ true in
    subst N (sym c.requires.of.setup) (beside_fits script.setup c.args.line.text beside at.played).1

pub enter_beside-requires-clause-legal : goal.enter_beside-requires-clause-legal
enter_beside-requires-clause-legal g c κs within =
    let L : Setup → Type 0 = λ s. Legal s (history_of c.args.compositor.now.display.seen) in
    subst L (sym c.requires.of.setup) c.requires.stands.seat.legal

pub enter_beside-requires-clause-whole : goal.enter_beside-requires-clause-whole
enter_beside-requires-clause-whole g c κs within =
    c.requires.stands.seat.mine

pub enter_beside-requires-clause-last : goal.enter_beside-requires-clause-last
enter_beside-requires-clause-last g c κs within =
    c.requires.stands.frames.stored.ends.is

pub returns-in-Begin-clause-stands : goal.returns-in-Begin-clause-stands
returns-in-Begin-clause-stands g c =
    let script = c.args.context.now.script.now in
    let view = c.args.context.now.stage.now in
    let x : ScriptLine = record { number = c.args.line.number; actor = Display; body = body.Display c.args.line.text } in
    let at : At script c.args.place x = at_place script c.args.place x c.requires.playable c.requires.line in
    let is : x.body ≡ body.Display (display.Begin c.in-Begin.time) = ap (λ t. body.Display t) c.in-Begin.is in
    line_begins script view c.args.place x at refl c.requires.of c.args.compositor.now c.begin.new.compositor c.args.film.now c.requires.stands c.in-Begin.time
    is c.begin.ensures.enters c.begin.ensures.starts
    (begins_closed script view c.args.place x at refl c.requires.of c.in-Begin.time is c.args.compositor.now c.args.film.now c.requires.stands)
    c.begin.ensures.open

pub returns-in-Begin-clause-directs : goal.returns-in-Begin-clause-directs
returns-in-Begin-clause-directs g c =
    let script = c.args.context.now.script.now in
    let view = c.args.context.now.stage.now in
    let x : ScriptLine = record { number = c.args.line.number; actor = Display; body = body.Display c.args.line.text } in
    let at : At script c.args.place x = at_place script c.args.place x c.requires.playable c.requires.line in
    let still = finished_still script view c.args.place x at refl c.requires.of c.args.compositor.now c.begin.new.compositor c.args.film.now c.requires.stands
    (Begin c.in-Begin.time) Done refl c.begin.ensures.enters in
    record { finishes = still.1; shown = IsShown.shows_none still.0 refl refl; keeping = refl }

pub returns-in_ok-finish-in-Done-clause-stands : goal.returns-in_ok-finish-in-Done-clause-stands
returns-in_ok-finish-in-Done-clause-stands g c =
    let script = c.args.context.now.script.now in
    let view = c.args.context.now.stage.now in
    let x : ScriptLine = record { number = c.args.line.number; actor = Display; body = body.Display c.args.line.text } in
    let at : At script c.args.place x = at_place script c.args.place x c.requires.playable c.requires.line in
    let is : x.body ≡ body.Display display.Done = ap (λ t. body.Display t) c.in-Done.is in
    let finishes = c.in_ok-finish-in-Done.ensures.finishes (history_of c.args.compositor.now.display.seen) c.requires.stands.frames.stored
    c.requires.stands.frames.starts in
    line_finishes script view c.args.place x at refl c.requires.of c.args.compositor.now c.finish.new.compositor c.args.film.now c.requires.stands is
    c.in_ok-finish-in-Done.ensures.enters c.finish.new.film finishes.next

pub returns-in_ok-finish-in-Done-clause-directs : goal.returns-in_ok-finish-in-Done-clause-directs
returns-in_ok-finish-in-Done-clause-directs g c =
    let script = c.args.context.now.script.now in
    let view = c.args.context.now.stage.now in
    let x : ScriptLine = record { number = c.args.line.number; actor = Display; body = body.Display c.args.line.text } in
    let at : At script c.args.place x = at_place script c.args.place x c.requires.playable c.requires.line in
    let is : x.body ≡ body.Display display.Done = ap (λ t. body.Display t) c.in-Done.is in
    let finishes = c.in_ok-finish-in-Done.ensures.finishes (history_of c.args.compositor.now.display.seen) c.requires.stands.frames.stored
    c.requires.stands.frames.starts in
    let all = finished_then script view c.args.place x at refl c.requires.of c.args.compositor.now c.finish.new.compositor c.args.film.now c.requires.stands
    c.in_ok-finish-in-Done.ensures.enters in
    record { finishes = all.1; shown = shown_as _ _ _ _ _ _ _ _ _ _ refl all.0 finishes.shown; keeping = finishes.next.kept.same }

pub returns-in_ok-finish-in-Done-clause-displays : goal.returns-in_ok-finish-in-Done-clause-displays
returns-in_ok-finish-in-Done-clause-displays g c =
    c.finish.ensures.displays

pub returns-in_ok-enter_beside-in_default : goal.returns-in_ok-enter_beside-in_default
returns-in_ok-enter_beside-in_default g c =
    let script = c.args.context.now.script.now in
    let view = c.args.context.now.stage.now in
    let x : ScriptLine = record { number = c.args.line.number; actor = Display; body = body.Display c.args.line.text } in
    let at : At script c.args.place x = at_place script c.args.place x c.requires.playable c.requires.line in
    let beside : is_beside c.args.line.text ≡ true = search rules in
    let e : EntersBeside (setup_of view) c.args.line.number c.args.line.text c.args.compositor.now c.enter_beside.new.compositor =
    c.in_ok-enter_beside-in_default.ensures.enters in
    let there = looked_there _ _ _ _ c.requires.of.setup e.looks in
    let looked = compositor_looks script view c.args.place c.args.compositor.now e.looked c.args.film.now there c.requires.stands in
    let still = finished_still script view c.args.place x at refl c.requires.of e.looked c.enter_beside.new.compositor c.args.film.now looked
    (entry_of_display c.args.line.text) e.reply (leaves_frames c.args.line.text beside).no_finish e.enters in
    let seen = looked_beside script view c.args.place c.args.compositor.now e.looked c.args.film.now there c.requires.stands in
    record {
      stands = line_beside script view c.args.place x at refl c.requires.of e.looked c.enter_beside.new.compositor c.args.film.now looked c.args.line.text
          beside refl e.reply c.enter_beside.new.film e.enters e.keeps c.in_ok-enter_beside-in_default.ensures.answers;
      directs = record {
        finishes = finishes_then script.setup (history_of c.args.compositor.now.display.seen) (history_of e.looked.display.seen)
            (history_of c.enter_beside.new.compositor.display.seen) seen still.1;
        shown = IsShown.shows_none (still.0 ∙ seen.finishing) (ap (λ (f : RaceFrames). f.set) c.enter_beside.ensures.others) refl;
        keeping = ap keeping_of (answers_keep script.setup c.args.line.number c.args.line.text c.args.film.now.store c.enter_beside.new.film.store
            c.in_ok-enter_beside-in_default.ensures.answers);
      };
      stays = tt;
      displays = record { count = ap (λ (f : RaceFrames). f.set.displays) c.enter_beside.ensures.others; kinds = refl };
    }

pub returns-in_err-enter_beside-in_default : goal.returns-in_err-enter_beside-in_default
returns-in_err-enter_beside-in_default g c = record {
  stands = search rules;
  directs = search rules;
  stays = MatchResult-from_err _ _ _ c.from_residual-in_err-enter_beside-in_default.ensures.0 (λ why. record {
    compositor = c.in_err-enter_beside-in_default.ensures.unmoved;
    set = ap (λ (f : RaceFrames). f.set) c.enter_beside.ensures.others;
    displays = refl;
  });
  displays = record { count = ap (λ (f : RaceFrames). f.set.displays) c.enter_beside.ensures.others; kinds = refl };
}

pub returns-in-Begin-clause-displays : goal.returns-in-Begin-clause-displays
returns-in-Begin-clause-displays g c =
    record { count = refl; kinds = refl }
