use Rattle.std.proofs.Common.{◌≡◌, true, refl, sym, subst, arith}
use Rattle.flat_base.specs.declared.ids.SessionNo.{SessionNo}
use Rattle.flat_base.specs.declared.ids.Actor.TheVariants.{Session}
use Rattle.flat_scene.specs.declared.script.LineBody.TheVariants as body
use Rattle.flat_scene.specs.declared.script.ScriptLine.{ScriptLine}
use Rattle.flat_play.proofs.lemmas.PlaySteps.{below_declared, session_finishes, session_share, session_more, own_reader}
use Rattle.flat_scene.specs.declared.script.SessionLine.{SessionLine}
use Rattle.flat_core.specs.Machines.{HasShare}
use Rattle.flat_rules.specs.Owned.{is_played_line}
use Rattle.flat_session.specs.Reads.{Reads, Stands}
use Rattle.flat_play.proofs.lemmas.Places.{here}
use Rattle.flat_play.proofs.lemmas.Readers.{on_board, reader_grows, reader_more, reader_owns}
use Rattle.flat_play.proofs.lemmas.Steps.{at_place}
use Rattle.flat_play.proofs.Touching.{grown-on}
use Rattle.flat_play.proofs.play.Play.play_session.Goals as goal

pub overflow_sub-s : goal.overflow_sub-s
overflow_sub-s c =
    let h = here c.args.script.now c.args.s c.args.place c.args.number c.args.text.now c.requires.playable c.requires.line in
    omega (arith, (below_declared c.args.script.now.setup c.args.s h.declared).0)

pub index_mut-reader-requires : goal.index_mut-reader-requires
index_mut-reader-requires c =
    let h = here c.args.script.now c.args.s c.args.place c.args.number c.args.text.now c.requires.playable c.requires.line in
    let within = below_declared c.args.script.now.setup c.args.s h.declared in
    omega (arith, within.0, within.1, c.requires.stands.readers.count)

pub call-requires-clause-owned : goal.call-requires-clause-owned
call-requires-clause-owned c =
    let h = here c.args.script.now c.args.s c.args.place c.args.number c.args.text.now c.requires.playable c.requires.line in
    let reader = c.index_mut-reader.result.now in
    let mine = own_reader c.args.script.now c.args.place c.args.self.now.board.history c.args.self.now.readers.items c.args.s h.declared
    c.requires.stands.readers reader c.index_mut-reader.ensures.value in
    let P : SessionLine → Type 0 = λ text. is_played_line c.args.self.now.board.setup reader.session text ≡ true in
    subst P (sym c.in_ok-text.ensures)
    (reader_owns c.args.script.now c.args.s c.args.self.now.board reader c.requires.stands.setup mine.session
    (λ setup s. is_played_line setup s c.args.text.now ≡ true) h.played)

pub call-requires-clause-share : goal.call-requires-clause-share
call-requires-clause-share c =
    let x : ScriptLine = record { number = c.args.number; actor = Session c.args.s; body = body.Session c.args.text.now } in
    let h = here c.args.script.now c.args.s c.args.place c.args.number c.args.text.now c.requires.playable c.requires.line in
    let reader = c.index_mut-reader.result.now in
    let mine = own_reader c.args.script.now c.args.place c.args.self.now.board.history c.args.self.now.readers.items c.args.s h.declared
    c.requires.stands.readers reader c.index_mut-reader.ensures.value in
    let S : SessionNo → Type 0 = λ s. HasShare c.args.self.now.board (Session s) in
    subst S (sym mine.session)
    (session_share c.args.script.now c.args.place x (at_place c.args.script.now c.args.place x c.requires.playable c.requires.line) c.args.self.now.board
    c.args.s c.requires.stands.shares h.declared c.requires.stands.spent)

pub call-requires-clause-few : goal.call-requires-clause-few
call-requires-clause-few c =
    let h = here c.args.script.now c.args.s c.args.place c.args.number c.args.text.now c.requires.playable c.requires.line in
    let mine = own_reader c.args.script.now c.args.place c.args.self.now.board.history c.args.self.now.readers.items c.args.s h.declared
    c.requires.stands.readers c.index_mut-reader.result.now c.index_mut-reader.ensures.value in
    omega (arith, h.above, mine.few, c.ranges.number)

pub call-requires-clause-stands : goal.call-requires-clause-stands
call-requires-clause-stands c =
    let h = here c.args.script.now c.args.s c.args.place c.args.number c.args.text.now c.requires.playable c.requires.line in
    let reader = c.index_mut-reader.result.now in
    let mine = own_reader c.args.script.now c.args.place c.args.self.now.board.history c.args.self.now.readers.items c.args.s h.declared
    c.requires.stands.readers reader c.index_mut-reader.ensures.value in
    on_board c.args.script.now.setup c.args.s c.args.self.now.board reader c.requires.stands.setup mine.session (λ setup es r. Stands setup es r) mine.stands

pub returns-clause-plays : goal.returns-clause-plays
returns-clause-plays c =
    let x : ScriptLine = record { number = c.args.number; actor = Session c.args.s; body = body.Session c.args.text.now } in
    let h = here c.args.script.now c.args.s c.args.place c.args.number c.args.text.now c.requires.playable c.requires.line in
    let script = c.args.script.now in
    let old = c.args.self.now in
    let reader = c.index_mut-reader.result.now in
    let mine = own_reader script c.args.place old.board.history old.readers.items c.args.s h.declared c.requires.stands.readers reader
    c.index_mut-reader.ensures.value in
    let R : SessionLine → Type 0 = λ text. Reads c.args.number text c.in_ok-_reply._reply old.board c.call.new.board reader c.call.new.self reader.closed in
    let reads = subst R c.in_ok-text.ensures c.in_ok-_reply.ensures.reads in
    let after = reader_more script c.args.s c.args.place c.args.number c.args.text.now h c.in_ok-_reply._reply old.board c.call.new.board reader c.call.new.self
    c.requires.stands.setup mine reads c.lines_are_read.ensures.more c.call.ensures.stands in
    let grown = reader_grows script c.args.s c.args.place c.args.number c.args.text.now h c.in_ok-_reply._reply old.board c.call.new.board reader
    c.call.new.self c.requires.stands.setup mine reads in
    record {
      stands = session_more script c.args.place x (at_place script c.args.place x c.requires.playable c.requires.line) old
          _ c.args.s c.args.text.now c.call.new.self refl refl h.declared c.requires.stands refl after grown refl refl;
      goes_on = grown-on old.board c.call.new.board (Session c.args.s) c.args.number grown;
      keeping = refl;
    }

pub returns-clause-frames : goal.returns-clause-frames
returns-clause-frames c =
    let x : ScriptLine = record { number = c.args.number; actor = Session c.args.s; body = body.Session c.args.text.now } in
    let h = here c.args.script.now c.args.s c.args.place c.args.number c.args.text.now c.requires.playable c.requires.line in
    let script = c.args.script.now in
    let old = c.args.self.now in
    let reader = c.index_mut-reader.result.now in
    let mine = own_reader script c.args.place old.board.history old.readers.items c.args.s h.declared c.requires.stands.readers reader
    c.index_mut-reader.ensures.value in
    let R : SessionLine → Type 0 = λ text. Reads c.args.number text c.in_ok-_reply._reply old.board c.call.new.board reader c.call.new.self reader.closed in
    let reads = subst R c.in_ok-text.ensures c.in_ok-_reply.ensures.reads in
    session_finishes script.setup x c.args.s old.board c.call.new.board refl
    (reader_grows script c.args.s c.args.place c.args.number c.args.text.now h c.in_ok-_reply._reply old.board c.call.new.board reader c.call.new.self
    c.requires.stands.setup mine reads)
