use Rattle.std.proofs.Common.{◌≡◌, ◌+◌, ◌<◌, ℕ, length, get_or, refl, sym, ap, ◌∙◌, subst, arith, append-nil}
use Rattle.flat_places.specs.declared.script.Script.{Script}
use Rattle.flat_report.specs.Report.{finished}
use Rattle.flat_session.specs.declared.session_reader.SessionReader.{SessionReader}
use Rattle.flat_play.specs.declared.play.Play.{Play}
use Rattle.flat_play.specs.Playing.{ReaderStands, EndsStand}
use Rattle.flat_play.proofs.Ending.{end_share, end_stands, ends_more}
use Rattle.flat_play.proofs.Touching.{no-ends, one-end-more}
use Rattle.flat_play.proofs.play.Play.end_next.Goals as goal

waiting_is : (script : Script) (before : ℕ) (old : Play) (reader : SessionReader) → before < script.setup.sessions → EndsStand script before old
    → reader ≡ get_or old.readers.items before reader
    → ReaderStands script (record { 0 = before + 1 }) (length script.lines) old.board.history reader
waiting_is script before old reader within stands is =
    let P : SessionReader → Type 0 = λ r. ReaderStands script (record { 0 = before + 1 }) (length script.lines) old.board.history r in
    let count : length old.readers.items ≡ script.setup.sessions = stands.count in
    subst P (sym is) (stands.waiting before reader (omega arith) (omega (arith, count)))

pub end-reply-requires-clause-share : goal.end-reply-requires-clause-share
end-reply-requires-clause-share c =
    let script = c.args.script.now in
    let old = c.args.self.now in
    let reader = c.index_mut-reader.result.now in
    let mine = waiting_is script c.args.before old reader c.requires.within c.requires.stands c.index_mut-reader.ensures.value in
    end_share c.lines_are_read.ensures.ends script c.requires.playable c.args.before c.requires.within old c.requires.stands reader mine

pub end-reply-requires-clause-stands : goal.end-reply-requires-clause-stands
end-reply-requires-clause-stands c =
    let script = c.args.script.now in
    let old = c.args.self.now in
    let reader = c.index_mut-reader.result.now in
    let mine = waiting_is script c.args.before old reader c.requires.within c.requires.stands c.index_mut-reader.ensures.value in
    end_stands c.lines_are_read.ensures.ends script c.requires.playable c.args.before c.requires.within old c.requires.stands reader mine

pub returns-clause-stands : goal.returns-clause-stands
returns-clause-stands c =
    let script = c.args.script.now in
    let old = c.args.self.now in
    let reader = c.index_mut-reader.result.now in
    let mine = waiting_is script c.args.before old reader c.requires.within c.requires.stands c.index_mut-reader.ensures.value in
    ends_more c.lines_are_read.ensures.ends script c.requires.playable c.args.before c.requires.within old c.requires.stands reader mine _ c.end-reply.new.self
    c.end-reply.ensures.entry refl refl

pub returns-clause-ends : goal.returns-clause-ends
returns-clause-ends c =
    one-end-more c.args.self.now.board.history c.args.self.now.board.history _ _ refl (ap (λ m. m.history) c.end-reply.ensures.entry)
    (no-ends c.args.self.now.board.history)

pub returns-clause-frames : goal.returns-clause-frames
returns-clause-frames c =
    ap (λ m. finished c.args.script.now.setup m.history) c.end-reply.ensures.entry ∙ append-nil (finished c.args.script.now.setup c.args.self.now.board.history)
