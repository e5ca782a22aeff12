use Rattle.std.proofs.Common.{◌≡◌, true, ◌∷◌, [], ◌++◌, IfOk, OnErr, sym, ap, ◌∙◌, subst, length, ◌<◌}
use Rattle.std.specs.Prelude.{slice_index}
use Rattle.flat_base.specs.declared.ids.SessionNo.{SessionNo}
use Rattle.flat_scene.specs.Journals.{history_of}
use Rattle.flat_session.specs.declared.session_reader.EditOutcome.TheVariants.{Read}
use Rattle.flat_session.specs.declared.session_reader.PreparedLine.{PreparedLine}
use Rattle.flat_session.specs.declared.session_reader.SessionReader.{SessionReader}
use Rattle.flat_session.specs.Made.{kind_of, takes_memory}
use Rattle.flat_session.specs.Prepared.{Prepares}
use Rattle.flat_session.specs.Reads.{kept_calls, viewport_call}
use Rattle.flat_stage.specs.Readings.{IsReadAlone, SeatHasRead}
use Rattle.flat_stage.specs.Seats.{HasRoom, Seat, SeatSeesMore, SeesMore, SessionEnters, SessionReads, SessionView, session_view, setup_of, shares_of}
use Rattle.flat_session.proofs.lemmas.Outcomes.{if_ok, on_err_three}
use Rattle.flat_session.proofs.lemmas.Preparing.{kept_line}
use Rattle.flat_stage.proofs.Editing.{goes_edited, read_closed}
use Rattle.flat_stage.proofs.Going.{goes_on}
use Rattle.flat_stage.proofs.Preparing.{entered_follows, entered_reads, one_read, played_read, stands_read, waiting_alone}
use Rattle.flat_stage.proofs.Sitting.{at_one_same, view_kept}
use Rattle.flat_stage.proofs.session.SessionSeat.call.Goals as goal

pub prepare-requires-clause-stands : goal.prepare-requires-clause-stands
prepare-requires-clause-stands g c =
    let seat : Seat = c.self.inside.seat in
    let stands = stands_read seat c.self.inside.reader c.args.self.now c.self.view_is c.self.invariant c.requires.unended in
    (setup_of seat.lock, (history_of seat.mine, stands))

pub invariant_of-self-in-Refused : goal.invariant_of-self-in-Refused
invariant_of-self-in-Refused g c =
    let seat : Seat = c.self.inside.seat in
    let reader : SessionReader = c.self.inside.reader in
    let new : SessionReader = c.prepare.new.self in
    let stands = stands_read seat reader c.args.self.now c.self.view_is c.self.invariant c.requires.unended in
    let played = played_read seat reader c.args.self.now c.self.view_is c.args.text c.requires.owned in
    let P : PreparedLine → Type 0 = Prepares (setup_of seat.lock) (history_of seat.mine) c.args.text reader new in
    let is = subst P c.in-Refused.is (c.in_ok-reply.ensures.prepares (setup_of seat.lock) (history_of seat.mine) stands played) in
    one_read seat reader new c.args.text c.self.invariant.at_one (ap (λ (r : SessionReader). r.session) is.rest) is.stands

pub returns-in-Refused-clause-reads : goal.returns-in-Refused-clause-reads
returns-in-Refused-clause-reads g c =
    let seat : Seat = c.self.inside.seat in
    let reader : SessionReader = c.self.inside.reader in
    let new : SessionReader = c.prepare.new.self in
    let stands = stands_read seat reader c.args.self.now c.self.view_is c.self.invariant c.requires.unended in
    let played = played_read seat reader c.args.self.now c.self.view_is c.args.text c.requires.owned in
    let P : PreparedLine → Type 0 = Prepares (setup_of seat.lock) (history_of seat.mine) c.args.text reader new in
    let is = subst P c.in-Refused.is (c.in_ok-reply.ensures.prepares (setup_of seat.lock) (history_of seat.mine) stands played) in
    let V : SessionView → Type 0 = λ v. IsReadAlone c.args.text c.in-Refused.reply v (session_view seat new) in
    (subst V c.self.view_is (read_closed seat reader new c.args.text c.in-Refused.reply is.closed is.answer is.rest)).reads c.args.number

pub returns-in-Refused-clause-goes_on : goal.returns-in-Refused-clause-goes_on
returns-in-Refused-clause-goes_on g c =
    let seat : Seat = c.self.inside.seat in
    let reader : SessionReader = c.self.inside.reader in
    let new : SessionReader = c.prepare.new.self in
    let stands = stands_read seat reader c.args.self.now c.self.view_is c.self.invariant c.requires.unended in
    let played = played_read seat reader c.args.self.now c.self.view_is c.args.text c.requires.owned in
    let P : PreparedLine → Type 0 = Prepares (setup_of seat.lock) (history_of seat.mine) c.args.text reader new in
    let is = subst P c.in-Refused.is (c.in_ok-reply.ensures.prepares (setup_of seat.lock) (history_of seat.mine) stands played) in
    let V : SessionView → Type 0 = λ v. IsReadAlone c.args.text c.in-Refused.reply v (session_view seat new) in
    goes_edited c.args.text c.args.self.now (session_view seat new) (Read c.in-Refused.reply)
    (subst V c.self.view_is (read_closed seat reader new c.args.text c.in-Refused.reply is.closed is.answer is.rest))

pub returns-in-Refused-clause-follows : goal.returns-in-Refused-clause-follows
returns-in-Refused-clause-follows g c = λ given has.
    let seat : Seat = c.self.inside.seat in
    let reader : SessionReader = c.self.inside.reader in
    let new : SessionReader = c.prepare.new.self in
    let stands = stands_read seat reader c.args.self.now c.self.view_is c.self.invariant c.requires.unended in
    let played = played_read seat reader c.args.self.now c.self.view_is c.args.text c.requires.owned in
    let P : PreparedLine → Type 0 = Prepares (setup_of seat.lock) (history_of seat.mine) c.args.text reader new in
    let is = subst P c.in-Refused.is (c.in_ok-reply.ensures.prepares (setup_of seat.lock) (history_of seat.mine) stands played) in
    let V : SessionView → Type 0 = λ v. IsReadAlone c.args.text c.in-Refused.reply v (session_view seat new) in
    (subst V c.self.view_is (read_closed seat reader new c.args.text c.in-Refused.reply is.closed is.answer is.rest)).follows given c.args.number has

pub invariant_of-self-in-Waits : goal.invariant_of-self-in-Waits
invariant_of-self-in-Waits g c =
    let seat : Seat = c.self.inside.seat in
    let reader : SessionReader = c.self.inside.reader in
    let new : SessionReader = c.prepare.new.self in
    let stands = stands_read seat reader c.args.self.now c.self.view_is c.self.invariant c.requires.unended in
    let played = played_read seat reader c.args.self.now c.self.view_is c.args.text c.requires.owned in
    let P : PreparedLine → Type 0 = Prepares (setup_of seat.lock) (history_of seat.mine) c.args.text reader new in
    let is = subst P c.in-Waits.is (c.in_ok-reply.ensures.prepares (setup_of seat.lock) (history_of seat.mine) stands played) in
    one_read seat reader new c.args.text c.self.invariant.at_one (ap (λ (r : SessionReader). r.session) is.rest) is.stands

pub returns-in-Waits-clause-reads : goal.returns-in-Waits-clause-reads
returns-in-Waits-clause-reads g c =
    let seat : Seat = c.self.inside.seat in
    let reader : SessionReader = c.self.inside.reader in
    let new : SessionReader = c.prepare.new.self in
    let stands = stands_read seat reader c.args.self.now c.self.view_is c.self.invariant c.requires.unended in
    let played = played_read seat reader c.args.self.now c.self.view_is c.args.text c.requires.owned in
    let P : PreparedLine → Type 0 = Prepares (setup_of seat.lock) (history_of seat.mine) c.args.text reader new in
    let is = subst P c.in-Waits.is (c.in_ok-reply.ensures.prepares (setup_of seat.lock) (history_of seat.mine) stands played) in
    let V : SessionView → Type 0 = λ v. IsReadAlone c.args.text c.in-Waits.reply v (session_view seat new) in
    (subst V c.self.view_is (waiting_alone seat reader new c.args.text c.in-Waits.reply stands is)).reads c.args.number

pub returns-in-Waits-clause-goes_on : goal.returns-in-Waits-clause-goes_on
returns-in-Waits-clause-goes_on g c =
    let seat : Seat = c.self.inside.seat in
    let reader : SessionReader = c.self.inside.reader in
    let new : SessionReader = c.prepare.new.self in
    let stands = stands_read seat reader c.args.self.now c.self.view_is c.self.invariant c.requires.unended in
    let played = played_read seat reader c.args.self.now c.self.view_is c.args.text c.requires.owned in
    let P : PreparedLine → Type 0 = Prepares (setup_of seat.lock) (history_of seat.mine) c.args.text reader new in
    let is = subst P c.in-Waits.is (c.in_ok-reply.ensures.prepares (setup_of seat.lock) (history_of seat.mine) stands played) in
    let V : SessionView → Type 0 = λ v. IsReadAlone c.args.text c.in-Waits.reply v (session_view seat new) in
    goes_edited c.args.text c.args.self.now (session_view seat new) (Read c.in-Waits.reply)
    (subst V c.self.view_is (waiting_alone seat reader new c.args.text c.in-Waits.reply stands is))

pub returns-in-Waits-clause-follows : goal.returns-in-Waits-clause-follows
returns-in-Waits-clause-follows g c = λ given has.
    let seat : Seat = c.self.inside.seat in
    let reader : SessionReader = c.self.inside.reader in
    let new : SessionReader = c.prepare.new.self in
    let stands = stands_read seat reader c.args.self.now c.self.view_is c.self.invariant c.requires.unended in
    let played = played_read seat reader c.args.self.now c.self.view_is c.args.text c.requires.owned in
    let P : PreparedLine → Type 0 = Prepares (setup_of seat.lock) (history_of seat.mine) c.args.text reader new in
    let is = subst P c.in-Waits.is (c.in_ok-reply.ensures.prepares (setup_of seat.lock) (history_of seat.mine) stands played) in
    let V : SessionView → Type 0 = λ v. IsReadAlone c.args.text c.in-Waits.reply v (session_view seat new) in
    (subst V c.self.view_is (waiting_alone seat reader new c.args.text c.in-Waits.reply stands is)).follows given c.args.number has

pub enter-requires-clause-ready : goal.enter-requires-clause-ready
enter-requires-clause-ready g c =
    let seat : Seat = c.self.inside.seat in
    let reader : SessionReader = c.self.inside.reader in
    let new : SessionReader = c.prepare.new.self in
    let stands = stands_read seat reader c.args.self.now c.self.view_is c.self.invariant c.requires.unended in
    let played = played_read seat reader c.args.self.now c.self.view_is c.args.text c.requires.owned in
    let P : PreparedLine → Type 0 = Prepares (setup_of seat.lock) (history_of seat.mine) c.args.text reader new in
    let is = subst P c.in-Enters.is (c.in_ok-reply.ensures.prepares (setup_of seat.lock) (history_of seat.mine) stands played) in
    is.ready

pub enter-requires-clause-own : goal.enter-requires-clause-own
enter-requires-clause-own g c = ap (λ (v : SessionView). v.stage) c.self.view_is ∙ c.requires.own

pub enter-requires-clause-one : goal.enter-requires-clause-one
enter-requires-clause-one g c =
    let seat : Seat = c.self.inside.seat in
    let reader : SessionReader = c.self.inside.reader in
    let new : SessionReader = c.prepare.new.self in
    let stands = stands_read seat reader c.args.self.now c.self.view_is c.self.invariant c.requires.unended in
    let played = played_read seat reader c.args.self.now c.self.view_is c.args.text c.requires.owned in
    let P : PreparedLine → Type 0 = Prepares (setup_of seat.lock) (history_of seat.mine) c.args.text reader new in
    let is = subst P c.in-Enters.is (c.in_ok-reply.ensures.prepares (setup_of seat.lock) (history_of seat.mine) stands played) in
    at_one_same seat reader new c.self.invariant.at_one (ap (λ (r : SessionReader). r.session) is.rest)

pub enter-requires-clause-room : goal.enter-requires-clause-room
enter-requires-clause-room g c =
    let seat : Seat = c.self.inside.seat in
    let reader : SessionReader = c.self.inside.reader in
    let new : SessionReader = c.prepare.new.self in
    let stands = stands_read seat reader c.args.self.now c.self.view_is c.self.invariant c.requires.unended in
    let played = played_read seat reader c.args.self.now c.self.view_is c.args.text c.requires.owned in
    let P : PreparedLine → Type 0 = Prepares (setup_of seat.lock) (history_of seat.mine) c.args.text reader new in
    let is = subst P c.in-Enters.is (c.in_ok-reply.ensures.prepares (setup_of seat.lock) (history_of seat.mine) stands played) in
    let R : SessionNo → Type 0 = λ s. length seat.mine < slice_index (shares_of seat.lock) s.0 in
    subst R (sym (ap (λ (r : SessionReader). r.session) is.rest)) (subst HasRoom (sym c.self.view_is) c.requires.room)

pub returns-in-Enters-clause-reads : goal.returns-in-Enters-clause-reads
returns-in-Enters-clause-reads g c =
    let seat : Seat = c.self.inside.seat in
    let reader : SessionReader = c.self.inside.reader in
    let new : SessionReader = c.prepare.new.self in
    let stands = stands_read seat reader c.args.self.now c.self.view_is c.self.invariant c.requires.unended in
    let played = played_read seat reader c.args.self.now c.self.view_is c.args.text c.requires.owned in
    let P : PreparedLine → Type 0 = Prepares (setup_of seat.lock) (history_of seat.mine) c.args.text reader new in
    let is = subst P c.in-Enters.is (c.in_ok-reply.ensures.prepares (setup_of seat.lock) (history_of seat.mine) stands played) in
    let one = c.in-Enters.made in
    let then : Seat = c.enter.new.seat in
    let after : SessionReader = c.enter.new.reader in
    let V : SessionView → Type 0 = λ v. IfOk c.enter.result (λ reply. SessionReads c.args.number c.args.text reply v (session_view then after) v.closed) in
    subst V c.self.view_is
    (if_ok (λ reply. SessionEnters c.args.number new.pending (kind_of one) reply (session_view seat new) (session_view then after))
    (λ reply. SessionReads c.args.number c.args.text reply (session_view seat reader) (session_view then after) reader.closed) c.enter.result
    (λ reply enters. entered_reads seat then reader new after c.args.number c.args.text one reply is enters) c.enter.ensures.enters)

pub returns-in-Enters-clause-kept : goal.returns-in-Enters-clause-kept
returns-in-Enters-clause-kept g c =
    let seat : Seat = c.self.inside.seat in
    let reader : SessionReader = c.self.inside.reader in
    let new : SessionReader = c.prepare.new.self in
    let stands = stands_read seat reader c.args.self.now c.self.view_is c.self.invariant c.requires.unended in
    let played = played_read seat reader c.args.self.now c.self.view_is c.args.text c.requires.owned in
    let P : PreparedLine → Type 0 = Prepares (setup_of seat.lock) (history_of seat.mine) c.args.text reader new in
    let is = subst P c.in-Enters.is (c.in_ok-reply.ensures.prepares (setup_of seat.lock) (history_of seat.mine) stands played) in
    let one = c.in-Enters.made in
    let then : Seat = c.enter.new.seat in
    let after : SessionReader = c.enter.new.reader in
    let V : SessionView → Type 0 = λ v. OnErr c.enter.result (SeesMore v (session_view then after)) in
    subst V c.self.view_is
    (on_err_three (SeatSeesMore seat then) (takes_memory one ≡ true) (after ≡ record new { pending = kept_calls (viewport_call one) new.pending })
    (SeesMore (session_view seat reader) (session_view then after)) c.enter.result
    (λ sees takes kept. view_kept seat then reader after sees
    (kept_line (setup_of seat.lock) (history_of seat.mine) c.args.text reader new after one is takes kept))
    c.enter.ensures.sees c.enter.ensures.only c.enter.ensures.kept)

pub returns-in-Enters-clause-goes_on : goal.returns-in-Enters-clause-goes_on
returns-in-Enters-clause-goes_on g c =
    goes_on c.args.self.now (session_view c.enter.new.seat c.enter.new.reader) c.args.number c.args.text c.enter.result
    (returns-in-Enters-clause-reads g c) (returns-in-Enters-clause-kept g c)

pub returns-in-Enters-clause-follows : goal.returns-in-Enters-clause-follows
returns-in-Enters-clause-follows g c = λ given has.
    let seat : Seat = c.self.inside.seat in
    let reader : SessionReader = c.self.inside.reader in
    let new : SessionReader = c.prepare.new.self in
    let stands = stands_read seat reader c.args.self.now c.self.view_is c.self.invariant c.requires.unended in
    let played = played_read seat reader c.args.self.now c.self.view_is c.args.text c.requires.owned in
    let P : PreparedLine → Type 0 = Prepares (setup_of seat.lock) (history_of seat.mine) c.args.text reader new in
    let is = subst P c.in-Enters.is (c.in_ok-reply.ensures.prepares (setup_of seat.lock) (history_of seat.mine) stands played) in
    let one = c.in-Enters.made in
    let then : Seat = c.enter.new.seat in
    let after : SessionReader = c.enter.new.reader in
    let V : SessionView → Type 0 = SeatHasRead given in
    if_ok (λ reply. SessionEnters c.args.number new.pending (kind_of one) reply (session_view seat new) (session_view then after))
    (λ reply. SeatHasRead (given ++ (c.args.number, c.args.text) ∷ []) (session_view then after)) c.enter.result
    (λ reply enters. entered_follows seat then reader new after c.args.number c.args.text one reply is enters given stands (subst V (sym c.self.view_is) has))
    c.enter.ensures.enters
