use Rattle.std.proofs.Common.{◌≡◌, true, List, sym, ap, subst}
use Rattle.flat_base.specs.declared.ids.SessionNo.{SessionNo}
use Rattle.flat_base.specs.declared.ids.Actor.TheVariants.{Session}
use Rattle.flat_scene.specs.declared.journal.Entry.{Entry}
use Rattle.flat_scene.specs.History.{own}
use Rattle.flat_core.specs.Machines.{Machine, HasShare}
use Rattle.flat_session.specs.declared.session_reader.PreparedLine.{PreparedLine}
use Rattle.flat_session.specs.declared.session_reader.SessionReader.{SessionReader}
use Rattle.flat_session.specs.Made.{kind_of, takes_memory}
use Rattle.flat_session.specs.Prepared.{Prepares}
use Rattle.flat_session.specs.Reads.{Enters, IsReady, Reads, kept_calls, viewport_call}
use Rattle.flat_session.proofs.lemmas.Outcomes.{if_ok, on_err}
use Rattle.flat_session.proofs.lemmas.Preparing.{entered_reads, kept_line, refused_reads, waiting_reads}
use Rattle.flat_session.proofs.session_reader.SessionReader.call.Goals as goal

pub prepare-requires-clause-stands : goal.prepare-requires-clause-stands
prepare-requires-clause-stands c = (c.args.board.now.setup, (own c.args.self.now.session c.args.board.now.history, c.requires.stands))

pub returns-in-Refused-clause-reads : goal.returns-in-Refused-clause-reads
returns-in-Refused-clause-reads c =
    let board : Machine = c.args.board.now in
    let old : SessionReader = c.args.self.now in
    let new : SessionReader = c.prepare.new.self in
    let mine : List Entry = own old.session board.history in
    let P : PreparedLine → Type 0 = Prepares board.setup mine c.args.text old new in
    refused_reads c.args.number c.args.text board old new c.in-Refused.reply
    (subst P c.in-Refused.is (c.in_ok-reply.ensures.prepares board.setup mine c.requires.stands c.requires.owned))

pub returns-in-Refused-clause-stands : goal.returns-in-Refused-clause-stands
returns-in-Refused-clause-stands c =
    let board : Machine = c.args.board.now in
    let mine : List Entry = own c.args.self.now.session board.history in
    let P : PreparedLine → Type 0 = Prepares board.setup mine c.args.text c.args.self.now c.prepare.new.self in
    (subst P c.in-Refused.is (c.in_ok-reply.ensures.prepares board.setup mine c.requires.stands c.requires.owned)).stands

pub returns-in-Waits-clause-reads : goal.returns-in-Waits-clause-reads
returns-in-Waits-clause-reads c =
    let board : Machine = c.args.board.now in
    let old : SessionReader = c.args.self.now in
    let new : SessionReader = c.prepare.new.self in
    let mine : List Entry = own old.session board.history in
    let P : PreparedLine → Type 0 = Prepares board.setup mine c.args.text old new in
    waiting_reads c.args.number c.args.text board old new c.in-Waits.reply
    (subst P c.in-Waits.is (c.in_ok-reply.ensures.prepares board.setup mine c.requires.stands c.requires.owned))

pub returns-in-Waits-clause-stands : goal.returns-in-Waits-clause-stands
returns-in-Waits-clause-stands c =
    let board : Machine = c.args.board.now in
    let mine : List Entry = own c.args.self.now.session board.history in
    let P : PreparedLine → Type 0 = Prepares board.setup mine c.args.text c.args.self.now c.prepare.new.self in
    (subst P c.in-Waits.is (c.in_ok-reply.ensures.prepares board.setup mine c.requires.stands c.requires.owned)).stands

pub enter-requires-clause-ready : goal.enter-requires-clause-ready
enter-requires-clause-ready c =
    let board : Machine = c.args.board.now in
    let old : SessionReader = c.args.self.now in
    let new : SessionReader = c.prepare.new.self in
    let mine : List Entry = own old.session board.history in
    let P : PreparedLine → Type 0 = Prepares board.setup mine c.args.text old new in
    let is = subst P c.in-Enters.is (c.in_ok-reply.ensures.prepares board.setup mine c.requires.stands c.requires.owned) in
    let S : SessionNo → Type 0 = λ s. IsReady board.setup (own s board.history) new c.in-Enters.made in
    subst S (sym (ap (λ (r : SessionReader). r.session) is.rest)) is.ready

pub enter-requires-clause-share : goal.enter-requires-clause-share
enter-requires-clause-share c =
    let board : Machine = c.args.board.now in
    let mine : List Entry = own c.args.self.now.session board.history in
    let P : PreparedLine → Type 0 = Prepares board.setup mine c.args.text c.args.self.now c.prepare.new.self in
    let is = subst P c.in-Enters.is (c.in_ok-reply.ensures.prepares board.setup mine c.requires.stands c.requires.owned) in
    let S : SessionNo → Type 0 = λ s. HasShare board (Session s) in
    subst S (sym (ap (λ (r : SessionReader). r.session) is.rest)) c.requires.share

pub returns-in-Enters-clause-reads : goal.returns-in-Enters-clause-reads
returns-in-Enters-clause-reads c =
    let board : Machine = c.args.board.now in
    let old : SessionReader = c.args.self.now in
    let new : SessionReader = c.prepare.new.self in
    let after : SessionReader = c.enter.new.self in
    let then : Machine = c.enter.new.board in
    let one = c.in-Enters.made in
    let mine : List Entry = own old.session board.history in
    let P : PreparedLine → Type 0 = Prepares board.setup mine c.args.text old new in
    let is = subst P c.in-Enters.is (c.in_ok-reply.ensures.prepares board.setup mine c.requires.stands c.requires.owned) in
    if_ok (λ reply. Enters c.args.number (kind_of one) reply board then new after)
    (λ reply. Reads c.args.number c.args.text reply board then old after old.closed) c.enter.result
    (λ reply enters. entered_reads c.args.number c.args.text board old new one reply then after is enters) c.enter.ensures.enters

pub returns-in-Enters-clause-kept : goal.returns-in-Enters-clause-kept
returns-in-Enters-clause-kept c =
    let board : Machine = c.args.board.now in
    let old : SessionReader = c.args.self.now in
    let new : SessionReader = c.prepare.new.self in
    let after : SessionReader = c.enter.new.self in
    let one = c.in-Enters.made in
    let mine : List Entry = own old.session board.history in
    let P : PreparedLine → Type 0 = Prepares board.setup mine c.args.text old new in
    let is = subst P c.in-Enters.is (c.in_ok-reply.ensures.prepares board.setup mine c.requires.stands c.requires.owned) in
    on_err (takes_memory one ≡ true) (after ≡ record new { pending = kept_calls (viewport_call one) new.pending })
    (after ≡ record old { draft = after.draft }) c.enter.result (kept_line board.setup mine c.args.text old new after one is) c.enter.ensures.only
    c.enter.ensures.kept
