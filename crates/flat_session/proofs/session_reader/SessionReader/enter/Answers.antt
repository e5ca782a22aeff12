use Rattle.std.proofs.Common.{◌≡◌, [], List, Option, sym, ap, ◌∙◌, subst}
use Rattle.flat_base.specs.declared.ids.Actor.TheVariants.{Session}
use Rattle.flat_scene.specs.declared.calls.Call.{Call}
use Rattle.flat_scene.specs.History.{own, closes}
use Rattle.flat_core.specs.Machines.{Machine, MayCall, entered}
use Rattle.flat_rules.specs.Legal.{reply_to}
use Rattle.flat_draft.specs.Stands.{StandsFor}
use Rattle.flat_scene.specs.Draft.{Draft}
use Rattle.flat_session.specs.declared.session_reader.SessionReader.{SessionReader}
use Rattle.flat_session.specs.Made.{kind_of, IsMeant}
use Rattle.flat_session.specs.Reads.{Stands, IsMade, kept_calls, viewport_call}
use Rattle.flat_session.proofs.lemmas.Readying.{may_enter, meant}
use Rattle.flat_session.proofs.lemmas.Standing.{stands_entered, stands_kept}
use Rattle.flat_session.proofs.session_reader.SessionReader.enter.Goals as goal

pub enter-requires-clause-may : goal.enter-requires-clause-may
enter-requires-clause-may c =
    let C : List Call → Type 0 = λ calls. MayCall c.args.board.now (Session c.args.self.now.session) calls (kind_of c.args.made) in
    subst C (sym c.replace-calls.ensures.value) (may_enter c.args.board.now c.args.self.now c.args.made c.requires.ready c.requires.share)

pub enter-requires-clause-meant : goal.enter-requires-clause-meant
enter-requires-clause-meant c =
    let C : List Call → Type 0 = λ calls. IsMeant c.args.board.now c.args.self.now.session calls c.args.made in
    subst C (sym c.replace-calls.ensures.value) (meant c.args.board.now c.args.self.now c.args.made c.requires.ready c.requires.share)

pub returns-in-Ok-clause-stands : goal.returns-in-Ok-clause-stands
returns-in-Ok-clause-stands c =
    let board : Machine = c.args.board.now in
    let old : SessionReader = c.args.self.now in
    let one = c.args.made in
    let reply = c.in-Ok.reply in
    let calls = c.replace-calls.ensures.value in
    let after : SessionReader = record old {
      draft = c.make.new.draft;
      pending = c.replace-calls.new.dest;
      events = c.enter.new.into;
      closed = c.closes-self.result;
    } in
    let none : c.replace-calls.new.dest ≡ [] = c.replace-calls.ensures.after ∙ c.new.ensures in
    let rest : after ≡ record old { draft = after.draft; pending = []; events = after.events; closed = closes reply } =
    ap (λ pending. let r : SessionReader = record after { pending = pending } in r) none
    ∙ ap (λ closed. let r : SessionReader = record after { pending = []; closed = closed } in r) c.closes-self.ensures in
    let replied : reply ≡ reply_to board.setup board.history (Session old.session) old.pending (kind_of one) =
    c.in-Ok.ensures.reply ∙ ap (λ carries. reply_to board.setup board.history (Session old.session) carries (kind_of one)) calls in
    let grown : c.enter.new.board ≡ entered board (Session old.session) c.args.number old.pending (kind_of one) reply =
    c.in-Ok.ensures.entry ∙ ap (λ carries. entered board (Session old.session) c.args.number carries (kind_of one) reply) calls in
    let makes : (d : Draft) → StandsFor board.setup old.draft d → IsMade board.setup d old.draft after.draft (viewport_call one) =
    (λ d stands.
    let L : Option Call → Type 0 = λ link. IsMade board.setup d old.draft after.draft link in
    subst L c.viewport_call-link.ensures (c.make.ensures board.setup d stands)) in
    let M : Machine → Type 0 = λ m. Stands m.setup (own old.session m.history) after in
    subst M (sym grown) (stands_entered board.setup board.history c.args.number old one c.requires.ready after reply replied makes rest)

pub returns-in-Err-clause-stands : goal.returns-in-Err-clause-stands
returns-in-Err-clause-stands c =
    let board : Machine = c.args.board.now in
    let old : SessionReader = c.args.self.now in
    let after : SessionReader = record old { pending = c.drop_last.new.pending; events = c.enter.new.into } in
    let pending : c.drop_last.new.pending ≡ kept_calls (viewport_call c.args.made) old.pending =
    c.drop_last.ensures ∙ ap (λ link. kept_calls link c.in-Err.calls) c.viewport_call-link.ensures
    ∙ ap (kept_calls (viewport_call c.args.made)) (c.in-Err.ensures.back ∙ c.replace-calls.ensures.value) in
    let rest : after ≡ record old { pending = kept_calls (viewport_call c.args.made) old.pending } =
    ap (λ pending. let r : SessionReader = record after { pending = pending } in r) pending
    ∙ ap (λ events. let r : SessionReader = record old { pending = kept_calls (viewport_call c.args.made) old.pending; events = events } in r)
    c.in-Err.ensures.same.1 in
    let M : Machine → Type 0 = λ m. Stands m.setup (own old.session m.history) after in
    subst M (sym c.in-Err.ensures.same.0) (stands_kept board.setup (own old.session board.history) old after c.args.made c.requires.ready c.in-Err.ensures.only
    rest)
