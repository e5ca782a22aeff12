use Rattle.std.proofs.Common.{◌≡◌, true, false, List, [], sym, ap, ◌∙◌, subst}
use Rattle.std.specs.List.{list_all}
use Rattle.flat_content.specs.Limits.{are_sides}
use Rattle.flat_scene.specs.declared.setup.BufferDecl.{BufferDecl}
use Rattle.flat_draft.specs.State.{empty_state}
use Rattle.flat_session.specs.declared.session_reader.SessionReader.{SessionReader}
use Rattle.flat_session.proofs.Beginning.{is_new}
use Rattle.flat_session.proofs.session_reader.SessionReader.new.Goals as goal

pub new-requires : goal.new-requires
new-requires c =
    let S : List BufferDecl → Type 0 = λ buffers. list_all are_sides buffers ≡ true in
    subst S (sym (c.in_ok-buffers.ensures ∙ c.requires.2)) (c.content_laws.ensures.sides_are_declared c.requires.0 c.requires.1)

pub returns : goal.returns
returns c = λ setup buffers declared.
    let reader : SessionReader = record {
      alloc = c.args.alloc;
      session = c.args.session;
      draft = c.new.result;
      pending = c.new-2.result;
      events = c.new-3.result;
      refused = 0;
      closed = false;
    } in
    let draft : c.new.result ≡ empty_state setup.buffers = c.new.ensures ∙ ap (λ (bs : List BufferDecl). empty_state bs) (c.in_ok-buffers.ensures ∙ buffers) in
    is_new c.draft_laws.ensures.empty_stands setup reader declared
    (ap (λ d. let r : SessionReader = record reader { draft = d } in r) draft
    ∙ ap (λ p. let r : SessionReader = record reader { draft = empty_state setup.buffers; pending = p } in r) c.new-2.ensures
    ∙ ap (λ e. let r : SessionReader = record reader { draft = empty_state setup.buffers; pending = []; events = e } in r) c.new-3.ensures)
