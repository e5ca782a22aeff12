use Rattle.std.proofs.Common.{◌-◌, refl, length, slice_set, subst, sym}
use Rattle.flat_links.specs.AllEnds.{EndsEnteredBy}
use Rattle.flat_states.specs.Presents.{IsPlaced}
use Rattle.flat_states.proofs.lemmas.Heard.{entered-of}
use Rattle.flat_base.specs.declared.ids.Actor.{Actor}
use Rattle.flat_links.proofs.entries.note_in.Goals as goal

pub returns-in-Session-clause-sessions : goal.returns-in-Session-clause-sessions
returns-in-Session-clause-sessions c =
    let P : Actor → Type 0 = λ who. IsPlaced (length c.args.sessions.now.items) who in
    let placed = subst P c.in-Session.is c.requires.placed in
    rw c.note_entry.ensures (entered-of c.args.entry.now c.in-Session.s c.in-Session.is c.args.sessions.now.items c.index_mut-state.result.now placed
    c.index_mut-state.ensures.value)

pub returns-in-Session-clause-ends : goal.returns-in-Session-clause-ends
returns-in-Session-clause-ends c =
    let old = c.args.ends.now.items in
    let after = c.note_ends.new.ends in
    let P : Actor → Type 0 = λ who. EndsEnteredBy who c.args.entry.now c.args.sessions.now.items old (slice_set old (c.in-Session.s.0 - 1) after)
    c.args.links.now c.note_ends.new.links in
    subst P (sym c.in-Session.is)
    (record {
      state = c.index_mut-state.result.now;
      before = c.index_mut.result.now;
      after = after;
      of_state = c.index_mut-state.ensures.value;
      of_before = c.index_mut.ensures.value;
      heard = c.note_ends.ensures.ends;
      new_is = refl;
      links = c.note_ends.ensures.links;
    })
