-- A session's End.
use Rattle.std.proofs.Common.{◌≡◌, ℕ, Bool, true, false, List, refl, sym, ◌∙◌, subst}
use Rattle.flat_base.specs.declared.ids.Actor.TheVariants.{Session}
use Rattle.flat_scene.specs.declared.calls.Call.{Call}
use Rattle.flat_scene.specs.declared.journal.EntryKind.TheVariants.{End}
use Rattle.flat_scene.specs.History.{own}
use Rattle.flat_core.specs.Machines.{Machine, MayCall, HasShare}
use Rattle.flat_session.specs.declared.session_reader.SessionReader.{SessionReader}
use Rattle.flat_session.specs.Reads.{Stands, IsOpen}
use Rattle.flat_session.proofs.lemmas.Entering.{may_end, may_end_closed}

pub may_end_as : (m : Machine) (reader : SessionReader) → HasShare m (Session reader.session) → Stands m.setup (own reader.session m.history) reader
    → MayCall m (Session reader.session) reader.pending (End reader.refused)
may_end_as m reader share stands = by_closed reader.closed refl
  where
    by_closed : (b : Bool) → reader.closed ≡ b → MayCall m (Session reader.session) reader.pending (End reader.refused)
    by_closed true is =
        let C : List Call → Type 0 = λ calls. MayCall m (Session reader.session) calls (End reader.refused) in
        subst C (sym (stands.when_closed is)) (may_end_closed m reader.session reader.refused share stands.declared stands.unended (stands.closed ∙ is))
    by_closed false is =
        let open_now : IsOpen m.setup (own reader.session m.history) reader = stands.when_open is in
        let N : ℕ → Type 0 = λ n. MayCall m (Session reader.session) reader.pending (End n) in
        subst N (sym open_now.none_refused)
        (may_end m reader.session reader.pending open_now.draft
        (record {
          share = share;
          declared = stands.declared;
          unended = stands.unended;
          unclosed = stands.closed ∙ is;
          private = open_now.private;
          made = open_now.made;
        }))
