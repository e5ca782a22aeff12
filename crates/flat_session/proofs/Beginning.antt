-- A session that read no line.
use Rattle.std.proofs.Common.{◌≡◌, true, false, [], refl, sym, subst}
use Rattle.flat_scene.specs.declared.setup.Setup.{Setup}
use Rattle.flat_scene.specs.Draft.{empty_draft}
use Rattle.flat_scene.specs.Setups.{is_declared}
use Rattle.flat_draft.specs.Laws.{EmptyStands}
use Rattle.flat_draft.specs.State.{empty_state}
use Rattle.flat_session.specs.declared.session_reader.SessionReader.{SessionReader}
use Rattle.flat_session.specs.Reads.{IsNew}

pub is_new : EmptyStands → (setup : Setup) (reader : SessionReader) → is_declared setup reader.session ≡ true
    → reader ≡ record reader { draft = empty_state setup.buffers; pending = []; events = []; refused = 0; closed = false } → IsNew setup reader.session reader
is_new empty setup reader declared rest =
    let R : SessionReader → Type 0 = IsNew setup reader.session in
    subst R (sym rest) (record {
      session = refl;
      stands = record {
        declared = declared;
        unended = refl;
        closed = refl;
        when_open = λ is. record { draft = empty_draft; made = refl; stands = empty setup; still_open = refl; private = refl; none_refused = refl };
        when_closed = λ is. refl;
      };
      no_calls = refl;
      no_events = refl;
      none_refused = refl;
      opened = refl;
    })
