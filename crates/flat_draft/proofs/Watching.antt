-- What a get means, in the words of the draft.
use Rattle.std.proofs.Common.{◌≡◌, refl, ap}
use Rattle.std.specs.Option.{option_and_then}
use Rattle.flat_scene.specs.declared.calls.Watch.{Watch}
use Rattle.flat_scene.specs.declared.calls.Watch.TheVariants.{Layout, Status, Child}
use Rattle.flat_scene.specs.declared.setup.Setup.{Setup}
use Rattle.flat_scene.specs.Draft.{Draft}
use Rattle.flat_scene.specs.Interleave.{get_tests}
use Rattle.flat_scene.specs.Misuse.{first_reason}
use Rattle.flat_content.specs.Table.{pair_of}
use Rattle.flat_content.proofs.lemmas.Standing.{content_calls_stand}
use Rattle.flat_draft.specs.Answers.{pair_watched}
use Rattle.flat_draft.specs.Parts.{watch_tests, watched}
use Rattle.flat_draft.specs.Stands.{StandsFor}
use Rattle.flat_draft.specs.State.{DraftState}

module _ (setup : Setup) (state : DraftState) (draft : Draft) (s : StandsFor setup state draft) where
  pub watch-reason : (get : Watch) → first_reason (watch_tests state.view state.contents get) ≡ first_reason (get_tests draft get)
  watch-reason Layout = rw (s.view) refl
  watch-reason Status = rw (s.view) refl
  watch-reason (Child c) = (content_calls_stand setup state.contents draft s.contents).sorts c

  pub watch-pair : (get : Watch) → watched state.view state.contents get ≡ pair_watched draft get
  watch-pair Layout = s.view
  watch-pair Status = s.view
  watch-pair (Child c) = ap (option_and_then pair_of) ((content_calls_stand setup state.contents draft s.contents).made c)
