-- Which fences a present releases.
use Rattle.std.specs.Prelude.{List, flat_map}
use Rattle.flat_base.specs.declared.ids.FenceNo.{FenceNo}
use Rattle.flat_scene.specs.declared.journal.Entry.{Entry}
use Rattle.flat_scene.specs.declared.setup.Setup.{Setup}
use Rattle.flat_scene.specs.Frames.{going, sessions_to}

module _ (setup : Setup) where
  -- the fences that the end of the frame begun last releases
  abbrev pub releases : List Entry → List FenceNo
  releases history = flat_map (λ s. flat_map (λ present. present.args.release) (going setup history s))
      (sessions_to setup.sessions)
