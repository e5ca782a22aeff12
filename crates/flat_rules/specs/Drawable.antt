-- What every draw item of a frame has.
use Rattle.std.specs.Prelude.{List}
use Rattle.std.specs.List.{All}
use Rattle.flat_drawable.specs.Drawable.{IsDrawable}
use Rattle.flat_scene.specs.declared.journal.Entry.{Entry}
use Rattle.flat_scene.specs.declared.setup.Setup.{Setup}
use Rattle.flat_scene.specs.Frames.{setup_at}
use Rattle.flat_topology.specs.Draw.{draw_list}
use Rattle.flat_rules.specs.Shown.{shown_states}

-- all that is drawn of what the sessions show can be drawn, after any history and at its pixel ratio
abbrev pub ItemsAreDrawable : Type 0
ItemsAreDrawable = (setup : Setup) (history : List Entry)
    → All IsDrawable (draw_list (setup_at setup history) (shown_states setup history))
