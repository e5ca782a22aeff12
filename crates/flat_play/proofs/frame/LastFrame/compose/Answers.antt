use Rattle.std.proofs.Common.{◌≡◌, Result, Ok, Err, OnOk}
use Rattle.flat_scene.specs.declared.setup.Setup.{Setup}
use Rattle.flat_core.specs.declared.start.FrameStart.{FrameStart}
use Rattle.flat_rules.specs.Ends.{to_begin}
use Rattle.flat_play.specs.declared.frame.LastFrame.{LastFrame}
use Rattle.flat_play.specs.Last.{IsLast, ShowsStart}
use Rattle.flat_play.proofs.lemmas.FramesShown.{scaled}
use Rattle.flat_play.proofs.frame.LastFrame.compose.Goals as goal

shows_start : {A E : Type 0} (setup : Setup) (start : FrameStart) (last : LastFrame) (result : Result A E) → OnOk result (IsLast setup last)
    → OnOk result (last.reuse ≡ start.shown) → last.ratio ≡ start.ratio → OnOk result (ShowsStart setup start last)
shows_start setup start last (Ok value) is shows scales = record { is = is; shows = shows; scales = scales }
shows_start setup start last (Err error) is shows scales = tt

pub returns-clause-frame : goal.returns-clause-frame
returns-clause-frame c = λ history starts.
    c.compose_next.ensures.frame (to_begin history) starts.shows (scaled c.args.setup.now (to_begin history) c.args.start.now.ratio starts.scales) starts.views

pub returns-clause-shows : goal.returns-clause-shows
returns-clause-shows c = shows_start c.args.setup.now c.args.start.now c.compose_next.new.self c.compose_next.result c.compose_next.ensures.is
    c.compose_next.ensures.shows c.compose_next.ensures.ratio
