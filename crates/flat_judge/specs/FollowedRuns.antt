-- A turn of a run that follows a text.
use Rattle.std.specs.Prelude.{◌<◌, ℕ, Bool, true, false, List}
use Rattle.flat_places.specs.declared.script.Script.{Script}
use Rattle.flat_judge.specs.declared.following.FollowedRun.{FollowedRun}
use Rattle.flat_judge.specs.Following.{HasStopped, IsAlong}

-- The run has gone on by an entry whose lines the text has; or it has stopped.
pub data Follows (script : Script) (text : List ℕ) (old new : FollowedRun) : Bool → Type 0 where
  goes : IsAlong script text new.run.screen.board.history new.along → old.along.at < new.along.at
      → Follows script text old new true
  stops : HasStopped script text new.run.screen.board.history new.along → Follows script text old new false
