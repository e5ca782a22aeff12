-- What a line of a session does to the board.
use Rattle.std.specs.Prelude.{◌≡◌, ℕ, Bool, true, false, List}
use Rattle.flat_base.specs.declared.ids.Actor.{Actor}
use Rattle.flat_scene.specs.declared.calls.Call.{Call}
use Rattle.flat_scene.specs.declared.journal.EntryKind.{EntryKind}
use Rattle.flat_scene.specs.declared.journal.EntryKind.TheVariants.{Begin, Finish, End, Hit}
use Rattle.flat_scene.specs.declared.journal.Reply.{Reply}
use Rattle.flat_core.specs.Machines.{Machine, entered}

-- an entry of a kind that is no frame event, no End and no question
abbrev pub is_quiet : EntryKind → Bool
is_quiet (Begin time) = false
is_quiet Finish = false
is_quiet (End refused) = false
is_quiet (Hit x y) = false
is_quiet _ = true

-- A board stays, or has one entry more of an actor and a line.
pub data Grows (old new : Machine) (who : Actor) (number : ℕ) : Type 0 where
  stays : new ≡ old → Grows old new who number
  grows : (carries : List Call) (kind : EntryKind) (reply : Reply) → is_quiet kind ≡ true → new ≡ entered old who number carries kind reply
      → Grows old new who number
