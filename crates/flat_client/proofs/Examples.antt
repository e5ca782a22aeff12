-- Small clients: what they may do, and what is refused.
use Rattle.std.proofs.Common.{◌≡◌, ℕ, true, false, List, [], ◌∷◌, Some, None, Ok, Err, refl, arith}
use Rattle.flat_base.specs.declared.ids.Actor.TheVariants.{Display}
use Rattle.flat_base.specs.declared.errors.Reason.TheVariants.{IdInUse, ZeroId}
use Rattle.flat_scene.specs.declared.calls.Call.{Call}
use Rattle.flat_scene.specs.declared.calls.Call.TheVariants.{CreateTransform, CreateView}
use Rattle.flat_scene.specs.declared.journal.Entry.{Entry}
use Rattle.flat_scene.specs.declared.journal.EntryKind.TheVariants as kinds
use Rattle.flat_scene.specs.declared.journal.Reply.{Reply}
use Rattle.flat_scene.specs.declared.script.SessionLine.TheVariants.{Disconnect, Poll, Signal}
use Rattle.flat_scene.specs.declared.script.SessionLine.TheVariants as line
use Rattle.flat_scene.specs.declared.setup.Setup.{Setup}
use Rattle.flat_stage.specs.Homes.{fresh_view}
use Rattle.flat_stage.specs.Readings.{entry_by}
use Rattle.flat_stage.specs.Seats.{SessionView, StageView}
use Rattle.flat_rules.proofs.lemmas.Samples.{s, f, p, t}
use Rattle.flat_client.specs.declared.error.CallError.TheVariants as error
use Rattle.flat_client.specs.Clients.{Answers, ClientView, Enters, HasRoomFor, IsWaiting, due, may_say, misuse_now, new_client, room_of}

-- one session, which may make five entries; the only fence is the display's
abbrev setup : Setup
setup = record {
  width = 64;
  height = 48;
  sessions = 1;
  probes = 0;
  pairs = record { viewport = Display; view = s 1 } ∷ [];
  buffers = [];
  fences = record { owners = Display ∷ [] } ∷ [];
  ratio = 65536;
}

-- a stage of it, whichever it is
module _ (lock : StageView) where
  abbrev stage : StageView
  stage = record lock { fixed = Some (setup, 4 ∷ 5 ∷ []) }

  abbrev seat : SessionView
  seat = fresh_view stage (s 1)

  abbrev client : ClientView
  client = new_client seat

  -- after a call that waits, and after some entries
  abbrev with_call : Call → ClientView
  with_call call = record client { seat = record seat { pending = call ∷ [] } }

  abbrev after : List Entry → ClientView
  after mine = record client { seat = record seat { mine = mine } }

  -- after a misuse
  abbrev owing : ClientView
  owing = record client { owed = Some (CreateTransform (t 0)) }

  -- a close and the End are kept back
  room_at_first : room_of client ≡ 3
  room_at_first = refl

  no_room_once_closed : room_of (record client { seat = record seat { closed = true } }) ≡ 0
  no_room_once_closed = refl

  -- with three entries made there is no room for a poll, but for a disconnect
  no_room_for_a_poll : (e : Entry) → HasRoomFor Poll (after (e ∷ e ∷ e ∷ [])) → ⊥
  no_room_for_a_poll e room = omega (arith, room)

  room_to_leave : (e : Entry) → HasRoomFor Disconnect (after (e ∷ e ∷ e ∷ []))
  room_to_leave e = omega arith

  may_view : may_say client (line.Call (CreateView (p 0))) ≡ true
  may_view = refl

  may_not_signal : may_say client (Signal (f 0)) ≡ false
  may_not_signal = refl

  right_call : misuse_now client (CreateTransform (t 1)) ≡ None
  right_call = refl

  waits : IsWaiting (CreateTransform (t 1)) client (with_call (CreateTransform (t 1)))
  waits = record { free = record { opened = refl; nothing_owed = refl }; own = refl; right = refl; waits = refl }

  -- the calls that wait count
  in_use : misuse_now (with_call (CreateTransform (t 1))) (CreateTransform (t 1)) ≡ Some IdInUse
  in_use = refl

  -- a misuse isn't done; its entry comes before any other, and closes
  not_done : (new : ClientView) → Answers (CreateTransform (t 0)) client new (Ok tt) → ⊥
  not_done new answers = let wrong : Some ZeroId ≡ None = answers.right in cc

  misused : Answers (CreateTransform (t 0)) client owing (Err error.Misused)
  misused = (refl, refl, refl, refl)

  comes_first : entry_by seat (due Poll owing.owed) ≡ Some (kinds.Close (Some ZeroId))
  comes_first = refl

  no_entry_before : (reply : Reply) (new : ClientView) → Enters Poll owing new (Ok reply) → ⊥
  no_entry_before reply new enters = let wrong : Some (CreateTransform (t 0)) ≡ None = enters.0.nothing_owed in cc
