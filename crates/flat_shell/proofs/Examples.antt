-- A small stage: when a frame may begin, whose client is out, and what is refused.
use Rattle.std.proofs.Common.{◌≡◌, true, false, [], ◌∷◌, length, Some, None, Ok, Err, refl, arith}
use Rattle.flat_base.specs.declared.ids.Actor.TheVariants.{Display}
use Rattle.flat_scene.specs.declared.journal.Entry.{Entry}
use Rattle.flat_scene.specs.declared.journal.EntryKind.TheVariants.{Begin, Finish}
use Rattle.flat_scene.specs.declared.journal.Reply.TheVariants.{Done}
use Rattle.flat_scene.specs.Journals.{history_of}
use Rattle.flat_core.specs.Machines.{Machine}
use Rattle.flat_rules.specs.Ends.{to_begin}
use Rattle.flat_rules.proofs.lemmas.Runs.{one_fill_one_frame-history, one_fill_one_frame-setup}
use Rattle.flat_rules.proofs.lemmas.Samples.{by, s}
use Rattle.flat_stage.specs.Displays.{DisplayView}
use Rattle.flat_stage.specs.Homes.{fresh_view}
use Rattle.flat_stage.specs.Seats.{StageView}
use Rattle.flat_client.specs.Clients.{new_client}
use Rattle.flat_shell.specs.declared.fault.CloseFault.TheVariants.{ClientsOut}
use Rattle.flat_shell.specs.Closing.{Closes}
use Rattle.flat_shell.specs.Live.{MayBegin, left, next_frame}
use Rattle.flat_shell.specs.Shells.{ShellView, all_home, client_of, hands_out}

abbrev begin : Entry
begin = by Display 13 [] (Begin 1000) Done

abbrev finish : Entry
finish = by Display 14 [] Finish Done

-- a stage of one session, whichever it is; the display may make four entries
module _ (lock : StageView) where
  abbrev stage : StageView
  stage = record lock { fixed = Some (one_fill_one_frame-setup, 4 ∷ 5 ∷ []) }

  -- the compositor before any entry, while its first frame is open, and after it
  abbrev at_first : DisplayView
  at_first = record { stage = stage; seen = []; mine = [] }

  abbrev in_frame : DisplayView
  in_frame = record { stage = stage; seen = history_of (to_begin one_fill_one_frame-history); mine = begin ∷ [] }

  abbrev at_end : DisplayView
  at_end = record { stage = stage; seen = history_of one_fill_one_frame-history; mine = begin ∷ finish ∷ [] }

  room_at_first : left at_first ≡ 4
  room_at_first = refl

  may_begin : MayBegin 0 at_first
  may_begin = (omega arith, omega arith)

  may_begin_again : MayBegin 1000 at_end
  may_begin_again = (omega arith, omega arith)

  not_earlier : MayBegin 999 at_end → ⊥
  not_earlier may = let late = may.1 in omega (arith, late)

  -- one entry is left, and a frame takes two
  no_room : (e : Entry) → MayBegin 2000 (record at_end { mine = begin ∷ finish ∷ e ∷ [] }) → ⊥
  no_room e may = let room = may.0 in omega (arith, room)

  -- the frame has the session's fill
  first_frame : (next_frame in_frame).frame ≡ record { 0 = 1 }
  first_frame = refl

  one_item : length (next_frame in_frame).items ≡ 1
  one_item = refl

  -- ---- clients

  abbrev opened : ShellView
  opened = record { stage = stage; home = Some (fresh_view stage (s 1)) ∷ []; handed = false ∷ [] }

  abbrev out : ShellView
  out = hands_out opened (s 1)

  client_waits : client_of opened (s 1) ≡ Some (new_client (fresh_view stage (s 1)))
  client_waits = refl

  -- it is handed out once, and there is none of a session that isn't there
  not_twice : client_of out (s 1) ≡ None
  not_twice = refl

  no_second_session : client_of opened (s 2) ≡ None
  no_second_session = refl

  home_at_first : all_home opened ≡ true
  home_at_first = refl

  -- while a client is out there is no board; shell and compositor come back
  not_closed : (board : Machine) → Closes out at_first (Ok board) → ⊥
  not_closed board closes = let wrong : false ≡ true = closes.0 in cc

  come_back : Closes out at_first (Err (ClientsOut out at_first))
  come_back = (refl, refl, refl)

  -- nor is a client said to be out that is home
  not_out : Closes opened at_first (Err (ClientsOut opened at_first)) → ⊥
  not_out closes = let wrong : true ≡ false = closes.0 in cc
