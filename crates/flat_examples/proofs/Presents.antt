-- Presents: credits, what frames take, and when release fences are signalled.
use Rattle.std.proofs.Common.{◌≡◌, ℕ, true, false, Bool, List, [], ◌∷◌, Some, None, length, refl}
use Rattle.flat_base.specs.declared.errors.FlatlandError.TheVariants.{NoPresentsRemaining}
use Rattle.flat_base.specs.declared.ids.Actor.TheVariants.{Session}
use Rattle.flat_scene.specs.declared.calls.PresentArgs.{PresentArgs}
use Rattle.flat_scene.specs.declared.journal.Entry.{Entry}
use Rattle.flat_scene.specs.declared.journal.EntryKind.TheVariants as kind
use Rattle.flat_scene.specs.declared.journal.Reply.{Reply}
use Rattle.flat_scene.specs.declared.journal.Reply.TheVariants as reply
use Rattle.flat_scene.specs.Frames.{is_signalled, taken, going}
use Rattle.flat_scene.specs.History.{◌▹◌}
use Rattle.flat_rules.specs.Legal.{reply_to}
use Rattle.flat_examples.specs.Words.{s, f, by_session, by_display, present}
use Rattle.flat_examples.specs.Refused.{home}

abbrev presents : ℕ → PresentArgs → Reply → Entry
presents line args answer = by_session 1 line [] (kind.Present args) answer

-- the reply to one more present
abbrev next_reply : List Entry → Reply
next_reply before = reply_to home before (Session (s 1)) [] (kind.Present (present [] []))

abbrev no_credit : Reply
no_credit = reply.Closed (Some NoPresentsRemaining) None

-- ---- credits: one before a frame took a present, and five from then on

abbrev one : List Entry
one = [] ▹ presents 1 (present [] []) (reply.Presented 1 0)

first_present : next_reply [] ≡ reply.Presented 1 0
first_present = refl

second_present_is_refused : next_reply one ≡ no_credit
second_present_is_refused = refl

-- the begin gives the credits, not the end of the frame
second_present_after_begin : next_reply (one ▹ by_display 2 (kind.Begin 10)) ≡ reply.Presented 2 4
second_present_after_begin = refl

abbrev five : List Entry
five = one
    ▹ by_display 2 (kind.Begin 10)
    ▹ by_display 3 kind.Finish
    ▹ presents 4 (present [] []) (reply.Presented 2 4)
    ▹ presents 5 (present [] []) (reply.Presented 3 3)
    ▹ presents 6 (present [] []) (reply.Presented 4 2)
    ▹ presents 7 (present [] []) (reply.Presented 5 1)

fifth_that_waits : next_reply five ≡ reply.Presented 6 0
fifth_that_waits = refl

sixth_that_waits_is_refused : next_reply (five ▹ presents 8 (present [] []) (reply.Presented 6 0)) ≡ no_credit
sixth_that_waits_is_refused = refl

-- ---- when a present is due

abbrev at_20 : PresentArgs
at_20 = record (present [] []) { time = 20 }

one_unit_early : taken home ([] ▹ presents 1 at_20 (reply.Presented 1 0) ▹ by_display 2 (kind.Begin 19)) (s 1) ≡ 0
one_unit_early = refl

in_time : taken home ([] ▹ presents 1 at_20 (reply.Presented 1 0) ▹ by_display 2 (kind.Begin 20)) (s 1) ≡ 1
in_time = refl

-- a fence that its session signals inside a frame comes too late for that frame
abbrev late : List Entry
late = []
    ▹ presents 1 (present (f 0 ∷ []) []) (reply.Presented 1 0)
    ▹ by_display 2 (kind.Begin 10)
    ▹ by_session 1 3 [] (kind.Signal (f 0)) reply.Done
    ▹ by_display 4 kind.Finish

too_late : taken home late (s 1) ≡ 0
too_late = refl

next_frame : taken home (late ▹ by_display 5 (kind.Begin 10)) (s 1) ≡ 1
next_frame = refl

-- ---- release fences

abbrev releasing : PresentArgs
releasing = present [] (f 0 ∷ [])

abbrev is_released : List Entry → Bool
is_released history = is_signalled home history (f 0)

-- signalled by the end of the frame that took the present, not by its begin
abbrev released_begun : List Entry
released_begun = [] ▹ presents 1 releasing (reply.Presented 1 0) ▹ by_display 2 (kind.Begin 10)

not_at_begin : is_released released_begun ≡ false
not_at_begin = refl

at_done : is_released (released_begun ▹ by_display 3 kind.Finish) ≡ true
at_done = refl

-- a squashed present releases too
abbrev squashed : List Entry
squashed = one
    ▹ by_display 2 (kind.Begin 10)
    ▹ by_display 3 kind.Finish
    ▹ presents 4 releasing (reply.Presented 2 4)
    ▹ presents 5 (present [] []) (reply.Presented 3 3)
    ▹ by_display 6 (kind.Begin 20)
    ▹ by_display 7 kind.Finish

squashed_is_released : is_released squashed ≡ true
squashed_is_released = refl

-- a session that is closed before a begin: the frame takes nothing of it, and its end releases all that waits
abbrev closed_begun : List Entry
closed_begun = []
    ▹ presents 1 releasing (reply.Presented 1 0)
    ▹ by_session 1 2 [] (kind.Close None) (reply.Closed None None)
    ▹ by_display 3 (kind.Begin 10)

closed_takes_nothing : taken home closed_begun (s 1) ≡ 0
closed_takes_nothing = refl

closed_lets_go : length (going home closed_begun (s 1)) ≡ 1
closed_lets_go = refl

closed_is_released : is_released (closed_begun ▹ by_display 4 kind.Finish) ≡ true
closed_is_released = refl

-- one that is closed inside a frame: that frame's end releases nothing that it didn't take, and the next one's does
abbrev closed_inside : List Entry
closed_inside = []
    ▹ presents 1 (record releasing { time = 20 }) (reply.Presented 1 0)
    ▹ by_display 2 (kind.Begin 10)
    ▹ by_session 1 3 [] (kind.Close None) (reply.Closed None None)
    ▹ by_display 4 kind.Finish

not_by_this_frame : is_released closed_inside ≡ false
not_by_this_frame = refl

by_the_next_frame : is_released (closed_inside ▹ by_display 5 (kind.Begin 10) ▹ by_display 6 kind.Finish) ≡ true
by_the_next_frame = refl
