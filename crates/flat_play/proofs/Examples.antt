-- Worked cases, computed.
use Rattle.std.proofs.Common.{ℕ, ◌≡◌, refl, true, false, List, [], ◌∷◌}
use Rattle.flat_base.specs.declared.ids.Actor.TheVariants.{Display}
use Rattle.flat_scene.specs.declared.journal.Entry.{Entry}
use Rattle.flat_scene.specs.declared.journal.EntryKind.{EntryKind}
use Rattle.flat_scene.specs.declared.journal.EntryKind.TheVariants.{Begin, Finish}
use Rattle.flat_scene.specs.declared.journal.Reply.TheVariants.{Done}
use Rattle.flat_scene.specs.History.{◌▹◌}
use Rattle.flat_pointer.specs.declared.text.PointerCall.TheVariants.{Up}
use Rattle.flat_pointer.specs.declared.text.PointerLine.{PointerLine}
use Rattle.flat_pointer.specs.Lines.{rise_after}
use Rattle.flat_play.specs.Touches.{frames_before}

abbrev by_line : ℕ → EntryKind → Entry
by_line number kind = record { actor = Display; line = number; calls = []; kind = kind; reply = Done }

-- two frames, finished by lines 5 and 9
abbrev two_frames : List Entry
two_frames = [] ▹ by_line 4 (Begin 1) ▹ by_line 5 Finish ▹ by_line 8 (Begin 2) ▹ by_line 9 Finish

none_before_the_first_ends : frames_before 5 two_frames ≡ 0
none_before_the_first_ends = refl

one_between : frames_before 9 two_frames ≡ 1
one_between = refl

both_behind : frames_before 10 two_frames ≡ 2
both_behind = refl

abbrev up_at : ℕ → PointerLine
up_at number = record { number = number; pointer = 0; call = Up }

lines_rise : rise_after 3 (up_at 4 ∷ up_at 7 ∷ []) ≡ true
lines_rise = refl

a_line_may_not_stand_twice : rise_after 3 (up_at 4 ∷ up_at 4 ∷ []) ≡ false
a_line_may_not_stand_twice = refl
