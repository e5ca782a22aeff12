-- How far the lines of pointers are answered.
use Rattle.std.specs.Prelude.{◌≡◌, ℕ, true, nat_le, List, [], ◌++◌, map}
use Rattle.std.specs.List.{list_all}
use Rattle.flat_scene.specs.declared.frames.Hit.{Hit}
use Rattle.flat_scene.specs.declared.journal.Entry.{Entry}
use Rattle.flat_scene.specs.declared.setup.Setup.{Setup}
use Rattle.flat_scene.specs.History.{◌▹◌, is_end}
use Rattle.flat_topology.specs.Hits.{hit_list}
use Rattle.flat_topology.specs.Shown.{Shown}
use Rattle.flat_pointer.specs.declared.text.PointerCall.{PointerCall}
use Rattle.flat_pointer.specs.declared.text.PointerCall.TheVariants.{Down}
use Rattle.flat_pointer.specs.declared.text.PointerLine.{PointerLine}
use Rattle.flat_pointer.specs.declared.text.PointerTouch.{PointerTouch}
use Rattle.flat_pointer.specs.Lines.{rise_after}
use Rattle.flat_play.specs.Touches.{touch_of}

-- what a call of a pointer hits in the states that are shown: the nodes at the point where it goes down
abbrev pub hits_in : Setup → Shown → PointerCall → List Hit
hits_in setup shown (Down x y) = hit_list setup shown x y
hits_in setup shown _ = []

-- a line of a pointer, with what it hits
abbrev pub touch_in : Setup → Shown → PointerLine → PointerTouch
touch_in setup shown line = record { line = line; hits = hits_in setup shown line.call }

-- A history goes on by at most one entry, of the line with this number.
pub data GoesOnAt (number : ℕ) (old new : List Entry) : Type 0 where
  stays : new ≡ old → GoesOnAt number old new
  enters : (entry : Entry) → entry.line ≡ number → new ≡ (old ▹ entry) → GoesOnAt number old new

-- A history goes on by Ends alone.
pub record GoesOnByEnds (old new : List Entry) : Type 0 where
  pub ends : List Entry
  pub is : new ≡ ends ++ old
  pub are_ends : list_all (λ entry. is_end entry.kind) ends ≡ true

-- The lines that come next, up to that of a number, are answered by what is shown, and the later ones are left.
pub record AnswersUpto (setup : Setup) (shown : Shown) (number : ℕ) (lines later : List PointerLine)
    (old new : List PointerTouch) : Type 0 where
  pub early : List PointerLine
  pub parts : lines ≡ early ++ later
  pub up_to : list_all (λ line. nat_le line.number number) early ≡ true
  pub rest : (from : ℕ) → rise_after from lines ≡ true → rise_after number later ≡ true
  pub touches : new ≡ old ++ map (touch_in setup shown) early

-- The first lines are answered, those up to that of a number, behind which no entry stands; the others are left.
pub record AreAnswered (setup : Setup) (history : List Entry) (number : ℕ) (lines left : List PointerLine)
    (found : List PointerTouch) : Type 0 where
  pub answered : List PointerLine
  pub parts : lines ≡ answered ++ left
  pub touches : found ≡ map (touch_of setup history) answered
  pub up_to : list_all (λ line. nat_le line.number number) answered ≡ true
  pub after : rise_after number left ≡ true
  pub entries : list_all (λ entry. nat_le entry.line number) history ≡ true
