-- Finished frames and lines, by the numbers of lines, and what is written of them one after another.
use Rattle.std.specs.Prelude.{ℕ, nat_lt, List, [], ◌∷◌, ◌++◌, length, map, take, drop, take_while}
use Rattle.flat_scene.specs.declared.frames.FrameOut.{FrameOut}
use Rattle.flat_places.specs.Forms.{Word}

-- ---- their order

-- A frame was finished, or a line stands there.
pub data Happening (A : Type 0) : Type 0 where
  finished : FrameOut → Happening A
  said : A → Happening A

-- how many of the lines, from the first, stand before that of a number
abbrev pub count_before : {A : Type 0} → (A → ℕ) → ℕ → List A → ℕ
count_before number done lines = length (take_while (λ line. nat_lt (number line) done) lines)

-- what happens, in order: the lines, and the frames, each of which was finished by the line of its number
abbrev pub merged : {A : Type 0} → (A → ℕ) → List ℕ → List FrameOut → List A → List (Happening A)
merged number (done ∷ dones) (frame ∷ frames) lines =
    map said (take (count_before number done lines) lines)
    ++ finished frame ∷ merged number dones frames (drop (count_before number done lines) lines)
merged number _ _ lines = map said lines

-- ---- one after another

-- the lines of all that happens, by those of one thing and what is kept after it
abbrev pub all_lines : {A S : Type 0} → (S → Happening A → List (List Word)) → (Happening A → S → S) → S
    → List (Happening A) → List (List Word)
all_lines lines after now [] = []
all_lines lines after now (one ∷ later) = lines now one ++ all_lines lines after (after one now) later
