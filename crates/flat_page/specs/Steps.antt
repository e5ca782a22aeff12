-- What is kept from one finished frame or line to the next.
use Rattle.std.specs.Prelude.{List, [], ◌∷◌}
use Rattle.flat_scene.specs.declared.frames.FrameOut.{FrameOut}
use Rattle.flat_page.specs.Happenings.{Happening}

-- a frame without its draw items
abbrev pub without_items : FrameOut → FrameOut
without_items out = record out { items = [] }

-- what is kept after all that happens, by what is kept after one thing
abbrev pub after_all : {A S : Type 0} → (Happening A → S → S) → List (Happening A) → S → S
after_all after [] now = now
after_all after (one ∷ later) now = after_all after later (after one now)
