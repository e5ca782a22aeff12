-- The text by what is kept is the text by the events.
use Rattle.std.proofs.Common.{ℕ, ◌≡◌, refl, ap, ◌∙◌, Bool, true, List, [], ◌∷◌, ◌++◌, length}
use Rattle.std.specs.List.{list_all}
use Rattle.flat_page.specs.Happenings.{Happening, finished, said, all_lines}
use Rattle.flat_page.specs.Steps.{after_all, without_items}
use Rattle.flat_page.specs.Words.{text_of}
use Rattle.flat_places.specs.Forms.{Word}
use Rattle.flat_page.proofs.lemmas.Telling as told
use Rattle.flat_focus.specs.declared.text.FocusLine.{FocusLine}
use Rattle.flat_focus.specs.Chains.{Focusing}
use Rattle.flat_focus.specs.Steps.{framed, asked, after, lines_with}
use Rattle.flat_focus.specs.Events.{FocusEvent, nodes_after, chain_after}
use Rattle.flat_focus.specs.Laws.{ItemsPlayNoPart, kept_after}
use Rattle.flat_focus.specs.Text.{event_of, lines_at, end_line}
use Rattle.flat_focus.proofs.Chaining.{calls-follow}

-- nobody changes for how many sessions there is room
pub sessions-stay : (xs : List (Happening FocusLine)) (focus : Focusing) → (after_all after xs focus).sessions ≡ focus.sessions
sessions-stay [] focus = refl
sessions-stay (finished out ∷ xs) focus = sessions-stay xs (framed out.tree.nodes focus)
sessions-stay (said line ∷ xs) focus = sessions-stay xs (asked line.by line.of focus)

line-follows : (names : List Word) (sessions : ℕ) (before : List FocusEvent) (one : Happening FocusLine)
    → lines_with names (kept_after sessions before) one ≡ lines_at names before one
line-follows names sessions before one =
    ap (λ (f : Focusing). lines_with names f one) (calls-follow sessions before) ∙ by_case one
  where
    by_case : (one : Happening FocusLine) → lines_with names (record { sessions = sessions; nodes = nodes_after before; chain = chain_after before }) one
        ≡ lines_at names before one
    by_case (finished out) = refl
    by_case (said line) = refl

after-follows : (sessions : ℕ) (before : List FocusEvent) (one : Happening FocusLine)
    → after one (kept_after sessions before) ≡ kept_after sessions (event_of one ∷ before)
after-follows sessions before (finished out) = refl
after-follows sessions before (said line) = refl

abbrev passes : Happening FocusLine → Bool
passes one = true

all-pass : (xs : List (Happening FocusLine)) → list_all passes xs ≡ true
all-pass [] = refl
all-pass (one ∷ xs) = all-pass xs

pub lines-follow : (names : List Word) (sessions : ℕ) (xs : List (Happening FocusLine))
    → all_lines (lines_with names) after (kept_after sessions []) xs ≡ all_lines (lines_at names) (λ one before. event_of one ∷ before) [] xs
lines-follow names sessions xs =
    told.lines-follow (lines_with names) after (lines_at names) (λ one before. event_of one ∷ before) (kept_after sessions) passes
    (λ before one pass. line-follows names sessions before one)
    (λ before one pass. after-follows sessions before one)
    xs [] (all-pass xs)

pub items-play-no-part : ItemsPlayNoPart
items-play-no-part names dones frames lines =
    ap (λ (written : List (List Word)). text_of (written ++ end_line (length lines) ∷ []))
    (told.lines-left (lines_at names) (λ one before. event_of one ∷ before) (λ line. line.number) without_items (λ before out. refl) (λ before out. refl) dones
    frames lines [])
