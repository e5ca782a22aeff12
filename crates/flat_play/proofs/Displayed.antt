-- How far the display's entries have read its lines, and how all entries are written in order.
use Rattle.std.proofs.Common.{◌≡◌, ℕ, List, [], ◌∷◌, sym, subst}
use Rattle.flat_scene.specs.declared.journal.Entry.{Entry}
use Rattle.flat_scene.specs.declared.script.DisplayLine.{DisplayLine}
use Rattle.flat_scene.specs.History.{◌▹◌}
use Rattle.flat_scene.specs.Interleave.{IsNext, unread_lines, entry_of_display, IsFirstLine, FollowsDisplay}

-- an entry that is what the first line left makes follows
pub display_more : (lines : List (ℕ × DisplayLine)) (entries : List Entry) (entry : Entry) (n : ℕ) (text : DisplayLine) (rest : List (ℕ × DisplayLine))
    → FollowsDisplay lines entries
    → unread_lines entries lines ≡ (n, text) ∷ rest → IsNext (record { line = n; carries = []; kind = entry_of_display text }) entry
    → FollowsDisplay lines (entries ▹ entry)
display_more lines entries entry n text rest follows unread fits =
    let P : List (ℕ × DisplayLine) → Type 0 = λ ls. IsFirstLine ls entry in (follows, subst P (sym unread) fits)
