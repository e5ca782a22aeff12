-- the line that sums up the run of a load
use Rattle.std.specs.Prelude.{ℕ, List, [], ◌∷◌, codes}
use Rattle.flat_stress.specs.declared.load_totals.LoadTotals.{LoadTotals}
use Rattle.flat_stress.specs.Words.{line_text}
use Rattle.flat_page.specs.Words.{number}

unfoldable pub summary_line : LoadTotals → List ℕ
summary_line t =
    line_text
    (codes "stress" ∷ number t.load ∷ codes "sessions" ∷ number t.sessions ∷ codes "entries" ∷ number t.entries
    ∷ codes "frames" ∷ number t.frames ∷ codes "presents" ∷ number t.presents ∷ codes "items" ∷ number t.items ∷ [])
