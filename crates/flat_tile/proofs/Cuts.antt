-- What is drawn in what a window shares with another area.
use Rattle.std.proofs.Common.{ℕ, ◌≡◌, ◌≤◌, ◌∙◌, ◌&&◌, Bool, true, false, if◌then◌else◌, refl, sym, ap, arith}
use Rattle.std.proofs.lemmas.Bool.{false_from_ne_true}
use Rattle.flat_ink.specs.Areas.{has_pixel}
use Rattle.flat_ink.specs.declared.area.Area.{Area}
use Rattle.flat_ink.proofs.lemmas.Windows.{pixel-left, pixel-right, pixel-top, pixel-bottom}

-- an area without columns, or without rows, has no pixel
pub no-columns : (cut : Area) (px py : ℕ) → cut.x1 ≤ cut.x0 → has_pixel cut px py ≡ false
no-columns cut px py none = false_from_ne_true _ (λ has. absurd (omega (arith, none, pixel-left cut px py has, pixel-right cut px py has)))

pub no-rows : (cut : Area) (px py : ℕ) → cut.y1 ≤ cut.y0 → has_pixel cut px py ≡ false
no-rows cut px py none = false_from_ne_true _ (λ has. absurd (omega (arith, none, pixel-top cut px py has, pixel-bottom cut px py has)))

within : (area window k : Bool) (painted old : ℕ) → (window ≡ true → area ≡ k)
    → (if (area && window) then (if k then painted else old) else old) ≡ (if window then (if k then painted else old) else old)
within true true k painted old same = refl
within true false k painted old same = refl
within false true true painted old same = let e : false ≡ true = same refl in absurd (cc)
within false true false painted old same = refl
within false false k painted old same = refl

-- painted on what is shared with an area that has what is covered
pub cut-painted : (cut area window k : Bool) (painted old now : ℕ) → cut ≡ (area && window) → (window ≡ true → area ≡ k)
    → now ≡ (if cut then (if k then painted else old) else old) → now ≡ (if window then (if k then painted else old) else old)
cut-painted cut area window k painted old now e same h =
    h ∙ ap (λ (b : Bool). if b then (if k then painted else old) else old) e ∙ within area window k painted old same

-- nothing is shared
pub none-painted : (cut area window k : Bool) (painted old : ℕ) → cut ≡ (area && window) → (window ≡ true → area ≡ k)
    → cut ≡ false → old ≡ (if window then (if k then painted else old) else old)
none-painted cut area window k painted old e same none =
    cut-painted cut area window k painted old old e same (sym (ap (λ (b : Bool). if b then (if k then painted else old) else old) none))

-- nothing of the window is covered
pub cut-missed : (window k : Bool) (painted old : ℕ) → (window ≡ true → k ≡ false) → old ≡ (if window then (if k then painted else old) else old)
cut-missed true true painted old missed = let e : true ≡ false = missed refl in absurd (cc)
cut-missed true false painted old missed = refl
cut-missed false k painted old missed = refl
