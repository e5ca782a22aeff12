-- A line of pixels that is changed one by one.
use Rattle.std.proofs.Common.{ℕ, ◌+◌, ◌<◌, ◌≤◌, ◌≡◌, ◌≢◌, refl, ap, ◌∙◌, sym, List, length, get_or, set, get_or-set_same}
use Rattle.std.proofs.Common.{get_or-set_other, arith}
use Rattle.std.proofs.Common.{below_more}
use Rattle.std.proofs.lemmas.Bool.{cases_lt}
use Rattle.flat_ink.proofs.lemmas.Ranges.{either}

-- the first i pixels of a line are changed by f, and the others are as they were
pub record IsChangedTo (f : ℕ → ℕ → ℕ) (old line : List ℕ) (i : ℕ) : Type 0 where
  pub below : (k : ℕ) → k < i → get_or line k 0 ≡ f k (get_or old k 0)
  pub above : (k : ℕ) → i ≤ k → get_or line k 0 ≡ get_or old k 0

pub changed-none : (f : ℕ → ℕ → ℕ) (line : List ℕ) → IsChangedTo f line line 0
changed-none f line = record { below = λ k h. absurd (omega arith); above = λ k h. refl }

-- one more
pub changed-more : (f : ℕ → ℕ → ℕ) (old line : List ℕ) (i : ℕ) (y : ℕ) → i < length line → IsChangedTo f old line i
    → y ≡ f i (get_or line i 0) → IsChangedTo f old (set line i y) (i + 1)
changed-more f old line i y lt h e = record {
  below = below_more _ _
      (λ k l. let ne : k ≢ i = omega arith in rw get_or-set_other (h.below k l))
      (get_or-set_same line i y 0 lt ∙ e ∙ ap (f i) (h.above i (omega arith)));
  above = λ k l. let ne : k ≢ i = omega arith in rw get_or-set_other (h.above k (omega arith));
}

-- the pixels of a line from a first one up to a last one, which isn't among them, have the values of f
abbrev pub IsLaid : (ℕ → ℕ) → List ℕ → ℕ → ℕ → Type 0
IsLaid f line from upto = (k : ℕ) → from ≤ k → k < upto → get_or line k 0 ≡ f k

lay-one : (f : ℕ → ℕ) (line : List ℕ) (i y k : ℕ) → i < length line → y ≡ f i → (k ≢ i → get_or line k 0 ≡ f k) → get_or (set line i y) k 0 ≡ f k
lay-one f line i y k lt is h =
    either _ _ (cases_lt k i)
    (λ below. let ne : k ≢ i = omega arith in rw get_or-set_other (h ne))
    (λ above. either _ _ (cases_lt i k)
    (λ past. let ne : k ≢ i = omega arith in rw get_or-set_other (h ne))
    (λ here. let e : k ≡ i = omega arith in ap (λ (n : ℕ). get_or (set line i y) n 0) e ∙ get_or-set_same line i y 0 lt ∙ is ∙ ap f (sym e)))

-- one more
pub laid-more : (f : ℕ → ℕ) (line : List ℕ) (from i y : ℕ) → i < length line → y ≡ f i → IsLaid f line from i → IsLaid f (set line i y) from (i + 1)
laid-more f line from i y lt is h = λ k low high. lay-one f line i y k lt is (λ ne. h k low (omega arith))

-- and they stay where one more pixel has its value
pub laid-still : (f : ℕ → ℕ) (line : List ℕ) (i y from upto : ℕ) → i < length line → y ≡ f i → IsLaid f line from upto → IsLaid f (set line i y) from upto
laid-still f line i y from upto lt is h = λ k low high. lay-one f line i y k lt is (λ ne. h k low high)
