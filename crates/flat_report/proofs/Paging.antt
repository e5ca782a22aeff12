-- What is put on a page that stands behind full pieces.
use Rattle.std.proofs.Common.{◌≡◌, ℕ, List, [], ◌∷◌, ◌++◌, length, refl, sym, ap, ◌∙◌, append_assoc, arith}

-- a text that was put behind full pieces
pub put-behind : (full view page new bytes : List ℕ) → new ≡ page ++ bytes → full ++ page ≡ view → full ++ new ≡ view ++ bytes
put-behind full view page new bytes put is = ap (λ t. full ++ t) put ∙ sym (append_assoc full page bytes) ∙ ap (λ t. t ++ bytes) is

-- a page without bytes has no text
pub no-text : (page : List ℕ) → length page ≡ 0 → page ≡ []
no-text [] is = refl
no-text (x ∷ page) is = absurd (omega (arith, is))
