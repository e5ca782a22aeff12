-- The colours of pixels in turn.
use Rattle.std.proofs.Common.{ℕ, ◌+◌, ◌*◌, ◌<◌, ◌≡◌, refl, ap, ◌∙◌, sym, List, [], ◌∷◌, ◌++◌, length, set, take, arith, append_assoc}
use Rattle.std.specs.List.{flat_map, range_with_len}
use Rattle.std.proofs.lemmas.List.{take_more_set, length-set}
use Rattle.flat_render.proofs.lemmas.Bytes.{piece-more}

-- one colour more at the front of a line
pub colour-more : (f : ℕ → List ℕ) (i r g b : ℕ) (line one two three : List ℕ) → 3 * i + 2 < length line → take (3 * i) line ≡ flat_map f (range_with_len 0 i)
    → f i ≡ r ∷ g ∷ b ∷ []
    → one ≡ set line (3 * i) r → two ≡ set one (3 * i + 1) g → three ≡ set two (3 * i + 2) b → take (3 * (i + 1)) three ≡ flat_map f (range_with_len 0 (i + 1))
colour-more f i r g b line one two three room so_far colour is is' is'' =
    let long : length one ≡ length line = ap length is ∙ length-set line (3 * i) r in
    let long' : length two ≡ length line = ap length is' ∙ length-set one (3 * i + 1) g ∙ long in
    let last : 3 * (i + 1) ≡ 3 * i + 2 + 1 = omega arith in
    let mid : 3 * i + 2 ≡ 3 * i + 1 + 1 = omega arith in
    let first : take (3 * i + 1) one ≡ flat_map f (range_with_len 0 i) ++ r ∷ [] =
    ap (take (3 * i + 1)) is ∙ take_more_set line (3 * i) r (omega (arith, room)) ∙ ap (λ t. t ++ r ∷ []) so_far in
    let second : take (3 * i + 2) two ≡ (flat_map f (range_with_len 0 i) ++ r ∷ []) ++ g ∷ [] =
    ap (λ (n : ℕ). take n two) mid ∙ ap (take (3 * i + 1 + 1)) is' ∙ take_more_set one (3 * i + 1) g (omega (arith, room, long))
    ∙ ap (λ t. t ++ g ∷ []) first in
    let third : take (3 * (i + 1)) three ≡ ((flat_map f (range_with_len 0 i) ++ r ∷ []) ++ g ∷ []) ++ b ∷ [] =
    ap (λ (n : ℕ). take n three) last ∙ ap (take (3 * i + 2 + 1)) is'' ∙ take_more_set two (3 * i + 2) b (omega (arith, room, long'))
    ∙ ap (λ t. t ++ b ∷ []) second in
    piece-more f i [] (flat_map f (range_with_len 0 i)) (r ∷ g ∷ b ∷ []) (take (3 * (i + 1)) three) refl (sym colour)
    (third ∙ append_assoc (flat_map f (range_with_len 0 i) ++ r ∷ []) (g ∷ []) (b ∷ []) ∙ append_assoc (flat_map f (range_with_len 0 i)) (r ∷ []) (g ∷ b ∷ []))
