-- The bytes of a tile as three planes, one after another.
use Rattle.std.proofs.Common.{ℕ, ◌+◌, ◌-◌, ◌*◌, ◌/◌, ◌%◌, ◌<◌, ◌≡◌, ap, ◌∙◌, sym, List, ◌++◌, length, get_or, arith}
use Rattle.std.proofs.lemmas.List.{get_or_append_left, get_or-append_right}
use Rattle.std.proofs.lemmas.Nat.{div-add-mod', mod_below}
use Rattle.flat_tile.proofs.lemmas.Planes.{which-channel}

module _ (s m : ℕ) (some : 0 < s) (red green blue : List ℕ) (rs : length red ≡ s) (gs : length green ≡ s) (bs : length blue ≡ s) where
  place : m / s * s + m % s ≡ m
  place = div-add-mod' m s

  small : m % s < s
  small = mod_below m s some

  at-red : m / s ≡ 0 → get_or (red ++ (green ++ blue)) m 0 ≡ get_or red (m % s) 0
  at-red e =
      let p : m / s * s ≡ 0 * s = ap (λ (n : ℕ). n * s) e in
      let here : m ≡ m % s = omega (arith, place, p) in
      ap (λ (n : ℕ). get_or (red ++ (green ++ blue)) n 0) here ∙ get_or_append_left red (green ++ blue) 0 (m % s) (omega (arith, small, rs))

  at-green : m / s ≡ 1 → get_or (red ++ (green ++ blue)) m 0 ≡ get_or green (m % s) 0
  at-green e =
      let p : m / s * s ≡ 1 * s = ap (λ (n : ℕ). n * s) e in
      let here : m - s ≡ m % s = omega (arith, place, p) in
      get_or-append_right red (green ++ blue) s m 0 rs (omega (arith, place, p))
      ∙ ap (λ (n : ℕ). get_or (green ++ blue) n 0) here ∙ get_or_append_left green blue 0 (m % s) (omega (arith, small, gs))

  at-blue : m / s ≡ 2 → get_or (red ++ (green ++ blue)) m 0 ≡ get_or blue (m % s) 0
  at-blue e =
      let p : m / s * s ≡ 2 * s = ap (λ (n : ℕ). n * s) e in
      let here : m - s - s ≡ m % s = omega (arith, place, p) in
      get_or-append_right red (green ++ blue) s m 0 rs (omega (arith, place, p))
      ∙ get_or-append_right green blue s (m - s) 0 gs (omega (arith, place, p))
      ∙ ap (λ (n : ℕ). get_or blue n 0) here

-- where each plane is changed, each byte is
pub planes-changed : (s m : ℕ) (F : ℕ → ℕ → ℕ → ℕ) (bytes rest red green blue new_red new_green new_blue : List ℕ) → 0 < s → m < 3 * s
    → bytes ≡ red ++ rest → rest ≡ green ++ blue → length red ≡ s → length green ≡ s → length blue ≡ s
    → length new_red ≡ s → length new_green ≡ s → length new_blue ≡ s
    → ((k : ℕ) → k < length red → get_or new_red k 0 ≡ F 0 k (get_or red k 0))
    → ((k : ℕ) → k < length green → get_or new_green k 0 ≡ F 1 k (get_or green k 0))
    → ((k : ℕ) → k < length blue → get_or new_blue k 0 ≡ F 2 k (get_or blue k 0))
    → get_or (new_red ++ (new_green ++ new_blue)) m 0 ≡ F (m / s) (m % s) (get_or bytes m 0)
planes-changed s m F bytes rest red green blue new_red new_green new_blue some within split split_rest rs gs bs nrs ngs nbs in_red in_green in_blue =
    let k : ℕ = m % s in
    let low : k < s = mod_below m s some in
    let whole : bytes ≡ red ++ (green ++ blue) = split ∙ ap (λ (xs : List ℕ). red ++ xs) split_rest in
    let was : get_or bytes m 0 ≡ get_or (red ++ (green ++ blue)) m 0 = ap (λ (xs : List ℕ). get_or xs m 0) whole in
    which-channel s m some within
    (λ e. at-red s m some new_red new_green new_blue nrs ngs nbs e ∙ in_red k (omega (arith, low, rs))
    ∙ ap (F 0 k) (sym (was ∙ at-red s m some red green blue rs gs bs e)) ∙ ap (λ (c : ℕ). F c k (get_or bytes m 0)) (sym e))
    (λ e. at-green s m some new_red new_green new_blue nrs ngs nbs e ∙ in_green k (omega (arith, low, gs))
    ∙ ap (F 1 k) (sym (was ∙ at-green s m some red green blue rs gs bs e)) ∙ ap (λ (c : ℕ). F c k (get_or bytes m 0)) (sym e))
    (λ e. at-blue s m some new_red new_green new_blue nrs ngs nbs e ∙ in_blue k (omega (arith, low, bs))
    ∙ ap (F 2 k) (sym (was ∙ at-blue s m some red green blue rs gs bs e)) ∙ ap (λ (c : ℕ). F c k (get_or bytes m 0)) (sym e))
