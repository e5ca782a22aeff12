-- The first hit of each session, and no other, is left.
use Rattle.std.proofs.Common.{ℕ, ◌≡◌, ◌≢◌, ◌⊎◌, inl, inr, sym, Bool, true, false, cond, List, [], ◌∷◌, map}
use Rattle.std.specs.Prelude.{◌==◌, not, filter}
use Rattle.std.proofs.lemmas.Bool.Decides.{eqb_tells}
use Rattle.flat_scene.specs.declared.frames.Hit.{Hit}
use Rattle.flat_topology.specs.Hits.{first_of_each}
use Rattle.flat_topology.proofs.lemmas.Distinct.{In, Distinct}

abbrev numbers : List Hit → List ℕ
numbers = map (λ hit. hit.session.0)

-- the hits of other sessions
abbrev others : ℕ → List Hit → List Hit
others s = filter (λ other. not (other.session.0 == s))

abbrev Tells : ℕ → ℕ → Type 0
Tells n s = ((◌≡◌ (n == s) true) × (n ≡ s)) ⊎ ((◌≡◌ (n == s) false) × (n ≢ s))

in-others : (s n : ℕ) (hits : List Hit) → In n (numbers (others s hits)) → In n (numbers hits)
in-others s n [] on = absurd on
in-others s n (hit ∷ hits) on = by_test (not (hit.session.0 == s)) on (in-others s n hits)
  where
    by_test : (b : Bool) → In n (numbers (cond b (hit ∷ others s hits) (others s hits))) → (In n (numbers (others s hits)) → In n (numbers hits))
        → In n (numbers (hit ∷ hits))
    by_test true (inl same) later = inl same
    by_test true (inr rest) later = inr (later rest)
    by_test false rest later = inr (later rest)

none-of-itself : (s : ℕ) (hits : List Hit) → In s (numbers (others s hits)) → ⊥
none-of-itself s [] on = on
none-of-itself s (hit ∷ hits) on = by_test (eqb_tells hit.session.0 s) on (none-of-itself s hits)
  where
    by_test : Tells hit.session.0 s → In s (numbers (others s (hit ∷ hits))) → (In s (numbers (others s hits)) → ⊥) → ⊥
    by_test (inl same) found later = later (rw same.0 at found)
    by_test (inr apart) found later = by_place (rw apart.0 at found)
      where
        by_place : In s (numbers (hit ∷ others s hits)) → ⊥
        by_place (inl here) = apart.1 (sym here)
        by_place (inr rest) = later rest

distinct-others : (s : ℕ) (hits : List Hit) → Distinct (numbers hits) → Distinct (numbers (others s hits))
distinct-others s [] d = tt
distinct-others s (hit ∷ hits) d = by_test (not (hit.session.0 == s)) (distinct-others s hits d.1)
  where
    by_test : (b : Bool) → Distinct (numbers (others s hits)) → Distinct (numbers (cond b (hit ∷ others s hits) (others s hits)))
    by_test true rest = (λ on. d.0 (in-others s hit.session.0 hits on), rest)
    by_test false rest = rest

pub distinct-first : (hits : List Hit) → Distinct (numbers (first_of_each hits))
distinct-first [] = tt
distinct-first (hit ∷ later) = (
  none-of-itself hit.session.0 (first_of_each later),
  distinct-others hit.session.0 (first_of_each later) (distinct-first later),
)
