-- One hit more at the end.
use Rattle.std.proofs.Common.{ℕ, ◌+◌, ◌-◌, ◌<◌, ◌≡◌, ◌≢◌, ◌⊎◌, inl, inr, refl, sym, ap, ◌∙◌, Bool, true, false, not, ◌||◌, cond, List, [], ◌∷◌, ◌++◌, length}
use Rattle.std.proofs.Common.{take, reverse, get_or, Option, Some, None, option_to_list}
use Rattle.std.specs.Prelude.{◌==◌, filter}
use Rattle.std.specs.List.{filter_map}
use Rattle.std.proofs.lemmas.Bool.Decides.{eqb_tells}
use Rattle.std.proofs.lemmas.List.{take_more, append-nil, length-reverse, get_or-reverse}
use Rattle.std.proofs.lemmas.List.Elements.{filter-append, filter_map-append}
use Rattle.flat_scene.specs.declared.frames.Hit.{Hit}
use Rattle.flat_topology.specs.Hits.{first_of_each}
use Rattle.flat_hit.specs.Firsts.{is_hit, if_new}

-- hits of other sessions
abbrev others : Hit → List Hit → List Hit
others hit = filter (λ other. not (other.session.0 == hit.session.0))

-- whether a session has a hit, doesn't hang on those of another session
any-others : (x : Hit) (s : ℕ) (hits : List Hit) → s ≢ x.session.0 → is_hit (others x hits) s ≡ is_hit hits s
any-others x s [] apart = refl
any-others x s (hit ∷ hits) apart = by_test (eqb_tells hit.session.0 x.session.0) (eqb_tells hit.session.0 s) (any-others x s hits apart)
  where
    by_test : ((◌≡◌ (hit.session.0 == x.session.0) true) × (hit.session.0 ≡ x.session.0))
        ⊎ ((◌≡◌ (hit.session.0 == x.session.0) false) × (hit.session.0 ≢ x.session.0))
        → ((◌≡◌ (hit.session.0 == s) true) × (hit.session.0 ≡ s)) ⊎ ((◌≡◌ (hit.session.0 == s) false) × (hit.session.0 ≢ s))
        → is_hit (others x hits) s ≡ is_hit hits s
        → is_hit (cond (not (hit.session.0 == x.session.0)) (hit ∷ others x hits) (others x hits)) s ≡ ((hit.session.0 == s) || is_hit hits s)
    by_test (inl same) (inl is) later = absurd (apart (sym is.1 ∙ same.1))
    by_test (inl same) (inr not_it) later = rw (same.0, not_it.0) later
    by_test (inr differs) (inl is) later = rw (differs.0, is.0) refl
    by_test (inr differs) (inr not_it) later = rw (differs.0, not_it.0) later

first-more : (hits : List Hit) (last : Hit) → first_of_each (hits ++ last ∷ []) ≡ first_of_each hits ++ if_new (first_of_each hits) (Some last)
first-more [] last = refl
first-more (hit ∷ hits) last = by_test (eqb_tells hit.session.0 last.session.0) (eqb_tells last.session.0 hit.session.0) (first-more hits last)
  where
    by_test : ((◌≡◌ (hit.session.0 == last.session.0) true) × (hit.session.0 ≡ last.session.0))
        ⊎ ((◌≡◌ (hit.session.0 == last.session.0) false) × (hit.session.0 ≢ last.session.0))
        → ((◌≡◌ (last.session.0 == hit.session.0) true) × (last.session.0 ≡ hit.session.0))
        ⊎ ((◌≡◌ (last.session.0 == hit.session.0) false) × (last.session.0 ≢ hit.session.0))
        → first_of_each (hits ++ last ∷ []) ≡ first_of_each hits ++ if_new (first_of_each hits) (Some last)
        → hit ∷ others hit (first_of_each (hits ++ last ∷ []))
        ≡ (hit ∷ others hit (first_of_each hits)) ++ cond ((hit.session.0 == last.session.0) || is_hit (others hit (first_of_each hits)) last.session.0) []
        (last ∷ [])
    by_test (inl same) (inr differs) later = absurd (differs.1 (sym same.1))
    by_test (inr differs) (inl same) later = absurd (differs.1 (sym same.1))
    by_test (inl same) (inl again) later =
        let dropped : (b : Bool) → others hit (first_of_each hits ++ cond b [] (last ∷ [])) ≡ others hit (first_of_each hits)
        = λ b. elim b as (λ b. others hit (first_of_each hits ++ cond b [] (last ∷ [])) ≡ others hit (first_of_each hits)) [
          | true ↦ rw append-nil refl
          | false ↦ rw (filter-append, again.0, append-nil) refl
        ] in
        rw (same.0, later, dropped (is_hit (first_of_each hits) last.session.0))
        (ap (λ (all : List Hit). hit ∷ all) (sym (append-nil (others hit (first_of_each hits)))))
    by_test (inr differs) (inr again) later =
        let kept : (b : Bool) → others hit (first_of_each hits ++ cond b [] (last ∷ [])) ≡ others hit (first_of_each hits) ++ cond b [] (last ∷ [])
        = λ b. elim b as (λ b. others hit (first_of_each hits ++ cond b [] (last ∷ [])) ≡ others hit (first_of_each hits) ++ cond b [] (last ∷ [])) [
          | true ↦ rw (append-nil, append-nil) refl
          | false ↦ rw (filter-append, again.0) refl
        ] in
        rw (differs.0, later, kept (is_hit (first_of_each hits) last.session.0), any-others hit last.session.0 (first_of_each hits) again.1) refl

pub first-given : (hits : List Hit) (last : Option Hit) → first_of_each (hits ++ option_to_list last) ≡ first_of_each hits ++ if_new (first_of_each hits) last
first-given hits None = rw (append-nil hits, append-nil (first_of_each hits)) refl
first-given hits (Some last) = first-more hits last

-- ---- nodes, the last first

one-given : {X Y : Type 0} (f : X → Option Y) (x : X) (y : Option Y) → f x ≡ y → filter_map f (x ∷ []) ≡ option_to_list (f x)
one-given f x None e = rw e refl
one-given f x (Some y) e = rw e refl

pub given-back : {X Y : Type 0} (f : X → Option Y) (xs : List X) (i : ℕ) (x : X) → i < length xs → x ≡ get_or xs (length xs - 1 - i) x
    → filter_map f (take (i + 1) (reverse xs)) ≡ filter_map f (take i (reverse xs)) ++ option_to_list (f x)
given-back f xs i x within is =
    let low : i < length (reverse xs) = rw length-reverse within in
    let here : get_or (reverse xs) i x ≡ x = get_or-reverse xs i x within ∙ sym is in
    ap (filter_map f) (take_more (reverse xs) i x low ∙ ap (λ y. take i (reverse xs) ++ y ∷ []) here)
    ∙ filter_map-append f (take i (reverse xs)) (x ∷ []) ∙ ap (λ ys. filter_map f (take i (reverse xs)) ++ ys) (one-given f x (f x) refl)

-- one node more
pub hits-more : {X : Type 0} (f : X → Option Hit) (nodes : List X) (i : ℕ) (at : X) (old new : List Hit) (hit : Option Hit) → i < length nodes
    → at ≡ get_or nodes (length nodes - 1 - i) at → old ≡ first_of_each (filter_map f (take i (reverse nodes))) → hit ≡ f at → new ≡ old ++ if_new old hit
    → new ≡ first_of_each (filter_map f (take (i + 1) (reverse nodes)))
hits-more f nodes i at old new hit within is so_far given added =
    added ∙ rw (given, so_far) (sym (first-given (filter_map f (take i (reverse nodes))) (f at)) ∙ ap first_of_each (sym (given-back f nodes i at within is)))
