-- The way up from a session to the root, node by node, and lists turned round.
use Rattle.std.proofs.Common.{ℕ, zero, suc, ◌+◌, ◌-◌, ◌<◌, ◌≤◌, ◌≡◌, ◌==◌, refl, sym, ap, ◌∙◌, Bool, true, false, List, [], ◌∷◌, ◌++◌, length, take, drop}
use Rattle.std.proofs.Common.{reverse, get_or, slice_get, Option, Some, None, arith, append_assoc, append-nil}
use Rattle.std.specs.Option.{option_map_or}
use Rattle.std.proofs.lemmas.List.{drop_more, take_more, get_or-reverse, length-reverse, reverse-append, length-take-le}
use Rattle.std.proofs.lemmas.Option.{slice_get_within, slice_get-get_or}
use Rattle.std.proofs.Math.ListN.{drop_of_length-le}
use Rattle.std.specs.List.{list_any}
use Rattle.std.proofs.lemmas.List.Sorted.{list_any-IsPermutation, IsPermutation-reverse}
use Rattle.flat_base.specs.Last.{last_item}
use Rattle.flat_base.specs.declared.ids.SessionNo.{SessionNo}
use Rattle.flat_scene.specs.declared.frames.ViewNode.{ViewNode}
use Rattle.flat_focus.specs.Chains.{path_in}
use Rattle.flat_focus.specs.Steps.{on_the_way, way_on}

-- the list from the root to the next session, if there is one
abbrev pub path_for : List ViewNode → Option SessionNo → List SessionNo
path_for nodes next = option_map_or (λ s. path_in nodes s) next []

-- one node more
step_up : (node : ViewNode) (earlier : List ViewNode) (next : Option SessionNo) (items : List SessionNo)
    → path_for (node ∷ earlier) next ++ reverse items ≡ path_for earlier (way_on node next) ++ reverse (items ++ on_the_way node next)
step_up node earlier None items = rw (append-nil items) refl
step_up node earlier (Some s) items = by_test (node.session.0 == s.0) refl
  where
    by_test : (b : Bool) → (node.session.0 == s.0) ≡ b → path_for (node ∷ earlier) (Some s) ++ reverse items ≡ path_for earlier (way_on node (Some s))
        ++ reverse (items ++ on_the_way node (Some s))
    by_test true e = rw (e, reverse-append items (node.session ∷ [])) (append_assoc (path_for earlier node.parent) (node.session ∷ []) (reverse items))
    by_test false e = rw (e, append-nil items) refl

pub climbs : (nodes : List ViewNode) (i : ℕ) (node : ViewNode) (next way : Option SessionNo) (items new whole : List SessionNo)
    → i < length nodes → slice_get nodes (length nodes - 1 - i) ≡ Some node → way ≡ way_on node next → new ≡ items ++ on_the_way node next
    → path_for (drop i (reverse nodes)) next ++ reverse items ≡ whole
    → path_for (drop (i + 1) (reverse nodes)) way ++ reverse new ≡ whole
climbs nodes i node next way items new whole within is on more so_far =
    let low : i < length (reverse nodes) = rw length-reverse within in
    let read : Some (get_or nodes (length nodes - 1 - i) node) ≡ Some node = sym (slice_get-get_or nodes (length nodes - 1 - i) node (omega arith)) ∙ is in
    let same : get_or nodes (length nodes - 1 - i) node ≡ node = cc in
    let here : get_or (reverse nodes) i node ≡ node = get_or-reverse nodes i node within ∙ same in
    let at : drop i (reverse nodes) ≡ node ∷ drop (i + 1) (reverse nodes) =
    drop_more (reverse nodes) i node low ∙ ap (λ n. n ∷ drop (i + 1) (reverse nodes)) here in
    rw (on, more) (sym (step_up node (drop (i + 1) (reverse nodes)) next items) ∙ ap (λ ns. path_for ns next ++ reverse items) (sym at) ∙ so_far)

-- at the end nothing is left to be looked for
nowhere : (next : Option SessionNo) → path_for [] next ≡ []
nowhere None = refl
nowhere (Some s) = refl

pub climbed : (nodes : List ViewNode) (i : ℕ) (next : Option SessionNo) (items whole : List SessionNo) → length nodes ≤ i
    → path_for (drop i (reverse nodes)) next ++ reverse items ≡ whole → reverse items ≡ whole
climbed nodes i next items whole all so_far =
    let none : drop i (reverse nodes) ≡ [] = drop_of_length-le (reverse nodes) (rw length-reverse all) in
    sym (ap (λ ns. path_for ns next ++ reverse items) none ∙ ap (λ front. front ++ reverse items) (nowhere next)) ∙ so_far

-- the last item of a list, taken off and put on another
pub pours : {A : Type 0} (from into all : List A) (x : A) → Some x ≡ last_item from → into ++ reverse from ≡ all
    → (into ++ x ∷ []) ++ reverse (take (length from - 1) from) ≡ all
pours from into all x is so_far =
    let low : length from - 1 < length from = slice_get_within from (length from - 1) x (sym is) in
    let e : length from - 1 + 1 ≡ length from = omega arith in
    let here : Some (get_or from (length from - 1) x) ≡ Some x = sym (slice_get-get_or from (length from - 1) x low) ∙ sym is in
    let last : get_or from (length from - 1) x ≡ x = cc in
    let whole : from ≡ take (length from - 1) from ++ x ∷ [] = parted from (length from - 1) x e low last in
    append_assoc into (x ∷ []) (reverse (take (length from - 1) from)) ∙ ap (λ t. into ++ t) (sym (reverse-append (take (length from - 1) from) (x ∷ [])))
    ∙ ap (λ t. into ++ reverse t) (sym whole) ∙ so_far
  where
    whole_take : {A : Type 0} (xs : List A) → take (length xs) xs ≡ xs
    whole_take [] = refl
    whole_take (x ∷ xs) = ap (λ t. x ∷ t) (whole_take xs)

    parted : {A : Type 0} (from : List A) (n : ℕ) (x : A) → n + 1 ≡ length from → n < length from → get_or from n x ≡ x → from ≡ take n from ++ x ∷ []
    parted from n x e low last = sym (whole_take from) ∙ ap (λ k. take k from) (sym e) ∙ take_more from n x low ∙ ap (λ y. take n from ++ y ∷ []) last

take_none : {A : Type 0} (n : ℕ) → take {A = A} n [] ≡ []
take_none zero = refl
take_none (suc n) = refl

pub none_left : {A : Type 0} (from into rest all : List A) → None ≡ last_item from → rest ≡ take (length from - 1) from → into ++ reverse from ≡ all
    → (into ≡ all) × (rest ≡ [])
none_left {A = A} [] into rest all is left so_far = (sym (append-nil into) ∙ so_far, left ∙ take_none (length {A = A} [] - 1))
none_left (x ∷ xs) into rest all is left so_far = absurd
    (let low : length (x ∷ xs) - 1 < length (x ∷ xs) = omega arith in let e = slice_get-get_or (x ∷ xs) (length (x ∷ xs) - 1) x low in cc)

-- a test passes somewhere in a list, or in the list turned round
pub any-reverse : {A : Type 0} (test : A → Bool) (xs : List A) → list_any test (reverse xs) ≡ list_any test xs
any-reverse test xs = sym (list_any-IsPermutation test xs (reverse xs) (IsPermutation-reverse xs))

-- a last item taken off leaves one fewer
pub taken_off : {A : Type 0} (from rest : List A) (x : A) → Some x ≡ last_item from → rest ≡ take (length from - 1) from → length rest + 1 ≡ length from
taken_off from rest x is left =
    let low : length from - 1 < length from = slice_get_within from (length from - 1) x (sym is) in
    let less : length (take (length from - 1) from) ≡ length from - 1 = length-take-le (length from - 1) from (omega arith) in
    omega (arith, ap length left, less)
