-- The last item of a list, one item more at its end or at its front.
use Rattle.std.proofs.Common.{◌≡◌, suc, ◌-◌, ◌<◌, List, [], ◌∷◌, ◌++◌, length, length-append, Some, slice_get, refl, sym, ap, ◌∙◌, arith}
use Rattle.std.proofs.lemmas.Option.{slice_get_read}
use Rattle.std.proofs.Math.Seq.{get_or-append_seam}
use Rattle.flat_base.specs.Last.{last_item}

pub last-more : {A : Type 0} (xs : List A) (x : A) → last_item (xs ++ x ∷ []) ≡ Some x
last-more xs x =
    let place : length (xs ++ x ∷ []) - 1 ≡ length xs = let long = length-append xs (x ∷ []) in omega (arith, long) in
    let within : length xs < length (xs ++ x ∷ []) = let long = length-append xs (x ∷ []) in omega (arith, long) in
    ap (slice_get (xs ++ x ∷ [])) place ∙ slice_get_read (xs ++ x ∷ []) (length (xs ++ x ∷ [])) (length xs) x refl within (sym (get_or-append_seam xs x [] x))

pub last-behind : {A : Type 0} (x y : A) (later : List A) → last_item (x ∷ y ∷ later) ≡ last_item (y ∷ later)
last-behind x y later = let place : length (x ∷ y ∷ later) - 1 ≡ suc (length (y ∷ later) - 1) = omega arith in ap (slice_get (x ∷ y ∷ later)) place
