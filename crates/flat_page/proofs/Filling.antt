-- What is written one after another at a place of bytes.
use Rattle.std.proofs.Common.{◌≡◌, ℕ, ◌+◌, ◌≤◌, List, [], ◌∷◌, ◌++◌, length, ap, ◌∙◌, arith, append_assoc, append-nil, length-append, length-set, take, drop}
use Rattle.std.proofs.Common.{slice_set, subst, sym, refl}
use Rattle.std.proofs.Math.Seq.{take-append_seam}
use Rattle.std.proofs.lemmas.List.{take_more_set}
use Rattle.flat_page.specs.Pages.{Writes}
use Rattle.flat_page.specs.Words.{spaced}
use Rattle.flat_places.specs.Forms.{Word}
use Rattle.flat_page.specs.Rooms.{Fills}

-- ---- one after another

pub fills_then : {xs ys old mid new : List ℕ} {at next end : ℕ}
    → Fills xs old at mid next → Fills ys mid next new end → Fills (xs ++ ys) old at new end
fills_then {xs = xs} {ys = ys} {old = old} {at = at} first second = record {
  text = second.text ∙ ap (λ t. t ++ ys) first.text ∙ append_assoc (take at old) xs ys;
  place = let long = length-append xs ys in omega (arith, first.place, second.place, long);
  long = second.long ∙ first.long;
}

pub fills_same : {xs ys old new : List ℕ} {at next : ℕ} → xs ≡ ys → Fills xs old at new next → Fills ys old at new next
fills_same {old = old} {new = new} {at = at} {next = next} same fills =
    let P : List ℕ → Type 0 = λ written. Fills written old at new next in
    subst P same fills

pub none_filled : (old : List ℕ) (at : ℕ) → at ≤ length old → Fills [] old at old at
none_filled old at within = record { text = sym (append-nil (take at old)); place = omega arith; long = refl }

pub one_filled : (old : List ℕ) (at byte : ℕ) → at + 1 ≤ length old → Fills (byte ∷ []) old at (slice_set old at byte) (at + 1)
one_filled old at byte room = record { text = take_more_set old at byte (omega arith); place = refl; long = length-set old at byte }

-- ---- on a page

-- words written into the room behind a page, which are seen through the whole of its bytes
pub page_writes : (words : List Word) (old text bytes items : List ℕ) (at next len : ℕ) → take at text ≡ old → len ≡ length bytes
    → Fills (spaced words) text at bytes next → Writes words old (take next (take len (bytes ++ drop (length bytes) items)))
page_writes words old text bytes items at next len same long fills =
    let rest = drop (length bytes) items in
    let whole : take len (bytes ++ rest) ≡ bytes = ap (λ n. take n (bytes ++ rest)) long ∙ take-append_seam bytes rest in
    record { text = ap (take next) whole ∙ fills.text ∙ ap (λ t. t ++ spaced words) same }
