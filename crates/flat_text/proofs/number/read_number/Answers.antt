use Rattle.std.proofs.Common.{◌≡◌, ◌<◌, ◌^◌, ◌≢◌, ℤ, List, ℕ, Option, Some, None, IfSome, IsNone, unsigned_abs, refl, sym, ◌∙◌, ap}
use Rattle.std.specs.Fmt.{signed_decimal}
use Rattle.flat_text.specs.Number.{signed}
use Rattle.flat_text.proofs.lemmas.NumberLemmas.{signed-signed_decimal, signed_decimal-signed}
use Rattle.flat_text.proofs.number.read_number.Goals as goal

is_text : (o : Option ℤ) (word : List ℕ) → o ≡ signed word → IfSome o (λ v. signed_decimal v ≡ word)
is_text None word is = tt
is_text (Some v) word is = (signed_decimal-signed word v (sym is)).0

is_short : (o : Option ℤ) (word : List ℕ) → o ≡ signed word → IfSome o (λ v. unsigned_abs v < 10 ^ 20)
is_short None word is = tt
is_short (Some v) word is = (signed_decimal-signed word v (sym is)).1

goes_back : (o : Option ℤ) (word : List ℕ) → o ≡ signed word → (v : ℤ) → unsigned_abs v < 10 ^ 20 → signed_decimal v ≡ word → o ≡ Some v
goes_back o word is v small spelled = is ∙ ap signed (sym spelled) ∙ signed-signed_decimal v small

unspelled : (o : Option ℤ) (word : List ℕ) → o ≡ signed word → IsNone o → (v : ℤ) → unsigned_abs v < 10 ^ 20 → signed_decimal v ≢ word
unspelled (Some u) word is none v small spelled = absurd (cc)
unspelled None word is none v small spelled = let read = goes_back None word is v small spelled in absurd (cc)

unread : (o : Option ℤ) (word : List ℕ) → o ≡ signed word → ((v : ℤ) → unsigned_abs v < 10 ^ 20 → signed_decimal v ≢ word) → IsNone o
unread None word is none = refl
unread (Some v) word is none = let read = signed_decimal-signed word v (sym is) in absurd (none v read.1 read.0)

pub returns : goal.returns
returns c =
    let word = c.args.word.now in
    let is = c.number_in.ensures in
    record { value = is; text = is_text _ word is; digits = is_short _ word is; back = goes_back _ word is; none = (unspelled _ word is, unread _ word is) }
