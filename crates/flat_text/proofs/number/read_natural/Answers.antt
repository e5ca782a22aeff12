use Rattle.std.proofs.Common.{◌≡◌, ◌<◌, ◌^◌, ◌≢◌, List, ℕ, Option, Some, None, IfSome, IsNone, refl, sym, ◌∙◌, ap}
use Rattle.std.specs.Fmt.{decimal}
use Rattle.flat_text.specs.Number.{natural}
use Rattle.flat_text.proofs.lemmas.NumberLemmas.{natural-decimal, decimal-natural}
use Rattle.flat_text.proofs.number.read_natural.Goals as goal

is_text : (o : Option ℕ) (word : List ℕ) → o ≡ natural word → IfSome o (λ n. decimal n ≡ word)
is_text None word is = tt
is_text (Some n) word is = (decimal-natural word n (sym is)).0

is_short : (o : Option ℕ) (word : List ℕ) → o ≡ natural word → IfSome o (λ n. n < 10 ^ 20)
is_short None word is = tt
is_short (Some n) word is = (decimal-natural word n (sym is)).1

goes_back : (o : Option ℕ) (word : List ℕ) → o ≡ natural word → (n : ℕ) → n < 10 ^ 20 → decimal n ≡ word → o ≡ Some n
goes_back o word is n small spelled = is ∙ ap natural (sym spelled) ∙ natural-decimal n small

unspelled : (o : Option ℕ) (word : List ℕ) → o ≡ natural word → IsNone o → (n : ℕ) → n < 10 ^ 20 → decimal n ≢ word
unspelled (Some u) word is none n small spelled = absurd (cc)
unspelled None word is none n small spelled = let read = goes_back None word is n small spelled in absurd (cc)

unread : (o : Option ℕ) (word : List ℕ) → o ≡ natural word → ((n : ℕ) → n < 10 ^ 20 → decimal n ≢ word) → IsNone o
unread None word is none = refl
unread (Some n) word is none = let read = decimal-natural word n (sym is) in absurd (none n read.1 read.0)

pub returns : goal.returns
returns c =
    let word = c.args.word.now in
    let is = c.natural_in.ensures.value in
    record { value = is; text = is_text _ word is; digits = is_short _ word is; back = goes_back _ word is; none = (unspelled _ word is, unread _ word is) }
