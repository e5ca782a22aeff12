-- How many items each session has, item by item, and what its line says of them.
use Rattle.std.proofs.Common.{ℕ, zero, suc, ◌+◌, ◌-◌, ◌<◌, ◌≤◌, ◌^◌, ◌≡◌, ◌≢◌, ◌⊎◌, inl, inr, refl, sym, ap, ◌∙◌, Bool, true, false, ◌&&◌, cond, nat_lt, nat_le}
use Rattle.std.proofs.Common.{List, length, filter, min, take, Some, slice_get, slice_index_or, slice_set, arith}
use Rattle.std.specs.Prelude.{◌==◌, count_by}
use Rattle.std.specs.Str.Parse.{digits_value}
use Rattle.std.proofs.lemmas.Bool.Decides.{eqb_tells, nat_tests}
use Rattle.std.proofs.lemmas.Fmt.{decimal_is_IsNumeral}
use Rattle.std.proofs.lemmas.List.{get_or-set_other, get_or-set_same, length-set, length-take}
use Rattle.std.proofs.lemmas.List.Sums.{count_by-le-length, length-filter, sum_by_more}
use Rattle.flat_base.proofs.lemmas.Tests.{and-left, and-true}
use Rattle.flat_base.specs.declared.ids.SessionNo.{SessionNo}
use Rattle.flat_page.specs.Words.{number}
use Rattle.flat_scene.specs.declared.frames.DrawItem.{DrawItem}
use Rattle.flat_why.specs.declared.reasons.BlankReason.{BlankReason}
use Rattle.flat_why.specs.Laws.{OwnItemsAreSaid}
use Rattle.flat_why.specs.Noted.{counts_in, with_item}
use Rattle.flat_why.specs.Text.{drawn_words}
use Rattle.flat_why.proofs.OverSessions.{whatever}

pub length-with_item : (t : SessionNo) (counts : List ℕ) → length (with_item t counts) ≡ length counts
length-with_item t counts = by (nat_lt 0 t.0 && nat_le t.0 (length counts))
  where
    by : (b : Bool) → length (cond b (slice_set counts (t.0 - 1) (counts_in counts t + 1)) counts) ≡ length counts
    by true = length-set counts (t.0 - 1) (counts_in counts t + 1)
    by false = refl

-- one item more of a session
pub counted-more : (s t : SessionNo) (counts : List ℕ) → 0 < s.0 → s.0 ≤ length counts
    → counts_in (with_item t counts) s ≡ counts_in counts s + cond (t.0 == s.0) 1 0
counted-more s t counts some few = by (eqb_tells t.0 s.0)
  where
    nothing-more : (n : ℕ) → n ≡ n + cond false 1 0
    nothing-more n = omega arith

    low : s.0 - 1 < length counts
    low = omega (arith, some, few)

    apart-by : (b : Bool) → (nat_lt 0 t.0 && nat_le t.0 (length counts)) ≡ b → t.0 ≢ s.0
        → counts_in (cond b (slice_set counts (t.0 - 1) (counts_in counts t + 1)) counts) s ≡ counts_in counts s
    apart-by true is apart =
        let first : nat_lt 0 t.0 ≡ true = and-left (nat_lt 0 t.0) (nat_le t.0 (length counts)) is in
        let positive : 0 < t.0 = grind (arith, nat_tests, first) in
        get_or-set_other counts (t.0 - 1) (s.0 - 1) (counts_in counts t + 1) 0 (λ e. apart (omega (arith, positive, some, e)))
    apart-by false is apart = refl

    by : ((◌≡◌ (t.0 == s.0) true) × (t.0 ≡ s.0)) ⊎ ((◌≡◌ (t.0 == s.0) false) × (t.0 ≢ s.0))
        → counts_in (with_item t counts) s ≡ counts_in counts s + cond (t.0 == s.0) 1 0
    by (inl same) =
        let within : (nat_lt 0 t.0 && nat_le t.0 (length counts)) ≡ true = let e =
        same.1 in and-true (let a : nat_lt 0 t.0 ≡ true = grind (arith, nat_tests, e, some) in a)
        (let b : nat_le t.0 (length counts) ≡ true = grind (arith, nat_tests, e, few) in b) in
        ap (λ (b : Bool). counts_in (cond b (slice_set counts (t.0 - 1) (counts_in counts t + 1)) counts) s) within
        ∙ ap (λ (n : ℕ). slice_index_or (slice_set counts (n - 1) (slice_index_or counts (n - 1) 0 + 1)) (s.0 - 1) 0) same.1
        ∙ get_or-set_same counts (s.0 - 1) (counts_in counts s + 1) 0 low
        ∙ sym (ap (λ (b : Bool). counts_in counts s + cond b 1 0) same.0)
    by (inr apart) = apart-by (nat_lt 0 t.0 && nat_le t.0 (length counts)) refl apart.1 ∙ nothing-more (counts_in counts s)
        ∙ sym (ap (λ (b : Bool). counts_in counts s + cond b 1 0) apart.0)

-- ---- the items one by one

-- the table is right of the first so many items
abbrev pub AreCounted : List DrawItem → ℕ → ℕ → List ℕ → Type 0
AreCounted items i n counts = (s : SessionNo) → 0 < s.0 → s.0 ≤ n → counts_in counts s ≡ count_by (λ item. item.session.0 == s.0) (take i items)

pub counts-small : (items : List DrawItem) (i n : ℕ) (counts : List ℕ) → length counts ≡ n → i + 1 < 2 ^ 64 → AreCounted items i n counts → (k d : ℕ)
    → k < length counts → slice_index_or counts k d + 1 < 2 ^ 64
counts-small items i n counts many small counted k d low =
    let s : SessionNo = record { 0 = k + 1 } in
    let mine : DrawItem → Bool = λ item. item.session.0 == s.0 in
    let place : k ≡ k + 1 - 1 = omega arith in
    let value : slice_index_or counts k d ≡ count_by mine (take i items) =
    whatever counts k d 0 low ∙ ap (λ (m : ℕ). slice_index_or counts m 0) place ∙ counted s (omega arith) (omega (arith, low, many)) in
    let within : count_by mine (take i items) ≤ length (take i items) = count_by-le-length mine (take i items) in
    let long : length (take i items) ≡ min i (length items) = length-take i items in
    let first : min i (length items) ≤ i = omega arith in
    omega (arith, value, within, long, first, small)

pub counted-next : (items : List DrawItem) (i n : ℕ) (d : DrawItem) (counts new : List ℕ) → i < length items → length counts ≡ n
    → new ≡ with_item (slice_index_or items i d).session counts → AreCounted items i n counts → AreCounted items (i + 1) n new
counted-next items i n d counts new low many is counted s some few =
    let t : SessionNo = (slice_index_or items i d).session in
    ap (λ (xs : List ℕ). counts_in xs s) is ∙ counted-more s t counts some (omega (arith, few, many))
    ∙ ap (λ (m : ℕ). m + cond (t.0 == s.0) 1 0) (counted s some few)
    ∙ sym (sum_by_more (λ (item : DrawItem). cond (item.session.0 == s.0) 1 0) items i d low)

-- ---- what a line says

drawn-first : (items : ℕ) (blank : BlankReason) → slice_get (drawn_words items blank) 0 ≡ Some (number items)
drawn-first zero blank = refl
drawn-first (suc n) blank = refl

same-number : (a b : ℕ) → a < 2 ^ 64 → b < 2 ^ 64 → number a ≡ number b → a ≡ b
same-number a b low high same = sym (decimal_is_IsNumeral a low).1 ∙ ap (digits_value 10) same ∙ (decimal_is_IsNumeral b high).1

pub own-items-are-said : OwnItemsAreSaid
own-items-are-said script frame few s hidden blank node items low = (
  λ says. long ∙ same-number own items most low (let both : Some (number own) ≡ Some (number items) = sym (drawn-first own blank) ∙ says in cc),
  λ is. drawn-first own blank ∙ ap (λ (n : ℕ). Some (number n)) (sym long ∙ is),
)
  where
    mine : DrawItem → Bool
    mine item = item.session.0 == s.0

    own : ℕ
    own = count_by mine frame.items

    long : length (filter mine frame.items) ≡ own
    long = length-filter mine frame.items

    most : own < 2 ^ 64
    most = let within = count_by-le-length mine frame.items in omega (arith, within, few)
