-- The displays that were lost are told by the lines of the frames at which they were.
use Rattle.std.proofs.Common.{◌≡◌, ℕ, ◌<◌, ◌≤◌, ◌^◌, ◌==◌, ◌&&◌, not, nat_lt, nat_le, Bool, true, false, cond, List, [], ◌∷◌, map, codes, refl, sym, ap, ◌∙◌}
use Rattle.std.proofs.Common.{arith}
use Rattle.std.specs.List.{list_all}
use Rattle.std.proofs.lemmas.Bool.Decides.{nat_tests}
use Rattle.std.proofs.lemmas.Fmt.{decimal_injective}
use Rattle.std.proofs.lemmas.List.{append_cancel_left}
use Rattle.flat_scene.specs.declared.frames.LostDisplay.{LostDisplay}
use Rattle.flat_scene.specs.declared.journal.Entry.{Entry}
use Rattle.flat_rules.specs.Legal.{frames}
use Rattle.flat_lines.specs.FrameLines.{lost_line, lost_at}
use Rattle.flat_report.specs.Report.{is_lost_before, is_loss}
use Rattle.flat_page.specs.Words.{number}
use Rattle.flat_report.proofs.lemmas.Openings.{NoLoss, lost_words}
use Rattle.flat_report.proofs.lemmas.Sheets.{laid, line_on, sheet, laid-same, told-next, number-word}
use Rattle.flat_report.specs.Runs.{is_display_number}
use Rattle.std.proofs.lemmas.Bool.{and_parts}

-- a display has a number from 1, of 32 bits
abbrev pub is_small : LostDisplay → Bool
is_small one = is_display_number one.display

-- a display lost at this frame, with a number of 32 bits
abbrev pub is_at : ℕ → LostDisplay → Bool
is_at n one = (one.frame.0 == n) && is_small one

-- ---- the lines of one frame

same-loss : (x y : LostDisplay) → x.display ≡ y.display → x.frame.0 ≡ y.frame.0 → x ≡ y
same-loss x y display frame = λ i. record { display = display i; frame = record { 0 = frame i } }

small : (one : LostDisplay) → is_small one ≡ true → one.display < 2 ^ 64
small one fits =
    let low : nat_lt one.display (2 ^ 32) ≡ true = (and_parts (nat_lt 0 one.display) (nat_lt one.display (2 ^ 32)) fits).1 in
    let less : one.display < 4294967296 = grind (arith, nat_tests) in omega (arith, less)

same-frame : (n : ℕ) (x y : LostDisplay) → (x.frame.0 == n) ≡ true → (y.frame.0 == n) ≡ true → x.frame.0 ≡ y.frame.0
same-frame n x y of_x of_y = grind (arith, nat_tests)

first-loss : (n : ℕ) (x y : LostDisplay) (a b : List ℕ) → is_at n x ≡ true → is_at n y ≡ true → line_on (lost_line x) a ≡ line_on (lost_line y) b → (x ≡ y)
    × (a ≡ b)
first-loss n x y a b at_x at_y is =
    let of_x = and_parts (x.frame.0 == n) (is_small x) at_x in
    let of_y = and_parts (y.frame.0 == n) (is_small y) at_y in
    let behind = append_cancel_left (codes "display") (laid (number x.display ∷ codes "lost" ∷ lost_words x) a)
    (laid (number y.display ∷ codes "lost" ∷ lost_words y) b) is in
    let parts = told-next (number x.display) (number y.display) (codes "lost" ∷ lost_words x) (codes "lost" ∷ lost_words y) a b (number-word x.display)
    (number-word y.display) behind in
    let display : x.display ≡ y.display = decimal_injective x.display y.display (small x of_x.1) (small y of_y.1) parts.0 in
    let frame : x.frame.0 ≡ y.frame.0 = same-frame n x y of_x.0 of_y.0 in
    let rest : laid (codes "lost" ∷ lost_words y) a ≡ laid (codes "lost" ∷ lost_words y) b =
    ap (λ (m : ℕ). laid (codes "lost" ∷ codes "at" ∷ codes "frame" ∷ number m ∷ []) a) (sym frame) ∙ parts.1 in
    (same-loss x y display frame, laid-same (codes "lost" ∷ lost_words y) a b rest)

pub losses-told : (n : ℕ) (xs ys : List LostDisplay) (a b : List ℕ) → list_all (is_at n) xs ≡ true → list_all (is_at n) ys ≡ true → NoLoss a → NoLoss b
    → sheet (map lost_line xs) a ≡ sheet (map lost_line ys) b → (xs ≡ ys) × (a ≡ b)
losses-told n [] [] a b of_xs of_ys none_a none_b is = (refl, is)
losses-told n [] (y ∷ ys) a b of_xs of_ys none_a none_b is = absurd (none_a y (sheet (map lost_line ys) b) is)
losses-told n (x ∷ xs) [] a b of_xs of_ys none_a none_b is = absurd (none_b x (sheet (map lost_line xs) a) (sym is))
losses-told n (x ∷ xs) (y ∷ ys) a b of_xs of_ys none_a none_b is =
    let of_x = and_parts (is_at n x) (list_all (is_at n) xs) of_xs in
    let of_y = and_parts (is_at n y) (list_all (is_at n) ys) of_ys in
    let here = first-loss n x y (sheet (map lost_line xs) a) (sheet (map lost_line ys) b) of_x.0 of_y.0 is in
    let later = losses-told n xs ys a b of_x.1 of_y.1 none_a none_b here.1 in
    (ap (λ (z : LostDisplay). z ∷ xs) here.0 ∙ ap (λ zs. y ∷ zs) later.0, later.1)

-- those at one frame are at it
pub all-at : (n : ℕ) (lost : List LostDisplay) → list_all is_small lost ≡ true → list_all (is_at n) (lost_at n lost) ≡ true
all-at n [] fits = refl
all-at n (one ∷ lost) fits =
    let parts = and_parts (is_small one) (list_all is_small lost) fits in
    by_test (one.frame.0 == n) refl parts.0 (all-at n lost parts.1)
  where
    by_test : (b : Bool) → (one.frame.0 == n) ≡ b → is_small one ≡ true → list_all (is_at n) (lost_at n lost) ≡ true
        → list_all (is_at n) (cond b (one ∷ lost_at n lost) (lost_at n lost)) ≡ true
    by_test true at fits later = rw (at, fits) later
    by_test false at fits later = later

-- ---- all frames

-- lists of lost displays agree at each frame up to a number
abbrev pub AgreeTo : ℕ → ℕ → List LostDisplay → List LostDisplay → Type 0
AgreeTo from to xs ys = (n : ℕ) → from < n → n ≤ to → lost_at n xs ≡ lost_at n ys

-- displays are lost at frames up to a number, and those of later frames stand later
abbrev is_rising : ℕ → List LostDisplay → Bool
is_rising to [] = true
is_rising to (a ∷ later) = nat_lt 0 a.frame.0 && nat_le a.frame.0 to && list_all (λ b. nat_le a.frame.0 b.frame.0) later && is_rising to later

none-at : (n : ℕ) (a : ℕ) (ys : List LostDisplay) → n < a → list_all (λ b. nat_le a b.frame.0) ys ≡ true → lost_at n ys ≡ []
none-at n a [] less later = refl
none-at n a (y ∷ ys) less later =
    let parts = and_parts (nat_le a y.frame.0) (list_all (λ b. nat_le a b.frame.0) ys) later in
    let other : (y.frame.0 == n) ≡ false = (let above = parts.0 in grind (arith, nat_tests)) in
    rw other (none-at n a ys less parts.1)

record Rises (to : ℕ) (a : LostDisplay) (later : List LostDisplay) : Type 0 where
  some : 0 < a.frame.0
  within : a.frame.0 ≤ to
  above : list_all (λ b. nat_le a.frame.0 b.frame.0) later ≡ true
  rest : is_rising to later ≡ true

rises : (to : ℕ) (a : LostDisplay) (later : List LostDisplay) → is_rising to (a ∷ later) ≡ true → Rises to a later
rises to a later is =
    let four = and_parts (nat_lt 0 a.frame.0 && nat_le a.frame.0 to && list_all (λ b. nat_le a.frame.0 b.frame.0) later) (is_rising to later) is in
    let three = and_parts (nat_lt 0 a.frame.0 && nat_le a.frame.0 to) (list_all (λ b. nat_le a.frame.0 b.frame.0) later) four.0 in
    let two = and_parts (nat_lt 0 a.frame.0) (nat_le a.frame.0 to) three.0 in
    let some = two.0 in
    let within = two.1 in
    record { some = grind (arith, nat_tests); within = grind (arith, nat_tests); above = three.1; rest = four.1 }

at-itself : (a : LostDisplay) (later : List LostDisplay) → lost_at a.frame.0 (a ∷ later) ≡ a ∷ lost_at a.frame.0 later
at-itself a later = let same : (a.frame.0 == a.frame.0) ≡ true = grind (arith, nat_tests) in rw same refl

no-empty : (a : LostDisplay) (later : List LostDisplay) → a ∷ later ≡ [] → ⊥
no-empty a later is = cc

-- two rising lists that agree at each frame begin with the same display
same-first : (to : ℕ) (a b : LostDisplay) (xs ys : List LostDisplay) → Rises to a xs → Rises to b ys → AgreeTo 0 to (a ∷ xs) (b ∷ ys) → a ≡ b
same-first to a b xs ys of_a of_b agree = by_order (nat_lt a.frame.0 b.frame.0) (nat_lt b.frame.0 a.frame.0) refl refl
  where
    here : (a b : LostDisplay) (xs ys : List LostDisplay) → a ∷ xs ≡ b ∷ ys → a ≡ b
    here a b xs ys is = cc

    less : (a b : LostDisplay) (xs ys : List LostDisplay) → Rises to a xs → Rises to b ys → AgreeTo 0 to (a ∷ xs) (b ∷ ys) → a.frame.0 < b.frame.0 → ⊥
    less a b xs ys of_a of_b agree lower =
        let itself : (nat_le b.frame.0 b.frame.0 && list_all (λ c. nat_le b.frame.0 c.frame.0) ys) ≡ true =
        (let same : nat_le b.frame.0 b.frame.0 ≡ true = grind (arith, nat_tests) in rw same of_b.above) in
        no-empty a (lost_at a.frame.0 xs) (sym (at-itself a xs) ∙ agree a.frame.0 of_a.some of_a.within ∙ none-at a.frame.0 b.frame.0 (b ∷ ys) lower itself)

    equal : a.frame.0 ≡ b.frame.0 → a ≡ b
    equal same =
        here a b (lost_at a.frame.0 xs) (lost_at b.frame.0 ys)
        (sym (at-itself a xs) ∙ agree a.frame.0 of_a.some of_a.within ∙ ap (λ (n : ℕ). lost_at n (b ∷ ys)) same ∙ at-itself b ys)

    by_order : (p q : Bool) → nat_lt a.frame.0 b.frame.0 ≡ p → nat_lt b.frame.0 a.frame.0 ≡ q → a ≡ b
    by_order true q lower other = absurd (less a b xs ys of_a of_b agree (grind (arith, nat_tests)))
    by_order false true other lower = absurd (less b a ys xs of_b of_a (λ n from upto. sym (agree n from upto)) (grind (arith, nat_tests)))
    by_order false false not_lower not_higher = equal (let same : a.frame.0 ≡ b.frame.0 = grind (arith, nat_tests) in same)

without-first : (n : ℕ) (a : LostDisplay) (xs ys : List LostDisplay) → lost_at n (a ∷ xs) ≡ lost_at n (a ∷ ys) → lost_at n xs ≡ lost_at n ys
without-first n a xs ys is = by_test (a.frame.0 == n) is
  where
    by_test : (b : Bool) → cond b (a ∷ lost_at n xs) (lost_at n xs) ≡ cond b (a ∷ lost_at n ys) (lost_at n ys) → lost_at n xs ≡ lost_at n ys
    by_test true is = cc
    by_test false is = is

rising-told : (to : ℕ) (xs ys : List LostDisplay) → is_rising to xs ≡ true → is_rising to ys ≡ true → AgreeTo 0 to xs ys → xs ≡ ys
rising-told to [] [] of_xs of_ys agree = refl
rising-told to [] (b ∷ ys) of_xs of_ys agree =
    let of_b = rises to b ys of_ys in absurd (no-empty b (lost_at b.frame.0 ys) (sym (at-itself b ys) ∙ sym (agree b.frame.0 of_b.some of_b.within)))
rising-told to (a ∷ xs) [] of_xs of_ys agree =
    let of_a = rises to a xs of_xs in absurd (no-empty a (lost_at a.frame.0 xs) (sym (at-itself a xs) ∙ agree a.frame.0 of_a.some of_a.within))
rising-told to (a ∷ xs) (b ∷ ys) of_xs of_ys agree =
    let of_a = rises to a xs of_xs in
    let of_b = rises to b ys of_ys in
    let same = same-first to a b xs ys of_a of_b agree in
    let later = rising-told to xs ys of_a.rest of_b.rest
    (λ n from upto. without-first n a xs ys (agree n from upto ∙ ap (λ (c : LostDisplay). lost_at n (c ∷ ys)) (sym same))) in
    ap (λ (c : LostDisplay). c ∷ xs) same ∙ ap (λ zs. b ∷ zs) later

-- ---- losses rise

before-rises : (a b : LostDisplay) → is_lost_before a b ≡ true → nat_le a.frame.0 b.frame.0 ≡ true
before-rises a b is = grind (arith, nat_tests)

all-before : (a : LostDisplay) (later : List LostDisplay) → list_all (λ b. is_lost_before a b && not (b.display == a.display)) later ≡ true
    → list_all (λ (b : LostDisplay). nat_le a.frame.0 b.frame.0) later ≡ true
all-before a [] is = refl
all-before a (b ∷ later) is =
    let parts = and_parts (is_lost_before a b && not (b.display == a.display)) (list_all (λ b. is_lost_before a b && not (b.display == a.display)) later) is in
    rw (before-rises a b (and_parts (is_lost_before a b) (not (b.display == a.display)) parts.0).0) (all-before a later parts.1)

loss-rises : (history : List Entry) (lost : List LostDisplay) → is_loss history lost ≡ true → is_rising (frames history) lost ≡ true
loss-rises history [] is = refl
loss-rises history (a ∷ later) is =
    let four = and_parts (nat_lt 0 a.frame.0 && nat_le a.frame.0 (frames history) && list_all (λ b. is_lost_before a b && not (b.display == a.display)) later)
    (is_loss history later) is in
    let three = and_parts (nat_lt 0 a.frame.0 && nat_le a.frame.0 (frames history)) (list_all (λ b. is_lost_before a b && not (b.display == a.display)) later)
    four.0 in
    rw (three.0, all-before a later three.1) (loss-rises history later four.1)

-- losses that agree at each finished frame are the same
pub losses-same : (history : List Entry) (xs ys : List LostDisplay) → is_loss history xs ≡ true → is_loss history ys ≡ true → AgreeTo 0 (frames history) xs ys
    → xs ≡ ys
losses-same history xs ys of_xs of_ys agree = rising-told (frames history) xs ys (loss-rises history xs of_xs) (loss-rises history ys of_ys) agree
