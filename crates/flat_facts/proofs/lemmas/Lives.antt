-- The live viewports of a draft are those of its names that name viewports.
use Rattle.std.proofs.Common.{◌≡◌, ◌∙◌, sym, subst, ℕ, ◌+◌, ◌-◌, ◌≤◌, Bool, true, false, List, [], ◌∷◌, ◌++◌, length, refl, arith, ap, Some, None}
use Rattle.std.specs.Prelude.{cond, not, ◌&&◌, ◌==◌, nat_le, filter, Option, option_and_then}
use Rattle.std.specs.List.{list_all}
use Rattle.std.proofs.lemmas.Bool.Decides.{nat_tests}
use Rattle.std.proofs.lemmas.List.{append_assoc}
use Rattle.std.proofs.lemmas.List.Folds.{list_all-append}
use Rattle.flat_base.specs.declared.ids.PairNo.{PairNo}
use Rattle.flat_scene.specs.Draft.{Draft, Made, an_image, a_fill, a_viewport, Name, named, without_name, of_serial, changed_at, empty_draft}
use Rattle.flat_scene.specs.Effect.{on_image, on_viewport, on_fill, is_serial}
use Rattle.flat_base.proofs.lemmas.Tests.{and-left, and-right}
use Rattle.flat_facts.specs.declared.live_viewport.LiveViewport.{LiveViewport}
use Rattle.flat_facts.specs.Lives.{pair_named}
use Rattle.std.proofs.lemmas.Bool.{not-true}

-- ---- names and what they name

-- the pair of a viewport, and that of the viewport of a serial
abbrev pub pair_made : Made → Option PairNo
pair_made (a_viewport p props) = Some p
pair_made _ = None

abbrev pub pair_at : List Made → ℕ → Option PairNo
pair_at contents serial = option_and_then pair_made (of_serial contents serial)

-- a name of a viewport as a live one, and its serial
abbrev pub live_at : Name → Option PairNo → List LiveViewport
live_at name (Some p) = (record { name = record { 0 = name.id }; pair = p }) ∷ []
live_at name None = []

abbrev pub serial_at : Name → Option PairNo → List ℕ
serial_at name (Some p) = name.serial ∷ []
serial_at name None = []

-- those of all names, where the serials are of these pairs
abbrev pub lives_by : (ℕ → Option PairNo) → List Name → List LiveViewport
lives_by pairs [] = []
lives_by pairs (name ∷ names) = live_at name (pairs name.serial) ++ lives_by pairs names

abbrev pub serials_by : (ℕ → Option PairNo) → List Name → List ℕ
serials_by pairs [] = []
serials_by pairs (name ∷ names) = serial_at name (pairs name.serial) ++ serials_by pairs names

-- two names have neither their id nor their serial in common
abbrev pub is_apart : Name → Name → Bool
is_apart x y = not (y.id == x.id) && not (y.serial == x.serial)

abbrev pub are_apart : List Name → Bool
are_apart [] = true
are_apart (x ∷ xs) = list_all (is_apart x) xs && are_apart xs

abbrev pub are_within : ℕ → List Name → Bool
are_within n = list_all (λ name. nat_le name.serial n)

-- the live viewports of a draft
abbrev pub lives_of : Draft → List LiveViewport
lives_of d = lives_by (pair_at d.contents) d.content_names

-- What holds of the names of a draft.
pub record IsTidy (d : Draft) : Type 0 where
  pub within : are_within (length d.contents) d.content_names ≡ true
  pub apart : are_apart d.content_names ≡ true
  pub viewports : d.viewports ≡ serials_by (pair_at d.contents) d.content_names

pub tidy-empty : IsTidy empty_draft
tidy-empty = record { within = refl; apart = refl; viewports = refl }

-- ---- the same pairs

pub lives-same : (n : ℕ) (f g : ℕ → Option PairNo) → ((k : ℕ) → k ≤ n → f k ≡ g k) → (names : List Name) → are_within n names ≡ true
    → lives_by f names ≡ lives_by g names
lives-same n f g same [] within = refl
lives-same n f g same (x ∷ xs) within =
    let here : nat_le x.serial n ≡ true = and-left (nat_le x.serial n) (are_within n xs) within in
    let fits : x.serial ≤ n = grind (arith, nat_tests) in
    rw (same x.serial fits, lives-same n f g same xs (and-right (nat_le x.serial n) (are_within n xs) within)) refl

pub serials-same : (n : ℕ) (f g : ℕ → Option PairNo) → ((k : ℕ) → k ≤ n → f k ≡ g k) → (names : List Name) → are_within n names ≡ true
    → serials_by f names ≡ serials_by g names
serials-same n f g same [] within = refl
serials-same n f g same (x ∷ xs) within =
    let here : nat_le x.serial n ≡ true = and-left (nat_le x.serial n) (are_within n xs) within in
    let fits : x.serial ≤ n = grind (arith, nat_tests) in
    rw (same x.serial fits, serials-same n f g same xs (and-right (nat_le x.serial n) (are_within n xs) within)) refl

pub within-more : (n m : ℕ) (names : List Name) → n ≤ m → are_within n names ≡ true → are_within m names ≡ true
within-more n m [] less within = refl
within-more n m (x ∷ xs) less within =
    let here : nat_le x.serial n ≡ true = and-left (nat_le x.serial n) (are_within n xs) within in
    let now : nat_le x.serial m ≡ true = grind (arith, nat_tests) in
    rw (now, within-more n m xs less (and-right (nat_le x.serial n) (are_within n xs) within)) refl

pub lives-append : (f : ℕ → Option PairNo) (xs ys : List Name) → lives_by f (xs ++ ys) ≡ lives_by f xs ++ lives_by f ys
lives-append f [] ys = refl
lives-append f (x ∷ xs) ys = rw (lives-append f xs ys) (sym (append_assoc (live_at x (f x.serial)) (lives_by f xs) (lives_by f ys)))

pub serials-append : (f : ℕ → Option PairNo) (xs ys : List Name) → serials_by f (xs ++ ys) ≡ serials_by f xs ++ serials_by f ys
serials-append f [] ys = refl
serials-append f (x ∷ xs) ys = rw (serials-append f xs ys) (sym (append_assoc (serial_at x (f x.serial)) (serials_by f xs) (serials_by f ys)))

-- a change that keeps what pair a content is of
pick-pair : (f : Made → Made) → ((m : Made) → pair_made (f m) ≡ pair_made m) → (b c : Bool) (m : Made) (x y : Option Made)
    → option_and_then pair_made x ≡ option_and_then pair_made y
    → option_and_then pair_made (cond c (Some (cond b (f m) m)) x) ≡ option_and_then pair_made (cond c (Some m) y)
pick-pair f same true true m x y rest = same m
pick-pair f same false true m x y rest = refl
pick-pair f same b false m x y rest = rest

pub changed-pair : (f : Made → Made) → ((m : Made) → pair_made (f m) ≡ pair_made m) → (n k : ℕ) (ms : List Made) → pair_at (changed_at n f ms) k ≡ pair_at ms k
changed-pair f same n k [] = refl
changed-pair f same n k (m ∷ ms) = by_place (changed-pair f same (n - 1) (k - 1) ms) (n == 1)
  where
    by_place : pair_at (changed_at (n - 1) f ms) (k - 1) ≡ pair_at ms (k - 1) → (b : Bool)
        → pair_at (cond b (f m ∷ ms) (m ∷ changed_at (n - 1) f ms)) k ≡ pair_at (m ∷ ms) k
    by_place rest true = pick-pair f same true (k == 1) m (of_serial ms (k - 1)) (of_serial ms (k - 1)) refl
    by_place rest false = pick-pair f same false (k == 1) m (of_serial (changed_at (n - 1) f ms) (k - 1)) (of_serial ms (k - 1)) rest

pub image-pair : (f : _) (m : Made) → pair_made (on_image f m) ≡ pair_made m
image-pair f (an_image i) = refl
image-pair f (a_fill x) = refl
image-pair f (a_viewport p props) = refl

pub viewport-pair : (f : _) (m : Made) → pair_made (on_viewport f m) ≡ pair_made m
viewport-pair f (an_image i) = refl
viewport-pair f (a_fill x) = refl
viewport-pair f (a_viewport p props) = refl

pub fill-pair : (f : _) (m : Made) → pair_made (on_fill f m) ≡ pair_made m
fill-pair f (an_image i) = refl
fill-pair f (a_fill x) = refl
fill-pair f (a_viewport p props) = refl

-- ---- a name is taken away

ids-apart : (x : Name) (xs : List Name) → list_all (is_apart x) xs ≡ true → list_all (λ (y : Name). not (y.id == x.id)) xs ≡ true
ids-apart x [] apart = refl
ids-apart x (y ∷ ys) apart =
    let here : is_apart x y ≡ true = and-left (is_apart x y) (list_all (is_apart x) ys) apart in
    rw (and-left (not (y.id == x.id)) (not (y.serial == x.serial)) here, ids-apart x ys (and-right (is_apart x y) (list_all (is_apart x) ys) apart)) refl

serials-apart : (x : Name) (xs : List Name) → list_all (is_apart x) xs ≡ true → list_all (λ (y : Name). not (y.serial == x.serial)) xs ≡ true
serials-apart x [] apart = refl
serials-apart x (y ∷ ys) apart =
    let here : is_apart x y ≡ true = and-left (is_apart x y) (list_all (is_apart x) ys) apart in
    rw (and-right (not (y.id == x.id)) (not (y.serial == x.serial)) here, serials-apart x ys (and-right (is_apart x y) (list_all (is_apart x) ys) apart)) refl

same-id : (x : Name) (id : ℕ) (xs : List Name) → (x.id == id) ≡ true → list_all (λ (y : Name). not (y.id == x.id)) xs ≡ true
    → list_all (λ (y : Name). not (y.id == id)) xs ≡ true
same-id x id xs same all = let number : x.id ≡ id = grind (arith, nat_tests) in subst (λ (n : ℕ). list_all (λ (y : Name). not (y.id == n)) xs ≡ true) number all

-- an id that names nothing
pub unnamed-kept : (id : ℕ) (xs : List Name) → list_all (λ (y : Name). not (y.id == id)) xs ≡ true → without_name id xs ≡ xs
unnamed-kept id [] none = refl
unnamed-kept id (x ∷ xs) none =
    rw (
      and-left (not (x.id == id)) (list_all (λ (y : Name). not (y.id == id)) xs) none,
      unnamed-kept id xs (and-right (not (x.id == id)) (list_all (λ (y : Name). not (y.id == id)) xs) none),
    ) refl

unnamed-live : (f : ℕ → Option PairNo) (id : ℕ) (xs : List Name) → list_all (λ (y : Name). not (y.id == id)) xs ≡ true → pair_named (lives_by f xs) id ≡ None
unnamed-live f id [] none = refl
unnamed-live f id (x ∷ xs) none =
    by_pair (not-true (x.id == id) (and-left (not (x.id == id)) (list_all (λ (y : Name). not (y.id == id)) xs) none))
    (unnamed-live f id xs (and-right (not (x.id == id)) (list_all (λ (y : Name). not (y.id == id)) xs) none)) (f x.serial)
  where
    by_pair : (x.id == id) ≡ false → pair_named (lives_by f xs) id ≡ None → (o : Option PairNo) → pair_named (live_at x o ++ lives_by f xs) id ≡ None
    by_pair other rest None = rest
    by_pair other rest (Some p) = rw other rest

pub none-named : (id : ℕ) (xs : List Name) → named xs id ≡ None → list_all (λ (y : Name). not (y.id == id)) xs ≡ true
none-named id [] none = refl
none-named id (x ∷ xs) none = by_id (λ h. none-named id xs h) (x.id == id) refl none
  where
    by_id : (named xs id ≡ None → list_all (λ (y : Name). not (y.id == id)) xs ≡ true) → (b : Bool) → (x.id == id) ≡ b
        → cond b (Some x.serial) (named xs id) ≡ None
        → list_all (λ (y : Name). not (y.id == id)) (x ∷ xs) ≡ true
    by_id rest true is h = cc
    by_id rest false is h = rw (is, rest h) refl

-- the pair that an id names
pub pair-named : (f : ℕ → Option PairNo) (id : ℕ) (names : List Name) → are_apart names ≡ true
    → pair_named (lives_by f names) id ≡ option_and_then f (named names id)
pair-named f id [] apart = refl
pair-named f id (x ∷ xs) apart =
    by_id (pair-named f id xs (and-right (list_all (is_apart x) xs) (are_apart xs) apart))
    (ids-apart x xs (and-left (list_all (is_apart x) xs) (are_apart xs) apart)) (x.id == id) refl (f x.serial) refl
  where
    by_id : pair_named (lives_by f xs) id ≡ option_and_then f (named xs id) → list_all (λ (y : Name). not (y.id == x.id)) xs ≡ true → (b : Bool)
        → (x.id == id) ≡ b → (o : Option PairNo) → f x.serial ≡ o
        → pair_named (live_at x o ++ lives_by f xs) id ≡ option_and_then f (cond b (Some x.serial) (named xs id))
    by_id rest others true is None at = unnamed-live f id xs (same-id x id xs is others) ∙ sym at
    by_id rest others true is (Some p) at = rw is (sym at)
    by_id rest others false is None at = rest
    by_id rest others false is (Some p) at = rw is rest

-- the live ones but for that of an id
pub lives-without : (f : ℕ → Option PairNo) (id : ℕ) (names : List Name)
    → lives_by f (without_name id names) ≡ filter (λ (live : LiveViewport). not (live.name.0 == id)) (lives_by f names)
lives-without f id [] = refl
lives-without f id (x ∷ xs) = by_id (lives-without f id xs) (x.id == id) refl (f x.serial) refl
  where
    others : List LiveViewport
    others = filter (λ (live : LiveViewport). not (live.name.0 == id)) (lives_by f xs)

    by_id : lives_by f (without_name id xs) ≡ others → (b : Bool) → (x.id == id) ≡ b → (o : Option PairNo) → f x.serial ≡ o
        → lives_by f (cond (not b) (x ∷ without_name id xs) (without_name id xs))
        ≡ filter (λ (live : LiveViewport). not (live.name.0 == id)) (live_at x o ++ lives_by f xs)
    by_id rest true is None at = rest
    by_id rest true is (Some p) at = rw is rest
    by_id rest false is None at = rw at rest
    by_id rest false is (Some p) at = rw (at, is, rest) refl

-- where the id names no viewport they stay
pub lives-unnamed : (f : ℕ → Option PairNo) (id : ℕ) (names : List Name) → are_apart names ≡ true → option_and_then f (named names id) ≡ None
    → lives_by f (without_name id names) ≡ lives_by f names
lives-unnamed f id [] apart none = refl
lives-unnamed f id (x ∷ xs) apart none =
    by_id (λ h. lives-unnamed f id xs (and-right (list_all (is_apart x) xs) (are_apart xs) apart) h)
    (ids-apart x xs (and-left (list_all (is_apart x) xs) (are_apart xs) apart)) (x.id == id) refl none
  where
    by_id : (option_and_then f (named xs id) ≡ None → lives_by f (without_name id xs) ≡ lives_by f xs) → list_all (λ (y : Name). not (y.id == x.id)) xs ≡ true
        → (b : Bool) → (x.id == id) ≡ b
        → option_and_then f (cond b (Some x.serial) (named xs id)) ≡ None
        → lives_by f (cond (not b) (x ∷ without_name id xs) (without_name id xs)) ≡ lives_by f (x ∷ xs)
    by_id rest others true is h = rw (h, unnamed-kept id xs (same-id x id xs is others)) refl
    by_id rest others false is h = ap (λ (l : List LiveViewport). live_at x (f x.serial) ++ l) (rest h)

pub serials-unnamed : (f : ℕ → Option PairNo) (id : ℕ) (names : List Name) → are_apart names ≡ true → option_and_then f (named names id) ≡ None
    → serials_by f (without_name id names) ≡ serials_by f names
serials-unnamed f id [] apart none = refl
serials-unnamed f id (x ∷ xs) apart none =
    by_id (λ h. serials-unnamed f id xs (and-right (list_all (is_apart x) xs) (are_apart xs) apart) h)
    (ids-apart x xs (and-left (list_all (is_apart x) xs) (are_apart xs) apart)) (x.id == id) refl none
  where
    by_id : (option_and_then f (named xs id) ≡ None → serials_by f (without_name id xs) ≡ serials_by f xs)
        → list_all (λ (y : Name). not (y.id == x.id)) xs ≡ true → (b : Bool) → (x.id == id) ≡ b
        → option_and_then f (cond b (Some x.serial) (named xs id)) ≡ None
        → serials_by f (cond (not b) (x ∷ without_name id xs) (without_name id xs)) ≡ serials_by f (x ∷ xs)
    by_id rest others true is h = rw (h, unnamed-kept id xs (same-id x id xs is others)) refl
    by_id rest others false is h = ap (λ (l : List ℕ). serial_at x (f x.serial) ++ l) (rest h)

-- serials that are others
other-serials : (f : ℕ → Option PairNo) (n : ℕ) (xs : List Name) → list_all (λ (y : Name). not (y.serial == n)) xs ≡ true
    → filter (λ (k : ℕ). not (k == n)) (serials_by f xs) ≡ serials_by f xs
other-serials f n [] others = refl
other-serials f n (x ∷ xs) others =
    by_pair (and-left (not (x.serial == n)) (list_all (λ (y : Name). not (y.serial == n)) xs) others)
    (other-serials f n xs (and-right (not (x.serial == n)) (list_all (λ (y : Name). not (y.serial == n)) xs) others)) (f x.serial)
  where
    by_pair : not (x.serial == n) ≡ true → filter (λ (k : ℕ). not (k == n)) (serials_by f xs) ≡ serials_by f xs → (o : Option PairNo)
        → filter (λ (k : ℕ). not (k == n)) (serial_at x o ++ serials_by f xs) ≡ serial_at x o ++ serials_by f xs
    by_pair here rest None = rest
    by_pair here rest (Some p) = rw (here, rest) refl

named-other : (n id : ℕ) (xs : List Name) → list_all (λ (y : Name). not (y.serial == n)) xs ≡ true → is_serial (named xs id) n ≡ false
named-other n id [] others = refl
named-other n id (x ∷ xs) others =
    by_id (not-true (x.serial == n) (and-left (not (x.serial == n)) (list_all (λ (y : Name). not (y.serial == n)) xs) others))
    (named-other n id xs (and-right (not (x.serial == n)) (list_all (λ (y : Name). not (y.serial == n)) xs) others)) (x.id == id)
  where
    by_id : (x.serial == n) ≡ false → is_serial (named xs id) n ≡ false → (b : Bool) → is_serial (cond b (Some x.serial) (named xs id)) n ≡ false
    by_id here rest true = grind (arith, nat_tests)
    by_id here rest false = rest

pub serials-without : (f : ℕ → Option PairNo) (id : ℕ) (names : List Name) → are_apart names ≡ true
    → serials_by f (without_name id names) ≡ filter (λ (k : ℕ). not (is_serial (named names id) k)) (serials_by f names)
serials-without f id [] apart = refl
serials-without f id (x ∷ xs) apart =
    let first : list_all (is_apart x) xs ≡ true = and-left (list_all (is_apart x) xs) (are_apart xs) apart in
    by_id (serials-without f id xs (and-right (list_all (is_apart x) xs) (are_apart xs) apart)) (ids-apart x xs first) (serials-apart x xs first) (x.id == id)
    refl (f x.serial) refl
  where
    by_id : serials_by f (without_name id xs) ≡ filter (λ (k : ℕ). not (is_serial (named xs id) k)) (serials_by f xs)
        → list_all (λ (y : Name). not (y.id == x.id)) xs ≡ true
        → list_all (λ (y : Name). not (y.serial == x.serial)) xs ≡ true → (b : Bool) → (x.id == id) ≡ b → (o : Option PairNo) → f x.serial ≡ o
        → serials_by f (cond (not b) (x ∷ without_name id xs) (without_name id xs))
        ≡ filter (λ (k : ℕ). not (is_serial (cond b (Some x.serial) (named xs id)) k)) (serial_at x o ++ serials_by f xs)
    by_id rest ids serials true is None at = ap (serials_by f) (unnamed-kept id xs (same-id x id xs is ids)) ∙ sym (other-serials f x.serial xs serials)
    by_id rest ids serials true is (Some p) at =
        let itself : (x.serial == x.serial) ≡ true = grind (arith, nat_tests) in
        rw itself (ap (serials_by f) (unnamed-kept id xs (same-id x id xs is ids)) ∙ sym (other-serials f x.serial xs serials))
    by_id rest ids serials false is None at = rw at rest
    by_id rest ids serials false is (Some p) at =
        let other : is_serial (named xs id) x.serial ≡ false = named-other x.serial id xs serials in
        rw (at, other, rest) refl

-- names that are fewer, and one more
pub all-fewer : (q p : Name → Bool) (xs : List Name) → list_all q xs ≡ true → list_all q (filter p xs) ≡ true
all-fewer q p [] all = refl
all-fewer q p (x ∷ xs) all = by_test (and-left (q x) (list_all q xs) all) (all-fewer q p xs (and-right (q x) (list_all q xs) all)) (p x)
  where
    by_test : q x ≡ true → list_all q (filter p xs) ≡ true → (b : Bool) → list_all q (cond b (x ∷ filter p xs) (filter p xs)) ≡ true
    by_test here rest true = rw (here, rest) refl
    by_test here rest false = rest

pub apart-fewer : (p : Name → Bool) (xs : List Name) → are_apart xs ≡ true → are_apart (filter p xs) ≡ true
apart-fewer p [] apart = refl
apart-fewer p (x ∷ xs) apart =
    by_test (all-fewer (is_apart x) p xs (and-left (list_all (is_apart x) xs) (are_apart xs) apart))
    (apart-fewer p xs (and-right (list_all (is_apart x) xs) (are_apart xs) apart)) (p x)
  where
    by_test : list_all (is_apart x) (filter p xs) ≡ true → are_apart (filter p xs) ≡ true → (b : Bool)
        → are_apart (cond b (x ∷ filter p xs) (filter p xs)) ≡ true
    by_test here rest true = rw (here, rest) refl
    by_test here rest false = rest

pub apart-more : (n id : ℕ) (xs : List Name) → are_within n xs ≡ true → list_all (λ (y : Name). not (y.id == id)) xs ≡ true → are_apart xs ≡ true
    → are_apart (xs ++ (let name : Name = record { id = id; serial = n + 1 } in name) ∷ []) ≡ true
apart-more n id [] within new apart = refl
apart-more n id (x ∷ xs) within new apart =
    let serial : nat_le x.serial n ≡ true = and-left (nat_le x.serial n) (are_within n xs) within in
    let other_id : (x.id == id) ≡ false = not-true (x.id == id) (and-left (not (x.id == id)) (list_all (λ (y : Name). not (y.id == id)) xs) new) in
    let id_differs : (id == x.id) ≡ false = grind (arith, nat_tests) in
    let serial_differs : (n + 1 == x.serial) ≡ false = grind (arith, nat_tests) in
    let rest = apart-more n id xs (and-right (nat_le x.serial n) (are_within n xs) within)
    (and-right (not (x.id == id)) (list_all (λ (y : Name). not (y.id == id)) xs) new) (and-right (list_all (is_apart x) xs) (are_apart xs) apart) in
    let others : list_all (is_apart x) xs ≡ true = and-left (list_all (is_apart x) xs) (are_apart xs) apart in
    let name : Name = record { id = id; serial = n + 1 } in
    let first : list_all (is_apart x) (xs ++ name ∷ []) ≡ true = list_all-append (is_apart x) xs (name ∷ []) ∙ rw (others, id_differs, serial_differs) refl in
    rw (first, rest) refl
