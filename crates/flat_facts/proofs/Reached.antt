-- What the root and the names of a draft reach holds no viewport but a live one.
use Rattle.std.proofs.Common.{◌≡◌, ◌∙◌, sym, ℕ, zero, suc, ◌+◌, ◌-◌, ◌≤◌, Bool, true, false, cond, List, [], ◌∷◌, ◌++◌, length, filter, map, drop, refl, arith}
use Rattle.std.proofs.Common.{ap, Some, None}
use Rattle.std.specs.Prelude.{not, ◌&&◌, ◌||◌, ◌==◌, nat_lt, Option, option_and_then, option_to_list, is_some}
use Rattle.std.specs.List.{list_all, list_any, cons_option}
use Rattle.std.proofs.lemmas.Bool.Decides.{nat_tests}
use Rattle.std.proofs.lemmas.List.Folds.{list_all-append, list_any-append}
use Rattle.flat_base.specs.declared.ids.PairNo.{PairNo}
use Rattle.flat_base.specs.declared.ids.TransformId.{TransformId}
use Rattle.flat_scene.specs.Draft.{Draft, Transform, Made, Name, named, of_serial, changed_at, empty_draft, transform_of}
use Rattle.flat_scene.specs.Effect.{changed_if, serials_of}
use Rattle.flat_base.proofs.lemmas.Tests.{and-left, and-right}
use Rattle.flat_facts.proofs.lemmas.Lives.{pair_made, pair_at}
use Rattle.flat_rules.proofs.lemmas.ListLemmas.{length-changed}

-- whether a number is in a list
abbrev pub has : List ℕ → ℕ → Bool
has xs k = list_any (λ x. x == k) xs

-- a content that is held, where it is a viewport, is a live one
abbrev pub is_alive : (ℕ → Option PairNo) → List ℕ → Option ℕ → Bool
is_alive pairs lives None = true
is_alive pairs lives (Some k) = not (is_some (pairs k)) || has lives k

-- what a transform holds is alive, and its children were made after the first so many
abbrev pub is_reached : ℕ → (ℕ → Option PairNo) → List ℕ → Transform → Bool
is_reached first pairs lives t = is_alive pairs lives t.content && list_all (nat_lt first) t.children

abbrev pub is_root_after : ℕ → Option ℕ → Bool
is_root_after first None = true
is_root_after first (Some k) = nat_lt first k

abbrev pub are_after : ℕ → List Name → Bool
are_after first = list_all (λ name. nat_lt first name.serial)

-- The first so many transforms can't be reached any more: neither a name, nor the root, nor a later transform leads to one of them. The later
-- ones hold no viewport but live ones.
pub record IsReached (d : Draft) : Type 0 where
  pub first : ℕ
  pub fits : first ≤ length d.transforms
  pub names : are_after first d.transform_names ≡ true
  pub root : is_root_after first d.root ≡ true
  pub later : list_all (is_reached first (pair_at d.contents) d.viewports) (drop first d.transforms) ≡ true

pub reached-empty : IsReached empty_draft
reached-empty = record { first = 0; fits = omega arith; names = refl; root = refl; later = refl }

-- ---- lists

pub all-also : {A : Type 0} (p q : A → Bool) → ((x : A) → p x ≡ true → q x ≡ true) → (xs : List A) → list_all p xs ≡ true → list_all q xs ≡ true
all-also p q also [] all = refl
all-also p q also (x ∷ xs) all = rw (also x (and-left (p x) (list_all p xs) all), all-also p q also xs (and-right (p x) (list_all p xs) all)) refl

pick : {A : Type 0} (p : A → Bool) (f : A → A) → ((x : A) → p x ≡ true → p (f x) ≡ true) → (b : Bool) (x : A) (xs changed : List A) → p x ≡ true
    → list_all p xs ≡ true → list_all p changed ≡ true → list_all p (cond b (f x ∷ xs) (x ∷ changed)) ≡ true
pick p f keeps true x xs changed here all more = rw (keeps x here, all) refl
pick p f keeps false x xs changed here all more = rw (here, more) refl

pub changed-all : {A : Type 0} (p : A → Bool) (f : A → A) → ((x : A) → p x ≡ true → p (f x) ≡ true) → (n : ℕ) (xs : List A) → list_all p xs ≡ true
    → list_all p (changed_at n f xs) ≡ true
changed-all p f keeps n [] all = refl
changed-all p f keeps n (x ∷ xs) all =
    pick p f keeps (n == 1) x xs (changed_at (n - 1) f xs) (and-left (p x) (list_all p xs) all) (and-right (p x) (list_all p xs) all)
    (changed-all p f keeps (n - 1) xs (and-right (p x) (list_all p xs) all))

-- all but the first so many
pub changed-later : {A : Type 0} (p : A → Bool) (f : A → A) → ((x : A) → p x ≡ true → p (f x) ≡ true) → (k n : ℕ) (xs : List A) → list_all p (drop k xs) ≡ true
    → list_all p (drop k (changed_at n f xs)) ≡ true
changed-later p f keeps zero n xs all = changed-all p f keeps n xs all
changed-later p f keeps (suc k) n [] all = refl
changed-later p f keeps (suc k) n (x ∷ xs) all = by_place (changed-later p f keeps k (n - 1) xs all) (n == 1)
  where
    by_place : list_all p (drop k (changed_at (n - 1) f xs)) ≡ true → (b : Bool)
        → list_all p (drop (suc k) (cond b (f x ∷ xs) (x ∷ changed_at (n - 1) f xs))) ≡ true
    by_place rest true = all
    by_place rest false = rest

pub mapped-later : {A : Type 0} (p q : A → Bool) (f : A → A) → ((x : A) → p x ≡ true → q (f x) ≡ true) → (k : ℕ) (xs : List A) → list_all p (drop k xs) ≡ true
    → list_all q (drop k (map f xs)) ≡ true
mapped-later p q f keeps zero [] all = refl
mapped-later p q f keeps zero (x ∷ xs) all = rw (
  keeps x (and-left (p x) (list_all p xs) all),
  mapped-later p q f keeps zero xs (and-right (p x) (list_all p xs) all),
) refl
mapped-later p q f keeps (suc k) [] all = refl
mapped-later p q f keeps (suc k) (x ∷ xs) all = mapped-later p q f keeps k xs all

pub one-later : {A : Type 0} (p : A → Bool) (k : ℕ) (xs : List A) (x : A) → k ≤ length xs → list_all p (drop k xs) ≡ true → p x ≡ true
    → list_all p (drop k (xs ++ x ∷ [])) ≡ true
one-later p zero xs x fits all here = list_all-append p xs (x ∷ []) ∙ rw (all, here) refl
one-later p (suc k) [] x fits all here = absurd (omega (arith, fits))
one-later p (suc k) (y ∷ xs) x fits all here = one-later p k xs x (omega (arith, fits)) all here

pub drop-all : {A : Type 0} (p : A → Bool) (xs : List A) → list_all p (drop (length xs) xs) ≡ true
drop-all p [] = refl
drop-all p (x ∷ xs) = drop-all p xs

pub named-all : (first : ℕ) (names : List Name) (id : ℕ) → are_after first names ≡ true → is_root_after first (named names id) ≡ true
named-all first [] id all = refl
named-all first (x ∷ xs) id all = by_id (named-all first xs id (and-right (nat_lt first x.serial) (are_after first xs) all)) (x.id == id)
  where
    by_id : is_root_after first (named xs id) ≡ true → (b : Bool) → is_root_after first (cond b (Some x.serial) (named xs id)) ≡ true
    by_id rest true = and-left (nat_lt first x.serial) (are_after first xs) all
    by_id rest false = rest

-- ---- one transform changes

module _ (d : Draft) (r : IsReached d) where
  abbrev pub test : Transform → Bool
  test = is_reached r.first (pair_at d.contents) d.viewports

  -- the transforms may change, where each stays reached
  pub with-changed : (serial : Option ℕ) (f : Transform → Transform) → ((t : Transform) → test t ≡ true → test (f t) ≡ true)
      → IsReached (record d { transforms = changed_if serial f d.transforms })
  with-changed None f keeps = record { first = r.first; fits = r.fits; names = r.names; root = r.root; later = r.later }
  with-changed (Some n) f keeps = record {
    first = r.first;
    fits = omega (arith, r.fits, length-changed f n d.transforms);
    names = r.names;
    root = r.root;
    later = changed-later test f keeps r.first n d.transforms r.later;
  }

  -- contents and live viewports may change, where what is alive stays so
  pub with-contents : (e : Draft) → e.transforms ≡ d.transforms → e.transform_names ≡ d.transform_names → e.root ≡ d.root
      → ((o : Option ℕ) → is_alive (pair_at d.contents) d.viewports o ≡ true → is_alive (pair_at e.contents) e.viewports o ≡ true) → IsReached e
  with-contents e transforms names root alive = record {
    first = r.first;
    fits = rw transforms r.fits;
    names = rw names r.names;
    root = rw root r.root;
    later = rw transforms
        (all-also test (is_reached r.first (pair_at e.contents) e.viewports)
        (λ t here. rw (
          alive t.content (and-left (is_alive (pair_at d.contents) d.viewports t.content) (list_all (nat_lt r.first) t.children) here),
          and-right (is_alive (pair_at d.contents) d.viewports t.content) (list_all (nat_lt r.first) t.children) here,
        ) refl)
        (drop r.first d.transforms) r.later);
  }

  pub child-after : (o : Option ℕ) (xs : List ℕ) → is_root_after r.first o ≡ true → list_all (nat_lt r.first) xs ≡ true
      → list_all (nat_lt r.first) (xs ++ option_to_list o) ≡ true
  child-after None xs here all = list_all-append (nat_lt r.first) xs [] ∙ rw all refl
  child-after (Some k) xs here all = list_all-append (nat_lt r.first) xs (k ∷ []) ∙ rw (all, here) refl

  -- and each serial that a name stands for
  pub named-children : (ks : List TransformId) → list_all (nat_lt r.first) (serials_of d ks) ≡ true
  named-children [] = refl
  named-children (k ∷ ks) = by_name (named-children ks) (transform_of d k) (named-all r.first d.transform_names k.0 r.names)
    where
      by_name : list_all (nat_lt r.first) (serials_of d ks) ≡ true → (o : Option ℕ) → is_root_after r.first o ≡ true
          → list_all (nat_lt r.first) (cons_option o (serials_of d ks)) ≡ true
      by_name rest None here = rest
      by_name rest (Some n) here = rw (here, rest) refl

  pub fewer-after : (q : ℕ → Bool) (xs : List ℕ) → list_all (nat_lt r.first) xs ≡ true → list_all (nat_lt r.first) (filter q xs) ≡ true
  fewer-after q [] all = refl
  fewer-after q (x ∷ xs) all = by_test (fewer-after q xs (and-right (nat_lt r.first x) (list_all (nat_lt r.first) xs) all)) (q x)
    where
      by_test : list_all (nat_lt r.first) (filter q xs) ≡ true → (b : Bool) → list_all (nat_lt r.first) (cond b (x ∷ filter q xs) (filter q xs)) ≡ true
      by_test rest true = rw (and-left (nat_lt r.first x) (list_all (nat_lt r.first) xs) all, rest) refl
      by_test rest false = rest

  pub parts : (t : Transform) → test t ≡ true → (is_alive (pair_at d.contents) d.viewports t.content ≡ true) × (list_all (nat_lt r.first) t.children ≡ true)
  parts t here = (
    and-left (is_alive (pair_at d.contents) d.viewports t.content) (list_all (nat_lt r.first) t.children) here,
    and-right (is_alive (pair_at d.contents) d.viewports t.content) (list_all (nat_lt r.first) t.children) here,
  )

-- ---- what is alive

pub alive-same : (f g : ℕ → Option PairNo) (lives : List ℕ) → ((k : ℕ) → g k ≡ f k) → (o : Option ℕ) → is_alive f lives o ≡ true → is_alive g lives o ≡ true
alive-same f g lives same None here = refl
alive-same f g lives same (Some k) here = rw (same k) here

-- the content made last
new-serial : (ms : List Made) (m : Made) (k : ℕ) (b : Bool) → (k == length ms + 1) ≡ b → pair_at (ms ++ m ∷ []) k ≡ cond b (pair_made m) (pair_at ms k)
new-serial [] m k true is = by_one (k == 1) is
  where
    by_one : (b : Bool) → b ≡ true → option_and_then pair_made (cond b (Some m) None) ≡ pair_made m
    by_one true same = refl
    by_one false same = cc
new-serial [] m k false is = by_one (k == 1) is
  where
    by_one : (b : Bool) → b ≡ false → option_and_then pair_made (cond b (Some m) None) ≡ None
    by_one true same = cc
    by_one false same = refl
new-serial (x ∷ ms) m k b is = by_first (k == 1) refl (nat_lt 0 k) refl (λ e. new-serial ms m (k - 1) b e)
  where
    rest : List Made
    rest = ms ++ m ∷ []

    by_first : (c : Bool) → (k == 1) ≡ c → (z : Bool) → nat_lt 0 k ≡ z
        → ((k - 1 == length ms + 1) ≡ b → pair_at rest (k - 1) ≡ cond b (pair_made m) (pair_at ms (k - 1)))
        → option_and_then pair_made (cond c (Some x) (of_serial rest (k - 1)))
        ≡ cond b (pair_made m) (option_and_then pair_made (cond c (Some x) (of_serial ms (k - 1))))
    by_first true one z some later =
        let other : b ≡ false = sym is ∙ grind (arith, nat_tests) in
        rw other refl
    by_first false other true some later = later (grind (arith, nat_tests))
    by_first false other false some later = at_zero
      where
        none : (ys : List Made) → of_serial ys (k - 1) ≡ None
        none [] = refl
        none (y ∷ ys) =
            let not_one : (k - 1 == 1) ≡ false = grind (arith, nat_tests) in
            let still : k - 1 - 1 ≡ k - 1 = grind (arith, nat_tests) in
            rw (not_one, still) (none ys)

        at_zero : option_and_then pair_made (of_serial rest (k - 1)) ≡ cond b (pair_made m) (option_and_then pair_made (of_serial ms (k - 1)))
        at_zero =
            let no : b ≡ false = sym is ∙ grind (arith, nat_tests) in
            rw (none rest, none ms, no) refl

pub alive-made : (ms : List Made) (m : Made) (lives more : List ℕ) → (is_some (pair_made m) ≡ true → has (lives ++ more) (length ms + 1) ≡ true)
    → (o : Option ℕ) → is_alive (pair_at ms) lives o ≡ true → is_alive (pair_at (ms ++ m ∷ [])) (lives ++ more) o ≡ true
alive-made ms m lives more new None here = refl
alive-made ms m lives more new (Some k) here = by_place (k == length ms + 1) refl
  where
    by_some : (b : Bool) → (b ≡ true → has (lives ++ more) k ≡ true) → (not b || has (lives ++ more) k) ≡ true
    by_some true there = there refl
    by_some false there = refl

    kept : (a b c : Bool) → (not a || b) ≡ true → (not a || (b || c)) ≡ true
    kept true true c h = refl
    kept true false c h = cc
    kept false b c h = refl

    by_place : (b : Bool) → (k == length ms + 1) ≡ b → (not (is_some (pair_at (ms ++ m ∷ []) k)) || has (lives ++ more) k) ≡ true
    by_place true is =
        let number : k ≡ length ms + 1 = grind (arith, nat_tests) in
        rw (new-serial ms m k true is) (by_some (is_some (pair_made m)) (λ some. ap (has (lives ++ more)) number ∙ new some))
    by_place false is = rw (new-serial ms m k false is, list_any-append (λ x. x == k) lives more)
        (kept (is_some (pair_at ms k)) (has lives k) (has more k) here)
