-- What is shown after a begin.
use Rattle.std.proofs.Common.{◌≡◌, ℕ, zero, suc, ◌+◌, ◌-◌, ◌<◌, ◌≤◌, Bool, true, false, List, [], ◌∷◌, ◌++◌, length, refl, arith, sym, ◌∙◌, ap, map, take, drop}
use Rattle.std.proofs.Common.{Some, None, zero-add, suc-add, slice_get}
use Rattle.std.specs.Prelude.{cond, ◌==◌, Option, option_map, option_and_then}
use Rattle.std.specs.List.{list_any}
use Rattle.std.proofs.lemmas.Grind.{common_steps}
use Rattle.std.proofs.lemmas.Bool.Decides.{nat_tests}
use Rattle.flat_base.specs.declared.ids.SessionNo.{SessionNo}
use Rattle.flat_scene.specs.declared.journal.Entry.{Entry}
use Rattle.flat_scene.specs.declared.setup.Setup.{Setup}
use Rattle.flat_scene.specs.History.{◌▹◌, own, is_closed, is_session, published, published_all, carried, closes}
use Rattle.flat_scene.specs.Draft.{of_serial}
use Rattle.flat_scene.specs.History.{is_begin}
use Rattle.flat_rules.specs.Ends.{to_begin}
use Rattle.flat_scene.specs.Frames.{taken}
use Rattle.flat_rules.specs.Shown.{shown, tree_of, last_taken}
use Rattle.flat_rules.specs.Lasts.{last_from}
use Rattle.flat_scene.proofs.lemmas.TakingLemmas.{taken-made}
use Rattle.flat_rules.proofs.lemmas.Quiet.{taken-quiet}
use Rattle.std.proofs.lemmas.Bool.{or_parts}

-- ---- items by their serials

pub serial-get : {A : Type 0} (xs : List A) (n : ℕ) → of_serial xs (suc n) ≡ slice_get xs n
serial-get [] n = refl
serial-get (x ∷ xs) zero = refl
serial-get (x ∷ xs) (suc n) =
    let not_first : (suc (suc n) == 1) ≡ false = grind (arith, nat_tests) in
    let less : suc (suc n) - 1 ≡ suc n = omega arith in
    rw (not_first, less) (serial-get xs n)

pub serial-zero : {A : Type 0} (xs : List A) → of_serial xs 0 ≡ None
serial-zero [] = refl
serial-zero (x ∷ xs) = serial-zero xs

pub get-append : {A : Type 0} (xs ys : List A) (n : ℕ) → n < length xs → slice_get (xs ++ ys) n ≡ slice_get xs n
get-append [] ys n below = absurd (omega (arith, below))
get-append (x ∷ xs) ys zero below = refl
get-append (x ∷ xs) ys (suc n) below = get-append xs ys n (grind (arith, common_steps))

pub serial-append : {A : Type 0} (xs ys : List A) (n : ℕ) → n ≤ length xs → of_serial (xs ++ ys) n ≡ of_serial xs n
serial-append xs ys zero fits = serial-zero (xs ++ ys) ∙ sym (serial-zero xs)
serial-append xs ys (suc n) fits = serial-get (xs ++ ys) n ∙ get-append xs ys n (omega (arith, fits)) ∙ sym (serial-get xs n)

pub get-drop : {A : Type 0} (t n : ℕ) (xs : List A) → slice_get xs (t + n) ≡ slice_get (drop t xs) n
get-drop zero n xs = rw zero-add refl
get-drop (suc t) n [] = refl
get-drop (suc t) n (x ∷ xs) = rw suc-add (get-drop t n xs)

pub get-map : {A B : Type 0} (f : A → B) (xs : List A) (n : ℕ) → slice_get (map f xs) n ≡ option_map f (slice_get xs n)
get-map f [] n = refl
get-map f (x ∷ xs) zero = refl
get-map f (x ∷ xs) (suc n) = get-map f xs n

pub last-get : {A : Type 0} (standing : Option A) (xs : List A) (n : ℕ) → n < length xs → last_from standing (take (suc n) xs) ≡ slice_get xs n
last-get standing [] n below = absurd (omega (arith, below))
last-get standing (x ∷ xs) zero below = refl
last-get standing (x ∷ xs) (suc n) below = last-get (Some x) xs n (grind (arith, common_steps))

last-some : {A : Type 0} (x : A) (xs : List A) → last_from (Some x) xs ≡ None → [] ≡ x ∷ xs
last-some x [] none = cc
last-some x (y ∷ xs) none = let wrong : [] ≡ y ∷ xs = last-some y xs none in cc

pub last-none : {A : Type 0} (xs : List A) → last_from None xs ≡ None → xs ≡ []
last-none [] none = refl
last-none (x ∷ xs) none = sym (last-some x xs none)

-- ---- what is shown stays until the next begin

pub closed-before : (b : Bool) (e : Entry) (xs : List Entry) → list_any (λ entry. closes entry.reply) (cond b (e ∷ xs) xs) ≡ false
    → list_any (λ entry. closes entry.reply) xs ≡ false
closed-before true e xs opened = (or_parts (closes e.reply) _ opened).1
closed-before false e xs opened = opened

serial-more : (b : Bool) (e : Entry) (xs : List Entry) (n : ℕ) → n ≤ length (published_all xs)
    → of_serial (published_all (cond b (e ∷ xs) xs)) n ≡ of_serial (published_all xs) n
serial-more true e xs n fits = serial-append (published_all xs) (published e.kind e.reply (carried (xs ▹ e))) n fits
serial-more false e xs n fits = refl

last-quiet : (setup : Setup) (h : List Entry) (e : Entry) (s : SessionNo) → is_begin e.kind ≡ false → last_taken setup (h ▹ e) s ≡ last_taken setup h s
last-quiet setup h e s no_begin = rw (taken-quiet setup h e s no_begin)
    (serial-more (is_session s e.actor) e (own s h) (taken setup h s) (taken-made setup s h))

shown-opened : (setup : Setup) (h : List Entry) (s : SessionNo) → is_closed s h ≡ false
    → shown setup h s ≡ option_and_then (tree_of setup) (last_taken setup h s)
shown-opened setup h s opened = rw opened refl

mutual-step : (setup : Setup) (h : List Entry) (e : Entry) (s : SessionNo) (b : Bool) → is_begin e.kind ≡ b → is_closed s (h ▹ e) ≡ false
    → shown setup (to_begin h) s ≡ option_and_then (tree_of setup) (last_taken setup h s)
    → shown setup (cond b (h ▹ e) (to_begin h)) s ≡ option_and_then (tree_of setup) (last_taken setup (h ▹ e) s)
mutual-step setup h e s true begins opened before = shown-opened setup (h ▹ e) s opened
mutual-step setup h e s false begins opened before = before ∙ ap (option_and_then (tree_of setup)) (sym (last-quiet setup h e s begins))

pub shown-kept : (setup : Setup) (h : List Entry) (s : SessionNo) → is_closed s h ≡ false
    → shown setup (to_begin h) s ≡ option_and_then (tree_of setup) (last_taken setup h s)
shown-kept setup [] s opened = refl
shown-kept setup (h ▹ e) s opened =
    mutual-step setup h e s (is_begin e.kind) refl opened (shown-kept setup h s (closed-before (is_session s e.actor) e (own s h) opened))
