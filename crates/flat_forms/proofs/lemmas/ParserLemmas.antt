-- The counts beside the script.
use Rattle.std.proofs.Common.{zero, suc, ◌&&◌, get_or, set, ◌==◌, ◌≢◌, get_or-set_same, get_or-set_other, ◌≡◌, ℕ, ◌+◌, ◌<◌, Bool, true, false, ◌||◌, List, []}
use Rattle.std.proofs.Common.{◌∷◌, ◌++◌, length, refl, sym, ap, ◌∙◌, arith, length-append, Option, Some, None, cond, is_some, max, count_by, append-nil}
use Rattle.std.proofs.Common.{add-zero}
use Rattle.std.proofs.lemmas.Bool.Decides.{nat_tests}
use Rattle.std.specs.List.{list_any, filter_map, cons_option}
use Rattle.std.proofs.lemmas.List.Elements.{filter_map-append}
use Rattle.std.proofs.lemmas.Grind.{fold-append}
use Rattle.std.specs.Option.{option_map_or}
use Rattle.flat_base.specs.declared.ids.Actor.{Actor}
use Rattle.flat_base.specs.declared.ids.Actor.TheVariants.{Display, Session, Probe}
use Rattle.flat_scene.specs.declared.script.ScriptLine.{ScriptLine}
use Rattle.flat_places.specs.Names.{is_actor}
use Rattle.flat_places.specs.Slots.{slot, IsCounted}
use Rattle.flat_forms.specs.Body.{greatest, time_begun, ends_frame}
use Rattle.std.proofs.lemmas.Bool.{and_parts}
use Rattle.std.proofs.Math.Bool.{or-false, or_assoc}

one_more : {A : Type 0} (p : A → Bool) (x : A) (ys : List A) → (list_any p ys || p x) ≡ list_any p (ys ++ x ∷ [])
one_more p x [] = sym (or-false (p x))
one_more p x (y ∷ ys) = or_assoc (p y) (list_any p ys) (p x) ∙ ap (λ c. p y || c) (one_more p x ys)

pub any_more : {A : Type 0} (p : A → Bool) (xs ys : List A) (x : A) (a b : Bool) → ys ≡ xs ++ x ∷ [] → a ≡ list_any p xs → b ≡ (a || p x) → b ≡ list_any p ys
any_more p xs ys x a b now here there = there ∙ ap (λ y. y || p x) here ∙ one_more p x xs ∙ ap (list_any p) (sym now)

-- one line more

count_one : (o : Option ℕ) (xs : List ℕ) → length (xs ++ cons_option o []) ≡ length xs + cond (is_some o) 1 0
count_one None xs = ap length (append-nil xs) ∙ sym (add-zero (length xs))
count_one (Some t) xs = length-append xs (t ∷ [])

greatest_one : (o : Option ℕ) (xs : List ℕ) → greatest (xs ++ cons_option o []) ≡ option_map_or (λ t. max (greatest xs) t) o (greatest xs)
greatest_one None xs = ap greatest (append-nil xs)
greatest_one (Some t) xs = fold-append max 0 xs (t ∷ [])

abbrev pub times : List ScriptLine → List ℕ
times ls = filter_map (λ x. time_begun x.body) ls

times_more : (old new : List ScriptLine) (l : ScriptLine) → new ≡ old ++ l ∷ [] → times new ≡ times old ++ cons_option (time_begun l.body) []
times_more old new l now = ap (filter_map (λ x. time_begun x.body)) now ∙ filter_map-append (λ x. time_begun x.body) old (l ∷ [])

pub begins_more : (old new : List ScriptLine) (l : ScriptLine) (begins one : ℕ) → new ≡ old ++ l ∷ [] → begins ≡ length (times old)
    → one ≡ cond (is_some (time_begun l.body)) 1 0 → begins + one ≡ length (times new)
begins_more old new l begins one now is more = rw (is, more) (sym (ap length (times_more old new l now) ∙ count_one (time_begun l.body) (times old)))

pub dones_more : (old new : List ScriptLine) (l : ScriptLine) (ended one : ℕ) → new ≡ old ++ l ∷ [] → ended ≡ count_by (λ x. ends_frame x.body) old
    → one ≡ cond (ends_frame l.body) 1 0 → ended + one ≡ count_by (λ x. ends_frame x.body) new
dones_more old new l ended one now is more =
    rw (is, more) (sym (ap (count_by (λ x. ends_frame x.body)) now ∙ fold-append (λ n x. n + cond (ends_frame x.body) 1 0) 0 old (l ∷ [])))

pub last_more : (old new : List ScriptLine) (l : ScriptLine) (last next : ℕ) → new ≡ old ++ l ∷ [] → last ≡ greatest (times old)
    → next ≡ option_map_or (λ t. max last t) (time_begun l.body) last → next ≡ greatest (times new)
last_more old new l last next now is more =
    more ∙ ap (λ m. option_map_or (λ t. max m t) (time_begun l.body) m) is
    ∙ sym (ap greatest (times_more old new l now) ∙ greatest_one (time_begun l.body) (times old))

-- the lines of each actor

slots_differ : (a b : Actor) → IsCounted a → IsCounted b → is_actor a b ≡ (slot a == slot b)
slots_differ Display Display p q = refl
slots_differ Display (Session s) p q = grind (arith, nat_tests)
slots_differ Display (Probe i) p q = grind (arith, nat_tests)
slots_differ (Session s) Display p q = grind (arith, nat_tests)
slots_differ (Session s) (Session t) p q = refl
slots_differ (Session s) (Probe i) p q = grind (arith, nat_tests)
slots_differ (Probe i) Display p q = grind (arith, nat_tests)
slots_differ (Probe i) (Session s) p q = grind (arith, nat_tests)
slots_differ (Probe i) (Probe j) p q = grind (arith, nat_tests)

slot_within : (a : Actor) (n : ℕ) → n ≡ 25 → IsCounted a → slot a < n
slot_within Display n long p = omega arith
slot_within (Session s) n long p = omega arith
slot_within (Probe i) n long p = omega arith

counted_at : (b : Bool) (counts : List ℕ) (i j n : ℕ) → (i == j) ≡ b → j < length counts
    → get_or (set counts i (get_or counts i 0 + n)) j 0 ≡ get_or counts j 0 + cond b n 0
counted_at true counts i j n same within =
    let e : i ≡ j = grind (arith, nat_tests) in
    rw e (get_or-set_same counts j (get_or counts j 0 + n) 0 within)
counted_at false counts i j n other within =
    let e : j ≢ i = grind (arith, nat_tests) in
    get_or-set_other counts i j (get_or counts i 0 + n) 0 e ∙ sym (add-zero (get_or counts j 0))

lines_at : (counts : List ℕ) (old new : List ScriptLine) (l : ScriptLine) (a b : Actor) → length counts ≡ 25 → IsCounted a → IsCounted b → l.actor ≡ a
    → new ≡ old ++ l ∷ []
    → get_or counts (slot b) 0 ≡ count_by (λ x. is_actor x.actor b) old
    → get_or (set counts (slot a) (get_or counts (slot a) 0 + 1)) (slot b) 0 ≡ count_by (λ x. is_actor x.actor b) new
lines_at counts old new l a b long p q same now is =
    let within : slot b < length counts = slot_within b (length counts) long q in
    let test : is_actor a b ≡ is_actor l.actor b = ap (λ x. is_actor x b) (sym same) in
    counted_at (is_actor a b) counts (slot a) (slot b) 1 (sym (slots_differ a b p q)) within
    ∙ ap (λ n. n + cond (is_actor a b) 1 0) is ∙ ap (λ t. count_by (λ x. is_actor x.actor b) old + cond t 1 0) test
    ∙ sym (ap (count_by (λ x. is_actor x.actor b)) now ∙ fold-append (λ n x. n + cond (is_actor x.actor b) 1 0) 0 old (l ∷ []))

pub lines_more : (counts : List ℕ) (old new : List ScriptLine) (l : ScriptLine) (a b : Actor) (i : ℕ) → i ≡ slot a → length counts ≡ 25 → IsCounted a
    → IsCounted b → l.actor ≡ a → new ≡ old ++ l ∷ []
    → get_or counts (slot b) 0 ≡ count_by (λ x. is_actor x.actor b) old
    → get_or (set counts i (get_or counts i 0 + 1)) (slot b) 0 ≡ count_by (λ x. is_actor x.actor b) new
lines_more counts old new l a b i here long p q same now is =
    ap (λ k. get_or (set counts k (get_or counts k 0 + 1)) (slot b) 0) here ∙ lines_at counts old new l a b long p q same now is

abbrev pub all_zeros : List ℕ → Bool
all_zeros [] = true
all_zeros (x ∷ xs) = (x == 0) && all_zeros xs

pub is_zero : (x : ℕ) → (x == 0) ≡ true → x ≡ 0
is_zero x h = grind (arith, nat_tests)

pub zeros_at : (xs : List ℕ) (k : ℕ) → all_zeros xs ≡ true → get_or xs k 0 ≡ 0
zeros_at [] k none = refl
zeros_at (x ∷ xs) zero none = is_zero x (and_parts (x == 0) (all_zeros xs) none).0
zeros_at (x ∷ xs) (suc k) none = zeros_at xs k (and_parts (x == 0) (all_zeros xs) none).1
