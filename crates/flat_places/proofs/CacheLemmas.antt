-- Names in the cache.
use Rattle.std.proofs.Common.{◌≡◌, ◌≢◌, ℕ, zero, suc, ◌+◌, ◌*◌, ◌<◌, ◌==◌, Bool, true, false, cond, List, [], ◌∷◌, length, get_or, set, get_or-set_same}
use Rattle.std.proofs.Common.{get_or-set_other, Option, Some, None, IfSome, refl, ap, sym, subst, ◌∙◌, arith}
use Rattle.std.specs.Str.{bytes_eq}
use Rattle.std.proofs.lemmas.Bool.{cond-false, cond-true, false_from_ne_true, both_ways, eqb-true, eq-eqb}
use Rattle.std.proofs.lemmas.Slice.Eq.{bytes_eq-Decides}
use Rattle.flat_places.specs.declared.names.NameMeaning.{NameMeaning}
use Rattle.flat_places.specs.declared.names.Names.{Names}
use Rattle.flat_places.specs.declared.names.CachedName.{CachedName}
use Rattle.flat_places.specs.Forms.{Word}
use Rattle.flat_places.specs.Index.{AreBytes, IsCache, IsCached, first_cached, key_of, meaning_at, slot_of}
use Rattle.flat_places.specs.Names.{is_name}
use Rattle.flat_places.proofs.lemmas.NameLemmas.{is_name-short}

first_digit : (x y k l : ℕ) → x < 256 → y < 256 → x + 256 * k ≡ y + 256 * l → (x ≡ y) × (k ≡ l)
first_digit x y k l small low same = (omega arith, omega arith)

-- words of one length and one key are one word
same_word : (v w : Word) → length v ≡ length w → AreBytes v → AreBytes w → key_of v ≡ key_of w → v ≡ w
same_word [] [] long p q same = refl
same_word [] (y ∷ w) long p q same = absurd (omega arith)
same_word (x ∷ v) [] long p q same = absurd (omega arith)
same_word (x ∷ v) (y ∷ w) long p q same =
    let digits = first_digit x y (key_of v) (key_of w) (p 0) (q 0) same in
    ap (λ b. b ∷ v) digits.0 ∙ ap (λ bs. y ∷ bs) (same_word v w (omega arith) (λ i. p (suc i)) (λ i. q (suc i)) digits.1)

-- the meanings after a name was declared
abbrev Declared : Names → Names → Word → NameMeaning → Type 0
Declared old new name m = (w : Word) → meaning_at new w ≡ cond (bytes_eq w name) (Some m) (meaning_at old w)

kept : (old new : Names) (name : Word) (m : NameMeaning) (slot : ℕ) (e : CachedName) → Declared old new name m → (key_of name ≢ e.key) → IsCached old slot e
    → IsCached new slot e
kept old new name m slot e found other was = record {
  own = was.own;
  means = λ w bytes long key.
      let apart : bytes_eq w name ≡ false = false_from_ne_true (bytes_eq w name) (λ same. other (ap key_of (sym ((bytes_eq-Decides w name).0 same)) ∙ key)) in
      found w ∙ cond-false (bytes_eq w name) (Some m) (meaning_at old w) apart ∙ was.means w bytes long key;
}

kept_any : (old new : Names) (name : Word) (m : NameMeaning) (slot : ℕ) (o : Option CachedName) → Declared old new name m → (slot_of (key_of name) ≢ slot)
    → IfSome o (IsCached old slot) → IfSome o (IsCached new slot)
kept_any old new name m slot None found other was = tt
kept_any old new name m slot (Some e) found other was = kept old new name m slot e found (λ same. other (ap slot_of same ∙ was.own)) was

put : (old new : Names) (name : Word) (m : NameMeaning) (slot : ℕ) (e : CachedName) → Declared old new name m → AreBytes name → e.key ≡ key_of name
    → e.len ≡ length name → e.meaning ≡ m → slot ≡ slot_of e.key → IsCached new slot e
put old new name m slot e found bytes key long meant own = record {
  own = sym own;
  means = λ w others length_is key_is.
      let same : w ≡ name = same_word w name (length_is ∙ long) others bytes (key_is ∙ key) in
      found w ∙ cond-true (bytes_eq w name) (Some m) (meaning_at old w) ((bytes_eq-Decides w name).1 same) ∙ ap Some (sym meant);
}

chosen : (b : Bool) (old new : Names) (name : Word) (m : NameMeaning) (slot : ℕ) (f e : CachedName) → (f.key == e.key) ≡ b → Declared old new name m
    → e.key ≡ key_of name → IsCached new slot e → IsCached old slot f → IsCached new slot (cond b e f)
chosen true old new name m slot f e is found key fresh was = fresh
chosen false old new name m slot f e is found key fresh was =
    kept old new name m slot f found (λ same. both_ways (f.key == e.key) is (eq-eqb f.key e.key (sym same ∙ sym key))) was

at_own : (old new : Names) (name : Word) (m : NameMeaning) (slot : ℕ) (o : Option CachedName) (e : CachedName) → Declared old new name m → e.key ≡ key_of name
    → IsCached new slot e → IfSome o (IsCached old slot) → IsCached new slot (first_cached o e)
at_own old new name m slot None e found key fresh was = fresh
at_own old new name m slot (Some f) e found key fresh was = chosen (f.key == e.key) old new name m slot f e refl found key fresh was

in_slot : (b : Bool) (old new : Names) (name : Word) (m : NameMeaning) (slot s : ℕ) (e : CachedName) → (s == slot) ≡ b → s < 61 → length old.cache ≡ 61
    → Declared old new name m → e.key ≡ key_of name → slot ≡ slot_of e.key → IsCached new slot e
    → new.cache ≡ set old.cache slot (Some (first_cached (get_or old.cache slot None) e)) → IsCache old → IfSome (get_or new.cache s None) (IsCached new s)
in_slot true old new name m slot s e is within long found key own fresh put was =
    let same : s ≡ slot = eqb-true s slot is in
    let here : get_or new.cache s None ≡ Some (first_cached (get_or old.cache slot None) e) =
    ap (λ xs. get_or xs s None) put ∙ ap (λ i. get_or (set old.cache slot (Some (first_cached (get_or old.cache slot None) e))) i None) same
    ∙ get_or-set_same old.cache slot (Some (first_cached (get_or old.cache slot None) e)) None (omega arith) in
    let lies : IsCached new slot (first_cached (get_or old.cache slot None) e) =
    at_own old new name m slot (get_or old.cache slot None) e found key fresh (was slot (omega arith)) in
    subst (λ (o : Option CachedName). IfSome o (IsCached new s)) (sym here)
    (subst (λ (i : ℕ). IsCached new i (first_cached (get_or old.cache slot None) e)) (sym same) lies)
in_slot false old new name m slot s e is within long found key own fresh put was =
    let other : s ≢ slot = λ same. both_ways (s == slot) is (eq-eqb s slot same) in
    let there : get_or new.cache s None ≡ get_or old.cache s None =
    ap (λ xs. get_or xs s None) put ∙ get_or-set_other old.cache slot s (Some (first_cached (get_or old.cache slot None) e)) None other in
    subst (λ (o : Option CachedName). IfSome o (IsCached new s)) (sym there)
    (kept_any old new name m s (get_or old.cache s None) found (λ same. other (sym same ∙ ap slot_of (sym key) ∙ sym own)) (was s within))

pub cache_after : (old new : Names) (name : Word) (m : NameMeaning) (slot : ℕ) (e : CachedName) → Declared old new name m → AreBytes name
    → length old.cache ≡ 61
    → e.key ≡ key_of name → e.len ≡ length name → e.meaning ≡ m → slot ≡ slot_of e.key
    → new.cache ≡ set old.cache slot (Some (first_cached (get_or old.cache slot None) e)) → IsCache old → IsCache new
cache_after old new name m slot e found bytes long key len meant own is was = λ s within.
    in_slot (s == slot) old new name m slot s e refl within long found key own (put old new name m slot e found bytes key len meant own) is was

-- what the cache holds is found there
pub found_cached : (names : Names) (w : Word) (slot : ℕ) (o : Option CachedName) (e : CachedName) → IsCache names → slot < 61 → o ≡ get_or names.cache slot None
    → o ≡ Some e → AreBytes w → length w ≡ e.len → key_of w ≡ e.key → Some e.meaning ≡ meaning_at names w
found_cached names w slot o e cache within at is bytes long key =
    let lies : IfSome (Some e) (IsCached names slot) = subst (λ (x : Option CachedName). IfSome x (IsCached names slot)) (sym at ∙ is) (cache slot within) in
    sym (lies.means w bytes long key)

pub long_means_none : (names : Names) (w : Word) → 16 < length w → meaning_at names w ≡ None
long_means_none names w long =
    let none : is_name w ≡ false = false_from_ne_true (is_name w) (λ name. absurd (omega (arith, is_name-short w name))) in
    rw none refl

abbrev pub all_none : List (Option CachedName) → Bool
all_none [] = true
all_none (None ∷ more) = all_none more
all_none (Some e ∷ more) = false

none_cached : (P : CachedName → Type 0) (cache : List (Option CachedName)) → all_none cache ≡ true → (slot : ℕ) → IfSome (get_or cache slot None) P
none_cached P [] none slot = tt
none_cached P (None ∷ more) none zero = tt
none_cached P (None ∷ more) none (suc slot) = none_cached P more none slot
none_cached P (Some e ∷ more) none slot = absurd (cc)

pub nothing_cached : (names : Names) → all_none names.cache ≡ true → IsCache names
nothing_cached names none = λ slot within. none_cached (IsCached names slot) names.cache none slot
