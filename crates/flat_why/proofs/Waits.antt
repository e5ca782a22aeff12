-- The presents that a begin leaves waiting, one by one.
use Rattle.std.proofs.Common.{ℕ, ◌+◌, ◌<◌, ◌≡◌, refl, sym, ap, ◌∙◌, subst, Bool, true, false, ◌||◌, cond, List, [], ◌∷◌, ◌++◌, length, map, filter, take, drop}
use Rattle.std.proofs.Common.{Option, None, append-nil, get_or, is_some}
use Rattle.std.specs.List.{All, list_any}
use Rattle.std.proofs.lemmas.List.{append_assoc, drop_more, map-append, take_more}
use Rattle.std.proofs.lemmas.List.Elements.{All-append, All-cons, All-drop, All-head, All-tail, All-take, filter-append}
use Rattle.flat_base.specs.declared.ids.SessionNo.{SessionNo}
use Rattle.flat_scene.specs.declared.journal.Entry.{Entry}
use Rattle.flat_scene.specs.declared.journal.Reply.{Reply}
use Rattle.flat_scene.specs.declared.journal.Reply.TheVariants as reply
use Rattle.flat_scene.specs.History.{◌▹◌, closes, is_closed, is_session, own}
use Rattle.flat_why.specs.declared.reasons.CloseReason.{CloseReason}
use Rattle.flat_why.specs.Reasons.{closing_by, closing_of}
use Rattle.std.specs.Option.{option_or}

-- a session was closed exactly where it is known how
closed-by : (line : ℕ) (r : Reply) (before : Option CloseReason) → is_some (option_or (closing_by line r) before) ≡ (closes r || is_some before)
closed-by line (reply.Closed error reason) before = refl
closed-by line _ before = refl

pub closing-closed : (s : SessionNo) (history : List Entry) → is_some (closing_of s history) ≡ is_closed s history
closing-closed s [] = refl
closing-closed s (before ▹ entry) = by (is_session s entry.actor) (closing-closed s before)
  where
    by : (b : Bool) → is_some (closing_of s before) ≡ is_closed s before
        → is_some (option_or (cond b (closing_by entry.line entry.reply) None) (closing_of s before))
        ≡ list_any (λ (one : Entry). closes one.reply) (cond b (entry ∷ own s before) (own s before))
    by true was = closed-by entry.line entry.reply (closing_of s before) ∙ ap (λ b. closes entry.reply || b) was
    by false was = was

-- the first of a list is dropped, or put behind the others
module _ {A B : Type 0} (test : A → Bool) (f : A → B) (old new : List A) (x : A) (is : old ≡ x ∷ new) where
  pub dropped : test x ≡ false → new ≡ drop 1 old ++ filter test (take 1 old)
  dropped fails = sym (ap (λ xs. drop 1 xs ++ filter test (take 1 xs)) is ∙ ap (λ b. new ++ cond b (x ∷ []) []) fails ∙ append-nil new)

  pub kept : test x ≡ true → new ++ x ∷ [] ≡ drop 1 old ++ filter test (take 1 old)
  kept passes = sym (ap (λ xs. drop 1 xs ++ filter test (take 1 xs)) is ∙ ap (λ b. new ++ cond b (x ∷ []) []) passes)

  pub none-said : (said : List B) → test x ≡ false → said ≡ said ++ map f (filter test (take 1 old))
  none-said said fails = sym (ap (λ xs. said ++ map f (filter test (take 1 xs))) is ∙ ap (λ b. said ++ map f (cond b (x ∷ []) [])) fails ∙ append-nil said)

  pub one-said : (said : List B) → test x ≡ true → said ++ f x ∷ [] ≡ said ++ map f (filter test (take 1 old))
  one-said said passes = sym (ap (λ xs. said ++ map f (filter test (take 1 xs))) is ∙ ap (λ b. said ++ map f (cond b (x ∷ []) [])) passes)

-- ---- the whole list, turned round once

pub all-filter : {A : Type 0} (P : A → Type 0) (test : A → Bool) (xs : List A) → All P xs → All P (filter test xs)
all-filter P test [] all = all
all-filter P test (x ∷ xs) all = by (test x) (all-filter P test xs (All-tail P x xs all))
  where
    by : (b : Bool) → All P (filter test xs) → All P (cond b (x ∷ filter test xs) (filter test xs))
    by true later = All-cons P x (filter test xs) (All-head P x xs all) later
    by false later = later

pub all-turned : {A : Type 0} (P : A → Type 0) (test : A → Bool) (old new : List A) → new ≡ drop 1 old ++ filter test (take 1 old) → All P old → All P new
all-turned P test old new is all =
    let Q : List _ → Type 0 = All P in
    subst Q (sym is) (All-append P (drop 1 old) (filter test (take 1 old)) (All-drop P 1 old all) (all-filter P test (take 1 old) (All-take P 1 old all)))

module _ {A B : Type 0} (test : A → Bool) (f : A → B) (all old new : List A) (i : ℕ) (d : A) (low : i < length all)
    (was : old ≡ drop i all ++ filter test (take i all)) where
  abbrev x : A
  x = get_or all i d

  parts : old ≡ x ∷ (drop (i + 1) all ++ filter test (take i all))
  parts = was ∙ ap (λ (xs : List A). xs ++ filter test (take i all)) (drop_more all i d low)

  filtered : filter test (take (i + 1) all) ≡ filter test (take i all) ++ filter test (x ∷ [])
  filtered = ap (filter test) (take_more all i d low) ∙ filter-append test (take i all) (x ∷ [])

  pub rotated : new ≡ drop 1 old ++ filter test (take 1 old) → new ≡ drop (i + 1) all ++ filter test (take (i + 1) all)
  rotated is =
      is ∙ ap (λ (xs : List A). drop 1 xs ++ filter test (take 1 xs)) parts
      ∙ append_assoc (drop (i + 1) all) (filter test (take i all)) (filter test (x ∷ [])) ∙ ap (λ (ys : List A). drop (i + 1) all ++ ys) (sym filtered)

  pub said-more : (said more : List B) → said ≡ map f (filter test (take i all)) → more ≡ said ++ map f (filter test (take 1 old))
      → more ≡ map f (filter test (take (i + 1) all))
  said-more said more before is =
      is ∙ ap (λ (ys : List B). ys ++ map f (filter test (take 1 old))) before
      ∙ ap (λ (xs : List A). map f (filter test (take i all)) ++ map f (filter test (take 1 xs))) parts
      ∙ sym (map-append f (filter test (take i all)) (filter test (x ∷ []))) ∙ ap (map f) (sym filtered)
