-- What a run of the load comes to.
use Rattle.std.proofs.Common.{◌≡◌, ℕ, ◌+◌, Bool, List, [], ◌∷◌, ◌++◌, length, length-append, filter, reverse, Option, refl, sym, ap, ◌∙◌, arith}
use Rattle.std.specs.List.{count_by}
use Rattle.std.proofs.lemmas.List.{reverse-append, length-reverse}
use Rattle.std.proofs.lemmas.List.Elements.{filter-append}
use Rattle.std.proofs.lemmas.List.Sums.{length-filter}
use Rattle.flat_base.specs.Last.{last_item}
use Rattle.flat_scene.specs.declared.frames.FrameOut.{FrameOut}
use Rattle.flat_scene.specs.declared.journal.Entry.{Entry}
use Rattle.flat_scene.specs.declared.setup.Setup.{Setup}
use Rattle.flat_scene.specs.History.{is_finish}
use Rattle.flat_scene.specs.Journals.{history_of}
use Rattle.flat_rules.specs.Legal.{frames}
use Rattle.flat_report.specs.Report.{finished}
use Rattle.flat_run.specs.Totals.{is_present, items_of, totals_of}

count_by-append : {A : Type 0} (p : A → Bool) (xs ys : List A) → count_by p (xs ++ ys) ≡ count_by p xs + count_by p ys
count_by-append p xs ys =
    sym (length-filter p (xs ++ ys)) ∙ ap length (filter-append p xs ys) ∙ length-append (filter p xs) (filter p ys)
    ∙ ap (λ n. n + length (filter p ys)) (length-filter p xs) ∙ ap (λ n. count_by p xs + n) (length-filter p ys)

-- a count doesn't depend on the order
count_by-reverse : {A : Type 0} (p : A → Bool) (xs : List A) → count_by p (reverse xs) ≡ count_by p xs
count_by-reverse p [] = refl
count_by-reverse p (x ∷ xs) =
    let back : count_by p (reverse (x ∷ xs)) ≡ count_by p (reverse xs) + count_by p (x ∷ []) =
    ap (count_by p) (reverse-append (x ∷ []) xs) ∙ count_by-append p (reverse xs) (x ∷ []) in
    let there : count_by p (x ∷ xs) ≡ count_by p (x ∷ []) + count_by p xs = count_by-append p (x ∷ []) xs in
    let same = count_by-reverse p xs in
    omega (arith, back, there, same)

-- the numbers of a journal, the oldest entry first, and of its last frame
pub totals : (asked sessions entries shown presents items : ℕ) (setup : Setup) (history journal : List Entry) (last : Option FrameOut)
    → history_of journal ≡ history → last ≡ last_item (finished setup history) → sessions ≡ setup.sessions → entries ≡ length journal
    → shown ≡ count_by (λ entry. is_finish entry.kind) journal → presents ≡ count_by (λ entry. is_present entry.kind) journal → items ≡ items_of last
    → record { load = asked; sessions = sessions; entries = entries; frames = shown; presents = presents; items = items } ≡ totals_of asked setup history
totals asked sessions entries shown presents items setup history journal last is last_is sessions_are entries_are shown_are presents_are items_are =
    let e : entries ≡ length history = entries_are ∙ sym (length-reverse journal) ∙ ap length is in
    let f : shown ≡ frames history = shown_are ∙ counted (λ (entry : Entry). is_finish entry.kind)
    ∙ sym (length-filter (λ (entry : Entry). is_finish entry.kind) history) in
    let p : presents ≡ count_by (λ (entry : Entry). is_present entry.kind) history = presents_are ∙ counted (λ (entry : Entry). is_present entry.kind) in
    let i : items ≡ items_of (last_item (finished setup history)) = items_are ∙ ap items_of last_is in
    rw (sessions_are, e, f, p, i) refl
  where
    counted : (test : Entry → Bool) → count_by test journal ≡ count_by test history
    counted test = sym (count_by-reverse test journal) ∙ ap (count_by test) is
