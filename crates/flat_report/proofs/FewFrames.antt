-- A history has no more frames than its script has lines.
use Rattle.std.proofs.Common.{◌≡◌, ℕ, suc, ◌+◌, ◌<◌, ◌≤◌, nat_lt, Bool, true, false, cond, List, [], ◌∷◌, length, filter, refl, sym, ap, ◌∙◌, arith}
use Rattle.std.proofs.Common.{length-append}
use Rattle.std.proofs.lemmas.Bool.Decides.{nat_tests}
use Rattle.flat_base.specs.declared.ids.Actor.{Actor}
use Rattle.flat_base.specs.declared.ids.Actor.TheVariants.{Display, Session, Probe}
use Rattle.flat_scene.specs.declared.journal.Entry.{Entry}
use Rattle.flat_scene.specs.declared.journal.EntryKind.{EntryKind}
use Rattle.flat_scene.specs.declared.journal.EntryKind.TheVariants as kind
use Rattle.flat_scene.specs.declared.script.LineBody.{LineBody}
use Rattle.flat_scene.specs.declared.script.LineBody.TheVariants as body
use Rattle.flat_scene.specs.declared.script.DisplayLine.{DisplayLine}
use Rattle.flat_scene.specs.declared.script.ScriptLine.{ScriptLine}
use Rattle.flat_scene.specs.declared.setup.Setup.{Setup}
use Rattle.flat_scene.specs.History.{◌▹◌, is_finish, is_display}
use Rattle.flat_scene.specs.Interleave.{FollowsDisplay, IsFirstLine, by_display, display_line, display_lines, last_line, unread_lines}
use Rattle.flat_rules.specs.Legal.{Legal, may_act, frames}
use Rattle.flat_report.proofs.lemmas.Turns.{Stands}

-- ---- filters

kept-few : {A : Type 0} (p : A → Bool) (xs : List A) → length (filter p xs) ≤ length xs
kept-few p [] = omega arith
kept-few p (x ∷ xs) = by_test (p x) (kept-few p xs)
  where
    by_test : (b : Bool) → length (filter p xs) ≤ length xs → length (cond b (x ∷ filter p xs) (filter p xs)) ≤ length (x ∷ xs)
    by_test true less = omega (arith, less)
    by_test false less = omega (arith, less)

first-passes : {A : Type 0} (p : A → Bool) (xs : List A) (y : A) (ys : List A) → filter p xs ≡ y ∷ ys → p y ≡ true
first-passes p [] y ys is = absurd (cc)
first-passes p (x ∷ xs) y ys is = by_test (p x) refl is (first-passes p xs y ys)
  where
    by_test : (b : Bool) → p x ≡ b → cond b (x ∷ filter p xs) (filter p xs) ≡ y ∷ ys → (filter p xs ≡ y ∷ ys → p y ≡ true) → p y ≡ true
    by_test true passes is later = let same : x ≡ y = cc in ap p (sym same) ∙ passes
    by_test false fails is later = later is

-- the lines after a number are among those after a lesser one
after-twice : {A : Type 0} (m n : ℕ) (ls : List (ℕ × A)) → m ≤ n → filter (λ l. nat_lt n l.0) (filter (λ l. nat_lt m l.0) ls) ≡ filter (λ l. nat_lt n l.0) ls
after-twice m n [] less = refl
after-twice m n (l ∷ ls) less = by_test (nat_lt m l.0) (nat_lt n l.0) refl refl (after-twice m n ls less)
  where
    by_test : (b c : Bool) → nat_lt m l.0 ≡ b → nat_lt n l.0 ≡ c → filter (λ l. nat_lt n l.0) (filter (λ l. nat_lt m l.0) ls) ≡ filter (λ l. nat_lt n l.0) ls
        → filter (λ l. nat_lt n l.0) (cond b (l ∷ filter (λ l. nat_lt m l.0) ls) (filter (λ l. nat_lt m l.0) ls))
        ≡ cond c (l ∷ filter (λ l. nat_lt n l.0) ls) (filter (λ l. nat_lt n l.0) ls)
    by_test true true low high later = rw high (ap (λ ks. l ∷ ks) later)
    by_test true false low high later = rw high later
    by_test false true low high later = absurd (let wrong : false ≡ true = grind (arith, nat_tests) in cc)
    by_test false false low high later = later

-- ---- the entries of the display

one-less : (ls unread : List (ℕ × DisplayLine)) (last line : ℕ) (number : ℕ) (text : DisplayLine) (later : List (ℕ × DisplayLine))
    → filter (λ l. nat_lt last l.0) ls ≡ (number, text) ∷ later → line ≡ number
    → length (filter (λ l. nat_lt line l.0) ls) + 1 ≤ length (filter (λ l. nat_lt last l.0) ls)
one-less ls unread last line number text later is here =
    let first : nat_lt last number ≡ true = first-passes (λ l. nat_lt last l.0) ls (number, text) later is in
    let rises : last ≤ line = (let less : last < number = grind (arith, nat_tests) in omega (arith, less, here)) in
    let itself : nat_lt line number ≡ false = grind (arith, nat_tests) in
    let left : filter (λ l. nat_lt line l.0) ls ≡ filter (λ l. nat_lt line l.0) later =
    sym (after-twice last line ls rises) ∙ ap (filter (λ l. nat_lt line l.0)) is ∙ rw itself refl in
    let few : length (filter (λ l. nat_lt line l.0) later) ≤ length later = kept-few (λ l. nat_lt line l.0) later in
    let long : length (filter (λ l. nat_lt last l.0) ls) ≡ suc (length later) = ap length is in
    let short : length (filter (λ l. nat_lt line l.0) ls) ≡ length (filter (λ l. nat_lt line l.0) later) = ap length left in
    omega (arith, few, long, short)

first-taken : (ls unread : List (ℕ × DisplayLine)) (last : ℕ) (entry : Entry) → filter (λ l. nat_lt last l.0) ls ≡ unread → IsFirstLine unread entry
    → length (filter (λ l. nat_lt entry.line l.0) ls) + 1 ≤ length (filter (λ l. nat_lt last l.0) ls)
first-taken ls [] last entry is first = absurd first
first-taken ls ((number, text) ∷ later) last entry is first = one-less ls [] last entry.line number text later is first.line

entries-few : (ls : List (ℕ × DisplayLine)) (entries : List Entry) → FollowsDisplay ls entries → length entries + length (unread_lines entries ls) ≤ length ls
entries-few ls [] follows = let few : length (unread_lines (let none : List Entry = [] in none) ls) ≤ length ls =
    kept-few (λ l. nat_lt 0 l.0) ls in omega (arith, few)
entries-few ls (before ▹ entry) follows =
    let earlier = entries-few ls before follows.0 in
    let here = first-taken ls (unread_lines before ls) (last_line before) entry refl follows.1 in
    omega (arith, earlier, here)

lines-few : (lines : List ScriptLine) → length (display_lines lines) ≤ length lines
lines-few [] = omega arith
lines-few (next ∷ lines) =
    let one = at_most_one next.number next.body in
    let later = lines-few lines in
    omega (arith, one, later, length-append (display_line next.number next.body) (display_lines lines))
  where
    at_most_one : (n : ℕ) (b : LineBody) → length (display_line n b) ≤ 1
    at_most_one n (body.Display text) = omega arith
    at_most_one n (body.Session text) = omega arith
    at_most_one n (body.Probe text) = omega arith

-- ---- frames

finish-display : (setup : Setup) (made : EntryKind) (actor : Actor) → may_act setup made actor ≡ true → is_finish made ≡ true → is_display actor ≡ true
finish-display setup made Display may is = refl
finish-display setup kind.Finish (Session s) may is = absurd (cc)
finish-display setup made (Probe p) may is = absurd (cc)
finish-display setup _ (Session s) may is = absurd (cc)

frames-few : (setup : Setup) (history : List Entry) → Legal setup history → frames history ≤ length (by_display history)
frames-few setup [] legal = omega arith
frames-few setup (before ▹ entry) legal = by_test (is_finish entry.kind) (is_display entry.actor) (finish-display setup entry.kind entry.actor legal.1.may.acts)
    (frames-few setup before legal.0)
  where
    by_test : (b c : Bool) → (b ≡ true → c ≡ true) → frames before ≤ length (by_display before)
        → length (cond b (entry ∷ filter (λ (e : Entry). is_finish e.kind) before) (filter (λ (e : Entry). is_finish e.kind) before)) ≤ length
        (cond c (entry ∷ by_display before) (by_display before))
    by_test true true so less = omega (arith, less)
    by_test true false so less = absurd (let wrong : false ≡ true = so refl in cc)
    by_test false true so less = omega (arith, less)
    by_test false false so less = less

pub few-frames : (setup : Setup) (count : ℕ) (lines : List ScriptLine) (history : List Entry) → Stands setup count lines history → frames history ≤ length lines
few-frames setup count lines history standing =
    omega (arith, frames-few setup history standing.legal, entries-few (display_lines lines) (by_display history) standing.display, lines-few lines)
