-- A run of a script finishes as many frames as the script has.
use Rattle.std.proofs.Common.{◌≡◌, ℕ, ◌+◌, ◌<◌, ◌≤◌, Bool, true, false, cond, nat_lt, List, [], ◌∷◌, ◌++◌, filter, refl, sym, ap, ◌∙◌, arith, zero-add}
use Rattle.std.specs.List.{count_by}
use Rattle.std.proofs.lemmas.Bool.Decides.{nat_tests}
use Rattle.std.proofs.lemmas.Grind.{common_steps}
use Rattle.flat_base.specs.declared.ids.Actor.{Actor}
use Rattle.flat_base.specs.declared.ids.Actor.TheVariants.{Display, Session, Probe}
use Rattle.flat_scene.specs.declared.journal.Entry.{Entry}
use Rattle.flat_scene.specs.declared.journal.EntryKind.{EntryKind}
use Rattle.flat_scene.specs.declared.journal.EntryKind.TheVariants as kind
use Rattle.flat_scene.specs.declared.script.LineBody.{LineBody}
use Rattle.flat_scene.specs.declared.script.LineBody.TheVariants as body
use Rattle.flat_scene.specs.declared.script.DisplayLine.{DisplayLine}
use Rattle.flat_scene.specs.declared.script.DisplayLine.TheVariants as display
use Rattle.flat_scene.specs.declared.script.ScriptLine.{ScriptLine}
use Rattle.flat_scene.specs.declared.setup.Setup.{Setup}
use Rattle.flat_scene.specs.History.{◌▹◌, is_display, is_finish}
use Rattle.flat_scene.specs.Interleave.{Interleaves, FollowsDisplay, IsFirstLine, by_display, display_line, display_lines, entry_of_display, last_line}
use Rattle.flat_scene.specs.Interleave.{unread_lines}
use Rattle.flat_rules.specs.Legal.{Legal, frames, may_act, session_may}
use Rattle.flat_places.specs.declared.script.Script.{Script}
use Rattle.flat_forms.specs.Body.{dones, ends_frame}
use Rattle.flat_playable.specs.Playable.{is_playable, rise_from}
use Rattle.flat_base.proofs.lemmas.Tests.{and-left}
use Rattle.flat_rules.proofs.lemmas.FrameKinds.{not-finish}
use Rattle.flat_play.proofs.lemmas.Places.{rises}
use Rattle.flat_play.proofs.lemmas.Seen.{frames_more}
use Rattle.flat_play.proofs.lemmas.Unread.{rise_first, rise_later}

-- ---- lines whose numbers rise

-- the numbers of some lines rise from one on
abbrev Rises : {A : Type 0} → ℕ → List (ℕ × A) → Type 0
Rises n [] = Unit {0}
Rises n (one ∷ later) = (n < one.0) × Rises one.0 later

rises-below : {A : Type 0} (m n : ℕ) (xs : List (ℕ × A)) → m ≤ n → Rises n xs → Rises m xs
rises-below m n [] le rise = tt
rises-below m n (one ∷ later) le rise = let less = rise.0 in (omega (arith, less), rise.1)

all-above : {A : Type 0} (m n : ℕ) (xs : List (ℕ × A)) → m ≤ n → Rises n xs → filter (λ one. nat_lt m one.0) xs ≡ xs
all-above m n [] le rise = refl
all-above m n (one ∷ later) le rise =
    let less = rise.0 in
    let above : nat_lt m one.0 ≡ true = grind (arith, nat_tests, less) in
    rw above (ap (λ t. one ∷ t) (all-above m one.0 later (omega (arith, less)) rise.1))

first-of : {A : Type 0} (x one : A) (xs later : List A) → x ∷ xs ≡ one ∷ later → x ≡ one
first-of x one xs later is = cc

rest-of : {A : Type 0} (x one : A) (xs later : List A) → x ∷ xs ≡ one ∷ later → xs ≡ later
rest-of x one xs later is = cc

no-first : {A : Type 0} (one : A) (later : List A) → [] ≡ one ∷ later → ⊥
no-first one later is = cc

-- the first of those above a number is above what they rise from
first-above : {A : Type 0} (r m : ℕ) (xs : List (ℕ × A)) (one : ℕ × A) (later : List (ℕ × A)) → Rises r xs → filter (λ x. nat_lt m x.0) xs ≡ one ∷ later
    → r < one.0
first-above r m [] one later rise is = absurd (no-first one later is)
first-above {A} r m (x ∷ xs) one later rise is = by_test (nat_lt m x.0) is (first-above x.0 m xs one later rise.1)
  where
    by_test : (b : Bool) → cond b (x ∷ filter (λ x. nat_lt m x.0) xs) (filter (λ x. nat_lt m x.0) xs) ≡ one ∷ later
        → (filter (λ x. nat_lt m x.0) xs ≡ one ∷ later → x.0 < one.0) → r < one.0
    by_test true is' rest =
        let less = rise.0 in
        let same : x.0 ≡ one.0 = ap (λ (y : ℕ × A). y.0) (first-of x one _ later is') in
        omega (arith, less, same)
    by_test false is' rest = let less = rise.0 in let more = rest is' in omega (arith, less, more)

-- those above the first one's number follow it
next-above : {A : Type 0} (r m : ℕ) (xs : List (ℕ × A)) (one : ℕ × A) (later : List (ℕ × A)) → Rises r xs → filter (λ x. nat_lt m x.0) xs ≡ one ∷ later
    → filter (λ x. nat_lt one.0 x.0) xs ≡ later
next-above r m [] one later rise is = absurd (no-first one later is)
next-above {A} r m (x ∷ xs) one later rise is = by_test (nat_lt m x.0) refl is (next-above x.0 m xs one later rise.1)
  where
    by_test : (b : Bool) → nat_lt m x.0 ≡ b → cond b (x ∷ filter (λ x. nat_lt m x.0) xs) (filter (λ x. nat_lt m x.0) xs) ≡ one ∷ later
        → (filter (λ x. nat_lt m x.0) xs ≡ one ∷ later → filter (λ x. nat_lt one.0 x.0) xs ≡ later)
        → filter (λ x. nat_lt one.0 x.0) (x ∷ xs) ≡ later
    by_test true test is' rest =
        let same : x.0 ≡ one.0 = ap (λ (y : ℕ × A). y.0) (first-of x one _ later is') in
        let less : m < x.0 = grind (arith, nat_tests, test) in
        let gone : nat_lt one.0 x.0 ≡ false = grind (arith, nat_tests, same) in
        rw gone (all-above one.0 x.0 xs (omega (arith, same)) rise.1 ∙ sym (all-above m x.0 xs (omega (arith, less)) rise.1) ∙ rest-of x one _ later is')
    by_test false test is' rest =
        let more = first-above x.0 m xs one later rise.1 is' in
        let gone : nat_lt one.0 x.0 ≡ false = grind (arith, nat_tests, more) in
        rw gone (rest is')

-- ---- frames of the display's lines

-- how many of some lines end a frame
abbrev dones_in : List (ℕ × DisplayLine) → ℕ
dones_in [] = 0
dones_in (one ∷ later) = cond (is_finish (entry_of_display one.1)) 1 0 + dones_in later

-- how many of some entries do
abbrev finishes : List Entry → ℕ
finishes [] = 0
finishes (before ▹ entry) = finishes before + cond (is_finish entry.kind) 1 0

total : (f c c' d l u all : ℕ) → c ≡ c' → d ≡ l → u ≡ c' + l → f + u ≡ all → f + c + d ≡ all
total f c c' d l u all same rest here was = omega arith

one-entry : (before : List Entry) (entry : Entry) (lines left : List (ℕ × DisplayLine)) → Rises 0 lines → unread_lines before lines ≡ left
    → IsFirstLine left entry → finishes before + dones_in (unread_lines before lines) ≡ dones_in lines
    → finishes (before ▹ entry) + dones_in (unread_lines (before ▹ entry) lines) ≡ dones_in lines
one-entry before entry lines [] rise is first was = absurd first
one-entry before entry lines ((number, text) ∷ later) rise is first was =
    let rest : filter (λ x. nat_lt entry.line x.0) lines ≡ later =
    ap (λ m. filter (λ x. nat_lt m x.0) lines) first.line ∙ next-above 0 (last_line before) lines (number, text) later rise is in
    total (finishes before) (cond (is_finish entry.kind) 1 0) (cond (is_finish (entry_of_display text)) 1 0) (dones_in (unread_lines (before ▹ entry) lines))
    (dones_in later) (dones_in (unread_lines before lines)) (dones_in lines)
    (ap (λ k. cond (is_finish k) 1 0) first.kind) (ap dones_in rest) (ap dones_in is) was

counted : (lines : List (ℕ × DisplayLine)) (entries : List Entry) → Rises 0 lines → FollowsDisplay lines entries
    → finishes entries + dones_in (unread_lines entries lines) ≡ dones_in lines
counted lines [] rise follows = let same = ap dones_in (all-above 0 0 lines (omega arith) rise) in omega (arith, same)
counted lines (before ▹ entry) rise (follows, first) =
    one-entry before entry lines (unread_lines before lines) rise refl first (counted lines before rise follows)

-- ---- the lines of a script

rises-more : (n number : ℕ) (text : LineBody) (later : List (ℕ × DisplayLine)) → n < number → Rises number later → Rises n (display_line number text ++ later)
rises-more n number (body.Display text) later less rise = (less, rise)
rises-more n number (body.Session text) later less rise = rises-below n number later (omega arith) rise
rises-more n number (body.Probe text) later less rise = rises-below n number later (omega arith) rise

rises-display : (n : ℕ) (lines : List ScriptLine) → rise_from n lines ≡ true → Rises n (display_lines lines)
rises-display n [] rise = tt
rises-display n (next ∷ later) rise = rises-more n next.number next.body (display_lines later) (rise_first n next later rise)
    (rises-display next.number later (rise_later n next later rise))

same-done : (text : DisplayLine) → ends_frame (body.Display text) ≡ is_finish (entry_of_display text)
same-done (display.Begin time) = refl
same-done display.Done = refl
same-done (display.Signal f) = refl
same-done (display.Wait c) = refl
same-done (display.Hit x y) = refl
same-done (display.Dpr ratio) = refl

done-line : (number : ℕ) (text : LineBody) (later : List (ℕ × DisplayLine))
    → dones_in (display_line number text ++ later) ≡ cond (ends_frame text) 1 0 + dones_in later
done-line number (body.Display text) later = ap (λ b. cond b 1 0 + dones_in later) (sym (same-done text))
done-line number (body.Session text) later = sym (zero-add (dones_in later))
done-line number (body.Probe text) later = sym (zero-add (dones_in later))

count-more : {A : Type 0} (p : A → Bool) (x : A) (xs : List A) → count_by p (x ∷ xs) ≡ cond (p x) 1 0 + count_by p xs
count-more p x xs = grind (arith, common_steps)

dones-are : (lines : List ScriptLine) → count_by (λ l. ends_frame l.body) lines ≡ dones_in (display_lines lines)
dones-are [] = refl
dones-are (next ∷ later) =
    count-more (λ (l : ScriptLine). ends_frame l.body) next later ∙ ap (λ n. cond (ends_frame next.body) 1 0 + n) (dones-are later)
    ∙ sym (done-line next.number next.body (display_lines later))

-- ---- only the display finishes frames

abbrev number_of : Bool → ℕ
number_of b = cond b 1 0

-- how many frames an entry finishes, by who makes it
one-more : (setup : Setup) (k : EntryKind) (actor : Actor) → may_act setup k actor ≡ true
    → cond (is_display actor) (number_of (is_finish k)) 0 ≡ number_of (is_finish k)
one-more setup k Display may = refl
one-more setup k (Session s) may = ap number_of (sym (not-finish k (and-left (session_may k) _ may)))
one-more setup k (Probe p) may = absurd (let e : false ≡ true = may in cc)

finishes-more : (b : Bool) (before : List Entry) (entry : Entry)
    → finishes (cond b (entry ∷ by_display before) (by_display before)) ≡ finishes (by_display before) + cond b (cond (is_finish entry.kind) 1 0) 0
finishes-more true before entry = refl
finishes-more false before entry = omega arith

frames-are : (setup : Setup) (history : List Entry) → Legal setup history → frames history ≡ finishes (by_display history)
frames-are setup [] legal = refl
frames-are setup (before ▹ entry) (legal, last) =
    frames_more before entry (is_finish entry.kind) refl ∙ ap (λ n. n + cond (is_finish entry.kind) 1 0) (frames-are setup before legal)
    ∙ ap (λ n. finishes (by_display before) + n) (sym (one-more setup entry.kind entry.actor last.may.acts))
    ∙ sym (finishes-more (is_display entry.actor) before entry)

all-finished : (f u n : ℕ) → f + u ≡ n → u ≡ 0 → f ≡ n
all-finished f u n is none = omega arith

-- a run of a script finishes as many frames as the script has
pub frames-done : (script : Script) (history : List Entry) → is_playable script ≡ true → Legal script.setup history
    → Interleaves script.setup script.count script.lines history → frames history ≡ dones script
frames-done script history playable legal interleaves =
    let lines = display_lines script.lines in
    let rise : Rises 0 lines = rises-display 0 script.lines (rises script playable) in
    frames-are script.setup history legal
    ∙ all-finished (finishes (by_display history)) (dones_in (unread_lines (by_display history) lines)) (dones_in lines)
    (counted lines (by_display history) rise interleaves.display) (ap dones_in interleaves.all_read)
    ∙ sym (dones-are script.lines)
