-- Pointers' lines beside a script.
use Rattle.std.proofs.Common.{◌≡◌, ℕ, ◌+◌, ◌<◌, ◌≤◌, Bool, true, false, cond, ◌&&◌, nat_lt, nat_le, List, [], ◌∷◌, ◌++◌, length, map, take, drop, refl, sym, ap}
use Rattle.std.proofs.Common.{◌∙◌, subst, arith, append_assoc, zero-add, get_or, Some, slice_get}
use Rattle.std.specs.Prelude.{take_while}
use Rattle.std.specs.List.{list_all}
use Rattle.std.proofs.lemmas.Bool.Decides.{nat_tests}
use Rattle.std.proofs.lemmas.List.{map-append, take_more, take-append-drop}
use Rattle.std.proofs.lemmas.List.Sums.{take_while-cons}
use Rattle.flat_base.proofs.lemmas.Tests.{and-left, and-right, and-true, all-also}
use Rattle.flat_rules.proofs.lemmas.AllOrSome.{all-append}
use Rattle.flat_scene.specs.declared.journal.Entry.{Entry}
use Rattle.flat_scene.specs.declared.journal.EntryKind.{EntryKind}
use Rattle.flat_scene.specs.declared.journal.EntryKind.TheVariants.{Finish}
use Rattle.flat_scene.specs.declared.setup.Setup.{Setup}
use Rattle.flat_scene.specs.History.{◌▹◌, is_end, is_finish}
use Rattle.flat_rules.specs.Ends.{to_finished}
use Rattle.flat_rules.specs.Legal.{frames}
use Rattle.flat_scene.specs.Frames.{setup_at}
use Rattle.flat_rules.specs.Shown.{shown_states}
use Rattle.flat_report.proofs.lemmas.ProbeSteps.{begin-stays}
use Rattle.flat_report.specs.Report.{begin_of}
use Rattle.flat_topology.specs.Hits.{hit_list}
use Rattle.flat_topology.specs.Shown.{Shown}
use Rattle.flat_pointer.specs.declared.text.PointerCall.{PointerCall}
use Rattle.flat_pointer.specs.declared.text.PointerCall.TheVariants.{Down, Move, Up}
use Rattle.flat_pointer.specs.declared.text.PointerLine.{PointerLine}
use Rattle.flat_pointer.specs.declared.text.PointerTouch.{PointerTouch}
use Rattle.flat_base.specs.declared.ids.Actor.{Actor}
use Rattle.flat_scene.specs.declared.calls.Call.{Call}
use Rattle.flat_scene.specs.declared.journal.Reply.{Reply}
use Rattle.flat_scene.specs.declared.script.ScriptLine.{ScriptLine}
use Rattle.flat_core.specs.Machines.{Machine, entered, entry_of}
use Rattle.flat_play.proofs.lemmas.Seen.{last-begin}
use Rattle.flat_play.proofs.lemmas.Growing.{Grows}
use Rattle.flat_play.proofs.lemmas.Growing as grow
use Rattle.flat_pointer.specs.Lines.{rise_after}
use Rattle.flat_play.specs.Touches.{frames_before, call_hits, touch_of}
use Rattle.flat_play.specs.Touching.{enters, stays, hits_in, touch_in, GoesOnAt, GoesOnByEnds, AnswersUpto, AreAnswered}

-- ---- lists

module _ {A : Type 0} where
  -- a list, cut where a test first fails
  cut-all : (p : A → Bool) (xs : List A) → list_all p (take (length (take_while p xs)) xs) ≡ true
  cut-all p [] = refl
  cut-all p (x ∷ xs) =
      let P : List A → Type 0 = λ ys. list_all p (take (length ys) (x ∷ xs)) ≡ true in
      subst P (sym (take_while-cons p x xs)) (by (p x) refl (cut-all p xs))
    where
      by : (b : Bool) → p x ≡ b → list_all p (take (length (take_while p xs)) xs) ≡ true
          → list_all p (take (length (cond b (x ∷ take_while p xs) [])) (x ∷ xs)) ≡ true
      by true is rest = and-true is rest
      by false is rest = refl

-- two maps agree where they agree on all of which a test holds
map-agrees : {A B : Type 0} (p : A → Bool) (f g : A → B) → ((x : A) → p x ≡ true → f x ≡ g x) → (xs : List A) → list_all p xs ≡ true → map f xs ≡ map g xs
map-agrees p f g agree [] all = refl
map-agrees p f g agree (x ∷ xs) all = λ i. agree x (and-left (p x) (list_all p xs) all) i ∷ map-agrees p f g agree xs (and-right (p x) (list_all p xs) all) i

-- ---- numbers of frames

-- no more frames were finished before a line than in all
few-before : (n : ℕ) (history : List Entry) → frames_before n history ≤ frames history
few-before n [] = omega arith
few-before n (before ▹ entry) = by (is_finish entry.kind) refl (nat_lt entry.line n) refl (few-before n before)
  where
    by : (b : Bool) → is_finish entry.kind ≡ b → (early : Bool) → nat_lt entry.line n ≡ early → frames_before n before ≤ frames before
        → frames_before n (before ▹ entry) ≤ frames (before ▹ entry)
    by true is true less few = rw (is, less) (omega (arith, few))
    by true is false less few = rw (is, less) (omega (arith, few))
    by false is early less few = rw is (omega (arith, few))

-- behind all entries, all frames are finished
pub all-before : (last n : ℕ) → last < n → (history : List Entry) → list_all (λ entry. nat_le entry.line last) history ≡ true
    → frames_before n history ≡ frames history
all-before last n less [] early = refl
all-before last n less (before ▹ entry) early =
    let line : nat_le entry.line last ≡ true = and-left (nat_le entry.line last) _ early in
    let below : entry.line < n = let le : entry.line ≤ last = grind (arith, nat_tests) in omega (arith, le, less) in
    let is : nat_lt entry.line n ≡ true = grind (arith, nat_tests) in
    by (is_finish entry.kind) refl is (all-before last n less before (and-right (nat_le entry.line last) _ early))
  where
    by : (b : Bool) → is_finish entry.kind ≡ b → nat_lt entry.line n ≡ true → frames_before n before ≡ frames before
        → frames_before n (before ▹ entry) ≡ frames (before ▹ entry)
    by true finish less_is same = rw (finish, less_is) (omega (arith, same))
    by false finish less_is same = rw finish (omega (arith, same))

-- ---- whom a line hits

module _ (setup : Setup) where
  by_call : (there : Setup) (shown : Shown) (begun : List Entry) → there ≡ setup_at setup begun → shown ≡ shown_states setup begun → (call : PointerCall)
      → hits_in there shown call ≡ call_hits setup begun call
  by_call there shown begun at is (Down x y) = λ i. hit_list (at i) (is i) x y
  by_call there shown begun at is (Move x y) = refl
  by_call there shown begun at is Up = refl

  -- a line behind all entries is answered by the last finished frame
  touched-last : (there : Setup) (shown : Shown) (last : ℕ) (history : List Entry) (line : PointerLine) → there ≡ setup_at setup (to_finished history)
      → shown ≡ shown_states setup (to_finished history)
      → list_all (λ entry. nat_le entry.line last) history ≡ true → last < line.number → touch_in there shown line ≡ touch_of setup history line
  touched-last there shown last history line at is early less =
      let begun : begin_of (frames_before line.number history) history ≡ to_finished history =
      ap (λ n. begin_of n history) (all-before last line.number less history early) ∙ last-begin history in
      λ i. record { line = line; hits = (by_call there shown (to_finished history) at is line.call ∙ ap (λ b. call_hits setup b line.call) (sym begun)) i }

  -- an entry that finishes no frame before the line
  touched-entry : (before : List Entry) (entry : Entry) (line : PointerLine) → (is_finish entry.kind && nat_lt entry.line line.number) ≡ false
      → touch_of setup (before ▹ entry) line ≡ touch_of setup before line
  touched-entry before entry line late =
      let same : frames_before line.number (before ▹ entry) ≡ frames_before line.number before =
      ap (λ b. cond b 1 0 + frames_before line.number before) late ∙ zero-add (frames_before line.number before) in
      let begun : begin_of (frames_before line.number (before ▹ entry)) (before ▹ entry) ≡ begin_of (frames_before line.number before) before =
      ap (λ n. begin_of n (before ▹ entry)) same ∙ begin-stays (frames_before line.number before) before entry (few-before line.number before) in
      λ i. record { line = line; hits = call_hits setup (begun i) line.call }

  touched-on : (number : ℕ) (old new : List Entry) → GoesOnAt number old new → (line : PointerLine) → nat_le line.number number ≡ true
      → touch_of setup old line ≡ touch_of setup new line
  touched-on number old new (stays is) line upto = ap (λ h. touch_of setup h line) (sym is)
  touched-on number old new (enters entry at is) line upto =
      let late : nat_lt entry.line line.number ≡ false = grind (arith, nat_tests) in
      sym (ap (λ h. touch_of setup h line) is ∙ touched-entry old entry line (by (is_finish entry.kind) late))
    where
      by : (b : Bool) → nat_lt entry.line line.number ≡ false → (b && nat_lt entry.line line.number) ≡ false
      by true late = late
      by false late = refl

  pub no-finish : (kind : EntryKind) → is_end kind ≡ true → is_finish kind ≡ false
  no-finish Finish end = absurd (let f : false ≡ true = end in cc)
  no-finish _ end = refl

  touched-ends : (ends old : List Entry) → list_all (λ entry. is_end entry.kind) ends ≡ true → (line : PointerLine)
      → touch_of setup (ends ++ old) line ≡ touch_of setup old line
  touched-ends [] old all line = refl
  touched-ends (entry ∷ later) old all line =
      touched-entry (later ++ old) entry line (ap (λ b. b && nat_lt entry.line line.number) (no-finish entry.kind (and-left (is_end entry.kind) _ all)))
      ∙ touched-ends later old (and-right (is_end entry.kind) _ all) line

-- ---- lines that come next

abbrev is_upto : ℕ → PointerLine → Bool
is_upto number line = nat_le line.number number

-- behind lines up to one, the later ones rise after it
rest-rises : (number : ℕ) (lines : List PointerLine) (from : ℕ) → rise_after from lines ≡ true
    → rise_after number (drop (length (take_while (is_upto number) lines)) lines) ≡ true
rest-rises number [] from rise = refl
rest-rises number (line ∷ later) from rise =
    let P : List PointerLine → Type 0 = λ ys. rise_after number (drop (length ys) (line ∷ later)) ≡ true in
    subst P (sym (take_while-cons (is_upto number) line later))
    (by (nat_le line.number number) refl (rest-rises number later line.number (and-right (nat_lt from line.number) _ rise)))
  where
    by : (b : Bool) → nat_le line.number number ≡ b → rise_after number (drop (length (take_while (is_upto number) later)) later) ≡ true
        → rise_after number (drop (length (cond b (line ∷ take_while (is_upto number) later) [])) (line ∷ later)) ≡ true
    by true is rest = rest
    by false is rest = and-true (let more : nat_lt number line.number ≡ true = grind (arith, nat_tests) in more) (and-right (nat_lt from line.number) _ rise)

pub answers-upto : (setup : Setup) (shown : Shown) (number : ℕ) (lines early later : List PointerLine) (old new : List PointerTouch) (count : ℕ)
    → count ≡ length (take_while (is_upto number) lines)
    → early ≡ take count lines → later ≡ drop count lines → new ≡ old ++ map (touch_in setup shown) early → AnswersUpto setup shown number lines later old new
answers-upto setup shown number lines early later old new count count_is early_is later_is touches =
    let n : ℕ = length (take_while (is_upto number) lines) in
    let front : early ≡ take n lines = early_is ∙ ap (λ k. take k lines) count_is in
    let back : later ≡ drop n lines = later_is ∙ ap (λ k. drop k lines) count_is in
    record {
      early = early;
      parts = sym (take-append-drop n lines) ∙ (λ i. sym front i ++ sym back i);
      up_to = ap (list_all (is_upto number)) front ∙ cut-all (is_upto number) lines;
      rest = λ from rise. ap (rise_after number) back ∙ rest-rises number lines from rise;
      touches = touches;
    }

-- ---- the run

pub answered-none : (setup : Setup) (lines : List PointerLine) (history : List Entry) (found : List PointerTouch) → history ≡ [] → found ≡ []
    → rise_after 0 lines ≡ true
    → AreAnswered setup history 0 lines lines found
answered-none setup lines history found none found_none rise = record {
  answered = [];
  parts = refl;
  touches = found_none;
  up_to = refl;
  after = rise;
  entries = ap (list_all (λ entry. nat_le entry.line 0)) none;
}

abbrev is_after : ℕ → PointerLine → Bool
is_after from line = nat_lt from line.number

-- lines that rise after one all come after it
all-after : (from : ℕ) (lines : List PointerLine) → rise_after from lines ≡ true → list_all (is_after from) lines ≡ true
all-after from [] rise = refl
all-after from (line ∷ later) rise =
    let first : nat_lt from line.number ≡ true = and-left (nat_lt from line.number) _ rise in
    and-true first (all-also (is_after line.number) (is_after from)
    (λ one more. let test : nat_lt from one.number ≡ true = grind (arith, nat_tests) in test) later
    (all-after line.number later (and-right (nat_lt from line.number) _ rise)))

module _ (setup : Setup) (history : List Entry) (last : ℕ) (lines left : List PointerLine) (found : List PointerTouch) (there : Setup) (shown : Shown)
    (answered : AreAnswered setup history last lines left found) (at : there ≡ setup_at setup (to_finished history))
    (shows : shown ≡ shown_states setup (to_finished history)) where
  -- lines after the last one are answered by the last finished frame
  next-touches : (early : List PointerLine) → list_all (is_after last) early ≡ true → map (touch_in there shown) early ≡ map (touch_of setup history) early
  next-touches early after = map-agrees (is_after last) (touch_in there shown) (touch_of setup history)
      (λ line more. touched-last setup there shown last history line at shows answered.entries
      (let less : last < line.number = grind (arith, nat_tests) in less)) early after

  all-left : list_all (is_after last) left ≡ true
  all-left = all-after last left answered.after

  first-of : (early later : List PointerLine) → left ≡ early ++ later → list_all (is_after last) early ≡ true
  first-of early later parts = split early (ap (list_all (is_after last)) (sym parts) ∙ all-left)
    where
      split : (xs : List PointerLine) → list_all (is_after last) (xs ++ later) ≡ true → list_all (is_after last) xs ≡ true
      split [] all = refl
      split (x ∷ xs) all = and-true (and-left (nat_lt last x.number) _ all) (split xs (and-right (nat_lt last x.number) _ all))

  -- one more line of the script
  pub answered-more : (number : ℕ) (later : List PointerLine) (found' : List PointerTouch) (history' : List Entry) → last < number
      → AnswersUpto there shown number left later found found'
      → GoesOnAt number history history' → AreAnswered setup history' number lines later found'
  answered-more number later found' history' above answers on =
      let now : List PointerLine = answered.answered ++ answers.early in
      let all_upto : list_all (is_upto number) now ≡ true =
      all-append (is_upto number) answered.answered answers.early
      (all-also (is_upto last) (is_upto number) (λ line le. let test : nat_le line.number number ≡ true = grind (arith, nat_tests) in test) answered.answered
      answered.up_to)
      answers.up_to in
      record {
        answered = now;
        parts = answered.parts ∙ ap (λ ps. answered.answered ++ ps) answers.parts ∙ sym (append_assoc answered.answered answers.early later);
        touches = answers.touches ∙ (λ i. answered.touches i ++ next-touches answers.early (first-of answers.early later answers.parts) i)
            ∙ sym (map-append (touch_of setup history) answered.answered answers.early)
            ∙ map-agrees (is_upto number) (touch_of setup history) (touch_of setup history') (λ line le. touched-on setup number history history' on line le)
            now all_upto;
        up_to = all_upto;
        after = answers.rest last answered.after;
        entries = entries history' on;
      }
    where
      still : list_all (λ (entry : Entry). nat_le entry.line number) history ≡ true
      still = all-also (λ (entry : Entry). nat_le entry.line last) (λ (entry : Entry). nat_le entry.line number)
          (λ entry le. let test : nat_le entry.line number ≡ true = grind (arith, nat_tests) in test) history answered.entries

      entries : (h : List Entry) → GoesOnAt number history h → list_all (λ (entry : Entry). nat_le entry.line number) h ≡ true
      entries h (stays is) = ap (list_all (λ (entry : Entry). nat_le entry.line number)) is ∙ still
      entries h (enters entry at is) = ap (list_all (λ (one : Entry). nat_le one.line number)) is
          ∙ and-true (let test : nat_le entry.line number ≡ true = grind (arith, nat_tests) in test) still

  -- the lines that are left, behind all lines of the script
  pub answered-all : (found' : List PointerTouch) → found' ≡ found ++ map (touch_in there shown) left → found' ≡ map (touch_of setup history) lines
  answered-all found' is =
      is ∙ (λ i. answered.touches i ++ next-touches left all-left i) ∙ sym (map-append (touch_of setup history) answered.answered left)
      ∙ ap (map (touch_of setup history)) (sym answered.parts)

-- behind the Ends of all sessions
pub answered-ended : (setup : Setup) (old new : List Entry) (lines : List PointerLine) (found : List PointerTouch) → GoesOnByEnds old new
    → found ≡ map (touch_of setup old) lines → found ≡ map (touch_of setup new) lines
answered-ended setup old new lines found on touches = touches ∙ map-same lines
  where
    map-same : (ps : List PointerLine) → map (touch_of setup old) ps ≡ map (touch_of setup new) ps
    map-same [] = refl
    map-same (p ∷ ps) = λ i. (sym (ap (λ h. touch_of setup h p) on.is ∙ touched-ends setup on.ends old on.are_ends p)) i ∷ map-same ps i

-- ---- how a history goes on

pub no-ends : (history : List Entry) → GoesOnByEnds history history
no-ends history = record { ends = []; is = refl; are_ends = refl }

pub one-end-more : (first old new : List Entry) (entry : Entry) → is_end entry.kind ≡ true → new ≡ (old ▹ entry) → GoesOnByEnds first old
    → GoesOnByEnds first new
one-end-more first old new entry end is on = record {
  ends = entry ∷ on.ends;
  is = is ∙ ap (λ h. h ▹ entry) on.is;
  are_ends = and-true end on.are_ends;
}

pub ends-then : (first old new : List Entry) → GoesOnByEnds first old → GoesOnByEnds old new → GoesOnByEnds first new
ends-then first old new begun on = record {
  ends = on.ends ++ begun.ends;
  is = on.is ∙ ap (λ h. on.ends ++ h) begun.is ∙ sym (append_assoc on.ends begun.ends first);
  are_ends = all-append (λ (entry : Entry). is_end entry.kind) on.ends begun.ends on.are_ends begun.are_ends;
}

pub entered-on : (old new : Machine) (who : Actor) (number : ℕ) (carries : List Call) (kind : EntryKind) (reply : Reply)
    → new ≡ entered old who number carries kind reply → GoesOnAt number old.history new.history
entered-on old new who number carries kind reply is = enters (entry_of who number carries kind reply) refl (ap (λ (m : Machine). m.history) is)

pub grown-on : (old new : Machine) (who : Actor) (number : ℕ) → Grows old new who number → GoesOnAt number old.history new.history
grown-on old new who number (grow.stays is) = stays (ap (λ (m : Machine). m.history) is)
grown-on old new who number (grow.grows carries kind reply calm is) = entered-on old new who number carries kind reply is

same-some : (x y : ScriptLine) → Some x ≡ Some y → x ≡ y
same-some x y e = cc

-- the line at a place is one
pub line-on : (number : ℕ) (old new : List Entry) (all : List ScriptLine) (place : ℕ) (x line : ScriptLine) → slice_get all place ≡ Some x
    → slice_get all place ≡ Some line
    → number ≡ x.number → GoesOnAt number old new → GoesOnAt line.number old new
line-on number old new all place x line at same is on =
    let one : x ≡ line = same-some x line (sym at ∙ same) in
    let P : ℕ → Type 0 = λ n. GoesOnAt n old new in
    subst P (is ∙ ap (λ (l : ScriptLine). l.number) one) on

-- a loop over items that puts one behind others for each
pub mapped-more : {A B : Type 0} (f : A → B) (xs : List A) (i : ℕ) (d : A) (one : B) (old found new : List B) → i < length xs → found ≡ old ++ map f (take i xs)
    → one ≡ f (get_or xs i d) → new ≡ found ++ one ∷ []
    → new ≡ old ++ map f (take (i + 1) xs)
mapped-more f xs i d one old found new within was is push =
    push ∙ (λ k. was k ++ is k ∷ []) ∙ append_assoc old (map f (take i xs)) (f (get_or xs i d) ∷ [])
    ∙ ap (λ (ys : List _). old ++ ys) (sym (ap (map f) (take_more xs i d within) ∙ map-append f (take i xs) (get_or xs i d ∷ [])))
