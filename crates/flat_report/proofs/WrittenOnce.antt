-- A script has one history in written order: of two, each next entry is the same.
use Rattle.std.proofs.Common.{◌≡◌, ℕ, zero, suc, ◌+◌, ◌<◌, ◌≤◌, ◌==◌, Bool, true, false, cond, ◌&&◌, not, List, [], ◌∷◌, ◌++◌, reverse, map, slice_index, refl}
use Rattle.std.proofs.Common.{subst, sym, ap, ◌∙◌, arith, append-nil}
use Rattle.std.specs.List.{AllByRecursion, list_any}
use Rattle.std.specs.List.Sorted.{IsStrictlyIncreasing}
use Rattle.std.proofs.lemmas.Bool.{and_parts, eq-eqb, eqb-true}
use Rattle.std.proofs.lemmas.Bool.Decides.{nat_tests}
use Rattle.std.proofs.lemmas.List.{reverse-reverse}
use Rattle.flat_base.specs.declared.ids.Actor.{Actor}
use Rattle.flat_base.specs.declared.ids.Actor.TheVariants.{Display, Session, Probe}
use Rattle.flat_base.specs.declared.ids.SessionNo.{SessionNo}
use Rattle.flat_scene.specs.declared.journal.Entry.{Entry}
use Rattle.flat_scene.specs.declared.script.DisplayLine.{DisplayLine}
use Rattle.flat_scene.specs.declared.script.ScriptLine.{ScriptLine}
use Rattle.flat_scene.specs.declared.setup.Setup.{Setup}
use Rattle.flat_scene.specs.Frames.{sessions_to}
use Rattle.flat_scene.specs.History.{◌▹◌, own, is_end, is_session, is_display}
use Rattle.flat_scene.specs.Interleave.{Interleaves, IsFirstLine, IsNext, IsReading, IsWritten, by_display, display_lines, is_ended_once, next_of}
use Rattle.flat_scene.specs.Interleave.{session_lines, unread_lines}
use Rattle.flat_scene.specs.Setups.{is_declared}
use Rattle.flat_rules.specs.Legal.{Legal, session_may}
use Rattle.flat_report.specs.Laws.{WrittenHistoriesAreOne}
use Rattle.flat_report.proofs.lemmas.Tails.{onto, onto-append, onto-reverse}
use Rattle.flat_report.proofs.lemmas.Turns.{Stands, stands, stood, one-more, session-at, session-next, display-next, same-first, acts-at, no-probe}

no_both : {P : Type 0} (b : Bool) → b ≡ false → b ≡ true → P
no_both b false_it_is true_it_is = absurd (let wrong : false ≡ true = sym false_it_is ∙ true_it_is in cc)

-- ---- lists of entries

abbrev NoEnds : List Entry → Type 0
NoEnds = AllByRecursion (λ entry. is_end entry.kind ≡ false)

abbrev AreEnds : List Entry → Type 0
AreEnds = AllByRecursion (λ entry. is_end entry.kind ≡ true)

abbrev AreOfSessions : List Entry → Type 0
AreOfSessions = AllByRecursion (λ entry. is_display entry.actor ≡ false)

-- the lines of entries rise, from above a number
abbrev RisesFrom : ℕ → List Entry → Type 0
RisesFrom m [] = Unit {0}
RisesFrom m (x ∷ xs) = (m < x.line) × RisesFrom x.line xs

abbrev Rises : List Entry → Type 0
Rises [] = Unit {0}
Rises (x ∷ xs) = RisesFrom x.line xs

rises-later : (m : ℕ) (xs : List Entry) → RisesFrom m xs → Rises xs
rises-later m [] rises = tt
rises-later m (x ∷ xs) rises = rises.1

abbrev lines_of : List Entry → List ℕ
lines_of = map (λ entry. entry.line)

rise-later : (x : ℕ) (xs : List ℕ) → IsStrictlyIncreasing (x ∷ xs) → IsStrictlyIncreasing xs
rise-later x xs rise k within =
    let next : suc k + 1 ≡ suc (k + 1) = omega arith in
    subst (λ (n : ℕ). slice_index (x ∷ xs) (suc k) < slice_index (x ∷ xs) n) next (rise (suc k) (omega (arith, within)))

rises-on : (x : Entry) (xs : List Entry) → IsStrictlyIncreasing (lines_of (x ∷ xs)) → RisesFrom x.line xs
rises-on x [] rise = tt
rises-on x (y ∷ ys) rise = (rise 0 (omega arith), rises-on y ys (rise-later x.line (lines_of (y ∷ ys)) rise))

rises-all : (xs : List Entry) → IsStrictlyIncreasing (lines_of xs) → Rises xs
rises-all [] rise = tt
rises-all (x ∷ xs) rise = rises-on x xs rise

own-mine : (s : SessionNo) (before : List Entry) (x : Entry) → is_session s x.actor ≡ true → own s (before ▹ x) ≡ (own s before ▹ x)
own-mine s before x mine = ap (λ (b : Bool). cond b (own s before ▹ x) (own s before)) mine

own-other : (s : SessionNo) (before : List Entry) (x : Entry) → is_session s x.actor ≡ false → own s (before ▹ x) ≡ own s before
own-other s before x other = ap (λ (b : Bool). cond b (own s before ▹ x) (own s before)) other

display-other : (before : List Entry) (x : Entry) → is_display x.actor ≡ false → by_display (before ▹ x) ≡ by_display before
display-other before x other = ap (λ (b : Bool). cond b (by_display before ▹ x) (by_display before)) other

not-ended : (s : SessionNo) (h : List Entry) → NoEnds h → is_ended_once (own s h) ≡ false
not-ended s [] none = refl
not-ended s (h ▹ x) none = by_actor (is_session s x.actor) (not-ended s h none.1)
  where
    by_actor : (b : Bool) → is_ended_once (own s h) ≡ false → is_ended_once (cond b (own s h ▹ x) (own s h)) ≡ false
    by_actor true earlier = ap (λ (c : Bool). c && not (list_any (λ (older : Entry). is_end older.kind) (own s h))) none.0
    by_actor false earlier = earlier

-- ---- who acts

-- whether the second actor is the first
abbrev is_of : Actor → Actor → Bool
is_of (Session s) actor = is_session s actor
is_of Display actor = is_display actor
is_of (Probe p) actor = false

is-of-same : (a b : Actor) → is_of a b ≡ true → a ≡ b
is-of-same (Session s) (Session t) is = ap (λ (n : ℕ). Session (record { 0 = n })) (sym (eqb-true t.0 s.0 is))
is-of-same (Session s) Display is = absurd (let wrong : false ≡ true = is in cc)
is-of-same (Session s) (Probe p) is = absurd (let wrong : false ≡ true = is in cc)
is-of-same Display Display is = refl
is-of-same Display (Session t) is = absurd (let wrong : false ≡ true = is in cc)
is-of-same Display (Probe p) is = absurd (let wrong : false ≡ true = is in cc)
is-of-same (Probe p) b is = absurd (let wrong : false ≡ true = is in cc)

is-of-turned : (a b : Actor) → is_of a b ≡ false → is_of b a ≡ false
is-of-turned (Session s) (Session t) is = grind (arith, nat_tests, is)
is-of-turned (Session s) Display is = refl
is-of-turned (Session s) (Probe p) is = refl
is-of-turned Display Display is = is
is-of-turned Display (Session t) is = refl
is-of-turned Display (Probe p) is = refl
is-of-turned (Probe p) (Session t) is = refl
is-of-turned (Probe p) Display is = refl
is-of-turned (Probe p) (Probe q) is = refl

is-display : (a : Actor) → is_display a ≡ true → a ≡ Display
is-display Display is = refl
is-display (Session s) is = absurd (let wrong : false ≡ true = is in cc)
is-display (Probe p) is = absurd (let wrong : false ≡ true = is in cc)

-- ---- the sessions in order

-- numbers that rise from above one to another
abbrev Between : ℕ → ℕ → List SessionNo → Type 0
Between m n [] = m ≤ n
Between m n (s ∷ ss) = (m < s.0) × Between s.0 n ss

between-more : (m n : ℕ) (ss : List SessionNo) → Between m n ss → Between m (suc n) (ss ++ (record { 0 = suc n }) ∷ [])
between-more m n [] low = (omega (arith, low), omega arith)
between-more m n (s ∷ ss) between = (between.0, between-more s.0 n ss between.1)

between : (n : ℕ) → Between 0 n (sessions_to n)
between zero = omega arith
between (suc n) = between-more 0 n (sessions_to n) (between n)

between-top : (m n : ℕ) (ss : List SessionNo) → Between m n ss → m ≤ n
between-top m n [] low = low
between-top m n (s ∷ ss) between = let later = between-top s.0 n ss between.1 in omega (arith, later, between.0)

abbrev actors : List Entry → List Actor
actors = map (λ entry. entry.actor)

first-actor : (x : Entry) (xs : List Entry) (a : Actor) (others : List Actor) → actors (x ∷ xs) ≡ a ∷ others → x.actor ≡ a
first-actor x xs a others is = cc

rest-actors : (x : Entry) (xs : List Entry) (a : Actor) (others : List Actor) → actors (x ∷ xs) ≡ a ∷ others → actors xs ≡ others
rest-actors x xs a others is = cc

of-sessions : (xs : List Entry) (ss : List SessionNo) → actors xs ≡ map Session ss → AreOfSessions xs
of-sessions [] ss is = tt
of-sessions (x ∷ xs) [] is = absurd (cc)
of-sessions (x ∷ xs) (t ∷ ss) is = (
  ap is_display (first-actor x xs (Session t) (map Session ss) is),
  of-sessions xs ss (rest-actors x xs (Session t) (map Session ss) is),
)

-- entries of later sessions are none of this one
none-later : (s : SessionNo) (k n : ℕ) (xs : List Entry) (ss : List SessionNo) (before : List Entry) → actors xs ≡ map Session ss → s.0 ≤ k → Between k n ss
    → own s (onto before xs) ≡ own s before
none-later s k n [] ss before is low rise = refl
none-later s k n (x ∷ xs) [] before is low rise = absurd (cc)
none-later s k n (x ∷ xs) (t ∷ ss) before is low rise =
    let here : x.actor ≡ Session t = first-actor x xs (Session t) (map Session ss) is in
    let apart : (t.0 == s.0) ≡ false = (let less : s.0 < t.0 = omega (arith, low, rise.0) in grind (arith, nat_tests, less)) in
    let other : is_session s x.actor ≡ false = ap (is_session s) here ∙ apart in
    none-later s t.0 n xs ss (before ▹ x) (rest-actors x xs (Session t) (map Session ss) is) (omega (arith, low, rise.0)) rise.1 ∙ own-other s before x other

-- where each session ended, entries of all sessions in order, which stand last, are their Ends
ends-are : (setup : Setup) (k : ℕ) (xs : List Entry) (ss : List SessionNo) (before : List Entry) → actors xs ≡ map Session ss → Between k setup.sessions ss
    → ((s : SessionNo) → is_declared setup s ≡ true → is_ended_once (own s (onto before xs)) ≡ true) → AreEnds xs
ends-are setup k [] ss before is rise ended = tt
ends-are setup k (x ∷ xs) [] before is rise ended = absurd (cc)
ends-are setup k (x ∷ xs) (t ∷ ss) before is rise ended =
    let here : x.actor ≡ Session t = first-actor x xs (Session t) (map Session ss) is in
    let rest = rest-actors x xs (Session t) (map Session ss) is in
    let alone : own t (onto (before ▹ x) xs) ≡ own t (before ▹ x) = none-later t t.0 setup.sessions xs ss (before ▹ x) rest (omega arith) rise.1 in
    let mine : own t (before ▹ x) ≡ (own t before ▹ x) = own-mine t before x (ap (is_session t) here ∙ eq-eqb t.0 t.0 refl) in
    let top = between-top t.0 setup.sessions ss rise.1 in
    let some : 1 ≤ t.0 = omega (arith, rise.0) in
    let declared : is_declared setup t ≡ true = grind (arith, nat_tests, top, some) in
    let once : is_ended_once (own t before ▹ x) ≡ true = subst (λ (h : List Entry). is_ended_once h ≡ true) (alone ∙ mine) (ended t declared) in (
      (and_parts (is_end x.kind) (not (list_any (λ (older : Entry). is_end older.kind) (own t before))) once).0,
      ends-are setup t.0 xs ss (before ▹ x) rest rise.1 ended,
    )

module _ (setup : Setup) (count : ℕ) (lines : List ScriptLine) where
  -- the next entry of a session after some entries
  abbrev IsNextOf : SessionNo → List Entry → Entry → Type 0
  IsNextOf s before e = IsNext (next_of setup count (own s before) (session_lines s lines)) e

  -- the next entry of the display
  abbrev IsNextShown : List Entry → Entry → Type 0
  IsNextShown before e = IsFirstLine (unread_lines (by_display before) (display_lines lines)) e

  abbrev StandsHere : List Entry → Type 0
  StandsHere history = Stands setup count lines history

  -- ---- a session's next entry

  -- behind Ends alone comes none that is no End
  end-next : (s : SessionNo) (e : Entry) (before ends : List Entry) → is_declared setup s ≡ true → is_end e.kind ≡ false → is_ended_once (own s before) ≡ false
      → AreEnds ends
      → IsNextOf s before e → StandsHere (onto before ends) → is_ended_once (own s (onto before ends)) ≡ true → ⊥
  end-next s e before [] declared kind unended are next standing ended = no_both (is_ended_once (own s before)) unended ended
  end-next s e before (x ∷ ends) declared kind unended are next standing ended =
      by_actor (is_session s x.actor) refl
      (λ other. end-next s e (before ▹ x) ends declared kind
      (subst (λ (h : List Entry). is_ended_once h ≡ false) (sym (own-other s before x other)) unended) are.1
      (subst (λ (h : List Entry). IsNext (next_of setup count h (session_lines s lines)) e) (sym (own-other s before x other)) next) standing ended)
    where
      by_actor : (b : Bool) → is_session s x.actor ≡ b → (is_session s x.actor ≡ false → ⊥) → ⊥
      by_actor true mine further =
          let here : IsNextOf s before x = session-next setup count lines s before x mine
          ((stood setup count lines (before ▹ x) ends standing).sessions s declared) in
          no_both (is_end e.kind) kind (ap is_end (next.kind ∙ sym here.kind) ∙ are.0)
      by_actor false other further = further other

  -- it stands on a line above that from which the others rise
  later-session : (s : SessionNo) (e : Entry) (m : ℕ) (before rising ends : List Entry) → is_declared setup s ≡ true → is_end e.kind ≡ false
      → is_ended_once (own s before) ≡ false → NoEnds rising → AreEnds ends → RisesFrom m rising
      → IsNextOf s before e → StandsHere (onto before (rising ++ ends)) → is_ended_once (own s (onto before (rising ++ ends))) ≡ true → m < e.line
  later-session s e m before [] ends declared kind unended none are rises next standing ended =
      absurd (end-next s e before ends declared kind unended are next standing ended)
  later-session s e m before (x ∷ rising) ends declared kind unended none are rises next standing ended =
      by_actor (is_session s x.actor) refl
      (λ other. later-session s e x.line (before ▹ x) rising ends declared kind
      (subst (λ (h : List Entry). is_ended_once h ≡ false) (sym (own-other s before x other)) unended) none.1 are rises.1
      (subst (λ (h : List Entry). IsNext (next_of setup count h (session_lines s lines)) e) (sym (own-other s before x other)) next) standing ended)
    where
      by_actor : (b : Bool) → is_session s x.actor ≡ b → (is_session s x.actor ≡ false → x.line < e.line) → m < e.line
      by_actor true mine further =
          let here : IsNextOf s before x = session-next setup count lines s before x mine
          ((stood setup count lines (before ▹ x) (rising ++ ends) standing).sessions s declared) in
          let same : x.line ≡ e.line = here.line ∙ sym next.line in
          omega (arith, rises.0, same)
      by_actor false other further = let above = further other in omega (arith, rises.0, above)

  -- ---- the display's next entry

  end-shown : (e : Entry) (before ends : List Entry) → AreOfSessions ends → IsNextShown before e
      → unread_lines (by_display (onto before ends)) (display_lines lines) ≡ [] → ⊥
  end-shown e before [] of next read = subst (λ (ls : List (ℕ × DisplayLine)). IsFirstLine ls e) read next
  end-shown e before (x ∷ ends) of next read =
      end-shown e (before ▹ x) ends of.1 (subst (λ (h : List Entry). IsFirstLine (unread_lines h (display_lines lines)) e) (sym (display-other before x of.0))
      next) read

  later-shown : (e : Entry) (m : ℕ) (before rising ends : List Entry) → AreOfSessions ends → RisesFrom m rising → IsNextShown before e
      → StandsHere (onto before (rising ++ ends))
      → unread_lines (by_display (onto before (rising ++ ends))) (display_lines lines) ≡ [] → m < e.line
  later-shown e m before [] ends of rises next standing read = absurd (end-shown e before ends of next read)
  later-shown e m before (x ∷ rising) ends of rises next standing read =
      by_actor (is_display x.actor) refl
      (λ other. later-shown e x.line (before ▹ x) rising ends of rises.1
      (subst (λ (h : List Entry). IsFirstLine (unread_lines h (display_lines lines)) e) (sym (display-other before x other)) next) standing read)
    where
      by_actor : (b : Bool) → is_display x.actor ≡ b → (is_display x.actor ≡ false → x.line < e.line) → m < e.line
      by_actor true mine further =
          let here : IsNextShown before x = display-next setup count lines before x (is-display x.actor mine)
          (stood setup count lines (before ▹ x) (rising ++ ends) standing).display in
          let same : x.line ≡ e.line = (same-first setup count lines (unread_lines (by_display before) (display_lines lines)) x e here next).0 in
          omega (arith, rises.0, same)
      by_actor false other further = let above = further other in omega (arith, rises.0, above)

  -- ---- two histories from some entries on

  -- What comes after some entries in a history in written order: entries whose lines rise, and then the Ends.
  record Part (before rising ends : List Entry) : Type 0 where
    standing : StandsHere (onto before (rising ++ ends))
    ended : (s : SessionNo) → is_declared setup s ≡ true → is_ended_once (own s (onto before (rising ++ ends))) ≡ true
    read : unread_lines (by_display (onto before (rising ++ ends))) (display_lines lines) ≡ []
    earlier : NoEnds before
    none : NoEnds rising
    rises : Rises rising
    are : AreEnds ends
    of : AreOfSessions ends

  part-later : (before rising ends : List Entry) (x : Entry) → Part before (x ∷ rising) ends → Part (before ▹ x) rising ends
  part-later before rising ends x part = record {
    standing = part.standing;
    ended = part.ended;
    read = part.read;
    earlier = (part.none.0, part.earlier);
    none = part.none.1;
    rises = rises-later x.line rising part.rises;
    are = part.are;
    of = part.of;
  }

  here : (before rising ends : List Entry) (x : Entry) → Part before (x ∷ rising) ends → StandsHere (before ▹ x)
  here before rising ends x part = stood setup count lines (before ▹ x) (rising ++ ends) part.standing

  -- the next entry of one who doesn't come next stands on a later line than that which does
  later-line : (actor : Actor) (e x : Entry) (before rising ends : List Entry) → e.actor ≡ actor → is_end e.kind ≡ false → StandsHere (before ▹ e)
      → is_of actor x.actor ≡ false → Part before (x ∷ rising) ends → x.line < e.line
  later-line (Session s) e x before rising ends is kind standing other part =
      let mine : is_session s e.actor ≡ true = ap (is_session s) is ∙ eq-eqb s.0 s.0 refl in
      let declared : is_declared setup s ≡ true = (and_parts (session_may e.kind) (is_declared setup s)
      (acts-at setup count lines (Session s) e is standing.legal.1.may.acts)).1 in
      let next : IsNextOf s before e = session-next setup count lines s before e mine (standing.sessions s declared) in
      later-session s e x.line (before ▹ x) rising ends declared kind (not-ended s (before ▹ x) (part.none.0, part.earlier)) part.none.1 part.are part.rises
      (subst (λ (h : List Entry). IsNext (next_of setup count h (session_lines s lines)) e) (sym (own-other s before x other)) next) part.standing
      (part.ended s declared)
  later-line Display e x before rising ends is kind standing other part =
      let next : IsNextShown before e = display-next setup count lines before e is standing.display in
      later-shown e x.line (before ▹ x) rising ends part.of part.rises
      (subst (λ (h : List Entry). IsFirstLine (unread_lines h (display_lines lines)) e) (sym (display-other before x other)) next) part.standing part.read
  later-line (Probe p) e x before rising ends is kind standing other part =
      absurd (no-probe setup count lines e.kind p (acts-at setup count lines (Probe p) e is standing.legal.1.may.acts))

  -- no entry but an End comes where the other has Ends alone
  none-left : (actor : Actor) (e : Entry) (before ends : List Entry) → e.actor ≡ actor → is_end e.kind ≡ false → StandsHere (before ▹ e) → Part before [] ends
      → ⊥
  none-left (Session s) e before ends is kind standing part =
      let mine : is_session s e.actor ≡ true = ap (is_session s) is ∙ eq-eqb s.0 s.0 refl in
      let declared : is_declared setup s ≡ true = (and_parts (session_may e.kind) (is_declared setup s)
      (acts-at setup count lines (Session s) e is standing.legal.1.may.acts)).1 in
      end-next s e before ends declared kind (not-ended s before part.earlier) part.are
      (session-next setup count lines s before e mine (standing.sessions s declared)) part.standing (part.ended s declared)
  none-left Display e before ends is kind standing part =
      end-shown e before ends part.of (display-next setup count lines before e is standing.display) part.read
  none-left (Probe p) e before ends is kind standing part =
      no-probe setup count lines e.kind p (acts-at setup count lines (Probe p) e is standing.legal.1.may.acts)

  same-turn : (before rising rising' ends ends' : List Entry) (e e' : Entry) → Part before (e ∷ rising) ends → Part before (e' ∷ rising') ends'
      → e.actor ≡ e'.actor
  same-turn before rising rising' ends ends' e e' part part' = by_test (is_of e.actor e'.actor) refl
    where
      by_test : (b : Bool) → is_of e.actor e'.actor ≡ b → e.actor ≡ e'.actor
      by_test true is = is-of-same e.actor e'.actor is
      by_test false is =
          let one : e'.line < e.line = later-line e.actor e e' before rising' ends' refl part.none.0 (here before rising ends e part) is part' in
          let two : e.line < e'.line = later-line e'.actor e' e before rising ends refl part'.none.0 (here before rising' ends' e' part')
          (is-of-turned e.actor e'.actor is) part in
          absurd (omega (arith, one, two))

  same-rising : (before rising rising' ends ends' : List Entry) → Part before rising ends → Part before rising' ends' → rising ≡ rising'
  same-rising before [] [] ends ends' part part' = refl
  same-rising before (e ∷ rising) [] ends ends' part part' = absurd (none-left e.actor e before ends' refl part.none.0 (here before rising ends e part) part')
  same-rising before [] (e' ∷ rising') ends ends' part part' =
      absurd (none-left e'.actor e' before ends refl part'.none.0 (here before rising' ends' e' part') part)
  same-rising before (e ∷ rising) (e' ∷ rising') ends ends' part part' =
      let same : e ≡ e' = one-more setup count lines before e e' (same-turn before rising rising' ends ends' e e' part part') (here before rising ends e part)
      (here before rising' ends' e' part') in
      subst (λ (x : Entry). Part before (x ∷ rising') ends' → e ∷ rising ≡ x ∷ rising') same
      (λ part''. ap (λ (xs : List Entry). e ∷ xs) (same-rising (before ▹ e) rising rising' ends ends' (part-later before rising ends e part)
      (part-later before rising' ends' e part''))) part'

  -- entries of the same actors, in their order, are the same
  same-ends : (before ends ends' : List Entry) → StandsHere (onto before ends) → StandsHere (onto before ends') → actors ends ≡ actors ends' → ends ≡ ends'
  same-ends before [] [] standing standing' is = refl
  same-ends before [] (x ∷ ends') standing standing' is = absurd (cc)
  same-ends before (x ∷ ends) [] standing standing' is = absurd (cc)
  same-ends before (x ∷ ends) (y ∷ ends') standing standing' is =
      let actor : x.actor ≡ y.actor = first-actor x ends y.actor (actors ends') is in
      let rest : actors ends ≡ actors ends' = rest-actors x ends y.actor (actors ends') is in
      let same : x ≡ y = one-more setup count lines before x y actor (stood setup count lines (before ▹ x) ends standing)
      (stood setup count lines (before ▹ y) ends' standing') in
      subst (λ (z : Entry). StandsHere (onto (before ▹ z) ends') → x ∷ ends ≡ z ∷ ends') same
      (λ standing''. ap (λ (zs : List Entry). x ∷ zs) (same-ends (before ▹ x) ends ends' standing standing'' rest)) standing'

  -- ---- the whole

  from-parts : (history : List Entry) (written : IsWritten setup history) → onto [] (written.rising ++ written.ends) ≡ history
  from-parts history written =
      ap (onto []) (sym written.parts) ∙ onto-reverse [] (reverse history) ∙ append-nil (reverse (reverse history)) ∙ reverse-reverse history

  ended-all : (history : List Entry) → Interleaves setup count lines history → (s : SessionNo) → is_declared setup s ≡ true
      → is_ended_once (own s history) ≡ true
  ended-all history interleaves s declared = (session-at (λ s. IsReading setup count (session_lines s lines) (own s history)) setup.sessions s.0 least most
      interleaves.sessions).ended
    where
      least : 1 ≤ s.0
      least = grind (arith, nat_tests)

      most : s.0 ≤ setup.sessions
      most = grind (arith, nat_tests)

  part-of : (history : List Entry) → Legal setup history → Interleaves setup count lines history → (written : IsWritten setup history)
      → Part [] written.rising written.ends
  part-of history legal interleaves written =
      let is : history ≡ onto [] (written.rising ++ written.ends) = sym (from-parts history written) in
      let ended : (s : SessionNo) → is_declared setup s ≡ true → is_ended_once (own s (onto [] (written.rising ++ written.ends))) ≡ true =
      subst (λ (h : List Entry). (s : SessionNo) → is_declared setup s ≡ true → is_ended_once (own s h) ≡ true) is (ended-all history interleaves) in
      let ended' : (s : SessionNo) → is_declared setup s ≡ true → is_ended_once (own s (onto (onto [] written.rising) written.ends)) ≡ true =
      subst (λ (h : List Entry). (s : SessionNo) → is_declared setup s ≡ true → is_ended_once (own s h) ≡ true) (onto-append [] written.rising written.ends)
      ended in
      record {
        standing = subst (λ (h : List Entry). StandsHere h) is (stands setup count lines history legal interleaves);
        ended = ended;
        read = subst (λ (h : List Entry). unread_lines (by_display h) (display_lines lines) ≡ []) is interleaves.all_read;
        earlier = tt;
        none = written.no_end;
        rises = rises-all written.rising written.rise;
        are = ends-are setup 0 written.ends (sessions_to setup.sessions) (onto [] written.rising) written.in_order (between setup.sessions) ended';
        of = of-sessions written.ends (sessions_to setup.sessions) written.in_order;
      }

  same-parts : (rising rising' ends ends' : List Entry) → Part [] rising ends → Part [] rising' ends' → actors ends ≡ actors ends'
      → rising ++ ends ≡ rising' ++ ends'
  same-parts rising rising' ends ends' part part' is =
      let one : rising ≡ rising' = same-rising [] rising rising' ends ends' part part' in
      let S : List Entry → Type 0 = λ h. StandsHere h in
      let standing : S (onto (onto [] rising') ends) = subst S (onto-append [] rising' ends)
      (subst (λ (r : List Entry). S (onto [] (r ++ ends))) one part.standing) in
      let standing' : S (onto (onto [] rising') ends') = subst S (onto-append [] rising' ends') part'.standing in
      let two : ends ≡ ends' = same-ends (onto [] rising') ends ends' standing standing' is in
      λ i. one i ++ two i

pub written-once : WrittenHistoriesAreOne
written-once setup count lines history history' legal legal' interleaves interleaves' written written' =
    let same = same-parts setup count lines written.rising written'.rising written.ends written'.ends
    (part-of setup count lines history legal interleaves written) (part-of setup count lines history' legal' interleaves' written')
    (written.in_order ∙ sym written'.in_order) in
    sym (from-parts setup count lines history written) ∙ ap (onto []) same ∙ from-parts setup count lines history' written'
