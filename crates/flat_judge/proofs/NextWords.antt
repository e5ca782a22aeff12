-- The first words of a report's lines tell whose entry is next, or which display was lost.
use Rattle.std.proofs.Common.{◌≡◌, ℕ, suc, ◌+◌, ◌-◌, ◌<◌, ◌≤◌, ◌&&◌, ℤ, nat_lt, Bool, true, false, if◌then◌else◌, List, [], ◌∷◌, ◌++◌}
use Rattle.std.proofs.Common.{length, drop, map, codes, Option, Some, None, refl, sym, ap, ◌∙◌, subst, arith, Decides, true≢false}
use Rattle.std.specs.List.{list_all, zip}
use Rattle.std.specs.Str.{bytes_eq}
use Rattle.std.proofs.lemmas.Bool.{and_parts}
use Rattle.std.proofs.lemmas.Bool.Decides.{nat_tests}
use Rattle.std.proofs.lemmas.List.Sums.{take_while-cons}
use Rattle.std.proofs.lemmas.Slice.Eq.{bytes_eq-Decides}
use Rattle.flat_base.specs.declared.ids.Actor.{Actor}
use Rattle.flat_base.specs.declared.ids.Actor.TheVariants.{Display, Session, Probe}
use Rattle.flat_base.specs.declared.ids.SessionNo.{SessionNo}
use Rattle.flat_scene.specs.declared.frames.Hit.{Hit}
use Rattle.flat_scene.specs.declared.frames.LostDisplay.{LostDisplay}
use Rattle.flat_scene.specs.declared.journal.Entry.{Entry}
use Rattle.flat_scene.specs.declared.journal.EntryKind.{EntryKind}
use Rattle.flat_scene.specs.declared.journal.EntryKind.TheVariants as kind
use Rattle.flat_scene.specs.declared.journal.Reply.{Reply}
use Rattle.flat_scene.specs.declared.script.ScriptLine.{ScriptLine}
use Rattle.flat_scene.specs.Setups.{is_declared}
use Rattle.flat_text.specs.Number.{natural}
use Rattle.flat_places.specs.declared.script.Script.{Script}
use Rattle.flat_places.specs.Names.{place_of}
use Rattle.flat_page.specs.Words.{number, name_at, session_name, actor_name}
use Rattle.flat_places.specs.Forms.{Word}
use Rattle.flat_lines.specs.EntryLines.{answer_words, entry_line, said_words}
use Rattle.flat_lines.specs.FrameLines.{lost_line}
use Rattle.flat_report.specs.Report.{seen_line, seen_words}
use Rattle.flat_report.proofs.lemmas.Named.{Acts, IsNamed, actor-word, name-word, not-display, session-proper}
use Rattle.flat_report.proofs.lemmas.Openings.{lost_words}
use Rattle.flat_report.proofs.lemmas.SeenTold.{is_of_probe}
use Rattle.flat_report.proofs.lemmas.Sheets.{is_digit, is_word, laid, line_on, number-digits, number-word, sheet}
use Rattle.flat_judge.specs.Following.{actor_by, behind_word, display_by, first_word, next_actor, next_display, session_at}

-- ---- the first word, and the second

pub first-word : (w : Word) (ws : List Word) (rest : List ℕ) → is_word w ≡ true → first_word (w ++ laid ws rest) ≡ w
first-word [] [] rest fine = take_while-cons (nat_lt 32) 10 rest
first-word [] (v ∷ ws) rest fine = take_while-cons (nat_lt 32) 32 (v ++ laid ws rest)
first-word (b ∷ w) ws rest fine =
    let parts = and_parts (nat_lt 32 b) (is_word w) fine in
    take_while-cons (nat_lt 32) b (w ++ laid ws rest) ∙ rw parts.0 (ap (λ (t : List ℕ). b ∷ t) (first-word w ws rest parts.1))

past : (w : Word) (c : ℕ) (rest : List ℕ) → drop (length w + 1) (w ++ c ∷ rest) ≡ rest
past [] c rest = refl
past (b ∷ w) c rest = ap (λ (n : ℕ). drop n (b ∷ (w ++ c ∷ rest))) (let more : suc (length w) + 1 ≡ suc (length w + 1) = omega arith in more) ∙ past w c rest

pub second-word : (w v : Word) (ws : List Word) (rest : List ℕ) → is_word w ≡ true → is_word v ≡ true → first_word (behind_word (w ++ laid (v ∷ ws) rest)) ≡ v
second-word w v ws rest fine fine' =
    let at : length (first_word (w ++ laid (v ∷ ws) rest)) ≡ length w = ap length (first-word w (v ∷ ws) rest fine) in
    ap (λ (n : ℕ). first_word (drop (n + 1) (w ++ laid (v ∷ ws) rest))) at ∙ ap first_word (past w 32 (v ++ laid ws rest)) ∙ first-word v ws rest fine'

-- ---- words that differ

differs : (a b : Word) → (a ≡ b → ⊥) → bytes_eq a b ≡ false
differs a b other = by (bytes_eq a b) refl
  where
    by : (t : Bool) → bytes_eq a b ≡ t → bytes_eq a b ≡ false
    by false is = is
    by true is = absurd (other ((subst (λ t. Decides t (a ≡ b)) is (bytes_eq-Decides a b)).0 refl))

-- ---- entries

-- What stands behind an actor begins so.
record Says (words : List Word) : Type 0 where
  first : Word
  later : List Word
  is : words ≡ first ∷ later
  fine : is_word first ≡ true
  no_end : bytes_eq first (codes "ends") ≡ false

number-no-end : (n : ℕ) → bytes_eq (number n) (codes "ends") ≡ false
number-no-end n = differs (number n) (codes "ends") (λ same. let wrong : list_all is_digit (codes "ends") ≡ true = ap (list_all is_digit) (sym same)
    ∙ number-digits n in true≢false (sym wrong ∙ refl))

says : (script : Script) (frames : ℕ) (hits : ℤ → ℤ → List Hit) (line : ℕ) (made : EntryKind) (answer : Reply)
    → Says (said_words script frames hits line made answer)
says script frames hits line (kind.End refused) answer = record { first = codes "end"; later = number refused ∷ []; is = refl; fine = refl; no_end = refl }
says script frames hits line made answer = record {
  first = number line;
  later = answer_words script frames hits made answer;
  is = refl;
  fine = number-word line;
  no_end = number-no-end line;
}

by-words : (script : Script) (w v : Word) (ws : List Word) (rest : List ℕ) → is_word w ≡ true → is_word v ≡ true
    → next_actor script (w ++ laid (v ∷ ws) rest) ≡ actor_by script w v
by-words script w v ws rest fine fine' = λ i. actor_by script (first-word w (v ∷ ws) rest fine i) (second-word w v ws rest fine fine' i)

module _ (script : Script) (named : IsNamed script) where
  within : (s : SessionNo) → is_declared script.setup s ≡ true → (1 ≤ s.0) × (s.0 ≤ script.setup.sessions)
  within s declared = (let least : 1 ≤ s.0 = grind (arith, nat_tests) in least, let most : s.0 ≤ script.setup.sessions = grind (arith, nat_tests) in most)

  session-found : (s : SessionNo) → is_declared script.setup s ≡ true
      → session_at script (place_of script.sessions (session_name script.sessions s)) ≡ Some (Session s)
  session-found s declared =
      let bounds = within s declared in
      let least = bounds.0 in
      let most = bounds.1 in
      let below : s.0 - 1 < length script.sessions = omega (arith, named.session_count, least, most) in
      let here : nat_lt (s.0 - 1) script.setup.sessions ≡ true =
      (let less : s.0 - 1 < script.setup.sessions = omega (arith, least, most) in grind (arith, nat_tests)) in
      let same : s.0 - 1 + 1 ≡ s.0 = omega (arith, least) in
      ap (session_at script) (named.sessions.placed (s.0 - 1) below) ∙ rw here (ap (λ (n : ℕ). Some (Session (record { 0 = n }))) same)

  actor-by : (actor : Actor) (second : Word) → Acts script actor → bytes_eq second (codes "ends") ≡ false
      → actor_by script (actor_name script actor) second ≡ Some actor
  actor-by Display second acting no_end = refl
  actor-by (Session s) second acting no_end =
      let name = session_name script.sessions s in
      let other : bytes_eq name (codes "display") ≡ false = differs name (codes "display") (not-display name (session-proper script named s acting)) in
      let more : (bytes_eq name (codes "report") && bytes_eq second (codes "ends")) ≡ false =
      and-none (bytes_eq name (codes "report")) (bytes_eq second (codes "ends")) no_end in
      rw (other, more) (session-found s acting)
    where
      and-none : (a b : Bool) → b ≡ false → (a && b) ≡ false
      and-none true b is = is
      and-none false b is = refl
  actor-by (Probe p) second acting no_end = absurd acting

  -- the line of an entry tells its actor
  pub entry-next : (frames : ℕ) (hits : ℤ → ℤ → List Hit) (e : Entry) (rest : List ℕ) → Acts script e.actor
      → next_actor script (line_on (entry_line script frames hits e) rest) ≡ Some e.actor
  entry-next frames hits e rest acting =
      let name = actor_name script e.actor in
      let said = says script frames hits e.line e.kind e.reply in
      ap (λ (ws : List Word). next_actor script (name ++ laid ws rest)) said.is
      ∙ by-words script name said.first said.later rest (actor-word script named e.actor acting) said.fine
      ∙ actor-by e.actor said.first acting said.no_end

  -- ---- what stands behind all entries

  seen-next : (history : List Entry) (line : ScriptLine) (f : ℕ) (rest : List ℕ) → is_of_probe script.setup.probes line ≡ true
      → next_actor script (line_on (seen_line script history (line, f)) rest) ≡ None
  seen-next history line f rest of = by line.actor refl of
    where
      words : List Word
      words = number line.number ∷ seen_words script history f line.body

      by : (actor : Actor) → line.actor ≡ actor → is_of_probe script.setup.probes (record { number = line.number; actor = actor; body = line.body }) ≡ true
          → next_actor script (actor_name script line.actor ++ laid words rest) ≡ None
      by (Probe p) is fine =
          let low : nat_lt p script.setup.probes ≡ true = (and_parts (nat_lt p script.setup.probes) _ fine).0 in
          let less : p < script.setup.probes = grind (arith, nat_tests) in
          let below : p < length script.probes = omega (arith, less, named.probe_count) in
          let name = name_at script.probes p in
          let proper = named.probes.proper p below in
          let other : bytes_eq name (codes "display") ≡ false = differs name (codes "display") (not-display name proper) in
          let more : (bytes_eq name (codes "report") && bytes_eq (number line.number) (codes "ends")) ≡ false =
          and-none (bytes_eq name (codes "report")) (bytes_eq (number line.number) (codes "ends")) (number-no-end line.number) in
          ap (λ (a : Actor). next_actor script (actor_name script a ++ laid words rest)) is
          ∙ by-words script name (number line.number) (seen_words script history f line.body) rest (name-word name proper) (number-word line.number)
          ∙ rw (other, more) (ap (session_at script) (named.apart p below))
        where
          and-none : (a b : Bool) → b ≡ false → (a && b) ≡ false
          and-none true b is = is
          and-none false b is = refl
      by Display is fine = absurd (let wrong : false ≡ true = fine in true≢false (sym wrong))
      by (Session s) is fine = absurd (let wrong : false ≡ true = fine in true≢false (sym wrong))

  pub end-next : (history : List Entry) (lines : List ScriptLine) (seen : List ℕ) (ws : List Word) (rest : List ℕ)
      → list_all (is_of_probe script.setup.probes) lines ≡ true
      → next_actor script (sheet (map (seen_line script history) (zip lines seen)) (line_on (codes "report" ∷ codes "ends" ∷ ws) rest)) ≡ None
  end-next history [] seen ws rest of = by-words script (codes "report") (codes "ends") ws rest refl refl
  end-next history (line ∷ lines) [] ws rest of = by-words script (codes "report") (codes "ends") ws rest refl refl
  end-next history (line ∷ lines) (f ∷ seen) ws rest of =
      seen-next history line f (sheet (map (seen_line script history) (zip lines seen)) (line_on (codes "report" ∷ codes "ends" ∷ ws) rest))
      (and_parts (is_of_probe script.setup.probes line) (list_all (is_of_probe script.setup.probes) lines) of).0

-- ---- displays that were lost

-- the line of a lost display tells its number, where that is read back
pub loss-next : (one : LostDisplay) (rest : List ℕ) → natural (number one.display) ≡ Some one.display
    → next_display (line_on (lost_line one) rest) ≡ Some one.display
loss-next one rest back =
    (λ i. display_by (first-word (codes "display") (number one.display ∷ codes "lost" ∷ lost_words one) rest refl i)
    (second-word (codes "display") (number one.display) (codes "lost" ∷ lost_words one) rest refl (number-word one.display) i))
    ∙ back

-- ---- who is named

by-place : (script : Script) (P : Actor → Type 0) → ((s : SessionNo) → is_declared script.setup s ≡ true → P (Session s)) → (found : Option ℕ) (actor : Actor)
    → session_at script found ≡ Some actor → P actor
by-place script P here None actor is = absurd (cc)
by-place script P here (Some place) actor is = by (nat_lt place script.setup.sessions) refl is
  where
    by : (b : Bool) → nat_lt place script.setup.sessions ≡ b → (if b then Some (Session (record { 0 = place + 1 })) else None) ≡ Some actor → P actor
    by false above found = absurd (let wrong : None ≡ Some actor = found in cc)
    by true below found =
        let s : SessionNo = record { 0 = place + 1 } in
        let same : Session s ≡ actor = cc in
        let declared : is_declared script.setup s ≡ true = grind (arith, nat_tests) in
        subst P same (here s declared)

named-by : (script : Script) (P : Actor → Type 0) → P Display → ((s : SessionNo) → is_declared script.setup s ≡ true → P (Session s))
    → (first second : List ℕ) (actor : Actor) → actor_by script first second ≡ Some actor → P actor
named-by script P display session first second actor is =
    by (bytes_eq first (codes "display")) (bytes_eq first (codes "report") && bytes_eq second (codes "ends")) is
  where
    by : (a b : Bool) → (if a then Some Display else (if b then None else session_at script (place_of script.sessions first))) ≡ Some actor → P actor
    by true b found = let same : Display ≡ actor = cc in subst P same display
    by false true found = absurd (let wrong : None ≡ Some actor = found in cc)
    by false false found = by-place script P session (place_of script.sessions first) actor found

abbrev pub IsOfSession : Script → Actor → Type 0
IsOfSession script Display = Unit {0}
IsOfSession script (Session s) = is_declared script.setup s ≡ true
IsOfSession script (Probe p) = ⊥

-- who is next is the display or a declared session
pub next-declared : (script : Script) (text : List ℕ) (s : SessionNo) → next_actor script text ≡ Some (Session s) → is_declared script.setup s ≡ true
next-declared script text s is = named-by script (IsOfSession script) tt (λ s declared. declared) (first_word text) (first_word (behind_word text)) (Session s)
    is

pub next-acts : (script : Script) (text : List ℕ) (actor : Actor) → next_actor script text ≡ Some actor → IsOfSession script actor
next-acts script text actor is = named-by script (IsOfSession script) tt (λ s declared. declared) (first_word text) (first_word (behind_word text)) actor is
