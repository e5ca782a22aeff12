-- What is asked of the names of a script, and who is named by a word.
use Rattle.std.proofs.Common.{◌≡◌, ℕ, ◌-◌, ◌<◌, ◌≤◌, ◌&&◌, not, nat_lt, nat_le, true, false, List, [], ◌∷◌, length, codes, Some, None, slice_index, refl, sym}
use Rattle.std.proofs.Common.{ap, ◌∙◌, arith, tests, rules}
use Rattle.std.specs.List.{list_all}
use Rattle.std.specs.Char.{is_ascii_alphabetic}
use Rattle.std.proofs.lemmas.Bool.Decides.{nat_tests}
use Rattle.flat_base.specs.declared.ids.Actor.{Actor}
use Rattle.flat_base.specs.declared.ids.Actor.TheVariants.{Display, Session, Probe}
use Rattle.flat_base.specs.declared.ids.SessionNo.{SessionNo}
use Rattle.flat_scene.specs.declared.journal.EntryKind.{EntryKind}
use Rattle.flat_scene.specs.Setups.{is_declared}
use Rattle.flat_rules.specs.Legal.{may_act, session_may}
use Rattle.flat_places.specs.declared.script.Script.{Script}
use Rattle.flat_places.specs.Names.{is_name, is_name_byte, is_reserved, place_of}
use Rattle.flat_page.specs.Words.{name_at, session_name, actor_name}
use Rattle.flat_places.specs.Forms.{Word}
use Rattle.flat_report.proofs.lemmas.Sheets.{is_word}
use Rattle.std.proofs.lemmas.Bool.{and_parts}

-- ---- what the reader gives

-- Names are proper, and each is found at its place.
pub record AreNames (names : List Word) : Type 0 where
  pub proper : (i : ℕ) → i < length names → is_name (name_at names i) ≡ true
  pub placed : (i : ℕ) → i < length names → place_of names (name_at names i) ≡ Some i

-- The names of sessions and of probes are proper and differ, and each is counted.
pub record IsNamed (s : Script) : Type 0 where
  pub session_count : s.setup.sessions ≡ length s.sessions
  pub probe_count : s.setup.probes ≡ length s.probes
  pub sessions : AreNames s.sessions
  pub probes : AreNames s.probes
  pub apart : (i : ℕ) → i < length s.probes → place_of s.sessions (name_at s.probes i) ≡ None

-- ---- names are words

name-byte : (b : ℕ) → is_name_byte b ≡ true → nat_lt 32 b ≡ true
name-byte b fine = let high : 32 < b = search (rules, tests) in grind (arith, nat_tests)

bytes-word : (w : Word) → list_all is_name_byte w ≡ true → is_word w ≡ true
bytes-word [] fine = refl
bytes-word (b ∷ w) fine =
    let parts = and_parts (is_name_byte b) (list_all is_name_byte w) fine in
    rw (name-byte b parts.0) (bytes-word w parts.1)

pub name-word : (w : Word) → is_name w ≡ true → is_word w ≡ true
name-word w named =
    let three = (and_parts (is_ascii_alphabetic (slice_index w 0) && list_all is_name_byte w && nat_le (length w) 16) (not (is_reserved w)) named).0 in
    let two = (and_parts (is_ascii_alphabetic (slice_index w 0) && list_all is_name_byte w) (nat_le (length w) 16) three).0 in
    bytes-word w (and_parts (is_ascii_alphabetic (slice_index w 0)) (list_all is_name_byte w) two).1

pub not-display : (w : Word) → is_name w ≡ true → w ≡ codes "display" → ⊥
not-display w named is = let wrong : is_name (codes "display") ≡ true = ap is_name (sym is) ∙ named in let e : false ≡ true = wrong in cc

-- ---- who acts

-- the display and the declared sessions make entries
abbrev pub Acts : Script → Actor → Type 0
Acts script Display = Unit {0}
Acts script (Session s) = is_declared script.setup s ≡ true
Acts script (Probe p) = ⊥

pub acts : (script : Script) (kind : EntryKind) (actor : Actor) → may_act script.setup kind actor ≡ true → Acts script actor
acts script kind Display may = tt
acts script kind (Session s) may = (and_parts (session_may kind) (is_declared script.setup s) may).1
acts script kind (Probe p) may = cc

module _ (script : Script) (named : IsNamed script) where
  within : (s : SessionNo) → is_declared script.setup s ≡ true → s.0 - 1 < length script.sessions
  within s declared =
      let least : 1 ≤ s.0 = grind (arith, nat_tests) in
      let most : s.0 ≤ script.setup.sessions = grind (arith, nat_tests) in
      omega (arith, named.session_count, least, most)

  pub session-proper : (s : SessionNo) → is_declared script.setup s ≡ true → is_name (session_name script.sessions s) ≡ true
  session-proper s declared = named.sessions.proper (s.0 - 1) (within s declared)

  pub actor-word : (actor : Actor) → Acts script actor → is_word (actor_name script actor) ≡ true
  actor-word Display acting = refl
  actor-word (Session s) acting = name-word (session_name script.sessions s) (session-proper s acting)
  actor-word (Probe p) acting = absurd acting

  same-place : (i j : ℕ) → Some i ≡ Some j → i ≡ j
  same-place i j is = cc

  same-session : (s t : SessionNo) → is_declared script.setup s ≡ true → is_declared script.setup t ≡ true
      → session_name script.sessions s ≡ session_name script.sessions t → s ≡ t
  same-session s t of_s of_t is =
      let place : s.0 - 1 ≡ t.0 - 1 = same-place (s.0 - 1) (t.0 - 1)
      (sym (named.sessions.placed (s.0 - 1) (within s of_s)) ∙ ap (place_of script.sessions) is ∙ named.sessions.placed (t.0 - 1) (within t of_t)) in
      let least : 1 ≤ s.0 = grind (arith, nat_tests) in
      let least' : 1 ≤ t.0 = grind (arith, nat_tests) in
      ap (λ (n : ℕ). let u : SessionNo = record { 0 = n } in u) (omega (arith, place, least, least'))

  -- two who act and have one name are one
  pub same-actor : (a b : Actor) → Acts script a → Acts script b → actor_name script a ≡ actor_name script b → a ≡ b
  same-actor Display Display of_a of_b is = refl
  same-actor Display (Session t) of_a of_b is = absurd (not-display (session_name script.sessions t) (session-proper t of_b) (sym is))
  same-actor (Session s) Display of_a of_b is = absurd (not-display (session_name script.sessions s) (session-proper s of_a) is)
  same-actor (Session s) (Session t) of_a of_b is = ap Session (same-session s t of_a of_b is)
  same-actor (Probe p) b of_a of_b is = absurd of_a
  same-actor Display (Probe p) of_a of_b is = absurd of_b
  same-actor (Session s) (Probe p) of_a of_b is = absurd of_b

  -- a probe has the name of none who acts
  pub no-probe-name : (p : ℕ) (actor : Actor) → p < length script.probes → Acts script actor → name_at script.probes p ≡ actor_name script actor → ⊥
  no-probe-name p Display below acting is = not-display (name_at script.probes p) (named.probes.proper p below) is
  no-probe-name p (Session s) below acting is =
      let wrong : None ≡ Some (s.0 - 1) = sym (named.apart p below) ∙ ap (place_of script.sessions) is ∙ named.sessions.placed (s.0 - 1) (within s acting) in cc
  no-probe-name p (Probe q) below acting is = acting
