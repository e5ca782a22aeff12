-- A script, the entries before, and whose turn it is determine the next entry.
use Rattle.std.proofs.Common.{◌≡◌, ℕ, zero, suc, ◌<◌, ◌≤◌, nat_le, Bool, true, false, cond, List, [], ◌∷◌, ◌++◌, refl, subst, sym, ◌∙◌, arith}
use Rattle.std.specs.List.{AllByRecursion}
use Rattle.std.proofs.lemmas.Bool.Decides.{nat_tests}
use Rattle.flat_base.specs.declared.ids.Actor.{Actor}
use Rattle.flat_base.specs.declared.ids.Actor.TheVariants.{Display, Session, Probe}
use Rattle.flat_base.specs.declared.ids.SessionNo.{SessionNo}
use Rattle.flat_scene.specs.declared.journal.Entry.{Entry}
use Rattle.flat_scene.specs.declared.journal.EntryKind.{EntryKind}
use Rattle.flat_scene.specs.declared.script.ScriptLine.{ScriptLine}
use Rattle.flat_scene.specs.declared.script.DisplayLine.{DisplayLine}
use Rattle.flat_scene.specs.declared.setup.Setup.{Setup}
use Rattle.flat_scene.specs.Frames.{sessions_to}
use Rattle.flat_scene.specs.History.{◌▹◌, own, is_session, is_display}
use Rattle.flat_scene.specs.Interleave.{Follows, FollowsDisplay, IsFirstLine, IsNext, Interleaves, IsReading, Next, next_of, session_lines, display_lines}
use Rattle.flat_scene.specs.Interleave.{by_display, unread_lines}
use Rattle.flat_scene.specs.Setups.{is_declared}
use Rattle.flat_rules.specs.Legal.{Legal, may_act, session_may}
use Rattle.flat_report.proofs.lemmas.Tails.{onto}
use Rattle.std.proofs.lemmas.Bool.{and_parts, eq-eqb}

-- ---- the sessions that are declared

listed : (P : SessionNo → Type 0) (xs : List SessionNo) (last : SessionNo) → AllByRecursion P (xs ++ last ∷ []) → AllByRecursion P xs × P last
listed P [] last all = (tt, all.0)
listed P (x ∷ xs) last all = let later = listed P xs last all.1 in ((all.0, later.0), later.1)

pub session-at : (P : SessionNo → Type 0) (n k : ℕ) → 1 ≤ k → k ≤ n → AllByRecursion P (sessions_to n) → P (record { 0 = k })
session-at P zero k some few all = absurd (omega arith)
session-at P (suc n) k some few all = by_last (nat_le k n) refl (listed P (sessions_to n) (record { 0 = suc n }) all)
    (λ below rest. session-at P n k some below rest)
  where
    by_last : (b : Bool) → nat_le k n ≡ b → AllByRecursion P (sessions_to n) × P (record { 0 = suc n })
        → (k ≤ n → AllByRecursion P (sessions_to n) → P (record { 0 = k })) → P (record { 0 = k })
    by_last true is parts before = before (grind (arith, nat_tests)) parts.0
    by_last false is parts before = let same : suc n ≡ k =
        (let over : n < k = grind (arith, nat_tests) in omega arith) in subst (λ (m : ℕ). P (record { 0 = m })) same parts.1

-- ---- what stands

-- Each declared session's entries and the display's follow their lines, and the history is legal.
pub record Stands (setup : Setup) (count : ℕ) (lines : List ScriptLine) (history : List Entry) : Type 0 where
  pub legal : Legal setup history
  pub sessions : (s : SessionNo) → is_declared setup s ≡ true → Follows setup count (session_lines s lines) (own s history)
  pub display : FollowsDisplay (display_lines lines) (by_display history)

-- entries that agree in all fields
same-entry : (e e' : Entry) → e.actor ≡ e'.actor → e.line ≡ e'.line → e.calls ≡ e'.calls → e.kind ≡ e'.kind → e.reply ≡ e'.reply → e ≡ e'
same-entry e e' actor line calls kind reply =
    λ i. record { actor = actor i; line = line i; calls = calls i; kind = kind i; reply = reply i }

module _ (setup : Setup) (count : ℕ) (lines : List ScriptLine) where
  pub stands : (history : List Entry) → Legal setup history → Interleaves setup count lines history → Stands setup count lines history
  stands history legal interleaves = record {
    legal = legal;
    sessions = λ s declared. (session-at (λ s. IsReading setup count (session_lines s lines) (own s history)) setup.sessions s.0 (least s declared)
        (most s declared) interleaves.sessions).follows;
    display = interleaves.display;
  }
    where
      least : (s : SessionNo) → is_declared setup s ≡ true → 1 ≤ s.0
      least s declared = grind (arith, nat_tests)

      most : (s : SessionNo) → is_declared setup s ≡ true → s.0 ≤ setup.sessions
      most s declared = grind (arith, nat_tests)

  -- two entries that may both come next are one, but for the reply
  same-next : (next : Next) (e e' : Entry) → IsNext next e → IsNext next e' → (e.line ≡ e'.line) × (e.calls ≡ e'.calls) × (e.kind ≡ e'.kind)
  same-next next e e' is is' = (is.line ∙ sym is'.line, is.carried ∙ sym is'.carried, is.kind ∙ sym is'.kind)

  pub session-next : (s : SessionNo) (before : List Entry) (e : Entry) → is_session s e.actor ≡ true
      → Follows setup count (session_lines s lines) (own s (before ▹ e)) → IsNext (next_of setup count (own s before) (session_lines s lines)) e
  session-next s before e mine follows = (subst (λ b. Follows setup count (session_lines s lines) (cond b (own s before ▹ e) (own s before))) mine follows).1

  pub same-first : (ls : List (ℕ × DisplayLine)) (e e' : Entry) → IsFirstLine ls e → IsFirstLine ls e'
      → (e.line ≡ e'.line) × (e.calls ≡ e'.calls) × (e.kind ≡ e'.kind)
  same-first [] e e' is is' = absurd is
  same-first ((number, text) ∷ later) e e' is is' = same-next _ e e' is is'

  pub display-next : (before : List Entry) (e : Entry) → e.actor ≡ Display → FollowsDisplay (display_lines lines) (by_display (before ▹ e))
      → IsFirstLine (unread_lines (by_display before) (display_lines lines)) e
  display-next before e is follows = (subst (λ (a : Actor). FollowsDisplay (display_lines lines)
      (cond (is_display a) (by_display before ▹ e) (by_display before))) is follows).1

  pub no-probe : (kind : EntryKind) (p : ℕ) → may_act setup kind (Probe p) ≡ true → ⊥
  no-probe kind p acts = cc

  -- who acts is the display or a declared session
  pub acts-at : (actor : Actor) (e : Entry) → e.actor ≡ actor → may_act setup e.kind e.actor ≡ true → may_act setup e.kind actor ≡ true
  acts-at actor e is acts = subst (λ (a : Actor). may_act setup e.kind a ≡ true) is acts

  -- the next entry of an actor
  determined : (actor : Actor) (before : List Entry) (e e' : Entry) → e.actor ≡ actor → e'.actor ≡ actor → may_act setup e.kind e.actor ≡ true
      → Stands setup count lines (before ▹ e) → Stands setup count lines (before ▹ e') → (e.line ≡ e'.line) × (e.calls ≡ e'.calls) × (e.kind ≡ e'.kind)
  determined (Session s) before e e' is is' acts follows follows' =
      let own_e : is_session s e.actor ≡ true = rw is (eq-eqb s.0 s.0 refl) in
      let own_e' : is_session s e'.actor ≡ true = rw is' (eq-eqb s.0 s.0 refl) in
      let declared : is_declared setup s ≡ true = (and_parts (session_may e.kind) (is_declared setup s) (acts-at (Session s) e is acts)).1 in
      same-next (next_of setup count (own s before) (session_lines s lines)) e e' (session-next s before e own_e (follows.sessions s declared))
      (session-next s before e' own_e' (follows'.sessions s declared))
  determined Display before e e' is is' acts follows follows' =
      same-first (unread_lines (by_display before) (display_lines lines)) e e' (display-next before e is follows.display)
      (display-next before e' is' follows'.display)
  determined (Probe p) before e e' is is' acts follows follows' = absurd (no-probe e.kind p (acts-at (Probe p) e is acts))

  -- the earlier entries stand too
  earlier-session : (s : SessionNo) (before : List Entry) (e : Entry) → (b : Bool)
      → Follows setup count (session_lines s lines) (cond b (own s before ▹ e) (own s before)) → Follows setup count (session_lines s lines) (own s before)
  earlier-session s before e true follows = follows.0
  earlier-session s before e false follows = follows

  earlier-display : (before : List Entry) (e : Entry) → (b : Bool) → FollowsDisplay (display_lines lines) (cond b (by_display before ▹ e) (by_display before))
      → FollowsDisplay (display_lines lines) (by_display before)
  earlier-display before e true follows = follows.0
  earlier-display before e false follows = follows

  pub earlier : (before : List Entry) (e : Entry) → Stands setup count lines (before ▹ e) → Stands setup count lines before
  earlier before e follows = record {
    legal = follows.legal.0;
    sessions = λ s declared. earlier-session s before e (is_session s e.actor) (follows.sessions s declared);
    display = earlier-display before e (is_display e.actor) follows.display;
  }

  -- what stood before some later entries
  pub stood : (before later : List Entry) → Stands setup count lines (onto before later) → Stands setup count lines before
  stood before [] follows = follows
  stood before (e ∷ later) follows = earlier before e (stood (before ▹ e) later follows)

  pub one-more : (before : List Entry) (e e' : Entry) → e.actor ≡ e'.actor → Stands setup count lines (before ▹ e) → Stands setup count lines (before ▹ e')
      → e ≡ e'
  one-more before e e' actor follows follows' =
      let same : (e.line ≡ e'.line) × (e.calls ≡ e'.calls) × (e.kind ≡ e'.kind) =
      determined e.actor before e e' refl (sym actor) follows.legal.1.may.acts follows follows' in
      let reply : e.reply ≡ e'.reply = follows.legal.1.reply ∙ (rw (actor, same.1, same.2) (sym follows'.legal.1.reply)) in
      same-entry e e' actor same.0 same.1 same.2 reply
