-- How the lines of entries begin, and that no other line begins so.
use Rattle.std.proofs.Common.{◌≡◌, ℕ, ℤ, ◌==◌, nat_le, Bool, true, false, cond, List, [], ◌∷◌, ◌++◌, get_or, codes, refl, sym, ap, ◌∙◌, arith}
use Rattle.std.specs.List.{list_all}
use Rattle.std.proofs.lemmas.Bool.Decides.{nat_tests}
use Rattle.std.proofs.lemmas.List.{append_cancel_left}
use Rattle.flat_base.specs.declared.ids.Actor.{Actor}
use Rattle.flat_base.specs.declared.ids.Actor.TheVariants.{Display, Session, Probe}
use Rattle.flat_base.specs.declared.ids.SessionNo.{SessionNo}
use Rattle.flat_scene.specs.declared.calls.Call.{Call}
use Rattle.flat_scene.specs.declared.frames.Hit.{Hit}
use Rattle.flat_scene.specs.declared.frames.LostDisplay.{LostDisplay}
use Rattle.flat_scene.specs.declared.journal.Entry.{Entry}
use Rattle.flat_scene.specs.declared.journal.Event.{Event}
use Rattle.flat_scene.specs.declared.journal.EntryKind.{EntryKind}
use Rattle.flat_scene.specs.declared.journal.EntryKind.TheVariants as kind
use Rattle.flat_scene.specs.declared.journal.Reply.{Reply}
use Rattle.flat_scene.specs.declared.journal.Reply.TheVariants as reply
use Rattle.flat_rules.specs.Legal.{LegalEntry, may_act, display_may, reply_to, asked_of, value_of}
use Rattle.flat_places.specs.declared.script.Script.{Script}
use Rattle.flat_lines.specs.EntryLines.{entry_line, event_line, said_words, answer_words}
use Rattle.flat_lines.specs.FrameLines.{lost_line}
use Rattle.flat_page.specs.Words.{number, session_name, actor_name}
use Rattle.flat_places.specs.Forms.{Word}
use Rattle.flat_report.proofs.lemmas.Named.{IsNamed, Acts, acts, actor-word, not-display, session-proper}
use Rattle.flat_report.proofs.lemmas.Sheets.{laid, line_on, told, told-next, is_word, number-word, number-digits, is_digit}

-- ---- what stands behind the actor

-- the first word behind an actor, and those behind it
abbrev first_said : ℕ → EntryKind → Word
first_said line (kind.End refused) = codes "end"
first_said line _ = number line

abbrev then_said : Script → ℕ → (ℤ → ℤ → List Hit) → EntryKind → Reply → List Word
then_said script frames hits (kind.End refused) answer = number refused ∷ []
then_said script frames hits made answer = answer_words script frames hits made answer

said-is : (script : Script) (frames : ℕ) (hits : ℤ → ℤ → List Hit) (line : ℕ) (made : EntryKind) (answer : Reply)
    → said_words script frames hits line made answer ≡ first_said line made ∷ then_said script frames hits made answer
said-is script frames hits line (kind.End refused) answer = refl
said-is script frames hits line _ answer = refl

first-word : (line : ℕ) (made : EntryKind) → is_word (first_said line made) ≡ true
first-word line (kind.End refused) = refl
first-word line _ = number-word line

not-ends : (line : ℕ) (made : EntryKind) → codes "ends" ≡ first_said line made → ⊥
not-ends line (kind.End refused) is = cc
not-ends line _ is = no_number is
  where
    no_number : codes "ends" ≡ number line → ⊥
    no_number is = let wrong : list_all is_digit (codes "ends") ≡ true = ap (list_all is_digit) is ∙ number-digits line in let e : false ≡ true = wrong in cc

-- ---- texts that begin with no entry, and with no lost display

abbrev pub NoEntry : Script → List ℕ → Type 0
NoEntry script text = (frames : ℕ) (hits : ℤ → ℤ → List Hit) (entry : Entry) (rest : List ℕ) → Acts script entry.actor
    → text ≡ line_on (entry_line script frames hits entry) rest → ⊥

abbrev pub NoLoss : List ℕ → Type 0
NoLoss text = (one : LostDisplay) (rest : List ℕ) → text ≡ line_on (lost_line one) rest → ⊥

abbrev pub lost_words : LostDisplay → List Word
lost_words one = codes "at" ∷ codes "frame" ∷ number one.frame.0 ∷ []

-- the first letters of one text, and the second ones
first : {xs ys : List ℕ} → xs ≡ ys → get_or xs 0 0 ≡ get_or ys 0 0
first is = ap (λ (t : List ℕ). get_or t 0 0) is

second : {xs ys : List ℕ} → xs ≡ ys → get_or xs 1 0 ≡ get_or ys 1 0
second is = ap (λ (t : List ℕ). get_or t 1 0) is

differ : (a b : ℕ) → (a == b) ≡ false → a ≡ b → ⊥
differ a b unlike is = grind (arith, nat_tests)

-- the display says nothing of a lost one in its entries
no-lost-said : (script : Script) (frames : ℕ) (hits : ℤ → ℤ → List Hit) (before : List Entry) (carries : List Call) (made : EntryKind) (answer : Reply)
    (ws : List Word) (rest rest' : List ℕ)
    → display_may made ≡ true → answer ≡ reply_to script.setup before Display carries made
    → laid (answer_words script frames hits made answer) rest ≡ laid (codes "lost" ∷ ws) rest' → ⊥
no-lost-said script frames hits before carries (kind.View p) answer ws rest rest' may has is = cc
no-lost-said script frames hits before carries (kind.Viewport p props) answer ws rest rest' may has is = cc
no-lost-said script frames hits before carries (kind.Present args) answer ws rest rest' may has is = cc
no-lost-said script frames hits before carries (kind.Get get) answer ws rest rest' may has is = cc
no-lost-said script frames hits before carries kind.Poll answer ws rest rest' may has is = cc
no-lost-said script frames hits before carries (kind.Close reason) answer ws rest rest' may has is = cc
no-lost-said script frames hits before carries (kind.End refused) answer ws rest rest' may has is = cc
no-lost-said script frames hits before carries (kind.Begin time) answer ws rest rest' may has is = differ 98 108 refl (second is)
no-lost-said script frames hits before carries kind.Finish answer ws rest rest' may has is = differ 100 108 refl (second is)
no-lost-said script frames hits before carries (kind.Hit x y) answer ws rest rest' may has is = differ 104 108 refl (second is)
no-lost-said script frames hits before carries (kind.Signal f) answer ws rest rest' may has is =
    let wrong : laid (codes "Signal" ∷ codes "ok" ∷ []) rest ≡ laid (codes "lost" ∷ ws) rest' =
    ap (λ (r : Reply). laid (answer_words script frames hits (kind.Signal f) r) rest) (sym has) ∙ is in differ 83 108 refl (second wrong)
no-lost-said script frames hits before carries (kind.Dpr ratio) answer ws rest rest' may has is =
    let wrong : laid (codes "dpr" ∷ codes "ok" ∷ []) rest ≡ laid (codes "lost" ∷ ws) rest' =
    ap (λ (r : Reply). laid (answer_words script frames hits (kind.Dpr ratio) r) rest) (sym has) ∙ is in differ 100 108 refl (second wrong)
no-lost-said script frames hits before carries (kind.Wait c) answer ws rest rest' may has is =
    by_test (nat_le (asked_of c) (value_of script.setup before Display c)) (value_of script.setup before Display c) has
  where
    by_test : (b : Bool) (v : ℕ) → answer ≡ cond b (reply.Met v) (reply.Unmet v) → ⊥
    by_test true v has = let wrong : laid (codes "Wait" ∷ codes "met" ∷ number v ∷ []) rest ≡ laid (codes "lost" ∷ ws) rest' =
        ap (λ (r : Reply). laid (answer_words script frames hits (kind.Wait c) r) rest) (sym has) ∙ is in differ 87 108 refl (second wrong)
    by_test false v has = let wrong : laid (codes "Wait" ∷ codes "unmet" ∷ number v ∷ []) rest ≡ laid (codes "lost" ∷ ws) rest' =
        ap (λ (r : Reply). laid (answer_words script frames hits (kind.Wait c) r) rest) (sym has) ∙ is in differ 87 108 refl (second wrong)

display-said : (script : Script) (frames : ℕ) (hits : ℤ → ℤ → List Hit) (line : ℕ) (made : EntryKind) (answer : Reply) → display_may made ≡ true
    → said_words script frames hits line made answer ≡ number line ∷ answer_words script frames hits made answer
display-said script frames hits line (kind.End refused) answer may = absurd (cc)
display-said script frames hits line _ answer may = refl

-- ---- the lines of entries

module _ (script : Script) (named : IsNamed script) where
  entry-no-loss-by : (before : List Entry) (entry : Entry) (frames : ℕ) (hits : ℤ → ℤ → List Hit) (rest : List ℕ) (one : LostDisplay) (rest' : List ℕ)
      (actor : Actor)
      → may_act script.setup entry.kind actor ≡ true
      → entry.reply ≡ reply_to script.setup before actor entry.calls entry.kind
      → actor_name script actor ++ laid (said_words script frames hits entry.line entry.kind entry.reply) rest ≡ codes "display"
      ++ laid (number one.display ∷ codes "lost" ∷ lost_words one) rest' → ⊥
  entry-no-loss-by before entry frames hits rest one rest' (Session s) may has is =
      let proper = session-proper script named s (acts script entry.kind (Session s) may) in
      not-display (session_name script.sessions s) proper
      (told (session_name script.sessions s) (codes "display") (said_words script frames hits entry.line entry.kind entry.reply)
      (number one.display ∷ codes "lost" ∷ lost_words one) rest rest' (actor-word script named (Session s) (acts script entry.kind (Session s) may)) refl
      is).0
  entry-no-loss-by before entry frames hits rest one rest' Display may has is =
      let behind = append_cancel_left (codes "display") (laid (said_words script frames hits entry.line entry.kind entry.reply) rest)
      (laid (number one.display ∷ codes "lost" ∷ lost_words one) rest') is in
      let said : laid (number entry.line ∷ answer_words script frames hits entry.kind entry.reply) rest
      ≡ laid (number one.display ∷ codes "lost" ∷ lost_words one) rest' =
      ap (λ ws. laid ws rest) (sym (display-said script frames hits entry.line entry.kind entry.reply may)) ∙ behind in
      let next = told-next (number entry.line) (number one.display) (answer_words script frames hits entry.kind entry.reply) (codes "lost" ∷ lost_words one)
      rest rest' (number-word entry.line) (number-word one.display) said in
      no-lost-said script frames hits before entry.calls entry.kind entry.reply (lost_words one) rest rest' may has next.1
  entry-no-loss-by before entry frames hits rest one rest' (Probe p) may has is = acts script entry.kind (Probe p) may

  pub entry-no-loss : (before : List Entry) (entry : Entry) (frames : ℕ) (hits : ℤ → ℤ → List Hit) (rest : List ℕ) → LegalEntry script.setup before entry
      → NoLoss (line_on (entry_line script frames hits entry) rest)
  entry-no-loss before entry frames hits rest legal one rest' is =
      entry-no-loss-by before entry frames hits rest one rest' entry.actor legal.may.acts legal.reply is

  -- the lines of two entries that begin one text have one actor
  pub entry-actors : (frames frames' : ℕ) (hits hits' : ℤ → ℤ → List Hit) (e e' : Entry) (rest rest' : List ℕ) → Acts script e.actor → Acts script e'.actor
      → line_on (entry_line script frames hits e) rest ≡ line_on (entry_line script frames' hits' e') rest'
      → actor_name script e.actor ≡ actor_name script e'.actor
  entry-actors frames frames' hits hits' e e' rest rest' of_e of_e' is =
      (told (actor_name script e.actor) (actor_name script e'.actor) (said_words script frames hits e.line e.kind e.reply)
      (said_words script frames' hits' e'.line e'.kind e'.reply) rest rest'
      (actor-word script named e.actor of_e) (actor-word script named e'.actor of_e') is).0

  -- ---- the other lines

  -- an event
  pub event-no-loss : (s : SessionNo) (posted : Event) (rest : List ℕ) → NoLoss (line_on (event_line script s posted) rest)
  event-no-loss s posted rest one rest' is = differ 62 100 refl (first is)

  -- the end of the report
  pub end-no-entry : (ws : List Word) (rest : List ℕ) → NoEntry script (line_on (codes "report" ∷ codes "ends" ∷ ws) rest)
  end-no-entry ws rest frames hits entry rest' acting is =
      let behind = (told (codes "report") (actor_name script entry.actor) (codes "ends" ∷ ws) (said_words script frames hits entry.line entry.kind entry.reply)
      rest rest' refl (actor-word script named entry.actor acting) is).1 in
      let said : laid (codes "ends" ∷ ws) rest ≡ laid (first_said entry.line entry.kind ∷ then_said script frames hits entry.kind entry.reply) rest' =
      behind ∙ ap (λ vs. laid vs rest') (said-is script frames hits entry.line entry.kind entry.reply) in
      not-ends entry.line entry.kind (told-next (codes "ends") (first_said entry.line entry.kind) ws (then_said script frames hits entry.kind entry.reply) rest
      rest' refl (first-word entry.line entry.kind) said).0

  pub end-no-loss : (ws : List Word) (rest : List ℕ) → NoLoss (line_on (codes "report" ∷ ws) rest)
  end-no-loss ws rest one rest' is = differ 114 100 refl (first is)
