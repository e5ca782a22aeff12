-- A run whose report a text is, and the text of its first entries.
use Rattle.std.proofs.Common.{◌≡◌, ℕ, suc, ◌≤◌, ◌^◌, ◌==◌, nat_lt, Bool, true, false, cond, List, [], ◌∷◌, ◌++◌, length, drop}
use Rattle.std.proofs.Common.{map, filter, codes, Some, None, refl, sym, ap, ◌∙◌, subst, arith, append_assoc, append-nil, true≢false}
use Rattle.std.specs.List.{zip}
use Rattle.std.proofs.lemmas.Bool.{and_parts}
use Rattle.std.proofs.lemmas.Bool.Decides.{nat_tests}
use Rattle.std.proofs.lemmas.List.{append_cancel_left}
use Rattle.flat_scene.specs.declared.frames.LostDisplay.{LostDisplay}
use Rattle.flat_scene.specs.declared.journal.Entry.{Entry}
use Rattle.flat_scene.specs.History.{◌▹◌, is_finish}
use Rattle.flat_rules.specs.Ends.{to_begin, to_finished}
use Rattle.flat_rules.specs.Legal.{frames}
use Rattle.flat_rules.specs.Posts.{posted}
use Rattle.flat_places.specs.declared.script.Script.{Script}
use Rattle.flat_page.specs.Words.{number, text_of}
use Rattle.flat_places.specs.Forms.{Word}
use Rattle.flat_lines.specs.Ends.{end_line, title_line}
use Rattle.flat_lines.specs.EntryLines.{entry_line, event_line}
use Rattle.flat_lines.specs.FrameLines.{frame_lines, lost_at, lost_line}
use Rattle.flat_report.specs.Report.{entry_lines, frame_at, history_lines, hits_at, probe_lines, seen_line, shown_lines}
use Rattle.flat_report.proofs.lemmas.Losses.{AgreeTo}
use Rattle.flat_report.proofs.lemmas.Named.{Acts, acts}
use Rattle.flat_report.proofs.lemmas.Reading.{Kept, read-kept}
use Rattle.flat_report.proofs.lemmas.SeenTold.{probe-lines-are}
use Rattle.flat_report.proofs.lemmas.Sheets.{line_on, sheet, sheet-append, text-sheet}
use Rattle.flat_report.proofs.lemmas.Tails.{grows, onto, tail, text-append}
use Rattle.flat_report.proofs.lemmas.Turns.{Stands, one-more, stands, stood}
use Rattle.flat_judge.specs.Following.{Begins, GoesOnTo, and_then, are_behind, next_actor, told}
use Rattle.flat_judge.specs.Verdicts.{IsRead, Run, report_of}
use Rattle.flat_judge.proofs.NextWords.{end-next, entry-next}

-- ---- lists of lost displays that agree

pub frames-one : (before : List Entry) (entry : Entry) → frames (before ▹ entry) ≡ cond (is_finish entry.kind) (suc (frames before)) (frames before)
frames-one before entry = by_test (is_finish entry.kind)
  where
    by_test : (b : Bool) → length (cond b (entry ∷ filter (λ (e : Entry). is_finish e.kind) before) (filter (λ (e : Entry). is_finish e.kind) before))
        ≡ cond b (suc (frames before)) (frames before)
    by_test true = refl
    by_test false = refl

pub shown-agree : (script : Script) (lost lost' : List LostDisplay) (before : List Entry) (b : Bool)
    → (b ≡ true → lost_at (suc (frames before)) lost ≡ lost_at (suc (frames before)) lost')
    → cond b (shown_lines script lost before) [] ≡ cond b (shown_lines script lost' before) []
shown-agree script lost lost' before true same = ap (λ (ls : List LostDisplay). frame_lines script
    (frame_at script.setup (suc (frames before)) (to_begin before))
    ++ map lost_line ls) (same refl)
shown-agree script lost lost' before false same = refl

pub history-agrees : (script : Script) (lost lost' : List LostDisplay) (history : List Entry) → AgreeTo 0 (frames history) lost lost'
    → history_lines script lost history ≡ history_lines script lost' history
history-agrees script lost lost' [] agree = refl
history-agrees script lost lost' (before ▹ entry) agree = by (is_finish entry.kind) refl (λ same. history-agrees script lost lost' before same)
  where
    events : List (List Word)
    events = map (λ sent. event_line script sent.to sent.event) (posted script.setup before entry)

    own : List Word
    own = entry_line script (frames before) (hits_at script.setup (to_finished before)) entry

    by : (b : Bool) → is_finish entry.kind ≡ b → (AgreeTo 0 (frames before) lost lost' → history_lines script lost before ≡ history_lines script lost' before)
        → history_lines script lost (before ▹ entry) ≡ history_lines script lost' (before ▹ entry)
    by true is before_agrees =
        let more : frames (before ▹ entry) ≡ suc (frames before) = frames-one before entry ∙ ap (λ b. cond b (suc (frames before)) (frames before)) is in
        let earlier = before_agrees (λ n from upto. agree n from (omega (arith, upto, more))) in
        let here = shown-agree script lost lost' before (is_finish entry.kind) (λ _. agree (suc (frames before)) (omega arith) (omega (arith, more))) in
        λ i. earlier i ++ (own ∷ here i ++ events)
    by false is before_agrees =
        let same : frames (before ▹ entry) ≡ frames before = frames-one before entry ∙ ap (λ b. cond b (suc (frames before)) (frames before)) is in
        let earlier = before_agrees (λ n from upto. agree n from (omega (arith, upto, same))) in
        let here = shown-agree script lost lost' before (is_finish entry.kind) (λ finish. absurd (true≢false (sym finish ∙ is))) in
        λ i. earlier i ++ (own ∷ here i ++ events)

pub told-agrees : (script : Script) (lost lost' : List LostDisplay) (history : List Entry) → AgreeTo 0 (frames history) lost lost'
    → told script lost history ≡ told script lost' history
told-agrees script lost lost' history agree = ap (λ (ls : List (List Word)). text_of (title_line script.version ∷ ls))
    (history-agrees script lost lost' history agree)

pub lost-append : (n : ℕ) (xs ys : List LostDisplay) → lost_at n (xs ++ ys) ≡ lost_at n xs ++ lost_at n ys
lost-append n [] ys = refl
lost-append n (x ∷ xs) ys = by (x.frame.0 == n) (lost-append n xs ys)
  where
    by : (b : Bool) → lost_at n (xs ++ ys) ≡ lost_at n xs ++ lost_at n ys
        → cond b (x ∷ lost_at n (xs ++ ys)) (lost_at n (xs ++ ys)) ≡ cond b (x ∷ lost_at n xs) (lost_at n xs) ++ lost_at n ys
    by true later = ap (λ (ls : List LostDisplay). x ∷ ls) later
    by false later = later

none-at : (n to : ℕ) (more : List LostDisplay) → n ≤ to → are_behind to more ≡ true → lost_at n more ≡ []
none-at n to [] upto behind = refl
none-at n to (x ∷ more) upto behind =
    let parts = and_parts (nat_lt to x.frame.0) (are_behind to more) behind in
    let first = parts.0 in
    let other : (x.frame.0 == n) ≡ false = grind (arith, nat_tests) in
    rw other (none-at n to more upto parts.1)

pub prefix-agrees : (to : ℕ) (lost more : List LostDisplay) → are_behind to more ≡ true → AgreeTo 0 to (lost ++ more) lost
prefix-agrees to lost more behind = λ n from upto. lost-append n lost more ∙ ap (λ (ls : List LostDisplay). lost_at n lost ++ ls)
    (none-at n to more upto behind)
    ∙ append-nil (lost_at n lost)

-- ---- a report from a history on

pub then-onto : (before later : List Entry) → and_then before later ≡ onto before later
then-onto before [] = refl
then-onto before (entry ∷ later) = then-onto (before ▹ entry) later

module _ {script : Script} (run : Run script) where
  -- what stands behind the lines of all entries
  abbrev pub ending : List ℕ
  ending = sheet (map (seen_line script run.history) (zip (probe_lines script) run.seen)) (line_on (end_line (length run.history) (frames run.history)) [])

  abbrev pub later_text : List Entry → List Entry → List ℕ
  later_text before later = text_of (tail (entry_lines script run.lost) before later) ++ ending

  abbrev seen_lines : List (List Word)
  seen_lines = map (seen_line script run.history) (zip (probe_lines script) run.seen)

  abbrev last_lines : List (List Word)
  last_lines = end_line (length run.history) (frames run.history) ∷ []

  ending-is : text_of (seen_lines ++ last_lines) ≡ ending
  ending-is = sym (append-nil (text_of (seen_lines ++ last_lines))) ∙ text-sheet (seen_lines ++ last_lines) [] ∙ sheet-append seen_lines last_lines []

  pub run-text : (before later : List Entry) → run.history ≡ and_then before later
      → report_of script run ≡ told script run.lost before ++ later_text before later
  run-text before later is =
      let title = title_line script.version in
      let first = history_lines script run.lost before in
      let next = tail (entry_lines script run.lost) before later in
      let all : history_lines script run.lost run.history ≡ first ++ next =
      ap (history_lines script run.lost) (is ∙ then-onto before later)
      ∙ grows (history_lines script run.lost) (entry_lines script run.lost) (λ b e. refl) before later in
      ap (λ (ls : List (List Word)). text_of (title ∷ ((ls ++ seen_lines) ++ last_lines))) all
      ∙ ap (λ (ls : List (List Word)). text_of (title ∷ ls))
      (append_assoc (first ++ next) seen_lines last_lines ∙ append_assoc first next (seen_lines ++ last_lines))
      ∙ text-append (title ∷ first) (next ++ (seen_lines ++ last_lines))
      ∙ ap (λ (t : List ℕ). told script run.lost before ++ t) (text-append next (seen_lines ++ last_lines) ∙ ap (λ (t : List ℕ). text_of next ++ t) ending-is)

-- the parts of an entry's lines
module _ (script : Script) (lost : List LostDisplay) (before : List Entry) (entry : Entry) where
  abbrev pub own_line : List Word
  own_line = entry_line script (frames before) (hits_at script.setup (to_finished before)) entry

  abbrev pub shown_here : List (List Word)
  shown_here = cond (is_finish entry.kind) (shown_lines script lost before) []

  abbrev pub events_here : List (List Word)
  events_here = map (λ sent. event_line script sent.to sent.event) (posted script.setup before entry)

  pub entry-parts : text_of (entry_lines script lost before entry) ≡ text_of (own_line ∷ []) ++ (text_of shown_here ++ text_of events_here)
  entry-parts = text-append (own_line ∷ []) (shown_here ++ events_here) ∙ ap (λ (t : List ℕ). text_of (own_line ∷ []) ++ t) (text-append shown_here events_here)

  pub told-more : told script lost (before ▹ entry) ≡ told script lost before ++ (text_of (own_line ∷ []) ++ (text_of shown_here ++ text_of events_here))
  told-more =
      text-append (title_line script.version ∷ history_lines script lost before) (entry_lines script lost before entry)
      ∙ ap (λ (t : List ℕ). told script lost before ++ t) entry-parts

  pub tail-parts : (later : List Entry) (rest : List ℕ)
      → text_of (tail (entry_lines script lost) before (entry ∷ later)) ++ rest
      ≡ text_of (own_line ∷ []) ++ (text_of shown_here ++ (text_of events_here ++ (text_of (tail (entry_lines script lost) (before ▹ entry) later) ++ rest)))
  tail-parts later rest =
      let next = text_of (tail (entry_lines script lost) (before ▹ entry) later) in
      let own = text_of (own_line ∷ []) in
      let shown = text_of shown_here in
      let events = text_of events_here in
      ap (λ (t : List ℕ). t ++ rest) (text-append (entry_lines script lost before entry) (tail (entry_lines script lost) (before ▹ entry) later)
      ∙ ap (λ (t : List ℕ). t ++ next) entry-parts)
      ∙ append_assoc (own ++ (shown ++ events)) next rest
      ∙ append_assoc own (shown ++ events) (next ++ rest)
      ∙ ap (λ (t : List ℕ). own ++ t) (append_assoc shown events (next ++ rest))

-- ---- a text that is the report of a run

module _ (script : Script) (text : List ℕ) (before : List Entry) (lost : List LostDisplay) (run : Run script) (is : text ≡ report_of script run) where
  module _ (goes : GoesOnTo before lost (frames before) run) where
    pub same-told : told script run.lost before ≡ told script lost before
    same-told =
        ap (λ (ls : List LostDisplay). told script ls before) goes.losses
        ∙ told-agrees script (lost ++ goes.more) lost before (prefix-agrees (frames before) lost goes.more goes.behind)

    pub text-here : text ≡ told script lost before ++ later_text run before goes.later
    text-here = is ∙ run-text run before goes.later goes.entries ∙ ap (λ (t : List ℕ). t ++ later_text run before goes.later) same-told

    module _ (at : ℕ) (begins : Begins text (told script lost before) at) where
      pub text-at : drop at text ≡ later_text run before goes.later
      text-at = append_cancel_left (told script lost before) (drop at text) (later_text run before goes.later) (sym begins.is ∙ text-here)

      abbrev last_words : List Word
      last_words = codes "entries" ∷ number (length run.history) ∷ codes "frames" ∷ number (frames run.history) ∷ []

      -- where the run has no further entry, the text says of nobody that it is next
      pub none-next : IsRead script → goes.later ≡ [] → next_actor script (drop at text) ≡ None
      none-next read none =
          let kept : Kept (2 ^ 32) script = read-kept read.0 script read.1 in
          ap (next_actor script) (text-at ∙ ap (later_text run before) none)
          ∙ end-next script kept.named run.history (probe_lines script) run.seen last_words [] (probe-lines-are script kept.spoken)

      -- the entry that comes next stands, and the text says whose it is
      pub run-next : IsRead script → (other : Entry) (more : List Entry) → goes.later ≡ other ∷ more
          → (next_actor script (drop at text) ≡ Some other.actor) × Stands script.setup script.count script.lines (before ▹ other)
      run-next read other more some =
          let kept : Kept (2 ^ 32) script = read-kept read.0 script read.1 in
          let S : List Entry → Type 0 = Stands script.setup script.count script.lines in
          let L : List Entry → Type 0 = λ es. Stands script.setup script.count script.lines (onto before es) in
          let whole : Stands script.setup script.count script.lines (onto before goes.later) =
          subst S (goes.entries ∙ then-onto before goes.later) (stands script.setup script.count script.lines run.history run.is.legal run.is.interleaves) in
          let standing : Stands script.setup script.count script.lines (before ▹ other) =
          stood script.setup script.count script.lines (before ▹ other) more (subst L some whole) in
          let acting : Acts script other.actor = acts script other.kind other.actor standing.legal.1.may.acts in
          let own = own_line script run.lost before other in
          let rest = text_of (shown_here script run.lost before other)
          ++ (text_of (events_here script run.lost before other) ++ (text_of (tail (entry_lines script run.lost) (before ▹ other) more) ++ ending run)) in
          let here : drop at text ≡ line_on own rest =
          text-at ∙ ap (later_text run before) some ∙ tail-parts script run.lost before other more (ending run) ∙ text-sheet (own ∷ []) rest in
          (ap (next_actor script) here ∙ entry-next script kept.named (frames before) (hits_at script.setup (to_finished before)) other rest acting, standing)

      -- where an entry may come next of whom the text says, it is that of the run
      pub next-entry : IsRead script → (entry : Entry) → next_actor script (drop at text) ≡ Some entry.actor
          → Stands script.setup script.count script.lines (before ▹ entry)
          → (later : List Entry) × (goes.later ≡ entry ∷ later)
      next-entry read entry turn standing = by goes.later refl
        where
          by : (later : List Entry) → goes.later ≡ later → (more : List Entry) × (goes.later ≡ entry ∷ more)
          by [] none = absurd (let wrong : Some entry.actor ≡ None = sym turn ∙ none-next read none in cc)
          by (other ∷ more) some =
              let its = run-next read other more some in
              let both : Some entry.actor ≡ Some other.actor = sym turn ∙ its.0 in
              let actor : entry.actor ≡ other.actor = cc in
              let same : entry ≡ other = one-more script.setup script.count script.lines before entry other actor standing its.1 in
              (more, some ∙ ap (λ (e : Entry). e ∷ more) (sym same))
