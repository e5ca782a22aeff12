-- The lines of a history tell its entries, one after another, and the displays that were lost.
use Rattle.std.proofs.Common.{◌≡◌, ℕ, suc, ◌<◌, ◌≤◌, ◌==◌, Bool, true, false, cond, List, [], ◌∷◌, ◌++◌, length, map, filter, refl, subst, sym, ap, ◌∙◌, arith}
use Rattle.std.specs.List.{list_all}
use Rattle.std.proofs.lemmas.Bool.Decides.{nat_tests}
use Rattle.flat_scene.specs.declared.frames.LostDisplay.{LostDisplay}
use Rattle.flat_scene.specs.declared.journal.Entry.{Entry}
use Rattle.flat_scene.specs.History.{◌▹◌, is_finish}
use Rattle.flat_rules.specs.Ends.{to_begin, to_finished}
use Rattle.flat_rules.specs.Legal.{LegalEntry, frames}
use Rattle.flat_rules.specs.Posts.{Sent, posted}
use Rattle.flat_places.specs.declared.script.Script.{Script}
use Rattle.flat_lines.specs.EntryLines.{entry_line, event_line}
use Rattle.flat_lines.specs.FrameLines.{frame_lines, lost_line, lost_at}
use Rattle.flat_report.specs.Report.{frame_at, hits_at, shown_lines, entry_lines}
use Rattle.flat_places.specs.Forms.{Word}
use Rattle.flat_report.proofs.lemmas.Losses.{AgreeTo, is_small, losses-told, all-at}
use Rattle.flat_report.proofs.lemmas.Named.{IsNamed, Acts, acts, same-actor}
use Rattle.flat_report.proofs.lemmas.Openings.{NoEntry, NoLoss, entry-no-loss, entry-actors, event-no-loss}
use Rattle.flat_report.proofs.lemmas.Sheets.{line_on, sheet, sheet-append, line-same, sheet-same}
use Rattle.flat_report.proofs.lemmas.Tails.{onto, tail}
use Rattle.flat_report.proofs.lemmas.Turns.{Stands, stood, one-more}

-- What two texts of later entries tell: the entries, the displays lost at their frames, and what stands behind.
pub record Tells (before later later' : List Entry) (lost lost' : List LostDisplay) (rest rest' : List ℕ) : Type 0 where
  pub entries : later ≡ later'
  pub losses : AgreeTo (frames before) (frames (onto before later)) lost lost'
  pub behind : rest ≡ rest'

-- the displays lost at one more frame, where an entry finishes it
one-frame-more : (b : Bool) (n to : ℕ) (lost lost' : List LostDisplay) → (b ≡ true → lost_at (suc n) lost ≡ lost_at (suc n) lost')
    → AgreeTo (cond b (suc n) n) to lost lost' → AgreeTo n to lost lost'
one-frame-more false n to lost lost' here later = later
one-frame-more true n to lost lost' here later = λ m from upto. by_test (m == suc n) m refl from upto
  where
    by_test : (b : Bool) (m : ℕ) → (m == suc n) ≡ b → n < m → m ≤ to → lost_at m lost ≡ lost_at m lost'
    by_test true m is from upto = let same : suc n ≡ m = grind (arith, nat_tests) in subst (λ (k : ℕ). lost_at k lost ≡ lost_at k lost') same (here refl)
    by_test false m is from upto = later m (let more : suc n < m = grind (arith, nat_tests) in more) upto

frames-one : (before : List Entry) (entry : Entry) → frames (before ▹ entry) ≡ cond (is_finish entry.kind) (suc (frames before)) (frames before)
frames-one before entry = by_test (is_finish entry.kind)
  where
    by_test : (b : Bool) → length (cond b (entry ∷ filter (λ (e : Entry). is_finish e.kind) before) (filter (λ (e : Entry). is_finish e.kind) before))
        ≡ cond b (suc (frames before)) (frames before)
    by_test true = refl
    by_test false = refl

module _ (script : Script) (named : IsNamed script) where
  abbrev event_lines : List Sent → List (List Word)
  event_lines sents = map (λ sent. event_line script sent.to sent.event) sents

  -- the lines of later entries, and what stands behind them
  abbrev later_text : List LostDisplay → List Entry → List Entry → List ℕ → List ℕ
  later_text lost before later rest = sheet (tail (entry_lines script lost) before later) rest

  events-no-loss : (sents : List Sent) (text : List ℕ) → NoLoss text → NoLoss (sheet (event_lines sents) text)
  events-no-loss [] text none = none
  events-no-loss (sent ∷ sents) text none = event-no-loss script named sent.to sent.event (sheet (event_lines sents) text)

  later-no-loss : (lost : List LostDisplay) (before later : List Entry) (rest : List ℕ) → Stands script.setup script.count script.lines (onto before later)
      → NoLoss rest → NoLoss (later_text lost before later rest)
  later-no-loss lost before [] rest standing none = none
  later-no-loss lost before (entry ∷ later) rest standing none =
      entry-no-loss script named before entry (frames before) (hits_at script.setup (to_finished before))
      (sheet (cond (is_finish entry.kind) (shown_lines script lost before) [] ++ event_lines (posted script.setup before entry)
      ++ tail (entry_lines script lost) (before ▹ entry) later) rest)
      (stood script.setup script.count script.lines (before ▹ entry) later standing).legal.1

  -- what stands behind the lines of an entry, and the displays lost at its frame
  frame-told : (before : List Entry) (lost lost' : List LostDisplay) (b : Bool) (a a' : List ℕ) → list_all is_small lost ≡ true → list_all is_small lost' ≡ true
      → NoLoss a → NoLoss a'
      → sheet (cond b (shown_lines script lost before) []) a ≡ sheet (cond b (shown_lines script lost' before) []) a'
      → (a ≡ a') × (b ≡ true → lost_at (suc (frames before)) lost ≡ lost_at (suc (frames before)) lost')
  frame-told before lost lost' false a a' fits fits' none none' is = (is, λ wrong. absurd (let e : false ≡ true = wrong in cc))
  frame-told before lost lost' true a a' fits fits' none none' is =
      let n = suc (frames before) in
      let shown = frame_lines script (frame_at script.setup n (to_begin before)) in
      let parts = sym (sheet-append shown (map lost_line (lost_at n lost)) a) ∙ is ∙ sheet-append shown (map lost_line (lost_at n lost')) a' in
      let behind = sheet-same shown (sheet (map lost_line (lost_at n lost)) a) (sheet (map lost_line (lost_at n lost')) a') parts in
      let told = losses-told n (lost_at n lost) (lost_at n lost') a a' (all-at n lost fits) (all-at n lost' fits') none none' behind in
      (told.1, λ b. told.0)

  entry-text : (lost : List LostDisplay) (before : List Entry) (entry : Entry) (later : List Entry) (rest : List ℕ)
      → later_text lost before (entry ∷ later) rest ≡ line_on (entry_line script (frames before) (hits_at script.setup (to_finished before)) entry)
      (sheet (cond (is_finish entry.kind) (shown_lines script lost before) [])
      (sheet (event_lines (posted script.setup before entry)) (later_text lost (before ▹ entry) later rest)))
  entry-text lost before entry later rest =
      let shown = cond (is_finish entry.kind) (shown_lines script lost before) [] in
      let events = event_lines (posted script.setup before entry) in
      ap (line_on (entry_line script (frames before) (hits_at script.setup (to_finished before)) entry))
      (sheet-append (shown ++ events) (tail (entry_lines script lost) (before ▹ entry) later) rest
      ∙ sheet-append shown events (later_text lost (before ▹ entry) later rest))

  -- one entry that both have
  same-step : (lost lost' : List LostDisplay) (before : List Entry) (entry : Entry) (later later' : List Entry) (rest rest' : List ℕ)
      → list_all is_small lost ≡ true
      → list_all is_small lost' ≡ true → NoLoss rest → NoLoss rest'
      → Stands script.setup script.count script.lines (onto before (entry ∷ later))
      → Stands script.setup script.count script.lines (onto before (entry ∷ later'))
      → later_text lost before (entry ∷ later) rest ≡ later_text lost' before (entry ∷ later') rest'
      → (later_text lost (before ▹ entry) later rest ≡ later_text lost' (before ▹ entry) later' rest'
      → Tells (before ▹ entry) later later' lost lost' rest rest')
      → Tells before (entry ∷ later) (entry ∷ later') lost lost' rest rest'
  same-step lost lost' before entry later later' rest rest' fits fits' none none' standing standing' is further =
      let sents = posted script.setup before entry in
      let text = later_text lost (before ▹ entry) later rest in
      let text' = later_text lost' (before ▹ entry) later' rest' in
      let a = sheet (event_lines sents) text in
      let a' = sheet (event_lines sents) text' in
      let line = entry_line script (frames before) (hits_at script.setup (to_finished before)) entry in
      let behind = line-same line (sheet (cond (is_finish entry.kind) (shown_lines script lost before) []) a)
      (sheet (cond (is_finish entry.kind) (shown_lines script lost' before) []) a')
      (sym (entry-text lost before entry later rest) ∙ is ∙ entry-text lost' before entry later' rest') in
      let no_a : NoLoss a = events-no-loss sents text (later-no-loss lost (before ▹ entry) later rest standing none) in
      let no_a' : NoLoss a' = events-no-loss sents text' (later-no-loss lost' (before ▹ entry) later' rest' standing' none') in
      let frame = frame-told before lost lost' (is_finish entry.kind) a a' fits fits' no_a no_a' behind in
      let next = further (sheet-same (event_lines sents) text text' frame.0) in
      record {
        entries = ap (λ (es : List Entry). entry ∷ es) next.entries;
        losses = one-frame-more (is_finish entry.kind) (frames before) (frames (onto before (entry ∷ later))) lost lost' frame.1
            (subst (λ (k : ℕ). AgreeTo k (frames (onto before (entry ∷ later))) lost lost') (frames-one before entry) next.losses);
        behind = next.behind;
      }

  abbrev acting : (before : List Entry) (entry : Entry) → LegalEntry script.setup before entry → Acts script entry.actor
  acting before entry legal = acts script entry.kind entry.actor legal.may.acts

  -- later entries are told by their text
  pub later-told : (lost lost' : List LostDisplay) (before later later' : List Entry) (rest rest' : List ℕ) → list_all is_small lost ≡ true
      → list_all is_small lost' ≡ true
      → NoEntry script rest → NoEntry script rest' → NoLoss rest → NoLoss rest'
      → Stands script.setup script.count script.lines (onto before later) → Stands script.setup script.count script.lines (onto before later')
      → later_text lost before later rest ≡ later_text lost' before later' rest' → Tells before later later' lost lost' rest rest'
  later-told lost lost' before [] [] rest rest' fits fits' end end' none none' standing standing' is =
      record { entries = refl; losses = λ n from upto. absurd (omega (arith, from, upto)); behind = is }
  later-told lost lost' before [] (entry' ∷ later') rest rest' fits fits' end end' none none' standing standing' is =
      let legal' = (stood script.setup script.count script.lines (before ▹ entry') later' standing').legal.1 in
      absurd (end (frames before) (hits_at script.setup (to_finished before)) entry' _ (acting before entry' legal') is)
  later-told lost lost' before (entry ∷ later) [] rest rest' fits fits' end end' none none' standing standing' is =
      let legal = (stood script.setup script.count script.lines (before ▹ entry) later standing).legal.1 in
      absurd (end' (frames before) (hits_at script.setup (to_finished before)) entry _ (acting before entry legal) (sym is))
  later-told lost lost' before (entry ∷ later) (entry' ∷ later') rest rest' fits fits' end end' none none' standing standing' is =
      let here = stood script.setup script.count script.lines (before ▹ entry) later standing in
      let here' = stood script.setup script.count script.lines (before ▹ entry') later' standing' in
      let of_entry = acting before entry here.legal.1 in
      let of_entry' = acting before entry' here'.legal.1 in
      let hits = hits_at script.setup (to_finished before) in
      let names = entry-actors script named (frames before) (frames before) hits hits entry entry' _ _ of_entry of_entry' is in
      let actor = same-actor script named entry.actor entry'.actor of_entry of_entry' names in
      let same : entry ≡ entry' = one-more script.setup script.count script.lines before entry entry' actor here here' in
      subst (λ (e : Entry). Stands script.setup script.count script.lines (onto before (e ∷ later'))
      → later_text lost before (entry ∷ later) rest ≡ later_text lost' before (e ∷ later') rest'
      → Tells before (entry ∷ later) (e ∷ later') lost lost' rest rest')
      same
      (λ standing'' is''. same-step lost lost' before entry later later' rest rest' fits fits' none none' standing standing'' is''
      (λ behind. later-told lost lost' (before ▹ entry) later later' rest rest' fits fits' end end' none none' standing standing'' behind))
      standing' is
