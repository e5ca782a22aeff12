-- The report tells the whole run.
use Rattle.std.proofs.Common.{◌≡◌, ℕ, ◌<◌, ◌^◌, ◌==◌, ◌&&◌, nat_le, true, List, [], ◌∷◌, ◌++◌, length, reverse, map, codes, refl, subst, sym, ap, ◌∙◌, arith}
use Rattle.std.proofs.Common.{append-nil}
use Rattle.std.specs.List.{list_all, zip}
use Rattle.std.proofs.lemmas.Bool.Decides.{nat_tests}
use Rattle.std.proofs.lemmas.List.{reverse-reverse}
use Rattle.flat_scene.specs.declared.frames.LostDisplay.{LostDisplay}
use Rattle.flat_scene.specs.declared.journal.Entry.{Entry}
use Rattle.flat_rules.specs.Legal.{frames}
use Rattle.flat_places.specs.declared.script.Script.{Script}
use Rattle.flat_report.specs.Laws.{ReportsDetermineHistories}
use Rattle.flat_report.specs.Runs.{IsRun}
use Rattle.flat_report.specs.Report.{entry_lines, history_lines, never_falls, probe_lines, report, report_lines, seen_line}
use Rattle.flat_page.specs.Words.{number}
use Rattle.flat_places.specs.Forms.{Word}
use Rattle.flat_report.proofs.Determined.{Tells, later-told}
use Rattle.flat_report.proofs.FewFrames.{few-frames}
use Rattle.flat_report.proofs.lemmas.Losses.{losses-same}
use Rattle.flat_report.proofs.lemmas.Openings.{NoEntry, NoLoss, end-no-entry, end-no-loss}
use Rattle.flat_report.proofs.lemmas.Reading.{Kept, read-kept}
use Rattle.flat_report.proofs.lemmas.SeenTold.{probe-lines-are, seen-no-entry, seen-no-loss, seen-told}
use Rattle.flat_report.proofs.lemmas.Sheets.{line_on, sheet, sheet-append, line-same, text-is}
use Rattle.flat_report.proofs.lemmas.Tails.{onto, onto-reverse, tail, grows}
use Rattle.flat_report.proofs.lemmas.Turns.{Stands, stands}
use Rattle.std.proofs.lemmas.Bool.{and_parts}

-- a history is its entries, from the oldest on
from-oldest : (history : List Entry) → onto [] (reverse history) ≡ history
from-oldest history = onto-reverse [] (reverse history) ∙ append-nil (reverse (reverse history)) ∙ reverse-reverse history

module _ (script : Script) where
  -- the last line, and the lines of probes before it
  abbrev last_words : List Entry → List Word
  last_words history = codes "entries" ∷ number (length history) ∷ codes "frames" ∷ number (frames history) ∷ []

  abbrev last_text : List Entry → List ℕ
  last_text history = line_on (codes "report" ∷ codes "ends" ∷ last_words history) []

  abbrev ending : List Entry → List ℕ → List ℕ
  ending history seen = sheet (map (seen_line script history) (zip (probe_lines script) seen)) (last_text history)

  history-tail : (lost : List LostDisplay) (history : List Entry) → history_lines script lost history ≡ tail (entry_lines script lost) [] (reverse history)
  history-tail lost history =
      ap (history_lines script lost) (sym (from-oldest history))
      ∙ grows (history_lines script lost) (entry_lines script lost) (λ before entry. refl) [] (reverse history)

  report-text : (history : List Entry) (lost : List LostDisplay) (seen : List ℕ)
      → report script history lost seen ≡ line_on (codes "report" ∷ codes "flatland" ∷ number script.version ∷ [])
      (sheet (tail (entry_lines script lost) [] (reverse history)) (ending history seen))
  report-text history lost seen =
      let told = history_lines script lost history in
      let seen_lines = map (seen_line script history) (zip (probe_lines script) seen) in
      let end : List (List Word) = (codes "report" ∷ codes "ends" ∷ last_words history) ∷ [] in
      text-is (report_lines script history lost seen)
      ∙ ap (line_on (codes "report" ∷ codes "flatland" ∷ number script.version ∷ []))
      (sheet-append (told ++ seen_lines) end [] ∙ sheet-append told seen_lines (last_text history)
      ∙ ap (λ (ls : List (List Word)). sheet ls (ending history seen)) (history-tail lost history))

  -- What is seen by the probes, as the law asks it.
  record Sees (history : List Entry) (seen : List ℕ) : Type 0 where
    long : length seen ≡ length (probe_lines script)
    low : list_all (λ f. nat_le f (frames history)) seen ≡ true

  sees : (history : List Entry) (lost : List LostDisplay) (seen : List ℕ) → IsRun script history lost seen → Sees history seen
  sees history lost seen run =
      let two = (and_parts ((length seen == length (probe_lines script)) && list_all (λ f. nat_le f (frames history)) seen)
      (never_falls (zip (probe_lines script) seen)) run.seeing).0 in
      let parts = and_parts (length seen == length (probe_lines script)) (list_all (λ f. nat_le f (frames history)) seen) two in
      let count = parts.0 in
      record { long = grind (arith, nat_tests); low = parts.1 }

  module _ (kept : Kept (2 ^ 32) script) where
    standing : (history : List Entry) (lost : List LostDisplay) (seen : List ℕ) → IsRun script history lost seen
        → Stands script.setup script.count script.lines (onto [] (reverse history))
    standing history lost seen run =
        subst (λ (h : List Entry). Stands script.setup script.count script.lines h) (sym (from-oldest history))
        (stands script.setup script.count script.lines history run.legal run.interleaves)

    no-entry : (history : List Entry) (seen : List ℕ) → NoEntry script (ending history seen)
    no-entry history seen =
        seen-no-entry script kept.named history (probe_lines script) seen (last_text history) (probe-lines-are script kept.spoken)
        (end-no-entry script kept.named (last_words history) [])

    no-loss : (history : List Entry) (seen : List ℕ) → NoLoss (ending history seen)
    no-loss history seen =
        seen-no-loss script kept.named history (probe_lines script) seen (last_text history) (probe-lines-are script kept.spoken)
        (end-no-loss script kept.named (codes "ends" ∷ last_words history) [])

    history-told : (history history' : List Entry) (lost lost' : List LostDisplay) (seen seen' : List ℕ) → IsRun script history lost seen
        → IsRun script history' lost' seen'
        → report script history lost seen ≡ report script history' lost' seen'
        → Tells [] (reverse history) (reverse history') lost lost' (ending history seen) (ending history' seen')
    history-told history history' lost lost' seen seen' run run' is =
        let first : List Word = codes "report" ∷ codes "flatland" ∷ number script.version ∷ [] in
        let behind = line-same first (sheet (tail (entry_lines script lost) [] (reverse history)) (ending history seen))
        (sheet (tail (entry_lines script lost') [] (reverse history')) (ending history' seen'))
        (sym (report-text history lost seen) ∙ is ∙ report-text history' lost' seen') in
        later-told script kept.named lost lost' [] (reverse history) (reverse history') (ending history seen) (ending history' seen') run.numbered run'.numbered
        (no-entry history seen) (no-entry history' seen') (no-loss history seen) (no-loss history' seen') (standing history lost seen run)
        (standing history' lost' seen' run') behind

    -- where the history is one, the probes saw the same frames
    same-seen : (history : List Entry) (lost lost' : List LostDisplay) (seen seen' : List ℕ) → IsRun script history lost seen → IsRun script history lost' seen'
        → ending history seen ≡ ending history seen' → seen ≡ seen'
    same-seen history lost lost' seen seen' run run' is =
        let of = sees history lost seen run in
        let of' = sees history lost' seen' run' in
        let few = kept.few in
        let low : frames history < 2 ^ 64 = omega (
          arith,
          few,
          few-frames script.setup script.count script.lines history (stands script.setup script.count script.lines history run.legal run.interleaves),
        ) in
        seen-told script history script.setup.probes (frames history) (probe_lines script) seen seen' (last_text history) (last_text history) low
        (probe-lines-are script kept.spoken) of.long of'.long of.low of'.low is

    same-lost : (history : List Entry) (lost lost' : List LostDisplay) (seen seen' : List ℕ) → IsRun script history lost seen → IsRun script history lost' seen'
        → Tells [] (reverse history) (reverse history) lost lost' (ending history seen) (ending history seen') → lost ≡ lost'
    same-lost history lost lost' seen seen' run run' told =
        losses-same history lost lost' run.loss run'.loss (λ n from upto. told.losses n from
        (let same : frames (onto [] (reverse history)) ≡ frames history = ap frames (from-oldest history) in omega (arith, upto, same)))

    one-history : (history : List Entry) (lost lost' : List LostDisplay) (seen seen' : List ℕ) → IsRun script history lost seen
        → IsRun script history lost' seen'
        → report script history lost seen ≡ report script history lost' seen' → (lost ≡ lost') × (seen ≡ seen')
    one-history history lost lost' seen seen' run run' is =
        let told = history-told history history lost lost' seen seen' run run' is in
        (same-lost history lost lost' seen seen' run run' told, same-seen history lost lost' seen seen' run run' told.behind)

    same-history : (history history' : List Entry) → reverse history ≡ reverse history' → history ≡ history'
    same-history history history' is = sym (from-oldest history) ∙ ap (onto []) is ∙ from-oldest history'

    whole-told : (history history' : List Entry) (lost lost' : List LostDisplay) (seen seen' : List ℕ) → IsRun script history lost seen
        → IsRun script history' lost' seen'
        → report script history lost seen ≡ report script history' lost' seen' → (history ≡ history') × (lost ≡ lost') × (seen ≡ seen')
    whole-told history history' lost lost' seen seen' run run' is =
        let same = same-history history history' (history-told history history' lost lost' seen seen' run run' is).entries in
        let lists = subst (λ (h : List Entry). IsRun script h lost' seen' → report script history lost seen ≡ report script h lost' seen'
        → (lost ≡ lost') × (seen ≡ seen')) same
        (λ run'' is''. one-history history lost lost' seen seen' run run'' is'') run' is in
        (same, lists.0, lists.1)

pub reports-determine : ReportsDetermineHistories
reports-determine bytes script read history history' lost lost' seen seen' run run' is =
    whole-told script (read-kept bytes script read) history history' lost lost' seen seen' run run' is
