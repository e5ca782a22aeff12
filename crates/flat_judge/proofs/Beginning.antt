-- Before the first entry, and behind the last one.
use Rattle.std.proofs.Common.{◌≡◌, ℕ, ◌&&◌, nat_lt, nat_le, true, List, [], ◌∷◌, reverse, Some, None}
use Rattle.std.proofs.Common.{refl, sym, ◌∙◌, subst, append-nil}
use Rattle.std.specs.List.{list_all}
use Rattle.std.proofs.lemmas.List.{reverse-reverse}
use Rattle.flat_base.proofs.lemmas.Tests.{and-left, and-true}
use Rattle.flat_scene.specs.declared.frames.LostDisplay.{LostDisplay}
use Rattle.flat_scene.specs.declared.journal.Entry.{Entry}
use Rattle.flat_rules.specs.Legal.{frames}
use Rattle.flat_places.specs.declared.script.Script.{Script}
use Rattle.flat_page.specs.Words.{text_of}
use Rattle.flat_lines.specs.Ends.{title_line}
use Rattle.flat_report.specs.Report.{is_loss}
use Rattle.flat_report.proofs.lemmas.Tails.{onto-reverse}
use Rattle.flat_judge.specs.declared.following.ReplayProgress.{ReplayProgress}
use Rattle.flat_judge.specs.Following.{AllGoOn, AreLosses, Begins, HasStopped, IsAlong, Passes, and_then, are_behind, told}
use Rattle.flat_judge.proofs.Along.{later_text, run-text, then-onto}
use Rattle.flat_judge.proofs.Fitting.{goes_before}
use Rattle.flat_judge.proofs.LossesTold.{loss-parts}

-- a history is its entries, the oldest first
from-oldest : (history : List Entry) → history ≡ and_then [] (reverse history)
from-oldest history = sym (then-onto [] (reverse history) ∙ onto-reverse [] (reverse history) ∙ append-nil (reverse (reverse history))
    ∙ reverse-reverse history)

-- displays are lost at frames from 1 on
all-behind : (history : List Entry) (lost : List LostDisplay) → is_loss history lost ≡ true → are_behind 0 lost ≡ true
all-behind history [] loss = refl
all-behind history (x ∷ lost) loss =
    let number_fits = nat_lt 0 x.frame.0 && nat_le x.frame.0 (frames history) in
    let first = and-left (number_fits && list_all (goes_before x) lost) (is_loss history lost) loss in
    and-true (and-left (nat_lt 0 x.frame.0) (nat_le x.frame.0 (frames history)) (and-left number_fits (list_all (goes_before x) lost) first))
    (all-behind history lost (loss-parts history x lost loss).1)

module _ (script : Script) (text : List ℕ) (along : ReplayProgress) (lost : along.lost ≡ []) where
  first-led : AllGoOn script text [] [] 0
  first-led read run report = record {
    later = reverse run.history;
    entries = from-oldest run.history;
    more = run.lost;
    losses = refl;
    behind = all-behind run.history run.lost run.is.loss;
  }

  -- the text has the first line
  pub first-along : (at : ℕ) → along.posted ≡ 0 → Passes text 0 (text_of (title_line script.version ∷ [])) (Some at)
      → IsAlong script text [] (record along { at = at })
  first-along at posted passes =
      let start : Begins text [] 0 = record { long = refl; is = refl } in
      let B : List LostDisplay → Type 0 = λ ls. Begins text (told script ls []) at in
      let L : List LostDisplay → Type 0 = λ ls. AllGoOn script text [] ls 0 in
      let A : List LostDisplay → Type 0 = λ ls. AreLosses 0 ls in
      record {
        begins = subst B (sym lost) (passes.1 [] start);
        within = passes.0;
        led = subst L (sym lost) first-led;
        losses = subst A (sym lost) ((λ history many. refl), refl);
        posted = posted;
      }

  -- it has another one
  pub first-parts : Passes text 0 (text_of (title_line script.version ∷ [])) None → HasStopped script text [] along
  first-parts parts =
      let start : Begins text [] 0 = record { long = refl; is = refl } in
      let A : List LostDisplay → Type 0 = λ ls. AreLosses 0 ls in
      record {
        only = λ read run report. absurd (parts [] (later_text run [] (reverse run.history)) start
            (report ∙ run-text run [] (reverse run.history) (from-oldest run.history)));
        losses = subst A (sym lost) ((λ history many. refl), refl);
      }
