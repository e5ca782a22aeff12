use Rattle.std.proofs.Common.{length, List, refl, ap, ◌∙◌}
use Rattle.std.specs.List.{count_by}
use Rattle.flat_scene.specs.declared.journal.Entry.{Entry}
use Rattle.flat_scene.specs.History.{is_finish}
use Rattle.flat_scene.specs.Journals.{history_of}
use Rattle.flat_run.specs.Totals.{is_present}
use Rattle.flat_run.proofs.Loads.{totals}
use Rattle.flat_run.proofs.load.totals_of.Goals as goal

pub returns : goal.returns
returns c =
    let journal = c.args.journal.now.entries.items in
    let entries = c.as_slice-entries.ensures.value in
    totals c.args.frames _ _ _ _ _ c.args.setup.now (history_of journal) journal _ refl c.requires refl
    (ap length entries) (c.finishes_and_presents-finishes.ensures.finishes ∙ ap (λ (es : List Entry). count_by (λ (e : Entry). is_finish e.kind) es) entries)
    (c.finishes_and_presents-finishes.ensures.presents ∙ ap (λ (es : List Entry). count_by (λ (e : Entry). is_present e.kind) es) entries) c.items_of.ensures
