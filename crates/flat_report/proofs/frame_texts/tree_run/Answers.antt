use Rattle.std.proofs.Common.{◌≡◌, ℕ, List, subst}
use Rattle.std.specs.Prelude.{IfOk}
use Rattle.std.specs.Arc.{arc_value}
use Rattle.flat_page.proofs.lemmas.PageLemmas.{all-put}
use Rattle.flat_report.proofs.frame_texts.tree_run.Goals as goal

pub returns : goal.returns
returns c =
    let P : List ℕ → Type 0 = λ t. IfOk c.run_of.result (λ run. arc_value run ≡ t) in
    subst P (all-put _ _ _ c.new-page.ensures c.in_ok-push_tree.ensures.text) c.run_of.ensures
