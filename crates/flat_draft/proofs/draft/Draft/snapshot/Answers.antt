use Rattle.std.proofs.Common.{◌∙◌, ap, subst}
use Rattle.flat_collect.specs.Sweep.{IsSwept}
use Rattle.flat_draft.specs.Shown.{shown_tree}
use Rattle.flat_draft.specs.State.{DraftState}
use Rattle.flat_draft.proofs.draft.Draft.snapshot.Goals as goal

pub returns : goal.returns
returns c =
    let IsSweptOf = λ (d : DraftState). IsSwept d.graph c.sweep.new.graph in
    record {
      shown = c.in_ok-shared.ensures.ok ∙ c.in_ok-snapshot.ensures ∙ ap (λ (d : DraftState). shown_tree d.view d.graph d.contents) c.self.view_is;
      swept = subst IsSweptOf c.self.view_is c.in_ok-sweep.ensures.swept;
      rest = ap (λ (d : DraftState). record d { graph = c.sweep.new.graph }) c.self.view_is;
      kept = tt;
    }
