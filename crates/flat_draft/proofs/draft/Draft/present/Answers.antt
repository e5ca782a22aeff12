use Rattle.std.proofs.Common.{◌≡◌, ◌∙◌, ap, subst, sym, false, true, Option, Some, rules}
use Rattle.flat_base.specs.declared.ids.PairNo.{PairNo}
use Rattle.flat_scene.specs.Tree.{tree}
use Rattle.flat_draft.specs.State.{DraftState}
use Rattle.flat_draft.specs.Shown.{shown_tree}
use Rattle.flat_graph.specs.Stands as graph
use Rattle.flat_collect.specs.Judge.{HasTree, IsJudged}
use Rattle.flat_collect.specs.declared.TreeCheck.TheVariants.{Good, Bad}
use Rattle.flat_collect.proofs.lemmas.Verdicts.{verdict_stands}
use Rattle.flat_draft.proofs.Shows.{many, stands-swept, tree-refuses, fences-allow, fences-refuse, tree-stands}
use Rattle.flat_draft.proofs.draft.Draft.present.Goals as goal

pub returns-in-Ok-Bad-clause-answered : goal.returns-in-Ok-Bad-clause-answered
returns-in-Ok-Bad-clause-answered c = λ setup draft s.
    let not_closed : c.args.self.now.closed ≡ false = search rules in
    let judged : IsJudged c.self.inside.graph (Bad c.in-Ok-Bad.reason) = rw (c.in-Ok-Bad.is, c.in-Ok-Bad.field-0-is) at c.judge.ensures in
    let g : graph.StandsFor c.self.inside.graph draft = rw (← c.self.view_is) at s.graph in
    let verdict = verdict_stands c.self.inside.graph draft (Bad c.in-Ok-Bad.reason) g judged in
    rw c.close.ensures.fault (not_closed, tree-refuses draft c.args.args.now c.in-Ok-Bad.reason verdict, c.close.ensures.closed)

pub returns-then-has_too_many-clause-answered : goal.returns-then-has_too_many-clause-answered
returns-then-has_too_many-clause-answered c = λ setup draft s.
    let not_closed : c.args.self.now.closed ≡ false = search rules in
    let judged : IsJudged c.self.inside.graph (Good c.in-Ok-Good.nodes) = rw (c.in-Ok-Good.is, c.in-Ok-Good.field-0-is) at c.judge.ensures in
    let g : graph.StandsFor c.self.inside.graph draft = rw (← c.self.view_is) at s.graph in
    let verdict = verdict_stands c.self.inside.graph draft (Good c.in-Ok-Good.nodes) g judged in
    let many_so : many c.args.args.now ≡ true = sym c.has_too_many.ensures ∙ c.if-has_too_many.true in
    rw c.close-then-has_too_many.ensures.fault (
      not_closed,
      fences-refuse draft c.args.args.now verdict.no_reason many_so,
      c.close-then-has_too_many.ensures.closed,
    )

pub returns-in-Ok-clause-answered : goal.returns-in-Ok-clause-answered
returns-in-Ok-clause-answered c = λ setup draft s.
    let not_closed : c.args.self.now.closed ≡ false = search rules in
    let judged : IsJudged c.self.inside.graph (Good c.in-Ok-Good.nodes) = rw (c.in-Ok-Good.is, c.in-Ok-Good.field-0-is) at c.judge.ensures in
    let g : graph.StandsFor c.self.inside.graph draft = rw (← c.self.view_is) at s.graph in
    let verdict = verdict_stands c.self.inside.graph draft (Good c.in-Ok-Good.nodes) g judged in
    let many_so : many c.args.args.now ≡ false = sym c.has_too_many.ensures ∙ c.if-has_too_many.false in
    let has : HasTree c.args.self.now.graph = subst (λ (state : DraftState). HasTree state.graph) c.self.view_is judged.0 in
    let shown : tree draft ≡ Some (shown_tree draft.view c.args.self.now.graph c.args.self.now.contents) =
    tree-stands setup c.args.self.now.graph c.args.self.now.contents draft s.graph s.contents has verdict.no_reason in
    record {
      still_open = not_closed;
      allowed = fences-allow draft c.args.args.now verdict.no_reason many_so;
      shows = shown ∙ ap (λ (view : Option PairNo). Some (shown_tree view c.args.self.now.graph c.args.self.now.contents)) (sym s.view)
          ∙ ap Some (sym c.in-Ok.ensures.shown);
      swept = c.in-Ok.ensures.swept;
      rest = c.in-Ok.ensures.rest;
      stands = λ other_setup other stands. stands-swept other_setup c.args.self.now c.snapshot.new.self other c.in-Ok.ensures.swept c.in-Ok.ensures.rest stands;
    }
