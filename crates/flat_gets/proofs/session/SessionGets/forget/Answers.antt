use Rattle.std.proofs.Common.{◌∙◌, ap, rules, filter}
use Rattle.std.proofs.lemmas.Fn.{filter_same}
use Rattle.flat_gets.specs.Listed.{KeptGets, rises_from, view_waits, viewport_waits, waits_at}
use Rattle.flat_gets.proofs.PairLists.{rises-filter}
use Rattle.flat_gets.proofs.session.SessionGets.forget.Goals as goal

pub invariant_of-self : goal.invariant_of-self
invariant_of-self c =
    let pairs = c.args.pairs.now in
    let views = filter_same _ (waits_at view_waits pairs) _ (λ x b f' t. search rules) _ _ c.retain.ensures.filtered in
    let viewports = filter_same _ (waits_at viewport_waits pairs) _ (λ x b f' t. search rules) _ _ c.retain-2.ensures.filtered in (
      ap (rises_from 0) views ∙ rises-filter 0 (waits_at view_waits pairs) c.self.inside.views.items c.self.invariant.0,
      ap (rises_from 0) viewports ∙ rises-filter 0 (waits_at viewport_waits pairs) c.self.inside.viewports.items c.self.invariant.1,
    )

pub returns-clause-views : goal.returns-clause-views
returns-clause-views c =
    let test = waits_at view_waits c.args.pairs.now in
    filter_same _ test _ (λ x b f' t. search rules) _ _ c.retain.ensures.filtered ∙ ap (λ (k : KeptGets). filter test k.views) c.self.view_is

pub returns-clause-viewports : goal.returns-clause-viewports
returns-clause-viewports c =
    let test = waits_at viewport_waits c.args.pairs.now in
    filter_same _ test _ (λ x b f' t. search rules) _ _ c.retain-2.ensures.filtered ∙ ap (λ (k : KeptGets). filter test k.viewports) c.self.view_is
