use Rattle.std.proofs.Common.{◌≡◌, ◌∙◌, rules, not, arith, ap, length, List}
use Rattle.std.proofs.lemmas.Fn.{filter_same}
use Rattle.flat_links.specs.declared.tokens.OutToken.{OutToken}
use Rattle.flat_links.specs.Viewports.{is_back, still_out, back_events}
use Rattle.flat_links.proofs.Backs.{back-or-out}
use Rattle.flat_links.proofs.viewports.Viewports.take_back.Goals as goal

pub returns-clause-out : goal.returns-clause-out
returns-clause-out c = filter_same _ (λ one. not (is_back c.args.taken one)) _ (λ x b f' t. search rules) _ _ c.retain.ensures.filtered

pub returns-clause-due : goal.returns-clause-due
returns-clause-due c =
    let outs = c.args.self.now.out.items in
    let is : length c.retain.new.self.items ≡ length (still_out c.args.taken outs) = ap (length {A = OutToken}) (returns-clause-out c) in
    let count : c.post_back-count.result ≡ length (back_events c.args.taken outs) =
    c.post_back-count.ensures.count ∙ ap (λ (l : List OutToken). length (back_events c.args.taken l)) c.as_slice.ensures.value in
    omega (arith, back-or-out c.args.taken outs, is, count)
