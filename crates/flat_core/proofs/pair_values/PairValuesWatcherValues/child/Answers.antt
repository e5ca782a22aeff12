use Rattle.std.proofs.Common.{◌≡◌, sym, subst, ◌∙◌}
use Rattle.flat_scene.specs.declared.setup.Setup.{Setup}
use Rattle.flat_links.specs.SessionLinks.{AreLinked}
use Rattle.flat_rules.specs.Legal.{Legal}
use Rattle.flat_rules.specs.Watch.{told, child_of}
use Rattle.flat_gets.proofs.lemmas.GetPosts.{undeclared-untold}
use Rattle.flat_core.proofs.PairValueSteps.{unknown}
use Rattle.flat_core.proofs.pair_values.PairValuesWatcherValues.child.Goals as goal

pub returns-then-knows : goal.returns-then-knows
returns-then-knows c = λ setup history n stands.
    let links = c.args.self.now.links.now in
    let A : Setup → Type 0 = λ s. AreLinked s history links.linked_sessions.items links.pairs.items in
    let L : Setup → Type 0 = λ s. Legal s history in
    let R : Setup → Type 0 = λ s. c.child.result ≡ told s history (child_of c.args.p n) in
    subst R stands.same (c.child.ensures history n (subst A (sym stands.same) stands.tied) (subst L (sym stands.same) stands.legal))

pub returns-else-knows : goal.returns-else-knows
returns-else-knows c = λ setup history n stands. sym ((undeclared-untold setup history stands.legal c.args.p
    (unknown _ _ _ _ setup history stands c.args.p (sym c.knows.ensures ∙ c.if-knows.false))).1.1 n)
