use Rattle.std.proofs.Common.{◌<◌, ◌≤◌, ◌+◌, ℕ, List, length, sum, arith, ap, sym, ◌∙◌, subst}
use Rattle.flat_scene.specs.declared.setup.Setup.{Setup}
use Rattle.flat_scene.specs.Heads.{is_within_limits}
use Rattle.flat_play.proofs.lemmas.Places.{setup_is}
use Rattle.flat_play.proofs.lemmas.Starting.{few, limits_are, shares_length, shares_small}
use Rattle.flat_play.proofs.run.open_board.Goals as goal

pub shares_of-requires : goal.shares_of-requires
shares_of-requires c = let most : length c.args.script.now.lines ≤ 16777216 = few c.args.script.now c.requires in omega arith

pub open-requires-clause-limits : goal.open-requires-clause-limits
open-requires-clause-limits c = ap is_within_limits c.in_ok-setup.ensures ∙ limits_are c.args.script.now.setup (setup_is c.args.script.now c.requires)

pub open-requires-clause-actors : goal.open-requires-clause-actors
open-requires-clause-actors c = ap length c.in_ok-shares.ensures ∙ shares_length c.args.script.now
    ∙ ap (λ (s : Setup). s.sessions + 1) (sym c.in_ok-setup.ensures)

pub open-requires-clause-total : goal.open-requires-clause-total
open-requires-clause-total c =
    let P : List ℕ → Type 0 = λ xs. sum xs < 2147483648 in
    omega (arith, subst P (sym c.in_ok-shares.ensures) (shares_small c.args.script.now c.requires))
