use Rattle.std.proofs.Common.{◌*◌, ◌++◌, ◌∷◌, []}
use Rattle.std.specs.List.{flat_map}
use Rattle.flat_stress.specs.Words.{from_to}
use Rattle.flat_stress.specs.Load.{opening, node, move, fill, present}
use Rattle.flat_stress.proofs.Writing.{on_ok_of_err, two}
use Rattle.flat_stress.proofs.load.push_guest.Goals as goal

pub returns-in_err-push_opening : goal.returns-in_err-push_opening
returns-in_err-push_opening c = on_ok_of_err _ _ c.from_residual.ensures.0

pub returns-in_err-push_fills : goal.returns-in_err-push_fills
returns-in_err-push_fills c = on_ok_of_err _ _ c.from_residual-in_err-push_fills.ensures.0

pub returns-in_err-push_present : goal.returns-in_err-push_present
returns-in_err-push_present c = on_ok_of_err _ _ c.from_residual-in_err-push_present.ensures.0

pub returns : goal.returns
returns c =
    let i = c.args.i in
    let fills = flat_map (λ j. node i j ++ move i j (3 * j) (2 * j) ∷ fill i j) (from_to 2 33) in
    let shown = two fills (present i 0 ∷ []) _ _ _ c.in_ok-push_fills.ensures c.in_ok-push_present.ensures in
    two (opening i) (fills ++ present i 0 ∷ []) _ _ _ c.in_ok-push_opening.ensures shown
