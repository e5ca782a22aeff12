use Rattle.std.proofs.Common.{◌+◌, ◌*◌, ◌%◌, ◌++◌, ◌∷◌, [], map}
use Rattle.std.specs.List.{flat_map}
use Rattle.flat_stress.specs.Words.{from_to}
use Rattle.flat_stress.specs.Load.{move, present, frame}
use Rattle.flat_stress.proofs.Writing.{two}
use Rattle.flat_stress.proofs.load.push_later.Goals as goal

pub returns : goal.returns
returns c =
    let k = c.args.k in
    let moves = map (λ i. move 1 i ((100 * i + k) % 900) ((50 * i + k) % 900)) (from_to 2 8) in
    let guests = flat_map (λ i. move i 2 (k % 90) 0 ∷ present i k ∷ []) (from_to 2 8) in
    let first = two moves (present 1 k ∷ []) _ _ _ c.in_ok-push_host_moves.ensures c.in_ok-push_present.ensures in
    two (moves ++ present 1 k ∷ [] ++ guests) (frame k) _ _ _ (two (moves ++ present 1 k ∷ []) guests _ _ _ first c.in_ok-push_guest_moves.ensures)
    c.in_ok-push_frame.ensures
