use Rattle.std.proofs.Common.{◌+◌, reverse, ap, sym, ◌∙◌}
use Rattle.flat_stage.specs.Homes.{lock_seat}
use Rattle.flat_stage.specs.Seats.{entries_of_seat}
use Rattle.flat_stage.proofs.stage.Stage.close_seats.Goals as goal

pub returns-clause-compositor : goal.returns-clause-compositor
returns-clause-compositor c = c.close-board.ensures.seats 0 c.args.seat c.gather-seats.ensures.first

pub returns-clause-sessions : goal.returns-clause-sessions
returns-clause-sessions c = λ k s found.
    let told = c.close-board.ensures.seats (k + 1) (lock_seat s) (c.gather-seats.ensures.each k s found) in
    (told.0, told.1 ∙ ap (λ n. entries_of_seat n (reverse c.close-board.result.board.history)) (sym (c.gather-seats.ensures.places k s found)))
