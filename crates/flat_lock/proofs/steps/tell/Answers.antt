use Rattle.std.proofs.Common.{rules, ap, ◌∙◌}
use Rattle.flat_lock.proofs.Telling.{notes, tells, hears}
use Rattle.flat_lock.proofs.steps.tell.Goals as goal

pub split_seat-note-requires : goal.split_seat-note-requires
split_seat-note-requires g c = (search rules, search rules, notes _ _ _ _ _)

pub join_seat-requires : goal.join_seat-requires
join_seat-requires g c = let note = c.split_seat-note.ensures in (
  search rules,
  search rules,
  ap (λ m. m.1) note.4,
  search rules,
  tells _ _ _ _ _ _ _ c.requires.resting.0 (ap (λ m. m.0.turn) note.4),
)

pub load-requires : goal.load-requires
load-requires g c = (
  search rules,
  search rules,
  hears _ _ _ _ _ _ (ap (λ m. m.0.turn) c.join_seat.ensures.2 ∙ c.requires.resting.0),
)
