use Rattle.std.proofs.Common.{None, length, ap, sym, ◌∙◌}
use Rattle.std.proofs.lemmas.List.{length-set}
use Rattle.flat_stage.proofs.AtHome.{first_new, others_new}
use Rattle.flat_stage.proofs.stage.take_first.Goals as goal

pub returns-clause-seat : goal.returns-clause-seat
returns-clause-seat c = first_new c.args.seats.now.lock c.args.seats.now.seats c.requires.new c.in-Some.seat c.requires.some
    (sym c.in-Some.is ∙ c.take.ensures.seat)

pub returns-clause-wide : goal.returns-clause-wide
returns-clause-wide c = ap (λ s. length s.seats) c.take.ensures.away ∙ length-set c.args.seats.now.seats 0 None ∙ c.requires.new.wide

pub returns-clause-others : goal.returns-clause-others
returns-clause-others c = λ place above below.
    others_new c.args.seats.now.lock c.args.seats.now.seats c.requires.new c.take.new.self.lock c.take.new.self.seats
    (ap (λ s. s.lock) c.take.ensures.away) (ap (λ s. s.seats) c.take.ensures.away) place above below
