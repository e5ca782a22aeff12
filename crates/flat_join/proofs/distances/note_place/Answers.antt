use Rattle.std.proofs.Common.{◌≡◌, true, false, sym, ◌∙◌}
use Rattle.flat_join.proofs.Finding.{found-next, found-past}
use Rattle.flat_join.proofs.distances.note_place.Goals as goal

pub returns-then-is_at : goal.returns-then-is_at
returns-then-is_at c =
    found-next c.args.setup.now c.args.shown.now c.requires.fit c.args.distance c.args.i c.args.distances.now c.note_below.new.distances c.requires.known
    (c.is_at.ensures.0 c.if-is_at.true) c.note_below.ensures

pub returns-else-is_at : goal.returns-else-is_at
returns-else-is_at c =
    found-past c.args.setup.now c.args.shown.now c.requires.fit c.args.distance c.args.i c.args.distances.now c.requires.known
    (λ e. let wrong : true ≡ false = sym (c.is_at.ensures.1 e) ∙ c.if-is_at.false in absurd (cc))
