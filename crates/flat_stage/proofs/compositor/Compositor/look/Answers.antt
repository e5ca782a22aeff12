use Rattle.flat_stage.proofs.Composing.{compositor_seen}
use Rattle.flat_stage.proofs.compositor.Compositor.look.Goals as goal

pub invariant_of-self : goal.invariant_of-self
invariant_of-self g c = compositor_seen c.self.inside.is_open c.self.inside.seat c.look.new.seat c.self.inside.start c.self.invariant c.look.ensures.sees
    c.look.ensures.legal c.look.ensures.mine
