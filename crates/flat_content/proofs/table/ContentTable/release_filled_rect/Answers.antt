use Rattle.std.proofs.Common.{refl, arith}
use Rattle.flat_content.proofs.Soundness.{but-fewer, room-fewer, table-released}
use Rattle.flat_content.proofs.table.ContentTable.release_filled_rect.Goals as goal

pub invariant_of-self : goal.invariant_of-self
invariant_of-self c = (
  rw c.remove_name.ensures.items (table-released _ c.args.c.0 c.self.invariant.0),
  λ e. room-fewer (c.self.invariant.1 e) (rw c.remove_name.ensures.items (but-fewer c.args.c.0 c.self.inside.names.items c.self.invariant.0.sound.rising))
      c.remove_name.ensures.capacity (omega arith) refl,
)
