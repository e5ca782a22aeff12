use Rattle.std.proofs.Common.{refl}
use Rattle.flat_display.proofs.Showing.{at_place, shown_by_answer, same_mapped}
use Rattle.flat_display.proofs.set.show_at.Goals as goal

pub returns-clause-shows : goal.returns-clause-shows
returns-clause-shows g c = (
  c.index_mut.result.now,
  _,
  at_place _ _ _ c.requires c.index_mut.ensures.value,
  refl,
  shown_by_answer _ _ _ _ _ _ c.show_one.ensures.shown c.show_one.ensures.failed c.show_one.ensures.same c.show_one.ensures.faults c.show_one.ensures.steady _
      c.is_ok.ensures.value,
)

pub returns-clause-kinds : goal.returns-clause-kinds
returns-clause-kinds g c = same_mapped _ _ _ _ _ (at_place _ _ _ c.requires c.index_mut.ensures.value) c.show_one.ensures.kind
