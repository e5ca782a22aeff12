use Rattle.std.proofs.Common.{[], refl, sym, subst, List}
use Rattle.flat_texts.specs.declared.damage.FrameDamage.{FrameDamage}
use Rattle.flat_texts.specs.Damages.{AreDamaged, none}
use Rattle.flat_texts.proofs.damage.FrameDamages.new.Goals as goal

pub returns : goal.returns
returns c = let D : List FrameDamage → Type 0 = AreDamaged [] [] in record { damaged = subst D (sym c.new.ensures.items) none; last = refl }
