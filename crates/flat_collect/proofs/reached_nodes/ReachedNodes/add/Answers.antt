use Rattle.std.proofs.Common.{rules, ◌≡◌, [], ◌∷◌, ◌++◌, slice_index_or, false, refl}
use Rattle.flat_collect.proofs.Marks.{adds-new}
use Rattle.flat_collect.proofs.reached_nodes.ReachedNodes.add.Goals as goal

pub returns-in_ok-push : goal.returns-in_ok-push
returns-in_ok-push c =
    let unmarked : slice_index_or c.args.self.now.marks.items c.args.key false ≡ false = search rules in
    let pushed : c.push.new.self.items ≡ c.args.self.now.keys.items ++ c.args.key ∷ [] = rw c.in_ok-push.was at c.push.ensures.items in
    adds-new c.args.key c.args.self.now _ c.requires.listed c.requires.within unmarked refl pushed
