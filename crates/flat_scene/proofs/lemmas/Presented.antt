-- What is known of a draft that presents a tree.
use Rattle.std.proofs.Common.{◌≡◌, Bool, true, false, cond, refl}
use Rattle.std.specs.Prelude.{Option, Some, None, is_none}
use Rattle.flat_base.specs.declared.errors.Reason.{Reason}
use Rattle.flat_scene.specs.declared.trees.Tree.{Tree}
use Rattle.flat_scene.specs.Draft.{Draft}
use Rattle.flat_scene.specs.Misuse.{first_reason}
use Rattle.flat_scene.specs.Tree.{tree, tree_tests, unfolded}

none-of : (o : Option Reason) → is_none o ≡ true → o ≡ None
none-of None is = refl
none-of (Some r) is = cc

passed : (b : Bool) (o : Option Tree) (t : Tree) → cond b o None ≡ Some t → b ≡ true
passed true o t is = refl
passed false o t is = cc

inner : (b : Bool) (o : Option Tree) (t : Tree) → cond b o None ≡ Some t → o ≡ Some t
inner true o t is = is
inner false o t is = cc

-- the draft unfolds to that tree
pub tree-unfolded : (draft : Draft) (t : Tree) → tree draft ≡ Some t → unfolded draft ≡ Some t
tree-unfolded draft t is = inner (is_none (first_reason (tree_tests draft))) (unfolded draft) t is

-- no test of the tree gives a reason
pub tree-tested : (draft : Draft) (t : Tree) → tree draft ≡ Some t → first_reason (tree_tests draft) ≡ None
tree-tested draft t is = none-of (first_reason (tree_tests draft)) (passed (is_none (first_reason (tree_tests draft))) (unfolded draft) t is)

-- where no test gives a reason, the tree is what the draft unfolds to
pub tree-of-tested : (draft : Draft) → first_reason (tree_tests draft) ≡ None → tree draft ≡ unfolded draft
tree-of-tested draft none = by_reason (first_reason (tree_tests draft)) none
  where
    by_reason : (o : Option Reason) → o ≡ None → cond (is_none o) (unfolded draft) None ≡ unfolded draft
    by_reason None is = refl
    by_reason (Some r) is = cc
