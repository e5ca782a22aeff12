-- Small drafts and their trees, computed.
use Rattle.std.proofs.Common.{◌≡◌, ℕ, pos, List, [], ◌∷◌, refl, ◌++◌}
use Rattle.std.specs.Prelude.{◌||◌, true, false, Option, Some, None, Ok, Err, Result, zero, suc}
use Rattle.std.specs.Option.{option_map}
use Rattle.flat_base.specs.declared.ids.TransformId.{TransformId}
use Rattle.flat_base.specs.declared.ids.ContentId.{ContentId}
use Rattle.flat_base.specs.declared.shapes.Orientation.TheVariants.{Ccw0}
use Rattle.flat_base.specs.declared.errors.Reason.{Reason}
use Rattle.flat_base.specs.declared.errors.Reason.TheVariants as reason
use Rattle.flat_scene.specs.declared.calls.Call.{Call}
use Rattle.flat_scene.specs.declared.calls.Call.TheVariants as call
use Rattle.flat_scene.specs.declared.calls.Interaction.TheVariants.{Default}
use Rattle.flat_scene.specs.declared.trees.Tree.{Tree}
use Rattle.flat_scene.specs.declared.trees.Content.TheVariants as content
use Rattle.flat_scene.specs.declared.trees.Children.TheVariants.{Empty}
use Rattle.flat_scene.specs.Draft.{Draft}
use Rattle.flat_scene.specs.Effect.{draft_of}
use Rattle.flat_scene.specs.Misuse.{first_reason, children_of}
use Rattle.flat_scene.specs.Tree.{tree, present_tests, all_nodes}
use Rattle.flat_scene.specs.Trees.{node_count}
use Rattle.flat_scene.proofs.SmallHistories.{setup, t0}
use Rattle.flat_scene.specs.CallKinds.{is_fill_call, is_image_call, is_viewport_call}

abbrev pub t : ℕ → TransformId
t n = record { 0 = n }

abbrev pub c : ℕ → ContentId
c n = record { 0 = n }

abbrev pub one_fill : List Call
one_fill = call.CreateView t0 ∷ call.CreateTransform (t 1) ∷ call.SetRootTransform (t 1) ∷ call.CreateFilledRect (c 2)
    ∷ call.SetSolidFill (c 2) 255 0 0 255 10 10 ∷ call.SetContent (t 1) (c 2) ∷ []

-- the tree, the misuse or the reason why there is none
abbrev tree_after : List Call → Result (Option Tree) Reason
tree_after calls = tried (draft_of setup calls)
  where
    tried : Result Draft Reason → Result (Option Tree) Reason
    tried (Err r) = Err r
    tried (Ok d) = why (first_reason (present_tests d (record { time = 0; acquire = []; release = []; unsquashable = false })))
      where
        why : Option Reason → Result (Option Tree) Reason
        why (Some r) = Err r
        why None = Ok (tree d)

one_fill-tree : tree_after one_fill ≡ Ok (Some (record {
  view = Some t0;
  root = Some (record {
    serial = 1;
    scale = (65536, 65536);
    turn = Ccw0;
    place = (pos 0, pos 0);
    clip = None;
    opacity = 65536;
    hits = (record { area = None; interaction = Default }) ∷ [];
    content = Some (content.Fill 1 (255 ∷ 0 ∷ 0 ∷ 255 ∷ []) 10 10);
    children = Empty;
  });
  viewports = [];
}))
one_fill-tree = refl

-- a fill that is asked to be an image
wrong_sort : tree_after (call.CreateFilledRect (c 1) ∷ call.ReleaseImage (c 1) ∷ []) ≡ Err reason.WrongContent
wrong_sort = refl

-- a transform below itself
cycle : tree_after (call.CreateTransform (t 1) ∷ call.AddChild (t 1) (t 1) ∷ call.SetRootTransform (t 1) ∷ []) ≡ Err reason.Cycle
cycle = refl

-- n transforms
abbrev made : ℕ → List Call
made zero = []
made (suc n) = made n ++ call.CreateTransform (t (suc n)) ∷ []

-- each of the first n below the one before
abbrev hung : ℕ → List Call
hung zero = []
hung (suc n) = hung n ++ call.AddChild (t (suc n)) (t (suc (suc n))) ∷ []

chain_65 : tree_after (made 65 ++ hung 64 ++ call.SetRootTransform (t 1) ∷ []) ≡ Err reason.TreeTooLarge
chain_65 = refl

-- a diamond: four transforms and five nodes
abbrev diamond : List Call
diamond = made 4 ++ call.SetRootTransform (t 1) ∷ call.AddChild (t 1) (t 2) ∷ call.AddChild (t 1) (t 3) ∷ call.AddChild (t 2) (t 4) ∷ call.AddChild (t 3) (t 4)
    ∷ []

abbrev nodes_after : Result Draft Reason → Option ℕ
nodes_after (Ok d) = option_map node_count (all_nodes d)
nodes_after (Err r) = None

diamond_nodes : nodes_after (draft_of setup diamond) ≡ Some 5
diamond_nodes = refl

diamond_cycle : tree_after (diamond ++ call.AddChild (t 4) (t 1) ∷ []) ≡ Err reason.Cycle
diamond_cycle = refl

-- a name that is released and given again: the root has both transforms below it
abbrev renamed : List Call
renamed = call.CreateTransform (t 1) ∷ call.SetRootTransform (t 1) ∷ call.CreateTransform (t 5) ∷ call.AddChild (t 1) (t 5) ∷ call.ReleaseTransform (t 5)
    ∷ call.CreateTransform (t 5) ∷ call.AddChild (t 1) (t 5) ∷ []

renamed_nodes : nodes_after (draft_of setup renamed) ≡ Some 3
renamed_nodes = refl

-- the children of a transform, by their serials
abbrev child_serials : Result Draft Reason → List ℕ
child_serials (Ok d) = children_of d (t 1)
child_serials (Err r) = []

-- children that are replaced by two of them in another order, and by none
replaced : child_serials (draft_of setup (diamond ++ call.ReplaceChildren (t 1) (t 4 ∷ t 2 ∷ []) ∷ [])) ≡ 4 ∷ 2 ∷ []
replaced = refl

replaced_by_none : nodes_after (draft_of setup (diamond ++ call.ReplaceChildren (t 1) [] ∷ [])) ≡ Some 1
replaced_by_none = refl

-- the lowest reason decides: an id of 0, one that names nothing, one that stands twice
zero_child : draft_of setup (diamond ++ call.ReplaceChildren (t 1) (t 9 ∷ t 0 ∷ []) ∷ []) ≡ Err reason.ZeroId
zero_child = refl

unknown_child : draft_of setup (diamond ++ call.ReplaceChildren (t 1) (t 2 ∷ t 2 ∷ t 9 ∷ []) ∷ []) ≡ Err reason.UnknownTransform
unknown_child = refl

child_twice : draft_of setup (diamond ++ call.ReplaceChildren (t 1) (t 2 ∷ t 3 ∷ t 2 ∷ []) ∷ []) ≡ Err reason.AlreadyChild
child_twice = refl

-- ---- kinds of calls

releases_a_viewport : is_viewport_call (call.ReleaseViewport (record { 0 = 1 })) ≡ true
releases_a_viewport = refl

releases_an_image : is_image_call (call.ReleaseImage (record { 0 = 1 })) ≡ true
releases_an_image = refl

releases_a_fill : is_fill_call (call.ReleaseFilledRect (record { 0 = 1 })) ≡ true
releases_a_fill = refl

-- a Clear is on none of them
clears_all : (is_viewport_call call.Clear || is_image_call call.Clear || is_fill_call call.Clear) ≡ false
clears_all = refl
