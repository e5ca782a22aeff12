-- The tree that a draft presents, and why there may be none.
use Rattle.std.specs.Prelude.{ℕ, zero, suc, ◌+◌, Bool, true, false, cond, ◌||◌, nat_lt, List, [], ◌∷◌, ◌++◌, length}
use Rattle.std.specs.Prelude.{filter_map, unwrap_or, option_to_list, slice_get, Option, Some, None, is_none}
use Rattle.std.specs.Option.{option_map, option_and_then}
use Rattle.std.specs.List.{list_any}
use Rattle.flat_base.specs.declared.errors.Reason.TheVariants.{Cycle, TreeTooLarge, ViewportTwice, TooManyFences}
use Rattle.flat_base.specs.declared.limits.TheConstants.{TREE_NODES_MAX, PATH_NODES_MAX, FENCES_PER_LIST_MAX}
use Rattle.flat_scene.specs.declared.calls.HitRegion.{HitRegion}
use Rattle.flat_scene.specs.declared.calls.Interaction.TheVariants.{Default}
use Rattle.flat_scene.specs.declared.calls.PresentArgs.{PresentArgs}
use Rattle.flat_scene.specs.declared.trees.Content.{Content}
use Rattle.flat_scene.specs.declared.trees.Content.TheVariants as content
use Rattle.flat_scene.specs.declared.trees.Node.{Node}
use Rattle.flat_scene.specs.declared.trees.Children.{Children}
use Rattle.flat_scene.specs.declared.trees.Children.TheVariants.{Empty}
use Rattle.flat_scene.specs.declared.trees.Tree.{Tree}
use Rattle.flat_scene.specs.declared.trees.ViewportUse.{ViewportUse}
use Rattle.flat_scene.specs.Draft.{Draft, Transform, Made, an_image, a_fill, a_viewport, of_serial}
use Rattle.flat_scene.specs.Misuse.{Test, first_reason, has_twice}
use Rattle.flat_scene.specs.Trees.{more, nodes, node_count, viewports_in}

-- a content as the tree shows it: a filled rectangle without a size isn't shown
abbrev pub shown_content : ℕ → Made → Option Content
shown_content serial (an_image i) =
    Some (content.Image serial i.buffers i.index i.sample i.destination.0 i.destination.1 i.blend i.flip i.opacity)
shown_content serial (a_fill (Some solid)) = Some (content.Fill serial solid.rgba solid.size.0 solid.size.1)
shown_content serial (a_fill None) = None
shown_content serial (a_viewport pair props) = Some (content.Viewport serial pair props)

-- the content of a serial that a transform may hold
abbrev pub content_held : Draft → Option ℕ → Option Content
content_held draft held =
    option_and_then (λ serial. option_and_then (shown_content serial) (of_serial draft.contents serial)) held

-- the hit regions of a transform: of the root the infinite one, where none were ever set
abbrev pub regions_of : Bool → Option (List HitRegion) → List HitRegion
regions_of is_root (Some regions) = regions
regions_of is_root None = cond is_root ((record { area = None; interaction = Default }) ∷ []) []

-- the node of a transform, with these children
abbrev pub node : Draft → Bool → ℕ → Transform → Children → Node
node draft is_root serial t children = record {
  serial = serial;
  scale = t.scale;
  turn = t.turn;
  place = t.place;
  clip = t.clip;
  opacity = t.opacity;
  hits = regions_of is_root t.hits;
  content = content_held draft t.content;
  children = children;
}

-- the node of each serial, one after another, where each has one
abbrev pub each : (ℕ → Option Node) → List ℕ → Option Children
each node_of [] = Some Empty
each node_of (serial ∷ serials) = option_and_then (λ n. option_map (more n) (each node_of serials)) (node_of serial)

-- the node of a transform, where no path from it has more nodes than that
abbrev pub node_within : ℕ → Draft → Bool → ℕ → Option Node
node_within zero draft is_root serial = None
node_within (suc levels) draft is_root serial =
    option_and_then (λ t. option_map (node draft is_root serial t) (each (node_within levels draft false) t.children))
    (of_serial draft.transforms serial)

-- the serials of a transform's children
abbrev pub children_at : Draft → ℕ → List ℕ
children_at draft serial = unwrap_or (option_map (λ t. t.children) (of_serial draft.transforms serial)) []

-- whether a path of that many steps begins at a transform
abbrev pub has_path : ℕ → Draft → ℕ → Bool
has_path zero draft serial = true
has_path (suc steps) draft serial = list_any (has_path steps draft) (children_at draft serial)

-- a path from the root takes more steps than there are transforms, so it meets one twice
abbrev pub is_cyclic : Draft → Bool
is_cyclic draft = unwrap_or (option_map (has_path (length draft.transforms + 1) draft) draft.root) false

-- the root and all below it, where no path is too long
abbrev pub all_nodes : Draft → Option Children
all_nodes draft = each (node_within PATH_NODES_MAX draft true) (option_to_list draft.root)

-- there are too many nodes, or there is a path that is too long
abbrev pub is_too_large : Option Children → Bool
is_too_large (Some all) = nat_lt TREE_NODES_MAX (node_count all)
is_too_large None = true

-- one viewport is the content of two nodes
abbrev pub shows_twice : Option Children → Bool
shows_twice (Some all) = has_twice (viewports_in all)
shows_twice None = false

-- what is asked of the tree at a present, in the order of the reasons
abbrev pub tree_tests : Draft → List Test
tree_tests draft =
    (is_cyclic draft, Cycle) ∷ (is_too_large (all_nodes draft), TreeTooLarge)
    ∷ (shows_twice (all_nodes draft), ViewportTwice) ∷ []

-- and then of the present's fences
abbrev pub present_tests : Draft → PresentArgs → List Test
present_tests draft args = tree_tests draft
    ++ (
      nat_lt FENCES_PER_LIST_MAX (length args.acquire) || nat_lt FENCES_PER_LIST_MAX (length args.release),
      TooManyFences,
    ) ∷ []

-- a viewport as it is used
abbrev pub use_in : ℕ → Made → Option ViewportUse
use_in serial (a_viewport pair props) = Some (record { serial = serial; pair = pair; props = props })
use_in serial other = None

-- the use that the viewport of a serial stands for
abbrev pub use_of : Draft → ℕ → Option ViewportUse
use_of draft serial = option_and_then (use_in serial) (of_serial draft.contents serial)

-- the first of the children
abbrev pub head_of : Children → Option Node
head_of all = slice_get (nodes all) 0

-- the tree to which a draft unfolds, where no path is too long
abbrev pub unfolded : Draft → Option Tree
unfolded draft = option_map (λ all.
    record { view = draft.view; root = head_of all; viewports = filter_map (use_of draft) draft.viewports })
    (all_nodes draft)

-- the tree that a draft presents: there is none where a test of the tree gives a reason
abbrev pub tree : Draft → Option Tree
tree draft = cond (is_none (first_reason (tree_tests draft))) (unfolded draft) None
