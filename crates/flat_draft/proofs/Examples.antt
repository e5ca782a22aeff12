-- The definitions, computed on a small draft: a root 1 with a child 2 that holds a filled rectangle.
use Rattle.std.proofs.Common.{◌≡◌, refl, true, false, [], ◌∷◌, None, Some, Ok, Err}
use Rattle.flat_base.specs.declared.errors.Reason.TheVariants.{HasView, NoView, ZeroId, UnknownTransform, UnknownContent, WrongContent}
use Rattle.flat_base.specs.declared.ids.PairNo.{PairNo}
use Rattle.flat_scene.specs.declared.calls.Interaction.TheVariants.{Default}
use Rattle.flat_scene.specs.declared.trees.Children.TheVariants.{Empty}
use Rattle.flat_scene.specs.declared.trees.Content.TheVariants as shown
use Rattle.flat_scene.specs.declared.trees.GraphFault.TheVariants as part
use Rattle.flat_scene.specs.Misuse.{first_reason}
use Rattle.flat_scene.specs.Trees.{more, node_count}
use Rattle.flat_graph.specs.declared.nodes.GraphNode.{GraphNode}
use Rattle.flat_graph.specs.State.{GraphState, new_node}
use Rattle.flat_content.specs.declared.stored_content.StoredContent.TheVariants.{Fill, Viewport}
use Rattle.flat_content.specs.Table.{TableState, empty_table, with_stored}
use Rattle.flat_snap.specs.Building.{with_children}
use Rattle.flat_scene.specs.declared.calls.Call.TheVariants.{CreateView, CreateFilledRect, ReplaceChildren}
use Rattle.flat_scene.specs.declared.calls.Watch.TheVariants as watch
use Rattle.flat_scene.specs.Draft.{empty_draft}
use Rattle.flat_draft.specs.Answers.{pair_watched, takes_memory}
use Rattle.flat_draft.specs.Parts.{content_tests, done, made, no_view_tests, view_tests, watch_tests, watched, without_named}
use Rattle.flat_draft.specs.Shown.{all_shown, content_shown, leaf, shown_nodes, shown_tree}
use Rattle.flat_draft.specs.State.{closed, emptied, empty_state}

abbrev table : TableState
table = with_stored (empty_table []) 7 (Fill (Some (record { rgba = 1 ∷ 2 ∷ 3 ∷ 4 ∷ []; size = (10, 20) })))

abbrev parent : GraphNode
parent = record (new_node 1) { children = 1 ∷ [] }

abbrev child : GraphNode
child = record (new_node 2) { content = Some (record { serial = 1; viewport = false }); hits = Some [] }

abbrev graph : GraphState
graph = record {
  nodes = Some parent ∷ Some child ∷ None ∷ [];
  names = (record { id = 5; key = 0 }) ∷ (record { id = 6; key = 1 }) ∷ [];
  root = Some 0;
  made = 2;
}

abbrev pair : PairNo
pair = record { 0 = 3 }

-- what a transform shows, and its node
content : (content_shown table None ≡ None) × (content_shown table (Some (record { serial = 1; viewport = false }))
    ≡ Some (shown.Fill 1 (1 ∷ 2 ∷ 3 ∷ 4 ∷ []) 10 20))
content = (refl, refl)

root-hits : ((leaf table true parent).hits ≡ (record { area = None; interaction = Default }) ∷ []) × ((leaf table false parent).hits ≡ [])
    × ((leaf table true child).hits ≡ [])
root-hits = (refl, refl, refl)

-- keys without a node are passed over, and levels cut off
deep : shown_nodes graph table 2 true (0 ∷ 2 ∷ []) ≡ more (with_children (leaf table true parent) (more (leaf table false child) Empty)) Empty
unfolding shown_nodes
deep = refl

flat : shown_nodes graph table 1 true (0 ∷ 2 ∷ []) ≡ more (leaf table true parent) Empty
unfolding shown_nodes
flat = refl

whole : (node_count (all_shown graph table) ≡ 2) × ((shown_tree (Some pair) graph table).view ≡ Some pair) × ((shown_tree None graph table).viewports ≡ [])
unfolding shown_nodes
whole = (refl, refl, refl)

-- the reasons where several parts are asked
views : (first_reason (view_tests (Some pair)) ≡ Some HasView) × (first_reason (view_tests None) ≡ None) × (first_reason (no_view_tests None) ≡ Some NoView)
views = (refl, refl, refl)

givings : (first_reason (content_tests graph table 0 8) ≡ Some ZeroId) × (first_reason (content_tests graph table 4 8) ≡ Some UnknownTransform)
    × (first_reason (content_tests graph table 5 8) ≡ Some UnknownContent)
    × (first_reason (content_tests graph table 5 7) ≡ None)
givings = (refl, refl, refl, refl)

dropped : ((without_named graph (Some 1)).nodes ≡ Some parent ∷ Some (record child { content = None }) ∷ None ∷ []) × (without_named graph None ≡ graph)
dropped = (refl, refl)

-- answers of the parts
answers : (made (Ok 4) ≡ Ok tt) × (made (Err part.Memory) ≡ Err part.Memory) × (done (Err NoView) ≡ Err (part.Bad NoView))
answers = (refl, refl, refl)

-- a misuse closes and changes nothing else; a Clear leaves the contents
states : ((closed (empty_state [])).closed ≡ true) × ((empty_state []).closed ≡ false)
    × ((emptied (record { graph = graph; contents = table; view = Some pair; closed = false })).view ≡ None)
    × ((emptied (record { graph = graph; contents = table; view = Some pair; closed = false })).contents.contents ≡ table.contents)
states = (refl, refl, refl, refl)

-- what a get means, by the parts and by the draft
abbrev seen : TableState
seen = with_stored table 9 (Viewport pair (record { w = 1; h = 1; inset = record { top = 0; right = 0; bottom = 0; left = 0 } }))

gets : (watched (Some pair) seen watch.Layout ≡ Some pair) × (watched None seen (watch.Child (record { 0 = 9 })) ≡ Some pair)
    × (first_reason (watch_tests None seen watch.Status) ≡ Some NoView)
    × (first_reason (watch_tests None seen (watch.Child (record { 0 = 7 }))) ≡ Some WrongContent)
gets = (refl, refl, refl, refl)

drafted : (pair_watched (record empty_draft { view = Some pair }) watch.Status ≡ Some pair) × (pair_watched empty_draft (watch.Child (record { 0 = 9 })) ≡ None)
drafted = (refl, refl)

taking : (takes_memory (CreateView pair) ≡ false) × (takes_memory (CreateFilledRect (record { 0 = 1 })) ≡ true)
    × (takes_memory (ReplaceChildren (record { 0 = 1 }) []) ≡ true)
taking = (refl, refl, refl)
