-- What frames show: of presents that they took, of sessions that closed, in what order views hang, and what clients are
-- told of them.
use Rattle.std.specs.Prelude.{ℕ, ℤ, ◌≡◌, ◌≢◌, false, true, List, ◌++◌, length, Option, Some, option_and_then}
use Rattle.std.specs.List.{All}
use Rattle.std.specs.Result.{result_ok}
use Rattle.flat_base.specs.declared.ids.Actor.TheVariants.{Display, Session}
use Rattle.flat_base.specs.declared.ids.PairNo.{PairNo}
use Rattle.flat_base.specs.declared.ids.SessionNo.{SessionNo}
use Rattle.flat_scene.specs.declared.calls.ViewportProps.{ViewportProps}
use Rattle.flat_scene.specs.declared.frames.DrawItem.{DrawItem}
use Rattle.flat_scene.specs.declared.frames.Hit.{Hit}
use Rattle.flat_scene.specs.declared.frames.ViewNode.{ViewNode}
use Rattle.flat_scene.specs.declared.journal.Entry.{Entry}
use Rattle.flat_scene.specs.declared.journal.Layout.{Layout}
use Rattle.flat_scene.specs.declared.journal.WatcherValue.TheVariants as tell
use Rattle.flat_scene.specs.declared.setup.Setup.{Setup}
use Rattle.flat_scene.specs.declared.trees.Tree.{Tree}
use Rattle.flat_scene.specs.Draft.{of_serial}
use Rattle.flat_scene.specs.Effect.{draft_of}
use Rattle.flat_scene.specs.Frames.{ratio, setup_at, taken}
use Rattle.flat_scene.specs.History.{is_closed, presents, Published}
use Rattle.flat_scene.specs.ViewTrees.{is_node}
use Rattle.flat_scene.specs.ViewShapes.{is_tree}
use Rattle.flat_topology.specs.Draw.{draw_list}
use Rattle.flat_topology.specs.Hits.{hit_list}
use Rattle.flat_topology.specs.Links.{IsChild}
use Rattle.flat_topology.specs.Views.{view_nodes}
use Rattle.flat_rules.specs.Ends.{props_of, taken_calls, to_finished, view_owner, viewport_owner, viewport_uses}
use Rattle.flat_rules.specs.Legal.{Legal}
use Rattle.flat_rules.specs.Shown.{shown, shown_states, tree_of}
use Rattle.flat_rules.specs.Watch.{display_props, layout_in, layout_of, status_of, told}

-- ---- presents that were taken

-- The last present that frames took of a session has a tree, and the session shows it until a frame takes another of
-- its presents or the session closes.
abbrev pub TakenStaysShown : Type 0
TakenStaysShown = (setup : Setup) (before later : List Entry) → Legal setup (later ++ before)
    → (s : SessionNo) (present : Published) → of_serial (presents s before) (taken setup before s) ≡ Some present
    → taken setup (later ++ before) s ≡ taken setup before s → is_closed s (later ++ before) ≡ false
    → (tree : Tree) × (tree_of setup present ≡ Some tree) × (shown setup (later ++ before) s ≡ Some tree)

-- ---- what a frame shows

-- what a frame draws, its views, and what a point of it hits; the history ends with the frame's begin
abbrev pub items_at : Setup → List Entry → List DrawItem
items_at setup begun = draw_list (setup_at setup begun) (shown_states setup begun)

abbrev pub views_at : Setup → List Entry → List ViewNode
views_at setup begun = view_nodes (setup_at setup begun) (shown_states setup begun)

abbrev pub hits_on : Setup → List Entry → ℤ → ℤ → List Hit
hits_on setup begun = hit_list (setup_at setup begun) (shown_states setup begun)

-- A frame has no view of a session, no draw item, and no hit.
pub record IsAbsent (setup : Setup) (begun : List Entry) (s : SessionNo) : Type 0 where
  pub views : All (λ view. view.session.0 ≢ s.0) (views_at setup begun)
  pub items : All (λ item. item.session.0 ≢ s.0) (items_at setup begun)
  pub hits : (x y : ℤ) → All (λ hit. hit.session.0 ≢ s.0) (hits_on setup begun x y)

-- A session that closed before a frame's begin is absent from that frame, and from each later one.
abbrev pub ClosedAreAbsent : Type 0
ClosedAreAbsent = (setup : Setup) (before later : List Entry) (s : SessionNo)
    → is_closed s before ≡ true → IsAbsent setup (later ++ before) s

-- Two frames draw the same, have the same views, and each point hits the same.
pub record ShowTheSame (setup : Setup) (begun begun' : List Entry) : Type 0 where
  pub items : items_at setup begun ≡ items_at setup begun'
  pub views : views_at setup begun ≡ views_at setup begun'
  pub hits : (x y : ℤ) → hits_on setup begun x y ≡ hits_on setup begun' x y

-- A frame shows the same as an earlier one if since then no session closed, no frame took a present, itself included,
-- and the pixel ratio is the same.
abbrev pub IdleFramesShowTheSame : Type 0
IdleFramesShowTheSame = (setup : Setup) (begun begun' later : List Entry) → begun' ≡ later ++ begun
    → ratio setup begun' ≡ ratio setup begun
    → ((s : SessionNo) → taken setup begun' s ≡ taken setup begun s)
    → ((s : SessionNo) → is_closed s begun' ≡ is_closed s begun)
    → ShowTheSame setup begun' begun

-- ---- views

-- The views of a frame are a tree: no session has two, the first view alone has no parent, and each other's parent
-- stands before it. A view's parent shows a viewport of that view's pair; the first view's viewport is the display's.
pub record HasViewTree (setup : Setup) (begun : List Entry) : Type 0 where
  pub tree : is_tree (views_at setup begun) ≡ true
  pub below : All (λ view. IsChild setup (shown_states setup begun) view.session.0 view.parent) (views_at setup begun)

-- The views of each frame of a legal history are a tree.
abbrev pub FramesHaveViewTrees : Type 0
FramesHaveViewTrees = (setup : Setup) (begun : List Entry) → Legal setup begun → HasViewTree setup begun

-- Whatever a frame draws, and whatever a point of it hits, is of sessions that have a view in that frame.
pub record HaveViews (setup : Setup) (begun : List Entry) : Type 0 where
  pub items : All (λ item. is_node (views_at setup begun) item.session ≡ true) (items_at setup begun)
  pub hits : (x y : ℤ) → All (λ hit. is_node (views_at setup begun) hit.session ≡ true) (hits_on setup begun x y)

abbrev pub SeenHaveViews : Type 0
SeenHaveViews = (setup : Setup) (begun : List Entry) → HaveViews setup begun

-- A status that tells connected is right: in the last finished frame the owner of the view has a view.
abbrev pub ConnectedHaveViews : Type 0
ConnectedHaveViews = (setup : Setup) (history : List Entry) (p : PairNo) (s : SessionNo)
    → view_owner setup p ≡ Some s → told setup history (status_of p) ≡ Some tell.Connected
    → is_node (views_at setup (to_finished history)) s ≡ true

-- ---- what is told

-- the properties of a session's n-th viewport of a pair, in the state that a frame shows; none where that has no such
-- viewport
abbrev pub props_shown : Setup → List Entry → SessionNo → PairNo → ℕ → Option ViewportProps
props_shown setup begun s p n = option_and_then (props_of p n) (result_ok (draft_of setup (taken_calls setup begun s)))

-- A layout is that of a frame: it has the frame's pixel ratio, and the size and insets that the frame gives the last
-- viewport of the pair. The display's are its own, at that ratio.
pub record IsLayoutAt (setup : Setup) (begun : List Entry) (p : PairNo) (uses : ℕ) (layout : Layout) : Type 0 where
  pub at_ratio : layout.ratio ≡ ratio setup begun
  pub of_display : viewport_owner setup p ≡ Some Display
      → tell.Layout layout ≡ layout_in layout.ratio (display_props layout.ratio setup)
  pub of_session : (s : SessionNo) (props : ViewportProps) → viewport_owner setup p ≡ Some (Session s)
      → props_shown setup begun s p uses ≡ Some props → tell.Layout layout ≡ layout_in layout.ratio props

-- A layout that is told is that of the last finished frame.
abbrev pub LayoutsAreOfFrames : Type 0
LayoutsAreOfFrames = (setup : Setup) (history : List Entry) (p : PairNo) (layout : Layout)
    → told setup history (layout_of p) ≡ Some (tell.Layout layout)
    → IsLayoutAt setup (to_finished history) p (length (viewport_uses p history)) layout
