-- What is drawn or hit is of sessions of the joined tree, and so of sessions with a view.
use Rattle.std.proofs.Common.{◌≡◌, ◌∙◌, sym, subst, ap, refl, ℕ, zero, suc, inl, inr, Bool, true, false, List, [], ◌∷◌, ◌++◌, length, map, Option, Some, None}
use Rattle.std.specs.Prelude.{ℤ, cond, ◌||◌, ◌==◌, ◌*ℤ◌, filter_map, reverse, option_map, unwrap_or}
use Rattle.std.specs.List.{All, list_any}
use Rattle.std.proofs.lemmas.Bool.{and_parts, eq-eqb, or_left, or_right}
use Rattle.std.proofs.lemmas.List.Elements.{All-nil, All-cons, All-append, All-weaker}
use Rattle.flat_base.specs.declared.ids.SessionNo.{SessionNo}
use Rattle.flat_geom.specs.Matrices.{unit}
use Rattle.flat_scene.specs.declared.frames.DrawItem.{DrawItem}
use Rattle.flat_scene.specs.declared.frames.Hit.{Hit}
use Rattle.flat_scene.specs.declared.frames.ViewNode.{ViewNode}
use Rattle.flat_scene.specs.declared.journal.Entry.{Entry}
use Rattle.flat_scene.specs.declared.journal.WatcherValue.TheVariants as tell
use Rattle.flat_scene.specs.declared.setup.Setup.{Setup}
use Rattle.flat_scene.specs.declared.trees.Children.{Children}
use Rattle.flat_scene.specs.declared.trees.Children.TheVariants.{Empty}
use Rattle.flat_scene.specs.declared.trees.Content.{Content}
use Rattle.flat_scene.specs.declared.trees.Content.TheVariants as content
use Rattle.flat_scene.specs.declared.trees.Node.{Node}
use Rattle.flat_scene.specs.Frames.{setup_at}
use Rattle.flat_scene.specs.Trees.{first}
use Rattle.flat_scene.specs.ViewTrees.{is_node}
use Rattle.flat_topology.specs.declared.PlacedNode.{PlacedNode}
use Rattle.flat_topology.specs.Draw.{node_item, painting_of}
use Rattle.flat_topology.specs.Hits.{first_of_each, hit_on}
use Rattle.flat_topology.specs.Join.{JoinedTree, Viewer, joined_nodes, joined_sessions, led_from, led_to, linked_to, sessions_in, viewed, viewer_from}
use Rattle.flat_topology.specs.Laws.{ViewsTheJoined}
use Rattle.flat_topology.specs.Pairs.{display_pair}
use Rattle.flat_topology.specs.Place.{Space, display_space, linked_space, node_space, placed_in, placed_node, placed_nodes}
use Rattle.flat_topology.specs.Shown.{Shown}
use Rattle.flat_topology.proofs.lemmas.Distinct.{In, in-left, in-right}
use Rattle.flat_rules.specs.Ends.{is_viewport_lost, to_finished, view_owner}
use Rattle.flat_rules.specs.Shown.{is_connected, shown_states}
use Rattle.flat_rules.specs.Watch.{are_joined, is_connected_by, shows_view}
use Rattle.flat_laws.specs.Shows.{ConnectedHaveViews, SeenHaveViews, views_at}
use Rattle.flat_laws.proofs.Absent.{all-first, all-given, all-reverse, hit-session, item-session}

in-found : (x : ℕ) (xs : List ℕ) → In x xs → list_any (λ y. y == x) xs ≡ true
in-found x [] on = absurd on
in-found x (y ∷ ys) (inl same) = or_left (y == x) (list_any (λ z. z == x) ys) (eq-eqb y x (sym same))
in-found x (y ∷ ys) (inr on) = or_right (y == x) (list_any (λ z. z == x) ys) (in-found x ys on)

-- ---- placed nodes

abbrev pub IsIn : List ℕ → PlacedNode → Type 0
IsIn sessions at = In at.session.0 sessions

in-wider : (t : ℕ) (xs ys : List ℕ) → ((x : ℕ) → In x xs → In x ys) → (nodes : List PlacedNode) → All (IsIn (t ∷ xs)) nodes → All (IsIn (t ∷ ys)) nodes
in-wider t xs ys wider nodes all = All-weaker (IsIn (t ∷ xs)) (IsIn (t ∷ ys)) (λ at on. by_place at on) nodes all
  where
    by_place : (at : PlacedNode) → IsIn (t ∷ xs) at → IsIn (t ∷ ys) at
    by_place at (inl same) = inl same
    by_place at (inr on) = inr (wider at.session.0 on)

module _ (led : ℕ → JoinedTree) (each : (q : ℕ) (outer : Space) → All (IsIn (sessions_in (led q))) (placed_in outer (led q))) where
  in-linked : (here : Space) (what : Option Content) → All (IsIn (sessions_in (linked_to led what))) (placed_in (linked_space here what) (linked_to led what))
  in-linked here None = All-nil (IsIn [])
  in-linked here (Some (content.Fill serial rgba w h)) = All-nil (IsIn [])
  in-linked here (Some (content.Image serial buffers index sample w h blend flip opacity)) = All-nil (IsIn [])
  in-linked here (Some (content.Viewport serial pair props)) = each pair.0 (linked_space here (Some (content.Viewport serial pair props)))

  pub in-nodes : (t : ℕ) (outer : Space) (nodes : Children)
      → All (IsIn (t ∷ sessions_in (joined_nodes led t nodes))) (placed_in outer (joined_nodes led t nodes))
  in-nodes t outer Empty = All-nil (IsIn (t ∷ []))
  in-nodes t outer (first serial scale turn place clip opacity hits what children rest) =
      let n : Node = record {
        serial = serial;
        scale = scale;
        turn = turn;
        place = place;
        clip = clip;
        opacity = opacity;
        hits = hits;
        content = what;
        children = children;
      } in
      let here : Space = node_space outer n in
      let a : List ℕ = sessions_in (linked_to led what) in
      let b : List ℕ = sessions_in (joined_nodes led t children) in
      let c : List ℕ = sessions_in (joined_nodes led t rest) in
      let P : PlacedNode → Type 0 = IsIn (t ∷ (a ++ (b ++ c))) in
      let child : List PlacedNode = placed_in (linked_space here what) (linked_to led what) in
      let lower : List PlacedNode = placed_in here (joined_nodes led t children) in
      let later : List PlacedNode = placed_in outer (joined_nodes led t rest) in
      All-cons P (placed_node t here n) (child ++ (lower ++ later)) (inl refl)
      (All-append P child (lower ++ later)
      (All-weaker (IsIn a) P (λ at on. inr (in-left at.session.0 a (b ++ c) on)) child (in-linked here what))
      (All-append P lower later
      (in-wider t b (a ++ (b ++ c)) (λ x on. in-right x a (b ++ c) (in-left x b c on)) lower (in-nodes t here children))
      (in-wider t c (a ++ (b ++ c)) (λ x on. in-right x a (b ++ c) (in-right x b c on)) later (in-nodes t outer rest))))

module _ (shown : Shown) where
  in-viewed : (views : ℕ) (found : Option Viewer) → ((q : ℕ) (outer : Space)
      → All (IsIn (sessions_in (led_to shown views q))) (placed_in outer (led_to shown views q)))
      → (outer : Space) → All (IsIn (sessions_in (viewed (led_to shown views) found))) (placed_in outer (viewed (led_to shown views) found))
  in-viewed views None each outer = All-nil (IsIn [])
  in-viewed views (Some viewer) each outer = in-nodes (led_to shown views) each viewer.session outer viewer.nodes

  pub in-led : (views p : ℕ) (outer : Space) → All (IsIn (sessions_in (led_to shown views p))) (placed_in outer (led_to shown views p))
  in-led zero p outer = All-nil (IsIn [])
  in-led (suc views) p outer = in-viewed views (viewer_from 1 shown p) (in-led views) outer

  in-joined : (setup : Setup) → All (IsIn (joined_sessions setup shown)) (placed_nodes setup shown)
  in-joined setup = by_pair (display_pair setup)
    where
      by_pair : (o : Option ℕ) → All (IsIn (sessions_in (led_from shown o))) (placed_in (display_space setup) (led_from shown o))
      by_pair None = All-nil (IsIn [])
      by_pair (Some p) = in-led (length shown) p (display_space setup)

-- ---- views

any-mapped : (s : ℕ) (views : List ViewNode) → list_any (λ t. t == s) (map (λ (v : ViewNode). v.session.0) views) ≡ true
    → list_any (λ (v : ViewNode). v.session.0 == s) views ≡ true
any-mapped s [] some = some
any-mapped s (v ∷ views) some = by_first (v.session.0 == s) (any-mapped s views) some
  where
    by_first : (b : Bool) → (list_any (λ t. t == s) (map (λ (u : ViewNode). u.session.0) views) ≡ true
        → list_any (λ (u : ViewNode). u.session.0 == s) views ≡ true)
        → (b || list_any (λ t. t == s) (map (λ (u : ViewNode). u.session.0) views)) ≡ true → (b || list_any (λ (u : ViewNode). u.session.0 == s) views) ≡ true
    by_first true later h = refl
    by_first false later h = later h

-- a session of the joined tree has a view
module _ (joined : ViewsTheJoined) (setup : Setup) (begun : List Entry) where
  view-found : (s : SessionNo) → list_any (λ t. t == s.0) (joined_sessions (setup_at setup begun) (shown_states setup begun)) ≡ true
      → is_node (views_at setup begun) s ≡ true
  view-found s some =
      any-mapped s.0 (views_at setup begun)
      (ap (list_any (λ t. t == s.0)) (joined (setup_at setup begun) (shown_states setup begun)) ∙ some)

  in-view : (s : SessionNo) → In s.0 (joined_sessions (setup_at setup begun) (shown_states setup begun)) → is_node (views_at setup begun) s ≡ true
  in-view s on = view-found s (in-found s.0 (joined_sessions (setup_at setup begun) (shown_states setup begun)) on)

-- ---- items and hits

abbrev HitIn : List ℕ → Hit → Type 0
HitIn sessions hit = In hit.session.0 sessions

abbrev ItemIn : List ℕ → DrawItem → Type 0
ItemIn sessions item = In item.session.0 sessions

pub seen-have-views : ViewsTheJoined → SeenHaveViews
seen-have-views joined setup begun =
    let states : Shown = shown_states setup begun in
    let at : Setup = setup_at setup begun in
    let sessions : List ℕ = joined_sessions at states in
    let nodes : All (IsIn sessions) (placed_nodes at states) = in-joined states at in
    let items : All (ItemIn sessions) (filter_map node_item (placed_nodes at states)) =
    all-given (IsIn sessions) (ItemIn sessions) node_item
    (λ n item on is. subst (λ (s : SessionNo). In s.0 sessions) (item-session n (painting_of n.opacity n.content) item is) on) (placed_nodes at states) nodes in
    let hits : (x y : ℤ) → All (HitIn sessions) (first_of_each (filter_map (hit_on (x *ℤ unit) (y *ℤ unit)) (reverse (placed_nodes at states)))) =
    λ x y. all-first (HitIn sessions) (filter_map (hit_on (x *ℤ unit) (y *ℤ unit)) (reverse (placed_nodes at states)))
    (all-given (IsIn sessions) (HitIn sessions) (hit_on (x *ℤ unit) (y *ℤ unit))
    (λ n hit on is. subst (λ (s : SessionNo). In s.0 sessions) (hit-session (x *ℤ unit) (y *ℤ unit) n hit is) on)
    (reverse (placed_nodes at states)) (all-reverse (IsIn sessions) (placed_nodes at states) nodes)) in
    record {
      items = All-weaker (ItemIn sessions) (λ (item : DrawItem). is_node (views_at setup begun) item.session ≡ true)
          (λ item on. in-view joined setup begun item.session on) _ items;
      hits = λ x y. All-weaker (HitIn sessions) (λ (hit : Hit). is_node (views_at setup begun) hit.session ≡ true)
          (λ hit on. in-view joined setup begun hit.session on) _ (hits x y);
    }

-- ---- connected

connected-then : (lost joined connected : Bool) → cond lost (Some tell.Gone) (cond joined (Some (cond connected tell.Connected tell.Disconnected)) None)
    ≡ Some tell.Connected
    → connected ≡ true
connected-then true j c is = absurd (cc)
connected-then false true true is = refl
connected-then false true false is = absurd (cc)
connected-then false false c is = absurd (cc)

pub connected-have-views : ViewsTheJoined → ConnectedHaveViews
connected-have-views joined setup history p s owner told_connected =
    let begun : List Entry = to_finished history in
    let connected : is_connected_by setup (to_finished history) p ≡ true =
    connected-then (is_viewport_lost setup (to_finished history) p) (are_joined setup history p) (is_connected_by setup (to_finished history) p)
    told_connected in
    let by_owner : unwrap_or (option_map (is_connected setup (to_finished history)) (view_owner setup p)) false ≡ true =
    (and_parts (shows_view setup (to_finished history) p) (unwrap_or (option_map (is_connected setup (to_finished history)) (view_owner setup p)) false)
    connected).1 in
    let here : is_connected setup (to_finished history) s ≡ true =
    sym (ap (λ (o : Option SessionNo). unwrap_or (option_map (is_connected setup (to_finished history)) o) false) owner) ∙ by_owner in
    view-found joined setup (to_finished history) s here
