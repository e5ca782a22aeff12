-- The steps of the walk that places the nodes of the joined tree.
use Rattle.std.proofs.Common.{ℕ, zero, suc, ◌+◌, ◌<◌, ◌≤◌, ◌≡◌, refl, sym, ap, ◌∙◌, Bool, true, false, cond, nat_lt, List, [], ◌∷◌, ◌++◌, length, Option, Some}
use Rattle.std.proofs.Common.{None, All, slice_get, arith}
use Rattle.std.proofs.lemmas.Bool.Decides.{nat_tests}
use Rattle.std.proofs.lemmas.List.{append_assoc, append-nil, length-append, length_push, take_at, drop_at}
use Rattle.std.proofs.lemmas.List.Elements.{All-nil, All-push, All-pop, All-head, All-take, All-drop}
use Rattle.flat_base.specs.declared.ids.SessionNo.{SessionNo}
use Rattle.flat_scene.specs.declared.trees.Children.{Children}
use Rattle.flat_scene.specs.declared.trees.Children.TheVariants.{Empty}
use Rattle.flat_scene.specs.declared.trees.Node.{Node}
use Rattle.flat_scene.specs.declared.trees.Tree.{Tree}
use Rattle.flat_scene.specs.Trees.{first}
use Rattle.flat_snap.specs.Flat.{FlatNode, flat_nodes, rooted}
use Rattle.flat_snap.specs.Forest.{as_node, forest_in, forest}
use Rattle.flat_snap.specs.Stretch.{IsStretch}
use Rattle.flat_snap.proofs.lemmas.Rebuilding.{forest-whole}
use Rattle.flat_snap.proofs.lemmas.Stretches.{IsFirst, stretch-first, stretch-whole, stretch-none, stretch-within}
use Rattle.flat_topology.specs.declared.PlacedNode.{PlacedNode}
use Rattle.flat_topology.specs.declared.ConnectedSession.{ConnectedSession}
use Rattle.flat_join.specs.declared.scope.Scope.{Scope}
use Rattle.flat_join.specs.declared.join_walk.NodeRange.{NodeRange}
use Rattle.flat_join.specs.declared.join_walk.JoinWalk.{JoinWalk}
use Rattle.flat_topology.specs.Shown.{Shown, state_of, nodes_of}
use Rattle.flat_topology.specs.Join.{JoinedTree, node, child_view, nothing, viewer_from, viewed, linked_to, joined_nodes, led_to}
use Rattle.flat_topology.specs.Place.{Space, seen_through, node_space, linked_space, placed_node, placed_in}
use Rattle.flat_topology.specs.Connected.{joined_count, connected_in}
use Rattle.flat_join.proofs.lemmas.Rooted.{rooted-alone}
use Rattle.flat_join.specs.Walking.{viewer_at, flat_of, space_of, tree_of, still_count, still_placed, still_connected, work, work_in, below_stretch}
use Rattle.flat_join.specs.Walking.{after_stretch, pushed, HasPut, IsOf, Continues, IsOnTheWay}

-- ---- one more stretch, which comes first

pub count-more : (shown : Shown) (left : List NodeRange) (s : NodeRange)
    → still_count shown (left ++ s ∷ []) ≡ joined_count (tree_of shown s) + still_count shown left
count-more shown [] s = omega arith
count-more shown (x ∷ left) s = omega (arith, count-more shown left s)

pub placed-more : (shown : Shown) (left : List NodeRange) (s : NodeRange)
    → still_placed shown (left ++ s ∷ []) ≡ placed_in (space_of s.scope) (tree_of shown s) ++ still_placed shown left
placed-more shown [] s = sym (append-nil (placed_in (space_of s.scope) (tree_of shown s)))
placed-more shown (x ∷ left) s =
    ap (λ (ps : List PlacedNode). ps ++ placed_in (space_of x.scope) (tree_of shown x)) (placed-more shown left s)
    ∙ append_assoc (placed_in (space_of s.scope) (tree_of shown s)) (still_placed shown left) (placed_in (space_of x.scope) (tree_of shown x))

pub connected-more : (shown : Shown) (next : ℕ) (left : List NodeRange) (s : NodeRange)
    → still_connected shown next (left ++ s ∷ []) ≡ connected_in next None (tree_of shown s)
    ++ still_connected shown (next + joined_count (tree_of shown s)) left
connected-more shown next [] s =
    let e : next + 0 ≡ next = omega arith in
    ap (λ (n : ℕ). connected_in n None (tree_of shown s)) e ∙ sym (append-nil (connected_in next None (tree_of shown s)))
connected-more shown next (x ∷ left) s =
    let e : next + still_count shown (left ++ s ∷ []) ≡ next + joined_count (tree_of shown s) + still_count shown left =
    omega (arith, count-more shown left s) in
    ap (λ (cs : List ConnectedSession). cs ++ connected_in (next + still_count shown (left ++ s ∷ [])) None (tree_of shown x))
    (connected-more shown next left s)
    ∙ ap (λ (n : ℕ). (connected_in next None (tree_of shown s) ++ still_connected shown (next + joined_count (tree_of shown s)) left)
    ++ connected_in n None (tree_of shown x)) e
    ∙ append_assoc (connected_in next None (tree_of shown s)) (still_connected shown (next + joined_count (tree_of shown s)) left)
    (connected_in (next + joined_count (tree_of shown s) + still_count shown left) None (tree_of shown x))

pub work-more : (shown : Shown) (left : List NodeRange) (s : NodeRange) → work shown (left ++ s ∷ []) ≡ work shown left + work_in (tree_of shown s)
work-more shown [] s = omega arith
work-more shown (x ∷ left) s = omega (arith, work-more shown left s)

-- the same of a stretch that comes next if it has a node: one without gives nothing

none-in : (shown : Shown) (s : NodeRange) → IsOf shown s → nat_lt s.next s.end ≡ false → tree_of shown s ≡ nothing
none-in shown s is none =
    let low : s.end ≤ s.next = grind (arith, nat_tests) in
    ap (joined_nodes (led_to shown s.views) s.session.0) (stretch-none (flat_of (state_of shown s.session.0)) s.next s.end is.stretch low)

pub placed-pushed : (shown : Shown) (left : List NodeRange) (s : NodeRange) → IsOf shown s
    → still_placed shown (pushed left s) ≡ placed_in (space_of s.scope) (tree_of shown s) ++ still_placed shown left
placed-pushed shown left s is = by_test (nat_lt s.next s.end) refl
  where
    by_test : (b : Bool) → nat_lt s.next s.end ≡ b → still_placed shown (cond b (left ++ s ∷ []) left) ≡ placed_in (space_of s.scope) (tree_of shown s)
        ++ still_placed shown left
    by_test true e = placed-more shown left s
    by_test false e = rw (none-in shown s is e) refl

pub connected-pushed : (shown : Shown) (next : ℕ) (left : List NodeRange) (s : NodeRange) → IsOf shown s
    → still_connected shown next (pushed left s) ≡ connected_in next None (tree_of shown s)
    ++ still_connected shown (next + joined_count (tree_of shown s)) left
connected-pushed shown next left s is = by_test (nat_lt s.next s.end) refl
  where
    by_test : (b : Bool) → nat_lt s.next s.end ≡ b
        → still_connected shown next (cond b (left ++ s ∷ []) left) ≡ connected_in next None (tree_of shown s)
        ++ still_connected shown (next + joined_count (tree_of shown s)) left
    by_test true e = connected-more shown next left s
    by_test false e = let same : next + 0 ≡ next = omega arith in rw (none-in shown s is e, same) refl

pub work-pushed : (shown : Shown) (left : List NodeRange) (s : NodeRange) → work shown (pushed left s) ≤ work shown left + work_in (tree_of shown s)
work-pushed shown left s = by_test (nat_lt s.next s.end)
  where
    by_test : (b : Bool) → work shown (cond b (left ++ s ∷ []) left) ≤ work shown left + work_in (tree_of shown s)
    by_test true = omega (arith, work-more shown left s)
    by_test false = omega arith

pub whole-pushed : (shown : Shown) (left : List NodeRange) (s : NodeRange) → All (IsOf shown) left → IsOf shown s → All (IsOf shown) (pushed left s)
whole-pushed shown left s whole is = by_test (nat_lt s.next s.end)
  where
    by_test : (b : Bool) → All (IsOf shown) (cond b (left ++ s ∷ []) left)
    by_test true = All-push (IsOf shown) left s whole is
    by_test false = whole

-- the nodes of a session don't tell below which node it hangs
pub connected-anywhere : (led : ℕ → JoinedTree) (s next : ℕ) (at at' : Option ℕ) (nodes : Children)
    → connected_in next at (joined_nodes led s nodes) ≡ connected_in next at' (joined_nodes led s nodes)
connected-anywhere led s next at at' Empty = refl
connected-anywhere led s next at at' (first serial scale turn place clip opacity hits what children rest) =
    rw (
      connected-anywhere led s (suc next + joined_count (linked_to led what)) at at' children,
      connected-anywhere led s (suc next + joined_count (linked_to led what) + joined_count (joined_nodes led s children)) at at' rest,
    ) refl

-- ---- a child view

pub continue-none : (shown : Shown) (walk : JoinWalk) (outer : Space) (at : Option ℕ) → All (IsOf shown) walk.left.items
    → Continues shown walk outer at nothing walk
continue-none shown walk outer at whole =
    let e : length walk.nodes + 0 ≡ length walk.nodes = omega arith in
    record { placed = refl; connected = rw e refl; whole = whole }

forest-of : (state : Option Tree) → forest (flat_of state) ≡ nodes_of state
forest-of None = refl
forest-of (Some tree) = forest-whole (rooted tree.root) ∙ rooted-alone tree.root

stretch-of : (state : Option Tree) → IsStretch (flat_of state) 0 (length (flat_of state))
stretch-of None = stretch-whole Empty
stretch-of (Some tree) = stretch-whole (rooted tree.root)

-- the nodes of a session, seen through what led to it
abbrev pub view_stretch : SessionNo → ℕ → ℕ → Scope → NodeRange
view_stretch session views end scope = record { session = session; views = views; next = 0; end = end; scope = scope }

-- what a session shows, is the tree of its stretch
tree-view : (shown : Shown) (session : SessionNo) (views end : ℕ) (scope : Scope) → end ≡ length (flat_of (state_of shown session.0))
    → tree_of shown (view_stretch session views end scope) ≡ joined_nodes (led_to shown views) session.0 (nodes_of (state_of shown session.0))
tree-view shown session views end scope ends =
    ap (joined_nodes (led_to shown views) session.0)
    (ap (λ (n : ℕ). forest_in (flat_of (state_of shown session.0)) 0 0 n) ends ∙ forest-of (state_of shown session.0))

pub led-view : (shown : Shown) (p allowed : ℕ) (session : SessionNo) (views end : ℕ) (scope : Scope) → allowed ≡ suc views
    → Some (viewer_at shown session) ≡ viewer_from 1 shown p → end ≡ length (flat_of (state_of shown session.0))
    → led_to shown allowed p ≡ child_view session.0 (tree_of shown (view_stretch session views end scope))
led-view shown p allowed session views end scope more found ends =
    ap (λ (n : ℕ). led_to shown n p) more ∙ ap (viewed (led_to shown views)) (sym found)
    ∙ ap (child_view session.0) (sym (tree-view shown session views end scope ends))

pub led-none : (shown : Shown) (p allowed : ℕ) → None ≡ viewer_from 1 shown p → led_to shown allowed p ≡ nothing
led-none shown p zero none = refl
led-none shown p (suc views) none = ap (viewed (led_to shown views)) (sym none)

is-view : (shown : Shown) (session : SessionNo) (views end : ℕ) (scope : Scope) → (0 < session.0) × (session.0 ≤ length shown)
    → end ≡ length (flat_of (state_of shown session.0)) → IsOf shown (view_stretch session views end scope)
is-view shown session views end scope within ends =
    record { some = within.0; few = within.1; stretch = rw ends (stretch-of (state_of shown session.0)) }

-- a child view comes next
pub continue-view : (shown : Shown) (old : JoinWalk) (p allowed : ℕ) (scope : Scope) (at : Option ℕ) (session : SessionNo) (views end : ℕ) (new : JoinWalk)
    → All (IsOf shown) old.left.items → allowed ≡ suc views → Some (viewer_at shown session) ≡ viewer_from 1 shown p
    → (0 < session.0) × (session.0 ≤ length shown) → end ≡ length (flat_of (state_of shown session.0))
    → new.nodes ≡ old.nodes → new.connected ≡ old.connected ++ record { session = session; at = at } ∷ []
    → new.left.items ≡ old.left.items ++ view_stretch session views end scope ∷ []
    → Continues shown old (space_of scope) at (led_to shown allowed p) new
continue-view shown old p allowed scope at session views end new whole more found within ends same_nodes connected left =
    let s : NodeRange = view_stretch session views end scope in
    let tree : JoinedTree = tree_of shown s in
    let led : led_to shown allowed p ≡ child_view session.0 tree = led-view shown p allowed session views end scope more found ends in
    let here : ConnectedSession = record { session = session; at = at } in
    let count : length old.nodes + joined_count tree ≡ length old.nodes + joined_count (led_to shown allowed p) = rw led refl in
    let later : connected_in (length old.nodes) None tree ≡ connected_in (length old.nodes) at tree
    = connected-anywhere (led_to shown views) session.0 (length old.nodes) None at (forest_in (flat_of (state_of shown session.0)) 0 0 end) in
    record {
      placed = rw (led, same_nodes, left, placed-more shown old.left.items s) refl;
      connected = rw (led, same_nodes, left, connected, connected-more shown (length old.nodes) old.left.items s, append_assoc, later) refl;
      whole = rw left (All-push (IsOf shown) old.left.items s whole (is-view shown session views end scope within ends));
    }

pub work-view : (shown : Shown) (left : List NodeRange) (p allowed : ℕ) (session : SessionNo) (views end : ℕ) (scope : Scope) → allowed ≡ suc views
    → Some (viewer_at shown session) ≡ viewer_from 1 shown p → end ≡ length (flat_of (state_of shown session.0))
    → work shown (left ++ view_stretch session views end scope ∷ []) ≤ work shown left + work_in (led_to shown allowed p)
work-view shown left p allowed session views end scope more found ends =
    rw (led-view shown p allowed session views end scope more found ends) (omega (arith, work-more shown left (view_stretch session views end scope)))

-- ---- the first node of a stretch

-- a stretch that isn't empty, of a session that shows it
pub record HasFirst (shown : Shown) (s : NodeRange) (n : FlatNode) (scope : Scope) : Type 0 where
  pub fields : Node
  pub is : fields ≡ as_node n fields.children
  pub tree : tree_of shown s ≡ node s.session.0 fields (linked_to (led_to shown s.views) n.content) (tree_of shown (below_stretch s n scope))
      (tree_of shown (after_stretch s n))
  pub below : IsOf shown (below_stretch s n scope)
  pub after : IsOf shown (after_stretch s n)

pub has-first : (shown : Shown) (s : NodeRange) (n : FlatNode) (scope : Scope) → IsOf shown s → s.next < s.end
    → slice_get (flat_of (state_of shown s.session.0)) s.next ≡ Some n → HasFirst shown s n scope
has-first shown s n scope is some at =
    let ns : List FlatNode = flat_of (state_of shown s.session.0) in
    let parts : IsFirst ns s.next s.end n = stretch-first ns s.next s.end n is.stretch some at in
    record {
      fields = as_node n (forest_in ns 0 (s.next + 1) n.end);
      is = refl;
      tree = ap (joined_nodes (led_to shown s.views) s.session.0) parts.trees;
      below = record { some = is.some; few = is.few; stretch = parts.below };
      after = record { some = is.some; few = is.few; stretch = parts.after };
    }

-- its node has a low opacity, where all that is placed has
pub low-first : (shown : Shown) (s : NodeRange) (n : FlatNode) (scope : Scope) (limit : ℕ) → HasFirst shown s n scope
    → All (λ at. at.opacity < limit) (placed_in (space_of s.scope) (tree_of shown s)) → seen_through s.scope.opacity n.opacity < limit
low-first shown s n scope limit f low =
    let all : All (λ at. at.opacity < limit) (placed_in (space_of s.scope)
    (node s.session.0 f.fields (linked_to (led_to shown s.views) n.content) (tree_of shown (below_stretch s n scope)) (tree_of shown (after_stretch s n))))
    = rw f.tree at low in
    let own : seen_through s.scope.opacity f.fields.opacity < limit = All-head (λ at. at.opacity < limit) _ _ all in
    rw f.is at own

pub whole-first : (shown : Shown) (old : JoinWalk) (s : NodeRange) (n : FlatNode) (scope : Scope) (mid : JoinWalk) → HasFirst shown s n scope
    → HasPut old s n scope mid
    → All (IsOf shown) old.left.items → All (IsOf shown) mid.left.items
whole-first shown old s n scope mid f m whole =
    rw m.left (whole-pushed shown (pushed old.left.items (after_stretch s n)) (below_stretch s n scope)
    (whole-pushed shown old.left.items (after_stretch s n) whole f.after) f.below)

five-lists : {X : Type 0} (old : List X) (own : X) (linked below after left : List X)
    → (old ++ own ∷ []) ++ (linked ++ (below ++ (after ++ left))) ≡ old ++ ((own ∷ (linked ++ (below ++ after))) ++ left)
five-lists old own linked below after left = simp append_assoc

four-lists : {X : Type 0} (old linked below after left : List X)
    → old ++ (linked ++ (below ++ (after ++ left))) ≡ old ++ ((linked ++ (below ++ after)) ++ left)
four-lists old linked below after left = simp append_assoc

placed-tree : (outer here : Space) (s : ℕ) (fields : Node) (n : FlatNode) (linked below after : JoinedTree)
    → fields ≡ as_node n fields.children → here ≡ node_space outer (as_node n Empty)
    → placed_in outer (node s fields linked below after)
    ≡ placed_node s here (as_node n Empty) ∷ (placed_in (linked_space here n.content) linked ++ (placed_in here below ++ placed_in outer after))
placed-tree outer here s fields n linked below after is inner = rw (is, inner) refl

pub continue-first : (shown : Shown) (old : JoinWalk) (s : NodeRange) (n : FlatNode) (scope : Scope) (mid new : JoinWalk) → HasFirst shown s n scope
    → HasPut old s n scope mid
    → space_of scope ≡ node_space (space_of s.scope) (as_node n Empty)
    → Continues shown mid (linked_space (space_of scope) n.content) (Some (length old.nodes)) (linked_to (led_to shown s.views) n.content) new
    → Continues shown old (space_of s.scope) None (tree_of shown s) new
continue-first shown old s n scope mid new f m inner next =
    let linked : JoinedTree = linked_to (led_to shown s.views) n.content in
    let below : NodeRange = below_stretch s n scope in
    let after : NodeRange = after_stretch s n in
    let left : List NodeRange = old.left.items in
    let count : ℕ = length old.nodes in
    let all : JoinedTree = node s.session.0 f.fields linked (tree_of shown below) (tree_of shown after) in
    let placed : placed_in (space_of s.scope) (tree_of shown s)
    ≡ placed_node s.session.0 (space_of scope) (as_node n Empty)
    ∷ (placed_in (linked_space (space_of scope) n.content) linked
    ++ (placed_in (space_of scope) (tree_of shown below) ++ placed_in (space_of s.scope) (tree_of shown after)))
    = ap (placed_in (space_of s.scope)) f.tree ∙ placed-tree (space_of s.scope) (space_of scope) s.session.0 f.fields n linked (tree_of shown below)
    (tree_of shown after) f.is inner in
    let still : still_placed shown mid.left.items
    ≡ placed_in (space_of scope) (tree_of shown below) ++ (placed_in (space_of s.scope) (tree_of shown after) ++ still_placed shown left)
    = ap (still_placed shown) m.left ∙ placed-pushed shown (pushed left after) below f.below
    ∙ ap (λ (ps : List PlacedNode). placed_in (space_of scope) (tree_of shown below) ++ ps) (placed-pushed shown left after f.after) in
    let counted : length mid.nodes ≡ suc count = ap length m.nodes ∙ length_push old.nodes _ ∙ omega arith in
    let from : ℕ = suc count + joined_count linked in
    let then : ℕ = from + joined_count (tree_of shown below) in
    let end : then + joined_count (tree_of shown after) ≡ count + joined_count (tree_of shown s) = rw f.tree (omega arith) in
    let sessions : still_connected shown from mid.left.items
    ≡ connected_in from None (tree_of shown below) ++ (connected_in then None (tree_of shown after)
    ++ still_connected shown (count + joined_count (tree_of shown s)) left)
    = ap (still_connected shown from) m.left ∙ connected-pushed shown from (pushed left after) below f.below
    ∙ ap (λ (cs : List ConnectedSession). connected_in from None (tree_of shown below) ++ cs)
    (connected-pushed shown then left after f.after ∙ ap (λ (k : ℕ). connected_in then None (tree_of shown after) ++ still_connected shown k left) end) in
    record {
      placed = next.placed ∙ rw (m.nodes, still, placed) (simp append_assoc);
      connected = next.connected ∙ rw (m.connected, counted, sessions, f.tree) (simp append_assoc);
      whole = next.whole;
    }

pub work-first : (shown : Shown) (old : JoinWalk) (s : NodeRange) (n : FlatNode) (scope : Scope) (mid new : JoinWalk) → HasFirst shown s n scope
    → HasPut old s n scope mid
    → work shown new.left.items ≤ work shown mid.left.items + work_in (linked_to (led_to shown s.views) n.content)
    → work shown new.left.items < work shown old.left.items + work_in (tree_of shown s)
work-first shown old s n scope mid new f m less =
    let linked : JoinedTree = linked_to (led_to shown s.views) n.content in
    let below : JoinedTree = tree_of shown (below_stretch s n scope) in
    let after : JoinedTree = tree_of shown (after_stretch s n) in
    let one = work-pushed shown old.left.items (after_stretch s n) in
    let two = work-pushed shown (pushed old.left.items (after_stretch s n)) (below_stretch s n scope) in
    let all : work shown mid.left.items ≤ work shown old.left.items + work_in after + work_in below = rw m.left (omega (arith, one, two)) in
    rw f.tree (omega (arith, all, less))

-- ---- the first node, as the code finds it

state-flat : (shown : Shown) (s : ℕ) (tree : Tree) → Some tree ≡ state_of shown s → flat_of (state_of shown s) ≡ flat_nodes tree
state-flat shown s tree is = ap flat_of (sym is)

pub next-within : (shown : Shown) (s : NodeRange) (tree shared : Tree) → IsOf shown s → s.next < s.end → tree ≡ shared
    → Some shared ≡ state_of shown s.session.0
    → s.next < length (flat_nodes tree)
next-within shown s tree shared is some same state =
    let within = stretch-within (flat_of (state_of shown s.session.0)) s.next s.end is.stretch in
    rw (same, ← state-flat shown s.session.0 shared state) (omega (arith, within.1))

pub found-first : (shown : Shown) (s : NodeRange) (tree shared : Tree) (n : FlatNode) (scope : Scope) → IsOf shown s → s.next < s.end → tree ≡ shared
    → Some shared ≡ state_of shown s.session.0 → slice_get (flat_nodes tree) s.next ≡ Some n → HasFirst shown s n scope
found-first shown s tree shared n scope is some same state at =
    has-first shown s n scope is some (rw (state-flat shown s.session.0 shared state, ← same) at)

-- ---- the walk from its beginning to its end

pub start-none : (shown : Shown) (walk : JoinWalk) → walk.nodes ≡ [] → walk.connected ≡ [] → walk.left.items ≡ [] → IsOnTheWay shown [] [] walk
start-none shown walk nodes connected left =
    record { placed = rw (nodes, left) refl; connected = rw (connected, left) refl; whole = rw left (All-nil (IsOf shown)) }

pub start-view : (shown : Shown) (old new : JoinWalk) (outer : Space) (tree : JoinedTree) → old.nodes ≡ [] → old.connected ≡ [] → old.left.items ≡ []
    → Continues shown old outer None tree new → IsOnTheWay shown (placed_in outer tree) (connected_in 0 None tree) new
start-view shown old new outer tree nodes connected left next = record {
  placed = next.placed ∙ rw (nodes, left, append-nil) refl;
  connected = next.connected ∙ rw (connected, nodes, left, append-nil) refl;
  whole = next.whole;
}

-- a stretch is taken from those that are left
pub record IsTaken (shown : Shown) (all_nodes : List PlacedNode) (all_sessions : List ConnectedSession) (s : NodeRange) (walk : JoinWalk) : Type 0 where
  pub placed : walk.nodes ++ (placed_in (space_of s.scope) (tree_of shown s) ++ still_placed shown walk.left.items) ≡ all_nodes
  pub connected : walk.connected ++ (connected_in (length walk.nodes) None (tree_of shown s)
      ++ still_connected shown (length walk.nodes + joined_count (tree_of shown s)) walk.left.items) ≡ all_sessions
  pub whole : All (IsOf shown) walk.left.items
  pub is : IsOf shown s

pub taken : (shown : Shown) (all_nodes : List PlacedNode) (all_sessions : List ConnectedSession) (s : NodeRange) (old walk : JoinWalk)
    → IsOnTheWay shown all_nodes all_sessions old
    → old.left.items ≡ walk.left.items ++ s ∷ [] → walk.nodes ≡ old.nodes → walk.connected ≡ old.connected → IsTaken shown all_nodes all_sessions s walk
taken shown all_nodes all_sessions s old walk way left nodes connected =
    let whole = All-pop (IsOf shown) old.left.items walk.left.items (Some s) left way.whole in
    record {
      placed = rw (nodes, ← placed-more shown walk.left.items s, ← left) way.placed;
      connected = rw (nodes, connected, ← connected-more shown (length old.nodes) walk.left.items s, ← left) way.connected;
      whole = whole.0;
      is = whole.1;
    }

pub taken-goes-on : (shown : Shown) (all_nodes : List PlacedNode) (all_sessions : List ConnectedSession) (s : NodeRange) (walk new : JoinWalk)
    → IsTaken shown all_nodes all_sessions s walk
    → Continues shown walk (space_of s.scope) None (tree_of shown s) new → IsOnTheWay shown all_nodes all_sessions new
taken-goes-on shown all_nodes all_sessions s walk new is next =
    record { placed = next.placed ∙ is.placed; connected = next.connected ∙ is.connected; whole = next.whole }

pub tree-none : (shown : Shown) (s : NodeRange) → IsOf shown s → s.end ≤ s.next → tree_of shown s ≡ nothing
tree-none shown s is low =
    ap (joined_nodes (led_to shown s.views) s.session.0) (stretch-none (flat_of (state_of shown s.session.0)) s.next s.end is.stretch low)

-- an empty stretch changes nothing
pub continue-empty : (shown : Shown) (walk : JoinWalk) (s : NodeRange) → All (IsOf shown) walk.left.items → IsOf shown s → s.end ≤ s.next
    → Continues shown walk (space_of s.scope) None (tree_of shown s) walk
continue-empty shown walk s whole is low = rw (tree-none shown s is low) (continue-none shown walk (space_of s.scope) None whole)

-- the nodes of a stretch are some of all
pub taken-low : (shown : Shown) (all_nodes : List PlacedNode) (all_sessions : List ConnectedSession) (s : NodeRange) (walk : JoinWalk) (P : PlacedNode → Type 0)
    → IsTaken shown all_nodes all_sessions s walk
    → All P all_nodes → All P (placed_in (space_of s.scope) (tree_of shown s))
taken-low shown all_nodes all_sessions s walk P is low =
    let mine : List PlacedNode = placed_in (space_of s.scope) (tree_of shown s) in
    let all : All P (walk.nodes ++ (mine ++ still_placed shown walk.left.items)) = rw is.placed low in
    let right : All P (mine ++ still_placed shown walk.left.items) =
    rw (drop_at walk.nodes (mine ++ still_placed shown walk.left.items) (length walk.nodes) refl) at (All-drop P (length walk.nodes) _ all) in
    rw (take_at mine (still_placed shown walk.left.items) (length mine) refl) at (All-take P (length mine) _ right)

pub taken-few : (shown : Shown) (all_nodes : List PlacedNode) (all_sessions : List ConnectedSession) (s : NodeRange) (walk : JoinWalk)
    → IsTaken shown all_nodes all_sessions s walk
    → length walk.nodes ≤ length all_nodes
taken-few shown all_nodes all_sessions s walk is =
    let size : length walk.nodes + length (placed_in (space_of s.scope) (tree_of shown s) ++ still_placed shown walk.left.items) ≡ length all_nodes
    = sym (length-append walk.nodes _) ∙ ap length is.placed in
    omega (arith, size)

-- less is left once a stretch is taken
pub work-taken : (shown : Shown) (old left : List NodeRange) (s : NodeRange) → old ≡ left ++ s ∷ []
    → work shown old ≡ work shown left + work_in (tree_of shown s)
work-taken shown old left s e = ap (work shown) e ∙ work-more shown left s

pub end-placed : (shown : Shown) (all_nodes : List PlacedNode) (all_sessions : List ConnectedSession) (walk : JoinWalk)
    → IsOnTheWay shown all_nodes all_sessions walk
    → walk.left.items ≡ []
    → (walk.nodes ≡ all_nodes) × (walk.connected ≡ all_sessions)
end-placed shown all_nodes all_sessions walk way none =
    (sym (append-nil walk.nodes) ∙ rw none at way.placed, sym (append-nil walk.connected) ∙ rw none at way.connected)
