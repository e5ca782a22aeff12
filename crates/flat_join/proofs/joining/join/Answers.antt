use Rattle.std.proofs.Common.{◌≡◌, ◌<◌, ◌≤◌, ◌++◌, ◌∷◌, [], ◌∙◌, List, Option, length, refl, sym, subst, ap, arith, length-append}
use Rattle.std.specs.List.{All}
use Rattle.std.proofs.lemmas.List.{append-nil, get_or_append_left}
use Rattle.flat_base.specs.declared.limits.TheConstants.{OPACITY_MAX}
use Rattle.flat_scene.specs.declared.setup.Setup.{Setup}
use Rattle.flat_base.specs.declared.shapes.Rect.{Rect}
use Rattle.flat_scene.specs.declared.trees.Tree.{Tree}
use Rattle.flat_topology.specs.declared.ConnectedSession.{ConnectedSession}
use Rattle.flat_topology.specs.declared.GlobalTopology.{GlobalTopology}
use Rattle.flat_topology.specs.declared.PlacedNode.{PlacedNode}
use Rattle.flat_join.specs.declared.join_walk.NodeRange.{NodeRange}
use Rattle.flat_join.specs.Walking.{still_connected, still_placed}
use Rattle.std.proofs.lemmas.List.Elements.{All-weaker}
use Rattle.flat_join.specs.declared.join_walk.JoinWalk.{JoinWalk}
use Rattle.flat_topology.specs.Laws.{HasLowOpacity}
use Rattle.flat_join.proofs.Walking.{taken, taken-goes-on, taken-low, work-taken}
use Rattle.flat_scene.specs.Setups.{at_ratio}
use Rattle.flat_topology.proofs.lemmas.Ratios.{fits-at}
use Rattle.flat_join.proofs.joining.join.Goals as goal

-- what holds of all nodes holds of those that are placed already
first-nodes : {A : Type 0} (P : A → Type 0) (xs ys all : List A) → xs ++ ys ≡ all → All P all → All P xs
first-nodes P xs ys all is each = λ k d below. subst P (get_or_append_left xs ys d k below)
    ((subst (All P) (sym is) each) k d (omega (arith, below, length-append xs ys)))

abbrev joined_of : Rect → List PlacedNode → List ConnectedSession → GlobalTopology
joined_of display nodes connected = record { display = display; nodes = nodes; connected = connected }

-- where nothing is left, all is placed
none_left : {A : Type 0} (xs : List A) → length xs ≡ 0 → xs ≡ []
none_left [] e = refl
none_left (x ∷ xs) e = absurd (omega (arith, e))

all_placed : (shown : List (Option Tree)) (display whole : Rect) (nodes all : List PlacedNode) (connected sessions : List ConnectedSession)
    (left : List NodeRange)
    → display ≡ whole → nodes ++ still_placed shown left ≡ all
    → connected ++ still_connected shown (length nodes) left ≡ sessions → length left ≡ 0
    → joined_of display nodes connected ≡ joined_of whole all sessions
all_placed shown display whole nodes all connected sessions left same placed told none =
    let empty : left ≡ [] = none_left left none in
    let each : nodes ≡ all = sym (append-nil nodes) ∙ ap (λ (l : List NodeRange). nodes ++ still_placed shown l) (sym empty) ∙ placed in
    let every : connected ≡ sessions = sym (append-nil connected) ∙ ap (λ (l : List NodeRange). connected ++ still_connected shown (length nodes) l) (sym empty)
    ∙ told in
    λ i. joined_of (same i) (each i) (every i)

pub returns-clause-lists : goal.returns-clause-lists
returns-clause-lists c =
    all_placed c.args.shown.now c.whole_display.result _ c.loop-stretch.walk.nodes _ c.loop-stretch.walk.connected _ c.loop-stretch.walk.left.items
    c.whole_display.ensures c.loop-stretch.invariant.placed c.loop-stretch.invariant.connected
    (omega (arith, c.in_default.ensures.cases.0, c.loop-stretch.walk.left.ok.0))

pub place-requires-clause-room : goal.place-requires-clause-room
place-requires-clause-room c =
    let setup : Setup = at_ratio c.args.ratio c.args.setup.now in
    let few = c.links_make_a_tree.ensures.few setup c.args.shown.now (fits-at c.args.ratio c.args.setup.now c.args.shown.now c.requires.fit) in
    omega (
      arith,
      few,
      ap length c.loop-stretch.invariant.placed,
      length-append c.loop-stretch.walk.nodes (still_placed c.args.shown.now c.loop-stretch.walk.left.items),
      c.requires.made,
      c.requires.few,
    )

pub returns-clause-low : goal.returns-clause-low
returns-clause-low c =
    let setup : Setup = at_ratio c.args.ratio c.args.setup.now in
    let low = c.links_make_a_tree.ensures.low setup c.args.shown.now (fits-at c.args.ratio c.args.setup.now c.args.shown.now c.requires.fit) in
    first-nodes (λ (at : PlacedNode). at.opacity ≤ OPACITY_MAX) c.loop-stretch.walk.nodes (still_placed c.args.shown.now c.loop-stretch.walk.left.items) _
    c.loop-stretch.invariant.placed
    (All-weaker HasLowOpacity (λ at. at.opacity ≤ OPACITY_MAX) (λ at is. is.0) _ low)

pub place-requires-clause-is : goal.place-requires-clause-is
place-requires-clause-is c =
    let walk : JoinWalk = record { nodes = c.loop-stretch.walk.nodes; connected = c.loop-stretch.walk.connected; left = c.pop.new.self } in
    (taken c.args.shown.now _ _ c.in-Some.stretch c.loop-stretch.walk walk c.loop-stretch.invariant c.in-Some.ensures.items refl refl).is

pub place-requires-clause-low : goal.place-requires-clause-low
place-requires-clause-low c =
    let walk : JoinWalk = record { nodes = c.loop-stretch.walk.nodes; connected = c.loop-stretch.walk.connected; left = c.pop.new.self } in
    let t = taken c.args.shown.now _ _ c.in-Some.stretch c.loop-stretch.walk walk c.loop-stretch.invariant c.in-Some.ensures.items refl refl in
    taken-low c.args.shown.now _ _ c.in-Some.stretch walk (λ at. at.opacity < 4294967296) t
    (All-weaker HasLowOpacity (λ at. at.opacity < 4294967296) (λ at low. omega (arith, low.0)) _
    (c.links_make_a_tree.ensures.low (at_ratio c.args.ratio c.args.setup.now) c.args.shown.now
    (fits-at c.args.ratio c.args.setup.now c.args.shown.now c.requires.fit)))

pub loop-stretch-smaller : goal.loop-stretch-smaller
loop-stretch-smaller c = omega (
  arith,
  c.in_ok-place.ensures.work,
  work-taken c.args.shown.now c.loop-stretch.walk.left.items c.pop.new.self.items c.in-Some.stretch c.in-Some.ensures.items,
)

pub loop-stretch-preserved : goal.loop-stretch-preserved
loop-stretch-preserved c =
    let walk : JoinWalk = record { nodes = c.loop-stretch.walk.nodes; connected = c.loop-stretch.walk.connected; left = c.pop.new.self } in
    let t = taken c.args.shown.now _ _ c.in-Some.stretch c.loop-stretch.walk walk c.loop-stretch.invariant c.in-Some.ensures.items refl refl in
    taken-goes-on c.args.shown.now _ _ c.in-Some.stretch walk c.place.new.self t c.in_ok-place.ensures.walk
