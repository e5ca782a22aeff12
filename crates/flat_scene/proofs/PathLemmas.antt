-- A tree has one node for each path.
use Rattle.std.proofs.Common.{◌≡◌, ◌∙◌, sym, subst, ℕ, ◌-◌, ◌&&◌, Bool, true, false, List, [], ◌∷◌, length, refl, ap, arith}
use Rattle.std.specs.Prelude.{zero, suc, Option, Some, None, slice_get, unwrap_or}
use Rattle.std.specs.Option.{option_map, option_and_then}
use Rattle.flat_scene.specs.declared.trees.Node.{Node}
use Rattle.flat_scene.specs.declared.trees.Children.{Children}
use Rattle.flat_scene.specs.declared.trees.Children.TheVariants.{Empty}
use Rattle.flat_scene.specs.Draft.{Draft, Transform, of_serial}
use Rattle.flat_scene.specs.Laws.{OneNodeAPath}
use Rattle.flat_scene.specs.Paths.{led_to, node_at, stays}
use Rattle.flat_scene.specs.Tree.{node, each, node_within, children_at}
use Rattle.flat_scene.specs.Trees.{more, nodes}

-- the parts of a chain of options that has a value
and_then-some : {A B : Type 0} (o : Option A) (f : A → Option B) (y : B) → option_and_then f o ≡ Some y → (x : A) × (o ≡ Some x) × (f x ≡ Some y)
and_then-some None f y e = absurd (cc)
and_then-some (Some x) f y e = (x, refl, e)

map-some : {A B : Type 0} (o : Option A) (f : A → B) (y : B) → option_map f o ≡ Some y → (x : A) × (o ≡ Some x) × (f x ≡ y)
map-some None f y e = absurd (cc)
map-some (Some x) f y e = (x, refl, cc)

-- the nodes of children, one after another
nodes-more : (n : Node) (rest : Children) → nodes (more n rest) ≡ n ∷ nodes rest
nodes-more n rest = refl

-- what is at a place among nodes, where something or nothing is at that place among the serials of which they are the nodes
HasNode : (ℕ → Option Node) → Option ℕ → Option Node → Type 0
HasNode node_of None found = found ≡ None
HasNode node_of (Some serial) found = (n : Node) × (node_of serial ≡ Some n) × (found ≡ Some n)

-- where each of some serials has a node, the nodes are theirs, place by place
each-get : (node_of : ℕ → Option Node) (serials : List ℕ) (all : Children) → each node_of serials ≡ Some all →
    (place : ℕ) → HasNode node_of (slice_get serials place) (slice_get (nodes all) place)
unfolding HasNode
each-get node_of [] all e place =
    let same : Empty ≡ all = cc in subst (λ (a : Children). slice_get (nodes a) place ≡ None) same refl
each-get node_of (serial ∷ serials) all e place =
    let head = and_then-some (node_of serial) (λ n. option_map (more n) (each node_of serials)) all e in
    let rest = map-some (each node_of serials) (more head.0) all head.2 in
    subst (λ (a : Children). HasNode node_of (slice_get (serial ∷ serials) place) (slice_get (nodes a) place)) rest.2
    (by_place head.0 rest.0 head.1 (each-get node_of serials rest.0 rest.1) place)
  where
    by_place : (n : Node) (after : Children) → node_of serial ≡ Some n
        → ((k : ℕ) → HasNode node_of (slice_get serials k) (slice_get (nodes after) k))
        → (k : ℕ) → HasNode node_of (slice_get (serial ∷ serials) k) (slice_get (nodes (more n after)) k)
    by_place n after here later zero = (n, here, refl)
    by_place n after here later (suc k) = later k

-- one step of a path: the node and the transform there go on alike
at-place : (draft : Draft) (node_of node_there : ℕ → Option Node) (rest : List ℕ)
    → ((child : ℕ) (n : Node) → node_of child ≡ Some n → node_at n rest ≡ option_and_then node_there (led_to draft child rest))
    → (serial : Option ℕ) (found : Option Node) → HasNode node_of serial found
    → option_and_then (λ child. node_at child rest) found ≡ option_and_then node_there (option_and_then (λ child. led_to draft child rest) serial)
unfolding HasNode
at-place draft node_of node_there rest again None found none = rw none refl
at-place draft node_of node_there rest again (Some serial) found (n, is, same) = rw same (again serial n is)

never : (b : Bool) → (b && false) ≡ false
never true = refl
never false = refl

pub one-node-a-path : OneNodeAPath
one-node-a-path draft zero is_root serial root e path = absurd (cc)
one-node-a-path draft (suc levels) is_root serial root e path =
    let of = and_then-some (of_serial draft.transforms serial)
    (λ t. option_map (node draft is_root serial t) (each (node_within levels draft false) t.children)) root e in
    let below = map-some (each (node_within levels draft false) of.0.children) (node draft is_root serial of.0) root of.2 in
    subst (λ (r : Node). node_at r path ≡ option_and_then (node_within (suc levels - length path) draft (stays path && is_root)) (led_to draft serial path))
    below.2
    (by_path of.0 below.0 of.1 (e ∙ ap Some (sym below.2)) (each-get (node_within levels draft false) of.0.children below.0 below.1)
    (one-node-a-path draft levels false) path)
  where
    by_path : (t : Transform) (all : Children) → of_serial draft.transforms serial ≡ Some t
        → node_within (suc levels) draft is_root serial ≡ Some (node draft is_root serial t all)
        → ((place : ℕ) → HasNode (node_within levels draft false) (slice_get t.children place) (slice_get (nodes all) place))
        → ((child : ℕ) (n : Node) → node_within levels draft false child ≡ Some n → (path' : List ℕ)
        → node_at n path' ≡ option_and_then (node_within (levels - length path') draft (stays path' && false)) (led_to draft child path'))
        → (path' : List ℕ)
        → node_at (node draft is_root serial t all) path' ≡ option_and_then (node_within (suc levels - length path') draft (stays path' && is_root))
        (led_to draft serial path')
    by_path t all is here has again [] =
        let all_levels : suc levels ≡ suc levels - 0 = omega arith in
        sym here ∙ ap (λ (l : ℕ). node_within l draft is_root serial) all_levels
    by_path t all is here has again (place ∷ rest) =
        let kids : children_at draft serial ≡ t.children = ap (λ (o : Option Transform). unwrap_or (option_map (λ (u : Transform). u.children) o) []) is in
        let there : ℕ → Option Node = node_within (levels - length rest) draft false in
        let deeper : (child : ℕ) (n : Node) → node_within levels draft false child ≡ Some n → node_at n rest ≡ option_and_then there (led_to draft child rest) =
        λ child n at. again child n at rest ∙ ap (λ (b : Bool). option_and_then (node_within (levels - length rest) draft b) (led_to draft child rest))
        (never (stays rest)) in
        let less : levels - length rest ≡ suc levels - suc (length rest) = omega arith in
        subst
        (λ (serials : List ℕ). option_and_then (λ child. node_at child rest) (slice_get (nodes all) place)
        ≡ option_and_then there (option_and_then (λ child. led_to draft child rest) (slice_get serials place)))
        (sym kids)
        (at-place draft (node_within levels draft false) there rest deeper (slice_get t.children place) (slice_get (nodes all) place) (has place))
        ∙ ap (λ (l : ℕ). option_and_then (node_within l draft false) (led_to draft serial (place ∷ rest))) less
