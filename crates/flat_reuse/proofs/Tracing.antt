-- The steps of the walk that collects what the nodes of a session give.
use Rattle.std.proofs.Common.{ℕ, ◌+◌, ◌*◌, ◌<◌, ◌≤◌, ◌≡◌, refl, sym, ap, ap₂, ◌∙◌, Bool, true, false, cond, nat_lt, List, [], ◌∷◌, ◌++◌, length, Some, All}
use Rattle.std.proofs.Common.{slice_get, get_or, arith}
use Rattle.std.proofs.lemmas.Bool.Decides.{nat_tests}
use Rattle.std.proofs.lemmas.List.{append_assoc, append-nil}
use Rattle.std.proofs.lemmas.List.Elements.{All-nil, All-cons, All-append, All-push, All-pop, All-get_or}
use Rattle.std.proofs.lemmas.Option.{slice_get_cases}
use Rattle.std.proofs.Math.Nat.{mul-le-mul_right}
use Rattle.flat_base.specs.declared.limits.TheConstants.{OPACITY_MAX}
use Rattle.flat_scene.specs.declared.trees.Children.{Children}
use Rattle.flat_scene.specs.declared.trees.Children.TheVariants.{Empty}
use Rattle.flat_scene.specs.declared.trees.Tree.{Tree}
use Rattle.flat_scene.specs.Trees.{first, more, node_count}
use Rattle.flat_snap.specs.Flat.{FlatNode, flat_from, flat_nodes, rooted}
use Rattle.flat_snap.specs.Forest.{as_node, forest_in}
use Rattle.flat_snap.proofs.lemmas.Rebuilding.{forest-whole}
use Rattle.flat_snap.proofs.lemmas.Stretches.{IsFirst, stretch-first, stretch-whole, stretch-none, stretch-within}
use Rattle.flat_join.specs.declared.scope.Scope.{Scope}
use Rattle.flat_topology.specs.Fit.{greatest_opacity}
use Rattle.flat_topology.specs.Place.{Space, seen_through, node_space}
use Rattle.flat_topology.specs.Shown.{nodes_of}
use Rattle.flat_join.specs.Walking.{space_of}
use Rattle.flat_join.proofs.lemmas.Rooted.{rooted-alone}
use Rattle.flat_reuse.specs.declared.session_walk.NodeSpan.{NodeSpan}
use Rattle.flat_reuse.specs.declared.session_walk.SessionWalk.{SessionWalk}
use Rattle.flat_reuse.specs.Parts.{laid_out, appended}
use Rattle.flat_reuse.specs.Pieces.{Piece, node_pieces, pieces}
use Rattle.flat_reuse.specs.Tracing.{pushed, span_pieces, still_given, span_work, work, IsSpan, AreLow, IsTracing, GoesOn, StepsOn}
use Rattle.flat_reuse.proofs.Parts.{appended-none, appended-twice}

-- ---- one more span, which comes first

pub given-more : (s : ℕ) (ns : List FlatNode) (left : List NodeSpan) (span : NodeSpan)
    → still_given s ns (left ++ span ∷ []) ≡ span_pieces s ns span ++ still_given s ns left
given-more s ns [] span = sym (append-nil (span_pieces s ns span))
given-more s ns (x ∷ left) span =
    ap (λ (ps : List Piece). ps ++ span_pieces s ns x) (given-more s ns left span)
    ∙ append_assoc (span_pieces s ns span) (still_given s ns left) (span_pieces s ns x)

pub work-more : (ns : List FlatNode) (left : List NodeSpan) (span : NodeSpan) → work ns (left ++ span ∷ []) ≡ work ns left + span_work ns span
work-more ns [] span = omega arith
work-more ns (x ∷ left) span = omega (arith, work-more ns left span)

-- the same of a span that comes next if it has a node: one without gives nothing

none-given : (s : ℕ) (ns : List FlatNode) (span : NodeSpan) → IsSpan ns span → nat_lt span.next span.end ≡ false → span_pieces s ns span ≡ []
none-given s ns span is none =
    let low : span.end ≤ span.next = grind (arith, nat_tests) in
    ap (λ (nodes : Children). pieces s nodes (space_of span.scope)) (stretch-none ns span.next span.end is.stretch low)

given-pushed : (s : ℕ) (ns : List FlatNode) (left : List NodeSpan) (span : NodeSpan) → IsSpan ns span
    → still_given s ns (pushed left span) ≡ span_pieces s ns span ++ still_given s ns left
given-pushed s ns left span is = by_test (nat_lt span.next span.end) refl
  where
    by_test : (b : Bool) → nat_lt span.next span.end ≡ b → still_given s ns (cond b (left ++ span ∷ []) left) ≡ span_pieces s ns span ++ still_given s ns left
    by_test true e = given-more s ns left span
    by_test false e = rw (none-given s ns span is e) refl

work-pushed : (ns : List FlatNode) (left : List NodeSpan) (span : NodeSpan) → work ns (pushed left span) ≤ work ns left + span_work ns span
work-pushed ns left span = by_test (nat_lt span.next span.end)
  where
    by_test : (b : Bool) → work ns (cond b (left ++ span ∷ []) left) ≤ work ns left + span_work ns span
    by_test true = omega (arith, work-more ns left span)
    by_test false = omega arith

whole-pushed : (ns : List FlatNode) (left : List NodeSpan) (span : NodeSpan) → All (IsSpan ns) left → IsSpan ns span → All (IsSpan ns) (pushed left span)
whole-pushed ns left span whole is = by_test (nat_lt span.next span.end)
  where
    by_test : (b : Bool) → All (IsSpan ns) (cond b (left ++ span ∷ []) left)
    by_test true = All-push (IsSpan ns) left span whole is
    by_test false = whole

-- ---- opacities

-- an opacity through another is no greater than it
pub seen-low : (outer own : ℕ) → outer ≤ OPACITY_MAX → own ≤ OPACITY_MAX → seen_through outer own ≤ OPACITY_MAX
seen-low outer own low own_low =
    let product : outer * own ≤ OPACITY_MAX * own = mul-le-mul_right own low in
    omega (arith, product)

flat-low : (next : ℕ) (nodes : Children) → greatest_opacity nodes ≤ OPACITY_MAX → AreLow (flat_from next nodes)
flat-low next Empty low = All-nil (λ n. n.opacity ≤ OPACITY_MAX)
flat-low next (first serial scale turn place clip opacity hits content children rest) low =
    All-cons (λ n. n.opacity ≤ OPACITY_MAX) _ _ (omega (arith, low))
    (All-append (λ n. n.opacity ≤ OPACITY_MAX) (flat_from (next + 1) children) (flat_from (next + 1 + node_count children) rest)
    (flat-low (next + 1) children (omega (arith, low))) (flat-low (next + 1 + node_count children) rest (omega (arith, low))))

pub tree-low : (tree : Tree) → greatest_opacity (nodes_of (Some tree)) ≤ OPACITY_MAX → AreLow (flat_nodes tree)
tree-low tree low = flat-low 0 (rooted tree.root) (rw (rooted-alone tree.root) low)

at-low : (ns : List FlatNode) (i : ℕ) (n : FlatNode) → AreLow ns → i < length ns → get_or ns i n ≡ n → n.opacity ≤ OPACITY_MAX
at-low ns i n low within is = let own : (get_or ns i n).opacity ≤ OPACITY_MAX = All-get_or (λ n. n.opacity ≤ OPACITY_MAX) ns i n within low in rw is at own

-- ---- the first node of a span

-- the nodes below it
abbrev pub below_span : NodeSpan → FlatNode → Scope → NodeSpan
below_span span n scope = record { next = span.next + 1; end = n.end; scope = scope }

-- the nodes after it
abbrev pub after_span : NodeSpan → FlatNode → NodeSpan
after_span span n = record span { next = n.end }

pub next-within : (ns : List FlatNode) (span : NodeSpan) → IsSpan ns span → span.next < span.end → span.next < length ns
next-within ns span is some = let within = stretch-within ns span.next span.end is.stretch in omega (arith, within.1)

found-low : (ns : List FlatNode) (i : ℕ) (n : FlatNode) → AreLow ns → i < length ns → slice_get ns i ≡ Some n → n.opacity ≤ OPACITY_MAX
found-low ns i n low within at =
    at-low ns i n low within (grind (arith, slice_get_cases ns i))

pub inner-low : (ns : List FlatNode) (span : NodeSpan) (n : FlatNode) → IsSpan ns span → span.next < span.end → AreLow ns → slice_get ns span.next ≡ Some n
    → seen_through span.scope.opacity n.opacity ≤ OPACITY_MAX
inner-low ns span n is some low at = seen-low span.scope.opacity n.opacity is.low (found-low ns span.next n low (next-within ns span is some) at)

-- the first node was gone over: what it gives is there
pub record HasStepped (s : ℕ) (old : SessionWalk) (span : NodeSpan) (n : FlatNode) (scope : Scope) (new : SessionWalk) : Type 0 where
  pub parts : new.parts ≡ appended old.parts (node_pieces s (space_of scope) (as_node n Empty))
  pub scope_is : space_of scope ≡ node_space (space_of span.scope) (as_node n Empty)
  pub low : scope.opacity ≤ OPACITY_MAX

pieces-first : (s : ℕ) (outer here : Space) (n : FlatNode) (children rest : Children) → here ≡ node_space outer (as_node n Empty)
    → pieces s (more (as_node n children) rest) outer ≡ node_pieces s here (as_node n Empty) ++ (pieces s children here ++ pieces s rest outer)
pieces-first s outer here n children rest inner = rw inner refl

span-first : (s : ℕ) (ns : List FlatNode) (span : NodeSpan) (n : FlatNode) (scope : Scope) → IsFirst ns span.next span.end n
    → space_of scope ≡ node_space (space_of span.scope) (as_node n Empty)
    → span_pieces s ns span ≡ node_pieces s (space_of scope) (as_node n Empty)
    ++ (span_pieces s ns (below_span span n scope) ++ span_pieces s ns (after_span span n))
span-first s ns span n scope parts inner =
    ap (λ (nodes : Children). pieces s nodes (space_of span.scope)) parts.trees
    ∙ pieces-first s (space_of span.scope) (space_of scope) n (forest_in ns 0 (span.next + 1) n.end) (forest_in ns 0 n.end span.end) inner

four-lists : {X : Type 0} (own below after left : List X) → own ++ (below ++ (after ++ left)) ≡ (own ++ (below ++ after)) ++ left
four-lists own below after left = simp append_assoc

-- what a span gives that follows the first node, and what is left then
goes-so : (s : ℕ) (ns : List FlatNode) (old new : SessionWalk) (span next : NodeSpan) (own below after : List Piece)
    → new.parts ≡ appended old.parts own → span_pieces s ns span ≡ own ++ (below ++ after)
    → span_pieces s ns next ++ still_given s ns new.left.items ≡ below ++ (after ++ still_given s ns old.left.items)
    → appended new.parts (span_pieces s ns next ++ still_given s ns new.left.items)
    ≡ appended old.parts (span_pieces s ns span ++ still_given s ns old.left.items)
goes-so s ns old new span next own below after parts span_is still =
    let left : List Piece = still_given s ns old.left.items in
    ap₂ appended parts still ∙ appended-twice old.parts own (below ++ (after ++ left))
    ∙ ap (appended old.parts) (four-lists own below after left ∙ ap (λ (ps : List Piece). ps ++ left) (sym span_is))

-- nodes are below it: they come next, and then those after it
pub steps-below : (s : ℕ) (ns : List FlatNode) (old : SessionWalk) (span : NodeSpan) (n : FlatNode) (scope : Scope) (new : SessionWalk)
    → IsSpan ns span → span.next < span.end → slice_get ns span.next ≡ Some n → All (IsSpan ns) old.left.items → HasStepped s old span n scope new
    → new.left.items ≡ pushed old.left.items (after_span span n) → StepsOn s ns old span new (below_span span n scope)
steps-below s ns old span n scope new is some at whole h left =
    let parts : IsFirst ns span.next span.end n = stretch-first ns span.next span.end n is.stretch some at in
    let below : NodeSpan = below_span span n scope in
    let after : NodeSpan = after_span span n in
    let is_after : IsSpan ns after = record { stretch = parts.after; low = is.low } in
    record {
      given = goes-so s ns old new span below (node_pieces s (space_of scope) (as_node n Empty)) (span_pieces s ns below) (span_pieces s ns after)
          h.parts (span-first s ns span n scope parts h.scope_is)
          (ap (λ (ps : List Piece). span_pieces s ns below ++ ps)
          (ap (still_given s ns) left ∙ given-pushed s ns old.left.items after is_after));
      is = record { stretch = parts.below; low = h.low };
      whole = rw left (whole-pushed ns old.left.items after whole is_after);
    }

-- none is
pub steps-after : (s : ℕ) (ns : List FlatNode) (old : SessionWalk) (span : NodeSpan) (n : FlatNode) (scope : Scope) (new : SessionWalk)
    → IsSpan ns span → span.next < span.end → slice_get ns span.next ≡ Some n → All (IsSpan ns) old.left.items → HasStepped s old span n scope new
    → new.left.items ≡ old.left.items → n.end ≤ span.next + 1 → StepsOn s ns old span new (after_span span n)
steps-after s ns old span n scope new is some at whole h left leaf =
    let parts : IsFirst ns span.next span.end n = stretch-first ns span.next span.end n is.stretch some at in
    let after : NodeSpan = after_span span n in
    let none : span_pieces s ns (below_span span n scope) ≡ []
    = ap (λ (nodes : Children). pieces s nodes (space_of scope)) (stretch-none ns (span.next + 1) n.end parts.below leaf) in
    record {
      given = goes-so s ns old new span after (node_pieces s (space_of scope) (as_node n Empty)) [] (span_pieces s ns after)
          h.parts
          (span-first s ns span n scope parts h.scope_is
          ∙ ap (λ (ps : List Piece). node_pieces s (space_of scope) (as_node n Empty) ++ (ps ++ span_pieces s ns after)) none)
          (ap (λ (ls : List NodeSpan). span_pieces s ns after ++ still_given s ns ls) left);
      is = record { stretch = parts.after; low = is.low };
      whole = rw left whole;
    }

-- less is left to do
count-first : (ns : List FlatNode) (span : NodeSpan) (n : FlatNode) → IsSpan ns span → span.next < span.end → slice_get ns span.next ≡ Some n
    → node_count (forest_in ns 0 span.next span.end)
    ≡ 1 + node_count (forest_in ns 0 (span.next + 1) n.end) + node_count (forest_in ns 0 n.end span.end)
count-first ns span n is some at = ap node_count (stretch-first ns span.next span.end n is.stretch some at).trees

pub work-below : (ns : List FlatNode) (span : NodeSpan) (n : FlatNode) (scope : Scope) (old new : List NodeSpan)
    → IsSpan ns span → span.next < span.end → slice_get ns span.next ≡ Some n → new ≡ pushed old (after_span span n)
    → work ns new + span_work ns (below_span span n scope) < work ns old + span_work ns span
work-below ns span n scope old new is some at left =
    let all : work ns new ≤ work ns old + span_work ns (after_span span n) = rw left (work-pushed ns old (after_span span n)) in
    omega (arith, all, count-first ns span n is some at)

pub work-after : (ns : List FlatNode) (span : NodeSpan) (n : FlatNode) (old new : List NodeSpan)
    → IsSpan ns span → span.next < span.end → slice_get ns span.next ≡ Some n → new ≡ old
    → work ns new + span_work ns (after_span span n) < work ns old + span_work ns span
work-after ns span n old new is some at left =
    let same : work ns new ≡ work ns old = ap (work ns) left in
    omega (arith, same, count-first ns span n is some at)

-- ---- an empty span

-- one that came next in place of others
pub goes-empty : (s : ℕ) (ns : List FlatNode) (old : SessionWalk) (span : NodeSpan) (new : SessionWalk) (next : NodeSpan) → StepsOn s ns old span new next
    → next.end ≤ next.next
    → GoesOn s ns old span new
goes-empty s ns old span new next way low =
    let none : span_pieces s ns next ≡ [] = ap (λ (nodes : Children). pieces s nodes (space_of next.scope))
    (stretch-none ns next.next next.end way.is.stretch low) in
    record {
      given = ap (λ (ps : List Piece). appended new.parts (ps ++ still_given s ns new.left.items)) (sym none) ∙ way.given;
      whole = way.whole;
    }

-- a span takes its own place
pub stays-on : (s : ℕ) (ns : List FlatNode) (old : SessionWalk) (span : NodeSpan) → IsSpan ns span → All (IsSpan ns) old.left.items
    → StepsOn s ns old span old span
stays-on s ns old span is whole = record { given = refl; is = is; whole = whole }

-- one step after another
pub steps-twice : (s : ℕ) (ns : List FlatNode) (old : SessionWalk) (span : NodeSpan) (between : SessionWalk) (middle : NodeSpan) (new : SessionWalk)
    (next : NodeSpan)
    → StepsOn s ns old span between middle → StepsOn s ns between middle new next → StepsOn s ns old span new next
steps-twice s ns old span between middle new next one two = record { given = two.given ∙ one.given; is = two.is; whole = two.whole }

-- ---- the walk from its beginning to its end

-- the nodes of a tree, as a span
abbrev pub whole_span : ℕ → Scope → NodeSpan
whole_span end scope = record { next = 0; end = end; scope = scope }

pub starts : (s : ℕ) (tree : Tree) (scope : Scope) (end : ℕ) (trace : SessionWalk) → scope.opacity ≤ OPACITY_MAX → end ≡ length (flat_nodes tree)
    → trace.parts ≡ laid_out []
    → trace.left.items ≡ whole_span end scope ∷ [] → IsTracing s (flat_nodes tree) (pieces s (nodes_of (Some tree)) (space_of scope)) trace
starts s tree scope end trace low ends none left =
    let ns : List FlatNode = flat_nodes tree in
    let all : forest_in ns 0 0 end ≡ nodes_of (Some tree)
    = ap (λ (n : ℕ). forest_in ns 0 0 n) ends ∙ forest-whole (rooted tree.root) ∙ rooted-alone tree.root in
    let is : IsSpan ns (whole_span end scope) = record { stretch = rw ends (stretch-whole (rooted tree.root)); low = low } in
    record {
      given = ap₂ appended none (ap (still_given s ns) left) ∙ ap (λ (nodes : Children). laid_out (pieces s nodes (space_of scope))) all;
      whole = rw left (All-cons (IsSpan ns) (whole_span end scope) [] is (All-nil (IsSpan ns)));
    }

-- a span is taken from those that are left
pub record IsTaken (s : ℕ) (ns : List FlatNode) (all : List Piece) (span : NodeSpan) (trace : SessionWalk) : Type 0 where
  pub given : appended trace.parts (span_pieces s ns span ++ still_given s ns trace.left.items) ≡ laid_out all
  pub whole : All (IsSpan ns) trace.left.items
  pub is : IsSpan ns span

pub taken : (s : ℕ) (ns : List FlatNode) (all : List Piece) (span : NodeSpan) (old trace : SessionWalk) → IsTracing s ns all old
    → old.left.items ≡ trace.left.items ++ span ∷ [] → trace.parts ≡ old.parts → IsTaken s ns all span trace
taken s ns all span old trace way left same =
    let whole = All-pop (IsSpan ns) old.left.items trace.left.items (Some span) left way.whole in
    record {
      given = ap₂ appended same (sym (given-more s ns trace.left.items span) ∙ ap (still_given s ns) (sym left)) ∙ way.given;
      whole = whole.0;
      is = whole.1;
    }

pub taken-goes-on : (s : ℕ) (ns : List FlatNode) (all : List Piece) (span : NodeSpan) (trace new : SessionWalk) → IsTaken s ns all span trace
    → GoesOn s ns trace span new
    → IsTracing s ns all new
taken-goes-on s ns all span trace new is next = record { given = next.given ∙ is.given; whole = next.whole }

pub work-taken : (ns : List FlatNode) (old left : List NodeSpan) (span : NodeSpan) → old ≡ left ++ span ∷ [] → work ns old ≡ work ns left + span_work ns span
work-taken ns old left span e = ap (work ns) e ∙ work-more ns left span

pub ends : (s : ℕ) (ns : List FlatNode) (all : List Piece) (trace : SessionWalk) → IsTracing s ns all trace → trace.left.items ≡ [] → trace.parts ≡ laid_out all
ends s ns all trace way none =
    sym (appended-none trace.parts) ∙ ap (λ (left : List NodeSpan). appended trace.parts (still_given s ns left)) (sym none) ∙ way.given
