-- The definitions, computed on a session with a fill and, after it, a viewport.
use Rattle.std.proofs.Common.{ℕ, ◌*◌, pos, suc, ◌≡◌, refl, sym, ap, ◌∙◌, List, [], ◌∷◌, ◌++◌, length, None, Some, arith}
use Rattle.std.proofs.lemmas.List.{length-append}
use Rattle.flat_join.specs.declared.scope.Scope.{Scope}
use Rattle.flat_reuse.specs.declared.session_walk.NodeSpan.{NodeSpan}
use Rattle.flat_reuse.specs.Tracing.{pushed}
use Rattle.flat_base.specs.declared.ids.SessionNo.{SessionNo}
use Rattle.flat_base.specs.declared.shapes.Orientation.TheVariants.{Ccw0}
use Rattle.flat_base.specs.declared.shapes.Rect.{Rect}
use Rattle.flat_geom.specs.Identity.{identity_matrix}
use Rattle.flat_scene.specs.declared.calls.BlendMode.TheVariants.{Src}
use Rattle.flat_scene.specs.declared.frames.DrawItem.{DrawItem}
use Rattle.flat_scene.specs.declared.frames.Paint.TheVariants as paint
use Rattle.flat_scene.specs.declared.trees.Children.{Children}
use Rattle.flat_scene.specs.declared.trees.Children.TheVariants.{Empty}
use Rattle.flat_scene.specs.declared.trees.Content.{Content}
use Rattle.flat_scene.specs.declared.trees.Content.TheVariants as content
use Rattle.flat_scene.specs.declared.trees.Node.{Node}
use Rattle.flat_scene.specs.Trees.{more}
use Rattle.flat_topology.specs.Draw.{scene_matrix}
use Rattle.flat_topology.specs.Join.{JoinedTree, child_view, joined_nodes, nothing}
use Rattle.flat_topology.specs.Place.{Space}
use Rattle.flat_reuse.specs.declared.piece.ChildLink.{ChildLink}
use Rattle.flat_reuse.specs.declared.piece.PlacedLink.{PlacedLink}
use Rattle.flat_reuse.specs.declared.piece.SessionParts.{SessionParts}
use Rattle.flat_reuse.specs.Parts.{own_items, placed_links, laid_out, appended}
use Rattle.flat_reuse.specs.Pieces.{Piece, Drawn, Linked, link_of, pieces, piece_items, piece_views}
use Rattle.flat_reuse.proofs.Parts.{HasNext, next-link, next-items}

abbrev session : ℕ → SessionNo
session s = record { 0 = s }

abbrev square : ℕ → Rect
square side = record { x0 = pos 0; y0 = pos 0; x1 = pos (side * 65536); y1 = pos (side * 65536) }

abbrev display : Space
display = record { matrix = identity_matrix; clip = square 100; opacity = 65536 }

abbrev plain : Content → Node
plain what = record {
  serial = 1;
  scale = (65536, 65536);
  turn = Ccw0;
  place = (pos 0, pos 0);
  clip = None;
  opacity = 65536;
  hits = [];
  content = Some what;
  children = Empty;
}

-- a red fill of 10 by 10, and a viewport of 20 by 20
abbrev red : Content
red = content.Fill 1 (255 ∷ 0 ∷ 0 ∷ 255 ∷ []) 10 10

abbrev viewport : Content
viewport = content.Viewport 2 (record { 0 = 1 }) (record { w = 20; h = 20; inset = record { top = 0; right = 0; bottom = 0; left = 0 } })

abbrev nodes : Children
nodes = more (plain red) (more (plain viewport) Empty)

abbrev item_of : ℕ → DrawItem
item_of s = record {
  session = session s;
  serial = 1;
  paint = paint.Fill (255 ∷ 0 ∷ 0 ∷ 255 ∷ []);
  w = 10;
  h = 10;
  matrix = scene_matrix identity_matrix;
  visible = square 10;
  opacity = 65536;
  blend = Src;
}

abbrev link : ChildLink
link = record { pair = 1; scope = record { matrix = identity_matrix; clip = square 20; opacity = 65536 }; bounds = square 20 }

a_fill_links_nothing : link_of display (Some red) ≡ None
a_fill_links_nothing = refl

a_session_gives : pieces 1 nodes display ≡ Drawn (item_of 1) ∷ Linked link ∷ []
a_session_gives = refl

-- the pair leads to session 2, which shows the fill alone
abbrev led : ℕ → JoinedTree
led p = child_view 2 (joined_nodes (λ q. nothing) 2 (more (plain red) Empty))

an_item_gives_itself : piece_items led (Drawn (item_of 1)) ≡ item_of 1 ∷ []
an_item_gives_itself = refl

a_link_gives_items : piece_items led (Linked link) ≡ item_of 2 ∷ []
a_link_gives_items = refl

a_link_gives_views : piece_views led (session 1) (Linked link) ≡ record { session = session 2; parent = Some (session 1); bounds = square 20 } ∷ []
a_link_gives_views = refl

-- ---- pieces as two lists

abbrev item : DrawItem
item = item_of 1

abbrev at_place : ℕ → ChildLink → PlacedLink
at_place place l = record { place = place; link = l }

abbrev placed : ℕ → PlacedLink
placed place = at_place place link

-- a link comes after the item before it
two_pieces : laid_out (pieces 1 nodes display) ≡ record { items = item ∷ []; links = placed 1 ∷ [] }
two_pieces = refl

-- links side by side have one place, and each is counted from the first item
four_pieces : laid_out (Linked link ∷ Drawn item ∷ Linked link ∷ Linked link ∷ []) ≡ record { items = item ∷ []; links = placed 0 ∷ placed 1 ∷ placed 1 ∷ [] }
four_pieces = refl

-- one piece more
three_pieces : appended (laid_out (Drawn item ∷ Linked link ∷ [])) (Drawn item ∷ Linked link ∷ [])
    ≡ record { items = item ∷ item ∷ []; links = placed 1 ∷ placed 2 ∷ [] }
three_pieces = refl

-- in another order the pieces give other lists
another_order : laid_out (Linked link ∷ Drawn item ∷ []) ≡ laid_out (Drawn item ∷ Linked link ∷ []) → ⊥
another_order same =
    let links : placed 0 ∷ [] ≡ placed 1 ∷ [] = ap (λ (parts : SessionParts). parts.links) same in
    let wrong : placed 0 ≡ placed 1 = cc in
    absurd (omega (arith, ap (λ (at : PlacedLink). at.place) wrong))

-- no pieces give a link that comes after more items than there are
past_the_items : (ps : List Piece) → laid_out ps ≡ record { items = item ∷ []; links = placed 2 ∷ [] } → ⊥
past_the_items ps same =
    let n : HasNext 0 ps (placed 2) [] = next-link 0 ps (placed 2) [] (ap (λ (parts : SessionParts). parts.links) same) in
    let items : own_items ps ≡ item ∷ [] = ap (λ (parts : SessionParts). parts.items) same in
    let left : item ∷ [] ≡ n.items ++ own_items n.after = sym items ∙ next-items 0 ps (placed 2) [] n in
    absurd (omega (arith, n.place, ap length left, length-append n.items (own_items n.after)))

-- two lists stand for one list of pieces
same_pieces : (before : ℕ) (ps qs : List Piece) → own_items ps ≡ own_items qs → placed_links before ps ≡ placed_links before qs → ps ≡ qs
same_pieces before [] [] items links = refl
same_pieces before [] (Drawn x ∷ qs) items links = absurd (cc)
same_pieces before [] (Linked l ∷ qs) items links = absurd (cc)
same_pieces before (Drawn x ∷ ps) [] items links = absurd (cc)
same_pieces before (Linked l ∷ ps) [] items links = absurd (cc)
same_pieces before (Drawn x ∷ ps) (Drawn y ∷ qs) items links =
    let first : x ≡ y = cc in
    let rest : ps ≡ qs = same_pieces (suc before) ps qs (cc) links in
    cc
same_pieces before (Linked l ∷ ps) (Linked k ∷ qs) items links =
    let place : at_place before l ≡ at_place before k = cc in
    let first : l ≡ k = ap (λ (at : PlacedLink). at.link) place in
    let rest : ps ≡ qs = same_pieces before ps qs items (cc) in
    cc
same_pieces before (Drawn x ∷ ps) (Linked l ∷ qs) items links =
    absurd (omega (arith, (next-link (suc before) ps (at_place before l) (placed_links before qs) links).place))
same_pieces before (Linked l ∷ ps) (Drawn x ∷ qs) items links =
    absurd (omega (arith, (next-link (suc before) qs (at_place before l) (placed_links before ps) (sym links)).place))

-- ---- spans that are left

abbrev span_of : Scope → ℕ → ℕ → NodeSpan
span_of scope next end = record { next = next; end = end; scope = scope }

-- a span with a node comes first, and one without is left out
kept_span : (scope : Scope) → pushed [] (span_of scope 1 3) ≡ span_of scope 1 3 ∷ []
kept_span scope = refl

empty_span : (scope : Scope) → pushed (span_of scope 1 3 ∷ []) (span_of scope 3 3) ≡ span_of scope 1 3 ∷ []
empty_span scope = refl
