-- Pieces one after another, as two lists.
use Rattle.std.proofs.Common.{ℕ, suc, ◌+◌, ◌≡◌, refl, sym, ap, ap₂, ◌∙◌, List, [], ◌∷◌, ◌++◌, length, map, arith}
use Rattle.std.proofs.lemmas.List.{append_assoc, append-nil, length-append}
use Rattle.flat_scene.specs.declared.frames.DrawItem.{DrawItem}
use Rattle.flat_reuse.specs.declared.piece.ChildLink.{ChildLink}
use Rattle.flat_reuse.specs.declared.piece.PlacedLink.{PlacedLink}
use Rattle.flat_reuse.specs.declared.piece.SessionParts.{SessionParts}
use Rattle.flat_reuse.specs.Parts.{own_items, placed_links, appended}
use Rattle.flat_reuse.specs.Pieces.{Piece, Drawn, Linked}

abbrev parts_of : List DrawItem → List PlacedLink → SessionParts
parts_of items links = record { items = items; links = links }

pub items-append : (ps qs : List Piece) → own_items (ps ++ qs) ≡ own_items ps ++ own_items qs
items-append [] qs = refl
items-append (Drawn item ∷ ps) qs = ap (λ (items : List DrawItem). item ∷ items) (items-append ps qs)
items-append (Linked link ∷ ps) qs = items-append ps qs

links-append : (before : ℕ) (ps qs : List Piece)
    → placed_links before (ps ++ qs) ≡ placed_links before ps ++ placed_links (before + length (own_items ps)) qs
links-append before [] qs = ap (λ (n : ℕ). placed_links n qs) (omega arith)
links-append before (Drawn item ∷ ps) qs =
    links-append (suc before) ps qs ∙ ap (λ (n : ℕ). placed_links (suc before) ps ++ placed_links n qs) (omega arith)
links-append before (Linked link ∷ ps) qs = ap (λ (links : List PlacedLink). record { place = before; link = link } ∷ links) (links-append before ps qs)

pub appended-none : (parts : SessionParts) → appended parts [] ≡ parts
appended-none parts = ap₂ parts_of (append-nil parts.items) (append-nil parts.links)

pub appended-twice : (parts : SessionParts) (ps qs : List Piece) → appended (appended parts ps) qs ≡ appended parts (ps ++ qs)
appended-twice parts ps qs =
    let n : ℕ = length parts.items in
    ap₂ parts_of
    (append_assoc parts.items (own_items ps) (own_items qs) ∙ ap (λ (items : List DrawItem). parts.items ++ items) (sym (items-append ps qs)))
    (append_assoc parts.links (placed_links n ps) (placed_links (length (parts.items ++ own_items ps)) qs)
    ∙ ap (λ (k : ℕ). parts.links ++ (placed_links n ps ++ placed_links k qs)) (length-append parts.items (own_items ps))
    ∙ ap (λ (links : List PlacedLink). parts.links ++ links) (sym (links-append n ps qs)))

-- ---- the next link

pub items-drawn : (items : List DrawItem) → own_items (map (λ item. Drawn item) items) ≡ items
items-drawn [] = refl
items-drawn (item ∷ items) = ap (λ (xs : List DrawItem). item ∷ xs) (items-drawn items)

-- the pieces before the next link are items, as many as its place tells
pub record HasNext (before : ℕ) (ps : List Piece) (at : PlacedLink) (later : List PlacedLink) : Type 0 where
  pub items : List DrawItem
  pub after : List Piece
  pub whole : ps ≡ map (λ item. Drawn item) items ++ Linked at.link ∷ after
  pub place : at.place ≡ before + length items
  pub links : later ≡ placed_links at.place after

pub next-link : (before : ℕ) (ps : List Piece) (at : PlacedLink) (later : List PlacedLink) → placed_links before ps ≡ at ∷ later → HasNext before ps at later
next-link before [] at later e = absurd (cc)
next-link before (Drawn item ∷ ps) at later e =
    let n : HasNext (suc before) ps at later = next-link (suc before) ps at later e in
    record {
      items = item ∷ n.items;
      after = n.after;
      whole = ap (λ (qs : List Piece). Drawn item ∷ qs) n.whole;
      place = omega (arith, n.place);
      links = n.links;
    }
next-link before (Linked link ∷ ps) at later e =
    let first : record { place = before; link = link } ≡ at = cc in
    let place : at.place ≡ before = ap (λ (l : PlacedLink). l.place) (sym first) in
    let same : link ≡ at.link = ap (λ (l : PlacedLink). l.link) first in
    let rest : placed_links before ps ≡ later = cc in
    record {
      items = [];
      after = ps;
      whole = ap (λ (l : ChildLink). Linked l ∷ ps) same;
      place = omega (arith, place);
      links = sym rest ∙ ap (λ (n : ℕ). placed_links n ps) (sym place);
    }

-- where no link comes, all pieces are items
pub no-link : (before : ℕ) (ps : List Piece) → placed_links before ps ≡ [] → ps ≡ map (λ item. Drawn item) (own_items ps)
no-link before [] e = refl
no-link before (Drawn item ∷ ps) e = ap (λ (qs : List Piece). Drawn item ∷ qs) (no-link (suc before) ps e)
no-link before (Linked link ∷ ps) e = absurd (cc)

-- the items that are left begin with those before the next link
pub next-items : (before : ℕ) (ps : List Piece) (at : PlacedLink) (later : List PlacedLink) (n : HasNext before ps at later)
    → own_items ps ≡ n.items ++ own_items n.after
next-items before ps at later n =
    ap own_items n.whole ∙ items-append (map (λ item. Drawn item) n.items) (Linked at.link ∷ n.after)
    ∙ ap (λ (xs : List DrawItem). xs ++ own_items n.after) (items-drawn n.items)
