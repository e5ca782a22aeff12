-- A list of pieces as it is kept: the items in a row, and the links apart.
use Rattle.std.specs.Prelude.{ℕ, suc, List, [], ◌∷◌, ◌++◌, length}
use Rattle.flat_scene.specs.declared.frames.DrawItem.{DrawItem}
use Rattle.flat_reuse.specs.declared.piece.PlacedLink.{PlacedLink}
use Rattle.flat_reuse.specs.declared.piece.SessionParts.{SessionParts}
use Rattle.flat_reuse.specs.Pieces.{Piece, Drawn, Linked}

-- the items of the pieces
abbrev pub own_items : List Piece → List DrawItem
own_items [] = []
own_items (Drawn item ∷ ps) = item ∷ own_items ps
own_items (Linked link ∷ ps) = own_items ps

-- their links, each with the number of items before it, where so many come before the first piece
abbrev pub placed_links : ℕ → List Piece → List PlacedLink
placed_links before [] = []
placed_links before (Drawn item ∷ ps) = placed_links (suc before) ps
placed_links before (Linked link ∷ ps) = record { place = before; link = link } ∷ placed_links before ps

-- the two lists that stand for these pieces
abbrev pub laid_out : List Piece → SessionParts
laid_out ps = record { items = own_items ps; links = placed_links 0 ps }

-- two lists, and more pieces after those that they stand for
abbrev pub appended : SessionParts → List Piece → SessionParts
appended parts ps = record {
  items = parts.items ++ own_items ps;
  links = parts.links ++ placed_links (length parts.items) ps;
}
