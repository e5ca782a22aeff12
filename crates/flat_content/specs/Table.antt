-- What contracts see of a table of contents.
use Rattle.std.specs.Prelude.{ℕ, pos, ◌+◌, ◌<◌, ◌≤◌, ◌^◌, ◌≡◌, Bool, true, false, not, List, [], ◌∷◌, ◌++◌, filter}
use Rattle.std.specs.Prelude.{length, Option, Some, None}
use Rattle.std.specs.List.{list_all}
use Rattle.std.specs.Option.{option_map, option_and_then}
use Rattle.flat_base.specs.declared.ids.BufferNo.{BufferNo}
use Rattle.flat_base.specs.declared.ids.PairNo.{PairNo}
use Rattle.flat_base.specs.declared.limits.TheConstants.{OPACITY_MAX}
use Rattle.flat_scene.specs.declared.calls.BlendMode.TheVariants.{Src}
use Rattle.flat_scene.specs.declared.calls.ImageFlip.TheVariants.{Plain}
use Rattle.flat_scene.specs.declared.calls.ViewportProps.{ViewportProps}
use Rattle.flat_scene.specs.declared.setup.BufferDecl.{BufferDecl}
use Rattle.flat_scene.specs.declared.trees.Content.{Content}
use Rattle.flat_scene.specs.declared.trees.HeldContent.{HeldContent}
use Rattle.flat_scene.specs.declared.trees.ViewportUse.{ViewportUse}
use Rattle.flat_scene.specs.Draft.{Made, an_image, a_fill, a_viewport, of_serial, changed_at}
use Rattle.flat_scene.specs.Effect.{is_serial}
use Rattle.flat_scene.specs.Misuse.{is_viewport}
use Rattle.flat_scene.specs.Tree.{shown_content, use_in}
use Rattle.flat_graph.specs.declared.names.NamedNode.{NamedNode}
use Rattle.flat_graph.specs.Names.{key_named, names_but, names_with, IsRising}
use Rattle.flat_content.specs.declared.stored_content.StoredContent.{StoredContent}
use Rattle.flat_content.specs.declared.stored_content.StoredImage.{StoredImage}
use Rattle.flat_content.specs.declared.stored_content.StoredContent.TheVariants.{Image, Fill, Viewport}
use Rattle.flat_content.specs.Limits.{are_sides}

-- a stored content, as the draft has it
abbrev pub as_made : StoredContent → Made
as_made (Image image) = an_image (record {
  buffers = image.buffers;
  index = image.index;
  size = image.size;
  sample = image.sample;
  destination = image.destination;
  blend = image.blend;
  flip = image.flip;
  opacity = image.opacity;
})
as_made (Fill None) = a_fill None
as_made (Fill (Some fill)) = a_fill (Some (record { rgba = fill.rgba; size = fill.size }))
as_made (Viewport pair props) = a_viewport pair props

-- the collections of which images may be made, the contents by serial, the names by rising id, whose keys are
-- serials, the serials of the viewports in use, and whether there is room for one content more
pub record TableState : Type 0 where
  pub buffers : List BufferDecl
  pub contents : List StoredContent
  pub names : List NamedNode
  pub viewports : List ℕ
  pub has_room : Bool

abbrev pub empty_table : List BufferDecl → TableState
empty_table buffers = record { buffers = buffers; contents = []; names = []; viewports = []; has_room = false }

-- the names are in order, 0 is none of them, and each names a serial that was given
pub record IsSound (table : TableState) : Type 0 where
  pub rising : IsRising table.names
  pub no_zero : key_named table.names 0 ≡ None
  pub from_one : (id serial : ℕ) → key_named table.names id ≡ Some serial → 1 ≤ serial
  pub made : (id serial : ℕ) → key_named table.names id ≡ Some serial → serial ≤ length table.contents

-- what is true of each table
pub record IsTable (table : TableState) : Type 0 where
  pub sound : IsSound table
  pub few : length table.contents < 2 ^ 32
  pub sides : list_all are_sides table.buffers ≡ true

-- the room for one content more, and a serial for it: lists of those lengths are below their capacities
pub record HasRoom (contents most_contents names most_names viewports most_viewports : ℕ) : Type 0 where
  pub one_content : contents < most_contents
  pub one_name : names < most_names
  pub one_viewport : viewports < most_viewports
  pub one_serial : contents + 1 < 2 ^ 32

-- the content of a serial, as the draft has it
abbrev pub made_at : TableState → ℕ → Option Made
made_at table serial = option_map as_made (of_serial table.contents serial)

-- the content that an id names
abbrev pub made_named : TableState → ℕ → Option Made
made_named table id = option_and_then (made_at table) (key_named table.names id)

-- the pair of a viewport, and of the viewport that an id names
abbrev pub pair_of : Made → Option PairNo
pair_of (a_viewport pair props) = Some pair
pair_of other = None

abbrev pub pair_named : TableState → ℕ → Option PairNo
pair_named table id = option_and_then pair_of (made_named table id)

-- the content of a serial, as the tree shows it
abbrev pub content_at : TableState → ℕ → Option Content
content_at table serial = option_and_then (shown_content serial) (made_at table serial)

-- the use of the viewport of a serial
abbrev pub use_at : TableState → ℕ → Option ViewportUse
use_at table serial = option_and_then (use_in serial) (made_at table serial)

-- the content of a serial, as a transform holds it
abbrev pub held_at : TableState → ℕ → HeldContent
held_at table serial = record { serial = serial; viewport = is_viewport (made_at table serial) }

abbrev pub held_of : TableState → ℕ → Option HeldContent
held_of table id = option_map (held_at table) (key_named table.names id)

-- the viewports in use, with one that was made
abbrev pub in_use : StoredContent → ℕ → List ℕ → List ℕ
in_use (Viewport pair props) serial viewports = viewports ++ serial ∷ []
in_use other serial viewports = viewports

-- the table with one content more, which an id names and which took the room
abbrev pub with_stored : TableState → ℕ → StoredContent → TableState
with_stored table id stored = record table {
  contents = table.contents ++ stored ∷ [];
  names = names_with (record { id = id; key = length table.contents + 1 }) table.names;
  viewports = in_use stored (length table.contents + 1) table.viewports;
  has_room = false;
}

-- an image as it is made
abbrev pub new_image : BufferNo → ℕ → ℕ → ℕ → StoredContent
new_image buffers index w h = Image (record {
  buffers = buffers;
  index = index;
  size = (w, h);
  sample = record { x = pos 0; y = pos 0; w = pos w; h = pos h };
  destination = (w, h);
  blend = Src;
  flip = Plain;
  opacity = OPACITY_MAX;
})

-- a change of what is an image or a viewport, and of nothing else
abbrev pub on_image : (StoredImage → StoredImage) → StoredContent → StoredContent
on_image change (Image image) = Image (change image)
on_image change other = other

abbrev pub on_viewport : (ViewportProps → ViewportProps) → StoredContent → StoredContent
on_viewport change (Viewport pair props) = Viewport pair (change props)
on_viewport change other = other

-- the contents with that of a serial changed
abbrev pub change_at : Option ℕ → (StoredContent → StoredContent) → List StoredContent → List StoredContent
change_at None change contents = contents
change_at (Some serial) change contents = changed_at serial change contents

-- the table with the content changed that an id names
abbrev pub change_named : TableState → ℕ → (StoredContent → StoredContent) → TableState
change_named table id change = record table { contents = change_at (key_named table.names id) change table.contents }

-- the table in which an id names nothing
abbrev pub released : TableState → ℕ → TableState
released table id = record table { names = names_but id table.names }

-- the same, where what it named is in use no more
abbrev pub viewport_released : TableState → ℕ → TableState
viewport_released table id = record table {
  names = names_but id table.names;
  viewports = filter (λ serial. not (is_serial (key_named table.names id) serial)) table.viewports;
}

-- the table without names and viewports in use
abbrev pub cleared : TableState → TableState
cleared table = record table { names = []; viewports = [] }
