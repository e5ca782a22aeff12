-- Why calls on a table are refused: what is asked of each, in the order of the reasons.
use Rattle.std.specs.Prelude.{ℕ, nat_lt, slice_get, ◌&&◌, ◌||◌, ◌==◌, ◌++◌, Bool, not, is_some, is_none, List, [], ◌∷◌}
use Rattle.std.specs.Prelude.{Option}
use Rattle.flat_base.specs.declared.errors.Reason.TheVariants.{ZeroId, IdInUse, UnknownContent, WrongContent}
use Rattle.flat_base.specs.declared.errors.Reason.TheVariants.{BadOpacity, BadRect, BadSize, BadBuffer, TooManyNamed}
use Rattle.flat_base.specs.declared.limits.TheConstants.{NAMED_MAX, OPACITY_MAX}
use Rattle.flat_base.specs.declared.ids.BufferNo.{BufferNo}
use Rattle.flat_base.specs.declared.shapes.IntRect.{IntRect}
use Rattle.flat_scene.specs.Draft.{Made}
use Rattle.flat_scene.specs.Misuse.{Test, is_bad_image, is_bad_index, is_bad_rect, is_bad_side, is_fill, is_full}
use Rattle.flat_scene.specs.Misuse.{is_image, is_viewport, leaves_made}
use Rattle.flat_graph.specs.Names.{key_named}
use Rattle.flat_content.specs.Table.{TableState, made_named}

-- what is asked of an id: that it names a content
abbrev pub name_tests : TableState → ℕ → List Test
name_tests table id = (id == 0, ZeroId) ∷ (is_none (key_named table.names id), UnknownContent) ∷ []

-- the same where 0 stands for no content
abbrev pub given_tests : TableState → ℕ → List Test
given_tests table id = (not (id == 0) && is_none (key_named table.names id), UnknownContent) ∷ []

-- what is asked of an id, and that the content is of a sort
abbrev pub sort_tests : TableState → (Option Made → Bool) → ℕ → List Test
sort_tests table sort id = name_tests table id ++ (not (sort (made_named table id)), WrongContent) ∷ []

-- what is asked of an id that is to name something new
abbrev pub new_tests : TableState → ℕ → List Test
new_tests table id = (id == 0, ZeroId) ∷ (is_some (key_named table.names id), IdInUse) ∷ []

-- that one name more is allowed
abbrev pub room_tests : TableState → List Test
room_tests table = (is_full NAMED_MAX table.names, TooManyNamed) ∷ []

abbrev pub create_tests : TableState → ℕ → List Test
create_tests table id = new_tests table id ++ room_tests table

abbrev pub solid_tests : TableState → ℕ → ℕ → ℕ → List Test
solid_tests table id w h = sort_tests table is_fill id ++ (is_bad_side w || is_bad_side h, BadSize) ∷ []

abbrev pub viewport_tests : TableState → ℕ → ℕ → ℕ → List Test
viewport_tests table id w h = new_tests table id ++ (is_bad_side w || is_bad_side h, BadSize) ∷ room_tests table

abbrev pub properties_tests : TableState → ℕ → ℕ → ℕ → List Test
properties_tests table id w h = sort_tests table is_viewport id ++ (is_bad_side w || is_bad_side h, BadSize) ∷ []

abbrev pub image_tests : TableState → ℕ → BufferNo → ℕ → ℕ → ℕ → List Test
image_tests table id buffers index w h =
    new_tests table id ++ (is_bad_image (slice_get table.buffers buffers.0) w h, BadSize)
    ∷ (is_bad_index (slice_get table.buffers buffers.0) index, BadBuffer) ∷ room_tests table

abbrev pub sample_tests : TableState → ℕ → IntRect → List Test
sample_tests table id rect = sort_tests table is_image id
    ++ (is_bad_rect rect || leaves_made rect (made_named table id), BadRect) ∷ []

abbrev pub size_tests : TableState → ℕ → ℕ → ℕ → List Test
size_tests table id w h = sort_tests table is_image id ++ (is_bad_side w || is_bad_side h, BadSize) ∷ []

abbrev pub opacity_tests : TableState → ℕ → ℕ → List Test
opacity_tests table id opacity = sort_tests table is_image id ++ (nat_lt OPACITY_MAX opacity, BadOpacity) ∷ []
