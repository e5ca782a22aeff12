-- The definitions, computed on a small table: a filled rectangle 7, an image 9 and a viewport 5, in this order.
use Rattle.std.proofs.Common.{ℕ, pos, ◌≡◌, refl, true, false, List, [], ◌∷◌, map, None, Some}
use Rattle.std.specs.List.{filter_map, list_all}
use Rattle.flat_base.specs.declared.errors.Reason.TheVariants.{ZeroId, IdInUse, UnknownContent, WrongContent, BadOpacity, BadRect, BadSize, BadBuffer}
use Rattle.flat_scene.specs.declared.calls.BlendMode.TheVariants.{Src}
use Rattle.flat_scene.specs.declared.calls.ImageFlip.TheVariants.{Plain}
use Rattle.flat_scene.specs.declared.calls.ViewportProps.{ViewportProps}
use Rattle.flat_scene.specs.declared.setup.BufferDecl.{BufferDecl}
use Rattle.flat_scene.specs.declared.trees.Content.TheVariants as shown
use Rattle.flat_scene.specs.Misuse.{first_reason, is_fill, is_image, is_viewport}
use Rattle.flat_content.specs.declared.stored_content.StoredContent.TheVariants.{Fill, Viewport}
use Rattle.flat_content.specs.Limits.{are_sides}
use Rattle.flat_content.specs.Reasons.{create_tests, given_tests, image_tests, opacity_tests, properties_tests, sample_tests, size_tests, solid_tests}
use Rattle.flat_content.specs.Reasons.{sort_tests, viewport_tests}
use Rattle.flat_content.specs.Table.{TableState, change_named, cleared, content_at, empty_table, held_of, new_image, on_image, on_viewport, pair_named}
use Rattle.flat_content.specs.Table.{released, use_at, viewport_released, with_stored}

abbrev buffers : List BufferDecl
buffers = (record { owner = record { 0 = 1 }; count = 2; w = 8; h = 6 }) ∷ []

abbrev props : ViewportProps
props = record { w = 40; h = 30; inset = record { top = 1; right = 2; bottom = 3; left = 4 } }

abbrev table : TableState
table = with_stored (with_stored (with_stored (empty_table buffers) 7 (Fill None)) 9 (new_image (record { 0 = 0 }) 1 8 6)) 5 (Viewport (record { 0 = 3 }) props)

abbrev filled : TableState
filled = change_named table 7 (λ _. Fill (Some (record { rgba = 1 ∷ 2 ∷ 3 ∷ 255 ∷ []; size = (10, 20) })))

-- the names rise by ids, and have serials by the order of creation
names-rise : map {B = ℕ × ℕ} (λ name. (name.id, name.key)) table.names ≡ (5, 3) ∷ (7, 1) ∷ (9, 2) ∷ []
names-rise = refl

-- a filled rectangle is shown from its first SetSolidFill on, also after its release
fill-before : content_at table 1 ≡ None
fill-before = refl

fill-after : content_at (released filled 7) 1 ≡ Some (shown.Fill 1 (1 ∷ 2 ∷ 3 ∷ 255 ∷ []) 10 20)
fill-after = refl

never-made : (content_at filled 0 ≡ None) × (content_at filled 4 ≡ None)
never-made = (refl, refl)

-- what a transform holds
holds : (held_of table 5 ≡ Some (record { serial = 3; viewport = true })) × (held_of table 7 ≡ Some (record { serial = 1; viewport = false }))
    × (held_of table 6 ≡ None)
holds = (refl, refl, refl)

-- the viewport is in use until its release, or a Clear; the serial stays
in-use : table.viewports ≡ 3 ∷ []
in-use = refl

used : map {B = ℕ × ℕ} (λ it. (it.serial, it.pair.0)) (filter_map (use_at table) table.viewports) ≡ (3, 3) ∷ []
used = refl

not-used : ((viewport_released table 5).viewports ≡ []) × ((cleared table).viewports ≡ []) × ((viewport_released table 5).contents ≡ table.contents)
not-used = (refl, refl, refl)

-- a change of a sort changes no other sort
other-sort : change_named table 5 (on_image (λ image. record image { opacity = 0 })) ≡ table
other-sort = refl

resized : use_at (change_named table 5 (on_viewport (λ before. record before { w = 1 }))) 3
    ≡ Some (record { serial = 3; pair = record { 0 = 3 }; props = record props { w = 1 } })
resized = refl

faded : content_at (change_named table 9 (on_image (λ image. record image { opacity = 5 }))) 2
    ≡ Some (shown.Image 2 (record { 0 = 0 }) 1 (record { x = pos 0; y = pos 0; w = pos 8; h = pos 6 }) 8 6 Src Plain 5)
faded = refl

-- the reasons, the first one
creations : (first_reason (create_tests table 0) ≡ Some ZeroId) × (first_reason (create_tests table 5) ≡ Some IdInUse)
    × (first_reason (create_tests (released table 5) 5) ≡ None)
creations = (refl, refl, refl)

fills : (first_reason (solid_tests table 4 0 1) ≡ Some UnknownContent) × (first_reason (solid_tests table 5 0 1) ≡ Some WrongContent)
    × (first_reason (solid_tests table 7 0 1) ≡ Some BadSize)
    × (first_reason (solid_tests table 7 65536 65536) ≡ None) × (first_reason (sort_tests table is_fill 9) ≡ Some WrongContent)
fills = (refl, refl, refl, refl, refl)

images : (first_reason (image_tests table 1 (record { 0 = 0 }) 1 9 6) ≡ Some BadSize)
    × (first_reason (image_tests table 1 (record { 0 = 0 }) 2 8 6) ≡ Some BadBuffer)
    × (first_reason (image_tests table 1 (record { 0 = 1 }) 0 0 0) ≡ Some BadBuffer) × (first_reason (image_tests table 1 (record { 0 = 0 }) 1 8 6) ≡ None)
images = (refl, refl, refl, refl)

image-setters : (first_reason (sample_tests table 9 (record { x = pos 1; y = pos 0; w = pos 8; h = pos 6 })) ≡ Some BadRect)
    × (first_reason (size_tests table 9 65537 1) ≡ Some BadSize)
    × (first_reason (opacity_tests table 9 65537) ≡ Some BadOpacity) × (first_reason (sort_tests table is_image 5) ≡ Some WrongContent)
image-setters = (refl, refl, refl, refl)

viewports : (first_reason (viewport_tests table 1 1 0) ≡ Some BadSize) × (first_reason (properties_tests table 5 65537 1) ≡ Some BadSize)
    × (first_reason (sort_tests table is_viewport 7) ≡ Some WrongContent)
viewports = (refl, refl, refl)

givings : (first_reason (given_tests table 0) ≡ None) × (first_reason (given_tests table 6) ≡ Some UnknownContent)
givings = (refl, refl)

sides : (list_all are_sides buffers ≡ true) × (are_sides (record { owner = record { 0 = 1 }; count = 1; w = 65537; h = 1 }) ≡ false)
sides = (refl, refl)

pairs : (pair_named table 5 ≡ Some (record { 0 = 3 })) × (pair_named table 7 ≡ None) × (pair_named table 6 ≡ None)
pairs = (refl, refl, refl)
