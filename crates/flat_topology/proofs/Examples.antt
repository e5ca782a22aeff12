-- The definitions, computed on small scenes.
use Rattle.std.proofs.Common.{ℕ, ℤ, pos, negsuc, ◌≡◌, refl, Bool, true, false, [], ◌∷◌, Option, Some, None, map}
use Rattle.flat_base.specs.declared.shapes.Rect.{Rect}
use Rattle.flat_scene.specs.declared.calls.BlendMode.{BlendMode}
use Rattle.flat_scene.specs.declared.calls.BlendMode.TheVariants.{Src, SrcOver}
use Rattle.flat_scene.specs.declared.calls.ImageFlip.TheVariants.{Plain}
use Rattle.flat_scene.specs.declared.calls.Interaction.{Interaction}
use Rattle.flat_scene.specs.declared.calls.Interaction.TheVariants.{Default, SemanticallyInvisible}
use Rattle.flat_scene.specs.declared.frames.DrawItem.{DrawItem}
use Rattle.flat_scene.specs.declared.frames.Hit.{Hit}
use Rattle.flat_scene.specs.declared.frames.Paint.{Paint}
use Rattle.flat_scene.specs.declared.frames.Paint.TheVariants as paint
use Rattle.flat_scene.specs.declared.frames.SceneMatrix.{SceneMatrix}
use Rattle.flat_scene.specs.declared.frames.ViewNode.{ViewNode}
use Rattle.flat_topology.specs.declared.ConnectedSession.{ConnectedSession}
use Rattle.flat_topology.specs.Join.{nothing, join}
use Rattle.flat_topology.specs.Place.{placed_nodes}
use Rattle.flat_topology.specs.Draw.{draw_list}
use Rattle.flat_topology.specs.Views.{view_nodes, apart_sessions}
use Rattle.flat_topology.specs.Hits.{hit_list}
use Rattle.flat_topology.specs.Connected.{connected_sessions}
use Rattle.flat_topology.proofs.lemmas.Samples.{session, rect, whole, shell_setup, shell_shown, shell_without_mail, nested_setup, nested_shown, round_setup}
use Rattle.flat_topology.proofs.lemmas.Samples.{round_shown, alone_setup, red_at, image_of_opacities}
use Rattle.flat_topology.proofs.lemmas.Samples.{turned_shown, two_regions, stacked_regions, rootless_shown}

abbrev moved_matrix : ℤ → ℤ → SceneMatrix
moved_matrix x y = record { swap = false; a = pos 65536; b = pos 65536; x = x; y = y }

abbrev item : ℕ → ℕ → Paint → ℕ → ℕ → SceneMatrix → Rect → ℕ → BlendMode → DrawItem
item s serial what w h matrix visible opacity blend = record {
  session = session s;
  serial = serial;
  paint = what;
  w = w;
  h = h;
  matrix = matrix;
  visible = visible;
  opacity = opacity;
  blend = blend;
}

abbrev image_paint : ℕ → ℕ → ℕ → Paint
image_paint index w h = paint.Image (record { 0 = 0 }) index (whole w h) Plain

abbrev view : ℕ → Option ℕ → Rect → ViewNode
view s None bounds = record { session = session s; parent = None; bounds = bounds }
view s (Some parent) bounds = record { session = session s; parent = Some (session parent); bounds = bounds }

abbrev connected : ℕ → Option ℕ → ConnectedSession
connected s at = record { session = session s; at = at }

abbrev hit : ℕ → Interaction → Hit
hit s interaction = record { session = session s; interaction = interaction }

abbrev everybody : ℕ → Bool
everybody s = true

-- ---- a shell with two applications

-- a node, the child view below its viewport, then the next node: sessions and serials
shell_places : map {B = ℕ × ℕ} (λ p. (p.session.0, p.serial)) (placed_nodes shell_setup shell_shown) ≡ (1, 1) ∷ (1, 2) ∷ (2, 1) ∷ (1, 3) ∷ (3, 1) ∷ []
shell_places = refl

-- items carry the serials of contents: the mail's transform is its first, its image its second content
shell_items : draw_list shell_setup shell_shown
    ≡ item 2 2 (image_paint 1 640 760) 640 760 (moved_matrix (pos 0) (pos 2621440)) (rect (pos 0) (pos 2621440) (pos 41943040) (pos 52428800)) 65536 Src
    ∷ item 3 1 (paint.Fill (0 ∷ 0 ∷ 0 ∷ 128 ∷ [])) 1280 40 (moved_matrix (pos 0) (pos 0)) (rect (pos 0) (pos 0) (pos 83886080) (pos 2621440)) 65536 SrcOver
    ∷ []
shell_items = refl

shell_views : view_nodes shell_setup shell_shown
    ≡ view 1 None (rect (pos 0) (pos 0) (pos 83886080) (pos 52428800))
    ∷ view 2 (Some 1) (rect (pos 0) (pos 2621440) (pos 41943040) (pos 52428800))
    ∷ view 3 (Some 1) (rect (pos 0) (pos 0) (pos 83886080) (pos 2621440))
    ∷ []
shell_views = refl

-- a session that shows nothing is apart, where it has a view
mail_apart : apart_sessions shell_setup shell_without_mail everybody ≡ session 2 ∷ []
mail_apart = refl

-- the clock ends at 40, where the mail begins; the mail ends at 640, where the shell alone is left
clock_hit : hit_list shell_setup shell_shown (pos 5) (pos 39) ≡ hit 3 Default ∷ hit 1 Default ∷ []
clock_hit = refl

mail_hit : hit_list shell_setup shell_shown (pos 639) (pos 40) ≡ hit 2 Default ∷ hit 1 Default ∷ []
mail_hit = refl

shell_hit : hit_list shell_setup shell_shown (pos 640) (pos 40) ≡ hit 1 Default ∷ []
shell_hit = refl

outside_hit : hit_list shell_setup shell_shown (negsuc 0) (pos 40) ≡ []
outside_hit = refl

-- the first hangs below no node, the others below the shell's two viewports, which are nodes 1 and 3
shell_connected : connected_sessions shell_setup shell_shown ≡ connected 1 None ∷ connected 2 (Some 1) ∷ connected 3 (Some 3) ∷ []
shell_connected = refl

-- the child view below a viewport stands before the children of its node
nested_places : map {B = ℕ × ℕ} (λ p. (p.session.0, p.serial)) (placed_nodes nested_setup nested_shown) ≡ (1, 1) ∷ (2, 1) ∷ (1, 2) ∷ []
nested_places = refl

-- what is linked is cut by its viewport and the display, and seen through it; its bounds are uncut
nested_items : draw_list nested_setup nested_shown
    ≡ item 2 3 (paint.Fill (9 ∷ 9 ∷ 9 ∷ 255 ∷ [])) 50 50 (moved_matrix (pos 5898240) (pos 0)) (rect (pos 5898240) (pos 0) (pos 6553600) (pos 1310720)) 32768 Src
    ∷ []
nested_items = refl

nested_views : view_nodes nested_setup nested_shown
    ≡ view 1 None (rect (pos 0) (pos 0) (pos 6553600) (pos 6553600)) ∷ view 2 (Some 1) (rect (pos 5898240) (pos 0) (pos 7208960) (pos 1310720)) ∷ []
nested_views = refl

-- ---- links that go round are never reached

round_joined : join round_setup round_shown ≡ nothing
round_joined = refl

round_views : view_nodes round_setup round_shown ≡ []
round_views = refl

round_apart : apart_sessions round_setup round_shown everybody ≡ session 1 ∷ session 2 ∷ []
round_apart = refl

-- ---- one session

-- without a root it is connected, and shows no node
rootless_views : view_nodes alone_setup rootless_shown ≡ view 1 None (rect (pos 0) (pos 0) (pos 6553600) (pos 6553600)) ∷ []
rootless_views = refl

rootless_places : placed_nodes alone_setup rootless_shown ≡ []
rootless_places = refl

-- a fill is cut by the display's edge, and gives no item where it only touches it
red_cut : draw_list alone_setup (red_at (pos 95))
    ≡ item 1 1 (paint.Fill (255 ∷ 0 ∷ 0 ∷ 255 ∷ [])) 10 10 (moved_matrix (pos 6225920) (pos 0)) (rect (pos 6225920) (pos 0) (pos 6553600) (pos 655360)) 65536
    Src ∷ []
red_cut = refl

red_touching : draw_list alone_setup (red_at (pos 100)) ≡ []
red_touching = refl

-- an image whose opacity rounds to 0 gives an item of opacity 0; a node of opacity 0 gives none
image_faint : map (λ i. i.opacity) (draw_list alone_setup (image_of_opacities 1 32768)) ≡ 0 ∷ []
image_faint = refl

image_halved : map (λ i. i.opacity) (draw_list alone_setup (image_of_opacities 32768 32768)) ≡ 16384 ∷ []
image_halved = refl

node_hidden : draw_list alone_setup (image_of_opacities 0 65536) ≡ []
node_hidden = refl

-- scaled, turned, moved and cut
turned_item : draw_list alone_setup turned_shown
    ≡ item 1 1 (paint.Fill (1 ∷ 2 ∷ 3 ∷ 255 ∷ [])) 10 20
    (record { swap = true; a = pos 32768; b = negsuc 131071; x = pos 1310720; y = pos 3276800 })
    (rect (pos 1310720) (pos 2621440) (pos 1966080) (pos 3276800)) 65536 Src
    ∷ []
turned_item = refl

-- of two regions side by side, each has its lower edge
first_region : hit_list alone_setup (two_regions SemanticallyInvisible) (pos 9) (pos 5) ≡ hit 1 Default ∷ []
first_region = refl

second_region : hit_list alone_setup (two_regions SemanticallyInvisible) (pos 10) (pos 5) ≡ hit 1 SemanticallyInvisible ∷ []
second_region = refl

beyond_regions : hit_list alone_setup (two_regions SemanticallyInvisible) (pos 20) (pos 5) ≡ []
beyond_regions = refl

-- a session is hit once, by what is drawn last, and only within the clip
stacked_hit : hit_list alone_setup (stacked_regions SemanticallyInvisible) (pos 5) (pos 5) ≡ hit 1 Default ∷ []
stacked_hit = refl

within_clip : hit_list alone_setup (stacked_regions SemanticallyInvisible) (pos 19) (pos 5) ≡ hit 1 Default ∷ []
within_clip = refl

beyond_clip : hit_list alone_setup (stacked_regions SemanticallyInvisible) (pos 20) (pos 5) ≡ []
beyond_clip = refl
