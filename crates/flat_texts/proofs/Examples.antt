-- Worked cases, computed.
use Rattle.std.proofs.Common.{ℕ, ◌≡◌, refl, ap, arith, false, length, List, [], ◌∷◌, ◌++◌}
use Rattle.std.specs.Prelude.{Some, codes, pos}
use Rattle.std.specs.Fmt.{digits}
use Rattle.flat_base.specs.declared.ids.Actor.TheVariants.{Display}
use Rattle.flat_base.specs.declared.shapes.Rect.{Rect}
use Rattle.flat_scene.specs.declared.calls.BlendMode.TheVariants.{Src}
use Rattle.flat_scene.specs.declared.frames.DrawItem.{DrawItem}
use Rattle.flat_scene.specs.declared.frames.FrameOut.{FrameOut}
use Rattle.flat_scene.specs.declared.frames.Paint.TheVariants.{Fill}
use Rattle.flat_scene.specs.declared.journal.Entry.{Entry}
use Rattle.flat_scene.specs.declared.journal.EntryKind.{EntryKind}
use Rattle.flat_scene.specs.declared.journal.EntryKind.TheVariants.{Begin, Finish}
use Rattle.flat_scene.specs.declared.journal.Reply.TheVariants.{Done}
use Rattle.flat_texts.specs.declared.damage.FrameDamage.{FrameDamage}
use Rattle.flat_texts.specs.Damages.{IsDamageText, damaged_text, none}
use Rattle.flat_render.specs.Ppm.{header}
use Rattle.flat_scene.specs.declared.setup.Setup.{Setup}
use Rattle.flat_texts.specs.Films.{film_text}
use Rattle.flat_texts.specs.Lines.{finish_lines}
use Rattle.flat_base.specs.Last.{last_item}
use Rattle.flat_texts.specs.Pictures.{list_of, picture_of}

abbrev square : Rect
square = record { x0 = pos 0; y0 = pos 0; x1 = pos 655360; y1 = pos 655360 }

abbrev fill : ℕ → DrawItem
fill serial = record {
  session = record { 0 = 1 };
  serial = serial;
  paint = Fill (255 ∷ 0 ∷ 0 ∷ 255 ∷ []);
  w = 10;
  h = 10;
  matrix = record { swap = false; a = pos 65536; b = pos 65536; x = pos 0; y = pos 0 };
  visible = square;
  opacity = 65536;
  blend = Src;
}

abbrev frame_with : ℕ → List DrawItem → FrameOut
frame_with number items = record { frame = record { 0 = number }; items = items; tree = record { nodes = []; apart = [] } }

-- ---- pictures

the_last_frame_is_shown : list_of (last_item (frame_with 1 (fill 1 ∷ []) ∷ frame_with 2 (fill 2 ∷ []) ∷ [])) ≡ fill 2 ∷ []
the_last_frame_is_shown = refl

nothing_is_shown_before_the_first : list_of (last_item []) ≡ []
nothing_is_shown_before_the_first = refl

-- ---- films

abbrev two_pixels : Setup
two_pixels = record { width = 2; height = 1; sessions = 0; probes = 0; pairs = []; buffers = []; fences = []; ratio = 65536 }

-- the fill over the left pixel alone
abbrev left_pixel : DrawItem
left_pixel = record (fill 1) { w = 1; h = 1; visible = record square { x1 = pos 65536; y1 = pos 65536 } }

abbrev black_picture : List ℕ
black_picture = header 2 1 ++ (0 ∷ 0 ∷ 0 ∷ 0 ∷ 0 ∷ 0 ∷ [])

a_film_without_frames_is_black : film_text two_pixels [] ≡ black_picture
a_film_without_frames_is_black = refl

each_frame_has_its_picture : film_text two_pixels (frame_with 1 (left_pixel ∷ []) ∷ frame_with 2 [] ∷ [])
    ≡ picture_of two_pixels (Some (frame_with 1 (left_pixel ∷ []))) ++ black_picture
unfolding digits
each_frame_has_its_picture = refl

-- equal frames are two pictures, and not one
frames_are_not_left_out : film_text two_pixels (frame_with 1 [] ∷ frame_with 2 [] ∷ []) ≡ black_picture → ⊥
unfolding digits
frames_are_not_left_out same = absurd (let fewer : 34 ≡ 17 = ap length same in omega (arith, fewer))

-- ---- damage

nothing_changed : damaged_text [] ≡ codes "damage ends frames 0\n"
unfolding digits
nothing_changed = refl

abbrev one_rectangle : FrameDamage
one_rectangle = record { frame = record { 0 = 1 }; rects = square ∷ [] }

a_rectangle_has_a_line : damaged_text (one_rectangle ∷ []) ≡ codes "damage frame 1 rects 1\nrect 0 0 655360 655360\ndamage ends frames 1\n"
unfolding digits
a_rectangle_has_a_line = refl

no_frames_have_this_text : IsDamageText [] (damaged_text [])
no_frames_have_this_text = record { damaged = []; are = none; is = refl }

-- ---- lines

abbrev by_line : ℕ → EntryKind → Entry
by_line number kind = record { actor = Display; line = number; calls = []; kind = kind; reply = Done }

frames_are_finished_by_their_done : finish_lines (by_line 4 (Begin 1) ∷ by_line 6 Finish ∷ by_line 7 (Begin 2) ∷ by_line 9 Finish ∷ []) ≡ 6 ∷ 9 ∷ []
frames_are_finished_by_their_done = refl
