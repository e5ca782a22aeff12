-- Planes: a tile's bytes, channel by channel.
use Rattle.std.proofs.Common.{ℕ, ◌+◌, ◌-◌, ◌*◌, ◌/◌, ◌%◌, ◌<◌, ◌≤◌, ◌≡◌, refl, ap, ◌∙◌, sym, subst, Bool, true, false, if◌then◌else◌, List, length, get_or}
use Rattle.std.proofs.Common.{take, drop, arith}
use Rattle.std.proofs.lemmas.Bool.{cases_lt}
use Rattle.std.proofs.lemmas.List.{get_or-take, get_or-drop, length-take, length-drop}
use Rattle.std.proofs.lemmas.Nat.{div-add-mod', mod_below, div_below, row_fits, mul-le}
use borrow.Rule.Slice.PartMut.{put_mid}
use Rattle.flat_scene.specs.declared.frames.DrawItem.{DrawItem}
use Rattle.flat_ink.specs.Areas.{has_pixel}
use Rattle.flat_ink.specs.Channels.{channel_painted, channel_step}
use Rattle.flat_ink.specs.Inks.{inked, IsInk}
use Rattle.flat_ink.specs.Pixels.{covers}
use Rattle.flat_tile.specs.Tiles.{x_at, y_at, channel_at, pixels_of, IsTile}
use Rattle.flat_ink.specs.declared.area.Area.{Area}
use Rattle.flat_ink.specs.declared.channel_ink.ChannelInk.{ChannelInk}
use Rattle.flat_tile.specs.declared.tile.Tile.{Tile}
use Rattle.flat_ink.proofs.lemmas.Ranges.{either, put-before, put-inside, put-after}
use Rattle.flat_tile.proofs.lemmas.Rows.{in-row}

-- a tile has a pixel, and each of its planes lies within it
pub some-pixels : (tile : Tile) → IsTile tile → 0 < pixels_of tile
some-pixels tile is = omega (arith, mul-le 1 1 tile.width tile.height (omega (arith, is.width)) (omega (arith, is.height)))

pub plane-fits : (s c : ℕ) → c < 3 → c * s + s ≤ 3 * s
plane-fits s c channel = omega (arith, row_fits c s 3 s channel (omega arith))

-- a number by its quotient
quotient-from : (s c m : ℕ) → m / s ≡ c → c * s ≤ m
quotient-from s c m e = subst (λ (n : ℕ). n * s ≤ m) e (omega (arith, div-add-mod' m s))

quotient-rest : (s c m : ℕ) → m / s ≡ c → m - c * s ≡ m % s
quotient-rest s c m e = subst (λ (n : ℕ). m - n * s ≡ m % s) e (omega (arith, div-add-mod' m s))

module _ (s c z : ℕ) (bytes plane : List ℕ) (some : 0 < s) (zs : z ≡ s) (fits : c * s + s ≤ length bytes)
    (len : length plane ≡ length (take z (drop (c * s) bytes))) where
  size : length plane ≡ z
  size = len ∙ simp (length-take, length-drop) (omega arith)

  -- a byte of the plane that was changed
  pub plane-there : (F : ℕ → ℕ → ℕ)
      → ((k : ℕ) → k < length (take z (drop (c * s) bytes)) → get_or plane k 0 ≡ F k (get_or (take z (drop (c * s) bytes)) k 0))
      → (m : ℕ) → m / s ≡ c → get_or (put_mid (c * s) z bytes plane) m 0 ≡ F (m % s) (get_or bytes m 0)
  plane-there F changed m e =
      let above : c * s ≤ m = quotient-from s c m e in
      let rest : m - c * s ≡ m % s = quotient-rest s c m e in
      let small : m % s < s = mod_below m s some in
      let place : c * s + (m - c * s) ≡ m = omega arith in
      put-inside (c * s) z bytes plane m (omega arith) size above (omega (arith, rest, small))
      ∙ changed (m - c * s) (omega (arith, rest, small, size, len))
      ∙ ap (F (m - c * s)) (get_or-take z (drop (c * s) bytes) (m - c * s) 0 (omega (arith, rest, small)) ∙ get_or-drop (c * s) bytes (m - c * s) 0
      ∙ ap (λ (n : ℕ). get_or bytes n 0) place)
      ∙ ap (λ (k : ℕ). F k (get_or bytes m 0)) rest

  -- and one of another plane
  pub plane-others : (m : ℕ) → (m / s ≡ c → ⊥) → get_or (put_mid (c * s) z bytes plane) m 0 ≡ get_or bytes m 0
  plane-others m other =
      either _ _ (cases_lt m (c * s))
      (λ before. put-before (c * s) z bytes plane m (omega arith) before)
      (λ above. either _ _ (cases_lt m (c * s + s))
      (λ below. absurd (other ((in-row m s c 0 s (omega arith) (omega arith) (omega arith)).0)))
      (λ past. put-after (c * s) z bytes plane m (omega arith) size (omega arith)))

-- the channel of a byte is one of three
pub which-channel : {R : Type 0} (s m : ℕ) → 0 < s → m < 3 * s → (m / s ≡ 0 → R) → (m / s ≡ 1 → R) → (m / s ≡ 2 → R) → R
which-channel s m some small red green blue =
    let below : m / s < 3 = div_below m s 3 some (omega arith) in
    either _ _ (cases_lt (m / s) 1) (λ l. red (omega arith))
    (λ h. either _ _ (cases_lt (m / s) 2) (λ l. green (omega arith)) (λ k. blue (omega arith)))

-- ink of an item, laid where the item covers, is the item's step
ink-step : (c : ℕ) (item : DrawItem) (cut : Area) (ink : ChannelInk) (px py was now : ℕ) → IsInk c item cut ink
    → (has_pixel cut px py ≡ true → covers item px py ≡ true)
    → now ≡ (if has_pixel cut px py then inked ink (px - cut.x0) (py - cut.y0) was else was)
    → now ≡ (if has_pixel cut px py then channel_step c item px py was else was)
ink-step c item cut ink px py was now is covered e = by_test (has_pixel cut px py) refl e where
  by_test : (b : Bool) → has_pixel cut px py ≡ b → now ≡ (if b then inked ink (px - cut.x0) (py - cut.y0) was else was)
      → now ≡ (if b then channel_step c item px py was else was)
  by_test true h k = k ∙ is.paints px py was h ∙ sym (ap (λ (b : Bool). if b then channel_painted c item px py was else was) (covered h))
  by_test false h k = k

-- the same, whatever the number of the channel
of-channel : (c d : ℕ) (item : DrawItem) (b : Bool) (px py was now : ℕ) → d ≡ c → now ≡ (if b then channel_step c item px py was else was)
    → now ≡ (if b then channel_step d item px py was else was)
of-channel c d item b px py was now e h = h ∙ sym (ap (λ (n : ℕ). if b then channel_step n item px py was else was) e)

pub item-channel : (c d : ℕ) (item : DrawItem) (cut : Area) (ink : ChannelInk) (px py was now : ℕ) → d ≡ c → IsInk c item cut ink
    → (has_pixel cut px py ≡ true → covers item px py ≡ true)
    → now ≡ (if has_pixel cut px py then inked ink (px - cut.x0) (py - cut.y0) was else was)
    → now ≡ (if has_pixel cut px py then channel_step d item px py was else was)
item-channel c d item cut ink px py was now e is covered h =
    of-channel c d item (has_pixel cut px py) px py was now e (ink-step c item cut ink px py was now is covered h)

-- a byte after ink, or as it was
abbrev pub inked_or : Tile → Area → ℕ → ChannelInk → ℕ → ℕ
inked_or tile cut m ink old = if has_pixel cut (x_at tile m) (y_at tile m) then inked ink (x_at tile m - cut.x0) (y_at tile m - cut.y0) old else old

-- a byte after the inks of an item, channel by channel
pub inked-item : (tile : Tile) (cut : Area) (item : DrawItem) (m : ℕ) (red green blue : ChannelInk) (was one two now : ℕ) → IsTile tile → m < 3 * pixels_of tile
    → IsInk 0 item cut red → IsInk 1 item cut green → IsInk 2 item cut blue
    → (has_pixel cut (x_at tile m) (y_at tile m) ≡ true → covers item (x_at tile m) (y_at tile m) ≡ true)
    → (channel_at tile m ≡ 0 → one ≡ inked_or tile cut m red was) → ((channel_at tile m ≡ 0 → ⊥) → one ≡ was)
    → (channel_at tile m ≡ 1 → two ≡ inked_or tile cut m green one) → ((channel_at tile m ≡ 1 → ⊥) → two ≡ one)
    → (channel_at tile m ≡ 2 → now ≡ inked_or tile cut m blue two) → ((channel_at tile m ≡ 2 → ⊥) → now ≡ two)
    → now ≡ (if has_pixel cut (x_at tile m) (y_at tile m) then channel_step (channel_at tile m) item (x_at tile m) (y_at tile m) was else was)
inked-item tile cut item m red green blue was one two now is small in_red in_green in_blue covered red_there red_else green_there green_else blue_there
    blue_else =
    let px : ℕ = x_at tile m in
    let py : ℕ = y_at tile m in
    which-channel (pixels_of tile) m (some-pixels tile is) small
    (λ e. item-channel 0 (channel_at tile m) item cut red px py was now e in_red covered
    (blue_else (λ f. absurd (omega (arith, e, f))) ∙ green_else (λ f. absurd (omega (arith, e, f))) ∙ red_there e))
    (λ e. item-channel 1 (channel_at tile m) item cut green px py was now e in_green covered
    (blue_else (λ f. absurd (omega (arith, e, f))) ∙ green_there e ∙ ap (inked_or tile cut m green) (red_else (λ f. absurd (omega (arith, e, f))))))
    (λ e. item-channel 2 (channel_at tile m) item cut blue px py was now e in_blue covered
    (blue_there e ∙ ap (inked_or tile cut m blue) (green_else (λ f. absurd (omega (arith, e, f))) ∙ red_else (λ f. absurd (omega (arith, e, f))))))
