-- What changed with each of some frames.
use Rattle.std.proofs.Common.{◌≡◌, ℕ, ◌≤◌, ◌-◌, List, [], ◌∷◌, ◌++◌, length, take, drop, refl, sym, ap, ◌∙◌, subst, arith}
use Rattle.std.proofs.lemmas.List.{drop_all}
use Rattle.flat_base.specs.Last.{last_item}
use Rattle.flat_scene.specs.declared.frames.DrawItem.{DrawItem}
use Rattle.flat_scene.specs.declared.frames.FrameOut.{FrameOut}
use Rattle.flat_base.specs.declared.shapes.Rect.{Rect}
use Rattle.flat_damage.specs.Damage.{IsDamage, bounded, left_of, visible_rects}
use Rattle.flat_page.proofs.lemmas.LastItems.{last-behind}
use Rattle.flat_texts.specs.declared.damage.FrameDamage.{FrameDamage}
use Rattle.flat_texts.specs.Damages.{AreDamaged, none, next}
use Rattle.flat_texts.specs.Pictures.{list_of}

-- the draw list that is shown after some frames, where this one was shown before
abbrev pub shown_after : List DrawItem → List FrameOut → List DrawItem
shown_after before [] = before
shown_after before (frame ∷ later) = shown_after frame.items later

-- it is that of the last frame
shown-last : (before : List DrawItem) (frame : FrameOut) (later : List FrameOut) → shown_after before (frame ∷ later) ≡ list_of (last_item (frame ∷ later))
shown-last before frame [] = refl
shown-last before frame (second ∷ later) = shown-last frame.items second later ∙ ap list_of (sym (last-behind frame second later))

pub shown-of : (frames : List FrameOut) → shown_after [] frames ≡ list_of (last_item frames)
shown-of [] = refl
shown-of (frame ∷ later) = shown-last [] frame later

-- the damage of one frame more
pub damaged-more : (before : List DrawItem) (frames : List FrameOut) (frame : FrameOut) (one : FrameDamage) (damaged : List FrameDamage)
    → one.frame ≡ frame.frame
    → IsDamage (shown_after before frames) frame.items one.rects
    → AreDamaged before frames damaged → AreDamaged before (frames ++ frame ∷ []) (damaged ++ one ∷ [])
damaged-more before [] frame one [] number damage none = next number damage none
damaged-more before [] frame one (of_first ∷ damaged) number damage later = elim later [ ]
damaged-more before (first ∷ frames) frame one [] number damage later = elim later [ ]
damaged-more before (first ∷ frames) frame one (of_first ∷ damaged) number damage (next first_number first_damage later) =
    next first_number first_damage (damaged-more first.items frames frame one damaged number damage later)

-- between a draw list and itself there is no damage
pub no-damage : (items : List DrawItem) (rects : List Rect) → rects ≡ [] → IsDamage items items rects
no-damage items rects empty =
    let end : drop (length items) items ≡ [] = drop_all (length items) items (omega arith) in
    let left : left_of (length items) 0 items ≡ [] = ap (λ (xs : List DrawItem). take (length xs - 0) xs) end in
    let few : (m : ℕ) → m ≤ length (drop (length items) items) → m ≤ 0 = λ m within. subst (λ (xs : List DrawItem). m ≤ length xs) end within in
    record {
      before = length items;
      after = 0;
      prefix = record { holds = record { left = omega arith; right = omega arith; same = refl }; greatest = λ m common. common.left };
      suffix = record { holds = record { left = omega arith; right = omega arith; same = refl }; greatest = λ m common. few m common.left };
      are = empty ∙ sym (ap (λ (xs : List DrawItem). bounded (visible_rects xs ++ visible_rects xs)) left);
    }
