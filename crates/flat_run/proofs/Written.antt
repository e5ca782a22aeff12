-- What the texts of a run ask for.
use Rattle.std.proofs.Common.{◌≡◌, ℕ, zero, suc, ◌<◌, ◌≤◌, Bool, true, false, cond, nat_lt, nat_le, ◌&&◌, List, [], ◌∷◌, ◌++◌, length, map, reverse, refl, sym}
use Rattle.std.proofs.Common.{ap, ◌∙◌, subst, arith, Option}
use Rattle.std.specs.List.{All, list_all}
use Rattle.std.proofs.lemmas.Bool.Decides.{nat_tests}
use Rattle.std.proofs.lemmas.Grind.{common_steps}
use Rattle.std.proofs.lemmas.List.Elements.{All-append}
use Rattle.flat_base.proofs.lemmas.Tests.{and-left, and-right, and-true}
use Rattle.flat_places.specs.declared.script.Script.{Script}
use Rattle.flat_play.specs.declared.kept_frames.KeptFrames.{KeptFrames}
use Rattle.flat_play.specs.declared.kept_frames.KeptFrames.TheVariants as kept
use Rattle.flat_play.specs.declared.trees.FrameTrees.{FrameTrees}
use Rattle.flat_play.specs.Keeping.{AreTrees, Keeps}
use Rattle.flat_play.specs.Touches.{touch_of}
use Rattle.flat_pointer.specs.declared.pointers.TheConstants.{POINTERS}
use Rattle.flat_pointer.specs.declared.text.PointerLine.{PointerLine}
use Rattle.flat_pointer.specs.declared.text.PointerTouch.{PointerTouch}
use Rattle.flat_drawable.specs.Drawable.{IsDrawable}
use Rattle.flat_rules.specs.Drawable.{ItemsAreDrawable}
use Rattle.flat_rules.specs.Ends.{to_begin}
use Rattle.flat_rules.specs.Legal.{frames}
use Rattle.flat_scene.specs.declared.frames.FrameOut.{FrameOut}
use Rattle.flat_scene.specs.declared.journal.Entry.{Entry}
use Rattle.flat_scene.specs.declared.setup.Setup.{Setup}
use Rattle.flat_scene.specs.History.{◌▹◌, is_finish}
use Rattle.flat_scene.specs.Journals.{history_of}
use Rattle.flat_scene.specs.Setups.{is_within}
use Rattle.flat_scene.specs.Heads.{is_setup, is_within_limits}
use Rattle.flat_base.specs.declared.limits.TheConstants.{SIDE_MAX, SESSIONS_MAX}
use Rattle.flat_report.specs.Report.{finished, frame_at}
use Rattle.flat_page.specs.Steps.{without_items}
use Rattle.flat_page.proofs.lemmas.LastItems.{last-behind}
use Rattle.flat_texts.specs.Lines.{finish_lines}
use Rattle.flat_texts.specs.Pictures.{list_of}
use Rattle.flat_base.specs.Last.{last_item}

-- the entries of a journal, from its history
reversed : {A : Type 0} (xs : List A) → xs ≡ reverse (reverse xs)
reversed xs = grind (arith, common_steps)

pub lines_of : (entries history : List Entry) → history_of entries ≡ history → finish_lines entries ≡ finish_lines (reverse history)
lines_of entries history is = ap finish_lines (reversed entries ∙ ap reverse is)

-- all that finished frames draw can be drawn
abbrev AreDrawable : FrameOut → Type 0
AreDrawable frame = All IsDrawable frame.items

drawn : ItemsAreDrawable → (setup : Setup) (history : List Entry) → All AreDrawable (finished setup history)
drawn law setup [] = λ k d inside. absurd (omega (arith, inside))
drawn law setup (before ▹ entry) =
    All-append AreDrawable (finished setup before) (cond (is_finish entry.kind) (frame_at setup (suc (frames before)) (to_begin before) ∷ []) [])
    (drawn law setup before) (by (is_finish entry.kind))
  where
    by : (b : Bool) → All AreDrawable (cond b (frame_at setup (suc (frames before)) (to_begin before) ∷ []) [])
    by true = one
      where
        one : All AreDrawable (frame_at setup (suc (frames before)) (to_begin before) ∷ [])
        one zero d inside = law setup (to_begin before)
        one (suc k) d inside = absurd (omega (arith, inside))
    by false = λ k d inside. absurd (omega (arith, inside))

-- and so can what the last of them draws
last-of : (frames : List FrameOut) → All AreDrawable frames → All IsDrawable (list_of (last_item frames))
last-of [] all = λ k d inside. absurd (omega (arith, inside))
last-of (frame ∷ []) all = all 0 frame (omega arith)
last-of (frame ∷ next ∷ later) all =
    let P : Option FrameOut → Type 0 = λ last. All IsDrawable (list_of last) in
    subst P (sym (last-behind frame next later)) (last-of (next ∷ later) (λ k d inside. all (suc k) d (omega (arith, inside))))

pub last-drawn : ItemsAreDrawable → (setup : Setup) (history : List Entry) (last : Option FrameOut) → last ≡ last_item (finished setup history)
    → All IsDrawable (list_of last)
last-drawn law setup history last is = let P : Option FrameOut → Type 0 =
    λ it. All IsDrawable (list_of it) in subst P (sym is) (last-of (finished setup history) (drawn law setup history))

-- ---- view trees

-- the view trees that are kept are those of the finished frames
pub trees-kept : (script : Script) (frames : List FrameOut) (all : KeptFrames) (trees : FrameTrees) → kept.Trees trees ≡ all → Keeps script all frames
    → AreTrees frames trees
trees-kept script frames all trees is keeps = let K : KeptFrames → Type 0 = λ it. Keeps script it frames in subst K (sym is) keeps

-- frames without their items have the same views
pub few-left : (sessions : ℕ) (frames : List FrameOut) → list_all (λ (out : FrameOut). nat_le (length out.tree.nodes) sessions) frames ≡ true
    → list_all (λ (out : FrameOut). nat_le (length out.tree.nodes) sessions) (map without_items frames) ≡ true
few-left sessions [] few = refl
few-left sessions (out ∷ later) few =
    and-true (and-left (nat_le (length out.tree.nodes) sessions) _ few) (few-left sessions later (and-right (nat_le (length out.tree.nodes) sessions) _ few))

-- ---- displays

-- a display has a side of one unit at least
module _ (setup : Setup) (is : is_setup setup ≡ true) where
  limits : is_within_limits setup ≡ true
  limits = and-left _ _ (and-left _ _ is)

  pub wide : 0 < setup.width
  wide =
      let here : is_within SIDE_MAX setup.width ≡ true = and-right _ _
      (and-left _ _ (and-left _ _ (and-left _ _ (and-left _ _ (and-left _ _ (and-left _ _ limits)))))) in
      let low : nat_lt 0 setup.width ≡ true = and-left _ _ here in
      grind (arith, nat_tests)

  pub high : 0 < setup.height
  high =
      let here : is_within SIDE_MAX setup.height ≡ true = and-right _ _ (and-left _ _ (and-left _ _ (and-left _ _ (and-left _ _ (and-left _ _ limits))))) in
      let low : nat_lt 0 setup.height ≡ true = and-left _ _ here in
      grind (arith, nat_tests)

-- lines of known pointers, with whom they hit
pub pointers_touched : (setup : Setup) (history : List Entry) (lines : List PointerLine)
    → list_all (λ (line : PointerLine). nat_lt line.pointer POINTERS) lines ≡ true
    → list_all (λ (touch : PointerTouch). nat_lt touch.line.pointer POINTERS) (map (touch_of setup history) lines) ≡ true
pointers_touched setup history [] all = refl
pointers_touched setup history (line ∷ later) all =
    and-true (and-left (nat_lt line.pointer POINTERS) _ all) (pointers_touched setup history later (and-right (nat_lt line.pointer POINTERS) _ all))
