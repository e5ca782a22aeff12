-- The lines of stretches, one behind another.
use Rattle.std.proofs.Common.{◌≡◌, ℕ, zero, suc, ◌+◌, ◌-◌, ◌≤◌, List, [], ◌∷◌, ◌++◌, length, map, take, Some, None, sym, ap, ◌∙◌, subst, arith, append-nil}
use Rattle.std.proofs.Common.{take-add}
use Rattle.std.specs.Prelude.{slice_get}
use Rattle.std.specs.Arc.{arc_value}
use Rattle.std.proofs.lemmas.List.{map-append, take_all}
use Rattle.std.proofs.lemmas.Grind.{flat_map-append}
use Rattle.flat_scene.specs.declared.frames.DrawItem.{DrawItem}
use Rattle.flat_places.specs.declared.script.Script.{Script}
use Rattle.flat_page.specs.Words.{line_of, text_of}
use Rattle.flat_places.specs.Forms.{Word}
use Rattle.flat_report.specs.declared.item_lines.ItemChunk.{ItemChunk}
use Rattle.flat_lines.specs.FrameLines.{item_line}
use Rattle.flat_report.specs.ItemLines.{HaveLines, items_text, stretch_items, stretches_text}

-- the text of lines behind others
pub text-behind : (xs ys : List (List Word)) → text_of (xs ++ ys) ≡ text_of xs ++ text_of ys
text-behind xs ys = flat_map-append (λ words. line_of words ++ 10 ∷ []) xs ys

-- one stretch more of which something holds
each-more : (P : ItemChunk → Type 0) (xs : List ItemChunk) (x : ItemChunk) → ((k : ℕ) (s : ItemChunk) → slice_get xs k ≡ Some s → P s) → P x
    → (k : ℕ) (s : ItemChunk)
    → slice_get (xs ++ x ∷ []) k ≡ Some s → P s
each-more P [] x have holds zero s at = let one : x ≡ s = cc in subst P one holds
each-more P [] x have holds (suc k) s at = absurd (let wrong : None ≡ Some s = at in cc)
each-more P (y ∷ xs) x have holds zero s at = have zero s at
each-more P (y ∷ xs) x have holds (suc k) s at = each-more P xs x (λ j. have (suc j)) holds k s at

module _ (script : Script) (items : List DrawItem) where
  -- The stretches so far have the lines of the items before a place.
  pub record AreSoFar (start : ℕ) (stretches : List ItemChunk) : Type 0 where
    pub each : (k : ℕ) (stretch : ItemChunk) → slice_get stretches k ≡ Some stretch → arc_value stretch.lines ≡ items_text script (stretch_items items stretch)
    pub all : stretches_text stretches ≡ items_text script (take start items)

  pub none-yet : (stretches : List ItemChunk) → stretches ≡ [] → AreSoFar 0 stretches
  none-yet stretches none = record {
    each = λ k stretch at. absurd (let wrong : None ≡ Some stretch = sym (ap (λ (xs : List ItemChunk). slice_get xs k) none) ∙ at in cc);
    all = ap stretches_text none;
  }

  items-behind : (xs ys : List DrawItem) → items_text script (xs ++ ys) ≡ items_text script xs ++ items_text script ys
  items-behind xs ys = ap text_of (map-append (item_line script) xs ys) ∙ text-behind (map (item_line script) xs) (map (item_line script) ys)

  pub stretch-more : (old new : List ItemChunk) (next : ItemChunk) → next.start ≤ next.end → AreSoFar next.start old
      → arc_value next.lines ≡ items_text script (stretch_items items next) → new ≡ old ++ next ∷ [] → AreSoFar next.end new
  stretch-more old new next order so_far lines push = record {
    each =
        let P : ItemChunk → Type 0 = λ s. arc_value s.lines ≡ items_text script (stretch_items items s) in
        subst (λ (xs : List ItemChunk). (k : ℕ) (s : ItemChunk) → slice_get xs k ≡ Some s → P s) (sym push) (each-more P old next so_far.each lines);
    all =
        let far : next.start + (next.end - next.start) ≡ next.end = omega (arith, order) in
        let taken : take next.end items ≡ take next.start items ++ stretch_items items next =
        ap (λ (n : ℕ). take n items) (sym far) ∙ take-add next.start (next.end - next.start) items in
        ap stretches_text push
        ∙ flat_map-append (λ stretch. arc_value stretch.lines) old (next ∷ [])
        ∙ ap (λ t. stretches_text old ++ t) (append-nil (arc_value next.lines) ∙ lines)
        ∙ ap (λ t. t ++ items_text script (stretch_items items next)) so_far.all
        ∙ sym (items-behind (take next.start items) (stretch_items items next))
        ∙ ap (items_text script) (sym taken);
  }

  pub all-lines : (start : ℕ) (stretches : List ItemChunk) → length items ≤ start → AreSoFar start stretches → HaveLines script items stretches
  all-lines start stretches end so_far = record { each = so_far.each; all = so_far.all ∙ ap (items_text script) (take_all start items end) }
