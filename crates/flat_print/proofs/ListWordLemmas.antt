-- The words of fence lists, of conditions and of tables are those that they were read from.
use Rattle.std.proofs.Common.{◌≡◌, ℕ, Bool, true, false, ◌||◌, List, [], ◌∷◌, ◌++◌, map, Ok, refl, sym, ◌∙◌, ap, codes, if◌then◌else◌, inl, inr}
use Rattle.std.specs.List.{list_any, before_first, after_first}
use Rattle.std.specs.Str.{bytes_eq}
use Rattle.std.proofs.lemmas.Slice.Eq.{bytes_eq-Decides}
use Rattle.flat_base.specs.declared.ids.Actor.{Actor}
use Rattle.flat_base.specs.declared.ids.FenceNo.{FenceNo}
use Rattle.flat_places.specs.declared.kinds.FaultKind.{FaultKind}
use Rattle.flat_places.specs.declared.script.Script.{Script}
use Rattle.flat_places.specs.Forms.{Word, Table, both, each, one_or_more, at_word, known_rows}
use Rattle.flat_places.specs.Known.{knows}
use Rattle.flat_places.specs.Places.{fence_word as tested_fence}
use Rattle.flat_forms.specs.Body.{fence_lists}
use Rattle.flat_forms.specs.Lists.{ends_list, behind_end}
use Rattle.flat_print.specs.Print.{fence_word, list_words}
use Rattle.flat_forms.proofs.lemmas.FormLemmas.{both_ok}
use Rattle.flat_print.proofs.NameWords.{fence_spelt}
use Rattle.flat_forms.proofs.lemmas.ListLemmas.{stops_before, goes_before, stops_behind, goes_behind, pair_of, ListsOk, lists_ok}

-- tables

-- each row spells what it gives
abbrev pub RowsSpelt : {A : Type 0} → (A → List Word) → Table A → Type 0
RowsSpelt spell [] = Unit {0}
RowsSpelt {A = A} spell (row ∷ rows) = ((words : List Word) (v : A) → row.1 words ≡ Ok v → spell v ≡ row.0 ∷ words) × RowsSpelt spell rows

pub table_spelt : {A : Type 0} (spell : A → List Word) (k : FaultKind) (rows : Table A) → RowsSpelt spell rows → (w : Word) (words : List Word) (v : A)
    → at_word k rows w words ≡ Ok v → spell v ≡ w ∷ words
table_spelt spell k [] all w words v is = absurd (cc)
table_spelt {A = A} spell k (row ∷ rows) all w words v is = by_test (bytes_eq w row.0) refl is (table_spelt spell k rows all.1 w words v)
  where
    by_test : (b : Bool) → bytes_eq w row.0 ≡ b → (if b then row.1 words else at_word k rows w words) ≡ Ok v
        → (at_word k rows w words ≡ Ok v → spell v ≡ w ∷ words) → spell v ≡ w ∷ words
    by_test true at same later = all.0 words v same ∙ ap (λ t. t ∷ words) (sym ((bytes_eq-Decides w row.0).0 at))
    by_test false at other later = later other

-- and so does each row that a version knows
pub known_spelt : {A : Type 0} (spell : A → List Word) (version : ℕ) (rows : Table A) → RowsSpelt spell rows → RowsSpelt spell (known_rows version rows)
known_spelt spell version [] all = tt
known_spelt {A = A} spell version (row ∷ rows) all = by_test (knows version row.0) refl (known_spelt spell version rows all.1)
  where
    by_test : (b : Bool) → knows version row.0 ≡ b → RowsSpelt spell (known_rows version rows) → RowsSpelt spell (known_rows version (row ∷ rows))
    by_test true known later = rw known (all.0, later)
    by_test false unknown later = rw unknown later

-- lists

module _ (s : Script) (a : Actor) where
  each_spelt : (words : List Word) (fs : List FenceNo) → each (tested_fence s a) words ≡ Ok fs → words ≡ map (fence_word s) fs
  each_spelt [] fs is = let none : [] ≡ fs = cc in ap (map (fence_word s)) none
  each_spelt (w ∷ words) fs is =
      let parts = both_ok (λ f rest. f ∷ rest) (tested_fence s a w) (each (tested_fence s a) words) fs is in
      ap (λ v. v ∷ words) (fence_spelt s a w parts.a parts.first) ∙ ap (λ t. fence_word s parts.a ∷ t) (each_spelt words parts.b parts.second)
      ∙ ap (map (fence_word s)) parts.value

  some_spelt : (keyword : Word) (words : List Word) (fs : List FenceNo) → one_or_more (tested_fence s a) words ≡ Ok fs
      → keyword ∷ words ≡ list_words s keyword fs
  some_spelt keyword [] fs is = absurd (cc)
  some_spelt keyword (w ∷ words) fs is =
      let parts = both_ok (λ f rest. f ∷ rest) (tested_fence s a w) (each (tested_fence s a) words) fs is in
      ap (λ t. keyword ∷ t) (ap (λ v. v ∷ words) (fence_spelt s a w parts.a parts.first)
      ∙ ap (λ t. fence_word s parts.a ∷ t) (each_spelt words parts.b parts.second)) ∙ ap (list_words s keyword) parts.value

  -- a line is the words before a keyword, and those from there on
  abbrev from_end : List Word → List Word
  from_end words = if list_any (ends_list true) words then codes "release" ∷ after_first (ends_list true) words else []

  split_words : (words : List Word) → words ≡ before_first (ends_list true) words ++ from_end words
  split_words [] = refl
  split_words (w ∷ words) = by_test (bytes_eq w (codes "release")) refl (split_words words)
    where
      by_test : (b : Bool) → bytes_eq w (codes "release") ≡ b → words ≡ before_first (ends_list true) words ++ from_end words
          → w ∷ words ≡ before_first (ends_list true) (w ∷ words) ++ from_end (w ∷ words)
      by_test true at later =
          let word : w ≡ codes "release" = (bytes_eq-Decides w (codes "release")).0 at in
          let first : before_first (ends_list true) (w ∷ words) ≡ [] = stops_before (ends_list true) w words at in
          let behind : after_first (ends_list true) (w ∷ words) ≡ words = stops_behind (ends_list true) w words at in
          let rest : from_end (w ∷ words) ≡ codes "release" ∷ words =
          ap (λ b. if b || list_any (ends_list true) words then codes "release" ∷ after_first (ends_list true) (w ∷ words) else []) at
          ∙ ap (λ t. codes "release" ∷ t) behind in
          ap (λ v. v ∷ words) word ∙ sym rest ∙ ap (λ t. t ++ from_end (w ∷ words)) (sym first)
      by_test false at later =
          let first : before_first (ends_list true) (w ∷ words) ≡ w ∷ before_first (ends_list true) words = goes_before (ends_list true) w words at in
          let behind : after_first (ends_list true) (w ∷ words) ≡ after_first (ends_list true) words = goes_behind (ends_list true) w words at in
          let rest : from_end (w ∷ words) ≡ from_end words =
          ap (λ b. if b || list_any (ends_list true) words then codes "release" ∷ after_first (ends_list true) (w ∷ words) else []) at
          ∙ ap (λ t. if list_any (ends_list true) words then codes "release" ∷ t else []) behind in
          ap (λ t. w ∷ t) later ∙ ap (λ t. t ++ from_end words) (sym first) ∙ ap (λ t. before_first (ends_list true) (w ∷ words) ++ t) (sym rest)

  behind_spelt : (words : List Word) (fs : List FenceNo) (b : Bool) → list_any (ends_list true) words ≡ b
      → (if b then one_or_more (tested_fence s a) (after_first (ends_list true) words) else Ok []) ≡ Ok fs
      → (if b then codes "release" ∷ after_first (ends_list true) words else []) ≡ list_words s (codes "release") fs
  behind_spelt words fs true at is = some_spelt (codes "release") (after_first (ends_list true) words) fs is
  behind_spelt words fs false at is = let none : [] ≡ fs = cc in ap (list_words s (codes "release")) none

  -- the words of both lists
  abbrev pub both_words : List FenceNo × List FenceNo → List Word
  both_words lists = list_words s (codes "acquire") lists.0 ++ list_words s (codes "release") lists.1

  both_spelt : (words : List Word) (lists : List FenceNo × List FenceNo)
      → both pair_of (one_or_more (tested_fence s a) (before_first (ends_list true) words)) (behind_end (one_or_more (tested_fence s a)) words).0 ≡ Ok lists
      → codes "acquire" ∷ words ≡ both_words lists
  both_spelt words lists is =
      let parts = both_ok pair_of (one_or_more (tested_fence s a) (before_first (ends_list true) words)) (behind_end (one_or_more (tested_fence s a)) words).0
      lists is in
      let first = some_spelt (codes "acquire") (before_first (ends_list true) words) parts.a parts.first in
      let second = behind_spelt words parts.b (list_any (ends_list true) words) refl parts.second in
      ap (λ t. codes "acquire" ∷ t) (split_words words) ∙ ap (λ t. t ++ from_end words) first ∙ ap (λ t. list_words s (codes "acquire") parts.a ++ t) second
      ∙ ap both_words parts.value

  release_spelt : (words : List Word) (lists : List FenceNo × List FenceNo) → both pair_of (Ok []) (one_or_more (tested_fence s a) words) ≡ Ok lists
      → codes "release" ∷ words ≡ both_words lists
  release_spelt words lists is =
      let parts = both_ok pair_of (Ok []) (one_or_more (tested_fence s a) words) lists is in
      let none : [] ≡ parts.a = let e = parts.first in cc in
      some_spelt (codes "release") words parts.b parts.second ∙ ap (λ t. list_words s (codes "acquire") t ++ list_words s (codes "release") parts.b) none
      ∙ ap both_words parts.value

  lists_by : (w : Word) (words : List Word) (lists : List FenceNo × List FenceNo) → ListsOk (tested_fence s a) w words lists → w ∷ words ≡ both_words lists
  lists_by w words lists (inl read) = ap (λ v. v ∷ words) read.0 ∙ both_spelt words lists read.1
  lists_by w words lists (inr read) = ap (λ v. v ∷ words) read.0 ∙ release_spelt words lists read.1

  pub lists_spelt : (words : List Word) (lists : List FenceNo × List FenceNo) → fence_lists (tested_fence s a) words ≡ Ok lists → words ≡ both_words lists
  lists_spelt [] lists is = let none : ([], []) ≡ lists = cc in ap both_words none
  lists_spelt (w ∷ words) lists is = lists_by w words lists (lists_ok (tested_fence s a) w words lists is)
