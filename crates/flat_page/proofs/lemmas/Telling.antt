-- The lines of what happens, one after another.
use Rattle.std.proofs.Common.{ℕ, ◌+◌, ◌<◌, ◌≡◌, refl, sym, ap, ◌∙◌, Bool, true, ◌&&◌, List, [], ◌∷◌, ◌++◌, length, take, drop, get_or, map, append_assoc}
use Rattle.std.proofs.Common.{append-nil}
use Rattle.std.specs.List.{list_all}
use Rattle.std.proofs.lemmas.List.{take_more, map-append, take-append-drop}
use Rattle.std.proofs.lemmas.List.Folds.{list_all-append, list_all-map}
use Rattle.flat_base.proofs.lemmas.Tests.{and-left, and-right, and-true}
use Rattle.flat_scene.specs.declared.frames.FrameOut.{FrameOut}
use Rattle.flat_page.specs.Happenings.{Happening, finished, said, count_before, merged, all_lines}
use Rattle.flat_page.specs.Steps.{after_all}
use Rattle.flat_page.specs.Pages.{WritesLines}
use Rattle.flat_places.specs.Forms.{Word}
use Rattle.flat_page.proofs.lemmas.PageLemmas.{then_lines, same_lines}

-- one line more
said-more : {A : Type 0} (items : List A) (i : ℕ) (d one : A) → i < length items → one ≡ get_or items i d
    → map said (take i items) ++ said one ∷ [] ≡ map said (take (i + 1) items)
said-more {A = A} items i d one within at =
    ap (λ (t : A). map said (take i items) ++ said t ∷ []) at
    ∙ sym (ap (map said) (take_more items i d within) ∙ map-append said (take i items) (get_or items i d ∷ []))

-- ---- what is kept

module _ {A S : Type 0} (after : Happening A → S → S) where
  pub after-append : (xs ys : List (Happening A)) (now : S) → after_all after (xs ++ ys) now ≡ after_all after ys (after_all after xs now)
  after-append [] ys now = refl
  after-append (one ∷ xs) ys now = after-append xs ys (after one now)

  -- one thing more
  pub after_one : (start now new : S) (xs : List (Happening A)) (one : Happening A) → now ≡ after_all after xs start → new ≡ after one now
      → new ≡ after_all after (xs ++ one ∷ []) start
  after_one start now new xs one is changed = changed ∙ ap (after one) is ∙ sym (after-append xs (one ∷ []) start)

  -- a loop over lines
  pub after_said : (start now new : S) (items : List A) (i : ℕ) (d one : A) → i < length items → one ≡ get_or items i d
      → now ≡ after_all after (map said (take i items)) start
      → new ≡ after (said one) now → new ≡ after_all after (map said (take (i + 1) items)) start
  after_said start now new items i d one within at is changed =
      after_one start now new (map said (take i items)) (said one) is changed
      ∙ ap (λ (hs : List (Happening A)). after_all after hs start) (said-more items i d one within at)

-- ---- what is written

module _ {A S : Type 0} (lines : S → Happening A → List (List Word)) (after : Happening A → S → S) where
  pub lines-append : (xs ys : List (Happening A)) (now : S)
      → all_lines lines after now (xs ++ ys) ≡ all_lines lines after now xs ++ all_lines lines after (after_all after xs now) ys
  lines-append [] ys now = refl
  lines-append (one ∷ xs) ys now =
      ap (λ (t : List (List Word)). lines now one ++ t) (lines-append xs ys (after one now))
      ∙ sym (append_assoc (lines now one) (all_lines lines after (after one now) xs) (all_lines lines after (after_all after xs (after one now)) ys))

  -- what comes later stands behind
  pub then_later : (start late : S) (early later : List (Happening A)) {old told new : List ℕ} → late ≡ after_all after early start
      → WritesLines (all_lines lines after start early) old told → WritesLines (all_lines lines after late later) told new
      → WritesLines (all_lines lines after start (early ++ later)) old new
  then_later start late early later is first second =
      same_lines (ap (λ (s : S). all_lines lines after start early ++ all_lines lines after s later) is ∙ sym (lines-append early later start))
      (then_lines first second)

  -- one thing more
  pub then_one : (start now : S) (xs : List (Happening A)) (one : Happening A) {old mid new : List ℕ} → now ≡ after_all after xs start
      → WritesLines (all_lines lines after start xs) old mid → WritesLines (lines now one) mid new
      → WritesLines (all_lines lines after start (xs ++ one ∷ [])) old new
  then_one start now xs one is first second = then_later start now xs (one ∷ []) is first (same_lines (sym (append-nil (lines now one))) second)

  -- a loop over lines
  pub then_said : (start now : S) (items : List A) (i : ℕ) (d one : A) {old mid new : List ℕ} → i < length items → one ≡ get_or items i d
      → now ≡ after_all after (map said (take i items)) start
      → WritesLines (all_lines lines after start (map said (take i items))) old mid → WritesLines (lines now (said one)) mid new
      → WritesLines (all_lines lines after start (map said (take (i + 1) items))) old new
  then_said start now items i d one within at is first second =
      same_lines (ap (all_lines lines after start) (said-more items i d one within at))
      (then_one start now (map said (take i items)) (said one) is first second)

-- ---- the same lines, by something else that is kept

module _ {A S T : Type 0} (lines : S → Happening A → List (List Word)) (after : Happening A → S → S) (others : T → Happening A → List (List Word))
    (next : Happening A → T → T) (of : T → S)
    (test : Happening A → Bool) where
  -- where one thing that passes is written and kept the same by both, so are all
  pub lines-follow : ((t : T) (one : Happening A) → test one ≡ true → lines (of t) one ≡ others t one)
      → ((t : T) (one : Happening A) → test one ≡ true → after one (of t) ≡ of (next one t))
      → (xs : List (Happening A)) (t : T) → list_all test xs ≡ true → all_lines lines after (of t) xs ≡ all_lines others next t xs
  lines-follow same kept [] t all = refl
  lines-follow same kept (one ∷ xs) t all =
      let here : test one ≡ true = and-left (test one) (list_all test xs) all in
      ap (λ (l : List (List Word)). l ++ all_lines lines after (after one (of t)) xs) (same t one here)
      ∙ ap (λ (s : S). others t one ++ all_lines lines after s xs) (kept t one here)
      ∙ ap (λ (l : List (List Word)). others t one ++ l) (lines-follow same kept xs (next one t) (and-right (test one) (list_all test xs) all))

-- ---- frames of which a part plays no part

module _ {A S : Type 0} (lines : S → Happening A → List (List Word)) (after : Happening A → S → S) (number : A → ℕ) (f : FrameOut → FrameOut) where
  -- where nothing of a frame is written and kept but what is left of it, so it is of all frames
  pub lines-left : ((now : S) (out : FrameOut) → lines now (finished (f out)) ≡ lines now (finished out))
      → ((now : S) (out : FrameOut) → after (finished (f out)) now ≡ after (finished out) now)
      → (dones : List ℕ) (frames : List FrameOut) (items : List A) (now : S)
      → all_lines lines after now (merged number dones (map f frames) items) ≡ all_lines lines after now (merged number dones frames items)
  lines-left same kept [] frames items now = refl
  lines-left same kept (done ∷ dones) [] items now = refl
  lines-left same kept (done ∷ dones) (out ∷ frames) items now =
      let n : ℕ = count_before number done items in
      let early : List (Happening A) = map said (take n items) in
      let then : S = after_all after early now in
      let late : List (Happening A) = merged number dones frames (drop n items) in
      let less : List (Happening A) = merged number dones (map f frames) (drop n items) in
      lines-append lines after early (finished (f out) ∷ less) now
      ∙ ap (λ (l : List (List Word)). all_lines lines after now early ++ (l ++ all_lines lines after (after (finished (f out)) then) less)) (same then out)
      ∙ ap (λ (s : S). all_lines lines after now early ++ (lines then (finished out) ++ all_lines lines after s less)) (kept then out)
      ∙ ap (λ (l : List (List Word)). all_lines lines after now early ++ (lines then (finished out) ++ l))
      (lines-left same kept dones frames (drop n items) (after (finished out) then))
      ∙ sym (lines-append lines after early (finished out ∷ late) now)

-- ---- tests of all lines

pub all-parted : {A : Type 0} (test : A → Bool) (n : ℕ) (items : List A) → list_all test items ≡ true
    → (list_all test (take n items) ≡ true) × (list_all test (drop n items) ≡ true)
all-parted test n items all =
    let parts : (list_all test (take n items) && list_all test (drop n items)) ≡ true
    = sym (list_all-append test (take n items) (drop n items)) ∙ ap (list_all test) (take-append-drop n items) ∙ all in (
      and-left (list_all test (take n items)) (list_all test (drop n items)) parts,
      and-right (list_all test (take n items)) (list_all test (drop n items)) parts,
    )

-- a test that all frames pass, and all lines
module _ {A : Type 0} (test : Happening A → Bool) (frames_pass : (out : FrameOut) → test (finished out) ≡ true) where
  all-said : (items : List A) → list_all (λ one. test (said one)) items ≡ true → list_all test (map said items) ≡ true
  all-said items all = list_all-map test said items ∙ all

  pub all-merged : (number : A → ℕ) (dones : List ℕ) (frames : List FrameOut) (items : List A) → list_all (λ one. test (said one)) items ≡ true
      → list_all test (merged number dones frames items) ≡ true
  all-merged number [] frames items all = all-said items all
  all-merged number (done ∷ dones) [] items all = all-said items all
  all-merged number (done ∷ dones) (out ∷ frames) items all =
      let n : ℕ = count_before number done items in
      let parts = all-parted (λ one. test (said one)) n items all in
      list_all-append test (map said (take n items)) (finished out ∷ merged number dones frames (drop n items))
      ∙ and-true (all-said (take n items) parts.0) (and-true (frames_pass out) (all-merged number dones frames (drop n items) parts.1))
