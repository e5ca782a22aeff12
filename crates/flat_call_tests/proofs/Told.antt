-- What a play of bytes answers with status 0 is their report.
use Rattle.std.proofs.Common.{◌≡◌, ◌==◌, ℕ, Bool, true, false, List, [], ◌∷◌, Option, Some, refl, sym, ap, ◌∙◌, subst, arith}
use Rattle.flat_io.specs.Told.{Appends}
use Rattle.flat_scene.specs.declared.frames.FrameOut.{FrameOut}
use Rattle.flat_words.specs.declared.service_word.ServiceWord.{ServiceWord}
use Rattle.flat_words.specs.declared.service_word.ServiceWord.TheVariants.{Play, Race, Stress, Render, Damage, Focus, Pointer, Judge, Why, Film}
use Rattle.flat_words.specs.Forms.{CallFor, words_of}
use Rattle.flat_run.specs.Promise.{AreTextOf, IsAnswer, IsWhole, Tells}

-- the second byte of the first word, by which `play` differs from all others
abbrev second : List (List ℕ) → ℕ
second [] = 0
second ([] ∷ words) = 0
second ((a ∷ []) ∷ words) = 0
second ((a ∷ b ∷ bytes) ∷ words) = b

-- the word `play` calls for nothing else
play_alone : (form : ServiceWord) → words_of Play ≡ words_of form → form ≡ Play
play_alone Play same = refl
play_alone Race same = absurd (let wrong : true ≡ false = ap (λ ws. second ws == 108) same in cc)
play_alone (Stress asked) same = absurd (let wrong : true ≡ false = ap (λ ws. second ws == 108) same in cc)
play_alone Render same = absurd (let wrong : true ≡ false = ap (λ ws. second ws == 108) same in cc)
play_alone Damage same = absurd (let wrong : true ≡ false = ap (λ ws. second ws == 108) same in cc)
play_alone Focus same = absurd (let wrong : true ≡ false = ap (λ ws. second ws == 108) same in cc)
play_alone Pointer same = absurd (let wrong : true ≡ false = ap (λ ws. second ws == 108) same in cc)
play_alone Judge same = absurd (let wrong : true ≡ false = ap (λ ws. second ws == 108) same in cc)
play_alone Why same = absurd (let wrong : true ≡ false = ap (λ ws. second ws == 108) same in cc)
play_alone Film same = absurd (let wrong : true ≡ false = ap (λ ws. second ws == 108) same in cc)

module _ {D : Type 0} (shown : D → Option (List FrameOut)) (faults : D → ℕ) (olds news : List D) (bytes after : List ℕ) where
  answer_told : (words : List (List ℕ)) → words ≡ words_of Play → (status : ℕ) → status ≡ 0 → (text : List ℕ)
      → IsAnswer shown faults olds news words (Some bytes) (Some after) status text → Tells Play bytes text
  answer_told words play status is_0 text (IsAnswer.usage nothing same) = absurd (omega (arith, is_0))
  answer_told words play status is_0 text (IsAnswer.refusal form calls read refused same) = absurd (omega (arith, is_0))
  answer_told words play status is_0 text (IsAnswer.too_large form read calls all large same) = absurd (omega (arith, is_0))
  answer_told words play status is_0 text (IsAnswer.judged read calls all is same) =
      absurd (let wrong : Judge ≡ Play = play_alone Judge (sym play ∙ calls.0) in cc)
  answer_told words play status is_0 text (IsAnswer.told form read calls of told) =
      let is : form ≡ Play = play_alone form (sym play ∙ calls.0) in
      let all : AreTextOf Play (Some bytes) (Some after) read = subst (λ (f : ServiceWord). AreTextOf f (Some bytes) (Some after) read) is of in
      let B : List ℕ → Type 0 = λ b. Tells Play b text in
      subst B (sym all.0) (subst (λ (f : ServiceWord). Tells f read text) is told.0)

  -- it stands in a vector that was empty
  pub play_told : (words : List (List ℕ)) → words ≡ words_of Play → (found : List ℕ) → found ≡ bytes → (before : List ℕ) → before ≡ [] → (held given : List ℕ)
      → given ≡ held → (status : ℕ) → status ≡ 0
      → IsWhole shown faults olds news words (Some found) (Some after) (Some before) (Some held) status → Tells Play bytes given
  play_told words play found same before none held given is status is_0 all =
      let F : List ℕ → Type 0 = λ b. IsWhole shown faults olds news words (Some b) (Some after) (Some before) (Some held) status in
      let N : List ℕ → Type 0 = λ b. IsWhole shown faults olds news words (Some bytes) (Some after) (Some b) (Some held) status in
      let whole = subst N none (subst F same all) in
      let T : List ℕ → Type 0 = Tells Play bytes in
      subst T (sym (is ∙ whole.whole)) (answer_told words play status is_0 whole.text whole.is)
