use Rattle.std.proofs.Common.{rules, ◌≡◌, ◌^◌, ℕ, nat_lt, true, false, List, [], ◌∷◌, Some, None, drop, refl, sym, ap, ◌∙◌, subst}
use Rattle.std.proofs.Common.{arith, true≢false}
use Rattle.std.proofs.lemmas.Bool.{eq-eqb}
use Rattle.std.proofs.lemmas.Bool.Decides.{nat_tests}
use Rattle.flat_base.proofs.lemmas.Tests.{and-true}
use Rattle.flat_scene.specs.declared.frames.LostDisplay.{LostDisplay}
use Rattle.flat_page.specs.Words.{text_of}
use Rattle.flat_lines.specs.FrameLines.{lost_line}
use Rattle.flat_judge.specs.Following.{Passes, fits_behind, next_display}
use Rattle.flat_judge.proofs.LossesTold.{above-none, next-is, none-passes, of-32-bits, pass-further, same-one}
use Rattle.flat_judge.proofs.Pass.{rest-all}
use Rattle.flat_judge.proofs.losses.read_loss.Goals as goal

pub returns-in_default-clause-none : goal.returns-in_default-clause-none
returns-in_default-clause-none c = λ _. (
  refl,
  λ one rest at low fits is. c.next_display.ensures.none c.in_default.is one.display (above-none one.display low)
      (of-32-bits one.display low) (ap next_display (rest-all c.args.text.now c.args.at) ∙ next-is one (drop c.args.at c.args.text.now) rest low is),
)

pub returns-then-not-is_behind-clause-none : goal.returns-then-not-is_behind-clause-none
returns-then-not-is_behind-clause-none c = λ _. (
  refl,
  λ one rest at low fits is.
      (let told : Some c.in-Some.display ≡ Some one.display = sym c.in-Some.ensures.some ∙ ap next_display (rest-all c.args.text.now c.args.at)
      ∙ next-is one (drop c.args.at c.args.text.now) rest low is in
      let same = same-one one c.in-Some.display c.args.frame.0 told at in
      let behind : fits_behind c.args.lost.now (record { display = c.in-Some.display; frame = c.args.frame }) ≡ true =
      ap (fits_behind c.args.lost.now) (sym same) ∙ fits in
      let asked : c.is_behind.result ≡ true = c.is_behind.ensures
      ∙ ap (λ (ls : List LostDisplay). fits_behind ls (record { display = c.in-Some.display; frame = c.args.frame })) c.as_slice.ensures ∙ behind in
      let wrong : c.is_behind.result ≡ false = search rules in
      true≢false (sym asked ∙ wrong)),
)

pub returns-in_default-pass-clause-none : goal.returns-in_default-pass-clause-none
returns-in_default-pass-clause-none c = λ _. (
  refl,
  λ one rest at low fits is.
      (let told : Some c.in-Some.display ≡ Some one.display = sym c.in-Some.ensures.some ∙ ap next_display (rest-all c.args.text.now c.args.at)
      ∙ next-is one (drop c.args.at c.args.text.now) rest low is in
      let same = same-one one c.in-Some.display c.args.frame.0 told at in
      let line : c.as_slice-2.result.now ≡ text_of (lost_line one ∷ []) =
      c.as_slice-2.ensures.value ∙ c.in_ok-line.ensures ∙ ap (λ (l : LostDisplay). text_of (lost_line l ∷ [])) (sym same) in
      let P : List ℕ → Type 0 = λ b. Passes c.args.text.now c.args.at b None in
      none-passes c.args.text.now c.args.at (text_of (lost_line one ∷ [])) rest c.requires (subst P line c.in_default-pass.ensures) is),
)

pub returns-clause-some : goal.returns-clause-some
returns-clause-some c =
    let one : LostDisplay = record { display = c.in-Some.display; frame = c.args.frame } in
    let line : c.as_slice-2.result.now ≡ text_of (lost_line one ∷ []) = c.as_slice-2.ensures.value ∙ c.in_ok-line.ensures in
    let P : List ℕ → Type 0 = λ b. Passes c.args.text.now c.args.at b (Some c.in-Some-pass.next) in
    let passes : Passes c.args.text.now c.args.at (text_of (lost_line one ∷ [])) (Some c.in-Some-pass.next) = subst P line c.in-Some-pass.ensures in
    let above = c.in-Some.ensures.above in
    let some : nat_lt 0 c.in-Some.display ≡ true = grind (arith, nat_tests) in
    let small : nat_lt c.in-Some.display (2 ^ 32) ≡ true = search rules in
    let behind : c.is_behind.result ≡ true = search rules in (
      passes.0,
      record {
        one = one;
        is = c.in_ok-push.ensures.ok;
        is_at = and-true (eq-eqb c.args.frame.0 c.args.frame.0 refl) (and-true some small);
        fits = ap (λ (ls : List LostDisplay). fits_behind ls one) (sym c.as_slice.ensures) ∙ sym c.is_behind.ensures ∙ behind;
        passes = passes;
        further = pass-further c.args.text.now c.args.at c.in-Some-pass.next one c.requires passes;
      },
    )
