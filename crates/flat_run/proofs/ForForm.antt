-- What is told for a form is told for one that is it.
use Rattle.std.proofs.Common.{◌≡◌, ℕ, List, Option, Ok, Result, sym, subst}
use Rattle.std.specs.Prelude.{IfOk}
use Rattle.flat_scene.specs.declared.frames.FrameOut.{FrameOut}
use Rattle.flat_words.specs.declared.service_word.ServiceWord.{ServiceWord}
use Rattle.flat_run.specs.declared.reading.ParsedText.{ParsedText}
use Rattle.flat_run.specs.Forms.{form_read}
use Rattle.flat_run.specs.Promise.{IsTold}

pub for-form : {D E : Type 0} (shown : D → Option (List FrameOut)) (faults : D → ℕ) (olds news : List D) (mine form : ServiceWord) (reading : ParsedText)
    (result : Result (List ℕ) E) → form ≡ mine
    → ((bytes : List ℕ) → form_read mine bytes ≡ Ok reading → IfOk result (λ text. IsTold shown faults olds news mine bytes text))
    → (bytes : List ℕ) → form_read form bytes ≡ Ok reading → IfOk result (λ text. IsTold shown faults olds news form bytes text)
for-form shown faults olds news mine form reading result is told =
    let P : ServiceWord → Type 0 = λ f. (bytes : List ℕ) → form_read f bytes ≡ Ok reading → IfOk result (λ text. IsTold shown faults olds news f bytes text) in
    subst P (sym is) told
