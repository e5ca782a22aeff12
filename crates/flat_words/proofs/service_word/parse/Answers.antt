use Rattle.std.proofs.Common.{rules, ◌≡◌, ◌⊎◌, inl, inr, List, [], true, false, map, refl, sym, ap, ◌∙◌, subst}
use Rattle.std.specs.Prelude.{string_bytes}
use Rattle.clap.specs.Kinds.{HasKind, Kinds}
use Rattle.clap.specs.Values.{kind_of}
use Rattle.clap.specs.Words.{App, Text, HasMatchesOf, fault_of, is_simple_and_free}
use Rattle.clap.specs.declared.error.kind.ErrorKind.TheVariants.{OutOfMemory}
use Rattle.flat_words.proofs.service_word.parse.Goals as goal

pub returns-in-Ok : goal.returns-in-Ok
returns-in-Ok c =
    let words : List Text = map string_bytes c.args.words.now in
    let M : App → Type 0 = λ app. HasMatchesOf app words c.in-Ok.matches in
    let F : App → Type 0 = λ app. is_simple_and_free app ≡ true → fault_of app words ≡ [] in
    record {
      matches = (subst M c.in_ok-service.ensures c.in-Ok.ensures.matches refl).1;
      taken = subst F c.in_ok-service.ensures c.in-Ok.ensures.kinds refl;
      none = λ _. refl;
    }

-- an error without a fault is that memory ran out, which it isn't here
pub returns-clause-none : goal.returns-clause-none
returns-clause-none c = λ none.
    let words : List Text = map string_bytes c.args.words.now in
    let F : App → Type 0 = λ app. is_simple_and_free app ≡ true → HasKind (fault_of app words) c.in-Err.error in
    let K : Kinds → Type 0 = λ kinds. HasKind kinds c.in-Err.error in
    let has : HasKind [] c.in-Err.error = subst K none (subst F c.in_ok-service.ensures c.in-Err.ensures.kinds refl) in
    let other : kind_of c.in-Err.error ≡ OutOfMemory → ⊥ = search rules in
    elim has [
      | inl is ↦ absurd (other is)
      | inr among ↦ absurd among
    ]
