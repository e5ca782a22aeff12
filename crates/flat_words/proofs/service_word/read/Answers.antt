use Rattle.std.proofs.Common.{ap, sym, subst, ◌≡◌, ◌∙◌, [], map, true≢false, is_some, IfSome, IsSomeAnd}
use Rattle.std.specs.String.{string_bytes}
use Rattle.std.proofs.lemmas.Option.{IfSome_then}
use Rattle.clap.specs.Words.{fault_of, subcommand_of, subcommand_rows_of}
use Rattle.clap.proofs.WalkLemmas.{list_any-map}
use Rattle.flat_words.specs.Command.{IsNamed, service, is_option}
use Rattle.flat_words.proofs.Meaning.{called, taken}
use Rattle.flat_words.proofs.service_word.read.Goals as goal

pub returns-then-has_option-clause-only : goal.returns-then-has_option-clause-only
returns-then-has_option-clause-only c form call =
    absurd (true≢false (sym c.if-has_option.true ∙ c.has_option.ensures ∙ list_any-map is_option string_bytes c.args.words.now ∙ (taken _ form call).0))

pub returns-in_default-clause-only : goal.returns-in_default-clause-only
returns-in_default-clause-only c form call =
    let some = c.in_ok-matches.ensures.none (taken _ form call).1 in
    absurd (true≢false (sym some ∙ ap is_some c.in_default.is))

pub returns-clause-form : goal.returns-clause-form
returns-clause-form c =
    let words = map string_bytes c.args.words.now in
    let plain = sym (list_any-map is_option string_bytes c.args.words.now) ∙ sym c.has_option.ensures ∙ c.if-has_option.false in
    let whole : fault_of service words ≡ [] = subst (λ o. IfSome o (λ m. fault_of service words ≡ [])) c.in-Some.is c.in_ok-matches.ensures.taken in
    let rows : subcommand_rows_of c.in-Some.matches ≡ subcommand_of service words =
    subst (λ o. IfSome o (λ m. subcommand_rows_of m ≡ subcommand_of service words)) c.in-Some.is c.in_ok-matches.ensures.matches in
    IfSome_then c.named_form.result c.named_form.ensures.form
    (λ form named. called words plain whole form (subst (λ o. IsSomeAnd o (λ call. IsNamed call form)) rows named))

pub returns-clause-only : goal.returns-clause-only
returns-clause-only c form call =
    let words = map string_bytes c.args.words.now in
    let rows : subcommand_rows_of c.in-Some.matches ≡ subcommand_of service words =
    subst (λ o. IfSome o (λ m. subcommand_rows_of m ≡ subcommand_of service words)) c.in-Some.is c.in_ok-matches.ensures.matches in
    c.named_form.ensures.only form (subst (λ o. IsSomeAnd o (λ call. IsNamed call form)) (sym rows) (taken words form call).2)
