use Rattle.std.proofs.Common.{◌≡◌, ◌≢◌, Ok, Err, refl, ap, sym, ◌∙◌, subst}
use Rattle.flat_words.specs.declared.service_word.ServiceWord.TheVariants.{Race}
use Rattle.flat_run.specs.declared.answers.NoAnswer.TheVariants.{Fault}
use Rattle.flat_run.specs.Answering.{IsGiven}
use Rattle.flat_run.proofs.Replying.{answers_nothing, answers_refused, answers_run, answers_unrun, ok_holds}
use Rattle.flat_run.proofs.runs.answer_read.Goals as goal

pub returns-in-Ok-Refused-clause-answers : goal.returns-in-Ok-Refused-clause-answers
returns-in-Ok-Refused-clause-answers g c =
    let left = g.R.Source.left c.args.source.now in
    let left' = g.R.Source.left c.read_source.new.source in
    let steady = c.read_source.ensures.steady (λ same. let both = sym c.in-Ok-Refused.is ∙ same in cc) in
    answers_refused _ _ _ c.args.form _ _ _ _ c.requires.read c.in-Ok-Refused.answer
    (subst (IsGiven c.args.form left left') c.in-Ok-Refused.field-0-is c.in-Ok-Refused.ensures.is) c.read_source.ensures.given c.read_source.ensures.counts
    steady refl

pub returns-in-Err-clause-answers : goal.returns-in-Err-clause-answers
returns-in-Err-clause-answers g c =
    answers_nothing _ _ _ c.args.form _ _ _ _ c.requires.read c.in-Err.why c.read_source.ensures.given c.read_source.ensures.counts
    (λ other. c.read_source.ensures.steady (λ same. other (let both = sym c.in-Err.is ∙ same in cc)))
    (λ same. let fault : c.in-Err.why ≡ Fault = cc in c.read_source.ensures.fault (c.in-Err.is ∙ ap Err fault)) refl

pub returns-in-Ok-clause-answers : goal.returns-in-Ok-clause-answers
returns-in-Ok-clause-answers g c =
    let left = g.R.Source.left c.args.source.now in
    let left' = g.R.Source.left c.read_source.new.source in
    let steady = c.read_source.ensures.steady (λ same. let both = sym c.in-Ok-Script.is ∙ same in cc) in
    answers_run _ _ _ c.args.form _ _ _ _ c.requires.read c.in-Ok-Script.reading
    (subst (IsGiven c.args.form left left') c.in-Ok-Script.field-0-is c.in-Ok-Script.ensures.is) c.read_source.ensures.given c.read_source.ensures.counts
    steady c.told_for-text.ensures.kept c.in-Ok.text
    (λ bytes read. ok_holds _ _ _ c.in-Ok.is (c.told_for-text.ensures.told bytes read))

pub returns-in-Err-text-clause-answers : goal.returns-in-Err-text-clause-answers
returns-in-Err-text-clause-answers g c =
    let left = g.R.Source.left c.args.source.now in
    let left' = g.R.Source.left c.read_source.new.source in
    let steady = c.read_source.ensures.steady (λ same. let both = sym c.in-Ok-Script.is ∙ same in cc) in
    answers_unrun _ _ _ c.args.form _ _ _ _ c.requires.read c.in-Ok-Script.reading
    (subst (IsGiven c.args.form left left') c.in-Ok-Script.field-0-is c.in-Ok-Script.ensures.is) c.read_source.ensures.given c.read_source.ensures.counts
    steady c.told_for-text.ensures.kept
