use Rattle.std.proofs.Common.{◌≡◌, subst}
use Rattle.flat_words.specs.declared.service_word.ServiceWord.{ServiceWord}
use Rattle.flat_words.specs.declared.service_word.ServiceWord.TheVariants.{Film, Why}
use Rattle.flat_run.specs.Forms.{Fits}
use Rattle.flat_run.proofs.ForForm.{for-form}
use Rattle.flat_run.proofs.runs.told_for.Goals as goal

pub returns-in-Why-clause-told : goal.returns-in-Why-clause-told
returns-in-Why-clause-told g c = for-form _ _ _ _ Why c.args.form c.args.reading.now c.why_told.result c.in-Why.is c.why_told.ensures.told

pub film_told-requires-clause-fits : goal.film_told-requires-clause-fits
film_told-requires-clause-fits g c κs within = let P : ServiceWord → Type 0 = λ f. Fits f c.args.reading.now.script in subst P c.in-Film.is c.requires.fits

pub returns-in-Film-clause-told : goal.returns-in-Film-clause-told
returns-in-Film-clause-told g c = for-form _ _ _ _ Film c.args.form c.args.reading.now c.film_told.result c.in-Film.is c.film_told.ensures.told
