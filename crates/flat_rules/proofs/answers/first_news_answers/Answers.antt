use Rattle.flat_rules.proofs.AnswersPosted.{answers-are-posted}
use Rattle.flat_rules.proofs.FirstNewsLemmas.{first-news-answers, second-get-is-refused, unasked-stays, nothing-is-answered-at-first}
use Rattle.flat_rules.proofs.answers.first_news_answers.Goals as goal

pub returns-clause-answered : goal.returns-clause-answered
returns-clause-answered c = first-news-answers

pub returns-clause-refused : goal.returns-clause-refused
returns-clause-refused c = second-get-is-refused

pub returns-clause-unasked : goal.returns-clause-unasked
returns-clause-unasked c = unasked-stays

pub returns-clause-first : goal.returns-clause-first
returns-clause-first c = nothing-is-answered-at-first

pub returns-clause-posted : goal.returns-clause-posted
returns-clause-posted c = answers-are-posted
