use Rattle.flat_watch.proofs.Runs.{answers-once, first-news-is-answered, silence-changes-nothing, silent-unasked}
use Rattle.flat_watch.proofs.laws.hanging_get_laws.Goals as goal

pub returns-clause-first_news_is_answered : goal.returns-clause-first_news_is_answered
returns-clause-first_news_is_answered c = first-news-is-answered

pub returns-clause-answers_once : goal.returns-clause-answers_once
returns-clause-answers_once c = answers-once

pub returns-clause-silence_changes_nothing : goal.returns-clause-silence_changes_nothing
returns-clause-silence_changes_nothing c = silence-changes-nothing

pub returns-clause-silent_unasked : goal.returns-clause-silent_unasked
returns-clause-silent_unasked c = silent-unasked
