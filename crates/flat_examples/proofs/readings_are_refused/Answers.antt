use Rattle.flat_examples.proofs.Readings.{lines-go-back, line-is-skipped, end-is-missing, other-count, close-without-misuse, display-stops-early, other-time}
use Rattle.flat_examples.proofs.readings_are_refused.Goals as goal

pub returns-clause-lines_go_back : goal.returns-clause-lines_go_back
returns-clause-lines_go_back c = lines-go-back

pub returns-clause-line_is_skipped : goal.returns-clause-line_is_skipped
returns-clause-line_is_skipped c = line-is-skipped

pub returns-clause-end_is_missing : goal.returns-clause-end_is_missing
returns-clause-end_is_missing c = end-is-missing

pub returns-clause-other_count : goal.returns-clause-other_count
returns-clause-other_count c = other-count

pub returns-clause-close_without_misuse : goal.returns-clause-close_without_misuse
returns-clause-close_without_misuse c = close-without-misuse

pub returns-clause-display_stops_early : goal.returns-clause-display_stops_early
returns-clause-display_stops_early c = display-stops-early

pub returns-clause-other_time : goal.returns-clause-other_time
returns-clause-other_time c = other-time
