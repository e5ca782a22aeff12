use Rattle.flat_playable.proofs.AcceptedLemmas.{accepted, accepted_text, playable_of}
use Rattle.flat_playable.proofs.scripts_are_playable.Goals as goal

pub returns-clause-played : goal.returns-clause-played
returns-clause-played c = λ bytes script is. (accepted bytes script is).played

pub returns-clause-frames : goal.returns-clause-frames
returns-clause-frames c = λ bytes script is. (accepted bytes script is).frames

pub returns-clause-rise : goal.returns-clause-rise
returns-clause-rise c = λ bytes script is. (accepted bytes script is).rise

pub returns-clause-counted : goal.returns-clause-counted
returns-clause-counted c = λ bytes script is. (accepted bytes script is).counted

pub returns-clause-count : goal.returns-clause-count
returns-clause-count c = λ bytes script is. (accepted bytes script is).count

pub returns-clause-setup : goal.returns-clause-setup
returns-clause-setup c = λ bytes script is. (accepted bytes script is).setup

pub returns-clause-sessions : goal.returns-clause-sessions
returns-clause-sessions c = λ bytes script is. (accepted bytes script is).sessions

pub returns-clause-playable : goal.returns-clause-playable
returns-clause-playable c = λ bytes script is. playable_of script (accepted bytes script is)

pub returns-clause-early : goal.returns-clause-early
returns-clause-early c = λ bytes script is. (accepted bytes script is).early

pub returns-clause-known : goal.returns-clause-known
returns-clause-known c = λ bytes script is. (accepted bytes script is).known

pub returns-clause-version : goal.returns-clause-version
returns-clause-version c = λ bytes script is. (accepted_text bytes script is).first

pub returns-clause-ratio : goal.returns-clause-ratio
returns-clause-ratio c = λ bytes script is early. let found = accepted bytes script is in (found.one early, found.unscaled early)
