use Rattle.std.proofs.Common.{Option, subst}
use Rattle.flat_session.specs.declared.requested_entry.RequestedEntry.{RequestedEntry}
use Rattle.flat_session.specs.declared.session_reader.SessionReader.{SessionReader}
use Rattle.flat_session.specs.Reads.{Tells}
use Rattle.flat_session.proofs.lemmas.Preparing.{prepared_for, waiting}
use Rattle.flat_session.proofs.lemmas.Standing.{was}
use Rattle.flat_session.proofs.session_reader.SessionReader.prepare.Goals as goal

pub judge-requires-clause-stands : goal.judge-requires-clause-stands
judge-requires-clause-stands c =
    let stood = c.requires.stands in
    let open_now = stood.1.1.when_open c.if-self.false in
    (stood.0, (open_now.draft, open_now.stands))

pub judge-requires-clause-opened : goal.judge-requires-clause-opened
judge-requires-clause-opened c = (c.requires.stands.1.1.when_open c.if-self.false).still_open

pub returns-in-None-clause-prepares : goal.returns-in-None-clause-prepares
returns-in-None-clause-prepares c = λ setup mine stands played.
    let old : SessionReader = c.args.self.now in
    let new : SessionReader = c.judge.new.self in
    let before = was setup mine c.args.text old new stands c.if-self.false in
    let T : Option RequestedEntry → Type 0 = Tells setup old.session before.draft c.args.text new.draft in
    waiting setup mine c.args.text old new stands c.if-self.false c.in_ok-judge.ensures.rest played
    (subst T c.in-None.is (c.in_ok-judge.ensures.tells setup before.draft before.stands played))

pub returns-in-Some-clause-prepares : goal.returns-in-Some-clause-prepares
returns-in-Some-clause-prepares c = λ setup mine stands played.
    let old : SessionReader = c.args.self.now in
    let new : SessionReader = c.judge.new.self in
    let before = was setup mine c.args.text old new stands c.if-self.false in
    let T : Option RequestedEntry → Type 0 = Tells setup old.session before.draft c.args.text new.draft in
    prepared_for setup mine c.args.text old new stands c.if-self.false c.in_ok-judge.ensures.rest c.in-Some.made
    (subst T c.in-Some.is (c.in_ok-judge.ensures.tells setup before.draft before.stands played))
