use Rattle.flat_report.proofs.laws.versions_have_one_run.Goals as goal

pub returns : goal.returns
returns c = λ script version history lost seen run.
    record { legal = run.legal; interleaves = run.interleaves; loss = run.loss; numbered = run.numbered; seeing = run.seeing }
