use Rattle.std.proofs.Common.{arith}
use Rattle.flat_io.proofs.Streams.{keeps-told, takes-told, end-told}
use Rattle.flat_io.proofs.system.StdSourceSource.read.Goals as goal

pub returns-in-Ok-clause-taken : goal.returns-in-Ok-clause-taken
returns-in-Ok-clause-taken g c = takes-told g.R.TellingRead.tells _ _ _ _ (g.met.R.TellingRead.always _) (g.met.R.TellingRead.always _) c.in-Ok.ensures.bytes.0

pub returns-in-Ok-clause-end : goal.returns-in-Ok-clause-end
returns-in-Ok-clause-end g c = λ none some. end-told g.R.TellingRead.tells _ _ (g.met.R.TellingRead.always _) (g.met.R.TellingRead.always _)
    (c.in-Ok.ensures.bytes.1 none (omega (arith, some)))

pub returns-in-Err-clause-same : goal.returns-in-Err-clause-same
returns-in-Err-clause-same g c = keeps-told g.R.TellingRead.tells _ _ (g.met.R.TellingRead.always _) (g.met.R.TellingRead.always _) c.in-Err.ensures.bytes
