use Rattle.flat_io.proofs.Streams.{keeps-told, appends-told}
use Rattle.flat_io.proofs.system.StdSinkSink.write.Goals as goal

pub returns-in-Err-clause-same : goal.returns-in-Err-clause-same
returns-in-Err-clause-same g c = keeps-told g.W.TellingWrite.tells _ _ (g.met.W.TellingWrite.always _) (g.met.W.TellingWrite.always _) c.in-Err.ensures.bytes
