use Rattle.std.proofs.Common.{None, refl, replicate}
use Rattle.flat_places.proofs.CacheLemmas.{nothing_cached}
use Rattle.flat_places.proofs.names.Names.new.Goals as goal

pub returns-clause-cache : goal.returns-clause-cache
returns-clause-cache c = nothing_cached (record { map = c.new.result; cache = replicate 61 None }) refl
