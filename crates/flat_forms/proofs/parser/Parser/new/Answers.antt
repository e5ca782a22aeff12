use Rattle.std.proofs.Common.{refl, lit≤, replicate}
use Rattle.flat_places.specs.Slots.{slot}
use Rattle.flat_forms.proofs.lemmas.ParserLemmas.{zeros_at}
use Rattle.flat_forms.proofs.DeclareLemmas.{nothing_found}
use Rattle.flat_forms.proofs.parser.Parser.new.Goals as goal

pub returns-clause-kept : goal.returns-clause-kept
returns-clause-kept c =
    rw c.empty.ensures (record {
      indexed = record {
        cache = c.new.ensures.cache;
        finds = λ w. nothing_found _ w (c.new.ensures.empty w);
        sessions = lit≤ tt;
        probes = lit≤ tt;
        buffers = lit≤ tt;
        pairs = lit≤ tt;
        fences = lit≤ tt;
      };
      sessions = refl;
      probes = refl;
      paired = refl;
      begins = refl;
      dones = refl;
      last = refl;
      lines = λ a p. zeros_at (replicate 25 0) (slot a) refl;
    })
