use Rattle.std.proofs.Common.{nat_lt, refl}
use Rattle.flat_text.specs.Pieces.{is_space}
use Rattle.flat_text.specs.Left.{pieces_left}
use Rattle.flat_forms.proofs.DeclareLemmas.{buffers_declares, one_longer, buffers_found}
use Rattle.flat_forms.proofs.parser.Parser.buffers.Goals as goal

pub add_name-requires-clause-name : goal.add_name-requires-clause-name
add_name-requires-clause-name c = let read = buffers_declares c.args.self.now.text.script (pieces_left is_space c.args.words) (nat_lt c.len-number.result 256)
    (c.in_ok-name.name.now, c.in_ok-name.decl) c.in_ok-name.ensures in read.fresh.name

pub returns-clause-kept : goal.returns-clause-kept
returns-clause-kept c =
    let old = c.args.self.now.text.script in
    let had = c.requires.indexed in
    let read = buffers_declares c.args.self.now.text.script (pieces_left is_space c.args.words) (nat_lt c.len-number.result 256)
    (c.in_ok-name.name.now, c.in_ok-name.decl) c.in_ok-name.ensures in
    record {
      indexed = record {
        cache = c.in_ok-add_name.ensures.cache;
        finds = λ w.
            buffers_found old _ c.in_ok-name.name.now c.in_ok-name.name.now w c.in_ok-name.decl c.len-number.result _ _ c.in_ok-add_name.ensures.list refl refl
            refl refl refl c.len-number.ensures read.fresh (c.in_ok-add_name.ensures.found w) (had.finds w);
        sessions = had.sessions;
        probes = had.probes;
        buffers = one_longer old.buffers c.add_name.new.list c.in_ok-name.name.now c.len-number.result 256 c.in_ok-add_name.ensures.list c.len-number.ensures
            read.allowed;
        pairs = had.pairs;
        fences = had.fences;
      };
      sessions = c.requires.sessions;
      probes = c.requires.probes;
      paired = c.requires.paired;
      begins = c.requires.begins;
      dones = c.requires.dones;
      last = c.requires.last;
      lines = c.requires.lines;
    }
