use Rattle.std.proofs.Common.{◌+◌, ◌∷◌, [], nat_lt, length, refl, sym, ◌∙◌, ap, length-append}
use Rattle.flat_text.specs.Pieces.{is_space}
use Rattle.flat_text.specs.Left.{pieces_left}
use Rattle.flat_forms.proofs.DeclareLemmas.{name_declares, one_longer, probes_found}
use Rattle.flat_forms.proofs.parser.Parser.probe.Goals as goal

pub add_name-requires-clause-name : goal.add_name-requires-clause-name
add_name-requires-clause-name c = let read = name_declares c.args.self.now.text.script (pieces_left is_space c.args.words) (nat_lt c.len-number.result 8)
    c.in_ok-name.name.now c.in_ok-name.ensures in read.fresh.name

pub returns-clause-kept : goal.returns-clause-kept
returns-clause-kept c =
    let old = c.args.self.now.text.script in
    let had = c.requires.indexed in
    let read = name_declares c.args.self.now.text.script (pieces_left is_space c.args.words) (nat_lt c.len-number.result 8) c.in_ok-name.name.now
    c.in_ok-name.ensures in
    record {
      indexed = record {
        cache = c.in_ok-add_name.ensures.cache;
        finds = λ w.
            probes_found old _ c.in_ok-name.name.now c.in_ok-name.name.now w c.len-number.result _ _ c.in_ok-add_name.ensures.list refl refl refl refl refl
            c.len-number.ensures read.fresh (c.in_ok-add_name.ensures.found w) (had.finds w);
        sessions = had.sessions;
        probes = one_longer old.probes c.add_name.new.list c.in_ok-name.name.now c.len-number.result 8 c.in_ok-add_name.ensures.list c.len-number.ensures
            read.allowed;
        buffers = had.buffers;
        pairs = had.pairs;
        fences = had.fences;
      };
      sessions = c.requires.sessions;
      probes = ap (λ n. n + 1) c.requires.probes ∙ sym (ap length c.in_ok-add_name.ensures.list ∙ length-append old.probes (c.in_ok-name.name.now ∷ []));
      paired = c.requires.paired;
      begins = c.requires.begins;
      dones = c.requires.dones;
      last = c.requires.last;
      lines = c.requires.lines;
    }
