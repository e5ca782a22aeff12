use Rattle.std.proofs.Common.{◌∙◌, ap, cond, is_some, max, refl, rules}
use Rattle.std.specs.Option.{option_map_or}
use Rattle.flat_forms.proofs.lemmas.ParserLemmas.{begins_more, dones_more, last_more, lines_more}
use Rattle.flat_forms.proofs.DeclareLemmas.{means_at}
use Rattle.flat_forms.proofs.parser.Parser.take.Goals as goal

pub returns-clause-kept : goal.returns-clause-kept
returns-clause-kept c =
    let old = c.args.self.now in
    let kept = c.requires.kept in
    let pushed = c.in_ok-push.ensures.ok in
    let lines = old.text.script.lines in
    record {
      indexed = record {
        cache = kept.indexed.cache;
        finds = λ w. means_at old.text.script _ _ w refl refl refl refl refl (kept.indexed.finds w);
        sessions = kept.indexed.sessions;
        probes = kept.indexed.probes;
        buffers = kept.indexed.buffers;
        pairs = kept.indexed.pairs;
        fences = kept.indexed.fences;
      };
      sessions = kept.sessions;
      probes = kept.probes;
      paired = kept.paired;
      begins = begins_more lines c.push.new.self _ old.begins c.one_if.result pushed kept.begins
          (c.one_if.ensures ∙ ap (λ b. cond b 1 0) c.is_some.ensures ∙ ap (λ o. cond (is_some o) 1 0) c.time_begun-begun.ensures);
      dones = dones_more lines c.push.new.self _ old.dones c.one_if-2.result pushed kept.dones (c.one_if-2.ensures ∙ ap (λ b. cond b 1 0) c.ends_frame.ensures);
      last = last_more lines c.push.new.self _ old.last c.last_after-self.result pushed kept.last
          (c.last_after-self.ensures ∙ ap (λ o. option_map_or (λ t. max old.last t) o old.last) c.time_begun-begun.ensures);
      lines = λ b q. lines_more old.counts lines c.push.new.self _ c.args.actor b c.slot.result c.slot.ensures.slot (search rules) c.requires.counted q refl
          pushed (kept.lines b q);
    }
