use Rattle.std.proofs.Common.{refl, ap, ◌∙◌}
use Rattle.flat_play.specs.Keeping.{keeping_of}
use Rattle.flat_play.proofs.InTurn.{turns-ended}
use Rattle.flat_play.proofs.Probed.{probes-ended}
use Rattle.flat_play.proofs.Touching.{answered-ended}
use Rattle.flat_play.proofs.lemmas.Begun.{none-begun}
use Rattle.flat_play.proofs.Explained.{explained-ended}
use Rattle.flat_play.proofs.lemmas.Seen.{kept_none, seen_same}
use Rattle.flat_play.proofs.whole.play_whole.Goals as goal

pub end_all-requires-clause-stands : goal.end_all-requires-clause-stands
end_all-requires-clause-stands g c = c.in_ok-play.ensures.reads.stands

pub returns-clause-run : goal.returns-clause-run
returns-clause-run g c =
    let script = c.args.script.now in
    let reads = c.in_ok-play.ensures.reads in
    let ends = c.end_all.ensures in
    record {
      run = record {
        played = ends.played;
        probes = probes-ended script _ _ _ ends.ends reads.probes;
        keeping = ap keeping_of ends.kept ∙ reads.keeping;
        seen = seen_same _ _ script.setup _ _ _ _ refl refl _ _ _ ends.frames reads.seen;
      };
      written = ends.written;
      in_turn = turns-ended script _ _ c.in_ok-play.field-0.probes.items ends.ends reads.in_turn;
    }

pub returns-clause-touches : goal.returns-clause-touches
returns-clause-touches g c = answered-ended c.args.script.now.setup _ _ _ _ c.end_all.ensures.ends c.in_ok-play.ensures.reads.touches

pub returns-clause-tells : goal.returns-clause-tells
returns-clause-tells g c =
    let notes = c.in_ok-play.ensures.notes in
    record {
      told = explained-ended c.args.script.now _ _ c.play_lines.new.explaining c.end_all.ensures.ends c.end_all.ensures.frames notes.stands;
      on = notes.on;
      film = notes.film;
    }

pub returns-in_err-set-clause-kept : goal.returns-in_err-set-clause-kept
returns-in_err-set-clause-kept g c = kept_none _ _ _ _ _ (none-begun c.args.script.now)
