use Rattle.std.proofs.Common.{refl}
use Rattle.flat_report.specs.declared.sections.Section.{Section}
use Rattle.flat_report.proofs.Reaching.{cuts_more}
use Rattle.flat_report.proofs.apart.sections_of.Goals as goal

pub loop-rest-preserved : goal.loop-rest-preserved
loop-rest-preserved c =
    let whole = c.args.whole.now in
    let section : Section = record { start = c.loop-rest.cursor; entries = c.split_at.result.0; lost = whole.lost } in
    record {
      cuts = cuts_more whole c.loop-rest.sections.items c.push.new.self.items section c.skip-cursor.result c.loop-rest.rest.now c.split_at.result.1.now
          c.loop-rest.invariant.cuts refl c.split_at.ensures.by_index.0 c.skip-cursor.ensures c.in_ok-push.ensures.items;
      some = c.loop-rest.invariant.some;
    }
