use Rattle.std.proofs.Common.{ℕ, length, ap, sym, subst, ◌∙◌}
use Rattle.flat_display.specs.Lost.{Driven}
use Rattle.flat_play.specs.Beginning.{AreBegun}
use Rattle.flat_play.specs.Keeping.{keeping_of}
use Rattle.flat_play.proofs.lemmas.Seen.{kept_from, kept_seen, seen_counted}
use Rattle.flat_race.specs.Ends.{MayRace}
use Rattle.flat_race.proofs.RaceEnds.{kept_stopped, ok_raced}
use Rattle.flat_race.proofs.race.race_on.Goals as goal

pub on_threads-shown-requires-clause-may : goal.on_threads-shown-requires-clause-may
on_threads-shown-requires-clause-may g c κs within =
    let M : ℕ → Type 0 = λ n. MayRace c.args.stage c.args.context.now.script.now n c.args.state in
    subst M (ap (λ v. length v.items) (sym c.replace-shown_here.ensures.value)) c.requires.may

pub close-requires-clause-playable : goal.close-requires-clause-playable
close-requires-clause-playable g c = c.requires.may.playable

pub close-requires-clause-of : goal.close-requires-clause-of
close-requires-clause-of g c = c.requires.may.of

pub close-requires-clause-ended : goal.close-requires-clause-ended
close-requires-clause-ended g c =
    (ok_raced _ c.in-Ok.ended c.in-Ok.is _ _ c.args.stage c.args.context.now.script.now _ _ c.args.state c.on_threads-shown.ensures.raced).ended

pub returns-in-Ok-clause-run : goal.returns-in-Ok-clause-run
returns-in-Ok-clause-run g c =
    let raced = ok_raced _ c.in-Ok.ended c.in-Ok.is _ _ c.args.stage c.args.context.now.script.now _ _ c.args.state c.on_threads-shown.ensures.raced in
    let out = c.close.ensures.out in
    record {
      played = out.played;
      probes = out.probes;
      keeping = ap keeping_of out.kept ∙ raced.keeping;
      seen = seen_counted _ _ _ _ _ _ _ _ _ _ _ out.finishes out.as_many (ap (λ (s : Driven). s.lost) out.set)
          (ap (λ v. v.items) (sym c.replace-shown_here.ensures.value)) raced.seen;
    }

pub returns-in-Ok-clause-kept : goal.returns-in-Ok-clause-kept
returns-in-Ok-clause-kept g c =
    let raced = ok_raced _ c.in-Ok.ended c.in-Ok.is _ _ c.args.stage c.args.context.now.script.now _ _ c.args.state c.on_threads-shown.ensures.raced in
    kept_from _ _ _ _ _ _ _ (ap (λ v. v.items) (sym c.replace-shown_here.ensures.value))
    (kept_seen _ _ (AreBegun c.args.context.now.script.now) _ _ _ _ _ _ c.on_threads-shown.ensures.kinds c.close.ensures.begun raced.seen)

pub returns-in-Err-clause-kept : goal.returns-in-Err-clause-kept
returns-in-Err-clause-kept g c =
    kept_from _ _ _ _ _ _ _ (ap (λ v. v.items) (sym c.replace-shown_here.ensures.value))
    (kept_stopped _ _ _ c.args.stage c.args.context.now.script.now _ _ _ c.on_threads-shown.ensures.stopped c.in-Err.stopped c.in-Err.is
    c.on_threads-shown.ensures.kinds c.close_stopped.ensures)
