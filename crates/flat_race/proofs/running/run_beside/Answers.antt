use Rattle.std.proofs.Common.{rules, refl, ap, ◌∙◌}
use Rattle.flat_scene.specs.Journals.{history_of}
use Rattle.flat_base.specs.declared.ids.FrameNo.{FrameNo}
use Rattle.flat_race.proofs.Probed.{answered-all}
use Rattle.flat_race.proofs.Settled.{last-published-is}
use Rattle.flat_race.proofs.running.run_beside.Goals as goal

pub meet_each-requires-clause-is : goal.meet_each-requires-clause-is
meet_each-requires-clause-is g c = c.in-Ok-directed.ensures.directs.film.ends.is

pub meet_each-requires-clause-last : goal.meet_each-requires-clause-last
meet_each-requires-clause-last g c = λ any. (
    let was = c.in-Ok-directed.ensures.directs in
    last-published-is c.args.context.now.script.now (history_of c.direct-directed.new.compositor.display.seen) c.direct-directed.new.film.store.last
    c.direct-directed.new.published
    was.film.ends.number was.film.ends.shows was.film.ends.scales (was.published.are any)
    )

pub returns-clause-raced : goal.returns-clause-raced
returns-clause-raced g c =
    let was = c.in-Ok-directed.ensures.directs in
    let script = c.args.context.now.script.now in
    let history = history_of c.direct-directed.new.compositor.display.seen in
    let ends = was.film.ends in
    let stays = c.in-Ok-meet_each.ensures.stays in
    let sent = c.direct-directed.new.published in
    record {
      ended = record {
        directed = was.stands;
        kept = record {
          keeps = was.film.keeps;
          ends = record {
            number = ap (λ (f : FrameNo). f.0) stays.frame ∙ ends.number;
            is = stays.is;
            shows = stays.reuse ∙ ends.shows;
            scales = stays.ratio ∙ ends.scales;
          };
          points = was.film.points;
        };
        own = search rules;
        back = search rules;
        probed = answered-all script history sent (record { home = sent.home; frames = sent.frames }) c.in-Ok-meet_each.answers.items refl was.published
            c.in-Ok-meet_each.ensures.answered;
      };
      keeping = was.keeping;
      seen = was.seen;
    }

pub start_each-requires-clause-playable : goal.start_each-requires-clause-playable
start_each-requires-clause-playable g c κs within = c.requires.may.playable

pub start_each-requires-clause-of : goal.start_each-requires-clause-of
start_each-requires-clause-of g c κs within = c.requires.may.of

pub start_each-requires-clause-own : goal.start_each-requires-clause-own
start_each-requires-clause-own g c κs within = c.requires.may.own

pub start_each-requires-clause-fresh : goal.start_each-requires-clause-fresh
start_each-requires-clause-fresh g c κs within = c.requires.may.sessions

pub returns-in_default-clause-raced : goal.returns-in_default-clause-raced
returns-in_default-clause-raced g c = tt

pub start_probes-requires-clause-playable : goal.start_probes-requires-clause-playable
start_probes-requires-clause-playable g c κs within = c.requires.may.playable

pub start_probes-requires-clause-fresh : goal.start_probes-requires-clause-fresh
start_probes-requires-clause-fresh g c κs within = c.requires.probes

pub returns-in_default-start_probes-clause-raced : goal.returns-in_default-start_probes-clause-raced
returns-in_default-start_probes-clause-raced g c = tt

pub direct-directed-requires-clause-playable : goal.direct-directed-requires-clause-playable
direct-directed-requires-clause-playable g c κs within = c.requires.may.playable

pub direct-directed-requires-clause-of : goal.direct-directed-requires-clause-of
direct-directed-requires-clause-of g c κs within = c.requires.may.of

pub direct-directed-requires-clause-film : goal.direct-directed-requires-clause-film
direct-directed-requires-clause-film g c κs within = c.requires.may.none

pub direct-directed-requires-clause-fresh : goal.direct-directed-requires-clause-fresh
direct-directed-requires-clause-fresh g c κs within = c.requires.may.fresh

pub direct-directed-requires-clause-unpublished : goal.direct-directed-requires-clause-unpublished
direct-directed-requires-clause-unpublished g c κs within = c.requires.unpublished

pub meet_each-requires-clause-playable : goal.meet_each-requires-clause-playable
meet_each-requires-clause-playable g c = c.requires.may.playable

pub returns-in_default-meet_each-clause-raced : goal.returns-in_default-meet_each-clause-raced
returns-in_default-meet_each-clause-raced g c = tt
