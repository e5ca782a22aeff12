use Rattle.std.proofs.Common.{rules, ap, sym, subst, ◌∙◌, ◌<◌, Some}
use Rattle.flat_lock.specs.Steps.{splitting}
use Rattle.flat_lock.proofs.Seating.{splits}
use Rattle.flat_lock.proofs.Dealing.{made_longer, all_made}
use Rattle.flat_lock.proofs.Held.{split_view, first_view_is}
use Rattle.flat_lock.proofs.deal.deal.Goals as goal

pub split_seat-seat-requires : goal.split_seat-seat-requires
split_seat-seat-requires g c = let view = c.loop-place.invariant.view in (
  search rules,
  search rules,
  splits _ _ _ _ _ (ap (λ m. m.0.turn) view) (ap (λ m. m.0.first) view) (subst (λ m. m.0.handed_out < m.0.seats) (sym view) c.loop-place-test.true),
)

pub loop-place-preserved : goal.loop-place-preserved
loop-place-preserved g c = let was = c.loop-place.invariant in let split = c.split_seat-seat.ensures in record {
  same = split.0 ∙ was.same;
  view = split.2 ∙ ap (λ m. (splitting m.0, m.1)) was.view;
  long = search rules;
  made = made_longer c.loop-place.seats.items c.push-in-loop-place.new.self.items c.loop-place.place c.args.lock.now _ c.in_ok-push-2.ensures.items was.long
      was.made
      (ap Some (split_view c.args.lock.now c.split_seat-seat.result.table_id c.args.count c.loop-place.place c.loop-place.first.me c.split_seat-seat.result.me
      (split.3 ∙ (was.same ∙ c.requires.own)) c.requires.count was.view split.4));
}

pub returns : goal.returns
returns g c = let was = c.loop-place.invariant in
    all_made c.loop-place.seats.items c.args.lock.now _ (search rules) (search rules) (λ i after less. was.made i after (search rules))
    (ap Some (first_view_is c.args.lock.now c.loop-place.first.table_id c.args.count c.loop-place.place c.loop-place.first.me (was.same ∙ c.requires.own)
    c.requires.count was.view))
