use Rattle.std.proofs.Common.{rules, ◌≡◌, ◌∷◌, ap, sym, refl, ◌∙◌, length, drop, le_refl}
use Rattle.std.proofs.lemmas.List.{drop_all}
use Rattle.flat_lock.specs.Seats.{all_home}
use Rattle.flat_lock.proofs.Dealing.{whole_left, popped, last_belongs, last_missing, keeping, keeps_none, keeps_more}
use Rattle.flat_lock.proofs.Held.{at_home}
use Rattle.flat_lock.proofs.Seating.{joins}
use Rattle.flat_lock.proofs.deal.gather.Goals as goal

pub loop-table-init : goal.loop-table-init
loop-table-init g c =
    let all = c.others.inside.seats.items in record {
      same = (refl, refl);
      some_seat = search rules;
      left = whole_left all;
      joined = keeps_none c.args.keeper.now.me (drop (length all) all) c.requires.resting.1 c.requires.first (drop_all (length all) all (le_refl _));
    }

pub join_seat-requires : goal.join_seat-requires
join_seat-requires g c =
    let of = c.others.inside.of.value in let all = c.others.inside.seats.items in let left = c.loop-table.seats.items in let front = c.pop.new.self.items in
    let here = ap (λ z. all_home (drop 1 z.seats)) c.others.view_is ∙ c.requires.home in
    let belongs = last_belongs of all left front c.in-Some.home c.in-Some-home.last c.others.invariant here c.loop-table.invariant.left c.in-Some.ensures.items
    (search rules) c.in-Some-home.is in
    let rests = at_home _ of (length front) c.in-Some-home.last c.last.invariant c.last.view_is belongs in (
      search rules,
      ap (λ z. z.table) rests.0 ∙ (ap (λ z. z.lock.table) c.others.view_is ∙ (ap (λ z. z.table) c.requires.own ∙ sym (ap (λ z. z.table) c.lock.view_is))),
      rests.1.1,
      search rules,
      joins _ _ _ _ _ _ _ (ap (λ m. m.0.turn) c.loop-table.invariant.joined ∙ c.requires.resting.0) rests.1.0,
    )

pub loop-table-preserved : goal.loop-table-preserved
loop-table-preserved g c =
    let all = c.others.inside.seats.items in let left = c.loop-table.seats.items in let front = c.pop.new.self.items in
    let cut = popped all left front c.in-Some.home c.loop-table.invariant.left c.in-Some.ensures.items in record {
      same = search rules;
      some_seat = search rules;
      left = cut.0;
      joined = keeps_more c.loop-table.keeper.me c.args.keeper.now.me c.join_seat.new.seat.me c.last.inside.seat.me _ c.in-Some-home.last
          (drop (length left) all) (drop (length front) all)
          c.loop-table.invariant.joined c.join_seat.ensures.2 c.last.view_is (cut.1 ∙ ap (λ z. z ∷ drop (length left) all) c.in-Some-home.is);
    }

pub returns-clause-joined : goal.returns-clause-joined
returns-clause-joined g c =
    let all = c.others.inside.seats.items in
    let one : length c.loop-table.seats.items ≡ 1 = search rules in
    c.loop-table.invariant.joined ∙ (ap (λ n. keeping c.args.keeper.now.me (drop n all)) one
    ∙ ap (λ z. keeping c.args.keeper.now.me (drop 1 z.seats)) c.others.view_is)

pub unreachable-requires-in_default-home : goal.unreachable-requires-in_default-home
unreachable-requires-in_default-home g c =
    let here = ap (λ z. all_home (drop 1 z.seats)) c.others.view_is ∙ c.requires.home in
    last_missing c.others.inside.of.value c.others.inside.seats.items c.loop-table.seats.items c.pop.new.self.items c.in-Some.home c.others.invariant here
    c.loop-table.invariant.left c.in-Some.ensures.items (search rules) c.in_default-home.is
