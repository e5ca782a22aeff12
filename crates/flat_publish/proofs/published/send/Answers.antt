use Rattle.std.proofs.Common.{◌≡◌, ◌∙◌, drop, ap, sym, Some, Result, Ok, Err, OnOk}
use Rattle.left_right.specs.Sides.{view}
use Rattle.flat_publish.specs.State.{Seen, upcoming}
use Rattle.flat_publish.proofs.Homes.{upcoming_last}
use Rattle.flat_publish.proofs.Publishing.{on_ok, on_err}
use Rattle.flat_publish.proofs.published.send.Goals as goal
use Rattle.flat_publish.proofs.published.send.Goals.{in-Ok, in-Err}

-- what follows from two facts where there is a value
on_ok_two : {X E : Type 0} (r : Result X E) {A B C : Type 0} → (A → B → C) → OnOk r A → OnOk r B → OnOk r C
on_ok_two (Ok x) f a b = f a b
on_ok_two (Err e) f a b = tt

pub show-requires : goal.show-requires
show-requires g c =
    let new = c.append.new.self in
    let shown : upcoming new.desk.shown.value (drop new.behind new.log.items) ≡ c.args.latest
    = ap (upcoming new.desk.shown.value) c.in-Ok.ensures.pending
    ∙ upcoming_last new.desk.shown.value c.args.latest (drop c.args.writer.behind c.args.writer.log.items) in
    ap (λ (seen : Seen). seen.home) shown ∙ c.requires ∙ ap (λ desk. desk.shown.value.home) (sym c.in-Ok.ensures.desk)

pub returns : goal.returns
returns g c = elim c.match-append.branch [
  | in-Ok w ↦
      let new = c.append.new.self in
      let shown : upcoming new.desk.shown.value (drop new.behind new.log.items) ≡ c.args.latest
      = ap (upcoming new.desk.shown.value) w.in-Ok.ensures.pending
      ∙ upcoming_last new.desk.shown.value c.args.latest (drop c.args.writer.behind c.args.writer.log.items) in
      rw w.result-is (record {
        shown = on_ok w.show.result.1 (λ is. is ∙ shown) w.show.ensures.shown;
        known = on_ok_two w.show.result.1 (λ is known. known ∙ ap (λ (seen : Seen). Some seen.home) (is ∙ shown)) w.show.ensures.shown w.show.ensures.known;
        kept = on_err w.show.result.1 (λ kept. (
          kept.0 ∙ ap (λ desk. desk.shown.value) w.in-Ok.ensures.desk,
          kept.1
              ∙ ap (λ desk. view desk.place) w.in-Ok.ensures.desk,
        )) w.show.ensures.kept;
      })
  | in-Err w ↦ rw w.result-is (record {
    shown = tt;
    known = tt;
    kept = (ap (λ desk. desk.shown.value) c.append.ensures.desk, ap (λ desk. view desk.place) c.append.ensures.desk);
  })
]
