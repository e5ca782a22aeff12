use Rattle.std.proofs.Common.{◌≡◌, ◌≤◌, ◌+◌, ◌++◌, ℕ, suc, List, [], take, drop, length, map, get_or, refl, sym, ap, ◌∙◌, subst, arith, append_assoc}
use Rattle.std.proofs.Common.{append-nil}
use Rattle.std.specs.Arc.{arc_value}
use Rattle.std.specs.List.{concat}
use Rattle.std.proofs.lemmas.List.{get_or-map, length-map, take_all}
use Rattle.flat_io.specs.Told.{Appends}
use Rattle.flat_io.specs.Whole.{AppendsPrefix}
use Rattle.flat_run.proofs.Answering.{is_status}
use Rattle.flat_run.proofs.PieceByPiece.{appends-none, appends-then, prefix-then, split-at, one-piece-more}
use Rattle.flat_run.proofs.writing.write_pieces.Goals as goal

pub loop-run-init : goal.loop-run-init
loop-run-init g c = record {
  held = ([], appends-none (g.W.Sink.held c.args.sink.now), sym c.new-waiting.ensures.items);
  faults = refl;
  stalls = refl;
}

pub loop-run-preserved : goal.loop-run-preserved
loop-run-preserved g c =
    let runs = c.as_slice-runs.result.now in
    let pieces : List (List ℕ) = map arc_value runs in
    let place : ℕ = c.loop-run.run-index in
    let piece : List ℕ = c.as_slice.result.now in
    let inv = c.loop-run.invariant in
    let within : suc place ≤ length pieces = omega (arith, c.loop-run-test.true, length-map runs arc_value) in
    let at : get_or pieces place (arc_value c.run-item.result) ≡ piece =
    get_or-map arc_value runs place c.run-item.result (arc_value c.run-item.result) c.loop-run-test.true ∙ ap arc_value (sym c.run-item.is)
    ∙ sym c.deref.ensures ∙ sym c.as_slice.ensures in
    let more : concat (take (place + 1) pieces) ≡ concat (take place pieces) ++ piece =
    one-piece-more pieces place (arc_value c.run-item.result) within ∙ ap (λ t. concat (take place pieces) ++ t) at in
    let wrote = c.write_run.ensures.whole (is_status c.write_run.result c.args.status c.write_run.ensures.either c.if-write_run-eq-WRITE_FAULT.false) in
    record {
      held = (
        inv.held.0 ++ wrote.0,
        appends-then _ _ _ _ _ inv.held.1 wrote.1,
        more ∙ ap (λ t. t ++ piece) inv.held.2 ∙ append_assoc inv.held.0 c.loop-run.waiting.items piece ∙ ap (λ t. inv.held.0 ++ t) wrote.2
            ∙ sym (append_assoc inv.held.0 wrote.0 c.write_run.new.waiting.items),
      );
      faults = c.write_run.ensures.steady c.if-write_run-eq-WRITE_FAULT.false ∙ inv.faults;
      stalls = c.write_run.ensures.flows c.if-write_run-eq-WRITE_FAULT.false ∙ inv.stalls;
    }

pub returns-then-write_run-eq-WRITE_FAULT-clause-part : goal.returns-then-write_run-eq-WRITE_FAULT-clause-part
returns-then-write_run-eq-WRITE_FAULT-clause-part g c = λ is_5.
    let runs = c.as_slice-runs.result.now in
    let pieces : List (List ℕ) = map arc_value runs in
    let place : ℕ = c.loop-run.run-index in
    let piece : List ℕ = c.as_slice.result.now in
    let rest : List ℕ = concat (drop (suc place) pieces) in
    let inv = c.loop-run.invariant in
    let waits : List ℕ = c.loop-run.waiting.items in
    let within : suc place ≤ length pieces = omega (arith, c.loop-run-test.true, length-map runs arc_value) in
    let at : get_or pieces place (arc_value c.run-item.result) ≡ piece =
    get_or-map arc_value runs place c.run-item.result (arc_value c.run-item.result) c.loop-run-test.true ∙ ap arc_value (sym c.run-item.is)
    ∙ sym c.deref.ensures ∙ sym c.as_slice.ensures in
    let whole : concat pieces ≡ inv.held.0 ++ ((waits ++ piece) ++ rest) =
    split-at pieces place (arc_value c.run-item.result) within ∙ ap (λ t. concat (take place pieces) ++ (t ++ rest)) at
    ∙ ap (λ t. t ++ (piece ++ rest)) inv.held.2
    ∙ append_assoc inv.held.0 waits (piece ++ rest) ∙ ap (λ t. inv.held.0 ++ t) (sym (append_assoc waits piece rest)) in
    let P : List ℕ → Type 0 = λ t. AppendsPrefix t (g.W.Sink.held c.args.sink.now) (g.W.Sink.held c.write_run.new.sink) in
    subst P (sym whole ∙ c.as_slice-runs.ensures) (prefix-then inv.held.0 (waits ++ piece) rest _ _ _ inv.held.1
    (c.write_run.ensures.part c.if-write_run-eq-WRITE_FAULT.true))

pub returns-then-write_run-eq-WRITE_FAULT-clause-gains : goal.returns-then-write_run-eq-WRITE_FAULT-clause-gains
returns-then-write_run-eq-WRITE_FAULT-clause-gains g c =
    let gained = c.write_run.ensures.gains in
    (c.loop-run.invariant.held.0 ++ gained.0, appends-then _ _ _ _ _ c.loop-run.invariant.held.1 gained.1)

pub returns-clause-whole : goal.returns-clause-whole
returns-clause-whole g c = λ is.
    let pieces : List (List ℕ) = map arc_value c.as_slice-runs.result.now in
    let inv = c.loop-run.invariant in
    let all : concat pieces ≡ inv.held.0 ++ c.loop-run.waiting.items =
    sym (ap concat (take_all c.loop-run.run-index pieces (omega (arith, c.loop-run-test.false, length-map c.as_slice-runs.result.now arc_value))))
    ∙ inv.held.2 in
    let P : List ℕ → Type 0 = λ t. Appends t (g.W.Sink.held c.args.sink.now) (g.W.Sink.held c.write_text.new.sink) in
    subst P (ap (λ t. inv.held.0 ++ t) c.as_slice-2.ensures.value ∙ sym all ∙ c.as_slice-runs.ensures)
    (appends-then _ _ _ _ _ inv.held.1 (c.write_text.ensures.whole is))

pub returns-clause-part : goal.returns-clause-part
returns-clause-part g c = λ is_5.
    let pieces : List (List ℕ) = map arc_value c.as_slice-runs.result.now in
    let inv = c.loop-run.invariant in
    let waits : List ℕ = c.as_slice-2.result.now in
    let all : concat pieces ≡ inv.held.0 ++ c.loop-run.waiting.items =
    sym (ap concat (take_all c.loop-run.run-index pieces (omega (arith, c.loop-run-test.false, length-map c.as_slice-runs.result.now arc_value))))
    ∙ inv.held.2 in
    let P : List ℕ → Type 0 = λ t. AppendsPrefix t (g.W.Sink.held c.args.sink.now) (g.W.Sink.held c.write_text.new.sink) in
    subst P (ap (λ t. inv.held.0 ++ t) (append-nil waits ∙ c.as_slice-2.ensures.value) ∙ sym all ∙ c.as_slice-runs.ensures)
    (prefix-then inv.held.0 waits [] _ _ _ inv.held.1 (c.write_text.ensures.part is_5))

pub returns-clause-gains : goal.returns-clause-gains
returns-clause-gains g c =
    let gained = c.write_text.ensures.gains in
    (c.loop-run.invariant.held.0 ++ gained.0, appends-then _ _ _ _ _ c.loop-run.invariant.held.1 gained.1)
