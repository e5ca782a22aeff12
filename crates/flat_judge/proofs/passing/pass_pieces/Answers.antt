use Rattle.std.proofs.Common.{◌≡◌, ◌<◌, ◌+◌, ◌++◌, ℕ, suc, List, length, map, take, drop, get_or, ap, sym, ◌∙◌, subst, arith, append_assoc, append-nil}
use Rattle.std.specs.Arc.{arc_value}
use Rattle.std.specs.List.{concat}
use Rattle.std.proofs.lemmas.List.{get_or-map, length-map}
use Rattle.flat_judge.specs.Following.{Begins}
use Rattle.flat_judge.proofs.Partings.{concat-next, concat-split}
use Rattle.flat_judge.proofs.passing.pass_pieces.Goals as goal

pub loop-run-init : goal.loop-run-init
loop-run-init c = (c.requires, λ before begins. subst (λ (bytes : List ℕ). Begins c.args.text.now bytes c.args.at) (sym (append-nil before)) begins)

pub loop-run-preserved : goal.loop-run-preserved
loop-run-preserved c =
    let text = c.args.text.now in
    let runs = c.as_slice-runs.result.now in
    let pieces : List (List ℕ) = map arc_value runs in
    let k = c.loop-run.run-index in
    let piece : List ℕ = c.as_slice.result.now in
    let so_far : List ℕ = concat (take k pieces) in
    let within : k < length pieces = omega (arith, c.loop-run-test.true, length-map runs arc_value) in
    let at : get_or pieces k (arc_value c.run-item.result) ≡ piece =
    get_or-map arc_value runs k c.run-item.result (arc_value c.run-item.result) c.loop-run-test.true ∙ ap arc_value (sym c.run-item.is)
    ∙ sym c.deref.ensures ∙ sym c.as_slice.ensures in
    let further : k + 1 ≡ suc k = omega arith in
    let next : concat (take (k + 1) pieces) ≡ so_far ++ piece =
    ap (λ (n : ℕ). concat (take n pieces)) further ∙ concat-next pieces k (arc_value c.run-item.result) within
    ∙ ap (λ (bytes : List ℕ). so_far ++ bytes) at in
    let passes = c.in-Some.ensures in (
      passes.0,
      λ before begins. subst (λ (bytes : List ℕ). Begins text bytes c.in-Some.next)
          (append_assoc before so_far piece ∙ ap (λ (bytes : List ℕ). before ++ bytes) (sym next))
          (passes.1 (before ++ so_far) (c.loop-run.invariant.1 before begins)),
    )

pub returns-in-None : goal.returns-in-None
returns-in-None c = λ before rest begins is.
    let runs = c.as_slice-runs.result.now in
    let pieces : List (List ℕ) = map arc_value runs in
    let k = c.loop-run.run-index in
    let piece : List ℕ = c.as_slice.result.now in
    let so_far : List ℕ = concat (take k pieces) in
    let later : List ℕ = concat (drop (suc k) pieces) in
    let within : k < length pieces = omega (arith, c.loop-run-test.true, length-map runs arc_value) in
    let at : get_or pieces k (arc_value c.run-item.result) ≡ piece =
    get_or-map arc_value runs k c.run-item.result (arc_value c.run-item.result) c.loop-run-test.true ∙ ap arc_value (sym c.run-item.is)
    ∙ sym c.deref.ensures ∙ sym c.as_slice.ensures in
    let whole : c.args.pieces.now ≡ so_far ++ (piece ++ later) =
    sym c.as_slice-runs.ensures ∙ concat-split pieces k (arc_value c.run-item.result) within ∙ ap (λ (bytes : List ℕ). so_far ++ (bytes ++ later)) at in
    c.in-None.ensures (before ++ so_far) (later ++ rest) (c.loop-run.invariant.1 before begins)
    (is ∙ ap (λ (bytes : List ℕ). before ++ (bytes ++ rest)) whole
    ∙ ap (λ (bytes : List ℕ). before ++ bytes) (append_assoc so_far (piece ++ later) rest
    ∙ ap (λ (bytes : List ℕ). so_far ++ bytes) (append_assoc piece later rest))
    ∙ sym (append_assoc before so_far (piece ++ (later ++ rest))))
