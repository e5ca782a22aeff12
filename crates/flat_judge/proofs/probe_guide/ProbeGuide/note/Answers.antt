use Rattle.std.proofs.Common.{◌≡◌, ◌∷◌, ◌++◌, ℕ, [], Some, slice_get, slice_set, sym, ◌∙◌, ap, arith}
use Rattle.std.proofs.lemmas.Option.{slice_get-get_or}
use Rattle.flat_judge.specs.Hints.{is_this}
use Rattle.flat_judge.proofs.Looking.{notes-none, notes-one, not-this, on-ok}
use Rattle.flat_judge.proofs.probe_guide.ProbeGuide.note.Goals as goal

pub returns-then-len-probe : goal.returns-then-len-probe
returns-then-len-probe c =
    notes-none c.args.script.now c.args.line.now c.args.self.now.seen.items
    (λ n below. let high = c.if-len-probe.true in let many = c.len.ensures in ap (is_this n) (sym c.probe_answered.ensures ∙ c.in-Some.is)
    ∙ not-this c.in-Some.probe n (omega (arith, below, high, many)))

pub returns : goal.returns
returns c =
    let hints = c.args.self.now.seen.items in
    let probe = c.in-Some.probe in
    let was = c.index_mut.result.now in
    let here : slice_get hints probe ≡ Some was = slice_get-get_or hints probe was
    (let low = c.if-len-probe.false in let many = c.len.ensures in omega (arith, low, many))
    ∙ (let found = sym c.index_mut.ensures.value in λ i. Some (found i)) in
    on-ok c.push.result
    (λ pushed. notes-one c.args.script.now c.args.line.now hints probe was _ here (sym c.probe_answered.ensures ∙ c.in-Some.is)
    (ap (slice_set hints probe) (pushed ∙ ap (λ (n : ℕ). was ++ n ∷ []) c.frame_told.ensures)))
    c.push.ensures.ok
