use Rattle.std.proofs.Common.{◌≡◌, ◌∙◌, sym, drop, ◌+◌, [], ◌∷◌, List, subst, slice_index_or}
use Rattle.flat_facts.specs.declared.live_viewport.LiveViewport.{LiveViewport}
use Rattle.flat_links.specs.declared.pairs.PairState.{PairState}
use Rattle.flat_links.specs.Clears.{ClearsLive}
use Rattle.flat_links.proofs.Marks.{drop-is, drop-end}
use Rattle.flat_links.proofs.ClearMarks.{clears-more, clears-less, clears-none}
use Rattle.flat_links.proofs.clears.clear_live.Goals as goal
use Rattle.flat_links.proofs.clears.clear_live.Goals.{then-is_cleared, else-is_cleared}

pub loop-one-preserved : goal.loop-one-preserved
loop-one-preserved c =
    let i = c.loop-one.one-index in
    let live = c.args.live.now in
    let calls = c.args.calls.now in
    let k = c.args.presents in
    let one : LiveViewport = slice_index_or live i (record { name = record { 0 = 0 }; pair = record { 0 = 0 } }) in
    let rest : List LiveViewport = drop (i + 1) live in
    let is : drop i live ≡ one ∷ rest = drop-is live i (record { name = record { 0 = 0 }; pair = record { 0 = 0 } }) c.loop-one-test.true in
    let onward : (last : List PairState) → ClearsLive (one ∷ rest) calls k c.loop-one.pairs last → ClearsLive live calls k c.args.pairs.now last =
    λ last all. c.loop-one.invariant last (subst (λ (l : List LiveViewport). ClearsLive l calls k c.loop-one.pairs last) (sym is) all) in
    elim c.if-is_cleared.branch [
      | then-is_cleared w ↦
          (λ last later.
          onward last (clears-more one rest calls k c.loop-one.pairs w.clear_pair.new.pairs last (sym c.is_cleared.ensures ∙ w.if-is_cleared.true)
          w.clear_pair.ensures
          (subst (λ (ps : List PairState). ClearsLive rest calls k ps last) w.pairs-is later)))
      | else-is_cleared w ↦
          (λ last later.
          onward last (clears-less one rest calls k c.loop-one.pairs last (sym c.is_cleared.ensures ∙ w.if-is_cleared.false)
          (subst (λ (ps : List PairState). ClearsLive rest calls k ps last) w.pairs-is later)))
    ]

pub returns : goal.returns
returns c =
    let none : drop c.loop-one.one-index c.args.live.now ≡ [] = drop-end c.args.live.now c.loop-one.one-index c.loop-one-test.false in
    c.loop-one.invariant c.loop-one.pairs
    (subst (λ (l : List LiveViewport). ClearsLive l c.args.calls.now c.args.presents c.loop-one.pairs c.loop-one.pairs) (sym none)
    (clears-none c.args.calls.now c.args.presents c.loop-one.pairs))
