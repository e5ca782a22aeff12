use Rattle.std.proofs.Common.{◌≡◌, ◌<◌, ◌-◌, suc, sym, length, drop, [], arith}
use Rattle.std.proofs.lemmas.List.{drop_all}
use Rattle.flat_draft.proofs.Laying.{laying-at, laying-skip, laying-fits, laying-below, laying-more, laying-end}
use Rattle.flat_draft.proofs.lay.+lay.Goals as goal

pub loop-key-preserved-in_default : goal.loop-key-preserved-in_default
loop-key-preserved-in_default t c =
    let within : c.loop-key.key-index < length c.args.keys.now = omega arith in
    let none = sym (rw c.in_default.is at c.node.ensures) in
    let w = laying-at _ _ _ _ _ c.loop-key.key-index _ _ within c.loop-key.invariant in
    laying-skip _ _ _ _ _ _ _ _ _ none w

pub enter-requires : goal.enter-requires
enter-requires t c =
    let within : c.loop-key.key-index < length c.args.keys.now = omega arith in
    let w = laying-at _ _ _ _ _ c.loop-key.key-index _ _ within c.loop-key.invariant in
    let fits = laying-fits _ _ _ _ _ _ _ _ _ w in omega (arith, fits.1)

pub overflow_sub-levels : goal.overflow_sub-levels
overflow_sub-levels t c =
    let within : c.loop-key.key-index < length c.args.keys.now = omega arith in
    let w = laying-at _ _ _ _ _ c.loop-key.key-index _ _ within c.loop-key.invariant in
    (laying-fits _ _ _ _ _ _ _ _ _ w).0

pub lay-requires : goal.lay-requires
lay-requires t c =
    let within : c.loop-key.key-index < length c.args.keys.now = omega arith in
    let w = laying-at _ _ _ _ _ c.loop-key.key-index _ _ within c.loop-key.invariant in
    let fits = laying-fits _ _ _ _ _ _ _ _ _ w in
    let less : c.args.levels ≡ suc (c.args.levels - 1) = omega (arith, fits.0) in
    let node = sym (rw c.in-Some.is at c.node.ensures) in (
      omega (arith, fits.0),
      rw (c.as_slice-children.ensures, c.in_ok-enter.ensures.ok)
          (laying-below _ _ c.args.levels (c.args.levels - 1) _ _ _ _ _ _ _ less node w),
    )

pub loop-key-preserved : goal.loop-key-preserved
loop-key-preserved t c =
    let within : c.loop-key.key-index < length c.args.keys.now = omega arith in
    let w = laying-at _ _ _ _ _ c.loop-key.key-index _ _ within c.loop-key.invariant in
    let fits = laying-fits _ _ _ _ _ _ _ _ _ w in
    let less : c.args.levels ≡ suc (c.args.levels - 1) = omega (arith, fits.0) in
    let node = sym (rw c.in-Some.is at c.node.ensures) in
    let built = rw (c.as_slice-children.ensures, c.in_ok-enter.ensures.ok, c.leaf.ensures) at c.in_ok-lay.ensures in
    laying-more _ _ c.args.levels (c.args.levels - 1) _ _ _ _ _ _ _ _ _ less node built c.leave.ensures w

pub returns : goal.returns
returns t c =
    let none : drop c.loop-key.key-index c.args.keys.now ≡ [] = drop_all c.loop-key.key-index c.args.keys.now (omega arith) in
    let w = rw none at c.loop-key.invariant in
    laying-end _ _ _ _ _ _ _ w
