use Rattle.std.proofs.Common.{◌≡◌, ◌<◌, ◌≤◌, ◌+◌, ◌-◌, ◌*◌, ℕ, List, length, drop, get_or, ap, ◌∙◌, arith}
use Rattle.std.proofs.lemmas.List.{drop_more}
use Rattle.flat_places.specs.Index.{key_of}
use Rattle.flat_places.proofs.KeyLemmas.{key_fits, key_grows}
use Rattle.flat_places.proofs.names.key_of.Goals as goal

-- a byte before the others
one_before : (name : List ℕ) (place key : ℕ) → 0 < place → place ≤ length name → key ≡ key_of (drop place name)
    → key * 256 + get_or name (place - 1) 0 ≡ key_of (drop (place - 1) name)
one_before name place key some within is =
    let next : drop (place - 1 + 1) name ≡ drop place name = ap (λ n. drop n name) (omega arith) in
    let opened : key_of (drop (place - 1) name) ≡ get_or name (place - 1) 0 + 256 * key_of (drop place name) =
    ap key_of (drop_more name (place - 1) 0 (omega arith)) ∙ ap (λ bs. get_or name (place - 1) 0 + 256 * key_of bs) next in
    omega (arith, opened)

pub overflow_mul-key : goal.overflow_mul-key
overflow_mul-key c =
    let name = c.args.name.now in
    omega (arith, key_fits c.loop-place.key 0 (length name - c.loop-place.place) c.loop-place.invariant.small (omega arith) (omega arith))

pub overflow_add-key : goal.overflow_add-key
overflow_add-key c =
    let name = c.args.name.now in
    omega (
      arith,
      key_fits c.loop-place.key (get_or name (c.loop-place.place - 1) 0) (length name - c.loop-place.place) c.loop-place.invariant.small
          (omega arith) (omega (arith, c.type_inv.name (c.loop-place.place - 1))),
    )

pub loop-place-preserved : goal.loop-place-preserved
loop-place-preserved c =
    let name = c.args.name.now in
    let place = c.loop-place.place in
    record {
      within = omega arith;
      is = one_before name place c.loop-place.key (omega arith) c.loop-place.invariant.within c.loop-place.invariant.is;
      small = key_grows c.loop-place.key (get_or name (place - 1) 0) (length name - place) (length name - (place - 1)) c.loop-place.invariant.small
          (omega (arith, c.type_inv.name (place - 1))) (omega arith);
    }
