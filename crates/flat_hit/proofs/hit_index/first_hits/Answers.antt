use Rattle.std.proofs.Common.{◌≡◌, ◌<◌, ◌≤◌, ◌-◌, ℕ, List, Some, length, reverse, slice_get, slice_index_or, sym, ap, ◌∙◌, subst, arith, w64}
use Rattle.std.specs.List.{filter_map}
use Rattle.std.proofs.lemmas.Int.{to_z-of_z}
use Rattle.std.proofs.lemmas.List.{take_all, length-reverse}
use Rattle.std.proofs.lemmas.Option.{slice_get-get_or, get_or_from_slice_get}
use Rattle.flat_topology.specs.Hits.{hit_on, first_of_each}
use Rattle.flat_hit.proofs.Firsts.{hits-more}
use Rattle.flat_hit.proofs.Regions.{given, given_at, no-hit, place-within, places-enough}
use Rattle.flat_hit.proofs.hit_index.first_hits.Goals as goal

pub at-node-requires : goal.at-node-requires
at-node-requires c =
    let places = c.args.places.now in
    let k = length places - 1 - c.loop-before.before in
    let inside : k < length places = let low = c.loop-before-test.true in omega (arith, low) in
    let got : slice_get places k ≡ Some (slice_index_or places k 0) = slice_get-get_or places k 0 inside in
    let below = place-within 0 c.args.nodes.now k (slice_index_or places k 0)
    (subst (λ (ps : List ℕ). slice_get ps k ≡ Some (slice_index_or places k 0)) c.requires got) in
    omega (arith, below)

pub loop-before-preserved : goal.loop-before-preserved
loop-before-preserved c =
    let places = c.args.places.now in
    let k = length places - 1 - c.loop-before.before in
    let place = slice_index_or places k 0 in
    let inside : k < length places = let low = c.loop-before-test.true in omega (arith, low) in
    let got : slice_get places k ≡ Some place = slice_get-get_or places k 0 inside in
    hits-more (given_at (hit_on _ _) c.args.nodes.now) places c.loop-before.before place c.loop-before.hits c.add.new.hits (hit_on _ _ c.at-node.result.now)
    c.loop-before-test.true
    (sym (get_or_from_slice_get places k place place got)) c.loop-before.invariant (sym (ap (given (hit_on _ _)) c.at-node.ensures)) c.in_ok-add.ensures

pub returns : goal.returns
returns c =
    let places = c.args.places.now in
    let nodes = c.args.nodes.now in
    let x = to_z-of_z w64 c.args.x c.ranges.x in
    let y = to_z-of_z w64 c.args.y c.ranges.y in
    let past : length (reverse places) ≤ c.loop-before.before = let long = length-reverse places in let over =
    c.loop-before-test.false in omega (arith, long, over) in
    let all = take_all c.loop-before.before (reverse places) past in
    let told = rw (x, y) at c.loop-before.invariant in
    told ∙ ap (λ (ps : List ℕ). first_of_each (filter_map (given_at (hit_on c.args.x c.args.y) nodes) ps)) (all ∙ ap reverse c.requires)
    ∙ ap first_of_each (places-enough (hit_on c.args.x c.args.y) (no-hit c.args.x c.args.y) nodes)
