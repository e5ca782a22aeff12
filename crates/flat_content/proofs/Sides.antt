-- The collections of a setup have sides within the limit.
use Rattle.std.proofs.Common.{◌≡◌, refl, true, List, [], ◌∷◌}
use Rattle.std.specs.Prelude.{◌&&◌, nat_lt, nat_le}
use Rattle.std.specs.List.{list_all}
use Rattle.flat_base.specs.declared.limits.TheConstants.{SIDE_MAX, BUFFERS_PER_COLLECTION_MAX}
use Rattle.flat_scene.specs.declared.setup.BufferDecl.{BufferDecl}
use Rattle.flat_scene.specs.declared.setup.Setup.{Setup}
use Rattle.flat_scene.specs.Setups.{is_declared, is_within}
use Rattle.flat_scene.specs.Heads.{is_buffer_declared, is_fence_declared, is_pair_declared, is_within_limits, has_one_display_pair, owners_declared}
use Rattle.flat_content.specs.Limits.{are_sides, SidesAreDeclared}
use Rattle.std.proofs.lemmas.Bool.{and_from, and_parts}

each-side : (setup : Setup) (b : BufferDecl) → is_buffer_declared setup b ≡ true → are_sides b ≡ true
each-side setup b e =
    let h = (and_parts (is_declared setup b.owner && is_within BUFFERS_PER_COLLECTION_MAX b.count && is_within SIDE_MAX b.w) (is_within SIDE_MAX b.h) e).1 in
    let w = (and_parts (is_declared setup b.owner && is_within BUFFERS_PER_COLLECTION_MAX b.count) (is_within SIDE_MAX b.w)
    (and_parts (is_declared setup b.owner && is_within BUFFERS_PER_COLLECTION_MAX b.count && is_within SIDE_MAX b.w) (is_within SIDE_MAX b.h) e).0).1 in
    and_from (nat_le b.w SIDE_MAX) (nat_le b.h SIDE_MAX) (and_parts (nat_lt 0 b.w) (nat_le b.w SIDE_MAX) w).1
    (and_parts (nat_lt 0 b.h) (nat_le b.h SIDE_MAX) h).1

all-sides : (setup : Setup) (buffers : List BufferDecl) → list_all (is_buffer_declared setup) buffers ≡ true → list_all are_sides buffers ≡ true
all-sides setup [] e = refl
all-sides setup (b ∷ bs) e =
    and_from (are_sides b) (list_all are_sides bs) (each-side setup b (and_parts (is_buffer_declared setup b) (list_all (is_buffer_declared setup) bs) e).0)
    (all-sides setup bs (and_parts (is_buffer_declared setup b) (list_all (is_buffer_declared setup) bs) e).1)

pub sides_are_declared : SidesAreDeclared
sides_are_declared setup e =
    let limits_owners = (and_parts (is_within_limits setup && owners_declared setup) (has_one_display_pair setup) e).0 in
    let owners = (and_parts (is_within_limits setup) (owners_declared setup) limits_owners).1 in
    let pairs_buffers = (and_parts (list_all (is_pair_declared setup) setup.pairs && list_all (is_buffer_declared setup) setup.buffers)
    (list_all (is_fence_declared setup) setup.fences) owners).0 in
    all-sides setup setup.buffers (and_parts (list_all (is_pair_declared setup) setup.pairs) (list_all (is_buffer_declared setup) setup.buffers)
    pairs_buffers).1
