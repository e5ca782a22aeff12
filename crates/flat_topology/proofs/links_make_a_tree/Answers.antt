use Rattle.std.proofs.Common.{ℕ, ◌*◌, ◌<◌, ◌≤◌, ◌≡◌, true, length, Option, Some, None, refl, sym, arith}
use Rattle.flat_base.specs.declared.limits.TheConstants.{TREE_NODES_MAX}
use Rattle.flat_scene.specs.declared.setup.Setup.{Setup}
use Rattle.flat_topology.specs.Shown.{Shown}
use Rattle.flat_topology.specs.Pairs.{display_pair}
use Rattle.flat_topology.specs.Links.{IsConnected}
use Rattle.flat_topology.specs.Fit.{FitsSetup}
use Rattle.flat_topology.specs.Join.{join, led_from, joined_sessions, is_joined}
use Rattle.flat_topology.specs.Place.{display_space, placed_in, placed_nodes}
use Rattle.flat_topology.specs.Connected.{joined_count}
use Rattle.flat_topology.proofs.lemmas.Distinct.{In, pairs-distinct}
use Rattle.flat_topology.proofs.FewSessions.{standing_connected, few_sessions}
use Rattle.flat_topology.proofs.lemmas.Distances.{no-cycle}
use Rattle.flat_topology.proofs.Standing.{distinct-from, connected-reached, led-in}
use Rattle.flat_topology.proofs.lemmas.Whole.{found-in, in-found, distance-low, led-whole}
use Rattle.flat_topology.proofs.Few.{few-joined}
use Rattle.flat_topology.specs.Laws.{HasLowOpacity}
use Rattle.flat_topology.proofs.Opacities.{AllLow, low-led}
use Rattle.std.proofs.lemmas.List.Elements.{All-nil}
use Rattle.flat_topology.proofs.Viewing.{length-placed}
use Rattle.flat_topology.proofs.Parents.{connected-in-both}
use Rattle.flat_topology.proofs.links_make_a_tree.Goals as goal
use Rattle.std.specs.Cmp.{both_ways}

-- ---- the joined tree has the connected sessions

joined_connected : (setup : Setup) (shown : Shown) → FitsSetup setup shown → (s : ℕ) → is_joined setup shown s ≡ true → IsConnected setup shown s
joined_connected setup shown fit s joined = standing_connected setup shown fit s (display_pair setup) refl (found-in s (joined_sessions setup shown) joined)

connected_joined : (setup : Setup) (shown : Shown) → FitsSetup setup shown → (s : ℕ) → IsConnected setup shown s → is_joined setup shown s ≡ true
connected_joined setup shown fit s connected =
    let way = connected-reached setup shown fit connected.0 s connected.1 in
    let low : connected.0 < length shown = distance-low setup shown fit connected.0 s connected.1 in
    let stands : In s (joined_sessions setup shown) = rw way.1 (led-in setup shown fit (length shown) connected.0 way.0 s way.2 low) in
    in-found s (joined_sessions setup shown) stands

pub returns-clause-connected : goal.returns-clause-connected
returns-clause-connected c = λ setup shown fit s. (joined_connected setup shown fit s, connected_joined setup shown fit s)

pub returns-clause-once : goal.returns-clause-once
returns-clause-once c = λ setup shown fit. pairs-distinct (joined_sessions setup shown) (distinct-from setup shown fit (display_pair setup) refl)

pub returns-clause-acyclic : goal.returns-clause-acyclic
returns-clause-acyclic c = λ setup shown fit s between connected. no-cycle setup shown fit s between connected.0 connected.1

pub returns-clause-whole : goal.returns-clause-whole
returns-clause-whole c = λ setup shown fit. led-whole setup shown fit

-- ---- it has few nodes

pub returns-clause-few : goal.returns-clause-few
returns-clause-few c = λ setup shown fit.
    let sessions : length (joined_sessions setup shown) ≤ length shown = few_sessions setup shown fit in
    let nodes : joined_count (join setup shown) ≤ length (joined_sessions setup shown) * TREE_NODES_MAX = few-joined setup shown fit (display_pair setup) in
    let placed : length (placed_nodes setup shown) ≡ joined_count (join setup shown) = length-placed (display_space setup) (join setup shown) in
    omega (arith, sessions, nodes, placed)

-- ---- opacities

low_from : (setup : Setup) (shown : Shown) → FitsSetup setup shown → (found : Option ℕ)
    → AllLow (placed_in (display_space setup) (led_from shown found))
low_from setup shown fit None = All-nil HasLowOpacity
low_from setup shown fit (Some p) = low-led setup shown fit (length shown) p (display_space setup) (omega arith)

pub returns-clause-low : goal.returns-clause-low
returns-clause-low c = λ setup shown fit. low_from setup shown fit (display_pair setup)

-- ---- a group with all parents decides

pub returns-clause-decided : goal.returns-clause-decided
returns-clause-decided c = λ setup shown other fit fit' group parents agree s is.
    both_ways (is_joined setup shown s) (is_joined setup other s)
    (λ joined.
    let connected = joined_connected setup shown fit s joined in
    connected_joined setup other fit' s (connected.0, connected-in-both setup shown other fit group parents agree connected.0 s is connected.1))
    (λ joined.
    let connected = joined_connected setup other fit' s joined in
    connected_joined setup shown fit s (
      connected.0,
      connected-in-both setup other shown fit' group parents (λ t in_group. sym (agree t in_group)) connected.0 s
          is connected.1,
    ))
