-- The joined tree has few sessions.
use Rattle.std.proofs.Common.{inl, inr, ℕ, ◌+◌, ◌<◌, ◌≤◌, ◌≡◌, ◌∷◌, length, Option, Some, None, refl, arith}
use Rattle.flat_scene.specs.declared.setup.Setup.{Setup}
use Rattle.flat_topology.specs.Shown.{Shown}
use Rattle.flat_topology.specs.Pairs.{display_pair}
use Rattle.flat_topology.specs.Links.{IsConnected}
use Rattle.flat_topology.specs.Fit.{FitsSetup}
use Rattle.flat_topology.specs.Join.{led_from, sessions_in, joined_sessions}
use Rattle.flat_topology.proofs.lemmas.Distinct.{In, Distinct}
use Rattle.flat_topology.proofs.Standing.{in-led, reached-connected, distinct-from}
use Rattle.flat_topology.proofs.lemmas.Whole.{few-below, connected-within}

-- who stands in the joined tree is connected
pub standing_connected : (setup : Setup) (shown : Shown) → FitsSetup setup shown → (s : ℕ) (display : Option ℕ) → display_pair setup ≡ display
    → In s (sessions_in (led_from shown display)) → IsConnected setup shown s
standing_connected setup shown fit s None is on = absurd on
standing_connected setup shown fit s (Some p) is on =
    let way = in-led setup shown fit (length shown) p s on in
    (way.0, reached-connected setup shown fit way.0 p s is way.1)

pub few_sessions : (setup : Setup) (shown : Shown) → FitsSetup setup shown → length (joined_sessions setup shown) ≤ length shown
few_sessions setup shown fit =
    let low : length (0 ∷ joined_sessions setup shown) ≤ length shown + 1 = few-below (length shown + 1) (0 ∷ joined_sessions setup shown) all_differ bound in
    omega (arith, low)
  where
    within : (s : ℕ) → In s (joined_sessions setup shown) → (0 < s) × (s ≤ length shown)
    within s on = let connected = standing_connected setup shown fit s (display_pair setup) refl on in
        connected-within setup shown fit connected.0 s connected.1

    all_differ : Distinct (0 ∷ joined_sessions setup shown)
    all_differ = (λ on. let h = within 0 on in absurd (omega (arith, h.0)), distinct-from setup shown fit (display_pair setup) refl)

    bound : (s : ℕ) → In s (0 ∷ joined_sessions setup shown) → s < length shown + 1
    bound s on = elim on [ inl first ↦ omega (arith, first) | inr later ↦ omega (arith, (within s later).1) ]
