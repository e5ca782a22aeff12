-- The display's pixel ratios that a board keeps: what is told of the display, and what it asks for.
use Rattle.std.proofs.Common.{◌≡◌, ◌∙◌, ℕ, ◌≤◌, Bool, false, List, ap, arith, subst, sym}
use Rattle.std.specs.Prelude.{◌==◌, not}
use Rattle.std.proofs.lemmas.Bool.Decides.{nat_tests}
use Rattle.flat_base.specs.declared.limits.TheConstants.{RATIO_MIN}
use Rattle.flat_scene.specs.declared.journal.Entry.{Entry}
use Rattle.flat_scene.specs.declared.setup.Setup.{Setup}
use Rattle.flat_states.specs.declared.frame_clock.FrameClock.{FrameClock}
use Rattle.flat_states.specs.declared.port.DisplayPort.{DisplayPort}
use Rattle.flat_states.specs.declared.ratios.Ratios.{Ratios}
use Rattle.flat_states.specs.declared.state.SessionState.{SessionState}
use Rattle.flat_states.specs.Machines.{Stands, ratios_of}
use Rattle.flat_states.specs.Ports.{port_of}
use Rattle.flat_rules.specs.Legal.{Legal}
use Rattle.flat_rules.specs.Watch.{ratio_told}
use Rattle.flat_facts.proofs.lemmas.Ratios.{HasDisplay, told-least}

-- what is kept of them
pub ratios-kept : (setup : Setup) (h : List Entry) (clock : FrameClock) (fences views : List Bool) (sessions : List SessionState)
    → Stands setup h clock fences views sessions → clock.ratios ≡ ratios_of setup h
ratios-kept setup h clock fences views sessions stands = ap (λ (c : FrameClock). c.ratios) stands.timed

-- what is told of the display
pub port-kept : (setup : Setup) (h : List Entry) (ratios : Ratios) (port : DisplayPort) → ratios ≡ ratios_of setup h → port ≡ port_of ratios.finished setup
    → port ≡ port_of (ratio_told setup h) setup
port-kept setup h ratios port kept is = is ∙ ap (λ (r : Ratios). port_of r.finished setup) kept

-- the ratio that is told isn't too small
pub finished-least : (setup : Setup) (h : List Entry) (ratios : Ratios) → ratios ≡ ratios_of setup h → Legal setup h → HasDisplay setup
    → RATIO_MIN ≤ ratios.finished
finished-least setup h ratios kept legal display = subst (λ (r : Ratios). RATIO_MIN ≤ r.finished) (sym kept) (told-least setup h legal display)

-- a number that doesn't differ is the same
pub same-number : (m n : ℕ) → not (m == n) ≡ false → m ≡ n
same-number m n same = grind (arith, nat_tests)
