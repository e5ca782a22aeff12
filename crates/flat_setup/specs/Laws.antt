-- Laws of the definitions.
use Rattle.std.specs.Prelude.{◌≡◌, ◌↔◌, true, None, sum}
use Rattle.flat_scene.specs.Heads.{is_setup}
use Rattle.flat_setup.specs.Builders.{Plan, IsKept, shares_of}
use Rattle.flat_setup.specs.Faults.{fits, fault_of}

-- What a builder has been told is without a fault if and only if its setup is one that a script could give, and all
-- actors together make few enough entries.
abbrev pub FaultlessIsSetup : Type 0
FaultlessIsSetup = (plan : Plan) → IsKept plan
    → (fault_of plan ≡ None) ↔ ((is_setup plan.setup ≡ true) × (fits (sum (shares_of plan)) ≡ true))
