use Rattle.std.proofs.Common.{◌≡◌, ◌+◌, ◌∷◌, map, take}
use Rattle.flat_setup.specs.declared.fault.TheConstants.{DISPLAY_OWES, SESSION_OWES}
use Rattle.flat_setup.proofs.builder.shares_of.Given as goal

abbrev pub invariant-loop-entries : goal.invariant-loop-entries
invariant-loop-entries l = l.shares ≡ (l.display + DISPLAY_OWES) ∷ map (λ entries. entries + SESSION_OWES) (take l.entries-index l.sessions)
