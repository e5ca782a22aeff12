use Rattle.std.proofs.Common.{◌≡◌, drop}
use Rattle.flat_base.specs.declared.ids.ContentId.{ContentId}
use Rattle.flat_facts.specs.Clears.{is_cleared}
use Rattle.flat_facts.proofs.clears.from_first.Given as goal

-- what is left decides as all does
abbrev pub invariant-loop-i : goal.invariant-loop-i
invariant-loop-i l = (name : ContentId) → is_cleared name (drop l.i l.calls) ≡ is_cleared name l.calls
