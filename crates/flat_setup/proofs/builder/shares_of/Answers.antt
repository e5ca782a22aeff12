use Rattle.std.proofs.Common.{ℕ, ◌+◌, ◌<◌, length, arith}
use Rattle.flat_setup.specs.declared.fault.TheConstants.{SESSION_OWES}
use Rattle.flat_setup.proofs.Keeping.{share-below}
use Rattle.flat_setup.proofs.builder.shares_of.Goals as goal

pub overflow_add-entries : goal.overflow_add-entries
overflow_add-entries c =
    let share : ℕ → ℕ = λ entries. entries + SESSION_OWES in
    let within : c.loop-entries.entries-index < length c.args.sessions.now = omega arith in
    let below = share-below share c.args.sessions.now c.loop-entries.entries-index within in
    omega (arith, below)
