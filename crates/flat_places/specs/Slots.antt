-- Where the lines of an actor are counted: first the display, then the sessions, then the probes.
use Rattle.std.specs.Prelude.{ℕ, ◌≤◌, ◌<◌, ◌+◌}
use Rattle.flat_base.specs.declared.ids.Actor.{Actor}
use Rattle.flat_base.specs.declared.ids.Actor.TheVariants.{Display, Session, Probe}
use Rattle.flat_base.specs.declared.limits.TheConstants.{PROBES_MAX, SESSIONS_MAX}

-- the place of the actor's count
abbrev pub slot : Actor → ℕ
slot Display = 0
slot (Session s) = s.0
slot (Probe p) = p + (SESSIONS_MAX + 1)

-- an actor that a script may have
abbrev pub IsCounted : Actor → Type 0
IsCounted Display = Unit {0}
IsCounted (Session s) = (0 < s.0) × (s.0 ≤ SESSIONS_MAX)
IsCounted (Probe p) = p < PROBES_MAX
