-- Kinds of faults, and which of two counts.
use Rattle.std.specs.Prelude.{ℕ, nat_le, if◌then◌else◌}
use Rattle.flat_places.specs.declared.kinds.FaultKind.{FaultKind}
use Rattle.flat_places.specs.declared.kinds.FaultKind.TheVariants.{TooLong, NotAscii, LongLine, BadHead, UnknownActor}
use Rattle.flat_places.specs.declared.kinds.FaultKind.TheVariants.{UnknownCall, BadNumber, WrongCount, UnknownName}
use Rattle.flat_places.specs.declared.kinds.FaultKind.TheVariants.{NotOwner, Limit, BadOrder, UnknownVersion}

-- the number of a kind
abbrev pub number : FaultKind → ℕ
number TooLong = 1
number NotAscii = 2
number LongLine = 3
number BadHead = 4
number UnknownActor = 5
number UnknownCall = 6
number BadNumber = 7
number WrongCount = 8
number UnknownName = 9
number NotOwner = 10
number Limit = 11
number BadOrder = 12
number UnknownVersion = 13

-- the one of two kinds that has the lower number
abbrev pub lower_kind : FaultKind → FaultKind → FaultKind
lower_kind j k = if nat_le (number j) (number k) then j else k
