-- the numbers by which the report names errors and reasons
use Rattle.std.specs.Prelude.{ℕ}
use Rattle.flat_base.specs.declared.errors.Reason.{Reason}
use Rattle.flat_base.specs.declared.errors.Reason.TheVariants.{ZeroId, IdInUse, UnknownTransform, UnknownContent}
use Rattle.flat_base.specs.declared.errors.Reason.TheVariants.{WrongContent, AlreadyChild, NotChild, BadScale}
use Rattle.flat_base.specs.declared.errors.Reason.TheVariants.{BadOpacity, BadRect, BadSize, BadBuffer, TooManyRegions}
use Rattle.flat_base.specs.declared.errors.Reason.TheVariants.{HasView, NoView, TokenNotHeld, Cycle, TreeTooLarge}
use Rattle.flat_base.specs.declared.errors.Reason.TheVariants.{ViewportTwice, TooManyNamed, TooManyChildren}
use Rattle.flat_base.specs.declared.errors.Reason.TheVariants.{TooManyFences}

abbrev pub reason_number : Reason → ℕ
reason_number ZeroId = 1
reason_number IdInUse = 2
reason_number UnknownTransform = 3
reason_number UnknownContent = 4
reason_number WrongContent = 5
reason_number AlreadyChild = 6
reason_number NotChild = 7
reason_number BadScale = 8
reason_number BadOpacity = 9
reason_number BadRect = 10
reason_number BadSize = 11
reason_number BadBuffer = 12
reason_number TooManyRegions = 13
reason_number HasView = 14
reason_number NoView = 15
reason_number TokenNotHeld = 16
reason_number Cycle = 17
reason_number TreeTooLarge = 18
reason_number ViewportTwice = 19
reason_number TooManyNamed = 20
reason_number TooManyChildren = 21
reason_number TooManyFences = 22
