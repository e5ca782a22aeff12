-- Each row of the reasons, computed.
use Rattle.std.proofs.Common.{refl}
use Rattle.flat_base.specs.declared.errors.Reason.TheVariants.{ZeroId, IdInUse, UnknownTransform, UnknownContent, WrongContent, AlreadyChild, NotChild}
use Rattle.flat_base.specs.declared.errors.Reason.TheVariants.{BadScale, BadOpacity, BadRect, BadSize, BadBuffer, TooManyRegions, HasView, NoView, TokenNotHeld}
use Rattle.flat_base.specs.declared.errors.Reason.TheVariants.{Cycle, TreeTooLarge, ViewportTwice, TooManyNamed, TooManyChildren, TooManyFences}
use Rattle.flat_examples.specs.Reasons.{EachReasonIsGiven}

pub each-reason-is-given : EachReasonIsGiven
each-reason-is-given ZeroId = record { refused = refl; accepted = refl }
each-reason-is-given IdInUse = record { refused = refl; accepted = refl }
each-reason-is-given UnknownTransform = record { refused = refl; accepted = refl }
each-reason-is-given UnknownContent = record { refused = refl; accepted = refl }
each-reason-is-given WrongContent = record { refused = refl; accepted = refl }
each-reason-is-given AlreadyChild = record { refused = refl; accepted = refl }
each-reason-is-given NotChild = record { refused = refl; accepted = refl }
each-reason-is-given BadScale = record { refused = refl; accepted = refl }
each-reason-is-given BadOpacity = record { refused = refl; accepted = refl }
each-reason-is-given BadRect = record { refused = refl; accepted = refl }
each-reason-is-given BadSize = record { refused = refl; accepted = refl }
each-reason-is-given BadBuffer = record { refused = refl; accepted = refl }
each-reason-is-given TooManyRegions = record { refused = refl; accepted = refl }
each-reason-is-given HasView = record { refused = refl; accepted = refl }
each-reason-is-given NoView = record { refused = refl; accepted = refl }
each-reason-is-given TokenNotHeld = record { refused = refl; accepted = refl }
each-reason-is-given Cycle = record { refused = refl; accepted = refl }
each-reason-is-given TreeTooLarge = record { refused = refl; accepted = refl }
each-reason-is-given ViewportTwice = record { refused = refl; accepted = refl }
each-reason-is-given TooManyNamed = record { refused = refl; accepted = refl }
each-reason-is-given TooManyChildren = record { refused = refl; accepted = refl }
each-reason-is-given TooManyFences = record { refused = refl; accepted = refl }
