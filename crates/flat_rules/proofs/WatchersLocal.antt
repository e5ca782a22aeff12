-- What is shown, who is connected, what watchers tell and what they have answered: of each session's family it is local.
use Rattle.std.proofs.Common.{◌≡◌, ◌⊎◌, inl, inr, Bool, true}
use Rattle.flat_base.specs.declared.ids.PairNo.{PairNo}
use Rattle.flat_base.specs.declared.ids.SessionNo.{SessionNo}
use Rattle.flat_scene.specs.declared.setup.Setup.{Setup}
use Rattle.flat_scene.specs.Family.{family}
use Rattle.flat_scene.specs.Laws.{IsClosedFamily}
use Rattle.flat_base.proofs.lemmas.Tests.{or-cases}
use Rattle.flat_rules.specs.Legal.{owns_view, owns_viewport}
use Rattle.flat_rules.specs.Local.{pair_watched, owns_end, ShownIsLocal, ConnectedIsLocal, RatioIsLocal, ToldIsLocal, WatchingIsLocal, AnswersAreLocal}
use Rattle.flat_rules.proofs.FramesLocal.{closed-family}
use Rattle.flat_rules.proofs.lemmas.RepliesLocal.{answers-only}
use Rattle.flat_rules.proofs.ShownLocal.{shown-only, connected-only}
use Rattle.flat_rules.proofs.ToldLocal.{IsFamilyPair, ratio-only, told-only}
use Rattle.flat_rules.proofs.lemmas.WatchLocal.{watching-only, pair-of-view, pair-of-viewport}

-- a pair of which one of the family owns an end is the family's
pub pair-of-end : (setup : Setup) (of_family : SessionNo → Bool) (closed : IsClosedFamily setup of_family) (t : SessionNo) (p : PairNo) → of_family t ≡ true
    → owns_end setup t p ≡ true
    → IsFamilyPair setup of_family closed p
pair-of-end setup of_family closed t p mine owns = by_end (or-cases (owns_view setup t p) (owns_viewport setup t p) owns)
  where
    by_end : (owns_view setup t p ≡ true) ⊎ (owns_viewport setup t p ≡ true) → IsFamilyPair setup of_family closed p
    by_end (inl under) = pair-of-view setup of_family closed p t mine under
    by_end (inr over) = pair-of-viewport setup of_family closed p t mine over

pub shown-is-local : ShownIsLocal
shown-is-local setup owners history legal s t mine = shown-only setup (family setup s) (closed-family setup owners s) history legal t mine

pub connected-is-local : ConnectedIsLocal
connected-is-local setup owners history legal s t mine = connected-only setup (family setup s) (closed-family setup owners s) history legal t mine

pub ratio-is-local : RatioIsLocal
ratio-is-local setup owners history legal s = ratio-only setup (family setup s) (closed-family setup owners s) history legal

pub told-is-local : ToldIsLocal
told-is-local setup owners history legal s t w mine owns =
    let closed = closed-family setup owners s in
    told-only setup (family setup s) closed w (pair-of-end setup (family setup s) closed t (pair_watched w) mine owns) history legal

pub watching-is-local : WatchingIsLocal
watching-is-local setup owners history legal s t w mine owns =
    let closed = closed-family setup owners s in
    watching-only setup (family setup s) closed w (pair-of-end setup (family setup s) closed t (pair_watched w) mine owns) history legal

pub answers-are-local : AnswersAreLocal
answers-are-local setup owners history legal s t mine = answers-only setup (family setup s) (closed-family setup owners s) t mine history legal
