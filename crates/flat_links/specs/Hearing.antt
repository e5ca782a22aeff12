-- To whom the end of a frame tells something anew.
use Rattle.std.specs.Prelude.{◌≡◌, ◌<◌, ◌≤◌, ℕ, ◌-◌, Bool, true, false, nat_le, List, length, map, Option, Some, None}
use Rattle.std.specs.Prelude.{slice_index_or}
use Rattle.flat_base.specs.declared.ids.Actor.TheVariants.{Session}
use Rattle.flat_base.specs.declared.ids.PairNo.{PairNo}
use Rattle.flat_base.specs.declared.ids.SessionNo.{SessionNo}
use Rattle.flat_base.specs.declared.limits.TheConstants.{SESSIONS_MAX}
use Rattle.flat_scene.specs.declared.frames.SessionSet.{SessionSet}
use Rattle.flat_scene.specs.declared.journal.Entry.{Entry}
use Rattle.flat_scene.specs.declared.setup.Setup.{Setup}
use Rattle.flat_topology.specs.Members.{is_member}
use Rattle.flat_rules.specs.Ends.{view_owner, viewport_owner}
use Rattle.flat_rules.specs.Stamps.{is_seen}
use Rattle.flat_rules.specs.Watch.{Watcher, listener, told}
use Rattle.flat_links.specs.declared.session_links.SessionLinks.{SessionLinks}
use Rattle.flat_links.specs.declared.session_links.SeenAtBegin.{SeenAtBegin}
use Rattle.flat_links.specs.declared.pairs.PairState.{PairState}

-- whether a stamp is there and no later than another, or isn't there
abbrev pub is_within : Option ℕ → Option ℕ → Bool
is_within None last = true
is_within (Some stamp) None = false
is_within (Some stamp) (Some last) = nat_le stamp last

-- Two sights of a session tell the same of the ends that it owns, where it lost none after that stamp.
pub record IsAlike (losing : Option ℕ) (old new : SeenAtBegin) : Type 0 where
  pub closed : new.closed ≡ old.closed
  pub view : new.view ≡ old.view
  pub connected : new.connected ≡ old.connected
  pub taken : (stamp : Option ℕ) → is_within stamp losing ≡ true → is_seen stamp new.taken ≡ is_seen stamp old.taken

-- the same of the sights that a session's last two frames had
abbrev pub IsCalm : SessionLinks → Type 0
IsCalm one = IsAlike one.losing one.finished one.begun

-- of each session the stamp of its last entry that may have lost an end, and that of one of them
abbrev pub losings : List SessionLinks → List (Option ℕ)
losings = map (λ one. one.losing)

abbrev pub losing_of : List (Option ℕ) → SessionNo → Option ℕ
losing_of all s = slice_index_or all (s.0 - 1) None

-- The ends of a pair were lost no later than their owners may have lost one.
pub record IsBound (setup : Setup) (all : List (Option ℕ)) (p : PairNo) (state : PairState) : Type 0 where
  pub ended : (w : SessionNo) → view_owner setup p ≡ Some w → is_within state.ended (losing_of all w) ≡ true
  pub cleared : (v : SessionNo) → viewport_owner setup p ≡ Some (Session v)
      → is_within state.cleared (losing_of all v) ≡ true

-- Of each pair whose view's owner isn't in a set, what is pending is seen.
abbrev pub AreSettledBut : SessionSet → Setup → List PairState → Type 0
AreSettledBut heard setup pairs = (i : ℕ) (d : PairState) (w : SessionNo) → i < length pairs
    → view_owner setup (record { 0 = i }) ≡ Some w → 0 < w.0 → w.0 ≤ SESSIONS_MAX → is_member heard w.0 ≡ false
    → (slice_index_or pairs i d).pending ≡ (slice_index_or pairs i d).seen

-- A set has all members that another has, and the view's owner of this pair, unless what is pending of it is seen.
pub record HearsOne (setup : Setup) (p : PairNo) (pairs : List PairState) (old new : SessionSet) : Type 0 where
  pub grows : (n : ℕ) → is_member new n ≡ false → is_member old n ≡ false
  pub hears : (d : PairState) (w : SessionNo) → p.0 < length pairs → view_owner setup p ≡ Some w → 0 < w.0
      → w.0 ≤ SESSIONS_MAX → is_member new w.0 ≡ false
      → (slice_index_or pairs p.0 d).pending ≡ (slice_index_or pairs p.0 d).seen
