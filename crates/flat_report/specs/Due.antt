-- What a frame takes at its begin: each present that is due.
use Rattle.std.specs.Prelude.{◌≡◌, ⊤, ℕ, ◌+◌, ◌<◌, false, true, List, [], ◌∷◌, ◌++◌, length}
use Rattle.std.specs.List.{list_all, list_any}
use Rattle.flat_base.specs.declared.ids.SessionNo.{SessionNo}
use Rattle.flat_scene.specs.declared.journal.Entry.{Entry}
use Rattle.flat_scene.specs.declared.journal.EntryKind.TheVariants.{Begin}
use Rattle.flat_scene.specs.declared.setup.Setup.{Setup}
use Rattle.flat_scene.specs.Frames.{is_ready, is_signalled, is_unsquashable, taken, waiting}
use Rattle.flat_scene.specs.History.{◌▹◌, is_closed, Published}

-- A present of an open session is due at a time: it waits, it and those that wait before it are ready by
-- then, and none of those has to be shown by the frame that takes it.
pub record IsDue (setup : Setup) (before : List Entry) (time : ℕ) (s : SessionNo) (earlier : List Published)
    (present : Published) : Type 0 where
  pub is_open : is_closed s before ≡ false
  pub later : List Published
  pub waits : waiting setup before s ≡ earlier ++ present ∷ later
  pub ready : list_all (λ p. is_ready time (is_signalled setup before) p.args) (earlier ++ present ∷ []) ≡ true
  pub squashable : list_any is_unsquashable earlier ≡ false

-- each begin of a history takes more presents of a session than wait before one that is due then, so that one too
abbrev pub TakesDue : Setup → List Entry → Type 0
TakesDue setup [] = ⊤
TakesDue setup (before ▹ entry) =
    TakesDue setup before
    × ((time : ℕ) (s : SessionNo) (earlier : List Published) (present : Published)
    → entry.kind ≡ Begin time → IsDue setup before time s earlier present
    → taken setup before s + length earlier < taken setup (before ▹ entry) s)
