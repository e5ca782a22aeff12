-- What a use of a viewport end, a frame that begins with viewports, and its end do to what is kept of pairs.
use Rattle.std.specs.Prelude.{◌≡◌, ◌<◌, ℕ, ◌+◌, ◌-◌, Bool, cond, ◌&&◌, ◌==◌, List, [], ◌∷◌, length, Option, Some, None}
use Rattle.std.specs.Prelude.{slice_index_or, slice_set}
use Rattle.flat_base.specs.declared.ids.PairNo.{PairNo}
use Rattle.flat_base.specs.declared.ids.SessionNo.{SessionNo}
use Rattle.flat_scene.specs.declared.calls.Call.{Call}
use Rattle.flat_scene.specs.declared.calls.ViewportProps.{ViewportProps}
use Rattle.flat_scene.specs.declared.journal.Entry.{Entry}
use Rattle.flat_scene.specs.declared.journal.EntryKind.TheVariants.{Viewport}
use Rattle.flat_scene.specs.declared.journal.Reply.TheVariants.{Done}
use Rattle.flat_scene.specs.declared.trees.Tree.{Tree}
use Rattle.flat_scene.specs.declared.trees.ViewportUse.{ViewportUse}
use Rattle.flat_links.specs.declared.session_links.SessionLinks.{SessionLinks}
use Rattle.flat_facts.specs.declared.live_viewport.LiveViewport.{LiveViewport}
use Rattle.flat_links.specs.declared.pairs.PairState.{PairState}
use Rattle.flat_facts.specs.Clears.{clears_pair}
use Rattle.flat_links.specs.Clears.{cleared_if}
use Rattle.flat_facts.specs.Contents.{capped}
use Rattle.flat_rules.specs.Serials.{contents_made}
use Rattle.flat_links.specs.Views.{ended_by, is_ended}
use Rattle.std.specs.List.{list_any}
use Rattle.flat_facts.specs.Views.{if_unended, is_loss}
use Rattle.flat_states.specs.declared.state.SessionCounts.{SessionCounts}
use Rattle.std.specs.Option.{option_or}

-- a pair's state after a use with these properties, whose viewport has that serial
abbrev pub used_by : ℕ → ViewportProps → PairState → PairState
used_by serial props state = record state { serial = serial; given = Some props; seen = None; pending = None }

-- The states of all pairs after a use of one.
pub record UsesPair (p : PairNo) (serial : ℕ) (props : ViewportProps) (old new : List PairState) : Type 0 where
  pub count : length new ≡ length old
  pub each : (i : ℕ) (d : PairState) → i < length old
      → slice_index_or new i d ≡ cond (p.0 == i) (used_by serial props (slice_index_or old i d))
      (slice_index_or old i d)

-- the properties of the last of these viewports that is of a pair and has a serial
abbrev pub props_among : PairNo → List ViewportUse → ℕ → Option ViewportProps
props_among p [] serial = None
props_among p (one ∷ more) serial = option_or (props_among p more serial)
    (cond (one.pair.0 == p.0 && one.serial == serial) (Some one.props) None)

-- a pair's state with other properties pending
abbrev pub with_pending : PairState → Option ViewportProps → PairState
with_pending state props = record state { pending = props }

-- The state of a pair after a frame began with these viewports:
-- what is pending of the last use changes where one of them has its serial.
pub record SeesOne (p : PairNo) (uses : List ViewportUse) (old new : PairState) : Type 0 where
  pub same : new ≡ with_pending old new.pending
  pub pending : (n : ℕ) → old.serial ≡ capped n → new.pending ≡ option_or (props_among p uses n) old.pending

-- The states of all pairs after that.
pub record SeesUses (uses : List ViewportUse) (old new : List PairState) : Type 0 where
  pub count : length new ≡ length old
  pub each : (i : ℕ) (d : PairState) → i < length old
      → SeesOne (record { 0 = i }) uses (slice_index_or old i d) (slice_index_or new i d)

-- a pair's state after a frame ended: what was pending is seen
abbrev pub settled : PairState → PairState
settled state = record state { seen = state.pending }

-- The states of all pairs after that of one.
pub record SettlesOne (p : PairNo) (old new : List PairState) : Type 0 where
  pub count : length new ≡ length old
  pub each : (i : ℕ) (d : PairState) → i < length old
      → slice_index_or new i d ≡ cond (p.0 == i) (settled (slice_index_or old i d)) (slice_index_or old i d)

-- The states of all pairs after that.
pub record SettlesPairs (old new : List PairState) : Type 0 where
  pub count : length new ≡ length old
  pub each : (i : ℕ) (d : PairState) → i < length old → slice_index_or new i d ≡ settled (slice_index_or old i d)

-- the viewports in use of a tree, if there is one
abbrev pub uses_in : Option Tree → List ViewportUse
uses_in None = []
uses_in (Some tree) = tree.viewports

-- the same where they are looked at
abbrev pub uses_if : Bool → Option Tree → List ViewportUse
uses_if took tree = cond took (uses_in tree) []

-- an entry that uses the viewport end of a pair with these properties
pub record IsUse (entry : Entry) (p : PairNo) (props : ViewportProps) : Type 0 where
  pub kind : entry.kind ≡ Viewport p props
  pub reply : entry.reply ≡ Done

-- the stamp of the last entry of a session that may have lost an end, after calls before which it had made so many
-- presents
abbrev pub losing_then : List Call → ℕ → Option ℕ → Option ℕ
losing_then calls presents losing = cond (list_any is_loss calls) (Some presents) losing

-- what is kept of a session after calls before which it had made so many presents, and which leave it so many contents
abbrev pub followed_by : List Call → ℕ → ℕ → SessionLinks → SessionLinks
followed_by calls presents contents session_links =
    record session_links { contents = contents; losing = losing_then calls presents session_links.losing }

-- What is kept after calls of a session that had this account, and of which these viewports lived.
pub record NotesCalls (s : SessionNo) (calls : List Call) (account : SessionCounts) (live : List LiveViewport)
    (contents : ℕ)
    (old new : List SessionLinks) (pairs after : List PairState) : Type 0 where
  pub was : SessionLinks
  pub at : was ≡ slice_index_or old (s.0 - 1) was
  pub session : new ≡ slice_set old (s.0 - 1) (followed_by calls account.presents contents was)
  pub contents_are : (n : ℕ) → was.contents ≡ capped n → contents ≡ capped (n + length (contents_made calls))
  pub count : length after ≡ length pairs
  pub each : (i : ℕ) (d : PairState) → i < length pairs
      → slice_index_or after i d ≡ cleared_if (clears_pair (record { 0 = i }) live calls) account.presents
      (ended_by i (if_unended account.view (is_ended pairs)) calls account.presents (slice_index_or pairs i d))
