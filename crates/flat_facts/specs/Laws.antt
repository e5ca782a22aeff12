-- What holds of every legal history: of tokens and viewports, of views, and of the display's pixel ratio.
use Rattle.std.specs.Prelude.{◌≡◌, ◌≤◌, ◌&&◌, Bool, true, false, not, nat_le, List, [], length, Option, Some, None}
use Rattle.flat_base.specs.declared.ids.PairNo.{PairNo}
use Rattle.flat_base.specs.declared.ids.SessionNo.{SessionNo}
use Rattle.flat_scene.specs.declared.journal.Entry.{Entry}
use Rattle.flat_scene.specs.declared.setup.Setup.{Setup}
use Rattle.flat_scene.specs.Frames.{ratio}
use Rattle.flat_scene.specs.History.{calls, is_closed}
use Rattle.flat_scene.specs.Setups.{is_declared, is_ratio}
use Rattle.flat_facts.specs.Lives.{held_of, lives_after}
use Rattle.flat_facts.specs.Views.{last_view}
use Rattle.flat_rules.specs.Ends.{has_view, is_view_lost, to_finished, viewport_uses}
use Rattle.flat_rules.specs.Legal.{Legal, has_token, owns_viewport}
use Rattle.flat_rules.specs.Posts.{releases_seen}

-- while its owner is open, the token of a viewport end is held exactly where frames that are finished have seen as
-- many releases as there were uses
abbrev pub TokensFollowReleases : Type 0
TokensFollowReleases = (setup : Setup) (history : List Entry) → Legal setup history → (s : SessionNo) (p : PairNo)
    → is_declared setup s ≡ true → owns_viewport setup s p ≡ true → is_closed s history ≡ false
    → has_token setup p history ≡ nat_le (length (viewport_uses p history))
    (releases_seen setup (to_finished history) s p)

-- and one viewport of the pair lives at most
abbrev pub OneViewportLives : Type 0
OneViewportLives = (setup : Setup) (history : List Entry) → Legal setup history → (s : SessionNo) (p : PairNo)
    → is_declared setup s ≡ true → owns_viewport setup s p ≡ true → is_closed s history ≡ false
    → held_of p (lives_after [] (calls s history)) ≤ 1

-- whether there is a view, and its end isn't lost
abbrev pub is_standing : Setup → List Entry → Option PairNo → Bool
is_standing setup history None = false
is_standing setup history (Some p) = not (is_view_lost setup history p)

-- a session has a view whose end isn't lost exactly where it is open, and the end of the last view that it made isn't
-- lost
abbrev pub LastViewStands : Type 0
LastViewStands = (setup : Setup) (history : List Entry) → Legal setup history
    → (s : SessionNo) → has_view setup history s
    ≡ (not (is_closed s history) && is_standing setup history (last_view s history))

-- the display's pixel ratio is one that a display may have, where the head gives such a one
abbrev pub RatiosAreAllowed : Type 0
RatiosAreAllowed = (setup : Setup) (history : List Entry) → Legal setup history → is_ratio setup.ratio ≡ true
    → is_ratio (ratio setup history) ≡ true
