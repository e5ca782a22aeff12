-- What is kept of a session's viewports: those that live, and the tokens that are out, by rising pairs.
use Rattle.std.specs.Prelude.{◌≡◌, ◌+◌, ℕ, Bool, false, cond, not, nat_lt, List, [], ◌∷◌, filter, flat_map, map, length}
use Rattle.std.specs.Prelude.{Option}
use Rattle.flat_base.specs.declared.ids.PairNo.{PairNo}
use Rattle.flat_base.specs.declared.ids.SessionNo.{SessionNo}
use Rattle.flat_scene.specs.declared.calls.Call.{Call}
use Rattle.flat_scene.specs.declared.journal.Entry.{Entry}
use Rattle.flat_scene.specs.declared.journal.Event.{Event}
use Rattle.flat_scene.specs.declared.journal.Event.TheVariants as event
use Rattle.flat_scene.specs.declared.setup.Setup.{Setup}
use Rattle.flat_scene.specs.History.{calls, is_closed}
use Rattle.flat_facts.specs.declared.live_viewport.LiveViewport.{LiveViewport}
use Rattle.flat_links.specs.declared.tokens.OutToken.{OutToken}
use Rattle.flat_rules.specs.Ends.{viewports_of, viewport_uses, releases_viewport}
use Rattle.flat_rules.specs.Legal.{has_token}
use Rattle.flat_facts.specs.Lives.{lives_after, count_of, releases_live}
use Rattle.flat_rules.specs.Shown.{is_pair}
use Rattle.flat_rules.specs.Stamps.{first_at, is_seen, happens_often, stamp_then}

-- the stamp of the release of a pair's last use
abbrev pub released_at : Setup → List Entry → SessionNo → PairNo → Option ℕ
released_at setup history s p = first_at (happens_often setup (releases_viewport p) (length (viewport_uses p history)))
    s history

-- the token of a pair, where it is out, and those of all pairs whose viewport end a session owns
abbrev pub out_of : Setup → List Entry → SessionNo → PairNo → List OutToken
out_of setup history s p = cond (has_token setup p history) []
    ((record { pair = p; released = released_at setup history s p }) ∷ [])

abbrev pub outs_of : Setup → List Entry → SessionNo → List OutToken
outs_of setup history s = flat_map (out_of setup history s) (viewports_of setup s)

-- What is kept stands for the viewports of a session, while it is open.
pub record AreViewports (setup : Setup) (history : List Entry) (s : SessionNo) (live : List LiveViewport)
    (out : List OutToken) : Type 0 where
  pub lives : is_closed s history ≡ false → live ≡ lives_after [] (calls s history)
  pub outs : is_closed s history ≡ false → out ≡ outs_of setup history s

-- a token whose viewport these calls release, where its owner made so many presents before
abbrev pub marked : List LiveViewport → List Call → ℕ → OutToken → OutToken
marked lives calls presents out = record out
    { released = stamp_then out.released (nat_lt 0 (count_of (releases_live out.pair) lives calls)) presents }

-- one token more, in its place
abbrev pub with_out : OutToken → List OutToken → List OutToken
with_out one [] = one ∷ []
with_out one (out ∷ outs) = cond (nat_lt one.pair.0 out.pair.0) (one ∷ out ∷ outs) (out ∷ with_out one outs)

-- whether the first so many presents have seen the release
abbrev pub is_back : ℕ → OutToken → Bool
is_back taken out = is_seen out.released taken

-- the tokens that come back, as events, and those that stay out
abbrev pub back_events : ℕ → List OutToken → List Event
back_events taken outs = map (λ out. event.TokenBack out.pair) (filter (is_back taken) outs)

abbrev pub still_out : ℕ → List OutToken → List OutToken
still_out taken outs = filter (λ out. not (is_back taken out)) outs

-- the token of this pair, if it is one, is marked, and no other
abbrev pub marked_by : Option PairNo → ℕ → OutToken → OutToken
marked_by pair presents out = record out { released = stamp_then out.released (is_pair pair out.pair) presents }

-- the place of a pair's token among those that are out
abbrev pub place_of : ℕ → List OutToken → ℕ
place_of p [] = 0
place_of p (out ∷ outs) = cond (nat_lt p out.pair.0) 0 (place_of p outs + 1)
