-- What the rules say of a session, in the parts that a board keeps.
use Rattle.std.specs.Prelude.{ℕ, Bool, cond, ◌&&◌, List, [], length}
use Rattle.flat_base.specs.declared.ids.SessionNo.{SessionNo}
use Rattle.flat_scene.specs.declared.journal.Entry.{Entry}
use Rattle.flat_scene.specs.declared.setup.Setup.{Setup}
use Rattle.flat_scene.specs.History.{◌▹◌, is_closed, is_session, presents, Published}
use Rattle.flat_scene.specs.Frames.{taken, waiting, going}
use Rattle.flat_states.specs.declared.state.SessionCounts.{SessionCounts}
use Rattle.flat_rules.specs.Posts.{frame_took}
use Rattle.flat_rules.specs.AllPosts.{posts}
use Rattle.flat_rules.specs.Legal.{is_poll, is_frame_open}
use Rattle.flat_facts.specs.Views.{last_view}

module _ (setup : Setup) where
  -- how many events were posted before its last poll
  abbrev pub polled_at : List Entry → SessionNo → ℕ
  polled_at [] s = 0
  polled_at (before ▹ entry) s = cond (is_session s entry.actor && is_poll entry.kind) (length (posts setup before))
      (polled_at before s)

  -- what its own entries alone decide
  abbrev pub account_of : List Entry → SessionNo → SessionCounts
  account_of history s = record {
    presents = length (presents s history);
    polled = polled_at history s;
    view = last_view s history;
  }

-- All that a board keeps of a session.
pub record Seen : Type 0 where
  pub closed : Bool
  pub taken : ℕ
  pub waiting : List Published
  pub going : List Published
  -- by the begin of the open frame
  pub took : ℕ
  pub account : SessionCounts

abbrev pub seen_of : Setup → List Entry → SessionNo → Seen
seen_of setup history s = record {
  closed = is_closed s history;
  taken = taken setup history s;
  waiting = waiting setup history s;
  going = going setup history s;
  took = cond (is_frame_open history) (frame_took setup history s) 0;
  account = account_of setup history s;
}
