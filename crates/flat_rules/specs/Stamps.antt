-- Which presents have seen what a session's calls did: those made after it.
use Rattle.std.specs.Prelude.{◌≡◌, ℕ, ◌≤◌, Bool, false, cond, nat_lt, nat_le, List, [], length, Option, Some, None, Ok}
use Rattle.std.specs.Prelude.{option_map, unwrap_or}
use Rattle.flat_base.specs.declared.ids.SessionNo.{SessionNo}
use Rattle.flat_scene.specs.declared.calls.Call.{Call}
use Rattle.flat_scene.specs.declared.journal.Entry.{Entry}
use Rattle.flat_scene.specs.declared.setup.Setup.{Setup}
use Rattle.flat_scene.specs.Draft.{Draft, of_serial, empty_draft}
use Rattle.flat_scene.specs.History.{◌▹◌, calls, presents, is_closed}
use Rattle.flat_rules.specs.Ends.{times}
use Rattle.std.specs.Option.{option_or}

-- the stamp of a test of a session's calls: how many presents it had made at the entry with which the test first held
abbrev pub first_at : (List Call → Bool) → SessionNo → List Entry → Option ℕ
first_at test s [] = None
first_at test s (before ▹ entry) =
    option_or (first_at test s before) (cond (test (calls s (before ▹ entry))) (Some (length (presents s before))) None)

-- whether the first n presents have seen what has that stamp
abbrev pub is_seen : Option ℕ → ℕ → Bool
is_seen None n = false
is_seen (Some stamp) n = nat_lt stamp n

-- the calls up to the n-th present of a session; none for number 0
abbrev pub made_by : SessionNo → List Entry → ℕ → List Call
made_by s history n = unwrap_or (option_map (λ present. present.made) (of_serial (presents s history) n)) []

-- A stamp tells of each present of a session whether the calls up to it pass a test.
-- While the session is open it is the stamp of that test.
pub record IsStamp (test : List Call → Bool) (s : SessionNo) (history : List Entry) (stamp : Option ℕ) : Type 0 where
  pub tells : (n : ℕ) → n ≤ length (presents s history) → test (made_by s history n) ≡ is_seen stamp n
  pub opened : is_closed s history ≡ false → stamp ≡ first_at test s history

-- a stamp after an entry of the session, which made so many presents before:
-- it is set where the entry does it, and it wasn't set
abbrev pub stamp_then : Option ℕ → Bool → ℕ → Option ℕ
stamp_then stamp does_it presents = option_or stamp (cond does_it (Some presents) None)

-- whether such a thing happens that often at calls
abbrev pub happens_often : Setup → (Draft → Call → Bool) → ℕ → List Call → Bool
happens_often setup test n calls = nat_le n (times setup test (Ok empty_draft) calls)
