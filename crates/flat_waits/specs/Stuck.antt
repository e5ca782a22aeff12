-- Why no Wait ends that could still be met.
use Rattle.std.specs.Prelude.{ℕ, suc, ◌≡◌, ◌==◌, ⊤, Bool, true, false, List, ◌∷◌, ◌++◌, replicate}
use Rattle.std.specs.List.{All}
use Rattle.flat_waits.specs.declared.wait_tally.ActorUpdate.TheVariants as change
use Rattle.flat_waits.specs.declared.wait_tally.WaitTally.{WaitTally}
use Rattle.flat_waits.specs.Tallies.{after, is_over}

-- What an actor is doing.
pub data Doing : Type 0 where
  -- it goes through its own lines
  Acts : Doing
  -- it made an entry, and hasn't counted it yet
  Counts : Doing
  -- it waits, and read the news
  Reads : (news : ℕ) → Doing
  -- then it looked at a history of so many entries, and found too little
  Finds : (news seen : ℕ) → Doing
  -- and counted itself
  Waits : (news seen : ℕ) → Doing
  -- it enters nothing, for now or for good
  Gone : Doing

-- What an actor may do next, by the tally and the number of entries that there are, and what it makes of these.
pub data Steps : Doing → WaitTally → ℕ → Doing → WaitTally → ℕ → Type 0 where
  reads : (t : WaitTally) (n : ℕ) → Steps Acts t n (Reads t.news) t n
  reads_again : (news seen : ℕ) (t : WaitTally) (n : ℕ) → (news == t.news) ≡ false
      → Steps (Waits news seen) t n (Reads t.news) t n
  finds : (news : ℕ) (t : WaitTally) (n : ℕ) → Steps (Reads news) t n (Finds news n) t n
  is_met : (news : ℕ) (t : WaitTally) (n : ℕ) → Steps (Reads news) t n Acts t n
  notes : (news seen : ℕ) (t : WaitTally) (n : ℕ)
      → Steps (Finds news seen) t n (Waits news seen) (after (change.Waits news) t) n
  stops : (news seen : ℕ) (t : WaitTally) (n : ℕ) → Steps (Waits news seen) t n Acts (after (change.Stops news) t) n
  enters : (t : WaitTally) (n : ℕ) → Steps Acts t n Counts t (suc n)
  counts : (t : WaitTally) (n : ℕ) → Steps Counts t n Acts (after change.Enters t) n
  leaves : (t : WaitTally) (n : ℕ) → Steps Acts t n Gone (after change.Leaves t) n
  returns : (t : WaitTally) (n : ℕ) → Steps Gone t n Acts (after change.Returns t) n

-- The actors of a race, with their tally and the number of entries.
pub record Race : Type 0 where
  pub tally : WaitTally
  pub entries : ℕ
  pub actors : List Doing

-- before any entry, where all act
abbrev pub new_race : ℕ → Race
new_race count = record {
  tally = record { news = 0; waiting = 0; acting = count };
  entries = 0;
  actors = replicate count Acts;
}

-- One of the actors does what it may do next.
pub record GoesOn (old new : Race) : Type 0 where
  pub before : List Doing
  pub doing : Doing
  pub does : Doing
  pub later : List Doing
  pub old_actors : old.actors ≡ before ++ doing ∷ later
  pub new_actors : new.actors ≡ before ++ does ∷ later
  pub steps : Steps doing old.tally old.entries does new.tally new.entries

-- What a race of so many actors may come to.
pub data IsReached (count : ℕ) : Race → Type 0 where
  starts : IsReached count (new_race count)
  goes : (old new : Race) → IsReached count old → GoesOn old new → IsReached count new

-- An actor can change nothing: it enters nothing, or it found too little in all entries that there are.
abbrev pub IsStuck : ℕ → Doing → Type 0
IsStuck entries (Waits news seen) = seen ≡ entries
IsStuck entries Gone = ⊤
IsStuck entries doing = ⊥

-- Waiting is over only where no actor can change anything any more.
abbrev pub OverMeansStuck : Type 0
OverMeansStuck = (count : ℕ) (race : Race) → IsReached count race → is_over race.tally ≡ true
    → All (IsStuck race.entries) race.actors
