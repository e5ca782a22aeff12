-- What comes of writing a text.
use Rattle.std.specs.Prelude.{◌≡◌, ◌≢◌, ℕ, ◌≤◌, ◌||◌, ◌==◌, List, IsTrue}
use Rattle.flat_io.specs.Told.{Appends}
use Rattle.flat_io.specs.Whole.{AppendsPrefix}
use Rattle.flat_run.specs.Promise.{either_rose}
use Rattle.flat_run.specs.Serving.{SinkState}

-- A text was to be written under a status. With that status it stands whole behind what was held; else the
-- status is 5, its first bytes stand there, and a count rose.
pub record Writes (text : List ℕ) (status : ℕ) (old new : SinkState) (result : ℕ) : Type 0 where
  pub either : IsTrue (result == status || result == 5)
  pub whole : result ≡ status → Appends text old.held new.held
  pub part : result ≡ 5 → AppendsPrefix text old.held new.held
  pub fault : result ≡ 5 → IsTrue (either_rose old.faults new.faults old.stalls new.stalls)
  pub gains : (more : List ℕ) × Appends more old.held new.held
  pub counts : (old.faults ≤ new.faults) × (old.stalls ≤ new.stalls)
  pub steady : result ≢ 5 → (new.faults ≡ old.faults) × (new.stalls ≡ old.stalls)
