-- Histories. A history is a list of entries, the oldest first, and each entry names its actor by the number of the
-- actor's seat.
use Rattle.std.specs.Prelude.{◌≡◌, ℕ, List, ◌++◌, ◌==◌, All}
use Rattle.std.specs.List.{filter}

module _ {E : Type 0} where
  -- the whole begins with the part
  abbrev pub StartsWith : List E → List E → Type 0
  StartsWith whole part = (rest : List E) × (whole ≡ part ++ rest)

  -- The entries of the actor of this number, in order.
  -- It is std's filter by equal numbers, and an abbrev, so that it computes to the same term as
  -- filter (λ e. eqb (seat_number e.actor) (seat_number a)) history where actor is λ e. seat_number e.actor.
  -- A crate that lies below the lock may write that, and need not cite this one.
  abbrev pub entries_of : (E → ℕ) → ℕ → List E → List E
  entries_of actor number history = filter (λ e. actor e == number) history

  -- the later history is the earlier one and new entries, each of the actor of this number
  abbrev pub GoesOn : (E → ℕ) → ℕ → List E → List E → Type 0
  GoesOn actor number earlier later = (new : List E) × (later ≡ earlier ++ new) × All (λ e. actor e ≡ number) new
