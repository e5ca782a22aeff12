-- Lists that have an item for each session, the first for session 1.
use Rattle.std.specs.Prelude.{ℕ, ◌+◌, ◌<◌, List, length, slice_index_or}
use Rattle.flat_base.specs.declared.ids.SessionNo.{SessionNo}

-- the session at a place
abbrev pub number : ℕ → SessionNo
number i = record { 0 = i + 1 }

-- it holds of each item with its place
abbrev pub AllNumbered : {A : Type 0} → (ℕ → A → Type 0) → List A → Type 0
AllNumbered {A} P xs = (i : ℕ) (d : A) → i < length xs → P i (slice_index_or xs i d)
