-- what the sources and sinks over memory keep
use Rattle.std.specs.Prelude.{ℕ, Bool, true, false, ◌-◌, ◌==◌, ◌&&◌, List, ◌++◌, Option, None, Some, cond, length}
use Rattle.std.specs.Prelude.{nat_le, ◌+◌, nat_lt}
use Rattle.std.specs.List.{list_any}
use Rattle.flat_io.specs.Counts.{count_end}

-- one more, but for a count at its end
abbrev pub counted : ℕ → ℕ
counted n = cond (nat_lt n count_end) (n + 1) n

-- the bytes that a sink took, the room that is left, and whether it tells them still
pub record KeptBytes : Type 0 where
  pub bytes : List ℕ
  pub room : ℕ
  pub is_told : Bool

-- A piece that fits is kept. One that doesn't is dropped, as is all that comes after it.
abbrev pub with_piece : KeptBytes → List ℕ → KeptBytes
with_piece kept piece =
    cond (kept.is_told && nat_le (length piece) kept.room)
    (record { bytes = kept.bytes ++ piece; room = kept.room - length piece; is_told = true })
    (record kept { is_told = false })

-- the bytes, where they are told
abbrev pub told_bytes : KeptBytes → Option (List ℕ)
told_bytes kept = cond kept.is_told (Some kept.bytes) None

-- after so many calls, whether the next one is among those listed by their numbers from 1
abbrev pub is_next_among : List ℕ → ℕ → Bool
is_next_among numbers calls = list_any (λ n. n == counted calls) numbers

-- the count of stalls after a write that took nothing of this piece
abbrev pub stalls_after : ℕ → List ℕ → ℕ
stalls_after stalls piece = cond (length piece == 0) stalls (counted stalls)

-- a source that fails at the listed calls
pub record FailingSource : Type 0 where
  pub left : List ℕ
  pub fail : List ℕ
  pub calls : ℕ
  pub faults : ℕ

-- a sink that fails at the listed calls, and takes nothing at others
pub record FailingSink : Type 0 where
  pub kept : KeptBytes
  pub fail : List ℕ
  pub zero : List ℕ
  pub calls : ℕ
  pub faults : ℕ
  pub stalls : ℕ

-- the sink after a write of this piece that doesn't fail
abbrev pub after_write : FailingSink → List ℕ → FailingSink
after_write sink piece =
    cond (is_next_among sink.zero sink.calls)
    (record sink { calls = counted sink.calls; stalls = stalls_after sink.stalls piece })
    (record sink { kept = with_piece sink.kept piece; calls = counted sink.calls })
