-- counts of calls, faults and stalls: they never fall, and stand still at the end of their type
use Rattle.std.specs.Prelude.{ℕ, Bool, ◌-◌, ◌^◌, ◌||◌, nat_lt, nat_le}

-- where a count stands still
abbrev pub count_end : ℕ
count_end = 2 ^ 64 - 1

-- whether a count rose; one that stands at its end may have risen unseen, and counts as risen
abbrev pub has_risen : ℕ → ℕ → Bool
has_risen old new = nat_lt old new || nat_le count_end new
