-- How many events may still be posted for the gets that wait.
use Rattle.std.specs.Prelude.{ℕ, ◌+◌, List, sum_by}
use Rattle.flat_gets.specs.declared.watching.Watchers.{Watchers}
use Rattle.flat_gets.specs.Pairs.{waiting_in}

-- all of them
abbrev pub due_told : Watchers → ℕ
due_told watchers = sum_by waiting_in watchers.pairs.items
