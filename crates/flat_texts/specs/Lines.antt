-- By which lines of a script its frames were finished.
use Rattle.std.specs.Prelude.{ℕ, List, map, filter}
use Rattle.flat_scene.specs.declared.journal.Entry.{Entry}
use Rattle.flat_scene.specs.History.{is_finish}

-- the numbers of these lines, where the entries are the oldest first
abbrev pub finish_lines : List Entry → List ℕ
finish_lines entries = map (λ entry. entry.line) (filter (λ entry. is_finish entry.kind) entries)
