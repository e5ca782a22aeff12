-- The invariants of the public types.
use Rattle.std.specs.Prelude.{◌≡◌, ◌≤◌, Some, IfSome, length, drop}
use mathlib.Core.List.{IsPrefix}
use Rattle.left_right.specs.Sides.{view}
use Rattle.flat_publish.specs.declared.probe.Probe.TheInside as probe
use Rattle.flat_publish.specs.declared.published.Published.TheInside as published
use Rattle.flat_publish.specs.Frames.{last_number, IsRising}
use Rattle.flat_publish.specs.Book.{head_of}
use Rattle.flat_publish.specs.State.{Publishing}

-- what is kept is of the copies that the reader reads
abbrev pub IsProbe : probe.Inside → Type 0
IsProbe p = IfSome p.reader (λ r. view r.place ≡ Some p.kept.home)

pub record IsPublishing (p : published.Inside) : Type 0 where
  pub head : p.head ≡ head_of p.newest.book
  pub home : p.writer.desk.shown.value.home ≡ p.newest.book
  pub known : view p.writer.desk.place ≡ Some p.newest.book
  pub begins : IsPrefix p.writer.desk.shown.value.frames p.newest.log
  pub added_last : p.added_last ≡ last_number p.newest.log
  pub given : p.added_last ≤ p.given
  pub rising : IsRising p.newest.log

abbrev pub publishing : published.Inside → Publishing
publishing p = record {
  home = p.newest.book;
  frames = p.writer.desk.shown.value.frames;
  refused = drop (length p.writer.desk.shown.value.frames) p.newest.log;
  given = p.given;
}
