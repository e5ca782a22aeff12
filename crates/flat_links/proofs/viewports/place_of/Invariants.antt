use Rattle.std.proofs.Common.{◌≡◌, ◌+◌, drop}
use Rattle.flat_links.specs.Viewports.{place_of}
use Rattle.flat_links.proofs.viewports.place_of.Given as goal

-- all those before have their place before it
abbrev pub invariant-loop-one : goal.invariant-loop-one
invariant-loop-one l = record { index : l.place ≡ l.one-index; left : place_of l.p.0 (drop l.one-index l.out) + l.one-index ≡ place_of l.p.0 l.out }
