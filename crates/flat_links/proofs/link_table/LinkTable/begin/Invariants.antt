use Rattle.std.proofs.Common.{◌≡◌, ℕ, ◌+◌, List, None, length, slice_index_or}
use Rattle.std.specs.Prelude.{is_some}
use Rattle.flat_scene.specs.declared.journal.Entry.{Entry}
use Rattle.flat_facts.specs.Begins.{begun}
use Rattle.flat_links.specs.SessionLinks.{AreLinked, IsBegun}
use Rattle.flat_facts.specs.Pairs.{pair}
use Rattle.flat_links.specs.Hearing.{IsBound, losings}
use Rattle.flat_rules.specs.Numbers.{AllNumbered}
use Rattle.flat_links.proofs.LinksBegin.{FollowedUpTo}
use Rattle.flat_links.proofs.LinksSees.{PairUpTo}
use Rattle.flat_topology.specs.Join.{is_joined}
use Rattle.flat_links.proofs.link_table.LinkTable.begin.Given as goal

abbrev pub invariant-loop-i : goal.invariant-loop-i
invariant-loop-i l = record {
  count : length l.self.linked_sessions.items ≡ l.setup.sessions;
  many : length l.self.pairs.items ≡ length l.fn.self.pairs.items;
  followed : (h : List Entry) (line time : ℕ) → IsBegun l.setup h line time l.sessions l.shown
      → AreLinked l.setup h l.fn.self.linked_sessions.items l.fn.self.pairs.items
      → AllNumbered (FollowedUpTo l.setup h (begun h line time) l.i) l.self.linked_sessions.items;
  losing : losings l.self.linked_sessions.items ≡ losings l.fn.self.linked_sessions.items;
  bound : (h : List Entry) → AreLinked l.setup h l.fn.self.linked_sessions.items l.fn.self.pairs.items
      → AllNumbered (λ j. IsBound l.setup (losings l.fn.self.linked_sessions.items) (pair j)) l.self.pairs.items;
  connected : (i : ℕ) → is_some (slice_index_or l.self.linked_sessions.distances i None) ≡ is_joined l.setup l.shown (i + 1);
  each : (h : List Entry) (line time : ℕ) → IsBegun l.setup h line time l.sessions l.shown
      → AreLinked l.setup h l.fn.self.linked_sessions.items l.fn.self.pairs.items
      → AllNumbered (λ j. PairUpTo l.setup h (begun h line time) l.i (pair j)) l.self.pairs.items;
}
