use Rattle.std.proofs.Common.{◌≡◌, ℕ, List, length}
use Rattle.flat_scene.specs.declared.journal.Entry.{Entry}
use Rattle.flat_facts.specs.Begins.{finished}
use Rattle.flat_links.specs.SessionLinks.{AreLinked}
use Rattle.flat_links.specs.Hearing.{losings}
use Rattle.flat_rules.specs.Legal.{Legal}
use Rattle.flat_rules.specs.Numbers.{AllNumbered}
use Rattle.flat_links.proofs.LinksBegin.{FollowedUpTo}
use Rattle.flat_links.proofs.link_table.LinkTable.settle.Given as goal

abbrev pub invariant-loop-i : goal.invariant-loop-i
invariant-loop-i l = record {
  count : length l.self.linked_sessions.items ≡ l.setup.sessions;
  pairs : l.self.pairs.items ≡ l.fn.self.pairs.items;
  losing : losings l.self.linked_sessions.items ≡ losings l.fn.self.linked_sessions.items;
  followed : (h : List Entry) (line : ℕ) → Legal l.setup (finished h line) → AreLinked l.setup h l.fn.self.linked_sessions.items l.fn.self.pairs.items
      → AllNumbered (FollowedUpTo l.setup h (finished h line) l.i) l.self.linked_sessions.items;
}
