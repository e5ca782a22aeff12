-- What is kept by which pairs tell.
use Rattle.std.specs.Prelude.{◌≡◌, ℕ, Bool, nat_lt, List, length}
use Rattle.flat_base.specs.declared.ids.PairNo.{PairNo}
use Rattle.flat_scene.specs.declared.journal.Entry.{Entry}
use Rattle.flat_scene.specs.declared.setup.Setup.{Setup}
use Rattle.flat_states.specs.declared.port.DisplayPort.{DisplayPort}
use Rattle.flat_states.specs.Flags.{has_end}
use Rattle.flat_states.specs.Ports.{port_of}
use Rattle.flat_links.specs.declared.link_table.LinkTable.{LinkTable}
use Rattle.flat_links.specs.SessionLinks.{AreLinked}
use Rattle.flat_rules.specs.Ends.{view_uses}
use Rattle.flat_rules.specs.Legal.{Legal}
use Rattle.flat_rules.specs.Watch.{ratio_told}

-- What is kept by which pairs tell stands for a history.
pub record TellsPairs (kept_for : Setup) (port : DisplayPort) (links : LinkTable) (views : List Bool) (setup : Setup)
    (history : List Entry) : Type 0 where
  pub same : kept_for ≡ setup
  pub shows : port ≡ port_of (ratio_told setup history) setup
  pub legal : Legal setup history
  pub tied : AreLinked setup history links.linked_sessions.items links.pairs.items
  pub viewed : (p : PairNo) → has_end views p ≡ nat_lt 0 (length (view_uses p history))
