-- Legality is a fact: it has one proof at most.
use Rattle.std.specs.Prelude.{List, []}
use Rattle.std.specs.Coded.{×_prop, Unit-prop}
use Rattle.std.proofs.Props.{props}
use Rattle.flat_scene.specs.declared.journal.Entry.{Entry}
use Rattle.flat_scene.specs.declared.setup.Setup.{Setup}
use Rattle.flat_scene.specs.History.{◌▹◌}
use Rattle.flat_rules.specs.Legal.{Legal, LegalEntry}

pub LegalEntry-prop : (setup : Setup) (before : List Entry) (entry : Entry) → IsProp (LegalEntry setup before entry)
LegalEntry-prop setup before entry = hlevel props

pub Legal-prop : (setup : Setup) (history : List Entry) → IsProp (Legal setup history)
Legal-prop setup [] = Unit-prop
Legal-prop setup (before ▹ entry) = ×_prop (Legal-prop setup before) (LegalEntry-prop setup before entry)
