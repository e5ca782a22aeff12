-- No entry without a glimpse of a session posts it an event of its own.
use Rattle.std.proofs.Common.{List, []}
use Rattle.flat_base.specs.declared.ids.SessionNo.{SessionNo}
use Rattle.flat_scene.specs.declared.journal.Entry.{Entry}
use Rattle.flat_scene.specs.declared.setup.Setup.{Setup}
use Rattle.flat_scene.specs.History.{◌▹◌}
use Rattle.flat_rules.specs.Local.{OthersPostNone}
use Rattle.flat_core.specs.Journals.{IsQuietBeside}

pub quiet-beside : OthersPostNone → (setup : Setup) (s : SessionNo) (history : List Entry) → IsQuietBeside setup s history
quiet-beside others setup s [] = tt
quiet-beside others setup s (before ▹ entry) = (quiet-beside others setup s before, others setup s before entry)
