-- The viewport ends of sessions, while a frame ends.
use Rattle.std.proofs.Common.{ℕ, List}
use Rattle.flat_scene.specs.declared.journal.Entry.{Entry}
use Rattle.flat_scene.specs.declared.setup.Setup.{Setup}
use Rattle.flat_facts.specs.Begins.{finished}
use Rattle.flat_rules.specs.Numbers.{number}
use Rattle.flat_states.proofs.lemmas.DoneSteps.{UpTo}
use Rattle.flat_links.specs.Viewports.{AreViewports}
use Rattle.flat_links.specs.declared.viewports.Viewports.{Viewports}

-- of a session's viewports
abbrev pub EndsOf : Setup → List Entry → ℕ → Viewports → Type 0
EndsOf setup k j one = AreViewports setup k (number j) one.live.items one.out.items

abbrev pub EndsUpTo : Setup → List Entry → ℕ → ℕ → ℕ → Viewports → Type 0
EndsUpTo setup h line i = UpTo (EndsOf setup) h (finished h line) i
