use Rattle.std.proofs.Common.{◌∙◌, ap, sym}
use Rattle.flat_scene.specs.declared.script.LineBody.TheVariants as body
use Rattle.flat_places.specs.Forms.{mapped}
use Rattle.flat_forms.proofs.parser.Parser.actor_line.Goals as goal

pub returns-in-Ok-probe_line : goal.returns-in-Ok-probe_line
returns-in-Ok-probe_line c =
    rw c.in-Probe.is (ap (mapped body.Probe) (sym (c.probe_line.ensures c.args.self.now.text.script.version) ∙ c.in-Ok-probe_line.is))

pub returns-in-Err-probe_line : goal.returns-in-Err-probe_line
returns-in-Err-probe_line c =
    rw c.in-Probe.is (ap (mapped body.Probe) (sym (c.probe_line.ensures c.args.self.now.text.script.version) ∙ c.in-Err-probe_line.is))
