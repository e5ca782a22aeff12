use Rattle.std.proofs.Common.{◌∙◌, ap, sym}
use Rattle.flat_scene.specs.declared.script.LineBody.TheVariants as body
use Rattle.flat_places.specs.Forms.{mapped}
use Rattle.flat_forms.proofs.ahead.body_ahead.Goals as goal

pub returns-in-Ok : goal.returns-in-Ok
returns-in-Ok c = rw c.in-Session.is (λ lines. ap (mapped body.Session) c.in-Ok.ensures)

pub returns-in-Ok-probe_line : goal.returns-in-Ok-probe_line
returns-in-Ok-probe_line c =
    rw c.in-Probe.is (λ lines. ap (mapped body.Probe) (sym (c.probe_line.ensures c.args.script.now.script.version) ∙ c.in-Ok-probe_line.is))
