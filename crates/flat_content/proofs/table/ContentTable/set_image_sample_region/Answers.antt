use Rattle.std.proofs.Common.{◌≡◌, Some, refl, rules}
use Rattle.flat_scene.specs.Draft.{of_serial}
use Rattle.flat_graph.specs.Names.{key_named}
use Rattle.flat_content.specs.declared.stored_content.StoredContent.TheVariants.{Image}
use Rattle.flat_content.specs.Table.{TableState}
use Rattle.flat_content.proofs.Soundness.{room-same, set-by, table-set}
use Rattle.std.proofs.Common.{◌≡◌, [], ◌∷◌, sym, ap, ◌∙◌, Bool, ◌||◌}
use Rattle.flat_base.specs.declared.errors.Reason.TheVariants.{BadRect}
use Rattle.flat_scene.specs.Misuse.{is_image, is_bad_rect, leaves_made}
use Rattle.flat_content.specs.Reasons.{sort_tests}
use Rattle.flat_content.specs.Table.{made_named}
use Rattle.flat_scene.proofs.lemmas.FirstReasons.{allowed_by, refused_by}
use Rattle.flat_content.proofs.Refusals.{hands_on, leaves_stored}
use Rattle.flat_content.proofs.table.ContentTable.set_image_sample_region.Goals as goal

pub invariant_of-self : goal.invariant_of-self
invariant_of-self c = (
  rw c.put.ensures.items (table-set _ c.in_ok-serial.serial _ c.self.invariant.0),
  λ e. room-same (c.self.invariant.1 e) c.put.ensures.count c.put.ensures.capacity,
)

pub returns-clause-set : goal.returns-clause-set
returns-clause-set c =
    let table : TableState = record {
      buffers = c.self.inside.buffers;
      contents = c.self.inside.contents.items;
      names = c.self.inside.names.items;
      viewports = c.self.inside.viewports.items;
      has_room = c.self.inside.has_room;
    } in
    let named : key_named table.names c.args.c.0 ≡ Some c.in_ok-serial.serial = search rules in
    let there : of_serial table.contents c.in_ok-serial.serial ≡ Some (Image c.in_ok-serial.image) = search rules in
    rw (← c.self.view_is) (set-by table c.args.c.0 c.in_ok-serial.serial (Image c.in_ok-serial.image) _ _ _ named there refl c.put.ensures.items)

pub returns-in_err-serial-clause-fault : goal.returns-in_err-serial-clause-fault
returns-in_err-serial-clause-fault c = hands_on c.from_residual.result (sort_tests c.args.self.now is_image c.args.c.0)
    ((is_bad_rect c.args.rect || leaves_made c.args.rect (made_named c.args.self.now c.args.c.0), BadRect) ∷ []) c.in_err-serial.field-0.0
    c.from_residual.ensures.1 c.in_err-serial.ensures.fault

pub returns-then-is_bad_sample-clause-fault : goal.returns-then-is_bad_sample-clause-fault
returns-then-is_bad_sample-clause-fault c = refused_by (sort_tests c.args.self.now is_image c.args.c.0) _ _ c.in_ok-serial.ensures.allowed
    (ap (λ (b : Bool). is_bad_rect c.args.rect || b) (leaves_stored c.args.self.now c.args.c.0 c.in_ok-serial.serial c.in_ok-serial.image c.args.rect
    c.in_ok-serial.ensures.named c.in_ok-serial.ensures.stored) ∙ sym c.is_bad_sample.ensures ∙ c.if-is_bad_sample.true)

pub returns-clause-allowed : goal.returns-clause-allowed
returns-clause-allowed c = allowed_by (sort_tests c.args.self.now is_image c.args.c.0) _ _ c.in_ok-serial.ensures.allowed
    (ap (λ (b : Bool). is_bad_rect c.args.rect || b) (leaves_stored c.args.self.now c.args.c.0 c.in_ok-serial.serial c.in_ok-serial.image c.args.rect
    c.in_ok-serial.ensures.named c.in_ok-serial.ensures.stored) ∙ sym c.is_bad_sample.ensures ∙ c.if-is_bad_sample.false)
