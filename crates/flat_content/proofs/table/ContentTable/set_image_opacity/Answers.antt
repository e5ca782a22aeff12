use Rattle.std.proofs.Common.{◌≡◌, [], ◌∷◌, Some, nat_lt, refl, rules}
use Rattle.flat_base.specs.declared.errors.Reason.TheVariants.{BadOpacity}
use Rattle.flat_base.specs.declared.limits.TheConstants.{OPACITY_MAX}
use Rattle.flat_scene.specs.Draft.{of_serial}
use Rattle.flat_graph.specs.Names.{key_named}
use Rattle.flat_content.specs.declared.stored_content.StoredContent.TheVariants.{Image}
use Rattle.flat_content.specs.Table.{TableState}
use Rattle.std.proofs.lemmas.Bool.{le-ltb, lt-ltb}
use Rattle.flat_scene.specs.Misuse.{is_image}
use Rattle.flat_content.specs.Reasons.{sort_tests}
use Rattle.flat_content.proofs.Soundness.{room-same, set-by, table-set}
use Rattle.flat_scene.proofs.lemmas.FirstReasons.{allowed_by, refused_by}
use Rattle.flat_content.proofs.Refusals.{hands_on}
use Rattle.flat_content.proofs.table.ContentTable.set_image_opacity.Goals as goal

pub invariant_of-self : goal.invariant_of-self
invariant_of-self c = (
  rw c.put.ensures.items (table-set _ c.in_ok-serial.serial _ c.self.invariant.0),
  λ e. room-same (c.self.invariant.1 e) c.put.ensures.count c.put.ensures.capacity,
)

pub returns-clause-set : goal.returns-clause-set
returns-clause-set c =
    let table : TableState = record {
      buffers = c.self.inside.buffers;
      contents = c.self.inside.contents.items;
      names = c.self.inside.names.items;
      viewports = c.self.inside.viewports.items;
      has_room = c.self.inside.has_room;
    } in
    let named : key_named table.names c.args.c.0 ≡ Some c.in_ok-serial.serial = search rules in
    let there : of_serial table.contents c.in_ok-serial.serial ≡ Some (Image c.in_ok-serial.image) = search rules in
    rw (← c.self.view_is) (set-by table c.args.c.0 c.in_ok-serial.serial (Image c.in_ok-serial.image) _ _ _ named there refl c.put.ensures.items)

pub returns-clause-allowed : goal.returns-clause-allowed
returns-clause-allowed c = allowed_by (sort_tests c.args.self.now is_image c.args.c.0) _ _ c.in_ok-serial.ensures.allowed
    (le-ltb _ _ c.if-opacity-gt-OPACITY_MAX.false)

pub returns-then-opacity-gt-OPACITY_MAX-clause-fault : goal.returns-then-opacity-gt-OPACITY_MAX-clause-fault
returns-then-opacity-gt-OPACITY_MAX-clause-fault c = refused_by (sort_tests c.args.self.now is_image c.args.c.0) _ _ c.in_ok-serial.ensures.allowed
    (lt-ltb _ _ c.if-opacity-gt-OPACITY_MAX.true)

pub returns-in_err-serial-clause-fault : goal.returns-in_err-serial-clause-fault
returns-in_err-serial-clause-fault c = hands_on c.from_residual.result (sort_tests c.args.self.now is_image c.args.c.0)
    ((nat_lt OPACITY_MAX c.args.opacity, BadOpacity) ∷ []) c.in_err-serial.field-0.0 c.from_residual.ensures.1 c.in_err-serial.ensures.fault
