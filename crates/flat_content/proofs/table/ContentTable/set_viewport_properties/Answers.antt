use Rattle.std.proofs.Common.{◌≡◌, Some, ap, unwrap_or, rules}
use Rattle.flat_scene.specs.declared.calls.Inset.{Inset}
use Rattle.flat_scene.specs.Draft.{of_serial}
use Rattle.flat_graph.specs.Names.{key_named}
use Rattle.flat_content.specs.declared.stored_content.StoredContent.{StoredContent}
use Rattle.flat_content.specs.declared.stored_content.StoredContent.TheVariants.{Viewport}
use Rattle.flat_content.specs.Table.{TableState}
use Rattle.flat_content.proofs.Soundness.{room-same, set-by, table-set}
use Rattle.std.proofs.Common.{◌≡◌, [], ◌∷◌, sym, ap, ◌∙◌, ◌||◌}
use Rattle.flat_base.specs.declared.errors.Reason.TheVariants.{BadSize}
use Rattle.flat_scene.specs.Misuse.{is_viewport, is_bad_side}
use Rattle.flat_content.specs.Reasons.{sort_tests}
use Rattle.flat_scene.proofs.lemmas.FirstReasons.{allowed_by, refused_by}
use Rattle.flat_content.proofs.Refusals.{hands_on}
use Rattle.flat_content.proofs.table.ContentTable.set_viewport_properties.Goals as goal

pub invariant_of-self : goal.invariant_of-self
invariant_of-self c = (
  rw c.put.ensures.items (table-set _ c.in_ok-serial.serial _ c.self.invariant.0),
  λ e. room-same (c.self.invariant.1 e) c.put.ensures.count c.put.ensures.capacity,
)

pub returns-clause-set : goal.returns-clause-set
returns-clause-set c =
    let table : TableState = record {
      buffers = c.self.inside.buffers;
      contents = c.self.inside.contents.items;
      names = c.self.inside.names.items;
      viewports = c.self.inside.viewports.items;
      has_room = c.self.inside.has_room;
    } in
    let named : key_named table.names c.args.c.0 ≡ Some c.in_ok-serial.serial = search rules in
    let there : of_serial table.contents c.in_ok-serial.serial ≡ Some (Viewport c.in_ok-serial.pair c.in_ok-serial.props) = search rules in
    let inset : c.unwrap_or-inset.result ≡ unwrap_or c.args.inset c.in_ok-serial.props.inset = search rules in
    let same = ap (λ (i : Inset). let s : StoredContent = Viewport c.in_ok-serial.pair (record { w = c.args.w; h = c.args.h; inset = i }) in s) inset in
    rw (← c.self.view_is) (set-by table c.args.c.0 c.in_ok-serial.serial (Viewport c.in_ok-serial.pair c.in_ok-serial.props) _ _ _ named there same
    c.put.ensures.items)

pub returns-in_err-serial-clause-fault : goal.returns-in_err-serial-clause-fault
returns-in_err-serial-clause-fault c = hands_on c.from_residual.result (sort_tests c.args.self.now is_viewport c.args.c.0)
    ((is_bad_side c.args.w || is_bad_side c.args.h, BadSize) ∷ []) c.in_err-serial.field-0.0 c.from_residual.ensures.1 c.in_err-serial.ensures.fault

pub returns-then-is_bad_size-clause-fault : goal.returns-then-is_bad_size-clause-fault
returns-then-is_bad_size-clause-fault c = refused_by (sort_tests c.args.self.now is_viewport c.args.c.0) _ _ c.in_ok-serial.ensures.allowed
    (sym c.is_bad_size.ensures ∙ c.if-is_bad_size.true)

pub returns-clause-allowed : goal.returns-clause-allowed
returns-clause-allowed c = allowed_by (sort_tests c.args.self.now is_viewport c.args.c.0) _ _ c.in_ok-serial.ensures.allowed
    (sym c.is_bad_size.ensures ∙ c.if-is_bad_size.false)
