use Rattle.std.proofs.Common.{◌≡◌, ◌∙◌, ap, refl, sym, not, ℕ, filter, Option, Some, rules}
use Rattle.flat_graph.specs.Names.{key_named}
use Rattle.flat_scene.specs.Effect.{is_serial}
use Rattle.flat_content.proofs.Soundness.{but-fewer, room-fewer, table-released, table-use}
use Rattle.flat_content.proofs.table.ContentTable.release_viewport.Goals as goal

pub invariant_of-self : goal.invariant_of-self
invariant_of-self c = (
  rw c.remove_name.ensures.items (table-use _ _ (table-released _ c.args.c.0 c.self.invariant.0)),
  λ e. room-fewer (c.self.invariant.1 e) (rw c.remove_name.ensures.items (but-fewer c.args.c.0 c.self.inside.names.items c.self.invariant.0.sound.rising))
      c.remove_name.ensures.capacity c.drop_use.ensures.fewer c.drop_use.ensures.capacity,
)

pub returns-clause-released : goal.returns-clause-released
returns-clause-released c =
    let named : key_named c.self.inside.names.items c.args.c.0 ≡ Some c.in_ok-serial.field-0.0 = search rules in
    let used : c.drop_use.new.viewports.items ≡ filter (λ serial. not (is_serial (key_named c.self.inside.names.items c.args.c.0) serial))
    c.self.inside.viewports.items =
    c.drop_use.ensures.items ∙ ap (λ (x : Option ℕ). filter (λ serial. not (is_serial x serial)) c.self.inside.viewports.items) (sym named) in
    rw (← c.self.view_is, c.remove_name.ensures.items, used) refl
