use Rattle.std.proofs.Common.{length, ℕ, ◌≡◌, Option, Some, None, refl}
use Rattle.std.proofs.lemmas.List.Elements.{All-nil}
use Rattle.flat_scene.specs.declared.setup.Setup.{Setup}
use Rattle.flat_topology.specs.Shown.{Shown}
use Rattle.flat_topology.specs.Pairs.{display_pair}
use Rattle.flat_topology.specs.Join.{join, led_from}
use Rattle.flat_topology.specs.Place.{display_rect, display_space, placed_nodes}
use Rattle.flat_topology.specs.Views.{views_in}
use Rattle.flat_topology.proofs.Parents.{HasItsParent, AllHave, children-led}
use Rattle.flat_topology.proofs.Viewing.{sessions-views, stands-all, views-connected}
use Rattle.flat_topology.proofs.views_follow_links.Goals as goal

children_from : (setup : Setup) (shown : Shown) (found : Option ℕ) → display_pair setup ≡ found
    → AllHave setup shown (views_in None (display_rect setup) (display_space setup) (led_from shown found))
children_from setup shown None is = All-nil (HasItsParent setup shown)
children_from setup shown (Some p) is = children-led setup shown (length shown) p None (display_rect setup) (display_space setup)
    (λ c view. record { pair = p; viewport = is; view = view })

pub returns-clause-sessions : goal.returns-clause-sessions
returns-clause-sessions c = λ setup shown. sessions-views None (display_rect setup) (display_space setup) (join setup shown)

pub returns-clause-parents : goal.returns-clause-parents
returns-clause-parents c = λ setup shown. children_from setup shown (display_pair setup) refl

pub returns-clause-connected : goal.returns-clause-connected
returns-clause-connected c = λ setup shown.
    views-connected (display_rect setup) (placed_nodes setup shown) 0 None None (display_rect setup) (display_space setup) (join setup shown)
    (stands-all (placed_nodes setup shown)) (λ s. refl)
