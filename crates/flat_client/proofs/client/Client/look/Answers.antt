use Rattle.std.proofs.Common.{◌≡◌, true, ap, ◌∙◌, sym, subst}
use Rattle.flat_base.specs.declared.ids.SessionNo.{SessionNo}
use Rattle.flat_scene.specs.Setups.{is_declared}
use Rattle.flat_rules.specs.Owned.{is_played_condition}
use Rattle.flat_stage.specs.Seats.{setup_of}
use Rattle.flat_client.specs.Clients.{ClientView, setup_for}
use Rattle.flat_client.proofs.Settling.{may_look}
use Rattle.flat_client.proofs.client.Client.look.Goals as goal

pub look-requires-clause-may : goal.look-requires-clause-may
look-requires-clause-may g c =
    let seat = c.self.inside.seat in
    let own : is_played_condition (setup_of seat.stage) seat.session c.args.c ≡ true =
    ap (λ (v : ClientView). is_played_condition (setup_for v) v.seat.session c.args.c) c.self.view_is ∙ c.requires in
    let declared : is_declared (setup_of seat.stage) seat.session ≡ true =
    sym (ap (λ (s : SessionNo). is_declared (setup_of seat.stage) s) c.session.ensures.session) ∙ c.session.ensures.declared in
    may_look (setup_of seat.stage) seat.session c.args.c own declared
