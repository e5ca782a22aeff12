use Rattle.std.proofs.Common.{◌≡◌, true, Some, sym, ap, ◌∙◌, subst, arith}
use Rattle.std.specs.Arc.{arc_value}
use Rattle.flat_client.specs.Clients.{new_client}
use Rattle.flat_shell.specs.Shells.{ShellView, client_of, is_waiting}
use Rattle.flat_shell.proofs.Shelving.{hands_then, read-at, room_for, seat_is}
use Rattle.flat_shell.proofs.shell.Shell.client.Goals as goal

pub new-requires-clause-room : goal.new-requires-clause-room
new-requires-clause-room c =
    let old : ShellView = record { stage = c.self.inside.seats.stage; home = c.self.inside.seats.seats; handed = c.self.inside.handed.items } in
    let W : ShellView → Type 0 = λ v. is_waiting v c.args.s ≡ true in
    let waits : is_waiting old c.args.s ≡ true = subst W (sym c.self.view_is) (sym c.is_waiting.ensures ∙ c.if-not-is_waiting.false) in
    let room = room_for (arc_value c.self.inside.stage) (arc_value c.self.inside.setup) c.self.inside.shares old c.self.invariant c.args.s waits in
    let at = read-at c.self.inside.shares c.args.s.0 c.at-share.result.now c.at-share.ensures in
    omega (arith, room, at)

pub invariant_of-self : goal.invariant_of-self
invariant_of-self c =
    let old : ShellView = record { stage = c.self.inside.seats.stage; home = c.self.inside.seats.seats; handed = c.self.inside.handed.items } in
    let W : ShellView → Type 0 = λ v. is_waiting v c.args.s ≡ true in
    let waits : is_waiting old c.args.s ≡ true = subst W (sym c.self.view_is) (sym c.is_waiting.ensures ∙ c.if-not-is_waiting.false) in
    hands_then (arc_value c.self.inside.stage) (arc_value c.self.inside.setup) c.self.inside.shares old c.self.invariant c.args.s waits c.take.new.self
    c.take.ensures.away

pub returns-clause-client : goal.returns-clause-client
returns-clause-client c =
    let old : ShellView = record { stage = c.self.inside.seats.stage; home = c.self.inside.seats.seats; handed = c.self.inside.handed.items } in
    let W : ShellView → Type 0 = λ v. is_waiting v c.args.s ≡ true in
    let C : ShellView → Type 0 = λ v. Some c.new.result ≡ client_of v c.args.s in
    let waits : is_waiting old c.args.s ≡ true = subst W (sym c.self.view_is) (sym c.is_waiting.ensures ∙ c.if-not-is_waiting.false) in
    let seat = seat_is (arc_value c.self.inside.stage) (arc_value c.self.inside.setup) c.self.inside.shares old c.self.invariant c.args.s waits c.in-Some.seat
    c.in-Some.ensures.seat in
    let made : Some c.new.result ≡ client_of old c.args.s = rw waits (ap Some (c.new.ensures ∙ ap new_client seat)) in
    subst C c.self.view_is made
