use Rattle.std.proofs.Common.{◌≡◌, ◌+◌, true, IfOk, sym, ap, ◌∙◌, subst}
use Rattle.flat_scene.specs.Setups.{is_declared}
use Rattle.flat_scene.specs.Heads.{is_setup}
use Rattle.flat_lock.specs.Seats.{new_seat}
use Rattle.flat_stage.specs.Homes.{fresh_view}
use Rattle.flat_stage.specs.Seats.{Seat, SessionView, StageView, setup_of}
use Rattle.flat_stage.proofs.AtHome.{declared_next, taken_new}
use Rattle.flat_stage.proofs.seats.next_session.Goals as goal

pub new_session-requires-clause-setup : goal.new_session-requires-clause-setup
new_session-requires-clause-setup c =
    let stage : StageView = c.args.seats.now.lock in
    let taken = taken_new stage c.args.seats.now.seats (c.args.before + 1) c.in-Some.seat c.requires.fresh (sym c.in-Some.is ∙ c.take.ensures.seat) in
    let S : StageView → Type 0 = λ l. is_setup (setup_of l) ≡ true in
    subst S (sym (ap (λ (s : Seat). s.lock) taken)) c.requires.setup

pub new_session-requires-clause-fresh : goal.new_session-requires-clause-fresh
new_session-requires-clause-fresh c =
    let stage : StageView = c.args.seats.now.lock in
    let taken = taken_new stage c.args.seats.now.seats (c.args.before + 1) c.in-Some.seat c.requires.fresh (sym c.in-Some.is ∙ c.take.ensures.seat) in
    taken ∙ ap (λ (l : StageView). new_seat l (c.args.before + 1)) (sym (ap (λ (s : Seat). s.lock) taken))

pub new_session-requires-clause-declared : goal.new_session-requires-clause-declared
new_session-requires-clause-declared c =
    let stage : StageView = c.args.seats.now.lock in
    let taken = taken_new stage c.args.seats.now.seats (c.args.before + 1) c.in-Some.seat c.requires.fresh (sym c.in-Some.is ∙ c.take.ensures.seat) in
    let D : StageView → Type 0 = λ l. is_declared (setup_of l) (record { 0 = c.args.before + 1 }) ≡ true in
    subst D (sym (ap (λ (s : Seat). s.lock) taken)) (declared_next (setup_of stage) c.args.before c.requires.next)

pub new_session-requires-clause-buffers : goal.new_session-requires-clause-buffers
new_session-requires-clause-buffers c =
    let stage : StageView = c.args.seats.now.lock in
    let taken = taken_new stage c.args.seats.now.seats (c.args.before + 1) c.in-Some.seat c.requires.fresh (sym c.in-Some.is ∙ c.take.ensures.seat) in
    c.requires.buffers ∙ ap (λ (l : StageView). (setup_of l).buffers) (sym (ap (λ (s : Seat). s.lock) taken))

pub returns-clause-home : goal.returns-clause-home
returns-clause-home c =
    let stage : StageView = c.args.seats.now.lock in
    let taken = taken_new stage c.args.seats.now.seats (c.args.before + 1) c.in-Some.seat c.requires.fresh (sym c.in-Some.is ∙ c.take.ensures.seat) in
    let F : StageView → Type 0 = λ l. IfOk c.new_session.result (λ (made : SessionView). made ≡ fresh_view l (record { 0 = c.args.before + 1 })) in
    subst F (ap (λ (s : Seat). s.lock) taken) c.new_session.ensures
