use Rattle.std.proofs.Common.{◌≡◌, true, [], sym, ap, ◌∙◌, subst}
use Rattle.flat_base.specs.declared.ids.Actor.TheVariants.{Display}
use Rattle.flat_scene.specs.declared.setup.Setup.{Setup}
use Rattle.flat_scene.specs.Interleave.{entry_of_display}
use Rattle.flat_core.specs.Machines.{Machine}
use Rattle.flat_rules.specs.Legal.{names_declared}
use Rattle.flat_stage.specs.Displays.{CompositorView, DisplayEnters, HasDisplayRoom, display_view}
use Rattle.flat_stage.specs.Seats.{Seat, StageView, setup_of}
use Rattle.flat_stage.proofs.Composing.{compositor_quiet, display_enters}
use Rattle.flat_core.proofs.lemmas.Starts.{begins-none, ends-none}
use Rattle.flat_stage.proofs.Displaying.{may_beside}
use Rattle.flat_stage.proofs.Turns.{HasTurn, has_share, goes_on, setup_is}
use Rattle.flat_stage.proofs.compositor.Compositor.enter.Goals as goal

pub turn-shared-requires-clause-own : goal.turn-shared-requires-clause-own
turn-shared-requires-clause-own g c =
    ap (λ (v : CompositorView). v.display.stage) c.self.view_is ∙ c.requires.own ∙ sym c.stage.view_is

pub enter_display-reply-requires-clause-may : goal.enter_display-reply-requires-clause-may
enter_display-reply-requires-clause-may g c =
    let seat : Seat = c.self.inside.seat in
    let turned : Seat = c.turn-shared.new.seat in
    let board : Machine = c.turn-shared.result.board in
    let turn : HasTurn seat turned board = record {
      taken = c.turn-shared.ensures.seat;
      longer = c.turn-shared.ensures.longer;
      mine = c.turn-shared.ensures.mine;
      fixed = c.turn-shared.ensures.fixed ∙ ap (λ (l : StageView). l.fixed)
          (c.stage.view_is ∙ sym (ap (λ (v : CompositorView). v.display.stage) c.self.view_is ∙ c.requires.own));
    } in
    let numbered = c.self.invariant.display.numbered in
    let R : CompositorView → Type 0 = λ v. HasDisplayRoom v.display in
    let room = subst R (sym c.self.view_is) c.requires.room in
    let M : CompositorView → Type 0 = λ v. names_declared (setup_of v.display.stage) (entry_of_display c.args.text) ≡ true in
    let N : Setup → Type 0 = λ setup. names_declared setup (entry_of_display c.args.text) ≡ true in
    may_beside board c.args.text c.requires.beside (has_share seat turned board turn Display numbered room) c.requires.acts
    (subst N (sym (setup_is seat turned board turn)) (subst M (sym c.self.view_is) c.requires.named))

pub give-requires-clause-longer : goal.give-requires-clause-longer
give-requires-clause-longer g c =
    let seat : Seat = c.self.inside.seat in
    let turned : Seat = c.turn-shared.new.seat in
    let board : Machine = c.turn-shared.result.board in
    let turn : HasTurn seat turned board = record {
      taken = c.turn-shared.ensures.seat;
      longer = c.turn-shared.ensures.longer;
      mine = c.turn-shared.ensures.mine;
      fixed = c.turn-shared.ensures.fixed ∙ ap (λ (l : StageView). l.fixed)
          (c.stage.view_is ∙ sym (ap (λ (v : CompositorView). v.display.stage) c.self.view_is ∙ c.requires.own));
    } in
    let numbered = c.self.invariant.display.numbered in
    goes_on seat turned board turn c.enter_display-reply.new.self Display c.args.number [] (entry_of_display c.args.text) c.enter_display-reply.result
    c.enter_display-reply.ensures.entry numbered

pub returns-clause-enters : goal.returns-clause-enters
returns-clause-enters g c =
    let seat : Seat = c.self.inside.seat in
    let turned : Seat = c.turn-shared.new.seat in
    let board : Machine = c.turn-shared.result.board in
    let turn : HasTurn seat turned board = record {
      taken = c.turn-shared.ensures.seat;
      longer = c.turn-shared.ensures.longer;
      mine = c.turn-shared.ensures.mine;
      fixed = c.turn-shared.ensures.fixed ∙ ap (λ (l : StageView). l.fixed)
          (c.stage.view_is ∙ sym (ap (λ (v : CompositorView). v.display.stage) c.self.view_is ∙ c.requires.own));
    } in
    let numbered = c.self.invariant.display.numbered in
    let V : CompositorView → Type 0 = λ v. DisplayEnters c.args.number (entry_of_display c.args.text) c.enter_display-reply.result v.display
    (display_view c.give.new.seat) in
    subst V c.self.view_is (display_enters seat turned board turn c.enter_display-reply.new.self c.args.number (entry_of_display c.args.text)
    c.enter_display-reply.result c.enter_display-reply.ensures.entry numbered c.give.new.seat c.journal-after.ensures.legal c.give.ensures.seat
    c.give.ensures.mine)

pub invariant_of-self : goal.invariant_of-self
invariant_of-self g c =
    let seat : Seat = c.self.inside.seat in
    let turned : Seat = c.turn-shared.new.seat in
    let board : Machine = c.turn-shared.result.board in
    let turn : HasTurn seat turned board = record {
      taken = c.turn-shared.ensures.seat;
      longer = c.turn-shared.ensures.longer;
      mine = c.turn-shared.ensures.mine;
      fixed = c.turn-shared.ensures.fixed ∙ ap (λ (l : StageView). l.fixed)
          (c.stage.view_is ∙ sym (ap (λ (v : CompositorView). v.display.stage) c.self.view_is ∙ c.requires.own));
    } in
    let numbered = c.self.invariant.display.numbered in
    compositor_quiet seat turned board turn c.enter_display-reply.new.self c.args.number (entry_of_display c.args.text) c.enter_display-reply.result
    c.enter_display-reply.ensures.entry numbered c.give.new.seat c.journal-after.ensures.legal c.give.ensures.seat c.give.ensures.mine c.self.inside.is_open
    c.self.inside.start c.journal-before.ensures.legal
    (begins-none c.args.text c.requires.beside) (ends-none c.args.text c.requires.beside) c.self.invariant
