use Rattle.std.proofs.Common.{◌≡◌, true, false, [], refl, sym, ap, ◌∙◌, subst}
use Rattle.flat_base.specs.declared.ids.Actor.TheVariants.{Display}
use Rattle.flat_scene.specs.declared.journal.EntryKind.TheVariants.{Finish}
use Rattle.flat_scene.specs.declared.journal.Reply.TheVariants.{Done}
use Rattle.flat_core.specs.Machines.{Machine}
use Rattle.flat_rules.specs.Legal.{is_frame_open, frames}
use Rattle.flat_stage.specs.Displays.{CompositorView, DisplayEnters, HasDisplayRoom, display_view}
use Rattle.flat_stage.specs.Seats.{Seat, StageView}
use Rattle.flat_stage.proofs.Composing.{open_now, start_now, start_quiet, display_enters, compositor_after, then}
use Rattle.flat_stage.proofs.Displaying.{may_display}
use Rattle.flat_stage.proofs.Turns.{HasTurn, has_share, goes_on}
use Rattle.flat_stage.proofs.compositor.Compositor.done.Goals as goal

pub turn-shared-requires-clause-own : goal.turn-shared-requires-clause-own
turn-shared-requires-clause-own g c =
    ap (λ (v : CompositorView). v.display.stage) c.self.view_is ∙ c.requires.own ∙ sym c.stage.view_is

pub done-frame-requires : goal.done-frame-requires
done-frame-requires g c =
    let seat : Seat = c.self.inside.seat in
    let turned : Seat = c.turn-shared.new.seat in
    let board : Machine = c.turn-shared.result.board in
    let turn : HasTurn seat turned board = record {
      taken = c.turn-shared.ensures.seat;
      longer = c.turn-shared.ensures.longer;
      mine = c.turn-shared.ensures.mine;
      fixed = c.turn-shared.ensures.fixed ∙ ap (λ (l : StageView). l.fixed)
          (c.stage.view_is ∙ sym (ap (λ (v : CompositorView). v.display.stage) c.self.view_is ∙ c.requires.own));
    } in
    let numbered = c.self.invariant.display.numbered in
    let is = c.self.invariant in
    let legal = c.journal-before.ensures.legal in
    let is_open = c.self.inside.is_open in
    let start = c.self.inside.start in
    let opened : is_open ≡ true = ap (λ (v : CompositorView). v.is_open) c.self.view_is ∙ c.requires.open in
    let R : CompositorView → Type 0 = λ v. HasDisplayRoom v.display in
    let room = subst R (sym c.self.view_is) c.requires.room in
    may_display board Finish (has_share seat turned board turn Display numbered room) refl (open_now seat turned board turn legal is_open start is ∙ opened)
    refl

pub give-requires-clause-longer : goal.give-requires-clause-longer
give-requires-clause-longer g c =
    let seat : Seat = c.self.inside.seat in
    let turned : Seat = c.turn-shared.new.seat in
    let board : Machine = c.turn-shared.result.board in
    let turn : HasTurn seat turned board = record {
      taken = c.turn-shared.ensures.seat;
      longer = c.turn-shared.ensures.longer;
      mine = c.turn-shared.ensures.mine;
      fixed = c.turn-shared.ensures.fixed ∙ ap (λ (l : StageView). l.fixed)
          (c.stage.view_is ∙ sym (ap (λ (v : CompositorView). v.display.stage) c.self.view_is ∙ c.requires.own));
    } in
    let numbered = c.self.invariant.display.numbered in
    goes_on seat turned board turn c.done-frame.new.self Display c.args.number [] (Finish) Done c.done-frame.ensures.entry numbered

pub returns-clause-ends : goal.returns-clause-ends
returns-clause-ends g c =
    let seat : Seat = c.self.inside.seat in
    let turned : Seat = c.turn-shared.new.seat in
    let board : Machine = c.turn-shared.result.board in
    let turn : HasTurn seat turned board = record {
      taken = c.turn-shared.ensures.seat;
      longer = c.turn-shared.ensures.longer;
      mine = c.turn-shared.ensures.mine;
      fixed = c.turn-shared.ensures.fixed ∙ ap (λ (l : StageView). l.fixed)
          (c.stage.view_is ∙ sym (ap (λ (v : CompositorView). v.display.stage) c.self.view_is ∙ c.requires.own));
    } in
    let numbered = c.self.invariant.display.numbered in
    let V : CompositorView → Type 0 = λ v. DisplayEnters c.args.number (Finish) Done v.display (display_view c.give.new.seat) in
    record {
      enters = subst V c.self.view_is (display_enters seat turned board turn c.done-frame.new.self c.args.number (Finish) Done c.done-frame.ensures.entry
          numbered c.give.new.seat c.journal-after.ensures.legal c.give.ensures.seat c.give.ensures.mine);
      start = ap (λ (v : CompositorView). v.start) c.self.view_is;
      closed = refl;
    }

pub invariant_of-self : goal.invariant_of-self
invariant_of-self g c =
    let seat : Seat = c.self.inside.seat in
    let turned : Seat = c.turn-shared.new.seat in
    let board : Machine = c.turn-shared.result.board in
    let turn : HasTurn seat turned board = record {
      taken = c.turn-shared.ensures.seat;
      longer = c.turn-shared.ensures.longer;
      mine = c.turn-shared.ensures.mine;
      fixed = c.turn-shared.ensures.fixed ∙ ap (λ (l : StageView). l.fixed)
          (c.stage.view_is ∙ sym (ap (λ (v : CompositorView). v.display.stage) c.self.view_is ∙ c.requires.own));
    } in
    let numbered = c.self.invariant.display.numbered in
    let is = c.self.invariant in
    let legal = c.journal-before.ensures.legal in
    let is_open = c.self.inside.is_open in
    let start = c.self.inside.start in
    let ended : is_frame_open c.done-frame.new.self.history ≡ false = ap (λ (m : Machine). is_frame_open m.history) c.done-frame.ensures.entry in
    compositor_after seat turned board turn c.done-frame.new.self c.args.number (Finish) Done c.done-frame.ensures.entry numbered c.give.new.seat
    c.journal-after.ensures.legal c.give.ensures.seat c.give.ensures.mine false start ended
    (start_quiet seat turned board turn c.done-frame.new.self c.args.number (Finish) Done c.done-frame.ensures.entry numbered c.give.new.seat
    c.journal-after.ensures.legal c.give.ensures.seat c.give.ensures.mine start refl (start_now seat turned board turn legal is_open start is))

pub returns-clause-frame : goal.returns-clause-frame
returns-clause-frame g c =
    let seat : Seat = c.self.inside.seat in
    let turned : Seat = c.turn-shared.new.seat in
    let board : Machine = c.turn-shared.result.board in
    let turn : HasTurn seat turned board = record {
      taken = c.turn-shared.ensures.seat;
      longer = c.turn-shared.ensures.longer;
      mine = c.turn-shared.ensures.mine;
      fixed = c.turn-shared.ensures.fixed ∙ ap (λ (l : StageView). l.fixed)
          (c.stage.view_is ∙ sym (ap (λ (v : CompositorView). v.display.stage) c.self.view_is ∙ c.requires.own));
    } in
    let numbered = c.self.invariant.display.numbered in
    c.done-frame.ensures.frame ∙ ap frames (sym (then seat turned board turn c.done-frame.new.self c.args.number (Finish) Done c.done-frame.ensures.entry
    numbered c.give.new.seat c.journal-after.ensures.legal c.give.ensures.seat c.give.ensures.mine))
