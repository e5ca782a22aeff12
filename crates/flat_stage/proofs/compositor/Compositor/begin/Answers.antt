use Rattle.std.proofs.Common.{◌≡◌, ◌≤◌, ℕ, true, false, [], refl, sym, ap, ◌∙◌, subst}
use Rattle.flat_base.specs.declared.ids.Actor.TheVariants.{Display}
use Rattle.flat_scene.specs.declared.journal.EntryKind.TheVariants.{Begin}
use Rattle.flat_scene.specs.declared.journal.Reply.TheVariants.{Done}
use Rattle.flat_scene.specs.Journals.{history_of}
use Rattle.flat_core.specs.Machines.{Machine}
use Rattle.flat_core.specs.Starts.{StartsFrame}
use Rattle.flat_rules.specs.Legal.{begin_time, is_frame_open}
use Rattle.flat_stage.specs.Displays.{CompositorView, DisplayEnters, HasDisplayRoom, display_view}
use Rattle.flat_stage.specs.Seats.{Seat, StageView, setup_of}
use Rattle.flat_stage.proofs.Composing.{open_now, frames_now, start_now, may_begin, display_enters, compositor_after, starts_then}
use Rattle.flat_stage.proofs.Displaying.{may_display}
use Rattle.flat_stage.proofs.Turns.{HasTurn, has_share, goes_on}
use Rattle.flat_stage.proofs.compositor.Compositor.begin.Goals as goal

pub turn-shared-requires-clause-own : goal.turn-shared-requires-clause-own
turn-shared-requires-clause-own g c =
    ap (λ (v : CompositorView). v.display.stage) c.self.view_is ∙ c.requires.own ∙ sym c.stage.view_is

pub begin-requires-clause-may : goal.begin-requires-clause-may
begin-requires-clause-may g c =
    let seat : Seat = c.self.inside.seat in
    let turned : Seat = c.turn-shared.new.seat in
    let board : Machine = c.turn-shared.result.board in
    let turn : HasTurn seat turned board = record {
      taken = c.turn-shared.ensures.seat;
      longer = c.turn-shared.ensures.longer;
      mine = c.turn-shared.ensures.mine;
      fixed = c.turn-shared.ensures.fixed ∙ ap (λ (l : StageView). l.fixed)
          (c.stage.view_is ∙ sym (ap (λ (v : CompositorView). v.display.stage) c.self.view_is ∙ c.requires.own));
    } in
    let numbered = c.self.invariant.display.numbered in
    let is = c.self.invariant in
    let legal = c.journal-before.ensures.legal in
    let is_open = c.self.inside.is_open in
    let start = c.self.inside.start in
    let between : is_open ≡ false = ap (λ (v : CompositorView). v.is_open) c.self.view_is ∙ c.requires.closed in
    let R : CompositorView → Type 0 = λ v. HasDisplayRoom v.display in
    let room = subst R (sym c.self.view_is) c.requires.room in
    let O : CompositorView → Type 0 = λ v. begin_time (history_of v.display.mine) ≤ c.args.time in
    let T : ℕ → Type 0 = λ n. n ≤ c.args.time in
    let last : begin_time board.history ≤ c.args.time =
    subst T (sym (frames_now seat turned board turn legal is_open start is).time) (subst O (sym c.self.view_is) c.requires.time) in
    may_display board (Begin c.args.time) (has_share seat turned board turn Display numbered room) refl
    (may_begin (is_frame_open board.history) (begin_time board.history) c.args.time (open_now seat turned board turn legal is_open start is ∙ between) last)
    refl

pub begin-requires-clause-start : goal.begin-requires-clause-start
begin-requires-clause-start g c =
    let seat : Seat = c.self.inside.seat in
    let turned : Seat = c.turn-shared.new.seat in
    let board : Machine = c.turn-shared.result.board in
    let turn : HasTurn seat turned board = record {
      taken = c.turn-shared.ensures.seat;
      longer = c.turn-shared.ensures.longer;
      mine = c.turn-shared.ensures.mine;
      fixed = c.turn-shared.ensures.fixed ∙ ap (λ (l : StageView). l.fixed)
          (c.stage.view_is ∙ sym (ap (λ (v : CompositorView). v.display.stage) c.self.view_is ∙ c.requires.own));
    } in
    let numbered = c.self.invariant.display.numbered in
    start_now seat turned board turn c.journal-before.ensures.legal c.self.inside.is_open c.self.inside.start c.self.invariant

pub give-requires-clause-longer : goal.give-requires-clause-longer
give-requires-clause-longer g c =
    let seat : Seat = c.self.inside.seat in
    let turned : Seat = c.turn-shared.new.seat in
    let board : Machine = c.turn-shared.result.board in
    let turn : HasTurn seat turned board = record {
      taken = c.turn-shared.ensures.seat;
      longer = c.turn-shared.ensures.longer;
      mine = c.turn-shared.ensures.mine;
      fixed = c.turn-shared.ensures.fixed ∙ ap (λ (l : StageView). l.fixed)
          (c.stage.view_is ∙ sym (ap (λ (v : CompositorView). v.display.stage) c.self.view_is ∙ c.requires.own));
    } in
    let numbered = c.self.invariant.display.numbered in
    goes_on seat turned board turn c.begin.new.self Display c.args.number [] (Begin c.args.time) Done c.begin.ensures.entry numbered

pub returns-clause-enters : goal.returns-clause-enters
returns-clause-enters g c =
    let seat : Seat = c.self.inside.seat in
    let turned : Seat = c.turn-shared.new.seat in
    let board : Machine = c.turn-shared.result.board in
    let turn : HasTurn seat turned board = record {
      taken = c.turn-shared.ensures.seat;
      longer = c.turn-shared.ensures.longer;
      mine = c.turn-shared.ensures.mine;
      fixed = c.turn-shared.ensures.fixed ∙ ap (λ (l : StageView). l.fixed)
          (c.stage.view_is ∙ sym (ap (λ (v : CompositorView). v.display.stage) c.self.view_is ∙ c.requires.own));
    } in
    let numbered = c.self.invariant.display.numbered in
    let V : CompositorView → Type 0 = λ v. DisplayEnters c.args.number (Begin c.args.time) Done v.display (display_view c.give.new.seat) in
    subst V c.self.view_is (display_enters seat turned board turn c.begin.new.self c.args.number (Begin c.args.time) Done c.begin.ensures.entry numbered
    c.give.new.seat c.journal-after.ensures.legal c.give.ensures.seat c.give.ensures.mine)

pub invariant_of-self : goal.invariant_of-self
invariant_of-self g c =
    let seat : Seat = c.self.inside.seat in
    let turned : Seat = c.turn-shared.new.seat in
    let board : Machine = c.turn-shared.result.board in
    let turn : HasTurn seat turned board = record {
      taken = c.turn-shared.ensures.seat;
      longer = c.turn-shared.ensures.longer;
      mine = c.turn-shared.ensures.mine;
      fixed = c.turn-shared.ensures.fixed ∙ ap (λ (l : StageView). l.fixed)
          (c.stage.view_is ∙ sym (ap (λ (v : CompositorView). v.display.stage) c.self.view_is ∙ c.requires.own));
    } in
    let numbered = c.self.invariant.display.numbered in
    let opens : is_frame_open c.begin.new.self.history ≡ true = ap (λ (m : Machine). is_frame_open m.history) c.begin.ensures.entry in
    compositor_after seat turned board turn c.begin.new.self c.args.number (Begin c.args.time) Done c.begin.ensures.entry numbered c.give.new.seat
    c.journal-after.ensures.legal c.give.ensures.seat c.give.ensures.mine true c.begin.new.start opens c.begin.ensures.starts.start

pub returns-clause-starts : goal.returns-clause-starts
returns-clause-starts g c =
    let seat : Seat = c.self.inside.seat in
    let turned : Seat = c.turn-shared.new.seat in
    let board : Machine = c.turn-shared.result.board in
    let turn : HasTurn seat turned board = record {
      taken = c.turn-shared.ensures.seat;
      longer = c.turn-shared.ensures.longer;
      mine = c.turn-shared.ensures.mine;
      fixed = c.turn-shared.ensures.fixed ∙ ap (λ (l : StageView). l.fixed)
          (c.stage.view_is ∙ sym (ap (λ (v : CompositorView). v.display.stage) c.self.view_is ∙ c.requires.own));
    } in
    let numbered = c.self.invariant.display.numbered in
    let V : CompositorView → Type 0 = λ v. StartsFrame (setup_of v.display.stage) (history_of c.give.new.seat.seen) v.start c.begin.new.start in
    subst V c.self.view_is (starts_then seat turned board turn c.begin.new.self c.args.number (Begin c.args.time) Done c.begin.ensures.entry numbered
    c.give.new.seat c.journal-after.ensures.legal c.give.ensures.seat c.give.ensures.mine c.self.inside.start c.begin.new.start c.begin.ensures.starts)
