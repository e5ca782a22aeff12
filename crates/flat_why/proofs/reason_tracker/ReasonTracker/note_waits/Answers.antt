use Rattle.std.proofs.Common.{◌<◌, List, [], length, ap, sym, ◌∙◌, refl, append-nil, arith}
use Rattle.flat_why.specs.declared.reasons.MadePresent.{MadePresent}
use Rattle.flat_why.specs.declared.reason_tracker.ReasonTracker.{ReasonTracker}
use Rattle.flat_why.specs.Reasons.{is_waiting, waiting_of}
use Rattle.flat_why.specs.Noted.{IsKnown}
use Rattle.flat_why.proofs.Waits.{all-turned, rotated, said-more}
use Rattle.flat_why.proofs.reason_tracker.ReasonTracker.note_waits.Goals as goal

pub loop-init : goal.loop-init
loop-init c = record {
  rest = refl;
  known = c.requires.known;
  dues = sym (append-nil c.args.self.now.dues.items);
  waits = c.clear.ensures.items;
}

pub loop-preserved : goal.loop-preserved
loop-preserved c =
    let setup = c.args.board.now.setup in
    let history = c.args.board.now.history in
    let all : List MadePresent = c.args.self.now.dues.items in
    let now = c.note_wait.new.self in
    let old = c.loop.self in
    let inv = c.loop.invariant in
    let on = c.in_ok-note_wait.ensures in
    let none : MadePresent = record { session = record { 0 = 0 }; number = 0; time = 0; acquire = [] } in
    let many = c.len-end.ensures in
    let whole = c.args.self.now.dues.ok in
    let low : c.loop.counter < length all = (let t = c.loop-test.true in omega (arith, t, many, whole)) in
    record {
      rest = c.note_wait.ensures.rest ∙ ap (λ (w : ReasonTracker). record w { dues = now.dues; waits = now.waits }) inv.rest;
      known = all-turned (IsKnown setup) (is_waiting setup history) old.dues.items now.dues.items on.dues inv.known;
      dues = rotated (is_waiting setup history) (waiting_of setup history) all old.dues.items now.dues.items c.loop.counter none low inv.dues on.dues;
      waits = said-more (is_waiting setup history) (waiting_of setup history) all old.dues.items now.dues.items c.loop.counter none low inv.dues old.waits.items
          now.waits.items inv.waits on.waits;
    }
