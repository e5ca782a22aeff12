use Rattle.std.proofs.Common.{◌≡◌, ℕ, suc, ◌+◌, [], ◌∷◌, ◌++◌, List, length, ap, sym, refl, ◌∙◌, subst, arith}
use Rattle.flat_scene.specs.declared.frames.FrameOut.{FrameOut}
use Rattle.flat_scene.specs.declared.setup.Setup.{Setup}
use Rattle.flat_core.specs.Machines.{Machine}
use Rattle.flat_rules.specs.Ends.{to_begin}
use Rattle.flat_rules.specs.Legal.{Legal, frames}
use Rattle.flat_report.specs.Report.{finished, frame_at}
use Rattle.flat_play.specs.Showing.{IsShown}
use Rattle.flat_play.proofs.lemmas.Seen.{finished_length}
use Rattle.flat_play.proofs.lemmas.Storing.{may_follow}
use Rattle.flat_play.proofs.play.Play.finish.Goals as goal

pub finish-requires-clause-follows : goal.finish-requires-clause-follows
finish-requires-clause-follows g c =
    let self = c.args.self.now in
    let L : Setup → Type 0 = λ setup. Legal setup self.board.history in
    may_follow c.shown_states_fit.ensures.begun c.shown_states_fit.ensures.each c.args.script.now self.board.history self.start self.store
    (subst L c.requires.of c.journal-journal.ensures.legal) c.requires.few c.requires.frames

pub returns-clause-finishes : goal.returns-clause-finishes
returns-clause-finishes g c =
    let self = c.args.self.now in
    record {
      board = c.done-frame.ensures.entry;
      start = refl;
      readers = refl;
      store = c.in_ok-finish.ensures.finishes self.board.history c.requires.frames.stored c.requires.frames.starts;
    }

pub returns-clause-shows : goal.returns-clause-shows
returns-clause-shows g c =
    let script = c.args.script.now in
    let history = c.args.self.now.board.history in
    let before : List FrameOut = finished script.setup history in
    let frame : FrameOut = frame_at script.setup (frames history + 1) (to_begin history) in
    let counted = finished_length script.setup history in
    let number : frame.frame.0 ≡ suc (length before) = omega (arith, counted) in
    let many : frames history + 1 ≡ suc (frames history) = omega arith in
    let all : finished script.setup c.done-frame.new.self.history ≡ before ++ frame ∷ [] =
    ap (λ (m : Machine). finished script.setup m.history) c.done-frame.ensures.entry
    ∙ ap (λ (n : ℕ). before ++ frame_at script.setup n (to_begin history) ∷ []) (sym many) in
    let finishes = c.in_ok-finish.ensures.finishes history c.requires.frames.stored c.requires.frames.starts in
    let shows = c.show.ensures.shows script before frame (finishes.kept.more before c.requires.frames.stored.keeps) in
    IsShown.shows_frame frame shows.0 all number shows.1 shows.2

pub returns-clause-displays : goal.returns-clause-displays
returns-clause-displays g c = record { count = c.show.ensures.same; kinds = c.show.ensures.kinds }
