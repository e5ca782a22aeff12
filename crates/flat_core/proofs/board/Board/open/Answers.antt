use Rattle.std.proofs.Common.{◌≡◌, ◌∙◌, ap, false, refl, subst, sym}
use Rattle.std.specs.Prelude.{sum}
use Rattle.flat_links.proofs.lemmas.EndSteps.{back-new, ends-new}
use Rattle.flat_states.specs.declared.ratios.Ratios.{Ratios}
use Rattle.flat_states.specs.Machines.{Stands}
use Rattle.flat_states.proofs.lemmas.Opened.{opened}
use Rattle.flat_core.proofs.board.Board.open.Goals as goal

pub invariant_of-result : goal.invariant_of-result
invariant_of-result c =
    let total : c.total_of-total.result ≡ sum c.args.shares = c.total_of-total.ensures ∙ ap sum c.as_slice.ensures in
    let ends = c.in_ok-sessions.ends.items in
    let at : Ratios → Type 0 = λ ratios. Stands c.args.setup c.in_ok-log.log.history (record { frames = 0; is_open = false; time = 0; ratios = ratios })
    c.in_ok-fences.fences c.in_ok-fences.views c.in_ok-sessions.sessions.items in
    let two = opened c.args.setup c.args.shares c.in_ok-log.log c.in_ok-fences.fences c.in_ok-fences.views c.in_ok-sessions.sessions.items
    c.total_of-total.result c.requires.limits c.requires.actors c.requires.total total
    c.in_ok-log.ensures.history c.in_ok-log.ensures.posts c.in_ok-log.ensures.room c.in_ok-fences.ensures.fences c.in_ok-fences.ensures.none
    c.in_ok-fences.ensures.views c.in_ok-fences.ensures.unused c.in_ok-sessions.ensures.count c.in_ok-sessions.ensures.new in (
      subst at (sym (c.new-ratios.ensures c.args.setup refl)) two.0,
      rw (back-new ends c.in_ok-sessions.ensures.none, c.in_ok-links.ensures.told) two.1,
      rw c.in_ok-log.ensures.history (ends-new c.args.setup ends c.in_ok-sessions.ensures.ends c.in_ok-sessions.ensures.none),
      rw c.in_ok-log.ensures.history c.in_ok-links.ensures.tied,
      rw c.in_ok-log.ensures.history c.in_ok-links.ensures.watched,
    )
