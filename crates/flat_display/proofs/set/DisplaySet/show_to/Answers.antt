use Rattle.std.proofs.Common.{◌∙◌, [], sym}
use Rattle.flat_display.specs.Shows.Shows.{none, passed}
use Rattle.flat_display.proofs.Showing.{there, set_same, nothing_lost, took_at, failed_at}
use Rattle.flat_display.proofs.set.DisplaySet.show_to.Goals as goal

-- src/set.rt:68:13
pub returns-then-is_lost-clause-shows : goal.returns-then-is_lost-clause-shows
returns-then-is_lost-clause-shows g c =
    let at = there c.args.displays.now.items c.args.place c.requires.within in
    (at.0, at.0, [], at.1, sym (set_same _ _ _ at.1), nothing_lost _, passed (sym c.is_lost.ensures ∙ c.if-is_lost.true) none)

-- src/set.rt:61:5
pub returns-then-not-show_at-clause-shows : goal.returns-then-not-show_at-clause-shows
returns-then-not-show_at-clause-shows g c =
    let at = c.show_at.ensures.shows in
    (at.0, at.1, _, at.2, at.3, c.lose.ensures, failed_at _ _ _ _ _ _ _ _ c.if-not-show_at.true (sym c.is_lost.ensures ∙ c.if-is_lost.false) at.4)

-- src/set.rt:61:5
pub returns-else-not-show_at-clause-shows : goal.returns-else-not-show_at-clause-shows
returns-else-not-show_at-clause-shows g c =
    let at = c.show_at.ensures.shows in
    (at.0, at.1, [], at.2, at.3, nothing_lost _, took_at _ _ _ _ _ _ _ _ c.if-not-show_at.false (sym c.is_lost.ensures ∙ c.if-is_lost.false) at.4)
