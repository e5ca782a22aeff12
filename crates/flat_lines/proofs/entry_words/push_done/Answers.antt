use Rattle.flat_lines.proofs.entry_words.push_done.Goals as goal

pub returns-in-View : goal.returns-in-View
returns-in-View c = rw c.in-View.is c.push_ok.ensures

pub returns-in-Viewport : goal.returns-in-Viewport
returns-in-Viewport c = rw c.in-Viewport.is c.push_ok-in-Viewport.ensures

pub returns-in-Signal : goal.returns-in-Signal
returns-in-Signal c = rw c.in-Signal.is c.push_ok-in-Signal.ensures

pub returns-in-Dpr : goal.returns-in-Dpr
returns-in-Dpr c = rw c.in-Dpr.is c.push_ok-in-Dpr.ensures
