use Rattle.flat_gets.proofs.watcher_values.told_of.Goals as goal

pub returns-in-Child : goal.returns-in-Child
returns-in-Child g c = λ setup history stands. rw c.in-Child.is (c.child.ensures setup history 0 stands)
