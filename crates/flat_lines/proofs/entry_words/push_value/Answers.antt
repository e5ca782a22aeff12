use Rattle.flat_lines.proofs.entry_words.push_value.Goals as goal

pub returns-in-Layout : goal.returns-in-Layout
returns-in-Layout c = rw c.in-Layout.is c.push_layout.ensures

pub returns-in-Connected : goal.returns-in-Connected
returns-in-Connected c = rw c.in-Connected.is c.word.ensures

pub returns-in-Disconnected : goal.returns-in-Disconnected
returns-in-Disconnected c = rw c.in-Disconnected.is c.word-in-Disconnected.ensures

pub returns-in-HasPresented : goal.returns-in-HasPresented
returns-in-HasPresented c = rw c.in-HasPresented.is c.word-in-HasPresented.ensures

pub returns-in-Gone : goal.returns-in-Gone
returns-in-Gone c = rw c.in-Gone.is c.word-in-Gone.ensures
