use Rattle.flat_lines.proofs.entry_words.push_error.Goals as goal

pub returns-in-BadOperation : goal.returns-in-BadOperation
returns-in-BadOperation c = rw c.in-BadOperation.is c.push_bad.ensures

pub returns-in-NoPresentsRemaining : goal.returns-in-NoPresentsRemaining
returns-in-NoPresentsRemaining c = rw c.in-NoPresentsRemaining.is c.word.ensures

pub returns-in-BadHangingGet : goal.returns-in-BadHangingGet
returns-in-BadHangingGet c = rw c.in-BadHangingGet.is c.word-in-BadHangingGet.ensures
