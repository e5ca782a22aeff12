use Rattle.std.proofs.Common.{nat_lt, not}
use Rattle.flat_forms.specs.Body.{begin_place}
use Rattle.flat_places.specs.declared.kinds.FaultKind.TheVariants.{Limit, BadOrder}
use Rattle.flat_places.proofs.lemmas.ReadsLemmas.{read_unless_2}
use Rattle.flat_forms.proofs.forms.begin.Goals as goal

pub returns : goal.returns
returns c = read_unless_2 (begin_place c.args.script.now.script) Limit BadOrder (nat_lt c.args.begins 512) (not c.args.in_frame) c.new-places.result
    c.note_unless.new.self
    c.new-places.ensures.words c.new-places.ensures.sofar c.note_unless.ensures.words c.note_unless.ensures.lower c.note_unless-2.ensures.words
    c.note_unless-2.ensures.lower
    c.begin_time-time.ensures c.finish.ensures.reads
