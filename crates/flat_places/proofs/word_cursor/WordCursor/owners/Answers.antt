use Rattle.std.proofs.Common.{[]}
use Rattle.flat_places.specs.Forms.{each}
use Rattle.flat_places.specs.Places.{owner_word, owners}
use Rattle.flat_places.specs.Reads.{Reads}
use Rattle.flat_places.proofs.lemmas.ReadsLemmas.{if_ok, read_one_or_more, some_left}
use Rattle.flat_places.proofs.word_cursor.WordCursor.owners.Goals as goal

pub returns : goal.returns
returns c =
    let s = c.args.script.now.script in
    let old = c.args.self.now in
    let new = c.each_owner.new.self in
    if_ok (λ v. Reads (λ words. (each (owner_word s) words, [])) old new v) (λ v. Reads (owners s) old new v) c.each_owner.result
    (λ v read. read_one_or_more (owner_word s) (some_left old.words c.if-is_none.ensures) read) c.each_owner.ensures
