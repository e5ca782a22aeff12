use Rattle.flat_places.proofs.lemmas.ReadsLemmas.{then, begin}
use Rattle.flat_places.proofs.word_cursor.WordCursor.inset.Goals as goal

pub returns : goal.returns
returns c =
    then (then (then (begin (λ t r b l. record { top = t; right = r; bottom = b; left = l }) c.number_to-top.ensures.reads) c.number_to-right.ensures.reads)
    c.number_to-bottom.ensures.reads) c.number_to-left.ensures.reads
