-- The names that a script gives.
use Rattle.flat_base.specs.declared.ids.BufferNo.{BufferNo}
use Rattle.flat_base.specs.declared.ids.PairNo.{PairNo}
use Rattle.flat_page.specs.Words.{name_at}
use Rattle.flat_places.specs.Forms.{Word}
use Rattle.flat_places.specs.declared.script.Script.{Script}

abbrev pub pair_name : Script → PairNo → Word
pair_name script p = name_at script.pairs p.0

abbrev pub buffers_name : Script → BufferNo → Word
buffers_name script b = name_at script.buffers b.0
