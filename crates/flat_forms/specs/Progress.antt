-- What the parser keeps beside the script that it has read so far.
use Rattle.std.specs.Prelude.{◌≡◌, length, slice_index}
use Rattle.flat_base.specs.declared.ids.Actor.{Actor}
use Rattle.flat_forms.specs.declared.parser.Parser.{Parser}
use Rattle.flat_places.specs.Places.{has_display_pair}
use Rattle.flat_forms.specs.Body.{begin_times, dones, greatest, lines_of_actor}
use Rattle.flat_forms.specs.Lines.{Sofar}
use Rattle.flat_places.specs.Index.{IsIndexed}
use Rattle.flat_places.specs.Slots.{slot, IsCounted}

-- the counts are those of the script
pub record Kept (p : Parser) : Type 0 where
  pub indexed : IsIndexed p.text
  pub sessions : p.text.script.setup.sessions ≡ length p.text.script.sessions
  pub probes : p.text.script.setup.probes ≡ length p.text.script.probes
  pub paired : p.paired ≡ has_display_pair p.text.script
  pub begins : p.begins ≡ length (begin_times p.text.script)
  pub dones : p.dones ≡ dones p.text.script
  pub last : p.last ≡ greatest (begin_times p.text.script)
  pub lines : (a : Actor) → IsCounted a → slice_index p.counts (slot a) ≡ lines_of_actor p.text.script a

-- the part of the text, and the script so far
abbrev pub sofar_of : Parser → Sofar
sofar_of p = (p.part, p.text.script)

-- the part and the counts of frames stay
pub record SameFrames (old new : Parser) : Type 0 where
  pub part : new.part ≡ old.part
  pub begins : new.begins ≡ old.begins
  pub dones : new.dones ≡ old.dones
