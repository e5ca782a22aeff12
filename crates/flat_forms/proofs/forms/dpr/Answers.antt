use Rattle.flat_scene.specs.declared.script.DisplayLine.TheVariants as display
use Rattle.flat_places.specs.Forms.{◌<$>◌}
use Rattle.flat_places.specs.Places.{ratio}
use Rattle.flat_places.proofs.lemmas.ReadsLemmas.{read_whole, begin}
use Rattle.flat_forms.proofs.forms.dpr.Goals as goal

pub returns : goal.returns
returns c = read_whole (display.Dpr <$> ratio) c.new-places.ensures.words c.new-places.ensures.sofar (begin display.Dpr c.ratio-ratio.ensures)
    c.finish.ensures.reads
