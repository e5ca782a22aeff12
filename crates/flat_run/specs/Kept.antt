-- What a run keeps of its frames.
use Rattle.flat_play.specs.declared.kept_frames.FramesToKeep.{FramesToKeep}
use Rattle.flat_play.specs.declared.kept_frames.FramesToKeep.TheVariants as keeping
use Rattle.flat_words.specs.declared.service_word.ServiceWord.{ServiceWord}
use Rattle.flat_words.specs.declared.service_word.ServiceWord.TheVariants.{Play, Race, Damage, Focus}
use Rattle.flat_words.specs.declared.service_word.ServiceWord.TheVariants.{Pointer}

-- what a run keeps of its frames for what a form writes
abbrev pub keeping_for : ServiceWord → FramesToKeep
keeping_for Play = keeping.Texts
keeping_for Race = keeping.Texts
keeping_for Damage = keeping.Damages
keeping_for Focus = keeping.Trees
keeping_for Pointer = keeping.Trees
keeping_for _ = keeping.Last
