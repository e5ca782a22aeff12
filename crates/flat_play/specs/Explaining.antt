-- What a play notes line by line: why content is not on the display, or the pictures of its frames.
use Rattle.std.specs.Prelude.{◌≡◌, ⊤, Bool, true, false, List}
use Rattle.flat_scene.specs.declared.journal.Entry.{Entry}
use Rattle.flat_places.specs.declared.script.Script.{Script}
use Rattle.flat_report.specs.Report.{finished}
use Rattle.flat_texts.specs.Filming.{IsFilm}
use Rattle.flat_why.specs.Noted.{WhysStand, WhysTell}
use Rattle.flat_play.specs.declared.side_output.SideOutput.{SideOutput}
use Rattle.flat_play.specs.declared.side_output.SideOutput.TheVariants.{Off, On, Film}

-- whether it was asked why
abbrev pub is_on : SideOutput → Bool
is_on (On whys) = true
is_on _ = false

-- whether its pictures were asked for
abbrev pub is_film : SideOutput → Bool
is_film (Film film) = true
is_film _ = false

-- where it was asked for, what is noted stands for the history
abbrev pub StandsExplained : Script → List Entry → SideOutput → Type 0
StandsExplained script history Off = ⊤
StandsExplained script history (On whys) = WhysStand script history whys
StandsExplained script history (Film film) = IsFilm script.setup (finished script.setup history) film

-- the same of what is written alone
abbrev pub ToldExplained : Script → List Entry → SideOutput → Type 0
ToldExplained script history Off = ⊤
ToldExplained script history (On whys) = WhysTell script history whys
ToldExplained script history (Film film) = IsFilm script.setup (finished script.setup history) film

-- What is noted stands for the history, and the same is asked for as before.
pub record NotesOn (script : Script) (history : List Entry) (old new : SideOutput) : Type 0 where
  pub stands : StandsExplained script history new
  pub on : is_on new ≡ is_on old
  pub film : is_film new ≡ is_film old

-- So is what is written alone.
pub record TellsAll (script : Script) (history : List Entry) (old new : SideOutput) : Type 0 where
  pub told : ToldExplained script history new
  pub on : is_on new ≡ is_on old
  pub film : is_film new ≡ is_film old
