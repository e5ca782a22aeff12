-- how the words of the code are spelled
use Rattle.flat_stress.specs.declared.words.LoadWord.{LoadWord}
use Rattle.flat_stress.specs.declared.words.LoadWord.TheVariants.{Text, Number, Count, Session, Pair}
use Rattle.flat_stress.specs.Words.{session, pair}
use Rattle.flat_page.specs.Words.{number}
use Rattle.flat_places.specs.Forms.{Word}

abbrev pub spelling : LoadWord → Word
spelling (Text text) = text.now
spelling (Number n) = number n
spelling (Count n) = number n
spelling (Session n) = session n
spelling (Pair n) = pair n
