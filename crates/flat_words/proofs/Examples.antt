-- The definitions on words that are written out.
use Rattle.std.proofs.Common.{◌≡◌, codes, true, false, refl, List, [], ◌∷◌, Some, option_map}
use Rattle.std.specs.Fmt.{digits}
use Rattle.clap.specs.Words.{Row, Text, fault_of, first_of, subcommand_of}
use Rattle.clap.specs.declared.error.kind.ErrorKind.TheVariants.{InvalidSubcommand, MissingRequiredArgument, MissingSubcommand, UnknownArgument}
use Rattle.clap.proofs.OnLiterals.{clap_on_literals}
use Rattle.flat_words.specs.declared.service_word.ServiceWord.TheVariants.{Stress}
use Rattle.flat_words.specs.Command.{service, is_option}
use Rattle.flat_words.specs.Forms.{words_of}

load_is_written : words_of (Stress 500) ≡ codes "stress" ∷ codes "500" ∷ []
unfolding digits
load_is_written = refl

flag_is_option : is_option (codes "-h") ≡ true
flag_is_option = refl

hyphen_is_option : is_option (codes "-") ≡ true
hyphen_is_option = refl

empty_is_no_option : is_option [] ≡ false
empty_is_no_option = refl

race_is_called : subcommand_of service (codes "race" ∷ []) ≡ Some (codes "race", [])
unfolding clap_on_literals
race_is_called = refl

load_is_taken : fault_of service (codes "stress" ∷ codes "3" ∷ []) ≡ []
unfolding clap_on_literals
load_is_taken = refl

load_has_frames : option_map (λ (call : Text × List Row). first_of (codes "frames") call.1) (subcommand_of service (codes "stress" ∷ codes "3" ∷ []))
    ≡ Some (Some (codes "3"))
unfolding clap_on_literals
load_has_frames = refl

form_is_wanted : fault_of service [] ≡ MissingSubcommand ∷ []
unfolding clap_on_literals
form_is_wanted = refl

number_is_wanted : fault_of service (codes "stress" ∷ []) ≡ MissingRequiredArgument ∷ []
unfolding clap_on_literals
number_is_wanted = refl

third_word_is_refused : fault_of service (codes "stress" ∷ codes "3" ∷ codes "3" ∷ []) ≡ UnknownArgument ∷ []
unfolding clap_on_literals
third_word_is_refused = refl

help_is_no_form : fault_of service (codes "help" ∷ []) ≡ UnknownArgument ∷ InvalidSubcommand ∷ []
unfolding clap_on_literals
help_is_no_form = refl
