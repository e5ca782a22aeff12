-- the command that reads the words
use Rattle.std.specs.Prelude.{◌≡◌, ◌≤◌, List, Some, true, codes, ◌==◌, ℕ, Bool, false, [], ◌∷◌}
use Rattle.std.specs.Fmt.{decimal}
use Rattle.clap.specs.Words.{App, Row, Rule, Text, first_of, new_app, new_rule, with_rule, with_subcommand}
use Rattle.clap.specs.Simple.{Shape, on_top}
use Rattle.flat_base.specs.declared.limits.TheConstants.{LOAD_FRAMES_MAX}
use Rattle.flat_words.specs.declared.service_word.ServiceWord.{ServiceWord}
use Rattle.flat_words.specs.declared.service_word.ServiceWord.TheVariants.{Play, Race, Stress, Render, Damage, Focus}
use Rattle.flat_words.specs.declared.service_word.ServiceWord.TheVariants.{Pointer, Judge}
use Rattle.flat_words.specs.declared.service_word.ServiceWord.TheVariants.{Why, Film}

-- the word after `stress`: the number of frames
abbrev pub frames : Rule
frames = record (new_rule (codes "frames")) { required = true }

-- One of the forms has to be named. There is no help and no version, and the words begin after the program's name.
abbrev pub asking : Shape → Shape
asking shape = record shape {
  no_binary_name = true;
  disable_help_flag = true;
  disable_help_subcommand = true;
  disable_version_flag = true;
  subcommand_required = true;
}

-- the command, whose subcommands are the forms of a call
abbrev pub service : App
service =
    with_subcommand
    (with_subcommand
    (with_subcommand
    (with_subcommand
    (with_subcommand
    (with_subcommand
    (with_subcommand
    (with_subcommand
    (with_subcommand
    (with_subcommand (on_top asking (new_app (codes "flatland"))) (new_app (codes "play")).top)
    (new_app (codes "race")).top)
    (with_rule (new_app (codes "stress")) frames).top)
    (new_app (codes "render")).top)
    (new_app (codes "damage")).top)
    (new_app (codes "focus")).top)
    (new_app (codes "pointer")).top)
    (new_app (codes "judge")).top)
    (new_app (codes "why")).top)
    (new_app (codes "film")).top

-- A subcommand, with its name and its own words, is that of a form.
abbrev pub IsNamed : Text × List Row → ServiceWord → Type 0
IsNamed call Play = call.0 ≡ codes "play"
IsNamed call Race = call.0 ≡ codes "race"
IsNamed call (Stress number) = (call.0 ≡ codes "stress")
    × (first_of (codes "frames") call.1 ≡ Some (decimal number))
    × (1 ≤ number) × (number ≤ LOAD_FRAMES_MAX)
IsNamed call Render = call.0 ≡ codes "render"
IsNamed call Damage = call.0 ≡ codes "damage"
IsNamed call Focus = call.0 ≡ codes "focus"
IsNamed call Pointer = call.0 ≡ codes "pointer"
IsNamed call Judge = call.0 ≡ codes "judge"
IsNamed call Why = call.0 ≡ codes "why"
IsNamed call Film = call.0 ≡ codes "film"

-- The word begins with a hyphen.
abbrev pub is_option : List ℕ → Bool
is_option [] = false
is_option (byte ∷ rest) = byte == 45
