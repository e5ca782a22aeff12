-- Every script that the reader accepts is one that is played: each part of the test, and the whole;
-- and what its version says.
use Rattle.std.specs.Prelude.{◌≡◌, ◌≤◌, ℕ, false, true, nat_le, nat_lt, List, length, Some}
use Rattle.std.specs.List.{list_all}
use Rattle.flat_base.specs.declared.limits.TheConstants.{ONE, RATIO_SINCE, SCRIPT_BYTES_MAX, SESSIONS_MAX, VERSION_MAX}
use Rattle.flat_scene.specs.Heads.{is_setup}
use Rattle.flat_scene.specs.Setups.{is_within}
use Rattle.flat_places.specs.declared.script.Script.{Script}
use Rattle.flat_script.specs.Grammar.{IsScript}
use Rattle.flat_playable.specs.Playable.{is_playable, rise_from, frames_close, is_played}
use Rattle.flat_playable.specs.Versions.{is_of_first_version, sets_no_ratio, first_kept, version_line}

-- its setup is one that a head can give
abbrev pub SetupsAreGiven : Type 0
SetupsAreGiven = (bytes : List ℕ) (script : Script) → IsScript bytes script → is_setup script.setup ≡ true

-- it names no more sessions than a script may have
abbrev pub SessionsAreFew : Type 0
SessionsAreFew = (bytes : List ℕ) (script : Script) → IsScript bytes script → length script.sessions ≤ SESSIONS_MAX

-- its count of lines is within the limit of bytes
abbrev pub CountsAreWithin : Type 0
CountsAreWithin = (bytes : List ℕ) (script : Script) → IsScript bytes script
    → nat_le script.count SCRIPT_BYTES_MAX ≡ true

-- the numbers of its lines rise
abbrev pub LinesRise : Type 0
LinesRise = (bytes : List ℕ) (script : Script) → IsScript bytes script → rise_from 0 script.lines ≡ true

-- no line has a number above the count
abbrev pub LinesAreCounted : Type 0
LinesAreCounted = (bytes : List ℕ) (script : Script) → IsScript bytes script
    → list_all (λ next. nat_le next.number script.count) script.lines ≡ true

-- its frames are begun and done in turn
abbrev pub FramesClose : Type 0
FramesClose = (bytes : List ℕ) (script : Script) → IsScript bytes script → frames_close false 0 script.lines ≡ true

-- each line is one that is played
abbrev pub LinesArePlayed : Type 0
LinesArePlayed = (bytes : List ℕ) (script : Script) → IsScript bytes script
    → list_all (λ next. is_played script.setup next.actor next.body) script.lines ≡ true

-- where its version is the first, no line has what came with the second
abbrev pub FirstVersionIsKept : Type 0
FirstVersionIsKept = (bytes : List ℕ) (script : Script) → IsScript bytes script → script.version ≡ 1
    → list_all is_of_first_version script.lines ≡ true

-- where its version is below the third, its display's pixel ratio is one from the head on
abbrev pub EarlierVersionsHaveNoRatio : Type 0
EarlierVersionsHaveNoRatio = (bytes : List ℕ) (script : Script) → IsScript bytes script
    → nat_lt script.version RATIO_SINCE ≡ true
    → (script.setup.ratio ≡ ONE) × (list_all sets_no_ratio script.lines ≡ true)

-- its version is one that there is
abbrev pub VersionsAreKnown : Type 0
VersionsAreKnown = (bytes : List ℕ) (script : Script) → IsScript bytes script
    → is_within VERSION_MAX script.version ≡ true

-- the first line of its text that isn't skipped says its version
abbrev pub TextsSayVersions : Type 0
TextsSayVersions = (bytes : List ℕ) (script : Script) → IsScript bytes script
    → first_kept bytes ≡ Some (version_line script.version)

-- the whole test
abbrev pub ScriptsArePlayable : Type 0
ScriptsArePlayable = (bytes : List ℕ) (script : Script) → IsScript bytes script → is_playable script ≡ true
