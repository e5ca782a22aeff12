-- What holds of the loads.
use Rattle.std.specs.Prelude.{◌≡◌, ◌≤◌, ℕ}
use Rattle.flat_base.specs.declared.limits.TheConstants.{LOAD_FRAMES_MAX}
use Rattle.flat_places.specs.declared.script.Script.{Script}
use Rattle.flat_forms.specs.Body.{dones}
use Rattle.flat_script.specs.Grammar.{IsScript}
use Rattle.flat_stress.specs.Load.{load_text}

-- the text of a load of so many frames is a script, of eight sessions
abbrev pub LoadsAreScripts : Type 0
LoadsAreScripts = (n : ℕ) → 1 ≤ n → n ≤ LOAD_FRAMES_MAX
    → (script : Script) × IsScript (load_text n) script × (script.setup.sessions ≡ 8)

-- the script of a load of so many frames has as many
abbrev pub LoadsHaveTheirFrames : Type 0
LoadsHaveTheirFrames = (n : ℕ) (script : Script) → 1 ≤ n → n ≤ LOAD_FRAMES_MAX → IsScript (load_text n) script
    → dones script ≡ n
