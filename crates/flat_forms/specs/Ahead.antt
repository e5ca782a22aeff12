-- What can be read of a line of the body before the lines before it are read.
use Rattle.std.specs.Prelude.{◌≡◌, ℕ, nat_lt, List, [], Ok}
use Rattle.flat_base.specs.declared.ids.Actor.{Actor}
use Rattle.flat_base.specs.declared.limits.TheConstants.{LINES_PER_ACTOR_MAX}
use Rattle.flat_scene.specs.declared.script.LineBody.{LineBody}
use Rattle.flat_scene.specs.declared.script.ScriptLine.{ScriptLine}
use Rattle.flat_places.specs.declared.kinds.FaultKind.TheVariants.{Limit}
use Rattle.flat_places.specs.declared.script.Script.{Script}
use Rattle.flat_places.specs.Forms.{Word, Reading, unless_kind}
use Rattle.flat_places.specs.Slots.{IsCounted}
use Rattle.flat_forms.specs.Body.{actor_line, body_line, lines_of_actor, with_line}

-- the script with these lines
abbrev pub with_lines : Script → List ScriptLine → Script
with_lines s lines = record s { lines = lines }

-- the script without its lines: what its head says
abbrev pub head_of : Script → Script
head_of s = with_lines s []

-- the script with one more line of an actor, where the actor may have one more
abbrev pub taken_line : Script → ℕ → Actor → LineBody → Reading Script
taken_line s n a b = unless_kind Limit (nat_lt (lines_of_actor s a) LINES_PER_ACTOR_MAX) (Ok (with_line s n a b))

-- Words behind an actor say this, whatever lines stand before them.
abbrev pub SaysAhead : Script → Actor → List Word → LineBody → Type 0
SaysAhead s a words b = (lines : List ScriptLine) → actor_line (with_lines s lines) a words ≡ Ok b

-- A line is this actor's and says this, whatever lines stand before it.
pub record IsSaid (s : Script) (words : List Word) (a : Actor) (b : LineBody) : Type 0 where
  pub counted : IsCounted a
  pub reads : (n : ℕ) (lines : List ScriptLine) →
      body_line (with_lines s lines) n words ≡ taken_line (with_lines s lines) n a b
