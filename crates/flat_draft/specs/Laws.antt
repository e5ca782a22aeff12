-- Calls one after another.
use Rattle.std.specs.Prelude.{◌≡◌, ◌≢◌, true, List, [], ◌∷◌, ◌++◌, Some, None, Result, Ok, Err}
use Rattle.flat_base.specs.declared.errors.Reason.{Reason}
use Rattle.flat_scene.specs.declared.calls.Call.{Call}
use Rattle.flat_scene.specs.declared.setup.Setup.{Setup}
use Rattle.flat_scene.specs.Draft.{Draft, empty_draft}
use Rattle.flat_scene.specs.Effect.{draft_of, effect}
use Rattle.flat_scene.specs.Misuse.{misuse}
use Rattle.flat_draft.specs.declared.fault.DraftFault.{DraftFault}
use Rattle.flat_draft.specs.declared.fault.DraftFault.TheVariants.{Bad, Closed, Memory}
use Rattle.flat_draft.specs.Answers.{IsAnswer, IsReadied, has_room_for}
use Rattle.flat_draft.specs.State.{DraftState, empty_state}
use Rattle.flat_draft.specs.Stands.{IsAfter, StandsFor}

-- a new draft stands for that of a session that made no call
abbrev pub EmptyStands : Type 0
EmptyStands = (setup : Setup) → StandsFor setup (empty_state setup.buffers) empty_draft

-- one more call after those that made a draft
pub record OneMore (setup : Setup) (calls : List Call) (draft : Draft) (call : Call) : Type 0 where
  pub done : misuse setup draft call ≡ None → draft_of setup (calls ++ call ∷ []) ≡ Ok (effect draft call)
  pub misused : (reason : Reason) → misuse setup draft call ≡ Some reason
      → draft_of setup (calls ++ call ∷ []) ≡ Err reason

abbrev pub CallsFollow : Type 0
CallsFollow = (setup : Setup) (calls : List Call) (draft : Draft) (call : Call) → draft_of setup calls ≡ Ok draft
    → OneMore setup calls draft call

-- what an answer says of all calls of the session
abbrev pub IsFollowed : Setup → List Call → Call → DraftState → Result Unit DraftFault → Type 0
IsFollowed setup calls call new (Ok done) = IsAfter setup (calls ++ call ∷ []) new
IsFollowed setup calls call new (Err (Bad reason)) =
    (draft_of setup (calls ++ call ∷ []) ≡ Err reason) × (new.closed ≡ true)
IsFollowed setup calls call new (Err Closed) = ⊥
IsFollowed setup calls call new (Err Memory) = IsAfter setup calls new

-- an open draft that stands for what the calls made answers one call more so
abbrev pub AnswersFollow : Type 0
AnswersFollow =
    (setup : Setup) (calls : List Call) (call : Call) (old new : DraftState) (answer : Result Unit DraftFault)
    → IsAfter setup calls old
    → ((draft : Draft) → StandsFor setup old draft → IsAnswer setup draft call old new answer)
    → IsFollowed setup calls call new answer

-- where a call was answered that it would be done, the next call, with that same call, is done
abbrev pub ReadyIsDone : Type 0
ReadyIsDone =
    (setup : Setup) (draft : Draft) (call : Call) (old readied new : DraftState) (answer : Result Unit DraftFault)
    → IsReadied setup draft call old readied (Ok tt)
    → (StandsFor setup readied draft → IsAnswer setup draft call readied new answer)
    → (has_room_for call readied ≡ true → answer ≢ Err Memory)
    → (answer ≡ Ok tt) × StandsFor setup new (effect draft call)
