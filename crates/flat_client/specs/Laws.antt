-- Laws of the definitions.
use Rattle.std.specs.Prelude.{◌≡◌, ℕ, Some, None, Result, Err, IsErr}
use Rattle.flat_base.specs.declared.errors.FlatlandError.TheVariants.{BadOperation}
use Rattle.flat_base.specs.declared.errors.Reason.{Reason}
use Rattle.flat_scene.specs.declared.calls.Call.{Call}
use Rattle.flat_scene.specs.declared.journal.Reply.{Reply}
use Rattle.flat_scene.specs.declared.script.WaitCondition.{WaitCondition}
use Rattle.flat_scene.specs.declared.script.SessionLine.{SessionLine}
use Rattle.flat_scene.specs.Interleave.{entry_of_call}
use Rattle.flat_client.specs.declared.error.CallError.{CallError}
use Rattle.flat_client.specs.declared.error.CallError.TheVariants as error
use Rattle.flat_client.specs.Clients.{Answers, ClientView, Enters, IsFree, Waits, misuse_now}

-- a call against which the rules have a reason is never done
abbrev pub MisusesAreRefused : Type 0
MisusesAreRefused =
    (call : Call) (reason : Reason) (old new : ClientView) (answer : Result Unit CallError)
    → misuse_now old call ≡ Some reason → Answers call old new answer → IsErr answer

-- the session closes for that reason, unless memory runs out
abbrev pub ClosesFor : {A : Type 0} → Reason → Result A CallError → Type 0
ClosesFor reason (Err (error.Closed why because)) = (why ≡ Some BadOperation) × (because ≡ Some reason)
ClosesFor reason (Err error.NoMemory) = Unit {0}
ClosesFor reason _ = ⊥

-- A misuse is owed: whatever entry or wait comes next, the session closes for the first reason that the rules have
-- against the call.
pub record IsOwedFor (reason : Reason) (owing : ClientView) : Type 0 where
  pub enters : (text : SessionLine) (answer : Result Reply CallError) (new : ClientView) → Enters text owing new answer
      → ClosesFor reason answer
  pub waits : (c : WaitCondition) (answer : Result ℕ CallError) (new : ClientView) → Waits c owing new answer
      → ClosesFor reason answer

-- a private call of a client that owed nothing is a misuse for the first reason of the rules
abbrev pub MisusesHaveTheirReason : Type 0
MisusesHaveTheirReason =
    (call : Call) (old owing : ClientView) → entry_of_call call ≡ None → IsFree old
    → Answers call old owing (Err error.Misused)
    → (reason : Reason) × (misuse_now old call ≡ Some reason) × IsOwedFor reason owing
