-- A misuse, and the close that follows.
use Rattle.std.proofs.Common.{◌≡◌, ℕ, ◌++◌, [], ◌∷◌, Bool, true, false, Option, Some, None, is_some, Result, Ok, Err, IsErr, refl, sym, ap, ◌∙◌, subst}
use Rattle.flat_base.specs.declared.errors.FlatlandError.{FlatlandError}
use Rattle.flat_base.specs.declared.errors.FlatlandError.TheVariants.{BadOperation}
use Rattle.flat_base.specs.declared.errors.Reason.{Reason}
use Rattle.flat_base.specs.declared.ids.Actor.TheVariants.{Session}
use Rattle.flat_scene.specs.declared.calls.Call.{Call}
use Rattle.flat_scene.specs.declared.journal.EntryKind.{EntryKind}
use Rattle.flat_scene.specs.declared.journal.EntryKind.TheVariants as kinds
use Rattle.flat_scene.specs.declared.journal.Reply.{Reply}
use Rattle.flat_scene.specs.declared.journal.Reply.TheVariants.{Closed}
use Rattle.flat_scene.specs.declared.script.WaitCondition.{WaitCondition}
use Rattle.flat_scene.specs.declared.script.SessionLine.{SessionLine}
use Rattle.flat_scene.specs.declared.script.SessionLine.TheVariants as line
use Rattle.flat_scene.specs.Interleave.{entry_of_call, or_close}
use Rattle.flat_rules.specs.Legal.{reply_to}
use Rattle.flat_client.specs.declared.error.CallError.{CallError}
use Rattle.flat_client.specs.declared.error.CallError.TheVariants as error
use Rattle.flat_client.specs.Clients.{Answers, ClientView, Enters, IsClosedBy, IsFree, IsMisused, IsSettledBy, MakesEntry, Waits, due, misuse_now, setup_for}
use Rattle.flat_client.specs.Laws.{ClosesFor, IsOwedFor, MisusesAreRefused, MisusesHaveTheirReason}
use Rattle.flat_client.proofs.Answering.{made_reply}

pub misuses_are_refused : MisusesAreRefused
misuses_are_refused call reason old new (Ok done) first answers = absurd (let wrong : Some reason ≡ None = sym first ∙ answers.right in cc)
misuses_are_refused call reason old new (Err why) first answers = refl

reason_of : (why : Option Reason) → is_some why ≡ true → (reason : Reason) × (why ≡ Some reason)
reason_of None some = absurd (let wrong : false ≡ true = some in cc)
reason_of (Some reason) some = (reason, refl)

-- the entry of a misuse is answered Closed, with its first reason
closed_for : (call : Call) (reason : Reason) (owing new : ClientView) (why : Option FlatlandError) (because : Option Reason)
    → misuse_now owing call ≡ Some reason → MakesEntry (line.Call call) (Closed why because) owing new → (why ≡ Some BadOperation) × (because ≡ Some reason)
closed_for call reason owing new why because first makes =
    let replied = made_reply (line.Call call) (Closed why because) owing new makes in
    let of_line : Some (kinds.Close (Some reason)) ≡ Some makes.kind = ap (λ (r : Option Reason). or_close r (entry_of_call call)) (sym first)
    ∙ makes.of_line in
    let kind : makes.kind ≡ kinds.Close (Some reason) = cc in
    let said : Closed why because ≡ Closed (Some BadOperation) (Some reason) =
    replied.1 ∙ ap (reply_to (setup_for owing) replied.0 (Session owing.seat.session) (owing.seat.pending ++ call ∷ [])) kind in
    (cc, cc)

-- a client that owes a misuse
module _ (call : Call) (reason : Reason) (owing : ClientView) (opened : owing.seat.closed ≡ false) (owes : owing.owed ≡ Some call)
    (first : misuse_now owing call ≡ Some reason) where
  free-not : IsFree owing → ⊥
  free-not free = let wrong : Some call ≡ None = sym owes ∙ free.nothing_owed in cc

  entry_closes : (text : SessionLine) (answer : Result Reply CallError) (new : ClientView) → Enters text owing new answer → ClosesFor reason answer
  entry_closes text (Ok answer) new enters = absurd (free-not enters.0)
  entry_closes text (Err error.NoMemory) new enters = tt
  entry_closes text (Err error.NotOwned) new enters = absurd (free-not enters.0)
  entry_closes text (Err error.Full) new enters = absurd (free-not enters.0)
  entry_closes text (Err error.Misused) new enters = enters
  entry_closes text (Err (error.Unmet value)) new enters = enters
  entry_closes text (Err (error.Closed why because)) new enters =
      let B : Bool → Type 0 = IsClosedBy text (why, because) owing new in
      let D : Option Call → Type 0 = λ owed. MakesEntry (due text owed) (Closed why because) owing new in
      closed_for call reason owing new why because first (subst D owes (subst B opened enters))

  settled_for : (why : Option FlatlandError) (because : Option Reason) (new : ClientView) → IsSettledBy (why, because) owing new owing.seat.closed
      → (why ≡ Some BadOperation) × (because ≡ Some reason)
  settled_for why because new settles =
      let B : Bool → Type 0 = IsSettledBy (why, because) owing new in
      let settled : IsSettledBy (why, because) owing new false = subst B opened settles in
      let other : Call = settled.0 in
      let same : other ≡ call = (let both : Some other ≡ Some call = sym settled.1 ∙ owes in cc) in
      let M : Call → Type 0 = λ it. MakesEntry (line.Call it) (Closed why because) owing new in
      closed_for call reason owing new why because first (subst M same settled.2)

  wait_closes : (c : WaitCondition) (answer : Result ℕ CallError) (new : ClientView) → Waits c owing new answer → ClosesFor reason answer
  wait_closes c (Ok value) new waits = absurd (free-not waits.0)
  wait_closes c (Err error.NoMemory) new waits = tt
  wait_closes c (Err error.NotOwned) new waits = absurd (free-not waits.0)
  wait_closes c (Err error.Full) new waits = waits
  wait_closes c (Err error.Misused) new waits = waits
  wait_closes c (Err (error.Unmet value)) new waits = absurd (free-not waits.0)
  wait_closes c (Err (error.Closed why because)) new waits = settled_for why because new waits

  pub owed_for : IsOwedFor reason owing
  owed_for = record { enters = entry_closes; waits = wait_closes }

pub misuses_have_their_reason : MisusesHaveTheirReason
misuses_have_their_reason call old owing private free answers =
    let M : Option Call → Type 0 = IsMisused call old owing in
    let misused : IsMisused call old owing None = subst M free.nothing_owed answers in
    let it = reason_of (misuse_now old call) misused.2 in
    let is : owing ≡ record old { owed = Some call } = misused.3 in
    let O : ClientView → Type 0 = IsOwedFor it.0 in
    (it.0, it.1, subst O (sym is) (owed_for call it.0 (record old { owed = Some call }) misused.0 refl it.1))
