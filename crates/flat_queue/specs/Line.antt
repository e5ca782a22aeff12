-- the presents of a session that no frame has taken
use Rattle.std.specs.Prelude.{◌≡◌, ℕ, ◌+◌, ◌-◌, Bool, cond, ◌==◌, List, [], ◌∷◌, ◌++◌, length, take_while}
use Rattle.flat_base.specs.declared.ids.FenceNo.{FenceNo}
use Rattle.flat_base.specs.declared.limits.TheConstants.{FIRST_CREDITS, FULL_CREDITS}
use Rattle.flat_scene.specs.declared.calls.PresentArgs.{PresentArgs}
use Rattle.flat_scene.specs.Frames.{is_ready}
use Rattle.flat_queue.specs.declared.queue.WaitingPresent.{WaitingPresent}

-- how many presents were taken, and those that wait, the oldest first
pub record Line (T : Type 0) : Type 0 where
  pub taken : ℕ
  pub waiting : List (WaitingPresent T)

-- how many may wait, where so many were taken
abbrev pub most_of : ℕ → ℕ
most_of taken = cond (taken == 0) FIRST_CREDITS FULL_CREDITS

-- how many presents may be made
abbrev pub credits_of : {T : Type 0} → Line T → ℕ
credits_of line = most_of line.taken - length line.waiting

-- of the presents that wait, the longest prefix in which each is ready
abbrev pub ready_of : {T : Type 0} → ℕ → (FenceNo → Bool) → List (WaitingPresent T) → List (WaitingPresent T)
ready_of time is_signalled = take_while (λ kept. is_ready time is_signalled kept.args)

-- one more waits
abbrev pub pushed : {T : Type 0} → Line T → T → PresentArgs → Line T
pushed line item args = record {
  taken = line.taken;
  waiting = line.waiting ++ record { item = item; args = args } ∷ [];
}

-- The first was taken, and this is it.
pub record TakesFirst {T : Type 0} (present : WaitingPresent T) (old new : Line T) : Type 0 where
  pub waiting : old.waiting ≡ present ∷ new.waiting
  pub taken : new.taken ≡ old.taken + 1
