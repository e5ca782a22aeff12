-- How what is kept of a session stands for what the rules say.
use Rattle.std.specs.Prelude.{◌≡◌, ℕ, ◌+◌, ◌-◌, ◌==◌, cond, ◌<◌, ◌≤◌, true, false, List, [], length, map, All, Option}
use Rattle.std.specs.Prelude.{Some, vec_capacity}
use Rattle.std.specs.Arc.{arc_value}
use Rattle.std.specs.declared.sync.Arc.{Arc}
use Rattle.std.specs.declared.alloc.Global.{Global}
use Rattle.flat_base.specs.declared.ids.FenceNo.{FenceNo}
use Rattle.flat_base.specs.declared.limits.TheConstants.{FIRST_CREDITS, FULL_CREDITS}
use Rattle.flat_scene.specs.declared.calls.PresentArgs.{PresentArgs}
use Rattle.flat_scene.specs.declared.setup.Setup.{Setup}
use Rattle.flat_scene.specs.declared.trees.Tree.{Tree}
use Rattle.flat_scene.specs.History.{Published}
use Rattle.flat_queue.specs.declared.queue.WaitingPresent.{WaitingPresent}
use Rattle.flat_snap.specs.declared.snapshot.Snapshot.{Snapshot}
use Rattle.flat_states.specs.declared.state.SessionState.{SessionState}
use Rattle.flat_states.specs.Seen.{Seen}
use Rattle.flat_rules.specs.Shown.{tree_of}

-- what a present that waits in a queue stands for: what it carries, and its tree
abbrev pub kept_of : WaitingPresent (Arc Snapshot Global) → PresentArgs × Option Tree
kept_of kept = (kept.args, Some (arc_value kept.item))

-- the same of a present of the history
abbrev pub meant : Setup → Published → PresentArgs × Option Tree
meant setup present = (present.args, tree_of setup present)

abbrev pub release_of : Published → List FenceNo
release_of present = present.args.release

-- all these fences are below a number
abbrev pub Below : ℕ → List FenceNo → Type 0
Below n = All (λ f. f.0 < n)

-- What is kept of a session stands for what is seen of it.
-- Once what waited when it was closed was let go, its queue is empty.
pub record IsKept (setup : Setup) (seen : Seen) (state : SessionState) : Type 0 where
  pub closed : state.closed ≡ seen.closed
  pub account : state.account ≡ seen.account
  pub count : state.queue.taken + length state.queue.waiting ≡ seen.account.presents
  pub few : length state.queue.waiting ≤ 5
  pub taken : state.let_go ≡ false → state.queue.taken ≡ seen.taken
  pub waiting : state.let_go ≡ false → map kept_of state.queue.waiting ≡ map (meant setup) seen.waiting
  pub let_go : state.let_go ≡ true → (seen.closed ≡ true) × (state.queue.waiting ≡ []) × (seen.going ≡ seen.waiting)
  pub acquire : All (λ kept. Below (length setup.fences) kept.args.acquire) state.queue.waiting
  pub release : All (λ kept. Below (length setup.fences) kept.args.release) state.queue.waiting
  pub going : state.going.items ≡ map release_of seen.going
  pub going_below : All (Below (length setup.fences)) state.going.items
  pub took : state.took ≡ seen.took
  pub goes : length state.going.items ≤ 5
  pub room : 5 ≤ vec_capacity state.going

-- ---- what a session's state answers

-- how many presents a frame took: where what waited went, the others
abbrev pub taken_in : SessionState → ℕ
taken_in state = cond state.let_go (state.account.presents - length state.going.items) state.queue.taken

-- how many presents wait
abbrev pub waiting_in : SessionState → ℕ
waiting_in state = cond state.let_go (length state.going.items) (length state.queue.waiting)

-- how many it may make
abbrev pub credits_in : SessionState → ℕ
credits_in state = cond (taken_in state == 0) FIRST_CREDITS FULL_CREDITS - waiting_in state
