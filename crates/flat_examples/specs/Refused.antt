-- Entries that a history refuses, each beside an entry that it accepts.
use Rattle.std.specs.Prelude.{ℕ, ◌≡◌, ◌↔◌, ◌-◌, Bool, cond, List, [], ◌∷◌, ◌++◌, length, replicate, slice_get, Some}
use Rattle.std.specs.Prelude.{None}
use Rattle.flat_base.specs.declared.errors.FlatlandError.TheVariants.{BadHangingGet, BadOperation}
use Rattle.flat_base.specs.declared.errors.Reason.{Reason}
use Rattle.flat_base.specs.declared.errors.Reason.TheVariants.{ZeroId, IdInUse, BadScale, NoView, Cycle}
use Rattle.flat_scene.specs.declared.calls.Call.{Call}
use Rattle.flat_scene.specs.declared.calls.Call.TheVariants as call
use Rattle.flat_scene.specs.declared.calls.Watch.TheVariants as watch
use Rattle.flat_scene.specs.declared.journal.Entry.{Entry}
use Rattle.flat_scene.specs.declared.journal.EntryKind.TheVariants as kind
use Rattle.flat_scene.specs.declared.journal.Reply.{Reply}
use Rattle.flat_scene.specs.declared.journal.Reply.TheVariants as reply
use Rattle.flat_scene.specs.declared.journal.WatcherValue.{WatcherValue}
use Rattle.flat_scene.specs.declared.journal.WatcherValue.TheVariants as tell
use Rattle.flat_scene.specs.declared.setup.Setup.{Setup}
use Rattle.flat_scene.specs.History.{◌▹◌}
use Rattle.flat_rules.specs.Legal.{Legal, MayEnter, may_act, goes_on, keeps_time, has_draft, draft_with, own_call}
use Rattle.flat_rules.specs.Legal.{links_alone, owns_all, may_name, has_tree, has_watcher, refused_token, reply_to}
use Rattle.flat_scene.specs.Draft.{no_inset}
use Rattle.flat_examples.specs.Words.{f, p, t, display_over, over, fence_of, display_fence, setup_of, by_session}
use Rattle.flat_examples.specs.Words.{by_display, present}

-- What an entry must meet, by the names of `MayEnter`.
pub data Rule : Type 0 where
  acts : Rule
  lasts : Rule
  times : Rule
  drafted : Rule
  calls : Rule
  links : Rule
  owned : Rule
  named : Rule
  tree : Rule
  watcher : Rule

-- whether an entry meets each rule, after a history
abbrev pub rules_met : Setup → List Entry → Entry → List (Bool × Rule)
rules_met setup before entry =
    (may_act setup entry.kind entry.actor, acts)
    ∷ (goes_on before entry.kind entry.actor, lasts)
    ∷ (keeps_time before entry.kind, times)
    ∷ (has_draft setup before entry.actor entry.calls entry.kind, drafted)
    ∷ (own_call entry.kind (slice_get entry.calls (length entry.calls - 1)), calls)
    ∷ (links_alone entry.kind entry.calls, links)
    ∷ (owns_all setup entry.actor entry.calls entry.kind, owned)
    ∷ (may_name setup entry.actor entry.kind, named)
    ∷ (has_tree setup (draft_with setup before entry.actor entry.calls) entry.kind, tree)
    ∷ (has_watcher setup before entry.actor entry.calls entry.kind, watcher)
    ∷ []

-- the rules that are not met
abbrev pub unmet : List (Bool × Rule) → List Rule
unmet [] = []
unmet (rule ∷ rules) = cond rule.0 (unmet rules) (rule.1 ∷ unmet rules)

abbrev pub broken : Setup → List Entry → Entry → List Rule
broken setup before entry = unmet (rules_met setup before entry)

-- an entry breaks none of them if and only if it may be made
abbrev pub NoneIsBroken : Type 0
NoneIsBroken =
    (setup : Setup) (before : List Entry) (entry : Entry) →
    (broken setup before entry ≡ []) ↔ MayEnter setup before entry.actor entry.calls entry.kind

-- After a history, an entry is legal with one reply and refused with another. It breaks no rule.
pub record RefusesReply (setup : Setup) (before : List Entry) (entry : Reply → Entry)
    (right wrong : Reply) : Type 0 where
  pub accepted : Legal setup (before ▹ entry right)
  pub breaks : broken setup before (entry wrong) ≡ []
  pub refused : ¬ (Legal setup (before ▹ entry wrong))

-- After a history, one entry is legal, and another is refused. It has its reply, and breaks this rule and no other.
pub record RefusesEntry (setup : Setup) (before : List Entry) (right wrong : Entry) (rule : Rule) : Type 0 where
  pub accepted : Legal setup (before ▹ right)
  pub replied : wrong.reply ≡ reply_to setup before wrong.actor wrong.calls wrong.kind
  pub breaks : broken setup before wrong ≡ rule ∷ []
  pub refused : ¬ (Legal setup (before ▹ wrong))

-- ---- the histories

-- session 1 has the view of the display's pair, fence 0 and the viewport end of session 2's view; session 2 has
-- fence 1, and the display fence 2
abbrev pub home : Setup
home = setup_of 2 (display_over 1 ∷ over 1 2 ∷ []) (fence_of 1 ∷ fence_of 2 ∷ display_fence ∷ [])

-- session 1 makes its view
abbrev pub views : ℕ → List Call → Reply → Entry
views line carried answer = by_session 1 line carried (kind.View (p 0)) answer

-- a session polls, and no event waits
abbrev pub polls : ℕ → ℕ → List Call → Entry
polls who line carried = by_session who line carried kind.Poll (reply.Polled 0)

-- session 1 makes its first present
abbrev pub presents : ℕ → List Call → Entry
presents line carried = by_session 1 line carried (kind.Present (present [] [])) (reply.Presented 1 0)

-- session 1 is closed, for a reason or by its own wish
abbrev pub closes : ℕ → List Call → Reason → Entry
closes line carried why =
    by_session 1 line carried (kind.Close (Some why)) (reply.Closed (Some BadOperation) (Some why))

abbrev pub leaves : ℕ → List Call → Entry
leaves line carried = by_session 1 line carried (kind.Close None) (reply.Closed None None)

-- session 1 ends, so many of its lines being refused
abbrev pub ends : ℕ → ℕ → List Call → Entry
ends line refused carried = by_session 1 line carried (kind.End refused) reply.Done

abbrev pub viewed : List Entry
viewed = [] ▹ views 1 (call.CreateView (p 0) ∷ []) reply.Done

abbrev pub begun : List Entry
begun = viewed ▹ presents 2 [] ▹ by_display 3 (kind.Begin 10)

abbrev pub finished : List Entry
finished = begun ▹ by_display 4 kind.Finish

abbrev pub left : List Entry
left = viewed ▹ leaves 2 []

-- ---- wrong replies

-- a present that says one credit too many
abbrev pub WrongCredits : Type 0
WrongCredits = RefusesReply home viewed (by_session 1 2 [] (kind.Present (present [] []))) (reply.Presented 1 0)
    (reply.Presented 1 1)

-- a poll that says one event too many
abbrev pub WrongCount : Type 0
WrongCount = RefusesReply home viewed (by_session 1 2 [] kind.Poll) (reply.Polled 0) (reply.Polled 1)

-- a view end is used again
abbrev pub view_again : List Call
view_again = call.ReleaseView ∷ call.CreateView (p 0) ∷ []

abbrev pub SecondUse : Type 0
SecondUse = RefusesReply home viewed (views 2 view_again) refused_token reply.Done

-- a get of the layout is answered twice by one value, and a second get is held beside the first
abbrev pub gets : ℕ → Reply → Entry
gets line answer = by_session 1 line [] (kind.Get watch.Layout) answer

abbrev pub layout : WatcherValue
layout = tell.Layout (record { w = 100; h = 100; inset = no_inset; ratio = 65536 })

abbrev pub answered : List Entry
answered = viewed ▹ gets 2 (reply.Now layout)

abbrev pub SameAnswer : Type 0
SameAnswer = RefusesReply home answered (gets 3) reply.Held (reply.Now layout)

abbrev pub SecondGet : Type 0
SecondGet =
    RefusesReply home (answered ▹ gets 3 reply.Held) (gets 4) (reply.Closed (Some BadHangingGet) None) reply.Held

-- ---- entries that break one rule

-- an entry of a session that isn't declared
abbrev pub UndeclaredSession : Type 0
UndeclaredSession = RefusesEntry home [] (polls 2 1 []) (polls 3 1 []) acts

-- an entry of a closed session, other than its End
abbrev pub EntryAfterClose : Type 0
EntryAfterClose = RefusesEntry home left (ends 3 0 []) (polls 1 3 []) lasts

-- a begin inside a frame, a done outside of one, and a begin whose time is before the last one's
abbrev pub BeginInsideFrame : Type 0
BeginInsideFrame = RefusesEntry home begun (by_display 4 kind.Finish) (by_display 4 (kind.Begin 20)) times

abbrev pub DoneOutsideFrame : Type 0
DoneOutsideFrame = RefusesEntry home finished (by_display 5 (kind.Begin 20)) (by_display 5 kind.Finish) times

abbrev pub TimeGoesBack : Type 0
TimeGoesBack = RefusesEntry home finished (by_display 5 (kind.Begin 10)) (by_display 5 (kind.Begin 9)) times

-- a call that is a misuse, in an entry that is no Close
abbrev pub MisuseIsCarried : Type 0
MisuseIsCarried = RefusesEntry home viewed (polls 1 2 (call.CreateTransform (t 1) ∷ []))
    (polls 1 2 (call.CreateTransform (t 0) ∷ [])) drafted

-- a close for the misuse of its last call says another reason, or none
abbrev pub bad_call : List Call
bad_call = call.CreateTransform (t 0) ∷ []

abbrev pub OtherReason : Type 0
OtherReason = RefusesEntry home viewed (closes 2 bad_call ZeroId) (closes 2 bad_call IdInUse) drafted

abbrev pub MisuseIsHidden : Type 0
MisuseIsHidden = RefusesEntry home viewed (closes 2 bad_call ZeroId) (leaves 2 bad_call) drafted

-- a close carries calls after the misuse
abbrev pub CallAfterMisuse : Type 0
CallAfterMisuse =
    RefusesEntry home viewed (closes 2 bad_call ZeroId) (closes 2 (bad_call ++ call.Clear ∷ []) ZeroId) drafted

-- a close for a cycle that a draft has, and that it hasn't; for no view, and there is one
abbrev pub cycle : List Call
cycle = call.CreateTransform (t 1) ∷ call.SetRootTransform (t 1) ∷ call.AddChild (t 1) (t 1) ∷ []

abbrev pub CloseWithoutCycle : Type 0
CloseWithoutCycle = RefusesEntry home viewed (closes 2 cycle Cycle) (closes 2 [] Cycle) drafted

abbrev pub CloseDespiteView : Type 0
CloseDespiteView = RefusesEntry home viewed (closes 2 (call.ReleaseView ∷ []) NoView) (closes 2 [] NoView) drafted

-- a close for a reason that no line of any draft has
abbrev pub CloseWithoutMisuse : Type 0
CloseWithoutMisuse = RefusesEntry home viewed (leaves 2 []) (closes 2 [] BadScale) drafted

-- a session leaves with a call that uses an end
abbrev pub LeavesWithView : Type 0
LeavesWithView = RefusesEntry home [] (leaves 1 []) (leaves 1 (call.CreateView (p 0) ∷ [])) drafted

-- the End of an open session counts a refused line, and that of a closed one carries a call
abbrev pub OpenEndCounts : Type 0
OpenEndCounts = RefusesEntry home viewed (ends 2 0 []) (ends 2 1 []) drafted

abbrev pub ClosedEndCarries : Type 0
ClosedEndCarries = RefusesEntry home left (ends 3 1 []) (ends 3 1 (call.Clear ∷ [])) drafted

-- a View that doesn't carry its call
abbrev pub ViewWithoutCall : Type 0
ViewWithoutCall = RefusesEntry home [] (views 1 (call.CreateView (p 0) ∷ []) reply.Done) (views 1 [] reply.Done) calls

-- a call that uses an end, in an entry of another kind
abbrev pub LinkIsCarried : Type 0
LinkIsCarried =
    RefusesEntry home [] (polls 1 1 (call.CreateTransform (t 1) ∷ [])) (polls 1 1 (call.CreateView (p 0) ∷ [])) links

-- a session's signal of another's fence
abbrev pub FenceOfAnother : Type 0
FenceOfAnother = RefusesEntry home [] (by_session 1 1 [] (kind.Signal (f 0)) reply.Done)
    (by_session 1 1 [] (kind.Signal (f 1)) reply.Done) owned

-- the compositor's signal of a fence that isn't declared, and of one that isn't the display's
abbrev pub UndeclaredFence : Type 0
UndeclaredFence = RefusesEntry home [] (by_display 1 (kind.Signal (f 2))) (by_display 1 (kind.Signal (f 3))) named

abbrev pub FenceOfASession : Type 0
FenceOfASession = RefusesEntry home [] (by_display 1 (kind.Signal (f 2))) (by_display 1 (kind.Signal (f 1))) named

-- a present of a root below itself
abbrev pub root : List Call
root = call.CreateTransform (t 1) ∷ call.SetRootTransform (t 1) ∷ []

abbrev pub PresentOfCycle : Type 0
PresentOfCycle = RefusesEntry home viewed (presents 2 root) (presents 2 (root ++ call.AddChild (t 1) (t 1) ∷ [])) tree

-- a present with 17 acquire fences
abbrev pub with_fences : ℕ → Entry
with_fences n = by_session 1 2 [] (kind.Present (present (replicate n (f 0)) [])) (reply.Presented 1 0)

abbrev pub FencesAreTooMany : Type 0
FencesAreTooMany = RefusesEntry home viewed (with_fences 16) (with_fences 17) tree

-- a get of the layout without a view
abbrev pub GetWithoutView : Type 0
GetWithoutView = RefusesEntry home [] (polls 1 1 []) (by_session 1 1 [] (kind.Get watch.Layout) reply.Held) watcher
