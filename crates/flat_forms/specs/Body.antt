-- The lines of the body.
use Rattle.std.specs.Prelude.{ℕ, nat_le, nat_lt, Bool, true, false, not, List, [], ◌∷◌, ◌++◌, length, Option, Some}
use Rattle.std.specs.Prelude.{None, Ok, Err, codes, count_by, fold, max, if◌then◌else◌}
use Rattle.std.specs.List.{list_any, filter_map, before_first, after_first}
use Rattle.std.specs.Option.{option_map_or}
use Rattle.std.specs.Str.{bytes_eq}
use Rattle.flat_base.specs.declared.ids.Actor.{Actor}
use Rattle.flat_base.specs.declared.ids.Actor.TheVariants.{Display, Session, Probe}
use Rattle.flat_base.specs.declared.ids.SessionNo.{SessionNo}
use Rattle.flat_base.specs.declared.ids.FenceNo.{FenceNo}
use Rattle.flat_scene.specs.declared.calls.PresentArgs.{PresentArgs}
use Rattle.flat_scene.specs.declared.calls.Watch.TheVariants as watch
use Rattle.flat_scene.specs.declared.script.WaitCondition.{WaitCondition}
use Rattle.flat_scene.specs.declared.script.WaitCondition.TheVariants as cond
use Rattle.flat_scene.specs.declared.script.SessionLine.{SessionLine}
use Rattle.flat_scene.specs.declared.script.SessionLine.TheVariants as line
use Rattle.flat_scene.specs.declared.script.DisplayLine.{DisplayLine}
use Rattle.flat_scene.specs.declared.script.DisplayLine.TheVariants as display
use Rattle.flat_scene.specs.declared.script.ProbeLine.{ProbeLine}
use Rattle.flat_scene.specs.declared.script.ProbeLine.TheVariants as probe
use Rattle.flat_scene.specs.declared.script.LineBody.{LineBody}
use Rattle.flat_scene.specs.declared.script.LineBody.TheVariants as body
use Rattle.flat_base.specs.declared.limits.TheConstants.{FRAMES_MAX, LINES_PER_ACTOR_MAX}
use Rattle.flat_places.specs.declared.kinds.FaultKind.TheVariants.{UnknownActor, UnknownCall, WrongCount, Limit}
use Rattle.flat_places.specs.declared.kinds.FaultKind.TheVariants.{BadOrder}
use Rattle.flat_places.specs.declared.script.Script.{Script}
use Rattle.flat_places.specs.Forms.{Word, Reading, Form, both, unless_kind, give, place, whole, one_or_more, named}
use Rattle.flat_places.specs.Forms.{mapped, ◌<$>◌, ◌<*>◌}
use Rattle.flat_places.specs.Names.{actor_named, is_actor}
use Rattle.flat_places.specs.Places.{u32, time, content, point, ratio, unsquashable, session, fence, fence_word}
use Rattle.flat_forms.specs.Calls.{call_named, call_form}

-- Present

-- `acquire` and its fences, then `release` and its fences, each list with one or more
abbrev pub fence_lists : (Word → Reading FenceNo) → List Word → Reading (List FenceNo × List FenceNo)
fence_lists test [] = Ok ([], [])
fence_lists test (w ∷ words) =
    let is_release : Word → Bool = λ x. bytes_eq x (codes "release") in
    if bytes_eq w (codes "acquire") then both (λ a r. (a, r)) (one_or_more test (before_first is_release words))
    (if list_any is_release words then one_or_more test (after_first is_release words) else Ok [])
    else (if is_release w then both (λ a r. (a, r)) (Ok []) (one_or_more test words) else Err WrongCount)

-- a time, `unsquashable` or not, and the lists
abbrev pub present : Script → SessionNo → Form PresentArgs
present s a =
    (λ t u lists. record { time = t; acquire = lists.0; release = lists.1; unsquashable = u })
    <$> time <*> unsquashable s.version <*> (λ words. (fence_lists (fence_word s (Session a)) words, []))

-- Wait

-- what a session may wait for
abbrev pub session_condition : Script → SessionNo → List Word → Reading WaitCondition
session_condition s a = named s.version UnknownCall (
    (codes "frames", whole (cond.Frames <$> u32)) ∷ (codes "credits", whole (cond.Credits <$> u32)) ∷
    (codes "taken", whole (cond.Taken <$> u32)) ∷ (codes "answers", whole (cond.Answers <$> u32)) ∷
    (codes "fence", whole (cond.Fence <$> fence s (Session a))) ∷ [])

-- so many presents of a session
abbrev pub presents_asked : Script → Form WaitCondition
presents_asked s = (λ x n. cond.Presents x n) <$> session s <*> u32

-- what the display may wait for
abbrev pub display_condition : Script → List Word → Reading WaitCondition
display_condition s = named s.version UnknownCall (
    (codes "presents", whole (presents_asked s)) ∷ (codes "fence", whole (cond.Fence <$> fence s Display)) ∷ [])

-- sessions

-- a get of a viewport
abbrev pub child_asked : Form SessionLine
child_asked = (λ c. line.Get (watch.Child c)) <$> content

-- a line of a session that is no call
abbrev pub other_line : Script → SessionNo → List Word → Reading SessionLine
other_line s a = named s.version UnknownCall (
    (codes "Present", whole (line.Present <$> present s a)) ∷
    (codes "GetLayout", whole (give (line.Get watch.Layout))) ∷
    (codes "GetStatus", whole (give (line.Get watch.Status))) ∷
    (codes "GetChildStatus", whole child_asked) ∷
    (codes "Signal", whole (line.Signal <$> fence s (Session a))) ∷
    (codes "Poll", whole (give line.Poll)) ∷
    (codes "Wait", (λ rest. mapped line.Wait (session_condition s a rest))) ∷
    (codes "Disconnect", whole (give line.Disconnect)) ∷ [])

-- a line of a session: a call, or one of the other lines
abbrev pub session_line : Script → SessionNo → List Word → Reading SessionLine
session_line s a [] = Err UnknownCall
session_line s a (w ∷ words) =
    option_map_or (λ n. mapped line.Call (whole (call_form s a n) words)) (call_named s.version w)
    (other_line s a (w ∷ words))

-- the display

-- the time of a `begin`
abbrev pub time_begun : LineBody → Option ℕ
time_begun (body.Display d) = of d
  where
    of : DisplayLine → Option ℕ
    of (display.Begin t) = Some t
    of _ = None
time_begun _ = None

-- a `done`
abbrev pub ends_frame : LineBody → Bool
ends_frame (body.Display d) = of d
  where
    of : DisplayLine → Bool
    of display.Done = true
    of _ = false
ends_frame _ = false

-- the times of the begins so far
abbrev pub begin_times : Script → List ℕ
begin_times s = filter_map (λ l. time_begun l.body) s.lines

-- how many frames are done
abbrev pub dones : Script → ℕ
dones s = count_by (λ l. ends_frame l.body) s.lines

-- a frame is open
abbrev pub is_open : Script → Bool
is_open s = nat_lt (dones s) (length (begin_times s))

-- the greatest of some times
abbrev pub greatest : List ℕ → ℕ
greatest ts = fold max 0 ts

-- the time, where it isn't below the least one
abbrev pub in_order : ℕ → Reading ℕ → Reading ℕ
in_order least (Ok t) = if nat_le least t then Ok t else Err BadOrder
in_order least (Err k) = Err k

-- a time that no earlier begin exceeds
abbrev pub begin_place : Script → Form ℕ
begin_place s = place (λ w. in_order (greatest (begin_times s)) (whole time (w ∷ [])))

-- a line of the display that sets its pixel ratio
abbrev pub ratio_line : Form DisplayLine
ratio_line = display.Dpr <$> ratio

-- the time of a begin, of which there may be so many, and none while a frame is open
abbrev pub begin_time : Script → List Word → Reading ℕ
begin_time s rest =
    unless_kind Limit (nat_lt (length (begin_times s)) FRAMES_MAX)
    (unless_kind BadOrder (not (is_open s)) (whole (begin_place s) rest))

-- a line of the display
abbrev pub display_line : Script → List Word → Reading DisplayLine
display_line s = named s.version UnknownCall (
    (codes "begin", (λ rest. mapped display.Begin (begin_time s rest))) ∷
    (codes "done", (λ rest. unless_kind BadOrder (is_open s) (whole (give display.Done) rest))) ∷
    (codes "Signal", whole (display.Signal <$> fence s Display)) ∷
    (codes "Wait", (λ rest. mapped display.Wait (display_condition s rest))) ∷
    (codes "hit", whole (point (λ x y. display.Hit x y))) ∷
    (codes "dpr", whole ratio_line) ∷ [])

-- probes

-- a line of a probe, in scripts of that version
abbrev pub probe_line : ℕ → List Word → Reading ProbeLine
probe_line version = named version UnknownCall (
    (codes "hit", whole (point (λ x y. probe.Hit x y))) ∷ (codes "await", whole (probe.Await <$> u32)) ∷ [])

-- all actors

-- what stands behind an actor
abbrev pub actor_line : Script → Actor → List Word → Reading LineBody
actor_line s Display words = mapped body.Display (display_line s words)
actor_line s (Session a) words = mapped body.Session (session_line s a words)
actor_line s (Probe p) words = mapped body.Probe (probe_line s.version words)

-- how many lines of the actor there are
abbrev pub lines_of_actor : Script → Actor → ℕ
lines_of_actor s a = count_by (λ l. is_actor l.actor a) s.lines

-- the script with the line of that number at its end
abbrev pub with_line : Script → ℕ → Actor → LineBody → Script
with_line s n a b = record s { lines = s.lines ++ record { number = n; actor = a; body = b } ∷ [] }

-- an actor has at most so many lines
abbrev pub counted_line : Script → ℕ → Actor → List Word → Reading Script
counted_line s n a words =
    unless_kind Limit (nat_lt (lines_of_actor s a) LINES_PER_ACTOR_MAX)
    (mapped (with_line s n a) (actor_line s a words))

-- an actor and its line
abbrev pub body_line : Script → ℕ → List Word → Reading Script
body_line s n [] = Err UnknownActor
body_line s n (w ∷ words) = option_map_or (λ a. counted_line s n a words) (actor_named s w) (Err UnknownActor)
