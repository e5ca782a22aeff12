-- For each reason, a line that is refused for it, and the nearest line that is not.
use Rattle.std.specs.Prelude.{◌≡◌, ℕ, zero, suc, pos, List, [], ◌∷◌, ◌++◌, ◌-◌, replicate, Option, Some, None}
use Rattle.std.specs.Prelude.{option_and_then, unwrap_or}
use Rattle.std.specs.Result.{result_ok}
use Rattle.flat_base.specs.declared.errors.Reason.{Reason}
use Rattle.flat_base.specs.declared.errors.Reason.TheVariants.{ZeroId, IdInUse, UnknownTransform, UnknownContent}
use Rattle.flat_base.specs.declared.errors.Reason.TheVariants.{WrongContent, AlreadyChild, NotChild, BadScale}
use Rattle.flat_base.specs.declared.errors.Reason.TheVariants.{BadOpacity, BadRect, BadSize, BadBuffer, TooManyRegions}
use Rattle.flat_base.specs.declared.errors.Reason.TheVariants.{HasView, NoView, TokenNotHeld, Cycle, TreeTooLarge}
use Rattle.flat_base.specs.declared.errors.Reason.TheVariants.{ViewportTwice, TooManyNamed, TooManyChildren}
use Rattle.flat_base.specs.declared.errors.Reason.TheVariants.{TooManyFences}
use Rattle.flat_base.specs.declared.ids.Actor.TheVariants.{Session}
use Rattle.flat_base.specs.declared.shapes.IntRect.{IntRect}
use Rattle.flat_scene.specs.declared.calls.Call.{Call}
use Rattle.flat_scene.specs.declared.calls.Call.TheVariants as call
use Rattle.flat_scene.specs.declared.calls.HitRegion.{HitRegion}
use Rattle.flat_scene.specs.declared.calls.Watch.TheVariants as watch
use Rattle.flat_scene.specs.declared.calls.Interaction.TheVariants.{Default}
use Rattle.flat_scene.specs.declared.journal.Entry.{Entry}
use Rattle.flat_scene.specs.declared.journal.EntryKind.TheVariants as kind
use Rattle.flat_scene.specs.declared.journal.Reply.{Reply}
use Rattle.flat_scene.specs.declared.journal.Reply.TheVariants as reply
use Rattle.flat_scene.specs.declared.script.SessionLine.{SessionLine}
use Rattle.flat_scene.specs.declared.script.SessionLine.TheVariants as line
use Rattle.flat_scene.specs.declared.setup.Setup.{Setup}
use Rattle.flat_scene.specs.Draft.{Draft, Name, empty_draft, no_inset}
use Rattle.flat_scene.specs.Effect.{draft_of}
use Rattle.flat_scene.specs.History.{◌▹◌, calls}
use Rattle.flat_scene.specs.Interleave.{entry_of_line}
use Rattle.flat_rules.specs.Legal.{reply_to}
use Rattle.flat_examples.specs.Words.{s, f, p, t, c, display_over, over, setup_of, by_session, present}

-- One session owns everything: the view of the display's pair, both ends of another pair, and two buffers of 8 by 8.
abbrev pub setup : Setup
setup = record (setup_of 1 (display_over 1 ∷ over 1 1 ∷ []) [])
    { buffers = (record { owner = s 1; count = 2; w = 8; h = 8 }) ∷ [] }

-- the reason in a reply
abbrev pub reason_in : Reply → Option Reason
reason_in (reply.Closed error reason) = reason
reason_in _ = None

-- the session's draft after its entries, and after calls that no entry carries yet
abbrev pub draft_after : List Entry → List Call → Draft
draft_after before pending = unwrap_or (result_ok (draft_of setup (calls (s 1) before ++ pending))) empty_draft

-- A line of the session, with the entries before it and the draft of all calls before it.
pub record Case : Type 0 where
  pub before : List Entry
  pub draft : Draft
  pub text : SessionLine

-- the reason for which the line is refused: that of the reply to its entry
abbrev pub refused_for : Case → Option Reason
refused_for case =
    option_and_then (λ kind. reason_in (reply_to setup case.before (Session (s 1)) [] kind))
    (entry_of_line setup case.draft case.text)

-- A line that is refused, and one that is not.
pub record Row : Type 0 where
  pub wrong : Case
  pub right : Case

-- a line after some entries and some calls that no entry carries yet
abbrev pub line_after : List Entry → List Call → SessionLine → Case
line_after before pending text = record { before = before; draft = draft_after before pending; text = text }

-- a call, or a present, after some calls
abbrev pub call_after : List Call → Call → Case
call_after pending next = line_after [] pending (line.Call next)

abbrev pub present_after : List Call → Case
present_after pending = line_after [] pending (line.Present (present [] []))

-- two calls, of which the first is refused, after the same calls
abbrev pub calls_after : List Call → Call → Call → Row
calls_after pending wrong right = record { wrong = call_after pending wrong; right = call_after pending right }

-- ---- what was called before

-- the transforms from 1 to a number
abbrev pub transforms : ℕ → List Call
transforms zero = []
transforms (suc n) = transforms n ++ call.CreateTransform (t (suc n)) ∷ []

-- the transforms from 1 to a number become children of one
abbrev pub children : ℕ → ℕ → List Call
children parent zero = []
children parent (suc n) = children parent n ++ call.AddChild (t parent) (t (suc n)) ∷ []

-- a path of so many transforms, each below the one before, where the first is the root
abbrev pub links : ℕ → List Call
links zero = []
links (suc n) = links n ++ call.AddChild (t (suc n)) (t (suc (suc n))) ∷ []

abbrev pub path : ℕ → List Call
path n = transforms n ++ links (n - 1) ++ call.SetRootTransform (t 1) ∷ []

abbrev pub image : List Call
image = call.CreateImage (c 1) (record { 0 = 0 }) 0 8 8 ∷ []

abbrev pub area : ℕ → ℕ → Option IntRect
area w h = Some (record { x = pos 0; y = pos 0; w = pos w; h = pos h })

abbrev pub regions : ℕ → List HitRegion
regions n = replicate n (record { area = None; interaction = Default })

-- the entry that made a viewport, with a root and a child of it
abbrev pub with_viewport : List Entry
with_viewport = []
    ▹ by_session 1 1 (transforms 2 ++ call.AddChild (t 1) (t 2) ∷ call.SetRootTransform (t 1)
    ∷ call.CreateViewport (c 1) (p 1) 10 10 no_inset ∷ [])
    (kind.Viewport (p 1) (record { w = 10; h = 10; inset = no_inset })) reply.Done

-- the entry that made the view of the display's pair
abbrev pub with_view : List Entry
with_view = [] ▹ by_session 1 1 (call.CreateView (p 0) ∷ []) (kind.View (p 0)) reply.Done

-- a call for one more transform, in a draft that has so many names
abbrev pub names : ℕ → List Name
names zero = []
names (suc n) = (record { id = suc n; serial = suc n }) ∷ names n

abbrev pub with_names : ℕ → Case
with_names n = record {
  before = [];
  draft = record empty_draft { transform_names = names n };
  text = line.Call (call.CreateTransform (t (suc n)));
}

-- ---- the rows, in the order of the reasons' numbers

abbrev pub row_of : Reason → Row
row_of ZeroId = calls_after [] (call.CreateTransform (t 0)) (call.CreateTransform (t 1))
row_of IdInUse = calls_after (transforms 1) (call.CreateTransform (t 1)) (call.CreateTransform (t 2))
row_of UnknownTransform =
    calls_after (transforms 1) (call.SetTranslation (t 2) (pos 0) (pos 0)) (call.SetTranslation (t 1) (pos 0) (pos 0))
row_of UnknownContent = calls_after image (call.ReleaseImage (c 2)) (call.ReleaseImage (c 1))
row_of WrongContent = calls_after image (call.ReleaseFilledRect (c 1)) (call.ReleaseImage (c 1))
row_of AlreadyChild =
    calls_after (transforms 3 ++ call.AddChild (t 1) (t 2) ∷ []) (call.AddChild (t 1) (t 2)) (call.AddChild (t 1) (t 3))
row_of NotChild = calls_after (transforms 3 ++ call.AddChild (t 1) (t 2) ∷ []) (call.RemoveChild (t 1) (t 3))
    (call.RemoveChild (t 1) (t 2))
row_of BadScale = calls_after (transforms 1) (call.SetScale (t 1) 16777217 1) (call.SetScale (t 1) 16777216 1)
row_of BadOpacity = calls_after (transforms 1) (call.SetOpacity (t 1) 65537) (call.SetOpacity (t 1) 65536)
row_of BadRect =
    calls_after (transforms 1) (call.SetClipBoundary (t 1) (area 1 0)) (call.SetClipBoundary (t 1) (area 1 1))
row_of BadSize =
    calls_after [] (call.CreateImage (c 1) (record { 0 = 0 }) 0 8 9) (call.CreateImage (c 1) (record { 0 = 0 }) 0 8 8)
row_of BadBuffer =
    calls_after [] (call.CreateImage (c 1) (record { 0 = 0 }) 2 8 8) (call.CreateImage (c 1) (record { 0 = 0 }) 1 8 8)
row_of TooManyRegions =
    calls_after (transforms 1) (call.SetHitRegions (t 1) (regions 17)) (call.SetHitRegions (t 1) (regions 16))
row_of HasView = record {
  wrong = line_after with_view [] (line.Call (call.CreateView (p 1)));
  right = call_after [] (call.CreateView (p 1));
}
row_of NoView =
    record { wrong = line_after [] [] (line.Get watch.Status); right = line_after with_view [] (line.Get watch.Status) }
row_of TokenNotHeld = record {
  wrong = line_after with_view (call.ReleaseView ∷ []) (line.Call (call.CreateView (p 0)));
  right = line_after with_view (call.ReleaseView ∷ []) (line.Call (call.CreateView (p 1)));
}
row_of Cycle =
    record { wrong = present_after (path 2 ++ call.AddChild (t 2) (t 1) ∷ []); right = present_after (path 2) }
row_of TreeTooLarge = record { wrong = present_after (path 65); right = present_after (path 64) }
row_of ViewportTwice = record {
  wrong = line_after with_viewport (call.SetContent (t 1) (c 1) ∷ call.SetContent (t 2) (c 1) ∷ [])
      (line.Present (present [] []));
  right = line_after with_viewport (call.SetContent (t 1) (c 1) ∷ []) (line.Present (present [] []));
}
row_of TooManyNamed = record { wrong = with_names 1024; right = with_names 1023 }
row_of TooManyChildren = record {
  wrong = call_after (transforms 66 ++ children 66 64) (call.AddChild (t 66) (t 65));
  right = call_after (transforms 66 ++ children 66 63) (call.AddChild (t 66) (t 65));
}
row_of TooManyFences = record {
  wrong = line_after [] [] (line.Present (present (replicate 17 (f 0)) []));
  right = line_after [] [] (line.Present (present (replicate 16 (f 0)) []));
}

-- A row's wrong line is refused for this reason, and its right line is not refused.
pub record IsGiven (reason : Reason) (row : Row) : Type 0 where
  pub refused : refused_for row.wrong ≡ Some reason
  pub accepted : refused_for row.right ≡ None

-- every reason has such a row
abbrev pub EachReasonIsGiven : Type 0
EachReasonIsGiven = (reason : Reason) → IsGiven reason (row_of reason)
