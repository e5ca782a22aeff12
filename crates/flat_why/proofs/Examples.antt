-- Worked cases, computed.
use Rattle.std.proofs.Common.{ℕ, ◌≡◌, refl, true, false, List, [], ◌∷◌, map, Some, None}
use Rattle.std.specs.Prelude.{codes}
use Rattle.std.specs.Fmt.{digits}
use Rattle.flat_base.specs.declared.errors.FlatlandError.TheVariants.{BadOperation}
use Rattle.flat_base.specs.declared.errors.Reason.TheVariants.{ZeroId}
use Rattle.flat_base.specs.declared.ids.Actor.TheVariants.{Display, Session}
use Rattle.flat_base.specs.declared.ids.FenceNo.{FenceNo}
use Rattle.flat_page.specs.Words.{line_of}
use Rattle.flat_places.specs.declared.script.Script.{Script}
use Rattle.flat_scene.specs.declared.calls.Call.TheVariants as call
use Rattle.flat_scene.specs.declared.journal.Entry.{Entry}
use Rattle.flat_scene.specs.declared.journal.EntryKind.TheVariants as kind
use Rattle.flat_scene.specs.declared.journal.Reply.TheVariants as reply
use Rattle.flat_scene.specs.declared.setup.Setup.{Setup}
use Rattle.flat_scene.specs.History.{◌▹◌}
use Rattle.flat_rules.proofs.lemmas.Samples.{s, f, p, t, c, by, present}
use Rattle.flat_why.specs.declared.reasons.DetachedReason.TheVariants as cause
use Rattle.flat_why.specs.declared.reasons.MadePresent.{MadePresent}
use Rattle.flat_why.specs.declared.reasons.HoldReason.TheVariants as hold
use Rattle.flat_why.specs.declared.reasons.UnplacedReason.TheVariants as parting
use Rattle.flat_why.specs.declared.reasons.HiddenReason.TheVariants as hidden
use Rattle.flat_why.specs.declared.reasons.AttachPoint.{AttachPoint}
use Rattle.flat_why.specs.declared.reasons.AttachPoint.TheVariants as standing
use Rattle.flat_why.specs.Reasons.{hold_of, parting_of, standing_of}
use Rattle.flat_why.specs.Hidden.{hidden_in}
use Rattle.flat_why.specs.Noted.{stands_in}
use Rattle.flat_why.specs.Text.{why_lines}

-- ---- what holds a present back

abbrev due : ℕ → List FenceNo → MadePresent
due time acquire = record { session = s 1; number = 1; time = time; acquire = acquire }

-- its time comes first, then its fences in their order, then those before it
time_first : hold_of 10 (λ g. false) true (due 11 (f 0 ∷ [])) ≡ hold.Time 11
time_first = refl

first_fence : hold_of 10 (λ g. false) true (due 10 (f 3 ∷ f 0 ∷ [])) ≡ hold.Fence (f 3)
first_fence = refl

behind_others : hold_of 10 (λ g. true) false (due 10 (f 0 ∷ [])) ≡ hold.Behind
behind_others = refl

behind_an_unsquashable_one : hold_of 10 (λ g. true) true (due 10 []) ≡ hold.Unsquashable
behind_an_unsquashable_one = refl

-- ---- viewports

never_made : parting_of (p 0) None 0 None ≡ parting.Unmade
never_made = refl

-- the owner had made one present before it made the viewport: a frame has to take the second
not_seen : parting_of (p 0) (Some (record { view = None; root = None; viewports = [] })) 1 (Some 1) ≡ parting.Unshown
not_seen = refl

released : parting_of (p 0) (Some (record { view = None; root = None; viewports = [] })) 2 (Some 1) ≡ parting.Ended
released = refl

-- ---- a shell with an app whose fence isn't signalled, and another app that a misuse closes

abbrev setup : Setup
setup = record {
  width = 100;
  height = 100;
  sessions = 3;
  probes = 0;
  pairs = record { viewport = Display; view = s 1 } ∷ record { viewport = Session (s 1); view = s 2 } ∷ record { viewport = Session (s 1); view = s 3 } ∷ [];
  buffers = [];
  fences = record { owners = Session (s 2) ∷ [] } ∷ [];
  ratio = 65536;
}

abbrev script : Script
script = record {
  version = 1;
  setup = setup;
  sessions = codes "shell" ∷ codes "app" ∷ codes "bad" ∷ [];
  probes = [];
  buffers = [];
  pairs = codes "root" ∷ codes "ta" ∷ codes "tb" ∷ [];
  fences = codes "f" ∷ [];
  lines = [];
  count = 0;
}

abbrev begun : List Entry
begun = []
    ▹ by (Session (s 1)) 10 ((call.CreateView (p 0)) ∷ []) (kind.View (p 0)) reply.Done
    ▹ by (Session (s 1)) 13 ((call.CreateTransform (t 1)) ∷ (call.SetRootTransform (t 1))
    ∷ (call.CreateViewport (c 1) (p 1) 50 50 (record { top = 0; right = 0; bottom = 0; left = 0 })) ∷ [])
    (kind.Viewport (p 1) (record { w = 50; h = 50; inset = record { top = 0; right = 0; bottom = 0; left = 0 } })) reply.Done
    ▹ by (Session (s 1)) 15 ((call.SetContent (t 1) (c 1)) ∷ []) (kind.Present (present 0 [] [])) (reply.Presented 1 0)
    ▹ by (Session (s 2)) 16 ((call.CreateView (p 1)) ∷ []) (kind.View (p 1)) reply.Done
    ▹ by (Session (s 2)) 17 [] (kind.Present (present 0 (f 0 ∷ []) [])) (reply.Presented 1 0)
    ▹ by (Session (s 3)) 18 ((call.CreateTransform (t 0)) ∷ []) (kind.Close (Some ZeroId)) (reply.Closed (Some BadOperation) (Some ZeroId))
    ▹ by Display 19 [] (kind.Begin 16) reply.Done

the_shell_hangs : standing_of setup begun (s 1) ≡ standing.OnDisplay
the_shell_hangs = refl

the_app_waits : standing_of setup begun (s 2) ≡ standing.Nowhere (cause.Held (hold.Fence (f 0)))
the_app_waits = refl

the_other_is_closed : standing_of setup begun (s 3) ≡ standing.Nowhere (cause.Closed (record { line = 18; error = Some BadOperation; reason = Some ZeroId }))
the_other_is_closed = refl

pub first_frame : map line_of (why_lines script (begun ▹ by Display 20 [] kind.Finish reply.Done)) ≡
    codes "shown 1 shell 0 0 6553600 6553600 0 contentless"
    ∷ codes "hidden 1 app waits fence f"
    ∷ codes "hidden 1 bad closed 18 BAD_OPERATION B1"
    ∷ codes "waits 1 app 1 fence f"
    ∷ []
unfolding digits
first_frame = refl

-- ---- sessions below one another

-- the first two hang below each other, and the third below the first
abbrev each_other : List AttachPoint
each_other = standing.Below (s 2) ∷ standing.Below (s 1) ∷ standing.Below (s 1) ∷ []

on_a_cycle : hidden_in 3 (stands_in each_other) [] (s 2) ≡ Some hidden.Cycle
on_a_cycle = refl

below_a_cycle : hidden_in 3 (stands_in each_other) [] (s 3) ≡ Some (hidden.Parent (s 1))
below_a_cycle = refl
