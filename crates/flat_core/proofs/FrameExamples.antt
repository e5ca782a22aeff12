-- What frames take where a present has to be shown, in a worked history.
use Rattle.std.proofs.Common.{◌≡◌, ℕ, true, false, List, [], ◌∷◌, ◌++◌, map, refl}
use Rattle.std.specs.Prelude.{option_and_then}
use Rattle.std.specs.Result.{result_ok}
use Rattle.flat_base.specs.declared.ids.Actor.TheVariants.{Session, Display}
use Rattle.flat_scene.specs.declared.calls.Call.{Call}
use Rattle.flat_scene.specs.declared.calls.Call.TheVariants as call
use Rattle.flat_scene.specs.declared.calls.PresentArgs.{PresentArgs}
use Rattle.flat_scene.specs.declared.journal.Entry.{Entry}
use Rattle.flat_scene.specs.declared.journal.Event.TheVariants as event
use Rattle.flat_scene.specs.declared.journal.EntryKind.TheVariants as kind
use Rattle.flat_scene.specs.declared.journal.Reply.TheVariants as reply
use Rattle.flat_scene.specs.declared.setup.Setup.{Setup}
use Rattle.flat_scene.specs.Effect.{draft_of}
use Rattle.flat_scene.specs.Frames.{going, is_signalled}
use Rattle.flat_scene.specs.History.{◌▹◌}
use Rattle.flat_scene.specs.Tree.{tree}
use Rattle.flat_rules.specs.Posts.{events_to}
use Rattle.flat_rules.specs.Shown.{shown}
use Rattle.flat_rules.proofs.lemmas.Samples.{s, t, f, by, present}
use Rattle.flat_facts.specs.Begins.{begin_entry, finish_entry}

-- a session with three release fences
abbrev setup : Setup
setup = record {
  width = 100;
  height = 100;
  sessions = 1;
  probes = 0;
  pairs = (record { viewport = Display; view = s 1 }) ∷ [];
  buffers = [];
  fences = (record { owners = Session (s 1) ∷ [] }) ∷ (record { owners = Session (s 1) ∷ [] }) ∷ (record { owners = Session (s 1) ∷ [] }) ∷ [];
  ratio = 65536;
}

abbrev rooted : List Call
rooted = call.CreateTransform (t 1) ∷ call.SetRootTransform (t 1) ∷ []

abbrev dimmed : ℕ → List Call
dimmed opacity = call.SetOpacity (t 1) opacity ∷ []

-- a present that has to be shown
abbrev unsquashable : PresentArgs
unsquashable = record { time = 0; acquire = []; release = f 1 ∷ []; unsquashable = true }

-- three presents wait, of which the middle one has to be shown
abbrev three_wait : List Entry
three_wait = []
    ▹ by (Session (s 1)) 8 rooted (kind.Present (present 0 [] [])) (reply.Presented 1 0)
    ▹ begin_entry 9 1
    ▹ finish_entry 10
    ▹ by (Session (s 1)) 11 (dimmed 10) (kind.Present (present 0 [] (f 0 ∷ []))) (reply.Presented 2 4)
    ▹ by (Session (s 1)) 12 (dimmed 20) (kind.Present unsquashable) (reply.Presented 3 3)
    ▹ by (Session (s 1)) 13 (dimmed 30) (kind.Present (present 0 [] (f 2 ∷ []))) (reply.Presented 4 2)

abbrev begun : List Entry
begun = three_wait ▹ begin_entry 14 2

abbrev ended : List Entry
ended = begun ▹ finish_entry 15

abbrev begun_again : List Entry
begun_again = ended ▹ begin_entry 16 3

abbrev ended_again : List Entry
ended_again = begun_again ▹ finish_entry 17

-- the first frame takes two, and the second the rest
takes_two : map (λ present. present.args.unsquashable) (going setup begun (s 1)) ≡ false ∷ true ∷ []
takes_two = refl

takes_one : map (λ present. present.args.unsquashable) (going setup begun_again (s 1)) ≡ false ∷ []
takes_one = refl

-- the one that has to be shown is shown, and then the last
middle_is_shown : shown setup begun (s 1) ≡ option_and_then tree (result_ok (draft_of setup (rooted ++ dimmed 10 ++ dimmed 20)))
middle_is_shown = refl

last_is_shown : shown setup begun_again (s 1) ≡ option_and_then tree (result_ok (draft_of setup (rooted ++ dimmed 10 ++ dimmed 20 ++ dimmed 30)))
last_is_shown = refl

-- what the session is told
told_of_two : events_to setup three_wait (begin_entry 14 2) (s 1)
    ++ events_to setup begun (finish_entry 15) (s 1) ≡ event.Credits 2 ∷ event.FramePresented 2 ∷ []
told_of_two = refl

told_of_one : events_to setup ended (begin_entry 16 3) (s 1)
    ++ events_to setup begun_again (finish_entry 17) (s 1) ≡ event.Credits 1 ∷ event.FramePresented 1 ∷ []
told_of_one = refl

-- each frame's end signals the fences of what it took
signalled_first : map (is_signalled setup ended) (f 0 ∷ f 1 ∷ f 2 ∷ []) ≡ true ∷ true ∷ false ∷ []
signalled_first = refl

signalled_then : map (is_signalled setup ended_again) (f 0 ∷ f 1 ∷ f 2 ∷ []) ≡ true ∷ true ∷ true ∷ []
signalled_then = refl
