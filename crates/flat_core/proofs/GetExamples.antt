-- What is held and what was answered last, in worked histories.
use Rattle.std.proofs.Common.{◌≡◌, List, [], ◌∷◌, refl, Some, None}
use Rattle.flat_base.specs.declared.ids.Actor.TheVariants.{Session, Display}
use Rattle.flat_scene.specs.declared.calls.Watch.TheVariants as watch
use Rattle.flat_scene.specs.declared.calls.Call.TheVariants as call
use Rattle.flat_scene.specs.declared.journal.Entry.{Entry}
use Rattle.flat_scene.specs.declared.journal.Event.TheVariants as event
use Rattle.flat_scene.specs.declared.journal.EntryKind.TheVariants as kind
use Rattle.flat_scene.specs.declared.journal.Reply.TheVariants as reply
use Rattle.flat_scene.specs.declared.journal.WatcherValue.TheVariants as tell
use Rattle.flat_scene.specs.declared.setup.Setup.{Setup}
use Rattle.flat_scene.specs.History.{◌▹◌}
use Rattle.flat_gets.specs.Gets.{HeldGet, answers_to, helds_of}
use Rattle.flat_gets.specs.declared.pair.PairWatchers.{PairWatchers}
use Rattle.flat_gets.specs.Pairs.{AreAt}
use Rattle.flat_rules.specs.Legal.{answers}
use Rattle.flat_rules.specs.Watch.{layout_of, status_of, child_of, told}
use Rattle.flat_scene.specs.Draft.{no_inset}
use Rattle.flat_rules.proofs.lemmas.Samples.{s, p, c, by, layout, present}

-- session 2 has a view in a viewport of session 1
abbrev setup : Setup
setup = record {
  width = 100;
  height = 100;
  sessions = 2;
  probes = 0;
  pairs = (record { viewport = Display; view = s 1 } ∷ record { viewport = Session (s 1); view = s 2 } ∷ []);
  buffers = [];
  fences = [];
  ratio = 65536;
}

-- both values of a view are asked for, the status first
abbrev asked : List Entry
asked = []
    ▹ by (Session (s 2)) 8 ((call.CreateView (p 1)) ∷ []) (kind.View (p 1)) reply.Done
    ▹ by (Session (s 2)) 9 [] (kind.Get watch.Status) reply.Held
    ▹ by (Session (s 2)) 10 [] (kind.Get watch.Layout) reply.Held

abbrev joined : List Entry
joined = asked ▹ by (Session (s 1)) 11 ((call.CreateViewport (c 1) (p 1) 60 40 no_inset) ∷ [])
    (kind.Viewport (p 1) (record { w = 60; h = 40; inset = no_inset })) reply.Done

abbrev held : HeldGet → HeldGet → List HeldGet
held a b = a ∷ b ∷ []

abbrev of_layout : HeldGet
of_layout = record { watcher = layout_of (p 1); get = watch.Layout; last = None }

abbrev of_status : HeldGet
of_status = record { watcher = status_of (p 1); get = watch.Status; last = None }

-- the layout stands before the status
both-held : helds_of setup asked (s 2) ≡ held of_layout of_status
both-held = refl

-- the viewport's entry answers both, the layout before the status
both-answered : answers_to (told setup joined) (helds_of setup asked (s 2))
    ≡ (event.Told (p 1) watch.Layout (tell.Layout (layout 60 40 0 0 0 0)) ∷ event.Told (p 1) watch.Status tell.Disconnected ∷ [])
both-answered = refl

none-left : helds_of setup joined (s 2) ≡ []
none-left = refl

counted : answers setup (s 2) joined ≡ 2
counted = refl

-- what is kept of the pair: the layout that was told, the status, and a child that wasn't asked for
are-at : (w : PairWatchers) → w.layout ≡ record { last = Some (tell.Layout (layout 60 40 0 0 0 0)); waits = None }
    → w.status ≡ record { last = Some tell.Disconnected; waits = None } → w.child ≡ record { last = None; waits = None } → w.former.items ≡ []
    → AreAt setup joined joined (p 1) w
are-at w one two three none = record { layout = one; status = two; child = three; former = none }

-- a viewport that is released and made anew: a get of either child waits
abbrev anew : List Entry
anew = joined
    ▹ by (Session (s 1)) 12 [] (kind.Get (watch.Child (c 1))) reply.Held
    ▹ by (Session (s 1)) 13 [] (kind.Present (present 0 [] [])) (reply.Presented 1 0)
    ▹ by Display 14 [] (kind.Begin 1) reply.Done
    ▹ by Display 15 [] kind.Finish reply.Done
    ▹ by (Session (s 1)) 16 ((call.ReleaseViewport (c 1)) ∷ []) (kind.Present (present 0 [] [])) (reply.Presented 2 4)
    ▹ by Display 17 [] (kind.Begin 2) reply.Done
    ▹ by Display 18 [] kind.Finish reply.Done
    ▹ by (Session (s 1)) 19 ((call.CreateViewport (c 2) (p 1) 30 30 no_inset) ∷ []) (kind.Viewport (p 1) (record { w = 30; h = 30; inset = no_inset }))
    reply.Done
    ▹ by (Session (s 1)) 20 [] (kind.Get (watch.Child (c 2))) reply.Held

first-and-second : helds_of setup anew (s 1) ≡ held (record { watcher = child_of (p 1) 1; get = watch.Child (c 1); last = None })
    (record { watcher = child_of (p 1) 2; get = watch.Child (c 2); last = None })
first-and-second = refl

-- the end of the child's session answers both, once a frame has ended
abbrev gone : List Entry
gone = anew
    ▹ by (Session (s 2)) 21 [] (kind.Close None) (reply.Closed None None)
    ▹ by Display 22 [] (kind.Begin 3) reply.Done

pub both-gone : answers_to (told setup (gone ▹ by Display 23 [] kind.Finish reply.Done)) (helds_of setup gone (s 1))
    ≡ (event.Told (p 1) (watch.Child (c 1)) tell.Gone ∷ event.Told (p 1) (watch.Child (c 2)) tell.Gone ∷ [])
both-gone = refl
