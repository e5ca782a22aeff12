-- What neighbours post a session, in a worked history.
use Rattle.std.proofs.Common.{◌≡◌, ℕ, List, [], ◌∷◌, length, refl}
use Rattle.flat_base.specs.declared.ids.Actor.TheVariants.{Session, Display}
use Rattle.flat_base.specs.declared.ids.ContentId.{ContentId}
use Rattle.flat_base.specs.declared.ids.PairNo.{PairNo}
use Rattle.flat_base.specs.declared.ids.SessionNo.{SessionNo}
use Rattle.flat_scene.specs.declared.calls.Call.TheVariants as call
use Rattle.flat_scene.specs.declared.journal.Entry.{Entry}
use Rattle.flat_scene.specs.declared.journal.EntryKind.TheVariants as kind
use Rattle.flat_scene.specs.declared.journal.Reply.TheVariants as reply
use Rattle.flat_scene.specs.declared.setup.Setup.{Setup}
use Rattle.flat_scene.specs.History.{◌▹◌}
use Rattle.flat_rules.specs.Laws.{glimpses, outcomes}
use Rattle.flat_scene.specs.Draft.{no_inset}
use Rattle.flat_facts.specs.Begins.{entry_of}
use Rattle.flat_core.specs.Journals.{IsQuietBeside}

abbrev session : ℕ → SessionNo
session n = record { 0 = n }

abbrev pair : ℕ → PairNo
pair n = record { 0 = n }

abbrev content : ℕ → ContentId
content n = record { 0 = n }

-- session 2 has a view in a viewport of session 1
abbrev setup : Setup
setup = record {
  width = 100;
  height = 100;
  sessions = 2;
  probes = 0;
  pairs = (record { viewport = Display; view = session 1 } ∷ record { viewport = Session (session 1); view = session 2 } ∷ []);
  buffers = [];
  fences = [];
  ratio = 65536;
}

abbrev joined : List Entry
joined = []
    ▹ entry_of (Session (session 2)) 8 ((call.CreateView (pair 1)) ∷ []) (kind.View (pair 1)) reply.Done
    ▹ entry_of (Session (session 1)) 9 ((call.CreateViewport (content 1) (pair 1) 60 40 no_inset) ∷ [])
    (kind.Viewport (pair 1) (record { w = 60; h = 40; inset = no_inset })) reply.Done

-- of session 2 there is a glimpse of its own entry alone
one-glimpse : length (glimpses setup (session 2) joined) ≡ 1
one-glimpse = refl

-- its outcome is that its view was made, with no event
one-outcome : outcomes setup (session 2) joined ≡ (record { reply = reply.Done; events = [] } ∷ [])
one-outcome = refl

-- and the neighbour's entry posts it nothing that tokens, queues and frames decide
quiet : IsQuietBeside setup (session 2) joined
quiet = ((tt, λ beside. refl), λ beside. refl)
