-- What decides replies and events: who did what, and in which order.
use Rattle.std.specs.Prelude.{◌≡◌, Bool, true, List, map}
use Rattle.flat_base.specs.declared.ids.SessionNo.{SessionNo}
use Rattle.flat_scene.specs.declared.journal.Entry.{Entry}
use Rattle.flat_scene.specs.declared.journal.Reply.TheVariants.{Done}
use Rattle.flat_scene.specs.declared.setup.Setup.{Setup}
use Rattle.flat_scene.specs.Family.{family, only}
use Rattle.flat_scene.specs.Heads.{owners_declared}
use Rattle.flat_rules.specs.FamilyLaw.{Moment, moments, kept_moments}
use Rattle.flat_rules.specs.Legal.{Legal}
use Rattle.flat_rules.specs.AllPosts.{posts}

-- an entry without its line, and without its line and its reply
abbrev pub but_line : Entry → Entry
but_line entry = record entry { line = 0 }

abbrev pub but_reply : Entry → Entry
but_reply entry = record entry { line = 0; reply = Done }

-- The entries of two histories have the same replies, and post the same events.
pub record AnswerAlike (setup : Setup) (history history' : List Entry) : Type 0 where
  pub replies : map (λ entry. entry.reply) history ≡ map (λ entry. entry.reply) history'
  pub events : posts setup history ≡ posts setup history'

-- two legal histories that are equal but for replies and lines do so
abbrev pub RepliesAreDetermined : Type 0
RepliesAreDetermined = (setup : Setup) (history history' : List Entry) → Legal setup history → Legal setup history'
    → map but_reply history ≡ map but_reply history' → AnswerAlike setup history history'

-- a moment without its line
abbrev pub but_moment_line : Moment → Moment
but_moment_line moment = record moment { entry = but_line moment.entry }

-- the entries of a family, with the frames, each with its reply and its events to a session
abbrev pub family_moments : Setup → (SessionNo → Bool) → SessionNo → List Entry → List Moment
family_moments setup of_family t history = map but_moment_line (kept_moments of_family (moments setup t history))

-- in two legal histories where the entries of a family and the frames are equal but for replies and lines, the
-- family's sessions are answered
-- and told the same at them, whatever all others did
abbrev pub NeighboursChangeNothing : Type 0
NeighboursChangeNothing = (setup : Setup) → owners_declared setup ≡ true → (history history' : List Entry)
    → Legal setup history → Legal setup history'
    → (s : SessionNo) → map but_reply (only (family setup s) history) ≡ map but_reply (only (family setup s) history')
    → (t : SessionNo) → family setup s t ≡ true
    → family_moments setup (family setup s) t history ≡ family_moments setup (family setup s) t history'
