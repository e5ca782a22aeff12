-- What a session is told at the end of a frame.
use Rattle.std.proofs.Common.{◌≡◌, ◌≢◌, ◌∙◌, sym, subst, ℕ, zero, suc, ◌<◌, ◌≤◌, Bool, true, false, List, [], ◌∷◌, ◌++◌, length, map, refl, arith, ap, Some}
use Rattle.std.proofs.Common.{None, inl, inr, ◌⊎◌}
use Rattle.std.specs.Prelude.{cond, Option, flat_map, option_map, slice_get, unwrap_or, ◌==◌, ◌&&◌, nat_lt, nat_le}
use Rattle.std.proofs.lemmas.Bool.Decides.{nat_tests}
use Rattle.std.proofs.lemmas.List.{append-nil}
use Rattle.std.proofs.lemmas.Option.{slice_get_past}
use Rattle.flat_base.specs.declared.ids.Actor.{Actor}
use Rattle.flat_base.specs.declared.ids.Actor.TheVariants.{Display, Session, Probe}
use Rattle.flat_base.specs.declared.ids.PairNo.{PairNo}
use Rattle.flat_base.specs.declared.ids.SessionNo.{SessionNo}
use Rattle.flat_scene.specs.declared.calls.ViewportProps.{ViewportProps}
use Rattle.flat_scene.specs.declared.journal.Entry.{Entry}
use Rattle.flat_scene.specs.declared.journal.Event.{Event}
use Rattle.flat_scene.specs.declared.journal.EntryKind.{EntryKind}
use Rattle.flat_scene.specs.declared.journal.EntryKind.TheVariants.{View, Viewport}
use Rattle.flat_scene.specs.declared.journal.PostedEvent.{PostedEvent}
use Rattle.flat_scene.specs.declared.setup.PairDecl.{PairDecl}
use Rattle.flat_scene.specs.declared.setup.Setup.{Setup}
use Rattle.flat_scene.specs.Frames.{sessions_to, taken}
use Rattle.flat_scene.specs.History.{◌▹◌, is_begin, is_closed, is_finish}
use Rattle.flat_scene.specs.Setups.{is_declared}
use Rattle.flat_base.proofs.lemmas.Tests.{and-left}
use Rattle.flat_facts.specs.declared.live_viewport.LiveViewport.{LiveViewport}
use Rattle.flat_links.specs.declared.tokens.OutToken.{OutToken}
use Rattle.flat_facts.specs.Begins.{finish_entry, finished, post_of, took_event}
use Rattle.flat_rules.specs.Ends.{is_done, pair_of, uses_view, view_owner, view_uses}
use Rattle.flat_gets.specs.Gets.{answers_to, helds_of}
use Rattle.flat_rules.specs.Legal.{Legal, MayEnter, is_frame_open, owns_view}
use Rattle.flat_rules.specs.Kinds.{is_get}
use Rattle.flat_rules.specs.Posts.{events_to, frame_took, told_event}
use Rattle.flat_rules.specs.AllPosts.{posts}
use Rattle.flat_links.specs.Viewports.{AreViewports, back_events}
use Rattle.flat_rules.specs.Watch.{layout_of, status_of, child_of, told}
use Rattle.flat_states.proofs.lemmas.BeginLoop.{flat-on}
use Rattle.flat_facts.proofs.lemmas.Between.{events-joined}
use Rattle.flat_gets.proofs.lemmas.GetHistory.{events-finished, events-told}
use Rattle.flat_links.proofs.lemmas.ViewportUses.{tokens-finish}
use Rattle.flat_gets.proofs.lemmas.GetHistory.{events-finished}

-- a session that is open is told the answers, what the frame took, and which tokens are back
pub finish-posts : (setup : Setup) (h : List Entry) (line : ℕ) (s : SessionNo) → is_declared setup s ≡ true → Legal setup h → is_frame_open h ≡ true
    → is_closed s h ≡ false → (live : List LiveViewport) (out : List OutToken) → AreViewports setup h s live out
    → events_to setup h (finish_entry line) s ≡ answers_to (told setup (finished h line)) (helds_of setup h s)
    ++ (took_event (frame_took setup h s) ++ back_events (taken setup h s) out)
finish-posts setup h line s declared legal going opened live out kept =
    events-finished setup s h (finish_entry line) refl refl opened
    ∙ ap (λ (l : List Event). answers_to (told setup (finished h line)) (helds_of setup h s) ++ (took_event (frame_took setup h s) ++ l))
    (tokens-finish setup s declared h legal opened going live out kept)
