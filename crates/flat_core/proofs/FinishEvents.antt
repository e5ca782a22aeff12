-- What the end of a frame posts to a session, by what is kept of it: held gets, what the frame took, and the tokens that are out.
use Rattle.std.proofs.Common.{◌≡◌, ◌∙◌, ℕ, Bool, true, false, List, [], ◌++◌, length, filter, refl}
use Rattle.std.specs.Prelude.{cond, flat_map}
use Rattle.std.proofs.lemmas.List.{append-nil}
use Rattle.flat_base.specs.declared.ids.SessionNo.{SessionNo}
use Rattle.flat_scene.specs.declared.journal.Entry.{Entry}
use Rattle.flat_scene.specs.declared.journal.Event.{Event}
use Rattle.flat_scene.specs.declared.setup.Setup.{Setup}
use Rattle.flat_scene.specs.Frames.{taken}
use Rattle.flat_scene.specs.History.{is_closed}
use Rattle.flat_scene.specs.Setups.{is_declared}
use Rattle.flat_facts.specs.declared.live_viewport.LiveViewport.{LiveViewport}
use Rattle.flat_links.specs.declared.tokens.OutToken.{OutToken}
use Rattle.flat_facts.specs.Begins.{finish_entry, took_event}
use Rattle.flat_rules.specs.Ends.{views_of, viewports_of, viewport_uses}
use Rattle.flat_rules.specs.Legal.{Legal, is_frame_open}
use Rattle.flat_rules.specs.Posts.{told_event, events_to, news_for, frame_took, tokens_back, up_to}
use Rattle.flat_links.specs.Viewports.{AreViewports, back_events}
use Rattle.flat_rules.specs.Watch.{layout_of, status_of, child_of}
use Rattle.flat_links.proofs.lemmas.ViewportUses.{tokens-finish}
use Rattle.flat_rules.proofs.lemmas.Watchers.{is_held, layouts-held, statuses-held, children-held}
use Rattle.flat_rules.proofs.lemmas.ListLemmas.{flat-each}

-- the answers to a session's held gets, in order: layouts, statuses, children
abbrev pub held_answers : Setup → List Entry → Entry → SessionNo → List Event
held_answers setup before e s =
    flat_map (λ p. told_event setup p (layout_of p) before e) (filter (λ p. is_held setup before (layout_of p)) (views_of setup s))
    ++ flat_map (λ p. told_event setup p (status_of p) before e) (filter (λ p. is_held setup before (status_of p)) (views_of setup s))
    ++ flat_map (λ p. flat_map (λ n. told_event setup p (child_of p n) before e)
    (filter (λ n. is_held setup before (child_of p n)) (up_to (length (viewport_uses p before))))) (viewports_of setup s)

four-parts : (a b c d e : List Event) → (a ++ b ++ c ++ (d ++ e) ++ []) ≡ ((a ++ b ++ c) ++ (d ++ e))
four-parts a b c d e = append-nil (a ++ b ++ c ++ (d ++ e))

joined : (d : List Event) {a a' b b' c c' e e' : List Event} → a ≡ a' → b ≡ b' → c ≡ c' → e ≡ e' → ((a ++ b ++ c) ++ (d ++ e)) ≡ ((a' ++ b' ++ c') ++ (d ++ e'))
joined d pa pb pc pe = cc

pub events-finish : (setup : Setup) (h : List Entry) (line : ℕ) (s : SessionNo) → is_declared setup s ≡ true → Legal setup h → is_frame_open h ≡ true
    → (live : List LiveViewport) (out : List OutToken) → AreViewports setup h s live out
    → events_to setup h (finish_entry line) s
    ≡ cond (is_closed s h) [] (held_answers setup h (finish_entry line) s ++ (took_event (frame_took setup h s) ++ back_events (taken setup h s) out))
events-finish setup h line s declared legal going live out kept = by_closed (is_closed s h) refl
  where
    by_closed : (b : Bool) → is_closed s h ≡ b → cond b [] (news_for setup h (finish_entry line) s)
        ≡ cond b [] (held_answers setup h (finish_entry line) s ++ (took_event (frame_took setup h s) ++ back_events (taken setup h s) out))
    by_closed true closed = refl
    by_closed false opened =
        let e : Entry = finish_entry line in
        let children = flat-each (λ p. flat_map (λ n. told_event setup p (child_of p n) h e) (up_to (length (viewport_uses p h))))
        (λ p. flat_map (λ n. told_event setup p (child_of p n) h e) (filter (λ n. is_held setup h (child_of p n)) (up_to (length (viewport_uses p h)))))
        (λ p. children-held setup p h e) (viewports_of setup s) in
        let tokens : tokens_back setup h s ≡ back_events (taken setup h s) out = tokens-finish setup s declared h legal opened going live out kept in
        four-parts (flat_map (λ p. told_event setup p (layout_of p) h e) (views_of setup s))
        (flat_map (λ p. told_event setup p (status_of p) h e) (views_of setup s))
        (flat_map (λ p. flat_map (λ n. told_event setup p (child_of p n) h e) (up_to (length (viewport_uses p h)))) (viewports_of setup s))
        (took_event (frame_took setup h s)) (tokens_back setup h s)
        ∙ joined (took_event (frame_took setup h s)) (layouts-held setup s h e) (statuses-held setup s h e) children tokens
