-- Which entries post events, and to whom.
use Rattle.std.proofs.Common.{◌≡◌, ◌∙◌, ap, refl, Bool, true, false, List, []}
use Rattle.std.specs.Prelude.{cond, ◌&&◌}
use Rattle.std.proofs.lemmas.Bool.{and_right}
use Rattle.flat_base.specs.declared.ids.PairNo.{PairNo}
use Rattle.flat_scene.specs.declared.journal.Event.{Event}
use Rattle.flat_scene.specs.declared.journal.EntryKind.{EntryKind}
use Rattle.flat_scene.specs.declared.journal.EntryKind.TheVariants.{Viewport}
use Rattle.flat_scene.specs.declared.journal.Reply.{Reply}
use Rattle.flat_scene.specs.History.{◌▹◌, is_begin, is_closed, is_finish, is_session, own}
use Rattle.flat_rules.specs.Ends.{is_done, uses_view, uses_viewport}
use Rattle.flat_rules.specs.Posts.{at_begin, events_to, news_for}
use Rattle.flat_rules.proofs.lemmas.ShownSteps.{closed-before}
use Rattle.flat_rules.proofs.lemmas.Still.{IsStill, news-silent, still-silent}
use Rattle.flat_facts.proofs.lemmas.Between as between
use Rattle.flat_laws.specs.Ends.{ClosedHearNothing, ThreeKindsPostEvents, is_viewport}

closed-none : (b : Bool) (news : List Event) → (b ≡ false → news ≡ []) → cond b [] news ≡ []
closed-none true news none = refl
closed-none false news none = none refl

-- a CreateViewport that is refused uses no end
refused-still : (p : PairNo) (kind : EntryKind) (reply : Reply) → is_viewport kind ≡ true → is_finish kind ≡ false → (is_viewport kind && is_done reply) ≡ false
    → (is_finish kind ≡ false) × ((uses_view p kind && is_done reply) ≡ false) × ((uses_viewport p kind && is_done reply) ≡ false)
refused-still p (Viewport q props) reply is no_finish refused = (refl, refl, and_right (uses_viewport p (Viewport q props)) (is_done reply) refused)
refused-still p _ reply is no_finish refused = absurd (let wrong : false ≡ true = is in cc)

not-viewport : (kind : EntryKind) → is_viewport kind ≡ false → between.is_viewport kind ≡ false
not-viewport (Viewport p props) is = is
not-viewport _ is = refl

pub three-kinds : ThreeKindsPostEvents
three-kinds setup h e legal no_begin no_finish unmade s = by_kind (is_viewport e.kind) refl
  where
    no_credits : (b : Bool) (xs : List Event) → b ≡ false → cond b xs [] ≡ []
    no_credits b xs none = ap (λ c. cond c xs []) none

    by_kind : (b : Bool) → is_viewport e.kind ≡ b → events_to setup h e s ≡ []
    by_kind false other =
        between.events-between setup h e legal s no_finish (not-viewport e.kind other)
        ∙ closed-none (is_closed s (h ▹ e)) _ (λ opened. no_credits (is_begin e.kind) _ no_begin)
    by_kind true viewport = closed-none (is_closed s (h ▹ e)) (news_for setup h e s) silent
      where
        still : (p : PairNo) → IsStill p e
        still p =
            let parts = refused-still p e.kind e.reply viewport no_finish unmade in
            record { no_finish = no_finish; no_view = parts.1; no_viewport = parts.2 }

        silent : is_closed s (h ▹ e) ≡ false → news_for setup h e s ≡ []
        silent opened =
            let open_before : is_closed s h ≡ false = closed-before (is_session s e.actor) e (own s h) opened in
            news-silent setup s h e no_finish open_before (still-silent setup s h e open_before (λ p owned. still p))
            ∙ no_credits (is_begin e.kind) (at_begin setup h e s) no_begin

pub closed-hear-nothing : ClosedHearNothing
closed-hear-nothing setup before e s closed = ap (λ b. cond b [] (news_for setup before e s)) closed
