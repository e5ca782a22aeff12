-- A session that isn't declared makes no entry.
use Rattle.std.proofs.Common.{◌≡◌, ◌∙◌, sym, Bool, true, false, cond, List, [], ◌∷◌, refl, ap, None}
use Rattle.flat_base.specs.declared.ids.Actor.TheVariants.{Session}
use Rattle.flat_base.specs.declared.ids.SessionNo.{SessionNo}
use Rattle.flat_scene.specs.declared.journal.Entry.{Entry}
use Rattle.flat_scene.specs.declared.setup.Setup.{Setup}
use Rattle.flat_scene.specs.Draft.{of_serial}
use Rattle.flat_scene.specs.Frames.{taken}
use Rattle.flat_scene.specs.History.{◌▹◌, is_session, own, published_all}
use Rattle.flat_scene.specs.Setups.{is_declared}
use Rattle.flat_base.proofs.lemmas.Tests.{and-right}
use Rattle.flat_rules.specs.Legal.{Legal, may_act, session_may}
use Rattle.flat_rules.specs.Shown.{last_taken}
use Rattle.flat_facts.proofs.lemmas.ViewHistory.{same-session}

pub own-none : (setup : Setup) (s : SessionNo) → is_declared setup s ≡ false → (h : List Entry) → Legal setup h → own s h ≡ []
own-none setup s undeclared [] legal = refl
own-none setup s undeclared (h ▹ e) legal = by_actor (own-none setup s undeclared h legal.0) (is_session s e.actor) refl
  where
    by_actor : own s h ≡ [] → (b : Bool) → is_session s e.actor ≡ b → cond b (e ∷ own s h) (own s h) ≡ []
    by_actor none false other = none
    by_actor none true mine =
        let acts : may_act setup e.kind (Session s) ≡ true = ap (may_act setup e.kind) (sym (same-session s e.actor mine)) ∙ legal.1.may.acts in
        let wrong : true ≡ false = sym (and-right (session_may e.kind) (is_declared setup s) acts) ∙ undeclared in cc

pub none-taken : (setup : Setup) (s : SessionNo) → is_declared setup s ≡ false → (h : List Entry) → Legal setup h → last_taken setup h s ≡ None
none-taken setup s undeclared h legal = ap (λ (xs : List Entry). of_serial (published_all xs) (taken setup h s)) (own-none setup s undeclared h legal)
