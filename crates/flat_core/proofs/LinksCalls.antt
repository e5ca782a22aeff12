-- Which entries leave what is kept of sessions and pairs as it is, and what a begin may look at.
use Rattle.std.proofs.Common.{◌≡◌, ◌∙◌, sym, subst, ℕ, ◌≤◌, true, false, List, length, All, refl, ap}
use Rattle.flat_base.specs.declared.ids.Actor.TheVariants.{Display, Session}
use Rattle.flat_base.specs.declared.ids.PairNo.{PairNo}
use Rattle.flat_base.specs.declared.ids.SessionNo.{SessionNo}
use Rattle.flat_scene.specs.declared.journal.Entry.{Entry}
use Rattle.flat_scene.specs.declared.journal.EntryKind.{EntryKind}
use Rattle.flat_scene.specs.declared.journal.EntryKind.TheVariants.{Viewport}
use Rattle.flat_scene.specs.declared.setup.Setup.{Setup}
use Rattle.flat_scene.specs.History.{◌▹◌, is_begin, is_closed, is_end, is_finish, is_session}
use Rattle.flat_states.specs.declared.state.SessionState.{SessionState}
use Rattle.flat_facts.specs.Begins.{begun}
use Rattle.flat_rules.specs.Numbers.{number, AllNumbered}
use Rattle.flat_rules.specs.Ends.{is_done, uses_viewport}
use Rattle.flat_links.specs.SessionLinks.{IsBegun, IsIdle, UsesNone}
use Rattle.flat_states.specs.Kept.{IsKept}
use Rattle.flat_rules.specs.Legal.{Legal, display_may, goes_on, may_act}
use Rattle.flat_states.specs.Seen.{seen_of}
use Rattle.flat_links.proofs.lemmas.PairIdle.{an-end}
use Rattle.flat_links.proofs.lemmas.PairSteps.{no-begin, no-finish, one-session}
use Rattle.flat_facts.proofs.lemmas.ShownFits.{states-fit}
use Rattle.flat_facts.proofs.lemmas.ViewHistory.{same-session}
use Rattle.flat_topology.specs.Fit.{FitsSetup}
use Rattle.flat_topology.specs.Shown.{Shown}
use Rattle.std.proofs.lemmas.Bool.{and_right, and_left}

-- what isn't done uses nothing
pub undone-uses : (e : Entry) → is_done e.reply ≡ false → UsesNone e
undone-uses e undone p = and_right (uses_viewport p e.kind) (is_done e.reply) undone

no-display : (p : PairNo) (kind : EntryKind) → display_may kind ≡ true → uses_viewport p kind ≡ false
no-display p (Viewport q props) may = let wrong : false ≡ true = may in cc
no-display p _ may = refl

no-end : (p : PairNo) (kind : EntryKind) → is_end kind ≡ true → uses_viewport p kind ≡ false
no-end p (Viewport q props) is = let wrong : false ≡ true = is in cc
no-end p _ is = refl

module _ (setup : Setup) (h : List Entry) (e : Entry) (legal : Legal setup (h ▹ e)) where
  -- an entry of the display that is of no frame
  pub display-idle : e.actor ≡ Display → is_begin e.kind ≡ false → is_finish e.kind ≡ false → IsIdle setup h e
  display-idle who no_begin no_finish =
      let may : display_may e.kind ≡ true = ap (may_act setup e.kind) (sym who) ∙ legal.1.may.acts in
      record {
        legal = legal;
        no_begin = no_begin;
        no_finish = no_finish;
        no_use = λ p. and_left (uses_viewport p e.kind) (is_done e.reply) (no-display p e.kind may);
        shut = λ s mine. let wrong : false ≡ true = ap (is_session s) (sym who) ∙ mine in cc;
      }

  -- an entry of a session that was closed: it is an End
  pub shut-idle : (s : SessionNo) → is_session s e.actor ≡ true → is_closed s h ≡ true → IsIdle setup h e
  shut-idle s mine shut =
      let lasts : goes_on h e.kind (Session s) ≡ true = ap (goes_on h e.kind) (sym (same-session s e.actor mine)) ∙ legal.1.may.lasts in
      let ends : is_end e.kind ≡ true = an-end _ (is_end e.kind) (is_closed s h) lasts shut in
      record {
        legal = legal;
        no_begin = no-begin setup s h e legal mine;
        no_finish = no-finish setup s h e legal mine;
        no_use = λ p. and_left (uses_viewport p e.kind) (is_done e.reply) (no-end p e.kind ends);
        shut = λ t theirs. ap (λ (r : SessionNo). is_closed r h) (one-session s t e.actor mine theirs) ∙ shut;
      }

-- what a begin shows fits, and each session lets go of five presents at most
pub begin-fits : (setup : Setup) (h : List Entry) (line time : ℕ) (states : List SessionState) (shows : Shown) → IsBegun setup h line time states shows
    → FitsSetup setup shows
begin-fits setup h line time states shows begins = subst (FitsSetup setup) (sym begins.shown) (states-fit setup (begun h line time) begins.legal)

pub begin-goes : (setup : Setup) (k : List Entry) (states : List SessionState) → AllNumbered (λ i. IsKept setup (seen_of setup k (number i))) states
    → All (λ state. length state.going.items ≤ 5) states
begin-goes setup k states kept i d below = (kept i d below).goes
