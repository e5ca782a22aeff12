-- Watchers that rest, and uses of viewport ends.
use Rattle.std.proofs.Common.{◌≡◌, ◌∙◌, sym, subst, ℕ, ◌+◌, Bool, true, false, List, [], length, refl, arith, ap, Some, None}
use Rattle.std.specs.Prelude.{Option, option_map, unwrap_or, ◌==◌, ◌&&◌, nat_lt, nat_le}
use Rattle.std.proofs.lemmas.Bool.Decides.{nat_tests}
use Rattle.flat_base.specs.declared.ids.Actor.{Actor}
use Rattle.flat_base.specs.declared.ids.Actor.TheVariants.{Display, Session, Probe}
use Rattle.flat_base.specs.declared.ids.PairNo.{PairNo}
use Rattle.flat_base.specs.declared.ids.SessionNo.{SessionNo}
use Rattle.flat_scene.specs.declared.calls.ViewportProps.{ViewportProps}
use Rattle.flat_scene.specs.declared.calls.Watch.{Watch}
use Rattle.flat_scene.specs.declared.journal.Entry.{Entry}
use Rattle.flat_scene.specs.declared.journal.EntryKind.{EntryKind}
use Rattle.flat_scene.specs.declared.journal.EntryKind.TheVariants.{Viewport, Get}
use Rattle.flat_scene.specs.declared.setup.Setup.{Setup}
use Rattle.flat_scene.specs.History.{◌▹◌, is_closed, is_finish, is_session}
use Rattle.flat_scene.specs.Setups.{is_declared}
use Rattle.flat_base.proofs.lemmas.Tests.{and-right}
use Rattle.flat_watch.specs.Told.{Watching, settled}
use Rattle.flat_rules.specs.Ends.{is_done, uses_viewport, viewport_owner, viewport_uses}
use Rattle.flat_gets.specs.Gets.{hears}
use Rattle.flat_rules.specs.Legal.{Legal, may_act, session_may}
use Rattle.flat_rules.specs.Kinds.{is_get}
use Rattle.flat_rules.specs.Local.{pair_watched}
use Rattle.flat_rules.specs.Watch.{Watcher, layout_of, status_of, child_of, watching, told, asked, is_open, listener, same_watcher, watcher_of, is_watcher}
use Rattle.flat_rules.proofs.lemmas.SameWatchers.{nothing-settled}
use Rattle.flat_facts.proofs.lemmas.Between.{is_viewport}
use Rattle.flat_gets.proofs.GetOwners.{others-unasked, IsMeant, of_layout, of_status, of_child, get-meant}
use Rattle.flat_facts.proofs.lemmas.ViewHistory.{same-session}
use Rattle.flat_rules.proofs.lemmas.Watchers.{settled-now, unasked, unheld-stays}

-- ---- the child of no use

never-asked : (setup : Setup) (h : List Entry) (e : Entry) → Legal setup (h ▹ e) → (p : PairNo) → asked setup (child_of p 0) h e ≡ None
never-asked setup h e legal p = unasked setup (child_of p 0) h e (λ get asks. by_actor get asks e.actor refl)
  where
    other : (t : SessionNo) (u : Watcher) → IsMeant setup h t u → same_watcher (child_of p 0) u ≡ false
    other t u (of_layout q owned) = refl
    other t u (of_status q owned) = refl
    other t u (of_child q owned some) = by_pair (p.0 == q.0)
      where
        by_pair : (b : Bool) → (b && 0 == length (viewport_uses q h)) ≡ false
        by_pair false = refl
        by_pair true = grind (arith, nat_tests)

    by_actor : (get : Watch) → e.kind ≡ Get get → (who : Actor) → e.actor ≡ who → is_watcher setup (child_of p 0) (watcher_of setup h who e.calls get) ≡ false
    by_actor get asks Display is = refl
    by_actor get asks (Probe n) is = refl
    by_actor get asks (Session t) is = by_watcher (watcher_of setup h (Session t) e.calls get) refl
      where
        by_watcher : (o : Option Watcher) → watcher_of setup h (Session t) e.calls get ≡ o → is_watcher setup (child_of p 0) o ≡ false
        by_watcher None means = refl
        by_watcher (Some u) means = other t u (get-meant setup h e legal t is get asks u means)

pub unused-fresh : (setup : Setup) (h : List Entry) → Legal setup h → (p : PairNo) → watching setup (child_of p 0) h ≡ record { last = None; waits = None }
unused-fresh setup [] legal p = refl
unused-fresh setup (h ▹ e) legal p =
    settled-now setup (child_of p 0) h e (never-asked setup h e legal p)
    ∙ ap (λ (v : Watching). settled (is_open setup (viewport_owner setup p) (h ▹ e)) (told setup (h ▹ e) (child_of p 0)) v) (unused-fresh setup h legal.0 p)
    ∙ nothing-settled (is_open setup (viewport_owner setup p) (h ▹ e)) (told setup (h ▹ e) (child_of p 0))

-- ---- watchers that rest

-- a session that isn't declared waits for nothing
pub undeclared-waits : (setup : Setup) (k : List Entry) → Legal setup k → (t : SessionNo) → is_declared setup t ≡ false → (w : Watcher) → hears setup t w ≡ true
    → (watching setup w k).waits ≡ None
undeclared-waits setup [] whole t out w heard = refl
undeclared-waits setup (k ▹ x) whole t out w heard =
    let before : (watching setup w k).waits ≡ None = undeclared-waits setup k whole.0 t out w heard in
    ap (λ (v : Watching). v.waits) (unheld-stays setup w k x before (others-unasked setup k x whole t (other x.actor whole.1.may.acts) w heard)) ∙ before
  where
    other : (who : Actor) → may_act setup x.kind who ≡ true → is_session t who ≡ false
    other Display acts = refl
    other (Probe n) acts = refl
    other (Session u) acts = by_same (u.0 == t.0) refl
      where
        by_same : (b : Bool) → (u.0 == t.0) ≡ b → b ≡ false
        by_same false differ = refl
        by_same true same =
            let number : u.0 ≡ t.0 = grind (arith, nat_tests) in
            let declared : is_declared setup u ≡ true = and-right (session_may x.kind) (is_declared setup u) acts in
            sym declared ∙ ap (λ (n : ℕ). nat_lt 0 n && nat_le n setup.sessions) number ∙ out

-- a watcher whose session doesn't listen rests
pub rests-shut : (setup : Setup) (h : List Entry) (e : Entry) (w : Watcher) → is_open setup (listener setup w) (h ▹ e) ≡ false → asked setup w h e ≡ None
    → watching setup w (h ▹ e) ≡ watching setup w h
rests-shut setup h e w shut idle = settled-now setup w h e idle ∙ ap (λ (b : Bool). settled b (told setup (h ▹ e) w) (watching setup w h)) shut

module _ (setup : Setup) (h : List Entry) (e : Entry) (legal : Legal setup (h ▹ e)) where
  pub no-use : is_viewport e.kind ≡ false → (p : PairNo) → length (viewport_uses p (h ▹ e)) ≡ length (viewport_uses p h)
  no-use no_viewport p = by_kind e.kind refl no_viewport
    where
      by_kind : (kind : EntryKind) → e.kind ≡ kind → is_viewport kind ≡ false → length (viewport_uses p (h ▹ e)) ≡ length (viewport_uses p h)
      by_kind (Viewport q props) is none = cc
      by_kind kind is none = rw is refl

  abbrev pub IsUse : PairNo → EntryKind → Type 0
  IsUse q kind = (is_get kind ≡ false) × ((is_finish kind ≡ false) × ((p : PairNo) → uses_viewport p kind ≡ (q.0 == p.0)))

  pub use-kind : (q : PairNo) (props : ViewportProps) → e.kind ≡ Viewport q props → IsUse q e.kind
  use-kind q props is = subst (IsUse q) (sym is) (refl, (refl, λ p. refl))

  pub apart-view : (q p : PairNo) → (p.0 == q.0) ≡ false → (w : Watcher) → pair_watched w ≡ p
      → (same_watcher w (layout_of q) ≡ false) × (same_watcher w (status_of q) ≡ false)
  apart-view q p other (layout_of r) of = (ap (λ (x : PairNo). x.0 == q.0) of ∙ other, refl)
  apart-view q p other (status_of r) of = (refl, ap (λ (x : PairNo). x.0 == q.0) of ∙ other)
  apart-view q p other (child_of r n) of = (refl, refl)

  pub other-uses : (q : PairNo) (props : ViewportProps) → e.kind ≡ Viewport q props → (p : PairNo) → (p.0 == q.0) ≡ false
      → length (viewport_uses p (h ▹ e)) ≡ length (viewport_uses p h)
  other-uses q props kind p other =
      let k : IsUse q e.kind = use-kind q props kind in
      let differ : (q.0 == p.0) ≡ false = grind (arith, nat_tests) in
      rw (k.1.1 p, differ) refl

  pub new-use : (q : PairNo) (props : ViewportProps) → e.kind ≡ Viewport q props → is_done e.reply ≡ true
      → length (viewport_uses q (h ▹ e)) ≡ length (viewport_uses q h) + 1
  new-use q props kind done =
      let k : IsUse q e.kind = use-kind q props kind in
      let same : (q.0 == q.0) ≡ true = grind (arith, nat_tests) in
      rw (k.1.1 q, same, done) (omega arith)

-- ---- who is closed doesn't listen

pub heard-shut : (o : Option Actor) (s : SessionNo) (h : List Entry) → unwrap_or (option_map (is_session s) o) false ≡ true → is_closed s h ≡ true
    → (setup : Setup) → is_open setup o h ≡ false
heard-shut None s h heard closed setup = cc
heard-shut (Some Display) s h heard closed setup = refl
heard-shut (Some (Probe n)) s h heard closed setup = refl
heard-shut (Some (Session t)) s h heard closed setup =
    let same : Session t ≡ Session s = same-session s (Session t) heard in
    let O : Actor → Type 0 = λ who. is_open setup (Some who) h ≡ false in
    subst O (sym same) (rw closed refl)
