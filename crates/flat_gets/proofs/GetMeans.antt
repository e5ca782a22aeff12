-- The pairs that a session owns, and that its gets mean, are declared.
use Rattle.std.proofs.Common.{◌≡◌, ℕ, ◌<◌, true, false, List, length, refl, Some, None}
use Rattle.std.specs.Prelude.{Option, is_some, option_map, slice_get, unwrap_or, ◌==◌}
use Rattle.std.proofs.lemmas.Option.{slice_get_within}
use Rattle.flat_base.specs.declared.ids.PairNo.{PairNo}
use Rattle.flat_base.specs.declared.ids.SessionNo.{SessionNo}
use Rattle.flat_base.specs.declared.ids.Actor.TheVariants.{Session}
use Rattle.flat_scene.specs.declared.calls.Call.{Call}
use Rattle.flat_scene.specs.declared.calls.Watch.{Watch}
use Rattle.flat_scene.specs.declared.journal.Entry.{Entry}
use Rattle.flat_scene.specs.declared.journal.EntryKind.TheVariants.{Get}
use Rattle.flat_scene.specs.declared.setup.PairDecl.{PairDecl}
use Rattle.flat_scene.specs.declared.setup.Setup.{Setup}
use Rattle.flat_scene.specs.History.{is_session}
use Rattle.flat_facts.specs.Begins.{entry_of}
use Rattle.flat_rules.specs.Legal.{Legal, MayEnter, owns_view, owns_viewport, reply_to}
use Rattle.flat_rules.specs.Local.{pair_watched}
use Rattle.flat_rules.specs.Watch.{Watcher, watcher_of}
use Rattle.flat_gets.proofs.GetOwners.{IsMeant, of_layout, of_status, of_child, get-meant}

-- ---- declared pairs

some-within : (setup : Setup) (n : ℕ) (o : Option PairDecl) → slice_get setup.pairs n ≡ o → is_some o ≡ true → n < length setup.pairs
some-within setup n None at some = cc
some-within setup n (Some pair) at some = slice_get_within setup.pairs n pair at

view-some : (s : SessionNo) (o : Option PairDecl) → unwrap_or (option_map (λ t. t.0 == s.0) (option_map (λ pair. pair.view) o)) false ≡ true → is_some o ≡ true
view-some s None owned = cc
view-some s (Some pair) owned = refl

viewport-some : (s : SessionNo) (o : Option PairDecl) → unwrap_or (option_map (is_session s) (option_map (λ pair. pair.viewport) o)) false ≡ true
    → is_some o ≡ true
viewport-some s None owned = cc
viewport-some s (Some pair) owned = refl

-- what a session owns is declared
pub view-within : (setup : Setup) (s : SessionNo) (p : PairNo) → owns_view setup s p ≡ true → p.0 < length setup.pairs
view-within setup s p owned = some-within setup p.0 (slice_get setup.pairs p.0) refl (view-some s (slice_get setup.pairs p.0) owned)

pub viewport-within : (setup : Setup) (s : SessionNo) (p : PairNo) → owns_viewport setup s p ≡ true → p.0 < length setup.pairs
viewport-within setup s p owned = some-within setup p.0 (slice_get setup.pairs p.0) refl (viewport-some s (slice_get setup.pairs p.0) owned)

-- so is the pair of a get
pub get-within : (setup : Setup) (h : List Entry) → Legal setup h → (s : SessionNo) (carries : List Call) (get : Watch)
    → MayEnter setup h (Session s) carries (Get get) → (w : Watcher) → watcher_of setup h (Session s) carries get ≡ Some w
    → (pair_watched w).0 < length setup.pairs
get-within setup h legal s carries get may w means =
    let e : Entry = entry_of (Session s) 0 carries (Get get) (reply_to setup h (Session s) carries (Get get)) in
    by_meant w (get-meant setup h e (legal, record { may = may; reply = refl }) s refl get refl w means)
  where
    by_meant : (v : Watcher) → IsMeant setup h s v → (pair_watched v).0 < length setup.pairs
    by_meant v (of_layout q owned) = view-within setup s q owned
    by_meant v (of_status q owned) = view-within setup s q owned
    by_meant v (of_child q owned some) = viewport-within setup s q owned
