-- What is shown of a family, and who of it is connected, depends on the entries of the family and on the frames and signals alone.
use Rattle.std.proofs.Common.{◌≡◌, Bool, true, false, List, refl, arith}
use Rattle.std.specs.Prelude.{◌&&◌, ◌||◌, None}
use Rattle.std.specs.List.{list_any}
use Rattle.flat_base.specs.declared.ids.SessionNo.{SessionNo}
use Rattle.flat_scene.specs.declared.journal.Entry.{Entry}
use Rattle.flat_scene.specs.declared.setup.Setup.{Setup}
use Rattle.flat_scene.specs.Family.{is_linked, only, joins, shares}
use Rattle.flat_scene.specs.Laws.{IsClosedFamily}
use Rattle.flat_scene.specs.History.{is_session}
use Rattle.flat_rules.specs.Legal.{Legal}
use Rattle.flat_rules.specs.Shown.{shown, is_connected}
use Rattle.flat_rules.proofs.FramesLocal.{took-only}
use Rattle.flat_rules.proofs.JoinedLocal.{joined-same}
use Rattle.flat_rules.proofs.lemmas.Locality.{own-only, own-others}
use Rattle.flat_rules.proofs.lemmas.ShownOwned.{shown-owned}
use Rattle.flat_rules.proofs.lemmas.AllOrSome.{any-same}

pub or-swap : (a b : Bool) → (a || b) ≡ (b || a)
or-swap a b = grind arith

pub and-swap : (a b : Bool) → (a && b) ≡ (b && a)
and-swap a b = grind arith

-- links go both ways
pub linked-back : (setup : Setup) (s c : SessionNo) → is_linked setup s c ≡ true → is_linked setup c s ≡ true
linked-back setup s c link =
    let pairs : list_any (λ pair. joins s c pair || joins c s pair) setup.pairs ≡ list_any (λ pair. joins c s pair || joins s c pair) setup.pairs =
    any-same _ _ (λ pair. or-swap (joins s c pair) (joins c s pair)) setup.pairs in
    let fences : list_any (shares s c) setup.fences ≡ list_any (shares c s) setup.fences =
    any-same _ _ (λ fence. and-swap (list_any (is_session s) fence.owners) (list_any (is_session c) fence.owners)) setup.fences in
    rw (← pairs, ← fences) link

module _ (setup : Setup) (of_family : SessionNo → Bool) (closed : IsClosedFamily setup of_family) where
  pub shown-only : (history : List Entry) → Legal setup history → (s : SessionNo) → of_family s ≡ true
      → shown setup (only of_family history) s ≡ shown setup history s
  shown-only history legal s mine =
      rw (own-only setup of_family s mine history, took-only setup of_family closed history legal s mine) refl

  pub shown-others : (history : List Entry) (s : SessionNo) → of_family s ≡ false → shown setup (only of_family history) s ≡ None
  shown-others history s other = rw (own-others setup of_family s other history) refl

  pub connected-only : (history : List Entry) → Legal setup history → (s : SessionNo) → of_family s ≡ true
      → is_connected setup (only of_family history) s ≡ is_connected setup history s
  connected-only history legal s mine =
      joined-same setup of_family closed (shown setup history) (λ t tree is. shown-owned setup t history legal tree is)
      (shown setup (only of_family history)) (λ t mine. shown-only history legal t mine) (λ t other. shown-others history t other) setup.sessions s mine
