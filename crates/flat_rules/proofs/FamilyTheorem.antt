-- The family law.
use Rattle.std.proofs.Common.{◌≡◌, Bool, true, false, List, [], refl}
use Rattle.std.specs.List.{list_all}
use Rattle.flat_base.specs.declared.ids.SessionNo.{SessionNo}
use Rattle.flat_scene.specs.declared.journal.Entry.{Entry}
use Rattle.flat_scene.specs.declared.setup.Setup.{Setup}
use Rattle.flat_scene.specs.Family.{only, is_kept, family}
use Rattle.flat_scene.specs.Laws.{IsClosedFamily}
use Rattle.flat_scene.specs.History.{◌▹◌}
use Rattle.flat_rules.specs.FamilyLaw.{moments, kept_moments, is_quiet, IsFamilyLaw}
use Rattle.flat_rules.specs.Legal.{Legal}
use Rattle.flat_rules.specs.Local.{FamiliesAreAlone}
use Rattle.flat_rules.proofs.lemmas.EventsLocal.{events-kept, events-dropped}
use Rattle.flat_rules.proofs.FamilyHistory.{legal-only}
use Rattle.flat_rules.proofs.FramesLocal.{closed-family}

module _ (setup : Setup) (of_family : SessionNo → Bool) (closed : IsClosedFamily setup of_family) (t : SessionNo) (mine : of_family t ≡ true) where
  pub moments-only : (history : List Entry) → Legal setup history → moments setup t (only of_family history) ≡ kept_moments of_family (moments setup t history)
  moments-only [] legal = refl
  moments-only (before ▹ e) legal = by_side (moments-only before legal.0) (is_kept of_family e) refl
    where
      by_side : moments setup t (only of_family before) ≡ kept_moments of_family (moments setup t before) → (k : Bool) → is_kept of_family e ≡ k
          → moments setup t (only of_family (before ▹ e)) ≡ kept_moments of_family (moments setup t (before ▹ e))
      by_side earlier true kept = rw (kept, events-kept setup of_family closed before e legal kept t mine, earlier) refl
      by_side earlier false out = rw out earlier

  pub moments-quiet : (history : List Entry) → Legal setup history → list_all (is_quiet of_family) (moments setup t history) ≡ true
  moments-quiet [] legal = refl
  moments-quiet (before ▹ e) legal = by_side (moments-quiet before legal.0) (is_kept of_family e) refl
    where
      by_side : list_all (is_quiet of_family) (moments setup t before) ≡ true → (k : Bool) → is_kept of_family e ≡ k
          → list_all (is_quiet of_family) (moments setup t (before ▹ e)) ≡ true
      by_side earlier true kept = rw (kept, earlier) refl
      by_side earlier false out = rw (out, events-dropped setup of_family closed before e legal out t mine, earlier) refl

pub closed-family-law : (setup : Setup) (of_family : SessionNo → Bool) → IsClosedFamily setup of_family → (history : List Entry) → Legal setup history
    → IsFamilyLaw setup of_family history
closed-family-law setup of_family closed history legal = record {
  legal = legal-only setup of_family closed history legal;
  events = λ t mine. moments-only setup of_family closed t mine history legal;
  quiet = λ t mine. moments-quiet setup of_family closed t mine history legal;
}

pub families-are-alone : FamiliesAreAlone
families-are-alone setup owners history legal s = closed-family-law setup (family setup s) (closed-family setup owners s) history legal
