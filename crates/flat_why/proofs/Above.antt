-- Why a session is hidden, by two tables that say the same of all sessions that there are.
use Rattle.std.proofs.Common.{ℕ, zero, suc, ◌<◌, ◌≤◌, ◌≡◌, refl, ap, ◌∙◌, Bool, cond, List, ◌∷◌, Some, None, is_some}
use Rattle.std.specs.Prelude.{◌==◌}
use Rattle.std.specs.List.{list_any}
use Rattle.flat_base.specs.declared.ids.SessionNo.{SessionNo}
use Rattle.flat_scene.specs.declared.frames.ViewNode.{ViewNode}
use Rattle.flat_why.specs.declared.reasons.HiddenReason.TheVariants.{Cycle, Parent}
use Rattle.flat_why.specs.declared.reasons.AttachPoint.{AttachPoint}
use Rattle.flat_why.specs.declared.reasons.AttachPoint.TheVariants.{OnDisplay, Below, Nowhere}
use Rattle.flat_why.specs.Hidden.{ancestors, hidden_by, hidden_in, is_cyclic, node_of}

module _ (n : ℕ) (f g : SessionNo → AttachPoint) (same : (s : SessionNo) → 0 < s.0 → s.0 ≤ n → f s ≡ g s)
    (there : (s q : SessionNo) → g s ≡ Below q → (0 < q.0) × (q.0 ≤ n)) where
  ancestors-alike : (steps : ℕ) (standing : AttachPoint) (s : SessionNo) → g s ≡ standing → ancestors f steps standing ≡ ancestors g steps standing
  ancestors-alike zero standing s is = refl
  ancestors-alike (suc steps) OnDisplay s is = refl
  ancestors-alike (suc steps) (Nowhere cause) s is = refl
  ancestors-alike (suc steps) (Below q) s is =
      let declared = there s q is in
      ap (λ (above : List SessionNo). q ∷ above) (ap (ancestors f steps) (same q declared.0 declared.1) ∙ ancestors-alike steps (g q) q refl)

  cyclic-alike : (s : SessionNo) → 0 < s.0 → s.0 ≤ n → is_cyclic n f s ≡ is_cyclic n g s
  cyclic-alike s some few = ap (λ (above : List SessionNo). list_any (λ (one : SessionNo). one.0 == s.0) above)
      (ap (ancestors f n) (same s some few) ∙ ancestors-alike n (g s) s refl)

  pub hidden-alike : (nodes : List ViewNode) (s : SessionNo) → 0 < s.0 → s.0 ≤ n → hidden_in n f nodes s ≡ hidden_in n g nodes s
  hidden-alike nodes s some few = ap (λ (standing : AttachPoint). hidden_by n f nodes s standing) (same s some few) ∙ by (g s)
    where
      by : (standing : AttachPoint) → hidden_by n f nodes s standing ≡ hidden_by n g nodes s standing
      by OnDisplay = refl
      by (Nowhere cause) = refl
      by (Below q) = ap (λ (b : Bool). cond (is_some (node_of q nodes)) None (Some (cond b Cycle (Parent q)))) (cyclic-alike s some few)
