-- The family of a session is the least closed set, where all owners are declared.
use Rattle.std.proofs.Common.{◌≡◌, ℕ, ◌∙◌, sym, ◌≤◌, ◌<◌, Bool, true, false, List, [], ◌∷◌, ◌++◌, refl, arith, inl, inr, ◌⊎◌, subst, ap}
use Rattle.std.specs.Prelude.{zero, suc, ◌==◌, ◌&&◌, ◌||◌, nat_lt, nat_le}
use Rattle.std.specs.List.{list_any, list_all}
use Rattle.std.proofs.lemmas.Grind.{common_steps}
use Rattle.flat_base.specs.declared.ids.Actor.{Actor}
use Rattle.flat_base.specs.declared.ids.Actor.TheVariants.{Display, Session, Probe}
use Rattle.flat_base.specs.declared.ids.SessionNo.{SessionNo}
use Rattle.flat_scene.specs.declared.setup.PairDecl.{PairDecl}
use Rattle.flat_scene.specs.declared.setup.FenceDecl.{FenceDecl}
use Rattle.flat_scene.specs.declared.setup.BufferDecl.{BufferDecl}
use Rattle.flat_scene.specs.declared.setup.Setup.{Setup}
use Rattle.flat_scene.specs.Family.{family, is_linked, joins, shares}
use Rattle.flat_scene.specs.Laws.{IsClosedFamily, IsLeastFamily, FamilyIsLeast}
use Rattle.flat_scene.specs.Frames.{sessions_to}
use Rattle.flat_scene.specs.History.{is_session}
use Rattle.flat_scene.specs.Setups.{is_within, is_declared}
use Rattle.flat_scene.specs.Heads.{owners_declared, may_own, is_pair_declared, is_fence_declared, is_buffer_declared}
use Rattle.flat_scene.proofs.FamilyClosed.{family-closed, family-least}
use Rattle.flat_scene.proofs.lemmas.Members.{IsIn, in-left, in-right, any-with-all}
use Rattle.flat_base.proofs.lemmas.Tests.{and-left, and-right, or-cases}

session-declared : (setup : Setup) (s : SessionNo) (actor : Actor) → is_session s actor ≡ true → may_own setup actor ≡ true → is_declared setup s ≡ true
session-declared setup s Display mine owns = absurd (cc)
session-declared setup s (Session u) mine owns = grind (arith, common_steps)
session-declared setup s (Probe p) mine owns = absurd (cc)

view-declared : (setup : Setup) (s u : SessionNo) → (u.0 == s.0) ≡ true → is_declared setup u ≡ true → is_declared setup s ≡ true
view-declared setup s u same declared = grind (arith, common_steps)

pair-declared : (setup : Setup) (s t : SessionNo) (pair : PairDecl) → (joins s t pair || joins t s pair) ≡ true → is_pair_declared setup pair ≡ true
    → is_declared setup s ≡ true
pair-declared setup s t pair linked declared = by_end (or-cases (joins s t pair) (joins t s pair) linked)
  where
    by_end : (joins s t pair ≡ true) ⊎ (joins t s pair ≡ true) → is_declared setup s ≡ true
    by_end (inl viewport) =
        session-declared setup s pair.viewport (and-left (is_session s pair.viewport) (pair.view.0 == t.0) viewport)
        (and-left (may_own setup pair.viewport) (is_declared setup pair.view) declared)
    by_end (inr view) =
        view-declared setup s pair.view (and-right (is_session t pair.viewport) (pair.view.0 == s.0) view)
        (and-right (may_own setup pair.viewport) (is_declared setup pair.view) declared)

fence-declared : (setup : Setup) (s t : SessionNo) (fence : FenceDecl) → shares s t fence ≡ true → is_fence_declared setup fence ≡ true
    → is_declared setup s ≡ true
fence-declared setup s t fence shared declared =
    any-with-all (is_session s) (may_own setup) (session-declared setup s) fence.owners
    (and-left (list_any (is_session s) fence.owners) (list_any (is_session t) fence.owners) shared) (grind arith)

-- who is linked is declared
pub linked-declared : (setup : Setup) → owners_declared setup ≡ true → (s t : SessionNo) → is_linked setup s t ≡ true → is_declared setup s ≡ true
linked-declared setup owners s t linked =
    by_link (or-cases (list_any (λ (pair : PairDecl). joins s t pair || joins t s pair) setup.pairs) (list_any (shares s t) setup.fences) linked)
  where
    by_link : (list_any (λ (pair : PairDecl). joins s t pair || joins t s pair) setup.pairs ≡ true) ⊎ (list_any (shares s t) setup.fences ≡ true)
        → is_declared setup s ≡ true
    by_link (inl paired) =
        any-with-all (λ (pair : PairDecl). joins s t pair || joins t s pair) (is_pair_declared setup) (pair-declared setup s t) setup.pairs paired (grind arith)
    by_link (inr shared) = any-with-all (shares s t) (is_fence_declared setup) (fence-declared setup s t) setup.fences shared (grind arith)

-- the declared sessions are those from 1 to their number
pub in-sessions : (n : ℕ) (s : SessionNo) → is_within n s.0 ≡ true → IsIn s (sessions_to n)
in-sessions zero s within = absurd (grind (arith, common_steps))
in-sessions (suc n) s within = by_last (in-sessions n s) (s.0 == suc n) refl
  where
    by_last : (is_within n s.0 ≡ true → IsIn s (sessions_to n)) → (b : Bool) → (s.0 == suc n) ≡ b → IsIn s (sessions_to (suc n))
    by_last earlier true is =
        let number : s.0 ≡ suc n = grind (arith, common_steps) in
        in-right s (sessions_to n) _ (inl (ap (λ (m : ℕ). let u : SessionNo = record { 0 = m } in u) number))
    by_last earlier false isnt = in-left s (sessions_to n) _ (earlier (grind (arith, common_steps)))

pub family-is-least : FamilyIsLeast
family-is-least setup owners s =
    let declared = λ (a b : SessionNo) (link : is_linked setup a b ≡ true). in-sessions setup.sessions a (linked-declared setup owners a b link) in
    record {
      itself = grind (arith, common_steps);
      closed = family-closed setup declared s;
      least = λ holds here closed t mine. family-least setup declared holds closed s t here mine;
    }
