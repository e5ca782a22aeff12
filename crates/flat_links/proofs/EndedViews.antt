-- Which views of a session have ended, by what is kept of their pairs.
use Rattle.std.proofs.Common.{◌≡◌, ◌∙◌, sym, ℕ, zero, suc, ◌<◌, true, false, List, [], ◌∷◌, length, refl, arith, ap, Some, None, slice_index_or}
use Rattle.std.specs.Prelude.{◌==◌, Option, is_some, option_and_then, option_map, slice_get, unwrap_or}
use Rattle.std.proofs.lemmas.Bool.Decides.{nat_tests}
use Rattle.flat_base.specs.declared.ids.PairNo.{PairNo}
use Rattle.flat_base.specs.declared.ids.SessionNo.{SessionNo}
use Rattle.flat_scene.specs.declared.journal.Entry.{Entry}
use Rattle.flat_scene.specs.declared.setup.PairDecl.{PairDecl}
use Rattle.flat_scene.specs.declared.setup.Setup.{Setup}
use Rattle.flat_scene.specs.History.{calls, is_closed}
use Rattle.flat_rules.specs.Ends.{ends_view, happens, view_owner}
use Rattle.flat_rules.specs.Legal.{owns_view}
use Rattle.flat_rules.specs.Stamps.{IsStamp}
use Rattle.flat_facts.proofs.lemmas.Stamped.{happening-lasts, stamped}
use Rattle.flat_links.specs.declared.session_links.SessionLinks.{SessionLinks}
use Rattle.flat_links.specs.declared.pairs.PairState.{PairState}
use Rattle.flat_links.specs.SessionLinks.{AreLinked}
use Rattle.flat_links.specs.Views.{end_stamp, is_ended}

-- What is kept of a pair whose view end a session owns: the stamp of the view's end.
pub record IsEndOf (setup : Setup) (s : SessionNo) (h : List Entry) (pairs : List PairState) (p : PairNo) : Type 0 where
  pub owner : view_owner setup p ≡ Some s
  pub stamp : IsStamp (happens setup (ends_view p)) s h (end_stamp pairs p)

owner-of : (s : SessionNo) (owner : Option SessionNo) → unwrap_or (option_map (λ (t : SessionNo). t.0 == s.0) owner) false ≡ true → owner ≡ Some s
owner-of s None owned = let wrong : false ≡ true = owned in cc
owner-of s (Some t) owned =
    let number : t.0 ≡ s.0 = grind (arith, nat_tests) in
    ap (λ (n : ℕ). let o : Option SessionNo = Some (record { 0 = n }) in o) number

declared-pair : {B : Type 0} (f : PairDecl → B) (b : B) (pairs : List PairDecl) (i : ℕ) → option_map f (slice_get pairs i) ≡ Some b → i < length pairs
declared-pair f b [] i is = absurd (cc)
declared-pair f b (x ∷ pairs) zero is = omega arith
declared-pair f b (x ∷ pairs) (suc i) is = let more : i < length pairs = declared-pair f b pairs i is in omega (arith, more)

item-there : {A : Type 0} (xs : List A) (i : ℕ) → i < length xs → (x : A) × (slice_get xs i ≡ Some x) × (slice_index_or xs i x ≡ x)
item-there [] i below = absurd (omega (arith, below))
item-there (x ∷ xs) zero below = (x, refl, refl)
item-there (x ∷ xs) (suc i) below = item-there xs i (omega arith)

pub end-of : (setup : Setup) (s : SessionNo) (h : List Entry) {linked_sessions : List SessionLinks} (pairs : List PairState)
    → AreLinked setup h linked_sessions pairs
    → (p : PairNo) → owns_view setup s p ≡ true → IsEndOf setup s h pairs p
end-of setup s h pairs tied p owned =
    let owner : view_owner setup p ≡ Some s = owner-of s (view_owner setup p) owned in
    let below : p.0 < length pairs = (let declared : p.0 < length setup.pairs = declared-pair (λ pair. pair.view) s setup.pairs p.0 owner in
    omega (arith, declared, tied.count)) in
    let state = item-there pairs p.0 below in
    let kept = tied.each_pair p.0 state.0 below in
    let is : end_stamp pairs p ≡ (slice_index_or pairs p.0 state.0).ended =
    ap (option_and_then (λ (x : PairState). x.ended)) state.1 ∙ sym (ap (λ (x : PairState). x.ended) state.2) in
    record { owner = owner; stamp = rw is (kept.ended s owner) }

-- whether it has, while the session is open
pub ended-is : (setup : Setup) (s : SessionNo) (h : List Entry) {linked_sessions : List SessionLinks} (pairs : List PairState)
    → AreLinked setup h linked_sessions pairs
    → is_closed s h ≡ false → (p : PairNo) → owns_view setup s p ≡ true
    → is_ended pairs p ≡ happens setup (ends_view p) (calls s h)
ended-is setup s h pairs tied opened p owned =
    ap is_some ((end-of setup s h pairs tied p owned).stamp.opened opened)
    ∙ (stamped (happens setup (ends_view p)) (happening-lasts setup (ends_view p)) s h).some
