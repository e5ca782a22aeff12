-- The state of a session in the list of all.
use Rattle.std.proofs.Common.{ℕ, zero, suc, ◌+◌, ◌-◌, ◌<◌, ◌≤◌, ◌≡◌, refl, Bool, cond, List, [], ◌∷◌, length, map, drop, Option, Some, None, slice_index_or}
use Rattle.std.proofs.Common.{arith, Bor}
use Rattle.std.proofs.lemmas.List.{drop_more, drop_all}
use Rattle.flat_base.specs.declared.ids.SessionNo.{SessionNo}
use Rattle.std.specs.Prelude.{option_map}
use Rattle.std.specs.Option.{option_copied}
use Rattle.flat_topology.specs.Shown.{Shown, state_of, view_of}
use Rattle.flat_topology.specs.Join.{is_view_of, viewer_from}
use Rattle.flat_join.specs.Walking.{viewer_at}

pub map-copied : {A B : Type 0} (f : A → B) (lent : Option (Bor A)) → option_map {T = Bor A} (λ (a : Bor A). f a.now) lent ≡ option_map f (option_copied lent)
map-copied f None = refl
map-copied f (Some a) = refl

pub map-at : {A B : Type 0} (f : A → B) (xs : List A) (k : ℕ) (d : A) (e : B) → k < length xs → f (slice_index_or xs k d) ≡ slice_index_or (map f xs) k e
map-at f [] k d e low = absurd (omega arith)
map-at f (x ∷ xs) zero d e low = refl
map-at f (x ∷ xs) (suc k) d e low = map-at f xs k d e (omega arith)

-- sessions are counted from 1
pub state-at : (shown : Shown) (s : ℕ) → 0 < s → state_of shown s ≡ slice_index_or shown (s - 1) None
state-at shown zero some = absurd (omega arith)
state-at shown (suc k) some = let e : suc k - 1 ≡ k = omega arith in rw e refl

-- who shows the view of a pair, from a session on
pub viewer-next : (shown : Shown) (s p : ℕ) (session : SessionNo) (is : Bool) → session.0 ≡ s → 0 < s → s ≤ length shown
    → is ≡ is_view_of p (view_of (state_of shown s))
    → viewer_from s (drop (s - 1) shown) p ≡ cond is (Some (viewer_at shown session)) (viewer_from (s + 1) (drop (s + 1 - 1) shown) p)
viewer-next shown s p session is number some few tells =
    let low : s - 1 < length shown = omega arith in
    let e : s - 1 + 1 ≡ s + 1 - 1 = omega arith in
    let here : drop (s - 1) shown ≡ slice_index_or shown (s - 1) None ∷ drop (s + 1 - 1) shown = rw (← e) (drop_more shown (s - 1) None low) in
    rw (here, tells, number, state-at shown s some) refl

pub viewer-none : (shown : Shown) (s p : ℕ) → length shown < s → viewer_from s (drop (s - 1) shown) p ≡ None
viewer-none shown s p high = let none : drop (s - 1) shown ≡ [] = drop_all (s - 1) shown (omega arith) in rw none refl
