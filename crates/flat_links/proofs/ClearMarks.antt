-- The stamps of cleared viewports, one live viewport after another.
use Rattle.std.proofs.Common.{◌≡◌, ◌∙◌, sym, ℕ, Bool, true, false, List, [], ◌∷◌, refl, arith, ap, Some, None, slice_index_or}
use Rattle.std.specs.Prelude.{Option, ◌||◌, ◌&&◌, ◌==◌, cond}
use Rattle.std.specs.List.{list_any}
use Rattle.flat_base.specs.declared.ids.ContentId.{ContentId}
use Rattle.flat_base.specs.declared.ids.PairNo.{PairNo}
use Rattle.flat_scene.specs.declared.calls.Call.{Call}
use Rattle.flat_scene.specs.declared.calls.Call.TheVariants.{ReleaseViewport, Clear}
use Rattle.flat_facts.specs.declared.live_viewport.LiveViewport.{LiveViewport}
use Rattle.flat_links.specs.declared.pairs.PairState.{PairState}
use Rattle.flat_facts.specs.Clears.{is_clear, is_cleared, clears_pair}
use Rattle.flat_links.specs.Clears.{cleared_if, ClearsOne, ClearsLive}
use Rattle.flat_rules.specs.Stamps.{stamp_then}
use Rattle.flat_links.proofs.Marks.{stamp-none}
use Rattle.std.proofs.lemmas.Bool.{and_right}

abbrev with_clear : PairState → Option ℕ → PairState
with_clear state stamp = record state { cleared = stamp }

pub not-cleared : (k : ℕ) (state : PairState) → cleared_if false k state ≡ state
not-cleared k state = ap (with_clear state) (stamp-none state.cleared k)

stamp-or : (stamp : Option ℕ) (a b : Bool) (k : ℕ) → stamp_then (stamp_then stamp a k) b k ≡ stamp_then stamp (a || b) k
stamp-or (Some n) a b k = refl
stamp-or None true b k = refl
stamp-or None false b k = refl

-- nothing lives
pub clears-none : (calls : List Call) (k : ℕ) (pairs : List PairState) → ClearsLive [] calls k pairs pairs
clears-none calls k pairs = record { count = refl; each = λ i d below. sym (not-cleared k (slice_index_or pairs i d)) }

and-true : (a b : Bool) → b ≡ true → (a && b) ≡ a
and-true true b is = is
and-true false b is = refl

-- one that the calls clear, and then the others
pub clears-more : (one : LiveViewport) (live : List LiveViewport) (calls : List Call) (k : ℕ) (a b c : List PairState) → is_cleared one.name calls ≡ true
    → ClearsOne one.pair k a b → ClearsLive live calls k b c → ClearsLive (one ∷ live) calls k a c
clears-more one live calls k a b c is first later = record {
  count = later.count ∙ first.count;
  each = λ i d below.
      let q : PairNo = record { 0 = i } in
      let x : PairState = slice_index_or a i d in
      later.each i d (omega (arith, below, first.count)) ∙ ap (cleared_if (clears_pair q live calls) k) (first.each i d below)
      ∙ ap (with_clear x) (stamp-or x.cleared (one.pair.0 == i) (clears_pair q live calls) k)
      ∙ ap (λ (t : Bool). with_clear x (stamp_then x.cleared (t || clears_pair q live calls) k))
      (sym (and-true (one.pair.0 == i) (is_cleared one.name calls) is));
}

-- one that they don't
pub clears-less : (one : LiveViewport) (live : List LiveViewport) (calls : List Call) (k : ℕ) (a c : List PairState) → is_cleared one.name calls ≡ false
    → ClearsLive live calls k a c → ClearsLive (one ∷ live) calls k a c
clears-less one live calls k a c is later = record {
  count = later.count;
  each = λ i d below.
      let q : PairNo = record { 0 = i } in
      let x : PairState = slice_index_or a i d in
      later.each i d below ∙ ap (λ (t : Bool). with_clear x (stamp_then x.cleared (t || clears_pair q live calls) k))
      (sym (and_right (one.pair.0 == i) (is_cleared one.name calls) is));
}

no-clear : (name : ContentId) (calls : List Call) → list_any is_clear calls ≡ false → is_cleared name calls ≡ false
no-clear name [] none = refl
no-clear name (ReleaseViewport c ∷ calls) none = by_name (no-clear name calls none) (name.0 == c.0)
  where
    by_name : is_cleared name calls ≡ false → (b : Bool) → cond b false (is_cleared name calls) ≡ false
    by_name rest true = refl
    by_name rest false = rest
no-clear name (Clear ∷ calls) none = let wrong : true ≡ false = none in cc
no-clear name (_ ∷ calls) none = no-clear name calls none

-- calls without a Clear
pub clears-nothing : (live : List LiveViewport) (calls : List Call) (k : ℕ) (pairs : List PairState) → list_any is_clear calls ≡ false
    → ClearsLive live calls k pairs pairs
clears-nothing [] calls k pairs none = clears-none calls k pairs
clears-nothing (one ∷ live) calls k pairs none = clears-less one live calls k pairs pairs (no-clear one.name calls none)
    (clears-nothing live calls k pairs none)

-- calls that clear the same viewports do the same
same-pair : (p : PairNo) (live : List LiveViewport) (calls calls' : List Call) → ((name : ContentId) → is_cleared name calls' ≡ is_cleared name calls)
    → clears_pair p live calls' ≡ clears_pair p live calls
same-pair p [] calls calls' same = refl
same-pair p (one ∷ live) calls calls' same = rw (same one.name, same-pair p live calls calls' same) refl

pub clears-same : (live : List LiveViewport) (calls calls' : List Call) (k : ℕ) (a b : List PairState)
    → ((name : ContentId) → is_cleared name calls' ≡ is_cleared name calls) → ClearsLive live calls' k a b → ClearsLive live calls k a b
clears-same live calls calls' k a b same clears = record {
  count = clears.count;
  each = λ i d below. let q : PairNo = record { 0 = i } in clears.each i d below
      ∙ ap (λ (t : Bool). cleared_if t k (slice_index_or a i d)) (same-pair q live calls calls' same);
}
