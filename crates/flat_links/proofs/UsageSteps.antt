-- What a frame's viewports do to what is kept of pairs, one viewport after another.
use Rattle.std.proofs.Common.{◌≡◌, ◌∙◌, ℕ, ◌+◌, ◌<◌, ◌≤◌, Bool, true, List, [], ◌∷◌, length, refl, arith, ap, Some, None, slice_index_or, slice_set}
use Rattle.std.specs.Prelude.{Option, cond, nat_lt, ◌==◌, ◌&&◌}
use Rattle.std.proofs.lemmas.Bool.Decides.{nat_tests}
use Rattle.std.proofs.lemmas.List.{get_or_default}
use Rattle.flat_base.specs.declared.ids.PairNo.{PairNo}
use Rattle.flat_scene.specs.declared.calls.ViewportProps.{ViewportProps}
use Rattle.flat_scene.specs.declared.trees.ViewportUse.{ViewportUse}
use Rattle.flat_links.specs.declared.pairs.PairState.{PairState}
use Rattle.flat_rules.specs.Numbers.{AllNumbered}
use Rattle.flat_links.specs.Usage.{SeesUses, SettlesPairs, props_among, settled, with_pending}
use Rattle.flat_states.proofs.lemmas.BeginLoop.{none-below, not-below, same-side, this-side}
use Rattle.flat_states.proofs.lemmas.Changes.{changed-one}
use Rattle.std.specs.Option.{option_or}

or-three : (x y z : Option ViewportProps) → option_or x (option_or y z) ≡ option_or (option_or x y) z
or-three (Some a) y z = refl
or-three None y z = refl

pub sees-none : (pairs : List PairState) → SeesUses [] pairs pairs
sees-none pairs = record { count = refl; each = λ i d below. record { same = refl; pending = λ n is. refl } }

pub sees-more : (one : ViewportUse) (rest : List ViewportUse) (a b c : List PairState) → SeesUses (one ∷ []) a b → SeesUses rest b c → SeesUses (one ∷ rest) a c
sees-more one rest a b c first later = record {
  count = later.count ∙ first.count;
  each = λ i d below.
      let p : PairNo = record { 0 = i } in
      let x : PairState = slice_index_or a i d in
      let y : PairState = slice_index_or b i d in
      let z : PairState = slice_index_or c i d in
      let one_step = first.each i d below in
      let rest_step = later.each i d (omega (arith, below, first.count)) in
      record {
        same = rest_step.same ∙ ap (λ (s : PairState). with_pending s z.pending) one_step.same;
        pending = λ n is.
            let one_by : Option ViewportProps = cond (one.pair.0 == p.0 && one.serial == n) (Some one.props) None in
            rest_step.pending n (ap (λ (s : PairState). s.serial) one_step.same ∙ is) ∙ ap (option_or (props_among p rest n)) (one_step.pending n is)
            ∙ or-three (props_among p rest n) one_by x.pending;
      };
}

-- ---- the end of a frame

-- the state at a place, where those before a place are settled
abbrev pub IsSettledUpTo : List PairState → ℕ → ℕ → PairState → Type 0
IsSettledUpTo old n i state = (d : PairState) → i < length old → state ≡ cond (nat_lt i n) (settled (slice_index_or old i d)) (slice_index_or old i d)

pub settled-none : (old : List PairState) → AllNumbered (IsSettledUpTo old 0) old
settled-none old i e below d within = rw (none-below i) (get_or_default old i e d below)

pub settled-more : (old now : List PairState) (n : ℕ) (state : PairState) → length now ≡ length old → n < length now → state ≡ slice_index_or now n state
    → AllNumbered (IsSettledUpTo old n) now
    → AllNumbered (IsSettledUpTo old (n + 1)) (slice_set now n (settled state))
settled-more old now n state count below is each =
    changed-one (IsSettledUpTo old n) (IsSettledUpTo old (n + 1)) now n (settled state)
    (λ j x other kept d within. kept d within ∙ ap (λ (b : Bool). cond b (settled (slice_index_or old j d)) (slice_index_or old j d)) (same-side n j other))
    (λ d within. rw (this-side n) (ap settled (is ∙ rw (not-below n) at (each n state below d within)))) each

pub settled-all : (old new : List PairState) (n : ℕ) → length new ≡ length old → length old ≤ n → AllNumbered (IsSettledUpTo old n) new → SettlesPairs old new
settled-all old new n count done each = record {
  count = count;
  each = λ i d below.
      let last : nat_lt i n ≡ true = grind (arith, nat_tests) in
      each i d (omega (arith, below, count)) d below ∙ ap (λ (b : Bool). cond b (settled (slice_index_or old i d)) (slice_index_or old i d)) last;
}
