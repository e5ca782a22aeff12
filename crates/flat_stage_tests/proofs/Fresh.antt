-- The seats of a new stage may read as many lines as their shares allow.
use Rattle.std.proofs.Common.{◌≡◌, ◌≢◌, ◌∙◌, ℕ, ◌<◌, ◌≤◌, List, refl, sym, subst, lit<, arith}
use Rattle.std.specs.Prelude.{Option, Some, None, slice_index, slice_index_or}
use Rattle.std.proofs.lemmas.Option.{get_or_from_slice_get}
use Rattle.std.proofs.lemmas.List.{get_or-set_other}
use Rattle.flat_base.specs.declared.ids.SessionNo.{SessionNo}
use Rattle.flat_stage.specs.Homes.{AreFresh, fresh_view, session_at, seats_without}
use Rattle.flat_stage.specs.Seats.{SessionView, StageView, shares_of}
use Rattle.flat_stage_tests.specs.Room.{MayRead}

abbrev pub number : ℕ → SessionNo
number n = record { 0 = n }

-- a seat that read no line may read as many as its share allows
pub fresh_reads : (stage : StageView) (shares : List ℕ) (s : SessionNo) (seat : SessionView) → shares_of stage ≡ shares → 101 ≤ slice_index shares s.0
    → seat ≡ fresh_view stage s → (seat.stage ≡ stage) × MayRead 101 seat
fresh_reads stage shares s seat same room is =
    let P : SessionView → Type 0 = λ v. (v.stage ≡ stage) × MayRead 101 v in
    let Q : List ℕ → Type 0 = λ xs. 101 ≤ slice_index xs s.0 in
    subst P (sym is) (refl, record { unended = refl; room = subst Q (sym same) room; few = lit< tt })

some-same : {A : Type 0} (o : Option A) (x y : A) → o ≡ Some x → o ≡ Some y → x ≡ y
some-same o x y p q = cc

-- the seats of the first two sessions, as they are taken
pub first_is : (stage : StageView) (n : ℕ) (seats : List (Option SessionView)) (seat : SessionView) → AreFresh stage n seats → 0 < n
    → session_at seats (number 1) ≡ Some seat → seat ≡ fresh_view stage (number 1)
first_is stage n seats seat fresh some at =
    some-same (slice_index_or seats 0 None) seat (fresh_view stage (number 1)) at
    (get_or_from_slice_get seats 0 (Some (fresh_view stage (number 1))) None (fresh.each 0 some))

pub second_is : (stage : StageView) (n : ℕ) (seats : List (Option SessionView)) (seat : SessionView) → AreFresh stage n seats → 1 < n
    → session_at (seats_without seats (number 1)) (number 2) ≡ Some seat → seat ≡ fresh_view stage (number 2)
second_is stage n seats seat fresh some at =
    let other : 1 ≢ 0 = grind arith in
    some-same (slice_index_or seats 1 None) seat (fresh_view stage (number 2)) (sym (get_or-set_other seats 0 1 None None other) ∙ at)
    (get_or_from_slice_get seats 1 (Some (fresh_view stage (number 2))) None (fresh.each 1 some))
