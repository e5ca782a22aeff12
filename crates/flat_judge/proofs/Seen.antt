-- The frames that a probe has seen, among those that are named for it.
use Rattle.std.proofs.Common.{◌≡◌, ℕ, zero, suc, ◌+◌, ◌<◌, ◌≤◌, ◌&&◌, nat_le, true, false, List, [], ◌∷◌, ◌++◌, length, append_assoc, append-nil}
use Rattle.std.proofs.Common.{length-append, refl, sym, ap, ◌∙◌, arith, Option, Some, slice_get}
use Rattle.std.specs.List.{list_all}
use Rattle.std.proofs.lemmas.Bool.{and_parts, and_from}
use Rattle.std.proofs.lemmas.Bool.Decides.{nat_tests}
use Rattle.std.proofs.lemmas.List.Folds.{list_all-append}
use Rattle.flat_report.specs.Probes.{never_fall_from}
use Rattle.flat_judge.specs.Heeding.{HasSeen, is_reached}

-- ---- numbers ahead

pub ahead-less : (from to : ℕ) (later : List ℕ) → to ≤ from → list_all (nat_le from) later ≡ true → list_all (nat_le to) later ≡ true
ahead-less from to [] less ahead = refl
ahead-less from to (x ∷ later) less ahead =
    let parts = and_parts (nat_le from x) (list_all (nat_le from) later) ahead in
    let first = parts.0 in
    let here : nat_le to x ≡ true = grind (arith, nat_tests) in
    and_from (nat_le to x) (list_all (nat_le to) later) here (ahead-less from to later less parts.1)

all-zero : (later : List ℕ) → list_all (nat_le 0) later ≡ true
all-zero [] = refl
all-zero (x ∷ later) = let here : nat_le 0 x ≡ true = grind (arith, nat_tests) in and_from (nat_le 0 x) (list_all (nat_le 0) later) here (all-zero later)

pub rise-ahead : (from : ℕ) (later : List ℕ) → never_fall_from from later ≡ true → list_all (nat_le from) later ≡ true
rise-ahead from [] rise = refl
rise-ahead from (x ∷ later) rise =
    let parts = and_parts (nat_le from x) (never_fall_from x later) rise in
    let first = parts.0 in
    let low : from ≤ x = grind (arith, nat_tests) in
    and_from (nat_le from x) (list_all (nat_le from) later) parts.0 (ahead-less x from later low (rise-ahead x later parts.1))

-- what stands behind others never falls either
rise-behind : (n : ℕ) (seen : List ℕ) (x : ℕ) (later : List ℕ) → never_fall_from n (seen ++ x ∷ later) ≡ true → never_fall_from x later ≡ true
rise-behind n [] x later rise = (and_parts (nat_le n x) (never_fall_from x later) rise).1
rise-behind n (y ∷ seen) x later rise = rise-behind y seen x later (and_parts (nat_le n y) (never_fall_from y (seen ++ x ∷ later)) rise).1

next-is : (seen : List ℕ) (x : ℕ) (later : List ℕ) → slice_get (seen ++ x ∷ later) (length seen) ≡ Some x
next-is [] x later = refl
next-is (y ∷ seen) x later = next-is seen x later

-- ---- a probe goes on

pub seen-first : (hints : List ℕ) → HasSeen 0 hints []
seen-first hints = record { later = hints; is = refl; ahead = all-zero hints }

pub seen-before : (from to : ℕ) (hints seen : List ℕ) → to ≤ from → HasSeen from hints seen → HasSeen to hints seen
seen-before from to hints seen less has = record { later = has.later; is = has.is; ahead = ahead-less from to has.later less has.ahead }

-- a line is answered by the frame that is named for it
pub seen-answer : (frame : ℕ) (hints seen : List ℕ) → is_reached (slice_get hints (length seen)) frame ≡ true → length seen < length hints
    → HasSeen frame hints seen → HasSeen frame hints (seen ++ frame ∷ [])
seen-answer frame hints seen reached more has = by has.later has.is has.ahead
  where
    by : (later : List ℕ) → hints ≡ seen ++ later → list_all (nat_le frame) later ≡ true → HasSeen frame hints (seen ++ frame ∷ [])
    by [] is ahead = absurd (let same : length hints ≡ length seen = ap length (is ∙ append-nil seen) in omega (arith, same, more))
    by (x ∷ later) is ahead =
        let parts = and_parts (nat_le frame x) (list_all (nat_le frame) later) ahead in
        let above = parts.0 in
        let next : slice_get hints (length seen) ≡ Some x = ap (λ (hs : List ℕ). slice_get hs (length seen)) is ∙ next-is seen x later in
        let below : nat_le x frame ≡ true = ap (λ (o : Option ℕ). is_reached o frame) (sym next) ∙ reached in
        let same : x ≡ frame = grind (arith, nat_tests) in
        record { later = later; is = is ∙ ap (λ (n : ℕ). seen ++ n ∷ later) same ∙ sym (append_assoc seen (frame ∷ []) later); ahead = parts.1 }

-- a line waits for a later frame, and so do those behind it
pub seen-waits : (frame : ℕ) (hints seen : List ℕ) → never_fall_from 0 hints ≡ true → is_reached (slice_get hints (length seen)) frame ≡ false
    → HasSeen frame hints seen → HasSeen (suc frame) hints seen
seen-waits frame hints seen rise waits has = by has.later has.is
  where
    by : (later : List ℕ) → hints ≡ seen ++ later → HasSeen (suc frame) hints seen
    by [] is = record { later = []; is = is; ahead = refl }
    by (x ∷ later) is =
        let next : slice_get hints (length seen) ≡ Some x = ap (λ (hs : List ℕ). slice_get hs (length seen)) is ∙ next-is seen x later in
        let above : nat_le x frame ≡ false = ap (λ (o : Option ℕ). is_reached o frame) (sym next) ∙ waits in
        let here : nat_le (suc frame) x ≡ true = grind (arith, nat_tests) in
        let low : suc frame ≤ x = grind (arith, nat_tests) in
        let rest : never_fall_from x later ≡ true = rise-behind 0 seen x later (ap (never_fall_from 0) (sym is) ∙ rise) in
        record {
          later = x ∷ later;
          is = is;
          ahead = and_from (nat_le (suc frame) x) (list_all (nat_le (suc frame)) later) here
              (ahead-less x (suc frame) later low (rise-ahead x later rest));
        }

-- no line is left
pub seen-whole : (from to : ℕ) (hints seen : List ℕ) → length hints ≤ length seen → HasSeen from hints seen → HasSeen to hints seen
seen-whole from to hints seen few has = by has.later has.is
  where
    by : (later : List ℕ) → hints ≡ seen ++ later → HasSeen to hints seen
    by [] is = record { later = []; is = is; ahead = refl }
    by (x ∷ later) is = absurd (let many : length hints ≡ length seen + length (x ∷ later) = ap length is ∙ length-append seen (x ∷ later) in
        omega (arith, many, few))

-- no frame is left
pub seen-end : (frames : ℕ) (hints seen : List ℕ) → list_all (λ frame. nat_le frame frames) hints ≡ true → HasSeen (suc frames) hints seen → hints ≡ seen
seen-end frames hints seen within has = by has.later has.is has.ahead
  where
    by : (later : List ℕ) → hints ≡ seen ++ later → list_all (nat_le (suc frames)) later ≡ true → hints ≡ seen
    by [] is ahead = is ∙ append-nil seen
    by (x ∷ later) is ahead =
        let above = (and_parts (nat_le (suc frames) x) (list_all (nat_le (suc frames)) later) ahead).0 in
        let both : (list_all (λ frame. nat_le frame frames) seen && list_all (λ frame. nat_le frame frames) (x ∷ later)) ≡ true =
        sym (list_all-append (λ frame. nat_le frame frames) seen (x ∷ later)) ∙ ap (list_all (λ frame. nat_le frame frames)) (sym is) ∙ within in
        let behind = (and_parts (list_all (λ frame. nat_le frame frames) seen) (list_all (λ frame. nat_le frame frames) (x ∷ later)) both).1 in
        let below = (and_parts (nat_le x frames) (list_all (λ frame. nat_le frame frames) later) behind).0 in
        absurd (let wrong : x < x = grind (arith, nat_tests) in omega (arith, wrong))

-- all frames that could be named are reached
pub reached-last : (frame : ℕ) (hints : List ℕ) (k : ℕ) → list_all (λ named. nat_le named frame) hints ≡ true → is_reached (slice_get hints k) frame ≡ true
reached-last frame [] k within = refl
reached-last frame (x ∷ hints) zero within = (and_parts (nat_le x frame) (list_all (λ named. nat_le named frame) hints) within).0
reached-last frame (x ∷ hints) (suc k) within = reached-last frame hints k (and_parts (nat_le x frame) (list_all (λ named. nat_le named frame) hints) within).1
