use Rattle.std.proofs.Common.{◌≡◌, ◌∙◌, ap, sym, subst, List, length, arith, true, false}
use Rattle.std.specs.Prelude.{◌&&◌, ◌==◌, nat_lt, slice_index_or}
use Rattle.std.specs.List.Sorted.{IsPartitionPoint}
use Rattle.std.proofs.lemmas.Bool.Decides.{nat_tests}
use Rattle.flat_base.specs.declared.ids.PairNo.{PairNo}
use Rattle.flat_base.proofs.lemmas.Tests.{and-left, and-right}
use Rattle.flat_gets.proofs.PairLists.{apart-at, found-pair, put-pair, rises-with}
use Rattle.flat_gets.specs.Listed.{rises_from}
use Rattle.flat_gets.proofs.session.list_pair.Goals as goal

pub returns-then-has_at-clause-listed : goal.returns-then-has_at-clause-listed
returns-then-has_at-clause-listed c =
    let xs = c.args.listed.now.items in
    let p = c.args.p in
    let i = c.place_of-place.result in
    let T : List PairNo → Type 0 = λ l. IsPartitionPoint (λ (q : PairNo). nat_lt q.0 p.0 ≡ true) (λ (q : PairNo). nat_lt q.0 p.0 ≡ false) l i in
    let point : T xs = subst T c.as_slice.ensures.value c.place_of-place.ensures.point in
    let at : (nat_lt i (length xs) && (slice_index_or xs i p).0 == p.0) ≡ true =
    sym (ap (λ (l : List PairNo). nat_lt i (length l) && (slice_index_or l i p).0 == p.0) c.as_slice-2.ensures.value) ∙ sym (c.has_at.ensures p)
    ∙ c.if-has_at.true in
    let first : nat_lt i (length xs) ≡ true = and-left (nat_lt i (length xs)) _ at in
    let second : ((slice_index_or xs i p).0 == p.0) ≡ true = and-right (nat_lt i (length xs)) _ at in
    sym (found-pair p xs i p (grind (arith, nat_tests)) (λ k d b w. point.0 k d (omega arith) b) (grind (arith, nat_tests)))

pub returns-clause-listed : goal.returns-clause-listed
returns-clause-listed c =
    let xs = c.args.listed.now.items in
    let p = c.args.p in
    let i = c.place_of-place.result in
    let T : List PairNo → Type 0 = λ l. IsPartitionPoint (λ (q : PairNo). nat_lt q.0 p.0 ≡ true) (λ (q : PairNo). nat_lt q.0 p.0 ≡ false) l i in
    let point : T xs = subst T c.as_slice.ensures.value c.place_of-place.ensures.point in
    let bound = c.place_of-place.ensures.bound in
    let same = ap (length {A = PairNo}) c.as_slice.ensures.value in
    c.in_ok-insert.ensures.items
    ∙ put-pair p xs i (omega (arith, bound, same)) (λ k d b w. point.0 k d (omega arith) b) (λ k d b w. point.1 k d b (omega (arith, w, same)))
    (λ d w. apart-at xs p i d w (sym (ap (λ (l : List PairNo). nat_lt i (length l) && (slice_index_or l i d).0 == p.0) c.as_slice-2.ensures.value)
    ∙ sym (c.has_at.ensures d) ∙ c.if-has_at.false))

pub returns-then-has_at-clause-rising : goal.returns-then-has_at-clause-rising
returns-then-has_at-clause-rising c = c.requires

pub returns-clause-rising : goal.returns-clause-rising
returns-clause-rising c = ap (rises_from 0) (returns-clause-listed c) ∙ rises-with 0 c.args.p c.args.listed.now.items (omega arith) c.requires
