use Rattle.std.proofs.Common.{◌≡◌, ◌∙◌, ◌<◌, ℕ, [], ◌∷◌, ap, sym, subst, lit<, lit≤}
use Rattle.flat_stage.specs.Homes.{SeatsView, session_at}
use Rattle.flat_stage.specs.Seats.{SessionView}
use Rattle.flat_stage_tests.proofs.Fresh.{first_is, second_is, fresh_reads, number}
use Rattle.flat_stage_tests.proofs.cast.new_cast.Goals as goal

pub returns-clause-first : goal.returns-clause-first
returns-clause-first c =
    let a = c.take-first.ensures in
    let e = c.in_ok-stage.ensures in
    let o = c.in_ok-opened.ensures in
    let P : ℕ → Type 0 = λ n. 0 < n in
    let is = first_is _ _ _ _ e.sessions (subst P (sym (ap (λ m. m.setup.sessions) o)) (lit< tt)) (sym a.seat ∙ c.in-Some.ensures.0) in
    let reads = fresh_reads _ (20 ∷ 101 ∷ 101 ∷ []) (number 1) _ (e.shares ∙ ap (λ m. m.shares) o) (lit≤ tt) is in
    (reads.0, reads.1, ap (λ (v : SessionView). v.session) is)

pub returns-clause-second : goal.returns-clause-second
returns-clause-second c =
    let a = c.take-first.ensures in
    let b = c.take-second.ensures in
    let e = c.in_ok-stage.ensures in
    let o = c.in_ok-opened.ensures in
    let P : ℕ → Type 0 = λ n. 1 < n in
    let at = subst (λ (seats : SeatsView). session_at seats.seats (number 2) ≡ c.take-second.result) a.away (sym b.seat) in
    fresh_reads _ (20 ∷ 101 ∷ 101 ∷ []) (number 2) _ (e.shares ∙ ap (λ m. m.shares) o) (lit≤ tt)
    (second_is _ _ _ _ e.sessions (subst P (sym (ap (λ m. m.setup.sessions) o)) (lit< tt)) (at ∙ c.in-Some.ensures.1))
