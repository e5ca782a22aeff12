use Rattle.std.proofs.Common.{◌++◌, ◌∷◌, [], map, codes}
use Rattle.flat_stress.specs.Words.{session, pair, from_to}
use Rattle.flat_page.specs.Words.{number}
use Rattle.flat_stress.proofs.Writing.{two}
use Rattle.flat_stress.proofs.load.push_head.Goals as goal

pub returns : goal.returns
returns c =
    let start = (codes "flatland" ∷ number 1 ∷ []) ∷ (codes "display" ∷ number 1000 ∷ number 1000 ∷ []) ∷ [] in
    let sessions = map (λ i. codes "session" ∷ session i ∷ []) (from_to 1 8) in
    let first = (codes "pair" ∷ pair 1 ∷ codes "display" ∷ session 1 ∷ []) ∷ [] in
    let pairs = map (λ i. codes "pair" ∷ pair i ∷ session 1 ∷ session i ∷ []) (from_to 2 8) in
    let run = (codes "run" ∷ []) ∷ [] in
    let d = two pairs run _ _ _ c.in_ok-push_pairs.ensures c.in_ok-push_run.ensures in
    let b = two first (pairs ++ run) _ _ _ c.in_ok-push_first_pair.ensures d in
    let a = two sessions (first ++ pairs ++ run) _ _ _ c.in_ok-push_sessions.ensures b in
    two start (sessions ++ first ++ pairs ++ run) _ _ _ c.in_ok-push_start.ensures a
