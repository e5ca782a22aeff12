use Rattle.std.proofs.Common.{◌≡◌, ◌==◌, ◌≤◌, rules, tests, arith, Some, None, cond, length, nat_lt, not}
use Rattle.std.specs.List.{position_or_len}
use Rattle.std.proofs.lemmas.Grind.{common_steps}
use Rattle.std.proofs.lemmas.List.Sums.{prefix_len-le-length}
use Rattle.std.proofs.lemmas.Iterator.{YieldsList-from_slice}
use Rattle.std.proofs.lemmas.Iterator.Search.{position_from_yields_List}
use Rattle.flat_text.proofs.pieces.place_of.Goals as goal

pub returns : goal.returns
returns c =
    let text = c.args.text.now in
    let place = position_or_len (λ b. b == c.args.separator) text in
    let found : c.position.result ≡ cond (nat_lt place (length text)) (Some place) None =
    position_from_yields_List (λ b. b == c.args.separator) _ _ c.position.result c.position.ensures.ran (YieldsList-from_slice _ c.iter.ensures.rest)
    (λ x b q k. search (rules, tests)) in
    let within : place ≤ length text = prefix_len-le-length (λ b. not (b == c.args.separator)) text in
    let same : c.unwrap_or.result ≡ place = grind (arith, common_steps, found, within) in
    record { place = same; within = omega arith }
