use Rattle.std.proofs.Common.{◌∙◌, arith}
use Rattle.std.proofs.lemmas.List.Sums.{prefix_len-le-length}
use Rattle.flat_text.specs.Pieces.{is_feed}
use Rattle.std.proofs.Common.{not, ◌≡◌, ◌≤◌, length}
use Rattle.std.specs.List.{position_or_len}
use Rattle.flat_text.proofs.FeedLemmas.{feed_at}
use Rattle.flat_text.proofs.pieces.place_of_feed.Goals as goal

pub returns : goal.returns
returns c =
    let text = c.args.text.now in
    let same : c.unwrap_or.result ≡ position_or_len is_feed text = c.unwrap_or.ensures ∙ feed_at text c.memchr.result c.memchr.ensures in
    let within : position_or_len is_feed text ≤ length text = prefix_len-le-length (λ b. not (is_feed b)) text in
    record { place = same; within = omega arith }
