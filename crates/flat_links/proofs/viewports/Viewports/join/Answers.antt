use Rattle.std.proofs.Common.{◌≡◌, ◌∙◌, sym, ℕ, List, None, ap}
use Rattle.std.specs.List.{insert}
use Rattle.std.specs.Prelude.{is_ok, length, vec_len}
use Rattle.flat_links.specs.declared.tokens.OutToken.{OutToken}
use Rattle.flat_links.specs.Viewports.{place_of}
use Rattle.flat_links.proofs.Backs.{put-in-place, if-so}
use Rattle.flat_links.proofs.viewports.Viewports.join.Goals as goal

pub returns-clause-out : goal.returns-clause-out
returns-clause-out c =
    let outs : List OutToken = c.args.self.now.out.items in
    let one : OutToken = record { pair = c.args.pair; released = None } in
    let place : c.place_of-place.result ≡ place_of c.args.pair.0 outs = c.place_of-place.ensures.place ∙ ap (place_of c.args.pair.0) c.as_slice.ensures.value in
    let count : vec_len c.args.self.now.out ≡ length outs = sym c.as_slice.ensures.len ∙ ap (length {A = OutToken}) c.as_slice.ensures.value in
    if-so (is_ok c.insert-joined.result) _ _ _ (c.insert-joined.ensures.succeeds (rw count c.requires.room_out)) c.insert-joined.ensures.items
    ∙ ap (λ (i : ℕ). insert outs i one) place ∙ put-in-place one outs
