use Rattle.std.proofs.Common.{◌∙◌, sym}
use Rattle.flat_base.specs.declared.ids.Actor.TheVariants.{Session}
use Rattle.flat_scene.specs.declared.script.WaitCondition.TheVariants as asks
use Rattle.flat_text.specs.Pieces.{is_space}
use Rattle.flat_text.specs.Left.{pieces_left}
use Rattle.flat_places.specs.Places.{fence, u32}
use Rattle.flat_forms.proofs.lemmas.FormLemmas.{whole_failed, whole_mapped}
use Rattle.flat_forms.proofs.conditions.session_condition.Goals as goal

pub returns-in-Ok-owned_fence : goal.returns-in-Ok-owned_fence
returns-in-Ok-owned_fence c =
    let frames = sym c.is_word.ensures ∙ c.if-is_word.false in
    let credits = sym c.is_word-2.ensures ∙ c.if-is_word-2.false in
    let taken = sym c.is_word-3.ensures ∙ c.if-is_word-3.false in
    let answers = sym c.is_word-4.ensures ∙ c.if-is_word-4.false in
    let named = sym c.is_word-5.ensures ∙ c.if-is_word-5.true in
    let read = sym c.owned_fence.ensures ∙ c.in-Ok-owned_fence.is in
    let form = fence c.args.script.now.script (Session c.args.session) in
    rw (c.in-Some.is, c.next_piece.ensures, frames, credits, taken, answers, named)
    (sym (whole_mapped (λ f. asks.Fence f) form (pieces_left is_space c.next_piece.result.1) c.in-Ok-owned_fence.f read))

pub returns-in-Err : goal.returns-in-Err
returns-in-Err c =
    let frames = sym c.is_word.ensures ∙ c.if-is_word.true in
    rw (c.in-Some.is, c.next_piece.ensures, frames)
    (sym (whole_failed (λ n. asks.Frames n) u32 (pieces_left is_space c.next_piece.result.1) c.in-Err.k (sym c.count.ensures ∙ c.in-Err.is)))

pub returns-in-Err-count : goal.returns-in-Err-count
returns-in-Err-count c =
    let frames = sym c.is_word.ensures ∙ c.if-is_word.false in
    let credits = sym c.is_word-2.ensures ∙ c.if-is_word-2.true in
    rw (c.in-Some.is, c.next_piece.ensures, frames, credits)
    (sym (whole_failed (λ n. asks.Credits n) u32 (pieces_left is_space c.next_piece.result.1) c.in-Err-count.k
    (sym c.count-then-is_word-2.ensures ∙ c.in-Err-count.is)))

pub returns-in-Err-count-2 : goal.returns-in-Err-count-2
returns-in-Err-count-2 c =
    let frames = sym c.is_word.ensures ∙ c.if-is_word.false in
    let credits = sym c.is_word-2.ensures ∙ c.if-is_word-2.false in
    let taken = sym c.is_word-3.ensures ∙ c.if-is_word-3.true in
    rw (c.in-Some.is, c.next_piece.ensures, frames, credits, taken)
    (sym (whole_failed (λ n. asks.Taken n) u32 (pieces_left is_space c.next_piece.result.1) c.in-Err-count-2.k
    (sym c.count-then-is_word-3.ensures ∙ c.in-Err-count-2.is)))

pub returns-in-Err-count-3 : goal.returns-in-Err-count-3
returns-in-Err-count-3 c =
    let frames = sym c.is_word.ensures ∙ c.if-is_word.false in
    let credits = sym c.is_word-2.ensures ∙ c.if-is_word-2.false in
    let taken = sym c.is_word-3.ensures ∙ c.if-is_word-3.false in
    let answers = sym c.is_word-4.ensures ∙ c.if-is_word-4.true in
    rw (c.in-Some.is, c.next_piece.ensures, frames, credits, taken, answers)
    (sym (whole_failed (λ n. asks.Answers n) u32 (pieces_left is_space c.next_piece.result.1) c.in-Err-count-3.k
    (sym c.count-then-is_word-4.ensures ∙ c.in-Err-count-3.is)))

pub returns-in-Err-owned_fence : goal.returns-in-Err-owned_fence
returns-in-Err-owned_fence c =
    let frames = sym c.is_word.ensures ∙ c.if-is_word.false in
    let credits = sym c.is_word-2.ensures ∙ c.if-is_word-2.false in
    let taken = sym c.is_word-3.ensures ∙ c.if-is_word-3.false in
    let answers = sym c.is_word-4.ensures ∙ c.if-is_word-4.false in
    let named = sym c.is_word-5.ensures ∙ c.if-is_word-5.true in
    let form = fence c.args.script.now.script (Session c.args.session) in
    rw (c.in-Some.is, c.next_piece.ensures, frames, credits, taken, answers, named)
    (sym (whole_failed (λ f. asks.Fence f) form (pieces_left is_space c.next_piece.result.1) c.in-Err-owned_fence.k
    (sym c.owned_fence.ensures ∙ c.in-Err-owned_fence.is)))
