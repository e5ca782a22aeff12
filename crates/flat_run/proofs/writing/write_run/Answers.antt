use Rattle.std.proofs.Common.{◌≡◌, ◌++◌, ℕ, List, [], refl, sym, ap, ◌∙◌, subst, append-nil}
use Rattle.flat_io.specs.Told.{Appends}
use Rattle.flat_io.specs.Whole.{AppendsPrefix}
use Rattle.flat_run.proofs.Answering.{is_status}
use Rattle.flat_run.proofs.PieceByPiece.{appends-none, appends-then, prefix-then}
use Rattle.flat_run.proofs.writing.write_run.Goals as goal

pub returns-then-gather-clause-whole : goal.returns-then-gather-clause-whole
returns-then-gather-clause-whole g c = λ is. ([], appends-none (g.W.Sink.held c.args.sink.now), sym (c.gather.ensures.waits c.if-gather.true))

pub returns-then-gather-clause-gains : goal.returns-then-gather-clause-gains
returns-then-gather-clause-gains g c = ([], appends-none (g.W.Sink.held c.args.sink.now))

pub returns-then-write_text-eq-WRITE_FAULT-clause-part : goal.returns-then-write_text-eq-WRITE_FAULT-clause-part
returns-then-write_text-eq-WRITE_FAULT-clause-part g c = λ is_5.
    let waits : List ℕ = c.as_slice.result.now in
    let same : waits ≡ c.args.waiting.now.items = c.as_slice.ensures.value ∙ c.gather.ensures.stays c.if-gather.false in
    let P : List ℕ → Type 0 = λ t. AppendsPrefix (t ++ c.args.run.now) (g.W.Sink.held c.args.sink.now) (g.W.Sink.held c.write_text.new.sink) in
    subst P same (prefix-then [] waits c.args.run.now _ _ _ (appends-none (g.W.Sink.held c.args.sink.now))
    (c.write_text.ensures.part c.if-write_text-eq-WRITE_FAULT.true))

pub returns-clause-whole : goal.returns-clause-whole
returns-clause-whole g c = λ is.
    let waits : List ℕ = c.as_slice.result.now in
    let same : waits ≡ c.args.waiting.now.items = c.as_slice.ensures.value ∙ c.gather.ensures.stays c.if-gather.false in
    let first = c.write_text.ensures.whole (is_status c.write_text.result c.args.status c.write_text.ensures.either c.if-write_text-eq-WRITE_FAULT.false) in (
      waits ++ c.args.run.now,
      appends-then _ _ _ _ _ first (c.write_text-2.ensures.whole is),
      ap (λ t. t ++ c.args.run.now) (sym same) ∙ sym (append-nil (waits ++ c.args.run.now))
          ∙ ap (λ t. (waits ++ c.args.run.now) ++ t) (sym c.clear.ensures.items),
    )

pub returns-clause-part : goal.returns-clause-part
returns-clause-part g c = λ is_5.
    let waits : List ℕ = c.as_slice.result.now in
    let run : List ℕ = c.args.run.now in
    let same : waits ≡ c.args.waiting.now.items = c.as_slice.ensures.value ∙ c.gather.ensures.stays c.if-gather.false in
    let first = c.write_text.ensures.whole (is_status c.write_text.result c.args.status c.write_text.ensures.either c.if-write_text-eq-WRITE_FAULT.false) in
    let P : List ℕ → Type 0 = λ t. AppendsPrefix t (g.W.Sink.held c.args.sink.now) (g.W.Sink.held c.write_text-2.new.sink) in
    subst P (ap (λ t. waits ++ t) (append-nil run) ∙ ap (λ t. t ++ run) same) (prefix-then waits run [] _ _ _ first (c.write_text-2.ensures.part is_5))

pub returns-clause-gains : goal.returns-clause-gains
returns-clause-gains g c =
    let first = c.write_text.ensures.whole (is_status c.write_text.result c.args.status c.write_text.ensures.either c.if-write_text-eq-WRITE_FAULT.false) in
    let second = c.write_text-2.ensures.gains in
    (c.as_slice.result.now ++ second.0, appends-then _ _ _ _ _ first second.1)
