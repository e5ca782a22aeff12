use Rattle.std.proofs.Common.{◌≡◌, ◌∙◌, ◌++◌, ◌∷◌, [], ap, if◌then◌else◌}
use Rattle.flat_text.specs.Pieces.{lines_of}
use Rattle.flat_forms.specs.Ahead.{head_of}
use Rattle.flat_script.proofs.AheadLemmas.{all_ahead, more_ahead}
use Rattle.flat_script.proofs.PlainLemmas.{first_plain, rest_plain}
use Rattle.flat_script.proofs.ahead.piece_ahead.Goals as goal

pub returns : goal.returns
returns c = all_ahead (head_of c.args.script.now.script) (lines_of c.args.piece.now) c.loop-first.known.items _ c.from_vec-2.ensures.items
    (c.loop-first.invariant.ahead [] tt)

pub returns-then-not-note : goal.returns-then-not-note
returns-then-not-note c =
    let kept : c.note.new.known.items ≡ c.loop-first.known.items =
    c.note.ensures ∙ ap (λ b. if b then c.loop-first.known.items ++ c.line_ahead.result ∷ [] else c.loop-first.known.items) c.if-not-note.true in
    all_ahead (head_of c.args.script.now.script) (lines_of c.args.piece.now) c.loop-first.known.items _ (c.from_vec.ensures.items ∙ kept)
    (c.loop-first.invariant.ahead [] tt)

pub line_ahead-requires-clause-plain : goal.line_ahead-requires-clause-plain
line_ahead-requires-clause-plain c = first_plain _ c.loop-first.text.now c.in-Some.first.now c.loop-first.invariant.known c.in-Some.ensures.first

pub loop-first-preserved : goal.loop-first-preserved
loop-first-preserved c =
    let grown : c.note.new.known.items ≡ c.loop-first.known.items ++ c.line_ahead.result ∷ [] =
    c.note.ensures ∙ ap (λ b. if b then c.loop-first.known.items ++ c.line_ahead.result ∷ [] else c.loop-first.known.items) c.if-not-note.false in
    record {
      ahead = more_ahead (head_of c.args.script.now.script) (lines_of c.args.piece.now) c.loop-first.known.items c.note.new.known.items c.line_ahead.result
          (lines_of c.loop-first.text.now) c.in-Some.first.now (lines_of c.in-Some.rest.now)
          grown c.in-Some.ensures.lines c.line_ahead.ensures c.loop-first.invariant.ahead;
      known = rest_plain _ c.loop-first.text.now c.in-Some.rest.now c.loop-first.invariant.known c.in-Some.ensures.rest;
    }
