use Rattle.std.proofs.Common.{◌≡◌, ℕ, List, None, Some, sym, ap, ◌∙◌}
use Rattle.flat_judge.specs.Parting.{line_of, parts_from}
use Rattle.flat_judge.proofs.Partings.{parts-none, parts-same}
use Rattle.flat_judge.proofs.judging.judge.Goals as goal

pub returns-in-None : goal.returns-in-None
returns-in-None c =
    let legal = c.in_ok-written.ensures.legal in
    record {
      run = legal.run;
      is = parts-none 1 c.args.text.now c.in_ok-written.written.report (sym c.parts_at.ensures ∙ c.in-None.is) ∙ legal.is;
      entries_are = legal.entries_are;
      frames_are = legal.frames_are;
    }

pub returns : goal.returns
returns c =
    let written = c.in_ok-written.ensures in
    let legal = written.legal in
    let parts : parts_from 1 c.args.text.now c.in_ok-written.written.report ≡ Some c.in-Some.line = sym c.parts_at.ensures ∙ c.in-Some.is in
    record {
      none = λ read run is.
          (let same : c.args.text.now ≡ c.in_ok-written.written.report = written.only read run is in
          let none : parts_from 1 c.args.text.now c.in_ok-written.written.report ≡ None =
          ap (parts_from 1 c.args.text.now) (sym same) ∙ parts-same 1 c.args.text.now in
          let wrong : Some c.in-Some.line ≡ None = sym parts ∙ none in cc);
      parts = record {
        run = legal.run;
        parts = ap (λ (r : List ℕ). parts_from 1 c.args.text.now r) (sym legal.is) ∙ parts;
        wants = c.in_ok-want-in-Some.ensures ∙ ap (λ (r : List ℕ). line_of c.in-Some.line r) legal.is;
      };
    }
