use Rattle.std.proofs.Common.{◌∙◌, sym, ap}
use Rattle.flat_places.specs.Reads.{lower, sofar, left}
use Rattle.flat_places.proofs.lemmas.ReadsLemmas.{first_ratio_some, some_left}
use Rattle.flat_places.proofs.word_cursor.WordCursor.first_ratio.Goals as goal

pub returns : goal.returns
returns c =
    let same = first_ratio_some c.args.version (left c.args.self.now) (some_left c.args.self.now.words c.if-is_none.ensures)
    c.if-version-lt-RATIO_SINCE.false in
    record {
      words = c.ratio.ensures.words ∙ ap (λ r. r.1) (sym same);
      outcome = ap (λ r. lower (sofar c.args.self.now) r.0) same ∙ c.ratio.ensures.outcome;
    }
