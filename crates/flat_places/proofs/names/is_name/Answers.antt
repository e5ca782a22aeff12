use Rattle.std.proofs.Common.{arith, ◌∙◌, sym}
use Rattle.flat_places.proofs.lemmas.NameLemmas.{is_name_when}
use Rattle.flat_places.proofs.names.is_name.Goals as goal

pub returns : goal.returns
returns c = is_name_when c.args.word.now _ (sym c.is_ascii_alphabetic.ensures.value ∙ c.if-not-is_ascii_alphabetic.false)
    (sym c.all_name_bytes.ensures ∙ c.if-not-all_name_bytes.false) (omega arith) c.is_reserved.ensures
