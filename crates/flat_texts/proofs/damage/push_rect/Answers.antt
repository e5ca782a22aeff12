use Rattle.std.proofs.Common.{rules, [], ◌∷◌}
use Rattle.flat_page.specs.Pages.{Writes}
use Rattle.flat_page.specs.Words.{numbers}
use Rattle.flat_page.proofs.lemmas.PageLemmas.{one_line}
use Rattle.flat_texts.proofs.damage.push_rect.Goals as goal

pub returns : goal.returns
returns c =
    let places : Writes (numbers (c.args.r.x0 ∷ c.args.r.y0 ∷ c.args.r.x1 ∷ c.args.r.y1 ∷ [])) c.put.new.self c.places.new.self = search rules in
    one_line c.in_ok-put.ensures places c.in_ok-put-2.ensures
