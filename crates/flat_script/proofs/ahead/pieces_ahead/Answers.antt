use Rattle.std.proofs.Common.{List, sym, subst, Global}
use Rattle.std.specs.declared.collections.VecDeque.{VecDeque}
use Rattle.flat_forms.specs.Ahead.{head_of}
use Rattle.flat_script.specs.declared.ahead.Ahead.{Ahead}
use Rattle.flat_script.specs.Ahead.{AreAheadIn}
use Rattle.flat_script.proofs.AheadLemmas.{ahead_in_all}
use Rattle.flat_script.proofs.ahead.pieces_ahead.Goals as goal

pub returns-in-Ok : goal.returns-in-Ok
returns-in-Ok g c =
    let head = head_of c.args.script.now.script in
    let pieces = c.args.pieces.now in
    subst (λ (xs : List (VecDeque Ahead Global)). AreAheadIn head xs pieces) (sym c.from_vec.ensures.items)
    (ahead_in_all head c.in-Ok.known.items pieces (λ i d e within inside. (c.in-Ok.ensures.each i d inside).1.met e))
