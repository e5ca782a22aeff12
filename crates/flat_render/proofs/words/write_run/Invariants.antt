use Rattle.std.proofs.Common.{[], ◌∷◌, get_or}
use Rattle.flat_render.specs.Words.{xrgb}
use Rattle.flat_ink.proofs.lemmas.Lines.{IsChangedTo}
use Rattle.flat_render.proofs.words.write_run.Given as goal

abbrev pub invariant-loop-i : goal.invariant-loop-i
invariant-loop-i l = IsChangedTo (λ k old. xrgb (get_or l.reds k 0 ∷ get_or l.greens k 0 ∷ get_or l.blues k 0 ∷ [])) l.initial.line l.line l.i
