use Rattle.std.proofs.Common.{◌≡◌, ℕ, List, Option, sym, subst}
use Rattle.flat_scene.specs.declared.frames.FrameOut.{FrameOut}
use Rattle.flat_words.specs.declared.service_word.ServiceWord.{ServiceWord}
use Rattle.flat_run.specs.Promise.{IsTold}
use Rattle.flat_run.proofs.load.stress.Goals as goal

-- the same text is told of the same run
told_same : {D : Type 0} (shown : D → Option (List FrameOut)) (faults : D → ℕ) (olds news : List D) (form : ServiceWord) (bytes text text' : List ℕ)
    → text' ≡ text
    → IsTold shown faults olds news form bytes text → IsTold shown faults olds news form bytes text'
told_same shown faults olds news form bytes text text' same told = subst (λ t. IsTold shown faults olds news form bytes t) (sym same) told

pub returns-clause-told : goal.returns-clause-told
returns-clause-told g c = told_same _ _ _ _ _ _ _ _ c.in_ok-one.ensures c.in_ok-text.ensures.told
