-- What the program answers, over any source and sink.
use Rattle.std.specs.Prelude.{◌≡◌, ⊤, ℕ, List, [], ◌∷◌, drop, None, Result, Ok, Err}
use Rattle.flat_scene.specs.declared.frames.FrameOut.{FrameOut}
use Rattle.flat_scene.specs.declared.frames.LostDisplay.{LostDisplay}
use Rattle.flat_display.specs.Had.{AreDriven}
use Rattle.flat_run.specs.Serving.{Serves, SinkState, SourceState}

-- the words behind the first of what is given, which is the program's name; none where nothing is given
abbrev pub words_given : {I W E : Type 0} → (I → List W) → Result I E → List W
words_given items (Ok given) = drop 1 (items given)
words_given items (Err error) = []

-- The promise of the service, with one display that tells nothing and counts no fault, and is never lost.
pub record Says (words : List (List ℕ)) (source source' : SourceState) (sink sink' : SinkState)
    (status : ℕ) : Type 0 where
  pub serves : Serves {D = ⊤} (λ _. None) (λ _. 0) {K = ⊤} (λ _. tt) words source source' sink sink' (tt ∷ [])
      (tt ∷ []) status
  pub unlost : (lost : List LostDisplay) (frames : List FrameOut)
      → AreDriven {D = ⊤} (λ _. None) (λ _. 0) lost frames (tt ∷ []) (tt ∷ []) → lost ≡ []
