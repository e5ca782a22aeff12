-- What is said of bytes and of forms, on small examples.
use Rattle.std.proofs.Common.{◌≡◌, ℕ, true, false, List, [], ◌∷◌, None, Some, refl}
use Rattle.flat_stress.specs.Load.{load_text}
use Rattle.flat_words.specs.declared.service_word.ServiceWord.TheVariants.{Play, Race, Stress}
use Rattle.flat_run.specs.Forms.{AreAsked, Ran, IsTextOf, is_read}
use Rattle.flat_run.specs.Promise.{AreGiven, AreAll, AreTextOf}

-- one byte of two is given
one-given : AreGiven (7 ∷ []) (Some (7 ∷ 8 ∷ [])) (Some (8 ∷ []))
one-given = refl

-- and isn't all
not-all : AreAll (7 ∷ []) (Some (7 ∷ 8 ∷ [])) (Some (8 ∷ [])) → ⊥
not-all all = let wrong = all.1 in cc

-- both are
both-given : AreAll (7 ∷ 8 ∷ []) (Some (7 ∷ 8 ∷ [])) (Some [])
both-given = (refl, refl)

-- a script that is played is read, and a load's isn't
play-is-read : is_read Play ≡ true
play-is-read = refl

load-is-made : is_read (Stress 3) ≡ false
load-is-made = refl

read-all : AreTextOf Play (Some (7 ∷ [])) (Some []) (7 ∷ [])
read-all = (refl, refl)

made : AreTextOf (Stress 3) None None (load_text 3)
made = refl

-- a load of three frames has three
three-asked : AreAsked (Stress 3) 3
three-asked = refl

-- a race tells what a play does
same-text : (ran : Ran) (text : List ℕ) → IsTextOf Race ran text ≡ IsTextOf Play ran text
same-text ran text = refl
