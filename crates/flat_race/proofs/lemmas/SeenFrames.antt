-- Frames that a probe saw: their numbers, who is hit in them, and more of them.
use Rattle.std.proofs.Common.{◌≡◌, ℕ, ℤ, ◌<◌, ◌≤◌, ◌==◌, true, false, cond, List, [], ◌∷◌, Option, Some, None, refl, sym, ap, ◌∙◌, subst, arith}
use Rattle.std.proofs.lemmas.Bool.Decides.{nat_tests}
use mathlib.Core.List.{IsPrefix}
use Rattle.flat_scene.specs.declared.frames.Hit.{Hit}
use Rattle.flat_topology.specs.Hits.{hits_among}
use Rattle.flat_publish.specs.declared.frame.Frame.{Frame}
use Rattle.flat_publish.specs.Frames.{frame_hits, last_from, last_number, last_of, number_of, IsRising, RisesFrom}
use Rattle.flat_publish.proofs.lemmas.Beginnings.{rises_last}
use Rattle.flat_report.specs.Probes.{AreAnsweredBy}
use Rattle.flat_race.specs.Publishing.{hits_of}
use Rattle.flat_report.proofs.lemmas.ProbeSteps.{still-answered}
use Rattle.flat_scene.specs.declared.script.ScriptLine.{ScriptLine}
use Rattle.flat_report.specs.declared.probes.ProbeAnswer.{ProbeAnswer}

-- ---- frames that rise

-- none of them has a number up to the one before them
hits-none : (k : ℕ) (fs : List Frame) (n : ℕ) (x y : ℤ) → RisesFrom k fs → n ≤ k → hits_of fs n x y ≡ []
hits-none k [] n x y rise low = refl
hits-none k (f ∷ fs) n x y rise low =
    let above = rise.0 in
    let other : (f.number.0 == n) ≡ false = grind (arith, nat_tests) in
    rw other (hits-none f.number.0 fs n x y rise.1 (omega (arith, above, low)))

-- later frames change no hits in earlier ones
hits-begin : (before : Option Frame) (fs all : List Frame) (n : ℕ) (x y : ℤ) → IsPrefix fs all → RisesFrom (number_of before) all
    → n ≤ number_of (last_from before fs) → hits_of fs n x y ≡ hits_of all n x y
hits-begin before [] all n x y begins rise low = sym (hits-none (number_of before) all n x y rise low)
hits-begin before (f ∷ fs) [] n x y begins rise low = absurd (cc (begins.1))
hits-begin before (f ∷ fs) (g ∷ gs) n x y begins rise low =
    let head : g ≡ f = cc (begins.1) in
    let rise' : RisesFrom f.number.0 gs = subst (λ (h : Frame). RisesFrom h.number.0 gs) head rise.1 in
    let rest = hits-begin (Some f) fs gs n x y (begins.0, cc (begins.1)) rise' low in
    ap (λ (l : List Hit). cond (f.number.0 == n) (hits_among f.joined.nodes x y) l) rest
    ∙ ap (λ (h : Frame). cond (h.number.0 == n) (hits_among h.joined.nodes x y) (hits_of gs n x y)) (sym head)

pub hits-later : (fs all : List Frame) (n : ℕ) (x y : ℤ) → IsPrefix fs all → IsRising all → n ≤ last_number fs → hits_of fs n x y ≡ hits_of all n x y
hits-later = hits-begin None

-- the frame of the last number is the last frame
hits-at-last : (f : Frame) (fs : List Frame) (x y : ℤ) → RisesFrom f.number.0 fs
    → hits_of (f ∷ fs) (number_of (last_from (Some f) fs)) x y ≡ frame_hits (last_from (Some f) fs) x y
hits-at-last f [] x y rise = let same : (f.number.0 == f.number.0) ≡ true = grind (arith, nat_tests) in rw same refl
hits-at-last f (g ∷ gs) x y rise =
    let above = rise.0 in
    let last = rises_last (Some g) gs rise.1 in
    let other : (f.number.0 == number_of (last_from (Some g) gs)) ≡ false =
    (let less : f.number.0 < number_of (last_from (Some g) gs) = omega (arith, above, last) in grind (arith, nat_tests)) in
    rw other (hits-at-last g gs x y rise.1)

pub hits-last : (fs : List Frame) (x y : ℤ) → IsRising fs → hits_of fs (last_number fs) x y ≡ frame_hits (last_of fs) x y
hits-last [] x y rise = refl
hits-last (f ∷ fs) x y rise = hits-at-last f fs x y rise.1

-- ---- frames that a probe saw, and more of them

last-grows : (before : Option Frame) (fs all : List Frame) → IsPrefix fs all → RisesFrom (number_of before) all
    → number_of (last_from before fs) ≤ number_of (last_from before all)
last-grows before [] all begins rise = rises_last before all rise
last-grows before (f ∷ fs) [] begins rise = absurd (cc (begins.1))
last-grows before (f ∷ fs) (g ∷ gs) begins rise =
    let head : g ≡ f = cc (begins.1) in
    let rise' : RisesFrom f.number.0 gs = subst (λ (h : Frame). RisesFrom h.number.0 gs) head rise.1 in
    let rest = last-grows (Some f) fs gs (begins.0, cc (begins.1)) rise' in
    subst (λ (h : Frame). number_of (last_from (Some f) fs) ≤ number_of (last_from (Some h) gs)) (sym head) rest

-- what was answered by the frames seen is answered by more of them
pub seen-more : (old new : List Frame) → IsPrefix old new → IsRising new → (lines : List ScriptLine) (answers : List ProbeAnswer)
    → AreAnsweredBy (hits_of old) (last_number old) lines answers → AreAnsweredBy (hits_of new) (last_number new) lines answers
seen-more old new begins rise lines answers answered =
    still-answered (last-grows None old new begins rise) (λ n low x y. hits-later old new n x y begins rise low) lines answers answered
