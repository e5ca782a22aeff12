-- What the service promises with a tally is what the program promises.
use Rattle.std.specs.Prelude.{⊤}
use Rattle.std.proofs.Common.{◌≡◌, ◌||◌, ℕ, true, false, List, [], ◌∷◌, length, map, Option, None, Some, IsTrue, refl, sym, ap, ◌∙◌, subst, arith}
use Rattle.flat_io.specs.Counts.{has_risen}
use Rattle.flat_scene.specs.declared.frames.FrameOut.{FrameOut}
use Rattle.flat_scene.specs.declared.frames.LostDisplay.{LostDisplay}
use Rattle.std.proofs.lemmas.Bool.{eq-eqb}
use Rattle.flat_display.specs.Had.{AreDriven, AreKept, HasHad}
use Rattle.flat_display.specs.Lost.{is_lost}
use Rattle.flat_words.specs.declared.service_word.ServiceWord.{ServiceWord}
use Rattle.flat_run.specs.Promise.{IsAnswer, IsCutOff, IsTold, IsWhole}
use Rattle.flat_run.specs.Serving.{Serves, SinkState, SourceState}
use Rattle.flat_run.proofs.lemmas.Serving.{serves_nothing}
use Rattle.flat_prog.specs.Status.{Says}

-- a display whose count of faults is 0 is never lost
never_lost : (lost : List LostDisplay) (frames : List FrameOut) → AreDriven {D = ⊤} (λ _. None) (λ _. 0) lost frames (tt ∷ []) (tt ∷ []) → lost ≡ []
never_lost [] frames driven = refl
never_lost (l ∷ ls) frames driven =
    let from = driven.lost_displays.0 in
    let to = driven.lost_displays.1 in
    let one : l.display ≡ 1 = omega (arith, from, to) in
    let is : is_lost (l ∷ ls) 1 ≡ true = ap (λ b. b || is_lost ls 1) (eq-eqb l.display 1 one) in
    absurd (let wrong : false ≡ true = driven.have_had.0.risen is in cc)

said : (words : List (List ℕ)) (source source' : SourceState) (sink sink' : SinkState) (status : ℕ)
    → Serves {D = ⊤} (λ _. None) (λ _. 0) {K = ⊤} (λ _. tt) words source source' sink sink' (tt ∷ []) (tt ∷ []) status
    → Says words source source' sink sink' status
said words source source' sink sink' status serves = record { serves = serves; unlost = never_lost }

-- A display of any type whose count of faults is 0, before a call and after it.
module _ {D : Type 0} (shown : D → Option (List FrameOut)) (faults : D → ℕ) (d d' : D) (none : faults d ≡ 0) (none' : faults d' ≡ 0) where
  quiet_had : (lost : List LostDisplay) (frames : List FrameOut) → HasHad shown faults lost frames 1 d d'
      → HasHad {D = ⊤} (λ _. None) (λ _. 0) lost frames 1 tt tt
  quiet_had lost frames had = record {
    gains = tt;
    grows = omega arith;
    risen = λ is. (
        let R : ℕ → ℕ → Type 0 = λ n m. IsTrue (has_risen n m) in
        let R' : ℕ → Type 0 = λ n. R n (faults d') in
        subst (R 0) none' (subst R' none (had.risen is))
        );
    steady = λ _. refl;
  }

  quiet_driven : (lost : List LostDisplay) (frames : List FrameOut) → AreDriven shown faults lost frames (d ∷ []) (d' ∷ [])
      → AreDriven {D = ⊤} (λ _. None) (λ _. 0) lost frames (tt ∷ []) (tt ∷ [])
  quiet_driven lost frames driven = record {
    have_had = (quiet_had lost frames driven.have_had.0, tt);
    lost_at_frames = driven.lost_at_frames;
    lost_displays = driven.lost_displays;
  }

  module _ (words : List (List ℕ)) (left left' : Option (List ℕ)) where
    quiet_answer : (status : ℕ) (text : List ℕ) → IsAnswer shown faults (d ∷ []) (d' ∷ []) words left left' status text
        → IsAnswer {D = ⊤} (λ _. None) (λ _. 0) (tt ∷ []) (tt ∷ []) words left left' status text
    quiet_answer status text (IsAnswer.usage nothing same) = IsAnswer.usage nothing refl
    quiet_answer status text (IsAnswer.refusal form calls read refused same) = IsAnswer.refusal form calls read refused refl
    quiet_answer status text (IsAnswer.too_large form bytes calls all large same) = IsAnswer.too_large form bytes calls all large refl
    quiet_answer status text (IsAnswer.judged bytes calls all is same) = IsAnswer.judged bytes calls all is refl
    quiet_answer status text (IsAnswer.told form bytes calls of told) = IsAnswer.told form bytes calls of (told.0, quiet_driven _ _ told.1)

  quiet_kept : {K : Type 0} (AreOfSort : List FrameOut → Type 0) (kind : D → K) → AreKept shown faults AreOfSort (d ∷ []) (d' ∷ []) kind
      → AreKept {D = ⊤} (λ _. None) (λ _. 0) AreOfSort (tt ∷ []) (tt ∷ []) {K = ⊤} (λ _. tt)
  quiet_kept AreOfSort kind kept = record { kinds = refl; some = (kept.some.0, kept.some.1, kept.some.2, quiet_driven kept.some.0 kept.some.1 kept.some.3) }

  quiet : {K : Type 0} (kind : D → K) (words : List (List ℕ)) (source source' : SourceState) (sink sink' : SinkState) (status : ℕ)
      → Serves shown faults kind words source source' sink sink' (d ∷ []) (d' ∷ []) status → Says words source source' sink sink' status
  quiet kind words source source' sink sink' status serves = said words source source' sink sink' status (record {
    whole = λ not_4 not_5 not_6. (let all = serves.whole not_4 not_5 not_6 in
        record { text = all.text; is = quiet_answer words source.left source'.left status all.text all.is; whole = all.whole });
    cut_off = λ is. (let cut = serves.cut_off is in record {
      status = cut.status;
      text = cut.text;
      is = quiet_answer words source.left source'.left cut.status cut.text cut.is;
      part = cut.part;
    });
    kept = quiet_kept _ kind serves.kept;
    given = serves.given;
    gains = serves.gains;
    read_fault = serves.read_fault;
    read = serves.read;
    write_fault = serves.write_fault;
    written = serves.written;
    counts = serves.counts;
    usage = serves.usage;
    complete = serves.complete;
    too_large = serves.too_large;
    statuses = serves.statuses;
  })

-- One display of a kind that counts no fault is still the only one.
module _ {D : Type 0} (shown : D → Option (List FrameOut)) (faults : D → ℕ) {K : Type 0} (kind : D → K) (d : D)
    (faultless : (x : D) → kind x ≡ kind d → faults x ≡ 0) where
  pub says_by : (words : List (List ℕ)) (source source' : SourceState) (sink sink' : SinkState) (olds news : List D) (status : ℕ) → olds ≡ d ∷ []
      → Serves shown faults kind words source source' sink sink' olds news status → Says words source source' sink sink' status
  says_by words source source' sink sink' olds news status one serves =
      let S : List D → Type 0 = λ ds. Serves shown faults kind words source source' sink sink' ds news status in
      by news (subst S one serves)
    where
      by : (news : List D) → Serves shown faults kind words source source' sink sink' (d ∷ []) news status → Says words source source' sink sink' status
      by [] serves = absurd (let long = ap length serves.kept.kinds in omega (arith, long))
      by (d' ∷ []) serves =
          let same : kind d' ≡ kind d = (let kinds = serves.kept.kinds in cc) in
          quiet shown faults d d' (faultless d refl) (faultless d' same) kind words source source' sink sink' status serves
      by (d' ∷ d'' ∷ more) serves = absurd (let long = ap length serves.kept.kinds in omega (arith, long))

-- nothing was done, since memory ran out
pub says_nothing : (words : List (List ℕ)) (source source' : SourceState) (sink sink' : SinkState) → source' ≡ source → sink' ≡ sink
    → Says words source source' sink sink' 6
says_nothing words source source' sink sink' same_source same_sink =
    let S : SourceState → Type 0 = λ s. Says words source s sink sink' 6 in
    subst S (sym same_source) (said words source source sink sink' 6
    (serves_nothing {D = ⊤} (λ _. None) (λ _. 0) {K = ⊤} (λ _. tt) words source sink sink' (tt ∷ []) same_sink))

-- the same words by another name
pub says_same : {W : Type 0} (bytes : W → List ℕ) (words given : List W) (source source' : SourceState) (sink sink' : SinkState) (status : ℕ) → words ≡ given
    → Says (map bytes words) source source' sink sink' status → Says (map bytes given) source source' sink sink' status
says_same {W} bytes words given source source' sink sink' status same says = let P : List W → Type 0 =
    λ ws. Says (map bytes ws) source source' sink sink' status in subst P same says
