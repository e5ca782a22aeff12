-- From what was answered and written to what is promised of the call.
use Rattle.std.proofs.Common.{◌≡◌, ◌≢◌, ◌⊎◌, inl, inr, ◌==◌, ◌||◌, ℕ, ◌≤◌, Bool, true, false, List, [], ◌++◌, Option, Result, None, Some, Ok, Err, IfOk, IsTrue}
use Rattle.std.proofs.Common.{refl, sym, ap, ◌∙◌, subst, arith, append-nil}
use Rattle.std.proofs.lemmas.Bool.{eqb-true}
use Rattle.flat_io.specs.Counts.{has_risen}
use Rattle.flat_io.specs.Told.{Appends}
use Rattle.flat_display.specs.Had.{AreKept}
use Rattle.flat_scene.specs.declared.frames.FrameOut.{FrameOut}
use Rattle.flat_words.specs.declared.service_word.ServiceWord.{ServiceWord}
use Rattle.flat_words.specs.Forms.{CallFor}
use Rattle.flat_play.proofs.lemmas.Seen.{kept_none}
use Rattle.flat_run.specs.declared.answers.ServiceAnswer.{ServiceAnswer}
use Rattle.flat_run.specs.declared.answers.NoAnswer.{NoAnswer}
use Rattle.flat_run.specs.declared.answers.NoAnswer.TheVariants.{Fault, Memory}
use Rattle.flat_run.specs.Answering.{Answers}
use Rattle.flat_run.specs.Forms.{is_read}
use Rattle.flat_run.specs.Promise.{AreFramesFor, AreGiven, CallForNothing, IsAnswer, Gives, IsThere, IsTooLarge, either_rose, usage_line}
use Rattle.flat_run.specs.Serving.{Serves, SinkState, SourceState}
use Rattle.flat_run.specs.Writing.{Writes}
use Rattle.flat_run.proofs.Answering.{answered_or_fault, large_no_read_fault, none_given, only_large, only_told, text_cut_off, text_whole, there_no_read_fault}

-- nothing was gained
none_gained : (held : Option (List ℕ)) → (more : List ℕ) × Appends more held held
none_gained None = ([], tt)
none_gained (Some bytes) = ([], sym (append-nil bytes))

or_either : (a b : Bool) → (a || b) ≡ true → (a ≡ true) ⊎ (b ≡ true)
or_either true b is = inl refl
or_either false b is = inr is

-- which status an answer has, and which one its call has
one_of_four : (n : ℕ) → IsTrue (n == 0 || n == 3 || n == 7 || n == 8) → (n ≡ 0) ⊎ (n ≡ 3) ⊎ (n ≡ 7) ⊎ (n ≡ 8)
one_of_four n among = elim (or_either (n == 0 || n == 3 || n == 7) (n == 8) among) [
  | inl three ↦ elim (or_either (n == 0 || n == 3) (n == 7) three) [
    | inl first ↦ elim (or_either (n == 0) (n == 3) first) [
      | inl is ↦ inl (eqb-true n 0 is)
      | inr is ↦ inr (inl (eqb-true n 3 is))
    ]
    | inr is ↦ inr (inr (inl (eqb-true n 7 is)))
  ]
  | inr is ↦ inr (inr (inr (eqb-true n 8 is)))
]

one_or_fault : (result status : ℕ) → IsTrue (result == status || result == 5) → (result ≡ status) ⊎ (result ≡ 5)
one_or_fault result status either = elim (or_either (result == status) (result == 5) either) [
  | inl is ↦ inl (eqb-true result status is)
  | inr is ↦ inr (eqb-true result 5 is)
]

abbrev is_any : ℕ → Bool
is_any n = n == 0 || n == 2 || n == 3 || n == 4 || n == 5 || n == 6 || n == 7 || n == 8

among_all : (status result : ℕ) → IsTrue (status == 0 || status == 3 || status == 7 || status == 8) → IsTrue (result == status || result == 5)
    → IsTrue (is_any result)
among_all status result among either =
    let P : ℕ → Type 0 = λ n. IsTrue (is_any n) in
    elim (one_or_fault result status either) [
      | inl same ↦ elim (one_of_four status among) [
        | inl is ↦ subst P (sym (same ∙ is)) refl
        | inr rest ↦ elim rest [
          | inl is ↦ subst P (sym (same ∙ is)) refl
          | inr last ↦ elim last [
            | inl is ↦ subst P (sym (same ∙ is)) refl
            | inr is ↦ subst P (sym (same ∙ is)) refl
          ]
        ]
      ]
      | inr is ↦ subst P (sym is) refl
    ]

not_read : (status result : ℕ) → IsTrue (status == 0 || status == 3 || status == 7 || status == 8) → IsTrue (result == status || result == 5) → result ≡ 4 → ⊥
not_read status result among either is_4 = elim (one_or_fault result status either) [
  | inl same ↦ elim (one_of_four status among) [
    | inl is ↦ omega (arith, is_4, same, is)
    | inr rest ↦ elim rest [
      | inl is ↦ omega (arith, is_4, same, is)
      | inr last ↦ elim last [
        | inl is ↦ omega (arith, is_4, same, is)
        | inr is ↦ omega (arith, is_4, same, is)
      ]
    ]
  ]
  | inr is ↦ omega (arith, is_4, is)
]

-- ---- what stays as it was

abbrev is_untouched : ℕ → Bool
is_untouched n = n == 2 || n == 3 || n == 4 || n == 7 || n == 8

other_status : (test : ℕ → Bool) (n m : ℕ) {P : Type 0} → test m ≡ false → test n ≡ true → n ≡ m → P
other_status test n m not_m is_n same = absurd (let both : true ≡ false = sym is_n ∙ ap test same ∙ not_m in cc)

-- what holds where nothing was shown, by the status
pub untouched_by : {X : Type 0} (answer : Result ServiceAnswer NoAnswer) (result : ℕ) (sink sink' : SinkState)
    → ((one : ServiceAnswer) → answer ≡ Ok one → Writes one.text one.status sink sink' result) → (answer ≡ Err Memory → result ≡ 6)
    → IfOk answer (λ one. one.status ≢ 0 → X) → (answer ≡ Err Fault → X)
    → IsTrue (result == 2 || result == 3 || result == 4 || result == 7 || result == 8) → X
untouched_by (Ok one) result sink sink' writes memory unshown failed among =
    let wrote = writes one refl in
    elim (one_or_fault result one.status wrote.either) [
      | inl same ↦ unshown (λ is_0. other_status is_untouched result 0 refl among (same ∙ is_0))
      | inr is_5 ↦ other_status is_untouched result 5 refl among is_5
    ]
untouched_by (Err Fault) result sink sink' writes memory unshown failed among = failed refl
untouched_by (Err Memory) result sink sink' writes memory unshown failed among = other_status is_untouched result 6 refl among (memory refl)

-- what holds where nothing was written
pub unwritten_by : {X : Type 0} (answer : Result ServiceAnswer NoAnswer) (result : ℕ) (sink sink' : SinkState)
    → ((one : ServiceAnswer) → answer ≡ Ok one → Writes one.text one.status sink sink' result)
    → IfOk answer (λ one. IsTrue (one.status == 0 || one.status == 3 || one.status == 7 || one.status == 8)) → (answer ≡ Err Fault → X)
    → (answer ≡ Err Memory → X)
    → IsTrue (result == 4 || result == 6) → X
unwritten_by (Ok one) result sink sink' writes statuses failed memory among =
    let wrote = writes one refl in
    let test : ℕ → Bool = λ n. n == 4 || n == 6 in
    elim (one_or_fault result one.status wrote.either) [
      | inl same ↦ elim (one_of_four one.status statuses) [
        | inl is ↦ other_status test result 0 refl among (same ∙ is)
        | inr rest ↦ elim rest [
          | inl is ↦ other_status test result 3 refl among (same ∙ is)
          | inr last ↦ elim last [
            | inl is ↦ other_status test result 7 refl among (same ∙ is)
            | inr is ↦ other_status test result 8 refl among (same ∙ is)
          ]
        ]
      ]
      | inr is_5 ↦ other_status test result 5 refl among is_5
    ]
unwritten_by (Err Fault) result sink sink' writes statuses failed memory among = failed refl
unwritten_by (Err Memory) result sink sink' writes statuses failed memory among = memory refl

-- Displays of a type tell these frames, and have these counts of faults.
module _ {D : Type 0} (shown : D → Option (List FrameOut)) (faults : D → ℕ) {K : Type 0} (kind : D → K) (words : List (List ℕ)) where
  module _ (source source' : SourceState) (sink sink' : SinkState) (olds news : List D) where
    -- an answer was written
    written : (form : ServiceWord) → CallFor words form → ((f : ServiceWord) → CallFor words f → f ≡ form) → (status result : ℕ) (text : List ℕ)
        → IsAnswer shown faults olds news words source.left source'.left status text → IsTrue (status == 0 || status == 3 || status == 7 || status == 8)
        → AreKept shown faults (AreFramesFor words source.left source'.left) olds news kind → (given : List ℕ) × AreGiven given source.left source'.left
        → source'.faults ≡ source.faults → Writes text status sink sink' result → Serves shown faults kind words source source' sink sink' olds news result
    written form calls one status result text is among kept given steady wrote = record {
      whole = λ not_4 not_5 not_6. text_whole shown faults olds news words source.left source'.left sink.held sink'.held status result text is wrote.whole
          wrote.either not_5;
      cut_off = λ is_5. text_cut_off shown faults olds news words source.left source'.left sink.held sink'.held status result text is (wrote.part is_5);
      kept = kept;
      given = given;
      gains = wrote.gains;
      read_fault = λ is_4. absurd (not_read status result among wrote.either is_4);
      read = λ not_4. steady;
      write_fault = wrote.fault;
      written = wrote.steady;
      counts = ((let same = steady in omega (arith, same)), wrote.counts.0, wrote.counts.1);
      usage = λ nothing. absurd (nothing form calls);
      complete = λ f called there none_rose.
          (let told : status ≡ 0 = only_told shown faults olds news words source.left source'.left f source.faults source'.faults called
          (λ g calls_g. one g calls_g ∙ sym (one f called)) there status text is in
          answered_or_fault result status 0 wrote.either told (λ is_5. let rose = wrote.fault is_5 in let both : true ≡ false = sym rose ∙ none_rose in cc));
      too_large = λ f called there none_rose.
          (let large : status ≡ 7 = only_large shown faults olds news words source.left source'.left f source.faults source'.faults called
          (λ g calls_g. one g calls_g ∙ sym (one f called)) there status text is in
          answered_or_fault result status 7 wrote.either large (λ is_5. let rose = wrote.fault is_5 in let both : true ≡ false = sym rose ∙ none_rose in cc));
      statuses = among_all status result among wrote.either;
    }

    -- a read failed
    pub failed : (form : ServiceWord) → CallFor words form → ((f : ServiceWord) → CallFor words f → f ≡ form) → (result : ℕ) → result ≡ 4 → sink' ≡ sink
        → is_read form ≡ true
        → IsTrue (has_risen source.faults source'.faults) → source.faults ≤ source'.faults
        → AreKept shown faults (AreFramesFor words source.left source'.left) olds news kind → (given : List ℕ) × AreGiven given source.left source'.left
        → Serves shown faults kind words source source' sink sink' olds news result
    failed form calls one result is_4 same read risen grows kept given =
        let S : SinkState → ℕ → Type 0 = λ s n. Serves shown faults kind words source source' sink s olds news n in
        let T : SinkState → Type 0 = λ s. S s result in
        let R : ℕ → Type 0 = S sink in
        subst T (sym same) (subst R (sym is_4) (record {
          whole = λ not_4 not_5 not_6. absurd (not_4 refl);
          cut_off = λ is. absurd (let wrong : 4 ≡ 5 = is in omega (arith, wrong));
          kept = kept;
          given = given;
          gains = none_gained sink.held;
          read_fault = λ is. risen;
          read = λ not_4. absurd (not_4 refl);
          write_fault = λ is. absurd (let wrong : 4 ≡ 5 = is in omega (arith, wrong));
          written = λ not_5. (refl, refl);
          counts = (grows, omega arith, omega arith);
          usage = λ nothing. absurd (nothing form calls);
          complete = λ f called there none_rose. absurd (there_no_read_fault f form source.left source'.left source.faults source'.faults (sym (one f called))
              there read risen);
          too_large = λ f called there none_rose. absurd (large_no_read_fault f source.left source'.left source.faults source'.faults there risen);
          statuses = refl;
        }))

    -- out of memory
    pub no_memory : (result : ℕ) → result ≡ 6 → sink' ≡ sink → source'.faults ≡ source.faults
        → AreKept shown faults (AreFramesFor words source.left source'.left) olds news kind → (given : List ℕ) × AreGiven given source.left source'.left
        → Serves shown faults kind words source source' sink sink' olds news result
    no_memory result is_6 same steady kept given =
        let S : SinkState → ℕ → Type 0 = λ s n. Serves shown faults kind words source source' sink s olds news n in
        let T : SinkState → Type 0 = λ s. S s result in
        let R : ℕ → Type 0 = S sink in
        subst T (sym same) (subst R (sym is_6) (record {
          whole = λ not_4 not_5 not_6. absurd (not_6 refl);
          cut_off = λ is. absurd (let wrong : 6 ≡ 5 = is in omega (arith, wrong));
          kept = kept;
          given = given;
          gains = none_gained sink.held;
          read_fault = λ is. absurd (let wrong : 6 ≡ 4 = is in omega (arith, wrong));
          read = λ not_4. steady;
          write_fault = λ is. absurd (let wrong : 6 ≡ 5 = is in omega (arith, wrong));
          written = λ not_5. (refl, refl);
          counts = (omega (arith, steady), omega arith, omega arith);
          usage = λ nothing. refl;
          complete = λ f called there none_rose. refl;
          too_large = λ f called there none_rose. refl;
          statuses = refl;
        }))

    -- an answer was made, or none could be, and what there was is written
    pub serves_by : (form : ServiceWord) → CallFor words form → ((f : ServiceWord) → CallFor words f → f ≡ form)
        → (answer : Result ServiceAnswer NoAnswer) (result : ℕ)
        → Answers shown faults kind form source source' olds news answer
        → ((one : ServiceAnswer) → answer ≡ Ok one → Writes one.text one.status sink sink' result) → (answer ≡ Err Fault → (result ≡ 4) × (sink' ≡ sink))
        → (answer ≡ Err Memory → (result ≡ 6) × (sink' ≡ sink)) → Serves shown faults kind words source source' sink sink' olds news result
    serves_by form calls one (Ok answer) result answers writes fault memory =
        written form calls one answer.status result answer.text (answers.answer words calls) answers.statuses (answers.kept words calls) answers.given
        (answers.steady (λ same. let wrong : Ok answer ≡ Err Fault = same in cc)) (writes answer refl)
    serves_by form calls one (Err Fault) result answers writes fault memory =
        failed form calls one result (fault refl).0 (fault refl).1 (answers.reads refl) (answers.fault refl) answers.counts (answers.kept words calls)
        answers.given
    serves_by form calls one (Err Memory) result answers writes fault memory =
        no_memory result (memory refl).0 (memory refl).1 (answers.steady (λ same. let wrong : Err Memory ≡ Err Fault = same in cc)) (answers.kept words calls)
        answers.given

  module _ (source : SourceState) (sink sink' : SinkState) (displays : List D) where
    untold : AreKept shown faults (AreFramesFor words source.left source.left) displays displays kind
    untold = kept_none shown faults (AreFramesFor words source.left source.left) kind displays AreFramesFor.none

    -- the words call for nothing
    pub serves_usage : CallForNothing words → (result : ℕ) → Writes usage_line 2 sink sink' result
        → Serves shown faults kind words source source sink sink' displays displays result
    serves_usage nothing result wrote =
        let is : IsAnswer shown faults displays displays words source.left source.left 2 usage_line = IsAnswer.usage nothing refl in
        record {
          whole = λ not_4 not_5 not_6. text_whole shown faults displays displays words source.left source.left sink.held sink'.held 2 result usage_line is
              wrote.whole wrote.either not_5;
          cut_off = λ is_5. text_cut_off shown faults displays displays words source.left source.left sink.held sink'.held 2 result usage_line is
              (wrote.part is_5);
          kept = untold;
          given = none_given source.left source.left refl;
          gains = wrote.gains;
          read_fault = λ is_4. absurd (by_two (λ n. n ≡ 4 → ⊥) (λ same. omega (arith, same)) (λ same. omega (arith, same)) is_4);
          read = λ not_4. refl;
          write_fault = wrote.fault;
          written = wrote.steady;
          counts = (omega arith, wrote.counts.0, wrote.counts.1);
          usage = λ _. by_two (λ n. IsTrue (n == 2 || n == 5 || n == 6)) refl refl;
          complete = λ form calls there none_rose. absurd (nothing form calls);
          too_large = λ form calls there none_rose. absurd (nothing form calls);
          statuses = by_two (λ n. IsTrue (is_any n)) refl refl;
        }
      where
        by_two : (P : ℕ → Type 0) → P 2 → P 5 → P result
        by_two P two five = elim (one_or_fault result 2 wrote.either) [
          | inl is ↦ subst P (sym is) two
          | inr is ↦ subst P (sym is) five
        ]

    -- out of memory before anything was done
    pub serves_nothing : sink' ≡ sink → Serves shown faults kind words source source sink sink' displays displays 6
    serves_nothing same = no_memory source source sink sink' displays displays 6 refl same refl untold (none_given source.left source.left refl)

-- the same call, by other names of what it found
pub serves_from : {D : Type 0} (shown : D → Option (List FrameOut)) (faults : D → ℕ) {K : Type 0} (kind : D → K) (words : List (List ℕ))
    (source source0 source' : SourceState) (sink sink0 sink' : SinkState) (olds olds0 news : List D) (result : ℕ) → source ≡ source0 → sink ≡ sink0
    → olds ≡ olds0
    → Serves shown faults kind words source source' sink sink' olds news result → Serves shown faults kind words source0 source' sink0 sink' olds0 news result
serves_from {D} shown faults kind words source source0 source' sink sink0 sink' olds olds0 news result same_source same_sink same_displays serves =
    let A : SourceState → Type 0 = λ s. Serves shown faults kind words s source' sink0 sink' olds0 news result in
    let B : SinkState → Type 0 = λ s. Serves shown faults kind words source source' s sink' olds0 news result in
    let C : List D → Type 0 = λ ds. Serves shown faults kind words source source' sink sink' ds news result in
    subst A same_source (subst B same_sink (subst C same_displays serves))
