-- What a source gave was refused or run: this is the answer.
use Rattle.std.proofs.Common.{◌≡◌, ◌≢◌, ◌==◌, ◌||◌, ℕ, ◌≤◌, true, List, Option, Result, Ok, Err, IfOk, IsTrue, refl, sym, ◌∙◌, subst, arith}
use Rattle.flat_io.specs.Counts.{has_risen}
use Rattle.flat_display.specs.Had.{AreKept}
use Rattle.flat_scene.specs.declared.frames.FrameOut.{FrameOut}
use Rattle.flat_stress.specs.Load.{load_text}
use Rattle.flat_words.specs.declared.service_word.ServiceWord.{ServiceWord}
use Rattle.flat_words.specs.declared.service_word.ServiceWord.TheVariants.{Judge, Stress}
use Rattle.flat_words.specs.Forms.{CallFor}
use Rattle.flat_play.specs.Beginning.{AreBegun}
use Rattle.flat_play.proofs.lemmas.Seen.{kept_as, kept_none}
use Rattle.flat_run.specs.declared.answers.ServiceAnswer.{ServiceAnswer}
use Rattle.flat_run.specs.declared.answers.NoAnswer.{NoAnswer}
use Rattle.flat_run.specs.declared.answers.NoAnswer.TheVariants.{Fault, Memory}
use Rattle.flat_run.specs.declared.given.Given.{Given}
use Rattle.flat_run.specs.declared.given.Given.TheVariants.{Script}
use Rattle.flat_run.specs.declared.reading.ParsedText.{ParsedText}
use Rattle.flat_judge.specs.declared.cutting.JudgedText.{JudgedText}
use Rattle.flat_judge.specs.declared.cutting.JudgedText.TheVariants.{Said, Refused}
use Rattle.flat_judge.specs.declared.judging.ReportVerdict.TheVariants.{Legal, Wrong}
use Rattle.flat_run.specs.Judging.{IsJudged, judged_status}
use Rattle.flat_run.specs.Answering.{Answers, IsGiven, IsScriptFor, IsTurnedAway}
use Rattle.flat_run.specs.Forms.{form_read, is_read}
use Rattle.flat_run.specs.Promise.{AreAll, AreFramesFor, AreFramesOf, AreGiven, IsAnswer, IsTold}
use Rattle.flat_run.specs.Serving.{SourceState}
use Rattle.flat_run.proofs.Answering.{load_told, none_given, read_told, text_of, turned_away}

-- what holds of a result's value
pub ok_holds : {A E : Type 0} (P : A → Type 0) (r : Result A E) (v : A) → r ≡ Ok v → IfOk r P → P v
ok_holds {A} {E} P r v is holds = let Q : Result A E → Type 0 = λ r. IfOk r P in subst Q is holds

not_fault : {A : Type 0} (a : A) {P : Type 0} → ◌≡◌ {A = Result A NoAnswer} (Ok a) (Err Fault) → P
not_fault {A} a same = absurd (let wrong : ◌≡◌ {A = Result A NoAnswer} (Ok a) (Err Fault) = same in cc)

-- Displays of a type tell these frames, and have these counts of faults.
module _ {D : Type 0} (shown : D → Option (List FrameOut)) (faults : D → ℕ) {K : Type 0} (kind : D → K) (form : ServiceWord) (source source' : SourceState)
    (olds news : List D) where
  unshown : (words : List (List ℕ)) → news ≡ olds → AreKept shown faults (AreFramesFor words source.left source'.left) olds news kind
  unshown words same =
      let P : List D → Type 0 = λ ds. AreKept shown faults (AreFramesFor words source.left source'.left) olds ds kind in
      subst P (sym same) (kept_none shown faults (AreFramesFor words source.left source'.left) kind olds AreFramesFor.none)

  away_statuses : (status : ℕ) (text : List ℕ) → IsTurnedAway form source.left source'.left status text
      → IsTrue (status == 0 || status == 3 || status == 7 || status == 8)
  away_statuses status text (IsTurnedAway.refusal refused) = refl
  away_statuses status text (IsTurnedAway.too_large bytes all large) = refl

  -- what it gave was refused
  pub answers_refused : is_read form ≡ true → (answer : ServiceAnswer) → IsTurnedAway form source.left source'.left answer.status answer.text
      → (given : List ℕ) × AreGiven given source.left source'.left → source.faults ≤ source'.faults → source'.faults ≡ source.faults → news ≡ olds
      → Answers shown faults kind form source source' olds news (Ok answer)
  answers_refused read answer away given counts steady same = record {
    answer = λ words calls. turned_away shown faults olds news words source.left source'.left form read calls answer.status answer.text same away;
    statuses = away_statuses answer.status answer.text away;
    kept = λ words calls. unshown words same;
    given = given;
    counts = counts;
    steady = λ not_fault. steady;
    fault = not_fault answer;
    reads = λ same. read;
  }

  -- it could not be read
  pub answers_nothing : is_read form ≡ true → (why : NoAnswer) → (given : List ℕ) × AreGiven given source.left source'.left → source.faults ≤ source'.faults
      → (◌≢◌ {A = Result ServiceAnswer NoAnswer} (Err why) (Err Fault) → source'.faults ≡ source.faults)
      → (◌≡◌ {A = Result ServiceAnswer NoAnswer} (Err why) (Err Fault) → IsTrue (has_risen source.faults source'.faults)) → news ≡ olds
      → Answers shown faults kind form source source' olds news (Err why)
  answers_nothing read why given counts steady fault same = record {
    answer = λ words calls. tt;
    statuses = tt;
    kept = λ words calls. unshown words same;
    given = given;
    counts = counts;
    steady = steady;
    fault = fault;
    reads = λ same. read;
  }

  -- it was run
  module _ (read : is_read form ≡ true) (reading : ParsedText) (script : IsGiven form source.left source'.left (Script reading))
      (given : (given : List ℕ) × AreGiven given source.left source'.left) (counts : source.faults ≤ source'.faults) (steady : source'.faults ≡ source.faults)
      (kept : AreKept shown faults (AreBegun reading.script) olds news kind) where
    run_kept : (words : List (List ℕ)) → CallFor words form → AreKept shown faults (AreFramesFor words source.left source'.left) olds news kind
    run_kept words calls =
        kept_as shown faults (AreBegun reading.script) (AreFramesFor words source.left source'.left) kind olds news
        (λ frames begun. AreFramesFor.some form script.0 calls (text_of form read source.left source'.left script.0 script.1)
        (AreFramesOf.some reading script.2.read begun)) kept

    pub answers_run : (text : List ℕ) → ((bytes : List ℕ) → form_read form bytes ≡ Ok reading → IsTold shown faults olds news form bytes text)
        → Answers shown faults kind form source source' olds news (Ok (record { status = 0; text = text }))
    answers_run text told = record {
      answer = λ words calls. read_told shown faults olds news words source.left source'.left form read calls script.0 script.1 0 text refl
          (told script.0 script.2.read);
      statuses = refl;
      kept = run_kept;
      given = given;
      counts = counts;
      steady = λ not_fault. steady;
      fault = not_fault (record { status = 0; text = text });
      reads = λ same. read;
    }

    pub answers_unrun : Answers shown faults kind form source source' olds news (Err Memory)
    answers_unrun = record {
      answer = λ words calls. tt;
      statuses = tt;
      kept = run_kept;
      given = given;
      counts = counts;
      steady = λ not_fault. steady;
      fault = λ same. absurd (let wrong : ◌≡◌ {A = Result ServiceAnswer NoAnswer} (Err Memory) (Err Fault) = same in cc);
      reads = λ same. read;
    }

-- A load is made and not read.
module _ {D : Type 0} (shown : D → Option (List FrameOut)) (faults : D → ℕ) {K : Type 0} (kind : D → K) (asked : ℕ) (source : SourceState) (olds news : List D)
    (kept : AreKept shown faults (AreFramesOf (Stress asked) (load_text asked)) olds news kind) where
  load_kept : (words : List (List ℕ)) → CallFor words (Stress asked) → AreKept shown faults (AreFramesFor words source.left source.left) olds news kind
  load_kept words calls =
      kept_as shown faults (AreFramesOf (Stress asked) (load_text asked)) (AreFramesFor words source.left source.left) kind olds news
      (λ frames of. AreFramesFor.some (Stress asked) (load_text asked) calls refl of) kept

  pub load_answers : (form : ServiceWord) → form ≡ Stress asked → (answer : ServiceAnswer) → answer.status ≡ 0
      → IsTold shown faults olds news (Stress asked) (load_text asked) answer.text → Answers shown faults kind form source source olds news (Ok answer)
  load_answers form is answer is_0 told =
      let among : ℕ → Type 0 = λ n. IsTrue (n == 0 || n == 3 || n == 7 || n == 8) in
      let F : ServiceWord → Type 0 = λ f. Answers shown faults kind f source source olds news (Ok answer) in
      subst F (sym is) (record {
        answer = λ words calls. load_told shown faults olds news words source.left source.left asked answer.status answer.text calls is_0 told;
        statuses = subst among (sym is_0) refl;
        kept = load_kept;
        given = none_given source.left source.left refl;
        counts = omega arith;
        steady = λ not_fault. refl;
        fault = not_fault answer;
        reads = not_fault answer;
      })

  pub load_unmade : (form : ServiceWord) → form ≡ Stress asked → Answers shown faults kind form source source olds news (Err Memory)
  load_unmade form is =
      let F : ServiceWord → Type 0 = λ f. Answers shown faults kind f source source olds news (Err Memory) in
      subst F (sym is) (record {
        answer = λ words calls. tt;
        statuses = tt;
        kept = load_kept;
        given = none_given source.left source.left refl;
        counts = omega arith;
        steady = λ not_fault. refl;
        fault = λ same. absurd (let wrong : ◌≡◌ {A = Result ServiceAnswer NoAnswer} (Err Memory) (Err Fault) = same in cc);
        reads = λ same. absurd (let wrong : ◌≡◌ {A = Result ServiceAnswer NoAnswer} (Err Memory) (Err Fault) = same in cc);
      })

-- A text was judged, or could not be: displays had no part in it.
module _ {D : Type 0} (shown : D → Option (List FrameOut)) (faults : D → ℕ) {K : Type 0} (kind : D → K) (source source' : SourceState) (displays : List D) where
  judged_statuses : (bytes : List ℕ) (status : ℕ) (text : List ℕ) → IsJudged bytes status text
      → IsTrue (status == 0 || status == 3 || status == 7 || status == 8)
  judged_statuses bytes status text is = let P : ℕ → Type 0 = λ n. IsTrue (n == 0 || n == 3 || n == 7 || n == 8) in subst P (sym is.status_is) (by is.judged)
    where
      by : (judged : JudgedText) → IsTrue (judged_status judged == 0 || judged_status judged == 3 || judged_status judged == 7 || judged_status judged == 8)
      by (Said (Legal entries finished)) = refl
      by (Said (Wrong line want)) = refl
      by (Refused fault) = refl

  pub judged_answers : (form : ServiceWord) → form ≡ Judge → (result : Result ServiceAnswer NoAnswer)
      → IfOk result (λ a. (bytes : List ℕ) × AreAll bytes source.left source'.left × IsJudged bytes a.status a.text)
      → (given : List ℕ) × AreGiven given source.left source'.left → source.faults ≤ source'.faults
      → (◌≢◌ {A = Result ServiceAnswer NoAnswer} result (Err Fault) → source'.faults ≡ source.faults)
      → (◌≡◌ {A = Result ServiceAnswer NoAnswer} result (Err Fault) → IsTrue (has_risen source.faults source'.faults))
      → Answers shown faults kind form source source' displays displays result
  judged_answers form is result judged given counts steady fault =
      let F : ServiceWord → Type 0 = λ f. Answers shown faults kind f source source' displays displays result in
      subst F (sym is) (record {
        answer = λ words calls. by_result words calls result judged;
        statuses = by_status result judged;
        kept = λ words calls. kept_none shown faults (AreFramesFor words source.left source'.left) kind displays AreFramesFor.none;
        given = given;
        counts = counts;
        steady = steady;
        fault = fault;
        reads = λ same. refl;
      })
    where
      Fine : ServiceAnswer → Type 0
      Fine a = (bytes : List ℕ) × AreAll bytes source.left source'.left × IsJudged bytes a.status a.text

      by_result : (words : List (List ℕ)) → CallFor words Judge → (result : Result ServiceAnswer NoAnswer) → IfOk result Fine
          → IfOk result (λ a. IsAnswer shown faults displays displays words source.left source'.left a.status a.text)
      by_result words calls (Ok a) fine = IsAnswer.judged fine.0 calls fine.1 fine.2 refl
      by_result words calls (Err why) fine = tt

      by_status : (result : Result ServiceAnswer NoAnswer) → IfOk result Fine
          → IfOk result (λ a. IsTrue (a.status == 0 || a.status == 3 || a.status == 7 || a.status == 8))
      by_status (Ok a) fine = judged_statuses fine.0 a.status a.text fine.2
      by_status (Err why) fine = tt
