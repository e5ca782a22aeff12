-- Answers to a probe: one more, and after more entries.
use Rattle.std.proofs.Common.{◌≡◌, ◌≤◌, ℕ, suc, ℤ, ◌+◌, ◌==◌, ◌&&◌, nat_le, Bool, true, false, cond, List, [], ◌∷◌, ◌++◌, length, filter, map, refl, sym, ap}
use Rattle.std.proofs.Common.{◌∙◌, arith, length-append}
use Rattle.std.specs.List.{list_all, zip}
use Rattle.std.proofs.lemmas.Bool.{and_parts}
use Rattle.std.proofs.lemmas.Bool.Decides.{nat_tests}
use Rattle.std.proofs.lemmas.List.{length-map, map-append}
use Rattle.std.proofs.lemmas.List.Folds.{list_all-append}
use Rattle.flat_scene.specs.declared.frames.Hit.{Hit}
use Rattle.flat_scene.specs.declared.journal.Entry.{Entry}
use Rattle.flat_scene.specs.declared.script.ProbeLine.{ProbeLine}
use Rattle.flat_scene.specs.declared.script.ProbeLine.TheVariants as probe
use Rattle.flat_scene.specs.declared.script.ScriptLine.{ScriptLine}
use Rattle.flat_scene.specs.declared.setup.Setup.{Setup}
use Rattle.flat_scene.specs.History.{◌▹◌, is_finish}
use Rattle.flat_rules.specs.Ends.{to_begin}
use Rattle.flat_rules.specs.Legal.{frames}
use Rattle.flat_report.specs.declared.probes.ProbeAnswer.{ProbeAnswer}
use Rattle.flat_report.specs.Probes.{AreAnsweredBy, answer_by, asked_by, asked_hits, frame_seen, hits_in_frame, never_fall_from, seen_last, seen_last_from}
use Rattle.flat_report.specs.Report.{begin_of, hits_at}
use Rattle.flat_report.proofs.Answered.{zip-append}

-- ---- one answer more

-- where no line is answered
pub none-answered : (hits : ℕ → ℤ → ℤ → List Hit) (last : ℕ) → AreAnsweredBy hits last [] []
none-answered hits last = record { as_many = refl; are = refl; within = refl; rise = refl }

rise-more : (n : ℕ) (seen : List ℕ) (frame : ℕ) → never_fall_from n seen ≡ true → seen_last_from n seen ≤ frame → never_fall_from n (seen ++ frame ∷ []) ≡ true
rise-more n [] frame rise less = let here : nat_le n frame ≡ true = grind (arith, nat_tests) in rw here refl
rise-more n (first ∷ seen) frame rise less =
    let parts = and_parts (nat_le n first) (never_fall_from first seen) rise in
    let here = parts.0 in
    rw here (rise-more first seen frame parts.1 less)

-- the frame seen last is one of those seen, or none
last-within : (n : ℕ) (seen : List ℕ) (last : ℕ) → n ≤ last → list_all (λ frame. nat_le frame last) seen ≡ true → seen_last_from n seen ≤ last
last-within n [] last less pass = less
last-within n (first ∷ seen) last less pass =
    let parts = and_parts (nat_le first last) (list_all (λ frame. nat_le frame last) seen) pass in
    let here = parts.0 in
    let below : first ≤ last = grind (arith, nat_tests) in
    last-within first seen last below parts.1

last-behind : (n : ℕ) (seen : List ℕ) (frame : ℕ) → seen_last_from n (seen ++ frame ∷ []) ≡ frame
last-behind n [] frame = refl
last-behind n (first ∷ seen) frame = last-behind first seen frame

module _ {hits : ℕ → ℤ → ℤ → List Hit} {last : ℕ} {lines : List ScriptLine} {answers : List ProbeAnswer} (answered : AreAnsweredBy hits last lines answers)
  where
    -- the frame seen last is up to the last one
    pub seen-within : seen_last answers ≤ last
    seen-within = last-within 0 (map frame_seen answers) last (omega arith) answered.within

    -- one line more is answered by a frame that isn't below the one seen last
    pub one-answer-more : (line : ScriptLine) (frame : ℕ) → seen_last answers ≤ frame → frame ≤ last
        → AreAnsweredBy hits last (lines ++ line ∷ []) (answers ++ answer_by hits (line, frame) ∷ [])
    one-answer-more line frame rises fits =
        let answer : ProbeAnswer = answer_by hits (line, frame) in
        let seen : map frame_seen (answers ++ answer ∷ []) ≡ map frame_seen answers ++ frame ∷ [] = map-append frame_seen answers (answer ∷ []) in
        let long : length (map frame_seen answers) ≡ length lines = length-map answers frame_seen ∙ answered.as_many in
        let low : nat_le frame last ≡ true = grind (arith, nat_tests) in
        let within = answered.within in
        record {
          as_many = length-append answers (answer ∷ []) ∙ ap (λ n. n + 1) answered.as_many ∙ sym (length-append lines (line ∷ []));
          are = ap (λ l. l ++ answer ∷ []) answered.are
              ∙ sym (map-append (answer_by hits) (zip lines (map frame_seen answers)) ((line, frame) ∷ []))
              ∙ ap (map (answer_by hits)) (sym (zip-append lines (map frame_seen answers) (line ∷ []) (frame ∷ []) long))
              ∙ ap (λ fs. map (answer_by hits) (zip (lines ++ line ∷ []) fs)) (sym seen);
          within = ap (list_all (λ frame. nat_le frame last)) seen ∙ list_all-append (λ frame. nat_le frame last) (map frame_seen answers) (frame ∷ [])
              ∙ rw (within, low) refl;
          rise = ap (never_fall_from 0) seen ∙ rise-more 0 (map frame_seen answers) frame answered.rise rises;
        }

    -- as by the last frame
    pub last-answer-more : (line : ScriptLine) → AreAnsweredBy hits last (lines ++ line ∷ []) (answers ++ answer_by hits (line, last) ∷ [])
    last-answer-more line = one-answer-more line last seen-within (omega arith)

-- and that is the one seen last then
pub seen-last-more : (hits : ℕ → ℤ → ℤ → List Hit) (line : ScriptLine) (frame : ℕ) (answers : List ProbeAnswer)
    → seen_last (answers ++ answer_by hits (line, frame) ∷ []) ≡ frame
seen-last-more hits line frame answers = ap (seen_last_from 0) (map-append frame_seen answers (answer_by hits (line, frame) ∷ []))
    ∙ last-behind 0 (map frame_seen answers) frame

-- ---- more frames

module _ {hits later : ℕ → ℤ → ℤ → List Hit} {last more : ℕ} (grows : last ≤ more)
    (agree : (frame : ℕ) → frame ≤ last → (x y : ℤ) → hits frame x y ≡ later frame x y) where
  same-hits : (frame : ℕ) (asked : ProbeLine) → frame ≤ last → asked_hits (hits frame) asked ≡ asked_hits (later frame) asked
  same-hits frame (probe.Hit x y) low = agree frame low x y
  same-hits frame (probe.Await n) low = refl

  same-answers : (lines : List ScriptLine) (seen : List ℕ) → list_all (λ frame. nat_le frame last) seen ≡ true
      → map (answer_by hits) (zip lines seen) ≡ map (answer_by later) (zip lines seen)
  same-answers [] seen within = refl
  same-answers (line ∷ lines) [] within = refl
  same-answers (line ∷ lines) (frame ∷ seen) within =
      let parts = and_parts (nat_le frame last) (list_all (λ frame. nat_le frame last) seen) within in
      let here = parts.0 in
      let low : frame ≤ last = grind (arith, nat_tests) in
      let rest = same-answers lines seen parts.1 in
      let same = same-hits frame (asked_by line.body) low in
      let answer : List Hit → ProbeAnswer = λ hit. record {
        actor = line.actor;
        line = line.number;
        asked = asked_by line.body;
        frame = record { 0 = frame };
        hits = hit;
      } in
      λ i. answer (same i) ∷ rest i

  still-within : (seen : List ℕ) → list_all (λ frame. nat_le frame last) seen ≡ true → list_all (λ frame. nat_le frame more) seen ≡ true
  still-within [] within = refl
  still-within (frame ∷ seen) within =
      let parts = and_parts (nat_le frame last) (list_all (λ frame. nat_le frame last) seen) within in
      let first = parts.0 in
      let low : frame ≤ last = grind (arith, nat_tests) in
      let here : nat_le frame more ≡ true = grind (arith, nat_tests) in
      rw here (still-within seen parts.1)

  -- answers stay where more frames come, and those up to the last one have the same hits
  pub still-answered : (lines : List ScriptLine) (answers : List ProbeAnswer) → AreAnsweredBy hits last lines answers → AreAnsweredBy later more lines answers
  still-answered lines answers answered = record {
    as_many = answered.as_many;
    are = answered.are ∙ same-answers lines (map frame_seen answers) answered.within;
    within = still-within (map frame_seen answers) answered.within;
    rise = answered.rise;
  }

-- ---- more entries

same-frames : (b : Bool) (before : List Entry) (entry : Entry) → length before ≤ length (cond b (entry ∷ before) before)
same-frames true before entry = omega arith
same-frames false before entry = omega arith

pub frames-grow : (history : List Entry) (entry : Entry) → frames history ≤ frames (history ▹ entry)
frames-grow history entry = same-frames (is_finish entry.kind) (filter (λ one. is_finish one.kind) history) entry

not-this : (b other : Bool) (here before : List Entry) → other ≡ false → cond (b && other) here before ≡ before
not-this true other here before is = rw is refl
not-this false other here before is = refl

-- a frame that is finished has its begin, whatever comes later
pub begin-stays : (frame : ℕ) (history : List Entry) (entry : Entry) → frame ≤ frames history → begin_of frame (history ▹ entry) ≡ begin_of frame history
begin-stays frame history entry low =
    let other : (suc (frames history) == frame) ≡ false =
    grind (arith, nat_tests) in not-this (is_finish entry.kind) (suc (frames history) == frame) (to_begin history) (begin_of frame history) other

-- no frame has the number 0
pub no-begin : (history : List Entry) → begin_of 0 history ≡ []
no-begin [] = refl
no-begin (before ▹ entry) = begin-stays 0 before entry (omega arith) ∙ no-begin before

pub hits-stay : (setup : Setup) (frame : ℕ) (history : List Entry) (entry : Entry) → frame ≤ frames history → (x y : ℤ)
    → hits_in_frame setup history frame x y ≡ hits_in_frame setup (history ▹ entry) frame x y
hits-stay setup frame history entry low x y = ap (λ begun. hits_at setup begun x y) (sym (begin-stays frame history entry low))

-- what is answered by frames of a history is answered by frames of a longer one
pub answered-on : (setup : Setup) (history : List Entry) (entry : Entry) (lines : List ScriptLine) (answers : List ProbeAnswer)
    → AreAnsweredBy (hits_in_frame setup history) (frames history) lines answers
    → AreAnsweredBy (hits_in_frame setup (history ▹ entry)) (frames (history ▹ entry)) lines answers
answered-on setup history entry lines answers answered =
    still-answered (frames-grow history entry) (λ frame low x y. hits-stay setup frame history entry low x y) lines answers answered

pub answered-later : (setup : Setup) (later history : List Entry) (lines : List ScriptLine) (answers : List ProbeAnswer)
    → AreAnsweredBy (hits_in_frame setup history) (frames history) lines answers
    → AreAnsweredBy (hits_in_frame setup (later ++ history)) (frames (later ++ history)) lines answers
answered-later setup [] history lines answers answered = answered
answered-later setup (entry ∷ later) history lines answers answered =
    answered-on setup (later ++ history) entry lines answers (answered-later setup later history lines answers answered)
