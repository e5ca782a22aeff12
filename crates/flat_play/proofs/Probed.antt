-- Probes that are asked on the way.
use Rattle.std.proofs.Common.{◌≡◌, ℕ, zero, suc, ◌+◌, ◌<◌, Bool, true, false, ◌==◌, List, [], ◌∷◌, ◌++◌, length, take, replicate, cond, refl, sym, ap, ◌∙◌}
use Rattle.std.proofs.Common.{subst, arith, append-nil, Option, Some, None, slice_get, slice_index_or}
use Rattle.std.proofs.lemmas.List.{take_all, length-replicate}
use Rattle.std.proofs.lemmas.Bool.{eq-eqb, eqb-true}
use Rattle.std.proofs.lemmas.List.Elements.{filter-append}
use Rattle.std.proofs.lemmas.Option.{slice_get-get_or}
use Rattle.flat_base.specs.declared.ids.Actor.{Actor}
use Rattle.flat_base.specs.declared.ids.Actor.TheVariants.{Display, Session, Probe}
use Rattle.flat_scene.specs.declared.journal.Entry.{Entry}
use Rattle.flat_scene.specs.declared.script.LineBody.{LineBody}
use Rattle.flat_scene.specs.declared.script.LineBody.TheVariants as body
use Rattle.flat_scene.specs.declared.script.ProbeLine.{ProbeLine}
use Rattle.flat_scene.specs.declared.script.ScriptLine.{ScriptLine}
use Rattle.flat_scene.specs.declared.setup.Setup.{Setup}
use Rattle.flat_rules.specs.Ends.{to_finished}
use Rattle.flat_rules.specs.Legal.{frames}
use Rattle.flat_scene.specs.Frames.{setup_at}
use Rattle.flat_rules.specs.Shown.{shown_states}
use Rattle.flat_topology.specs.Hits.{hit_list}
use Rattle.flat_topology.specs.Shown.{Shown}
use Rattle.flat_places.specs.declared.script.Script.{Script}
use Rattle.flat_playable.specs.Playable.{is_played}
use Rattle.flat_report.specs.declared.probes.ProbeAnswer.{ProbeAnswer}
use Rattle.flat_report.specs.Probes.{AreAnsweredBy, ProbesAnswered, answer_by, asked_by, asked_hits, hits_in_frame}
use Rattle.flat_report.proofs.lemmas.ProbeSteps.{none-answered, last-answer-more, answered-on, answered-later}
use Rattle.flat_report.specs.Report.{hits_at, is_probe, probe_lines_of}
use Rattle.flat_play.specs.Probing.{ProbesStand, asked_of, answer_of, answers_after, with_answer}
use Rattle.flat_play.specs.Touching.{enters, stays, GoesOnAt, GoesOnByEnds}
use Rattle.flat_play.proofs.lemmas.PlaySteps.{IsAsked, is_asked}
use Rattle.flat_play.proofs.lemmas.Seen.{last-begin}
use Rattle.flat_play.proofs.lemmas.Slots.{got-other, got-same, set-length}
use Rattle.flat_play.proofs.lemmas.Steps.{At}

-- ---- the answers of one probe

module _ (setup : Setup) (lines : List ScriptLine) (answers : List ProbeAnswer) where
  -- the answers by the frames of a history
  abbrev ByHistory : List Entry → Type 0
  ByHistory history = AreAnsweredBy (hits_in_frame setup history) (frames history) lines answers

  line-on : (number : ℕ) (old new : List Entry) → GoesOnAt number old new → ByHistory old → ByHistory new
  line-on number old new (stays is) was = subst ByHistory (sym is) was
  line-on number old new (enters entry at is) was = subst ByHistory (sym is) (answered-on setup old entry lines answers was)

-- ---- all probes

-- none was asked anything
pub no-answer : (n k : ℕ) (one : List ProbeAnswer) → slice_get (replicate n []) k ≡ Some one → one ≡ []
no-answer zero k one got = absurd (cc)
no-answer (suc n) zero one got = cc
no-answer (suc n) (suc k) one got = no-answer n k one got

pub probes-unasked : (script : Script) (answers : List (List ProbeAnswer)) → answers ≡ replicate script.setup.probes [] → ProbesStand script 0 [] answers
probes-unasked script answers is =
    let P : List (List ProbeAnswer) → Type 0 = ProbesStand script 0 [] in
    subst P (sym is) (record {
      count = length-replicate script.setup.probes [];
      each = λ n one got.
          let Q : List ProbeAnswer → Type 0 = AreAnsweredBy (hits_in_frame script.setup []) 0 [] in
          subst Q (sym (no-answer script.setup.probes n one got)) (none-answered (hits_in_frame script.setup []) 0);
    })

-- an entry of a line makes no difference
pub probes-on : (script : Script) (place number : ℕ) (old new : List Entry) (answers : List (List ProbeAnswer)) → GoesOnAt number old new
    → ProbesStand script place old answers → ProbesStand script place new answers
probes-on script place number old new answers on was = record {
  count = was.count;
  each = λ n one got. line-on script.setup (probe_lines_of n (take place script.lines)) one number old new on (was.each n one got);
}

-- nor do the Ends
pub probes-ended : (script : Script) (old new : List Entry) (answers : List (List ProbeAnswer)) → GoesOnByEnds old new → ProbesAnswered script old answers
    → ProbesAnswered script new answers
probes-ended script old new answers on was =
    let P : List Entry → Type 0 = λ h. ProbesAnswered script h answers in
    subst P (sym on.is) (record {
      count = was.count;
      each = λ n one got. answered-later script.setup on.ends old (probe_lines_of n script.lines) one (was.each n one got);
    })

-- behind all lines
pub probes-all : (script : Script) (place : ℕ) (history : List Entry) (answers : List (List ProbeAnswer)) → place ≡ length script.lines
    → ProbesStand script place history answers → ProbesAnswered script history answers
probes-all script place history answers last was =
    let all : take place script.lines ≡ script.lines = take_all place script.lines (omega (arith, last)) in
    record {
      count = was.count;
      each = λ n one got.
          let P : List ScriptLine → Type 0 = λ lines. AreAnsweredBy (hits_in_frame script.setup history) (frames history) (probe_lines_of n lines) one in
          subst P all (was.each n one got);
    }

-- ---- one line more

module _ (script : Script) (place : ℕ) (x : ScriptLine) (at : At script place x) where
  own-more : (n : ℕ) → probe_lines_of n (take (place + 1) script.lines) ≡ probe_lines_of n (take place script.lines) ++ probe_lines_of n (x ∷ [])
  own-more n = ap (probe_lines_of n) at.taken ∙ filter-append (λ (line : ScriptLine). is_probe n line.actor) (take place script.lines) (x ∷ [])

  pub own-same : (n : ℕ) → is_probe n x.actor ≡ false → probe_lines_of n (take (place + 1) script.lines) ≡ probe_lines_of n (take place script.lines)
  own-same n other = own-more n ∙ ap (λ b. probe_lines_of n (take place script.lines) ++ cond b (x ∷ []) []) other
      ∙ append-nil (probe_lines_of n (take place script.lines))

  pub own-one : (n : ℕ) → is_probe n x.actor ≡ true → probe_lines_of n (take (place + 1) script.lines) ≡ probe_lines_of n (take place script.lines) ++ x ∷ []
  own-one n mine = own-more n ∙ ap (λ b. probe_lines_of n (take place script.lines) ++ cond b (x ∷ []) []) mine

  module _ (history : List Entry) (there : Setup) (shown : Shown) (frame : ℕ) (number_is : frame ≡ frames history)
      (at_finished : there ≡ setup_at script.setup (to_finished history)) (shows : shown ≡ shown_states script.setup (to_finished history)) where
    -- the last finished frame hits what is shown
    hits-last : hits_in_frame script.setup history frame ≡ hit_list there shown
    hits-last = ap (hits_in_frame script.setup history) number_is ∙ ap (hits_at script.setup) (last-begin history)
        ∙ (λ i. hit_list (sym at_finished i) (sym shows i))

    answer-is : (p : ℕ) (asked : ProbeLine) → x.actor ≡ Probe p → x.body ≡ body.Probe asked
        → answer_of there shown frame (Probe p) x.number asked ≡ answer_by (hits_in_frame script.setup history) (x, frame)
    answer-is p asked who what =
        λ i. record {
          actor = sym who i;
          line = x.number;
          asked = asked_by (sym what i);
          frame = record { 0 = frame };
          hits = asked_hits (sym hits-last i) (asked_by (sym what i));
        }

    -- a probe's line
    asked-more : (p : ℕ) (asked : ProbeLine) (answers : List (List ProbeAnswer)) → x.actor ≡ Probe p → x.body ≡ body.Probe asked → p < length answers
        → ProbesStand script place history answers
        → ProbesStand script (place + 1) history (with_answer p (answer_of there shown frame (Probe p) x.number asked) answers)
    asked-more p asked answers who what within was = record {
      count = set-length answers p (slice_index_or answers p [] ++ new ∷ []) ∙ was.count;
      each = λ n one got. by n one got (p == n) refl;
    }
      where
        new : ProbeAnswer
        new = answer_of there shown frame (Probe p) x.number asked

        Own : ℕ → List ScriptLine → List ProbeAnswer → Type 0
        Own n lines one = AreAnsweredBy (hits_in_frame script.setup history) (frames history) lines one

        by : (n : ℕ) (one : List ProbeAnswer) → slice_get (with_answer p new answers) n ≡ Some one → (b : Bool) → (p == n) ≡ b
            → Own n (probe_lines_of n (take (place + 1) script.lines)) one
        by n one got true is =
            let here : n ≡ p = sym (eqb-true p n is) in
            let old : List ProbeAnswer = slice_index_or answers p [] in
            let before : Own n (probe_lines_of n (take place script.lines)) old =
            was.each n old (ap (slice_get answers) here ∙ slice_get-get_or answers p [] within) in
            let found : Some one ≡ Some (old ++ new ∷ []) = sym got ∙ ap (slice_get (with_answer p new answers)) here
            ∙ got-same answers p (old ++ new ∷ []) within in
            let is_one : one ≡ old ++ new ∷ [] = cc in
            let last : new ≡ answer_by (hits_in_frame script.setup history) (x, frames history) =
            answer-is p asked who what ∙ ap (λ (n : ℕ). answer_by (hits_in_frame script.setup history) (x, n)) number_is in
            let P : List ProbeAnswer → Type 0 = Own n (probe_lines_of n (take (place + 1) script.lines)) in
            let Q : List ScriptLine → Type 0 = λ lines. Own n lines (old ++ answer_by (hits_in_frame script.setup history) (x, frames history) ∷ []) in
            subst P (sym (is_one ∙ ap (λ (a : ProbeAnswer). old ++ a ∷ []) last))
            (subst Q (sym (own-one n (ap (is_probe n) who ∙ is))) (last-answer-more before x))
        by n one got false is =
            let apart : n ≡ p → ⊥ = λ same. (let yes : (p == n) ≡ true = eq-eqb p n (sym same) in let both : true ≡ false = sym yes ∙ is in absurd (cc)) in
            let P : List ScriptLine → Type 0 = λ lines. Own n lines one in
            subst P (sym (own-same n (ap (is_probe n) who ∙ is)))
            (was.each n one (sym (got-other answers p n (slice_index_or answers p [] ++ new ∷ []) apart) ∙ got))

    -- another actor's line
    unasked-more : (answers : List (List ProbeAnswer)) → ((n : ℕ) → is_probe n x.actor ≡ false) → ProbesStand script place history answers
        → ProbesStand script (place + 1) history answers
    unasked-more answers other was = record {
      count = was.count;
      each = λ n one got.
          let P : List ScriptLine → Type 0 = λ lines. AreAnsweredBy (hits_in_frame script.setup history) (frames history) lines one in
          subst P (sym (own-same n (other n))) (was.each n one got);
    }

    -- any line
    pub probes-more : (answers new : List (List ProbeAnswer)) → new ≡ answers_after there shown frame x.number (asked_of x.actor x.body) answers
        → ProbesStand script place history answers
        → ProbesStand script (place + 1) history new
    probes-more answers new is was = by x.actor refl
      where
        P : List (List ProbeAnswer) → Type 0
        P = ProbesStand script (place + 1) history

        after : Option (ℕ × ProbeLine) → List (List ProbeAnswer)
        after asked = answers_after there shown frame x.number asked answers

        by : (who : Actor) → x.actor ≡ who → P new
        by Display who = subst P (sym (is ∙ ap (λ (a : Actor). after (asked_of a x.body)) who)) (unasked-more answers (λ n. ap (is_probe n) who) was)
        by (Session s) who = subst P (sym (is ∙ ap (λ (a : Actor). after (asked_of a x.body)) who)) (unasked-more answers (λ n. ap (is_probe n) who) was)
        by (Probe p) who =
            let played : is_played script.setup (Probe p) x.body ≡ true = ap (λ (a : Actor). is_played script.setup a x.body) (sym who) ∙ at.played in
            let line : IsAsked script.setup p x.body = is_asked script.setup p x.body played in
            let what : asked_of x.actor x.body ≡ Some (p, line.asked) = ap (λ (a : Actor). asked_of a x.body) who ∙ ap (asked_of (Probe p)) line.is in
            subst P (sym (is ∙ ap after what)) (asked-more p line.asked answers who line.is
            (let many = was.count in let few = line.below in omega (arith, many, few)) was)

-- which probe is asked, if one is
abbrev number-in : Option (ℕ × ProbeLine) → ℕ
number-in None = 0
number-in (Some both) = both.0

-- a probe that a line asks is one of the script's
pub asked-within : (script : Script) (place : ℕ) (x : ScriptLine) → At script place x → (history : List Entry) (answers : List (List ProbeAnswer))
    → ProbesStand script place history answers
    → (p : ℕ) (asked : ProbeLine) → asked_of x.actor x.body ≡ Some (p, asked) → p < length answers
asked-within script place x at history answers was p asked is = by x.actor refl x.body refl
  where
    by : (who : Actor) → x.actor ≡ who → (text : LineBody) → x.body ≡ text → p < length answers
    by (Probe q) who (body.Probe what) text =
        let both : Some (q, what) ≡ Some (p, asked) = sym (λ i. asked_of (who i) (text i)) ∙ is in
        let same : q ≡ p = ap number-in both in
        let played : is_played script.setup (Probe q) (body.Probe what) ≡ true = sym (λ i. is_played script.setup (who i) (text i)) ∙ at.played in
        let below : q < script.setup.probes = (is_asked script.setup q (body.Probe what) played).below in
        let many = was.count in
        omega (arith, many, below, same)
    by (Probe q) who (body.Session what) text = absurd (let both : None ≡ Some (p, asked) = sym (λ i. asked_of (who i) (text i)) ∙ is in cc)
    by (Probe q) who (body.Display what) text = absurd (let both : None ≡ Some (p, asked) = sym (λ i. asked_of (who i) (text i)) ∙ is in cc)
    by Display who text shape = absurd (let both : None ≡ Some (p, asked) = sym (ap (λ (a : Actor). asked_of a x.body) who) ∙ is in cc)
    by (Session s) who text shape = absurd (let both : None ≡ Some (p, asked) = sym (ap (λ (a : Actor). asked_of a x.body) who) ∙ is in cc)
