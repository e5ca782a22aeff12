-- What probes are answered, each up to its own place of the script.
use Rattle.std.proofs.Common.{◌≡◌, ℕ, zero, suc, ◌+◌, ◌<◌, ◌≤◌, Bool, true, false, ◌==◌, List, [], ◌∷◌, ◌++◌, length, take, replicate, cond, append-nil, refl}
use Rattle.std.proofs.Common.{sym, ap, ◌∙◌, subst, arith, Some, None, slice_get, slice_set, slice_index_or}
use Rattle.std.proofs.lemmas.List.{take_all, length-replicate}
use Rattle.std.proofs.lemmas.Bool.{eq-eqb, eqb-true}
use Rattle.std.proofs.lemmas.List.Elements.{filter-append}
use Rattle.std.proofs.lemmas.Option.{slice_get-get_or}
use Rattle.flat_base.specs.declared.ids.Actor.{Actor}
use Rattle.flat_base.specs.declared.ids.Actor.TheVariants.{Display, Session, Probe}
use Rattle.flat_scene.specs.declared.journal.Entry.{Entry}
use Rattle.flat_scene.specs.declared.script.LineBody.{LineBody}
use Rattle.flat_scene.specs.declared.script.LineBody.TheVariants as body
use Rattle.flat_scene.specs.declared.script.ProbeLine.{ProbeLine}
use Rattle.flat_scene.specs.declared.script.ScriptLine.{ScriptLine}
use Rattle.flat_scene.specs.declared.setup.Setup.{Setup}
use Rattle.flat_scene.specs.Frames.{setup_at}
use Rattle.flat_scene.specs.History.{◌▹◌}
use Rattle.flat_rules.specs.Ends.{to_finished}
use Rattle.flat_rules.specs.Legal.{frames}
use Rattle.flat_rules.specs.Shown.{shown_states}
use Rattle.flat_topology.specs.Hits.{hit_list}
use Rattle.flat_topology.specs.Shown.{Shown}
use Rattle.flat_places.specs.declared.script.Script.{Script}
use Rattle.flat_report.specs.declared.probes.ProbeAnswer.{ProbeAnswer}
use Rattle.flat_report.specs.Probes.{AreAnsweredBy, ProbesAnswered, answer_by, asked_by, asked_hits, hits_in_frame}
use Rattle.flat_report.specs.Report.{hits_at, is_probe, probe_lines_of}
use Rattle.flat_report.proofs.lemmas.ProbeSteps.{answered-on, last-answer-more, none-answered}
use Rattle.flat_playable.specs.Playable.{is_played}
use Rattle.flat_play.specs.Probing.{answer_of, with_answer}
use Rattle.flat_play.proofs.lemmas.Seen.{last-begin}
use Rattle.flat_play.proofs.lemmas.Slots.{got-other, got-same, set-length}
use Rattle.flat_play.proofs.lemmas.Steps.{At}
use Rattle.flat_judge.specs.GuidedRuns.{ProbeGoes, ProbesStandAt, asked_here}

-- ---- the lines of a probe up to a place

no-answer : (n k : ℕ) (one : List ProbeAnswer) → slice_get (replicate n []) k ≡ Some one → one ≡ []
no-answer zero k one got = absurd (cc)
no-answer (suc n) zero one got = cc
no-answer (suc n) (suc k) one got = no-answer n k one got

module _ (script : Script) (place : ℕ) (x : ScriptLine) (at : At script place x) (n : ℕ) where
  own-more : probe_lines_of n (take (place + 1) script.lines) ≡ probe_lines_of n (take place script.lines) ++ probe_lines_of n (x ∷ [])
  own-more = ap (probe_lines_of n) at.taken ∙ filter-append (λ (line : ScriptLine). is_probe n line.actor) (take place script.lines) (x ∷ [])

  own-same : is_probe n x.actor ≡ false → probe_lines_of n (take (place + 1) script.lines) ≡ probe_lines_of n (take place script.lines)
  own-same other = own-more ∙ ap (λ b. probe_lines_of n (take place script.lines) ++ cond b (x ∷ []) []) other
      ∙ append-nil (probe_lines_of n (take place script.lines))

  own-one : is_probe n x.actor ≡ true → probe_lines_of n (take (place + 1) script.lines) ≡ probe_lines_of n (take place script.lines) ++ x ∷ []
  own-one mine = own-more ∙ ap (λ b. probe_lines_of n (take place script.lines) ++ cond b (x ∷ []) []) mine

-- ---- at first

no-place : (n k place : ℕ) → slice_get (replicate n 0) k ≡ Some place → place ≡ 0
no-place zero k place got = absurd (cc)
no-place (suc n) zero place got = cc
no-place (suc n) (suc k) place got = no-place n k place got

pub probes-first : (script : Script) (places : List ℕ) (answers : List (List ProbeAnswer)) → places ≡ replicate script.setup.probes 0
    → answers ≡ replicate script.setup.probes [] → ProbesStandAt script [] places answers
probes-first script places answers places_are answers_are = record {
  count = ap length answers_are ∙ length-replicate script.setup.probes [];
  as_many = ap length places_are ∙ length-replicate script.setup.probes 0;
  each = λ n place one at got.
      let first : place ≡ 0 = no-place script.setup.probes n place (ap (λ ps. slice_get ps n) (sym places_are) ∙ at) in
      let none : one ≡ [] = no-answer script.setup.probes n one (ap (λ (os : List (List ProbeAnswer)). slice_get os n) (sym answers_are) ∙ got) in
      let P : ℕ → List ProbeAnswer → Type 0 = λ p os. (p ≤ length script.lines)
      × AreAnsweredBy (hits_in_frame script.setup []) 0 (probe_lines_of n (take p script.lines)) os in
      let P1 : ℕ → Type 0 = λ p. P p one in
      let P2 : List ProbeAnswer → Type 0 = P 0 in
      subst P1 (sym first) (subst P2 (sym none) (let low : 0 ≤ length script.lines = omega arith in (low, none-answered (hits_in_frame script.setup []) 0)));
}

-- ---- one entry more

pub probes-on : (script : Script) (history : List Entry) (entry : Entry) (places : List ℕ) (answers : List (List ProbeAnswer))
    → ProbesStandAt script history places answers → ProbesStandAt script (history ▹ entry) places answers
probes-on script history entry places answers stand = record {
  count = stand.count;
  as_many = stand.as_many;
  each = λ n place one at got.
      let was = stand.each n place one at got in
      (was.0, answered-on script.setup history entry (probe_lines_of n (take place script.lines)) one was.1);
}

-- ---- one line more

-- the place of a probe and its answers are these now, and all others stay
pub probes-moved : (script : Script) (history : List Entry) (places places' : List ℕ) (answers answers' : List (List ProbeAnswer)) (probe : ℕ)
    → ProbesStandAt script history places answers
    → length places' ≡ length places → length answers' ≡ length answers
    → ((n : ℕ) → (n ≡ probe → ⊥) → slice_get places' n ≡ slice_get places n) → ((n : ℕ) → (n ≡ probe → ⊥) → slice_get answers' n ≡ slice_get answers n)
    → ((place : ℕ) (one : List ProbeAnswer) → slice_get places' probe ≡ Some place → slice_get answers' probe ≡ Some one
    → (place ≤ length script.lines) × AreAnsweredBy (hits_in_frame script.setup history) (frames history) (probe_lines_of probe (take place script.lines)) one)
    → ProbesStandAt script history places' answers'
probes-moved script history places places' answers answers' probe stand many_places many_answers same_places same_answers mine = record {
  count = many_answers ∙ stand.count;
  as_many = many_places ∙ stand.as_many;
  each = λ n at one got_place got. by n at one got_place got (n == probe) refl;
}
  where
    Own : ℕ → ℕ → List ProbeAnswer → Type 0
    Own n p os = (p ≤ length script.lines) × AreAnsweredBy (hits_in_frame script.setup history) (frames history) (probe_lines_of n (take p script.lines)) os

    by : (n at : ℕ) (one : List ProbeAnswer) → slice_get places' n ≡ Some at → slice_get answers' n ≡ Some one → (b : Bool) → (n == probe) ≡ b → Own n at one
    by n at one got_place got true is =
        let here : n ≡ probe = eqb-true n probe is in
        let Q : ℕ → Type 0 = λ k. Own k at one in
        subst Q (sym here) (mine at one (ap (slice_get places') (sym here) ∙ got_place) (ap (slice_get answers') (sym here) ∙ got))
    by n at one got_place got false is =
        let apart : n ≡ probe → ⊥ = λ same. (let yes : (n == probe) ≡ true = eq-eqb n probe same in let both : true ≡ false = sym yes ∙ is in absurd (cc)) in
        stand.each n at one (sym (same_places n apart) ∙ got_place) (sym (same_answers n apart) ∙ got)

-- what is there at a place that was set
set-here : {X : Type 0} (xs : List X) (n : ℕ) (x y : X) → n < length xs → slice_get (slice_set xs n x) n ≡ Some y → y ≡ x
set-here xs n x y below got = let both : Some y ≡ Some x = sym got ∙ got-same xs n x below in cc

-- ---- the lines of a probe

-- a line that asks nothing of a probe isn't the probe's
pub not-here : (setup : Setup) (probe : ℕ) (who : Actor) (text : LineBody) → is_played setup who text ≡ true → asked_here probe who text ≡ None
    → is_probe probe who ≡ false
not-here setup probe Display text played none = refl
not-here setup probe (Session s) text played none = refl
not-here setup probe (Probe p) (body.Session said) played none = absurd (let wrong : false ≡ true = played in cc)
not-here setup probe (Probe p) (body.Display said) played none = absurd (let wrong : false ≡ true = played in cc)
not-here setup probe (Probe p) (body.Probe asked) played none = by (p == probe) none
  where
    by : (b : Bool) → cond b (Some asked) None ≡ None → b ≡ false
    by true none = absurd (let wrong : Some asked ≡ None = none in cc)
    by false none = refl

-- and one that does is
pub record IsHere (probe : ℕ) (who : Actor) (text : LineBody) (asked : ProbeLine) : Type 0 where
  pub who_is : who ≡ Probe probe
  pub text_is : text ≡ body.Probe asked

pub is-here : (probe : ℕ) (who : Actor) (text : LineBody) (asked : ProbeLine) → asked_here probe who text ≡ Some asked → IsHere probe who text asked
is-here probe Display text asked is = absurd (let wrong : None ≡ Some asked = is in cc)
is-here probe (Session s) text asked is = absurd (let wrong : None ≡ Some asked = is in cc)
is-here probe (Probe p) (body.Session said) asked is = absurd (let wrong : None ≡ Some asked = is in cc)
is-here probe (Probe p) (body.Display said) asked is = absurd (let wrong : None ≡ Some asked = is in cc)
is-here probe (Probe p) (body.Probe what) asked is = by (p == probe) refl is
  where
    by : (b : Bool) → (p == probe) ≡ b → cond b (Some what) None ≡ Some asked → IsHere probe (Probe p) (body.Probe what) asked
    by true same is = record { who_is = ap Probe (eqb-true p probe same); text_is = (let one : what ≡ asked = cc in ap body.Probe one) }
    by false same is = absurd (let wrong : None ≡ Some asked = is in cc)

module _ (script : Script) (history : List Entry) (places : List ℕ) (answers : List (List ProbeAnswer)) (stand : ProbesStandAt script history places answers)
    (probe place : ℕ) (below : probe < length places) (at_place : slice_get places probe ≡ Some place) (x : ScriptLine) (at : At script place x)
    (short : place < length script.lines) where
  few-places : (next : ℕ) (at' : ℕ) → slice_get (slice_set places probe next) probe ≡ Some at' → at' ≡ next
  few-places next at' got = set-here places probe next at' below got

  as-many : length places ≡ length answers
  as-many = stand.as_many ∙ sym stand.count

  -- a probe goes behind a line that isn't its own
  pub probes-pass : asked_here probe x.actor x.body ≡ None → ProbesStandAt script history (slice_set places probe (place + 1)) answers
  probes-pass none =
      probes-moved script history places (slice_set places probe (place + 1)) answers answers probe stand (set-length places probe (place + 1)) refl
      (λ n apart. got-other places probe n (place + 1) apart) (λ n apart. refl)
      (λ at' one got_place got.
      let was = stand.each probe place one at_place got in
      let is : at' ≡ place + 1 = few-places (place + 1) at' got_place in
      let P : ℕ → Type 0 = λ p. (p ≤ length script.lines)
      × AreAnsweredBy (hits_in_frame script.setup history) (frames history) (probe_lines_of probe (take p script.lines)) one in
      let Q : List ScriptLine → Type 0 = λ lines. AreAnsweredBy (hits_in_frame script.setup history) (frames history) lines one in
      let less : place + 1 ≤ length script.lines = omega (arith, short) in
      subst P (sym is) (less, subst Q (sym (own-same script place x at probe (not-here script.setup probe x.actor x.body at.played none))) was.1))

  -- or behind one that is, and is answered by the last finished frame
  pub probes-answer : (asked : ProbeLine) → asked_here probe x.actor x.body ≡ Some asked → (there : Setup) (shown : Shown) (frame : ℕ) → frame ≡ frames history
      → there ≡ setup_at script.setup (to_finished history)
      → shown ≡ shown_states script.setup (to_finished history)
      → ProbesStandAt script history (slice_set places probe (place + 1)) (with_answer probe (answer_of there shown frame x.actor x.number asked) answers)
  probes-answer asked asks there shown frame number_is at_finished shows =
      let here = is-here probe x.actor x.body asked asks in
      let answer : ProbeAnswer = answer_of there shown frame x.actor x.number asked in
      let old : List ProbeAnswer = slice_index_or answers probe [] in
      let inside : probe < length answers = (let many = as-many in omega (arith, below, many)) in
      let got_old : slice_get answers probe ≡ Some old = slice_get-get_or answers probe [] inside in
      let was = stand.each probe place old at_place got_old in
      let hits : hits_in_frame script.setup history frame ≡ hit_list there shown =
      ap (hits_in_frame script.setup history) number_is ∙ ap (hits_at script.setup) (last-begin history)
      ∙ (λ i. hit_list (sym at_finished i) (sym shows i)) in
      let by_frame : answer ≡ answer_by (hits_in_frame script.setup history) (x, frame) =
      λ i. record {
        actor = x.actor;
        line = x.number;
        asked = asked_by (sym here.text_is i);
        frame = record { 0 = frame };
        hits = asked_hits (sym hits i) (asked_by (sym here.text_is i));
      } in
      let last : answer ≡ answer_by (hits_in_frame script.setup history) (x, frames history) =
      by_frame ∙ ap (λ (n : ℕ). answer_by (hits_in_frame script.setup history) (x, n)) number_is in
      let mine : is_probe probe x.actor ≡ true = ap (is_probe probe) here.who_is ∙ eq-eqb probe probe refl in
      let less : place + 1 ≤ length script.lines = omega (arith, short) in
      probes-moved script history places (slice_set places probe (place + 1)) answers (with_answer probe answer answers) probe stand
      (set-length places probe (place + 1)) (set-length answers probe (old ++ answer ∷ []))
      (λ n apart. got-other places probe n (place + 1) apart) (λ n apart. got-other answers probe n (old ++ answer ∷ []) apart)
      (λ at' one got_place got.
      let is : at' ≡ place + 1 = few-places (place + 1) at' got_place in
      let one_is : one ≡ old ++ answer ∷ [] = set-here answers probe (old ++ answer ∷ []) one inside got in
      let P : ℕ → Type 0 = λ p. (p ≤ length script.lines)
      × AreAnsweredBy (hits_in_frame script.setup history) (frames history) (probe_lines_of probe (take p script.lines)) one in
      let O : List ProbeAnswer → Type 0 = λ os. AreAnsweredBy (hits_in_frame script.setup history) (frames history)
      (probe_lines_of probe (take (place + 1) script.lines)) os in
      let A : ProbeAnswer → Type 0 = λ a. AreAnsweredBy (hits_in_frame script.setup history) (frames history)
      (probe_lines_of probe (take (place + 1) script.lines)) (old ++ a ∷ []) in
      let L : List ScriptLine → Type 0 = λ lines. AreAnsweredBy (hits_in_frame script.setup history) (frames history) lines
      (old ++ answer_by (hits_in_frame script.setup history) (x, frames history) ∷ []) in
      subst P (sym is) (less, subst O (sym one_is) (subst A (sym last) (subst L (sym (own-one script place x at probe mine)) (last-answer-more was.1 x)))))

-- a probe's place went on by one
pub probe-goes : (places : List ℕ) (probe place : ℕ) (is_due : Bool) → probe < length places → slice_get places probe ≡ Some place
    → ProbeGoes probe is_due true places (slice_set places probe (place + 1))
probe-goes places probe place is_due below at = record {
  next = λ on was got.
      let both : Some was ≡ Some place = sym got ∙ at in
      let same : was ≡ place = cc in
      got-same places probe (place + 1) below ∙ ap (λ (n : ℕ). Some (n + 1)) (sym same);
  due = λ is. refl;
  others = λ n apart. got-other places probe n (place + 1) apart;
}

-- or stays, where its line isn't due
pub probe-stays : (places : List ℕ) (probe : ℕ) (is_due : Bool) → is_due ≡ false → ProbeGoes probe is_due false places places
probe-stays places probe is_due not_due = record {
  next = λ on place got. absurd (let wrong : false ≡ true = on in cc);
  due = λ is. absurd (let both : false ≡ true = sym not_due ∙ is in cc);
  others = λ n apart. refl;
}

-- ---- behind all lines

pub probes-whole : (script : Script) (history : List Entry) (places : List ℕ) (answers : List (List ProbeAnswer))
    → ((n place : ℕ) → slice_get places n ≡ Some place → place ≡ length script.lines) → ProbesStandAt script history places answers
    → ((n : ℕ) (one : List ProbeAnswer) → slice_get answers n ≡ Some one → n < length places) → ProbesAnswered script history answers
probes-whole script history places answers last stand inside = record {
  count = stand.count;
  each = λ n one got.
      let place : ℕ = slice_index_or places n 0 in
      let at : slice_get places n ≡ Some place = slice_get-get_or places n 0 (inside n one got) in
      let end : place ≡ length script.lines = last n place at in
      let all : take place script.lines ≡ script.lines = take_all place script.lines (omega (arith, end)) in
      let P : List ScriptLine → Type 0 = λ lines. AreAnsweredBy (hits_in_frame script.setup history) (frames history) (probe_lines_of n lines) one in
      subst P all (stand.each n place one at got).1;
}
