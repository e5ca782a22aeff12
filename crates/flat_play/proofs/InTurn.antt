-- Each probe's line is answered by the frame that was finished last before it.
use Rattle.std.proofs.Common.{◌≡◌, ℕ, suc, ◌+◌, ◌<◌, Bool, true, false, ◌&&◌, ◌==◌, cond, nat_lt, nat_le, List, [], ◌∷◌, ◌++◌, length, map, take, replicate}
use Rattle.std.proofs.Common.{refl, sym, ap, ◌∙◌, subst, arith, Option, Some, slice_get, slice_index_or, zero-add}
use Rattle.std.specs.List.{flat_map, list_all, range_with_len}
use Rattle.std.proofs.lemmas.Bool.{eq-eqb, eqb-true}
use Rattle.std.proofs.lemmas.Bool.Decides.{nat_tests}
use Rattle.std.proofs.lemmas.List.{map-append, take_all}
use Rattle.std.proofs.lemmas.Option.{slice_get-get_or}
use Rattle.flat_base.proofs.lemmas.Tests.{and-left, and-right, and-true}
use Rattle.flat_base.specs.declared.ids.Actor.{Actor}
use Rattle.flat_base.specs.declared.ids.Actor.TheVariants.{Display, Session, Probe}
use Rattle.flat_scene.specs.declared.journal.Entry.{Entry}
use Rattle.flat_scene.specs.declared.script.ProbeLine.{ProbeLine}
use Rattle.flat_scene.specs.declared.script.ScriptLine.{ScriptLine}
use Rattle.flat_scene.specs.declared.setup.Setup.{Setup}
use Rattle.flat_scene.specs.History.{◌▹◌, is_end, is_finish}
use Rattle.flat_rules.specs.Legal.{frames}
use Rattle.flat_topology.specs.Shown.{Shown}
use Rattle.flat_places.specs.declared.script.Script.{Script}
use Rattle.flat_playable.specs.Playable.{is_played, rise_from}
use Rattle.flat_report.specs.declared.probes.ProbeAnswer.{ProbeAnswer}
use Rattle.flat_report.specs.Probes.{frame_seen, frames_seen}
use Rattle.flat_report.specs.Report.{is_probe, probe_lines_of}
use Rattle.flat_play.specs.Probing.{SeeInTurn, answer_of, answers_after, asked_of, with_answer}
use Rattle.flat_play.specs.InTurn.{frames_then, seen_in_turn}
use Rattle.flat_play.specs.Touches.{frames_before}
use Rattle.flat_play.specs.Touching.{enters, stays, GoesOnAt, GoesOnByEnds}
use Rattle.flat_play.proofs.lemmas.Slots.{got-other, got-same}
use Rattle.flat_play.proofs.Probed.{no-answer, own-one, own-same}
use Rattle.flat_play.proofs.Touching.{all-before, no-finish}
use Rattle.flat_play.proofs.lemmas.PlaySteps.{IsAsked, is_asked}
use Rattle.flat_play.proofs.lemmas.Steps.{At}

-- ---- lines before others

-- lines that rise up to another come before it
below-next : (from : ℕ) (lines : List ScriptLine) (x : ScriptLine) (later : List ScriptLine) → rise_from from (lines ++ x ∷ later) ≡ true
    → (list_all (λ (line : ScriptLine). nat_lt line.number x.number) lines ≡ true) × (from < x.number)
below-next from [] x later rise = (refl, let first : nat_lt from x.number ≡ true = and-left _ _ rise in grind (arith, nat_tests))
below-next from (line ∷ lines) x later rise =
    let above : nat_lt from line.number ≡ true = and-left (nat_lt from line.number) _ rise in
    let rest = below-next line.number lines x later (and-right (nat_lt from line.number) _ rise) in
    let less = rest.1 in (
      and-true (let test : nat_lt line.number x.number ≡ true = grind (arith, nat_tests) in test) rest.0,
      let low : from < line.number = grind (arith, nat_tests) in omega (arith, low, less),
    )

-- an entry of a line that isn't before another counts for none before that
same-before : (n : ℕ) (before : List Entry) (entry : Entry) → (is_finish entry.kind && nat_lt entry.line n) ≡ false
    → frames_before n (before ▹ entry) ≡ frames_before n before
same-before n before entry late = ap (λ b. cond b 1 0 + frames_before n before) late ∙ zero-add (frames_before n before)

late-entry : (b : Bool) (line n : ℕ) → nat_lt line n ≡ false → (b && nat_lt line n) ≡ false
late-entry true line n late = late
late-entry false line n late = refl

module _ (number : ℕ) (old new : List Entry) (on : GoesOnAt number old new) where
  -- nothing changes before a line where the history goes on at that line or behind it
  then-on : (lines : List ScriptLine) → list_all (λ (line : ScriptLine). nat_le line.number number) lines ≡ true → frames_then new lines ≡ frames_then old lines
  then-on [] upto = refl
  then-on (line ∷ lines) upto =
      let le : nat_le line.number number ≡ true = and-left (nat_le line.number number) _ upto in
      λ i. one on line le i ∷ then-on lines (and-right (nat_le line.number number) _ upto) i
    where
      one : GoesOnAt number old new → (line : ScriptLine) → nat_le line.number number ≡ true → frames_before line.number new ≡ frames_before line.number old
      one (stays is) line le = ap (frames_before line.number) is
      one (enters entry at is) line le =
          ap (frames_before line.number) is ∙ same-before line.number old entry
          (late-entry (is_finish entry.kind) entry.line line.number (let late : nat_lt entry.line line.number ≡ false = grind (arith, nat_tests) in late))

-- a probe's lines are among all
of-probe : (p : ScriptLine → Bool) (n : ℕ) (lines : List ScriptLine) → list_all p lines ≡ true → list_all p (probe_lines_of n lines) ≡ true
of-probe p n [] all = refl
of-probe p n (line ∷ lines) all = by (is_probe n line.actor) (and-left (p line) _ all) (of-probe p n lines (and-right (p line) _ all))
  where
    by : (b : Bool) → p line ≡ true → list_all p (probe_lines_of n lines) ≡ true
        → list_all p (cond b (line ∷ probe_lines_of n lines) (probe_lines_of n lines)) ≡ true
    by true first rest = and-true first rest
    by false first rest = rest

-- ---- the loop

pub turns-none : (probes : ℕ) (history : List Entry) (answers : List (List ProbeAnswer)) → answers ≡ replicate probes [] → SeeInTurn [] history answers
turns-none probes history answers is = λ n one got. ap (map frame_seen)
    (no-answer probes n one (ap (λ (ys : List (List ProbeAnswer)). slice_get ys n) (sym is) ∙ got))

module _ (script : Script) (place : ℕ) (x : ScriptLine) (at : At script place x) where
  -- the line comes behind those before it
  first-lines : list_all (λ (line : ScriptLine). nat_lt line.number x.number) (take place script.lines) ≡ true
  first-lines = (below-next 0 (take place script.lines) x _ at.rise).0

  -- the history goes on at the line
  pub turns-on : (old new : List Entry) (answers : List (List ProbeAnswer)) → GoesOnAt x.number old new → SeeInTurn (take (place + 1) script.lines) old answers
      → SeeInTurn (take (place + 1) script.lines) new answers
  turns-on old new answers on was = λ n one got. was n one got
      ∙ sym (then-on x.number old new on (probe_lines_of n (take (place + 1) script.lines))
      (of-probe (λ line. nat_le line.number x.number) n (take (place + 1) script.lines) upto))
    where
      all-le : (lines : List ScriptLine) → list_all (λ (line : ScriptLine). nat_lt line.number x.number) lines ≡ true
          → list_all (λ (line : ScriptLine). nat_le line.number x.number) (lines ++ x ∷ []) ≡ true
      all-le [] all = and-true (let same : nat_le x.number x.number ≡ true = grind (arith, nat_tests) in same) refl
      all-le (line ∷ lines) all =
          let first : nat_lt line.number x.number ≡ true = and-left (nat_lt line.number x.number) _ all in
          and-true (let le : nat_le line.number x.number ≡ true = grind (arith, nat_tests) in le) (all-le lines (and-right (nat_lt line.number x.number) _ all))

      upto : list_all (λ (line : ScriptLine). nat_le line.number x.number) (take (place + 1) script.lines) ≡ true
      upto = ap (list_all (λ (line : ScriptLine). nat_le line.number x.number)) at.taken ∙ all-le (take place script.lines) first-lines

  module _ (history : List Entry) (last : ℕ) (below : last < x.number) (early : list_all (λ (entry : Entry). nat_le entry.line last) history ≡ true)
      (there : Setup) (shown : Shown) (frame : ℕ) (number_is : frame ≡ frames history) where
    -- all frames are finished before the line
    frame-then : frame ≡ frames_before x.number history
    frame-then = number_is ∙ sym (all-before last x.number below history early)

    asked-turn : (p : ℕ) (asked : ProbeLine) (answers : List (List ProbeAnswer)) → x.actor ≡ Probe p → p < length answers
        → SeeInTurn (take place script.lines) history answers
        → SeeInTurn (take (place + 1) script.lines) history (with_answer p (answer_of there shown frame (Probe p) x.number asked) answers)
    asked-turn p asked answers who within was = λ n one got. by n one got (p == n) refl
      where
        new : ProbeAnswer
        new = answer_of there shown frame (Probe p) x.number asked

        by : (n : ℕ) (one : List ProbeAnswer) → slice_get (with_answer p new answers) n ≡ Some one → (b : Bool) → (p == n) ≡ b
            → map frame_seen one ≡ frames_then history (probe_lines_of n (take (place + 1) script.lines))
        by n one got true is =
            let here : n ≡ p = sym (eqb-true p n is) in
            let old : List ProbeAnswer = slice_index_or answers p [] in
            let before : map frame_seen old ≡ frames_then history (probe_lines_of n (take place script.lines)) =
            was n old (ap (slice_get answers) here ∙ slice_get-get_or answers p [] within) in
            let found : Some one ≡ Some (old ++ new ∷ []) = sym got ∙ ap (slice_get (with_answer p new answers)) here
            ∙ got-same answers p (old ++ new ∷ []) within in
            let is_one : one ≡ old ++ new ∷ [] = cc in
            ap (map frame_seen) is_one ∙ map-append frame_seen old (new ∷ [])
            ∙ (λ i. before i ++ frame-then i ∷ [])
            ∙ sym (ap (frames_then history) (own-one script place x at n (ap (is_probe n) who ∙ is))
            ∙ map-append (λ (line : ScriptLine). frames_before line.number history) (probe_lines_of n (take place script.lines)) (x ∷ []))
        by n one got false is =
            let apart : n ≡ p → ⊥ = λ same. (let yes : (p == n) ≡ true = eq-eqb p n (sym same) in let both : true ≡ false = sym yes ∙ is in absurd (cc)) in
            was n one (sym (got-other answers p n (slice_index_or answers p [] ++ new ∷ []) apart) ∙ got)
            ∙ ap (frames_then history) (sym (own-same script place x at n (ap (is_probe n) who ∙ is)))

    unasked-turn : (answers : List (List ProbeAnswer)) → ((n : ℕ) → is_probe n x.actor ≡ false) → SeeInTurn (take place script.lines) history answers
        → SeeInTurn (take (place + 1) script.lines) history answers
    unasked-turn answers other was = λ n one got. was n one got ∙ ap (frames_then history) (sym (own-same script place x at n (other n)))

    pub turns-more : (answers new : List (List ProbeAnswer)) → length answers ≡ script.setup.probes
        → new ≡ answers_after there shown frame x.number (asked_of x.actor x.body) answers → SeeInTurn (take place script.lines) history answers
        → SeeInTurn (take (place + 1) script.lines) history new
    turns-more answers new many is was = by x.actor refl
      where
        P : List (List ProbeAnswer) → Type 0
        P = SeeInTurn (take (place + 1) script.lines) history

        after : Option (ℕ × ProbeLine) → List (List ProbeAnswer)
        after asked = answers_after there shown frame x.number asked answers

        by : (who : Actor) → x.actor ≡ who → P new
        by Display who = subst P (sym (is ∙ ap (λ (a : Actor). after (asked_of a x.body)) who)) (unasked-turn answers (λ n. ap (is_probe n) who) was)
        by (Session s) who = subst P (sym (is ∙ ap (λ (a : Actor). after (asked_of a x.body)) who)) (unasked-turn answers (λ n. ap (is_probe n) who) was)
        by (Probe p) who =
            let line : IsAsked script.setup p x.body = is_asked script.setup p x.body
            (ap (λ (a : Actor). is_played script.setup a x.body) (sym who) ∙ at.played) in
            let what : asked_of x.actor x.body ≡ Some (p, line.asked) = ap (λ (a : Actor). asked_of a x.body) who ∙ ap (asked_of (Probe p)) line.is in
            subst P (sym (is ∙ ap after what)) (asked-turn p line.asked answers who (let few = line.below in omega (arith, many, few)) was)

-- ---- behind all lines

flat-turns : (f : ScriptLine → ℕ) (own : ℕ → List ScriptLine) (k : ℕ) (answers : List (List ProbeAnswer))
    → ((n : ℕ) (one : List ProbeAnswer) → slice_get answers n ≡ Some one → map frame_seen one ≡ map f (own (k + n)))
    → frames_seen answers ≡ map f (flat_map own (range_with_len k (length answers)))
flat-turns f own k [] each = refl
flat-turns f own k (one ∷ later) each =
    (λ i. here i ++ flat-turns f own (k + 1) later rest i) ∙ sym (map-append f (own k) (flat_map own (range_with_len (k + 1) (length later))))
  where
    here : map frame_seen one ≡ map f (own k)
    here = each 0 one refl ∙ ap (λ m. map f (own m)) (let same : k + 0 ≡ k = omega arith in same)

    rest : (n : ℕ) (next : List ProbeAnswer) → slice_get later n ≡ Some next → map frame_seen next ≡ map f (own ((k + 1) + n))
    rest n next got = each (suc n) next got ∙ ap (λ m. map f (own m)) (let same : k + suc n ≡ (k + 1) + n = omega arith in same)

pub turns-all : (script : Script) (place : ℕ) (history : List Entry) (answers : List (List ProbeAnswer)) → place ≡ length script.lines
    → length answers ≡ script.setup.probes → SeeInTurn (take place script.lines) history answers
    → frames_seen answers ≡ seen_in_turn script history
turns-all script place history answers last many was =
    let all : take place script.lines ≡ script.lines = take_all place script.lines (omega (arith, last)) in
    flat-turns (λ line. frames_before line.number history) (λ n. probe_lines_of n script.lines) 0 answers
    (λ n one got. was n one got ∙ ap (λ (lines : List ScriptLine). frames_then history (probe_lines_of n lines)) all
    ∙ ap (λ m. frames_then history (probe_lines_of m script.lines)) (let same : n ≡ 0 + n = omega arith in same))
    ∙ ap (λ count. frames_then history (flat_map (λ n. probe_lines_of n script.lines) (range_with_len 0 count))) many

-- the Ends finish no frame
ends-same : (setup : Setup) (n : ℕ) (ends old : List Entry) → list_all (λ (entry : Entry). is_end entry.kind) ends ≡ true
    → frames_before n (ends ++ old) ≡ frames_before n old
ends-same setup n [] old all = refl
ends-same setup n (entry ∷ later) old all =
    same-before n (later ++ old) entry (ap (λ b. b && nat_lt entry.line n) (no-finish setup entry.kind (and-left (is_end entry.kind) _ all)))
    ∙ ends-same setup n later old (and-right (is_end entry.kind) _ all)

pub turns-ended : (script : Script) (old new : List Entry) (answers : List (List ProbeAnswer)) → GoesOnByEnds old new
    → frames_seen answers ≡ seen_in_turn script old → frames_seen answers ≡ seen_in_turn script new
turns-ended script old new answers on was = was ∙ each _ ∙ ap (λ h. seen_in_turn script h) (sym on.is)
  where
    each : (lines : List ScriptLine) → frames_then old lines ≡ frames_then (on.ends ++ old) lines
    each [] = refl
    each (line ∷ lines) = λ i. sym (ends-same script.setup line.number on.ends old on.are_ends) i ∷ each lines i
