-- A run that heeds what a text says of its probes, after a step more.
use Rattle.std.proofs.Common.{◌≡◌, ◌≢◌, inl, inr, ℕ, zero, suc, ◌+◌, ◌<◌, ◌≤◌, ◌^◌, ◌||◌, ◌==◌, nat_le, nat_lt, Bool, true, false, cond, List, [], ◌∷◌}
use Rattle.std.proofs.Common.{◌++◌, length, map, filter, take, drop, replicate, length-append, refl, sym, ap, ◌∙◌, subst, arith}
use Rattle.std.proofs.Common.{Some, slice_get, slice_index_or, true≢false}
use Rattle.std.specs.List.{flat_map, list_all, range_with_len}
use Rattle.std.proofs.lemmas.Bool.{eq-eqb, eqb-true}
use Rattle.std.proofs.lemmas.Bool.Decides.{nat_tests}
use Rattle.std.proofs.lemmas.List.{length-map, map-append, take-append-drop}
use Rattle.std.proofs.lemmas.List.Elements.{filter-append}
use Rattle.std.proofs.lemmas.Option.{slice_get-get_or}
use Rattle.flat_scene.specs.declared.journal.Entry.{Entry}
use Rattle.flat_scene.specs.declared.script.ProbeLine.{ProbeLine}
use Rattle.flat_scene.specs.declared.script.ScriptLine.{ScriptLine}
use Rattle.flat_scene.specs.declared.setup.Setup.{Setup}
use Rattle.flat_scene.specs.History.{◌▹◌, is_finish}
use Rattle.flat_rules.specs.Legal.{frames}
use Rattle.flat_topology.specs.Shown.{Shown}
use Rattle.flat_places.specs.declared.script.Script.{Script}
use Rattle.flat_report.specs.declared.probes.ProbeAnswer.{ProbeAnswer}
use Rattle.flat_report.specs.Probes.{frame_seen, frames_seen}
use Rattle.flat_report.specs.Report.{is_probe, probe_lines_of}
use Rattle.flat_report.proofs.lemmas.Reading.{Kept, read-kept}
use Rattle.flat_report.proofs.lemmas.SeenTold.{probe-lines-are}
use Rattle.flat_play.specs.Probing.{answer_of, with_answer}
use Rattle.flat_play.proofs.lemmas.Slots.{got-same}
use Rattle.flat_play.proofs.lemmas.Steps.{At}
use Rattle.flat_judge.specs.declared.following.ReplayProgress.{ReplayProgress}
use Rattle.flat_judge.specs.declared.guided_run.GuidedRun.{GuidedRun}
use Rattle.flat_judge.specs.Following.{IsPart, MakesNext, Stays}
use Rattle.flat_judge.specs.GuidedRuns.{RunStands, asked_here}
use Rattle.flat_judge.specs.Heeding.{AllHeed, CouldSee, HasSeen, Heeds, HeedsSo, SeenBehind, is_reached}
use Rattle.flat_judge.specs.Hints.{AreAsMany, AreHints, hints_of}
use Rattle.flat_judge.specs.Verdicts.{IsRead, Run, report_of}
use Rattle.flat_judge.proofs.ProbePlaces.{is-here}
use Rattle.flat_judge.proofs.HintsTold.{hints-are, share, share-seen, shares-all}
use Rattle.flat_judge.proofs.Seen.{reached-last, seen-answer, seen-before, seen-end, seen-first, seen-waits, seen-whole}

-- ---- one line of a probe

-- a line that is left
pub line-left : (script : Script) (place n : ℕ) (x : ScriptLine) → take (place + 1) script.lines ≡ take place script.lines ++ x ∷ [] → is_probe n x.actor ≡ true
    → length (probe_lines_of n (take place script.lines)) < length (probe_lines_of n script.lines)
line-left script place n x taken mine =
    let front : probe_lines_of n (take (place + 1) script.lines) ≡ probe_lines_of n (take place script.lines) ++ x ∷ [] =
    ap (probe_lines_of n) taken ∙ filter-append (λ (line : ScriptLine). is_probe n line.actor) (take place script.lines) (x ∷ [])
    ∙ ap (λ b. probe_lines_of n (take place script.lines) ++ cond b (x ∷ []) []) mine in
    let all : probe_lines_of n script.lines ≡ probe_lines_of n (take (place + 1) script.lines) ++ probe_lines_of n (drop (place + 1) script.lines) =
    ap (probe_lines_of n) (sym (take-append-drop (place + 1) script.lines))
    ∙ filter-append (λ (line : ScriptLine). is_probe n line.actor) (take (place + 1) script.lines) (drop (place + 1) script.lines) in
    let many : length (probe_lines_of n script.lines) ≡ length (probe_lines_of n (take (place + 1) script.lines)) + length
    (probe_lines_of n (drop (place + 1) script.lines)) =
    ap length all ∙ length-append (probe_lines_of n (take (place + 1) script.lines)) (probe_lines_of n (drop (place + 1) script.lines)) in
    let more : length (probe_lines_of n (take (place + 1) script.lines)) ≡ length (probe_lines_of n (take place script.lines)) + 1 =
    ap length front ∙ length-append (probe_lines_of n (take place script.lines)) (x ∷ []) in
    omega (arith, many, more)

-- it is answered
pub behind-answer : (script : Script) (last probe frame : ℕ) (named : List ℕ) (one : List ProbeAnswer) (answer : ProbeAnswer)
    (answers : List (List ProbeAnswer)) → CouldSee script last probe named → slice_get answers probe ≡ Some (one ++ answer ∷ [])
    → answer.frame.0 ≡ frame → length one < length (probe_lines_of probe script.lines) → is_reached (slice_get named (length one)) frame ≡ true
    → HasSeen frame named (map frame_seen one) → SeenBehind probe frame named answers true
behind-answer script last probe frame named one answer answers could at by_frame left reached has = λ two got.
    let both : Some two ≡ Some (one ++ answer ∷ []) = sym got ∙ at in
    let two_is : two ≡ one ++ answer ∷ [] = cc in
    let many : length (map frame_seen one) ≡ length one = length-map one frame_seen in
    let all = could.as_many in
    let saw : map frame_seen two ≡ map frame_seen one ++ frame ∷ [] =
    ap (map frame_seen) two_is ∙ map-append frame_seen one (answer ∷ []) ∙ ap (λ (n : ℕ). map frame_seen one ++ n ∷ []) by_frame in
    let H : List ℕ → Type 0 = HasSeen frame named in
    subst H (sym saw) (seen-answer frame named (map frame_seen one) (ap (λ (n : ℕ). is_reached (slice_get named n) frame) many ∙ reached)
    (omega (arith, many, all, left)) has)

-- it isn't the probe's
pub behind-same : (probe frame : ℕ) (named : List ℕ) (one : List ProbeAnswer) (answers : List (List ProbeAnswer)) → slice_get answers probe ≡ Some one
    → HasSeen frame named (map frame_seen one) → SeenBehind probe frame named answers true
behind-same probe frame named one answers at has = λ two got.
    let both : Some two ≡ Some one = sym got ∙ at in
    let two_is : two ≡ one = cc in
    let H : List ProbeAnswer → Type 0 = λ os. HasSeen frame named (map frame_seen os) in
    subst H (sym two_is) has

-- it waits
pub behind-waits : (script : Script) (last probe frame : ℕ) (named : List ℕ) (one : List ProbeAnswer) (answers : List (List ProbeAnswer))
    → CouldSee script last probe named → slice_get answers probe ≡ Some one
    → is_reached (slice_get named (length one)) frame ≡ false → HasSeen frame named (map frame_seen one) → SeenBehind probe frame named answers false
behind-waits script last probe frame named one answers could at waits has = λ two got.
    let both : Some two ≡ Some one = sym got ∙ at in
    let two_is : two ≡ one = cc in
    let many : length (map frame_seen one) ≡ length one = length-map one frame_seen in
    let H : List ProbeAnswer → Type 0 = λ os. HasSeen (suc frame) named (map frame_seen os) in
    subst H (sym two_is) (seen-waits frame named (map frame_seen one) could.rise (ap (λ (n : ℕ). is_reached (slice_get named n) frame) many ∙ waits) has)

with-got : (answers : List (List ProbeAnswer)) (probe : ℕ) (one : List ProbeAnswer) (answer : ProbeAnswer) → probe < length answers
    → slice_get answers probe ≡ Some one → slice_get (with_answer probe answer answers) probe ≡ Some (one ++ answer ∷ [])
with-got answers probe one answer below at =
    let both : Some (slice_index_or answers probe []) ≡ Some one = sym (slice_get-get_or answers probe [] below) ∙ at in
    let same : slice_index_or answers probe [] ≡ one = cc in
    got-same answers probe (slice_index_or answers probe [] ++ answer ∷ []) below ∙ (λ i. Some (same i ++ answer ∷ []))

-- the last frame answers a line of the probe that is due
pub line-answered : (script : Script) (guided : GuidedRun) (probe place : ℕ) → RunStands script guided → slice_get guided.places probe ≡ Some place
    → probe < length guided.answers.items → (x : ScriptLine) → At script place x → (asked : ProbeLine) → asked_here probe x.actor x.body ≡ Some asked
    → (there : Setup) (shown : Shown) (answers : List (List ProbeAnswer))
    → answers ≡ with_answer probe (answer_of there shown guided.screen.store.last.frame.0 x.actor x.number asked) guided.answers.items → (is_due : Bool)
    → is_due ≡ true
    → (last : ℕ) (named : List ℕ) (one : List ProbeAnswer) → CouldSee script last probe named → slice_get guided.answers.items probe ≡ Some one
    → is_due ≡ is_reached (slice_get named (length one)) (frames guided.screen.board.history)
    → HasSeen (frames guided.screen.board.history) named (map frame_seen one) → SeenBehind probe (frames guided.screen.board.history) named answers true
line-answered script guided probe place stands at_place below x at asked asks there shown answers answers_are is_due due last named one could got reached has =
    let answer : ProbeAnswer = answer_of there shown guided.screen.store.last.frame.0 x.actor x.number asked in
    let here = is-here probe x.actor x.body asked asks in
    let mine : is_probe probe x.actor ≡ true = ap (is_probe probe) here.who_is ∙ eq-eqb probe probe refl in
    let was = (stands.probes.each probe place one at_place got).1.as_many in
    let left = line-left script place probe x at.taken mine in
    behind-answer script last probe (frames guided.screen.board.history) named one answer answers could
    (ap (λ (os : List (List ProbeAnswer)). slice_get os probe) answers_are ∙ with-got guided.answers.items probe one answer below got)
    stands.screen.frames.stored.ends.number (omega (arith, was, left)) (sym reached ∙ due) has

-- ---- all lines of a probe that are due

-- whether a line is due is what the guide says, also where no frame comes any more
pub due-is : (script : Script) (last probe frame k : ℕ) (named : List ℕ) (is_last : Bool) → (is_last ≡ true → last ≡ frame) → CouldSee script last probe named
    → (is_last || is_reached (slice_get named k) frame) ≡ is_reached (slice_get named k) frame
due-is script last probe frame k named false end could = refl
due-is script last probe frame k named true end could =
    let W : ℕ → Type 0 = λ n. list_all (λ f. nat_le f n) named ≡ true in
    sym (reached-last frame named k (subst W (end refl) could.within))

record Found (answers : List (List ProbeAnswer)) (n : ℕ) : Type 0 where
  one : List ProbeAnswer
  at : slice_get answers n ≡ Some one

found : (answers : List (List ProbeAnswer)) (n : ℕ) → n < length answers → Found answers n
found answers n below = record { one = slice_index_or answers n []; at = slice_get-get_or answers n [] below }

pub heeds-goes : (script : Script) (hints : List (List ℕ)) (last probe frame : ℕ) (old new : List (List ProbeAnswer)) (is_due is_last on : Bool)
    → probe < length old → (is_last ≡ true → last ≡ frame)
    → ((named : List ℕ) (one : List ProbeAnswer) → slice_get hints probe ≡ Some named → slice_get old probe ≡ Some one
    → is_due ≡ (is_last || is_reached (slice_get named (length one)) frame))
    → ((last : ℕ) (named : List ℕ) (one : List ProbeAnswer) → CouldSee script last probe named → slice_get old probe ≡ Some one
    → is_due ≡ is_reached (slice_get named (length one)) frame → HasSeen frame named (map frame_seen one) → SeenBehind probe frame named new on)
    → Heeds script hints last frame probe old → Heeds script hints last (cond on frame (suc frame)) probe new
heeds-goes script hints last probe frame old new is_due is_last on below end due goes heeds = λ named two at could got.
    let was = found old probe below in
    goes last named was.one could was.at (due named was.one at was.at ∙ due-is script last probe frame (length was.one) named is_last end could)
    (heeds named was.one at could was.at) two got

pub step-heeds : (script : Script) (hints : List (List ℕ)) (guided : GuidedRun) (new : List (List ProbeAnswer)) (frame probe : ℕ) (is_last is_due on : Bool)
    → RunStands script guided → probe < length guided.answers.items → frames guided.screen.board.history ≡ frame
    → ((named : List ℕ) (one : List ProbeAnswer) → slice_get hints probe ≡ Some named → slice_get guided.answers.items probe ≡ Some one
    → is_due ≡ (is_last || is_reached (slice_get named (length one)) guided.screen.store.last.frame.0))
    → ((last : ℕ) (named : List ℕ) (one : List ProbeAnswer) → CouldSee script last probe named → slice_get guided.answers.items probe ≡ Some one
    → is_due ≡ is_reached (slice_get named (length one)) (frames guided.screen.board.history)
    → HasSeen (frames guided.screen.board.history) named (map frame_seen one) → SeenBehind probe (frames guided.screen.board.history) named new on)
    → (last : ℕ) → (is_last ≡ true → last ≡ frame) → Heeds script hints last frame probe guided.answers.items
    → Heeds script hints last (cond on frame (suc frame)) probe new
step-heeds script hints guided new frame probe is_last is_due on stands below same due goes last end heeds =
    let F : ℕ → Type 0 = λ f. Heeds script hints last f probe guided.answers.items in
    let G : ℕ → Type 0 = λ f. Heeds script hints last (cond on f (suc f)) probe new in
    subst G same
    (heeds-goes script hints last probe (frames guided.screen.board.history) guided.answers.items new is_due is_last on below (λ is. end is ∙ sym same)
    (λ named one at got. due named one at got ∙ ap (λ (n : ℕ). is_last || is_reached (slice_get named (length one)) n) stands.screen.frames.stored.ends.number)
    goes
    (subst F (sym same) heeds))

-- behind all lines
pub heeds-whole : (script : Script) (hints : List (List ℕ)) (last probe from to : ℕ) (answers : List (List ProbeAnswer))
    → ((one : List ProbeAnswer) → slice_get answers probe ≡ Some one → length one ≡ length (probe_lines_of probe script.lines))
    → Heeds script hints last from probe answers → Heeds script hints last to probe answers
heeds-whole script hints last probe from to answers whole heeds = λ named one at could got.
    let many : length (map frame_seen one) ≡ length one = length-map one frame_seen in
    let all = could.as_many in
    let lines = whole one got in
    seen-whole from to named (map frame_seen one) (omega (arith, many, all, lines)) (heeds named one at could got)

-- the answers of a probe that has passed all lines
pub whole-answers : (script : Script) (guided : GuidedRun) (probe place : ℕ) → RunStands script guided → slice_get guided.places probe ≡ Some place
    → length script.lines ≤ place → (one : List ProbeAnswer) → slice_get guided.answers.items probe ≡ Some one
    → length one ≡ length (probe_lines_of probe script.lines)
whole-answers script guided probe place stands at end one got =
    let was = stands.probes.each probe place one at got in
    was.1.as_many ∙ ap (λ (ls : List ScriptLine). length (probe_lines_of probe ls)) (all place script.lines end)
  where
    all : {A : Type 0} (n : ℕ) (xs : List A) → length xs ≤ n → take n xs ≡ xs
    all zero [] fits = refl
    all (suc n) [] fits = refl
    all zero (x ∷ xs) fits = absurd (omega (arith, fits))
    all (suc n) (x ∷ xs) fits = ap (λ ys. x ∷ ys) (all n xs (omega (arith, fits)))

-- ---- all probes

-- the first probes have been answered, the others not yet
abbrev pub HeedTo : Script → List (List ℕ) → ℕ → ℕ → ℕ → List (List ProbeAnswer) → Type 0
HeedTo script hints last frame probes answers = (n : ℕ) → Heeds script hints last (cond (nat_lt n probes) (suc frame) frame) n answers

pub heed-none : (script : Script) (hints : List (List ℕ)) (last frame : ℕ) (answers : List (List ProbeAnswer)) → AllHeed script hints last frame answers
    → HeedTo script hints last frame 0 answers
heed-none script hints last frame answers heeds = λ n.
    let H : ℕ → Type 0 = λ f. Heeds script hints last f n answers in
    let none : nat_lt n 0 ≡ false = grind (arith, nat_tests) in
    let from : frame ≡ cond (nat_lt n 0) (suc frame) frame = sym (ap (λ b. cond b (suc frame) frame) none) in
    subst H from (heeds n)

pub heed-more : (script : Script) (hints : List (List ℕ)) (last frame probe : ℕ) (old new : List (List ProbeAnswer))
    → ((n : ℕ) → n ≢ probe → slice_get new n ≡ slice_get old n)
    → (Heeds script hints last frame probe old → Heeds script hints last (suc frame) probe new) → HeedTo script hints last frame probe old
    → HeedTo script hints last frame (probe + 1) new
heed-more script hints last frame probe old new others goes heeds n = by (n == probe) refl
  where
    from : (t b : Bool) → t ≡ b → cond b (suc frame) frame ≡ cond t (suc frame) frame
    from t b is = ap (λ b. cond b (suc frame) frame) (sym is)

    by : (b : Bool) → (n == probe) ≡ b → Heeds script hints last (cond (nat_lt n (probe + 1)) (suc frame) frame) n new
    by true same =
        let here : n ≡ probe = eqb-true n probe same in
        let inside : nat_lt n (probe + 1) ≡ true = grind (arith, nat_tests) in
        let not_yet : nat_lt probe probe ≡ false = grind (arith, nat_tests) in
        let H : ℕ → Type 0 = λ f. Heeds script hints last f n new in
        let N : ℕ → Type 0 = λ k. Heeds script hints last (suc frame) k new in
        let O : ℕ → Type 0 = λ f. Heeds script hints last f probe old in
        subst H (from (nat_lt n (probe + 1)) true inside) (subst N (sym here) (goes (subst O (sym (from (nat_lt probe probe) false not_yet)) (heeds probe))))
    by false other =
        let apart : n ≢ probe = (λ same. let both : true ≡ false = sym (eq-eqb n probe same) ∙ other in absurd (cc)) in
        let tests : nat_lt n (probe + 1) ≡ nat_lt n probe = same-test (nat_lt n probe) refl apart in
        let H : ℕ → Type 0 = λ f. Heeds script hints last f n new in
        let still : Heeds script hints last (cond (nat_lt n probe) (suc frame) frame) n new =
        λ named one at could got. heeds n named one at could (sym (others n apart) ∙ got) in
        subst H (from (nat_lt n (probe + 1)) (nat_lt n probe) tests) still
      where
        same-test : (b : Bool) → nat_lt n probe ≡ b → n ≢ probe → nat_lt n (probe + 1) ≡ b
        same-test true below apart = grind (arith, nat_tests)
        same-test false over apart = let high : probe ≤ n = grind (arith, nat_tests) in let more : probe + 1 ≤ n =
            omega (arith, high, apart) in grind (arith, nat_tests)

pub heed-all : (script : Script) (hints : List (List ℕ)) (last frame probes : ℕ) (answers : List (List ProbeAnswer)) → length answers ≤ probes
    → HeedTo script hints last frame probes answers → AllHeed script hints last (suc frame) answers
heed-all script hints last frame probes answers few heeds = λ n named one at could got.
    let below = inside answers n one got in
    let yes_it : nat_lt n probes ≡ true = (let less : n < probes = omega (arith, below, few) in grind (arith, nat_tests)) in
    let H : ℕ → Type 0 = λ f. HasSeen f named (map frame_seen one) in
    subst H (ap (λ b. cond b (suc frame) frame) yes_it) (heeds n named one at could got)
  where
    inside : (answers : List (List ProbeAnswer)) (n : ℕ) (one : List ProbeAnswer) → slice_get answers n ≡ Some one → n < length answers
    inside [] n one at = absurd (cc)
    inside (x ∷ answers) zero one at = omega arith
    inside (x ∷ answers) (suc n) one at = let rest = inside answers n one at in omega (arith, rest)

-- ---- from entry to entry

pub heeds-before : (script : Script) (hints : List (List ℕ)) (last from to : ℕ) (answers : List (List ProbeAnswer)) → to ≤ from
    → AllHeed script hints last from answers → AllHeed script hints last to answers
heeds-before script hints last from to answers less heeds =
    λ n named one at could got. seen-before from to named (map frame_seen one) less (heeds n named one at could got)

pub heeds-first : (script : Script) (hints : List (List ℕ)) (last probes : ℕ) (answers : List (List ProbeAnswer)) → answers ≡ replicate probes []
    → AllHeed script hints last 0 answers
heeds-first script hints last probes answers none = λ n named one at could got.
    let empty : one ≡ [] = none-at probes n one (ap (λ (os : List (List ProbeAnswer)). slice_get os n) (sym none) ∙ got) in
    let H : List ProbeAnswer → Type 0 = λ os. HasSeen 0 named (map frame_seen os) in
    subst H (sym empty) (seen-first named)
  where
    none-at : (n k : ℕ) (one : List ProbeAnswer) → slice_get (replicate n []) k ≡ Some one → one ≡ []
    none-at zero k one at = absurd (cc)
    none-at (suc n) zero one at = cc
    none-at (suc n) (suc k) one at = none-at n k one at

frames-one : (history : List Entry) (entry : Entry) → frames (history ▹ entry) ≤ suc (frames history)
frames-one history entry = by (is_finish entry.kind)
  where
    by : (b : Bool) → length (cond b (entry ∷ filter (λ (one : Entry). is_finish one.kind) history) (filter (λ (one : Entry). is_finish one.kind) history)) ≤
        suc (length (filter (λ (one : Entry). is_finish one.kind) history))
    by true = omega arith
    by false = omega arith

module _ (script : Script) (text : List ℕ) (hints : List (List ℕ)) (last : ℕ) where
  -- no entry comes next
  pub turn-none : (old new : GuidedRun) (along : ReplayProgress) (made : Bool) → made ≡ false
      → MakesNext script text old.screen.board.history new.screen.board.history along made → new.answers.items ≡ old.answers.items
      → AllHeed script hints last (suc (frames old.screen.board.history)) old.answers.items → HeedsSo script text hints last new
  turn-none old new along false is (MakesNext.stops same only) answers heeds =
      let A : List (List ProbeAnswer) → Type 0 = AllHeed script hints last (suc (frames old.screen.board.history)) in
      let F : List Entry → Type 0 = λ h. AllHeed script hints last (suc (frames h)) new.answers.items in
      inr (subst F (sym same) (subst A (sym answers) heeds))
  turn-none old new along true is (MakesNext.makes entry grown part) answers heeds = absurd (true≢false is)

  -- the text parts from the run
  pub turn-parted : (old after : List Entry) (was now : ReplayProgress) (made b : Bool) (new : GuidedRun) (So : List Entry → Entry → ReplayProgress → Type 0)
      (from : ℕ)
      → made ≡ true → b ≡ false → MakesNext script text old after was made
      → ((before : List Entry) (entry : Entry) → after ≡ (before ▹ entry) → IsPart script text before entry [] (frames before) was
      → Stays script text (frames (before ▹ entry)) from (So before entry) now b) → HeedsSo script text hints last new
  turn-parted old after was now true false new So from made is (MakesNext.makes entry grown part) tells = by (tells old entry grown part)
    where
      by : Stays script text (frames (old ▹ entry)) from (So old entry) now false → HeedsSo script text hints last new
      by (Stays.parts none losses) = inl none
  turn-parted old after was now true true new So from made is goes tells = absurd (true≢false is)
  turn-parted old after was now false b new So from made is goes tells = absurd (true≢false (sym made))

  -- an entry whose lines the text has
  pub turn-heeds : (old after : List Entry) (along : ReplayProgress) (made : Bool) (answers : List (List ProbeAnswer)) → made ≡ true
      → MakesNext script text old after along made → AllHeed script hints last (suc (frames old)) answers → AllHeed script hints last (frames after) answers
  turn-heeds old after along true answers made (MakesNext.makes entry grown part) heeds =
      let less = frames-one old entry in
      let same : frames after ≡ frames (old ▹ entry) = ap frames grown in
      heeds-before script hints last (suc (frames old)) (frames after) answers (omega (arith, less, same)) heeds
  turn-heeds old after along false answers made goes heeds = absurd (true≢false (sym made))

  -- turn after turn
  pub heeds-on : (old new : GuidedRun) → HeedsSo script text hints last old
      → (AllHeed script hints last (suc (frames old.screen.board.history)) old.answers.items → HeedsSo script text hints last new)
      → HeedsSo script text hints last new
  heeds-on old new (inl none) goes = inl none
  heeds-on old new (inr heeds) goes = goes heeds

-- ---- a whole run

agree : (f : ℕ → List ℕ) (k : ℕ) (answers : List (List ProbeAnswer))
    → ((n : ℕ) (one : List ProbeAnswer) → slice_get answers n ≡ Some one → map frame_seen one ≡ f (k + n))
    → frames_seen answers ≡ flat_map f (range_with_len k (length answers))
agree f k [] each = refl
agree f k (one ∷ answers) each =
    let here : map frame_seen one ≡ f k = each 0 one refl ∙ ap f (let same : k + 0 ≡ k = omega arith in same) in
    let later = agree f (k + 1) answers (λ n two at. each (suc n) two at ∙ ap f (let same : k + suc n ≡ k + 1 + n = omega arith in same)) in
    λ i. here i ++ later i

record FoundHints (hints : List (List ℕ)) (n : ℕ) : Type 0 where
  one : List ℕ
  at : slice_get hints n ≡ Some one

found-hints : (hints : List (List ℕ)) (n : ℕ) → n < length hints → FoundHints hints n
found-hints hints n below = record { one = slice_index_or hints n []; at = slice_get-get_or hints n [] below }

inside-of : (answers : List (List ProbeAnswer)) (n : ℕ) (one : List ProbeAnswer) → slice_get answers n ≡ Some one → n < length answers
inside-of [] n one at = absurd (cc)
inside-of (x ∷ answers) zero one at = omega arith
inside-of (x ∷ answers) (suc n) one at = let rest = inside-of answers n one at in omega (arith, rest)

pub fewer : (n : ℕ) → n + 1 < 2 ^ 32 → n < 2 ^ 32
fewer n few = omega (arith, few)

-- a run that heeded a report to its end saw what that report tells
pub saw-all : (script : Script) (text : List ℕ) (hints : List (List ℕ)) (answers : List (List ProbeAnswer)) → AreHints script text hints
    → length answers ≡ script.setup.probes → IsRead script → (run : Run script) → text ≡ report_of script run
    → frames run.history < 2 ^ 32 → AllHeed script hints (frames run.history) (suc (frames run.history)) answers → run.seen ≡ frames_seen answers
saw-all script text hints answers are many read run is few heeds =
    let kept : Kept (2 ^ 32) script = read-kept read.0 script read.1 in
    let probes = probe-lines-are script kept.spoken in
    let seeing = run.is.seeing in
    let told : (n : ℕ) → hints_of script text n ≡ share script kept.named run.seen n =
    λ n. ap (λ (t : List ℕ). hints_of script t n) is ∙ hints-are script kept.named run.history run.lost run.seen n probes seeing few in
    let all : AreAsMany script (hints_of script text) = λ n below. ap length (told n)
    ∙ (share-seen script kept.named run.history run.seen n seeing below).as_many in
    let each : (n : ℕ) (one : List ProbeAnswer) → slice_get answers n ≡ Some one → map frame_seen one ≡ share script kept.named run.seen (0 + n) =
    (λ n one got.
    (let below = inside-of answers n one got in
    let hint = found-hints hints n (let count = are.count in omega (arith, below, many, count)) in
    let hint_is : hint.one ≡ share script kept.named run.seen n = are.each all n hint.one hint.at ∙ told n in
    let C : List ℕ → Type 0 = CouldSee script (frames run.history) n in
    let could = subst C (sym hint_is) (share-seen script kept.named run.history run.seen n seeing (omega (arith, below, many))) in
    sym (seen-end (frames run.history) hint.one (map frame_seen one) could.within (heeds n hint.one one hint.at could got)) ∙ hint_is
    ∙ ap (share script kept.named run.seen) (let same : n ≡ 0 + n = omega arith in same))) in
    sym (shares-all script kept.named run.history run.seen seeing) ∙ ap (λ (k : ℕ). flat_map (share script kept.named run.seen) (range_with_len 0 k)) (sym many)
    ∙ sym (agree (share script kept.named run.seen) 0 answers each)
