-- What the answers to probes say in the report.
use Rattle.std.proofs.Common.{◌≡◌, ◌≤◌, ℕ, zero, suc, ◌+◌, ◌==◌, ◌||◌, not, nat_le, Bool, true, false, cond, List, [], ◌∷◌, ◌++◌, length, map, Some, slice_get}
use Rattle.std.proofs.Common.{refl, sym, ap, ◌∙◌, subst, arith, length-append}
use Rattle.std.specs.List.{flat_map, list_all, zip, range_with_len}
use Rattle.std.proofs.lemmas.Bool.{and_parts}
use Rattle.std.proofs.lemmas.Bool.Decides.{nat_tests}
use Rattle.std.proofs.lemmas.List.{length-map, map-append}
use Rattle.std.proofs.lemmas.List.Folds.{list_all-append}
use Rattle.flat_base.specs.declared.ids.Actor.{Actor}
use Rattle.flat_base.specs.declared.ids.Actor.TheVariants.{Display, Session, Probe}
use Rattle.flat_scene.specs.declared.journal.Entry.{Entry}
use Rattle.flat_scene.specs.declared.script.LineBody.{LineBody}
use Rattle.flat_scene.specs.declared.script.LineBody.TheVariants as body
use Rattle.flat_scene.specs.declared.script.ProbeLine.TheVariants as probe
use Rattle.flat_scene.specs.declared.script.ScriptLine.{ScriptLine}
use Rattle.flat_rules.specs.Legal.{frames}
use Rattle.flat_places.specs.declared.script.Script.{Script}
use Rattle.flat_page.specs.Words.{number, text_of, actor_name}
use Rattle.flat_report.specs.declared.probes.ProbeAnswer.{ProbeAnswer}
use Rattle.flat_report.specs.Handed.{answer_line, answers_text, probe_words}
use Rattle.flat_report.specs.Laws.{FramesAreSeen}
use Rattle.flat_report.specs.Probes.{AreAnsweredBy, ProbesAnswered, ProbesAsk, answer_by, asked_by, asked_hits, frame_seen, frames_seen, hits_in_frame}
use Rattle.flat_report.specs.Probes.{is_asking, never_fall_from}
use Rattle.flat_report.specs.Report.{is_probe, never_falls, probe_lines, probe_lines_of, same_probe, seen_line, seen_words}
use Rattle.flat_report.proofs.lemmas.Tails.{text-append}

-- ---- a list beside another

none-many : (n : ℕ) → 0 ≡ suc n → ⊥
none-many n is = cc

one-less : (m n : ℕ) → suc m ≡ suc n → m ≡ n
one-less m n is = cc

pub zip-append : {A B : Type 0} (xs : List A) (ys : List B) (more : List A) (others : List B) → length ys ≡ length xs
    → zip (xs ++ more) (ys ++ others) ≡ zip xs ys ++ zip more others
zip-append [] [] more others long = refl
zip-append [] (y ∷ ys) more others long = absurd (none-many (length ys) (sym long))
zip-append (x ∷ xs) [] more others long = absurd (none-many (length xs) long)
zip-append (x ∷ xs) (y ∷ ys) more others long = ap (λ t. (x, y) ∷ t) (zip-append xs ys more others (one-less (length ys) (length xs) long))

firsts-pass : {A B : Type 0} (test : A → Bool) (xs : List A) (ys : List B) → list_all test xs ≡ true → list_all (λ (p : A × B). test p.0) (zip xs ys) ≡ true
firsts-pass test [] ys pass = refl
firsts-pass test (x ∷ xs) [] pass = refl
firsts-pass test (x ∷ xs) (y ∷ ys) pass = let parts = and_parts (test x) (list_all test xs) pass in rw (parts.0) (firsts-pass test xs ys parts.1)

-- ---- the lines of one probe

own-lines : (n : ℕ) (lines : List ScriptLine) → list_all (λ (line : ScriptLine). is_probe n line.actor) (probe_lines_of n lines) ≡ true
own-lines n [] = refl
own-lines n (line ∷ lines) = by_test (is_probe n line.actor) refl (own-lines n lines)
  where
    by_test : (b : Bool) → is_probe n line.actor ≡ b → list_all (λ (line : ScriptLine). is_probe n line.actor) (probe_lines_of n lines) ≡ true
        → list_all (λ (line : ScriptLine). is_probe n line.actor) (cond b (line ∷ probe_lines_of n lines) (probe_lines_of n lines)) ≡ true
    by_test true is later = rw is later
    by_test false is later = later

-- whether a line says what a probe says
abbrev asks : LineBody → Bool
asks (body.Probe asked) = true
asks _ = false

asking-lines : (n : ℕ) (lines : List ScriptLine) → list_all (λ (line : ScriptLine). is_asking line.actor line.body) lines ≡ true
    → list_all (λ (line : ScriptLine). asks line.body) (probe_lines_of n lines) ≡ true
asking-lines n [] ask = refl
asking-lines n (line ∷ lines) ask =
    let parts = and_parts (is_asking line.actor line.body) (list_all (λ (line : ScriptLine). is_asking line.actor line.body) lines) ask in
    by_test (is_probe n line.actor) refl parts.0 (asking-lines n lines parts.1)
  where
    of_it : (actor : Actor) (text : LineBody) → is_probe n actor ≡ true → is_asking actor text ≡ true → asks text ≡ true
    of_it (Probe p) (body.Probe asked) is ask = refl
    of_it (Probe p) (body.Session said) is ask = absurd (let e : false ≡ true = ask in cc)
    of_it (Probe p) (body.Display said) is ask = absurd (let e : false ≡ true = ask in cc)
    of_it Display text is ask = absurd (let e : false ≡ true = is in cc)
    of_it (Session s) text is ask = absurd (let e : false ≡ true = is in cc)

    by_test : (b : Bool) → is_probe n line.actor ≡ b → is_asking line.actor line.body ≡ true
        → list_all (λ (line : ScriptLine). asks line.body) (probe_lines_of n lines) ≡ true
        → list_all (λ (line : ScriptLine). asks line.body) (cond b (line ∷ probe_lines_of n lines) (probe_lines_of n lines)) ≡ true
    by_test true is ask later = let here : asks line.body ≡ true = of_it line.actor line.body is ask in rw here later
    by_test false is ask later = later

-- none of them is of an earlier probe
other-lines : (n k : ℕ) (lines : List ScriptLine) → suc n ≤ k → list_all (λ (line : ScriptLine). not (is_probe n line.actor)) (probe_lines_of k lines) ≡ true
other-lines n k [] less = refl
other-lines n k (line ∷ lines) less = by_test (is_probe k line.actor) refl (other-lines n k lines less)
  where
    of_it : (actor : Actor) → is_probe k actor ≡ true → not (is_probe n actor) ≡ true
    of_it (Probe p) is = let other : (p == n) ≡ false = grind (arith, nat_tests) in rw other refl
    of_it Display is = refl
    of_it (Session s) is = refl

    by_test : (b : Bool) → is_probe k line.actor ≡ b → list_all (λ (line : ScriptLine). not (is_probe n line.actor)) (probe_lines_of k lines) ≡ true
        → list_all (λ (line : ScriptLine). not (is_probe n line.actor)) (cond b (line ∷ probe_lines_of k lines) (probe_lines_of k lines)) ≡ true
    by_test true is later = let here : not (is_probe n line.actor) ≡ true = of_it line.actor is in rw here later
    by_test false is later = later

-- ---- the frames that lines saw never fall

or-right : (b c : Bool) → c ≡ true → (b || c) ≡ true
or-right true c is = refl
or-right false c is = is

stay-above : (m n : ℕ) (seen : List ℕ) → m ≤ n → never_fall_from n seen ≡ true → list_all (nat_le m) seen ≡ true
stay-above m n [] less rise = refl
stay-above m n (frame ∷ later) less rise =
    let parts = and_parts (nat_le n frame) (never_fall_from frame later) rise in
    let first = parts.0 in
    let below : m ≤ frame = grind (arith, nat_tests) in
    let here : nat_le m frame ≡ true = grind (arith, nat_tests) in
    rw here (stay-above m frame later below parts.1)

later-pass : (actor : Actor) (frame : ℕ) (lines : List ScriptLine) (seen : List ℕ) → list_all (nat_le frame) seen ≡ true
    → list_all (λ (next : ScriptLine × ℕ). not (same_probe actor next.0.actor) || nat_le frame next.1) (zip lines seen) ≡ true
later-pass actor frame [] seen pass = refl
later-pass actor frame (line ∷ lines) [] pass = refl
later-pass actor frame (line ∷ lines) (next ∷ seen) pass =
    let parts = and_parts (nat_le frame next) (list_all (nat_le frame) seen) pass in
    let here = or-right (not (same_probe actor line.actor)) (nat_le frame next) parts.0 in
    rw here (later-pass actor frame lines seen parts.1)

one-falls : (n : ℕ) (lines : List ScriptLine) (seen : List ℕ) → never_fall_from n seen ≡ true → never_falls (zip lines seen) ≡ true
one-falls n [] seen rise = refl
one-falls n (line ∷ lines) [] rise = refl
one-falls n (line ∷ lines) (frame ∷ seen) rise =
    let parts = and_parts (nat_le n frame) (never_fall_from frame seen) rise in
    let here = later-pass line.actor frame lines seen (stay-above frame frame seen (omega arith) parts.1) in
    rw here (one-falls frame lines seen parts.1)

apart : (n : ℕ) (a b : Actor) (c : Bool) → is_probe n a ≡ true → not (is_probe n b) ≡ true → (not (same_probe a b) || c) ≡ true
apart n (Probe p) (Probe q) c is other = let differ : (p == q) ≡ false = grind (arith, nat_tests) in rw differ refl
apart n (Probe p) Display c is other = refl
apart n (Probe p) (Session s) c is other = refl
apart n Display b c is other = absurd (let e : false ≡ true = is in cc)
apart n (Session s) b c is other = absurd (let e : false ≡ true = is in cc)

others-pass : (n : ℕ) (actor : Actor) (frame : ℕ) (others : List (ScriptLine × ℕ)) → is_probe n actor ≡ true
    → list_all (λ (p : ScriptLine × ℕ). not (is_probe n p.0.actor)) others ≡ true
    → list_all (λ (next : ScriptLine × ℕ). not (same_probe actor next.0.actor) || nat_le frame next.1) others ≡ true
others-pass n actor frame [] is pass = refl
others-pass n actor frame (next ∷ others) is pass =
    let parts = and_parts (not (is_probe n next.0.actor)) (list_all (λ (p : ScriptLine × ℕ). not (is_probe n p.0.actor)) others) pass in
    let here = apart n actor next.0.actor (nat_le frame next.1) is parts.0 in
    rw here (others-pass n actor frame others is parts.1)

-- those of a probe and those of others
both-fall : (n : ℕ) (mine others : List (ScriptLine × ℕ)) → list_all (λ (p : ScriptLine × ℕ). is_probe n p.0.actor) mine ≡ true
    → list_all (λ (p : ScriptLine × ℕ). not (is_probe n p.0.actor)) others ≡ true
    → never_falls mine ≡ true → never_falls others ≡ true → never_falls (mine ++ others) ≡ true
both-fall n [] others are not_are fall fall_too = fall_too
both-fall n ((line, frame) ∷ mine) others are not_are fall fall_too =
    let is = and_parts (is_probe n line.actor) (list_all (λ (p : ScriptLine × ℕ). is_probe n p.0.actor) mine) are in
    let test : ScriptLine × ℕ → Bool = λ next. not (same_probe line.actor next.0.actor) || nat_le frame next.1 in
    let parts = and_parts (list_all test mine) (never_falls mine) fall in
    let pass : list_all test (mine ++ others) ≡ true = list_all-append test mine others
    ∙ (let first = parts.0 in let second = others-pass n line.actor frame others is.0 not_are in rw (first, second) refl) in
    rw pass (both-fall n mine others is.1 not_are parts.1 fall_too)

-- ---- what is said of a line

module _ (script : Script) (history : List Entry) where
  words-said : (frame : ℕ) (text : LineBody) → asks text ≡ true
      → probe_words script (asked_by text) frame (asked_hits (hits_in_frame script.setup history frame) (asked_by text)) ≡ seen_words script history frame text
  words-said frame (body.Probe (probe.Hit x y)) ask = refl
  words-said frame (body.Probe (probe.Await n)) ask = refl
  words-said frame (body.Session said) ask = absurd (let e : false ≡ true = ask in cc)
  words-said frame (body.Display said) ask = absurd (let e : false ≡ true = ask in cc)

  lines-said : (lines : List ScriptLine) (seen : List ℕ) → list_all (λ (line : ScriptLine). asks line.body) lines ≡ true
      → map (answer_line script) (map (answer_by (hits_in_frame script.setup history)) (zip lines seen)) ≡ map (seen_line script history) (zip lines seen)
  lines-said [] seen ask = refl
  lines-said (line ∷ lines) [] ask = refl
  lines-said (line ∷ lines) (frame ∷ seen) ask =
      let parts = and_parts (asks line.body) (list_all (λ (line : ScriptLine). asks line.body) lines) ask in
      let here : answer_line script (answer_by (hits_in_frame script.setup history) (line, frame)) ≡ seen_line script history (line, frame) =
      ap (λ ws. actor_name script line.actor ∷ number line.number ∷ ws) (words-said frame line.body parts.0) in
      ap (λ l. l ∷ map (answer_line script) (map (answer_by (hits_in_frame script.setup history)) (zip lines seen))) here
      ∙ ap (λ ls. seen_line script history (line, frame) ∷ ls) (lines-said lines seen parts.1)

  -- ---- all probes, from one of a number on

  abbrev lines_from : ℕ → ℕ → List ScriptLine
  lines_from n count = flat_map (λ k. probe_lines_of k script.lines) (range_with_len n count)

  abbrev AnsweredFrom : ℕ → List (List ProbeAnswer) → Type 0
  AnsweredFrom n probes = (k : ℕ) (one : List ProbeAnswer) → slice_get probes k ≡ Some one
      → AreAnsweredBy (hits_in_frame script.setup history) (frames history) (probe_lines_of (n + k) script.lines) one

  this-one : (n : ℕ) (one : List ProbeAnswer) (probes : List (List ProbeAnswer)) → AnsweredFrom n (one ∷ probes)
      → AreAnsweredBy (hits_in_frame script.setup history) (frames history) (probe_lines_of n script.lines) one
  this-one n one probes answered =
      let P : ℕ → Type 0 = λ m. AreAnsweredBy (hits_in_frame script.setup history) (frames history) (probe_lines_of m script.lines) one in
      let same : n + 0 ≡ n = omega arith in subst P same (answered 0 one refl)

  later-ones : (n : ℕ) (one : List ProbeAnswer) (probes : List (List ProbeAnswer)) → AnsweredFrom n (one ∷ probes) → AnsweredFrom (n + 1) probes
  later-ones n one probes answered = λ k other is.
      let P : ℕ → Type 0 = λ m. AreAnsweredBy (hits_in_frame script.setup history) (frames history) (probe_lines_of m script.lines) other in
      let same : n + suc k ≡ n + 1 + k = omega arith in subst P same (answered (suc k) other is)

  many-one : (n : ℕ) (one : List ProbeAnswer) (probes : List (List ProbeAnswer)) → AnsweredFrom n (one ∷ probes)
      → length (map frame_seen one) ≡ length (probe_lines_of n script.lines)
  many-one n one probes answered = length-map one frame_seen ∙ (this-one n one probes answered).as_many

  many-all : (n : ℕ) (probes : List (List ProbeAnswer)) → AnsweredFrom n probes → length (frames_seen probes) ≡ length (lines_from n (length probes))
  many-all n [] answered = refl
  many-all n (one ∷ probes) answered =
      let here = many-one n one probes answered in
      let later = many-all (n + 1) probes (later-ones n one probes answered) in
      let a = length-append (map frame_seen one) (frames_seen probes) in
      let b = length-append (probe_lines_of n script.lines) (lines_from (n + 1) (length probes)) in
      omega (arith, here, later, a, b)

  within-all : (n : ℕ) (probes : List (List ProbeAnswer)) → AnsweredFrom n probes
      → list_all (λ frame. nat_le frame (frames history)) (frames_seen probes) ≡ true
  within-all n [] answered = refl
  within-all n (one ∷ probes) answered =
      let here = (this-one n one probes answered).within in
      let later = within-all (n + 1) probes (later-ones n one probes answered) in
      list_all-append (λ frame. nat_le frame (frames history)) (map frame_seen one) (frames_seen probes) ∙ rw (here, later) refl

  others-from : (n k count : ℕ) → suc n ≤ k → list_all (λ (line : ScriptLine). not (is_probe n line.actor)) (lines_from k count) ≡ true
  others-from n k zero less = refl
  others-from n k (suc count) less =
      let test : ScriptLine → Bool = λ line. not (is_probe n line.actor) in
      let here = other-lines n k script.lines less in
      let later = others-from n (k + 1) count (omega arith) in
      list_all-append test (probe_lines_of k script.lines) (lines_from (k + 1) count) ∙ rw (here, later) refl

  split : (n : ℕ) (one : List ProbeAnswer) (probes : List (List ProbeAnswer)) → AnsweredFrom n (one ∷ probes)
      → zip (lines_from n (suc (length probes))) (frames_seen (one ∷ probes)) ≡ zip (probe_lines_of n script.lines) (map frame_seen one)
      ++ zip (lines_from (n + 1) (length probes)) (frames_seen probes)
  split n one probes answered =
      zip-append (probe_lines_of n script.lines) (map frame_seen one) (lines_from (n + 1) (length probes)) (frames_seen probes) (many-one n one probes answered)

  fall-all : (n : ℕ) (probes : List (List ProbeAnswer)) → AnsweredFrom n probes → never_falls (zip (lines_from n (length probes)) (frames_seen probes)) ≡ true
  fall-all n [] answered = refl
  fall-all n (one ∷ probes) answered =
      let own : List ScriptLine = probe_lines_of n script.lines in
      let rest : List ScriptLine = lines_from (n + 1) (length probes) in
      ap never_falls (split n one probes answered)
      ∙ both-fall n (zip own (map frame_seen one)) (zip rest (frames_seen probes))
      (firsts-pass (λ (line : ScriptLine). is_probe n line.actor) own (map frame_seen one) (own-lines n script.lines))
      (firsts-pass (λ (line : ScriptLine). not (is_probe n line.actor)) rest (frames_seen probes) (others-from n (n + 1) (length probes) (omega arith)))
      (one-falls 0 own (map frame_seen one) (this-one n one probes answered).rise)
      (fall-all (n + 1) probes (later-ones n one probes answered))

  text-all : (n : ℕ) (probes : List (List ProbeAnswer)) → AnsweredFrom n probes → ProbesAsk script
      → text_of (map (seen_line script history) (zip (lines_from n (length probes)) (frames_seen probes))) ≡ answers_text script probes
  text-all n [] answered ask = refl
  text-all n (one ∷ probes) answered ask =
      let own : List ScriptLine = probe_lines_of n script.lines in
      let mine : List (ScriptLine × ℕ) = zip own (map frame_seen one) in
      let others : List (ScriptLine × ℕ) = zip (lines_from (n + 1) (length probes)) (frames_seen probes) in
      let said : map (seen_line script history) mine ≡ map (answer_line script) one =
      sym (ap (map (answer_line script)) (this-one n one probes answered).are ∙ lines-said own (map frame_seen one) (asking-lines n script.lines ask)) in
      ap (λ ps. text_of (map (seen_line script history) ps)) (split n one probes answered)
      ∙ ap text_of (map-append (seen_line script history) mine others)
      ∙ text-append (map (seen_line script history) mine) (map (seen_line script history) others)
      ∙ ap (λ ls. text_of ls ++ text_of (map (seen_line script history) others)) said
      ∙ ap (λ t. text_of (map (answer_line script) one) ++ t) (text-all (n + 1) probes (later-ones n one probes answered) ask)

  module _ (probes : List (List ProbeAnswer)) (answered : ProbesAnswered script history probes) where
    all-lines : lines_from 0 (length probes) ≡ probe_lines script
    all-lines = ap (λ n. lines_from 0 n) answered.count

    from-first : AnsweredFrom 0 probes
    from-first = λ k one is.
        let P : ℕ → Type 0 = λ m. AreAnsweredBy (hits_in_frame script.setup history) (frames history) (probe_lines_of m script.lines) one in
        let same : k ≡ 0 + k = omega arith in subst P same (answered.each k one is)

    -- the text of the answers is that of the probes' lines by the frames that they saw
    pub probes-text : ProbesAsk script → text_of (map (seen_line script history) (zip (probe_lines script) (frames_seen probes))) ≡ answers_text script probes
    probes-text ask = ap (λ ls. text_of (map (seen_line script history) (zip ls (frames_seen probes)))) (sym all-lines) ∙ text-all 0 probes from-first ask

    pub seen-many : length (frames_seen probes) ≡ length (probe_lines script)
    seen-many = many-all 0 probes from-first ∙ ap length all-lines

    pub seen-within : list_all (λ frame. nat_le frame (frames history)) (frames_seen probes) ≡ true
    seen-within = within-all 0 probes from-first

    pub seen-fall : never_falls (zip (probe_lines script) (frames_seen probes)) ≡ true
    seen-fall = ap (λ ls. never_falls (zip ls (frames_seen probes))) (sym all-lines) ∙ fall-all 0 probes from-first

same-number : (m n : ℕ) → m ≡ n → (m == n) ≡ true
same-number m n is = grind (arith, nat_tests)

pub frames-are-seen : FramesAreSeen
frames-are-seen script history probes answered =
    let many = same-number (length (frames_seen probes)) (length (probe_lines script)) (seen-many script history probes answered) in
    let within = seen-within script history probes answered in
    let fall = seen-fall script history probes answered in
    rw (many, within, fall) refl
