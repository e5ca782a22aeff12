-- The frames that probes saw are told by the lines of the probes.
use Rattle.std.proofs.Common.{◌≡◌, ℕ, zero, suc, ◌+◌, ◌<◌, ◌≤◌, ◌^◌, ◌&&◌, nat_lt, nat_le, Bool, true, false, cond, List, [], ◌∷◌, length, map, codes, refl}
use Rattle.std.proofs.Common.{sym, ap, ◌∙◌, arith}
use Rattle.std.specs.List.{list_all, flat_map, zip, range_with_len}
use Rattle.std.specs.Fmt.{signed_decimal}
use Rattle.std.proofs.lemmas.Bool.Decides.{nat_tests}
use Rattle.std.proofs.lemmas.Fmt.{decimal_injective}
use Rattle.std.proofs.lemmas.List.{append_cancel_left}
use Rattle.std.proofs.lemmas.List.Folds.{list_all-append}
use Rattle.flat_base.specs.declared.ids.Actor.{Actor}
use Rattle.flat_base.specs.declared.ids.Actor.TheVariants.{Display, Session, Probe}
use Rattle.flat_scene.specs.declared.journal.Entry.{Entry}
use Rattle.flat_scene.specs.declared.script.LineBody.{LineBody}
use Rattle.flat_scene.specs.declared.script.LineBody.TheVariants as body
use Rattle.flat_scene.specs.declared.script.ProbeLine.TheVariants as probe
use Rattle.flat_scene.specs.declared.script.ScriptLine.{ScriptLine}
use Rattle.flat_places.specs.declared.script.Script.{Script}
use Rattle.flat_lines.specs.EntryLines.{hit_words, said_words}
use Rattle.flat_report.specs.Report.{begin_of, hits_at, is_probe, probe_lines_of, probe_lines, seen_words, seen_line}
use Rattle.flat_page.specs.Words.{number, name_at, actor_name}
use Rattle.flat_places.specs.Forms.{Word}
use Rattle.flat_report.specs.Probes.{is_asking}
use Rattle.flat_report.proofs.lemmas.Named.{IsNamed, name-word, not-display, no-probe-name, actor-word}
use Rattle.flat_report.proofs.lemmas.Openings.{NoEntry, NoLoss, lost_words}
use Rattle.flat_report.proofs.lemmas.Sheets.{behind-words, laid, line_on, sheet, told, told-next, laid-same, number-word}
use Rattle.std.proofs.lemmas.Bool.{and_parts}

-- ---- the lines of probes

-- a line of a probe below a number, which says what a probe says
abbrev pub is_of_probe : ℕ → ScriptLine → Bool
is_of_probe most line = probe_below most line.actor && is_asking line.actor line.body
  where
    probe_below : ℕ → Actor → Bool
    probe_below most (Probe p) = nat_lt p most
    probe_below most _ = false

of-one : (most n : ℕ) (lines : List ScriptLine) → n < most → list_all (λ (line : ScriptLine). is_asking line.actor line.body) lines ≡ true
    → list_all (is_of_probe most) (probe_lines_of n lines) ≡ true
of-one most n [] below spoken = refl
of-one most n (line ∷ lines) below spoken =
    let parts = and_parts (is_asking line.actor line.body) (list_all (λ (line : ScriptLine). is_asking line.actor line.body) lines) spoken in
    by_test (is_probe n line.actor) refl parts.0 (of-one most n lines below parts.1)
  where
    of_it : (actor : Actor) (text : LineBody) (number : ℕ) → is_probe n actor ≡ true → is_asking actor text ≡ true
        → is_of_probe most (record { number = number; actor = actor; body = text }) ≡ true
    of_it (Probe p) text number is says = let less : nat_lt p most ≡ true = grind (arith, nat_tests) in rw (less, says) refl
    of_it Display text number is says = absurd (cc)
    of_it (Session s) text number is says = absurd (cc)

    by_test : (b : Bool) → is_probe n line.actor ≡ b → is_asking line.actor line.body ≡ true → list_all (is_of_probe most) (probe_lines_of n lines) ≡ true
        → list_all (is_of_probe most) (cond b (line ∷ probe_lines_of n lines) (probe_lines_of n lines)) ≡ true
    by_test true is says later = let here : is_of_probe most line ≡ true = of_it line.actor line.body line.number is says in rw here later
    by_test false is says later = later

of-all : (most n count : ℕ) (lines : List ScriptLine) → n + count ≤ most → list_all (λ (line : ScriptLine). is_asking line.actor line.body) lines ≡ true
    → list_all (is_of_probe most) (flat_map (λ n. probe_lines_of n lines) (range_with_len n count)) ≡ true
of-all most n zero lines fits spoken = refl
of-all most n (suc count) lines fits spoken =
    list_all-append (is_of_probe most) (probe_lines_of n lines) (flat_map (λ n. probe_lines_of n lines) (range_with_len (n + 1) count))
    ∙ (let here = of-one most n lines (omega arith) spoken in let later = of-all most (n + 1) count lines (omega arith) spoken in rw here later)

pub probe-lines-are : (script : Script) → list_all (λ (line : ScriptLine). is_asking line.actor line.body) script.lines ≡ true
    → list_all (is_of_probe script.setup.probes) (probe_lines script) ≡ true
probe-lines-are script spoken = of-all script.setup.probes 0 script.setup.probes script.lines (omega arith) spoken

-- ---- one line

frame-said : (script : Script) (history : List Entry) (f f' : ℕ) (actor : Actor) (text : LineBody) (a a' : List ℕ) → f < 2 ^ 64 → f' < 2 ^ 64
    → is_asking actor text ≡ true → (p : ℕ) → actor ≡ Probe p
    → laid (seen_words script history f text) a ≡ laid (seen_words script history f' text) a' → f ≡ f'
frame-said script history f f' actor (body.Probe (probe.Hit x y)) a a' low low' spoken p of_probe is =
    let before : List Word = codes "hit" ∷ signed_decimal x ∷ signed_decimal y ∷ codes "frame" ∷ [] in
    let hits = hit_words script (hits_at script.setup (begin_of f history) x y) in
    let hits' = hit_words script (hits_at script.setup (begin_of f' history) x y) in
    let rest = behind-words before (number f ∷ hits) (number f' ∷ hits') a a' is in
    decimal_injective f f' low low' (told-next (number f) (number f') hits hits' a a' (number-word f) (number-word f') rest).0
frame-said script history f f' actor (body.Probe (probe.Await n)) a a' low low' spoken p of_probe is =
    let before : List Word = codes "await" ∷ codes "frame" ∷ [] in
    let rest = behind-words before (number f ∷ []) (number f' ∷ []) a a' is in
    decimal_injective f f' low low' (told-next (number f) (number f') [] [] a a' (number-word f) (number-word f') rest).0
frame-said script history f f' actor (body.Session text) a a' low low' spoken p of_probe is =
    let wrong : is_asking (Probe p) (body.Session text) ≡ true =
    ap (λ (b : Actor). is_asking b (body.Session text)) (sym of_probe) ∙ spoken in absurd (let e : false ≡ true = wrong in cc)
frame-said script history f f' actor (body.Display text) a a' low low' spoken p of_probe is =
    let wrong : is_asking (Probe p) (body.Display text) ≡ true =
    ap (λ (b : Actor). is_asking b (body.Display text)) (sym of_probe) ∙ spoken in absurd (let e : false ≡ true = wrong in cc)

-- What a line of a probe is.
record OfProbe (most : ℕ) (line : ScriptLine) : Type 0 where
  p : ℕ
  is : line.actor ≡ Probe p
  below : p < most
  spoken : is_asking line.actor line.body ≡ true

of-probe : (most : ℕ) (line : ScriptLine) → is_of_probe most line ≡ true → OfProbe most line
of-probe most line fine = by_actor line.actor refl fine
  where
    by_actor : (actor : Actor) → line.actor ≡ actor → is_of_probe most (record { number = line.number; actor = actor; body = line.body }) ≡ true
        → OfProbe most line
    by_actor (Probe p) is fine =
        let parts = and_parts (nat_lt p most) (is_asking (Probe p) line.body) fine in
        let less = parts.0 in
        record { p = p; is = is; below = grind (arith, nat_tests); spoken = ap (λ (a : Actor). is_asking a line.body) is ∙ parts.1 }
    by_actor Display is fine = absurd (let e : false ≡ true = fine in cc)
    by_actor (Session s) is fine = absurd (let e : false ≡ true = fine in cc)

one-seen : (script : Script) (history : List Entry) (most : ℕ) (line : ScriptLine) (f f' : ℕ) (a a' : List ℕ) → f < 2 ^ 64 → f' < 2 ^ 64 → OfProbe most line
    → line_on (seen_line script history (line, f)) a ≡ line_on (seen_line script history (line, f')) a' → (f ≡ f') × (a ≡ a')
one-seen script history most line f f' a a' low low' of is =
    let behind = append_cancel_left (actor_name script line.actor) (laid (number line.number ∷ seen_words script history f line.body) a)
    (laid (number line.number ∷ seen_words script history f' line.body) a') is in
    let said = behind-words (number line.number ∷ []) (seen_words script history f line.body) (seen_words script history f' line.body) a a' behind in
    let same : f ≡ f' = frame-said script history f f' line.actor line.body a a' low low' of.spoken of.p of.is said in
    let rest : laid (seen_words script history f' line.body) a ≡ laid (seen_words script history f' line.body) a' =
    ap (λ (n : ℕ). laid (seen_words script history n line.body) a) (sym same) ∙ said in
    (same, laid-same (seen_words script history f' line.body) a a' rest)

-- ---- all lines

longer : (n : ℕ) → 0 ≡ suc n → ⊥
longer n is = cc

one-longer : (m n : ℕ) → suc m ≡ suc n → m ≡ n
one-longer m n is = cc

low-frame : (most f : ℕ) → most < 2 ^ 64 → nat_le f most ≡ true → f < 2 ^ 64
low-frame most f few less = let upto : f ≤ most = grind (arith, nat_tests) in omega (arith, few, upto)

pub seen-told : (script : Script) (history : List Entry) (most frames : ℕ) (lines : List ScriptLine) (seen seen' : List ℕ) (a a' : List ℕ) → frames < 2 ^ 64
    → list_all (is_of_probe most) lines ≡ true
    → length seen ≡ length lines → length seen' ≡ length lines → list_all (λ f. nat_le f frames) seen ≡ true → list_all (λ f. nat_le f frames) seen' ≡ true
    → sheet (map (seen_line script history) (zip lines seen)) a ≡ sheet (map (seen_line script history) (zip lines seen')) a' → seen ≡ seen'
seen-told script history most frames [] [] [] a a' few of many many' low low' is = refl
seen-told script history most frames [] (f ∷ seen) seen' a a' few of many many' low low' is = absurd (longer (length seen) (sym many))
seen-told script history most frames [] [] (f' ∷ seen') a a' few of many many' low low' is = absurd (longer (length seen') (sym many'))
seen-told script history most frames (line ∷ lines) [] seen' a a' few of many many' low low' is = absurd (longer (length lines) many)
seen-told script history most frames (line ∷ lines) (f ∷ seen) [] a a' few of many many' low low' is = absurd (longer (length lines) many')
seen-told script history most frames (line ∷ lines) (f ∷ seen) (f' ∷ seen') a a' few of many many' low low' is =
    let ofs = and_parts (is_of_probe most line) (list_all (is_of_probe most) lines) of in
    let lows = and_parts (nat_le f frames) (list_all (λ f. nat_le f frames) seen) low in
    let lows' = and_parts (nat_le f' frames) (list_all (λ f. nat_le f frames) seen') low' in
    let here = one-seen script history most line f f' (sheet (map (seen_line script history) (zip lines seen)) a)
    (sheet (map (seen_line script history) (zip lines seen')) a')
    (low-frame frames f few lows.0) (low-frame frames f' few lows'.0) (of-probe most line ofs.0) is in
    let later = seen-told script history most frames lines seen seen' a a' few ofs.1 (one-longer (length seen) (length lines) many)
    (one-longer (length seen') (length lines) many') lows.1 lows'.1 here.1 in
    ap (λ n. n ∷ seen) here.0 ∙ ap (λ ns. f' ∷ ns) later

-- ---- no line of a probe begins as another line does

module _ (script : Script) (named : IsNamed script) where
  below-names : (p most : ℕ) → most ≡ script.setup.probes → p < most → p < length script.probes
  below-names p most is less = omega (arith, is, less, named.probe_count)

  probe-proper : (line : ScriptLine) → (of : OfProbe script.setup.probes line)
      → (actor_name script line.actor ≡ name_at script.probes of.p) × (of.p < length script.probes)
  probe-proper line of = (ap (actor_name script) of.is, below-names of.p script.setup.probes refl of.below)

  abbrev seen_text : List Entry → List ScriptLine → List ℕ → List ℕ → List ℕ
  seen_text history lines seen rest = sheet (map (seen_line script history) (zip lines seen)) rest

  pub seen-no-entry : (history : List Entry) (lines : List ScriptLine) (seen : List ℕ) (rest : List ℕ) → list_all (is_of_probe script.setup.probes) lines ≡ true
      → NoEntry script rest → NoEntry script (seen_text history lines seen rest)
  seen-no-entry history [] seen rest of none = none
  seen-no-entry history (line ∷ lines) [] rest of none = none
  seen-no-entry history (line ∷ lines) (f ∷ seen) rest of none = λ frames hits entry rest' acting is.
      let it = of-probe script.setup.probes line (and_parts (is_of_probe script.setup.probes line) (list_all (is_of_probe script.setup.probes) lines) of).0 in
      let name = probe-proper line it in
      let word = ap (λ (w : Word). list_all (nat_lt 32) w) name.0 ∙ name-word (name_at script.probes it.p) (named.probes.proper it.p name.1) in
      let same = (told (actor_name script line.actor) (actor_name script entry.actor) (number line.number ∷ seen_words script history f line.body)
      (said_words script frames hits entry.line entry.kind entry.reply)
      (seen_text history lines seen rest) rest' word (actor-word script named entry.actor acting) is).0 in
      no-probe-name script named it.p entry.actor name.1 acting (sym name.0 ∙ same)

  pub seen-no-loss : (history : List Entry) (lines : List ScriptLine) (seen : List ℕ) (rest : List ℕ) → list_all (is_of_probe script.setup.probes) lines ≡ true
      → NoLoss rest → NoLoss (seen_text history lines seen rest)
  seen-no-loss history [] seen rest of none = none
  seen-no-loss history (line ∷ lines) [] rest of none = none
  seen-no-loss history (line ∷ lines) (f ∷ seen) rest of none = λ one rest' is.
      let it = of-probe script.setup.probes line (and_parts (is_of_probe script.setup.probes line) (list_all (is_of_probe script.setup.probes) lines) of).0 in
      let name = probe-proper line it in
      let proper = named.probes.proper it.p name.1 in
      let word = ap (λ (w : Word). list_all (nat_lt 32) w) name.0 ∙ name-word (name_at script.probes it.p) proper in
      let same = (told (actor_name script line.actor) (codes "display") (number line.number ∷ seen_words script history f line.body)
      (number one.display ∷ codes "lost" ∷ lost_words one)
      (seen_text history lines seen rest) rest' word refl is).0 in
      not-display (name_at script.probes it.p) proper (sym name.0 ∙ same)
