-- What the end of a run's report says of probes is what they saw.
use Rattle.std.proofs.Common.{◌≡◌, ℕ, zero, suc, ◌+◌, ◌-◌, ◌<◌, ◌≤◌, ◌^◌, ◌||◌, ◌&&◌, ◌==◌, not, ℤ, pos, negsuc, nat_le, nat_lt, Bool, true, false, cond}
use Rattle.std.proofs.Common.{List, [], ◌∷◌, ◌++◌, length, map, drop, codes, unwrap_or, append_assoc, length-append, refl, sym, ap, ◌∙◌, arith}
use Rattle.std.proofs.Common.{Option, Some, None, slice_get}
use Rattle.std.specs.Char.{is_ascii_digit}
use Rattle.std.specs.Fmt.{signed_decimal}
use Rattle.std.specs.List.{flat_map, list_all, zip, range_with_len}
use Rattle.std.proofs.lemmas.Bool.{and_parts, and_from, eq-eqb, eqb-true}
use Rattle.std.proofs.lemmas.Bool.Decides.{nat_tests}
use Rattle.std.proofs.lemmas.List.{length-map}
use Rattle.flat_base.specs.declared.ids.Actor.{Actor}
use Rattle.flat_base.specs.declared.ids.Actor.TheVariants.{Display, Session, Probe}
use Rattle.flat_scene.specs.declared.calls.Interaction.{Interaction}
use Rattle.flat_scene.specs.declared.calls.Interaction.TheVariants.{Default, SemanticallyInvisible}
use Rattle.flat_scene.specs.declared.frames.Hit.{Hit}
use Rattle.flat_scene.specs.declared.frames.LostDisplay.{LostDisplay}
use Rattle.flat_scene.specs.declared.journal.Entry.{Entry}
use Rattle.flat_scene.specs.declared.script.LineBody.{LineBody}
use Rattle.flat_scene.specs.declared.script.LineBody.TheVariants as body
use Rattle.flat_scene.specs.declared.script.ProbeLine.TheVariants as probe
use Rattle.flat_scene.specs.declared.script.ScriptLine.{ScriptLine}
use Rattle.flat_rules.specs.Legal.{frames}
use Rattle.flat_text.specs.Number.{natural}
use Rattle.flat_text.specs.Pieces.{lines_of}
use Rattle.flat_text.proofs.lemmas.NumberLemmas.{natural-decimal}
use Rattle.flat_places.specs.declared.script.Script.{Script}
use Rattle.flat_places.specs.Names.{place_of}
use Rattle.flat_page.specs.Words.{actor_name, line_of, name_at, number, text_of}
use Rattle.flat_places.specs.Forms.{Word}
use Rattle.flat_lines.specs.Ends.{end_line, title_line}
use Rattle.flat_lines.specs.EntryLines.{hit_words}
use Rattle.flat_report.specs.Probes.{is_asking, never_fall_from}
use Rattle.flat_report.specs.Report.{begin_of, history_lines, hits_at, is_probe, is_seeing, never_falls, probe_lines, report, same_probe}
use Rattle.flat_report.specs.Report.{seen_line, seen_words}
use Rattle.flat_report.proofs.lemmas.Named.{AreNames, IsNamed, name-word}
use Rattle.flat_report.proofs.lemmas.SeenTold.{is_of_probe}
use Rattle.flat_report.proofs.lemmas.Sheets.{is_digit, is_word, number-digits, number-word}
use Rattle.flat_report.proofs.lemmas.Tails.{text-append}
use Rattle.flat_judge.specs.Heeding.{CouldSee}
use Rattle.flat_judge.specs.Hints.{answer_lines, frame_told, hint_in, hints_of, is_this, low_number, probe_answered}
use Rattle.flat_judge.proofs.Breaks.{lines-back, text-ends, words-back}
use Rattle.flat_judge.proofs.Shares.{as-many, select, selected}

-- ---- words

beyond : (names : List Word) (place : ℕ) → nat_lt place (length names) ≡ false → slice_get names place ≡ None
beyond [] place over = refl
beyond (name ∷ names) zero over = absurd (let wrong : 0 < 0 = grind (arith, nat_tests) in omega (arith, wrong))
beyond (name ∷ names) (suc place) over = beyond names place (let high : length names ≤ place = grind (arith, nat_tests) in grind (arith, nat_tests))

name-fine : (names : List Word) → AreNames names → (place : ℕ) → is_word (name_at names place) ≡ true
name-fine names are place = by (nat_lt place (length names)) refl
  where
    by : (b : Bool) → nat_lt place (length names) ≡ b → is_word (name_at names place) ≡ true
    by true is = let below : place < length names = grind (arith, nat_tests) in name-word (name_at names place) (are.proper place below)
    by false is = ap (λ (o : Option Word). is_word (unwrap_or o [])) (beyond names place is)

signed-word : (n : ℤ) → is_word (signed_decimal n) ≡ true
signed-word (pos n) = number-word n
signed-word (negsuc n) = number-word (suc n)

digits-all : (xs : List ℕ) → list_all is_digit xs ≡ true → list_all is_ascii_digit xs ≡ true
digits-all [] fine = refl
digits-all (c ∷ xs) fine =
    let parts = and_parts (is_digit c) (list_all is_digit xs) fine in
    and_from (is_ascii_digit c) (list_all is_ascii_digit xs) (one c parts.0) (digits-all xs parts.1)
  where
    one : (c : ℕ) → is_digit c ≡ true → is_ascii_digit c ≡ true
    one c fine = fine

fine-more : (w : Word) (ws : List Word) → is_word w ≡ true → list_all is_word ws ≡ true → list_all is_word (w ∷ ws) ≡ true
fine-more w ws first later = and_from (is_word w) (list_all is_word ws) first later

number-fine : (n : ℕ) (ws : List Word) → list_all is_word ws ≡ true → list_all is_word (number n ∷ ws) ≡ true
number-fine n ws later = fine-more (number n) ws (number-word n) later

-- the number of an interaction
abbrev how : Interaction → ℕ
how Default = 0
how SemanticallyInvisible = 1

-- ---- the line of a probe

module _ (script : Script) (named : IsNamed script) where
  hits-fine : (hits : List Hit) → list_all is_word (hit_words script hits) ≡ true
  hits-fine [] = refl
  hits-fine (hit ∷ hits) =
      fine-more (name_at script.sessions (hit.session.0 - 1)) (number (how hit.interaction) ∷ hit_words script hits)
      (name-fine script.sessions named.sessions (hit.session.0 - 1)) (number-fine (how hit.interaction) (hit_words script hits) (hits-fine hits))

  words-fine : (history : List Entry) (f : ℕ) (text : LineBody) → list_all is_word (seen_words script history f text) ≡ true
  words-fine history f (body.Probe (probe.Hit x y)) =
      let hits = hit_words script (hits_at script.setup (begin_of f history) x y) in
      fine-more (signed_decimal x) (signed_decimal y ∷ codes "frame" ∷ number f ∷ hits) (signed-word x)
      (fine-more (signed_decimal y) (codes "frame" ∷ number f ∷ hits) (signed-word y)
      (fine-more (number f) hits (number-word f) (hits-fine (hits_at script.setup (begin_of f history) x y))))
  words-fine history f (body.Probe (probe.Await n)) = fine-more (number f) [] (number-word f) refl
  words-fine history f (body.Session said) = refl
  words-fine history f (body.Display said) = refl

  actor-fine : (actor : Actor) → is_word (actor_name script actor) ≡ true
  actor-fine Display = refl
  actor-fine (Session s) = name-fine script.sessions named.sessions (s.0 - 1)
  actor-fine (Probe p) = name-fine script.probes named.probes p

  line-fine : (history : List Entry) (line : ScriptLine) (f : ℕ) → list_all is_word (seen_line script history (line, f)) ≡ true
  line-fine history line f =
      fine-more (actor_name script line.actor) (number line.number ∷ seen_words script history f line.body) (actor-fine line.actor)
      (fine-more (number line.number) (seen_words script history f line.body) (number-word line.number) (words-fine history f line.body))

  -- it names its probe
  names-probe : (p : ℕ) (line : ℕ) (said : List Word) → p < length script.probes → probe_answered script (name_at script.probes p ∷ number line ∷ said) ≡ Some p
  names-probe p line said below =
      ap (λ b. cond b (place_of script.probes (name_at script.probes p)) None) (digits-all (number line) (number-digits line)) ∙ named.probes.placed p below

  -- and the frame
  low : (f : ℕ) → f < 2 ^ 32 → low_number (natural (number f)) ≡ f
  low f few =
      ap low_number (natural-decimal f (omega (arith, few)))
      ∙ ap (λ b. cond b f 0) (below f few)
    where
      below : (f : ℕ) → f < 4294967296 → nat_lt f 4294967296 ≡ true
      below f few = grind (arith, nat_tests)

  names-frame : (history : List Entry) (p : ℕ) (name digits : Word) (f : ℕ) (text : LineBody) → f < 2 ^ 32 → is_asking (Probe p) text ≡ true
      → frame_told (name ∷ digits ∷ seen_words script history f text) ≡ f
  names-frame history p name digits f (body.Probe (probe.Hit x y)) few asks = low f few
  names-frame history p name digits f (body.Probe (probe.Await n)) few asks = low f few
  names-frame history p name digits f (body.Session said) few asks = absurd (let wrong : false ≡ true = asks in cc)
  names-frame history p name digits f (body.Display said) few asks = absurd (let wrong : false ≡ true = asks in cc)

  -- so the frame is noted for that probe, and for no other
  line-told : (history : List Entry) (n : ℕ) (line : ScriptLine) (f : ℕ) → is_of_probe script.setup.probes line ≡ true → f < 2 ^ 32
      → hint_in script n (line_of (seen_line script history (line, f))) ≡ cond (is_probe n line.actor) (f ∷ []) []
  line-told history n line f of few =
      ap (λ (ws : List Word). cond (is_this n (probe_answered script ws)) (frame_told ws ∷ []) [])
      (words-back (actor_name script line.actor) (number line.number ∷ seen_words script history f line.body) (line-fine history line f))
      ∙ by line.actor of
    where
      by : (actor : Actor) → is_of_probe script.setup.probes (record { number = line.number; actor = actor; body = line.body }) ≡ true
          → cond (is_this n (probe_answered script (actor_name script actor ∷ number line.number ∷ seen_words script history f line.body)))
          (frame_told (actor_name script actor ∷ number line.number ∷ seen_words script history f line.body) ∷ []) [] ≡ cond (is_probe n actor) (f ∷ []) []
      by (Probe p) fine =
          let parts = and_parts (nat_lt p script.setup.probes) (is_asking (Probe p) line.body) fine in
          let first = parts.0 in
          let less : p < script.setup.probes = grind (arith, nat_tests) in
          let found = names-probe p line.number (seen_words script history f line.body) (omega (arith, less, named.probe_count)) in
          let frame = names-frame history p (name_at script.probes p) (number line.number) f line.body few parts.1 in
          λ i. cond (is_this n (found i)) (frame i ∷ []) []
      by Display fine = absurd (let wrong : false ≡ true = fine in cc)
      by (Session s) fine = absurd (let wrong : false ≡ true = fine in cc)

  -- the last line names none
  end-fine : (entries finished : ℕ) → list_all is_word (end_line entries finished) ≡ true
  end-fine entries finished = fine-more (number entries) (codes "frames" ∷ number finished ∷ []) (number-word entries)
      (fine-more (number finished) [] (number-word finished) refl)

  end-told : (n entries finished : ℕ) → hint_in script n (line_of (end_line entries finished)) ≡ []
  end-told n entries finished =
      ap (λ (ws : List Word). cond (is_this n (probe_answered script ws)) (frame_told ws ∷ []) [])
      (words-back (codes "report") (codes "ends" ∷ codes "entries" ∷ number entries ∷ codes "frames" ∷ number finished ∷ []) (end-fine entries finished))

  -- ---- the lines of all probes

  abbrev pub of_probe : ℕ → ScriptLine → Bool
  of_probe n line = is_probe n line.actor

  lines-told : (history : List Entry) (n entries finished : ℕ) (lines : List ScriptLine) (seen : List ℕ)
      → list_all (is_of_probe script.setup.probes) lines ≡ true → list_all (λ f. nat_lt f (2 ^ 32)) seen ≡ true
      → flat_map (hint_in script n) (map line_of (map (seen_line script history) (zip lines seen) ++ end_line entries finished ∷ []))
      ≡ select of_probe n (zip lines seen)
  lines-told history n entries finished [] seen of few = ap (λ (fs : List ℕ). fs ++ []) (end-told n entries finished)
  lines-told history n entries finished (line ∷ lines) [] of few = ap (λ (fs : List ℕ). fs ++ []) (end-told n entries finished)
  lines-told history n entries finished (line ∷ lines) (f ∷ seen) of few =
      let ofs = and_parts (is_of_probe script.setup.probes line) (list_all (is_of_probe script.setup.probes) lines) of in
      let fews = and_parts (nat_lt f (2 ^ 32)) (list_all (λ f. nat_lt f (2 ^ 32)) seen) few in
      let here = line-told history n line f ofs.0 (below f fews.0) in
      let later = lines-told history n entries finished lines seen ofs.1 fews.1 in
      λ i. here i ++ later i
    where
      below : (f : ℕ) → nat_lt f 4294967296 ≡ true → f < 4294967296
      below f few = grind (arith, nat_tests)

  all-fine : (history : List Entry) (entries finished : ℕ) (lines : List ScriptLine) (seen : List ℕ)
      → list_all (list_all is_word) (map (seen_line script history) (zip lines seen) ++ end_line entries finished ∷ []) ≡ true
  all-fine history entries finished [] seen = and_from (list_all is_word (end_line entries finished)) true (end-fine entries finished) refl
  all-fine history entries finished (line ∷ lines) [] = and_from (list_all is_word (end_line entries finished)) true (end-fine entries finished) refl
  all-fine history entries finished (line ∷ lines) (f ∷ seen) =
      and_from (list_all is_word (seen_line script history (line, f))) _ (line-fine history line f) (all-fine history entries finished lines seen)

  zip-many : (lines : List ScriptLine) (seen : List ℕ) → length seen ≡ length lines → length (zip lines seen) ≡ length lines
  zip-many [] seen many = refl
  zip-many (line ∷ lines) [] many = absurd (omega (arith, many))
  zip-many (line ∷ lines) (f ∷ seen) many = ap suc (zip-many lines seen (omega (arith, many)))

  drop-front : (xs ys : List (List ℕ)) (n : ℕ) → n ≡ length ys → drop (length (xs ++ ys) - n) (xs ++ ys) ≡ ys
  drop-front xs ys n same =
      ap (λ (k : ℕ). drop k (xs ++ ys)) (let both : length (xs ++ ys) ≡ length xs + length ys = length-append xs ys in
      let first : length (xs ++ ys) - n ≡ length xs = omega (arith, both, same) in first) ∙ front xs
    where
      front : (xs : List (List ℕ)) → drop (length xs) (xs ++ ys) ≡ ys
      front [] = refl
      front (x ∷ xs) = front xs

  -- the last lines of a report
  lines-are : (history : List Entry) (lost : List LostDisplay) (seen : List ℕ) → length seen ≡ length (probe_lines script)
      → answer_lines script (report script history lost seen)
      ≡ map line_of (map (seen_line script history) (zip (probe_lines script) seen) ++ end_line (length history) (frames history) ∷ [])
  lines-are history lost seen many =
      let front : List (List Word) = title_line script.version ∷ history_lines script lost history in
      let back : List (List Word) = map (seen_line script history) (zip (probe_lines script) seen) ++ end_line (length history) (frames history) ∷ [] in
      let said : List (List Word) = map (seen_line script history) (zip (probe_lines script) seen) in
      let split : report script history lost seen ≡ text_of front ++ text_of back =
      ap (λ (ls : List (List Word)). text_of (title_line script.version ∷ ls))
      (append_assoc (history_lines script lost history) said (end_line (length history) (frames history) ∷ [])) ∙ text-append front back in
      let lines : lines_of (report script history lost seen) ≡ lines_of (text_of front) ++ map line_of back =
      ap lines_of split ∙ text-ends front (text_of back) ∙ ap (λ (ls : List (List ℕ)). lines_of (text_of front) ++ ls)
      (lines-back back (all-fine history (length history) (frames history) (probe_lines script) seen)) in
      let pairs = zip (probe_lines script) seen in
      let count : length (probe_lines script) + 1 ≡ length (map line_of back) =
      (let mapped : length (map line_of back) ≡ length back = length-map back line_of in
      let both : length back ≡ length (map (seen_line script history) pairs) + 1 =
      length-append (map (seen_line script history) pairs) (end_line (length history) (frames history) ∷ []) in
      let inner : length (map (seen_line script history) pairs) ≡ length pairs = length-map pairs (seen_line script history) in
      let as_many : length pairs ≡ length (probe_lines script) = zip-many (probe_lines script) seen many in
      omega (arith, mapped, both, inner, as_many)) in
      ap (λ (ls : List (List ℕ)). drop (length ls - (length (probe_lines script) + 1)) ls) lines
      ∙ drop-front (lines_of (text_of front)) (map line_of back) (length (probe_lines script) + 1) count

  -- ---- what they saw

  one-probe : (m n : ℕ) (line : ScriptLine) → of_probe m line ≡ true → of_probe n line ≡ true → m ≡ n
  one-probe m n line of_m of_n = by line.actor of_m of_n
    where
      by : (actor : Actor) → is_probe m actor ≡ true → is_probe n actor ≡ true → m ≡ n
      by (Probe p) of_m of_n = sym (eqb-true p m of_m) ∙ eqb-true p n of_n
      by Display of_m of_n = absurd (let wrong : false ≡ true = of_m in cc)
      by (Session s) of_m of_n = absurd (let wrong : false ≡ true = of_m in cc)

  above-of : (n : ℕ) (actor : Actor) (f : ℕ) (pairs : List (ScriptLine × ℕ)) → is_probe n actor ≡ true
      → list_all (λ next. not (same_probe actor next.0.actor) || nat_le f next.1) pairs ≡ true → list_all (nat_le f) (select of_probe n pairs) ≡ true
  above-of n actor f [] mine rises = refl
  above-of n actor f ((line, g) ∷ pairs) mine rises = by (is_probe n line.actor) refl (and_parts (not (same_probe actor line.actor) || nat_le f g) _ rises).0
      (above-of n actor f pairs mine (and_parts (not (same_probe actor line.actor) || nat_le f g) _ rises).1)
    where
      same : (a b : Actor) → is_probe n a ≡ true → is_probe n b ≡ true → same_probe a b ≡ true
      same (Probe p) (Probe q) of_a of_b = eq-eqb p q (eqb-true p n of_a ∙ sym (eqb-true q n of_b))
      same (Probe p) Display of_a of_b = absurd (let wrong : false ≡ true = of_b in cc)
      same (Probe p) (Session s) of_a of_b = absurd (let wrong : false ≡ true = of_b in cc)
      same Display b of_a of_b = absurd (let wrong : false ≡ true = of_a in cc)
      same (Session s) b of_a of_b = absurd (let wrong : false ≡ true = of_a in cc)

      by : (b : Bool) → is_probe n line.actor ≡ b → (not (same_probe actor line.actor) || nat_le f g) ≡ true
          → list_all (nat_le f) (select of_probe n pairs) ≡ true → list_all (nat_le f) (cond b (g ∷ []) [] ++ select of_probe n pairs) ≡ true
      by true is here later =
          let one : same_probe actor line.actor ≡ true = same actor line.actor mine is in
          let low : nat_le f g ≡ true = ap (λ t. not t || nat_le f g) (sym one) ∙ here in
          and_from (nat_le f g) (list_all (nat_le f) (select of_probe n pairs)) low later
      by false is here later = later

  rise-of : (n from : ℕ) (pairs : List (ScriptLine × ℕ)) → never_falls pairs ≡ true → list_all (nat_le from) (select of_probe n pairs) ≡ true
      → never_fall_from from (select of_probe n pairs) ≡ true
  rise-of n from [] never above = refl
  rise-of n from ((line, f) ∷ pairs) never above = by (is_probe n line.actor) refl above (rise-of n from pairs parts.1) (rise-of n f pairs parts.1)
    where
      parts : (list_all (λ next. not (same_probe line.actor next.0.actor) || nat_le f next.1) pairs ≡ true) × (never_falls pairs ≡ true)
      parts = and_parts (list_all (λ next. not (same_probe line.actor next.0.actor) || nat_le f next.1) pairs) (never_falls pairs) never

      by : (b : Bool) → is_probe n line.actor ≡ b → list_all (nat_le from) (cond b (f ∷ []) [] ++ select of_probe n pairs) ≡ true
          → (list_all (nat_le from) (select of_probe n pairs) ≡ true → never_fall_from from (select of_probe n pairs) ≡ true)
          → (list_all (nat_le f) (select of_probe n pairs) ≡ true → never_fall_from f (select of_probe n pairs) ≡ true)
          → never_fall_from from (cond b (f ∷ []) [] ++ select of_probe n pairs) ≡ true
      by true is above from_here from_it = and_from (nat_le from f) (never_fall_from f (select of_probe n pairs))
          (and_parts (nat_le from f) (list_all (nat_le from) (select of_probe n pairs)) above).0 (from_it (above-of n line.actor f pairs is parts.0))
      by false is above from_here from_it = from_here above

  within-of : (n most : ℕ) (lines : List ScriptLine) (seen : List ℕ) → list_all (λ f. nat_le f most) seen ≡ true
      → list_all (λ f. nat_le f most) (select of_probe n (zip lines seen)) ≡ true
  within-of n most [] seen within = refl
  within-of n most (line ∷ lines) [] within = refl
  within-of n most (line ∷ lines) (f ∷ seen) within = by (is_probe n line.actor) (and_parts (nat_le f most) (list_all (λ f. nat_le f most) seen) within).0
      (within-of n most lines seen (and_parts (nat_le f most) (list_all (λ f. nat_le f most) seen) within).1)
    where
      by : (b : Bool) → nat_le f most ≡ true → list_all (λ f. nat_le f most) (select of_probe n (zip lines seen)) ≡ true
          → list_all (λ f. nat_le f most) (cond b (f ∷ []) [] ++ select of_probe n (zip lines seen)) ≡ true
      by true here later = and_from (nat_le f most) (list_all (λ f. nat_le f most) (select of_probe n (zip lines seen))) here later
      by false here later = later

  zero-below : (fs : List ℕ) → list_all (nat_le 0) fs ≡ true
  zero-below [] = refl
  zero-below (f ∷ fs) = let here : nat_le 0 f ≡ true = grind (arith, nat_tests) in and_from (nat_le 0 f) (list_all (nat_le 0) fs) here (zero-below fs)

  few-all : (most : ℕ) (seen : List ℕ) → most < 4294967296 → list_all (λ f. nat_le f most) seen ≡ true → list_all (λ f. nat_lt f 4294967296) seen ≡ true
  few-all most [] few within = refl
  few-all most (f ∷ seen) few within =
      let parts = and_parts (nat_le f most) (list_all (λ f. nat_le f most) seen) within in
      let first = parts.0 in
      let here : nat_lt f 4294967296 ≡ true = grind (arith, nat_tests) in
      and_from (nat_lt f 4294967296) (list_all (λ f. nat_lt f 4294967296) seen) here (few-all most seen few parts.1)

  -- What is asked of what the probes of a run saw.
  record Sees (history : List Entry) (seen : List ℕ) : Type 0 where
    many : length seen ≡ length (probe_lines script)
    within : list_all (λ f. nat_le f (frames history)) seen ≡ true
    rises : never_falls (zip (probe_lines script) seen) ≡ true

  sees : (history : List Entry) (seen : List ℕ) → is_seeing script history seen ≡ true → Sees history seen
  sees history seen seeing =
      let two = and_parts ((length seen == length (probe_lines script)) && list_all (λ frame. nat_le frame (frames history)) seen)
      (never_falls (zip (probe_lines script) seen)) seeing in
      let one = and_parts (length seen == length (probe_lines script)) (list_all (λ frame. nat_le frame (frames history)) seen) two.0 in
      record { many = eqb-true (length seen) (length (probe_lines script)) one.0; within = one.1; rises = two.1 }

  -- what a probe saw
  abbrev pub share : List ℕ → ℕ → List ℕ
  share seen n = select of_probe n (zip (probe_lines script) seen)

  -- the hints of a report are what each probe saw
  pub hints-are : (history : List Entry) (lost : List LostDisplay) (seen : List ℕ) (n : ℕ) → list_all (is_of_probe script.setup.probes) (probe_lines script)
      ≡ true
      → is_seeing script history seen ≡ true → frames history < 2 ^ 32
      → hints_of script (report script history lost seen) n ≡ share seen n
  hints-are history lost seen n of seeing few =
      let its = sees history seen seeing in
      ap (flat_map (hint_in script n)) (lines-are history lost seen its.many)
      ∙ lines-told history n (length history) (frames history) (probe_lines script) seen of (few-all (frames history) seen few its.within)

  -- it could see that
  pub share-seen : (history : List Entry) (seen : List ℕ) (n : ℕ) → is_seeing script history seen ≡ true → n < script.setup.probes
      → CouldSee script (frames history) n (share seen n)
  share-seen history seen n seeing below =
      let its = sees history seen seeing in
      record {
        as_many = as-many of_probe one-probe 0 script.setup.probes script.lines seen its.many n (omega arith) (omega (arith, below));
        rise = rise-of n 0 (zip (probe_lines script) seen) its.rises (zero-below (share seen n));
        within = within-of n (frames history) (probe_lines script) seen its.within;
      }

  -- and all probes together saw what was seen
  pub shares-all : (history : List Entry) (seen : List ℕ) → is_seeing script history seen ≡ true
      → flat_map (share seen) (range_with_len 0 script.setup.probes) ≡ seen
  shares-all history seen seeing = selected of_probe one-probe 0 script.setup.probes script.lines seen (sees history seen seeing).many
