-- Entries one behind another: their text, and what is left after them.
use Rattle.std.proofs.Common.{◌≡◌, ◌≤◌, ◌<◌, ℕ, zero, suc, ◌+◌, cond, Bool, true, false, List, [], ◌∷◌, ◌++◌, drop, length}
use Rattle.std.proofs.Common.{refl, sym, ap, ◌∙◌, subst, arith, append-nil, append_assoc, length-append, map, Result, Ok, Err, IfOk, slice_index_or}
use Rattle.std.specs.Borrow.{Bor}
use Rattle.std.specs.List.{concat, list_all}
use Rattle.std.proofs.lemmas.List.Concat.{flat_map-append}
use Rattle.flat_base.specs.declared.errors.NoMemory.{NoMemory}
use Rattle.flat_scene.specs.declared.frames.LostDisplay.{LostDisplay}
use Rattle.flat_scene.specs.declared.journal.Entry.{Entry}
use Rattle.flat_scene.specs.History.{is_finish}
use Rattle.flat_places.specs.declared.script.Script.{Script}
use Rattle.flat_page.specs.Words.{text_of}
use Rattle.flat_lines.specs.Ends.{title_line}
use Rattle.flat_report.specs.declared.report_position.ReportPosition.{ReportPosition}
use Rattle.flat_report.specs.declared.probes.ProbeAnswer.{ProbeAnswer}
use Rattle.flat_report.specs.declared.sections.Section.{Section}
use Rattle.flat_report.specs.Handed.{Rest, after_entries, after_entry, ending_text, entries_text, entry_text}
use Rattle.flat_report.specs.Sections.{AllFit, Fits, end_of, is_written, rest_of, section_text, sections_text, whole_text, written_text}

-- what is left after two lists of entries is what the second leaves of what the first left
pub after-append : (rest : Rest) (xs ys : List Entry) → after_entries rest (xs ++ ys) ≡ after_entries (after_entries rest xs) ys
after-append rest [] ys = refl
after-append rest (x ∷ xs) ys = after-append (after_entry rest x) xs ys

-- places are counted
pub place-after : (rest : Rest) (xs : List Entry) → (after_entries rest xs).place ≡ rest.place + length xs
place-after rest [] = omega arith
place-after rest (x ∷ xs) = omega (arith, place-after (after_entry rest x) xs)

one_more : (b : Bool) (n place : ℕ) → n ≤ place → n + cond b 1 0 ≤ place + 1
one_more true n place few = omega arith
one_more false n place few = omega arith

-- no more frames are finished than there are entries
pub few-after : (rest : Rest) (xs : List Entry) → rest.finished ≤ rest.place → (after_entries rest xs).finished ≤ (after_entries rest xs).place
few-after rest [] few = few
few-after rest (x ∷ xs) few = few-after (after_entry rest x) xs (one_more (is_finish x.kind) rest.finished rest.place few)

module _ (script : Script) (lost : List LostDisplay) where
  -- the text of two lists of entries is that of the first, and then that of the second by what is left there
  pub texts-append : (rest : Rest) (xs ys : List Entry)
      → entries_text script lost rest (xs ++ ys) ≡ entries_text script lost rest xs ++ entries_text script lost (after_entries rest xs) ys
  texts-append rest [] ys = refl
  texts-append rest (x ∷ xs) ys = ap (λ t. entry_text script lost rest x ++ t) (texts-append (after_entry rest x) xs ys)
      ∙ sym (append_assoc (entry_text script lost rest x) (entries_text script lost (after_entry rest x) xs)
      (entries_text script lost (after_entries (after_entry rest x) xs) ys))

-- ---- loops over entries

-- behind some entries later ones fit
pub fits_later : (start next : ReportPosition) (xs ys : List Entry) → Fits start (xs ++ ys) → rest_of next ≡ after_entries (rest_of start) xs → Fits next ys
fits_later start next xs ys fits is =
    let place : next.place ≡ start.place + length xs = ap (λ (r : Rest). r.place) is ∙ place-after (rest_of start) xs in
    record {
      few = rw (ap (λ (r : Rest). r.finished) is, ap (λ (r : Rest). r.place) is) (few-after (rest_of start) xs fits.few);
      small = let all = fits.small in omega (arith, place, length-append xs ys, all);
    }

pub fits_front : (start : ReportPosition) (xs ys : List Entry) → Fits start (xs ++ ys) → Fits start xs
fits_front start xs ys fits = record { few = fits.few; small = let all = fits.small in omega (arith, length-append xs ys, all) }

-- A loop over entries has come before the one of this index: what is left there is what those before it left.
pub record Reaches (start : ReportPosition) (all : List Entry) (cursor : ReportPosition) (i : ℕ) : Type 0 where
  pub rest : after_entries (rest_of cursor) (drop i all) ≡ after_entries (rest_of start) all
  pub fits : Fits cursor (drop i all)

-- ---- whole reports

-- three texts, put one behind the other
pub put_three : (old one two three first second third : List ℕ) → first ≡ old ++ one → second ≡ first ++ two → third ≡ second ++ three
    → third ≡ old ++ (one ++ (two ++ three))
put_three old one two three first second third first_is second_is third_is =
    third_is ∙ ap (λ t. t ++ three) (second_is ∙ ap (λ t. t ++ two) first_is) ∙ append_assoc (old ++ one) two three ∙ append_assoc old one (two ++ three)

-- behind the title the text of all entries, and what ends the report
pub whole_is : (script : Script) (probes : List (List ProbeAnswer)) (whole : Section) (body : List ℕ) (end : ReportPosition) → body ≡ section_text script whole
    → rest_of end ≡ end_of whole
    → text_of (title_line script.version ∷ []) ++ (body ++ ending_text script probes (rest_of end)) ≡ whole_text script probes whole
whole_is script probes whole body end body_is end_is =
    let title : List ℕ = text_of (title_line script.version ∷ []) in
    ap (λ t. title ++ (t ++ ending_text script probes (rest_of end))) body_is
    ∙ ap (λ r. title ++ (section_text script whole ++ ending_text script probes r)) end_is

-- ---- sections that are written apart

-- what was written of sections is their text, where all of them were
pub all_written : (script : Script) (texts : List (Result (List ℕ) NoMemory)) (sections : List Section) → length texts ≡ length sections
    → ((i : ℕ) (d : Result (List ℕ) NoMemory) (e : Section) → i < length sections
    → IfOk (slice_index_or texts i d) (λ text. text ≡ section_text script (slice_index_or sections i e)))
    → list_all is_written texts ≡ true → concat (map written_text texts) ≡ sections_text script sections
all_written script [] [] many each all = refl
all_written script [] (s ∷ sections) many each all = absurd (omega (arith, many))
all_written script (t ∷ texts) [] many each all = absurd (omega (arith, many))
all_written script (Err e ∷ texts) (s ∷ sections) many each all = absurd (cc)
all_written script (Ok text ∷ texts) (s ∷ sections) many each all =
    ap (λ t. t ++ concat (map written_text texts)) (each 0 (Ok text) s (omega arith))
    ∙ ap (λ t. section_text script s ++ t)
    (all_written script texts sections (omega (arith, many)) (λ i d e within. each (suc i) d e (omega arith)) all)

fit_more : (sections : List Section) (s : Section) → AllFit sections → Fits s.start s.entries.now → (i : ℕ) (d : Section) → i < length (sections ++ s ∷ [])
    → Fits (slice_index_or (sections ++ s ∷ []) i d).start (slice_index_or (sections ++ s ∷ []) i d).entries.now
fit_more [] s all fits zero d within = fits
fit_more [] s all fits (suc i) d within = absurd (omega arith)
fit_more (x ∷ sections) s all fits zero d within = all 0 d (omega arith)
fit_more (x ∷ sections) s all fits (suc i) d within = fit_more sections s (λ j e inside. all (suc j) e (omega arith)) fits i d (omega arith)

-- Some sections were cut off a whole: with the entries left, before which the cursor stands, they are all of it.
pub record Cuts (whole : Section) (sections : List Section) (cursor : ReportPosition) (left : List Entry) : Type 0 where
  pub text : (script : Script) → sections_text script sections ++ entries_text script whole.lost.now (rest_of cursor) left ≡ section_text script whole
  pub rest : after_entries (rest_of cursor) left ≡ end_of whole
  pub fits : Fits cursor left
  pub all : AllFit sections

module _ (whole : Section) where
  pub cuts_none : Fits whole.start whole.entries.now → Cuts whole [] whole.start whole.entries.now
  cuts_none fits = record { text = λ script. refl; rest = refl; fits = fits; all = λ i d within. absurd (omega arith) }

  pub cuts_more : (sections more : List Section) (section : Section) (next : ReportPosition) (left later : List Entry) → Cuts whole sections section.start left
      → section.lost ≡ whole.lost → left ≡ section.entries.now ++ later → rest_of next ≡ end_of section → more ≡ sections ++ section ∷ []
      → Cuts whole more next later
  cuts_more sections more section next left later cuts lost_is left_is next_is more_is =
      let fits : Fits section.start (section.entries.now ++ later) = subst (Fits section.start) left_is cuts.fits in
      record {
        text = λ script.
            let before : List ℕ = sections_text script sections in
            let behind : Rest → List ℕ = λ r. entries_text script whole.lost.now r later in
            ap (λ ss. sections_text script ss ++ behind (rest_of next)) more_is
            ∙ ap (λ t. t ++ behind (rest_of next)) (flat_map-append (section_text script) sections (section ∷ []) ∙ ap (λ t. before ++ t)
            (append-nil (section_text script section)))
            ∙ append_assoc before (section_text script section) (behind (rest_of next))
            ∙ ap (λ r. before ++ (section_text script section ++ behind r)) next_is
            ∙ ap (λ (l : Bor (List LostDisplay)). before ++ (entries_text script l.now (rest_of section.start) section.entries.now ++ behind (end_of section)))
            lost_is
            ∙ ap (λ t. before ++ t) (sym (texts-append script whole.lost.now (rest_of section.start) section.entries.now later))
            ∙ ap (λ es. before ++ entries_text script whole.lost.now (rest_of section.start) es) (sym left_is)
            ∙ cuts.text script;
        rest = ap (λ r. after_entries r later) next_is ∙ sym (after-append (rest_of section.start) section.entries.now later)
            ∙ ap (after_entries (rest_of section.start)) (sym left_is) ∙ cuts.rest;
        fits = fits_later section.start next section.entries.now later fits next_is;
        all = subst AllFit (sym more_is) (fit_more sections section cuts.all (fits_front section.start section.entries.now later fits));
      }

  pub cuts_all : (sections : List Section) (cursor : ReportPosition) (left : List Entry) → length left ≡ 0 → Cuts whole sections cursor left
      → (script : Script) → sections_text script sections ≡ section_text script whole
  cuts_all sections cursor [] none cuts script = sym (append-nil (sections_text script sections)) ∙ cuts.text script
  cuts_all sections cursor (x ∷ left) none cuts script = absurd (omega (arith, none))

  pub cuts_end : (sections : List Section) (cursor : ReportPosition) (left : List Entry) → length left ≡ 0 → Cuts whole sections cursor left
      → rest_of cursor ≡ end_of whole
  cuts_end sections cursor [] none cuts = cuts.rest
  cuts_end sections cursor (x ∷ left) none cuts = absurd (omega (arith, none))

-- what two clauses say together of a result
pub both_ok : {A : Type 0} (result : Result A NoMemory) (P Q R : A → Type 0) → IfOk result P → IfOk result Q → ((a : A) → P a → Q a → R a) → IfOk result R
both_ok (Ok a) P Q R p q both = both a p q
both_ok (Err e) P Q R p q both = tt
