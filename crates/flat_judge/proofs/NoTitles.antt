-- No line of a script begins a report.
use Rattle.std.proofs.Common.{◌≡◌, ℕ, ◌+◌, nat_lt, Bool, true, false, cond, List, [], ◌∷◌, length, codes, Option, Some, None, Result, Ok, Err, refl}
use Rattle.std.proofs.Common.{sym, ap, ◌∙◌}
use Rattle.std.specs.List.{list_any}
use Rattle.std.specs.Option.{option_map_or}
use Rattle.std.specs.Str.{bytes_eq}
use Rattle.std.proofs.lemmas.Slice.Eq.{bytes_eq-Decides}
use Rattle.flat_base.specs.declared.ids.Actor.{Actor}
use Rattle.flat_base.specs.declared.ids.Actor.TheVariants.{Display, Session, Probe}
use Rattle.flat_scene.specs.declared.script.LineBody.{LineBody}
use Rattle.flat_scene.specs.declared.script.LineBody.TheVariants as body
use Rattle.flat_places.specs.declared.kinds.FaultKind.TheVariants.{BadHead, Limit, TooLong, UnknownActor, UnknownCall}
use Rattle.flat_places.specs.declared.script.Script.{Script}
use Rattle.flat_places.specs.Forms.{Reading, Word, at_word, mapped, unless_kind, whole}
use Rattle.flat_places.specs.Known.{knows}
use Rattle.flat_places.specs.Names.{actor_named}
use Rattle.flat_forms.specs.declared.lines.TextPart.TheVariants as part
use Rattle.flat_forms.specs.Body.{actor_line, body_line, counted_line, display_line, ratio_line, with_line}
use Rattle.flat_forms.specs.Head.{empty}
use Rattle.flat_forms.specs.Lines.{Sofar, words_read}
use Rattle.flat_script.specs.declared.script.ScriptFault.{ScriptFault}
use Rattle.flat_script.specs.Grammar.{line_read, lines_read}
use Rattle.flat_text.specs.Pieces.{lines_of}
use Rattle.flat_judge.specs.Cuts.{is_title}
use Rattle.flat_judge.specs.Titles.{ScriptsHaveNoTitle}

-- the words of a line that begins a report, with its digit
abbrev title : ℕ → List Word
title digit = codes "report" ∷ codes "flatland" ∷ (digit ∷ []) ∷ []

-- nobody has a line that begins with `flatland`
no_display : (s : Script) (digit : ℕ) → display_line s (codes "flatland" ∷ (digit ∷ []) ∷ []) ≡ Err UnknownCall
no_display s digit = by (knows s.version (codes "dpr"))
  where
    by : (late : Bool) → at_word UnknownCall (cond late ((codes "dpr", whole ratio_line) ∷ []) []) (codes "flatland") ((digit ∷ []) ∷ []) ≡ Err UnknownCall
    by true = refl
    by false = refl

no_call : (s : Script) (who : Actor) (digit : ℕ) → actor_line s who (codes "flatland" ∷ (digit ∷ []) ∷ []) ≡ Err UnknownCall
no_call s Display digit = ap (mapped body.Display) (no_display s digit)
no_call s (Session a) digit = refl
no_call s (Probe p) digit = refl

refused : (s : Script) (n : ℕ) (who : Actor) (b : Bool) (r : Reading LineBody) (next : Script) → r ≡ Err UnknownCall
    → unless_kind Limit b (mapped (with_line s n who) r) ≡ Ok next → ⊥
refused s n who true r next none is = let wrong : unless_kind Limit true (mapped (with_line s n who) (Err UnknownCall)) ≡ Ok next =
    ap (λ q. unless_kind Limit true (mapped (with_line s n who) q)) (sym none) ∙ is in cc
refused s n who false r next none is = let wrong : unless_kind Limit false (mapped (with_line s n who) (Err UnknownCall)) ≡ Ok next =
    ap (λ q. unless_kind Limit false (mapped (with_line s n who) q)) (sym none) ∙ is in cc

no_body : (n digit : ℕ) (s next : Script) → body_line s n (title digit) ≡ Ok next → ⊥
no_body n digit s next is = by (actor_named s (codes "report")) is
  where
    by : (who : Option Actor) → option_map_or (λ a. counted_line s n a (codes "flatland" ∷ (digit ∷ []) ∷ [])) who (Err UnknownActor) ≡ Ok next → ⊥
    by None is = cc
    by (Some a) is = refused s n a _ (actor_line s a (codes "flatland" ∷ (digit ∷ []) ∷ [])) next (no_call s a digit) is

no_words : (n digit : ℕ) (sofar next : Sofar) → words_read n sofar (title digit) ≡ Ok next → ⊥
no_words n digit (part.Start, s) next is = let wrong : Err BadHead ≡ Ok next = is in cc
no_words n digit (part.Head, s) next is = let wrong : Err BadHead ≡ Ok next = is in cc
no_words n digit (part.Body, s) next is = by (body_line s n (title digit)) refl is
  where
    by : (r : Reading Script) → body_line s n (title digit) ≡ r → mapped (λ t. (part.Body, t)) r ≡ Ok next → ⊥
    by (Ok t) read is = no_body n digit s t read
    by (Err k) read is = cc

-- ---- a line

is-one : (line text : List ℕ) → bytes_eq line text ≡ true → line ≡ text
is-one line text same = (bytes_eq-Decides line text).0 same

no_line : (n : ℕ) (sofar next : Sofar) (line : List ℕ) → line_read n sofar line ≡ Ok next → is_title line ≡ false
no_line n sofar next line read =
    by (bytes_eq line (codes "report flatland 1")) refl (bytes_eq line (codes "report flatland 2")) refl (bytes_eq line (codes "report flatland 3")) refl
  where
    of : (text : List ℕ) → bytes_eq line text ≡ true → line_read n sofar text ≡ Ok next
    of text same = ap (line_read n sofar) (sym (is-one line text same)) ∙ read

    by : (p : Bool) → bytes_eq line (codes "report flatland 1") ≡ p → (q : Bool) → bytes_eq line (codes "report flatland 2") ≡ q → (r : Bool)
        → bytes_eq line (codes "report flatland 3") ≡ r → is_title line ≡ false
    by true one q two r three = absurd (no_words n 49 sofar next (of (codes "report flatland 1") one))
    by false one true two r three = absurd (no_words n 50 sofar next (of (codes "report flatland 2") two))
    by false one false two true three = absurd (no_words n 51 sofar next (of (codes "report flatland 3") three))
    by false one false two false three = rw (one, two, three) refl

-- ---- all lines

no_lines : (n : ℕ) (sofar : Sofar) (lines : List (List ℕ)) (s : Script) → lines_read n sofar lines ≡ Ok s → list_any is_title lines ≡ false
no_lines n sofar [] s read = refl
no_lines n sofar (line ∷ lines) s read = by (line_read n sofar line) refl (λ next rest. no_lines (n + 1) next lines s rest)
  where
    by : (r : Reading Sofar) → line_read n sofar line ≡ r → ((next : Sofar) → lines_read (n + 1) next lines ≡ Ok s → list_any is_title lines ≡ false)
        → list_any is_title (line ∷ lines) ≡ false
    by (Ok next) here rest =
        let later : lines_read (n + 1) next lines ≡ Ok s = rw here at read in
        let first = no_line n sofar next line here in
        let others = rest next later in
        rw (first, others) refl
    by (Err k) here rest = absurd (let wrong = rw here at read in cc)

pub scripts-have-no-title : ScriptsHaveNoTitle
scripts-have-no-title bytes s read = by (nat_lt 16777216 (length bytes)) (lines_of bytes) read
  where
    by : (b : Bool) (lines : List (List ℕ)) → cond {A = Result Script ScriptFault} b (Err (record { line = 0; kind = TooLong }))
        (lines_read 1 (part.Start, empty) lines) ≡ Ok s → list_any is_title lines ≡ false
    by true lines is = absurd (cc)
    by false lines is = no_lines 1 (part.Start, empty) lines s is
