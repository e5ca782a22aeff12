-- A text is cut between its lines.
use Rattle.std.proofs.Common.{◌≡◌, ◌⊎◌, inl, inr, ℕ, suc, ◌+◌, ◌-◌, ◌<◌, ◌||◌, ◌==◌, not, cond, Bool, true, false, List, [], ◌∷◌, ◌++◌, length, take}
use Rattle.std.proofs.Common.{drop, append-nil, append_assoc, length-append, refl, subst, sym, ap, ◌∙◌, arith}
use Rattle.std.specs.List.{list_any, before_first, after_first, position_or_len, slice_split}
use Rattle.std.proofs.lemmas.Bool.{eqb-true}
use Rattle.std.proofs.lemmas.Bool.Decides.{nat_tests}
use Rattle.std.proofs.lemmas.List.{take-append-drop}
use Rattle.std.proofs.lemmas.List.Splits.{slice_split-cons_yes, slice_split-cons_no, length-slice_split}
use Rattle.flat_text.specs.Pieces.{is_feed, lines_of, without_empty_end}
use Rattle.flat_judge.specs.Cuts.{IsCut, is_title}

-- ---- a line and its feed

-- where a text is cut at its first feed
pub record IsLine (text line later : List ℕ) : Type 0 where
  pub fed : list_any is_feed line ≡ false
  pub whole : (text ≡ line ++ 10 ∷ later) ⊎ ((text ≡ line) × (later ≡ []))

pub first-line : (text : List ℕ) → IsLine text (before_first is_feed text) (after_first is_feed text)
first-line [] = record { fed = refl; whole = inr (refl, refl) }
first-line (x ∷ text) = by (is_feed x) refl (first-line text)
  where
    on : ((text ≡ before_first is_feed text ++ 10 ∷ after_first is_feed text) ⊎ ((text ≡ before_first is_feed text) × (after_first is_feed text ≡ [])))
        → ((x ∷ text ≡ (x ∷ before_first is_feed text) ++ 10 ∷ after_first is_feed text)
        ⊎ ((x ∷ text ≡ x ∷ before_first is_feed text) × (after_first is_feed text ≡ [])))
    on (inl with) = inl (ap (λ (t : List ℕ). x ∷ t) with)
    on (inr without) = inr (ap (λ (t : List ℕ). x ∷ t) without.0, without.1)

    n : ℕ
    n = position_or_len is_feed text

    At : ℕ → ℕ → Type 0
    At front back = IsLine (x ∷ text) (take front (x ∷ text)) (drop back (x ∷ text))

    by : (b : Bool) → is_feed x ≡ b → IsLine text (take n text) (drop (n + 1) text)
        → IsLine (x ∷ text) (before_first is_feed (x ∷ text)) (after_first is_feed (x ∷ text))
    by true is later =
        let none : cond (not (is_feed x)) (1 + n) 0 ≡ 0 = ap (λ b. cond (not b) (1 + n) 0) is in
        let one : cond (not (is_feed x)) (1 + n) 0 + 1 ≡ 1 = ap (λ (k : ℕ). k + 1) none in
        let here : At 0 1 = record { fed = refl; whole = inl (ap (λ (c : ℕ). c ∷ text) (eqb-true x 10 is)) } in
        let P : ℕ → Type 0 = At 0 in
        let Q : ℕ → Type 0 = λ k. At k (cond (not (is_feed x)) (1 + n) 0 + 1) in
        subst Q (sym none) (subst P (sym one) here)
    by false is later =
        let some : cond (not (is_feed x)) (1 + n) 0 ≡ suc n = ap (λ b. cond (not b) (1 + n) 0) is ∙ omega arith in
        let more : cond (not (is_feed x)) (1 + n) 0 + 1 ≡ suc (n + 1) = omega (arith, some) in
        let fed : list_any is_feed (x ∷ take n text) ≡ false = rw is later.fed in
        let here : At (suc n) (suc (n + 1)) = record { fed = fed; whole = on later.whole } in
        let P : ℕ → Type 0 = At (suc n) in
        let Q : ℕ → Type 0 = λ k. At k (cond (not (is_feed x)) (1 + n) 0 + 1) in
        subst Q (sym some) (subst P (sym more) here)

split-line : (line later : List ℕ) → list_any is_feed line ≡ false → slice_split is_feed (line ++ 10 ∷ later) ≡ line ∷ slice_split is_feed later
split-line [] later none = slice_split-cons_yes is_feed 10 later refl
split-line (x ∷ line) later none = by (is_feed x) refl none (split-line line later)
  where
    by : (b : Bool) → is_feed x ≡ b → (b || list_any is_feed line) ≡ false
        → (list_any is_feed line ≡ false → slice_split is_feed (line ++ 10 ∷ later) ≡ line ∷ slice_split is_feed later)
        → slice_split is_feed (x ∷ (line ++ 10 ∷ later)) ≡ (x ∷ line) ∷ slice_split is_feed later
    by true is none rest = absurd (let wrong : true ≡ false = none in cc)
    by false is none rest = slice_split-cons_no is_feed x (line ++ 10 ∷ later) is ∙ rw (rest none) refl

some-piece : (text : List ℕ) → 0 < length (slice_split is_feed text)
some-piece text = omega (arith, length-slice_split is_feed text)

onto-lines : (x : List ℕ) (pieces : List (List ℕ)) → 0 < length pieces → without_empty_end (x ∷ pieces) ≡ x ∷ without_empty_end pieces
onto-lines x [] some = absurd (omega arith)
onto-lines x (y ∷ more) some = refl

-- a line with its feed stands before the lines of what follows
pub lines-line : (line later : List ℕ) → list_any is_feed line ≡ false → lines_of (line ++ 10 ∷ later) ≡ line ∷ lines_of later
lines-line line later none = ap without_empty_end (split-line line later none) ∙ onto-lines line (slice_split is_feed later) (some-piece later)

-- ---- a part of a text that ends between lines

-- the lines of what follows come behind the part's own
abbrev EndsLine : List ℕ → Type 0
EndsLine before = (later : List ℕ) → lines_of (before ++ later) ≡ lines_of before ++ lines_of later

ends-more : (before line : List ℕ) → EndsLine before → list_any is_feed line ≡ false → lines_of (before ++ (line ++ 10 ∷ [])) ≡ lines_of before ++ line ∷ []
ends-more before line ends none = ends (line ++ 10 ∷ []) ∙ ap (λ ls. lines_of before ++ ls) (lines-line line [] none)

line-ends : (before line : List ℕ) → EndsLine before → list_any is_feed line ≡ false → EndsLine (before ++ (line ++ 10 ∷ []))
line-ends before line ends none later =
    ap lines_of (append_assoc before (line ++ 10 ∷ []) later ∙ ap (λ t. before ++ t) (append_assoc line (10 ∷ []) later))
    ∙ ends (line ++ 10 ∷ later)
    ∙ ap (λ ls. lines_of before ++ ls) (lines-line line later none)
    ∙ sym (append_assoc (lines_of before) (line ∷ []) (lines_of later))
    ∙ ap (λ ls. ls ++ lines_of later) (sym (ends-more before line ends none))

no-more : (lines : List (List ℕ)) (line : List ℕ) → list_any is_title lines ≡ false → is_title line ≡ false → list_any is_title (lines ++ line ∷ []) ≡ false
no-more [] line none is = rw is refl
no-more (first ∷ lines) line none is = by (is_title first) refl none (λ rest. no-more lines line rest is)
  where
    by : (b : Bool) → is_title first ≡ b → (b || list_any is_title lines) ≡ false
        → (list_any is_title lines ≡ false → list_any is_title (lines ++ line ∷ []) ≡ false)
        → (is_title first || list_any is_title (lines ++ line ∷ [])) ≡ false
    by true here none later = absurd (let wrong : true ≡ false = none in cc)
    by false here none later = let rest = later none in rw (here, rest) refl

alone : (line : List ℕ) → list_any is_feed line ≡ false → slice_split is_feed line ≡ line ∷ []
alone [] none = refl
alone (x ∷ line) none = by (is_feed x) refl none (alone line)
  where
    by : (b : Bool) → is_feed x ≡ b → (b || list_any is_feed line) ≡ false → (list_any is_feed line ≡ false → slice_split is_feed line ≡ line ∷ [])
        → slice_split is_feed (x ∷ line) ≡ (x ∷ line) ∷ []
    by true is none rest = absurd (let wrong : true ≡ false = none in cc)
    by false is none rest = slice_split-cons_no is_feed x line is ∙ rw (rest none) refl

filled : (line : List ℕ) → 0 < length line → without_empty_end (line ∷ []) ≡ line ∷ []
filled [] some = absurd (omega arith)
filled (x ∷ line) some = let test : (suc (length line) == 0) ≡ false = grind (arith, nat_tests) in rw test refl

-- a line without its feed is the last one
whole-line : (line : List ℕ) → list_any is_feed line ≡ false → 0 < length line → lines_of line ≡ line ∷ []
whole-line line none some = ap without_empty_end (alone line none) ∙ filled line some

-- ---- how far the lines of a text are read

-- What is left of a text stands behind lines of which none begins a report.
pub record Reached (text rest : List ℕ) : Type 0 where
  pub before : List ℕ
  pub is : text ≡ before ++ rest
  pub ends : (rest ≡ []) ⊎ EndsLine before
  pub lines : lines_of text ≡ lines_of before ++ lines_of rest
  pub none : list_any is_title (lines_of before) ≡ false

pub reached-first : (text : List ℕ) → Reached text text
reached-first text = record { before = []; is = refl; ends = inr (λ later. refl); lines = refl; none = refl }

pub reached-on : (text rest line later : List ℕ) → Reached text rest → 0 < length rest → line ≡ before_first is_feed rest → later ≡ after_first is_feed rest
    → is_title line ≡ false → Reached text later
reached-on text rest line later reached some line_is later_is plain =
    by_ends reached.ends (subst (λ (l : List ℕ). IsLine rest l later) (sym line_is)
    (subst (λ (l : List ℕ). IsLine rest (before_first is_feed rest) l) (sym later_is) (first-line rest)))
  where
    by_ends : ((rest ≡ []) ⊎ EndsLine reached.before) → IsLine rest line later → Reached text later
    by_ends (inl empty) is_line = absurd (let none : length rest ≡ 0 = ap length empty in omega (arith, some, none))
    by_ends (inr ends) is_line = by_line is_line.whole
      where
        by_line : ((rest ≡ line ++ 10 ∷ later) ⊎ ((rest ≡ line) × (later ≡ []))) → Reached text later
        by_line (inl with) =
            let grown : text ≡ (reached.before ++ (line ++ 10 ∷ [])) ++ later =
            reached.is ∙ ap (λ t. reached.before ++ t) (with ∙ sym (append_assoc line (10 ∷ []) later))
            ∙ sym (append_assoc reached.before (line ++ 10 ∷ []) later) in
            let behind : EndsLine (reached.before ++ (line ++ 10 ∷ [])) = line-ends reached.before line ends is_line.fed in
            record {
              before = reached.before ++ (line ++ 10 ∷ []);
              is = grown;
              ends = inr behind;
              lines = ap lines_of grown ∙ behind later;
              none = ap (list_any is_title) (ends-more reached.before line ends is_line.fed) ∙ no-more (lines_of reached.before) line reached.none plain;
            }
        by_line (inr without) =
            let all : lines_of text ≡ lines_of reached.before ++ line ∷ [] = reached.lines ∙ ap (λ ls. lines_of reached.before ++ ls) last in
            record {
              before = text;
              is = sym (append-nil text) ∙ ap (λ t. text ++ t) (sym without.1);
              ends = inl without.1;
              lines = sym (append-nil (lines_of text)) ∙ ap (λ t. lines_of text ++ lines_of t) (sym without.1);
              none = ap (list_any is_title) all ∙ no-more (lines_of reached.before) line reached.none plain;
            }
          where
            last : lines_of rest ≡ line ∷ []
            last = ap lines_of without.0 ∙ whole-line line is_line.fed (let same : length rest ≡ length line = ap length without.0 in omega (arith, some, same))

-- ---- where it is cut

pub take-front : (xs ys : List ℕ) → take (length xs) (xs ++ ys) ≡ xs
take-front [] ys = refl
take-front (x ∷ xs) ys = ap (λ (l : List ℕ). x ∷ l) (take-front xs ys)

pub drop-front : (xs ys : List ℕ) → drop (length xs) (xs ++ ys) ≡ ys
drop-front [] ys = refl
drop-front (x ∷ xs) ys = drop-front xs ys

-- before a line that begins a report
pub cut-here : (text rest : List ℕ) (at : ℕ) → Reached text rest → 0 < length rest → at ≡ length text - length rest
    → is_title (before_first is_feed rest) ≡ true → IsCut text (take at text) (drop at text)
cut-here text rest at reached some at_is titled = by reached.ends
  where
    place : at ≡ length reached.before
    place = let all : length text ≡ length reached.before + length rest = ap length reached.is ∙ length-append reached.before rest in omega (arith, at_is, all)

    front : take at text ≡ reached.before
    front = (λ i. take (place i) (reached.is i)) ∙ take-front reached.before rest

    back : drop at text ≡ rest
    back = (λ i. drop (place i) (reached.is i)) ∙ drop-front reached.before rest

    by : ((rest ≡ []) ⊎ EndsLine reached.before) → IsCut text (take at text) (drop at text)
    by _ = record {
      whole = sym (take-append-drop at text);
      lines = reached.lines ∙ (λ i. lines_of (sym front i) ++ lines_of (sym back i));
      none = ap (λ t. list_any is_title (lines_of t)) front ∙ reached.none;
      titled = inr (ap (λ t. is_title (before_first is_feed t)) back ∙ titled);
    }

-- or nowhere
pub cut-nowhere : (text rest : List ℕ) (at : ℕ) → Reached text rest → rest ≡ [] → at ≡ length text → IsCut text (take at text) (drop at text)
cut-nowhere text rest at reached empty at_is =
    let all : text ≡ reached.before = reached.is ∙ ap (λ t. reached.before ++ t) empty ∙ append-nil reached.before in
    let front : take at text ≡ text = ap (λ (n : ℕ). take n text) at_is ∙ sym (ap (take (length text)) (append-nil text)) ∙ take-front text [] in
    let back : drop at text ≡ [] = ap (λ (n : ℕ). drop n text) at_is ∙ sym (ap (drop (length text)) (append-nil text)) ∙ drop-front text [] in
    record {
      whole = sym (take-append-drop at text);
      lines = sym (append-nil (lines_of text)) ∙ (λ i. lines_of (sym front i) ++ lines_of (sym back i));
      none = ap (λ t. list_any is_title (lines_of t)) (front ∙ all) ∙ reached.none;
      titled = inl back;
    }
