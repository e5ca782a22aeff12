-- What is known of lines ahead, and what they are read to.
use Rattle.std.proofs.Common.{◌≡◌, ℕ, suc, ◌+◌, ◌<◌, ◌≤◌, Bool, true, false, not, cond, nat_lt, List, [], ◌∷◌, ◌++◌, length, drop, Option, Some, None, Result}
use Rattle.std.proofs.Common.{Ok, Err, IfSome, refl, ap, sym, subst, ◌∙◌, arith, ◌⊎◌, inl, inr, ⊎_elim, append-nil, append_assoc, slice_index_or}
use Rattle.std.specs.List.{list_all}
use Rattle.std.specs.Option.{option_map_or, option_to_list}
use Rattle.std.specs.declared.collections.VecDeque.{VecDeque}
use Rattle.std.proofs.lemmas.Bool.{le-ltb}
use Rattle.flat_base.specs.declared.ids.Actor.{Actor}
use Rattle.flat_text.specs.Pieces.{lines_of, words_of}
use Rattle.flat_scene.specs.declared.script.LineBody.{LineBody}
use Rattle.flat_places.specs.declared.kinds.FaultKind.{FaultKind}
use Rattle.flat_places.specs.declared.kinds.FaultKind.TheVariants.{NotAscii, LongLine, UnknownActor, Limit, BadHead}
use Rattle.flat_places.specs.declared.script.Script.{Script}
use Rattle.flat_places.specs.Forms.{Word, Reading, mapped}
use Rattle.flat_places.specs.Names.{actor_named}
use Rattle.flat_forms.specs.declared.lines.LineError.{LineError}
use Rattle.flat_forms.specs.declared.lines.LineError.TheVariants.{Kind, Memory}
use Rattle.flat_forms.specs.declared.lines.TextPart.{TextPart}
use Rattle.flat_forms.specs.declared.lines.TextPart.TheVariants as part
use Rattle.flat_forms.specs.Ahead.{IsSaid, head_of, taken_line, with_lines}
use Rattle.flat_forms.specs.Body.{actor_line, body_line, counted_line, lines_of_actor, with_line}
use Rattle.flat_forms.specs.Head.{empty}
use Rattle.flat_forms.specs.Lines.{Sofar, words_read}
use Rattle.flat_forms.specs.Steps.{Steps}
use Rattle.flat_forms.proofs.lemmas.FormLemmas.{mapped_ok, unless_ok}
use Rattle.flat_script.specs.declared.ahead.Ahead.{Ahead}
use Rattle.flat_script.specs.declared.ahead.Ahead.TheVariants.{Skipped, Said}
use Rattle.flat_script.specs.Ahead.{AreAhead, AreAheadIn, IsAhead, IsSaidBehind, Piece, is_body}
use Rattle.flat_script.specs.Grammar.{end_read, is_plain, is_skipped, line_read, lines_read, text_read}

-- ---- a line by itself

pub read_words : (n : ℕ) (sofar : Sofar) (line : List ℕ) → list_all is_plain line ≡ true → length line ≤ 1024 → is_skipped line ≡ false
    → line_read n sofar line ≡ words_read n sofar (words_of line)
read_words n sofar line plain short says = let long : nat_lt 1024 (length line) ≡ false = le-ltb 1024 (length line) short in rw (plain, long, says) refl

pub read_skipped : (n : ℕ) (sofar : Sofar) (line : List ℕ) → list_all is_plain line ≡ true → length line ≤ 1024 → is_skipped line ≡ true
    → line_read n sofar line ≡ Ok sofar
read_skipped n sofar line plain short skipped = let long : nat_lt 1024 (length line) ≡ false = le-ltb 1024 (length line) short in rw (plain, long, skipped) refl

pub said_behind : (s : Script) (line : List ℕ) (a : Actor) (b : LineBody) → list_all is_plain line ≡ true → length line ≤ 1024 → is_skipped line ≡ false
    → IsSaid s (words_of line) a b → IsSaidBehind (head_of s) line a b
said_behind s line a b plain short says said = record {
  counted = said.counted;
  reads = λ n lines. read_words n (part.Body, with_lines s lines) line plain short says ∙ ap (mapped (λ t. (part.Body, t))) (said.reads n lines);
}

-- a step in the body says a step of the script
pub steps_in_body : (result : Result (Unit {0}) LineError) (r : Reading Script) (new : Script) (old : Reading Sofar) (p : TextPart) → p ≡ part.Body
    → old ≡ mapped (λ t. (part.Body, t)) r → Steps result r new → Steps result old (p, new)
steps_in_body (Ok u) r new old p body is step = is ∙ ap (mapped (λ t. (part.Body, t))) step ∙ ap (λ q. Ok (q, new)) (sym body)
steps_in_body (Err (Kind k)) r new old p body is step = is ∙ ap (mapped (λ t. (part.Body, t))) step
steps_in_body (Err Memory) r new old p body is step = tt

-- ---- the head stays

named_head : (s : Script) (n : ℕ) (words : List Word) (o : Option Actor) (t : Script)
    → option_map_or (λ a. counted_line s n a words) o (Err UnknownActor) ≡ Ok t → head_of t ≡ head_of s
named_head s n words None t is = absurd (cc)
named_head s n words (Some a) t is =
    let tested = unless_ok Limit (nat_lt (lines_of_actor s a) 65536) (mapped (with_line s n a) (actor_line s a words)) t is in
    let made = mapped_ok (with_line s n a) (actor_line s a words) t tested.given in
    ap head_of (sym made.value)

body_head : (s : Script) (n : ℕ) (words : List Word) (t : Script) → body_line s n words ≡ Ok t → head_of t ≡ head_of s
body_head s n [] t is = absurd (cc)
body_head s n (w ∷ words) t is = named_head s n words (actor_named s w) t is

by_tests : (plain long skipped : Bool) (sofar next : Sofar) (words : Reading Sofar)
    → cond (not plain) (Err NotAscii) (cond long (Err LongLine) (cond skipped (Ok sofar) words)) ≡ Ok next → (sofar ≡ next) ⊎ (words ≡ Ok next)
by_tests true false true sofar next words is = inl (cc)
by_tests true false false sofar next words is = inr is
by_tests true true skipped sofar next words is = absurd (cc)
by_tests false long skipped sofar next words is = absurd (cc)

-- what a line of the body leaves
pub record StaysInBody (s : Script) (next : Sofar) : Type 0 where
  pub body : next.0 ≡ part.Body
  pub head : head_of next.1 ≡ head_of s

same_stays : (s : Script) (next : Sofar) → (part.Body, s) ≡ next → StaysInBody s next
same_stays s next is = record { body = ap (λ (x : Sofar). x.0) (sym is); head = ap (λ (x : Sofar). head_of x.1) (sym is) }

words_stay : (s : Script) (n : ℕ) (words : List Word) (next : Sofar) → words_read n (part.Body, s) words ≡ Ok next → StaysInBody s next
words_stay s n words next is =
    let made = mapped_ok (λ (t : Script). (part.Body, t)) (body_line s n words) next is in
    record { body = ap (λ (x : Sofar). x.0) (sym made.value); head = ap (λ (x : Sofar). head_of x.1) (sym made.value) ∙ body_head s n words made.a made.given }

stays : (s : Script) (n : ℕ) (line : List ℕ) (next : Sofar) → line_read n (part.Body, s) line ≡ Ok next → StaysInBody s next
stays s n line next is =
    ⊎_elim (λ same. same_stays s next same) (λ read. words_stay s n (words_of line) next read)
    (by_tests (list_all is_plain line) (nat_lt 1024 (length line)) (is_skipped line) (part.Body, s) next (words_read n (part.Body, s) (words_of line)) is)

pub line_stays : (old next : Sofar) (n : ℕ) (line : List ℕ) → old.0 ≡ part.Body → line_read n old line ≡ Ok next → StaysInBody old.1 next
line_stays (p, s) next n line body is = stays s n line next (ap (λ (q : TextPart). line_read n (q, s) line) (sym body) ∙ is)

-- ---- lines one after another

pub goes_on : (n : ℕ) (old new : Sofar) (lines : List (List ℕ)) (line : List ℕ) (rest later : List (List ℕ)) → lines ≡ line ∷ rest
    → line_read n old line ≡ Ok new → lines_read n old (lines ++ later) ≡ lines_read (n + 1) new (rest ++ later)
goes_on n old new lines line rest later begins read = ap (λ ls. lines_read n old (ls ++ later)) begins ∙ rw read refl

pub fails_here : (n : ℕ) (old : Sofar) (lines : List (List ℕ)) (line : List ℕ) (rest later : List (List ℕ)) (k : FaultKind) → lines ≡ line ∷ rest
    → line_read n old line ≡ Err k → lines_read n old (lines ++ later) ≡ Err (record { line = n; kind = k })
fails_here n old lines line rest later k begins read = ap (λ ls. lines_read n old (ls ++ later)) begins ∙ rw read refl

-- ---- what is known of the first line, and of the rest

dropped : {A : Type 0} (xs : List A) → xs ≡ drop 1 xs → xs ≡ []
dropped [] same = refl
dropped (x ∷ xs) same = absurd (omega (arith, ap length same))

pub record FirstAhead (head : Script) (known : Option Ahead) (left : List Ahead) (line : List ℕ) (rest : List (List ℕ)) : Type 0 where
  pub first : IfSome known (λ one. IsAhead head one line)
  pub more : AreAhead head left rest

pub ahead_first : (head : Script) (known : Option Ahead) (old left : List Ahead) (lines : List (List ℕ)) (line : List ℕ) (rest : List (List ℕ))
    → old ≡ option_to_list known ++ left → left ≡ drop 1 old → lines ≡ line ∷ rest
    → AreAhead head old lines → FirstAhead head known left line rest
ahead_first head None old left lines line rest taken drops begins ahead =
    let none : left ≡ [] = dropped left (drops ∙ ap (drop 1) taken) in
    record { first = tt; more = subst (λ (xs : List Ahead). AreAhead head xs rest) (sym none) tt }
ahead_first head (Some one) old left lines line rest taken drops begins ahead =
    let both : AreAhead head (one ∷ left) (line ∷ rest) =
    subst (λ (ls : List (List ℕ)). AreAhead head (one ∷ left) ls) begins (subst (λ (xs : List Ahead). AreAhead head xs lines) taken ahead) in
    record { first = both.0; more = both.1 }

pub record FirstAheadIn {Z : Type 0} (head : Script) (known : Option (VecDeque Ahead Z)) (left : List (VecDeque Ahead Z)) (piece : Piece)
    (rest : List Piece) : Type 0 where
  pub first : IfSome known (λ one. AreAhead head one.items (lines_of piece.now))
  pub more : AreAheadIn head left rest

pub ahead_in_first : {Z : Type 0} (head : Script) (known : Option (VecDeque Ahead Z)) (old left : List (VecDeque Ahead Z)) (pieces : List Piece) (piece : Piece)
    (rest : List Piece) → old ≡ option_to_list known ++ left → left ≡ drop 1 old → pieces ≡ piece ∷ rest
    → AreAheadIn head old pieces → FirstAheadIn head known left piece rest
ahead_in_first {Z = Z} head None old left pieces piece rest taken drops begins ahead =
    let none : left ≡ [] = dropped left (drops ∙ ap (drop 1) taken) in
    record { first = tt; more = subst (λ (xs : List (VecDeque Ahead Z)). AreAheadIn head xs rest) (sym none) tt }
ahead_in_first {Z = Z} head (Some one) old left pieces piece rest taken drops begins ahead =
    let both : AreAheadIn head (one ∷ left) (piece ∷ rest) =
    subst (λ (ps : List Piece). AreAheadIn head (one ∷ left) ps) begins (subst (λ (xs : List (VecDeque Ahead Z)). AreAheadIn head xs pieces) taken ahead) in
    record { first = both.0; more = both.1 }

-- what is known of each piece is known of all
pub ahead_in_all : {Z : Type 0} (head : Script) (known : List (VecDeque Ahead Z)) (pieces : List Piece)
    → ((i : ℕ) (d : VecDeque Ahead Z) (e : Piece) → i < length known → i < length pieces
    → AreAhead head (slice_index_or known i d).items (lines_of (slice_index_or pieces i e).now)) → AreAheadIn head known pieces
ahead_in_all head [] pieces each = tt
ahead_in_all head (k ∷ known) [] each = tt
ahead_in_all head (k ∷ known) (p ∷ pieces) each = (
  each 0 k p (omega arith) (omega arith),
  ahead_in_all head known pieces (λ i d e within inside. each (suc i) d e (omega arith) (omega arith)),
)

-- ---- the end

pub ends_early : (n : ℕ) (p : TextPart) (s : Script) → is_body p ≡ false → end_read n (p, s) ≡ Err (record { line = n; kind = BadHead })
ends_early n part.Start s none = refl
ends_early n part.Head s none = refl
ends_early n part.Body s none = absurd (cc)

-- ---- a line that was read ahead

pub said_step : (result : Result (Unit {0}) LineError) (s new : Script) (p q : TextPart) (n : ℕ) (line : List ℕ) (a : Actor) (b : LineBody) → p ≡ part.Body
    → q ≡ part.Body → IsSaidBehind (head_of s) line a b → Steps result (taken_line s n a b) new → Steps result (line_read n (p, s) line) (q, new)
said_step result s new p q n line a b before after said step =
    steps_in_body result (taken_line s n a b) new (line_read n (p, s) line) q after
    (ap (λ (x : TextPart). line_read n (x, s) line) before ∙ said.reads n s.lines)
    step

known_is : (head : Script) (line : List ℕ) (known : Option Ahead) (one other : Ahead) → known ≡ Some one → one ≡ other → IfSome known (λ x. IsAhead head x line)
    → IsAhead head other line
known_is head line known one other is same given =
    let first : IsAhead head one line = subst (λ (k : Option Ahead). IfSome k (λ x. IsAhead head x line)) is given in
    subst (λ (x : Ahead). IsAhead head x line) same first

pub known_said : (head : Script) (line : List ℕ) (known : Option Ahead) (one : Ahead) (a : Actor) (b : LineBody) → known ≡ Some one → one ≡ Said a b
    → IfSome known (λ x. IsAhead head x line) → IsSaidBehind head line a b
known_said head line known one a b is same given = known_is head line known one (Said a b) is same given

pub known_skipped : (head : Script) (line : List ℕ) (known : Option Ahead) (one : Ahead) (n : ℕ) (sofar : Sofar) → known ≡ Some one → one ≡ Skipped
    → IfSome known (λ x. IsAhead head x line) → line_read n sofar line ≡ Ok sofar
known_skipped head line known one n sofar is same given = known_is head line known one Skipped is same given n sofar

-- ---- one line more that is known of

pub more_ahead : (head : Script) (whole : List (List ℕ)) (old new : List Ahead) (x : Ahead) (lines : List (List ℕ)) (line : List ℕ) (rest : List (List ℕ))
    → new ≡ old ++ x ∷ [] → lines ≡ line ∷ rest → IsAhead head x line
    → ((more : List Ahead) → AreAhead head more lines → AreAhead head (old ++ more) whole) → (more : List Ahead) → AreAhead head more rest
    → AreAhead head (new ++ more) whole
more_ahead head whole old new x lines line rest grows begins one all more ahead =
    let both : AreAhead head (x ∷ more) lines = subst (λ (ls : List (List ℕ)). AreAhead head (x ∷ more) ls) (sym begins) (one, ahead) in
    subst (λ (xs : List Ahead). AreAhead head xs whole) (sym (append_assoc old (x ∷ []) more) ∙ ap (λ (xs : List Ahead). xs ++ more) (sym grows))
    (all (x ∷ more) both)

pub all_ahead : (head : Script) (lines : List (List ℕ)) (xs ys : List Ahead) → ys ≡ xs → AreAhead head (xs ++ []) lines → AreAhead head ys lines
all_ahead head lines xs ys same ahead = subst (λ (zs : List Ahead). AreAhead head zs lines) (append-nil xs ∙ sym same) ahead

pub no_lines : (text : List ℕ) → length text ≡ 0 → lines_of text ≡ []
no_lines [] none = refl
no_lines (x ∷ text) none = absurd (omega arith)

-- ---- a whole text

pub whole_text : (bytes : List ℕ) (sofar : Sofar) → length bytes ≤ 16777216 → sofar ≡ (part.Start, empty)
    → text_read bytes ≡ lines_read 1 sofar (lines_of bytes)
whole_text bytes sofar short new =
    let long : nat_lt 16777216 (length bytes) ≡ false = le-ltb 16777216 (length bytes) short in
    rw long (ap (λ (s : Sofar). lines_read 1 s (lines_of bytes)) (sym new))

pub reads_to_end : (lines : List (List ℕ)) (n m : ℕ) (old new : Sofar) → ((later : List (List ℕ)) → lines_read n old (lines ++ later) ≡ lines_read m new later)
    → lines_read n old lines ≡ end_read m new
reads_to_end lines n m old new reads = ap (λ ls. lines_read n old ls) (sym (append-nil lines)) ∙ reads []
