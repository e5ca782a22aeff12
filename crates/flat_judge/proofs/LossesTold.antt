-- Displays that are lost one behind another, as a report tells them.
use Rattle.std.proofs.Common.{◌≡◌, ℕ, suc, ◌+◌, ◌<◌, ◌≤◌, ◌^◌, ◌==◌, ◌&&◌, ◌||◌, not, nat_lt, nat_le, Bool, true, false, List, [], ◌∷◌, ◌++◌}
use Rattle.std.proofs.Common.{length, map, take, drop, codes, Some, None, refl, sym, ap, ◌∙◌, subst, arith, append_assoc, append-nil, length-append}
use Rattle.std.proofs.lemmas.List.{map-append, take-append-drop}
use Rattle.std.proofs.lemmas.Grind.{common_steps}
use Rattle.flat_report.proofs.lemmas.Tails.{text-append}
use Rattle.std.specs.List.{list_all}
use Rattle.std.proofs.lemmas.Bool.{and_parts, eqb-true}
use Rattle.std.proofs.lemmas.Bool.Decides.{nat_tests}
use Rattle.flat_base.proofs.lemmas.Tests.{all-more, and-left, and-right, and-true}
use Rattle.flat_scene.specs.declared.frames.LostDisplay.{LostDisplay}
use Rattle.flat_scene.specs.declared.journal.Entry.{Entry}
use Rattle.flat_rules.specs.Legal.{frames}
use Rattle.flat_lines.specs.FrameLines.{lost_at, lost_line}
use Rattle.flat_report.specs.Report.{is_loss, is_lost_before}
use Rattle.flat_report.proofs.lemmas.Losses.{is_at, is_small}
use Rattle.flat_report.proofs.lemmas.Openings.{NoLoss, lost_words}
use Rattle.flat_report.proofs.lemmas.Sheets.{laid, laid-same, line_on, number-word, sheet, text-sheet, told-next}
use Rattle.flat_report.specs.Runs.{is_display_number}
use Rattle.std.proofs.lemmas.Fmt.{decimal_injective}
use Rattle.std.proofs.lemmas.List.{append_cancel_left}
use Rattle.flat_page.specs.Words.{number, text_of}
use Rattle.flat_text.proofs.lemmas.NumberLemmas.{natural-decimal}
use Rattle.flat_judge.proofs.NextWords.{loss-next}
use Rattle.flat_judge.specs.Following.{AreLosses, Begins, NoMoreLost, Passes, ReadsLoss, ReadsLosses, are_behind, fits_behind, next_display}
use Rattle.flat_judge.proofs.Fitting.{goes_before, loss-more}

-- ---- losses stand in order

pub loss-parts : (history : List Entry) (a : LostDisplay) (later : List LostDisplay) → is_loss history (a ∷ later) ≡ true
    → (list_all (goes_before a) later ≡ true) × (is_loss history later ≡ true)
loss-parts history a later is =
    let number_fits = nat_lt 0 a.frame.0 && nat_le a.frame.0 (frames history) in
    let first = and-left (number_fits && list_all (goes_before a) later) (is_loss history later) is in
    (and-right number_fits (list_all (goes_before a) later) first, and-right (number_fits && list_all (goes_before a) later) (is_loss history later) is)

later-behind : (n : ℕ) (a : LostDisplay) (later : List LostDisplay) → n < a.frame.0 → list_all (goes_before a) later ≡ true → are_behind n later ≡ true
later-behind n a [] less before = refl
later-behind n a (b ∷ later) less before =
    let here : goes_before a b ≡ true = and-left (goes_before a b) (list_all (goes_before a) later) before in
    let order : is_lost_before a b ≡ true = and-left (is_lost_before a b) (not (b.display == a.display)) here in
    let above : nat_lt n b.frame.0 ≡ true = by (nat_lt a.frame.0 b.frame.0) refl order in
    and-true above (later-behind n a later less (and-right (goes_before a b) (list_all (goes_before a) later) before))
  where
    by : (t : Bool) → nat_lt a.frame.0 b.frame.0 ≡ t → (t || (a.frame.0 == b.frame.0 && nat_lt a.display b.display)) ≡ true → nat_lt n b.frame.0 ≡ true
    by true is order = grind (arith, nat_tests)
    by false is order = let same : (a.frame.0 == b.frame.0) ≡ true =
        and-left (a.frame.0 == b.frame.0) (nat_lt a.display b.display) order in grind (arith, nat_tests)

abbrev pub are_at : ℕ → List LostDisplay → Bool
are_at n lost = list_all (λ one. one.frame.0 == n) lost

-- Losses behind a frame are those of the next one, and those of later ones.
pub record Parted (frame : ℕ) (lost : List LostDisplay) : Type 0 where
  pub here : List LostDisplay
  pub later : List LostDisplay
  pub is : lost ≡ here ++ later
  pub are_here : are_at (suc frame) here ≡ true
  pub are_later : are_behind (suc frame) later ≡ true

pub part : (history : List Entry) (frame : ℕ) (lost : List LostDisplay) → are_behind frame lost ≡ true → is_loss history lost ≡ true → Parted frame lost
part history frame [] behind loss = record { here = []; later = []; is = refl; are_here = refl; are_later = refl }
part history frame (x ∷ lost) behind loss =
    by (x.frame.0 == suc frame) refl (part history frame lost (and-right (nat_lt frame x.frame.0) (are_behind frame lost) behind)
    (loss-parts history x lost loss).1)
  where
    parts : (list_all (goes_before x) lost ≡ true) × (is_loss history lost ≡ true)
    parts = loss-parts history x lost loss

    above : nat_lt frame x.frame.0 ≡ true
    above = and-left (nat_lt frame x.frame.0) (are_behind frame lost) behind

    by : (t : Bool) → (x.frame.0 == suc frame) ≡ t → Parted frame lost → Parted frame (x ∷ lost)
    by true is rest =
        record {
          here = x ∷ rest.here;
          later = rest.later;
          is = ap (λ (ls : List LostDisplay). x ∷ ls) rest.is;
          are_here = and-true is rest.are_here;
          are_later = rest.are_later;
        }
    by false is rest =
        let first = above in
        let more : suc frame < x.frame.0 = grind (arith, nat_tests) in
        let first_later : nat_lt (suc frame) x.frame.0 ≡ true = grind (arith, nat_tests) in
        record { here = []; later = x ∷ lost; is = refl; are_here = refl; are_later = and-true first_later (later-behind (suc frame) x lost more parts.0) }

none-behind : (n : ℕ) (later : List LostDisplay) → are_behind n later ≡ true → lost_at n later ≡ []
none-behind n [] of_later = refl
none-behind n (x ∷ later) of_later =
    let first = and-left (nat_lt n x.frame.0) (are_behind n later) of_later in
    let other : (x.frame.0 == n) ≡ false = grind (arith, nat_tests) in
    rw other (none-behind n later (and-right (nat_lt n x.frame.0) (are_behind n later) of_later))

-- those at the frame, among all
pub at-here : (n : ℕ) (here later : List LostDisplay) → are_at n here ≡ true → are_behind n later ≡ true → lost_at n (here ++ later) ≡ here
at-here n [] later of_here of_later = none-behind n later of_later
at-here n (x ∷ here) later of_here of_later =
    let first = and-left (x.frame.0 == n) (are_at n here) of_here in
    rw first (ap (λ (ls : List LostDisplay). x ∷ ls) (at-here n here later (and-right (x.frame.0 == n) (are_at n here) of_here) of_later))

among : (a : LostDisplay) (before : List LostDisplay) (x : LostDisplay) (after : List LostDisplay) → list_all (goes_before a) (before ++ x ∷ after) ≡ true
    → goes_before a x ≡ true
among a [] x after all = and-left (goes_before a x) (list_all (goes_before a) after) all
among a (b ∷ before) x after all = among a before x after (and-right (goes_before a b) (list_all (goes_before a) (before ++ x ∷ after)) all)

-- a loss fits behind those before it
pub fits-there : (history : List Entry) (before : List LostDisplay) (x : LostDisplay) (after : List LostDisplay) → is_loss history (before ++ x ∷ after) ≡ true
    → fits_behind before x ≡ true
fits-there history [] x after loss = refl
fits-there history (a ∷ before) x after loss =
    let parts = loss-parts history a (before ++ x ∷ after) loss in
    and-true (among a before x after parts.0) (fits-there history before x after parts.1)

-- ---- what was read is what a run's report tells

-- what a display's number says
pub above-none : (n : ℕ) → is_display_number n ≡ true → 0 < n
above-none n is = let some : nat_lt 0 n ≡ true = and-left (nat_lt 0 n) (nat_lt n (2 ^ 32)) is in grind (arith, nat_tests)

pub of-32-bits : (n : ℕ) → is_display_number n ≡ true → n < 2 ^ 32
of-32-bits n is =
    let few : nat_lt n (2 ^ 32) ≡ true = and-right (nat_lt 0 n) (nat_lt n (2 ^ 32)) is in
    let less : n < 4294967296 = grind (arith, nat_tests) in omega (arith, less)

small : (one : LostDisplay) → is_small one ≡ true → one.display < 2 ^ 64
small one fits = let few = of-32-bits one.display fits in omega (arith, few)

-- the line of a display that was lost tells which
pub next-is : (one : LostDisplay) (text rest : List ℕ) → is_display_number one.display ≡ true → text ≡ text_of (lost_line one ∷ []) ++ rest
    → next_display text ≡ Some one.display
next-is one text rest low is = ap next_display (is ∙ text-sheet (lost_line one ∷ []) rest)
    ∙ loss-next one rest (natural-decimal one.display (let less = small one low in omega (arith, less)))

same-loss : (x y : LostDisplay) → x.display ≡ y.display → x.frame.0 ≡ y.frame.0 → x ≡ y
same-loss x y display frame = λ i. record { display = display i; frame = record { 0 = frame i } }

first-loss : (n : ℕ) (x y : LostDisplay) (a b : List ℕ) → is_at n x ≡ true → is_at n y ≡ true → line_on (lost_line x) a ≡ line_on (lost_line y) b → (x ≡ y)
    × (a ≡ b)
first-loss n x y a b at_x at_y is =
    let of_x = and_parts (x.frame.0 == n) (is_small x) at_x in
    let of_y = and_parts (y.frame.0 == n) (is_small y) at_y in
    let behind = append_cancel_left (codes "display") (laid (number x.display ∷ codes "lost" ∷ lost_words x) a)
    (laid (number y.display ∷ codes "lost" ∷ lost_words y) b) is in
    let parts = told-next (number x.display) (number y.display) (codes "lost" ∷ lost_words x) (codes "lost" ∷ lost_words y) a b (number-word x.display)
    (number-word y.display) behind in
    let display : x.display ≡ y.display = decimal_injective x.display y.display (small x of_x.1) (small y of_y.1) parts.0 in
    let frame : x.frame.0 ≡ y.frame.0 = eqb-true x.frame.0 n of_x.0 ∙ sym (eqb-true y.frame.0 n of_y.0) in
    let rest : laid (codes "lost" ∷ lost_words y) a ≡ laid (codes "lost" ∷ lost_words y) b =
    ap (λ (m : ℕ). laid (codes "lost" ∷ codes "at" ∷ codes "frame" ∷ number m ∷ []) a) (sym frame) ∙ parts.1 in
    (same-loss x y display frame, laid-same (codes "lost" ∷ lost_words y) a b rest)

pub same-losses : (frame : ℕ) (history : List Entry) (before new here later : List LostDisplay) (x a : List ℕ) → list_all (is_at frame) new ≡ true
    → list_all (is_at frame) here ≡ true
    → is_loss history (before ++ (here ++ later)) ≡ true → NoMoreLost frame (before ++ new) x → NoLoss a
    → sheet (map lost_line new) x ≡ sheet (map lost_line here) a → new ≡ here
same-losses frame history before [] [] later x a of_new of_here loss stops none is = refl
same-losses frame history before [] (y ∷ here) later x a of_new of_here loss stops none is =
    let of_y : is_at frame y ≡ true = and-left (is_at frame y) (list_all (is_at frame) here) of_here in
    let small : is_small y ≡ true = and-right (y.frame.0 == frame) (is_small y) of_y in
    let at : y.frame.0 ≡ frame = eqb-true y.frame.0 frame (and-left (y.frame.0 == frame) (is_small y) of_y) in
    let fits : fits_behind (before ++ []) y ≡ true = ap (λ (ls : List LostDisplay). fits_behind ls y) (append-nil before)
    ∙ fits-there history before y (here ++ later) loss in
    absurd (stops y (sheet (map lost_line here) a) at small fits (is ∙ sym (text-sheet (lost_line y ∷ []) (sheet (map lost_line here) a))))
same-losses frame history before (n ∷ new) [] later x a of_new of_here loss stops none is = absurd (none n (sheet (map lost_line new) x) (sym is))
same-losses frame history before (n ∷ new) (y ∷ here) later x a of_new of_here loss stops none is =
    let of_n : is_at frame n ≡ true = and-left (is_at frame n) (list_all (is_at frame) new) of_new in
    let of_y : is_at frame y ≡ true = and-left (is_at frame y) (list_all (is_at frame) here) of_here in
    let first = first-loss frame n y (sheet (map lost_line new) x) (sheet (map lost_line here) a) of_n of_y is in
    let L : List LostDisplay → Type 0 = λ ls. is_loss history ls ≡ true in
    let N : List LostDisplay → Type 0 = λ ls. NoMoreLost frame ls x in
    let loss' : is_loss history ((before ++ n ∷ []) ++ (here ++ later)) ≡ true =
    subst L (ap (λ (z : LostDisplay). before ++ z ∷ (here ++ later)) (sym first.0) ∙ sym (append_assoc before (n ∷ []) (here ++ later))) loss in
    let rest = same-losses frame history (before ++ n ∷ []) new here later x a (and-right (is_at frame n) (list_all (is_at frame) new) of_new)
    (and-right (is_at frame y) (list_all (is_at frame) here) of_here)
    loss' (subst N (sym (append_assoc before (n ∷ []) new)) stops) none first.1 in
    ap (λ (z : LostDisplay). z ∷ new) first.0 ∙ ap (λ (ls : List LostDisplay). y ∷ ls) rest

-- ---- reading them

pub same-one : (one : LostDisplay) (display frame : ℕ) → Some display ≡ Some one.display → one.frame.0 ≡ frame
    → one ≡ record { display = display; frame = record { 0 = frame } }
same-one one display frame told at = let same : display ≡ one.display = cc in λ i. record { display = sym same i; frame = record { 0 = at i } }

-- what stands before a place
begins-at : (text : List ℕ) (at : ℕ) → at ≤ length text → Begins text (take at text) at
begins-at text at within = record { long = (let many : at ≡ length (take at text) = grind (arith, common_steps) in many); is = sym (take-append-drop at text) }

pub none-passes : (text : List ℕ) (at : ℕ) (bytes rest : List ℕ) → at ≤ length text → Passes text at bytes None → drop at text ≡ bytes ++ rest → ⊥
none-passes text at bytes rest within none is =
    let begins = begins-at text at within in
    none (take at text) rest begins (begins.is ∙ ap (λ (t : List ℕ). take at text ++ t) is)

pub pass-on : (text : List ℕ) (at next : ℕ) (bytes : List ℕ) → at ≤ length text → Passes text at bytes (Some next) → next ≡ at + length bytes
pass-on text at next bytes within passes =
    let begins = begins-at text at within in
    let more = passes.1 (take at text) begins in
    let long = more.long in
    let was = begins.long in
    let both : length (take at text ++ bytes) ≡ length (take at text) + length bytes = length-append (take at text) bytes in
    omega (arith, long, was, both)

pub pass-further : (text : List ℕ) (at next : ℕ) (one : LostDisplay) → at ≤ length text → Passes text at (text_of (lost_line one ∷ [])) (Some next) → at < next
pass-further text at next one within passes =
    let on = pass-on text at next (text_of (lost_line one ∷ [])) within passes in
    let some : 0 < length (text_of (lost_line one ∷ [])) = omega arith in
    omega (arith, on, some)

-- no line stands behind the end of a text
pub stops-at-end : (frame : ℕ) (lost : List LostDisplay) (text : List ℕ) → text ≡ [] → NoMoreLost frame lost text
stops-at-end frame lost text end one rest at low fits is = let wrong : text_of (lost_line one ∷ []) ++ rest ≡ [] =
    sym is ∙ end in let long : length (text_of (lost_line one ∷ []) ++ rest) ≡ 0 = ap length wrong in absurd (omega (arith, long))

-- one more may be lost
losses-more : (frame : ℕ) (lost : List LostDisplay) (one : LostDisplay) → 0 < frame → one.frame.0 ≡ frame → is_display_number one.display ≡ true
    → fits_behind lost one ≡ true
    → AreLosses frame lost → AreLosses frame (lost ++ one ∷ [])
losses-more frame lost one some at small fits losses = (
  (λ history many. loss-more history lost one (let above : nat_lt 0 one.frame.0 ≡ true = grind (arith, nat_tests) in above)
      (let low : nat_le one.frame.0 (frames history) ≡ true = grind (arith, nat_tests) in low) fits (losses.0 history many)),
  all-more (λ (l : LostDisplay). is_display_number l.display) lost one losses.1 small,
)

-- some displays that were read, and one more
pub record Reading (frame : ℕ) (old new : List LostDisplay) (text : List ℕ) (at next : ℕ) : Type 0 where
  pub more : List LostDisplay
  pub is : new ≡ old ++ more
  pub are_at : list_all (λ one. (one.frame.0 == frame) && is_display_number one.display) more ≡ true
  pub passes : Passes text at (text_of (map lost_line more)) (Some next)
  pub losses : 0 < frame → AreLosses frame old → AreLosses frame new

pub reading-none : (frame : ℕ) (lost : List LostDisplay) (text : List ℕ) (at : ℕ) → at ≤ length text → Reading frame lost lost text at at
reading-none frame lost text at within = record {
  more = [];
  is = sym (append-nil lost);
  are_at = refl;
  passes = (within, λ before begins. (let B : List ℕ → Type 0 = λ b. Begins text b at in subst B (sym (append-nil before)) begins));
  losses = λ some losses. losses;
}

pub reading-more : (frame : ℕ) (old lost new : List LostDisplay) (text : List ℕ) (at place next : ℕ) → Reading frame old lost text at place
    → ReadsLoss frame lost new text place next → Reading frame old new text at next
reading-more frame old lost new text at place next so one = record {
  more = so.more ++ one.one ∷ [];
  is = one.is ∙ ap (λ (ls : List LostDisplay). ls ++ one.one ∷ []) so.is ∙ append_assoc old so.more (one.one ∷ []);
  are_at = all-more (λ (l : LostDisplay). (l.frame.0 == frame) && is_display_number l.display) so.more one.one so.are_at one.is_at;
  passes = (
    one.passes.0,
    λ before begins.
        (let B : List ℕ → Type 0 = λ b. Begins text b next in
        let lines : text_of (map lost_line (so.more ++ one.one ∷ [])) ≡ text_of (map lost_line so.more) ++ text_of (lost_line one.one ∷ []) =
        ap text_of (map-append lost_line so.more (one.one ∷ [])) ∙ text-append (map lost_line so.more) (lost_line one.one ∷ []) in
        subst B (append_assoc before (text_of (map lost_line so.more)) (text_of (lost_line one.one ∷ [])) ∙ ap (λ (t : List ℕ). before ++ t) (sym lines))
        (one.passes.1 (before ++ text_of (map lost_line so.more)) (so.passes.1 before begins))),
  );
  losses = λ some losses.
      (let L : List LostDisplay → Type 0 = AreLosses frame in
      subst L (sym one.is) (losses-more frame lost one.one some
      (eqb-true one.one.frame.0 frame (and-left (one.one.frame.0 == frame) (is_display_number one.one.display) one.is_at))
      (and-right (one.one.frame.0 == frame) (is_display_number one.one.display) one.is_at) one.fits (so.losses some losses)));
}

pub reading-ends : (frame : ℕ) (old new : List LostDisplay) (text : List ℕ) (at next : ℕ) → Reading frame old new text at next
    → NoMoreLost frame new (drop next text)
    → ReadsLosses frame old new text at next
reading-ends frame old new text at next so stops = record {
  more = so.more;
  is = so.is;
  are_at = so.are_at;
  passes = so.passes;
  stops = stops;
  losses = so.losses;
}
