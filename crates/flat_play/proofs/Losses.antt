-- The displays that the shows of a run lose: in order, and each once.
use Rattle.std.proofs.Common.{◌≡◌, ◌≢◌, ℕ, suc, ◌+◌, ◌<◌, ◌≤◌, ◌==◌, ◌&&◌, nat_lt, nat_le, not, Bool, true, false, List, [], ◌∷◌, ◌++◌, length, Option}
use Rattle.std.proofs.Common.{refl, sym, ap, ◌∙◌, subst, arith, lt-ltb, le-leb, leb-true}
use Rattle.std.specs.List.{list_all}
use Rattle.std.proofs.lemmas.Bool.Decides.{nat_tests}
use Rattle.std.proofs.lemmas.List.Folds.{list_all-append}
use Rattle.flat_base.specs.declared.ids.FrameNo.{FrameNo}
use Rattle.flat_scene.specs.declared.frames.FrameOut.{FrameOut}
use Rattle.flat_scene.specs.declared.frames.LostDisplay.{LostDisplay}
use Rattle.flat_scene.specs.declared.journal.Entry.{Entry}
use Rattle.flat_rules.specs.Legal.{frames}
use Rattle.flat_display.specs.Lost.{is_lost}
use Rattle.flat_display.specs.Shows.{Shows}
use Rattle.flat_display.specs.Shows.Shows.{none, passed, took, failed}
use Rattle.flat_report.specs.Report.{is_loss, is_lost_before}
use Rattle.flat_report.specs.Runs.{is_display_number}
use Rattle.flat_base.proofs.lemmas.Tests.{and-left, and-right, and-true}

-- One display may be lost behind another.
abbrev goes_before : LostDisplay → LostDisplay → Bool
goes_before a b = is_lost_before a b && not (b.display == a.display)

-- Losses at one frame, of displays from one number on and below another, whose numbers rise; none of them was lost before.
pub data Rise (before : List LostDisplay) (frame : FrameNo) (end : ℕ) : ℕ → List LostDisplay → Type 0 where
  done : {n : ℕ} → Rise before frame end n []
  more : {n : ℕ} {one : LostDisplay} {later : List LostDisplay} → one.frame ≡ frame → n ≤ one.display → one.display < end → is_lost before one.display ≡ false
      → Rise before frame end (suc one.display) later → Rise before frame end n (one ∷ later)

weaker : (before : List LostDisplay) (frame : FrameNo) (end n m : ℕ) (losses : List LostDisplay) → n ≤ m → Rise before frame end m losses
    → Rise before frame end n losses
weaker before frame end n m [] less done = done
weaker before frame end n m (one ∷ later) less (more at from to new rest) = more at (omega arith) to new rest

-- the losses of a show
pub shows_rise : {D : Type 0} (told : D → Option (List FrameOut)) (count : D → ℕ) (frame : FrameOut) (lost : List LostDisplay) (n : ℕ) (ds ds' : List D)
    (losses : List LostDisplay) → Shows told count frame lost n ds ds' losses → Rise lost frame.frame (n + length ds) n losses
shows_rise told count frame lost n ds ds' losses none = done
shows_rise told count frame lost n (d ∷ ds) (_ ∷ ds') losses (passed is rest) =
    let P : ℕ → Type 0 = λ end. Rise lost frame.frame end n losses in
    subst P (omega arith) (weaker lost frame.frame (suc n + length ds) n (suc n) losses (omega arith)
    (shows_rise told count frame lost (suc n) ds ds' losses rest))
shows_rise told count frame lost n (d ∷ ds) (d' ∷ ds') losses (took is t rest) =
    let P : ℕ → Type 0 = λ end. Rise lost frame.frame end n losses in
    subst P (omega arith) (weaker lost frame.frame (suc n + length ds) n (suc n) losses (omega arith)
    (shows_rise told count frame lost (suc n) ds ds' losses rest))
shows_rise told count frame lost n (d ∷ ds) (d' ∷ ds') (_ ∷ losses) (failed is t rest) =
    let P : ℕ → Type 0 = λ end. Rise lost frame.frame end (suc n) losses in
    more refl (omega arith) (omega arith) is (subst P (omega arith) (shows_rise told count frame lost (suc n) ds ds' losses rest))

behind_at : (a b : LostDisplay) → a.frame.0 ≡ b.frame.0 → a.display < b.display → goes_before a b ≡ true
behind_at a b same less = grind (arith, nat_tests)

behind_later : (a b : LostDisplay) → a.frame.0 < b.frame.0 → a.display ≢ b.display → goes_before a b ≡ true
behind_later a b less other = grind (arith, nat_tests)

rest_behind : (before : List LostDisplay) (frame : FrameNo) (end n : ℕ) (a : LostDisplay) (losses : List LostDisplay) → a.frame ≡ frame → a.display < n
    → Rise before frame end n losses → list_all (goes_before a) losses ≡ true
rest_behind before frame end n a [] at less done = refl
rest_behind before frame end n a (one ∷ later) at less (more at' from to new rest) =
    and-true (behind_at a one (ap (λ (f : FrameNo). f.0) (at ∙ sym at')) (omega arith))
    (rest_behind before frame end (suc one.display) a later at (omega arith) rest)

-- losses at the last frame are losses of the history
rise_loss : (history : List Entry) (before : List LostDisplay) (frame : FrameNo) (end n : ℕ) (losses : List LostDisplay) → 0 < frame.0
    → frame.0 ≤ frames history
    → Rise before frame end n losses → is_loss history losses ≡ true
rise_loss history before frame end n [] above within done = refl
rise_loss history before frame end n (one ∷ later) above within (more at from to new rest) =
    let number : one.frame.0 ≡ frame.0 = ap (λ (f : FrameNo). f.0) at in
    and-true
    (and-true (and-true (lt-ltb 0 one.frame.0 (omega arith)) (le-leb one.frame.0 (frames history) (omega arith)))
    (rest_behind before frame end (suc one.display) one later at (omega arith) rest))
    (rise_loss history before frame end (suc one.display) later above within rest)

others : (a : LostDisplay) (before : List LostDisplay) (n : ℕ) → is_lost (a ∷ before) n ≡ false → a.display ≢ n
others a before n free = grind arith

later_free : (a : LostDisplay) (before : List LostDisplay) (n : ℕ) → is_lost (a ∷ before) n ≡ false → is_lost before n ≡ false
later_free a before n free = grind arith

shorter : (a : LostDisplay) (before : List LostDisplay) (frame : FrameNo) (end n : ℕ) (losses : List LostDisplay) → Rise (a ∷ before) frame end n losses
    → Rise before frame end n losses
shorter a before frame end n [] done = done
shorter a before frame end n (one ∷ later) (more at from to new rest) =
    more at from to (later_free a before one.display new) (shorter a before frame end (suc one.display) later rest)

all_behind : (a : LostDisplay) (before : List LostDisplay) (frame : FrameNo) (end n : ℕ) (losses : List LostDisplay) → a.frame.0 < frame.0
    → Rise (a ∷ before) frame end n losses
    → list_all (goes_before a) losses ≡ true
all_behind a before frame end n [] less done = refl
all_behind a before frame end n (one ∷ later) less (more at from to new rest) =
    let number : one.frame.0 ≡ frame.0 = ap (λ (f : FrameNo). f.0) at in
    and-true (behind_later a one (omega arith) (others a before one.display new)) (all_behind a before frame end (suc one.display) later less rest)

all_append : {A : Type 0} (p : A → Bool) (xs ys : List A) → list_all p xs ≡ true → list_all p ys ≡ true → list_all p (xs ++ ys) ≡ true
all_append p xs ys first second = list_all-append p xs ys ∙ and-true first second

-- What the first of some losses says, and what is left.
record First (history : List Entry) (a : LostDisplay) (later : List LostDisplay) : Type 0 where
  above : nat_lt 0 a.frame.0 ≡ true
  within : nat_le a.frame.0 (frames history) ≡ true
  order : list_all (goes_before a) later ≡ true
  rest : is_loss history later ≡ true

first_of : (history : List Entry) (a : LostDisplay) (later : List LostDisplay) → is_loss history (a ∷ later) ≡ true → First history a later
first_of history a later was =
    let number_fits = nat_lt 0 a.frame.0 && nat_le a.frame.0 (frames history) in
    let first_fits = number_fits && list_all (goes_before a) later in
    let first = and-left first_fits (is_loss history later) was in
    let fits = and-left number_fits (list_all (goes_before a) later) first in
    record {
      above = and-left (nat_lt 0 a.frame.0) (nat_le a.frame.0 (frames history)) fits;
      within = and-right (nat_lt 0 a.frame.0) (nat_le a.frame.0 (frames history)) fits;
      order = and-right number_fits (list_all (goes_before a) later) first;
      rest = and-right first_fits (is_loss history later) was;
    }

-- the losses of one frame more
pub loss_more : (history history' : List Entry) (frame : FrameNo) (end n : ℕ) (lost losses : List LostDisplay) → is_loss history lost ≡ true
    → frame.0 ≡ suc (frames history) → frames history' ≡ suc (frames history) → Rise lost frame end n losses
    → is_loss history' (lost ++ losses) ≡ true
loss_more history history' frame end n [] losses was number grown rise = rise_loss history' [] frame end n losses (omega arith) (omega arith) rise
loss_more history history' frame end n (a ∷ later) losses was number grown rise =
    let first = first_of history a later was in
    let below : a.frame.0 ≤ frames history = leb-true a.frame.0 (frames history) first.within in
    and-true
    (and-true (and-true first.above (le-leb a.frame.0 (frames history') (omega arith)))
    (all_append (goes_before a) later losses first.order (all_behind a later frame end n losses (omega arith) rise)))
    (loss_more history history' frame end n later losses first.rest number grown (shorter a later frame end n losses rise))

-- what is lost depends on the number of frames alone
pub loss_same : (history history' : List Entry) (lost : List LostDisplay) → frames history' ≡ frames history → is_loss history lost ≡ true
    → is_loss history' lost ≡ true
loss_same history history' [] same was = refl
loss_same history history' (a ∷ later) same was =
    let first = first_of history a later was in
    and-true (and-true (and-true first.above (ap (nat_le a.frame.0) same ∙ first.within)) first.order) (loss_same history history' later same first.rest)

-- the displays that are lost have numbers from 1, of 32 bits
abbrev numbered : List LostDisplay → Bool
numbered = list_all (λ one. is_display_number one.display)

rise_numbered : (before : List LostDisplay) (frame : FrameNo) (end n : ℕ) (losses : List LostDisplay) → 1 ≤ n → end ≤ 4294967296
    → Rise before frame end n losses
    → numbered losses ≡ true
rise_numbered before frame end n [] first few done = refl
rise_numbered before frame end n (one ∷ later) first few (more at from to new rest) =
    and-true (and-true (lt-ltb 0 one.display (omega arith)) (lt-ltb one.display 4294967296 (omega arith)))
    (rise_numbered before frame end (suc one.display) later (omega arith) few rest)

pub numbered_more : (frame : FrameNo) (end n : ℕ) (lost losses : List LostDisplay) → numbered lost ≡ true → 1 ≤ n → end ≤ 4294967296
    → Rise lost frame end n losses
    → numbered (lost ++ losses) ≡ true
numbered_more frame end n lost losses was first few rise =
    all_append (λ one. is_display_number one.display) lost losses was (rise_numbered lost frame end n losses first few rise)
