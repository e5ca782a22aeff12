-- a show, and what it leaves of the displays, in general
use Rattle.std.proofs.Common.{◌≡◌, ◌≢◌, ℕ, suc, ◌+◌, ◌<◌, ◌≤◌, ◌==◌, zero, List, [], ◌∷◌, ◌++◌, length, map, ap, take, get_or, Bool, true, false, Option, Some}
use Rattle.std.proofs.Common.{Result, Ok, Err, refl, arith, is_ok, OnOk, OnErr, IsTrue, subst, sym, ◌∙◌, slice_get, slice_set, append_assoc}
use Rattle.std.proofs.lemmas.Option.{slice_get_read, get_or_from_slice_get, slice_get_within}
use Rattle.std.proofs.lemmas.List.{take_more_set, set-get_or, length-take-le, take_all, length-set, append-nil}
use Rattle.flat_io.specs.Counts.{has_risen}
use Rattle.flat_scene.specs.declared.frames.FrameOut.{FrameOut}
use Rattle.flat_scene.specs.declared.frames.LostDisplay.{LostDisplay}
use Rattle.flat_io.specs.Told.{Appends}
use Rattle.flat_display.specs.Lost.{Driven, is_lost}
use Rattle.flat_display.specs.Shows.{IsShown, Takes, Fails, Shows}
use Rattle.flat_display.specs.Shows.Shows.{none, passed, took, failed}
use Rattle.flat_display.proofs.Losses.{lost-append}

module _ {D : Type 0} {told : D → Option (List FrameOut)} {count : D → ℕ} {frame : FrameOut} {old new : D} where
  took_it : Appends (frame ∷ []) (told old) (told new) → count new ≡ count old → Takes told count frame old new
  took_it gains steady = record { gains = gains; steady = steady }

  failed_it : told new ≡ told old → count old ≤ count new → IsTrue (has_risen (count old) (count new)) → Fails told count frame old new
  failed_it same grows risen = record { same = same; grows = grows; risen = risen }

-- what a show says of its two answers is what is said of it by a test
pub shown_by_answer : {D A E : Type 0} (told : D → Option (List FrameOut)) (count : D → ℕ) (frame : FrameOut) (r : Result A E) (old new : D)
    → OnOk r (Appends (frame ∷ []) (told old) (told new)) → OnErr r (IsTrue (has_risen (count old) (count new))) → OnErr r (told new ≡ told old)
    → count old ≤ count new → OnOk r (count new ≡ count old) → (b : Bool) → b ≡ is_ok r → IsShown told count frame b old new
shown_by_answer told count frame (Ok a) old new gains risen same grows steady b e =
    subst (λ t. IsShown told count frame t old new) (sym e) (took_it gains steady)
shown_by_answer told count frame (Err x) old new gains risen same grows steady b e =
    subst (λ t. IsShown told count frame t old new) (sym e) (failed_it same grows risen)

pub at_place : {X : Type 0} (xs : List X) (place : ℕ) (x : X) → place < length xs → x ≡ get_or xs place x → slice_get xs place ≡ Some x
at_place xs place x within is = slice_get_read xs (length xs) place x refl within is

pub set_same : {X : Type 0} (xs : List X) (i : ℕ) (x : X) → slice_get xs i ≡ Some x → slice_set xs i x ≡ xs
set_same xs i x is = rw (← get_or_from_slice_get xs i x x is) (set-get_or xs i x)

not_same : (l : LostDisplay) (n : ℕ) → l.display ≢ n → (l.display == n) ≡ false
not_same l n h = grind arith

-- no display before is lost by a later one's failure, nor one after by an earlier one's
pub none_after : {D : Type 0} (told : D → Option (List FrameOut)) (count : D → ℕ) (frame : FrameOut) (lost : List LostDisplay) (n : ℕ) (ds ds' : List D)
    (more : List LostDisplay) (m : ℕ) → Shows told count frame lost n ds ds' more → n + length ds ≤ m → is_lost more m ≡ false
none_after told count frame lost n ds ds' more m none h = refl
none_after told count frame lost n (d ∷ ds) (_ ∷ ds') more m (passed is rest) h = none_after told count frame lost (suc n) ds ds' more m rest (omega arith)
none_after told count frame lost n (d ∷ ds) (d' ∷ ds') more m (took is t rest) h = none_after told count frame lost (suc n) ds ds' more m rest (omega arith)
none_after told count frame lost n (d ∷ ds) (d' ∷ ds') (x ∷ more) m (failed is t rest) h = let later =
    none_after told count frame lost (suc n) ds ds' more m rest (omega arith) in grind (arith, later)

pub shows-more : {D : Type 0} (told : D → Option (List FrameOut)) (count : D → ℕ) (frame : FrameOut) (lost : List LostDisplay) (n m : ℕ) (ds ds' : List D)
    (d d' : D)
    (before more : List LostDisplay) → Shows told count frame lost n ds ds' before → m ≡ n + length ds → Shows told count frame lost m (d ∷ []) (d' ∷ []) more
    → Shows told count frame lost n (ds ++ d ∷ []) (ds' ++ d' ∷ []) (before ++ more)
shows-more told count frame lost n m ds ds' d d' before more none e last = let P : ℕ → Type 0 =
    λ k. Shows told count frame lost k (d ∷ []) (d' ∷ []) more in subst P (omega arith) last
shows-more told count frame lost n m (x ∷ ds) (_ ∷ ds') d d' before more (passed is rest) e last =
    passed is (shows-more told count frame lost (suc n) m ds ds' d d' before more rest (omega arith) last)
shows-more told count frame lost n m (x ∷ ds) (x' ∷ ds') d d' before more (took is t rest) e last =
    took is t (shows-more told count frame lost (suc n) m ds ds' d d' before more rest (omega arith) last)
shows-more told count frame lost n m (x ∷ ds) (x' ∷ ds') d d' (l ∷ before) more (failed is t rest) e last =
    failed is t (shows-more told count frame lost (suc n) m ds ds' d d' before more rest (omega arith) last)

same_lost : (lost before : List LostDisplay) (n : ℕ) (b : Bool) → is_lost before n ≡ false → is_lost (lost ++ before) n ≡ b → is_lost lost n ≡ b
same_lost lost before n b free is = grind (arith, lost-append lost before n)

-- losses of other displays play no part
pub shows-against : {D : Type 0} (told : D → Option (List FrameOut)) (count : D → ℕ) (frame : FrameOut) (lost before : List LostDisplay) (m : ℕ) (d d' : D)
    (more : List LostDisplay) → is_lost before m ≡ false → Shows told count frame (lost ++ before) m (d ∷ []) (d' ∷ []) more
    → Shows told count frame lost m (d ∷ []) (d' ∷ []) more
shows-against told count frame lost before m d _ more free (passed is none) = passed (same_lost lost before m true free is) none
shows-against told count frame lost before m d d' more free (took is t none) = took (same_lost lost before m false free is) t none
shows-against told count frame lost before m d d' more free (failed is t none) = failed (same_lost lost before m false free is) t none

pub take-more : {X : Type 0} (xs : List X) (i : ℕ) (x : X) → slice_get xs i ≡ Some x → take (i + 1) xs ≡ take i xs ++ x ∷ []
take-more {X} xs i x is = let P : List X → Type 0 = λ zs. take (i + 1) zs ≡ take i xs ++ x ∷ [] in
    subst P (set_same xs i x is) (take_more_set xs i x (slice_get_within xs i x is))

set_elsewhere : {X : Type 0} (ys : List X) (i k : ℕ) (x : X) → i < k → slice_get (slice_set ys i x) k ≡ slice_get ys k
set_elsewhere [] i k x h = refl
set_elsewhere (y ∷ ys) zero zero x h = absurd (omega arith)
set_elsewhere (y ∷ ys) zero (suc k) x h = refl
set_elsewhere (y ∷ ys) (suc i) zero x h = absurd (omega arith)
set_elsewhere (y ∷ ys) (suc i) (suc k) x h = set_elsewhere ys i k x (omega arith)

-- So far the displays before place i were shown the frame, and those from there on are as they were.
pub record ShownSoFar {D : Type 0} (told : D → Option (List FrameOut)) (count : D → ℕ) (frame : FrameOut) (lost : List LostDisplay) (i : ℕ) (xs ys : List D)
    (more : List LostDisplay) : Type 0 where
  pub shows : Shows told count frame lost 1 (take i xs) (take i ys) more
  pub same_length : length ys ≡ length xs
  pub same_after : (k : ℕ) → i ≤ k → slice_get ys k ≡ slice_get xs k

-- One display more, at place i, whose number is one more.
pub one_more : {D : Type 0} (told : D → Option (List FrameOut)) (count : D → ℕ) (frame : FrameOut) (lost before more : List LostDisplay) (i : ℕ)
    (xs ys ys' : List D)
    (d d' : D) → i < length xs → ShownSoFar told count frame lost i xs ys before → slice_get ys i ≡ Some d → ys' ≡ slice_set ys i d'
    → Shows told count frame (lost ++ before) (i + 1) (d ∷ []) (d' ∷ []) more → ShownSoFar told count frame lost (i + 1) xs ys' (before ++ more)
one_more {D} told count frame lost before more i xs ys ys' d d' within so_far at is last =
    let here = sym (so_far.same_after i (omega arith)) ∙ at in
    let free = none_after told count frame lost 1 (take i xs) (take i ys) before (i + 1) so_far.shows (omega (arith, length-take-le i xs (omega arith))) in
    let more_shows = shows-more told count frame lost 1 (i + 1) (take i xs) (take i ys) d d' before more so_far.shows
    (omega (arith, length-take-le i xs (omega arith))) (shows-against told count frame lost before (i + 1) d d' more free last) in
    let P : List D → List D → Type 0 = λ us vs. Shows told count frame lost 1 us vs (before ++ more) in
    let there : take (i + 1) ys' ≡ take i ys ++ d' ∷ [] = rw is (take_more_set ys i d' (omega (arith, so_far.same_length))) in
    record {
      shows = rw (take-more xs i d here, there) more_shows;
      same_length = rw is (length-set ys i d' ∙ so_far.same_length);
      same_after = λ k h. rw is (set_elsewhere ys i k d' (omega arith) ∙ so_far.same_after k (omega arith));
    }

pub none_shown : {D : Type 0} (told : D → Option (List FrameOut)) (count : D → ℕ) (frame : FrameOut) (lost : List LostDisplay) (xs : List D)
    → ShownSoFar told count frame lost 0 xs xs []
none_shown told count frame lost xs = record { shows = none; same_length = refl; same_after = λ k h. refl }

pub all_shown : {D : Type 0} (told : D → Option (List FrameOut)) (count : D → ℕ) (frame : FrameOut) (lost more : List LostDisplay) (i : ℕ) (xs ys : List D)
    → length xs ≤ i → ShownSoFar told count frame lost i xs ys more → Shows told count frame lost 1 xs ys more
all_shown {D} told count frame lost more i xs ys h so_far =
    let first : take i xs ≡ xs = take_all i xs h in
    let last : take i ys ≡ ys = take_all i ys (omega (arith, so_far.same_length)) in
    rw (← first, ← last) so_far.shows

pub there : {X : Type 0} (xs : List X) (i : ℕ) → i < length xs → (x : X) × (slice_get xs i ≡ Some x)
there [] i h = absurd (omega arith)
there (x ∷ xs) zero h = (x, refl)
there (x ∷ xs) (suc i) h = there xs i (omega arith)

pub nothing_lost : (set : Driven) → set ≡ record set { lost = set.lost ++ [] }
nothing_lost set = rw (append-nil set.lost) refl

pub took_at : {D : Type 0} (told : D → Option (List FrameOut)) (count : D → ℕ) (frame : FrameOut) (lost : List LostDisplay) (number : ℕ) (d d' : D) (b : Bool)
    → b ≡ true → is_lost lost number ≡ false → IsShown told count frame b d d' → Shows told count frame lost number (d ∷ []) (d' ∷ []) []
took_at told count frame lost number d d' b e new shown = took new (subst (λ t. IsShown told count frame t d d') e shown) none

pub failed_at : {D : Type 0} (told : D → Option (List FrameOut)) (count : D → ℕ) (frame : FrameOut) (lost : List LostDisplay) (number : ℕ) (d d' : D) (b : Bool)
    → b ≡ false → is_lost lost number ≡ false → IsShown told count frame b d d'
    → Shows told count frame lost number (d ∷ []) (d' ∷ []) (record { display = number; frame = frame.frame } ∷ [])
failed_at told count frame lost number d d' b e new shown = failed new (subst (λ t. IsShown told count frame t d d') e shown) none

lost_more : (a : Driven) (xs ys : List LostDisplay) → record a { lost = (a.lost ++ xs) ++ ys } ≡ record a { lost = a.lost ++ (xs ++ ys) }
lost_more a xs ys = let P : List LostDisplay → Type 0 = λ ls. record a { lost = (a.lost ++ xs) ++ ys } ≡ record a { lost = ls } in
    subst P (append_assoc a.lost xs ys) refl

-- One display more, and the set with it.
pub next_shown : {D : Type 0} (told : D → Option (List FrameOut)) (count : D → ℕ) (frame : FrameOut) (a b c : Driven) (before more : List LostDisplay) (i : ℕ)
    (xs ys ys' : List D) (d d' : D) → i < length xs → b ≡ record a { lost = a.lost ++ before } → ShownSoFar told count frame a.lost i xs ys before
    → slice_get ys i ≡ Some d → ys' ≡ slice_set ys i d' → c ≡ record b { lost = b.lost ++ more } → Shows told count frame b.lost (i + 1) (d ∷ []) (d' ∷ []) more
    → (c ≡ record a { lost = a.lost ++ (before ++ more) }) × ShownSoFar told count frame a.lost (i + 1) xs ys' (before ++ more)
next_shown told count frame a b c before more i xs ys ys' d d' within set so_far at is set' last =
    let P : Driven → Type 0 = λ v. c ≡ record v { lost = v.lost ++ more } in
    let L : Driven → Type 0 = λ v. Shows told count frame v.lost (i + 1) (d ∷ []) (d' ∷ []) more in
    (subst P set set' ∙ lost_more a before more, one_more told count frame a.lost before more i xs ys ys' d d' within so_far at is (subst L set last))

-- what is the same of an item that is written back is the same of the list
pub same_mapped : {X Y : Type 0} (f : X → Y) (xs : List X) (i : ℕ) (old new : X) → slice_get xs i ≡ Some old → f new ≡ f old
    → map f (slice_set xs i new) ≡ map f xs
same_mapped f [] i old new at same = refl
same_mapped f (x ∷ xs) zero old new at same = let is : x ≡ old = cc in ap (λ y. y ∷ map f xs) (same ∙ ap f (sym is))
same_mapped f (x ∷ xs) (suc i) old new at same = ap (λ ys. f x ∷ ys) (same_mapped f xs i old new at same)
