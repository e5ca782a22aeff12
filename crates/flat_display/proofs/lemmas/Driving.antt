-- what each display has had, frame by frame
use Rattle.std.proofs.Common.{◌≡◌, ◌≢◌, ℕ, suc, ◌+◌, ◌<◌, ◌≤◌, ◌==◌, List, [], ◌∷◌, ◌++◌, length, Bool, true, false, Option, Some, None, refl, arith, IsTrue}
use Rattle.std.proofs.Common.{subst, sym, ◌∙◌, ◌⊎◌, inl, inr, ap, if◌then◌else◌, append_assoc}
use Rattle.std.proofs.lemmas.List.{append-nil}
use Rattle.std.proofs.lemmas.List.Folds.{list_any-append}
use Rattle.flat_io.specs.Counts.{has_risen}
use Rattle.flat_base.specs.declared.ids.FrameNo.{FrameNo}
use Rattle.flat_scene.specs.declared.frames.FrameOut.{FrameOut}
use Rattle.flat_scene.specs.declared.frames.LostDisplay.{LostDisplay}
use Rattle.flat_io.specs.Told.{Appends}
use Rattle.flat_display.specs.Lost.{is_lost, lost_at, AreWithin}
use Rattle.flat_display.specs.Shows.{Takes, Fails, Shows}
use Rattle.flat_display.specs.Shows.Shows.{none, passed, took, failed}
use Rattle.flat_display.specs.Had.{is_numbered, is_among, frames_before, frames_until, AreLostAt, HasHad, HaveHad, AreDriven}
use Rattle.flat_display.proofs.Losses.{not_first, not_later, within-append}

gains_none : (told : Option (List FrameOut)) → Appends [] told told
gains_none None = tt
gains_none (Some xs) = sym (append-nil xs)

gains_more : (xs ys : List FrameOut) (a b c : Option (List FrameOut)) → Appends xs a b → Appends ys b c → Appends (xs ++ ys) a c
gains_more xs ys a b None g h = tt
gains_more xs ys a None (Some zs) g h = absurd h
gains_more xs ys None (Some vs) (Some zs) g h = absurd g
gains_more xs ys (Some us) (Some vs) (Some zs) g h = rw (h, g) (append_assoc us xs ys)

-- a count that rose before or after has risen
risen_before : (a b c : ℕ) → IsTrue (has_risen a b) → b ≤ c → IsTrue (has_risen a c)
risen_before a b c r h = grind arith

risen_after : (a b c : ℕ) → a ≤ b → IsTrue (has_risen b c) → IsTrue (has_risen a c)
risen_after a b c h r = grind arith

own_loss : (l : LostDisplay) (ls : List LostDisplay) (n : ℕ) (b : Bool) → (l.display == n) ≡ b → lost_at (l ∷ ls) n ≡ (if b then Some l.frame else lost_at ls n)
own_loss l ls n b e = rw e refl

by_display : (l : LostDisplay) (n : ℕ) → ((l.display == n) ≡ true) ⊎ ((l.display == n) ≡ false)
by_display l n = by _ refl
  where
    by : (b : Bool) → (l.display == n) ≡ b → ((l.display == n) ≡ true) ⊎ ((l.display == n) ≡ false)
    by true e = inl e
    by false e = inr e

not_lost_at : (lost : List LostDisplay) (n : ℕ) → is_lost lost n ≡ false → lost_at lost n ≡ None
not_lost_at [] n h = refl
not_lost_at (l ∷ ls) n h = own_loss l ls n false (grind (arith, not_first l ls n h)) ∙ not_lost_at ls n (not_later l ls n h)

later_lost : (l : LostDisplay) (ls : List LostDisplay) (n : ℕ) → (l.display == n) ≡ false → is_lost (l ∷ ls) n ≡ true → is_lost ls n ≡ true
later_lost l ls n e h = grind arith

lost_at-append_lost : (lost more : List LostDisplay) (n : ℕ) → is_lost lost n ≡ true → lost_at (lost ++ more) n ≡ lost_at lost n
lost_at-append_lost [] more n h = absurd (grind arith)
lost_at-append_lost (l ∷ ls) more n h = elim (by_display l n) [
  | inl e ↦ own_loss l (ls ++ more) n true e ∙ sym (own_loss l ls n true e)
  | inr e ↦ own_loss l (ls ++ more) n false e ∙ lost_at-append_lost ls more n (later_lost l ls n e h) ∙ sym (own_loss l ls n false e)
]

lost_at-append_new : (lost more : List LostDisplay) (n : ℕ) → is_lost lost n ≡ false → lost_at (lost ++ more) n ≡ lost_at more n
lost_at-append_new [] more n h = refl
lost_at-append_new (l ∷ ls) more n h = own_loss l (ls ++ more) n false (grind (arith, not_first l ls n h)) ∙ lost_at-append_new ls more n (not_later l ls n h)

some_none : {X : Type 0} {x : X} → Some x ≡ None → ⊥
some_none h = cc

no_both : (b : Bool) → b ≡ false → b ≡ true → ⊥
no_both b h k = grind arith

not_lost : (lost : List LostDisplay) (n : ℕ) → lost_at lost n ≡ None → is_lost lost n ≡ false
not_lost [] n h = refl
not_lost (l ∷ ls) n h = elim (by_display l n) [
  | inl e ↦ absurd (some_none (sym (own_loss l ls n true e) ∙ h))
  | inr e ↦ let later = not_lost ls n (sym (own_loss l ls n false e) ∙ h) in grind (arith, e, later)
]

skip_one : (lost : List LostDisplay) (l : LostDisplay) (more : List LostDisplay) (n : ℕ) → l.display ≢ n
    → lost_at (lost ++ l ∷ more) n ≡ lost_at (lost ++ more) n
skip_one [] l more n h = own_loss l more n false (grind arith)
skip_one (x ∷ xs) l more n h = elim (by_display x n) [
  | inl e ↦ own_loss x (xs ++ l ∷ more) n true e ∙ sym (own_loss x (xs ++ more) n true e)
  | inr e ↦ own_loss x (xs ++ l ∷ more) n false e ∙ skip_one xs l more n h ∙ sym (own_loss x (xs ++ more) n false e)
]

one_until : (number : FrameNo) (x : FrameOut) (xs : List FrameOut) (b : Bool) → is_numbered number x ≡ b
    → frames_until number (x ∷ xs) ≡ (if b then [] else x ∷ frames_until number xs)
one_until number x xs b e = rw e refl

by_number : (number : FrameNo) (x : FrameOut) → (is_numbered number x ≡ true) ⊎ (is_numbered number x ≡ false)
by_number number x = by _ refl
  where
    by : (b : Bool) → is_numbered number x ≡ b → (is_numbered number x ≡ true) ⊎ (is_numbered number x ≡ false)
    by true e = inl e
    by false e = inr e

later_among : (number : FrameNo) (x : FrameOut) (xs : List FrameOut) → is_numbered number x ≡ false → is_among (x ∷ xs) number ≡ true
    → is_among xs number ≡ true
later_among number x xs e h = rw e at h

-- Frames after one of the number play no part.
until-kept : (number : FrameNo) (frames more : List FrameOut) → is_among frames number ≡ true
    → frames_until number (frames ++ more) ≡ frames_until number frames
until-kept number [] more h = absurd (grind arith)
until-kept number (x ∷ xs) more h = elim (by_number number x) [
  | inl e ↦ one_until number x (xs ++ more) true e ∙ sym (one_until number x xs true e)
  | inr e ↦ one_until number x (xs ++ more) false e ∙ ap (λ ys. x ∷ ys) (until-kept number xs more (later_among number x xs e h))
      ∙ sym (one_until number x xs false e)
]

-- A frame of a new number is the first that a display misses which is lost at it.
until-new : (frames : List FrameOut) (frame : FrameOut) → is_among frames frame.frame ≡ false → frames_until frame.frame (frames ++ frame ∷ []) ≡ frames
until-new [] frame new = one_until frame.frame frame [] true (grind arith)
until-new (x ∷ xs) frame new = one_until frame.frame x (xs ++ frame ∷ []) false (grind arith) ∙ ap (λ ys. x ∷ ys) (until-new xs frame (grind arith))

among_more : (number : FrameNo) (frames more : List FrameOut) → is_among frames number ≡ true → is_among (frames ++ more) number ≡ true
among_more number frames more h = rw (list_any-append (is_numbered number) frames more, h) refl

at_more : (frames more : List FrameOut) (lost : List LostDisplay) → AreLostAt frames lost → AreLostAt (frames ++ more) lost
at_more frames more [] at = tt
at_more frames more (l ∷ ls) (first, at) = (among_more l.frame frames more first, at_more frames more ls at)

at_append : (frames : List FrameOut) (ls more : List LostDisplay) → AreLostAt frames ls → AreLostAt frames more → AreLostAt frames (ls ++ more)
at_append frames [] more at at' = at'
at_append frames (l ∷ ls) more (first, at) at' = (first, at_append frames ls more at at')

last_among : (frames : List FrameOut) (frame : FrameOut) → is_among (frames ++ frame ∷ []) frame.frame ≡ true
last_among [] frame = grind arith
last_among (x ∷ xs) frame = grind (arith, last_among xs frame)

at_of_lost : (frames : List FrameOut) (lost : List LostDisplay) (n : ℕ) → AreLostAt frames lost → is_lost lost n ≡ true
    → (number : FrameNo) × (lost_at lost n ≡ Some number) × (is_among frames number ≡ true)
at_of_lost frames [] n at is = absurd (grind arith)
at_of_lost frames (l ∷ ls) n (first, at) is = elim (by_display l n) [
  | inl e ↦ (l.frame, own_loss l ls n true e, first)
  | inr e ↦ let found = at_of_lost frames ls n at (later_lost l ls n e is) in (found.0, own_loss l ls n false e ∙ found.1, found.2)
]

module _ {D : Type 0} (told : D → Option (List FrameOut)) (count : D → ℕ) (frame : FrameOut) where
  -- all losses of a show are at its frame
  shows_at : (frames : List FrameOut) (lost : List LostDisplay) (n : ℕ) (ds ds' : List D) (more : List LostDisplay) → Shows told count frame lost n ds ds' more
      → AreLostAt (frames ++ frame ∷ []) more
  shows_at frames lost n ds ds' more none = tt
  shows_at frames lost n (d ∷ ds) (_ ∷ ds') more (passed is rest) = shows_at frames lost (suc n) ds ds' more rest
  shows_at frames lost n (d ∷ ds) (d' ∷ ds') more (took is t rest) = shows_at frames lost (suc n) ds ds' more rest
  shows_at frames lost n (d ∷ ds) (d' ∷ ds') (l ∷ more) (failed is t rest) = (last_among frames frame, shows_at frames lost (suc n) ds ds' more rest)

  -- no display before is lost by a later one's failure
  none_before : (lost : List LostDisplay) (n : ℕ) (ds ds' : List D) (more : List LostDisplay) (m : ℕ) → Shows told count frame lost n ds ds' more → m < n
      → is_lost more m ≡ false
  none_before lost n ds ds' more m none h = refl
  none_before lost n (d ∷ ds) (_ ∷ ds') more m (passed is rest) h = none_before lost (suc n) ds ds' more m rest (omega arith)
  none_before lost n (d ∷ ds) (d' ∷ ds') more m (took is t rest) h = none_before lost (suc n) ds ds' more m rest (omega arith)
  none_before lost n (d ∷ ds) (d' ∷ ds') (x ∷ more) m (failed is t rest) h = let later =
      none_before lost (suc n) ds ds' more m rest (omega arith) in grind (arith, later)

  passed_one : (lost whole : List LostDisplay) (frames : List FrameOut) (n : ℕ) (old mid : D) → AreLostAt frames lost → is_lost lost n ≡ true
      → lost_at whole n ≡ lost_at lost n → HasHad told count lost frames n old mid → HasHad told count whole (frames ++ frame ∷ []) n old mid
  passed_one lost whole frames n old mid at is same had =
      let found = at_of_lost frames lost n at is in
      let all : frames_before (lost_at whole n) (frames ++ frame ∷ []) ≡ frames_before (lost_at lost n) frames =
      rw (same, found.1) (until-kept found.0 frames (frame ∷ []) found.2) in
      let P : List FrameOut → Type 0 = λ xs. Appends xs (told old) (told mid) in
      record {
        gains = subst P (sym all) had.gains;
        grows = had.grows;
        risen = λ _. had.risen is;
        steady = λ free. absurd (no_both _ (not_lost lost n (sym same ∙ not_lost_at whole n free)) is);
      }

  took_one : (lost whole : List LostDisplay) (frames : List FrameOut) (n : ℕ) (old mid new : D) → is_lost lost n ≡ false → lost_at whole n ≡ None
      → is_lost whole n ≡ false → Takes told count frame mid new → HasHad told count lost frames n old mid
      → HasHad told count whole (frames ++ frame ∷ []) n old new
  took_one lost whole frames n old mid new is same kept t had =
      let G : Option FrameNo → Type 0 = λ at. Appends (frames_before at frames) (told old) (told mid) in
      let G' : Option FrameNo → Type 0 = λ at. Appends (frames_before at (frames ++ frame ∷ [])) (told old) (told new) in
      let all : Appends frames (told old) (told mid) = subst G (not_lost_at lost n is) had.gains in
      record {
        gains = subst G' (sym same) (gains_more frames (frame ∷ []) (told old) (told mid) (told new) all t.gains);
        grows = omega (arith, had.grows, t.steady);
        risen = λ lost. absurd (no_both _ kept lost);
        steady = λ _. t.steady ∙ had.steady is;
      }

  failed_one : (lost whole : List LostDisplay) (frames : List FrameOut) (n : ℕ) (old mid new : D) → is_among frames frame.frame ≡ false → is_lost lost n ≡ false
      → lost_at whole n ≡ Some frame.frame → Fails told count frame mid new → HasHad told count lost frames n old mid
      → HasHad told count whole (frames ++ frame ∷ []) n old new
  failed_one lost whole frames n old mid new fresh is same t had =
      let G : Option FrameNo → Type 0 = λ at. Appends (frames_before at frames) (told old) (told mid) in
      let G' : Option FrameNo → Type 0 = λ at. Appends (frames_before at (frames ++ frame ∷ [])) (told old) (told new) in
      let F : List FrameOut → Type 0 = λ xs. Appends xs (told old) (told new) in
      let T : Option (List FrameOut) → Type 0 = λ xs. Appends frames (told old) xs in
      let all : Appends frames (told old) (told mid) = subst G (not_lost_at lost n is) had.gains in
      record {
        gains = subst G' (sym same) (subst F (sym (until-new frames frame fresh)) (subst T (sym t.same) all));
        grows = omega (arith, had.grows, t.grows);
        risen = λ _. risen_after (count old) (count mid) (count new) had.grows t.risen;
        steady = λ free. absurd (some_none (sym same ∙ not_lost_at whole n free));
      }

  have_more : (lost whole more : List LostDisplay) (frames : List FrameOut) (n : ℕ) (olds mids news : List D) → AreLostAt frames lost
      → is_among frames frame.frame ≡ false → ((k : ℕ) → n ≤ k → lost_at whole k ≡ lost_at (lost ++ more) k) → Shows told count frame lost n mids news more
      → HaveHad told count lost frames n olds mids → HaveHad told count whole (frames ++ frame ∷ []) n olds news
  have_more lost whole more frames n [] [] [] at fresh same none had = tt
  have_more lost whole more frames n [] [] (d ∷ ns) at fresh same shows had = elim shows [ ]
  have_more lost whole more frames n (o ∷ os) (m ∷ ms) [] at fresh same shows had = elim shows [ ]
  have_more lost whole more frames n (o ∷ os) [] news at fresh same shows had = absurd had
  have_more lost whole more frames n [] (m ∷ ms) news at fresh same shows had = absurd had
  have_more lost whole more frames n (o ∷ os) (m ∷ ms) (_ ∷ ns) at fresh same (passed is rest) (first, had) = (
    passed_one lost whole frames n o m at is (same n (omega arith) ∙ lost_at-append_lost lost more n is) first,
    have_more lost whole more frames (suc n) os ms ns at fresh (λ k h. same k (omega arith)) rest had,
  )
  have_more lost whole more frames n (o ∷ os) (m ∷ ms) (d ∷ ns) at fresh same (took is t rest) (first, had) =
      let kept : lost_at whole n ≡ None = same n (omega arith) ∙ lost_at-append_new lost more n is
      ∙ not_lost_at more n (none_before lost (suc n) ms ns more n rest (omega arith)) in (
        took_one lost whole frames n o m d is kept (not_lost whole n kept) t first,
        have_more lost whole more frames (suc n) os ms ns at fresh (λ k h. same k (omega arith)) rest had,
      )
  have_more lost whole (l ∷ more) frames n (o ∷ os) (m ∷ ms) (d ∷ ns) at fresh same (failed is t rest) (first, had) =
      let gone : lost_at whole n ≡ Some frame.frame = same n (omega arith) ∙ lost_at-append_new lost (record { display = n; frame = frame.frame } ∷ more) n is
      ∙ own_loss (record { display = n; frame = frame.frame }) more n true (grind arith) in (
        failed_one lost whole frames n o m d fresh is gone t first,
        have_more lost whole more frames (suc n) os ms ns at fresh
            (λ k h. same k (omega arith) ∙ skip_one lost (record { display = n; frame = frame.frame }) more k (omega arith)) rest had,
      )

-- a show loses displays of its own alone
shows_within : {D : Type 0} (told : D → Option (List FrameOut)) (count : D → ℕ) (frame : FrameOut) (lost : List LostDisplay) (most n : ℕ) (ds ds' : List D)
    (more : List LostDisplay) → Shows told count frame lost n ds ds' more → 1 ≤ n → n + length ds ≤ suc most → AreWithin most more
shows_within told count frame lost most n ds ds' more none low high = tt
shows_within told count frame lost most n (d ∷ ds) (_ ∷ ds') more (passed is rest) low high =
    shows_within told count frame lost most (suc n) ds ds' more rest (omega arith) (omega arith)
shows_within told count frame lost most n (d ∷ ds) (d' ∷ ds') more (took is t rest) low high =
    shows_within told count frame lost most (suc n) ds ds' more rest (omega arith) (omega arith)
shows_within told count frame lost most n (d ∷ ds) (d' ∷ ds') (l ∷ more) (failed is t rest) low high =
    (low, omega arith, shows_within told count frame lost most (suc n) ds ds' more rest (omega arith) (omega arith))

-- there are as many displays as before
pub had_length : {D : Type 0} (told : D → Option (List FrameOut)) (count : D → ℕ) (lost : List LostDisplay) (frames : List FrameOut) (n : ℕ)
    (olds news : List D)
    → HaveHad told count lost frames n olds news → length news ≡ length olds
had_length told count lost frames n [] [] had = refl
had_length told count lost frames n [] (d' ∷ ds') had = absurd had
had_length told count lost frames n (d ∷ ds) [] had = absurd had
had_length told count lost frames n (d ∷ ds) (d' ∷ ds') (first, had) = ap suc (had_length told count lost frames (suc n) ds ds' had)

have_none : {D : Type 0} (told : D → Option (List FrameOut)) (count : D → ℕ) (n : ℕ) (ds : List D) → HaveHad told count [] [] n ds ds
have_none told count n [] = tt
have_none told count n (d ∷ ds) = (
  record { gains = gains_none (told d); grows = omega arith; risen = λ lost. absurd (grind arith); steady = λ _. refl },
  have_none told count (suc n) ds,
)

-- Before any frame was shown.
pub driven_none : {D : Type 0} (told : D → Option (List FrameOut)) (count : D → ℕ) (lost : List LostDisplay) (ds : List D) → lost ≡ []
    → AreDriven told count lost [] ds ds
driven_none {D} told count lost ds is =
    let P : List LostDisplay → Type 0 = λ ls. AreDriven told count ls [] ds ds in
    subst P (sym is) (record { have_had = have_none told count 1 ds; lost_at_frames = tt; lost_displays = tt })

-- One frame more, of a new number.
pub driven_more : {D : Type 0} (told : D → Option (List FrameOut)) (count : D → ℕ) (frame : FrameOut) (frames frames' : List FrameOut)
    (lost lost' more : List LostDisplay) (olds mids news : List D) → is_among frames frame.frame ≡ false → frames' ≡ frames ++ frame ∷ [] → lost' ≡ lost ++ more
    → AreDriven told count lost frames olds mids → Shows told count frame lost 1 mids news more → AreDriven told count lost' frames' olds news
driven_more told count frame frames frames' lost lost' more olds mids news fresh is is' driven shows =
    let P : List FrameOut → Type 0 = λ fs. AreDriven told count lost' fs olds news in
    let Q : List LostDisplay → Type 0 = λ ls. AreDriven told count ls (frames ++ frame ∷ []) olds news in
    subst P (sym is) (subst Q (sym is') (record {
      have_had = have_more told count frame lost (lost ++ more) more frames 1 olds mids news driven.lost_at_frames fresh (λ k h. refl) shows driven.have_had;
      lost_at_frames = at_append (frames ++ frame ∷ []) lost more (at_more frames (frame ∷ []) lost driven.lost_at_frames)
          (shows_at told count frame frames lost 1 mids news more shows);
      lost_displays = within-append (length olds) lost more driven.lost_displays
          (shows_within told count frame lost (length olds) 1 mids news more shows (omega arith)
          (let same = had_length told count lost frames 1 olds mids driven.have_had in omega (arith, same)));
    }))

-- the same frames
pub driven_same : {D : Type 0} (told : D → Option (List FrameOut)) (count : D → ℕ) (frames frames' : List FrameOut) (lost : List LostDisplay)
    (olds news : List D)
    → frames ≡ frames' → AreDriven told count lost frames olds news → AreDriven told count lost frames' olds news
driven_same told count frames frames' lost olds news e driven = let P : List FrameOut → Type 0 =
    λ fs. AreDriven told count lost fs olds news in subst P e driven
