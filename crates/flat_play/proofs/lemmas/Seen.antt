-- What displays have had of a run, line by line.
use Rattle.std.proofs.Common.{◌≡◌, ℕ, suc, ◌+◌, ◌-◌, ◌<◌, ◌==◌, Some, slice_get, Bool, true, false, cond, List, [], ◌∷◌, ◌++◌, length, length-append, map}
use Rattle.std.proofs.Common.{Option, refl, sym, ap, ◌∙◌, subst, arith, append-nil}
use Rattle.std.proofs.Math.Seq.{get_or-append_seam}
use Rattle.std.proofs.lemmas.List.{length-map}
use Rattle.std.proofs.lemmas.List.Folds.{list_any-append}
use Rattle.std.proofs.lemmas.Option.{slice_get_read}
use Rattle.std.proofs.lemmas.Bool.Decides.{nat_tests}
use Rattle.flat_base.specs.declared.ids.FrameNo.{FrameNo}
use Rattle.flat_scene.specs.declared.frames.FrameOut.{FrameOut}
use Rattle.flat_scene.specs.declared.frames.LostDisplay.{LostDisplay}
use Rattle.flat_scene.specs.declared.journal.Entry.{Entry}
use Rattle.flat_scene.specs.declared.setup.Setup.{Setup}
use Rattle.flat_scene.specs.History.{◌▹◌, is_finish}
use Rattle.flat_rules.specs.Ends.{to_begin, to_finished}
use Rattle.flat_rules.specs.Legal.{frames}
use Rattle.flat_display.specs.Had.{AreKept, is_numbered, is_among}
use Rattle.flat_display.specs.Lost.{Driven}
use Rattle.flat_display.specs.Shows.{Shows}
use Rattle.flat_display.proofs.lemmas.Driving.{driven_none, driven_more, driven_same}
use Rattle.flat_report.specs.Report.{begin_of, finished, frame_at}
use Rattle.flat_play.specs.Showing.{IsShown, shows_frame, shows_none, HaveSeen}
use Rattle.flat_base.proofs.lemmas.Tests.{or-false}
use Rattle.flat_play.proofs.Losses.{shows_rise, loss_more, loss_same, numbered_more}

-- how many frames were finished, with one entry more
pub frames_more : (before : List Entry) (entry : Entry) (b : Bool) → is_finish entry.kind ≡ b → frames (before ▹ entry) ≡ frames before + cond b 1 0
frames_more before entry true is = rw is (omega arith)
frames_more before entry false is = rw is (omega arith)

-- the begin of the last of all finished frames
pub last-begin : (history : List Entry) → begin_of (frames history) history ≡ to_finished history
last-begin [] = refl
last-begin (before ▹ entry) = by (is_finish entry.kind) refl (last-begin before)
  where
    by : (b : Bool) → is_finish entry.kind ≡ b → begin_of (frames before) before ≡ to_finished before
        → begin_of (frames (before ▹ entry)) (before ▹ entry) ≡ to_finished (before ▹ entry)
    by true is rest =
        let many : frames (before ▹ entry) ≡ suc (frames before) = (let more = frames_more before entry true is in omega (arith, more)) in
        let same : (suc (frames before) == suc (frames before)) ≡ true = grind (arith, nat_tests) in
        let here : begin_of (suc (frames before)) (before ▹ entry) ≡ to_begin before = rw (is, same) refl in
        let last : to_finished (before ▹ entry) ≡ to_begin before = rw is refl in
        ap (λ n. begin_of n (before ▹ entry)) many ∙ here ∙ sym last
    by false is rest =
        let many : frames (before ▹ entry) ≡ frames before = (let more = frames_more before entry false is in omega (arith, more)) in
        let here : begin_of (frames before) (before ▹ entry) ≡ begin_of (frames before) before = rw is refl in
        let last : to_finished (before ▹ entry) ≡ to_finished before = rw is refl in
        ap (λ n. begin_of n (before ▹ entry)) many ∙ here ∙ rest ∙ sym last

pub finished_by : (setup : Setup) (before : List Entry) (entry : Entry) (b : Bool) → is_finish entry.kind ≡ b
    → finished setup (before ▹ entry) ≡ finished setup before ++ cond b (frame_at setup (suc (frames before)) (to_begin before) ∷ []) []
finished_by setup before entry b is = ap (λ b. finished setup before ++ cond b (frame_at setup (suc (frames before)) (to_begin before) ∷ []) []) is

one_more : (setup : Setup) (before : List Entry) (entry : Entry) (b : Bool) → is_finish entry.kind ≡ b → length (finished setup before) ≡ frames before
    → length (finished setup (before ▹ entry)) ≡ frames (before ▹ entry)
one_more setup before entry true is was =
    ap length (finished_by setup before entry true is) ∙ length-append (finished setup before) (frame_at setup (suc (frames before)) (to_begin before) ∷ [])
    ∙ ap (λ n. n + 1) was ∙ sym (frames_more before entry true is)
one_more setup before entry false is was =
    let same : length (finished setup (before ▹ entry)) ≡ frames before =
    ap length (finished_by setup before entry false is ∙ append-nil (finished setup before)) ∙ was in
    let grown = frames_more before entry false is in
    omega (arith, same, grown)

-- as many frames were finished as the history says
pub finished_length : (setup : Setup) (history : List Entry) → length (finished setup history) ≡ frames history
finished_length setup [] = refl
finished_length setup (before ▹ entry) = one_more setup before entry (is_finish entry.kind) refl (finished_length setup before)

none_more : (setup : Setup) (before : List Entry) (entry : Entry) (number : FrameNo) (b : Bool) → is_finish entry.kind ≡ b → frames (before ▹ entry) < number.0
    → (frames before < number.0 → is_among (finished setup before) number ≡ false)
    → is_among (finished setup (before ▹ entry)) number ≡ false
none_more setup before entry number true is above none =
    let grown = frames_more before entry true is in
    let last : is_among (frame_at setup (suc (frames before)) (to_begin before) ∷ []) number ≡ false = grind (arith, nat_tests) in
    ap (λ fs. is_among fs number) (finished_by setup before entry true is)
    ∙ list_any-append (is_numbered number) (finished setup before) (frame_at setup (suc (frames before)) (to_begin before) ∷ [])
    ∙ or-false (none (omega (arith, grown, above))) last
none_more setup before entry number false is above none =
    let grown = frames_more before entry false is in
    ap (λ fs. is_among fs number) (finished_by setup before entry false is ∙ append-nil (finished setup before)) ∙ none (omega (arith, grown, above))

-- none of them has a number above that
pub none_above : (setup : Setup) (history : List Entry) (number : FrameNo) → frames history < number.0 → is_among (finished setup history) number ≡ false
none_above setup [] number above = refl
none_above setup (before ▹ entry) number above = none_more setup before entry number (is_finish entry.kind) refl above
    (λ below. none_above setup before number below)

-- the last of some frames
pub is_last : {A : Type 0} (before : List A) (x : A) (all : List A) (last : A) → all ≡ before ++ x ∷ [] → Some last ≡ slice_get all (length all - 1) → last ≡ x
is_last before x all last is at =
    let place : length (before ++ x ∷ []) - 1 ≡ length before = let long = length-append before (x ∷ []) in omega (arith, long) in
    let within : length before < length (before ++ x ∷ []) = let long = length-append before (x ∷ []) in omega (arith, long) in
    let here : slice_get (before ++ x ∷ []) (length before) ≡ Some x =
    slice_get_read (before ++ x ∷ []) (length (before ++ x ∷ [])) (length before) x refl within (sym (get_or-append_seam before x [] x)) in
    let both : Some last ≡ Some x = at ∙ ap (λ ys. slice_get ys (length ys - 1)) is ∙ ap (slice_get (before ++ x ∷ [])) place ∙ here in
    cc

-- what the show of a frame says of the same frame
pub shows_same : {D : Type 0} (told : D → Option (List FrameOut)) (count : D → ℕ) (one other : FrameOut) (lost : List LostDisplay) (n : ℕ) (ds ds' : List D)
    (more : List LostDisplay) → one ≡ other → Shows told count one lost n ds ds' more → Shows told count other lost n ds ds' more
shows_same told count one other lost n ds ds' more same shows = let P : FrameOut → Type 0 = λ f. Shows told count f lost n ds ds' more in subst P same shows

-- displays of the same kinds are as many
pub as_long : {A B : Type 0} (f : A → B) (xs ys : List A) → map f xs ≡ map f ys → length xs ≡ length ys
as_long f xs ys same = sym (length-map xs f) ∙ ap length same ∙ length-map ys f

-- displays that were shown nothing are kept
pub kept_none : {D K : Type 0} (told : D → Option (List FrameOut)) (count : D → ℕ) (AreOfSort : List FrameOut → Type 0) (kind : D → K) (ds : List D)
    → AreOfSort [] → AreKept told count AreOfSort ds ds kind
kept_none told count AreOfSort kind ds none = record { kinds = refl; some = ([], [], none, driven_none told count [] ds refl) }

-- so are those that have had the frames of a run
pub kept_seen : {D K : Type 0} (told : D → Option (List FrameOut)) (count : D → ℕ) (AreOfSort : List FrameOut → Type 0) (kind : D → K) (shown : List FrameOut)
    (history : List Entry) (lost : List LostDisplay) (olds news : List D) → map kind news ≡ map kind olds
    → AreOfSort shown → HaveSeen told count shown history lost olds news → AreKept told count AreOfSort olds news kind
kept_seen told count AreOfSort kind shown history lost olds news kinds are seen = record { kinds = kinds; some = (lost, shown, are, seen.driven) }

-- the same displays, by another name
pub kept_same : {D K : Type 0} (told : D → Option (List FrameOut)) (count : D → ℕ) (AreOfSort : List FrameOut → Type 0) (kind : D → K)
    (olds news news' : List D) → news' ≡ news → AreKept told count AreOfSort olds news kind → AreKept told count AreOfSort olds news' kind
kept_same {D} told count AreOfSort kind olds news news' same kept = let P : List D → Type 0 =
    λ ds. AreKept told count AreOfSort olds ds kind in subst P (sym same) kept

-- frames of a sort are of each wider one
pub kept_as : {D K : Type 0} (told : D → Option (List FrameOut)) (count : D → ℕ) (AreOfSort AreOfOther : List FrameOut → Type 0) (kind : D → K)
    (olds news : List D) → ((shown : List FrameOut) → AreOfSort shown → AreOfOther shown)
    → AreKept told count AreOfSort olds news kind → AreKept told count AreOfOther olds news kind
kept_as told count AreOfSort AreOfOther kind olds news wider kept =
    record { kinds = kept.kinds; some = (kept.some.0, kept.some.1, wider kept.some.1 kept.some.2, kept.some.3) }

-- by other names, where as many frames are finished
pub seen_counted : {D : Type 0} (told : D → Option (List FrameOut)) (count : D → ℕ) (all all' : List FrameOut) (old new : List Entry)
    (lost lost' : List LostDisplay)
    (olds olds' news : List D) → all' ≡ all → frames new ≡ frames old → lost' ≡ lost → olds' ≡ olds
    → HaveSeen told count all old lost olds news → HaveSeen told count all' new lost' olds' news
seen_counted {D} told count all all' old new lost lost' olds olds' news all_is number lost_is olds_is seen =
    let F : List FrameOut → Type 0 = λ fs. HaveSeen told count fs new lost' olds' news in
    let L : List LostDisplay → Type 0 = λ ls. HaveSeen told count all new ls olds' news in
    let O : List D → Type 0 = λ ds. HaveSeen told count all new lost ds news in
    subst F (sym all_is) (subst L (sym lost_is) (subst O (sym olds_is)
    (record { driven = seen.driven; loss = loss_same old new lost number seen.loss; numbered = seen.numbered })))

pub kept_from : {D K : Type 0} (told : D → Option (List FrameOut)) (count : D → ℕ) (AreOfSort : List FrameOut → Type 0) (kind : D → K)
    (olds olds' news : List D) → olds' ≡ olds → AreKept told count AreOfSort olds news kind → AreKept told count AreOfSort olds' news kind
kept_from {D} told count AreOfSort kind olds olds' news same kept = let P : List D → Type 0 =
    λ ds. AreKept told count AreOfSort ds news kind in subst P (sym same) kept

module _ {D : Type 0} (told : D → Option (List FrameOut)) (count : D → ℕ) where
  -- before any line
  pub seen_none : (shown : List FrameOut) (history : List Entry) (lost : List LostDisplay) (ds : List D) → shown ≡ [] → lost ≡ []
      → HaveSeen told count shown history lost ds ds
  seen_none shown history lost ds none whole =
      let L : List LostDisplay → Type 0 = λ ls. HaveSeen told count shown history ls ds ds in
      subst L (sym whole) (record {
        driven = driven_same told count [] shown [] ds ds (sym none) (driven_none told count [] ds refl);
        loss = refl;
        numbered = refl;
      })

  module _ (setup : Setup) (shown shown' : List FrameOut) (old new : List Entry) (was : shown ≡ finished setup old) (is : shown' ≡ finished setup new) where
    counted : (fs : List FrameOut) (history : List Entry) → fs ≡ finished setup history → length fs ≡ frames history
    counted fs history stands = ap length stands ∙ finished_length setup history

    -- after what finishes no frame
    pub seen_same : (lost : List LostDisplay) (olds news : List D) → shown' ≡ shown → HaveSeen told count shown old lost olds news
        → HaveSeen told count shown' new lost olds news
    seen_same lost olds news same seen =
        let before = counted shown old was in
        let after = counted shown' new is in
        let long : length shown' ≡ length shown = ap length same in
        record {
          driven = driven_same told count shown shown' lost olds news (sym same) seen.driven;
          loss = loss_same old new lost (omega (arith, before, after, long)) seen.loss;
          numbered = seen.numbered;
        }

    -- after a frame that was shown
    seen_more : (frame : FrameOut) (lost losses : List LostDisplay) (olds mids news : List D) → shown' ≡ shown ++ frame ∷ []
        → frame.frame.0 ≡ suc (length shown)
        → length mids < 4294967296 → Shows told count frame lost 1 mids news losses → HaveSeen told count shown old lost olds mids
        → HaveSeen told count shown' new (lost ++ losses) olds news
    seen_more frame lost losses olds mids news kept number few shows seen =
        let before = counted shown old was in
        let after = counted shown' new is in
        let longer : length shown' ≡ length shown + 1 = ap length kept ∙ length-append shown (frame ∷ []) in
        let fresh : is_among shown frame.frame ≡ false = ap (λ fs. is_among fs frame.frame) was
        ∙ none_above setup old frame.frame (omega (arith, number, before)) in
        let rise = shows_rise told count frame lost 1 mids news losses shows in
        record {
          driven = driven_more told count frame shown shown' lost (lost ++ losses) losses olds mids news fresh kept refl seen.driven shows;
          loss = loss_more old new frame.frame (1 + length mids) 1 lost losses seen.loss (omega (arith, number, before)) (omega (arith, before, after, longer))
              rise;
          numbered = numbered_more frame.frame (1 + length mids) 1 lost losses seen.numbered (omega arith) (omega arith) rise;
        }

    -- after what a line shows
    pub seen_line : (set set' : Driven) (olds mids news : List D) → length mids < 4294967296 → IsShown told count shown shown' set set' mids news
        → HaveSeen told count shown old set.lost olds mids → HaveSeen told count shown' new set'.lost olds news
    seen_line set set' olds mids news few (shows_frame next more kept number set_is shows) seen =
        let L : Driven → Type 0 = λ d. HaveSeen told count shown' new d.lost olds news in
        subst L (sym set_is) (seen_more next set.lost more olds mids news kept number few shows seen)
    seen_line set set' olds mids news few (shows_none kept set_is news_are) seen =
        let L : Driven → Type 0 = λ d. HaveSeen told count shown' new d.lost olds news in
        let N : List D → Type 0 = λ ds. HaveSeen told count shown' new set.lost olds ds in
        subst L (sym set_is) (subst N (sym news_are) (seen_same set.lost olds mids kept seen))
