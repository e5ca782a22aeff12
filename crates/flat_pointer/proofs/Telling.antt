-- The lines of cancelled streams, and the text by the streams as the text by the events.
use Rattle.std.proofs.Common.{ℕ, zero, suc, ◌+◌, ◌<◌, ◌≡◌, refl, sym, ap, ◌∙◌, subst, Bool, true, List, [], ◌∷◌, ◌++◌, length, take, drop, get_or, Option}
use Rattle.std.proofs.Common.{arith, append-nil}
use Rattle.std.specs.Prelude.{nat_lt}
use Rattle.std.specs.List.{flat_map, list_all, range_with_len}
use Rattle.std.proofs.lemmas.Bool.Decides.{nat_tests}
use Rattle.std.proofs.lemmas.Grind.{flat_map-append}
use Rattle.flat_base.proofs.lemmas.Tests.{and-left, and-right}
use Rattle.flat_base.specs.declared.ids.SessionNo.{SessionNo}
use Rattle.flat_scene.specs.declared.frames.FrameOut.{FrameOut}
use Rattle.flat_scene.specs.declared.frames.ViewNode.{ViewNode}
use Rattle.flat_page.specs.Happenings.{Happening, finished, said, merged, all_lines}
use Rattle.flat_page.specs.Steps.{without_items}
use Rattle.flat_page.specs.Pages.{WritesLines}
use Rattle.flat_page.specs.Words.{text_of}
use Rattle.flat_places.specs.Forms.{Word}
use Rattle.flat_page.proofs.lemmas.PageLemmas.{then_lines, same_lines}
use Rattle.flat_page.proofs.lemmas.Telling.{lines-follow, lines-left, all-parted, all-merged}
use Rattle.flat_pointer.specs.declared.text.PointerCall.{PointerCall}
use Rattle.flat_pointer.specs.declared.text.PointerCall.TheVariants.{Down, Move, Up}
use Rattle.flat_pointer.specs.declared.text.PointerTouch.{PointerTouch}
use Rattle.flat_pointer.specs.Streams.{kept_in, cancelled_in}
use Rattle.flat_pointer.specs.Steps.{Streams, no_streams, stream_of, with_stream, framed_below, framed, after_call, after, lines_with, ArePointers}
use Rattle.flat_pointer.specs.Events.{PointerEvent}
use Rattle.flat_pointer.specs.Concerns.{streams_after}
use Rattle.flat_pointer.specs.Laws.{ItemsPlayNoPart}
use Rattle.flat_pointer.specs.Text.{cancel_line, cancel_lines, touch_line, call_answer, called, event_of, lines_at, end_line}
use Rattle.flat_pointer.proofs.Follows.{stream-here, stream-kept, more-kept, calls-follow}

-- ---- pointers that see a frame, one after another

range-more : (a n : ℕ) → range_with_len a (suc n) ≡ range_with_len a n ++ (a + n) ∷ []
range-more a zero = let e : a + 0 ≡ a = omega arith in rw e refl
range-more a (suc n) = let e : (a + 1) + n ≡ a + suc n =
    omega arith in ap (λ (t : List ℕ). a ∷ t) (range-more (a + 1) n ∙ ap (λ k. range_with_len (a + 1) n ++ k ∷ []) e)

-- the lines of one pointer more
pub more_cancels : (names : List Word) (number : ℕ) (nodes : List ViewNode) (start now : Streams) (p : ℕ) (cancelled : Option SessionNo) {old mid new : List ℕ}
    → now ≡ framed_below nodes p start → cancelled ≡ cancelled_in nodes (stream_of now p)
    → WritesLines (flat_map (λ q. cancel_line names number q (cancelled_in nodes (stream_of start q))) (range_with_len 0 p)) old mid
    → WritesLines (cancel_line names number p cancelled) mid new
    → WritesLines (flat_map (λ q. cancel_line names number q (cancelled_in nodes (stream_of start q))) (range_with_len 0 (p + 1))) old new
more_cancels names number nodes start now p cancelled is answer first second =
    let here : cancelled ≡ cancelled_in nodes (stream_of start p) =
    answer ∙ ap (λ (s : Streams). cancelled_in nodes (stream_of s p)) is ∙ ap (cancelled_in nodes) (stream-kept nodes p start) in
    let each : ℕ → List (List Word) = λ q. cancel_line names number q (cancelled_in nodes (stream_of start q)) in
    let e : 0 + p ≡ p = omega arith in
    let f : p + 1 ≡ suc p = omega arith in
    same_lines
    (ap (λ (o : Option SessionNo). flat_map each (range_with_len 0 p) ++ cancel_line names number p o) here
    ∙ sym (
    ap (λ k. flat_map each (range_with_len 0 k)) f ∙ ap (flat_map each) (range-more 0 p) ∙ flat_map-append each (range_with_len 0 p) ((0 + p) ∷ [])
    ∙ ap (λ k. flat_map each (range_with_len 0 p) ++ (each k ++ [])) e
    ∙ ap (λ (t : List (List Word)). flat_map each (range_with_len 0 p) ++ t) (append-nil (each p))))
    (then_lines first second)

pub more_framed : (nodes : List ViewNode) (start now new : Streams) (p : ℕ) → now ≡ framed_below nodes p start
    → new ≡ with_stream now p (kept_in nodes (stream_of now p)) → new ≡ framed_below nodes (p + 1) start
more_framed nodes start now new p is changed =
    let f : p + 1 ≡ suc p = omega arith in
    changed ∙ ap (λ (s : Streams). with_stream s p (kept_in nodes (stream_of s p))) is
    ∙ ap (λ (o : Option SessionNo). with_stream (framed_below nodes p start) p (kept_in nodes o)) (stream-kept nodes p start)
    ∙ more-kept nodes p start ∙ ap (λ k. framed_below nodes k start) (sym f)

pub all_framed : (nodes : List ViewNode) (start now : Streams) (p : ℕ) → p ≡ 16 → now ≡ framed_below nodes p start → now ≡ framed nodes start
all_framed nodes start now p end is = is ∙ ap (λ k. framed_below nodes k start) end

pub all_cancels : (names : List Word) (number : ℕ) (cancelled : ℕ → Option SessionNo) (p : ℕ) {old new : List ℕ} → p ≡ 16
    → WritesLines (flat_map (λ q. cancel_line names number q (cancelled q)) (range_with_len 0 p)) old new
    → WritesLines (cancel_lines names number cancelled) old new
all_cancels names number cancelled p end writes = same_lines (ap (λ k. flat_map (λ q. cancel_line names number q (cancelled q)) (range_with_len 0 k)) end)
    writes

-- ---- which pointers

abbrev is_pointer : PointerTouch → Bool
is_pointer touch = nat_lt touch.line.pointer 16

low : (touch : PointerTouch) → is_pointer touch ≡ true → touch.line.pointer < 16
low touch is = grind (arith, nat_tests)

pub pointer_at : (touches : List PointerTouch) (i : ℕ) (one : PointerTouch) → i < length touches → one ≡ get_or touches i one → ArePointers touches
    → one.line.pointer < 16
pointer_at [] i one within at are = absurd (omega arith)
pointer_at (touch ∷ touches) zero one within at are =
    subst (λ (t : PointerTouch). t.line.pointer < 16) (sym at) (low touch (and-left (is_pointer touch) (list_all is_pointer touches) are.all))
pointer_at (touch ∷ touches) (suc i) one within at are =
    pointer_at touches i one (omega arith) at (record { all = and-right (is_pointer touch) (list_all is_pointer touches) are.all })

pub pointers_parted : (touches : List PointerTouch) (n : ℕ) → ArePointers touches → ArePointers (take n touches) × ArePointers (drop n touches)
pointers_parted touches n are = let both = all-parted is_pointer n touches are.all in (record { all = both.0 }, record { all = both.1 })

-- ---- events

abbrev is_one : Happening PointerTouch → Bool
is_one (finished out) = true
is_one (said touch) = is_pointer touch

line-follows : (names : List Word) (before : List PointerEvent) (one : Happening PointerTouch) → is_one one ≡ true
    → lines_with names (streams_after before) one ≡ lines_at names before one
line-follows names before (finished out) is = refl
line-follows names before (said touch) is =
    ap (λ (o : Option SessionNo). touch_line names touch.line (call_answer o touch.hits touch.line.call) ∷ [])
    (stream-here before touch.line.pointer (low touch is))

call-follows : (before : List PointerEvent) (touch : PointerTouch) (call : PointerCall) → touch.line.pointer < 16
    → after_call (streams_after before) touch.line.pointer touch.hits call ≡ streams_after (called touch.line.pointer touch.hits call ∷ before)
call-follows before touch (Down x y) one = (calls-follow before).downs touch.line.pointer touch.hits one
call-follows before touch (Move x y) one = (calls-follow before).moves touch.line.pointer
call-follows before touch Up one = (calls-follow before).ups touch.line.pointer one

after-follows : (before : List PointerEvent) (one : Happening PointerTouch) → is_one one ≡ true
    → after one (streams_after before) ≡ streams_after (event_of one ∷ before)
after-follows before (finished out) is = (calls-follow before).frames out.tree.nodes
after-follows before (said touch) is = call-follows before touch touch.line.call (low touch is)

pub merged-follows : (names : List Word) (number : PointerTouch → ℕ) (dones : List ℕ) (frames : List FrameOut) (touches : List PointerTouch)
    → ArePointers touches
    → all_lines (lines_with names) after no_streams (merged number dones frames touches)
    ≡ all_lines (lines_at names) (λ one before. event_of one ∷ before) [] (merged number dones frames touches)
merged-follows names number dones frames touches are =
    let none : no_streams ≡ streams_after [] = refl in
    let all : List (Happening PointerTouch) = merged number dones frames touches in
    ap (λ (s : Streams). all_lines (lines_with names) after s all) none
    ∙ lines-follow (lines_with names) after (lines_at names) (λ one before. event_of one ∷ before) streams_after is_one (line-follows names) after-follows all
    []
    (all-merged is_one (λ out. refl) number dones frames touches are.all)

-- ---- draw items

pub items-play-no-part : ItemsPlayNoPart
items-play-no-part names dones frames touches =
    ap (λ (written : List (List Word)). text_of (written ++ end_line (length touches) ∷ []))
    (lines-left (lines_at names) (λ one before. event_of one ∷ before) (λ touch. touch.line.number) without_items (λ before out. refl) (λ before out. refl)
    dones frames touches [])
