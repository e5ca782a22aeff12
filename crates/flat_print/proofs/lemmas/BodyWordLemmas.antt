-- The words of a line of the body are those that it was read from.
use Rattle.flat_page.specs.Words.{name_at, actor_name}
use Rattle.std.proofs.Common.{◌≡◌, ℕ, ◌+◌, ◌^◌, Bool, true, false, cond, not, nat_lt, nat_le, ℤ, List, [], ◌∷◌, ◌++◌, length, if◌then◌else◌, ◌&&◌, Option, Some}
use Rattle.std.proofs.Common.{None, Ok, Err, refl, sym, ◌∙◌, ap, codes, option_map, append-nil, arith, subst}
use Rattle.std.specs.Option.{option_map_or, option_or}
use Rattle.std.specs.Str.{bytes_eq}
use Rattle.std.specs.Fmt.{decimal, signed_decimal}
use Rattle.std.proofs.lemmas.Slice.Eq.{bytes_eq-Decides}
use Rattle.flat_base.specs.declared.ids.Actor.{Actor}
use Rattle.flat_base.specs.declared.ids.Actor.TheVariants.{Display, Session, Probe}
use Rattle.flat_base.specs.declared.ids.SessionNo.{SessionNo}
use Rattle.flat_base.specs.declared.ids.FenceNo.{FenceNo}
use Rattle.flat_base.specs.declared.ids.ContentId.{ContentId}
use Rattle.flat_scene.specs.declared.calls.Call.{Call}
use Rattle.flat_scene.specs.declared.calls.PresentArgs.{PresentArgs}
use Rattle.flat_scene.specs.declared.calls.Watch.TheVariants as watch
use Rattle.flat_scene.specs.declared.script.WaitCondition.{WaitCondition}
use Rattle.flat_scene.specs.declared.script.WaitCondition.TheVariants as asks
use Rattle.flat_scene.specs.declared.script.SessionLine.{SessionLine}
use Rattle.flat_scene.specs.declared.script.SessionLine.TheVariants as line
use Rattle.flat_scene.specs.declared.script.DisplayLine.{DisplayLine}
use Rattle.flat_scene.specs.declared.script.DisplayLine.TheVariants as display
use Rattle.flat_scene.specs.declared.script.ProbeLine.{ProbeLine}
use Rattle.flat_scene.specs.declared.script.ProbeLine.TheVariants as probe
use Rattle.flat_scene.specs.declared.script.LineBody.{LineBody}
use Rattle.flat_scene.specs.declared.script.LineBody.TheVariants as body
use Rattle.flat_forms.specs.declared.calls.CallName.{CallName}
use Rattle.flat_places.specs.declared.kinds.FaultKind.TheVariants.{BadNumber, UnknownCall, UnknownName, Limit, BadOrder}
use Rattle.flat_places.specs.declared.script.Script.{Script}
use Rattle.flat_places.specs.Forms.{Word, Reading, Form, Table, known_rows, mapped, unless_kind, whole, give, ◌<$>◌, ◌<*>◌}
use Rattle.flat_places.specs.Names.{place_of, session_named, actor_named}
use Rattle.flat_places.specs.Places.{time, u32, i32, content, point, ratio, unsquashable, session, fence, fence_word as tested_fence}
use Rattle.flat_places.specs.Known.{knows}
use Rattle.flat_forms.specs.Calls.{call_form, call_named, text}
use Rattle.flat_forms.specs.Body.{fence_lists, present, other_line, session_line, display_line, session_condition, display_condition, presents_asked}
use Rattle.flat_forms.specs.Body.{child_asked, probe_line, actor_line, begin_place, begin_times, is_open, in_order, greatest}
use Rattle.flat_print.specs.Print.{session_word, condition_words, session_words, display_words, probe_words, body_words, present_words, unsquashable_word}
use Rattle.flat_print.specs.Print.{call_name, call_fields}
use Rattle.flat_forms.proofs.lemmas.FormLemmas.{Gives, apply_ok, map_ok, place_ok, whole_ok, unless_ok, or_kind_ok, mapped_ok, Shown, shown_whole, shown_mapped}
use Rattle.flat_print.proofs.ValueWords.{test_ok, number_words, i32_words, content_words}
use Rattle.flat_print.proofs.NameWords.{fence_words, name_at-place_of}
use Rattle.flat_print.proofs.FieldWords.{split}
use Rattle.flat_print.proofs.CallLemmas.{NamedCall, call_shown}
use Rattle.flat_base.specs.declared.limits.TheConstants.{RATIO_MIN, RATIO_MAX}
use Rattle.flat_text.specs.Number.{natural}
use Rattle.flat_text.proofs.lemmas.NumberLemmas.{decimal-natural}
use Rattle.flat_print.proofs.ListWordLemmas.{known_spelt, table_spelt, both_words, lists_spelt}

-- actors

number_of : (s : Script) (w : Word) (i : ℕ) → place_of s.sessions w ≡ Some i → session_word s (record { 0 = i + 1 }) ≡ w
number_of s w i is = ap (λ k. name_at s.sessions k) (omega arith) ∙ ap (λ names. name_at names i) (sym (append-nil s.sessions))
    ∙ name_at-place_of s.sessions [] w i is

by_probe : (s : Script) (w : Word) (o : Option ℕ) (a : Actor) → place_of s.probes w ≡ o → option_map Probe o ≡ Some a → actor_name s a ≡ w
by_probe s w None a at is = absurd (cc)
by_probe s w (Some i) a at is = let e : Probe i ≡ a =
    cc in ap (actor_name s) (sym e) ∙ ap (λ names. name_at names i) (sym (append-nil s.probes)) ∙ name_at-place_of s.probes [] w i at

by_session : (s : Script) (w : Word) (o : Option ℕ) (a : Actor) → place_of s.sessions w ≡ o
    → option_or (option_map Session (option_map (λ i. record { 0 = i + 1 }) o)) (option_map Probe (place_of s.probes w)) ≡ Some a → actor_name s a ≡ w
by_session s w None a at is = by_probe s w (place_of s.probes w) a refl is
by_session s w (Some i) a at is = let e : Session (record { 0 = i + 1 }) ≡ a = cc in ap (actor_name s) (sym e) ∙ number_of s w i at

by_display : (s : Script) (w : Word) (b : Bool) (a : Actor) → bytes_eq w (codes "display") ≡ b
    → option_or (cond b (Some Display) (option_map Session (session_named s w))) (option_map Probe (place_of s.probes w)) ≡ Some a → actor_name s a ≡ w
by_display s w true a at is = let e : Display ≡ a = cc in ap (actor_name s) (sym e) ∙ sym ((bytes_eq-Decides w (codes "display")).0 at)
by_display s w false a at is = by_session s w (place_of s.sessions w) a refl is

pub actor_spelt : (s : Script) (w : Word) (a : Actor) → actor_named s w ≡ Some a → actor_name s a ≡ w
actor_spelt s w a is = by_display s w (bytes_eq w (codes "display")) a refl is

-- the display

abbrev ok : ℕ → Reading ℕ
ok n = Ok n

in_order_ok : (least : ℕ) (r : Reading ℕ) (t : ℕ) → in_order least r ≡ Ok t → r ≡ Ok t
in_order_ok least (Err k) t is = absurd (cc)
in_order_ok least (Ok n) t is = by_test (nat_le least n) is
  where
    by_test : (b : Bool) → cond {A = Reading ℕ} b (Ok n) (Err BadOrder) ≡ Ok t → ok n ≡ ok t
    by_test true same = same
    by_test false wrong = absurd (cc)

begin_spelt : (s : Script) (words : List Word) (l : DisplayLine) (b c : Bool)
    → mapped display.Begin (unless_kind Limit b (unless_kind BadOrder c (whole (begin_place s) words))) ≡ Ok l → display_words s l ≡ codes "begin" ∷ words
begin_spelt s words l b c is =
    let m = mapped_ok display.Begin _ l is in
    let first = unless_ok Limit b _ m.a m.given in
    let second = unless_ok BadOrder c (whole (begin_place s) words) m.a first.given in
    let p = place_ok _ words m.a [] (whole_ok (begin_place s) words m.a second.given) in
    let number = (number_words (2 ^ 63)).takes (p.word ∷ []) m.a [] (whole_ok time (p.word ∷ []) m.a (in_order_ok (greatest (begin_times s)) _ m.a p.passes)) in
    ap (display_words s) (sym m.value) ∙ ap (λ t. codes "begin" ∷ t) (sym (p.begins ∙ number))

done_spelt : (s : Script) (words : List Word) (l : DisplayLine) (b : Bool) → unless_kind BadOrder b (whole (give display.Done) words) ≡ Ok l
    → display_words s l ≡ codes "done" ∷ words
done_spelt s words l b is =
    let t = unless_ok BadOrder b (whole (give display.Done) words) l is in
    let given = whole_ok (give display.Done) words l t.given in
    let same = given.value in
    let e : display.Done ≡ l = cc in
    ap (display_words s) (sym e) ∙ ap (λ t. codes "done" ∷ t) (sym given.left)

display_signal_spelt : (s : Script) (words : List Word) (l : DisplayLine) → whole (display.Signal <$> fence s Display) words ≡ Ok l
    → display_words s l ≡ codes "Signal" ∷ words
display_signal_spelt s words l is =
    let m = map_ok display.Signal (fence s Display) words l [] (whole_ok (display.Signal <$> fence s Display) words l is) in
    ap (display_words s) (sym m.value) ∙ ap (λ t. codes "Signal" ∷ t) (sym ((fence_words s Display).takes words m.a [] m.given))

-- conditions

counted_spelt : (h : ℕ → WaitCondition) (s : Script) (w : Word) → ((n : ℕ) → condition_words s (h n) ≡ w ∷ decimal n ∷ [])
    → (words : List Word) (c : WaitCondition)
    → whole (h <$> u32) words ≡ Ok c → condition_words s c ≡ w ∷ words
counted_spelt h s w spells words c is =
    let m = map_ok h u32 words c [] (whole_ok (h <$> u32) words c is) in
    ap (condition_words s) (sym m.value) ∙ spells m.a ∙ ap (λ t. w ∷ t) (sym ((number_words (2 ^ 32)).takes words m.a [] m.given))

waited_spelt : (s : Script) (a : Actor) (words : List Word) (c : WaitCondition) → whole (asks.Fence <$> fence s a) words ≡ Ok c
    → condition_words s c ≡ codes "fence" ∷ words
waited_spelt s a words c is =
    let m = map_ok asks.Fence (fence s a) words c [] (whole_ok (asks.Fence <$> fence s a) words c is) in
    ap (condition_words s) (sym m.value) ∙ ap (λ t. codes "fence" ∷ t) (sym ((fence_words s a).takes words m.a [] m.given))

named_by : (s : Script) (w : Word) (a : SessionNo) (o : Option ℕ) → place_of s.sessions w ≡ o → option_map (λ i. record { 0 = i + 1 }) o ≡ Some a
    → session_word s a ≡ w
named_by s w a None at is = absurd (cc)
named_by s w a (Some i) at is = let e : record { 0 = i + 1 } ≡ a = cc in ap (session_word s) (sym e) ∙ number_of s w i at

presents_spelt : (s : Script) (words : List Word) (c : WaitCondition) → whole (presents_asked s) words ≡ Ok c → condition_words s c ≡ codes "presents" ∷ words
presents_spelt s words c is =
    let h : SessionNo → ℕ → WaitCondition = λ x n. asks.Presents x n in
    let second = split (h <$> session s) u32 (λ n. decimal n ∷ []) words c [] (number_words (2 ^ 32)) (whole_ok (presents_asked s) words c is) in
    let first = map_ok h (session s) words second.g second.mid second.first in
    let value : h first.a second.a ≡ c = ap (λ g. g second.a) first.value ∙ second.value in
    let p = place_ok _ words first.a second.mid first.given in
    let name : session_word s first.a ≡ p.word = named_by s p.word first.a (place_of s.sessions p.word) refl (or_kind_ok UnknownName _ first.a p.passes) in
    ap (condition_words s) (sym value) ∙ ap (λ t. codes "presents" ∷ t)
    (ap (λ n. n ∷ decimal second.a ∷ []) name ∙ sym (p.begins ∙ ap (λ t. p.word ∷ t) second.behind))

session_conditions : Script → SessionNo → Table WaitCondition
session_conditions s a = (codes "frames", whole (asks.Frames <$> u32)) ∷ (codes "credits", whole (asks.Credits <$> u32))
    ∷ (codes "taken", whole (asks.Taken <$> u32)) ∷ (codes "answers", whole (asks.Answers <$> u32))
    ∷ (codes "fence", whole (asks.Fence <$> fence s (Session a))) ∷ []

session_condition_spelt : (s : Script) (a : SessionNo) (words : List Word) (c : WaitCondition) → session_condition s a words ≡ Ok c
    → condition_words s c ≡ words
unfolding session_conditions
session_condition_spelt s a [] c is = absurd (cc)
session_condition_spelt s a (w ∷ words) c is =
    table_spelt (condition_words s) UnknownCall (session_conditions s a) (
      counted_spelt asks.Frames s (codes "frames") (λ n. refl),
      (
        counted_spelt asks.Credits s (codes "credits") (λ n. refl),
        (
          counted_spelt asks.Taken s (codes "taken") (λ n. refl),
          (counted_spelt asks.Answers s (codes "answers") (λ n. refl), (waited_spelt s (Session a), tt)),
        ),
      ),
    ) w words c is

display_conditions : Script → Table WaitCondition
display_conditions s = (codes "presents", whole (presents_asked s)) ∷ (codes "fence", whole (asks.Fence <$> fence s Display)) ∷ []

display_condition_spelt : (s : Script) (words : List Word) (c : WaitCondition) → display_condition s words ≡ Ok c → condition_words s c ≡ words
unfolding display_conditions
display_condition_spelt s [] c is = absurd (cc)
display_condition_spelt s (w ∷ words) c is = table_spelt (condition_words s) UnknownCall (display_conditions s) (presents_spelt s, (waited_spelt s Display, tt))
    w words c is

display_wait_spelt : (s : Script) (words : List Word) (l : DisplayLine) → mapped display.Wait (display_condition s words) ≡ Ok l
    → display_words s l ≡ codes "Wait" ∷ words
display_wait_spelt s words l is =
    let m = mapped_ok display.Wait (display_condition s words) l is in
    ap (display_words s) (sym m.value) ∙ ap (λ t. codes "Wait" ∷ t) (display_condition_spelt s words m.a m.given)

hit_spelt : {A : Type 0} (h : ℤ → ℤ → A) (spell : A → List Word) → ((x y : ℤ) → spell (h x y) ≡ codes "hit" ∷ signed_decimal x ∷ signed_decimal y ∷ [])
    → (words : List Word) (l : A) → whole (point h) words ≡ Ok l → spell l ≡ codes "hit" ∷ words
hit_spelt h spell spells words l is =
    let second = split (h <$> i32) i32 (λ z. signed_decimal z ∷ []) words l [] i32_words (whole_ok (point h) words l is) in
    let first = map_ok h i32 words second.g second.mid second.first in
    let value : h first.a second.a ≡ l = ap (λ g. g second.a) first.value ∙ second.value in
    let taken : words ≡ signed_decimal first.a ∷ signed_decimal second.a ∷ [] =
    i32_words.takes words first.a second.mid first.given ∙ ap (λ t. signed_decimal first.a ∷ t) second.behind in
    ap spell (sym value) ∙ spells first.a second.a ∙ ap (λ t. codes "hit" ∷ t) (sym taken)

display_table : Script → Table DisplayLine
display_table s = (
  codes "begin",
  (λ rest. mapped display.Begin (unless_kind Limit (nat_lt (length (begin_times s)) 512)
      (unless_kind BadOrder (not (is_open s)) (whole (begin_place s) rest)))),
) ∷
    (codes "done", (λ rest. unless_kind BadOrder (is_open s) (whole (give display.Done) rest))) ∷
    (codes "Signal", whole (display.Signal <$> fence s Display)) ∷
    (codes "Wait", (λ rest. mapped display.Wait (display_condition s rest))) ∷
    (codes "hit", whole (point (λ x y. display.Hit x y))) ∷
    (codes "dpr", whole (display.Dpr <$> ratio)) ∷ []

dpr_spelt : (s : Script) (words : List Word) (l : DisplayLine) → whole (display.Dpr <$> ratio) words ≡ Ok l → display_words s l ≡ codes "dpr" ∷ words
dpr_spelt s words l is =
    let m = map_ok display.Dpr ratio words l [] (whole_ok (display.Dpr <$> ratio) words l is) in
    let p = place_ok _ words m.a [] m.given in
    let number = test_ok (λ n. nat_le RATIO_MIN n && nat_le n RATIO_MAX) (natural p.word) m.a (or_kind_ok BadNumber _ m.a p.passes) in
    ap (display_words s) (sym m.value) ∙ ap (λ t. codes "dpr" ∷ t) (ap (λ w. w ∷ []) (decimal-natural p.word m.a number).0 ∙ sym p.begins)

pub display_spelt : (s : Script) (words : List Word) (l : DisplayLine) → display_line s words ≡ Ok l → display_words s l ≡ words
unfolding display_table
display_spelt s [] l is = absurd (cc)
display_spelt s (w ∷ words) l is =
    table_spelt (display_words s) UnknownCall (known_rows s.version (display_table s))
    (known_spelt (display_words s) s.version (display_table s) (
      (λ rest v given. begin_spelt s rest v _ _ given),
      (
        (λ rest v given. done_spelt s rest v (is_open s) given),
        (display_signal_spelt s, (display_wait_spelt s, (hit_spelt (λ x y. display.Hit x y) (display_words s) (λ x y. refl), (dpr_spelt s, tt)))),
      ),
    ))
    w words l is

-- sessions

unsquashable_spelt : (version : ℕ) (words : List Word) (alone : Bool) (rest : List Word) → Gives (unsquashable version) words alone rest
    → words ≡ unsquashable_word alone ++ rest
unsquashable_spelt version [] alone rest given = let value = given.value in let none : false ≡ alone =
    cc in given.left ∙ ap (λ b. unsquashable_word b ++ rest) none
unsquashable_spelt version (w ∷ words) alone rest given = by_test (bytes_eq w (codes "unsquashable")) (knows version w) refl given.value given.left
  where
    taken : Bool → Reading Bool × List Word
    taken b = if b then (Ok true, words) else (Ok false, w ∷ words)

    by_test : (b c : Bool) → bytes_eq w (codes "unsquashable") ≡ b → (taken (b && c)).0 ≡ Ok alone → (taken (b && c)).1 ≡ rest
        → w ∷ words ≡ unsquashable_word alone ++ rest
    by_test true true at value left =
        let is : true ≡ alone = cc in ap (λ v. v ∷ words) ((bytes_eq-Decides w (codes "unsquashable")).0 at) ∙ ap (λ t. codes "unsquashable" ∷ t) left
        ∙ ap (λ b. unsquashable_word b ++ rest) is
    by_test true false at value left = let none : false ≡ alone = cc in left ∙ ap (λ b. unsquashable_word b ++ rest) none
    by_test false c at value left = let none : false ≡ alone = cc in left ∙ ap (λ b. unsquashable_word b ++ rest) none

present_spelt : (s : Script) (a : SessionNo) (words : List Word) (l : SessionLine) → whole (line.Present <$> present s a) words ≡ Ok l
    → session_words s l ≡ codes "Present" ∷ words
present_spelt s a words l is =
    let lists : Form (List FenceNo × List FenceNo) = λ ws. (fence_lists (tested_fence s (Session a)) ws, []) in
    let alone = unsquashable s.version in
    let h : ℕ → Bool → List FenceNo × List FenceNo → PresentArgs = λ t u both. record { time = t; acquire = both.0; release = both.1; unsquashable = u } in
    let whole_line = map_ok line.Present (present s a) words l [] (whole_ok (line.Present <$> present s a) words l is) in
    let third = apply_ok (h <$> time <*> alone) lists words whole_line.a [] whole_line.given in
    let second = apply_ok (h <$> time) alone words third.g third.mid third.first in
    let first = map_ok h time words second.g second.mid second.first in
    let args : h first.a second.a third.a ≡ whole_line.a = ap (λ g. g second.a third.a) first.value ∙ ap (λ g. g third.a) second.value ∙ third.value in
    let behind : second.mid ≡ unsquashable_word second.a ++ both_words s (Session a) third.a =
    unsquashable_spelt s.version second.mid second.a third.mid second.second
    ∙ ap (λ t. unsquashable_word second.a ++ t) (lists_spelt s (Session a) third.mid third.a third.second.value) in
    let taken : words ≡ decimal first.a ∷ unsquashable_word second.a ++ both_words s (Session a) third.a =
    (number_words (2 ^ 63)).takes words first.a second.mid first.given ∙ ap (λ t. decimal first.a ∷ t) behind in
    ap (session_words s) (sym whole_line.value) ∙ ap (λ p. present_words s p) (sym args) ∙ ap (λ t. codes "Present" ∷ t) (sym taken)

signal_spelt : (s : Script) (a : SessionNo) (words : List Word) (l : SessionLine) → whole (line.Signal <$> fence s (Session a)) words ≡ Ok l
    → session_words s l ≡ codes "Signal" ∷ words
signal_spelt s a words l is =
    let m = map_ok line.Signal (fence s (Session a)) words l [] (whole_ok (line.Signal <$> fence s (Session a)) words l is) in
    ap (session_words s) (sym m.value) ∙ ap (λ t. codes "Signal" ∷ t) (sym ((fence_words s (Session a)).takes words m.a [] m.given))

wait_spelt : (s : Script) (a : SessionNo) (words : List Word) (l : SessionLine) → mapped line.Wait (session_condition s a words) ≡ Ok l
    → session_words s l ≡ codes "Wait" ∷ words
wait_spelt s a words l is =
    let m = mapped_ok line.Wait (session_condition s a words) l is in
    ap (session_words s) (sym m.value) ∙ ap (λ t. codes "Wait" ∷ t) (session_condition_spelt s a words m.a m.given)

alone_spelt : (s : Script) (one : SessionLine) (words : List Word) (l : SessionLine) → whole (give one) words ≡ Ok l
    → session_words s l ≡ session_words s one ++ words
alone_spelt s one words l is =
    let given = whole_ok (give one) words l is in
    let same = given.value in
    let e : one ≡ l = cc in
    ap (session_words s) (sym e) ∙ sym (append-nil (session_words s one)) ∙ ap (λ t. session_words s one ++ t) (sym given.left)

child_spelt : (s : Script) (words : List Word) (l : SessionLine) → whole child_asked words ≡ Ok l → session_words s l ≡ codes "GetChildStatus" ∷ words
child_spelt s words l is =
    let h : ContentId → SessionLine = λ c. line.Get (watch.Child c) in
    let m = map_ok h content words l [] (whole_ok child_asked words l is) in
    ap (session_words s) (sym m.value) ∙ ap (λ t. codes "GetChildStatus" ∷ t) (sym (content_words.takes words m.a [] m.given))

other_table : Script → SessionNo → Table SessionLine
other_table s a =
    (codes "Present", whole (line.Present <$> present s a)) ∷
    (codes "GetLayout", whole (give (line.Get watch.Layout))) ∷
    (codes "GetStatus", whole (give (line.Get watch.Status))) ∷
    (codes "GetChildStatus", whole child_asked) ∷
    (codes "Signal", whole (line.Signal <$> fence s (Session a))) ∷
    (codes "Poll", whole (give line.Poll)) ∷
    (codes "Wait", (λ rest. mapped line.Wait (session_condition s a rest))) ∷
    (codes "Disconnect", whole (give line.Disconnect)) ∷ []

other_spelt : (s : Script) (a : SessionNo) (w : Word) (words : List Word) (l : SessionLine) → other_line s a (w ∷ words) ≡ Ok l → session_words s l ≡ w ∷ words
unfolding other_table
other_spelt s a w words l is =
    table_spelt (session_words s) UnknownCall (other_table s a) (
      present_spelt s a,
      (
        alone_spelt s (line.Get watch.Layout),
        (
          alone_spelt s (line.Get watch.Status),
          (
            child_spelt s,
            (signal_spelt s a, (alone_spelt s line.Poll, (wait_spelt s a, (alone_spelt s line.Disconnect, tt)))),
          ),
        ),
      ),
    ) w words l is

-- a call; one with an inset of zeros is spelt without it
call_line_shown : (s : Script) (a : SessionNo) (w : Word) (n : CallName) (words : List Word) (c : Call) → call_named s.version w ≡ Some n
    → NamedCall s a w n words c → Shown (session_line s a) (session_words s (line.Call c)) (w ∷ words) (line.Call c)
call_line_shown s a w n words c at shown =
    let fields : List Word = call_fields s c in
    record {
      behind = shown.fields.behind;
      begins = ap (λ v. v ∷ words) (sym shown.word) ∙ ap (λ t. text (call_name c) ∷ t) shown.fields.begins;
      again = ap (λ v. session_line s a (v ∷ fields)) shown.word
          ∙ ap (λ o. option_map_or (λ m. mapped line.Call (whole (call_form s a m) fields)) o (other_line s a (w ∷ fields))) at
          ∙ ap (mapped line.Call) shown.fields.again;
    }

by_call : (s : Script) (a : SessionNo) (w : Word) (words : List Word) (l : SessionLine) (o : Option CallName) → call_named s.version w ≡ o
    → session_line s a (w ∷ words) ≡ Ok l
    → option_map_or (λ n. mapped line.Call (whole (call_form s a n) words)) o (other_line s a (w ∷ words)) ≡ Ok l
    → Shown (session_line s a) (session_words s l) (w ∷ words) l
by_call s a w words l None at is other = shown_whole (session_line s a) (session_words s l) (w ∷ words) l (other_spelt s a w words l other) is
by_call s a w words l (Some n) at is called =
    let m = mapped_ok line.Call (whole (call_form s a n) words) l called in
    let P : SessionLine → Type 0 = λ v. Shown (session_line s a) (session_words s v) (w ∷ words) v in
    subst P m.value (call_line_shown s a w n words m.a at (call_shown s a w n at words m.a m.given))

pub session_shown : (s : Script) (a : SessionNo) (words : List Word) (l : SessionLine) → session_line s a words ≡ Ok l
    → Shown (session_line s a) (session_words s l) words l
session_shown s a [] l is = absurd (cc)
session_shown s a (w ∷ words) l is = by_call s a w words l (call_named s.version w) refl is is

-- probes

probe_table : Table ProbeLine
probe_table = (codes "hit", whole (point (λ x y. probe.Hit x y))) ∷ (codes "await", whole (probe.Await <$> u32)) ∷ []

await_spelt : (words : List Word) (l : ProbeLine) → whole (probe.Await <$> u32) words ≡ Ok l → probe_words l ≡ codes "await" ∷ words
await_spelt words l is =
    let m = map_ok probe.Await u32 words l [] (whole_ok (probe.Await <$> u32) words l is) in
    ap probe_words (sym m.value) ∙ ap (λ t. codes "await" ∷ t) (sym ((number_words (2 ^ 32)).takes words m.a [] m.given))

probe_spelt : (version : ℕ) (words : List Word) (l : ProbeLine) → probe_line version words ≡ Ok l → probe_words l ≡ words
unfolding probe_table
probe_spelt version [] l is = absurd (cc)
probe_spelt version (w ∷ words) l is = table_spelt probe_words UnknownCall probe_table
    (hit_spelt (λ x y. probe.Hit x y) probe_words (λ x y. refl), (await_spelt, tt)) w words l is

-- a line behind its actor
pub body_shown : (s : Script) (a : Actor) (words : List Word) (b : LineBody) → actor_line s a words ≡ Ok b → Shown (actor_line s a) (body_words s b) words b
body_shown s Display words b is =
    let m = mapped_ok body.Display (display_line s words) b is in
    shown_whole (actor_line s Display) (body_words s b) words b (ap (body_words s) (sym m.value) ∙ display_spelt s words m.a m.given) is
body_shown s (Session a) words b is =
    let m = mapped_ok body.Session (session_line s a words) b is in
    let P : LineBody → Type 0 = λ v. Shown (actor_line s (Session a)) (body_words s v) words v in
    subst P m.value (shown_mapped body.Session (session_line s a) (session_words s m.a) words m.a (session_shown s a words m.a m.given))
body_shown s (Probe p) words b is =
    let m = mapped_ok body.Probe (probe_line s.version words) b is in
    shown_whole (actor_line s (Probe p)) (body_words s b) words b (ap (body_words s) (sym m.value) ∙ probe_spelt s.version words m.a m.given) is
