-- From a Down to the end of its stream.
use Rattle.std.proofs.Common.{ℕ, ◌≡◌, ◌==◌, refl, ap, ◌∙◌, Bool, true, false, cond, List, [], ◌∷◌, ◌++◌, Option, Some, None}
use Rattle.std.specs.List.{list_any}
use Rattle.std.proofs.lemmas.Bool.{eq-eqb, eqb-true, not-false, not-true, or_parts}
use Rattle.flat_base.specs.declared.ids.SessionNo.{SessionNo}
use Rattle.flat_scene.specs.declared.frames.Hit.{Hit}
use Rattle.flat_pointer.specs.declared.pointers.PointerAnswer.{PointerAnswer}
use Rattle.flat_pointer.specs.declared.pointers.PointerAnswer.TheVariants.{Down, Moved, Up, Busy}
use Rattle.flat_scene.specs.ViewTrees.{is_node}
use Rattle.flat_pointer.specs.Streams.{after_down, down_answer, move_answer, up_answer}
use Rattle.flat_pointer.specs.Events.{PointerEvent, frame, down, move, up, stream_after}
use Rattle.flat_pointer.specs.Concerns.{answer_to}
use Rattle.flat_pointer.specs.Laws.{ends, is_line_of, names, OneSession}

-- a Down that goes to a session begins its stream
begins : (stream : Option SessionNo) (hits : List Hit) (s : SessionNo) → down_answer stream hits ≡ Down s → after_down stream hits ≡ Some s
begins (Some t) hits s h = absurd (cc)
begins None [] s h = absurd (cc)
begins None (hit ∷ hits) s h = let same : hit.session ≡ s = cc in ap Some same

-- what doesn't end the stream leaves it
goes-on : (p : ℕ) (s : SessionNo) (event : PointerEvent) (history : List PointerEvent) → ends p s event ≡ false → stream_after p history ≡ Some s
    → stream_after p (event ∷ history) ≡ Some s
goes-on p s (frame nodes) history on is = let there : is_node nodes s ≡ true = not-false (is_node nodes s) on in rw (is, there) refl
goes-on p s (down q hits) history on is = by_test (q == p)
  where
    by_test : (b : Bool) → cond b (after_down (stream_after p history) hits) (stream_after p history) ≡ Some s
    by_test true = rw is refl
    by_test false = is
goes-on p s (move q) history on is = is
goes-on p s (up q) history on is = rw on is

going : (p : ℕ) (s : SessionNo) (hits : List Hit) (before during : List PointerEvent) → answer_to before (down p hits) ≡ Some (Down s)
    → list_any (ends p s) during ≡ false
    → stream_after p (during ++ down p hits ∷ before) ≡ Some s
going p s hits before [] is none =
    let own : (p == p) ≡ true = eq-eqb p p refl in
    let answer : down_answer (stream_after p before) hits ≡ Down s = cc in
    rw own (begins (stream_after p before) hits s answer)
going p s hits before (event ∷ during) is none =
    let both = or_parts (ends p s event) (list_any (ends p s) during) none in
    goes-on p s event (during ++ down p hits ∷ before) both.0 (going p s hits before during is both.1)

-- ---- answers

downs : (s : SessionNo) (stream : Option SessionNo) (hits : List Hit) (answer : PointerAnswer) → stream ≡ Some s → Some (down_answer stream hits) ≡ Some answer
    → names s answer ≡ true
downs s stream hits answer is said = let busy : down_answer stream hits ≡ Busy = rw is refl in let same : answer ≡ Busy = cc in rw same refl

moves : (s : SessionNo) (stream : Option SessionNo) (answer : PointerAnswer) → stream ≡ Some s → Some (move_answer stream) ≡ Some answer → names s answer ≡ true
moves s stream answer is said = let moved : move_answer stream ≡ Moved s = rw is refl in let same : answer ≡ Moved s = cc in rw same (eq-eqb s.0 s.0 refl)

ups : (s : SessionNo) (stream : Option SessionNo) (answer : PointerAnswer) → stream ≡ Some s → Some (up_answer stream) ≡ Some answer → names s answer ≡ true
ups s stream answer is said = let up : up_answer stream ≡ Up s = rw is refl in let same : answer ≡ Up s = cc in rw same (eq-eqb s.0 s.0 refl)

answers : (p : ℕ) (s : SessionNo) (history : List PointerEvent) → stream_after p history ≡ Some s
    → (event : PointerEvent) (answer : PointerAnswer) → is_line_of p event ≡ true → answer_to history event ≡ Some answer → names s answer ≡ true
answers p s history is (frame nodes) answer own said = absurd (cc)
answers p s history is (down q hits) answer own said =
    downs s (stream_after q history) hits answer (ap (λ r. stream_after r history) (eqb-true q p own) ∙ is) said
answers p s history is (move q) answer own said = moves s (stream_after q history) answer (ap (λ r. stream_after r history) (eqb-true q p own) ∙ is) said
answers p s history is (up q) answer own said = ups s (stream_after q history) answer (ap (λ r. stream_after r history) (eqb-true q p own) ∙ is) said

-- ---- the end

ended : (p : ℕ) (s : SessionNo) (history : List PointerEvent) → stream_after p history ≡ Some s → (event : PointerEvent) → ends p s event ≡ true
    → stream_after p (event ∷ history) ≡ None
ended p s history is (frame nodes) end = let gone : is_node nodes s ≡ false = not-true (is_node nodes s) end in rw (is, gone) refl
ended p s history is (down q hits) end = absurd (cc)
ended p s history is (move q) end = absurd (cc)
ended p s history is (up q) end = rw end refl

pub one-session : OneSession
one-session p s hits before during is none =
    let history : List PointerEvent = during ++ down p hits ∷ before in
    let on = going p s hits before during is none in
    record { going = on; answers = answers p s history on; ended = ended p s history on }
