-- The uses of a viewport end are the calls of its owner that made viewports of the pair, while the owner is open.
use Rattle.std.proofs.Common.{◌≡◌, ◌∙◌, sym, subst, ℕ, ◌+◌, ◌-◌, Bool, true, false, List, [], ◌∷◌, ◌++◌, length, refl, arith, ap, Some, None}
use Rattle.std.specs.Prelude.{cond, ◌&&◌, ◌==◌, Option, option_map, unwrap_or, slice_get}
use Rattle.std.specs.List.{list_any, list_all}
use Rattle.std.proofs.lemmas.Bool.Decides.{nat_tests}
use Rattle.flat_base.specs.declared.ids.Actor.{Actor}
use Rattle.flat_base.specs.declared.ids.Actor.TheVariants.{Display, Session, Probe}
use Rattle.flat_base.specs.declared.ids.PairNo.{PairNo}
use Rattle.flat_base.specs.declared.ids.SessionNo.{SessionNo}
use Rattle.flat_scene.specs.declared.calls.Call.{Call}
use Rattle.flat_scene.specs.declared.calls.Call.TheVariants.{CreateView, CreateViewport}
use Rattle.flat_scene.specs.declared.calls.ViewportProps.{ViewportProps}
use Rattle.flat_scene.specs.declared.journal.Entry.{Entry}
use Rattle.flat_scene.specs.declared.journal.EntryKind.{EntryKind}
use Rattle.flat_scene.specs.declared.journal.EntryKind.TheVariants.{View, Viewport, Close}
use Rattle.flat_scene.specs.declared.journal.Reply.{Reply}
use Rattle.flat_scene.specs.declared.journal.Reply.TheVariants.{Done}
use Rattle.flat_scene.specs.declared.setup.Setup.{Setup}
use Rattle.flat_scene.specs.History.{◌▹◌, own, calls, closes, is_closed, is_session}
use Rattle.flat_base.proofs.lemmas.Tests.{and-left}
use Rattle.flat_rules.specs.Ends.{viewport_uses, uses_viewport, is_done, viewport_owner}
use Rattle.flat_rules.specs.Legal.{Legal, LegalEntry, MayEnter, reply_to, refused_token, is_link, all_but_last, owns_viewport, owns_in_call, makes_view}
use Rattle.flat_rules.specs.Legal.{makes_viewport, number_if, has_token}
use Rattle.flat_facts.specs.Lives.{makes_one, made_of_pair}
use Rattle.flat_facts.proofs.lemmas.LiveCounts.{made-append}
use Rattle.flat_facts.proofs.lemmas.ViewCalls.{split-last}
use Rattle.flat_facts.proofs.lemmas.ViewHistory.{same-session, closes-first}
use Rattle.std.proofs.lemmas.Bool.{not-true, or_parts}
use Rattle.flat_facts.proofs.lemmas.Tests.{same-pair}

-- ---- calls that use no end, and those that a viewport's or a view's entry carries

no-one : (p : PairNo) (call : Call) → is_link call ≡ false → makes_one p call ≡ false
no-one p (CreateViewport c q w h inset) none = let wrong : true ≡ false = none in cc
no-one p _ none = refl

pub none-made : (p : PairNo) (cs : List Call) → list_any is_link cs ≡ false → made_of_pair p cs ≡ 0
none-made p [] none = refl
none-made p (call ∷ cs) none =
    rw (no-one p call (or_parts (is_link call) (list_any is_link cs) none).0, none-made p cs (or_parts (is_link call) (list_any is_link cs) none).1) refl

last-view : (p q : PairNo) (call : Call) → makes_view q (Some call) ≡ true → makes_one p call ≡ false
last-view p q (CreateView r) is = refl
last-view p q (CreateViewport c r w h inset) is = let wrong : false ≡ true = is in cc
last-view p q _ is = refl

same-number : (a b n : ℕ) → (a == b) ≡ true → (a == n) ≡ (b == n)
same-number a b n same = let number : a ≡ b = grind (arith, nat_tests) in ap (λ (k : ℕ). k == n) number

last-viewport : (p q : PairNo) (props : ViewportProps) (call : Call) → makes_viewport q props (Some call) ≡ true → makes_one p call ≡ (q.0 == p.0)
last-viewport p q props (CreateViewport c r w h inset) is = same-number r.0 q.0 p.0 (and-left (r.0 == q.0) _ (and-left _ _ (and-left _ _ is)))
last-viewport p q props (CreateView r) is = let wrong : false ≡ true = is in cc
last-viewport p q props _ is = let wrong : false ≡ true = is in cc

made-last : (p : PairNo) (carries : List Call) (b : Bool) (call : Option Call) → slice_get carries (length carries - 1) ≡ call
    → ((c : Call) → call ≡ Some c → makes_one p c ≡ b) → (call ≡ None → false ≡ true)
    → list_any is_link (all_but_last carries) ≡ false → made_of_pair p carries ≡ number_if b
made-last p carries b None at one some none = let wrong : false ≡ true = some refl in cc
made-last p carries b (Some c) at one some none =
    let first : made_of_pair p (all_but_last carries) ≡ 0 = none-made p (all_but_last carries) none in
    let last : made_of_pair p (c ∷ []) ≡ number_if b = ap (λ (x : Bool). number_if x + 0) (one c refl) ∙ omega arith in
    ap (made_of_pair p) (split-last carries c at) ∙ made-append p (all_but_last carries) (c ∷ []) ∙ omega (arith, first, last)

-- ---- one entry

module _ (setup : Setup) (s : SessionNo) (p : PairNo) (owned : owns_viewport setup s p ≡ true) where
  one-owner : (o : Option Actor) (t u : SessionNo) → unwrap_or (option_map (is_session t) o) false ≡ true → unwrap_or (option_map (is_session u) o) false ≡ true
      → (t.0 == u.0) ≡ true
  one-owner None t u a b = cc
  one-owner (Some Display) t u a b = cc
  one-owner (Some (Probe n)) t u a b = cc
  one-owner (Some (Session v)) t u a b = grind (arith, nat_tests)

  -- another's entry is no use
  other-use : (h : List Entry) (who : Actor) (carries : List Call) (kind : EntryKind) → MayEnter setup h who carries kind → is_session s who ≡ false
      → uses_viewport p kind ≡ false
  other-use h Display carries (Viewport q props) may other = let wrong : false ≡ true = may.acts in cc
  other-use h (Probe n) carries (Viewport q props) may other = let wrong : false ≡ true = may.acts in cc
  other-use h (Session t) carries (Viewport q props) may other = by_pair (q.0 == p.0) refl
    where
      by_pair : (b : Bool) → (q.0 == p.0) ≡ b → b ≡ false
      by_pair false is = refl
      by_pair true is =
          let O : PairNo → Type 0 = λ r. owns_viewport setup t r ≡ true in
          let theirs : owns_viewport setup t p ≡ true = subst O (same-pair q p is)
          (and-left (owns_viewport setup t q) (list_all (owns_in_call setup t) carries) may.owned) in
          let same : (t.0 == s.0) ≡ true = one-owner (viewport_owner setup p) t s theirs owned in
          let wrong : true ≡ false = sym same ∙ other in cc
  other-use h who carries _ may other = refl

  -- what it makes by its own entries is what it uses
  own-use : (h : List Entry) (who : Actor) (carries : List Call) (kind : EntryKind) (reply : Reply) → MayEnter setup h (Session s) carries kind
      → reply ≡ reply_to setup h (Session s) carries kind → closes reply ≡ false
      → made_of_pair p carries ≡ number_if (uses_viewport p kind && is_done reply)
  own-use h who carries (Close None) reply may replied stays = let wrong : true ≡ false = sym (ap closes replied) ∙ stays in cc
  own-use h who carries (Close (Some reason)) reply may replied stays = let wrong : true ≡ false = sym (ap closes replied) ∙ stays in cc
  own-use h who carries (View q) reply may replied stays =
      made-last p carries false (slice_get carries (length carries - 1)) refl
      (λ c is. last-view p q c (ap (makes_view q) (sym is) ∙ may.calls)) (λ is. ap (makes_view q) (sym is) ∙ may.calls)
      (not-true (list_any is_link (all_but_last carries)) may.links)
  own-use h who carries (Viewport q props) reply may replied stays = by_token (has_token setup q h) replied
    where
      by_token : (b : Bool) → reply ≡ cond b Done refused_token → made_of_pair p carries ≡ number_if ((q.0 == p.0) && is_done reply)
      by_token false is = let wrong : true ≡ false = sym (ap closes is) ∙ stays in cc
      by_token true is =
          let done : is_done reply ≡ true = ap is_done is in
          let made : made_of_pair p carries ≡ number_if (q.0 == p.0) =
          made-last p carries (q.0 == p.0) (slice_get carries (length carries - 1)) refl
          (λ c at. last-viewport p q props c (ap (makes_viewport q props) (sym at) ∙ may.calls)) (λ at. ap (makes_viewport q props) (sym at) ∙ may.calls)
          (not-true (list_any is_link (all_but_last carries)) may.links) in
          made ∙ ap number_if (and-true (q.0 == p.0) (is_done reply) done)
        where
          and-true : (a b : Bool) → b ≡ true → a ≡ (a && b)
          and-true true b is = sym is
          and-true false b is = refl
  own-use h who carries _ reply may replied stays = none-made p carries (not-true (list_any is_link carries) may.links)

  uses-more : (b : Bool) (e : Entry) (xs : List Entry) → length (cond b (e ∷ xs) xs) ≡ length xs + number_if b
  uses-more true e xs = omega arith
  uses-more false e xs = omega arith

  pub uses-other : (h : List Entry) (e : Entry) → LegalEntry setup h e → is_session s e.actor ≡ false → viewport_uses p (h ▹ e) ≡ viewport_uses p h
  uses-other h e legal other = rw (other-use h e.actor e.calls e.kind legal.may other) refl

  pub uses-own : (h : List Entry) (e : Entry) → LegalEntry setup h e → is_session s e.actor ≡ true → closes e.reply ≡ false
      → length (viewport_uses p (h ▹ e)) ≡ length (viewport_uses p h) + made_of_pair p e.calls
  uses-own h e legal mine stays =
      let is : e.actor ≡ Session s = same-session s e.actor mine in
      let M : Actor → Type 0 = λ who. MayEnter setup h who e.calls e.kind in
      let R : Actor → Type 0 = λ who. e.reply ≡ reply_to setup h who e.calls e.kind in
      let made : made_of_pair p e.calls ≡ number_if (uses_viewport p e.kind && is_done e.reply) =
      own-use h e.actor e.calls e.kind e.reply (subst M is legal.may) (subst R is legal.reply) stays in
      uses-more (uses_viewport p e.kind && is_done e.reply) e (viewport_uses p h) ∙ ap (λ (n : ℕ). length (viewport_uses p h) + n) (sym made)

  -- all of them
  pub uses-made : (h : List Entry) → Legal setup h → is_closed s h ≡ false → length (viewport_uses p h) ≡ made_of_pair p (calls s h)
  uses-made [] legal opened = refl
  uses-made (h ▹ e) legal opened =
      let closing = closes-first (is_session s e.actor) e (own s h) opened in
      by_owner (uses-made h legal.0 closing.1) closing.0 (is_session s e.actor) refl
    where
      by_owner : length (viewport_uses p h) ≡ made_of_pair p (calls s h) → (is_session s e.actor ≡ true → closes e.reply ≡ false) → (b : Bool)
          → is_session s e.actor ≡ b
          → length (viewport_uses p (h ▹ e)) ≡ made_of_pair p (calls s (h ▹ e))
      by_owner before stays true mine =
          let all : made_of_pair p (calls s h ++ e.calls) ≡ made_of_pair p (calls s h) + made_of_pair p e.calls = made-append p (calls s h) e.calls in
          let here : length (viewport_uses p (h ▹ e)) ≡ made_of_pair p (calls s h ++ e.calls) =
          omega (arith, uses-own h e legal.1 mine (stays mine), before, all) in
          here ∙ rw mine refl
      by_owner before stays false other = ap (length {A = Entry}) (uses-other h e legal.1 other) ∙ before ∙ rw other refl
