-- Which tokens an entry brings back.
use Rattle.std.proofs.Common.{◌≡◌, ◌∙◌, sym, subst, ℕ, zero, suc, ◌+◌, ◌-◌, Bool, true, false, List, [], ◌∷◌, ◌++◌, length, refl, arith, ap, Some, None, drop}
use Rattle.std.proofs.Common.{zero-add}
use Rattle.std.specs.Prelude.{cond, not, ◌&&◌, ◌||◌, ◌==◌, nat_lt, nat_le, Option, option_map, unwrap_or, slice_get, flat_map, map, replicate}
use Rattle.std.specs.List.{list_any}
use Rattle.std.proofs.lemmas.Bool.Decides.{nat_tests}
use Rattle.std.proofs.lemmas.List.Folds.{list_any-append}
use Rattle.flat_base.specs.declared.ids.Actor.{Actor}
use Rattle.flat_base.specs.declared.ids.Actor.TheVariants.{Display, Session, Probe}
use Rattle.flat_base.specs.declared.ids.PairNo.{PairNo}
use Rattle.flat_base.specs.declared.ids.SessionNo.{SessionNo}
use Rattle.flat_scene.specs.declared.journal.Entry.{Entry}
use Rattle.flat_scene.specs.declared.journal.Event.{Event}
use Rattle.flat_scene.specs.declared.journal.Event.TheVariants as event
use Rattle.flat_scene.specs.declared.setup.PairDecl.{PairDecl}
use Rattle.flat_scene.specs.declared.setup.Setup.{Setup}
use Rattle.flat_scene.specs.Frames.{taken, credits, sessions_to}
use Rattle.flat_scene.specs.History.{◌▹◌, is_begin, is_finish, is_closed, is_session}
use Rattle.flat_scene.specs.Setups.{is_within, is_declared}
use Rattle.flat_rules.specs.Ends.{to_begin, views_of, viewports_of, viewport_uses, viewport_owner}
use Rattle.flat_rules.specs.Legal.{is_token_back, owns_viewport}
use Rattle.flat_rules.specs.Posts.{Sent, told_event, frame_took, releases_seen, tokens_back, at_finish, at_begin, news_for, events_to, posted, up_to}
use Rattle.flat_rules.specs.Watch.{layout_of, status_of, child_of}
use Rattle.flat_facts.proofs.lemmas.HasView.{found, any-found}
use Rattle.std.specs.Cmp.{both_ways}
use Rattle.std.proofs.Math.Bool.{and-false, or-false}
use Rattle.std.proofs.lemmas.Bool.{and_parts}
use Rattle.flat_facts.proofs.lemmas.Between.{viewport-nested}
use Rattle.flat_rules.proofs.lemmas.RepliesLocal.{no-told, any-flat-nothing}
use Rattle.flat_rules.proofs.lemmas.AllOrSome.{any-same}

-- ---- tests over lists of lists

pub any-flat : {A B : Type 0} (f : B → Bool) (g : A → List B) (xs : List A) → list_any f (flat_map g xs) ≡ list_any (λ x. list_any f (g x)) xs
any-flat f g [] = refl
any-flat f g (x ∷ xs) = list_any-append f (g x) (flat_map g xs) ∙ ap (λ b. list_any f (g x) || b) (any-flat f g xs)

any-none : {A : Type 0} (f : A → Bool) (xs : List A) → ((x : A) → f x ≡ false) → list_any f xs ≡ false
any-none f [] none = refl
any-none f (x ∷ xs) none = rw (none x) (any-none f xs none)

any-copies : (p q : PairNo) (n : ℕ) → list_any (is_token_back p) (replicate n (event.TokenBack q)) ≡ (nat_lt 0 n && q.0 == p.0)
any-copies p q zero = refl
any-copies p q (suc n) = by_pair (q.0 == p.0) (any-copies p q n)
  where
    by_pair : (b : Bool) → list_any (is_token_back p) (replicate n (event.TokenBack q)) ≡ (nat_lt 0 n && b)
        → (b || list_any (is_token_back p) (replicate n (event.TokenBack q))) ≡ (nat_lt 0 (suc n) && b)
    by_pair true rest = grind (arith, nat_tests)
    by_pair false rest = rest ∙ and-false (nat_lt 0 n) ∙ sym (and-false (nat_lt 0 (suc n)))

-- five parts in a row
five-parts : (f : Event → Bool) (a b c d e : List Event) → list_any f a ≡ false → list_any f b ≡ false → list_any f c ≡ false → list_any f e ≡ false
    → list_any f (a ++ b ++ c ++ d ++ e) ≡ list_any f d
five-parts f a b c d e na nb nc ne =
    list_any-append f (a ++ b ++ c ++ d) e
    ∙ ap (λ x. x || list_any f e) (list_any-append f (a ++ b ++ c) d
    ∙ ap (λ x. x || list_any f d) (list_any-append f (a ++ b) c ∙ ap (λ x. x || list_any f c) (list_any-append f a b)))
    ∙ rw (na, nb, nc, ne) (or-false (list_any f d))

-- ---- what an entry tells a session

module _ (setup : Setup) (p : PairNo) where
  no-credits : (before : List Entry) (e : Entry) (t : SessionNo) (b : Bool) → list_any (is_token_back p) (cond b (at_begin setup before e t) []) ≡ false
  no-credits before e t false = refl
  no-credits before e t true = by_more (nat_lt (taken setup before t) (taken setup (before ▹ e) t))
    where
      by_more : (b : Bool) → list_any (is_token_back p) (cond b (event.Credits (credits setup (before ▹ e) t - credits setup before t) ∷ []) []) ≡ false
      by_more true = refl
      by_more false = refl

  news-tokens : (before : List Entry) (e : Entry) (t : SessionNo)
      → list_any (is_token_back p) (news_for setup before e t) ≡ list_any (is_token_back p) (cond (is_finish e.kind) (at_finish setup before t) [])
  news-tokens before e t =
      five-parts (is_token_back p)
      (flat_map (λ q. told_event setup q (layout_of q) before e) (views_of setup t))
      (flat_map (λ q. told_event setup q (status_of q) before e) (views_of setup t))
      (flat_map (λ q. flat_map (λ n. told_event setup q (child_of q n) before e) (up_to (length (viewport_uses q before)))) (viewports_of setup t))
      (cond (is_finish e.kind) (at_finish setup before t) [])
      (cond (is_begin e.kind) (at_begin setup before e t) [])
      (any-flat-nothing (is_token_back p) (λ q. told_event setup q (layout_of q) before e) (λ q. no-told p q _ _) (views_of setup t))
      (any-flat-nothing (is_token_back p) (λ q. told_event setup q (status_of q) before e) (λ q. no-told p q _ _) (views_of setup t))
      (any-flat-nothing (is_token_back p) (λ q. flat_map (λ n. told_event setup q (child_of q n) before e) (up_to (length (viewport_uses q before))))
      (λ q. any-flat-nothing (is_token_back p) (λ n. told_event setup q (child_of q n) before e) (λ n. no-told p q _ _)
      (up_to (length (viewport_uses q before)))) (viewports_of setup t))
      (no-credits before e t (is_begin e.kind))

  any-sent : (t : SessionNo) (events : List Event) → list_any (λ (sent : Sent). is_token_back p sent.event)
      (map (λ event. let sent : Sent = record { to = t; event = event } in sent) events) ≡ list_any (is_token_back p) events
  any-sent t [] = refl
  any-sent t (e ∷ es) = ap (λ b. is_token_back p e || b) (any-sent t es)

  posted-tokens : (before : List Entry) (e : Entry)
      → list_any (λ (sent : Sent). is_token_back p sent.event) (posted setup before e)
      ≡ list_any (λ t. list_any (is_token_back p) (events_to setup before e t)) (sessions_to setup.sessions)
  posted-tokens before e =
      any-flat (λ (sent : Sent). is_token_back p sent.event)
      (λ t. map (λ event. let sent : Sent = record { to = t; event = event } in sent) (events_to setup before e t)) (sessions_to setup.sessions)
      ∙ any-same _ _ (λ t. any-sent t (events_to setup before e t)) (sessions_to setup.sessions)

  none-closed : (b : Bool) (news : List Event) → list_any (is_token_back p) news ≡ false → list_any (is_token_back p) (cond b [] news) ≡ false
  none-closed true news none = refl
  none-closed false news none = none

  -- no token comes back but at the end of a frame
  pub no-token : (before : List Entry) (e : Entry) → is_finish e.kind ≡ false
      → list_any (λ (sent : Sent). is_token_back p sent.event) (posted setup before e) ≡ false
  no-token before e no_finish =
      posted-tokens before e
      ∙ any-none (λ t. list_any (is_token_back p) (events_to setup before e t)) (sessions_to setup.sessions)
      (λ t. none-closed (is_closed t (before ▹ e)) (news_for setup before e t) (news-tokens before e t ∙ rw no_finish refl))

  -- ---- at the end of a frame

  -- how many tokens of a pair come back
  abbrev pub came : List Entry → SessionNo → PairNo → ℕ
  came before t q = releases_seen setup (to_begin before) t q - releases_seen setup (drop 1 (to_begin before)) t q

  any-pairs : (before : List Entry) (t : SessionNo) → list_any (is_token_back p) (tokens_back setup before t)
      ≡ list_any (λ q. nat_lt 0 (came before t q) && q.0 == p.0) (viewports_of setup t)
  any-pairs before t =
      any-flat (is_token_back p) (λ q. replicate (came before t q) (event.TokenBack q)) (viewports_of setup t)
      ∙ any-same _ _ (λ q. any-copies p q (came before t q)) (viewports_of setup t)

  pub pair-is : (n : ℕ) → (n == p.0) ≡ true → (let q : PairNo = record { 0 = n } in q) ≡ p
  pair-is n same = let number : n ≡ p.0 = grind (arith, nat_tests) in ap (λ (k : ℕ). let x : PairNo = record { 0 = k } in x) number

  -- of the pairs whose viewport end a session owns
  one-pair : (before : List Entry) (t : SessionNo) → list_any (λ q. nat_lt 0 (came before t q) && q.0 == p.0) (viewports_of setup t)
      ≡ (owns_viewport setup t p && nat_lt 0 (came before t p))
  one-pair before t =
      let f : PairNo → Bool = λ q. nat_lt 0 (came before t q) && q.0 == p.0 in
      let test : PairDecl → Bool = λ pair. is_session t pair.viewport in
      both_ways (list_any f (viewports_of setup t)) (owns_viewport setup t p && nat_lt 0 (came before t p))
      (λ any.
      let one = found f test 0 setup.pairs any in
      let q : PairNo = record { 0 = 0 + one.0 } in
      let holds = and_parts (nat_lt 0 (came before t q)) (q.0 == p.0) one.2 in
      let same : q ≡ p = pair-is (0 + one.0) holds.1 in
      let number : one.0 ≡ p.0 = grind (arith, nat_tests) in
      let owns : owns_viewport setup t p ≡ true = sym (viewport-nested t (slice_get setup.pairs p.0))
      ∙ ap (λ (k : ℕ). unwrap_or (option_map test (slice_get setup.pairs k)) false) (sym number) ∙ one.1 in
      let some : nat_lt 0 (came before t p) ≡ true = ap (λ (r : PairNo). nat_lt 0 (came before t r)) (sym same) ∙ holds.0 in
      rw (owns, some) refl)
      (λ both.
      let holds = and_parts (owns_viewport setup t p) (nat_lt 0 (came before t p)) both in
      let itself : (p.0 == p.0) ≡ true = grind (arith, nat_tests) in
      let here : f p ≡ true = rw (holds.1, itself) refl in
      let F : ℕ → Type 0 = λ m. f (record { 0 = m }) ≡ true in
      any-found f test 0 p.0 setup.pairs (viewport-nested t (slice_get setup.pairs p.0) ∙ holds.0) (subst F (sym (zero-add p.0)) here))

  finish-tokens : (before : List Entry) (e : Entry) → is_finish e.kind ≡ true → (t : SessionNo)
      → list_any (is_token_back p) (events_to setup before e t) ≡ (not (is_closed t (before ▹ e)) && (owns_viewport setup t p && nat_lt 0 (came before t p)))
  finish-tokens before e ends t = by_closed (is_closed t (before ▹ e))
    where
      by_took : (b : Bool) → list_any (is_token_back p) (cond b (event.FramePresented (frame_took setup before t) ∷ []) [] ++ tokens_back setup before t)
          ≡ list_any (is_token_back p) (tokens_back setup before t)
      by_took true = refl
      by_took false = refl

      by_closed : (b : Bool) → list_any (is_token_back p) (cond b [] (news_for setup before e t))
          ≡ (not b && (owns_viewport setup t p && nat_lt 0 (came before t p)))
      by_closed true = refl
      by_closed false = news-tokens before e t ∙ rw ends (by_took (nat_lt 0 (frame_took setup before t)) ∙ any-pairs before t ∙ one-pair before t)

  -- ---- of all sessions

  one-owner : (o : Option Actor) (t s : SessionNo) → unwrap_or (option_map (is_session s) o) false ≡ true
      → unwrap_or (option_map (is_session t) o) false ≡ (t.0 == s.0)
  one-owner None t s owned = cc
  one-owner (Some Display) t s owned = cc
  one-owner (Some (Probe n)) t s owned = cc
  one-owner (Some (Session v)) t s owned =
      let number : v.0 ≡ s.0 = grind (arith, nat_tests) in
      ap (λ (k : ℕ). k == t.0) number ∙ turned (s.0 == t.0) (t.0 == s.0) refl refl
    where
      turned : (a b : Bool) → (s.0 == t.0) ≡ a → (t.0 == s.0) ≡ b → a ≡ b
      turned true true p q = refl
      turned false false p q = refl
      turned true false p q = grind (arith, nat_tests)
      turned false true p q = grind (arith, nat_tests)

  session-is : (n : ℕ) (s : SessionNo) → (n == s.0) ≡ true → (let t : SessionNo = record { 0 = n } in t) ≡ s
  session-is n s same = let number : n ≡ s.0 = grind (arith, nat_tests) in ap (λ (k : ℕ). let x : SessionNo = record { 0 = k } in x) number

  -- where one session alone passes a test
  any-to : (g : SessionNo → Bool) (v : Bool) (s : SessionNo) → ((t : SessionNo) → (t.0 == s.0) ≡ false → g t ≡ false) → g s ≡ v → (n : ℕ)
      → list_any g (sessions_to n) ≡ (is_within n s.0 && v)
  any-to g v s others here zero = none (nat_lt 0 s.0) (nat_le s.0 0) refl refl
    where
      none : (a b : Bool) → nat_lt 0 s.0 ≡ a → nat_le s.0 0 ≡ b → false ≡ ((a && b) && v)
      none false b p q = refl
      none true false p q = refl
      none true true p q = grind (arith, nat_tests)
  any-to g v s others here (suc n) =
      list_any-append g (sessions_to n) ((let t : SessionNo = record { 0 = suc n } in t) ∷ [])
      ∙ ap (λ b. b || (g (record { 0 = suc n }) || false)) (any-to g v s others here n)
      ∙ by_place (suc n == s.0) refl (nat_lt 0 s.0) (nat_le s.0 n) (nat_le s.0 (suc n)) refl refl refl
    where
      by_place : (b : Bool) → (suc n == s.0) ≡ b → (x y z : Bool) → nat_lt 0 s.0 ≡ x → nat_le s.0 n ≡ y → nat_le s.0 (suc n) ≡ z
          → (((x && y) && v) || (g (record { 0 = suc n }) || false)) ≡ ((x && z) && v)
      by_place true is x true z p q r = absurd (grind (arith, nat_tests))
      by_place true is x y false p q r = absurd (grind (arith, nat_tests))
      by_place true is false y z p q r = absurd (grind (arith, nat_tests))
      by_place true is true false true p q r =
          let same : g (record { 0 = suc n }) ≡ v = ap g (session-is (suc n) s is) ∙ here in
          rw same (or-false v)
      by_place false is x y z p q r =
          let none : g (record { 0 = suc n }) ≡ false = others (record { 0 = suc n }) is in
          rw none (same_test x y z p q r)
        where
          same_test : (x y z : Bool) → nat_lt 0 s.0 ≡ x → nat_le s.0 n ≡ y → nat_le s.0 (suc n) ≡ z → (((x && y) && v) || false) ≡ ((x && z) && v)
          same_test false y z p q r = refl
          same_test true true true p q r = or-false v
          same_test true false false p q r = refl
          same_test true true false p q r = absurd (grind (arith, nat_tests))
          same_test true false true p q r = absurd (grind (arith, nat_tests))

  -- at the end of a frame a token comes back exactly where its owner is open and the frame has seen a release
  pub token-finish : (before : List Entry) (e : Entry) → is_finish e.kind ≡ true → (s : SessionNo) → owns_viewport setup s p ≡ true → is_declared setup s ≡ true
      → is_closed s (before ▹ e) ≡ false
      → list_any (λ (sent : Sent). is_token_back p sent.event) (posted setup before e) ≡ nat_lt 0 (came before s p)
  token-finish before e ends s owned declared opened =
      let g : SessionNo → Bool = λ t. list_any (is_token_back p) (events_to setup before e t) in
      let here : g s ≡ nat_lt 0 (came before s p) = finish-tokens before e ends s ∙ rw (opened, owned) refl in
      posted-tokens before e
      ∙ any-to g (nat_lt 0 (came before s p)) s
      (λ t other. finish-tokens before e ends t ∙ rw (one-owner (viewport_owner setup p) t s owned, other) (and-false (not (is_closed t (before ▹ e))))) here
      setup.sessions
      ∙ rw declared refl
