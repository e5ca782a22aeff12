-- A new use of a viewport end, and the tokens that the end of a frame brings back.
use Rattle.std.proofs.Common.{◌≡◌, ◌≢◌, ◌∙◌, sym, subst, ℕ, zero, suc, ◌+◌, ◌-◌, ◌≤◌, Bool, true, false, cond, List, [], ◌∷◌, length, map, filter, refl, arith}
use Rattle.std.proofs.Common.{ap, None, add-zero, inl, inr, ◌⊎◌}
use Rattle.std.specs.Prelude.{not, ◌&&◌, ◌==◌, nat_lt, Option, flat_map, replicate, slice_get, option_map, unwrap_or}
use Rattle.std.proofs.lemmas.Bool.Decides.{nat_tests}
use Rattle.flat_base.specs.declared.ids.PairNo.{PairNo}
use Rattle.flat_base.specs.declared.ids.SessionNo.{SessionNo}
use Rattle.flat_scene.specs.declared.calls.ViewportProps.{ViewportProps}
use Rattle.flat_scene.specs.declared.journal.Entry.{Entry}
use Rattle.flat_scene.specs.declared.journal.Event.{Event}
use Rattle.flat_scene.specs.declared.journal.Event.TheVariants as event
use Rattle.flat_scene.specs.declared.setup.PairDecl.{PairDecl}
use Rattle.flat_scene.specs.declared.setup.Setup.{Setup}
use Rattle.flat_scene.specs.Frames.{taken}
use Rattle.flat_scene.specs.History.{◌▹◌, own, calls, is_closed, is_finish, is_session, presents}
use Rattle.flat_scene.specs.Setups.{is_declared}
use Rattle.flat_facts.specs.declared.live_viewport.LiveViewport.{LiveViewport}
use Rattle.flat_links.specs.declared.tokens.OutToken.{OutToken}
use Rattle.flat_rules.specs.Ends.{to_begin, to_finished, releases_viewport, viewport_uses, viewports_of, pairs_where, uses_viewport, is_done}
use Rattle.flat_rules.specs.Legal.{Legal, has_token, owns_viewport, is_frame_open, makes_viewport}
use Rattle.flat_facts.specs.Lives.{lives_after, held_of}
use Rattle.flat_rules.specs.Posts.{tokens_back}
use Rattle.flat_rules.specs.Stamps.{first_at, is_seen, happens_often}
use Rattle.flat_links.specs.Viewports.{released_at, out_of, outs_of, AreViewports, marked, with_out, is_back, back_events, still_out}
use Rattle.flat_facts.proofs.lemmas.Earlier.{taken-begin}
use Rattle.flat_rules.proofs.lemmas.EventsLocal.{flat-same, viewports-owned}
use Rattle.flat_links.proofs.PairLaws.{used-token, unused-came, used-came, fresh-stamp, made-lives}
use Rattle.flat_rules.proofs.lemmas.ShownSteps.{closed-before}
use Rattle.flat_facts.proofs.lemmas.StampSteps.{stamp-of}
use Rattle.flat_facts.proofs.lemmas.Stamped.{often-lasts, stamp-other, IsLasting}
use Rattle.flat_facts.proofs.lemmas.TokensBack.{came}
use Rattle.flat_states.proofs.lemmas.Lists.{flat-filtered}
use Rattle.flat_links.proofs.ViewportSteps.{out-used, own-out, lives-own}
use Rattle.flat_facts.proofs.lemmas.Between.{viewport-nested}
use Rattle.flat_rules.proofs.lemmas.ListLemmas.{flat-mapped}
use Rattle.flat_rules.proofs.lemmas.OwnedTree.{pair_no}

-- ---- one token more, in its place

-- What gives each pair a token of its own at most.
abbrev pub AreSingle : (PairNo → List OutToken) → Type 0
AreSingle f = (p : PairNo) → (f p ≡ []) ⊎ ((one : OutToken) × ((f p ≡ one ∷ []) × (one.pair ≡ p)))

with-first : (one x : OutToken) (xs : List OutToken) → nat_lt one.pair.0 x.pair.0 ≡ true → with_out one (x ∷ xs) ≡ one ∷ x ∷ xs
with-first one x xs less = rw less refl

insert-front : (one : OutToken) (f : PairNo → List OutToken) → AreSingle f → (test : PairDecl → Bool) (n : ℕ) (pairs : List PairDecl)
    → nat_lt one.pair.0 n ≡ true
    → with_out one (flat_map f (pairs_where test n pairs)) ≡ one ∷ flat_map f (pairs_where test n pairs)
insert-front one f single test n [] less = refl
insert-front one f single test n (pair ∷ pairs) less =
    by_test (insert-front one f single test (n + 1) pairs (grind (arith, nat_tests))) (test pair) (single (pair_no n))
  where
    rest : List OutToken
    rest = flat_map f (pairs_where test (n + 1) pairs)

    by_test : with_out one rest ≡ one ∷ rest → (b : Bool) → (f (pair_no n) ≡ []) ⊎ ((x : OutToken) × ((f (pair_no n) ≡ x ∷ []) × (x.pair ≡ pair_no n)))
        → with_out one (flat_map f (cond b (pair_no n ∷ pairs_where test (n + 1) pairs) (pairs_where test (n + 1) pairs))) ≡ one
        ∷ flat_map f (cond b (pair_no n ∷ pairs_where test (n + 1) pairs) (pairs_where test (n + 1) pairs))
    by_test later false here = later
    by_test later true (inl none) = rw none later
    by_test later true (inr some) =
        let place : nat_lt one.pair.0 some.0.pair.0 ≡ true = ap (λ (p : PairNo). nat_lt one.pair.0 p.0) some.1.1 ∙ less in
        rw some.1.0 (with-first one some.0 rest place)

same-later : (f g : PairNo → List OutToken) (test : PairDecl → Bool) (n : ℕ) (pairs : List PairDecl) → ((m : ℕ) → n ≤ m → g (pair_no m) ≡ f (pair_no m))
    → flat_map g (pairs_where test n pairs) ≡ flat_map f (pairs_where test n pairs)
same-later f g test n [] same = refl
same-later f g test n (pair ∷ pairs) same = by_test (same-later f g test (n + 1) pairs (λ m less. same m (omega (arith, less)))) (test pair)
  where
    by_test : flat_map g (pairs_where test (n + 1) pairs) ≡ flat_map f (pairs_where test (n + 1) pairs) → (b : Bool)
        → flat_map g (cond b (pair_no n ∷ pairs_where test (n + 1) pairs) (pairs_where test (n + 1) pairs))
        ≡ flat_map f (cond b (pair_no n ∷ pairs_where test (n + 1) pairs) (pairs_where test (n + 1) pairs))
    by_test rest true = rw (same n (omega arith), rest) refl
    by_test rest false = rest

insert-at : (one : OutToken) (f g : PairNo → List OutToken) → AreSingle f → (test : PairDecl → Bool) (n k : ℕ) (pairs : List PairDecl) → one.pair.0 ≡ n + k
    → unwrap_or (option_map test (slice_get pairs k)) false ≡ true
    → f (pair_no (n + k)) ≡ [] → g (pair_no (n + k)) ≡ one ∷ [] → ((m : ℕ) → m ≢ n + k → g (pair_no m) ≡ f (pair_no m))
    → with_out one (flat_map f (pairs_where test n pairs)) ≡ flat_map g (pairs_where test n pairs)
insert-at one f g single test n k [] at here none new others = let wrong : false ≡ true = here in cc
insert-at one f g single test n zero (pair ∷ pairs) at here none new others =
    let F : ℕ → Type 0 = λ m. f (pair_no m) ≡ [] in
    let G : ℕ → Type 0 = λ m. g (pair_no m) ≡ one ∷ [] in
    let gone : f (pair_no n) ≡ [] = subst F (add-zero n) none in
    let added : g (pair_no n) ≡ one ∷ [] = subst G (add-zero n) new in
    let less : nat_lt one.pair.0 (n + 1) ≡ true = grind (arith, nat_tests) in
    let later : flat_map g (pairs_where test (n + 1) pairs) ≡ flat_map f (pairs_where test (n + 1) pairs) =
    same-later f g test (n + 1) pairs (λ m above. others m (λ same. absurd (omega (arith, above, same)))) in
    rw (here, gone, added) (insert-front one f single test (n + 1) pairs less ∙ ap (λ (l : List OutToken). one ∷ l) (sym later))
insert-at one f g single test n (suc k) (pair ∷ pairs) at here none new others =
    let place : n + suc k ≡ n + 1 + k = omega arith in
    let F : ℕ → Type 0 = λ m. f (pair_no m) ≡ [] in
    let G : ℕ → Type 0 = λ m. g (pair_no m) ≡ one ∷ [] in
    by_test
    (insert-at one f g single test (n + 1) k pairs (at ∙ place) here (subst F place none) (subst G place new)
    (λ m other. others m (λ same. other (same ∙ place))))
    (others n (λ same. absurd (omega (arith, same)))) (test pair) (single (pair_no n))
  where
    not_less : (x : OutToken) → x.pair ≡ pair_no n → nat_lt one.pair.0 x.pair.0 ≡ false
    not_less x is =
        let number : x.pair.0 ≡ n = ap (λ (p : PairNo). p.0) is in
        let above : one.pair.0 ≡ n + suc k = at in
        grind (arith, nat_tests)

    by_test : with_out one (flat_map f (pairs_where test (n + 1) pairs)) ≡ flat_map g (pairs_where test (n + 1) pairs) → g (pair_no n) ≡ f (pair_no n)
        → (b : Bool)
        → (f (pair_no n) ≡ []) ⊎ ((x : OutToken) × ((f (pair_no n) ≡ x ∷ []) × (x.pair ≡ pair_no n)))
        → with_out one (flat_map f (cond b (pair_no n ∷ pairs_where test (n + 1) pairs) (pairs_where test (n + 1) pairs)))
        ≡ flat_map g (cond b (pair_no n ∷ pairs_where test (n + 1) pairs) (pairs_where test (n + 1) pairs))
    by_test later same false one_of = later
    by_test later same true (inl none') = rw (same, none') later
    by_test later same true (inr some) =
        let past : nat_lt one.pair.0 some.0.pair.0 ≡ false = not_less some.0 some.1.1 in
        rw (same, some.1.0) (rw past (ap (λ (l : List OutToken). some.0 ∷ l) later))

-- one more among those of the pairs that a session owns
pub insert-owned : (setup : Setup) (s : SessionNo) (p : PairNo) → owns_viewport setup s p ≡ true → (one : OutToken) → one.pair ≡ p
    → (f g : PairNo → List OutToken) → AreSingle f → f p ≡ [] → g p ≡ one ∷ []
    → ((q : PairNo) → q.0 ≢ p.0 → g q ≡ f q) → with_out one (flat_map f (viewports_of setup s)) ≡ flat_map g (viewports_of setup s)
insert-owned setup s p owned one is f g single none new others =
    let place : p.0 ≡ 0 + p.0 = omega arith in
    let F : ℕ → Type 0 = λ m. f (pair_no m) ≡ [] in
    let G : ℕ → Type 0 = λ m. g (pair_no m) ≡ one ∷ [] in
    insert-at one f g single (λ pair. is_session s pair.viewport) 0 p.0 setup.pairs (ap (λ (q : PairNo). q.0) is ∙ place)
    (viewport-nested s (slice_get setup.pairs p.0) ∙ owned) (subst F place none) (subst G place new)
    (λ m other. others (pair_no m) (λ same. other (same ∙ place)))

-- ---- a new use

outs-single : (setup : Setup) (h : List Entry) (s : SessionNo) (g : OutToken → OutToken) → ((o : OutToken) → (g o).pair ≡ o.pair)
    → AreSingle (λ p. map g (out_of setup h s p))
outs-single setup h s g same p = by_token (has_token setup p h)
  where
    one : OutToken
    one = record { pair = p; released = released_at setup h s p }

    by_token : (b : Bool) → (map g (cond b [] (one ∷ [])) ≡ []) ⊎ ((x : OutToken) × ((map g (cond b [] (one ∷ [])) ≡ x ∷ []) × (x.pair ≡ p)))
    by_token true = inl refl
    by_token false = inr (g one, (refl, same one))

module _ (setup : Setup) (s : SessionNo) (declared : is_declared setup s ≡ true) where
  -- the pair's token is out, and the others are marked by the entry's calls
  pub viewports-used : (h : List Entry) (e : Entry) → Legal setup (h ▹ e) → is_session s e.actor ≡ true → is_finish e.kind ≡ false → (p : PairNo)
      → owns_viewport setup s p ≡ true → (uses_viewport p e.kind && is_done e.reply) ≡ true
      → ((q : PairNo) → q.0 ≢ p.0 → uses_viewport q e.kind ≡ false) → has_token setup p h ≡ true → (props : ViewportProps)
      → makes_viewport p props (slice_get e.calls (length e.calls - 1)) ≡ true
      → (live : List LiveViewport) (out : List OutToken) → AreViewports setup h s live out
      → AreViewports setup (h ▹ e) s (lives_after live e.calls)
      (with_out (record { pair = p; released = None }) (map (marked live e.calls (length (presents s h))) out))
  viewports-used h e legal mine no_finish p owned used others held props last live out old = record {
    lives = λ o.
        let before : is_closed s h ≡ false = closed-before (is_session s e.actor) e (own s h) o in
        ap (λ (l : List LiveViewport). lives_after l e.calls) (old.lives before) ∙ sym (lives-own setup s declared h e legal mine o);
    outs = λ o.
        let before : is_closed s h ≡ false = closed-before (is_session s e.actor) e (own s h) o in
        let lives : List LiveViewport = lives_after [] (calls s h) in
        let mark : OutToken → OutToken = marked lives e.calls (length (presents s h)) in
        ap (λ (l : List OutToken). with_out (record { pair = p; released = None }) (map (marked live e.calls (length (presents s h))) l)) (old.outs before)
        ∙ ap (λ (l : List LiveViewport). with_out (record { pair = p; released = None }) (map (marked l e.calls (length (presents s h))) (outs_of setup h s)))
        (old.lives before)
        ∙ ap (with_out (record { pair = p; released = None })) (flat-mapped mark (out_of setup h s) (viewports_of setup s))
        ∙ insert-all o before mark (λ x. refl) (λ q other owns. own-out setup s declared h e legal mine o q owns no_finish (rw (others q other) refl));
  }
    where
      gone : has_token setup p (h ▹ e) ≡ false
      gone = rw used refl

      fresh : is_closed s (h ▹ e) ≡ false → released_at setup (h ▹ e) s p ≡ None
      fresh o =
          let some = made-lives p props (lives_after [] (calls s h)) e.calls (slice_get e.calls (length e.calls - 1)) refl last in
          let lives = lives-own setup s declared h e legal mine o in
          let held : 1 ≤ held_of p (lives_after [] (calls s (h ▹ e))) = rw lives some in
          sym ((fresh-stamp setup s p owned declared (h ▹ e) legal o held).opened o)

      insert-all : (o : is_closed s (h ▹ e) ≡ false) → is_closed s h ≡ false → (mark : OutToken → OutToken) → ((x : OutToken) → (mark x).pair ≡ x.pair)
          → ((q : PairNo) → q.0 ≢ p.0 → owns_viewport setup s q ≡ true → out_of setup (h ▹ e) s q ≡ map mark (out_of setup h s q))
          → with_out (record { pair = p; released = None }) (flat_map (λ q. map mark (out_of setup h s q)) (viewports_of setup s)) ≡ outs_of setup (h ▹ e) s
      insert-all o before mark pairs same =
          let one : OutToken = record { pair = p; released = None } in
          let f : PairNo → List OutToken = λ q. map mark (out_of setup h s q) in
          let g : PairNo → List OutToken = λ q. cond (q.0 == p.0) (one ∷ []) (f q) in
          let itself : (p.0 == p.0) ≡ true = grind (arith, nat_tests) in
          let nothing : f p ≡ [] = rw held refl in
          let new : g p ≡ one ∷ [] = rw itself refl in
          insert-owned setup s p owned one refl f g (outs-single setup h s mark pairs) nothing new (λ q other. elsewhere q other (one ∷ []) (f q))
          ∙ flat-same (owns_viewport setup s) g (out_of setup (h ▹ e) s) (λ q owns. by_pair o mark same q owns (q.0 == p.0) refl) (viewports_of setup s)
          (viewports-owned setup s)
        where
          elsewhere : (q : PairNo) → q.0 ≢ p.0 → (a b : List OutToken) → cond (q.0 == p.0) a b ≡ b
          elsewhere q other a b = by_test (q.0 == p.0) refl
            where
              by_test : (c : Bool) → (q.0 == p.0) ≡ c → cond c a b ≡ b
              by_test true is = absurd (other (grind (arith, nat_tests)))
              by_test false is = refl

          by_pair : is_closed s (h ▹ e) ≡ false → (mark : OutToken → OutToken)
              → ((q : PairNo) → q.0 ≢ p.0 → owns_viewport setup s q ≡ true → out_of setup (h ▹ e) s q ≡ map mark (out_of setup h s q))
              → (q : PairNo) → owns_viewport setup s q ≡ true → (c : Bool) → (q.0 == p.0) ≡ c
              → cond c ((let one : OutToken = record { pair = p; released = None } in one) ∷ []) (map mark (out_of setup h s q)) ≡ out_of setup (h ▹ e) s q
          by_pair o' mark' same' q owns true is =
              let number : p.0 ≡ q.0 = grind (arith, nat_tests) in
              let pair : p ≡ q = ap (λ (n : ℕ). let x : PairNo = record { 0 = n } in x) number in
              let here : (let one : OutToken = record { pair = p; released = None } in one) ∷ [] ≡ out_of setup (h ▹ e) s p = sym (rw (gone, fresh o') refl) in
              here ∙ ap (out_of setup (h ▹ e) s) pair
          by_pair o' mark' same' q owns false is = sym (same' q (λ e'. let wrong : true ≡ false = grind (arith, nat_tests) in cc) owns)

  -- ---- the end of a frame

  finish-out : (h : List Entry) (e : Entry) → Legal setup (h ▹ e) → is_finish e.kind ≡ true → is_closed s (h ▹ e) ≡ false → is_closed s h ≡ false
      → is_session s e.actor ≡ false → (p : PairNo) → owns_viewport setup s p ≡ true → uses_viewport p e.kind ≡ false
      → out_of setup (h ▹ e) s p ≡ filter (λ out. not (is_back (taken setup h s) out)) (out_of setup h s p)
  finish-out h e legal ends still opened other p owned no_use = by_token (has_token setup p h) refl
    where
      same : viewport_uses p (h ▹ e) ≡ viewport_uses p h
      same = rw no_use refl

      by_token : (b : Bool) → has_token setup p h ≡ b → out_of setup (h ▹ e) s p ≡ filter (λ out. not (is_back (taken setup h s) out)) (out_of setup h s p)
      by_token true held =
          let kept : has_token setup p (h ▹ e) ≡ true = rw (no_use, held) refl in
          rw (kept, held) refl
      by_token false out =
          let u : ℕ = length (viewport_uses p h) in
          let lasting = often-lasts setup (releases_viewport p) (length (viewport_uses p h)) (out-used setup s declared p owned h legal.0 opened out) in
          let n : length (viewport_uses p (h ▹ e)) ≡ length (viewport_uses p h) = ap (length {A = Entry}) same in
          let stamp : released_at setup (h ▹ e) s p ≡ released_at setup h s p =
          ap (λ (k : ℕ). first_at (happens_often setup (releases_viewport p) k) s (h ▹ e)) n
          ∙ stamp-other (happens_often setup (releases_viewport p) (length (viewport_uses p h))) lasting s h e other in
          let some : IsLasting (happens_often setup (releases_viewport p) (length (viewport_uses p (h ▹ e)))) =
          subst (λ (k : ℕ). IsLasting (happens_often setup (releases_viewport p) k)) (sym n) lasting in
          let frame : to_finished (h ▹ e) ≡ to_begin h = rw ends refl in
          let back : has_token setup p (h ▹ e) ≡ is_seen (released_at setup h s p) (taken setup h s) =
          used-token setup s p owned declared (h ▹ e) legal still (released_at setup (h ▹ e) s p)
          (stamp-of (happens_often setup (releases_viewport p) (length (viewport_uses p (h ▹ e)))) some s (h ▹ e))
          ∙ ap (λ (k : List Entry). is_seen (released_at setup (h ▹ e) s p) (taken setup k s)) frame
          ∙ ap (is_seen (released_at setup (h ▹ e) s p)) (sym (taken-begin setup s h)) ∙ ap (λ (o : Option ℕ). is_seen o (taken setup h s)) stamp in
          ap (λ (b : Bool). cond b [] ((let o : OutToken = record { pair = p; released = released_at setup (h ▹ e) s p } in o) ∷ [])) back
          ∙ ap (λ (r : Option ℕ). cond (is_seen (released_at setup h s p) (taken setup h s)) []
          ((let o : OutToken = record { pair = p; released = r } in o) ∷ [])) stamp
          ∙ by_seen (is_seen (released_at setup h s p) (taken setup h s)) refl
          ∙ sym (ap (λ (b : Bool). filter (λ x. not (is_back (taken setup h s) x))
          (cond b [] ((let o : OutToken = record { pair = p; released = released_at setup h s p } in o) ∷ []))) out)
        where
          by_seen : (b : Bool) → is_seen (released_at setup h s p) (taken setup h s) ≡ b
              → cond b [] ((let o : OutToken = record { pair = p; released = released_at setup h s p } in o) ∷ [])
              ≡ filter (λ x. not (is_back (taken setup h s) x)) ((let o : OutToken = record { pair = p; released = released_at setup h s p } in o) ∷ [])
          by_seen true is = rw is refl
          by_seen false is = rw is refl

  -- the tokens that come back are those whose release the frame has seen
  finish-events : (h : List Entry) → Legal setup h → is_closed s h ≡ false → is_frame_open h ≡ true → (p : PairNo) → owns_viewport setup s p ≡ true
      → replicate (came setup p h s p) (event.TokenBack p)
      ≡ map (λ (out : OutToken). event.TokenBack out.pair) (filter (is_back (taken setup h s)) (out_of setup h s p))
  finish-events h legal opened going p owned = by_token (has_token setup p h) refl
    where
      events : List OutToken → List Event
      events outs = map (λ (out : OutToken). event.TokenBack out.pair) (filter (is_back (taken setup h s)) outs)

      by_token : (b : Bool) → has_token setup p h ≡ b → replicate (came setup p h s p) (event.TokenBack p)
          ≡ map (λ (out : OutToken). event.TokenBack out.pair) (filter (is_back (taken setup h s)) (out_of setup h s p))
      by_token true held = rw (none (nat_lt 0 (length (viewport_uses p h))) refl, held) refl
        where
          none : (b : Bool) → nat_lt 0 (length (viewport_uses p h)) ≡ b → came setup p h s p ≡ 0
          none false no_uses = unused-came setup s p owned declared h legal opened (grind (arith, nat_tests))
          none true some =
              let lasting = often-lasts setup (releases_viewport p) (length (viewport_uses p h)) (grind (arith, nat_tests)) in
              let stamp = stamp-of (happens_often setup (releases_viewport p) (length (viewport_uses p h))) lasting s h in
              let seen : is_seen (released_at setup h s p) (taken setup (to_finished h) s) ≡ true =
              sym (used-token setup s p owned declared h legal opened (released_at setup h s p) stamp) ∙ held in
              used-came setup s p owned declared h legal opened going (released_at setup h s p) stamp
              ∙ rw seen (and-none (is_seen (released_at setup h s p) (taken setup (to_begin h) s)))
            where
              and-none : (a : Bool) → cond {A = ℕ} (a && false) 1 0 ≡ 0
              and-none true = refl
              and-none false = refl
      by_token false out =
          let lasting = often-lasts setup (releases_viewport p) (length (viewport_uses p h)) (out-used setup s declared p owned h legal opened out) in
          let stamp = stamp-of (happens_often setup (releases_viewport p) (length (viewport_uses p h))) lasting s h in
          let seen : is_seen (released_at setup h s p) (taken setup (to_finished h) s) ≡ false =
          sym (used-token setup s p owned declared h legal opened (released_at setup h s p) stamp) ∙ out in
          let now : taken setup (to_begin h) s ≡ taken setup h s = sym (taken-begin setup s h) in
          let comes : came setup p h s p ≡ cond (is_seen (released_at setup h s p) (taken setup h s)) 1 0 =
          used-came setup s p owned declared h legal opened going (released_at setup h s p) stamp
          ∙ rw (seen, now) (and-true (is_seen (released_at setup h s p) (taken setup h s))) in
          ap (λ (n : ℕ). replicate n (event.TokenBack p)) comes ∙ by_seen (is_seen (released_at setup h s p) (taken setup h s)) refl
          ∙ sym (ap (λ (b : Bool). map (λ (x : OutToken). event.TokenBack x.pair)
          (filter (is_back (taken setup h s)) (cond b [] ((let o : OutToken = record { pair = p; released = released_at setup h s p } in o) ∷ [])))) out)
        where
          and-true : (a : Bool) → cond {A = ℕ} (a && true) 1 0 ≡ cond a 1 0
          and-true true = refl
          and-true false = refl

          by_seen : (b : Bool) → is_seen (released_at setup h s p) (taken setup h s) ≡ b
              → replicate (cond b 1 0) (event.TokenBack p) ≡ map (λ (x : OutToken). event.TokenBack x.pair)
              (filter (is_back (taken setup h s)) ((let o : OutToken = record { pair = p; released = released_at setup h s p } in o) ∷ []))
          by_seen true is = rw is refl
          by_seen false is = rw is refl

  pub viewports-finish : (h : List Entry) (e : Entry) → Legal setup (h ▹ e) → is_finish e.kind ≡ true → is_session s e.actor ≡ false
      → ((p : PairNo) → uses_viewport p e.kind ≡ false) → (live : List LiveViewport) (out : List OutToken) → AreViewports setup h s live out
      → AreViewports setup (h ▹ e) s live (still_out (taken setup h s) out)
  viewports-finish h e legal ends other no_use live out old = record {
    lives = λ o. old.lives (closed-before (is_session s e.actor) e (own s h) o) ∙ rw other refl;
    outs = λ o.
        let before : is_closed s h ≡ false = closed-before (is_session s e.actor) e (own s h) o in
        ap (still_out (taken setup h s)) (old.outs before) ∙ flat-filtered (λ x. not (is_back (taken setup h s) x)) (out_of setup h s) (viewports_of setup s)
        ∙ sym (flat-same (owns_viewport setup s) (out_of setup (h ▹ e) s) (λ p. filter (λ x. not (is_back (taken setup h s) x)) (out_of setup h s p))
        (λ p owned. finish-out h e legal ends o before other p owned (no_use p)) (viewports_of setup s) (viewports-owned setup s));
  }

  -- what the end of a frame posts of tokens
  pub tokens-finish : (h : List Entry) → Legal setup h → is_closed s h ≡ false → is_frame_open h ≡ true → (live : List LiveViewport) (out : List OutToken)
      → AreViewports setup h s live out → tokens_back setup h s ≡ back_events (taken setup h s) out
  tokens-finish h legal opened going live out old =
      let f : PairNo → List OutToken = out_of setup h s in
      flat-same (owns_viewport setup s) (λ p. replicate (came setup p h s p) (event.TokenBack p))
      (λ p. map (λ (x : OutToken). event.TokenBack x.pair) (filter (is_back (taken setup h s)) (f p)))
      (λ p owned. finish-events h legal opened going p owned) (viewports_of setup s) (viewports-owned setup s)
      ∙ sym (flat-mapped (λ (x : OutToken). event.TokenBack x.pair) (λ p. filter (is_back (taken setup h s)) (f p)) (viewports_of setup s))
      ∙ ap (map (λ (x : OutToken). event.TokenBack x.pair))
      (sym (flat-filtered (is_back (taken setup h s)) f (viewports_of setup s)) ∙ ap (filter (is_back (taken setup h s))) (sym (old.outs opened)))
