-- A viewport end can be used exactly where frames that are finished have seen each of its uses released. No two viewports of a pair live at once.
use Rattle.std.proofs.Common.{◌≡◌, ◌∙◌, sym, subst, ℕ, ◌+◌, ◌-◌, ◌≤◌, Bool, true, false, List, [], ◌∷◌, length, refl, arith, ap, Ok, drop}
use Rattle.std.specs.Prelude.{cond, not, ◌&&◌, ◌||◌, ◌==◌, nat_lt, nat_le}
use Rattle.std.specs.List.{list_any}
use Rattle.std.proofs.lemmas.Bool.Decides.{nat_tests}
use Rattle.flat_base.specs.declared.ids.Actor.{Actor}
use Rattle.flat_base.specs.declared.ids.Actor.TheVariants.{Display, Session, Probe}
use Rattle.flat_base.specs.declared.ids.PairNo.{PairNo}
use Rattle.flat_base.specs.declared.ids.SessionNo.{SessionNo}
use Rattle.flat_scene.specs.declared.journal.Entry.{Entry}
use Rattle.flat_scene.specs.declared.journal.EntryKind.{EntryKind}
use Rattle.flat_scene.specs.declared.journal.EntryKind.TheVariants.{Viewport, Finish}
use Rattle.flat_scene.specs.declared.journal.Reply.{Reply}
use Rattle.flat_scene.specs.declared.journal.Reply.TheVariants.{Done}
use Rattle.flat_scene.specs.declared.setup.Setup.{Setup}
use Rattle.flat_scene.specs.Draft.{empty_draft}
use Rattle.flat_scene.specs.Frames.{taken}
use Rattle.flat_scene.specs.History.{◌▹◌, own, calls, closes, is_finish, is_closed, is_session}
use Rattle.flat_scene.specs.Setups.{is_declared}
use Rattle.flat_facts.specs.declared.live_viewport.LiveViewport.{LiveViewport}
use Rattle.flat_rules.specs.Ends.{to_begin, to_finished, times, releases_viewport, viewport_uses, uses_viewport, is_done}
use Rattle.flat_rules.specs.Legal.{Legal, reply_to, refused_token, has_token, is_token_back, owns_viewport, is_frame_open, keeps_time, may_act}
use Rattle.flat_facts.specs.Lives.{held_of, lives_after, made_of_pair}
use Rattle.flat_rules.specs.Posts.{posted, releases_seen, Sent}
use Rattle.flat_facts.proofs.lemmas.Earlier.{begin-earlier, begun-earlier, finished-earlier, calls-taken, taken-fits, taken-begun, times-seen, times-rise}
use Rattle.flat_facts.proofs.lemmas.Earlier.{IsEarlier, taken-drop}
use Rattle.flat_facts.proofs.lemmas.LiveCounts.{lived-all, balance, lives-append}
use Rattle.flat_facts.proofs.lemmas.TokensBack.{no-token, token-finish}
use Rattle.flat_facts.proofs.lemmas.Uses.{uses-made, uses-other, uses-own}
use Rattle.flat_facts.proofs.lemmas.ViewHistory.{viewing-of, closes-first}
use Rattle.flat_base.proofs.lemmas.Tests.{and-left, and-right}
use Rattle.flat_rules.proofs.lemmas.ListLemmas.{none-put}

-- the live viewports of a session
abbrev pub live_in : SessionNo → List Entry → List LiveViewport
live_in s h = lives_after [] (calls s h)

-- a token that is neither used nor comes back stays where it is
pub token-kept : (a b c : Bool) → a ≡ false → c ≡ false → (not a && (b || c)) ≡ b
token-kept true b c na nc = cc
token-kept false true c na nc = refl
token-kept false false c na nc = nc

module _ (setup : Setup) (s : SessionNo) (p : PairNo) where
  -- how often the viewport end was used, and how often frames that are finished have seen it released
  abbrev pub uses : List Entry → ℕ
  uses h = length (viewport_uses p h)

  abbrev pub released : List Entry → ℕ
  released h = releases_seen setup (to_finished h) s p

  -- What holds of a viewport end while its owner is open.
  pub record IsCounted (h : List Entry) : Type 0 where
    pub token : has_token setup p h ≡ nat_le (uses h) (released h)
    pub near : uses h ≤ released h + 1
    pub few : held_of p (live_in s h) ≤ 1

  -- ---- counts

  -- what is held and what was released are no more than the uses
  pub balanced : (owned : owns_viewport setup s p ≡ true) (h : List Entry) → Legal setup h → is_closed s h ≡ false
      → times setup (releases_viewport p) (Ok empty_draft) (calls s h) + held_of p (live_in s h) ≤ uses h
  balanced owned h legal opened =
      let view = viewing-of setup s h legal opened in
      let all = lived-all setup (calls s h) view.draft view.good in
      omega (arith, all.releases p, balance p [] (calls s h), uses-made setup s p owned h legal opened)

  -- what earlier frames have seen
  pub seen-then : (k h : List Entry) → IsEarlier k h → releases_seen setup k s p ≤ times setup (releases_viewport p) (Ok empty_draft) (calls s h)
  seen-then k h before =
      let is : releases_seen setup k s p ≡ times setup (releases_viewport p) (Ok empty_draft) _ =
      ap (times setup (releases_viewport p) (Ok empty_draft)) (calls-taken setup s k h before) in
      omega (arith, is, times-seen setup (releases_viewport p) s h (taken setup k s) (taken-fits setup s k h before))

  pub seen-rises : (k l h : List Entry) → IsEarlier k h → IsEarlier l h → taken setup k s ≤ taken setup l s
      → releases_seen setup k s p ≤ releases_seen setup l s p
  seen-rises k l h before then less =
      let first : releases_seen setup k s p ≡ times setup (releases_viewport p) (Ok empty_draft) _ =
      ap (times setup (releases_viewport p) (Ok empty_draft)) (calls-taken setup s k h before) in
      let second : releases_seen setup l s p ≡ times setup (releases_viewport p) (Ok empty_draft) _ =
      ap (times setup (releases_viewport p) (Ok empty_draft)) (calls-taken setup s l h then) in
      omega (arith, first, second, times-rise setup (releases_viewport p) s h (taken setup k s) (taken setup l s) less (taken-fits setup s l h then))

  pub few-released : (owned : owns_viewport setup s p ≡ true) (h : List Entry) → Legal setup h → is_closed s h ≡ false
      → released h + held_of p (live_in s h) ≤ uses h
  few-released owned h legal opened = omega (arith, seen-then (to_finished h) h (finished-earlier h), balanced owned h legal opened)

  -- ---- one entry more

  module _ (owned : owns_viewport setup s p ≡ true) (h : List Entry) (e : Entry) (legal : Legal setup (h ▹ e)) (opened : is_closed s h ≡ false) where
    token-gone : (a b : Bool) → a ≡ true → (not a && b) ≡ false
    token-gone true b is = refl
    token-gone false b is = cc

    -- another's entry that ends no frame
    counted-other : is_session s e.actor ≡ false → is_finish e.kind ≡ false → IsCounted h → IsCounted (h ▹ e)
    counted-other other no_finish old =
        let same : viewport_uses p (h ▹ e) ≡ viewport_uses p h = uses-other setup s p owned h e legal.1 other in
        let n : uses (h ▹ e) ≡ uses h = ap (length {A = Entry}) same in
        let r : released (h ▹ e) ≡ released h = rw no_finish refl in
        let none : (uses_viewport p e.kind && is_done e.reply) ≡ false = none-put e (viewport_uses p h) (uses_viewport p e.kind && is_done e.reply) same in
        record {
          token = token-kept (uses_viewport p e.kind && is_done e.reply) (has_token setup p h) _ none (no-token setup p h e no_finish) ∙ old.token
              ∙ rw (n, r) refl;
          near = omega (arith, n, r, old.near);
          few = rw other old.few;
        }

    -- its own, which closes nothing
    held-own : is_session s e.actor ≡ true → (n : ℕ) → held_of p (live_in s h) + made_of_pair p e.calls ≤ n → held_of p (live_in s (h ▹ e)) ≤ n
    held-own mine n fits =
        let all : live_in s (h ▹ e) ≡ lives_after (live_in s h) e.calls = rw mine (lives-append [] (calls s h) e.calls) in
        let held : held_of p (live_in s (h ▹ e)) ≡ held_of p (lives_after (live_in s h) e.calls) = ap (held_of p) all in
        omega (arith, held, balance p (live_in s h) e.calls, fits)

    uses-is : (b : Bool) (e : Entry) (xs : List Entry) → length (cond b (e ∷ xs) xs) ≡ length xs + cond b 1 0
    uses-is true e xs = omega arith
    uses-is false e xs = omega arith

    -- what a use asks for
    used-held : (kind : EntryKind) (reply : Reply) → reply ≡ reply_to setup h e.actor e.calls kind → (uses_viewport p kind && is_done reply) ≡ true
        → has_token setup p h ≡ true
    used-held (Viewport q props) reply replied used =
        let here : (q.0 == p.0) ≡ true = and-left (q.0 == p.0) (is_done reply) used in
        let number : q.0 ≡ p.0 = grind (arith, nat_tests) in
        let T : ℕ → Type 0 = λ n. has_token setup (record { 0 = n }) h ≡ true in
        subst T number (by_token (has_token setup q h) replied (and-right (q.0 == p.0) (is_done reply) used))
      where
        by_token : (b : Bool) → reply ≡ cond b Done refused_token → is_done reply ≡ true → b ≡ true
        by_token true is done = refl
        by_token false is done = let wrong : false ≡ true = ap is_done (sym is) ∙ done in cc
    used-held _ reply replied used = cc

    counted-own : is_session s e.actor ≡ true → closes e.reply ≡ false → is_finish e.kind ≡ false → IsCounted h → IsCounted (h ▹ e)
    counted-own mine stays no_finish old = by_use (uses_viewport p e.kind && is_done e.reply) refl
      where
        r : released (h ▹ e) ≡ released h
        r = rw no_finish refl

        by_use : (b : Bool) → (uses_viewport p e.kind && is_done e.reply) ≡ b → IsCounted (h ▹ e)
        by_use false none =
            let n : uses (h ▹ e) ≡ uses h = rw none refl in
            let nothing : made_of_pair p e.calls ≡ 0 = let more = uses-own setup s p owned h e legal.1 mine stays in omega (arith, more, n) in
            record {
              token = token-kept (uses_viewport p e.kind && is_done e.reply) (has_token setup p h) _ none (no-token setup p h e no_finish) ∙ old.token
                  ∙ rw (n, r) refl;
              near = omega (arith, n, r, old.near);
              few = held-own mine 1 (omega (arith, nothing, old.few));
            }
        by_use true used =
            let n : uses (h ▹ e) ≡ uses h + 1 = rw used (omega arith) in
            let one : made_of_pair p e.calls ≡ 1 = let more = uses-own setup s p owned h e legal.1 mine stays in omega (arith, more, n) in
            let enough : nat_le (uses h) (released h) ≡ true = sym old.token ∙ used-held e.kind e.reply legal.1.reply used in
            let all : uses h ≤ released h = grind (arith, nat_tests) in
            let few = few-released owned h legal.0 opened in
            let none : held_of p (live_in s h) ≡ 0 = omega (arith, few, all) in
            let less : released h + held_of p (live_in s h) ≤ uses h = few in
            let over : nat_le (uses (h ▹ e)) (released (h ▹ e)) ≡ false = rw (n, r) (grind (arith, nat_tests)) in
            record {
              token = token-gone (uses_viewport p e.kind && is_done e.reply) _ used ∙ sym over;
              near = omega (arith, n, r, all);
              few = held-own mine 1 (omega (arith, none, one));
            }

    -- the end of a frame
    at-display : (kind : EntryKind) (actor : Actor) → may_act setup kind actor ≡ true → is_finish kind ≡ true → is_session s actor ≡ false
    at-display Finish Display may is = refl
    at-display Finish (Session t) may is = cc
    at-display Finish (Probe n) may is = cc
    at-display _ actor may is = cc

    no-use-at-finish : (kind : EntryKind) → is_finish kind ≡ true → uses_viewport p kind ≡ false
    no-use-at-finish (Viewport q props) is = cc
    no-use-at-finish _ is = refl

    finish-open : (kind : EntryKind) → keeps_time h kind ≡ true → is_finish kind ≡ true → is_frame_open h ≡ true
    finish-open Finish keeps is = keeps
    finish-open _ keeps is = cc

    sums : (u f b : ℕ) → f ≤ b → b ≤ u → u ≤ f + 1 → (nat_le u f || nat_lt 0 (b - f)) ≡ nat_le u b
    sums u f b rises fits near = by_tests (nat_le u f) (nat_lt 0 (b - f)) (nat_le u b) refl refl refl
      where
        by_tests : (x y z : Bool) → nat_le u f ≡ x → nat_lt 0 (b - f) ≡ y → nat_le u b ≡ z → (x || y) ≡ z
        by_tests true y true p q r = refl
        by_tests true y false p q r = absurd (grind (arith, nat_tests))
        by_tests false true true p q r = refl
        by_tests false true false p q r = absurd (grind (arith, nat_tests))
        by_tests false false true p q r = absurd (grind (arith, nat_tests))
        by_tests false false false p q r = refl

    counted-finish : is_declared setup s ≡ true → is_finish e.kind ≡ true → is_closed s (h ▹ e) ≡ false → IsCounted h → IsCounted (h ▹ e)
    counted-finish declared ends still old =
        let other : is_session s e.actor ≡ false = at-display e.kind e.actor legal.1.may.acts ends in
        let no_use : uses_viewport p e.kind ≡ false = no-use-at-finish e.kind ends in
        let n : uses (h ▹ e) ≡ uses h = rw no_use refl in
        let b : ℕ = releases_seen setup (to_begin h) s p in
        let f : ℕ = releases_seen setup (drop 1 (to_begin h)) s p in
        let now : released (h ▹ e) ≡ b = rw ends refl in
        let last : taken setup (drop 1 (to_begin h)) s ≡ taken setup (to_finished h) s =
        taken-begun setup s h legal.0 (finish-open e.kind legal.1.may.times ends) in
        let before_it : f ≤ released h = seen-rises (drop 1 (to_begin h)) (to_finished h) h (begun-earlier h) (finished-earlier h) (omega (arith, last)) in
        let after_it : released h ≤ f = seen-rises (to_finished h) (drop 1 (to_begin h)) h (finished-earlier h) (begun-earlier h) (omega (arith, last)) in
        let same : f ≡ released h = omega (arith, before_it, after_it) in
        let less : taken setup (drop 1 (to_begin h)) s ≤ taken setup (to_begin h) s = taken-drop setup s (to_begin h) in
        let rises : f ≤ b = seen-rises (drop 1 (to_begin h)) (to_begin h) h (begun-earlier h) (begin-earlier h) less in
        let seen = seen-then (to_begin h) h (begin-earlier h) in
        let all = balanced owned h legal.0 opened in
        let fits : b ≤ uses h = omega (arith, seen, all) in
        let near : uses h ≤ f + 1 = omega (arith, old.near, same) in
        let back : list_any (λ (sent : Sent). is_token_back p sent.event) (posted setup h e) ≡ nat_lt 0 (b - f) =
        token-finish setup p h e ends s owned declared still in
        let held : has_token setup p h ≡ nat_le (uses h) f = old.token ∙ ap (λ (k : ℕ). nat_le (uses h) k) (sym same) in
        let comes : has_token setup p (h ▹ e) ≡ nat_le (uses h) b = rw (no_use, back, held) (sums (uses h) f b rises fits near) in
        let moved : nat_le (uses h) b ≡ nat_le (uses (h ▹ e)) (released (h ▹ e)) = rw (n, now) refl in
        record {
          token = comes ∙ moved;
          near = omega (arith, n, now, near, rises);
          few = rw other old.few;
        }

  -- ---- all of a history

  counted-by : (owned : owns_viewport setup s p ≡ true) (declared : is_declared setup s ≡ true) (h : List Entry) (e : Entry) → Legal setup (h ▹ e)
      → is_closed s h ≡ false → is_closed s (h ▹ e) ≡ false
      → (is_session s e.actor ≡ true → closes e.reply ≡ false) → IsCounted h → (f : Bool) → is_finish e.kind ≡ f → (b : Bool) → is_session s e.actor ≡ b
      → IsCounted (h ▹ e)
  counted-by owned declared h e legal opened still stays old true ends b actor = counted-finish owned h e legal opened declared ends still old
  counted-by owned declared h e legal opened still stays old false goes true mine = counted-own owned h e legal opened mine (stays mine) goes old
  counted-by owned declared h e legal opened still stays old false goes false other = counted-other owned h e legal opened other goes old

  pub counted : (owned : owns_viewport setup s p ≡ true) (declared : is_declared setup s ≡ true) (h : List Entry) → Legal setup h → is_closed s h ≡ false
      → IsCounted h
  counted owned declared [] legal opened = record { token = refl; near = omega arith; few = omega arith }
  counted owned declared (h ▹ e) legal opened =
      let closing = closes-first (is_session s e.actor) e (own s h) opened in
      counted-by owned declared h e legal closing.1 opened closing.0 (counted owned declared h legal.0 closing.1) (is_finish e.kind) refl (is_session s e.actor)
      refl
