-- A view, made or refused.
use Rattle.std.proofs.Common.{◌≡◌, ℕ, zero, suc, ◌<◌, Bool, true, false, List, [], ◌∷◌, length, refl, arith, ◌∙◌, ap, subst, Some}
use Rattle.std.specs.Prelude.{cond, not, ◌&&◌, ◌||◌, ◌==◌, nat_lt, slice_get, option_map, unwrap_or}
use Rattle.std.specs.List.{list_all}
use Rattle.std.proofs.lemmas.Bool.Decides.{nat_tests}
use Rattle.flat_base.specs.declared.ids.Actor.TheVariants.{Session}
use Rattle.flat_base.specs.declared.ids.PairNo.{PairNo}
use Rattle.flat_base.specs.declared.ids.SessionNo.{SessionNo}
use Rattle.flat_scene.specs.declared.calls.Call.{Call}
use Rattle.flat_scene.specs.declared.journal.Entry.{Entry}
use Rattle.flat_scene.specs.declared.journal.EntryKind.TheVariants.{View}
use Rattle.flat_scene.specs.declared.journal.Reply.TheVariants.{Done}
use Rattle.flat_scene.specs.declared.setup.Setup.{Setup}
use Rattle.flat_scene.specs.History.{◌▹◌}
use Rattle.flat_base.proofs.lemmas.Tests.{and-left}
use Rattle.flat_states.specs.declared.state.SessionCounts.{SessionCounts}
use Rattle.flat_states.specs.declared.state.SessionState.{SessionState}
use Rattle.flat_states.specs.Machines.{Machine, MayCall, due}
use Rattle.flat_facts.specs.Begins.{entry_of}
use Rattle.flat_rules.specs.Ends.{view_uses, is_done}
use Rattle.flat_states.specs.Flags.{has_end}
use Rattle.flat_states.specs.Kept.{IsKept}
use Rattle.flat_rules.specs.Legal.{refused_token, reply_to, owns_in_kind, owns_in_call}
use Rattle.flat_states.specs.Presents.{use_reply}
use Rattle.flat_states.proofs.lemmas.Heard.{after_view}
use Rattle.flat_states.specs.Seen.{seen_of, account_of}
use Rattle.flat_states.proofs.lemmas.Changes.{IsPlainOne, seen-closed, kept-account, kept-closed, is-session}
use Rattle.flat_rules.proofs.lemmas.Quiet.{closed-quiet, presents-quiet, taken-quiet, going-quiet, took-quiet}
use Rattle.flat_facts.proofs.lemmas.Tests.{same-pair}

-- ---- the reply

by-uses : (n : ℕ) → use_reply (not (nat_lt 0 n)) ≡ cond (n == 0) Done refused_token
by-uses zero = refl
by-uses (suc n) =
    let some : nat_lt 0 (suc n) ≡ true = grind (arith, nat_tests) in
    let more : (suc n == 0) ≡ false = grind (arith, nat_tests) in
    rw (some, more) refl

pub view-replied : (setup : Setup) (h : List Entry) (s : SessionNo) (calls : List Call) (p : PairNo) (used : Bool) → used ≡ nat_lt 0 (length (view_uses p h))
    → use_reply (not used) ≡ reply_to setup h (Session s) calls (View p)
view-replied setup h s calls p used is = ap (λ b. use_reply (not b)) is ∙ by-uses (length (view_uses p h))

-- ---- the ends

and-true : (b : Bool) → b ≡ (b && true)
and-true true = refl
and-true false = refl

used-already : (b : Bool) (views : List Bool) (p q : PairNo) → has_end views p ≡ true → (p.0 == q.0) ≡ b
    → (has_end views q || b) ≡ (has_end views q || (b && false))
used-already true views p q used is =
    let here : has_end views q ≡ true = subst (λ (r : PairNo). has_end views r ≡ true) (same-pair p q is) used in
    rw here refl
used-already false views p q used is = refl

pub view-changed : (views now : List Bool) (p : PairNo) (used : Bool) → has_end views p ≡ used
    → ((q : PairNo) → has_end now q ≡ (has_end views q || p.0 == q.0))
    → (q : PairNo) → has_end now q ≡ (has_end views q || (p.0 == q.0 && is_done (use_reply (not used))))
view-changed views now p true is members q = members q ∙ used-already (p.0 == q.0) views p q is refl
view-changed views now p false is members q = members q ∙ ap (λ b. has_end views q || b) (and-true (p.0 == q.0))

some-twice : {A B : Type 0} (f : A → B) (g : B → Bool) (xs : List A) (n : ℕ) → unwrap_or (option_map g (option_map f (slice_get xs n))) false ≡ true
    → n < length xs
some-twice f g [] n owned = absurd (cc)
some-twice f g (x ∷ xs) zero owned = omega arith
some-twice f g (x ∷ xs) (suc n) owned = let more : n < length xs = some-twice f g xs n owned in omega (arith, more)

-- a pair whose view a session may make is declared
pub view-below : (m : Machine) (s : SessionNo) (calls : List Call) (p : PairNo) (n : ℕ) → MayCall m (Session s) calls (View p) → n ≡ length m.setup.pairs
    → p.0 < n
view-below m s calls p n call same =
    rw same
    (some-twice (λ pair. pair.view) (λ t. t.0 == s.0) m.setup.pairs p.0
    (and-left (owns_in_kind m.setup s (View p)) (list_all (owns_in_call m.setup s) calls) call.may.owned))

-- ---- what is kept of the session

seen-viewed : (setup : Setup) (h : List Entry) (s : SessionNo) (line : ℕ) (calls : List Call) (p : PairNo)
    → seen_of setup (h ▹ entry_of (Session s) line calls (View p) Done) s
    ≡ record (seen_of setup h s) { account = record (account_of setup h s) { view = Some p } }
seen-viewed setup h s line calls p =
    let e : Entry = entry_of (Session s) line calls (View p) Done in
    rw (
      closed-quiet h e s refl,
      presents-quiet h e s (λ made. refl),
      is-session s,
      taken-quiet setup h e s refl,
      going-quiet setup h e s refl,
      took-quiet setup h e s refl refl,
    ) refl

plain-view : (s : SessionNo) (line : ℕ) (calls : List Call) (p : PairNo) → IsPlainOne (entry_of (Session s) line calls (View p) refused_token)
plain-view s line calls p = record { no_begin = refl; no_finish = refl; no_poll = refl; no_view = refl; none = λ made. refl }

pub view-kept : (setup : Setup) (h : List Entry) (s : SessionNo) (line : ℕ) (calls : List Call) (p : PairNo) (is_held : Bool) (state : SessionState)
    → IsKept setup (seen_of setup h s) state
    → IsKept setup (seen_of setup (h ▹ entry_of (Session s) line calls (View p) (use_reply is_held)) s) (after_view p is_held state)
view-kept setup h s line calls p true state kept =
    rw (seen-viewed setup h s line calls p) (kept-account setup (seen_of setup h s) state
    (λ (a : SessionCounts). let b : SessionCounts = record a { view = Some p } in b)
    (λ a. refl) kept)
view-kept setup h s line calls p false state kept =
    rw (seen-closed setup h (entry_of (Session s) line calls (View p) refused_token) s (plain-view s line calls p) refl (is-session s))
    (kept-closed setup (seen_of setup h s) state kept)

pub view-due : (p : PairNo) (is_held : Bool) (state : SessionState) → due (after_view p is_held state) ≡ due state
view-due p true state = refl
view-due p false state = refl
