-- What is taken and what waits are the presents.
use Rattle.std.proofs.Common.{◌≡◌, ℕ, ◌+◌, ◌-◌, ◌<◌, ◌≤◌, Bool, true, false, List, length, refl, arith, sym, ◌∙◌, ap, length-drop}
use Rattle.std.proofs.lemmas.List.{length-map}
use Rattle.std.proofs.lemmas.List.Sums.{prefix_len-le-length}
use Rattle.std.proofs.lemmas.List.Folds.{length-prefix_len}
use Rattle.std.specs.Prelude.{nat_lt, nat_le, slice_index_or, IsTrue, cond, ◌&&◌, ◌==◌, take_while}
use Rattle.flat_scene.proofs.lemmas.TakingLemmas.{taken-made}
use Rattle.flat_states.specs.declared.frame_clock.FrameClock.{FrameClock}
use Rattle.flat_scene.specs.Setups.{is_declared}
use Rattle.flat_states.specs.Machines.{Stands}
use Rattle.flat_rules.specs.Numbers.{number, AllNumbered}
use Rattle.flat_base.proofs.lemmas.Tests.{and-left, and-right}
use Rattle.flat_base.specs.declared.ids.SessionNo.{SessionNo}
use Rattle.flat_scene.specs.declared.journal.Entry.{Entry}
use Rattle.flat_scene.specs.declared.setup.Setup.{Setup}
use Rattle.flat_scene.specs.History.{presents}
use Rattle.flat_scene.specs.Frames.{taken, waiting}
use Rattle.flat_states.specs.declared.state.SessionCounts.{SessionCounts}
use Rattle.flat_states.specs.declared.state.SessionState.{SessionState}
use Rattle.flat_states.specs.Kept.{IsKept, taken_in, waiting_in, credits_in, release_of, kept_of, meant}
use Rattle.flat_states.specs.Seen.{Seen, seen_of}
use Rattle.flat_rules.specs.Legal.{number_if}
use Rattle.flat_facts.proofs.lemmas.Tests.{lt-of, le-of}

pub length-take_while : {A : Type 0} (p : A → Bool) (xs : List A) → length (take_while p xs) ≤ length xs
length-take_while p xs = rw (length-prefix_len p xs) (prefix_len-le-length p xs)

pub seen-count : (setup : Setup) (h : List Entry) (s : SessionNo) → taken setup h s + length (waiting setup h s) ≡ length (presents s h)
seen-count setup h s = omega (arith, taken-made setup s h, length-drop (taken setup h s) (presents s h))

-- what a session's state answers is what the definitions say
pub kept-waiting : (setup : Setup) (seen : Seen) (state : SessionState) → IsKept setup seen state → (gone : Bool) → state.let_go ≡ gone
    → cond gone (length state.going.items) (length state.queue.waiting) ≡ length seen.waiting
kept-waiting setup seen state kept true gone =
    ap length kept.going ∙ length-map seen.going release_of ∙ ap length (kept.let_go gone).2
kept-waiting setup seen state kept false gone =
    sym (length-map state.queue.waiting kept_of) ∙ ap length (kept.waiting gone) ∙ length-map seen.waiting (meant setup)

pub waiting-kept : (setup : Setup) (seen : Seen) (state : SessionState) → IsKept setup seen state → waiting_in state ≡ length seen.waiting
waiting-kept setup seen state kept = kept-waiting setup seen state kept state.let_go refl

kept-taken : (setup : Setup) (seen : Seen) (state : SessionState) → IsKept setup seen state → seen.taken + length seen.waiting ≡ seen.account.presents
    → (gone : Bool) → state.let_go ≡ gone → cond gone (state.account.presents - length state.going.items) state.queue.taken ≡ seen.taken
kept-taken setup seen state kept count true gone =
    let waits : length state.going.items ≡ length seen.waiting = kept-waiting setup seen state kept true gone in
    omega (arith, waits, ap (λ (a : SessionCounts). a.presents) kept.account, count)
kept-taken setup seen state kept count false gone = kept.taken gone

pub taken-kept : (setup : Setup) (seen : Seen) (state : SessionState) → IsKept setup seen state → seen.taken + length seen.waiting ≡ seen.account.presents
    → taken_in state ≡ seen.taken
taken-kept setup seen state kept count = kept-taken setup seen state kept count state.let_go refl

pub credits-kept : (setup : Setup) (seen : Seen) (state : SessionState) → IsKept setup seen state → seen.taken + length seen.waiting ≡ seen.account.presents
    → credits_in state ≡ cond (seen.taken == 0) 1 5 - length seen.waiting
credits-kept setup seen state kept count = rw (taken-kept setup seen state kept count, waiting-kept setup seen state kept) refl

pub one-back : (n : ℕ) → 0 < n → n - 1 + 1 ≡ n
one-back n some = omega arith

-- the session at a session's place
pub same-number : (s : SessionNo) → 0 < s.0 → number (s.0 - 1) ≡ s
same-number s some = ap (λ (n : ℕ). let r : SessionNo = record { 0 = n } in r) (one-back s.0 some)

-- what holds of all by their places holds of a session
pub at-session : {A : Type 0} (P : SessionNo → A → Type 0) (xs : List A) (s : SessionNo) (x : A) → AllNumbered (λ i. P (number i)) xs → 0 < s.0
    → s.0 ≤ length xs → x ≡ slice_index_or xs (s.0 - 1) x → P s x
at-session P xs s x each some few is =
    let here : P (number (s.0 - 1)) (slice_index_or xs (s.0 - 1) x) = each (s.0 - 1) x (omega arith) in
    rw (← same-number s some) (rw is here)

pub declared-some : (m n : ℕ) → (nat_lt 0 m && nat_le m n) ≡ true → (0 < m) × (m ≤ n)
declared-some m n h = (lt-of 0 m (and-left (nat_lt 0 m) (nat_le m n) h), le-of m n (and-right (nat_lt 0 m) (nat_le m n) h))

-- what is kept of a declared session
pub kept-session : (setup : Setup) (h : List Entry) (clock : FrameClock) (fences views : List Bool) (sessions : List SessionState) (s : SessionNo)
    (state : SessionState) → Stands setup h clock fences views sessions
    → IsTrue (is_declared setup s) → state ≡ slice_index_or sessions (s.0 - 1) state → IsKept setup (seen_of setup h s) state
kept-session setup h clock fences views sessions s state stands declared is =
    let here = declared-some s.0 setup.sessions declared in
    at-session (λ s. IsKept setup (seen_of setup h s)) sessions s state stands.each here.0 (rw stands.count here.1) is

pub few-if : (b : Bool) → number_if b ≤ 1
few-if true = omega arith
few-if false = omega arith
