-- A board before any entry.
use Rattle.std.proofs.Common.{◌≡◌, ℕ, ◌+◌, ◌<◌, ◌≤◌, ◌^◌, Bool, true, false, List, [], ◌∷◌, length, refl, arith, sym, ◌∙◌, All, sum, slice_index_or}
use Rattle.std.specs.Prelude.{◌&&◌, nat_lt, nat_le, sum_by}
use Rattle.flat_base.specs.declared.ids.PairNo.{PairNo}
use Rattle.flat_base.specs.declared.limits.TheConstants.{SIDE_MAX, SESSIONS_MAX, PROBES_MAX, PAIRS_MAX, BUFFER_COLLECTIONS_MAX, FENCES_MAX}
use Rattle.flat_scene.specs.Setups.{is_ratio, is_within}
use Rattle.flat_scene.specs.Heads.{is_within_limits}
use Rattle.flat_base.proofs.lemmas.Tests.{and-left, and-right}
use Rattle.flat_states.specs.Flags.{has_end}
use Rattle.flat_facts.proofs.lemmas.Tests.{le-of}
use Rattle.std.proofs.lemmas.List.Elements.{All-head, All-tail}
use Rattle.std.proofs.lemmas.List.Sums.{sum_by-cons}
use Rattle.flat_base.specs.declared.ids.FenceNo.{FenceNo}
use Rattle.flat_base.specs.declared.ids.SessionNo.{SessionNo}
use Rattle.flat_scene.specs.declared.setup.Setup.{Setup}
use Rattle.flat_fence.specs.Fences.{has}
use Rattle.flat_states.specs.declared.state.SessionState.{SessionState}
use Rattle.flat_states.specs.Machines.{Stands, HasRoom, clock_of, due}
use Rattle.flat_rules.specs.Numbers.{number}
use Rattle.flat_states.specs.Kept.{IsKept, Below}
use Rattle.flat_states.specs.Logs.{Logged}
use Rattle.flat_states.specs.Presents.{IsNew}
use Rattle.flat_states.specs.Seen.{seen_of}
use Rattle.flat_rules.proofs.lemmas.ListLemmas.{All-none}

kept-new : (setup : Setup) (s : SessionNo) (state : SessionState) → IsNew state → IsKept setup (seen_of setup [] s) state
kept-new setup s state new = record {
  closed = new.closed;
  account = new.account;
  count = rw (new.taken, new.waiting) refl;
  few = rw new.waiting (omega arith);
  taken = λ stays. new.taken;
  waiting = λ stays. rw new.waiting refl;
  let_go = λ gone. let wrong : true ≡ false = sym gone ∙ new.let_go in cc;
  acquire = All-none (λ kept. Below (length setup.fences) kept.args.acquire) state.queue.waiting new.waiting;
  release = All-none (λ kept. Below (length setup.fences) kept.args.release) state.queue.waiting new.waiting;
  going = new.going;
  going_below = All-none (Below (length setup.fences)) state.going.items new.going;
  took = new.took;
  goes = rw new.going (omega arith);
  room = new.room;
}

due-new : (states : List SessionState) → All IsNew states → sum_by due states ≡ 0
due-new [] new = refl
due-new (state ∷ states) new =
    let here : IsNew state = All-head IsNew state states new in
    let none : due state ≡ 0 = rw (here.waiting, here.took) refl in
    sum_by-cons due state states ∙ rw (none, due-new states (All-tail IsNew state states new)) refl

three-of : (a b c d e f g : Bool) → (a && b && c && d && e && f && g) ≡ true → (c ≡ true) × (e ≡ true) × (g ≡ true)
three-of a b c d e f g all =
    let to_f = and-left (a && b && c && d && e && f) g all in
    let to_e = and-left (a && b && c && d && e) f to_f in
    let to_d = and-left (a && b && c && d) e to_e in
    let to_c = and-left (a && b && c) d to_d in
    (and-right (a && b) c to_c, and-right (a && b && c && d) e to_e, and-right (a && b && c && d && e && f) g all)

-- there are few sessions, pairs and fences
pub few-declared : (setup : Setup) → is_within_limits setup ≡ true
    → (setup.sessions ≤ SESSIONS_MAX) × (length setup.pairs ≤ PAIRS_MAX) × (length setup.fences ≤ FENCES_MAX)
few-declared setup limits =
    let three = three-of (is_ratio setup.ratio && is_within SIDE_MAX setup.width) (is_within SIDE_MAX setup.height) (is_within SESSIONS_MAX setup.sessions)
    (nat_le setup.probes PROBES_MAX) (nat_le (length setup.pairs) PAIRS_MAX)
    (nat_le (length setup.buffers) BUFFER_COLLECTIONS_MAX) (nat_le (length setup.fences) FENCES_MAX) limits in (
      le-of setup.sessions SESSIONS_MAX (and-right (nat_lt 0 setup.sessions) (nat_le setup.sessions SESSIONS_MAX) three.0),
      le-of (length setup.pairs) PAIRS_MAX three.1,
      le-of (length setup.fences) FENCES_MAX three.2,
    )

pub opened : (setup : Setup) (shares : List ℕ) (log : Logged) (fences views : List Bool) (sessions : List SessionState) (total : ℕ)
    → is_within_limits setup ≡ true → length shares ≡ setup.sessions + 1 → sum shares < 2 ^ 32
    → total ≡ sum shares → log.history ≡ [] → log.posts ≡ [] → total ≤ log.room → length fences ≡ length setup.fences → ((f : FenceNo) → has fences f ≡ false)
    → length views ≡ length setup.pairs → ((p : PairNo) → has_end views p ≡ false) → length sessions ≡ setup.sessions → All IsNew sessions
    → Stands setup log.history (clock_of setup []) fences views sessions × HasRoom setup shares log 0 (sum_by due sessions + 0)
opened setup shares log fences views sessions total limits actors few is history posts room size none view_size no_view count new =
    let stands : Stands setup [] (clock_of setup []) fences views sessions = record {
      legal = tt;
      timed = refl;
      fence_count = size;
      signalled = none;
      view_count = view_size;
      viewed = no_view;
      count = count;
      each = λ i d below. kept-new setup (number i) (slice_index_or sessions i d) (new i d below);
    } in (
      rw history stands,
      record {
        limits = limits;
        actors = actors;
        total = few;
        fair = λ place below. rw history (omega arith);
        entries = rw history (omega (arith, room, is));
        posts = rw history posts;
        reserved = omega arith;
        due = omega (arith, due-new sessions new);
        small = rw (posts, history) (omega arith);
      },
    )
