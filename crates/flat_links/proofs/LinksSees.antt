-- A begin, for what is kept of pairs.
use Rattle.std.proofs.Common.{◌≡◌, ◌∙◌, sym, subst, ℕ, ◌+◌, ◌<◌, ◌≤◌, Bool, true, false, List, [], length, refl, arith, ap, Some, None, slice_index_or}
use Rattle.std.specs.Prelude.{Option, cond, nat_lt, nat_le, not, ◌&&◌, ◌==◌, option_and_then, option_map, unwrap_or}
use Rattle.std.specs.Result.{result_ok}
use Rattle.std.proofs.lemmas.Bool.Decides.{nat_tests}
use Rattle.flat_base.specs.declared.ids.Actor.TheVariants.{Session}
use Rattle.flat_base.specs.declared.ids.PairNo.{PairNo}
use Rattle.flat_base.specs.declared.ids.SessionNo.{SessionNo}
use Rattle.flat_scene.specs.declared.calls.Call.{Call}
use Rattle.flat_scene.specs.declared.calls.ViewportProps.{ViewportProps}
use Rattle.flat_scene.specs.declared.journal.Entry.{Entry}
use Rattle.flat_scene.specs.declared.setup.Setup.{Setup}
use Rattle.flat_scene.specs.declared.trees.Tree.{Tree}
use Rattle.flat_scene.specs.Draft.{Draft}
use Rattle.flat_scene.specs.Effect.{draft_of}
use Rattle.flat_scene.specs.Frames.{taken}
use Rattle.flat_scene.specs.History.{is_closed, is_session, presents, Published}
use Rattle.flat_scene.specs.Setups.{is_declared}
use Rattle.flat_base.proofs.lemmas.Tests.{and-left}
use Rattle.std.proofs.lemmas.Bool.{not-true}
use Rattle.flat_links.specs.declared.session_links.SessionLinks.{SessionLinks}
use Rattle.flat_links.specs.declared.session_links.SeenAtBegin.{SeenAtBegin}
use Rattle.flat_links.specs.declared.pairs.PairState.{PairState}
use Rattle.flat_states.specs.declared.state.SessionState.{SessionState}
use Rattle.flat_facts.specs.Begins.{begun, begin_entry}
use Rattle.flat_rules.specs.Numbers.{number, AllNumbered}
use Rattle.flat_rules.specs.Ends.{live_props, props_of, serials_of, taken_calls, to_begin, to_finished, viewport_owner, viewport_uses}
use Rattle.flat_facts.specs.Contents.{capped}
use Rattle.flat_links.specs.Hearing.{IsBound, losings}
use Rattle.flat_links.specs.SessionLinks.{AreLinked, IsBegun, AreSessionLinks, IsPairKept, props_pending, seen_by_begin}
use Rattle.flat_facts.specs.Pairs.{pair}
use Rattle.flat_rules.specs.Legal.{Legal, begin_time, is_frame_open, owns_viewport}
use Rattle.flat_rules.specs.Shown.{last_taken, shown, tree_of}
use Rattle.flat_links.specs.Usage.{SeesOne, SeesUses, props_among, uses_if, uses_in, with_pending}
use Rattle.flat_rules.specs.Watch.{props_seen}
use Rattle.std.specs.Option.{option_or}
use Rattle.flat_facts.proofs.lemmas.Earlier.{IsEarlier, begin-earlier, calls-taken, finished-earlier, itself, one-earlier, taken-begin, taken-earlier}
use Rattle.flat_facts.proofs.lemmas.Earlier.{taken-finished}
use Rattle.flat_links.proofs.FrameSees.{closed-took, foreign-uses, last-uses, no-uses, seen-already}
use Rattle.flat_links.proofs.lemmas.PairIdle.{idle-serial, pair-still}
use Rattle.flat_rules.proofs.lemmas.ShownSteps.{serial-zero}
use Rattle.flat_links.proofs.LinksBegin.{FollowedUpTo, followed-end, followed-here, state-at}
use Rattle.flat_facts.proofs.lemmas.Undeclared.{none-taken}
use Rattle.flat_facts.proofs.lemmas.ViewLaw.{made_at}
use Rattle.flat_topology.specs.Shown.{Shown, state_of}

-- whether a session is one of the first
abbrev pub is_done_by : ℕ → SessionNo → Bool
is_done_by i v = nat_lt 0 v.0 && nat_le v.0 i

-- What is kept of a pair, where the frame began for the first sessions: all but what is pending of the last use stays.
pub record PairUpTo (setup : Setup) (h after : List Entry) (i : ℕ) (p : PairNo) (state : PairState) : Type 0 where
  pub was : PairState
  pub kept : IsPairKept setup h p was
  pub same : state ≡ with_pending was state.pending
  pub pending : (v : SessionNo) → viewport_owner setup p ≡ Some (Session v)
      → state.pending ≡ props_pending setup p (length (viewport_uses p h)) v (cond (is_done_by i v) after h)

-- ---- which sessions are done

other-side : (i n : ℕ) → (n == i + 1) ≡ false → (nat_lt 0 n && nat_le n i) ≡ (nat_lt 0 n && nat_le n (i + 1))
other-side i n other = ap (λ (b : Bool). nat_lt 0 n && b) (by_tests (nat_le n i) (nat_le n (i + 1)) refl refl)
  where
    by_tests : (a b : Bool) → nat_le n i ≡ a → nat_le n (i + 1) ≡ b → a ≡ b
    by_tests true true p q = refl
    by_tests false false p q = refl
    by_tests true false p q = absurd (grind (arith, nat_tests))
    by_tests false true p q = absurd (grind (arith, nat_tests))

not-yet : (i : ℕ) → is_done_by i (number i) ≡ false
not-yet i = grind (arith, nat_tests)

by-now : (i : ℕ) → is_done_by (i + 1) (number i) ≡ true
by-now i = grind (arith, nat_tests)

none-yet : (n : ℕ) → (nat_lt 0 n && nat_le n 0) ≡ false
none-yet n = grind (arith, nat_tests)

-- ---- a pair

-- some count stands for the serial, whether there was a use or not
some-serial : (setup : Setup) (h : List Entry) (p : PairNo) (state : PairState) → IsPairKept setup h p state → (v : SessionNo)
    → viewport_owner setup p ≡ Some (Session v) → (n : ℕ) × (state.serial ≡ capped n)
some-serial setup h p state kept v owner = by_use (nat_lt 0 (length (viewport_uses p h))) refl
  where
    by_use : (b : Bool) → nat_lt 0 (length (viewport_uses p h)) ≡ b → (n : ℕ) × (state.serial ≡ capped n)
    by_use true some = let it = kept.serial v owner (grind (arith, nat_tests)) in (it.serial, it.is)
    by_use false none = (0, kept.unused (grind (arith, nat_tests)))

other-owner : (setup : Setup) (p : PairNo) (s v : SessionNo) → viewport_owner setup p ≡ Some (Session v) → (v.0 == s.0) ≡ false
    → owns_viewport setup s p ≡ false
other-owner setup p s v owner other = rw owner other

nothing-of-none : (p : PairNo) (r : Option Draft) → option_and_then (props_of p 0) r ≡ None
nothing-of-none p None = refl
nothing-of-none p (Some d) = ap (option_and_then (live_props d)) (serial-zero (serials_of p 1 d.contents))

module _ (setup : Setup) (h : List Entry) (line time : ℕ) (states : List SessionState) (shows : Shown) (begins : IsBegun setup h line time states shows) where
  legal : Legal setup h
  legal = begins.legal.0

  shut_frame : is_frame_open h ≡ false
  shut_frame = not-true (is_frame_open h) (and-left (not (is_frame_open h)) (nat_le (begin_time h) time) begins.legal.1.may.times)

  nobody : (s : SessionNo) → is_session s (begin_entry line time).actor ≡ true → is_closed s h ≡ true
  nobody s mine = let wrong : false ≡ true = mine in cc

  begin_before : IsEarlier (to_begin h) (begun h line time)
  begin_before = one-earlier (to_begin h) h (begin_entry line time) (begin-earlier h)

  abbrev took : SessionNo → Bool
  took v = nat_lt (taken setup (to_begin h) v) (taken setup (begun h line time) v)

  taken-same : (v : SessionNo) → took v ≡ false → taken setup (begun h line time) v ≡ taken setup (to_begin h) v
  taken-same v none =
      let rises : taken setup (to_begin h) v ≤ taken setup (begun h line time) v = taken-earlier setup v (to_begin h) (begun h line time) begin_before in
      grind (arith, nat_tests)

  opened-took : (v : SessionNo) → took v ≡ true → is_closed v (begun h line time) ≡ false
  opened-took v some = by_close (is_closed v (begun h line time)) refl
    where
      by_close : (b : Bool) → is_closed v (begun h line time) ≡ b → b ≡ false
      by_close false is = refl
      by_close true shut =
          let same : taken setup (begun h line time) v ≡ taken setup h v = closed-took setup v (begun h line time) begins.legal shut in
          let all : taken setup h v ≡ taken setup (to_begin h) v = taken-begin setup v h in
          absurd (grind (arith, nat_tests))

  -- what the calls that the frame took give the last use
  abbrev had : PairNo → SessionNo → Option ViewportProps
  had p v = option_and_then (props_of p (length (viewport_uses p h))) (result_ok (draft_of setup (taken_calls setup (begun h line time) v)))

  abbrev seen : PairNo → SessionNo → Option ViewportProps
  seen p v = props_seen setup p (length (viewport_uses p h)) v h

  -- before the begin nothing is pending but what is seen
  pending-before : (p : PairNo) (v : SessionNo) → props_pending setup p (length (viewport_uses p h)) v h ≡ seen p v
  pending-before p v =
      let count : taken setup (to_begin h) v ≡ taken setup (to_finished h) v = sym (taken-begin setup v h) ∙ taken-finished setup v h shut_frame in
      let same : taken_calls setup (to_begin h) v ≡ taken_calls setup (to_finished h) v =
      calls-taken setup v (to_begin h) h (begin-earlier h) ∙ ap (made_at (presents v h)) count
      ∙ sym (calls-taken setup v (to_finished h) h (finished-earlier h)) in
      ap (λ (cs : List Call). option_or (option_and_then (props_of p (length (viewport_uses p h))) (result_ok (draft_of setup cs))) (seen p v)) same
      ∙ seen-already setup v p (length (viewport_uses p h)) h

  -- the owner's session, from which the frame took something
  pending-new : (p : PairNo) (v : SessionNo) → viewport_owner setup p ≡ Some (Session v) → took v ≡ true → (was state new : PairState)
      → IsPairKept setup h p was → state.serial ≡ was.serial
      → SeesOne p (uses_in (shown setup (begun h line time) v)) state new → new.pending ≡ option_or (had p v) state.pending
  pending-new p v owner some was state new kept same sees = by_use (nat_lt 0 (length (viewport_uses p h))) refl
    where
      tree_is : shown setup (begun h line time) v ≡ option_and_then (tree_of setup) (last_taken setup (begun h line time) v)
      tree_is = rw (opened-took v some) refl

      by_use : (b : Bool) → nat_lt 0 (length (viewport_uses p h)) ≡ b → new.pending ≡ option_or (had p v) state.pending
      by_use true used =
          let more : 0 < length (viewport_uses p h) = grind (arith, nat_tests) in
          let serial = idle-serial setup h (begin_entry line time) begins.legal nobody p refl v owner was.serial (kept.serial v owner more) in
          sees.pending serial.serial (same ∙ serial.is)
          ∙ ap (λ (t : Option Tree). option_or (props_among p (uses_in t) serial.serial) state.pending) tree_is
          ∙ ap (λ (o : Option ViewportProps). option_or o state.pending)
          (last-uses setup v (begun h line time) (begun h line time) begins.legal (itself (begun h line time)) p serial.serial more serial.tells)
      by_use false none =
          let zero_uses : length (viewport_uses p h) ≡ 0 = grind (arith, nat_tests) in
          sees.pending 0 (same ∙ kept.unused zero_uses)
          ∙ ap (λ (t : Option Tree). option_or (props_among p (uses_in t) 0) state.pending) tree_is
          ∙ ap (λ (o : Option ViewportProps). option_or o state.pending)
          (no-uses setup v (begun h line time) (begun h line time) begins.legal (itself (begun h line time)) p
          ∙ sym (ap (λ (n : ℕ). option_and_then (props_of p n) (result_ok (draft_of setup (taken_calls setup (begun h line time) v)))) zero_uses
          ∙ nothing-of-none p (result_ok (draft_of setup (taken_calls setup (begun h line time) v)))))

  -- the owner's session, from which it took nothing
  pending-old : (p : PairNo) (v : SessionNo) → took v ≡ false → props_pending setup p (length (viewport_uses p h)) v h ≡ option_or (had p v) (seen p v)
  pending-old p v none =
      let same : taken_calls setup (to_begin h) v ≡ taken_calls setup (begun h line time) v =
      calls-taken setup v (to_begin h) (begun h line time) begin_before ∙ ap (made_at (presents v (begun h line time))) (sym (taken-same v none))
      ∙ sym (calls-taken setup v (begun h line time) (begun h line time) (itself (begun h line time))) in
      ap (λ (cs : List Call). option_or (option_and_then (props_of p (length (viewport_uses p h))) (result_ok (draft_of setup cs))) (seen p v)) same

  -- another session shows no viewport of the pair
  shown-foreign : (p : PairNo) (s : SessionNo) → owns_viewport setup s p ≡ false → (n : ℕ)
      → props_among p (uses_in (shown setup (begun h line time) s)) n ≡ None
  shown-foreign p s foreign n = by_close (is_closed s (begun h line time))
    where
      by_close : (b : Bool) → props_among p (uses_in (cond b None (option_and_then (tree_of setup) (last_taken setup (begun h line time) s)))) n ≡ None
      by_close true = refl
      by_close false = foreign-uses setup s (begun h line time) (begun h line time) begins.legal (itself (begun h line time)) p foreign n

  -- one session more
  pub pair-on : (i : ℕ) (p : PairNo) (state new : PairState) → SeesOne p (uses_if (took (number i)) (shown setup (begun h line time) (number i))) state new
      → PairUpTo setup h (begun h line time) i p state → PairUpTo setup h (begun h line time) (i + 1) p new
  pair-on i p state new sees old = record {
    was = old.was;
    kept = old.kept;
    same = sees.same ∙ ap (λ (x : PairState). with_pending x new.pending) old.same;
    pending = λ v owner. by_owner v owner (v.0 == (number i).0) refl;
  }
    where
      serial_same : state.serial ≡ old.was.serial
      serial_same = ap (λ (x : PairState). x.serial) old.same

      told : SessionNo → Bool → Option ViewportProps
      told v b = props_pending setup p (length (viewport_uses p h)) v (cond b (begun h line time) h)

      kept_apart : (v : SessionNo) → viewport_owner setup p ≡ Some (Session v)
          → ((n : ℕ) → props_among p (uses_if (took (number i)) (shown setup (begun h line time) (number i))) n ≡ None) → new.pending ≡ state.pending
      kept_apart v owner none =
          let n = some-serial setup h p old.was old.kept v owner in
          sees.pending n.0 (serial_same ∙ n.1) ∙ ap (λ (o : Option ViewportProps). option_or o state.pending) (none n.0)

      foreign_if : (b : Bool) → owns_viewport setup (number i) p ≡ false → (n : ℕ)
          → props_among p (uses_if b (shown setup (begun h line time) (number i))) n ≡ None
      foreign_if true foreign n = shown-foreign p (number i) foreign n
      foreign_if false foreign n = refl

      by_took : viewport_owner setup p ≡ Some (Session (number i)) → state.pending ≡ told (number i) false → (b : Bool) → took (number i) ≡ b
          → new.pending ≡ told (number i) true
      by_took owner before true some =
          let looked : SeesOne p (uses_in (shown setup (begun h line time) (number i))) state new =
          subst (λ (b : Bool). SeesOne p (uses_if b (shown setup (begun h line time) (number i))) state new) some sees in
          pending-new p (number i) owner some old.was state new old.kept serial_same looked
          ∙ ap (option_or (had p (number i))) (before ∙ pending-before p (number i))
      by_took owner before false none =
          kept_apart (number i) owner (λ n. ap (λ (b : Bool). props_among p (uses_if b (shown setup (begun h line time) (number i))) n) none) ∙ before
          ∙ pending-old p (number i) none

      by_owner : (v : SessionNo) → viewport_owner setup p ≡ Some (Session v) → (b : Bool) → (v.0 == (number i).0) ≡ b
          → new.pending ≡ told v (is_done_by (i + 1) v)
      by_owner v owner false other =
          kept_apart v owner (λ n. foreign_if (took (number i)) (other-owner setup p (number i) v owner other) n) ∙ old.pending v owner
          ∙ ap (told v) (other-side i v.0 other)
      by_owner v owner true mine =
          let number_is : v.0 ≡ i + 1 = grind (arith, nat_tests) in
          let same : v ≡ number i = ap (λ (n : ℕ). let t : SessionNo = record { 0 = n } in t) number_is in
          let F : SessionNo → Type 0 = λ t. new.pending ≡ told t (is_done_by (i + 1) t) in
          let ours : viewport_owner setup p ≡ Some (Session (number i)) = owner ∙ ap (λ (t : SessionNo). Some (Session t)) same in
          let before : state.pending ≡ told (number i) false = old.pending (number i) ours ∙ ap (told (number i)) (not-yet i) in
          subst F (sym same) (by_took ours before (took (number i)) refl ∙ ap (told (number i)) (sym (by-now i)))

  pub pairs-on : (i : ℕ) (old new : List PairState) → SeesUses (uses_if (took (number i)) (shown setup (begun h line time) (number i))) old new
      → AllNumbered (λ j. PairUpTo setup h (begun h line time) i (pair j)) old → AllNumbered (λ j. PairUpTo setup h (begun h line time) (i + 1) (pair j)) new
  pairs-on i old new sees each j d below =
      let within : j < length old = omega (arith, below, sees.count) in
      pair-on i (pair j) (slice_index_or old j d) (slice_index_or new j d) (sees.each j d within) (each j d within)

  pub pairs-start : (pairs : List PairState) → AllNumbered (λ j. IsPairKept setup h (pair j)) pairs
      → AllNumbered (λ j. PairUpTo setup h (begun h line time) 0 (pair j)) pairs
  pairs-start pairs each j d below =
      let kept = each j d below in
      record {
        was = slice_index_or pairs j d;
        kept = kept;
        same = refl;
        pending = λ v owner.
            kept.pending v owner ∙ ap (λ (b : Bool). props_pending setup (pair j) (length (viewport_uses (pair j) h)) v (cond b (begun h line time) h))
            (sym (none-yet v.0));
      }

  pub pairs-end : (pairs : List PairState) → AllNumbered (λ j. PairUpTo setup h (begun h line time) setup.sessions (pair j)) pairs
      → AllNumbered (λ j. IsPairKept setup (begun h line time) (pair j)) pairs
  pairs-end pairs each j d below =
      let it = each j d below in
      pair-still setup h (begin_entry line time) begins.legal nobody (pair j) refl it.was (slice_index_or pairs j d)
      (ap (λ (x : PairState). x.ended) it.same) (ap (λ (x : PairState). x.cleared) it.same) (ap (λ (x : PairState). x.serial) it.same)
      (ap (λ (x : PairState). x.given) it.same)
      (λ v owner. ap (λ (x : PairState). x.seen) it.same ∙ it.kept.seen v owner)
      (λ v owner. by_declared v (it.pending v owner) (is_declared setup v) refl) it.kept
    where
      told : SessionNo → Bool → Option ViewportProps
      told v b = props_pending setup (pair j) (length (viewport_uses (pair j) h)) v (cond b (begun h line time) h)

      by_declared : (v : SessionNo) → (slice_index_or pairs j d).pending ≡ told v (is_done_by setup.sessions v) → (b : Bool) → is_declared setup v ≡ b
          → (slice_index_or pairs j d).pending ≡ told v true
      by_declared v pending true is = pending ∙ ap (told v) is
      by_declared v pending false is =
          let none : last_taken setup (begun h line time) v ≡ None = none-taken setup v is (begun h line time) begins.legal in
          let had_none : had (pair j) v ≡ None =
          ap (λ (o : Option Published). option_and_then (props_of (pair j) (length (viewport_uses (pair j) h)))
          (result_ok (draft_of setup (unwrap_or (option_map (λ (present : Published). present.made) o) [])))) none in
          pending ∙ ap (told v) is ∙ pending-before (pair j) v ∙ ap (λ (o : Option ViewportProps). option_or o (seen (pair j) v)) (sym had_none)

  -- what is looked at
  pub looked-at : (i : ℕ) (linked_sessions : List SessionLinks) (was : SessionLinks) (seen_at_begin : SeenAtBegin) → i < length linked_sessions
      → i < setup.sessions
      → was ≡ slice_index_or linked_sessions i was → AllNumbered (FollowedUpTo setup h (begun h line time) i) linked_sessions
      → seen_at_begin ≡ seen_by_begin setup (begun h line time) (number i)
      → uses_if (nat_lt was.begun.taken seen_at_begin.taken) (state_of shows (number i).0)
      ≡ uses_if (took (number i)) (shown setup (begun h line time) (number i))
  looked-at i linked_sessions was seen_at_begin below within is each here =
      let old : AreSessionLinks setup h (number i) was = followed-here setup h (begun h line time) i linked_sessions was each below is in
      let before : was.begun.taken ≡ taken setup (to_begin h) (number i) = ap (λ (g : SeenAtBegin). g.taken) old.begun in
      let now : seen_at_begin.taken ≡ taken setup (begun h line time) (number i) = ap (λ (g : SeenAtBegin). g.taken) here in
      ap (λ (n : ℕ). uses_if (nat_lt n seen_at_begin.taken) (state_of shows (number i).0)) before
      ∙ ap (λ (n : ℕ). uses_if (nat_lt (taken setup (to_begin h) (number i)) n) (state_of shows (number i).0)) now
      ∙ ap (uses_if (took (number i))) (state-at setup (begun h line time) shows i begins.shown within)

  -- all of them
  pub tied-begun : (linked_sessions : List SessionLinks) (pairs : List PairState) → length linked_sessions ≡ setup.sessions → length pairs ≡ length setup.pairs
      → AllNumbered (FollowedUpTo setup h (begun h line time) setup.sessions) linked_sessions
      → AllNumbered (λ j. PairUpTo setup h (begun h line time) setup.sessions (pair j)) pairs
      → AllNumbered (λ j. IsBound setup (losings linked_sessions) (pair j)) pairs
      → AreLinked setup (begun h line time) linked_sessions pairs
  tied-begun linked_sessions pairs count many each all bound = record {
    sessions = count;
    count = many;
    each_session = followed-end setup h (begun h line time) setup.sessions linked_sessions count each;
    each_pair = pairs-end pairs all;
    bound = bound;
  }
