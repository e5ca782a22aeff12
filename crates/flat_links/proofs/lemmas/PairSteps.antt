-- What an entry does to what is kept of a pair.
use Rattle.std.proofs.Common.{◌≡◌, ◌∙◌, sym, subst, ℕ, ◌<◌, Bool, true, false, List, [], ◌∷◌, length, refl, arith, ap, Some, None}
use Rattle.std.specs.Prelude.{Option, cond, ◌&&◌, ◌==◌, nat_lt}
use Rattle.std.specs.List.{list_any, list_all}
use Rattle.std.proofs.lemmas.Bool.Decides.{nat_tests}
use Rattle.std.proofs.lemmas.List.Folds.{list_all-append}
use Rattle.flat_base.specs.declared.ids.Actor.{Actor}
use Rattle.flat_base.specs.declared.ids.Actor.TheVariants.{Session}
use Rattle.flat_base.specs.declared.ids.PairNo.{PairNo}
use Rattle.flat_base.specs.declared.ids.SessionNo.{SessionNo}
use Rattle.flat_scene.specs.declared.calls.Call.{Call}
use Rattle.flat_scene.specs.declared.journal.Entry.{Entry}
use Rattle.flat_scene.specs.declared.journal.EntryKind.{EntryKind}
use Rattle.flat_scene.specs.declared.journal.EntryKind.TheVariants.{View, Viewport, Close}
use Rattle.flat_scene.specs.declared.setup.Setup.{Setup}
use Rattle.flat_scene.specs.History.{◌▹◌, calls, closes, is_begin, is_closed, is_finish, is_session, presents}
use Rattle.flat_base.proofs.lemmas.Tests.{and-left, and-right}
use Rattle.flat_facts.specs.declared.live_viewport.LiveViewport.{LiveViewport}
use Rattle.flat_links.specs.declared.pairs.PairState.{PairState}
use Rattle.flat_states.specs.declared.state.SessionCounts.{SessionCounts}
use Rattle.flat_facts.specs.Clears.{clears_pair}
use Rattle.flat_links.specs.Clears.{cleared_if}
use Rattle.flat_rules.specs.Ends.{clears_viewport, ends_view, happens, is_done, uses_viewport, view_owner, viewport_owner, viewport_uses}
use Rattle.flat_links.specs.SessionLinks.{IsOwnEntry, IsPairKept, IsSerialKept, props_pending}
use Rattle.flat_facts.specs.Pairs.{pair}
use Rattle.flat_rules.specs.Legal.{Legal, all_but_last, is_link, links_alone, may_act, owns_in_call, owns_view, owns_viewport, session_may}
use Rattle.flat_facts.specs.Lives.{clears_live, count_of}
use Rattle.flat_rules.specs.Serials.{IsUseSerial}
use Rattle.flat_rules.specs.Shown.{is_pair}
use Rattle.flat_rules.specs.Stamps.{IsStamp, stamp_then}
use Rattle.flat_links.specs.Views.{ended_by}
use Rattle.flat_facts.specs.Views.{ends_of, view_after}
use Rattle.flat_rules.specs.Watch.{props_given, props_seen}
use Rattle.flat_facts.proofs.lemmas.Foreign.{AreTame, clears-count, foreign-live, foreign-view}
use Rattle.flat_links.proofs.Marks.{stamp-none}
use Rattle.flat_links.proofs.PairTold.{clear-stamp, view-stamp}
use Rattle.flat_facts.proofs.lemmas.SerialSteps.{serial-closing, serial-other, serial-own}
use Rattle.flat_rules.proofs.lemmas.FrameKinds.{not-begin, not-finish}
use Rattle.flat_rules.proofs.lemmas.ShownOwned.{all-calls-owned}
use Rattle.flat_facts.proofs.lemmas.StampSteps.{other-stamp}
use Rattle.flat_facts.proofs.lemmas.Stamped.{happening-lasts}
use Rattle.flat_facts.proofs.lemmas.ViewHistory.{same-session}
use Rattle.std.proofs.lemmas.Bool.{not-true, or_parts}

-- ---- entries of sessions

pub session-may : (setup : Setup) (s : SessionNo) (h : List Entry) (e : Entry) → Legal setup (h ▹ e) → is_session s e.actor ≡ true → session_may e.kind ≡ true
session-may setup s h e legal mine =
    let acts : may_act setup e.kind (Session s) ≡ true = ap (may_act setup e.kind) (sym (same-session s e.actor mine)) ∙ legal.1.may.acts in
    and-left (session_may e.kind) _ acts

-- a session's entry is of no frame
pub no-begin : (setup : Setup) (s : SessionNo) (h : List Entry) (e : Entry) → Legal setup (h ▹ e) → is_session s e.actor ≡ true → is_begin e.kind ≡ false
no-begin setup s h e legal mine = not-begin e.kind (session-may setup s h e legal mine)

pub no-finish : (setup : Setup) (s : SessionNo) (h : List Entry) (e : Entry) → Legal setup (h ▹ e) → is_session s e.actor ≡ true → is_finish e.kind ≡ false
no-finish setup s h e legal mine = not-finish e.kind (session-may setup s h e legal mine)

any-first : (xs : List Call) → list_any is_link xs ≡ false → AreTame xs
any-first [] none = refl
any-first (x ∷ xs) none = by_length (length xs == 0) (any-first xs (or_parts (is_link x) (list_any is_link xs) none).1)
    (or_parts (is_link x) (list_any is_link xs) none).0
  where
    by_length : (b : Bool) → AreTame xs → is_link x ≡ false → list_any is_link (cond b [] (x ∷ all_but_last xs)) ≡ false
    by_length true rest this = refl
    by_length false rest this = rw this rest

tame-kind : (kind : EntryKind) (carries : List Call) → links_alone kind carries ≡ true → AreTame carries
tame-kind (View p) carries alone = not-true (list_any is_link (all_but_last carries)) alone
tame-kind (Viewport p props) carries alone = not-true (list_any is_link (all_but_last carries)) alone
tame-kind (Close reason) carries alone = not-true (list_any is_link (all_but_last carries)) alone
tame-kind _ carries alone = any-first carries (not-true (list_any is_link carries) alone)

pub one-session : (s t : SessionNo) (who : Actor) → is_session s who ≡ true → is_session t who ≡ true → t ≡ s
one-session s t who mine theirs = let same : Session t ≡ Session s = sym (same-session t who theirs) ∙ same-session s who mine in cc

another : (s t : SessionNo) (who : Actor) → is_session s who ≡ true → is_session t who ≡ false → (t.0 == s.0) ≡ false
another s t who mine other =
    let differ : (s.0 == t.0) ≡ false = ap (is_session t) (sym (same-session s who mine)) ∙ other in
    grind (arith, nat_tests)

pub owner-owns : (setup : Setup) (v : SessionNo) (p : PairNo) → viewport_owner setup p ≡ Some (Session v) → owns_viewport setup v p ≡ true
owner-owns setup v p owner = let same : (v.0 == v.0) ≡ true = grind (arith, nat_tests) in rw owner same

-- ---- stamps

module _ (setup : Setup) (s : SessionNo) (h : List Entry) (e : Entry) (carries : List Call) (account : SessionCounts) (live : List LiveViewport)
    (entry : IsOwnEntry setup h e s carries account live) (p : PairNo) where
  all-owned : list_all (owns_in_call setup s) (calls s h) && list_all (owns_in_call setup s) e.calls ≡ true
  all-owned = sym (list_all-append (owns_in_call setup s) (calls s h) e.calls) ∙ all-calls-owned setup h e entry.legal s entry.mine

  owned-before : list_all (owns_in_call setup s) (calls s h) ≡ true
  owned-before = and-left (list_all (owns_in_call setup s) (calls s h)) _ all-owned

  owned-now : list_all (owns_in_call setup s) e.calls ≡ true
  owned-now = and-right (list_all (owns_in_call setup s) (calls s h)) _ all-owned

  -- its calls end no view and clear no viewport of a pair whose end another session owns
  pub ends-elsewhere : (view : Option PairNo) → view ≡ view_after None (calls s h) → (w : SessionNo) → view_owner setup p ≡ Some w
      → is_session w e.actor ≡ false → ends_of p view carries ≡ 0
  ends-elsewhere view is w owner other =
      let foreign : owns_view setup s p ≡ false = rw owner (another s w e.actor entry.mine other) in
      let before = foreign-view setup s p foreign None (calls s h) refl owned-before in
      let elsewhere : is_pair view p ≡ false = ap (λ (v : Option PairNo). is_pair v p) is ∙ before.after in
      ap (ends_of p view) (sym entry.carried) ∙ (foreign-view setup s p foreign view e.calls elsewhere owned-now).ends

  tame : AreTame e.calls
  tame = tame-kind e.kind e.calls entry.legal.1.may.links

  counts : clears_pair p live carries ≡ nat_lt 0 (count_of (clears_live p) live e.calls)
  counts = ap (clears_pair p live) (sym entry.carried) ∙ clears-count p live e.calls tame

  pub clears-elsewhere : (v : SessionNo) → viewport_owner setup p ≡ Some (Session v) → is_session v e.actor ≡ false → clears_pair p live carries ≡ false
  clears-elsewhere v owner other =
      let foreign : owns_viewport setup s p ≡ false = rw owner (another s v e.actor entry.mine other) in
      let before = foreign-live setup s p foreign [] (calls s h) refl owned-before in
      let elsewhere : list_any (λ (l : LiveViewport). l.pair.0 == p.0) live ≡ false = ap (list_any (λ (l : LiveViewport). l.pair.0 == p.0)) entry.living ∙
      before.after in
      counts ∙ ap (nat_lt 0) ((foreign-live setup s p foreign live e.calls elsewhere owned-now).clears)

  pub ended-own : (view : Option PairNo) → view ≡ view_after None (calls s h) → (w : SessionNo) → view_owner setup p ≡ Some w → (stamp : Option ℕ)
      → IsStamp (happens setup (ends_view p)) w h stamp
      → IsStamp (happens setup (ends_view p)) w (h ▹ e) (stamp_then stamp (nat_lt 0 (ends_of p view carries)) account.presents)
  ended-own view is w owner stamp old = by_actor (is_session w e.actor) refl
    where
      next : SessionNo → ℕ → ℕ → Type 0
      next t n k = IsStamp (happens setup (ends_view p)) t (h ▹ e) (stamp_then stamp (nat_lt 0 n) k)

      by_actor : (b : Bool) → is_session w e.actor ≡ b → IsStamp (happens setup (ends_view p)) w (h ▹ e)
          (stamp_then stamp (nat_lt 0 (ends_of p view carries)) account.presents)
      by_actor true theirs =
          let same : w ≡ s = one-session s w e.actor entry.mine theirs in
          let was : IsStamp (happens setup (ends_view p)) s h stamp = subst (λ (t : SessionNo). IsStamp (happens setup (ends_view p)) t h stamp) same old in
          let now = view-stamp setup s h e entry.legal entry.mine entry.opened p view is stamp was in
          let F : List Call → ℕ → SessionNo → Type 0 = λ cs k t. IsStamp (happens setup (ends_view p)) t (h ▹ e)
          (stamp_then stamp (nat_lt 0 (ends_of p view cs)) k) in
          subst (λ (t : SessionNo). F carries account.presents t) (sym same)
          (subst (λ (k : ℕ). F carries k s) (sym entry.counted) (subst (λ (cs : List Call). F cs (length (presents s h)) s) entry.carried now))
      by_actor false other =
          let none : ends_of p view carries ≡ 0 = ends-elsewhere view is w owner other in
          let stays : stamp_then stamp (nat_lt 0 (ends_of p view carries)) account.presents ≡ stamp =
          ap (λ (n : ℕ). stamp_then stamp (nat_lt 0 n) account.presents) none ∙ stamp-none stamp account.presents in
          subst (IsStamp (happens setup (ends_view p)) w (h ▹ e)) (sym stays)
          (other-stamp (happens setup (ends_view p)) (happening-lasts setup (ends_view p)) w h e stamp other old)

  pub cleared-own : (v : SessionNo) → viewport_owner setup p ≡ Some (Session v) → (stamp : Option ℕ) → IsStamp (happens setup (clears_viewport p)) v h stamp
      → IsStamp (happens setup (clears_viewport p)) v (h ▹ e) (stamp_then stamp (clears_pair p live carries) account.presents)
  cleared-own v owner stamp old = by_actor (is_session v e.actor) refl
    where
      by_actor : (b : Bool) → is_session v e.actor ≡ b → IsStamp (happens setup (clears_viewport p)) v (h ▹ e)
          (stamp_then stamp (clears_pair p live carries) account.presents)
      by_actor true theirs =
          let same : v ≡ s = one-session s v e.actor entry.mine theirs in
          let was : IsStamp (happens setup (clears_viewport p)) s h stamp =
          subst (λ (t : SessionNo). IsStamp (happens setup (clears_viewport p)) t h stamp) same old in
          let now = clear-stamp setup s h e entry.legal entry.mine entry.opened p live entry.living stamp was in
          let F : Bool → ℕ → SessionNo → Type 0 = λ b k t. IsStamp (happens setup (clears_viewport p)) t (h ▹ e) (stamp_then stamp b k) in
          subst (λ (t : SessionNo). F (clears_pair p live carries) account.presents t) (sym same)
          (subst (λ (k : ℕ). F (clears_pair p live carries) k s) (sym entry.counted) (subst (λ (b : Bool). F b (length (presents s h)) s) (sym counts) now))
      by_actor false other =
          let none : clears_pair p live carries ≡ false = clears-elsewhere v owner other in
          let stays : stamp_then stamp (clears_pair p live carries) account.presents ≡ stamp =
          ap (λ b. stamp_then stamp b account.presents) none ∙ stamp-none stamp account.presents in
          subst (IsStamp (happens setup (clears_viewport p)) v (h ▹ e)) (sym stays)
          (other-stamp (happens setup (clears_viewport p)) (happening-lasts setup (clears_viewport p)) v h e stamp other old)

  -- the serial of the last use, where the entry is none
  pub serial-kept : (uses_viewport p e.kind && is_done e.reply) ≡ false → (v : SessionNo) → viewport_owner setup p ≡ Some (Session v) → (kept : ℕ)
      → IsSerialKept p v h kept → IsSerialKept p v (h ▹ e) kept
  serial-kept no_use v owner kept old = record { serial = old.serial; is = old.is; tells = by_actor (is_session v e.actor) refl (closes e.reply) refl }
    where
      same : length (viewport_uses p (h ▹ e)) ≡ length (viewport_uses p h)
      same = rw no_use refl

      by_actor : (b : Bool) → is_session v e.actor ≡ b → (c : Bool) → closes e.reply ≡ c → IsUseSerial p v (h ▹ e) old.serial
      by_actor false other c closing = serial-other setup v p (owner-owns setup v p owner) h e entry.legal other old.serial old.tells
      by_actor true theirs true closing = serial-closing setup v p (owner-owns setup v p owner) h e entry.legal theirs closing same old.serial old.tells
      by_actor true theirs false closing =
          let opened : is_closed v h ≡ false = ap (λ (t : SessionNo). is_closed t h) (one-session s v e.actor entry.mine theirs) ∙ entry.opened in
          serial-own setup v p (owner-owns setup v p owner) h e entry.legal theirs closing opened same old.serial old.tells

-- an entry of no frame leaves what is pending as it is
pub pending-step : (setup : Setup) (p : PairNo) (n : ℕ) (v : SessionNo) (h : List Entry) (e : Entry) → is_begin e.kind ≡ false → is_finish e.kind ≡ false
    → props_pending setup p n v (h ▹ e) ≡ props_pending setup p n v h
pending-step setup p n v h e no_begin no_finish = rw (no_begin, no_finish) refl

-- its own entry that doesn't use the pair's viewport end
pub pair-own : (setup : Setup) (s : SessionNo) (h : List Entry) (e : Entry) (carries : List Call) (account : SessionCounts) (live : List LiveViewport)
    → IsOwnEntry setup h e s carries account live
    → (view : Option PairNo) → view ≡ view_after None (calls s h) → (i : ℕ) → (uses_viewport (pair i) e.kind && is_done e.reply) ≡ false → (state : PairState)
    → IsPairKept setup h (pair i) state
    → IsPairKept setup (h ▹ e) (pair i) (cleared_if (clears_pair (pair i) live carries) account.presents (ended_by i view carries account.presents state))
pair-own setup s h e carries account live entry view is i no_use state kept = record {
  ended = λ w owner. ended-own setup s h e carries account live entry (pair i) view is w owner state.ended (kept.ended w owner);
  cleared = λ v owner. cleared-own setup s h e carries account live entry (pair i) v owner state.cleared (kept.cleared v owner);
  serial = λ v owner some. serial-kept setup s h e carries account live entry (pair i) no_use v owner state.serial
      (kept.serial v owner (subst (λ (us : List Entry). 0 < length us) same some));
  unused = λ none. kept.unused (ap (length {A = Entry}) (sym same) ∙ none);
  given = kept.given ∙ ap (props_given setup) (sym same);
  seen = λ v owner. kept.seen v owner ∙ seen-same v;
  pending = λ v owner.
      kept.pending v owner
      ∙ sym (pending-step setup (pair i) (length (viewport_uses (pair i) h)) v h e (no-begin setup s h e entry.legal entry.mine)
      (no-finish setup s h e entry.legal entry.mine))
      ∙ ap (λ (us : List Entry). props_pending setup (pair i) (length us) v (h ▹ e)) (sym same);
}
  where
    same : viewport_uses (pair i) (h ▹ e) ≡ viewport_uses (pair i) h
    same = rw no_use refl

    seen-same : (v : SessionNo) → props_seen setup (pair i) (length (viewport_uses (pair i) h)) v h
        ≡ props_seen setup (pair i) (length (viewport_uses (pair i) (h ▹ e))) v (h ▹ e)
    seen-same v =
        let quiet : is_finish e.kind ≡ false = no-finish setup s h e entry.legal entry.mine in
        let step : props_seen setup (pair i) (length (viewport_uses (pair i) h)) v (h ▹ e) ≡ props_seen setup (pair i) (length (viewport_uses (pair i) h)) v h =
        rw quiet refl in
        sym (ap (λ (us : List Entry). props_seen setup (pair i) (length us) v (h ▹ e)) same ∙ step)
