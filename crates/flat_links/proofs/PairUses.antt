-- What a use of its viewport end does to what is kept of a pair.
use Rattle.std.proofs.Common.{◌≡◌, ◌∙◌, sym, subst, ℕ, ◌+◌, ◌-◌, ◌<◌, ◌≤◌, Bool, true, false, List, [], ◌++◌, length, refl, arith, ap, None, Ok, Err}
use Rattle.std.specs.Prelude.{Option, Result, cond, ◌&&◌, ◌==◌, option_and_then, option_map, unwrap_or, slice_get}
use Rattle.std.specs.Result.{result_ok}
use Rattle.std.specs.List.{list_all}
use Rattle.std.proofs.lemmas.Bool.Decides.{nat_tests}
use Rattle.flat_base.specs.declared.errors.Reason.{Reason}
use Rattle.flat_base.specs.declared.ids.Actor.{Actor}
use Rattle.flat_base.specs.declared.ids.PairNo.{PairNo}
use Rattle.flat_base.specs.declared.ids.SessionNo.{SessionNo}
use Rattle.flat_scene.specs.declared.calls.Call.{Call}
use Rattle.flat_scene.specs.declared.calls.ViewportProps.{ViewportProps}
use Rattle.flat_scene.specs.declared.journal.Entry.{Entry}
use Rattle.flat_scene.specs.declared.journal.EntryKind.{EntryKind}
use Rattle.flat_scene.specs.declared.journal.Reply.{Reply}
use Rattle.flat_scene.specs.declared.setup.Setup.{Setup}
use Rattle.flat_scene.specs.Draft.{Draft}
use Rattle.flat_scene.specs.Effect.{draft_of}
use Rattle.flat_scene.specs.Frames.{taken}
use Rattle.flat_scene.specs.History.{◌▹◌, calls, closes, is_finish, is_session, published}
use Rattle.flat_base.proofs.lemmas.Tests.{and-left}
use Rattle.flat_facts.specs.declared.live_viewport.LiveViewport.{LiveViewport}
use Rattle.flat_links.specs.declared.pairs.PairState.{PairState}
use Rattle.flat_states.specs.declared.state.SessionCounts.{SessionCounts}
use Rattle.flat_facts.specs.Clears.{clears_pair}
use Rattle.flat_links.specs.Clears.{cleared_if}
use Rattle.flat_rules.specs.Ends.{is_done, live_props, props_of, serials_of, taken_calls, to_begin, uses_viewport, viewport_uses}
use Rattle.flat_facts.specs.Begins.{finished}
use Rattle.flat_facts.specs.Contents.{capped}
use Rattle.flat_links.specs.SessionLinks.{IsOwnEntry, IsPairKept, props_pending}
use Rattle.flat_facts.specs.Pairs.{pair}
use Rattle.flat_rules.specs.Legal.{makes_viewport, owns_in_call, owns_all, owns_in_kind, owns_viewport, own_call}
use Rattle.flat_facts.specs.Lives.{made_of_pair}
use Rattle.flat_rules.specs.Serials.{IsUseSerial, contents_made, serials_in}
use Rattle.flat_rules.specs.Stamps.{made_by}
use Rattle.flat_links.specs.Usage.{IsUse, used_by}
use Rattle.flat_links.specs.Views.{ended_by}
use Rattle.flat_facts.specs.Views.{view_after}
use Rattle.flat_rules.specs.Watch.{props_at, props_given, props_seen}
use Rattle.std.specs.Option.{option_or}
use Rattle.flat_facts.proofs.lemmas.Earlier.{begin-earlier, calls-taken, taken-fits}
use Rattle.flat_facts.proofs.lemmas.LiveCounts.{made-append}
use Rattle.flat_links.proofs.lemmas.PairSteps.{cleared-own, ended-own, no-begin, no-finish, pair-own, pending-step}
use Rattle.flat_facts.proofs.lemmas.SerialSteps.{made-begins, serial-new}
use Rattle.flat_facts.proofs.lemmas.Serials.{draft-contents, serials-are, serials-count}
use Rattle.flat_facts.proofs.lemmas.Uses.{uses-made}
use Rattle.flat_rules.proofs.lemmas.ListLemmas.{serial-beyond}
use Rattle.flat_rules.proofs.lemmas.Locality.{same-session as session-is}
use Rattle.flat_facts.proofs.lemmas.ViewHistory.{same-session}

-- ---- no frame has seen a use that wasn't made

-- a draft whose calls made fewer viewports of the pair has no properties of the use
unmade : (setup : Setup) (p : PairNo) (n : ℕ) (cs : List Call) → made_of_pair p cs < n → (r : Result Draft Reason) → draft_of setup cs ≡ r
    → option_and_then (props_of p n) (result_ok r) ≡ None
unmade setup p n cs few (Err reason) is = refl
unmade setup p n cs few (Ok d) is =
    let serials : serials_of p 1 d.contents ≡ serials_in p 1 (contents_made cs) =
    serials-are p 1 d.contents ∙ ap (serials_in p 1) (draft-contents setup cs d is) in
    let count : length (serials_of p 1 d.contents) ≡ made_of_pair p cs = ap (length {A = ℕ}) serials ∙ serials-count p 1 cs in
    ap (option_and_then (live_props d)) (serial-beyond (serials_of p 1 d.contents) n (omega (arith, count, few)))

made-fewer : (p : PairNo) (cs more all : List Call) → all ≡ cs ++ more → made_of_pair p cs ≤ made_of_pair p all
made-fewer p cs more all is = omega (arith, made-append p cs more, ap (made_of_pair p) is)

calls-grow : (p : PairNo) (v : SessionNo) (h : List Entry) (e : Entry) → made_of_pair p (calls v h) ≤ made_of_pair p (calls v (h ▹ e))
calls-grow p v h e = by_owner (is_session v e.actor) refl
  where
    by_owner : (b : Bool) → is_session v e.actor ≡ b → made_of_pair p (calls v h) ≤ made_of_pair p (calls v (h ▹ e))
    by_owner true mine = rw mine (made-fewer p (calls v h) e.calls (calls v h ++ e.calls) refl)
    by_owner false other = rw other (omega arith)

pub unseen : (setup : Setup) (p : PairNo) (v : SessionNo) (n : ℕ) (h : List Entry) → made_of_pair p (calls v h) < n → props_seen setup p n v h ≡ None
unseen setup p v n [] few = refl
unseen setup p v n (h ▹ e) few =
    let before : made_of_pair p (calls v h) < n = omega (arith, few, calls-grow p v h e) in
    let all = made-begins v h (taken setup (to_begin h) v) (taken-fits setup v (to_begin h) h (begin-earlier h)) in
    let less : made_of_pair p (taken_calls setup (to_begin h) v) < n =
    omega (
      arith,
      before,
      made-fewer p (made_by v h (taken setup (to_begin h) v)) all.more (calls v h) all.is,
      ap (made_of_pair p) (calls-taken setup v (to_begin h) h (begin-earlier h)),
    ) in
    let none = unmade setup p n (taken_calls setup (to_begin h) v) less (draft_of setup (taken_calls setup (to_begin h) v)) refl in
    by_kind (is_finish e.kind) (unseen setup p v n h before) none
  where
    by_kind : (b : Bool) → props_seen setup p n v h ≡ None
        → option_and_then (props_of p n) (result_ok (draft_of setup (taken_calls setup (to_begin h) v))) ≡ None
        → option_or (cond b (option_and_then (props_of p n) (result_ok (draft_of setup (taken_calls setup (to_begin h) v)))) None) (props_seen setup p n v h)
        ≡ None
    by_kind true rest none = rw none rest
    by_kind false rest none = rest

-- ---- a use

pub pair-used : (setup : Setup) (s : SessionNo) (h : List Entry) (e : Entry) (carries : List Call) (account : SessionCounts) (live : List LiveViewport)
    → IsOwnEntry setup h e s carries account live
    → (p : PairNo) (props : ViewportProps) → IsUse e p props → (serial : ℕ) → serial ≡ capped (length (contents_made (calls s h ++ carries)))
    → (view : Option PairNo) → view ≡ view_after None (calls s h) → (i : ℕ) (state : PairState) → IsPairKept setup h (pair i) state
    → IsPairKept setup (h ▹ e) (pair i)
    (cond (p.0 == i) (used_by serial props (cleared_if (clears_pair (pair i) live carries) account.presents (ended_by i view carries account.presents state)))
    (cleared_if (clears_pair (pair i) live carries) account.presents (ended_by i view carries account.presents state)))
pair-used setup s h e carries account live entry p props used serial counted view is i state kept = by_pair (p.0 == i) refl
  where
    state_now : PairState
    state_now = cleared_if (clears_pair (pair i) live carries) account.presents (ended_by i view carries account.presents state)

    owns : owns_viewport setup s p ≡ true
    owns =
        let owned : (owns_in_kind setup s e.kind && list_all (owns_in_call setup s) e.calls) ≡ true =
        ap (λ (who : Actor). owns_all setup who e.calls e.kind) (sym (same-session s e.actor entry.mine)) ∙ entry.legal.1.may.owned in
        sym (ap (owns_in_kind setup s) used.kind) ∙ and-left (owns_in_kind setup s e.kind) _ owned

    by_pair : (b : Bool) → (p.0 == i) ≡ b → IsPairKept setup (h ▹ e) (pair i) (cond b (used_by serial props state_now) state_now)
    by_pair false other =
        let none : (uses_viewport (pair i) e.kind && is_done e.reply) ≡ false =
        ap (λ (k : EntryKind). uses_viewport (pair i) k && is_done e.reply) used.kind ∙ rw other refl in
        pair-own setup s h e carries account live entry view is i none state kept
    by_pair true this =
        let mine : p ≡ pair i = (let number : p.0 ≡ i = grind (arith, nat_tests) in ap pair number) in
        let it : (uses_viewport (pair i) e.kind && is_done e.reply) ≡ true =
        ap (λ (k : EntryKind). uses_viewport (pair i) k && is_done e.reply) used.kind ∙ ap (λ (r : Reply). (p.0 == i) && is_done r) used.reply ∙ rw this refl in
        let more : viewport_uses (pair i) (h ▹ e) ≡ (viewport_uses (pair i) h ▹ e) = rw it refl in
        let count : length (viewport_uses (pair i) (h ▹ e)) ≡ length (viewport_uses (pair i) h) + 1 = ap (length {A = Entry}) more ∙ omega arith in
        let ours : owns_viewport setup s (pair i) ≡ true = subst (λ (q : PairNo). owns_viewport setup s q ≡ true) mine owns in
        let stays : closes e.reply ≡ false = ap closes used.reply in
        let made_before : length (viewport_uses (pair i) h) ≡ made_of_pair (pair i) (calls s h) =
        uses-made setup s (pair i) ours h entry.legal.0 entry.opened in
        let last : makes_viewport (pair i) props (slice_get e.calls (length e.calls - 1)) ≡ true =
        subst (λ (q : PairNo). makes_viewport q props (slice_get e.calls (length e.calls - 1)) ≡ true) mine
        (sym (ap (λ (k : EntryKind). own_call k (slice_get e.calls (length e.calls - 1))) used.kind) ∙ entry.legal.1.may.calls) in
        record {
          ended = λ w owner. ended-own setup s h e carries account live entry (pair i) view is w owner state.ended (kept.ended w owner);
          cleared = λ v owner. cleared-own setup s h e carries account live entry (pair i) v owner state.cleared (kept.cleared v owner);
          serial = λ v owner some.
              let same : v ≡ s = session-is s v (sym (ap (λ (o : Option Actor). unwrap_or (option_map (is_session s) o) false) owner) ∙ ours) in
              record {
                serial = length (contents_made (calls s h ++ e.calls));
                is = counted ∙ ap (λ (cs : List Call). capped (length (contents_made (calls s h ++ cs)))) (sym entry.carried);
                tells =
                    subst (λ (t : SessionNo). IsUseSerial (pair i) t (h ▹ e) (length (contents_made (calls s h ++ e.calls)))) (sym same)
                    (serial-new setup s (pair i) ours h e entry.legal entry.mine stays entry.opened
                    (λ all. ap (λ (k : EntryKind). published k e.reply all) used.kind) count props last);
              };
          unused = λ none. let wrong : 1 ≤ 0 = omega (arith, none, count) in absurd (omega (arith, wrong));
          given = sym (ap (props_given setup) more ∙ ap props_at used.kind);
          seen = λ v owner.
              let same : v ≡ s = session-is s v (sym (ap (λ (o : Option Actor). unwrap_or (option_map (is_session s) o) false) owner) ∙ ours) in
              let quiet : is_finish e.kind ≡ false = no-finish setup s h e entry.legal entry.mine in
              let few : made_of_pair (pair i) (calls v h) < length (viewport_uses (pair i) (h ▹ e)) =
              omega (arith, count, made_before, ap (λ (t : SessionNo). made_of_pair (pair i) (calls t h)) same) in
              let before : props_seen setup (pair i) (length (viewport_uses (pair i) (h ▹ e))) v h ≡ None =
              unseen setup (pair i) v (length (viewport_uses (pair i) (h ▹ e))) h few in
              let step : props_seen setup (pair i) (length (viewport_uses (pair i) (h ▹ e))) v (h ▹ e)
              ≡ props_seen setup (pair i) (length (viewport_uses (pair i) (h ▹ e))) v h = rw quiet refl in
              sym (step ∙ before);
          pending = λ v owner.
              let same : v ≡ s = session-is s v (sym (ap (λ (o : Option Actor). unwrap_or (option_map (is_session s) o) false) owner) ∙ ours) in
              let few : made_of_pair (pair i) (calls v h) < length (viewport_uses (pair i) (h ▹ e)) =
              omega (arith, count, made_before, ap (λ (t : SessionNo). made_of_pair (pair i) (calls t h)) same) in
              let before : props_pending setup (pair i) (length (viewport_uses (pair i) (h ▹ e))) v h ≡ None =
              unseen setup (pair i) v (length (viewport_uses (pair i) (h ▹ e))) (finished h 0) few in
              sym (pending-step setup (pair i) (length (viewport_uses (pair i) (h ▹ e))) v h e (no-begin setup s h e entry.legal entry.mine)
              (no-finish setup s h e entry.legal entry.mine) ∙ before);
        }
