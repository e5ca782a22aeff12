-- What an entry does to a stamp, and what a stamp says of what frames had taken.
use Rattle.std.proofs.Common.{◌≡◌, ◌∙◌, sym, subst, ℕ, ◌≤◌, Bool, true, false, List, [], ◌++◌, length, refl, arith, ap, Some, None}
use Rattle.std.specs.Prelude.{cond, ◌||◌, Option}
use Rattle.std.proofs.lemmas.Bool.Decides.{nat_tests}
use Rattle.std.proofs.lemmas.List.{append-nil}
use Rattle.flat_base.specs.declared.ids.SessionNo.{SessionNo}
use Rattle.flat_scene.specs.declared.calls.Call.{Call}
use Rattle.flat_scene.specs.declared.journal.Entry.{Entry}
use Rattle.flat_scene.specs.declared.journal.EntryKind.{EntryKind}
use Rattle.flat_scene.specs.declared.journal.EntryKind.TheVariants.{Present}
use Rattle.flat_scene.specs.declared.journal.Reply.{Reply}
use Rattle.flat_scene.specs.declared.journal.Reply.TheVariants.{Presented}
use Rattle.flat_scene.specs.declared.setup.Setup.{Setup}
use Rattle.flat_scene.specs.Draft.{Draft}
use Rattle.flat_scene.specs.Frames.{taken}
use Rattle.flat_scene.specs.History.{◌▹◌, own, calls, closes, is_closed, is_session, presents, published, Published}
use Rattle.flat_scene.proofs.lemmas.Steps.{presents-own, presents-other}
use Rattle.flat_rules.specs.Ends.{happens, taken_calls, has_ended}
use Rattle.flat_rules.specs.Stamps.{first_at, is_seen, IsStamp, stamp_then}
use Rattle.std.specs.Option.{option_or}
use Rattle.flat_facts.proofs.lemmas.Earlier.{IsEarlier, calls-taken, taken-fits}
use Rattle.flat_rules.proofs.lemmas.ShownSteps.{closed-before}
use Rattle.flat_facts.proofs.lemmas.Stamped.{IsLasting, stamped, stamp-other}
use Rattle.flat_facts.proofs.lemmas.ViewLaw.{made_at}

-- the stamp of the test itself
pub stamp-of : (test : List Call → Bool) → IsLasting test → (s : SessionNo) (h : List Entry) → IsStamp test s h (first_at test s h)
stamp-of test lasting s h = record { tells = (stamped test lasting s h).seen; opened = λ o. refl }

-- another's entry
pub other-stamp : (test : List Call → Bool) → IsLasting test → (s : SessionNo) (h : List Entry) (e : Entry) (stamp : Option ℕ) → is_session s e.actor ≡ false
    → IsStamp test s h stamp → IsStamp test s (h ▹ e) stamp
other-stamp test lasting s h e stamp other old =
    let same : presents s (h ▹ e) ≡ presents s h = presents-other s h e other in
    let P : List Published → Type 0 = λ ps. (n : ℕ) → n ≤ length ps → test (made_at ps n) ≡ is_seen stamp n in
    record {
      tells = subst P (sym same) old.tells;
      opened = λ o. old.opened (closed-before (is_session s e.actor) e (own s h) o) ∙ sym (stamp-other test lasting s h e other);
    }

pub not-presented : (kind : EntryKind) (reply : Reply) (made : List Call) → closes reply ≡ true → published kind reply made ≡ []
not-presented (Present args) (Presented n k) made is = cc
not-presented kind reply made is = refl

early : (stamp : Option ℕ) (b : Bool) (k n : ℕ) → n ≤ k → is_seen (stamp_then stamp b k) n ≡ is_seen stamp n
early (Some j) b k n few = refl
early None true k n few = grind (arith, nat_tests)
early None false k n few = refl

-- its own entry, which does what the test asks for, or doesn't
pub own-stamp : (test : List Call → Bool) → IsLasting test → (s : SessionNo) (h : List Entry) (e : Entry) (stamp : Option ℕ) (b : Bool)
    → is_session s e.actor ≡ true → is_closed s h ≡ false
    → (closes e.reply ≡ false → stamp ≡ None → b ≡ test (calls s h ++ e.calls)) → IsStamp test s h stamp
    → IsStamp test s (h ▹ e) (stamp_then stamp b (length (presents s h)))
own-stamp test lasting s h e stamp b mine opened does_it old = by_close (closes e.reply) refl
  where
    now : closes e.reply ≡ false → stamp_then stamp b (length (presents s h)) ≡ first_at test s (h ▹ e)
    now stays =
        let was : first_at test s h ≡ stamp = sym (old.opened opened) in
        let step : stamp_then stamp b (length (presents s h)) ≡ option_or stamp (cond (test (calls s h ++ e.calls)) (Some (length (presents s h))) None) =
        by_stamp stamp (does_it stays) in
        step ∙ ap (λ (o : Option ℕ). option_or o (cond (test (calls s h ++ e.calls)) (Some (length (presents s h))) None)) (sym was) ∙ rw mine refl
      where
        by_stamp : (o : Option ℕ) → (o ≡ None → b ≡ test (calls s h ++ e.calls))
            → stamp_then o b (length (presents s h)) ≡ option_or o (cond (test (calls s h ++ e.calls)) (Some (length (presents s h))) None)
        by_stamp (Some k) same = refl
        by_stamp None same = ap (λ x. cond x (Some (length (presents s h))) None) (same refl)

    shut : closes e.reply ≡ true → is_closed s (h ▹ e) ≡ true
    shut is = rw (mine, is) refl

    by_close : (c : Bool) → closes e.reply ≡ c → IsStamp test s (h ▹ e) (stamp_then stamp b (length (presents s h)))
    by_close false stays = subst (IsStamp test s (h ▹ e)) (sym (now stays)) (stamp-of test lasting s (h ▹ e))
    by_close true is =
        let same : presents s (h ▹ e) ≡ presents s h = presents-own s h e mine
        ∙ ap (λ (l : List Published). presents s h ++ l) (not-presented e.kind e.reply (calls s h ++ e.calls) is) ∙ append-nil (presents s h) in
        let P : List Published → Type 0 = λ ps. (n : ℕ) → n ≤ length ps → test (made_at ps n) ≡ is_seen (stamp_then stamp b (length (presents s h))) n in
        let here : P (presents s h) = λ n few. old.tells n few ∙ sym (early stamp b (length (presents s h)) n few) in
        record {
          tells = subst P (sym same) here;
          opened = λ o. let wrong : true ≡ false = sym (shut is) ∙ o in cc;
        }

-- ---- what frames had taken

-- whether the calls that were taken then pass the test
pub stamp-taken : (setup : Setup) (test : List Call → Bool) (s : SessionNo) (k h : List Entry) (stamp : Option ℕ) → IsEarlier k h → IsStamp test s h stamp
    → test (taken_calls setup k s) ≡ is_seen stamp (taken setup k s)
stamp-taken setup test s k h stamp before is = ap test (calls-taken setup s k h before) ∙ is.tells (taken setup k s) (taken-fits setup s k h before)

-- whether an owner was closed then, or did it and a frame had seen it
pub stamp-ended : (setup : Setup) (test : Draft → Call → Bool) (s : SessionNo) (k h : List Entry) (stamp : Option ℕ) → IsEarlier k h
    → IsStamp (happens setup test) s h stamp
    → has_ended setup test k s ≡ (is_closed s k || is_seen stamp (taken setup k s))
stamp-ended setup test s k h stamp before is = ap (λ b. is_closed s k || b) (stamp-taken setup (happens setup test) s k h stamp before is)
