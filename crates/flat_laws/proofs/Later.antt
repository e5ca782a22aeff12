-- What stays as it was when entries are put onto a history.
use Rattle.std.proofs.Common.{◌≡◌, ◌∙◌, sym, subst, ap, refl, inl, inr, ◌⊎◌, ℕ, ◌≤◌, Bool, true, false, List, [], ◌∷◌, ◌++◌, length, Some}
use Rattle.std.specs.Prelude.{cond, not, ◌||◌}
use Rattle.std.specs.List.{list_any}
use Rattle.std.proofs.lemmas.Bool.{and_parts, not-true, or_cases, or_left, or_right}
use Rattle.flat_base.specs.declared.ids.FenceNo.{FenceNo}
use Rattle.flat_base.specs.declared.ids.SessionNo.{SessionNo}
use Rattle.flat_base.specs.declared.ids.Actor.TheVariants.{Session}
use Rattle.flat_scene.specs.declared.journal.Entry.{Entry}
use Rattle.flat_scene.specs.declared.calls.Call.{Call}
use Rattle.flat_scene.specs.declared.journal.EntryKind.{EntryKind}
use Rattle.flat_scene.specs.declared.journal.EntryKind.TheVariants.{End}
use Rattle.flat_scene.specs.declared.journal.Reply.{Reply}
use Rattle.flat_scene.specs.declared.setup.Setup.{Setup}
use Rattle.flat_scene.specs.Draft.{of_serial}
use Rattle.flat_scene.specs.Frames.{is_signalled, signals, going, sessions_to}
use Rattle.flat_scene.specs.History.{◌▹◌, closes, is_begin, is_closed, is_end, is_finish, is_session, own, presents, published, Published}
use Rattle.flat_scene.proofs.lemmas.Steps.{presents-other}
use Rattle.flat_rules.specs.Legal.{Legal, goes_on}
use Rattle.flat_rules.specs.Ends.{to_begin, to_finished}
use Rattle.flat_rules.proofs.lemmas.Quiet.{presents-quiet}
use Rattle.flat_rules.proofs.lemmas.ListLemmas.{serial-within}
use Rattle.flat_rules.proofs.lemmas.ShownSteps.{serial-append}
use Rattle.flat_facts.proofs.lemmas.ViewHistory.{same-session}
use Rattle.flat_facts.proofs.lemmas.Earlier.{IsEarlier, itself, one-earlier, begin-earlier, presents-begin}

-- ---- closed sessions

closed-one : (b : Bool) (e : Entry) (xs : List Entry) → list_any (λ entry. closes entry.reply) xs ≡ true
    → list_any (λ entry. closes entry.reply) (cond b (e ∷ xs) xs) ≡ true
closed-one true e xs closed = or_right (closes e.reply) (list_any (λ entry. closes entry.reply) xs) closed
closed-one false e xs closed = closed

pub closed-next : (s : SessionNo) (h : List Entry) (e : Entry) → is_closed s h ≡ true → is_closed s (h ▹ e) ≡ true
closed-next s h e closed = closed-one (is_session s e.actor) e (own s h) closed

pub closed-later : (s : SessionNo) (k later : List Entry) → is_closed s k ≡ true → is_closed s (later ++ k) ≡ true
closed-later s k [] closed = closed
closed-later s k (e ∷ later) closed = closed-next s (later ++ k) e (closed-later s k later closed)

pub closed-earlier : (s : SessionNo) (k h : List Entry) → IsEarlier k h → is_closed s k ≡ true → is_closed s h ≡ true
closed-earlier s k h before closed = subst (λ l. is_closed s l ≡ true) (sym before.is) (closed-later s k before.later closed)

-- a closed session's entry is its end, which publishes nothing
end-publishes-none : (kind : EntryKind) (reply : Reply) (made : List Call) → is_end kind ≡ true → published kind reply made ≡ []
end-publishes-none (End refused) reply made is = refl
end-publishes-none _ reply made is = absurd (let wrong : false ≡ true = is in cc)

closed-ends : (h : List Entry) (kind : EntryKind) (s : SessionNo) → is_closed s h ≡ true → goes_on h kind (Session s) ≡ true → is_end kind ≡ true
closed-ends h kind s closed on =
    let either : (is_end kind || not (is_closed s h)) ≡ true =
    (and_parts (not (list_any (λ entry. is_end entry.kind) (own s h))) (is_end kind || not (is_closed s h)) on).1 in
    by_end (or_cases (is_end kind) (not (is_closed s h)) either)
  where
    by_end : (is_end kind ≡ true) ⊎ (not (is_closed s h) ≡ true) → is_end kind ≡ true
    by_end (inl ends) = ends
    by_end (inr opened) = absurd (let wrong : true ≡ false = sym closed ∙ not-true (is_closed s h) opened in cc)

closed-presents-next : (setup : Setup) (h : List Entry) (e : Entry) (s : SessionNo) → Legal setup (h ▹ e) → is_closed s h ≡ true
    → presents s (h ▹ e) ≡ presents s h
closed-presents-next setup h e s legal closed = by_owner (is_session s e.actor) refl
  where
    by_owner : (b : Bool) → is_session s e.actor ≡ b → presents s (h ▹ e) ≡ presents s h
    by_owner false other = presents-other s h e other
    by_owner true mine =
        let on : goes_on h e.kind (Session s) ≡ true = ap (goes_on h e.kind) (sym (same-session s e.actor mine)) ∙ legal.1.may.lasts in
        let ends = closed-ends h e.kind s closed on in
        presents-quiet h e s (λ made. end-publishes-none e.kind e.reply made ends)

-- a session that is closed presents nothing more
pub closed-presents : (setup : Setup) (k h : List Entry) (s : SessionNo) → IsEarlier k h → Legal setup h → is_closed s k ≡ true → presents s h ≡ presents s k
closed-presents setup k h s before legal closed = ap (presents s) before.is ∙ onto before.later (subst (Legal setup) before.is legal)
  where
    onto : (later : List Entry) → Legal setup (later ++ k) → presents s (later ++ k) ≡ presents s k
    onto [] here = refl
    onto (e ∷ later) here = closed-presents-next setup (later ++ k) e s here (closed-later s k later closed) ∙ onto later here.0

-- ---- presents by their numbers

pub serial-later : (s : SessionNo) (k h : List Entry) (n : ℕ) (present : Published) → IsEarlier k h → of_serial (presents s k) n ≡ Some present
    → of_serial (presents s h) n ≡ Some present
serial-later s k h n present before is =
    let all = presents-begin s k h before in
    ap (λ ps. of_serial ps n) all.is ∙ serial-append (presents s k) all.more n (serial-within (presents s k) n present is) ∙ is

-- a present that was there already is the same
pub serial-earlier : (s : SessionNo) (k h : List Entry) (n : ℕ) (present : Published) → IsEarlier k h → n ≤ length (presents s k)
    → of_serial (presents s h) n ≡ Some present → of_serial (presents s k) n ≡ Some present
serial-earlier s k h n present before few is =
    let all = presents-begin s k h before in
    sym (serial-append (presents s k) all.more n few) ∙ sym (ap (λ ps. of_serial ps n) all.is) ∙ is

-- ---- fences

pub signalled-next : (setup : Setup) (h : List Entry) (e : Entry) (fence : FenceNo) → is_signalled setup h fence ≡ true
    → is_signalled setup (h ▹ e) fence ≡ true
signalled-next setup h e fence was =
    or_left (is_signalled setup h fence) (signals (sessions_to setup.sessions) e.kind (going setup h) fence) was

-- ---- frames

pub earlier-through : (j k h : List Entry) → IsEarlier j k → IsEarlier k h → IsEarlier j h
earlier-through j k h first second = by_list second.later second.is
  where
    onto : (later : List Entry) → IsEarlier j (later ++ k)
    onto [] = first
    onto (e ∷ later) = one-earlier j (later ++ k) e (onto later)

    by_list : (later : List Entry) → h ≡ later ++ k → IsEarlier j h
    by_list later is = subst (λ l. IsEarlier j l) (sym is) (onto later)

-- the last finished frame began no later than the last frame
pub finished-begun : (h : List Entry) → IsEarlier (to_finished h) (to_begin h)
finished-begun [] = itself []
finished-begun (h ▹ e) = by_kind (finished-begun h) (is_begin e.kind) (is_finish e.kind)
  where
    by_kind : IsEarlier (to_finished h) (to_begin h) → (b f : Bool) → IsEarlier (cond f (to_begin h) (to_finished h)) (cond b (h ▹ e) (to_begin h))
    by_kind was true true = one-earlier (to_begin h) h e (begin-earlier h)
    by_kind was true false = one-earlier (to_finished h) h e (earlier-through (to_finished h) (to_begin h) h was (begin-earlier h))
    by_kind was false true = itself (to_begin h)
    by_kind was false false = was

-- and finished frames only move on
pub finished-next : (h : List Entry) (e : Entry) → IsEarlier (to_finished h) (to_finished (h ▹ e))
finished-next h e = by_kind (is_finish e.kind)
  where
    by_kind : (f : Bool) → IsEarlier (to_finished h) (cond f (to_begin h) (to_finished h))
    by_kind true = finished-begun h
    by_kind false = itself (to_finished h)

pub finished-later : (k later : List Entry) → IsEarlier (to_finished k) (to_finished (later ++ k))
finished-later k [] = itself (to_finished k)
finished-later k (e ∷ later) =
    earlier-through (to_finished k) (to_finished (later ++ k)) (to_finished ((later ++ k) ▹ e)) (finished-later k later) (finished-next (later ++ k) e)
