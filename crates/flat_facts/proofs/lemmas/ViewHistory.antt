-- Which sessions have a view, read off a history.
use Rattle.std.proofs.Common.{◌≡◌, ◌∙◌, sym, subst, ℕ, ◌+◌, ◌-◌, Bool, true, false, List, [], ◌∷◌, ◌++◌, length, refl, arith, ap, Some, None, Ok, Err}
use Rattle.std.proofs.Common.{length-append, add-one}
use Rattle.std.specs.Prelude.{cond, ◌&&◌, ◌||◌, ◌==◌, nat_lt, Option, Result, option_map, is_some, unwrap_or, slice_get}
use Rattle.std.specs.List.{list_all, list_any}
use Rattle.std.specs.Result.{result_ok}
use Rattle.std.proofs.lemmas.Bool.Decides.{nat_tests}
use Rattle.std.proofs.lemmas.List.{append-nil}
use Rattle.flat_base.specs.declared.errors.Reason.{Reason}
use Rattle.flat_base.specs.declared.ids.Actor.{Actor}
use Rattle.flat_base.specs.declared.ids.Actor.TheVariants.{Display, Session, Probe}
use Rattle.flat_base.specs.declared.ids.PairNo.{PairNo}
use Rattle.flat_base.specs.declared.ids.SessionNo.{SessionNo}
use Rattle.flat_scene.specs.declared.calls.Call.{Call}
use Rattle.flat_scene.specs.declared.calls.Call.TheVariants.{CreateView}
use Rattle.flat_scene.specs.declared.journal.Entry.{Entry}
use Rattle.flat_scene.specs.declared.journal.EntryKind.{EntryKind}
use Rattle.flat_scene.specs.declared.journal.EntryKind.TheVariants.{View, Viewport, Present, Close, End}
use Rattle.flat_scene.specs.declared.journal.Reply.{Reply}
use Rattle.flat_scene.specs.declared.journal.Reply.TheVariants.{Done, Presented}
use Rattle.flat_scene.specs.declared.setup.Setup.{Setup}
use Rattle.flat_scene.specs.Draft.{Draft, of_serial}
use Rattle.flat_scene.specs.Effect.{draft_of}
use Rattle.flat_scene.specs.History.{◌▹◌, calls, closes, is_closed, is_session, own, presents, published, Published}
use Rattle.flat_base.proofs.lemmas.Tests.{and-left, and-right}
use Rattle.flat_facts.specs.Begins.{entry_of}
use Rattle.flat_rules.specs.Ends.{view_uses, uses_view, is_done, view_owner}
use Rattle.flat_rules.specs.Legal.{Legal, LegalEntry, MayEnter, reply_to, refused_token, is_link, own_call, all_but_last, owns_view, owns_in_call}
use Rattle.flat_facts.specs.Views.{last_view, view_made, is_new_view}
use Rattle.flat_rules.proofs.lemmas.ShownSteps.{serial-get}
use Rattle.flat_facts.proofs.lemmas.ViewUses.{viewed-more}
use Rattle.flat_facts.proofs.lemmas.Tests.{or-false, same-pair}
use Rattle.flat_facts.proofs.lemmas.ViewCalls.{split-last, last-made, no-links-view, viewport-alone}
use Rattle.flat_facts.proofs.lemmas.ViewLaw.{Viewing, viewing-first, viewing-more, viewing-made, viewing-same, made_at, MadeOf}
use Rattle.std.proofs.lemmas.Bool.{not-true, and_left, or_parts}
use Rattle.std.proofs.Math.Bool.{and-true}

abbrev pub used_in : List Entry → PairNo → Bool
used_in h p = nat_lt 0 (length (view_uses p h))

abbrev pub ViewingOf : Setup → SessionNo → List Entry → Type 0
ViewingOf setup s h = Viewing setup s (used_in h) (calls s h) (presents s h) (last_view s h)

-- ---- another's entry

-- a session makes only views whose ends it owns
owned-use : (setup : Setup) (s t : SessionNo) (q p : PairNo) (same : Bool) → (q.0 == p.0) ≡ same → owns_view setup t q ≡ true → owns_view setup s p ≡ true
    → (t.0 == s.0) ≡ false → same ≡ false
owned-use setup s t q p false is theirs mine other = refl
owned-use setup s t q p true is theirs mine other =
    let pair : q ≡ p = same-pair q p is in
    let O : PairNo → Type 0 = λ r. owns_view setup t r ≡ true in
    absurd (two-owners (view_owner setup p) t s (subst O pair theirs) mine other)
  where
    two-owners : (owner : Option SessionNo) (t s : SessionNo) → unwrap_or (option_map (λ (u : SessionNo). u.0 == t.0) owner) false ≡ true
        → unwrap_or (option_map (λ (u : SessionNo). u.0 == s.0) owner) false ≡ true → (t.0 == s.0) ≡ false → ⊥
    two-owners None t s theirs mine other = let wrong : false ≡ true = theirs in cc
    two-owners (Some u) t s theirs mine other = grind (arith, nat_tests)

no-use : (setup : Setup) (h : List Entry) (s : SessionNo) (p : PairNo) (who : Actor) (carries : List Call) (kind : EntryKind)
    → MayEnter setup h who carries kind
    → is_session s who ≡ false → owns_view setup s p ≡ true → uses_view p kind ≡ false
no-use setup h s p Display carries (View q) may other mine = let wrong : false ≡ true = may.acts in cc
no-use setup h s p (Probe n) carries (View q) may other mine = let wrong : false ≡ true = may.acts in cc
no-use setup h s p (Session t) carries (View q) may other mine =
    owned-use setup s t q p (q.0 == p.0) refl (and-left (owns_view setup t q) (list_all (owns_in_call setup t) carries) may.owned) mine other
no-use setup h s p who carries _ may other mine = refl

same-uses : (p : PairNo) (e : Entry) (h : List Entry) → (uses_view p e.kind && is_done e.reply) ≡ false → used_in (h ▹ e) p ≡ used_in h p
same-uses p e h none = viewed-more p e h ∙ ap (λ b. used_in h p || b) none ∙ sym (or-false (used_in h p))

viewing-other : (setup : Setup) (s : SessionNo) (h : List Entry) (e : Entry) → LegalEntry setup h e → is_session s e.actor ≡ false → ViewingOf setup s h
    → ViewingOf setup s (h ▹ e)
viewing-other setup s h e legal other old =
    let here : Viewing setup s (used_in (h ▹ e)) (calls s h) (presents s h) (last_view s h) =
    viewing-same setup s (used_in h) (used_in (h ▹ e)) (calls s h) (presents s h) (last_view s h)
    (λ p mine. same-uses p e h (and_left (uses_view p e.kind) (is_done e.reply) (no-use setup h s p e.actor e.calls e.kind legal.may other mine))) old in
    rw other here

-- ---- its own

slice-last : {A : Type 0} (xs : List A) (x : A) → slice_get (xs ++ x ∷ []) (length xs) ≡ Some x
slice-last [] x = refl
slice-last (y ∷ xs) x = slice-last xs x

one-made : (ps : List Published) (present : Published) (n : ℕ) → n ≡ length ps + 1 → made_at (ps ++ present ∷ []) n ≡ present.made
one-made ps present n is =
    let serial : of_serial (ps ++ present ∷ []) (length ps + 1) ≡ Some present =
    ap (of_serial (ps ++ present ∷ [])) (add-one (length ps)) ∙ serial-get (ps ++ present ∷ []) (length ps) ∙ slice-last ps present in
    ap (made_at (ps ++ present ∷ [])) is ∙ ap (λ (o : Option Published). unwrap_or (option_map (λ p. p.made) o) []) serial

pub published-made : (kind : EntryKind) (reply : Reply) (ps : List Published) (all : List Call) → MadeOf ps (published kind reply all) all
published-made (Present args) (Presented number credits) ps all n past few =
    let one : length (ps ++ (let p : Published = record { args = args; made = all } in p) ∷ []) ≡ length ps + 1 =
    length-append ps ((let p : Published = record { args = args; made = all } in p) ∷ []) in
    one-made ps (record { args = args; made = all }) n (omega (arith, past, few, one))
published-made kind reply ps all n past few = absurd (let same : length (ps ++ []) ≡ length ps = ap length (append-nil ps) in omega (arith, past, few, same))

some-draft : (r : Result Draft Reason) → is_some (result_ok r) ≡ true → (d : Draft) × (r ≡ Ok d)
some-draft (Ok d) is = (d, refl)
some-draft (Err reason) is = let wrong : false ≡ true = is in cc

or-open : (a b : Bool) → a ≡ false → (a || b) ≡ true → b ≡ true
or-open true b opened is = let wrong : true ≡ false = opened in cc
or-open false b opened is = is

if-open : (a b c : Bool) → a ≡ false → cond a b c ≡ true → c ≡ true
if-open true b c opened is = let wrong : true ≡ false = opened in cc
if-open false b c opened is = is

-- an own entry that makes no view
own-plain : (setup : Setup) (s : SessionNo) (h : List Entry) (e : Entry) → is_session s e.actor ≡ true → list_any is_new_view e.calls ≡ false
    → is_some (result_ok (draft_of setup (calls s h ++ e.calls))) ≡ true
    → view_made e.kind e.reply ≡ None → ((p : PairNo) → (uses_view p e.kind && is_done e.reply) ≡ false) → ViewingOf setup s h → ViewingOf setup s (h ▹ e)
own-plain setup s h e mine no_link drafted no_view no_use old =
    let d' = some-draft (draft_of setup (calls s h ++ e.calls)) drafted in
    let ps : List Published = presents s h in
    let more : List Published = published e.kind e.reply (calls s h ++ e.calls) in
    let here : Viewing setup s (used_in (h ▹ e)) (calls s h ++ e.calls) (ps ++ more) (last_view s h) =
    viewing-same setup s (used_in h) (used_in (h ▹ e)) (calls s h ++ e.calls) (ps ++ more) (last_view s h)
    (λ p owned. same-uses p e h (no_use p))
    (viewing-more setup s (used_in h) (calls s h) ps (last_view s h) old e.calls more d'.0 no_link d'.1
    (published-made e.kind e.reply ps (calls s h ++ e.calls))) in
    rw (mine, no_view) here

-- one that makes a view
own-view : (setup : Setup) (s : SessionNo) (h : List Entry) (who : Actor) (line : ℕ) (carries : List Call) (q : PairNo) → is_session s who ≡ true
    → list_any is_new_view (all_but_last carries) ≡ false
    → own_call (View q) (slice_get carries (length carries - 1)) ≡ true → is_some (result_ok (draft_of setup (calls s h ++ carries))) ≡ true
    → owns_view setup s q ≡ true → used_in h q ≡ false
    → ViewingOf setup s h → ViewingOf setup s (h ▹ entry_of who line carries (View q) Done)
own-view setup s h who line carries q mine no_link last drafted owned unused old =
    let e : Entry = entry_of who line carries (View q) Done in
    let first : List Call = all_but_last carries in
    let split : carries ≡ first ++ CreateView q ∷ [] = split-last carries (CreateView q) (last-made q (slice_get carries (length carries - 1)) last) in
    let d' = some-draft (draft_of setup (calls s h ++ carries)) drafted in
    let good : draft_of setup (calls s h ++ (first ++ CreateView q ∷ [])) ≡ Ok d'.0 =
    ap (λ (c : List Call). draft_of setup (calls s h ++ c)) (sym split) ∙ d'.1 in
    let made : Viewing setup s (used_in (h ▹ e)) (calls s h ++ (first ++ CreateView q ∷ [])) (presents s h) (Some q) =
    viewing-made setup s (used_in h) (calls s h) (presents s h) (last_view s h) old q first d'.0 no_link good owned unused (used_in (h ▹ e))
    (λ p. viewed-more p e h ∙ ap (λ b. used_in h p || b) (and-true (q.0 == p.0))) in
    let P : List Call → Type 0 = λ c. Viewing setup s (used_in (h ▹ e)) (calls s h ++ c) (presents s h) (Some q) in
    let here : Viewing setup s (used_in (h ▹ e)) (calls s h ++ carries) (presents s h) (Some q) = subst P (sym split) made in
    rw (mine, append-nil) here

view-reply : (setup : Setup) (s : SessionNo) (h : List Entry) (who : Actor) (line : ℕ) (carries : List Call) (q : PairNo) (reply : Reply) (n : ℕ) (b : Bool)
    → is_session s who ≡ true → MayEnter setup h (Session s) carries (View q)
    → (n == 0) ≡ b → n ≡ length (view_uses q h) → reply ≡ cond b Done refused_token → closes reply ≡ false → is_closed s h ≡ false → ViewingOf setup s h
    → ViewingOf setup s (h ▹ entry_of who line carries (View q) reply)
view-reply setup s h who line carries q reply n false mine may none uses replied stays opened old = let wrong : true ≡ false =
    sym (ap closes replied) ∙ stays in cc
view-reply setup s h who line carries q reply n true mine may none uses replied stays opened old =
    let unused : used_in h q ≡ false = ap (λ (k : ℕ). nat_lt 0 k) (sym uses) ∙ grind (arith, nat_tests) in
    let P : Reply → Type 0 = λ r. ViewingOf setup s (h ▹ entry_of who line carries (View q) r) in
    subst P (sym replied)
    (own-view setup s h who line carries q mine (no-links-view (all_but_last carries) (not-true (list_any is_link (all_but_last carries)) may.links)) may.calls
    (or-open (is_closed s h) (is_some (result_ok (draft_of setup (calls s h ++ carries)))) opened may.drafted)
    (and-left (owns_view setup s q) (list_all (owns_in_call setup s) carries) may.owned) unused old)

viewing-own : (setup : Setup) (s : SessionNo) (h : List Entry) (who : Actor) (line : ℕ) (carries : List Call) (kind : EntryKind) (reply : Reply)
    → is_session s who ≡ true → MayEnter setup h (Session s) carries kind
    → reply ≡ reply_to setup h (Session s) carries kind → closes reply ≡ false → is_closed s h ≡ false → ViewingOf setup s h
    → ViewingOf setup s (h ▹ entry_of who line carries kind reply)
viewing-own setup s h who line carries (Viewport p props) reply mine may replied stays opened old =
    own-plain setup s h (entry_of who line carries (Viewport p props) reply) mine
    (viewport-alone p props carries (slice_get carries (length carries - 1)) refl may.calls (not-true (list_any is_link (all_but_last carries)) may.links))
    (or-open (is_closed s h) (is_some (result_ok (draft_of setup (calls s h ++ carries)))) opened may.drafted) refl (λ p. refl) old
viewing-own setup s h who line carries (Close None) reply mine may replied stays opened old = let wrong : true ≡ false = sym (ap closes replied) ∙ stays in cc
viewing-own setup s h who line carries (Close (Some reason)) reply mine may replied stays opened old = let wrong : true ≡ false =
    sym (ap closes replied) ∙ stays in cc
viewing-own setup s h who line carries (View q) reply mine may replied stays opened old =
    view-reply setup s h who line carries q reply (length (view_uses q h)) (length (view_uses q h) == 0) mine may refl refl replied stays opened old
viewing-own setup s h who line carries (End n) reply mine may replied stays opened old =
    own-plain setup s h (entry_of who line carries (End n) reply) mine (no-links-view carries (not-true (list_any is_link carries) may.links))
    (and-right (n == 0) (is_some (result_ok (draft_of setup (calls s h ++ carries))))
    (if-open (is_closed s h) (length carries == 0) (n == 0 && is_some (result_ok (draft_of setup (calls s h ++ carries)))) opened may.drafted))
    refl (λ p. refl) old
viewing-own setup s h who line carries kind reply mine may replied stays opened old =
    own-plain setup s h (entry_of who line carries kind reply) mine (no-links-view carries (not-true (list_any is_link carries) may.links))
    (or-open (is_closed s h) (is_some (result_ok (draft_of setup (calls s h ++ carries)))) opened may.drafted) refl (λ p. refl) old

-- ---- the whole history

pub same-session : (s : SessionNo) (who : Actor) → is_session s who ≡ true → who ≡ Session s
same-session s Display is = let wrong : false ≡ true = is in cc
same-session s (Probe p) is = let wrong : false ≡ true = is in cc
same-session s (Session t) is =
    let number : t.0 ≡ s.0 = grind (arith, nat_tests) in
    ap (λ (n : ℕ). let r : Actor = Session (record { 0 = n }) in r) number

pub closes-first : (b : Bool) (e : Entry) (xs : List Entry) → list_any (λ entry. closes entry.reply) (cond b (e ∷ xs) xs) ≡ false
    → (b ≡ true → closes e.reply ≡ false) × (list_any (λ entry. closes entry.reply) xs ≡ false)
closes-first true e xs opened = (λ is. (or_parts (closes e.reply) _ opened).0, (or_parts (closes e.reply) _ opened).1)
closes-first false e xs opened = (λ is. let wrong : false ≡ true = is in cc, opened)

by-owner : (setup : Setup) (s : SessionNo) (h : List Entry) (e : Entry) → LegalEntry setup h e → (is_session s e.actor ≡ true → closes e.reply ≡ false)
    → is_closed s h ≡ false → ViewingOf setup s h
    → (b : Bool) → is_session s e.actor ≡ b → ViewingOf setup s (h ▹ e)
by-owner setup s h e legal closing opened old false other = viewing-other setup s h e legal other old
by-owner setup s h e legal closing opened old true mine =
    let is : e.actor ≡ Session s = same-session s e.actor mine in
    let M : Actor → Type 0 = λ who. MayEnter setup h who e.calls e.kind in
    let R : Actor → Type 0 = λ who. e.reply ≡ reply_to setup h who e.calls e.kind in
    viewing-own setup s h e.actor e.line e.calls e.kind e.reply mine (subst M is legal.may) (subst R is legal.reply) (closing mine) opened old

pub viewing-of : (setup : Setup) (s : SessionNo) (h : List Entry) → Legal setup h → is_closed s h ≡ false → ViewingOf setup s h
viewing-of setup s [] legal opened = viewing-first setup s
viewing-of setup s (h ▹ e) legal opened =
    let closing = closes-first (is_session s e.actor) e (own s h) opened in
    by-owner setup s h e legal.1 closing.0 closing.1 (viewing-of setup s h legal.0 closing.1) (is_session s e.actor) refl
