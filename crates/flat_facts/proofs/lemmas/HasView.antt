-- A session has a view exactly where it is open, and the end of the last that it made isn't lost.
use Rattle.std.proofs.Common.{◌≡◌, ◌∙◌, sym, subst, ℕ, zero, suc, ◌+◌, Bool, true, false, List, [], ◌∷◌, refl, arith, ap, Some, None, inl, inr, ◌⊎◌, add-zero}
use Rattle.std.proofs.Common.{zero-add}
use Rattle.std.specs.Prelude.{cond, not, ◌&&◌, ◌==◌, Option, is_some, option_map, unwrap_or, slice_get}
use Rattle.std.specs.List.{list_any}
use Rattle.std.proofs.lemmas.Bool.Decides.{nat_tests}
use Rattle.flat_base.specs.declared.ids.Actor.TheVariants.{Session}
use Rattle.flat_base.specs.declared.ids.PairNo.{PairNo}
use Rattle.flat_base.specs.declared.ids.SessionNo.{SessionNo}
use Rattle.flat_scene.specs.declared.journal.Entry.{Entry}
use Rattle.flat_scene.specs.declared.setup.PairDecl.{PairDecl}
use Rattle.flat_scene.specs.declared.setup.Setup.{Setup}
use Rattle.flat_scene.specs.Frames.{taken}
use Rattle.flat_scene.specs.History.{is_closed, presents}
use Rattle.flat_scene.proofs.lemmas.TakingLemmas.{taken-made}
use Rattle.flat_base.proofs.lemmas.Tests.{and-left, and-right, or-cases}
use Rattle.flat_rules.specs.Ends.{view_owner, views_of, pairs_where, ends_view, is_view_lost, has_view, loses, has_ended}
use Rattle.flat_rules.specs.Legal.{Legal, owns_view}
use Rattle.flat_scene.specs.declared.calls.Call.{Call}
use Rattle.flat_facts.specs.Laws.{is_standing}
use Rattle.flat_facts.specs.Views.{last_view}
use Rattle.flat_facts.proofs.lemmas.ViewHistory.{ViewingOf, viewing-of, used_in}
use Rattle.flat_facts.proofs.lemmas.ViewLaw.{made_at, ended}
use Rattle.std.proofs.lemmas.Bool.{not-true, or_right}
use Rattle.std.specs.Cmp.{both_ways}

-- ---- the pairs of which a test holds

-- one of them, by its place
abbrev pub Found : (PairNo → Bool) → (PairDecl → Bool) → ℕ → List PairDecl → Type 0
Found f test n pairs = (k : ℕ) × (unwrap_or (option_map test (slice_get pairs k)) false ≡ true) × (f (record { 0 = n + k }) ≡ true)

found-here : (f : PairNo → Bool) (test : PairDecl → Bool) (n : ℕ) (pair : PairDecl) (pairs : List PairDecl) → test pair ≡ true → f (record { 0 = n }) ≡ true
    → Found f test n (pair ∷ pairs)
found-here f test n pair pairs here is =
    let F : ℕ → Type 0 = λ m. f (record { 0 = m }) ≡ true in
    (0, here, subst F (sym (add-zero n)) is)

found-later : (f : PairNo → Bool) (test : PairDecl → Bool) (n : ℕ) (pair : PairDecl) (pairs : List PairDecl) → Found f test (n + 1) pairs
    → Found f test n (pair ∷ pairs)
found-later f test n pair pairs found =
    let F : ℕ → Type 0 = λ m. f (record { 0 = m }) ≡ true in
    let place : n + 1 + found.0 ≡ n + suc found.0 = omega arith in
    (suc found.0, found.1, subst F place found.2)

found-first : (f : PairNo → Bool) (test : PairDecl → Bool) (n : ℕ) (pair : PairDecl) (pairs : List PairDecl) (b : Bool) → test pair ≡ b
    → (list_any f (pairs_where test (n + 1) pairs) ≡ true → Found f test (n + 1) pairs)
    → list_any f (cond b ((record { 0 = n }) ∷ pairs_where test (n + 1) pairs) (pairs_where test (n + 1) pairs)) ≡ true → Found f test n (pair ∷ pairs)
found-first f test n pair pairs false is later any = found-later f test n pair pairs (later any)
found-first f test n pair pairs true is later any = by_case (or-cases (f (record { 0 = n })) (list_any f (pairs_where test (n + 1) pairs)) any)
  where
    by_case : (f (record { 0 = n }) ≡ true) ⊎ (list_any f (pairs_where test (n + 1) pairs) ≡ true) → Found f test n (pair ∷ pairs)
    by_case (inl here) = found-here f test n pair pairs is here
    by_case (inr rest) = found-later f test n pair pairs (later rest)

pub found : (f : PairNo → Bool) (test : PairDecl → Bool) (n : ℕ) (pairs : List PairDecl) → list_any f (pairs_where test n pairs) ≡ true → Found f test n pairs
found f test n [] any = let wrong : false ≡ true = any in cc
found f test n (pair ∷ pairs) any = found-first f test n pair pairs (test pair) refl (found f test (n + 1) pairs) any

any-first : (f : PairNo → Bool) (b : Bool) (p : PairNo) (more : List PairNo) → list_any f more ≡ true → list_any f (cond b (p ∷ more) more) ≡ true
any-first f true p more rest = or_right (f p) (list_any f more) rest
any-first f false p more rest = rest

pub any-found : (f : PairNo → Bool) (test : PairDecl → Bool) (n k : ℕ) (pairs : List PairDecl) → unwrap_or (option_map test (slice_get pairs k)) false ≡ true
    → f (record { 0 = n + k }) ≡ true → list_any f (pairs_where test n pairs) ≡ true
any-found f test n k [] here is = let wrong : false ≡ true = here in cc
any-found f test n zero (pair ∷ pairs) here is =
    let F : ℕ → Type 0 = λ m. f (record { 0 = m }) ≡ true in
    let first : f (record { 0 = n }) ≡ true = subst F (add-zero n) is in
    rw (here, first) refl
any-found f test n (suc k) (pair ∷ pairs) here is =
    let F : ℕ → Type 0 = λ m. f (record { 0 = m }) ≡ true in
    let place : n + suc k ≡ n + 1 + k = omega arith in
    any-first f (test pair) (record { 0 = n }) (pairs_where test (n + 1) pairs) (any-found f test (n + 1) k pairs here (subst F place is))

-- ---- the views of a session

nested : (s : SessionNo) (o : Option PairDecl) → unwrap_or (option_map (λ (t : SessionNo). t.0 == s.0) (option_map (λ pair. pair.view) o)) false
    ≡ unwrap_or (option_map (λ pair. pair.view.0 == s.0) o) false
nested s None = refl
nested s (Some pair) = refl

lost-by : (setup : Setup) (h : List Entry) (s : SessionNo) (p : PairNo) (owner : Option SessionNo)
    → unwrap_or (option_map (λ (t : SessionNo). t.0 == s.0) owner) false ≡ true → is_closed s h ≡ false
    → loses setup (ends_view p) h (option_map Session owner) ≡ ended setup p (made_at (presents s h) (taken setup h s))
lost-by setup h s p None owned opened = let wrong : false ≡ true = owned in cc
lost-by setup h s p (Some t) owned opened =
    let number : t.0 ≡ s.0 = grind (arith, nat_tests) in
    let same : t ≡ s = ap (λ (n : ℕ). let r : SessionNo = record { 0 = n } in r) number in
    ap (has_ended setup (ends_view p) h) same ∙ rw opened refl

-- its view end is lost where the present taken last sees its end
lost-is : (setup : Setup) (h : List Entry) (s : SessionNo) (p : PairNo) → owns_view setup s p ≡ true → is_closed s h ≡ false
    → is_view_lost setup h p ≡ ended setup p (made_at (presents s h) (taken setup h s))
lost-is setup h s p owned opened = lost-by setup h s p (view_owner setup p) owned opened

-- what isn't lost of any view isn't of the last
lost-by-last : (lost gone : Bool) → (gone ≡ true → lost ≡ true) → lost ≡ false → gone ≡ false
lost-by-last lost false implies kept = refl
lost-by-last lost true implies kept = sym (implies refl) ∙ kept

last-there : (last : Option PairNo) → is_some last ≡ true → (q : PairNo) × (last ≡ Some q)
last-there None is = let wrong : false ≡ true = is in cc
last-there (Some q) is = (q, refl)

-- the last view, where its end isn't lost
standing-last : (setup : Setup) (h : List Entry) (last : Option PairNo) → is_standing setup h last ≡ true
    → (q : PairNo) × (last ≡ Some q) × (not (is_view_lost setup h q) ≡ true)
standing-last setup h None is = let wrong : false ≡ true = is in cc
standing-last setup h (Some q) is = (q, refl, is)

opened-view : (setup : Setup) (s : SessionNo) (h : List Entry) → ViewingOf setup s h → is_closed s h ≡ false
    → list_any (λ p. used_in h p && not (is_view_lost setup h p)) (views_of setup s) ≡ is_standing setup h (last_view s h)
opened-view setup s h view opened =
    let f : PairNo → Bool = λ p. used_in h p && not (is_view_lost setup h p) in
    let test : PairDecl → Bool = λ pair. pair.view.0 == s.0 in
    both_ways (list_any f (views_of setup s)) (is_standing setup h (last_view s h))
    (λ any.
    let one = found f test 0 setup.pairs any in
    let p : PairNo = record { 0 = one.0 } in
    let owned : owns_view setup s p ≡ true = nested s (slice_get setup.pairs one.0) ∙ one.1 in
    let F : ℕ → Type 0 = λ m. f (record { 0 = m }) ≡ true in
    let is : f p ≡ true = subst F (zero-add one.0) one.2 in
    let used : used_in h p ≡ true = and-left (used_in h p) (not (is_view_lost setup h p)) is in
    let kept : is_view_lost setup h p ≡ false = not-true (is_view_lost setup h p) (and-right (used_in h p) (not (is_view_lost setup h p)) is) in
    let last = last-there (last_view s h) (view.known p owned used) in
    let q : PairNo = last.0 in
    let mine : owns_view setup s q ≡ true = (view.made q last.1).0 in
    let sees : List Call = made_at (presents s h) (taken setup h s) in
    let unended : ended setup p sees ≡ false = sym (lost-is setup h s p owned opened) ∙ kept in
    let stays : ended setup q sees ≡ false = lost-by-last (ended setup p sees) (ended setup q sees)
    (view.later q p last.1 owned used (taken setup h s) (taken-made setup s h)) unended in
    ap (is_standing setup h) last.1 ∙ ap not (lost-is setup h s q mine opened ∙ stays))
    (λ stands.
    let last = standing-last setup h (last_view s h) stands in
    let p : PairNo = last.0 in
    let own = view.made p last.1 in
    let is : f p ≡ true = rw (own.1, last.2) refl in
    let F : ℕ → Type 0 = λ m. f (record { 0 = m }) ≡ true in
    any-found f test 0 p.0 setup.pairs (sym (nested s (slice_get setup.pairs p.0)) ∙ own.0) (subst F (sym (zero-add p.0)) is))

by-closed : (setup : Setup) (s : SessionNo) (h : List Entry) → Legal setup h → (b : Bool) → is_closed s h ≡ b
    → has_view setup h s ≡ (not (is_closed s h) && is_standing setup h (last_view s h))
by-closed setup s h legal true closed = rw closed refl
by-closed setup s h legal false opened = rw opened (opened-view setup s h (viewing-of setup s h legal opened) opened)

pub has-view : (setup : Setup) (s : SessionNo) (h : List Entry) → Legal setup h
    → has_view setup h s ≡ (not (is_closed s h) && is_standing setup h (last_view s h))
has-view setup s h legal = by-closed setup s h legal (is_closed s h) refl
