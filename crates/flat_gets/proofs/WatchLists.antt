-- Which pairs are listed, as gets come to wait and are answered.
use Rattle.std.proofs.Common.{◌≡◌, ◌≢◌, ◌∙◌, sym, subst, ℕ, ◌+◌, ◌<◌, ◌≤◌, Bool, true, false, List, [], ◌∷◌, length, filter, refl, arith, ap, Some, None, All}
use Rattle.std.proofs.Common.{inl, inr, ◌⊎◌, slice_get, slice_set, slice_index_or, zero, suc}
use Rattle.std.specs.Prelude.{Option, option_map, unwrap_or, ◌&&◌, ◌||◌, ◌==◌, nat_lt}
use Rattle.std.specs.List.{list_all}
use Rattle.std.proofs.lemmas.Bool.Decides.{nat_tests}
use Rattle.std.proofs.lemmas.List.{get_or-set_other, length-set}
use Rattle.std.proofs.lemmas.Option.{slice_get-get_or, slice_get_cases, slice_get_past}
use Rattle.flat_base.proofs.lemmas.Tests.{and-left, and-right, none-left, none-right}
use Rattle.flat_base.specs.declared.ids.PairNo.{PairNo}
use Rattle.flat_base.specs.declared.ids.SessionNo.{SessionNo}
use Rattle.flat_scene.specs.declared.setup.PairDecl.{PairDecl}
use Rattle.flat_scene.specs.declared.setup.Setup.{Setup}
use Rattle.flat_scene.specs.History.{is_session}
use Rattle.flat_rules.specs.Ends.{pairs_where, views_of, viewports_of}
use Rattle.flat_rules.specs.Legal.{owns_view, owns_viewport}
use Rattle.flat_gets.specs.declared.pair.PairWatchers.{PairWatchers}
use Rattle.flat_gets.specs.Listed.{AreListed, IsList, KeptGets, is_listed, view_waits, viewport_waits, waits_at, with_pair}
use Rattle.flat_gets.specs.Pairs.{IsUnasked}
use Rattle.flat_rules.proofs.lemmas.EventsLocal.{views-owned, viewports-owned}
use Rattle.flat_gets.proofs.PairLists.{filter-all, filter-none, filter-twice, listed-other, listed-owned, where-known, with-owned}

-- ---- at a place

pub waits-known : (waits : PairWatchers → Bool) (pairs : List PairWatchers) (p : PairNo) (d : PairWatchers) → p.0 < length pairs
    → waits_at waits pairs p ≡ waits (slice_index_or pairs p.0 d)
waits-known waits pairs p d below = ap (λ (o : Option PairWatchers). unwrap_or (option_map waits o) false) (slice_get-get_or pairs p.0 d below)

waits-past : (waits : PairWatchers → Bool) (pairs : List PairWatchers) (p : PairNo) → length pairs ≤ p.0 → waits_at waits pairs p ≡ false
waits-past waits pairs p past = ap (λ (o : Option PairWatchers). unwrap_or (option_map waits o) false) (slice_get_past pairs p.0 past)

-- another pair stays at its place
pub waits-other : (waits : PairWatchers → Bool) (pairs : List PairWatchers) (i : ℕ) (then : PairWatchers) (q : PairNo) → q.0 ≢ i
    → waits_at waits (slice_set pairs i then) q ≡ waits_at waits pairs q
waits-other waits pairs i then q differ = by_place (slice_get_cases pairs q.0).1
  where
    count : length (slice_set pairs i then) ≡ length pairs
    count = length-set pairs i then

    by_place : ((x : PairWatchers) × (q.0 < length pairs) × (slice_get pairs q.0 ≡ Some x) × (slice_index_or pairs q.0 x ≡ x))
        ⊎ ((length pairs ≤ q.0) × (slice_get pairs q.0 ≡ None)) → waits_at waits (slice_set pairs i then) q ≡ waits_at waits pairs q
    by_place (inl there) = waits-known waits (slice_set pairs i then) q there.0 (omega (arith, there.1, count))
        ∙ ap waits (get_or-set_other pairs i q.0 then there.0 differ) ∙ sym (waits-known waits pairs q there.0 there.1)
    by_place (inr past) = waits-past waits (slice_set pairs i then) q (omega (arith, past.0, count)) ∙ sym (waits-past waits pairs q past.0)

-- Where no get waited at a pair none does.
abbrev pub Fewer : (PairWatchers → Bool) → List PairWatchers → List PairWatchers → Type 0
Fewer waits old new = (p : PairNo) → waits_at waits old p ≡ false → waits_at waits new p ≡ false

pub fewer-from : (waits : PairWatchers → Bool) (old new : List PairWatchers) → length new ≡ length old
    → ((i : ℕ) (d : PairWatchers) → i < length old → waits (slice_index_or old i d) ≡ false → waits (slice_index_or new i d) ≡ false) → Fewer waits old new
fewer-from waits old new same each p none = by_place (slice_get_cases new p.0).1
  where
    by_place : ((x : PairWatchers) × (p.0 < length new) × (slice_get new p.0 ≡ Some x) × (slice_index_or new p.0 x ≡ x))
        ⊎ ((length new ≤ p.0) × (slice_get new p.0 ≡ None)) → waits_at waits new p ≡ false
    by_place (inl there) =
        let x : PairWatchers = there.0 in
        let below : p.0 < length old = omega (arith, there.1, same) in
        let silent : waits (slice_index_or old p.0 x) ≡ false = sym (waits-known waits old p x below) ∙ none in
        waits-known waits new p x there.1 ∙ each p.0 x below silent
    by_place (inr past) = waits-past waits new p past.0

-- ---- lists

module _ (owns : PairNo → Bool) (all : List PairNo) (waits : PairWatchers → Bool) where
  -- what is listed stays so, where no get more waits
  pub list-fewer : (old new : List PairWatchers) (listed : List PairNo) → Fewer waits old new → IsList owns all waits old listed
      → IsList owns all waits new listed
  list-fewer old new listed fewer list = record { some = list.some; are = list.are; each = λ p mine other. fewer p (list.each p mine other) }

  -- also where that is known of its owner's pairs alone
  pub list-owned : (old new : List PairWatchers) (listed : List PairNo)
      → ((p : PairNo) → owns p ≡ true → waits_at waits old p ≡ false → waits_at waits new p ≡ false) → IsList owns all waits old listed
      → IsList owns all waits new listed
  list-owned old new listed fewer list = record { some = list.some; are = list.are; each = λ p mine other. fewer p mine (list.each p mine other) }

  -- and so do those of which a get still waits
  pub list-left : (old new : List PairWatchers) (listed : List PairNo) → Fewer waits old new → IsList owns all waits old listed
      → IsList owns all waits new (filter (waits_at waits new) listed)
  list-left old new listed fewer list = record {
    some = λ q. list.some q && waits_at waits new q;
    are = ap (filter (waits_at waits new)) list.are ∙ filter-twice list.some (waits_at waits new) all;
    each = λ p mine other. by_some p mine (list.some p) refl other;
  }
    where
      by_some : (p : PairNo) → owns p ≡ true → (b : Bool) → list.some p ≡ b → (b && waits_at waits new p) ≡ false → waits_at waits new p ≡ false
      by_some p mine true is other = other
      by_some p mine false is other = fewer p (list.each p mine is)

  -- none is listed where none waits
  pub list-none : (pairs : List PairWatchers) → ((p : PairNo) → waits_at waits pairs p ≡ false) → IsList owns all waits pairs []
  list-none pairs none = record { some = λ q. false; are = sym (filter-none all); each = λ p mine other. none p }

-- one more, among the pairs of an owner
pub list-more : (owns : PairNo → Bool) (test : PairDecl → Bool) (decls : List PairDecl) (waits : PairWatchers → Bool) (p : PairNo) (decl : PairDecl)
    → slice_get decls p.0 ≡ Some decl → test decl ≡ true
    → (old new : List PairWatchers) (listed : List PairNo) → ((q : PairNo) → q.0 ≢ p.0 → waits_at waits old q ≡ false → waits_at waits new q ≡ false)
    → IsList owns (pairs_where test 0 decls) waits old listed → IsList owns (pairs_where test 0 decls) waits new (with_pair p listed)
list-more owns test decls waits p decl at is old new listed others list = record {
  some = λ q. list.some q || q.0 == p.0;
  are = ap (with_pair p) list.are ∙ with-owned test p list.some 0 decls decl (omega arith) (ap (slice_get decls) (omega arith) ∙ at) is;
  each = λ q mine other.
      let first : list.some q ≡ false = none-left (list.some q) (q.0 == p.0) other in
      let second : (q.0 == p.0) ≡ false = none-right (list.some q) (q.0 == p.0) other in
      let differ : q.0 ≢ p.0 = λ same. let here : (q.0 == p.0) ≡ true = grind (arith, nat_tests) in let wrong : true ≡ false = sym here ∙ second in cc in
      others q differ (list.each q mine first);
}

-- ---- who owns a pair

-- A pair is declared, and passes a test.
pub record IsDecl (setup : Setup) (test : PairDecl → Bool) (p : PairNo) : Type 0 where
  pub decl : PairDecl
  pub at : slice_get setup.pairs p.0 ≡ Some decl
  pub tested : test decl ≡ true

abbrev pub views_test : SessionNo → PairDecl → Bool
views_test s pair = pair.view.0 == s.0

abbrev pub viewports_test : SessionNo → PairDecl → Bool
viewports_test s pair = is_session s pair.viewport

pub view-decl : (setup : Setup) (s : SessionNo) (p : PairNo) → owns_view setup s p ≡ true → IsDecl setup (views_test s) p
view-decl setup s p owned = by_get (slice_get setup.pairs p.0) refl owned
  where
    by_get : (o : Option PairDecl) → slice_get setup.pairs p.0 ≡ o → unwrap_or (option_map (λ t. t.0 == s.0) (option_map (λ pair. pair.view) o)) false ≡ true
        → IsDecl setup (views_test s) p
    by_get None at mine = cc
    by_get (Some decl) at mine = record { decl = decl; at = at; tested = mine }

pub viewport-decl : (setup : Setup) (s : SessionNo) (p : PairNo) → owns_viewport setup s p ≡ true → IsDecl setup (viewports_test s) p
viewport-decl setup s p owned = by_get (slice_get setup.pairs p.0) refl owned
  where
    by_get : (o : Option PairDecl) → slice_get setup.pairs p.0 ≡ o → unwrap_or (option_map (is_session s) (option_map (λ pair. pair.viewport) o)) false ≡ true
        → IsDecl setup (viewports_test s) p
    by_get None at mine = cc
    by_get (Some decl) at mine = record { decl = decl; at = at; tested = mine }

module _ (setup : Setup) (s : SessionNo) (pairs : List PairWatchers) where
  -- the test of a list tells which of a session's pairs are listed, and no other pair is
  pub view-listed : (listed : List PairNo) (list : IsList (owns_view setup s) (views_of setup s) view_waits pairs listed) (p : PairNo)
      → owns_view setup s p ≡ true → is_listed p.0 listed ≡ list.some p
  view-listed listed list p owned =
      let d = view-decl setup s p owned in
      ap (is_listed p.0) list.are ∙ listed-owned (views_test s) p list.some 0 setup.pairs d.decl (omega arith) (ap (slice_get setup.pairs) (omega arith) ∙ d.at)
      d.tested

  pub viewport-listed : (listed : List PairNo) (list : IsList (owns_viewport setup s) (viewports_of setup s) viewport_waits pairs listed) (p : PairNo)
      → owns_viewport setup s p ≡ true → is_listed p.0 listed ≡ list.some p
  viewport-listed listed list p owned =
      let d = viewport-decl setup s p owned in
      ap (is_listed p.0) list.are ∙ listed-owned (viewports_test s) p list.some 0 setup.pairs d.decl (omega arith)
      (ap (slice_get setup.pairs) (omega arith) ∙ d.at) d.tested

  pub view-unlisted : (listed : List PairNo) (list : IsList (owns_view setup s) (views_of setup s) view_waits pairs listed) (p : PairNo)
      → owns_view setup s p ≡ false → is_listed p.0 listed ≡ false
  view-unlisted listed list p foreign = ap (is_listed p.0) list.are
      ∙ listed-other (owns_view setup s) list.some p.0 (views_of setup s) (views-owned setup s) foreign

  pub viewport-unlisted : (listed : List PairNo) (list : IsList (owns_viewport setup s) (viewports_of setup s) viewport_waits pairs listed) (p : PairNo)
      → owns_viewport setup s p ≡ false → is_listed p.0 listed ≡ false
  viewport-unlisted listed list p foreign = ap (is_listed p.0) list.are
      ∙ listed-other (owns_viewport setup s) list.some p.0 (viewports_of setup s) (viewports-owned setup s) foreign

-- listed pairs are declared
known-all : (n : ℕ) (xs : List PairNo) → list_all (λ q. nat_lt q.0 n) xs ≡ true → All (λ q. q.0 < n) xs
known-all n xs all k d below = let one : nat_lt (slice_index_or xs k d).0 n ≡ true = at-all (λ q. nat_lt q.0 n) xs all k d below in grind (arith, nat_tests)
  where
    at-all : (test : PairNo → Bool) (ys : List PairNo) → list_all test ys ≡ true → (k : ℕ) (d : PairNo) → k < length ys → test (slice_index_or ys k d) ≡ true
    at-all test [] h k d below = absurd (omega (arith, below))
    at-all test (y ∷ ys) h zero d below = and-left (test y) (list_all test ys) h
    at-all test (y ∷ ys) h (suc k) d below = at-all test ys (and-right (test y) (list_all test ys) h) k d (omega (arith, below))

pub list-known : (owns : PairNo → Bool) (test : PairDecl → Bool) (decls : List PairDecl) (waits : PairWatchers → Bool) (n : ℕ) → length decls ≡ n
    → (pairs : List PairWatchers) (listed : List PairNo) → IsList owns (pairs_where test 0 decls) waits pairs listed → All (λ q. q.0 < n) listed
list-known owns test decls waits n is pairs listed list =
    let all : list_all (λ q. nat_lt q.0 (0 + length decls)) (pairs_where test 0 decls) ≡ true = where-known test 0 decls in
    let some : list_all (λ q. nat_lt q.0 (0 + length decls)) (filter list.some (pairs_where test 0 decls)) ≡ true =
    filter-all (λ q. nat_lt q.0 (0 + length decls)) list.some (pairs_where test 0 decls) all in
    let same : 0 + length decls ≡ n = omega (arith, is) in
    let N : ℕ → Type 0 = λ m. list_all (λ (q : PairNo). nat_lt q.0 m) listed ≡ true in
    known-all n listed (subst N same (ap (list_all (λ q. nat_lt q.0 (0 + length decls))) list.are ∙ some))

-- ---- all lists of a session

pub lists-fewer : (setup : Setup) (s : SessionNo) (old new : List PairWatchers) (session : KeptGets) → Fewer view_waits old new → Fewer viewport_waits old new
    → AreListed setup s old session → AreListed setup s new session
lists-fewer setup s old new session views viewports lists = record {
  views = list-fewer (owns_view setup s) (views_of setup s) view_waits old new session.views views lists.views;
  viewports = list-fewer (owns_viewport setup s) (viewports_of setup s) viewport_waits old new session.viewports viewports lists.viewports;
}

-- where nothing waits at any pair, none does at one
pub unwaited : (waits : PairWatchers → Bool) → ((w : PairWatchers) → IsUnasked w → waits w ≡ false) → (pairs : List PairWatchers) → All IsUnasked pairs
    → (p : PairNo) → waits_at waits pairs p ≡ false
unwaited waits silent pairs none p = by_place (slice_get_cases pairs p.0).1
  where
    by_place : ((x : PairWatchers) × (p.0 < length pairs) × (slice_get pairs p.0 ≡ Some x) × (slice_index_or pairs p.0 x ≡ x))
        ⊎ ((length pairs ≤ p.0) × (slice_get pairs p.0 ≡ None)) → waits_at waits pairs p ≡ false
    by_place (inl there) = waits-known waits pairs p there.0 there.1 ∙ silent (slice_index_or pairs p.0 there.0) (none p.0 there.0 there.1)
    by_place (inr past) = waits-past waits pairs p past.0

-- the pairs that a session lists are declared, where its lists stand
pub views-known : (setup : Setup) (s : SessionNo) (n : ℕ) → length setup.pairs ≡ n → (pairs : List PairWatchers) (one : KeptGets) → AreListed setup s pairs one
    → All (λ p. p.0 < n) one.views
views-known setup s n is pairs one lists = list-known (owns_view setup s) (views_test s) setup.pairs view_waits n is pairs one.views lists.views

pub viewports-known : (setup : Setup) (s : SessionNo) (n : ℕ) → length setup.pairs ≡ n → (pairs : List PairWatchers) (one : KeptGets)
    → AreListed setup s pairs one → All (λ p. p.0 < n) one.viewports
viewports-known setup s n is pairs one lists = list-known (owns_viewport setup s) (viewports_test s) setup.pairs viewport_waits n is pairs one.viewports
    lists.viewports
