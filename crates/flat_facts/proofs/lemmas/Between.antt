-- What entries between frames post: credits at a begin, and what a viewport's join tells the view's owner. Others post nothing.
use Rattle.std.proofs.Common.{◌≡◌, ◌∙◌, sym, subst, ℕ, zero, suc, ◌+◌, ◌≢◌, Bool, true, false, List, [], ◌∷◌, ◌++◌, length, refl, arith, ap, Option, Some, None}
use Rattle.std.proofs.Common.{add-zero}
use Rattle.std.specs.Prelude.{cond, ◌&&◌, ◌==◌, nat_lt, flat_map, map, option_map, unwrap_or, slice_get}
use Rattle.std.proofs.lemmas.Bool.Decides.{nat_tests}
use Rattle.std.proofs.lemmas.List.{append-nil}
use Rattle.flat_base.specs.declared.ids.PairNo.{PairNo}
use Rattle.flat_base.specs.declared.ids.SessionNo.{SessionNo}
use Rattle.flat_scene.specs.declared.calls.ViewportProps.{ViewportProps}
use Rattle.flat_scene.specs.declared.journal.Entry.{Entry}
use Rattle.flat_scene.specs.declared.journal.Event.{Event}
use Rattle.flat_scene.specs.declared.journal.EntryKind.{EntryKind}
use Rattle.flat_scene.specs.declared.journal.EntryKind.TheVariants.{View, Viewport}
use Rattle.flat_scene.specs.declared.journal.Reply.{Reply}
use Rattle.flat_scene.specs.declared.journal.Reply.TheVariants.{Done}
use Rattle.flat_scene.specs.declared.setup.PairDecl.{PairDecl}
use Rattle.flat_scene.specs.declared.setup.Setup.{Setup}
use Rattle.flat_scene.specs.Frames.{sessions_to}
use Rattle.flat_scene.specs.History.{◌▹◌, own, is_session, is_begin, is_finish, is_closed}
use Rattle.flat_rules.specs.Ends.{view_uses, uses_view, uses_viewport, is_done, pairs_where, views_of}
use Rattle.flat_rules.specs.Legal.{Legal, reply_to, refused_token, owns_view}
use Rattle.flat_rules.specs.Posts.{told_event, news_for, events_to, at_begin, posted, Sent}
use Rattle.flat_rules.specs.Watch.{layout_of, status_of}
use Rattle.flat_rules.proofs.lemmas.ListLemmas.{flat_map-none}
use Rattle.flat_rules.proofs.lemmas.ShownSteps.{closed-before}
use Rattle.flat_rules.proofs.lemmas.Still.{IsStill, IsSilent, still-silent, told-unheld, told-nothing, told-same, news-silent, news-between}
use Rattle.flat_facts.proofs.lemmas.Unwatched.{unwatched, is_layout, is_status}
use Rattle.flat_facts.proofs.lemmas.ViewHistory.{used_in}
use Rattle.flat_rules.proofs.lemmas.EventsLocal.{hears-view, flat-same, views-owned}
use Rattle.flat_facts.proofs.lemmas.Tests.{same-pair}
use Rattle.flat_rules.proofs.lemmas.OwnedTree.{pair_no}

-- whether an entry uses a viewport end, or is refused it
abbrev pub is_viewport : EntryKind → Bool
is_viewport (Viewport p props) = true
is_viewport _ = false

-- ---- a view that is made

-- a view that isn't refused wasn't made before
pub fresh-view : (n : ℕ) (reply : Reply) (b : Bool) → (n == 0) ≡ b → reply ≡ cond b Done refused_token → is_done reply ≡ true → nat_lt 0 n ≡ false
fresh-view n reply true is replied done = grind (arith, nat_tests)
fresh-view n reply false is replied done = let wrong : false ≡ true = ap is_done (sym replied) ∙ done in cc

module _ (setup : Setup) (before : List Entry) (e : Entry) (legal : Legal setup (before ▹ e)) where
  -- the entries between frames that use no viewport end leave a session's views silent
  view-silent : (s : SessionNo) → is_closed s before ≡ false → (q : PairNo) → e.kind ≡ View q → IsSilent setup s before e
  view-silent s opened q is p owned = by_pair (q.0 == p.0) refl (is_done e.reply) refl
    where
      K : EntryKind → Type 0
      K kind = (is_finish kind ≡ false) × (uses_viewport p kind ≡ false) × (uses_view p kind ≡ (q.0 == p.0))

      kind_is : K e.kind
      kind_is = subst K (sym is) (refl, refl, refl)

      still : (uses_view p e.kind && is_done e.reply) ≡ false
          → (told_event setup p (layout_of p) before e ≡ []) × (told_event setup p (status_of p) before e ≡ [])
      still none =
          let at : IsStill p e = record { no_finish = kind_is.0; no_view = none; no_viewport = rw kind_is.1 refl } in (
            told-nothing setup p (layout_of p) before e (told-same setup (layout_of p) before e at) (hears-view setup _ s before owned opened),
            told-nothing setup p (status_of p) before e (told-same setup (status_of p) before e at) (hears-view setup _ s before owned opened),
          )

      by_pair : (b : Bool) → (q.0 == p.0) ≡ b → (c : Bool) → is_done e.reply ≡ c
          → (told_event setup p (layout_of p) before e ≡ []) × (told_event setup p (status_of p) before e ≡ [])
      by_pair false other c done = still (rw (kind_is.2, other) refl)
      by_pair true here false done = still (rw (kind_is.2, here, done) refl)
      by_pair true here true done =
          let pair : q ≡ p = same-pair q p here in
          let R : EntryKind → Type 0 = λ kind. e.reply ≡ reply_to setup before e.actor e.calls kind in
          let replied : e.reply ≡ cond (length (view_uses q before) == 0) Done refused_token = subst R is legal.1.reply in
          let unused : used_in before q ≡ false = fresh-view (length (view_uses q before)) e.reply (length (view_uses q before) == 0) refl replied done in
          let U : PairNo → Type 0 = λ r. used_in before r ≡ false in
          let none : used_in before p ≡ false = subst U pair unused in (
            told-unheld setup p (layout_of p) before e (rw (unwatched setup p before (layout_of p) is_layout legal.0 none) refl),
            told-unheld setup p (status_of p) before e (rw (unwatched setup p before (status_of p) is_status legal.0 none) refl),
          )

  silent-by : (s : SessionNo) → is_closed s before ≡ false → (kind : EntryKind) → e.kind ≡ kind → is_finish kind ≡ false → is_viewport kind ≡ false
      → IsSilent setup s before e
  silent-by s opened (View q) is no_finish no_viewport = view-silent s opened q is
  silent-by s opened (Viewport q props) is no_finish no_viewport = let wrong : true ≡ false = no_viewport in cc
  silent-by s opened kind is no_finish no_viewport = still-silent setup s before e opened
      (λ p owned. record { no_finish = rw is no_finish; no_view = rw is refl; no_viewport = rw is refl })

  -- an entry that ends no frame and uses no viewport end posts credits, where it begins a frame, and nothing else
  pub events-between : (s : SessionNo) → is_finish e.kind ≡ false → is_viewport e.kind ≡ false
      → events_to setup before e s ≡ cond (is_closed s (before ▹ e)) [] (cond (is_begin e.kind) (at_begin setup before e s) [])
  events-between s no_finish no_viewport = by_closed (is_closed s (before ▹ e)) refl
    where
      by_closed : (b : Bool) → is_closed s (before ▹ e) ≡ b
          → cond b [] (news_for setup before e s) ≡ cond b [] (cond (is_begin e.kind) (at_begin setup before e s) [])
      by_closed true closed = refl
      by_closed false opened =
          let open_before : is_closed s before ≡ false = closed-before (is_session s e.actor) e (own s before) opened in
          news-silent setup s before e no_finish open_before (silent-by s open_before e.kind refl no_finish no_viewport)

  none-closed : (b : Bool) (news : List Event) → news ≡ [] → cond b [] news ≡ []
  none-closed true news none = refl
  none-closed false news none = none

  -- so one that is of no frame posts nothing
  pub posted-between : is_begin e.kind ≡ false → is_finish e.kind ≡ false → is_viewport e.kind ≡ false → posted setup before e ≡ []
  posted-between no_begin no_finish no_viewport =
      let none : (s : SessionNo) → events_to setup before e s ≡ [] =
      λ s. events-between s no_finish no_viewport ∙ none-closed (is_closed s (before ▹ e)) _ (rw no_begin refl) in
      let sent : SessionNo → List Sent = λ s. map (λ event. record { to = s; event = event }) (events_to setup before e s) in
      flat_map-none sent (sessions_to setup.sessions) (λ s. rw (none s) refl)

-- ---- a viewport's join

-- where one pair alone gives something
flat-first : (f : PairNo → List Event) (b : Bool) (p : PairNo) (more : List PairNo) → f p ≡ [] → flat_map f (cond b (p ∷ more) more) ≡ flat_map f more
flat-first f true p more none = rw none refl
flat-first f false p more none = refl

flat-here : (f : PairNo → List Event) (b : Bool) (p : PairNo) (more : List PairNo) → flat_map f more ≡ []
    → flat_map f (cond b (p ∷ more) more) ≡ cond b (f p) []
flat-here f true p more none = ap (λ (l : List Event). f p ++ l) none ∙ append-nil (f p)
flat-here f false p more none = none

none-later : (f : PairNo → List Event) (test : PairDecl → Bool) (n k : ℕ) (pairs : List PairDecl) → ((m : ℕ) → m ≢ k → f (pair_no m) ≡ []) → nat_lt k n ≡ true
    → flat_map f (pairs_where test n pairs) ≡ []
none-later f test n k [] others less = refl
none-later f test n k (pair ∷ pairs) others less =
    flat-first f (test pair) (pair_no n) (pairs_where test (n + 1) pairs) (others n (λ same. let wrong : nat_lt k n ≡ false = grind (arith, nat_tests) in cc))
    ∙ none-later f test (n + 1) k pairs others (grind (arith, nat_tests))

flat-one : (f : PairNo → List Event) (test : PairDecl → Bool) (n k : ℕ) (pairs : List PairDecl) → ((m : ℕ) → m ≢ n + k → f (pair_no m) ≡ [])
    → flat_map f (pairs_where test n pairs) ≡ cond (unwrap_or (option_map test (slice_get pairs k)) false) (f (pair_no (n + k))) []
flat-one f test n k [] others = refl
flat-one f test n zero (pair ∷ pairs) others =
    let later : flat_map f (pairs_where test (n + 1) pairs) ≡ [] =
    none-later f test (n + 1) n pairs (λ m other. others m (λ same. other (omega arith))) (grind (arith, nat_tests)) in
    flat-here f (test pair) (pair_no n) (pairs_where test (n + 1) pairs) later ∙ ap (λ (m : ℕ). cond (test pair) (f (pair_no m)) []) (sym (add-zero n))
flat-one f test n (suc k) (pair ∷ pairs) others =
    let place : n + 1 + k ≡ n + suc k = omega arith in
    flat-first f (test pair) (pair_no n) (pairs_where test (n + 1) pairs) (others n (λ same. absurd (omega arith)))
    ∙ flat-one f test (n + 1) k pairs (λ m other. others m (λ same. other (omega arith)))
    ∙ ap (λ (m : ℕ). cond (unwrap_or (option_map test (slice_get pairs k)) false) (f (pair_no m)) []) place

-- what is asked of an owner is asked of its pair
pub view-nested : (s : SessionNo) (o : Option PairDecl)
    → unwrap_or (option_map (λ (pair : PairDecl). pair.view.0 == s.0) o) false
    ≡ unwrap_or (option_map (λ (t : SessionNo). t.0 == s.0) (option_map (λ (pair : PairDecl). pair.view) o)) false
view-nested s None = refl
view-nested s (Some pair) = refl

pub viewport-nested : (s : SessionNo) (o : Option PairDecl)
    → unwrap_or (option_map (λ (pair : PairDecl). is_session s pair.viewport) o) false
    ≡ unwrap_or (option_map (is_session s) (option_map (λ (pair : PairDecl). pair.viewport) o)) false
viewport-nested s None = refl
viewport-nested s (Some pair) = refl

-- of all pairs whose view end a session owns
views-at : (setup : Setup) (s : SessionNo) (q : PairNo) (f : PairNo → List Event) → ((p : PairNo) → p.0 ≢ q.0 → f p ≡ [])
    → flat_map f (views_of setup s) ≡ cond (owns_view setup s q) (f q) []
views-at setup s q f others =
    let test : PairDecl → Bool = λ pair. pair.view.0 == s.0 in
    let place : 0 + q.0 ≡ q.0 = omega arith in
    flat-one f test 0 q.0 setup.pairs (λ m other. others (pair_no m) (λ same. other (omega (arith, same))))
    ∙ ap (λ (m : ℕ). cond (unwrap_or (option_map test (slice_get setup.pairs q.0)) false) (f (pair_no m)) []) place
    ∙ ap (λ b. cond b (f q) []) (view-nested s (slice_get setup.pairs q.0))

owned-none : (b : Bool) (xs : List Event) → (b ≡ true → xs ≡ []) → cond b xs [] ≡ []
owned-none true xs none = none refl
owned-none false xs none = refl

cond-twice : (b : Bool) (xs : List Event) → cond b (cond b xs []) [] ≡ cond b xs []
cond-twice true xs = refl
cond-twice false xs = refl

-- the same where only those that it owns are asked
pub views-one : (setup : Setup) (s : SessionNo) (q : PairNo) (f : PairNo → List Event) → ((p : PairNo) → p.0 ≢ q.0 → owns_view setup s p ≡ true → f p ≡ [])
    → flat_map f (views_of setup s) ≡ cond (owns_view setup s q) (f q) []
views-one setup s q f others =
    let g : PairNo → List Event = λ p. cond (owns_view setup s p) (f p) [] in
    flat-same (owns_view setup s) f g (λ p owned. rw owned refl) (views_of setup s) (views-owned setup s)
    ∙ views-at setup s q g (λ p other. owned-none (owns_view setup s p) (f p) (others p other)) ∙ cond-twice (owns_view setup s q) (f q)

both-cond : (b : Bool) (xs ys : List Event) → (cond b xs [] ++ cond b ys [] ++ [] ++ [] ++ []) ≡ cond b (xs ++ ys) []
both-cond true xs ys = append-nil (xs ++ ys ++ [] ++ []) ∙ append-nil (xs ++ ys ++ []) ∙ append-nil (xs ++ ys)
both-cond false xs ys = refl

module _ (setup : Setup) (before : List Entry) (e : Entry) (legal : Legal setup (before ▹ e)) where
  other-silent : (s : SessionNo) → is_closed s before ≡ false → (q p : PairNo) → p.0 ≢ q.0 → uses_view p e.kind ≡ false → uses_viewport p e.kind ≡ (q.0 == p.0)
      → is_finish e.kind ≡ false → owns_view setup s p ≡ true
      → (told_event setup p (layout_of p) before e ≡ []) × (told_event setup p (status_of p) before e ≡ [])
  other-silent s opened q p other no_view uses no_finish owned =
      let differ : (q.0 == p.0) ≡ false = grind (arith, nat_tests) in
      let at : IsStill p e = record { no_finish = no_finish; no_view = rw no_view refl; no_viewport = rw (uses, differ) refl } in (
        told-nothing setup p (layout_of p) before e (told-same setup (layout_of p) before e at) (hears-view setup _ s before owned opened),
        told-nothing setup p (status_of p) before e (told-same setup (status_of p) before e at) (hears-view setup _ s before owned opened),
      )

  -- the kind's tests
  abbrev IsJoin : PairNo → EntryKind → Type 0
  IsJoin q kind = (is_finish kind ≡ false) × (is_begin kind ≡ false) × ((p : PairNo) → (uses_view p kind ≡ false) × (uses_viewport p kind ≡ (q.0 == p.0)))

  joined-kind : (q : PairNo) (props : ViewportProps) → e.kind ≡ Viewport q props → IsJoin q e.kind
  joined-kind q props is = subst (IsJoin q) (sym is) (refl, refl, λ p. (refl, refl))

  -- a viewport's entry tells the owner of the pair's view of its layout and its status, and nobody else anything
  pub events-joined : (s : SessionNo) (q : PairNo) (props : ViewportProps) → e.kind ≡ Viewport q props
      → events_to setup before e s
      ≡ cond (is_closed s (before ▹ e)) [] (cond (owns_view setup s q) (told_event setup q (layout_of q) before e ++ told_event setup q (status_of q) before e)
      [])
  events-joined s q props is = by_closed (is_closed s (before ▹ e)) refl
    where
      k : IsJoin q e.kind
      k = joined-kind q props is

      by_closed : (b : Bool) → is_closed s (before ▹ e) ≡ b → cond b [] (news_for setup before e s)
          ≡ cond b [] (cond (owns_view setup s q) (told_event setup q (layout_of q) before e ++ told_event setup q (status_of q) before e) [])
      by_closed true closed = refl
      by_closed false opened =
          let open_before : is_closed s before ≡ false = closed-before (is_session s e.actor) e (own s before) opened in
          let silent = λ (p : PairNo) (other : p.0 ≢ q.0) (owned : owns_view setup s p ≡ true). other-silent s open_before q p other (k.2 p).0 (k.2 p).1 k.0
          owned in
          let layouts = views-one setup s q (λ p. told_event setup p (layout_of p) before e) (λ p other owned. (silent p other owned).0) in
          let statuses = views-one setup s q (λ p. told_event setup p (status_of p) before e) (λ p other owned. (silent p other owned).1) in
          news-between setup s before e k.0 open_before ∙ rw (layouts, statuses, k.1)
          (both-cond (owns_view setup s q) (told_event setup q (layout_of q) before e) (told_event setup q (status_of q) before e))
