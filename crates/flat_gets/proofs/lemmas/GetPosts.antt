-- What entries post of held gets.
use Rattle.std.proofs.Common.{◌≡◌, ◌≢◌, ◌∙◌, sym, subst, ℕ, zero, suc, ◌<◌, ◌≤◌, Bool, true, false, List, [], ◌∷◌, ◌++◌, length, map, refl, arith, ap, Some}
use Rattle.std.proofs.Common.{None, inl, inr, ◌⊎◌}
use Rattle.std.specs.Prelude.{cond, Option, flat_map, option_map, slice_get, unwrap_or, ◌==◌, ◌&&◌, nat_lt, nat_le}
use Rattle.std.proofs.lemmas.Bool.Decides.{nat_tests}
use Rattle.std.proofs.lemmas.List.{append-nil}
use Rattle.std.proofs.lemmas.Option.{slice_get_past}
use Rattle.flat_base.specs.declared.ids.Actor.{Actor}
use Rattle.flat_base.specs.declared.ids.Actor.TheVariants.{Display, Session, Probe}
use Rattle.flat_base.specs.declared.ids.PairNo.{PairNo}
use Rattle.flat_base.specs.declared.ids.SessionNo.{SessionNo}
use Rattle.flat_scene.specs.declared.calls.ViewportProps.{ViewportProps}
use Rattle.flat_scene.specs.declared.journal.Entry.{Entry}
use Rattle.flat_scene.specs.declared.journal.Event.{Event}
use Rattle.flat_scene.specs.declared.journal.EntryKind.{EntryKind}
use Rattle.flat_scene.specs.declared.journal.EntryKind.TheVariants.{View, Viewport}
use Rattle.flat_scene.specs.declared.journal.PostedEvent.{PostedEvent}
use Rattle.flat_scene.specs.declared.setup.PairDecl.{PairDecl}
use Rattle.flat_scene.specs.declared.setup.Setup.{Setup}
use Rattle.flat_scene.specs.Frames.{sessions_to, taken}
use Rattle.flat_scene.specs.History.{◌▹◌, is_begin, is_closed, is_finish}
use Rattle.flat_scene.specs.Setups.{is_declared}
use Rattle.flat_base.proofs.lemmas.Tests.{and-left}
use Rattle.flat_facts.specs.Begins.{finish_entry, finished, post_of, took_event}
use Rattle.flat_rules.specs.Ends.{is_done, pair_of, uses_view, view_owner, view_uses}
use Rattle.flat_gets.specs.Gets.{answers_to, helds_of}
use Rattle.flat_rules.specs.Legal.{Legal, MayEnter, is_frame_open, owns_view}
use Rattle.flat_rules.specs.Kinds.{is_get}
use Rattle.flat_rules.specs.Posts.{events_to, frame_took, told_event}
use Rattle.flat_rules.specs.AllPosts.{posts}
use Rattle.flat_rules.specs.Watch.{layout_of, status_of, child_of, told}
use Rattle.flat_states.proofs.lemmas.BeginLoop.{flat-on}
use Rattle.flat_facts.proofs.lemmas.Between.{events-joined}
use Rattle.flat_gets.proofs.lemmas.GetHistory.{events-finished, events-told}
use Rattle.flat_gets.proofs.GetSteps.{idle-kind, quiet-all, rests-refused}
use Rattle.flat_states.proofs.lemmas.BoardBegins.{posts-all}

-- ---- one session's posts

flat-past : {A : Type 0} (f : SessionNo → List A) (k n : ℕ) → n < k → ((m : ℕ) → m ≢ k → f (record { 0 = m }) ≡ []) → flat_map f (sessions_to n) ≡ []
flat-past f k zero past others = refl
flat-past f k (suc n) past others =
    let last : f (record { 0 = suc n }) ≡ [] = others (suc n) (λ same. absurd (omega (arith, past, same))) in
    flat-on f (sessions_to n) (record { 0 = suc n }) ∙ rw (flat-past f k n (omega (arith, past)) others, last) refl

flat-only : {A : Type 0} (f : SessionNo → List A) (k n : ℕ) → 0 < k → k ≤ n → ((m : ℕ) → m ≢ k → f (record { 0 = m }) ≡ [])
    → flat_map f (sessions_to n) ≡ f (record { 0 = k })
flat-only f k zero some within others = absurd (omega (arith, some, within))
flat-only {A = A} f k (suc n) some within others = flat-on f (sessions_to n) (record { 0 = suc n }) ∙ by_last (suc n == k) refl (flat-only f k n some)
  where
    by_last : (b : Bool) → (suc n == k) ≡ b → (k ≤ n → ((m : ℕ) → m ≢ k → f (record { 0 = m }) ≡ []) → flat_map f (sessions_to n) ≡ f (record { 0 = k }))
        → flat_map f (sessions_to n) ++ f (record { 0 = suc n }) ≡ f (record { 0 = k })
    by_last true same earlier =
        let number : suc n ≡ k = grind (arith, nat_tests) in
        let none : flat_map f (sessions_to n) ≡ [] = flat-past f k n (omega (arith, number)) others in
        ap (λ (l : List A). l ++ f (record { 0 = suc n })) none ∙ ap (λ (m : ℕ). f (record { 0 = m })) number
    by_last false other earlier =
        let differ : suc n ≢ k = λ equal. let wrong : (suc n == k) ≡ true = grind (arith, nat_tests) in let never : true ≡ false = sym wrong ∙ other in cc in
        let below : k ≤ n = omega (arith, within, differ) in
        let last : f (record { 0 = suc n }) ≡ [] = others (suc n) differ in
        ap (λ (l : List A). flat_map f (sessions_to n) ++ l) last ∙ append-nil (flat_map f (sessions_to n)) ∙ earlier below others

flat-nobody : {A : Type 0} (f : SessionNo → List A) (n : ℕ) → ((m : ℕ) → 0 < m → m ≤ n → f (record { 0 = m }) ≡ []) → flat_map f (sessions_to n) ≡ []
flat-nobody f zero none = refl
flat-nobody f (suc n) none =
    let last : f (record { 0 = suc n }) ≡ [] = none (suc n) (omega arith) (omega arith) in
    flat-on f (sessions_to n) (record { 0 = suc n }) ∙ rw (flat-nobody f n (λ m some within. none m some (omega (arith, within))), last) refl

shut-events : (closed owned : Bool) (all events : List Event) → events ≡ cond closed [] (cond owned all []) → (closed ≡ true) ⊎ (owned ≡ false) → events ≡ []
shut-events true owned all events is either = is
shut-events false false all events is either = is
shut-events false true all events is (inl wrong) = cc
shut-events false true all events is (inr wrong) = cc

-- ---- a viewport's entry

module _ (setup : Setup) (h : List Entry) (e : Entry) (legal : Legal setup (h ▹ e)) (q : PairNo) (props : ViewportProps) (is : e.kind ≡ Viewport q props) where
  abbrev IsPlainKind : EntryKind → Type 0
  IsPlainKind kind = (is_finish kind ≡ false) × ((is_begin kind ≡ false) × (is_get kind ≡ false))

  kind-is : IsPlainKind e.kind
  kind-is = subst IsPlainKind (sym is) (refl, (refl, refl))

  posts-none : ((m : ℕ) → 0 < m → m ≤ setup.sessions → events_to setup h e (record { 0 = m }) ≡ []) → posts setup (h ▹ e) ≡ posts setup h
  posts-none none =
      posts-all setup h e
      ∙ ap (λ (l : List PostedEvent). posts setup h ++ l) (flat-nobody (λ s. map (post_of (length h) s) (events_to setup h e s)) setup.sessions
      (λ m some within. ap (map (post_of (length h) (record { 0 = m }))) (none m some within)))
      ∙ append-nil (posts setup h)

  -- a session that doesn't own the pair's view is told nothing
  events-unowned : (s : SessionNo) → owns_view setup s q ≡ false → events_to setup h e s ≡ []
  events-unowned s foreign = shut-events (is_closed s (h ▹ e)) (owns_view setup s q) _ (events_to setup h e s) (events-joined setup h e legal s q props is)
      (inr foreign)

  events-closed : (s : SessionNo) → is_closed s (h ▹ e) ≡ true → events_to setup h e s ≡ []
  events-closed s closed = shut-events (is_closed s (h ▹ e)) (owns_view setup s q) _ (events_to setup h e s) (events-joined setup h e legal s q props is)
      (inl closed)

  -- where the owner of the pair's view is open, the held gets of that view are answered, and nothing else is posted
  pub joined-posts : (t : SessionNo) → is_declared setup t ≡ true → owns_view setup t q ≡ true → is_closed t (h ▹ e) ≡ false
      → posts setup (h ▹ e) ≡ posts setup h ++ map (post_of (length h) t) (told_event setup q (layout_of q) h e ++ told_event setup q (status_of q) h e)
  joined-posts t declared owned opened =
      let f : SessionNo → List PostedEvent = λ s. map (post_of (length h) s) (events_to setup h e s) in
      let some : 0 < t.0 = grind (arith, nat_tests) in
      let within : t.0 ≤ setup.sessions = grind (arith, nat_tests) in
      let all : List Event = told_event setup q (layout_of q) h e ++ told_event setup q (status_of q) h e in
      let own : events_to setup h e t ≡ all = events-joined setup h e legal t q props is
      ∙ ap (λ (b : Bool). cond b [] (cond (owns_view setup t q) all [])) opened ∙ ap (λ (b : Bool). cond b all []) owned in
      posts-all setup h e ∙ ap (λ (l : List PostedEvent). posts setup h ++ l)
      (flat-only f t.0 setup.sessions some within (λ m other. ap (map (post_of (length h) (record { 0 = m })))
      (events-unowned (record { 0 = m }) (not-owner m other))))
      ∙ ap (λ (l : List Event). posts setup h ++ map (post_of (length h) t) l) own
    where
      not-owner : (m : ℕ) → m ≢ t.0 → owns_view setup (record { 0 = m }) q ≡ false
      not-owner m other = by_owner (view_owner setup q) owned
        where
          by_owner : (o : Option SessionNo) → unwrap_or (option_map (λ u. u.0 == t.0) o) false ≡ true → unwrap_or (option_map (λ u. u.0 == m) o) false ≡ false
          by_owner None mine = refl
          by_owner (Some u) mine =
              let same : u.0 ≡ t.0 = grind (arith, nat_tests) in
              let differ : u.0 ≢ m = λ equal. other (sym equal ∙ same) in
              grind (arith, nat_tests)

  pub one-owner : (o : Option SessionNo) (s t : SessionNo) → unwrap_or (option_map (λ u. u.0 == s.0) o) false ≡ true
      → unwrap_or (option_map (λ u. u.0 == t.0) o) false ≡ true → s.0 ≡ t.0
  one-owner None s t a b = cc
  one-owner (Some u) s t a b = grind (arith, nat_tests)

  -- where it is closed or not declared, nothing is posted
  pub closed-posts : (t : SessionNo) → owns_view setup t q ≡ true → is_closed t (h ▹ e) ≡ true → posts setup (h ▹ e) ≡ posts setup h
  closed-posts t owned closed = posts-none (λ m some within. by_owner m (owns_view setup (record { 0 = m }) q) refl)
    where
      by_owner : (m : ℕ) (b : Bool) → owns_view setup (record { 0 = m }) q ≡ b → events_to setup h e (record { 0 = m }) ≡ []
      by_owner m false foreign = events-unowned (record { 0 = m }) foreign
      by_owner m true mine =
          let same : t.0 ≡ m = one-owner (view_owner setup q) t (record { 0 = m }) owned mine in
          events-closed (record { 0 = m }) (subst (λ (n : ℕ). is_closed (record { 0 = n }) (h ▹ e) ≡ true) same closed)

  pub foreign-posts : (t : SessionNo) → owns_view setup t q ≡ true → is_declared setup t ≡ false → posts setup (h ▹ e) ≡ posts setup h
  foreign-posts t owned out = posts-none (λ m some within. by_owner m some within (owns_view setup (record { 0 = m }) q) refl)
    where
      by_owner : (m : ℕ) → 0 < m → m ≤ setup.sessions → (b : Bool) → owns_view setup (record { 0 = m }) q ≡ b → events_to setup h e (record { 0 = m }) ≡ []
      by_owner m some within false foreign = events-unowned (record { 0 = m }) foreign
      by_owner m some within true mine =
          let same : t.0 ≡ m = one-owner (view_owner setup q) t (record { 0 = m }) owned mine in
          let declared : (nat_lt 0 t.0 && nat_le t.0 setup.sessions) ≡ true = grind (arith, nat_tests) in
          let wrong : true ≡ false = sym declared ∙ out in cc

  -- and nothing where the use is refused
  pub refused-posts : is_done e.reply ≡ false → posts setup (h ▹ e) ≡ posts setup h
  refused-posts refused = posts-none (λ m some within. by_closed (record { 0 = m }) (is_closed (record { 0 = m }) (h ▹ e)) refl)
    where
      by_closed : (s : SessionNo) → (b : Bool) → is_closed s (h ▹ e) ≡ b → events_to setup h e s ≡ []
      by_closed s true closed = events-closed s closed
      by_closed s false opened =
          events-told setup s h e kind-is.0 kind-is.1.0 opened
          ∙ quiet-all setup h e s opened (λ w heard. (idle-kind setup h e kind-is.1.1 w, rests-refused setup h e legal q props is refused w))

-- ---- the end of a frame

-- ---- what isn't declared

-- the view end of a pair that isn't declared is used by nobody, and nothing is told of it
view-unused : (setup : Setup) (h : List Entry) → Legal setup h → (p : PairNo) → pair_of setup p ≡ None → view_uses p h ≡ []
view-unused setup [] legal p none = refl
view-unused setup (h ▹ e) legal p none = ap (λ (b : Bool). cond (b && is_done e.reply) (e ∷ view_uses p h) (view_uses p h))
    (by_actor e.actor e.kind legal.1.may) ∙ view-unused setup h legal.0 p none
  where
    by_actor : (who : Actor) (kind : EntryKind) → MayEnter setup h who e.calls kind → uses_view p kind ≡ false
    by_actor Display (View q) may = let wrong : false ≡ true = may.acts in cc
    by_actor (Probe n) (View q) may = let wrong : false ≡ true = may.acts in cc
    by_actor (Session t) (View q) may = by_pair (q.0 == p.0) refl
      where
        by_pair : (b : Bool) → (q.0 == p.0) ≡ b → b ≡ false
        by_pair false differ = refl
        by_pair true same =
            let number : q.0 ≡ p.0 = grind (arith, nat_tests) in
            let owned : owns_view setup t q ≡ true = and-left (owns_view setup t q) _ may.owned in
            let gone : pair_of setup q ≡ None = ap (slice_get setup.pairs) number ∙ none in
            let wrong : owns_view setup t q ≡ false = ap (λ (o : Option PairDecl). unwrap_or (option_map (λ u. u.0 == t.0) (option_map (λ pair. pair.view) o))
            false) gone in
            sym owned ∙ wrong
    by_actor who kind may = refl

pub undeclared-untold : (setup : Setup) (h : List Entry) → Legal setup h → (p : PairNo) → length setup.pairs ≤ p.0
    → (told setup h (layout_of p) ≡ None) × ((told setup h (status_of p) ≡ None) × ((n : ℕ) → told setup h (child_of p n) ≡ None))
undeclared-untold setup h legal p past =
    let none : pair_of setup p ≡ None = slice_get_past setup.pairs p.0 past in
    let unused : nat_lt 0 (length (view_uses p h)) ≡ false = ap (λ (l : List Entry). nat_lt 0 (length l)) (view-unused setup h legal p none) in
    (rw (none, unused) refl, (rw (none, unused) refl, λ n. rw none refl))
