-- The view that a session's calls leave it: that of its draft, and its last one, where that isn't ended.
use Rattle.std.proofs.Common.{◌≡◌, ◌∙◌, sym, ℕ, ◌+◌, Bool, true, false, List, [], ◌∷◌, ◌++◌, refl, ap, Some, None, Ok, Err, inl, inr, ◌⊎◌, arith}
use Rattle.std.specs.Prelude.{cond, Option}
use Rattle.std.proofs.lemmas.Bool.Decides.{nat_tests}
use Rattle.flat_base.specs.declared.errors.Reason.{Reason}
use Rattle.flat_base.specs.declared.ids.PairNo.{PairNo}
use Rattle.flat_base.specs.declared.ids.SessionNo.{SessionNo}
use Rattle.flat_scene.specs.declared.calls.Call.{Call}
use Rattle.flat_scene.specs.declared.calls.Call.TheVariants.{CreateView, ReleaseView, Clear}
use Rattle.flat_scene.specs.declared.journal.Entry.{Entry}
use Rattle.flat_scene.specs.declared.setup.Setup.{Setup}
use Rattle.flat_scene.specs.Draft.{Draft, empty_draft}
use Rattle.flat_scene.specs.Effect.{effect, after_calls, unless, draft_of}
use Rattle.flat_scene.specs.History.{◌▹◌, calls, is_closed, is_session}
use Rattle.flat_scene.specs.Misuse.{misuse}
use Rattle.flat_rules.specs.Ends.{times, ends_view, happens}
use Rattle.flat_rules.specs.Legal.{Legal, number_if, owns_view}
use Rattle.flat_rules.specs.Shown.{is_pair}
use Rattle.flat_facts.specs.Views.{view_then, view_after, ends_it, ends_of, if_unended, last_view}
use Rattle.flat_facts.proofs.lemmas.LiveCounts.{count-is}
use Rattle.flat_facts.proofs.lemmas.ViewCalls.{after-refused}
use Rattle.flat_facts.proofs.lemmas.ViewHistory.{viewing-of}

-- ---- how calls end a view

call-view : (d : Draft) (call : Call) → (effect d call).view ≡ view_then d.view call
call-view d (CreateView p) = refl
call-view d ReleaseView = refl
call-view d Clear = refl
call-view d _ = refl

call-ends : (p : PairNo) (d : Draft) (call : Call) → ends_view p d call ≡ ends_it p d.view call
call-ends p d ReleaseView = refl
call-ends p d Clear = refl
call-ends p d _ = refl

-- The view after calls without a misuse, and how often they end that of a pair.
pub record Viewed (setup : Setup) (d : Draft) (calls : List Call) (d' : Draft) : Type 0 where
  pub view : d'.view ≡ view_after d.view calls
  pub ends : (p : PairNo) → times setup (ends_view p) (Ok d) calls ≡ ends_of p d.view calls

viewed-more : (setup : Setup) (d : Draft) (call : Call) (calls : List Call) (d' : Draft) → (reason : Option Reason) → misuse setup d call ≡ reason
    → (after_calls setup (Ok (effect d call)) calls ≡ Ok d' → Viewed setup (effect d call) calls d')
    → after_calls setup (unless reason (effect d call)) calls ≡ Ok d' → Viewed setup d (call ∷ calls) d'
viewed-more setup d call calls d' (Some reason) is rest good = let wrong : Err reason ≡ Ok d' = sym (after-refused setup reason calls) ∙ good in cc
viewed-more setup d call calls d' None is rest good =
    let later = rest good in
    record {
      view = later.view ∙ ap (λ (v : Option PairNo). view_after v calls) (call-view d call);
      ends = λ p.
          rw is (ap (λ (n : ℕ). n + times setup (ends_view p) (Ok (effect d call)) calls) (count-is (ends_view p d call) ∙ ap number_if (call-ends p d call))
          ∙ ap (λ (n : ℕ). number_if (ends_it p d.view call) + n) (later.ends p ∙ ap (λ (v : Option PairNo). ends_of p v calls) (call-view d call)));
    }

pub viewed : (setup : Setup) (d : Draft) (calls : List Call) (d' : Draft) → after_calls setup (Ok d) calls ≡ Ok d' → Viewed setup d calls d'
viewed setup d [] d' good = let same : d ≡ d' = cc in record { view = ap (λ (x : Draft). x.view) (sym same); ends = λ p. refl }
viewed setup d (call ∷ calls) d' good = viewed-more setup d call calls d' (misuse setup d call) refl (λ rest. viewed setup (effect d call) calls d' rest) good

view-append : (view : Option PairNo) (xs ys : List Call) → view_after view (xs ++ ys) ≡ view_after (view_after view xs) ys
view-append view [] ys = refl
view-append view (x ∷ xs) ys = view-append (view_then view x) xs ys

-- the view that a session's calls leave it, and that of its draft
pub view-own : (s : SessionNo) (h : List Entry) (e : Entry) → is_session s e.actor ≡ true
    → view_after None (calls s (h ▹ e)) ≡ view_after (view_after None (calls s h)) e.calls
view-own s h e mine = rw mine (view-append None (calls s h) e.calls)

pub view-other : (s : SessionNo) (h : List Entry) (e : Entry) → is_session s e.actor ≡ false → view_after None (calls s (h ▹ e)) ≡ view_after None (calls s h)
view-other s h e other = rw other refl

pub view-drafted : (setup : Setup) (cs : List Call) (d : Draft) → draft_of setup cs ≡ Ok d → d.view ≡ view_after None cs
view-drafted setup cs d good = (viewed setup empty_draft cs d good).view

-- ---- the last view

-- an ended view isn't held, and one that is held is the last
left-by : (setup : Setup) (s : SessionNo) (h : List Entry) (view : Option PairNo) (last : Option PairNo) (is_ended : PairNo → Bool)
    → ((p : PairNo) → is_pair view p ≡ true → (is_ended p ≡ false) × (last ≡ Some p))
    → ((q : PairNo) → last ≡ Some q → (is_pair view q ≡ true) ⊎ (is_ended q ≡ true)) → view ≡ if_unended last is_ended
left-by setup s h (Some p) last is_ended held standing =
    let here = held p (grind (arith, nat_tests)) in
    sym (ap (λ (o : Option PairNo). if_unended o is_ended) here.1 ∙ ap (λ b. cond b None (Some p)) here.0)
left-by setup s h None None is_ended held standing = refl
left-by setup s h None (Some q) is_ended held standing = by_case (standing q refl)
  where
    by_case : (false ≡ true) ⊎ (is_ended q ≡ true) → None ≡ cond (is_ended q) None (Some q)
    by_case (inl wrong) = cc
    by_case (inr gone) = sym (ap (λ b. cond b None (Some q)) gone)

-- of a session that is open, where it is known which of its views have ended
pub view-left : (setup : Setup) (s : SessionNo) (h : List Entry) → Legal setup h → is_closed s h ≡ false
    → (is_ended : PairNo → Bool) → ((p : PairNo) → owns_view setup s p ≡ true → is_ended p ≡ happens setup (ends_view p) (calls s h))
    → view_after None (calls s h) ≡ if_unended (last_view s h) is_ended
view-left setup s h legal opened is_ended knows =
    let view = viewing-of setup s h legal opened in
    sym (view-drafted setup (calls s h) view.draft view.good)
    ∙ left-by setup s h view.draft.view (last_view s h) is_ended
    (λ p here. let was = view.held p here in (knows p was.0 ∙ was.2, was.3))
    (λ q is. let own = view.made q is in by_case view.draft.view q own.0 (view.standing q own.0 own.1))
  where
    by_case : (left : Option PairNo) (q : PairNo) → owns_view setup s q ≡ true → (is_pair left q ≡ true) ⊎ (happens setup (ends_view q) (calls s h) ≡ true)
        → (is_pair left q ≡ true) ⊎ (is_ended q ≡ true)
    by_case left q own (inl here) = inl here
    by_case left q own (inr gone) = inr (knows q own ∙ gone)
