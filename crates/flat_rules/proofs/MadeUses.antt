-- A session that is open has a viewport of a pair only where an entry used the pair's viewport end.
use Rattle.std.proofs.Common.{◌≡◌, ◌∙◌, ℕ, suc, ◌-◌, Bool, true, false, cond, ◌&&◌, ◌==◌, nat_lt, List, [], ◌∷◌, ◌++◌, length, refl, sym, ap, subst, arith}
use Rattle.std.proofs.Common.{Option, Some, None, Result, Ok, Err}
use Rattle.std.specs.Prelude.{◌||◌, slice_get}
use Rattle.std.specs.List.{list_all, list_any}
use Rattle.std.proofs.lemmas.Bool.{and_from, not-true}
use Rattle.std.proofs.lemmas.Bool.Decides.{nat_tests}
use Rattle.std.proofs.lemmas.Grind.{common_steps}
use Rattle.flat_base.specs.declared.errors.Reason.{Reason}
use Rattle.flat_base.specs.declared.ids.PairNo.{PairNo}
use Rattle.flat_base.specs.declared.ids.SessionNo.{SessionNo}
use Rattle.flat_scene.specs.declared.calls.Call.{Call}
use Rattle.flat_scene.specs.declared.calls.Call.TheVariants.{CreateView, CreateViewport, SetViewportProperties, CreateImage, SetImageSampleRegion}
use Rattle.flat_scene.specs.declared.calls.Call.TheVariants.{SetImageDestinationSize, SetImageBlendingFunction, SetImageFlip, SetImageOpacity, CreateFilledRect}
use Rattle.flat_scene.specs.declared.calls.Call.TheVariants.{SetSolidFill}
use Rattle.flat_scene.specs.declared.calls.ViewportProps.{ViewportProps}
use Rattle.flat_scene.specs.declared.journal.Entry.{Entry}
use Rattle.flat_scene.specs.declared.journal.EntryKind.{EntryKind}
use Rattle.flat_scene.specs.declared.journal.EntryKind.TheVariants.{View, Viewport, Close}
use Rattle.flat_scene.specs.declared.journal.Reply.TheVariants.{Done}
use Rattle.flat_scene.specs.declared.setup.Setup.{Setup}
use Rattle.flat_scene.specs.Draft.{Draft, Image, Solid, Made, an_image, a_fill, a_viewport, content_of, empty_draft}
use Rattle.flat_scene.specs.Effect.{effect, on_image, on_viewport, on_fill, draft_of, after_call, after_calls, unless, changed_if}
use Rattle.flat_scene.specs.History.{◌▹◌, own, is_session, is_closed, closes, calls}
use Rattle.flat_scene.specs.Misuse.{misuse}
use Rattle.flat_base.proofs.lemmas.Tests.{and-left, and-right}
use Rattle.flat_rules.specs.Ends.{viewport_uses, uses_viewport, is_done}
use Rattle.flat_rules.specs.Legal.{Legal, LegalEntry, is_link, all_but_last, links_alone, own_call, makes_view, makes_viewport, has_token, refused_token}
use Rattle.flat_rules.specs.Legal.{reply_to}
use Rattle.flat_rules.proofs.lemmas.AllOrSome.{all-append}
use Rattle.flat_rules.proofs.CloseLemmas.{close-refused}
use Rattle.flat_rules.proofs.FairDrafts.{all-changed-if}
use Rattle.flat_rules.proofs.lemmas.Locality.{same-number}
use Rattle.flat_rules.proofs.lemmas.ShownSteps.{closed-before}

-- ---- drafts: each viewport's pair passes a test that the pairs of all calls pass

module _ (o : PairNo → Bool) where
  abbrev pub made_passes : Made → Bool
  made_passes (a_viewport q props) = o q
  made_passes (an_image image) = true
  made_passes (a_fill solid) = true

  abbrev pub call_passes : Call → Bool
  call_passes (CreateViewport c q w h inset) = o q
  call_passes _ = true

  on-image : (f : Image → Image) (m : Made) → made_passes m ≡ true → made_passes (on_image f m) ≡ true
  on-image f (an_image i) passes = refl
  on-image f (a_fill x) passes = refl
  on-image f (a_viewport q props) passes = passes

  on-viewport : (f : ViewportProps → ViewportProps) (m : Made) → made_passes m ≡ true → made_passes (on_viewport f m) ≡ true
  on-viewport f (an_image i) passes = refl
  on-viewport f (a_fill x) passes = refl
  on-viewport f (a_viewport q props) passes = passes

  on-fill : (solid : Solid) (m : Made) → made_passes m ≡ true → made_passes (on_fill solid m) ≡ true
  on-fill solid (an_image i) passes = refl
  on-fill solid (a_fill x) passes = refl
  on-fill solid (a_viewport q props) passes = passes

  abbrev AllPass : Draft → Type 0
  AllPass d = list_all made_passes d.contents ≡ true

  one-changed : (d : Draft) (serial : Option ℕ) (f : Made → Made) → ((m : Made) → made_passes m ≡ true → made_passes (f m) ≡ true) → AllPass d
      → AllPass (record d { contents = changed_if serial f d.contents })
  one-changed d serial f keeps all = all-changed-if made_passes f keeps serial d.contents all

  one-more : (d : Draft) (m : Made) → AllPass d → made_passes m ≡ true → list_all made_passes (d.contents ++ m ∷ []) ≡ true
  one-more d m all here = all-append made_passes d.contents (m ∷ []) all (and_from _ _ here refl)

  effect-passes : (d : Draft) (call : Call) → AllPass d → call_passes call ≡ true → AllPass (effect d call)
  effect-passes d (CreateViewport c pair w h inset) all own = one-more d _ all own
  effect-passes d (CreateImage c buffers i w h) all own = one-more d _ all refl
  effect-passes d (CreateFilledRect c) all own = one-more d _ all refl
  effect-passes d (SetViewportProperties c w h inset) all own = one-changed d (content_of d c) _ (on-viewport _) all
  effect-passes d (SetImageSampleRegion c rect) all own = one-changed d (content_of d c) _ (on-image _) all
  effect-passes d (SetImageDestinationSize c w h) all own = one-changed d (content_of d c) _ (on-image _) all
  effect-passes d (SetImageBlendingFunction c m) all own = one-changed d (content_of d c) _ (on-image _) all
  effect-passes d (SetImageFlip c f) all own = one-changed d (content_of d c) _ (on-image _) all
  effect-passes d (SetImageOpacity c v) all own = one-changed d (content_of d c) _ (on-image _) all
  effect-passes d (SetSolidFill c r g b a w h) all own = one-changed d (content_of d c) _ (on-fill _) all
  effect-passes d _ all own = all

  unless-passes : (reason : Option Reason) (e d : Draft) → AllPass e → unless reason e ≡ Ok d → AllPass d
  unless-passes None e d all is = let same : e ≡ d = cc in subst AllPass same all
  unless-passes (Some r) e d all is = cc

  call-keeps : (setup : Setup) (before : Result Draft Reason) (call : Call) → ((d : Draft) → before ≡ Ok d → AllPass d) → call_passes call ≡ true → (d : Draft)
      → after_call setup before call ≡ Ok d → AllPass d
  call-keeps setup (Err r) call all own d is = cc
  call-keeps setup (Ok e) call all own d is = unless-passes (misuse setup e call) (effect e call) d (effect-passes e call (all e refl) own) is

  calls-keep : (setup : Setup) (before : Result Draft Reason) (cs : List Call) → ((d : Draft) → before ≡ Ok d → AllPass d) → list_all call_passes cs ≡ true
      → (d : Draft) → after_calls setup before cs ≡ Ok d → AllPass d
  calls-keep setup before [] all own d is = all d is
  calls-keep setup before (call ∷ cs) all own d is =
      calls-keep setup (after_call setup before call) cs (call-keeps setup before call all (and-left (call_passes call) (list_all call_passes cs) own))
      (and-right (call_passes call) (list_all call_passes cs) own) d is

  pub draft-passes : (setup : Setup) (cs : List Call) → list_all call_passes cs ≡ true → (d : Draft) → draft_of setup cs ≡ Ok d
      → list_all made_passes d.contents ≡ true
  draft-passes setup cs = calls-keep setup (Ok empty_draft) cs (λ d is. let same : empty_draft ≡ d = cc in subst AllPass same refl)

  -- ---- calls of an entry

  no-link : (call : Call) → is_link call ≡ false → call_passes call ≡ true
  no-link (CreateViewport c q w h inset) none = absurd (let h : true ≡ false = none in cc)
  no-link _ none = refl

  pub no-links : (cs : List Call) → list_any is_link cs ≡ false → list_all call_passes cs ≡ true
  no-links [] none = refl
  no-links (call ∷ cs) none =
      let here : is_link call ≡ false = grind arith in
      let later : list_any is_link cs ≡ false = grind arith in
      and_from _ _ (no-link call here) (no-links cs later)

abbrev MayPass : (Call → Bool) → Option Call → Type 0
MayPass t None = Unit {0}
MayPass t (Some call) = t call ≡ true

-- what all but the last pass, and the last
all-and-last : (t : Call → Bool) (cs : List Call) (last : Option Call) → slice_get cs (length cs - 1) ≡ last → list_all t (all_but_last cs) ≡ true
    → MayPass t last → list_all t cs ≡ true
all-and-last t [] last at all one = refl
all-and-last t (x ∷ []) last at all one = and_from _ _ (subst (MayPass t) (sym at) one) refl
all-and-last t (x ∷ y ∷ ys) last at all one = by_length (λ h rest. all-and-last t (y ∷ ys) last h rest one) (length (y ∷ ys) == 0) refl all
  where
    at_rest : slice_get (y ∷ ys) (length (y ∷ ys) - 1) ≡ last
    at_rest = let next : suc (length (y ∷ ys) - 1) ≡ length (x ∷ y ∷ ys) - 1 = omega arith in ap (slice_get (x ∷ y ∷ ys)) next ∙ at

    by_length : (slice_get (y ∷ ys) (length (y ∷ ys) - 1) ≡ last → list_all t (all_but_last (y ∷ ys)) ≡ true → list_all t (y ∷ ys) ≡ true) → (b : Bool)
        → (length (y ∷ ys) == 0) ≡ b
        → list_all t (cond b [] (x ∷ all_but_last (y ∷ ys))) ≡ true → list_all t (x ∷ y ∷ ys) ≡ true
    by_length later true none h = absurd (let wrong : length (y ∷ ys) ≡ 0 = grind (arith, nat_tests) in omega (arith, wrong))
    by_length later false some h =
        and_from _ _ (and-left (t x) (list_all t (all_but_last (y ∷ ys))) h) (later at_rest (and-right (t x) (list_all t (all_but_last (y ∷ ys))) h))

-- ---- histories

-- an entry used the viewport end
abbrev pub was_used : List Entry → PairNo → Bool
was_used history q = nat_lt 0 (length (viewport_uses q history))

used-cons : (b : Bool) (e : Entry) (us : List Entry) → nat_lt 0 (length us) ≡ true → nat_lt 0 (length (cond b (e ∷ us) us)) ≡ true
used-cons true e us some = grind (arith, nat_tests)
used-cons false e us some = some

used-more : (before : List Entry) (e : Entry) (q : PairNo) → was_used before q ≡ true → was_used (before ▹ e) q ≡ true
used-more before e q some = used-cons (uses_viewport q e.kind && is_done e.reply) e (viewport_uses q before) some

call-more : (before : List Entry) (e : Entry) (call : Call) → call_passes (was_used before) call ≡ true → call_passes (was_used (before ▹ e)) call ≡ true
call-more before e (CreateViewport c q w h inset) passes = used-more before e q passes
call-more before e _ passes = refl

all-more : (before : List Entry) (e : Entry) (cs : List Call) → list_all (call_passes (was_used before)) cs ≡ true
    → list_all (call_passes (was_used (before ▹ e))) cs ≡ true
all-more before e [] all = refl
all-more before e (call ∷ cs) all =
    and_from _ _ (call-more before e call (and-left (call_passes (was_used before) call) (list_all (call_passes (was_used before)) cs) all))
    (all-more before e cs (and-right (call_passes (was_used before) call) (list_all (call_passes (was_used before)) cs) all))

one-used : (e : Entry) (us : List Entry) → nat_lt 0 (length (e ∷ us)) ≡ true
one-used e us = grind (arith, nat_tests)

-- the entry itself used the end
used-here : (before : List Entry) (e : Entry) (q : PairNo) (props : ViewportProps) → e.kind ≡ Viewport q props → e.reply ≡ Done → was_used (before ▹ e) q ≡ true
used-here before e q props kind reply =
    let uses : (uses_viewport q e.kind && is_done e.reply) ≡ true = rw (kind, reply) (and_from _ _ (same-number q.0) refl) in
    rw uses (one-used e (viewport_uses q before))

last-view : (o : PairNo → Bool) (p : PairNo) (last : Option Call) → makes_view p last ≡ true → MayPass (call_passes o) last
last-view o p None makes = tt
last-view o p (Some (CreateView q)) makes = refl
last-view o p (Some (CreateViewport c q w h inset)) makes = absurd (let h : false ≡ true = makes in cc)
last-view o p (Some call) makes = absurd (let h : false ≡ true = makes in cc)

last-viewport : (o : PairNo → Bool) (p : PairNo) (props : ViewportProps) (last : Option Call) → o p ≡ true → makes_viewport p props last ≡ true
    → MayPass (call_passes o) last
last-viewport o p props None passes makes = tt
last-viewport o p props (Some (CreateViewport c q w h inset)) passes makes =
    let same : q.0 ≡ p.0 = grind (arith, common_steps) in
    ap (λ (n : ℕ). let r : PairNo = record { 0 = n } in o r) same ∙ passes
last-viewport o p props (Some call) passes makes = absurd (let h : false ≡ true = makes in cc)

not-refused : (b : Bool) → closes (cond b Done refused_token) ≡ false → cond b Done refused_token ≡ Done
not-refused true none = refl
not-refused false none = absurd (let h : true ≡ false = none in cc)

module _ (setup : Setup) where
  -- the calls of an entry that wasn't refused
  entry-used : (before : List Entry) (e : Entry) → LegalEntry setup before e → closes e.reply ≡ false → (kind : EntryKind) → e.kind ≡ kind
      → links_alone kind e.calls ≡ true
      → own_call kind (slice_get e.calls (length e.calls - 1)) ≡ true → list_all (call_passes (was_used (before ▹ e))) e.calls ≡ true
  entry-used before e legal fine (View p) is alone own =
      all-and-last (call_passes (was_used (before ▹ e))) e.calls (slice_get e.calls (length e.calls - 1)) refl
      (no-links (was_used (before ▹ e)) (all_but_last e.calls) (not-true (list_any is_link (all_but_last e.calls)) alone))
      (last-view (was_used (before ▹ e)) p (slice_get e.calls (length e.calls - 1)) own)
  entry-used before e legal fine (Viewport p props) is alone own =
      let answered : e.reply ≡ cond (has_token setup p before) Done refused_token = legal.reply ∙ ap (reply_to setup before e.actor e.calls) is in
      let done : e.reply ≡ Done = answered ∙ not-refused (has_token setup p before) (ap closes (sym answered) ∙ fine) in
      all-and-last (call_passes (was_used (before ▹ e))) e.calls (slice_get e.calls (length e.calls - 1)) refl
      (no-links (was_used (before ▹ e)) (all_but_last e.calls) (not-true (list_any is_link (all_but_last e.calls)) alone))
      (last-viewport (was_used (before ▹ e)) p props (slice_get e.calls (length e.calls - 1)) (used-here before e p props is done) own)
  entry-used before e legal fine (Close reason) is alone own =
      let shut : closes e.reply ≡ true = ap closes (legal.reply ∙ ap (reply_to setup before e.actor e.calls) is)
      ∙ close-refused setup before e.actor e.calls (Close reason) refl in
      absurd (let both : true ≡ false = sym shut ∙ fine in cc)
  entry-used before e legal fine _ is alone own = no-links (was_used (before ▹ e)) e.calls (not-true (list_any is_link e.calls) alone)

  -- the calls of an open session made viewports only of pairs whose viewport end was used
  pub calls-used : (s : SessionNo) (history : List Entry) → Legal setup history → is_closed s history ≡ false
      → list_all (call_passes (was_used history)) (calls s history) ≡ true
  calls-used s [] legal opened = refl
  calls-used s (before ▹ e) legal opened = by_owner (λ h. calls-used s before legal.0 h) (is_session s e.actor) refl
    where
      opened_before : is_closed s before ≡ false
      opened_before = closed-before (is_session s e.actor) e (own s before) opened

      by_owner : (is_closed s before ≡ false → list_all (call_passes (was_used before)) (calls s before) ≡ true) → (b : Bool) → is_session s e.actor ≡ b
          → list_all (call_passes (was_used (before ▹ e))) (calls s (before ▹ e)) ≡ true
      by_owner earlier false other = rw other (all-more before e (calls s before) (earlier opened_before))
      by_owner earlier true mine =
          let fine : closes e.reply ≡ false = own_fine mine in
          rw mine
          (all-append (call_passes (was_used (before ▹ e))) (calls s before) e.calls (all-more before e (calls s before) (earlier opened_before))
          (entry-used before e legal.1 fine e.kind refl legal.1.may.links legal.1.may.calls))
        where
          own_fine : is_session s e.actor ≡ true → closes e.reply ≡ false
          own_fine mine = first_false (closes e.reply) (is_closed s before) (rw mine at opened)
            where
              first_false : (a b : Bool) → (a || b) ≡ false → a ≡ false
              first_false true b h = h
              first_false false b h = refl
