-- What frames take of a family's sessions depends on the entries of the family and on the frames and signals alone.
use Rattle.std.proofs.Common.{◌≡◌, ℕ, zero, suc, List, [], ◌∷◌, ◌++◌, refl, Bool, true, false, ap, ◌∙◌, sym, arith, drop, cond, subst, Option, None}
use Rattle.std.specs.Prelude.{◌==◌, Some, slice_get, ◌&&◌, option_map, unwrap_or}
use Rattle.std.specs.List.{list_any, list_all}
use Rattle.std.proofs.lemmas.Grind.{common_steps}
use Rattle.std.proofs.Math.Seq.{drop-nil}
use Rattle.std.proofs.lemmas.List.Sums.{take_while-cons}
use Rattle.std.proofs.lemmas.List.Folds.{list_all-append}
use Rattle.flat_base.specs.declared.ids.Actor.{Actor}
use Rattle.flat_base.specs.declared.ids.Actor.TheVariants.{Display, Session, Probe}
use Rattle.flat_base.specs.declared.ids.SessionNo.{SessionNo}
use Rattle.flat_base.specs.declared.ids.FenceNo.{FenceNo}
use Rattle.flat_scene.specs.declared.journal.Entry.{Entry}
use Rattle.flat_scene.specs.declared.journal.EntryKind.{EntryKind}
use Rattle.flat_scene.specs.declared.journal.EntryKind.TheVariants.{Present, Signal, Begin, Finish}
use Rattle.flat_scene.specs.declared.journal.Reply.{Reply}
use Rattle.flat_scene.specs.declared.journal.Reply.TheVariants.{Presented}
use Rattle.flat_scene.specs.declared.calls.Call.{Call}
use Rattle.flat_scene.specs.declared.setup.Setup.{Setup}
use Rattle.flat_scene.specs.declared.setup.FenceDecl.{FenceDecl}
use Rattle.flat_scene.specs.History.{◌▹◌, own, is_closed, calls, presents, published, is_session, Published}
use Rattle.flat_scene.specs.Frames.{is_signalled, taken, going, takes, signals, is_ready, is_unsquashable, up_to_first, ready_run, ready_prefix, lets_go}
use Rattle.flat_scene.specs.Frames.{is_among, is_released_by, sessions_to}
use Rattle.flat_scene.specs.Family.{is_linked, shares, keeps, is_kept, only}
use Rattle.flat_scene.specs.Laws.{IsClosedFamily}
use Rattle.flat_rules.specs.Legal.{owns_fence, owns_in_kind, owns_all, may_act, Legal, LegalEntry}
use Rattle.flat_scene.proofs.lemmas.Steps.{own-kept, own-dropped, presents-own, presents-other}
use Rattle.std.proofs.lemmas.Bool.{false_from_ne_true}
use Rattle.flat_rules.proofs.lemmas.AllOrSome.{any-same}

-- whether a session is among the owners of the fence declared there
abbrev pub owns_at : List FenceDecl → ℕ → SessionNo → Bool
owns_at fences n s = unwrap_or (option_map (λ fence. list_any (is_session s) fence.owners) (slice_get fences n)) false

-- two owners of a fence share one
pub both-own : (fences : List FenceDecl) (n : ℕ) (s t : SessionNo) → owns_at fences n s ≡ true → owns_at fences n t ≡ true → list_any (shares s t) fences ≡ true
both-own [] n s t of_s of_t = cc
both-own (fence ∷ fences) zero s t of_s of_t = grind arith
both-own (fence ∷ fences) (suc n) s t of_s of_t = grind (arith, both-own fences n s t of_s of_t)

-- a session that an actor is
pub same-session : (s t : SessionNo) → is_session s (Session t) ≡ true → t ≡ s
same-session s t is = ap (λ (n : ℕ). let u : SessionNo = record { 0 = n } in u) (grind (arith, common_steps))

pub same-number : (n : ℕ) → (n == n) ≡ true
same-number n = grind (arith, common_steps)

pub kept-by : (of_family : SessionNo → Bool) (kind : EntryKind) (s : SessionNo) (actor : Actor) → is_session s actor ≡ true
    → keeps of_family kind actor ≡ of_family s
kept-by of_family kind s (Session t) is = ap of_family (same-session s t is)
kept-by of_family kind s Display is = cc
kept-by of_family kind s (Probe p) is = cc

-- two tests that agree wherever a third holds
pub all-same : {X : Type 0} (o f g : X → Bool) → ((x : X) → o x ≡ true → f x ≡ g x) → (xs : List X) → list_all o xs ≡ true → list_all f xs ≡ list_all g xs
all-same o f g same [] all = refl
all-same o f g same (x ∷ xs) all = grind (arith, same x, all-same o f g same xs)

-- whether a session owns what a present names
abbrev pub owns_fences_of : (FenceNo → Bool) → Published → Bool
owns_fences_of o present = list_all o present.args.acquire && list_all o present.args.release

run-same : (time : ℕ) (o f g : FenceNo → Bool) → ((x : FenceNo) → o x ≡ true → f x ≡ g x) → (xs : List Published) → list_all (owns_fences_of o) xs ≡ true
    → ready_run time f xs ≡ ready_run time g xs
run-same time o f g same [] all = refl
run-same time o f g same (x ∷ xs) all =
    let first : list_all f x.args.acquire ≡ list_all g x.args.acquire = all-same o f g same x.args.acquire (grind arith) in
    let rest : ready_run time f xs ≡ ready_run time g xs = run-same time o f g same xs (grind arith) in
    rw (
      take_while-cons (λ present. is_ready time f present.args) x xs,
      take_while-cons (λ present. is_ready time g present.args) x xs,
      first,
      rest,
    )

pub ready-same : (time : ℕ) (o f g : FenceNo → Bool) → ((x : FenceNo) → o x ≡ true → f x ≡ g x) → (xs : List Published) → list_all (owns_fences_of o) xs ≡ true
    → ready_prefix time f xs ≡ ready_prefix time g xs
ready-same time o f g same xs all = ap (up_to_first is_unsquashable) (run-same time o f g same xs all)

pub takes-same : (kind : EntryKind) (o f g : FenceNo → Bool) → ((x : FenceNo) → o x ≡ true → f x ≡ g x) → (is_shut : Bool) (xs : List Published)
    → list_all (owns_fences_of o) xs ≡ true → takes kind f is_shut xs ≡ takes kind g is_shut xs
takes-same (Begin time) o f g same is_shut xs all = ap (cond is_shut []) (ready-same time o f g same xs all)
takes-same _ o f g same is_shut xs all = refl

pub goes-same : (kind : EntryKind) (o f g : FenceNo → Bool) → ((x : FenceNo) → o x ≡ true → f x ≡ g x) → (is_shut : Bool) (xs gone gone' : List Published)
    → list_all (owns_fences_of o) xs ≡ true → gone ≡ gone' → lets_go kind f is_shut xs gone ≡ lets_go kind g is_shut xs gone'
goes-same (Begin time) o f g same is_shut xs gone gone' all stays = ap (cond is_shut xs) (ready-same time o f g same xs all)
goes-same _ o f g same is_shut xs gone gone' all stays = stays

-- where nothing waits nothing goes
pub goes-none : (kind : EntryKind) (f : FenceNo → Bool) (is_shut : Bool) → lets_go kind f is_shut [] [] ≡ []
goes-none (Begin time) f true = refl
goes-none (Begin time) f false = refl
goes-none _ f is_shut = refl

pub all-drop : {X : Type 0} (p : X → Bool) (n : ℕ) (xs : List X) → list_all p xs ≡ true → list_all p (drop n xs) ≡ true
all-drop p zero xs all = all
all-drop p (suc n) [] all = refl
all-drop p (suc n) (x ∷ xs) all = all-drop p n xs (grind arith)

all-run : (p : Published → Bool) (time : ℕ) (f : FenceNo → Bool) (xs : List Published) → list_all p xs ≡ true → list_all p (ready_run time f xs) ≡ true
all-run p time f [] all = refl
all-run p time f (x ∷ xs) all =
    let rest : list_all p (ready_run time f xs) ≡ true = all-run p time f xs (grind arith) in
    rw (take_while-cons (λ present. is_ready time f present.args) x xs) (grind arith)

all-up-to : {X : Type 0} (p ends : X → Bool) (xs : List X) → list_all p xs ≡ true → list_all p (up_to_first ends xs) ≡ true
all-up-to p ends [] all = refl
all-up-to p ends (x ∷ xs) all =
    let rest : list_all p (up_to_first ends xs) ≡ true = all-up-to p ends xs (grind arith) in
    grind arith

pub all-ready : (p : Published → Bool) (time : ℕ) (f : FenceNo → Bool) (xs : List Published) → list_all p xs ≡ true → list_all p (ready_prefix time f xs) ≡ true
all-ready p time f xs all = all-up-to p is_unsquashable (ready_run time f xs) (all-run p time f xs all)

pub all-let-go : (p : Published → Bool) (kind : EntryKind) (f : FenceNo → Bool) (b : Bool) (xs gone : List Published) → list_all p xs ≡ true
    → list_all p gone ≡ true
    → list_all p (lets_go kind f b xs gone) ≡ true
all-let-go p (Begin time) f true xs gone all stays = all
all-let-go p (Begin time) f false xs gone all stays = all-ready p time f xs all
all-let-go p _ f b xs gone all stays = stays

-- a fence that isn't owned isn't among owned ones
pub not-among : (o : FenceNo → Bool) (xs : List FenceNo) (f : FenceNo) → list_all o xs ≡ true → o f ≡ false → is_among xs f ≡ false
not-among o [] f all none = refl
not-among o (x ∷ xs) f all none =
    let rest : is_among xs f ≡ false = not-among o xs f (grind arith) none in
    let first : (x.0 == f.0) ≡ false = false_from_ne_true (x.0 == f.0) (λ is.
    let same : x.0 ≡ f.0 = grind (arith, common_steps) in
    let owns_x : o x ≡ true = grind arith in
    let as_f : o f ≡ o x = ap (λ (n : ℕ). let h : FenceNo = record { 0 = n } in o h) (sym same) in cc) in
    grind arith

pub not-released : (o : FenceNo → Bool) (xs : List Published) (f : FenceNo) → list_all (owns_fences_of o) xs ≡ true → o f ≡ false → is_released_by xs f ≡ false
not-released o [] f all none = refl
not-released o (x ∷ xs) f all none =
    let rest : is_released_by xs f ≡ false = not-released o xs f (grind arith) none in
    let first : is_among x.args.release f ≡ false = not-among o x.args.release f (grind arith) none in
    grind arith

-- what signals a fence goes by what releases it
pub signals-same : (sessions : List SessionNo) (kind : EntryKind) (g h : SessionNo → List Published) (f : FenceNo)
    → ((s : SessionNo) → is_released_by (g s) f ≡ is_released_by (h s) f)
    → signals sessions kind g f ≡ signals sessions kind h f
signals-same sessions Finish g h f same = any-same (λ s. is_released_by (g s) f) (λ s. is_released_by (h s) f) same sessions
signals-same sessions _ g h f same = refl

module _ (setup : Setup) (of_family : SessionNo → Bool) where
  pub kept-own : (s : SessionNo) → of_family s ≡ true → (e : Entry) → is_session s e.actor ≡ true → is_kept of_family e ≡ true
  kept-own s mine e is = kept-by of_family e.kind s e.actor is ∙ mine

  pub dropped-own : (s : SessionNo) → of_family s ≡ false → (e : Entry) → is_session s e.actor ≡ true → is_kept of_family e ≡ false
  dropped-own s other e is = kept-by of_family e.kind s e.actor is ∙ other

  -- a session of the family keeps its entries, and of another none is left
  pub own-only : (s : SessionNo) → of_family s ≡ true → (history : List Entry) → own s (only of_family history) ≡ own s history
  own-only s mine = own-kept s (is_kept of_family) (kept-own s mine)

  pub own-others : (s : SessionNo) → of_family s ≡ false → (history : List Entry) → own s (only of_family history) ≡ []
  own-others s other = own-dropped s (is_kept of_family) (dropped-own s other)

-- the presents of a session acquire and release only fences that it owns
pub published-owned : (setup : Setup) (s : SessionNo) (kind : EntryKind) (reply : Reply) (made : List Call) → owns_in_kind setup s kind ≡ true
    → list_all (owns_fences_of (owns_fence setup s)) (published kind reply made) ≡ true
published-owned setup s (Present args) (Presented number credits) made owned = grind arith
published-owned setup s _ _ made owned = refl

pub owned-by : (setup : Setup) (s : SessionNo) (carries : List Call) (kind : EntryKind) (actor : Actor) → is_session s actor ≡ true
    → owns_all setup actor carries kind ≡ true → owns_in_kind setup s kind ≡ true
owned-by setup s carries kind (Session t) is owns = subst (λ (u : SessionNo). owns_in_kind setup u kind ≡ true) (same-session s t is) (grind arith)
owned-by setup s carries kind Display is owns = cc
owned-by setup s carries kind (Probe p) is owns = cc

-- what a legal entry of a session names is the session's
pub entry-owned : (setup : Setup) (before : List Entry) (e : Entry) → LegalEntry setup before e → (t : SessionNo) → is_session t e.actor ≡ true
    → owns_in_kind setup t e.kind ≡ true
entry-owned setup before e legal t is = owned-by setup t e.calls e.kind e.actor is legal.may.owned

pub presents-owned-step : (setup : Setup) (s : SessionNo) (before : List Entry) (e : Entry) → LegalEntry setup before e
    → list_all (owns_fences_of (owns_fence setup s)) (presents s before) ≡ true
    → (b : Bool) → is_session s e.actor ≡ b → list_all (owns_fences_of (owns_fence setup s)) (presents s (before ▹ e)) ≡ true
presents-owned-step setup s before e legal earlier true mine =
    let owns : owns_in_kind setup s e.kind ≡ true = entry-owned setup before e legal s mine in
    let here : list_all (owns_fences_of (owns_fence setup s)) (published e.kind e.reply (calls s before ++ e.calls)) ≡ true =
    published-owned setup s e.kind e.reply _ owns in
    rw (presents-own s before e mine, list_all-append, earlier, here) refl
presents-owned-step setup s before e legal earlier false other = rw (presents-other s before e other) earlier

pub presents-owned : (setup : Setup) (s : SessionNo) (history : List Entry) → Legal setup history
    → list_all (owns_fences_of (owns_fence setup s)) (presents s history) ≡ true
presents-owned setup s [] legal = refl
presents-owned setup s (before ▹ e) legal = presents-owned-step setup s before e legal.1 (presents-owned setup s before legal.0) (is_session s e.actor) refl

pub waiting-owned : (setup : Setup) (s : SessionNo) (before : List Entry) → Legal setup before
    → list_all (owns_fences_of (owns_fence setup s)) (drop (taken setup before s) (presents s before)) ≡ true
waiting-owned setup s before legal = all-drop (owns_fences_of (owns_fence setup s)) (taken setup before s) (presents s before)
    (presents-owned setup s before legal)

-- so what a frame lets go of it
pub going-owned : (setup : Setup) (s : SessionNo) (history : List Entry) → Legal setup history
    → list_all (owns_fences_of (owns_fence setup s)) (going setup history s) ≡ true
going-owned setup s [] legal = refl
going-owned setup s (before ▹ e) legal =
    all-let-go (owns_fences_of (owns_fence setup s)) e.kind (is_signalled setup before) (is_closed s before) (drop (taken setup before s) (presents s before))
    (going setup before s)
    (waiting-owned setup s before legal.0) (going-owned setup s before legal.0)

module _ (setup : Setup) (of_family : SessionNo → Bool) (closed : IsClosedFamily setup of_family) where
  -- A fence that a session of the family owns.
  pub record IsOfFamily (f : FenceNo) : Type 0 where
    pub s : SessionNo
    pub mine : of_family s ≡ true
    pub owns : owns_fence setup s f ≡ true

  -- no other session owns it
  pub not-others : (f : FenceNo) → IsOfFamily f → (t : SessionNo) → of_family t ≡ false → owns_fence setup t f ≡ false
  not-others f of_it t other = false_from_ne_true (owns_fence setup t f) (λ owns.
      let linked : is_linked setup of_it.s t ≡ true = grind (arith, both-own setup.fences f.0 of_it.s t of_it.owns owns) in
      let too : of_family t ≡ true = closed.grows of_it.s t of_it.mine linked in cc)

  -- An entry that isn't kept changes nothing for the family's fences.
  pub quiet : (kind : EntryKind) (actor : Actor) (f : FenceNo) (g : SessionNo → List Published) → IsOfFamily f → keeps of_family kind actor ≡ false
      → may_act setup kind actor ≡ true → ((t : SessionNo) → is_session t actor ≡ true → owns_in_kind setup t kind ≡ true)
      → signals (sessions_to setup.sessions) kind g f ≡ false
  quiet (Begin time) Display f g of_it out acts owns = cc
  quiet (Begin time) (Session t) f g of_it out acts owns = cc
  quiet (Begin time) (Probe p) f g of_it out acts owns = cc
  quiet Finish Display f g of_it out acts owns = cc
  quiet Finish (Session t) f g of_it out acts owns = cc
  quiet Finish (Probe p) f g of_it out acts owns = cc
  quiet (Signal h) Display f g of_it out acts owns = cc
  quiet (Signal h) (Probe p) f g of_it out acts owns = cc
  quiet (Signal h) (Session t) f g of_it out acts owns = false_from_ne_true (h.0 == f.0) (λ is.
      let same : h.0 ≡ f.0 = grind (arith, common_steps) in
      let owns_h : owns_fence setup t h ≡ true = owns t (same-number t.0) in
      let not_f : owns_fence setup t f ≡ false = not-others f of_it t out in
      let owns_f : owns_fence setup t f ≡ owns_fence setup t h = ap (λ (n : ℕ). let k : FenceNo = record { 0 = n } in owns_fence setup t k) (sym same) in
      cc)
  quiet _ actor f g of_it out acts owns = refl

  pub quiet-takes : (kind : EntryKind) (actor : Actor) (f : FenceNo → Bool) (is_shut : Bool) (xs : List Published) → keeps of_family kind actor ≡ false
      → may_act setup kind actor ≡ true → takes kind f is_shut xs ≡ []
  quiet-takes (Begin time) Display f is_shut xs out acts = cc
  quiet-takes (Begin time) (Session t) f is_shut xs out acts = cc
  quiet-takes (Begin time) (Probe p) f is_shut xs out acts = cc
  quiet-takes _ actor f is_shut xs out acts = refl

  pub quiet-goes : (kind : EntryKind) (actor : Actor) (f : FenceNo → Bool) (is_shut : Bool) (xs gone : List Published) → keeps of_family kind actor ≡ false
      → may_act setup kind actor ≡ true → lets_go kind f is_shut xs gone ≡ gone
  quiet-goes (Begin time) Display f is_shut xs gone out acts = cc
  quiet-goes (Begin time) (Session t) f is_shut xs gone out acts = cc
  quiet-goes (Begin time) (Probe p) f is_shut xs gone out acts = cc
  quiet-goes _ actor f is_shut xs gone out acts = refl

  -- What frames do to the family is the same in its own history.
  pub record IsSame (history : List Entry) : Type 0 where
    pub signalled : (f : FenceNo) → IsOfFamily f → is_signalled setup (only of_family history) f ≡ is_signalled setup history f
    pub took : (s : SessionNo) → of_family s ≡ true → taken setup (only of_family history) s ≡ taken setup history s
    pub goes : (s : SessionNo) → of_family s ≡ true → going setup (only of_family history) s ≡ going setup history s

  -- nothing goes of another session there
  pub going-others : (s : SessionNo) → of_family s ≡ false → (history : List Entry) → going setup (only of_family history) s ≡ []
  going-others s other [] = refl
  going-others s other (before ▹ e) = by_side (going-others s other before) (is_kept of_family e) refl
    where
      by_side : going setup (only of_family before) s ≡ [] → (b : Bool) → is_kept of_family e ≡ b → going setup (only of_family (before ▹ e)) s ≡ []
      by_side earlier true kept =
          rw (kept, own-others setup of_family s other before, drop-nil, earlier) (goes-none e.kind (is_signalled setup (only of_family before)) false)
      by_side earlier false out = rw out earlier

  -- what is released of the family's fences is the same
  pub released-same : (history : List Entry) → Legal setup history → IsSame history → (f : FenceNo) → IsOfFamily f → (s : SessionNo)
      → is_released_by (going setup (only of_family history) s) f ≡ is_released_by (going setup history s) f
  released-same history legal same f of_it s = by_side (of_family s) refl
    where
      by_side : (b : Bool) → of_family s ≡ b → is_released_by (going setup (only of_family history) s) f ≡ is_released_by (going setup history s) f
      by_side true mine = rw (same.goes s mine) refl
      by_side false other =
          let none : is_released_by (going setup history s) f ≡ false =
          not-released (owns_fence setup s) (going setup history s) f (going-owned setup s history legal) (not-others f of_it s other) in
          rw (going-others s other history, none) refl

  pub same-dropped : (before : List Entry) (e : Entry) → IsSame before → LegalEntry setup before e → is_kept of_family e ≡ false → IsSame (before ▹ e)
  same-dropped before e same legal out = record {
    signalled = λ f of_it.
        let none : signals (sessions_to setup.sessions) e.kind (going setup before) f ≡ false =
        quiet e.kind e.actor f (going setup before) of_it out legal.may.acts (entry-owned setup before e legal) in
        rw (out, none, same.signalled f of_it) (grind arith);
    took = λ s mine. rw (
      out,
      quiet-takes e.kind e.actor (is_signalled setup before) (is_closed s before) (drop (taken setup before s) (presents s before)) out
          legal.may.acts,
      same.took s mine,
    ) (omega arith);
    goes = λ s mine. rw (
      out,
      quiet-goes e.kind e.actor (is_signalled setup before) (is_closed s before) (drop (taken setup before s) (presents s before))
          (going setup before s) out legal.may.acts,
    ) (same.goes s mine);
  }

  pub same-kept : (before : List Entry) (e : Entry) → IsSame before → Legal setup before → is_kept of_family e ≡ true → IsSame (before ▹ e)
  same-kept before e same legal kept = record {
    signalled = λ f of_it.
        rw (
          kept,
          same.signalled f of_it,
          signals-same (sessions_to setup.sessions) e.kind (going setup (only of_family before)) (going setup before) f
              (released-same before legal same f of_it),
        ) refl;
    took = λ s mine.
        let here : takes e.kind (is_signalled setup (only of_family before)) (is_closed s before) (drop (taken setup before s) (presents s before))
        ≡ takes e.kind (is_signalled setup before) (is_closed s before) (drop (taken setup before s) (presents s before)) =
        takes-same e.kind (owns_fence setup s) (is_signalled setup (only of_family before)) (is_signalled setup before)
        (λ x owns. same.signalled x (record { s = s; mine = mine; owns = owns })) (is_closed s before) (drop (taken setup before s) (presents s before))
        (waiting-owned setup s before legal) in
        rw (kept, own-only setup of_family s mine before, same.took s mine, here) refl;
    goes = λ s mine.
        let here : lets_go e.kind (is_signalled setup (only of_family before)) (is_closed s before) (drop (taken setup before s) (presents s before))
        (going setup (only of_family before) s)
        ≡ lets_go e.kind (is_signalled setup before) (is_closed s before) (drop (taken setup before s) (presents s before)) (going setup before s) =
        goes-same e.kind (owns_fence setup s) (is_signalled setup (only of_family before)) (is_signalled setup before)
        (λ x owns. same.signalled x (record { s = s; mine = mine; owns = owns })) (is_closed s before) (drop (taken setup before s) (presents s before))
        (going setup (only of_family before) s) (going setup before s) (waiting-owned setup s before legal) (same.goes s mine) in
        rw (kept, own-only setup of_family s mine before, same.took s mine, here) refl;
  }

  -- so for every legal history
  pub all-same-by : (before : List Entry) (e : Entry) → IsSame before → Legal setup (before ▹ e) → (b : Bool) → is_kept of_family e ≡ b → IsSame (before ▹ e)
  all-same-by before e same legal true kept = same-kept before e same legal.0 kept
  all-same-by before e same legal false out = same-dropped before e same legal.1 out

  pub frames-local : (history : List Entry) → Legal setup history → IsSame history
  frames-local [] legal = record { signalled = λ f of_it. refl; took = λ s mine. refl; goes = λ s mine. refl }
  frames-local (before ▹ e) legal = all-same-by before e (frames-local before legal.0) legal (is_kept of_family e) refl

pub session-of : (o : Option SessionNo) (v : SessionNo) → option_map Session o ≡ Some (Session v) → o ≡ Some v
session-of None v is = cc
session-of (Some u) v is = let same : u ≡ v = cc in ap (λ (x : SessionNo). let r : Option SessionNo = Some x in r) same
