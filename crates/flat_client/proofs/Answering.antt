-- The replies of the rules to a client's lines.
use Rattle.std.proofs.Common.{◌≡◌, ℕ, ◌+◌, Bool, true, false, cond, ◌⊎◌, List, [], ◌∷◌, ◌++◌, length, refl, sym, ap}
use Rattle.std.proofs.Common.{◌∙◌, subst, inl, inr, Option, Some, None, is_some, nat_le, nat_lt, ◌==◌}
use Rattle.std.proofs.lemmas.List.{reverse-append}
use Rattle.flat_base.specs.declared.errors.Reason.{Reason}
use Rattle.flat_base.specs.declared.errors.FlatlandError.TheVariants.{NoPresentsRemaining}
use Rattle.flat_base.specs.declared.ids.Actor.{Actor}
use Rattle.flat_base.specs.declared.ids.Actor.TheVariants.{Session}
use Rattle.flat_base.specs.declared.ids.SessionNo.{SessionNo}
use Rattle.flat_scene.specs.declared.calls.Call.{Call}
use Rattle.flat_scene.specs.declared.calls.Call.TheVariants.{CreateView, CreateViewport}
use Rattle.flat_scene.specs.declared.calls.Watch.{Watch}
use Rattle.flat_scene.specs.declared.journal.Entry.{Entry}
use Rattle.flat_scene.specs.declared.journal.EntryKind.{EntryKind}
use Rattle.flat_scene.specs.declared.journal.EntryKind.TheVariants as kinds
use Rattle.flat_scene.specs.declared.journal.Reply.{Reply}
use Rattle.flat_scene.specs.declared.journal.Reply.TheVariants.{Done, Presented, Held, Now, Polled, Met, Unmet, Closed}
use Rattle.flat_scene.specs.declared.journal.WatcherValue.{WatcherValue}
use Rattle.flat_scene.specs.declared.script.SessionLine.{SessionLine}
use Rattle.flat_scene.specs.declared.script.SessionLine.TheVariants as line
use Rattle.flat_scene.specs.declared.setup.Setup.{Setup}
use Rattle.flat_scene.specs.Draft.{Draft}
use Rattle.flat_scene.specs.History.{closes}
use Rattle.flat_scene.specs.Interleave.{entry_of_call, entry_of_line, or_close, calls_of_line, get_tests}
use Rattle.flat_scene.specs.Journals.{history_of}
use Rattle.flat_scene.specs.Misuse.{misuse, first_reason}
use Rattle.flat_scene.specs.Tree.{present_tests}
use Rattle.flat_rules.specs.Legal.{Legal, got, refused_token, reply_to, reply_to_get, waited}
use Rattle.flat_rules.specs.Watch.{Watcher}
use Rattle.flat_stage.specs.Readings.{entry_by}
use Rattle.flat_client.specs.Clients.{ClientView, MakesEntry, is_answer, is_close, makes_entry, setup_for}

-- the newest entry of a legal history has the reply of the rules
legal_last : (setup : Setup) (before : List Entry) (entry : Entry) → Legal setup (history_of (before ++ entry ∷ [])) → entry.reply
    ≡ reply_to setup (history_of before) entry.actor entry.calls entry.kind
legal_last setup before entry legal =
    let L : List Entry → Type 0 = Legal setup in
    let last : L (entry ∷ history_of before) = subst L (reverse-append before (entry ∷ [])) legal in
    last.1.reply

pub made_reply : (text : SessionLine) (answer : Reply) (old new : ClientView) (makes : MakesEntry text answer old new) → (before : List Entry)
    × (answer ≡ reply_to (setup_for old) before (Session old.seat.session) (old.seat.pending ++ calls_of_line text) makes.kind)
made_reply text answer old new makes =
    let one = makes.entry.one in
    let L : List Entry → Type 0 = λ seen. Legal (setup_for old) (history_of seen) in
    (history_of (old.seat.seen ++ one.between), legal_last (setup_for old) (old.seat.seen ++ one.between) _ (subst L one.longer one.legal))

-- ---- a line's entry closes, or has a reply to the line

-- a reply that doesn't close is one to the line
abbrev pub Fits : SessionLine → Reply → Type 0
Fits text answer = closes answer ≡ false → is_answer text answer ≡ true

fits_cond : (text : SessionLine) (b : Bool) (x y : Reply) → Fits text x → Fits text y → Fits text (cond b x y)
fits_cond text true x y one other = one
fits_cond text false x y one other = other

fits_closed : (text : SessionLine) (answer : Reply) → closes answer ≡ true → Fits text answer
fits_closed text answer closed = λ opened. absurd (let wrong : true ≡ false = sym closed ∙ opened in cc)

fits_got : (get : Watch) (waits : Bool) (news : Option WatcherValue) → Fits (line.Get get) (got waits news)
fits_got get true news = fits_closed (line.Get get) (got true news) refl
fits_got get false (Some told) = λ opened. refl
fits_got get false None = λ opened. refl

-- an entry is that of a line, or a close for a reason
either : (why : Option Reason) (meant kind : EntryKind) → or_close why (Some meant) ≡ Some kind
    → (kind ≡ meant) ⊎ ((reason : Reason) × (kind ≡ kinds.Close (Some reason)))
either None meant kind is = inl (cc)
either (Some reason) meant kind is = inr (reason, cc)

module _ (setup : Setup) (before : List Entry) (s : SessionNo) (carries : List Call) where
  abbrev answer_to : EntryKind → Reply
  answer_to = reply_to setup before (Session s) carries

  fits_get : (get : Watch) (watcher : Option Watcher) → Fits (line.Get get) (reply_to_get setup before watcher)
  fits_get get None = λ opened. refl
  fits_get get (Some watcher) = fits_got get _ _

  fits_either : (text : SessionLine) (why : Option Reason) (meant kind : EntryKind) → Fits text (answer_to meant) → or_close why (Some meant) ≡ Some kind
      → Fits text (answer_to kind)
  fits_either text why meant kind fits is =
      let P : EntryKind → Type 0 = λ k. Fits text (answer_to k) in
      elim (either why meant kind is) [
        | inl same ↦ subst P (sym same) fits
        | inr closed ↦ subst P (sym closed.1) (fits_closed text (answer_to (kinds.Close (Some closed.0))) refl)
      ]

  fits_alone : (text : SessionLine) (meant kind : EntryKind) → Fits text (answer_to meant) → Some meant ≡ Some kind → Fits text (answer_to kind)
  fits_alone text meant kind fits is =
      let P : EntryKind → Type 0 = λ k. Fits text (answer_to k) in
      let same : meant ≡ kind = cc in
      subst P same fits

  fits_call : (draft : Draft) (call : Call) (kind : EntryKind) → makes_entry (line.Call call) ≡ true → entry_of_line setup draft (line.Call call) ≡ Some kind
      → Fits (line.Call call) (answer_to kind)
  fits_call draft (CreateView pair) kind makes is =
      fits_either (line.Call (CreateView pair)) (misuse setup draft (CreateView pair)) (kinds.View pair) kind
      (fits_cond (line.Call (CreateView pair)) _ Done refused_token (λ opened. refl) (fits_closed (line.Call (CreateView pair)) refused_token refl)) is
  fits_call draft (CreateViewport c pair w h inset) kind makes is =
      fits_either (line.Call (CreateViewport c pair w h inset)) (misuse setup draft (CreateViewport c pair w h inset))
      (kinds.Viewport pair (record { w = w; h = h; inset = inset })) kind
      (fits_cond (line.Call (CreateViewport c pair w h inset)) _ Done refused_token (λ opened. refl)
      (fits_closed (line.Call (CreateViewport c pair w h inset)) refused_token refl)) is
  fits_call draft _ kind makes is = absurd (let wrong : false ≡ true = makes in cc)

  pub fits_line : (draft : Draft) (text : SessionLine) (kind : EntryKind) → makes_entry text ≡ true → entry_of_line setup draft text ≡ Some kind
      → Fits text (answer_to kind)
  fits_line draft (line.Call call) kind makes is = fits_call draft call kind makes is
  fits_line draft (line.Present args) kind makes is =
      fits_either (line.Present args) (first_reason (present_tests draft args)) (kinds.Present args) kind
      (fits_cond (line.Present args) _ (Presented _ _) (Closed (Some NoPresentsRemaining) None) (λ opened. refl)
      (fits_closed (line.Present args) (Closed (Some NoPresentsRemaining) None) refl)) is
  fits_line draft (line.Get get) kind makes is =
      fits_either (line.Get get) (first_reason (get_tests draft get)) (kinds.Get get) kind (fits_get get _) is
  fits_line draft (line.Signal f) kind makes is = fits_alone (line.Signal f) (kinds.Signal f) kind (λ opened. refl) is
  fits_line draft line.Poll kind makes is = fits_alone line.Poll kinds.Poll kind (λ opened. refl) is
  fits_line draft (line.Wait c) kind makes is =
      fits_alone (line.Wait c) (kinds.Wait c) kind (fits_cond (line.Wait c) _ (Met _) (Unmet _) (λ opened. refl) (λ opened. refl)) is
  fits_line draft line.Disconnect kind makes is =
      fits_alone line.Disconnect (kinds.Close None) kind (fits_closed line.Disconnect (Closed None None) refl) is

  closing_kind : (kind : EntryKind) → is_close (Some kind) ≡ true → closes (answer_to kind) ≡ true
  closing_kind (kinds.Close None) is = refl
  closing_kind (kinds.Close (Some reason)) is = refl
  closing_kind _ is = absurd (let wrong : false ≡ true = is in cc)

-- the reply to a client's entry is one to its line, unless it closes
pub fits_made : (text : SessionLine) (answer : Reply) (old new : ClientView) → makes_entry text ≡ true → MakesEntry text answer old new → Fits text answer
fits_made text answer old new makes made =
    let replied = made_reply text answer old new made in
    let P : Reply → Type 0 = Fits text in
    subst P (sym replied.1) (fits_line (setup_for old) replied.0 old.seat.session (old.seat.pending ++ calls_of_line text) _ text made.kind makes made.of_line)

-- a close closes
pub closing : (text : SessionLine) (answer : Reply) (old new : ClientView) → is_close (entry_by old.seat text) ≡ true → MakesEntry text answer old new
    → closes answer ≡ true
closing text answer old new close made =
    let replied = made_reply text answer old new made in
    ap closes replied.1 ∙ closing_kind (setup_for old) replied.0 old.seat.session (old.seat.pending ++ calls_of_line text) made.kind
    (sym (ap is_close made.of_line) ∙ close)
