-- An entry of a session, in what is kept.
use Rattle.std.proofs.Common.{ℕ, zero, suc, ◌+◌, ◌-◌, ◌<◌, ◌≤◌, ◌≡◌, refl, sym, ap, ◌∙◌, subst, Bool, true, false, not, ◌&&◌, ◌||◌, cond, nat_lt, List, [], ◌∷◌}
use Rattle.std.proofs.Common.{◌++◌, length, filter, map, Option, Some, None, slice_get, arith, append-nil}
use Rattle.std.specs.Prelude.{option_map, unwrap_or}
use Rattle.std.specs.List.{All, list_all, list_any}
use Rattle.std.proofs.lemmas.Bool.Decides.{nat_tests}
use Rattle.std.proofs.lemmas.List.Elements.{All-append, All-cons, filter-append}
use Rattle.flat_base.proofs.lemmas.Tests.{and-left, and-right, and-true}
use Rattle.flat_base.specs.declared.ids.Actor.{Actor}
use Rattle.flat_base.specs.declared.ids.Actor.TheVariants.{Session}
use Rattle.flat_base.specs.declared.ids.FenceNo.{FenceNo}
use Rattle.flat_base.specs.declared.ids.PairNo.{PairNo}
use Rattle.flat_base.specs.declared.ids.SessionNo.{SessionNo}
use Rattle.std.proofs.lemmas.List.{length-set}
use Rattle.flat_page.specs.Words.{text_of}
use Rattle.flat_places.specs.declared.script.Script.{Script}
use Rattle.flat_scene.specs.declared.calls.PresentArgs.{PresentArgs}
use Rattle.flat_scene.specs.declared.journal.Entry.{Entry}
use Rattle.flat_scene.specs.declared.journal.EntryKind.{EntryKind}
use Rattle.flat_scene.specs.declared.journal.EntryKind.TheVariants as kind
use Rattle.flat_scene.specs.declared.journal.Reply.{Reply}
use Rattle.flat_scene.specs.declared.journal.Reply.TheVariants as reply
use Rattle.flat_scene.specs.declared.setup.Setup.{Setup}
use Rattle.flat_scene.specs.Frames.{credits, sessions_to, taken}
use Rattle.flat_scene.specs.History.{◌▹◌, is_begin, is_closed, is_end, is_finish, is_session, own, presents}
use Rattle.flat_scene.specs.Setups.{is_declared}
use Rattle.flat_facts.proofs.lemmas.Earlier.{begin-earlier, taken-fits}
use Rattle.flat_rules.specs.Ends.{to_begin}
use Rattle.flat_rules.specs.Legal.{LegalEntry, frames, goes_on, is_frame_open, may_act, owns_all, owns_fence, owns_in_kind, reply_to, session_may}
use Rattle.flat_rules.proofs.lemmas.FrameKinds.{not-begin, not-finish}
use Rattle.flat_why.specs.declared.reasons.CloseReason.{CloseReason}
use Rattle.flat_why.specs.declared.reasons.MadePresent.{MadePresent}
use Rattle.flat_why.specs.declared.reason_tracker.ReasonTracker.{ReasonTracker}
use Rattle.flat_why.specs.Reasons.{closing_by, dues, dues_by, is_waiting, made_by, standing_of, used_by, waits_at}
use Rattle.flat_why.specs.Noted.{with_closing, with_use, IsKnown, WhysStand}
use Rattle.flat_why.specs.Text.{why_lines, whys_at}
use Rattle.flat_why.proofs.Noting.{closed-step, open-begin, used-step}

some-within : {A : Type 0} (f : A → Bool) (xs : List A) (n : ℕ) → unwrap_or (option_map f (slice_get xs n)) false ≡ true → n < length xs
some-within f [] n owned = absurd (cc)
some-within f (x ∷ xs) zero owned = omega arith
some-within f (x ∷ xs) (suc n) owned = let more : n < length xs = some-within f xs n owned in omega (arith, more)

-- what a session owns is declared
owned-below : (setup : Setup) (s : SessionNo) (fences : List FenceNo) → list_all (owns_fence setup s) fences ≡ true
    → All (λ f. f.0 < length setup.fences) fences
owned-below setup s [] owned = λ k d below. absurd (omega (arith, below))
owned-below setup s (f ∷ fences) owned =
    All-cons (λ f. f.0 < length setup.fences) f fences
    (some-within (λ fence. list_any (is_session s) fence.owners) setup.fences f.0
    (and-left (owns_fence setup s f) (list_all (owns_fence setup s) fences) owned))
    (owned-below setup s fences (and-right (owns_fence setup s f) (list_all (owns_fence setup s) fences) owned))

not-closed : (b : Bool) → not b ≡ true → b ≡ false
not-closed true wrong = absurd (cc)
not-closed false is = refl

-- the number that is answered where a present has a credit
pub presented-number : (has : Bool) (n m : ℕ) (left c : ℕ) (refused : Reply) → ((number credits : ℕ) → refused ≡ reply.Presented number credits → ⊥)
    → reply.Presented m c ≡ cond has (reply.Presented n left) refused → m ≡ n
presented-number true n m left c refused none is = let same : reply.Presented m c ≡ reply.Presented n left = is in cc
presented-number false n m left c refused none is = absurd (none m c (sym is))

-- What a session's entry makes waits, and is known.
pub record DuesStand (setup : Setup) (old : List Entry) (made : List MadePresent) : Type 0 where
  pub waits : filter (is_waiting setup (to_begin old)) made ≡ made
  pub known : All (IsKnown setup) made

no-dues : (setup : Setup) (old : List Entry) → DuesStand setup old []
no-dues setup old = record { waits = refl; known = λ k d below. absurd (omega (arith, below)) }

module _ (setup : Setup) (old : List Entry) (entry : Entry) (s : SessionNo) (legal : LegalEntry setup old entry) (mine : entry.actor ≡ Session s) where
  pub acts : (session_may entry.kind && is_declared setup s) ≡ true
  acts = ap (may_act setup entry.kind) (sym mine) ∙ legal.may.acts

  pub declared : is_declared setup s ≡ true
  declared = and-right (session_may entry.kind) (is_declared setup s) acts

  pub no-begin : is_begin entry.kind ≡ false
  no-begin = not-begin entry.kind (and-left (session_may entry.kind) (is_declared setup s) acts)

  pub no-finish : is_finish entry.kind ≡ false
  no-finish = not-finish entry.kind (and-left (session_may entry.kind) (is_declared setup s) acts)

  made-stands : (args : PresentArgs) (number left : ℕ) → entry.kind ≡ kind.Present args → entry.reply ≡ reply.Presented number left
      → DuesStand setup old ((record { session = s; number = number; time = args.time; acquire = args.acquire }) ∷ [])
  made-stands args number left is answered = record {
    waits = ap (λ b. cond b (due ∷ []) []) waits;
    known = All-cons (IsKnown setup) due [] (record { session = declared; acquire = below }) (λ k d low. absurd (omega (arith, low)));
  }
    where
      due : MadePresent
      due = record { session = s; number = number; time = args.time; acquire = args.acquire }

      replied : reply.Presented number left ≡ reply_to setup old (Session s) entry.calls (kind.Present args)
      replied = sym answered ∙ legal.reply ∙ ap (λ (a : Actor). reply_to setup old a entry.calls entry.kind) mine
          ∙ ap (reply_to setup old (Session s) entry.calls) is

      counts : number ≡ length (presents s old) + 1
      counts = presented-number (nat_lt 0 (credits setup old s)) (length (presents s old) + 1) number (credits setup old s - 1) left _
          (λ n c wrong. absurd (cc)) replied

      goes : goes_on old (kind.Present args) (Session s) ≡ true
      goes = (λ i. goes_on old (sym is i) (sym mine i)) ∙ legal.may.lasts

      unclosed : is_closed s (to_begin old) ≡ false
      unclosed = open-begin s old (not-closed (is_closed s old)
          (and-right (not (list_any (λ (one : Entry). is_end one.kind) (own s old))) (not (is_closed s old)) goes))

      late : taken setup (to_begin old) s ≤ length (presents s old)
      late = taken-fits setup s (to_begin old) old (begin-earlier old)

      waits : is_waiting setup (to_begin old) due ≡ true
      waits = and-true (ap not unclosed) (let after : nat_lt (taken setup (to_begin old) s) number ≡ true = grind (arith, nat_tests, late, counts) in after)

      owned : owns_in_kind setup s (kind.Present args) ≡ true
      owned = and-left (owns_in_kind setup s (kind.Present args)) _ ((λ i. owns_all setup (sym mine i) entry.calls (sym is i)) ∙ legal.may.owned)

      below : All (λ f. f.0 < length setup.fences) args.acquire
      below = owned-below setup s args.acquire (and-left (list_all (owns_fence setup s) args.acquire) (list_all (owns_fence setup s) args.release) owned)

  dues-stand : (k : EntryKind) (r : Reply) → entry.kind ≡ k → entry.reply ≡ r → DuesStand setup old (dues_by (Session s) k r)
  dues-stand (kind.Present args) (reply.Presented number left) is answered = made-stands args number left is answered
  dues-stand _ _ is answered = no-dues setup old

  pub all-dues : DuesStand setup old (dues_by entry.actor entry.kind entry.reply)
  all-dues = subst (λ (a : Actor). DuesStand setup old (dues_by a entry.kind entry.reply)) (sym mine) (dues-stand entry.kind entry.reply refl refl)

  -- what frames hang on stays
  begin-same : to_begin (old ▹ entry) ≡ to_begin old
  begin-same = ap (λ b. cond b (old ▹ entry) (to_begin old)) no-begin

  open-same : is_frame_open (old ▹ entry) ≡ is_frame_open old
  open-same = (λ i. no-begin i || (not (no-finish i) && is_frame_open old))

  frames-same : frames (old ▹ entry) ≡ frames old
  frames-same = ap (λ b. length (cond b (entry ∷ filter (λ (one : Entry). is_finish one.kind) old) (filter (λ (one : Entry). is_finish one.kind) old)))
      no-finish

  lines-same : (script : Script) → why_lines script (old ▹ entry) ≡ why_lines script old
  lines-same script = ap (λ b. why_lines script old ++ cond b (whys_at script (suc (frames old)) (to_begin old)) []) no-finish
      ∙ append-nil (why_lines script old)

-- the whole step
pub session-noted : (script : Script) (old history : List Entry) (entry : Entry) (s : SessionNo) (was now : ReasonTracker) → history ≡ (old ▹ entry)
    → LegalEntry script.setup old entry → entry.actor ≡ Session s → WhysStand script old was
    → now.closings.items ≡ with_closing s (closing_by entry.line entry.reply) was.closings.items
    → now.last_uses.items ≡ with_use (used_by entry.kind entry.reply) (length (presents s history)) was.last_uses.items
    → now.dues.items ≡ was.dues.items ++ dues_by entry.actor entry.kind entry.reply → now.standings ≡ was.standings → now.waits ≡ was.waits
    → now.frames ≡ was.frames → now.page ≡ was.page
    → length now.closings.items ≡ length was.closings.items → length now.last_uses.items ≡ length was.last_uses.items → WhysStand script history now
session-noted script old history entry s was now is legal mine stands closings uses dues_are standings waits frames_are page many pairs =
    subst (λ h. WhysStand script h now) (sym is) (record {
      sessions = many ∙ stands.sessions;
      pairs = pairs ∙ stands.pairs;
      count = ap (λ v. length v.items) standings ∙ stands.count;
      closed = closed-step script.setup old entry s was.closings.items now.closings.items mine (declared script.setup old entry s legal mine) stands.sessions
          closings stands.closed;
      used = used-step old entry was.last_uses.items now.last_uses.items (length script.setup.pairs) (length (presents s history)) made stands.pairs uses
          stands.used;
      dues = dues_are ∙ (λ i. stands.dues i ++ sym new.waits i)
          ∙ sym (filter-append (is_waiting script.setup (to_begin old)) (dues old) (dues_by entry.actor entry.kind entry.reply))
          ∙ ap (λ h. filter (is_waiting script.setup h) (dues (old ▹ entry))) (sym begin);
      known = subst (All (IsKnown script.setup)) (sym dues_are)
          (All-append (IsKnown script.setup) was.dues.items (dues_by entry.actor entry.kind entry.reply) stands.known new.known);
      standings = λ now-open. ap (λ v. v.items) standings ∙ stands.standings (sym opened ∙ now-open)
          ∙ ap (λ h. map (standing_of script.setup h) (sessions_to script.setup.sessions)) (sym begin);
      waits = λ now-open. ap (λ v. v.items) waits ∙ stands.waits (sym opened ∙ now-open) ∙ ap (waits_at script.setup) (sym begin);
      tells = record {
        frames = frames_are ∙ stands.tells.frames ∙ sym (frames-same script.setup old entry s legal mine);
        text = page ∙ stands.tells.text ∙ ap text_of (sym (lines-same script.setup old entry s legal mine script));
      };
    })
  where
    new : DuesStand script.setup old (dues_by entry.actor entry.kind entry.reply)
    new = all-dues script.setup old entry s legal mine

    begin : to_begin (old ▹ entry) ≡ to_begin old
    begin = begin-same script.setup old entry s legal mine

    opened : is_frame_open (old ▹ entry) ≡ is_frame_open old
    opened = open-same script.setup old entry s legal mine

    made : length (presents s history) ≡ made_by entry.actor (old ▹ entry)
    made = ap (λ h. length (presents s h)) is ∙ ap (λ (a : Actor). made_by a (old ▹ entry)) (sym mine)

pub length-closings : (s : SessionNo) (c : Option CloseReason) (xs : List (Option CloseReason)) → length (with_closing s c xs) ≡ length xs
length-closings s None xs = refl
length-closings s (Some closing) xs = length-set xs (s.0 - 1) (Some closing)

pub length-uses : (used : Option PairNo) (made : ℕ) (xs : List (Option ℕ)) → length (with_use used made xs) ≡ length xs
length-uses None made xs = refl
length-uses (Some p) made xs = length-set xs p.0 (Some made)
