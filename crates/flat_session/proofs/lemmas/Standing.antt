-- How a session stands after one more of its lines.
use Rattle.std.proofs.Common.{◌≡◌, ℕ, ◌+◌, ◌-◌, Bool, true, false, ◌||◌, List, [], ◌∷◌, ◌++◌, length, take, refl, sym, ap, ◌∙◌, subst, append-nil, arith}
use Rattle.std.proofs.Common.{Option, Some, None, Ok}
use Rattle.std.specs.List.{list_all}
use Rattle.std.specs.Prelude.{unwrap_or}
use Rattle.std.proofs.lemmas.Grind.{common_steps}
use Rattle.std.specs.Result.{result_ok}
use Rattle.std.proofs.lemmas.Bool.{eq-eqb}
use Rattle.flat_base.specs.declared.ids.Actor.TheVariants.{Session}
use Rattle.flat_base.specs.declared.ids.SessionNo.{SessionNo}
use Rattle.flat_base.specs.declared.errors.Reason.{Reason}
use Rattle.flat_scene.specs.declared.calls.Call.{Call}
use Rattle.flat_scene.specs.declared.calls.Call.TheVariants.{CreateView, CreateViewport, CreateImage}
use Rattle.flat_scene.specs.declared.journal.Entry.{Entry}
use Rattle.flat_scene.specs.declared.journal.EntryKind.{EntryKind}
use Rattle.flat_scene.specs.declared.journal.EntryKind.TheVariants.{Close}
use Rattle.flat_scene.specs.declared.journal.Reply.{Reply}
use Rattle.flat_scene.specs.declared.script.SessionLine.{SessionLine}
use Rattle.flat_scene.specs.declared.script.SessionLine.TheVariants as line
use Rattle.flat_scene.specs.declared.setup.Setup.{Setup}
use Rattle.flat_scene.specs.Draft.{Draft, empty_draft}
use Rattle.flat_scene.specs.Effect.{draft_of, effect}
use Rattle.flat_scene.specs.History.{◌▹◌, own, is_end, carried, closes}
use Rattle.flat_scene.specs.Interleave.{entry_of_line, entry_of_call, calls_of_line, after_line, or_close}
use Rattle.flat_core.specs.Machines.{entry_of}
use Rattle.flat_rules.specs.Legal.{reply_to}
use Rattle.flat_draft.specs.Stands.{StandsFor}
use Rattle.flat_draft.specs.State.{DraftState}
use Rattle.flat_rules.specs.Owned.{is_private, is_played_call, is_played_line}
use Rattle.flat_session.specs.declared.requested_entry.RequestedEntry.{RequestedEntry}
use Rattle.flat_session.specs.declared.requested_entry.RequestedEntry.TheVariants as made
use Rattle.flat_session.specs.declared.session_reader.SessionReader.{SessionReader}
use Rattle.flat_session.specs.Made.{kind_of, takes_memory}
use Rattle.flat_session.specs.Reads.{Stands, IsOpen, IsReady, IsPrepared, IsMade, IsNoMisuse, Tells, with_line, viewport_call, draft_so_far, kept_calls}
use Rattle.flat_base.proofs.lemmas.Tests.{or-false, all-more}
use Rattle.flat_session.proofs.lemmas.Readying.{one_more}

-- ---- a line that makes no entry

-- a played call that makes no entry is private
private_played : (setup : Setup) (s : SessionNo) (call : Call) → is_played_call setup s call ≡ true → entry_of_call call ≡ None → is_private setup s call ≡ true
private_played setup s (CreateView pair) played none = absurd (cc)
private_played setup s (CreateViewport c pair w h inset) played none = absurd (cc)
private_played setup s (CreateImage c buffers i w h) played none = played
private_played setup s _ played none = refl

-- what is known of the calls once a line made no entry
pub record Waits (setup : Setup) (s : SessionNo) (made pending : List Call) (draft : Draft) (text : SessionLine) : Type 0 where
  pub drawn : draft_of setup (made ++ (pending ++ calls_of_line text)) ≡ Ok (after_line draft text)
  pub private : list_all (is_private setup s) (pending ++ calls_of_line text) ≡ true

waits_more : (setup : Setup) (s : SessionNo) (made pending : List Call) (draft : Draft) (text : SessionLine) → is_played_line setup s text ≡ true
    → IsNoMisuse setup draft text → entry_of_line setup draft text ≡ None
    → draft_of setup (made ++ pending) ≡ Ok draft → list_all (is_private setup s) pending ≡ true → Waits setup s made pending draft text
waits_more setup s made pending draft (line.Call call) played fine none drawn private = record {
  drawn = one_more setup made pending call draft fine drawn;
  private = all-more (is_private setup s) pending call private
      (private_played setup s call played (ap (λ r. or_close r (entry_of_call call)) (sym fine) ∙ none));
}
waits_more setup s made pending draft (line.Present args) played fine none drawn private = record {
  drawn = ap (λ p. draft_of setup (made ++ p)) (append-nil pending) ∙ drawn;
  private = ap (list_all (is_private setup s)) (append-nil pending) ∙ private;
}
waits_more setup s made pending draft (line.Get get) played fine none drawn private = record {
  drawn = ap (λ p. draft_of setup (made ++ p)) (append-nil pending) ∙ drawn;
  private = ap (list_all (is_private setup s)) (append-nil pending) ∙ private;
}
waits_more setup s made pending draft (line.Signal f) played fine none drawn private = absurd (cc)
waits_more setup s made pending draft line.Poll played fine none drawn private = absurd (cc)
waits_more setup s made pending draft (line.Wait c) played fine none drawn private = absurd (cc)
waits_more setup s made pending draft line.Disconnect played fine none drawn private = absurd (cc)

module _ (setup : Setup) (mine : List Entry) (text : SessionLine) (old new : SessionReader) (stands : Stands setup mine old) (opened : old.closed ≡ false) where
  pub was : IsOpen setup mine old
  was = stands.when_open opened

  -- the draft of all calls so far is the one for which the session's stands
  pub so_far : draft_so_far setup mine old.pending ≡ was.draft
  so_far = ap (λ r. unwrap_or (result_ok r) empty_draft) was.made

  -- the session goes on, and the call waits
  pub stands_waiting : is_played_line setup old.session text ≡ true → new ≡ with_line text old new.draft → Tells setup old.session was.draft text new.draft None
      → Stands setup mine new
  stands_waiting played rest tells =
      let none : entry_of_line setup was.draft text ≡ None = sym tells.kind in
      let left = tells.leaves old.pending in
      let w : Waits setup old.session (carried mine) old.pending was.draft text =
      waits_more setup old.session (carried mine) old.pending was.draft text played left.0 none was.made was.private in
      let S : SessionReader → Type 0 = λ r. Stands setup mine r in
      subst S (sym rest) (record {
        declared = stands.declared;
        unended = stands.unended;
        closed = stands.closed;
        when_open = λ is. record {
          draft = after_line was.draft text;
          made = w.drawn;
          stands = left.1;
          still_open = left.2;
          private = w.private;
          none_refused = was.none_refused;
        };
        when_closed = λ is. absurd (let both : false ≡ true = sym opened ∙ is in cc);
      })

  -- the session is about to make its entry
  pub is_ready : (one : RequestedEntry) → new ≡ with_line text old new.draft → Tells setup old.session was.draft text new.draft (Some one)
      → IsReady setup mine new one
  is_ready one rest tells =
      let R : SessionReader → Type 0 = λ r. IsReady setup mine r one in
      subst R (sym rest) (record {
        declared = stands.declared;
        unended = stands.unended;
        unclosed = stands.closed ∙ opened;
        opened = opened;
        none_refused = was.none_refused;
        before = old.pending;
        private = was.private;
        draft = was.draft;
        drawn = was.made;
        prepared = tells.leaves old.pending;
      })

-- a line after the one that closed the session is counted
pub stands_refused : (setup : Setup) (mine : List Entry) (reader : SessionReader) → reader.closed ≡ true → Stands setup mine reader
    → Stands setup mine (record reader { refused = reader.refused + 1 })
stands_refused setup mine reader closed stands = record {
  declared = stands.declared;
  unended = stands.unended;
  closed = stands.closed;
  when_open = λ is. absurd (let both : true ≡ false = sym closed ∙ is in cc);
  when_closed = stands.when_closed;
}

-- ---- a line that makes an entry

pub or_rest : (a b : Bool) → b ≡ false → (a || b) ≡ a
or_rest true b is = refl
or_rest false b is = is

made_no_end : (one : RequestedEntry) → is_end (kind_of one) ≡ false
made_no_end (made.View pair) = refl
made_no_end (made.Viewport c pair props) = refl
made_no_end (made.Present args snapshot) = refl
made_no_end (made.Get get pair) = refl
made_no_end (made.Signal f) = refl
made_no_end made.Poll = refl
made_no_end (made.Wait c) = refl
made_no_end (made.Close why) = refl

close_closes : (setup : Setup) (s : SessionNo) (history : List Entry) (carries : List Call) (why : Option Reason)
    → closes (reply_to setup history (Session s) carries (Close why)) ≡ true
close_closes setup s history carries None = refl
close_closes setup s history carries (Some reason) = refl

pub own_more : (s : SessionNo) (history : List Entry) (n : ℕ) (carries : List Call) (kind : EntryKind) (reply : Reply)
    → own s (history ▹ entry_of (Session s) n carries kind reply) ≡ (own s history ▹ entry_of (Session s) n carries kind reply)
own_more s history n carries kind reply = rw (eq-eqb s.0 s.0 refl) refl

-- what a draft is known to be after an entry that doesn't close
pub record IsLeft (setup : Setup) (made pending : List Call) (after : DraftState) : Type 0 where
  pub draft : Draft
  pub drawn : draft_of setup (made ++ pending) ≡ Ok draft
  pub stands : StandsFor setup after draft
  pub still_open : after.closed ≡ false

module _ (setup : Setup) (s : SessionNo) (history : List Entry) (earlier : List Call) (before pending : List Call) (draft : Draft) (was after : DraftState)
    (drawn : draft_of setup (earlier ++ before) ≡ Ok draft) where
  -- the draft stays, and the calls are those that waited
  left_same : pending ≡ before → after ≡ was → StandsFor setup was draft → was.closed ≡ false → IsLeft setup earlier pending after
  left_same same stays stands opened =
      let P : DraftState → Type 0 = λ state. StandsFor setup state draft in
      record {
        draft = draft;
        drawn = ap (λ p. draft_of setup (earlier ++ p)) same ∙ drawn;
        stands = subst P (sym stays) stands;
        still_open = ap (λ (state : DraftState). state.closed) stays ∙ opened;
      }

  pub left_after : (one : RequestedEntry) (reply : Reply) → IsPrepared setup s draft before pending was one
      → ((d : Draft) → StandsFor setup was d → IsMade setup d was after (viewport_call one))
      → reply ≡ reply_to setup history (Session s) pending (kind_of one) → closes reply ≡ false → IsLeft setup earlier pending after
  left_after (made.View pair) reply p makes replied goes_on =
      let stays : after ≡ was = makes (effect draft (CreateView pair)) p.3 in
      let P : DraftState → Type 0 = λ state. StandsFor setup state (effect draft (CreateView pair)) in
      record {
        draft = effect draft (CreateView pair);
        drawn = ap (λ p. draft_of setup (earlier ++ p)) p.0 ∙ one_more setup earlier before (CreateView pair) draft p.2 drawn;
        stands = subst P (sym stays) p.3;
        still_open = ap (λ (state : DraftState). state.closed) stays ∙ p.4;
      }
  left_after (made.Viewport c pair props) reply p makes replied goes_on =
      let call : Call = CreateViewport c pair props.w props.h props.inset in
      let is_made = makes draft p.3 p.2 in
      record {
        draft = effect draft call;
        drawn = ap (λ p. draft_of setup (earlier ++ p)) p.0 ∙ one_more setup earlier before call draft p.2 drawn;
        stands = is_made.0;
        still_open = is_made.1;
      }
  left_after (made.Present args snapshot) reply p makes replied goes_on = left_same p.0 (makes draft p.4) p.4 p.5
  left_after (made.Get get pair) reply p makes replied goes_on = left_same p.0 (makes draft p.2) p.2 p.3
  left_after (made.Signal f) reply p makes replied goes_on = left_same p.0 (makes draft p.2) p.2 p.3
  left_after made.Poll reply p makes replied goes_on = left_same p.0 (makes draft p.1) p.1 p.2
  left_after (made.Wait c) reply p makes replied goes_on = left_same p.0 (makes draft p.2) p.2 p.3
  left_after (made.Close why) reply p makes replied goes_on =
      absurd (let both : true ≡ false = sym (close_closes setup s history pending why) ∙ sym (ap closes replied) ∙ goes_on in cc)

module _ (setup : Setup) (history : List Entry) (number : ℕ) (reader : SessionReader) (one : RequestedEntry)
    (ready : IsReady setup (own reader.session history) reader one)
  where
    -- the session after its entry
    pub stands_entered : (after : SessionReader) (reply : Reply) → reply ≡ reply_to setup history (Session reader.session) reader.pending (kind_of one)
        → ((d : Draft) → StandsFor setup reader.draft d → IsMade setup d reader.draft after.draft (viewport_call one))
        → after ≡ record reader { draft = after.draft; pending = []; events = after.events; closed = closes reply }
        → Stands setup (own reader.session (history ▹ entry_of (Session reader.session) number reader.pending (kind_of one) reply)) after
    stands_entered after reply replied makes rest =
        let s : SessionNo = reader.session in
        let entry : Entry = entry_of (Session s) number reader.pending (kind_of one) reply in
        let grown : own s (history ▹ entry) ≡ (own s history ▹ entry) = own_more s history number reader.pending (kind_of one) reply in
        let S : SessionReader → Type 0 = λ r. Stands setup (own s (history ▹ entry)) r in
        let M : List Entry → Type 0 = λ mine. Stands setup mine
        (record reader { draft = after.draft; pending = []; events = after.events; closed = closes reply }) in
        subst S (sym rest) (subst M (sym grown) (record {
          declared = ready.declared;
          unended = or-false (made_no_end one) ready.unended;
          closed = or_rest (closes reply) _ ready.unclosed;
          when_open = λ goes_on.
              let left : IsLeft setup (carried (own s history)) reader.pending after.draft =
              left_after setup s history (carried (own s history)) ready.before reader.pending ready.draft reader.draft after.draft ready.drawn one reply
              ready.prepared makes replied goes_on in
              record {
                draft = left.draft;
                made = ap (draft_of setup) (append-nil (carried (own s history) ++ reader.pending)) ∙ left.drawn;
                stands = left.stands;
                still_open = left.still_open;
                private = refl;
                none_refused = ready.none_refused;
              };
          when_closed = λ closing. refl;
        }))

-- ---- an entry that couldn't be made

pub all_but_one : (before : List Call) (call : Call) → take (length (before ++ call ∷ []) - 1) (before ++ call ∷ []) ≡ before
all_but_one before call = grind (arith, common_steps)

-- the calls that waited wait still
pub kept_are : (setup : Setup) (s : SessionNo) (draft : Draft) (before pending : List Call) (after : DraftState) (one : RequestedEntry)
    → IsPrepared setup s draft before pending after one → takes_memory one ≡ true → kept_calls (viewport_call one) pending ≡ before
kept_are setup s draft before pending after (made.View pair) p takes = absurd (cc)
kept_are setup s draft before pending after (made.Viewport c pair props) p takes =
    let call : Call = CreateViewport c pair props.w props.h props.inset in
    ap (λ p. take (length p - 1) p) p.0 ∙ all_but_one before call
kept_are setup s draft before pending after (made.Present args snapshot) p takes = p.0
kept_are setup s draft before pending after (made.Get get pair) p takes = p.0
kept_are setup s draft before pending after (made.Signal f) p takes = absurd (cc)
kept_are setup s draft before pending after made.Poll p takes = p.0
kept_are setup s draft before pending after (made.Wait c) p takes = absurd (cc)
kept_are setup s draft before pending after (made.Close why) p takes = absurd (cc)

-- the draft is what it was
record IsStill (setup : Setup) (draft : Draft) (after : DraftState) : Type 0 where
  pub stands : StandsFor setup after draft
  pub still_open : after.closed ≡ false

is_still : (setup : Setup) (s : SessionNo) (draft : Draft) (before pending : List Call) (after : DraftState) (one : RequestedEntry)
    → IsPrepared setup s draft before pending after one → takes_memory one ≡ true → IsStill setup draft after
is_still setup s draft before pending after (made.View pair) p takes = absurd (cc)
is_still setup s draft before pending after (made.Viewport c pair props) p takes = record { stands = p.3; still_open = p.4 }
is_still setup s draft before pending after (made.Present args snapshot) p takes = record { stands = p.4; still_open = p.5 }
is_still setup s draft before pending after (made.Get get pair) p takes = record { stands = p.2; still_open = p.3 }
is_still setup s draft before pending after (made.Signal f) p takes = absurd (cc)
is_still setup s draft before pending after made.Poll p takes = record { stands = p.1; still_open = p.2 }
is_still setup s draft before pending after (made.Wait c) p takes = absurd (cc)
is_still setup s draft before pending after (made.Close why) p takes = absurd (cc)

pub stands_kept : (setup : Setup) (mine : List Entry) (reader after : SessionReader) (one : RequestedEntry) → IsReady setup mine reader one
    → takes_memory one ≡ true
    → after ≡ record reader { pending = kept_calls (viewport_call one) reader.pending } → Stands setup mine after
stands_kept setup mine reader after one ready takes rest =
    let S : SessionReader → Type 0 = λ r. Stands setup mine r in
    let same : kept_calls (viewport_call one) reader.pending ≡ ready.before =
    kept_are setup reader.session ready.draft ready.before reader.pending reader.draft one ready.prepared takes in
    let still : IsStill setup ready.draft reader.draft =
    is_still setup reader.session ready.draft ready.before reader.pending reader.draft one ready.prepared takes in
    let P : List Call → Type 0 = λ pending. Stands setup mine (record reader { pending = pending }) in
    subst S (sym rest) (subst P (sym same) (record {
      declared = ready.declared;
      unended = ready.unended;
      closed = ready.unclosed ∙ sym ready.opened;
      when_open = λ is. record {
        draft = ready.draft;
        made = ready.drawn;
        stands = still.stands;
        still_open = still.still_open;
        private = ready.private;
        none_refused = ready.none_refused;
      };
      when_closed = λ is. absurd (let both : false ≡ true = sym ready.opened ∙ is in cc);
    }))
