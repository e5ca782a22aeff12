-- What sessions enter changes nothing of what the display's entries tell.
use Rattle.std.proofs.Common.{◌≡◌, ℕ, ℤ, suc, Bool, true, false, cond, ◌==◌, List, [], ◌∷◌, ◌++◌, filter, reverse, refl, sym, ap, ◌∙◌, subst, append-nil}
use Rattle.std.proofs.lemmas.List.{append_cancel_left, append_cancel_right, reverse-append}
use Rattle.std.proofs.lemmas.List.Elements.{filter-append}
use Rattle.flat_base.specs.declared.ids.Actor.{Actor}
use Rattle.flat_base.specs.declared.ids.Actor.TheVariants.{Display, Session, Probe}
use Rattle.flat_scene.specs.declared.frames.Hit as point
use Rattle.flat_scene.specs.declared.journal.Entry.{Entry}
use Rattle.flat_scene.specs.declared.journal.EntryKind.{EntryKind}
use Rattle.flat_scene.specs.declared.journal.EntryKind.TheVariants.{Hit}
use Rattle.flat_scene.specs.declared.setup.Setup.{Setup}
use Rattle.flat_scene.specs.History.{◌▹◌, is_display}
use Rattle.flat_scene.specs.Journals.{history_of, seat_number}
use Rattle.flat_scene.specs.Interleave.{by_display}
use Rattle.flat_scene.specs.Setups.{is_declared}
use Rattle.flat_rules.specs.Ends.{to_begin, to_finished}
use Rattle.flat_rules.specs.Legal.{Legal, is_frame_open, begin_time, frames, may_act, session_may}
use Rattle.flat_report.specs.declared.report.HitAnswer.{HitAnswer}
use Rattle.flat_report.specs.Handed.{answer_to, answers_of}
use Rattle.flat_report.specs.Report.{finished, frame_at, hits_at}
use Rattle.flat_stage.specs.Seats.{MakesOne, entries_of_seat}
use Rattle.flat_race.specs.Publishing.{published_frames, shown_frame}
use Rattle.flat_rules.proofs.lemmas.FrameKinds.{not-begin, not-finish}
use Rattle.flat_base.proofs.lemmas.Tests.{and-left}

-- all that is told of the display is the same in both histories
pub record IsBeside (setup : Setup) (before after : List Entry) : Type 0 where
  pub display : by_display after ≡ by_display before
  pub is_open : is_frame_open after ≡ is_frame_open before
  pub time : begin_time after ≡ begin_time before
  pub begun : to_begin after ≡ to_begin before
  pub ended : to_finished after ≡ to_finished before
  pub number : frames after ≡ frames before
  pub finishing : finished setup after ≡ finished setup before
  pub publishing : published_frames setup after ≡ published_frames setup before
  pub answering : answers_of setup after ≡ answers_of setup before

not_hit : (entry : Entry) (n : ℕ) (hits : ℤ → ℤ → List point.Hit) (kind : EntryKind) → session_may kind ≡ true → answer_to entry n hits kind ≡ []
not_hit entry n hits (Hit x y) may = absurd (cc)
not_hit entry n hits _ may = refl

-- an entry that isn't the display's is of a session, which may make its kind
record IsSessions (setup : Setup) (entry : Entry) : Type 0 where
  other : is_display entry.actor ≡ false
  may : session_may entry.kind ≡ true

abbrev is_first : Entry → Bool
is_first entry = seat_number entry.actor == 0

sessions_entry : (setup : Setup) (entry : Entry) (actor : Actor) → entry.actor ≡ actor → may_act setup entry.kind entry.actor ≡ true → is_first entry ≡ false
    → IsSessions setup entry
sessions_entry setup entry Display is acts other = absurd (let both : true ≡ false = sym (ap (λ a. seat_number a == 0) is) ∙ other in cc)
sessions_entry setup entry (Session s) is acts other =
    record { other = ap is_display is; may = and-left (session_may entry.kind) (is_declared setup s) (sym (ap (may_act setup entry.kind) is) ∙ acts) }
sessions_entry setup entry (Probe p) is acts other = absurd (let both : false ≡ true = sym (ap (may_act setup entry.kind) is) ∙ acts in cc)

module _ (setup : Setup) where
  one_beside : (before : List Entry) (entry : Entry) → IsSessions setup entry → IsBeside setup before (before ▹ entry)
  one_beside before entry is =
      let begins = not-begin entry.kind is.may in
      let finishes = not-finish entry.kind is.may in
      let other = is.other in
      record {
        display = rw other refl;
        is_open = rw (begins, finishes) refl;
        time = rw begins refl;
        begun = rw begins refl;
        ended = rw finishes refl;
        number = rw finishes refl;
        finishing = ap (λ b. finished setup before ++ cond b (frame_at setup (suc (frames before)) (to_begin before) ∷ []) []) finishes
            ∙ append-nil (finished setup before);
        publishing = ap (λ b. published_frames setup before ++ cond b (shown_frame setup (suc (frames before)) (to_begin before) ∷ []) []) finishes
            ∙ append-nil (published_frames setup before);
        answering = ap (λ (more : List HitAnswer). answers_of setup before ++ more)
            (not_hit entry (frames before) (hits_at setup (to_finished before)) entry.kind is.may) ∙ append-nil (answers_of setup before);
      }

  beside_both : (before middle after : List Entry) → IsBeside setup before middle → IsBeside setup middle after → IsBeside setup before after
  beside_both before middle after one two = record {
    display = two.display ∙ one.display;
    is_open = two.is_open ∙ one.is_open;
    time = two.time ∙ one.time;
    begun = two.begun ∙ one.begun;
    ended = two.ended ∙ one.ended;
    number = two.number ∙ one.number;
    finishing = two.finishing ∙ one.finishing;
    publishing = two.publishing ∙ one.publishing;
    answering = two.answering ∙ one.answering;
  }

  pub beside_none : (before : List Entry) → IsBeside setup before before
  beside_none before = record {
    display = refl;
    is_open = refl;
    time = refl;
    begun = refl;
    ended = refl;
    number = refl;
    finishing = refl;
    publishing = refl;
    answering = refl;
  }

  others : (entry : Entry) (later : List Entry) (b : Bool) → is_first entry ≡ b → filter is_first (entry ∷ later) ≡ []
      → (is_first entry ≡ false) × (filter is_first later ≡ [])
  others entry later true is none = absurd (let both : entry ∷ filter is_first later ≡ [] =
      sym (ap (λ b. cond b (entry ∷ filter is_first later) (filter is_first later)) is) ∙ none in cc)
  others entry later false is none = (is, sym (ap (λ b. cond b (entry ∷ filter is_first later) (filter is_first later)) is) ∙ none)

  -- nor does a list of such entries
  pub beside : (later before : List Entry) → Legal setup (later ++ before) → filter is_first later ≡ [] → IsBeside setup before (later ++ before)
  beside [] before legal none = beside_none before
  beside (entry ∷ later) before legal none =
      let rest = others entry later (is_first entry) refl none in
      beside_both before (later ++ before) ((entry ∷ later) ++ before) (beside later before legal.0 rest.1)
      (one_beside (later ++ before) entry (sessions_entry setup entry entry.actor refl legal.1.may.acts rest.0))

  -- ---- journals, which have the oldest entry first

  none_reversed : (xs : List Entry) → filter is_first xs ≡ [] → filter is_first (reverse xs) ≡ []
  none_reversed [] none = refl
  none_reversed (entry ∷ later) none =
      let rest = others entry later (is_first entry) refl none in
      ap (filter is_first) (reverse-append (entry ∷ []) later) ∙ filter-append is_first (reverse later) (entry ∷ [])
      ∙ ap (λ (es : List Entry). es ++ filter is_first (entry ∷ [])) (none_reversed later rest.1) ∙ ap (λ b. cond b (entry ∷ []) []) rest.0

  pub seen_beside : (seen more : List Entry) → Legal setup (history_of (seen ++ more)) → entries_of_seat 0 (seen ++ more) ≡ entries_of_seat 0 seen
      → IsBeside setup (history_of seen) (history_of (seen ++ more))
  seen_beside seen more legal same =
      let parts : history_of (seen ++ more) ≡ reverse more ++ reverse seen = reverse-append seen more in
      let L : List Entry → Type 0 = Legal setup in
      let B : List Entry → Type 0 = IsBeside setup (history_of seen) in
      let none : filter is_first more ≡ [] =
      append_cancel_left (filter is_first seen) (filter is_first more) []
      (sym (filter-append is_first seen more) ∙ same ∙ sym (append-nil (filter is_first seen))) in
      subst B (sym parts) (beside (reverse more) (reverse seen) (subst L parts legal) (none_reversed more none))

-- what others entered before an entry of the display
pub record HasEntered (setup : Setup) (seen : List Entry) (entry : Entry) (seen_then : List Entry) : Type 0 where
  pub middle : List Entry
  pub grown : history_of seen_then ≡ (middle ▹ entry)
  pub beside : IsBeside setup (history_of seen) middle

pub has_entered : (setup : Setup) (seen mine : List Entry) (entry : Entry) (seen_then mine_then : List Entry) → is_first entry ≡ true
    → mine ≡ entries_of_seat 0 seen → MakesOne setup 0 seen mine entry seen_then mine_then → HasEntered setup seen entry seen_then
has_entered setup seen mine entry seen_then mine_then first own one =
    let all : List Entry = seen ++ one.between in
    let grown : history_of seen_then ≡ (history_of all ▹ entry) = ap history_of one.longer ∙ reverse-append all (entry ∷ []) in
    let L : List Entry → Type 0 = Legal setup in
    let last : filter is_first (entry ∷ []) ≡ entry ∷ [] = ap (λ b. cond b (entry ∷ []) []) first in
    let split : filter is_first (all ++ entry ∷ []) ≡ filter is_first all ++ entry ∷ [] =
    filter-append is_first all (entry ∷ []) ∙ ap (λ (es : List Entry). filter is_first all ++ es) last in
    let both : filter is_first all ++ entry ∷ [] ≡ filter is_first seen ++ entry ∷ [] =
    sym split ∙ sym (ap (filter is_first) one.longer) ∙ sym one.whole ∙ one.one_more ∙ ap (λ (es : List Entry). es ++ entry ∷ []) own in
    record {
      middle = history_of all;
      grown = grown;
      beside = seen_beside setup seen one.between (subst L grown one.legal).0
          (append_cancel_right (filter is_first all) (filter is_first seen) (entry ∷ []) both);
    }
