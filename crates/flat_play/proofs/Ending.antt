-- How the sessions end.
use Rattle.std.proofs.Common.{◌≡◌, ◌≢◌, ℕ, ◌+◌, ◌<◌, ◌≤◌, Bool, true, false, cond, ◌==◌, List, [], ◌∷◌, ◌++◌, length, take, map, reverse, get_or, set, refl}
use Rattle.std.proofs.Common.{sym, ap, ◌∙◌, subst, arith, append-nil, append_assoc, get_or-set_other}
use Rattle.std.proofs.lemmas.List.{length-set, map-append, reverse-append, take_all}
use Rattle.std.proofs.lemmas.Bool.{eq-eqb, eqb-true}
use Rattle.std.proofs.lemmas.Grind.{common_steps}
use Rattle.flat_base.specs.declared.ids.Actor.TheVariants.{Session}
use Rattle.flat_base.specs.declared.ids.SessionNo.{SessionNo}
use Rattle.flat_scene.specs.declared.script.SessionLine.{SessionLine}
use Rattle.flat_scene.specs.declared.journal.Entry.{Entry}
use Rattle.flat_scene.specs.declared.journal.EntryKind.TheVariants.{End}
use Rattle.flat_scene.specs.declared.journal.Reply.TheVariants.{Done}
use Rattle.flat_scene.specs.declared.setup.Setup.{Setup}
use Rattle.flat_scene.specs.Frames.{sessions_to}
use Rattle.flat_scene.specs.History.{◌▹◌, own}
use Rattle.flat_scene.specs.Interleave.{session_lines, display_lines, IsReading, IsWritten}
use Rattle.flat_core.specs.Machines.{Machine, HasShare, entered, entry_of, made}
use Rattle.flat_places.specs.declared.script.Script.{Script}
use Rattle.flat_play.specs.declared.play.Play.{Play}
use Rattle.flat_session.specs.declared.session_reader.SessionReader.{SessionReader}
use Rattle.flat_session.specs.Readings.{EndsAreRead, HasRead, Rise}
use Rattle.flat_session.specs.Reads.{Stands}
use Rattle.flat_playable.specs.Playable.{is_playable}
use Rattle.flat_play.specs.Storing.{StoreStands}
use Rattle.flat_play.proofs.lemmas.Storing.{finish_the_same, stored_on}
use Rattle.flat_play.specs.Playing.{lines_by, ReaderStands, DisplayStands, PlayStands, HasEnds, EndsStand, HasPlayed}
use Rattle.flat_play.proofs.lemmas.Places.{all_to, drop_all, rises}
use Rattle.flat_play.proofs.lemmas.Readers.{on_board, session_rise}
use Rattle.flat_play.proofs.lemmas.PlaySteps.{has_room, not_same}
use Rattle.flat_play.proofs.lemmas.Starting.{sessions_more}

-- ---- behind the last line

-- all lines are played, and no session has ended
pub ends_first : (script : Script) (play : Play) → PlayStands script (length script.lines) play → EndsStand script 0 play
ends_first script play stands = record {
  setup = stands.setup;
  shares = stands.shares;
  count = stands.readers.count;
  readings = λ k below. absurd (omega arith);
  waiting = λ k d from within. stands.readers.each k d within;
  display = stands.display;
  has_ends = record {
    rising = reverse play.board.history;
    ends = [];
    parts = sym (append-nil (reverse play.board.history));
    rise = stands.order.rise;
    no_end = stands.order.no_ends;
    in_order = refl;
  };
  unspent = λ k from. let spent = stands.spent.spent (k + 1) in omega arith;
  stored = stands.frames.stored;
}

-- ---- one session ends

-- what stands by a session's own entries
own_kept : (script : Script) (s : SessionNo) (place : ℕ) (old new : List Entry) (reader : SessionReader) → own s new ≡ own s old
    → ReaderStands script s place old reader → ReaderStands script s place new reader
own_kept script s place old new reader same stands =
    let S : List Entry → Type 0 = λ es. Stands script.setup es reader in
    let H : List Entry → Type 0 = λ es. HasRead script.setup (session_lines s (take place script.lines)) es reader in
    record { session = stands.session; few = stands.few; stands = subst S (sym same) stands.stands; reads = subst H (sym same) stands.reads }

module _ (ends_are_read : EndsAreRead) (script : Script) (playable : is_playable script ≡ true) (before : ℕ) (within : before < script.setup.sessions) where
  abbrev s : SessionNo
  s = record { 0 = before + 1 }

  module _ (old : Play) (stands : EndsStand script before old) (reader : SessionReader)
      (mine : ReaderStands script s (length script.lines) old.board.history reader)
    where
      share : HasShare old.board (Session s)
      share = has_room script old.board (before + 1) (omega arith) (omega arith) stands.shares (stands.unspent before (omega arith))

      -- what its End asks
      pub end_share : HasShare old.board (Session reader.session)
      end_share = let P : SessionNo → Type 0 = λ n. HasShare old.board (Session n) in subst P (sym mine.session) share

      pub end_stands : Stands old.board.setup (own reader.session old.board.history) reader
      end_stands = on_board script.setup s old.board reader stands.setup mine.session (λ setup es r. Stands setup es r) mine.stands

      abbrev last : Entry
      last = entry_of (Session s) (script.count + 1) reader.pending (End reader.refused) Done

      own_other : (k : ℕ) → k ≢ before → own (record { 0 = k + 1 }) (old.board.history ▹ last) ≡ own (record { 0 = k + 1 }) old.board.history
      own_other k other =
          let differ : before + 1 ≢ k + 1 = (λ same. other (omega arith)) in
          rw (not_same (before + 1) (k + 1) differ) refl

      reading : IsReading script.setup script.count (session_lines s script.lines) (own s (old.board.history ▹ last))
      reading =
          let given : List (ℕ × SessionLine) = session_lines s (take (length script.lines) script.lines) in
          let all : given ≡ session_lines s script.lines = ap (session_lines s) (take_all (length script.lines) script.lines (omega arith)) in
          let R : List (ℕ × SessionLine) → Type 0 = Rise 0 in
          let rise : Rise 0 given = subst R (sym all) (session_rise s 0 script.lines (rises script playable)) in
          let has : HasRead old.board.setup given (own reader.session old.board.history) reader =
          on_board script.setup s old.board reader stands.setup mine.session (λ setup es r. HasRead setup given es r) mine.reads in
          let I : Setup → List (ℕ × SessionLine) → SessionNo → Type 0 =
          λ setup lines n. IsReading setup script.count lines
          (own n (old.board.history ▹ entry_of (Session n) (script.count + 1) reader.pending (End reader.refused) Done)) in
          let I1 : Setup → Type 0 = λ setup. I setup given reader.session in
          let I2 : List (ℕ × SessionLine) → Type 0 = λ lines. I script.setup lines reader.session in
          let I3 : SessionNo → Type 0 = I script.setup (session_lines s script.lines) in
          subst I3 mine.session (subst I2 all (subst I1 stands.setup (ends_are_read given script.count old.board reader end_stands has rise)))

      all_read : (k : ℕ) → k < before + 1 → (b : Bool) → (k == before) ≡ b
          → IsReading script.setup script.count (session_lines (record { 0 = k + 1 }) script.lines) (own (record { 0 = k + 1 }) (old.board.history ▹ last))
      all_read k below true is =
          let P : ℕ → Type 0 = λ n. IsReading script.setup script.count (session_lines (record { 0 = n + 1 }) script.lines)
          (own (record { 0 = n + 1 }) (old.board.history ▹ last)) in
          subst P (sym (eqb-true k before is)) reading
      all_read k below false is =
          let other : k ≢ before = (λ same. let yes : (k == before) ≡ true = eq-eqb k before same in let both : true ≡ false = sym yes ∙ is in cc) in
          let R : List Entry → Type 0 = IsReading script.setup script.count (session_lines (record { 0 = k + 1 }) script.lines) in
          subst R (sym (own_other k other)) (stands.readings k (omega arith))

      more_ends : HasEnds (before + 1) (old.board.history ▹ last)
      more_ends =
          let ends = stands.has_ends in
          record {
            rising = ends.rising;
            ends = ends.ends ++ last ∷ [];
            parts = reverse-append (last ∷ []) old.board.history ∙ ap (λ es. es ++ last ∷ []) ends.parts ∙ append_assoc ends.rising ends.ends (last ∷ []);
            rise = ends.rise;
            no_end = ends.no_end;
            in_order = map-append (λ (entry : Entry). entry.actor) ends.ends (last ∷ []) ∙ ap (λ es. es ++ Session s ∷ []) ends.in_order
                ∙ sym (ap (map Session) (sessions_more before) ∙ map-append Session (sessions_to before) (s ∷ []));
          }

      still_unspent : (k : ℕ) → before + 1 ≤ k → made (k + 1) (old.board.history ▹ last) ≤ lines_by (k + 1) script.lines
      still_unspent k from =
          let differ : before + 1 ≢ k + 1 = (λ same. omega arith) in
          let more : made (k + 1) (old.board.history ▹ last) ≡ made (k + 1) old.board.history + cond (before + 1 == k + 1) 1 0 = grind (arith, common_steps) in
          let none : ◌≡◌ {A = ℕ} (cond (before + 1 == k + 1) 1 0) 0 = ap (λ b. cond b 1 0) (not_same (before + 1) (k + 1) differ) in
          let was : made (k + 1) old.board.history ≤ lines_by (k + 1) script.lines = stands.unspent k (omega arith) in
          omega (arith, more, none, was)

      pub ends_more : (new : Play) (changed : SessionReader) → new.board
          ≡ entered old.board (Session reader.session) (script.count + 1) reader.pending (End reader.refused) Done
          → new.readers.items ≡ set old.readers.items before changed → new.store ≡ old.store → EndsStand script (before + 1) new
      ends_more new changed board readers same_store =
          let h : List Entry = old.board.history in
          let own_entry : entry_of (Session reader.session) (script.count + 1) reader.pending (End reader.refused) Done ≡ last =
          ap (λ (n : SessionNo). entry_of (Session n) (script.count + 1) reader.pending (End reader.refused) Done) mine.session in
          let grown : (h ▹ last) ≡ new.board.history = sym (ap (λ (m : Machine). m.history) board ∙ ap (λ (e : Entry). h ▹ e) own_entry) in
          let still : List SessionReader = set old.readers.items before changed in
          let R : List Entry → Type 0 = λ es. (k : ℕ) → k < before + 1
          → IsReading script.setup script.count (session_lines (record { 0 = k + 1 }) script.lines) (own (record { 0 = k + 1 }) es) in
          let W : List SessionReader → List Entry → Type 0 = λ ps es. (k : ℕ) (d : SessionReader) → before + 1 ≤ k → k < length ps
          → ReaderStands script (record { 0 = k + 1 }) (length script.lines) es (get_or ps k d) in
          let W1 : List SessionReader → Type 0 = λ ps. W ps (h ▹ last) in
          let W2 : List Entry → Type 0 = W new.readers.items in
          let D : List Entry → Type 0 = DisplayStands script (length script.lines) in
          let E : List Entry → Type 0 = HasEnds (before + 1) in
          let U : List Entry → Type 0 = λ es. (k : ℕ) → before + 1 ≤ k → made (k + 1) es ≤ lines_by (k + 1) script.lines in
          let S : List Entry → Type 0 = λ es. StoreStands script es new.store in
          let waiting : W still (h ▹ last) = (λ k d from inside.
          let other : k ≢ before = (λ same. omega arith) in
          let there : k < length old.readers.items = omega (arith, length-set old.readers.items before changed) in
          rw get_or-set_other (own_kept script (record { 0 = k + 1 }) (length script.lines) h (h ▹ last) (get_or old.readers.items k d) (own_other k other)
          (stands.waiting k d (omega arith) there))) in
          record {
            setup = ap (λ (m : Machine). m.setup) board ∙ stands.setup;
            shares = ap (λ (m : Machine). m.shares) board ∙ stands.shares;
            count = ap length readers ∙ length-set old.readers.items before changed ∙ stands.count;
            readings = subst R grown (λ k below. all_read k below (k == before) refl);
            waiting = subst W2 grown (subst W1 (sym readers) waiting);
            display = subst D grown (let d = stands.display in record { follows = d.follows; left = d.left; closing = d.closing });
            has_ends = subst E grown more_ends;
            unspent = subst U grown still_unspent;
            stored = subst S grown
                (rw same_store (stored_on script h (h ▹ last) old.store (finish_the_same script.setup h last refl refl) stands.stored));
          }

-- ---- all sessions have ended

pub has_played : (script : Script) (play : Play) → EndsStand script script.setup.sessions play → HasPlayed script play.board play.store.kept play.store.answers
has_played script play stands =
    let h : List Entry = play.board.history in
    record {
      setup = stands.setup;
      interleaves = record {
        sessions = all_to (λ s. IsReading script.setup script.count (session_lines s script.lines) (own s h)) script.setup.sessions stands.readings;
        display = stands.display.follows;
        all_read = stands.display.left ∙ ap display_lines (drop_all script.lines);
      };
      keeps = stands.stored.keeps;
      answering = stands.stored.points;
    }

pub is_written : (script : Script) (play : Play) → EndsStand script script.setup.sessions play → IsWritten script.setup play.board.history
is_written script play stands =
    let ends = stands.has_ends in
    record { rising = ends.rising; ends = ends.ends; parts = ends.parts; rise = ends.rise; no_end = ends.no_end; in_order = ends.in_order }
