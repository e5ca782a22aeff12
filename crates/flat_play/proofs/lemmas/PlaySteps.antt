-- The whole run after one more line of the script.
use Rattle.std.proofs.Common.{◌≡◌, ◌≢◌, ℕ, zero, suc, ◌+◌, ◌-◌, ◌<◌, ◌≤◌, Bool, true, false, not, ◌==◌, nat_lt, nat_le, List, [], ◌∷◌, ◌++◌, length, map}
use Rattle.std.proofs.Common.{get_or, set, refl, sym, ap, ◌∙◌, subst, arith, None, get_or-set_other, get_or-set_same}
use Rattle.std.proofs.lemmas.List.{length-set, map-append, get_or_append_left}
use Rattle.std.proofs.Math.Seq.{get_or-append_seam}
use Rattle.std.proofs.lemmas.Bool.{eq-eqb, eqb-true}
use Rattle.std.proofs.lemmas.Bool.Decides.{nat_tests}
use Rattle.flat_base.specs.declared.ids.Actor.TheVariants.{Display, Session, Probe}
use Rattle.flat_base.specs.declared.ids.SessionNo.{SessionNo}
use Rattle.flat_scene.specs.declared.journal.Entry.{Entry}
use Rattle.flat_scene.specs.declared.journal.EntryKind.{EntryKind}
use Rattle.flat_scene.specs.declared.journal.EntryKind.TheVariants.{Begin, Finish}
use Rattle.flat_scene.specs.declared.journal.Reply.{Reply}
use Rattle.flat_scene.specs.declared.journal.Reply.TheVariants.{Done}
use Rattle.flat_scene.specs.declared.script.LineBody.{LineBody}
use Rattle.flat_scene.specs.declared.script.LineBody.TheVariants as body
use Rattle.flat_scene.specs.declared.script.DisplayLine.{DisplayLine}
use Rattle.flat_scene.specs.declared.script.DisplayLine.TheVariants as display
use Rattle.flat_scene.specs.declared.script.SessionLine.{SessionLine}
use Rattle.flat_scene.specs.declared.script.ProbeLine.{ProbeLine}
use Rattle.flat_scene.specs.declared.script.ScriptLine.{ScriptLine}
use Rattle.flat_scene.specs.declared.setup.Setup.{Setup}
use Rattle.flat_scene.specs.Frames.{sessions_to}
use Rattle.flat_scene.specs.Interleave.{entry_of_display}
use Rattle.flat_scene.specs.History.{◌▹◌, is_finish, is_session}
use Rattle.flat_scene.specs.Setups.{is_declared}
use Rattle.flat_core.specs.Machines.{Machine, HasShare, entered, entry_of, made}
use Rattle.flat_core.specs.Starts.{StartsFrame, is_beside}
use Rattle.flat_rules.specs.Legal.{is_frame_open, reply_to}
use Rattle.flat_report.specs.Report.{finished}
use Rattle.flat_places.specs.declared.script.Script.{Script}
use Rattle.flat_play.specs.declared.frame.LastFrame.{LastFrame}
use Rattle.flat_play.specs.declared.play.Play.{Play}
use Rattle.flat_play.specs.Last.{StaysLast}
use Rattle.flat_play.specs.Storing.{AnswersLine, FramesStand}
use Rattle.flat_session.specs.declared.session_reader.SessionReader.{SessionReader}
use Rattle.flat_playable.specs.Playable.{is_played}
use Rattle.flat_play.specs.Playing.{IsSpent, lines_by, shares_of, ReaderStands, ReadersStand, DisplayStands, PlayStands, BeginsFrame}
use Rattle.flat_play.specs.Playing.{FinishesFrame, EntersBeside, session_text, display_text}
use Rattle.flat_play.proofs.lemmas.Beside.{LeavesFrames, leaves_frames}
use Rattle.flat_play.proofs.lemmas.Growing.{Grows, grows, stays}
use Rattle.flat_play.proofs.lemmas.Storing.{frames_begin, frames_done, frames_line, frames_stay, stays_stored}
use Rattle.flat_play.proofs.lemmas.DisplaySteps.{QuietStep, begin_time_ok, quiet_end, display_session, display_probe, display_begin, display_done}
use Rattle.flat_play.proofs.lemmas.DisplaySteps.{display_beside, finished-beside, finished-session, frames_session}
use Rattle.flat_play.proofs.lemmas.DisplaySteps as quiet
use Rattle.flat_rules.proofs.lemmas.ShownList.{length-listed}
use Rattle.flat_play.proofs.lemmas.Steps.{At, Step, same, more, order_more, spent_more, reader_other}
use Rattle.flat_base.proofs.lemmas.Tests.{and-left, and-right}

shut : (is_open : Bool) → not is_open ≡ true → is_open ≡ false
shut true is = absurd (let wrong : false ≡ true = is in cc)
shut false is = refl

-- ---- sessions and their shares

abbrev share_of : Script → SessionNo → ℕ
share_of script s = lines_by s.0 script.lines + 1

last_share : (script : Script) (n k : ℕ) (b : Bool) → nat_lt k n ≡ b → k < suc n
    → (k < n → get_or (map (share_of script) (sessions_to n)) k 0 ≡ lines_by (suc k) script.lines + 1)
    → get_or (map (share_of script) (sessions_to n) ++ (lines_by (suc n) script.lines + 1) ∷ []) k 0 ≡ lines_by (suc k) script.lines + 1
last_share script n k true is below earlier =
    let less : k < n = grind (arith, nat_tests) in
    let inside : k < length (map (share_of script) (sessions_to n)) = let count : length (map (share_of script) (sessions_to n)) ≡ n =
    length-listed (share_of script) n in omega arith in
    get_or_append_left (map (share_of script) (sessions_to n)) ((lines_by (suc n) script.lines + 1) ∷ []) 0 k inside ∙ earlier less
last_share script n k false is below earlier =
    let same : k ≡ n = grind (arith, nat_tests) in
    let count : length (map (share_of script) (sessions_to n)) ≡ n = length-listed (share_of script) n in
    ap (get_or (map (share_of script) (sessions_to n) ++ (lines_by (suc n) script.lines + 1) ∷ []) k) refl
    ∙ ap (λ i. get_or (map (share_of script) (sessions_to n) ++ (lines_by (suc n) script.lines + 1) ∷ []) i 0) (same ∙ sym count)
    ∙ get_or-append_seam (map (share_of script) (sessions_to n)) (lines_by (suc n) script.lines + 1) [] 0
    ∙ ap (λ i. lines_by (suc i) script.lines + 1) (sym same)

share_at : (script : Script) (n k : ℕ) → k < n → get_or (map (share_of script) (sessions_to n)) k 0 ≡ lines_by (suc k) script.lines + 1
share_at script zero k below = absurd (omega arith)
share_at script (suc n) k below =
    ap (λ xs. get_or xs k 0) (map-append (share_of script) (sessions_to n) ((record { 0 = suc n }) ∷ []))
    ∙ last_share script n k (nat_lt k n) refl below (λ less. share_at script n k less)

-- a session may make one entry for each of its lines, and its End
pub share_is : (script : Script) (n : ℕ) → 0 < n → n ≤ script.setup.sessions → get_or (shares_of script) n 0 ≡ lines_by n script.lines + 1
share_is script zero above below = absurd (omega arith)
share_is script (suc k) above below = share_at script script.setup.sessions k (omega arith)

pub has_room : (script : Script) (m : Machine) (n : ℕ) → 0 < n → n ≤ script.setup.sessions → m.shares ≡ shares_of script
    → made n m.history ≤ lines_by n script.lines → made n m.history < get_or m.shares n 0
has_room script m n above below shares few =
    let share : get_or m.shares n 0 ≡ lines_by n script.lines + 1 = ap (λ xs. get_or xs n 0) shares ∙ share_is script n above below in
    omega (arith, few, share)

pub below_declared : (setup : Setup) (s : SessionNo) → is_declared setup s ≡ true → (0 < s.0) × (s.0 ≤ setup.sessions)
below_declared setup s declared = (
  let a : nat_lt 0 s.0 ≡ true = and-left _ _ declared in
      grind (arith, nat_tests),
  let b : nat_le s.0 setup.sessions ≡ true = and-right (nat_lt 0 s.0) _ declared in grind (arith, nat_tests),
)

-- what a board that grows keeps
record Grown (x : ScriptLine) (old new : Machine) : Type 0 where
  setup : new.setup ≡ old.setup
  shares : new.shares ≡ old.shares
  step : Step x old.history new.history
  calm : QuietStep old.history new.history

grown_is : (x : ScriptLine) (s : SessionNo) (old new : Machine) → x.actor ≡ Session s → Grows old new (Session s) x.number → Grown x old new
grown_is x s old new actor (stays is) = record {
  setup = ap (λ (m : Machine). m.setup) is;
  shares = ap (λ (m : Machine). m.shares) is;
  step = same (ap (λ (m : Machine). m.history) is);
  calm = quiet.same (ap (λ (m : Machine). m.history) is);
}
grown_is x s old new actor (grows carries kind reply calm is) =
    let e : Entry = entry_of (Session s) x.number carries kind reply in
    record {
      setup = ap (λ (m : Machine). m.setup) is;
      shares = ap (λ (m : Machine). m.shares) is;
      step = more e (sym actor) refl (quiet_end kind calm) (ap (λ (m : Machine). m.history) is);
      calm = quiet.more e refl calm (ap (λ (m : Machine). m.history) is);
    }

-- what a session's line leaves of the finished frames
pub session_finishes : (setup : Setup) (x : ScriptLine) (s : SessionNo) (old new : Machine) → x.actor ≡ Session s → Grows old new (Session s) x.number
    → finished setup new.history ≡ finished setup old.history
session_finishes setup x s old new actor grown = finished-session setup old.history new.history (grown_is x s old new actor grown).calm

-- what an entry of the display leaves of them, where it ends no frame
pub display_finishes : (setup : Setup) (old new : Machine) (n : ℕ) (kind : EntryKind) (reply : Reply) → is_finish kind ≡ false
    → new ≡ entered old Display n [] kind reply → finished setup new.history ≡ finished setup old.history
display_finishes setup old new n kind reply no_finish board =
    ap (λ (m : Machine). finished setup m.history) board ∙ finished-beside setup old.history (entry_of Display n [] kind reply) no_finish

pub not_same : (n m : ℕ) → n ≢ m → (n == m) ≡ false
not_same n m other = grind (arith, nat_tests)

module _ (script : Script) (place : ℕ) (x : ScriptLine) (at : At script place x) where
  pub session_share : (m : Machine) (s : SessionNo) → m.shares ≡ shares_of script → is_declared script.setup s ≡ true → IsSpent script place m.history
      → HasShare m (Session s)
  session_share m s shares declared spent =
      let within = below_declared script.setup s declared in
      let few : made s.0 m.history ≤ lines_by s.0 script.lines = let now = spent.spent s.0 in omega arith in
      has_room script m s.0 within.0 within.1 shares few

  -- all readers, where one has played the line
  readers_more : (s : SessionNo) (old new : List Entry) (readers : List SessionReader) (reader : SessionReader) → x.actor ≡ Session s → 0 < s.0
      → s.0 ≤ length readers
      → Step x old new
      → ReadersStand script place old readers → ReaderStands script s (place + 1) new reader
      → ReadersStand script (place + 1) new (set readers (s.0 - 1) reader)
  readers_more s old new readers reader actor above below step stand mine = record {
    count = length-set readers (s.0 - 1) reader ∙ stand.count;
    each = λ k d inside. by_place k d (omega (arith, length-set readers (s.0 - 1) reader)) (k + 1 == s.0) refl;
  }
    where
      by_place : (k : ℕ) (d : SessionReader) → k < length readers → (b : Bool) → (k + 1 == s.0) ≡ b
          → ReaderStands script (record { 0 = k + 1 }) (place + 1) new (get_or (set readers (s.0 - 1) reader) k d)
      by_place k d inside true is =
          let here : k + 1 ≡ s.0 = eqb-true (k + 1) s.0 is in
          let index : k ≡ s.0 - 1 = omega arith in
          let P : ℕ → Type 0 = λ n. ReaderStands script (record { 0 = n }) (place + 1) new reader in
          let Q : SessionReader → Type 0 = λ p. ReaderStands script (record { 0 = k + 1 }) (place + 1) new p in
          let within : s.0 - 1 < length readers = omega arith in
          let found : get_or (set readers (s.0 - 1) reader) k d ≡ reader =
          ap (λ n. get_or (set readers (s.0 - 1) reader) n d) index ∙ rw get_or-set_same refl in
          subst Q (sym found) (subst P (sym here) mine)
      by_place k d inside false is =
          let other : k ≢ s.0 - 1 = (λ same. let yes : (k + 1 == s.0) ≡ true = eq-eqb (k + 1) s.0 (omega arith) in let both : true ≡ false = sym yes ∙ is in
          cc) in
          let differ : s.0 ≢ k + 1 = (λ same. let yes : (k + 1 == s.0) ≡ true = eq-eqb (k + 1) s.0 (sym same) in let both : true ≡ false = sym yes ∙ is in
          cc) in
          let apart : is_session (record { 0 = k + 1 }) x.actor ≡ false = ap (is_session (record { 0 = k + 1 })) actor ∙ not_same s.0 (k + 1) differ in
          rw get_or-set_other (reader_other script place x at (record { 0 = k + 1 }) apart old new (get_or readers k d) step (stand.each k d inside))

  -- a line of no session
  readers_beside : (readers : List SessionReader) (old new : List Entry) → ((s : SessionNo) → is_session s x.actor ≡ false) → Step x old new
      → ReadersStand script place old readers → ReadersStand script (place + 1) new readers
  readers_beside readers old new other step stand = record {
    count = stand.count;
    each = λ k d inside. reader_other script place x at (record { 0 = k + 1 }) (other (record { 0 = k + 1 })) old new (get_or readers k d) step
        (stand.each k d inside);
  }

  display_readers : (old_readers readers : List SessionReader) (old new : List Entry) → x.actor ≡ Display → Step x old new → readers ≡ old_readers
      → ReadersStand script place old old_readers → ReadersStand script (place + 1) new readers
  display_readers old_readers readers old new actor step is stand =
      let P : List SessionReader → Type 0 = ReadersStand script (place + 1) new in
      subst P (sym is) (readers_beside old_readers old new (λ s. ap (is_session s) actor) step stand)

  -- a line of a probe, which leaves the run as it is
  pub probe_more : (play : Play) (p : ℕ) (asked : ProbeLine) → x.actor ≡ Probe p → x.body ≡ body.Probe asked → PlayStands script place play
      → PlayStands script (place + 1) play
  probe_more play p asked actor is stands =
      let h : List Entry = play.board.history in
      record {
        setup = stands.setup;
        shares = stands.shares;
        readers = readers_beside play.readers.items h h (λ s. ap (is_session s) actor) (same refl) stands.readers;
        display = display_probe script place x at asked is h stands.display;
        order = order_more script place x at h h (same refl) stands.order;
        spent = spent_more script place x at h h (same refl) stands.spent;
        frames = stands.frames;
      }

  -- a line of a session, which its reader has played
  pub session_more : (old new : Play) (s : SessionNo) (text : SessionLine) (reader : SessionReader) → x.actor ≡ Session s → x.body ≡ body.Session text
      → is_declared script.setup s ≡ true → PlayStands script place old
      → new.readers.items ≡ set old.readers.items (s.0 - 1) reader → ReaderStands script s (place + 1) new.board.history reader
      → Grows old.board new.board (Session s) x.number → new.start ≡ old.start → new.store ≡ old.store → PlayStands script (place + 1) new
  session_more old new s text reader actor is declared stands readers_is mine grown start_is store_is =
      let g : Grown x old.board new.board = grown_is x s old.board new.board actor grown in
      let within = below_declared script.setup s declared in
      let inside : s.0 ≤ length old.readers.items = let count = stands.readers.count in let below = within.1 in omega arith in
      let P : List SessionReader → Type 0 = ReadersStand script (place + 1) new.board.history in
      record {
        setup = g.setup ∙ stands.setup;
        shares = g.shares ∙ stands.shares;
        readers = subst P (sym readers_is) (readers_more s old.board.history new.board.history old.readers.items reader actor within.0 inside g.step
            stands.readers mine);
        display = display_session script place x at text is old.board.history new.board.history g.calm stands.display;
        order = order_more script place x at old.board.history new.board.history g.step stands.order;
        spent = spent_more script place x at old.board.history new.board.history g.step stands.spent;
        frames = rw (start_is, store_is) (frames_session script old.board.history new.board.history old.start old.store g.calm stands.frames);
      }

  -- a line that begins a frame
  pub begin_more : (old new : Play) (time : ℕ) → x.actor ≡ Display → x.body ≡ body.Display (display.Begin time) → PlayStands script place old
      → BeginsFrame old new x.number time → PlayStands script (place + 1) new
  begin_more old new time actor is stands begins =
      let e : Entry = entry_of Display x.number [] (Begin time) Done in
      let h : List Entry = old.board.history in
      let grown : new.board.history ≡ (h ▹ e) = ap (λ (m : Machine). m.history) begins.board in
      let setup : new.board.setup ≡ script.setup = ap (λ (m : Machine). m.setup) begins.board ∙ stands.setup in
      let step : Step x h new.board.history = more e (sym actor) refl refl grown in
      let D : List Entry → Type 0 = DisplayStands script (place + 1) in
      let S : Setup → Type 0 = λ st. StartsFrame st new.board.history old.start new.start in
      let G : List Entry → Type 0 = λ es. StartsFrame script.setup es old.start new.start in
      let F : List Entry → Type 0 = λ es. FramesStand script es new.start new.store in
      let closed : is_frame_open h ≡ false = shut (is_frame_open h)
      (and-left (not (is_frame_open h)) _ (begin_time_ok script place x at time is h stands.display)) in
      record {
        setup = setup;
        shares = ap (λ (m : Machine). m.shares) begins.board ∙ stands.shares;
        readers = display_readers old.readers.items new.readers.items h new.board.history actor step (ap (λ v. v.items) begins.readers) stands.readers;
        display = subst D (sym grown) (display_begin script place x at time is h stands.display);
        order = order_more script place x at h new.board.history step stands.order;
        spent = spent_more script place x at h new.board.history step stands.spent;
        frames = subst F (sym grown) (rw begins.store
            (frames_begin script h old.start old.store stands.frames x.number time new.start closed (subst G grown (subst S setup begins.start))));
      }

  -- a line that ends one
  pub finish_more : (old new : Play) → x.actor ≡ Display → x.body ≡ body.Display display.Done → PlayStands script place old
      → FinishesFrame script old new x.number → PlayStands script (place + 1) new
  finish_more old new actor is stands finishes =
      let e : Entry = entry_of Display x.number [] Finish Done in
      let h : List Entry = old.board.history in
      let grown : new.board.history ≡ (h ▹ e) = ap (λ (m : Machine). m.history) finishes.board in
      let step : Step x h new.board.history = more e (sym actor) refl refl grown in
      let D : List Entry → Type 0 = DisplayStands script (place + 1) in
      let F : List Entry → Type 0 = λ es. FramesStand script es new.start new.store in
      record {
        setup = ap (λ (m : Machine). m.setup) finishes.board ∙ stands.setup;
        shares = ap (λ (m : Machine). m.shares) finishes.board ∙ stands.shares;
        readers = display_readers old.readers.items new.readers.items h new.board.history actor step (ap (λ v. v.items) finishes.readers) stands.readers;
        display = subst D (sym grown) (display_done script place x at is h stands.display);
        order = order_more script place x at h new.board.history step stands.order;
        spent = spent_more script place x at h new.board.history step stands.spent;
        frames = subst F (sym grown) (rw finishes.start (frames_done script h old.start old.store stands.frames x.number new.store finishes.store));
      }

  -- a line of the display that begins no frame and ends none
  pub beside_more : (old new : Play) (text : DisplayLine) → x.actor ≡ Display → x.body ≡ body.Display text → is_beside text ≡ true
      → PlayStands script place old → EntersBeside old new x.number text → PlayStands script (place + 1) new
  beside_more old new text actor is beside stands enters =
      let kind : EntryKind = entry_of_display text in
      let reply : Reply = reply_to old.board.setup old.board.history Display [] kind in
      let e : Entry = entry_of Display x.number [] kind reply in
      let h : List Entry = old.board.history in
      let leaves : LeavesFrames text = leaves_frames text beside in
      let grown : new.board.history ≡ (h ▹ e) = ap (λ (m : Machine). m.history) enters.board in
      let step : Step x h new.board.history = more e (sym actor) refl leaves.no_end grown in
      let D : List Entry → Type 0 = DisplayStands script (place + 1) in
      let A : Setup → Type 0 = λ st. AnswersLine st x.number text old.store new.store in
      let F : List Entry → Type 0 = λ es. FramesStand script es new.start new.store in
      record {
        setup = ap (λ (m : Machine). m.setup) enters.board ∙ stands.setup;
        shares = ap (λ (m : Machine). m.shares) enters.board ∙ stands.shares;
        readers = display_readers old.readers.items new.readers.items h new.board.history actor step (ap (λ v. v.items) enters.readers) stands.readers;
        display = subst D (sym grown)
            (display_beside script place x at text kind reply is refl leaves.no_begin leaves.no_finish leaves.keeps h stands.display);
        order = order_more script place x at h new.board.history step stands.order;
        spent = spent_more script place x at h new.board.history step stands.spent;
        frames = subst F (sym grown) (rw enters.start
            (frames_line script h old.start old.store stands.frames x.number text reply new.store beside (subst A stands.setup enters.store)));
      }

-- what is joined of the last frame plays no part
pub play_stays : (script : Script) (place : ℕ) (play : Play) (last : LastFrame) → StaysLast script.setup play.store.last last → PlayStands script place play
    → PlayStands script place (record play { store = record play.store { last = last } })
play_stays script place play last kept stands = record {
  setup = stands.setup;
  shares = stands.shares;
  readers = stands.readers;
  display = stands.display;
  order = stands.order;
  spent = stands.spent;
  frames = frames_stay script play.board.history play.start play.store stands.frames (record play.store { last = last })
      (stays_stored script.setup play.store last kept);
}

-- the reader of a session
pub own_reader : (script : Script) (place : ℕ) (history : List Entry) (readers : List SessionReader) (s : SessionNo) → is_declared script.setup s ≡ true
    → ReadersStand script place history readers
    → (reader : SessionReader) → reader ≡ get_or readers (s.0 - 1) reader → ReaderStands script s place history reader
own_reader script place history readers s declared stand reader is =
    let within = below_declared script.setup s declared in
    let inside : s.0 - 1 < length readers = let count = stand.count in let a = within.0 in let b = within.1 in omega arith in
    let here : s.0 - 1 + 1 ≡ s.0 = let a = within.0 in omega arith in
    let P : ℕ → Type 0 = λ n. ReaderStands script (record { 0 = n }) place history (get_or readers (s.0 - 1) reader) in
    let Q : SessionReader → Type 0 = λ p. ReaderStands script s place history p in
    subst Q (sym is) (subst P here (stand.each (s.0 - 1) reader inside))

-- a session plays lines of a session, the display its own, and a probe those of a probe
pub no_session_text : (setup : Setup) (s : SessionNo) (text : LineBody) → is_played setup (Session s) text ≡ true → session_text text ≡ None → ⊥
no_session_text setup s (body.Session text) played none = cc
no_session_text setup s _ played none = cc

pub no_display_text : (setup : Setup) (text : LineBody) → is_played setup Display text ≡ true → display_text text ≡ None → ⊥
no_display_text setup (body.Display text) played none = cc
no_display_text setup _ played none = cc

-- What is known of a line of a probe.
pub record IsAsked (setup : Setup) (p : ℕ) (text : LineBody) : Type 0 where
  pub asked : ProbeLine
  pub is : text ≡ body.Probe asked
  pub below : p < setup.probes

pub is_asked : (setup : Setup) (p : ℕ) (text : LineBody) → is_played setup (Probe p) text ≡ true → IsAsked setup p text
is_asked setup p (body.Probe asked) played = record {
  asked = asked;
  is = refl;
  below = let less : nat_lt p setup.probes ≡ true = played in grind (arith, nat_tests);
}
is_asked setup p (body.Session text) played = absurd (let wrong : false ≡ true = played in cc)
is_asked setup p (body.Display text) played = absurd (let wrong : false ≡ true = played in cc)
