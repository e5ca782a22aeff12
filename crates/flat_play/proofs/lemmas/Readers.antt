-- A session's reader after one more line of the script.
use Rattle.std.proofs.Common.{◌≡◌, ℕ, ◌+◌, ◌<◌, ◌≤◌, Bool, true, false, List, [], ◌∷◌, ◌++◌, take, refl, sym, ap, ◌∙◌, subst, arith, Option, Some, None}
use Rattle.flat_base.specs.declared.errors.Reason.{Reason}
use Rattle.flat_base.specs.declared.ids.Actor.TheVariants.{Session}
use Rattle.flat_base.specs.declared.ids.SessionNo.{SessionNo}
use Rattle.flat_scene.specs.declared.calls.Call.{Call}
use Rattle.flat_scene.specs.declared.calls.Call.TheVariants.{CreateView, CreateViewport}
use Rattle.flat_scene.specs.declared.journal.Entry.{Entry}
use Rattle.flat_scene.specs.declared.journal.EntryKind.{EntryKind}
use Rattle.flat_scene.specs.declared.journal.EntryKind.TheVariants.{Present, Get}
use Rattle.flat_scene.specs.declared.journal.Reply.{Reply}
use Rattle.flat_scene.specs.declared.script.LineBody.{LineBody}
use Rattle.flat_scene.specs.declared.script.LineBody.TheVariants as body
use Rattle.flat_scene.specs.declared.script.SessionLine.{SessionLine}
use Rattle.flat_scene.specs.declared.script.SessionLine.TheVariants as line
use Rattle.flat_scene.specs.declared.script.ScriptLine.{ScriptLine}
use Rattle.flat_scene.specs.declared.setup.Setup.{Setup}
use Rattle.flat_scene.specs.Draft.{Draft}
use Rattle.flat_scene.specs.History.{own, is_session}
use Rattle.flat_scene.specs.Interleave.{session_line, session_lines, entry_of_line, entry_of_call, calls_of_line, or_close, get_tests}
use Rattle.flat_scene.specs.Misuse.{misuse, first_reason}
use Rattle.flat_scene.specs.Tree.{present_tests}
use Rattle.flat_core.specs.Machines.{Machine}
use Rattle.flat_places.specs.declared.script.Script.{Script}
use Rattle.flat_session.specs.declared.session_reader.SessionReader.{SessionReader}
use Rattle.flat_session.specs.Readings.{HasRead, NoneIsRead, OneMoreIsRead, Rise}
use Rattle.flat_session.specs.Reads.{IsNew, Makes, Reads, Stands, draft_so_far, made_by_line}
use Rattle.flat_playable.specs.Playable.{rise_from}
use Rattle.flat_play.specs.Playing.{ReaderStands}
use Rattle.flat_play.proofs.lemmas.Growing.{Grows, grows, stays, is_quiet}
use Rattle.flat_play.proofs.lemmas.Places.{Here}
use Rattle.flat_play.proofs.lemmas.Unread.{rise_first, rise_later}

-- ---- the lines that a session reads rise

rise_weaker : (n m : ℕ) (lines : List (ℕ × SessionLine)) → n ≤ m → Rise m lines → Rise n lines
rise_weaker n m [] le rise = tt
rise_weaker n m ((number, text) ∷ later) le rise = (let first : m < number = rise.0 in omega arith, rise.1)

rise_one : (b : Bool) (n number : ℕ) (text : LineBody) (later : List (ℕ × SessionLine)) → n < number → Rise number later
    → Rise n (session_line b number text ++ later)
rise_one true n number (body.Session text) later less rise = (less, rise)
rise_one true n number _ later less rise = rise_weaker n number later (omega arith) rise
rise_one false n number _ later less rise = rise_weaker n number later (omega arith) rise

pub session_rise : (s : SessionNo) (n : ℕ) (lines : List ScriptLine) → rise_from n lines ≡ true → Rise n (session_lines s lines)
session_rise s n [] rise = tt
session_rise s n (next ∷ later) rise = rise_one (is_session s next.actor) n next.number next.body (session_lines s later) (rise_first n next later rise)
    (session_rise s next.number later (rise_later n next later rise))

-- ---- what a line makes begins no frame and ends none, ends no session and asks for no point

abbrev makes_quiet : Option EntryKind → Bool
makes_quiet None = true
makes_quiet (Some kind) = is_quiet kind

quiet_or_close : (misused : Option Reason) (kind : Option EntryKind) → makes_quiet kind ≡ true → makes_quiet (or_close misused kind) ≡ true
quiet_or_close None kind calm = calm
quiet_or_close (Some reason) kind calm = refl

quiet_call : (call : Call) → makes_quiet (entry_of_call call) ≡ true
quiet_call (CreateView pair) = refl
quiet_call (CreateViewport c pair w h inset) = refl
quiet_call _ = refl

quiet_line : (setup : Setup) (draft : Draft) (text : SessionLine) → makes_quiet (entry_of_line setup draft text) ≡ true
quiet_line setup draft (line.Call call) = quiet_or_close (misuse setup draft call) (entry_of_call call) (quiet_call call)
quiet_line setup draft (line.Present args) = quiet_or_close (first_reason (present_tests draft args)) (Some (Present args)) refl
quiet_line setup draft (line.Get get) = quiet_or_close (first_reason (get_tests draft get)) (Some (Get get)) refl
quiet_line setup draft (line.Signal f) = refl
quiet_line setup draft line.Poll = refl
quiet_line setup draft (line.Wait c) = refl
quiet_line setup draft line.Disconnect = refl

-- ---- what came of a line

-- The board grows by an entry or stays, and one line at most was refused.
record Came (number : ℕ) (old new : Machine) (before after : SessionReader) : Type 0 where
  session : after.session ≡ before.session
  few : after.refused ≤ before.refused + 1
  grown : Grows old new (Session before.session) number

came_made : (number : ℕ) (text : SessionLine) (reply : Reply) (old new : Machine) (before after : SessionReader) (made : Option EntryKind)
    → makes_quiet made ≡ true
    → Makes number text reply old new before after made → Came number old new before after
came_made number text reply old new before after None calm makes =
    let same : after.refused ≡ before.refused = ap (λ (r : SessionReader). r.refused) makes.2 in
    record { session = ap (λ (r : SessionReader). r.session) makes.2; few = omega arith; grown = stays makes.1 }
came_made number text reply old new before after (Some kind) calm makes =
    let same : after.refused ≡ before.refused = ap (λ (r : SessionReader). r.refused) makes.rest in
    record {
      session = ap (λ (r : SessionReader). r.session) makes.rest;
      few = omega arith;
      grown = grows (before.pending ++ calls_of_line text) kind reply calm makes.entry;
    }

came : (number : ℕ) (text : SessionLine) (reply : Reply) (old new : Machine) (before after : SessionReader) (closed : Bool)
    → Reads number text reply old new before after closed → Came number old new before after
came number text reply old new before after true reads =
    let more : after.refused ≡ before.refused + 1 = ap (λ (r : SessionReader). r.refused) reads.2 in
    record { session = ap (λ (r : SessionReader). r.session) reads.2; few = omega arith; grown = stays reads.1 }
came number text reply old new before after false reads =
    came_made number text reply old new before after (made_by_line old before text)
    (quiet_line old.setup (draft_so_far old.setup (own before.session old.history) before.pending) text) reads

-- ---- a reader and a board

-- it stands behind the entries of its own session, and so it does by the board's setup
module _ (setup : Setup) (s : SessionNo) (m : Machine) (reader : SessionReader) (setup_is : m.setup ≡ setup) (session : reader.session ≡ s) where
  pub on_board : (P : Setup → List Entry → SessionReader → Type 0) → P setup (own s m.history) reader → P m.setup (own reader.session m.history) reader
  on_board P stands =
      let S : Setup → Type 0 = λ setup. P setup (own reader.session m.history) reader in
      let N : SessionNo → Type 0 = λ n. P setup (own n m.history) reader in
      subst S (sym setup_is) (subst N (sym session) stands)

  pub of_script : (P : Setup → List Entry → SessionReader → Type 0) → P m.setup (own reader.session m.history) reader → P setup (own s m.history) reader
  of_script P stands =
      let S : Setup → Type 0 = λ setup. P setup (own reader.session m.history) reader in
      let N : SessionNo → Type 0 = λ n. P setup (own n m.history) reader in
      subst N session (subst S setup_is stands)

grown_setup : (old new : Machine) (s : SessionNo) (number : ℕ) → Grows old new (Session s) number → new.setup ≡ old.setup
grown_setup old new s number (stays is) = ap (λ (m : Machine). m.setup) is
grown_setup old new s number (grows carries kind reply calm is) = ap (λ (m : Machine). m.setup) is

-- a session that read no line
pub new_stands : NoneIsRead → (script : Script) (s : SessionNo) (reader : SessionReader) → IsNew script.setup s reader → ReaderStands script s 0 [] reader
new_stands none script s reader new = record {
  session = new.session;
  few = let none_refused = new.none_refused in omega arith;
  stands = new.stands;
  reads = none script.setup reader new.stands new.no_calls;
}

-- a session that read one line more
module _ (script : Script) (s : SessionNo) (place number : ℕ) (text : SessionLine) (here : Here script s place number text) (reply : Reply) (old new : Machine)
    (before after : SessionReader) (setup : old.setup ≡ script.setup)
    (stands : ReaderStands script s place old.history before) (reads : Reads number text reply old new before after before.closed) where
  pub reader_grows : Grows old new (Session s) number
  reader_grows =
      let G : SessionNo → Type 0 = λ n. Grows old new (Session n) number in
      subst G stands.session (came number text reply old new before after before.closed reads).grown

  pub reader_more : OneMoreIsRead → Stands new.setup (own before.session new.history) after → ReaderStands script s (place + 1) new.history after
  reader_more one_more stands_then =
      let c : Came number old new before after = came number text reply old new before after before.closed reads in
      let given : List (ℕ × SessionLine) = session_lines s (take place script.lines) in
      let setup_then : new.setup ≡ script.setup = grown_setup old new before.session number c.grown ∙ setup in
      let has = on_board script.setup s old before setup stands.session (λ setup mine reader. HasRead setup given mine reader) stands.reads in
      let stood = on_board script.setup s old before setup stands.session (λ setup mine reader. Stands setup mine reader) stands.stands in
      let read = one_more given number text reply old new before after stood has reads in
      let session : after.session ≡ s = c.session ∙ stands.session in
      let H : Setup → SessionNo → List (ℕ × SessionLine) → Type 0 = λ setup n lines. HasRead setup lines (own n new.history) after in
      let H1 : Setup → Type 0 = λ setup. H setup before.session (given ++ (number, text) ∷ []) in
      let H2 : SessionNo → Type 0 = λ n. H script.setup n (given ++ (number, text) ∷ []) in
      let H3 : List (ℕ × SessionLine) → Type 0 = λ lines. H script.setup s lines in
      let S1 : Setup → Type 0 = λ setup. Stands setup (own before.session new.history) after in
      let S2 : SessionNo → Type 0 = λ n. Stands script.setup (own n new.history) after in
      record {
        session = session;
        few = let last = here.last in let above = here.above in let few = stands.few in let more = c.few in omega arith;
        stands = subst S2 stands.session (subst S1 setup_then stands_then);
        reads = subst H3 (sym here.taken) (subst H2 stands.session (subst H1 setup read));
      }

-- what a reader asks of a line
pub reader_owns : (script : Script) (s : SessionNo) (old : Machine) (before : SessionReader) → old.setup ≡ script.setup → before.session ≡ s
    → (P : Setup → SessionNo → Type 0) → P script.setup s → P old.setup before.session
reader_owns script s old before setup session P owned =
    let S : Setup → Type 0 = λ setup. P setup before.session in
    subst S (sym setup) (subst (P script.setup) (sym session) owned)
