-- A session's seat after one more line of the script.
use Rattle.std.proofs.Common.{◌≡◌, ℕ, ◌+◌, ◌<◌, ◌≤◌, Bool, true, false, cond, ◌==◌, nat_le, List, [], ◌∷◌, ◌++◌, length, take, drop, slice_get}
use Rattle.std.proofs.Common.{slice_index, Some, refl, sym, ap, ◌∙◌, subst, arith, append-nil}
use Rattle.std.specs.List.{list_all}
use Rattle.std.proofs.lemmas.Bool.{eqb-true}
use Rattle.std.proofs.lemmas.Bool.Decides.{nat_tests}
use Rattle.std.proofs.lemmas.Grind.{common_steps, flat_map-append}
use Rattle.std.proofs.lemmas.List.{take_all, take-append-drop}
use Rattle.flat_base.specs.declared.ids.Actor.{Actor}
use Rattle.flat_base.specs.declared.ids.Actor.TheVariants.{Display, Session, Probe}
use Rattle.flat_base.specs.declared.ids.SessionNo.{SessionNo}
use Rattle.flat_base.specs.declared.limits.TheConstants.{SCRIPT_BYTES_MAX}
use Rattle.flat_scene.specs.declared.script.LineBody.{LineBody}
use Rattle.flat_scene.specs.declared.script.LineBody.TheVariants as body
use Rattle.flat_scene.specs.declared.script.SessionLine.{SessionLine}
use Rattle.flat_scene.specs.declared.script.ScriptLine.{ScriptLine}
use Rattle.flat_scene.specs.declared.setup.Setup.{Setup}
use Rattle.flat_scene.specs.declared.journal.Entry.{Entry}
use Rattle.flat_scene.specs.History.{is_session}
use Rattle.flat_scene.specs.Journals.{history_of, seat_number}
use Rattle.flat_scene.specs.Interleave.{Follows, IsReading, session_lines, session_line}
use Rattle.flat_scene.specs.Setups.{is_declared}
use Rattle.flat_rules.specs.Owned.{is_played_line}
use Rattle.flat_places.specs.declared.script.Script.{Script}
use Rattle.flat_playable.specs.Playable.{is_playable, is_played}
use Rattle.flat_stage.specs.Homes.{fresh_view}
use Rattle.flat_stage.specs.Readings.{NewSeatsHaveRead, SeatHasRead}
use Rattle.flat_session.specs.Readings.{Rise}
use Rattle.flat_stage.specs.Seats as stage
use Rattle.flat_stage.specs.Seats.{SessionView, StageView, GoesOn, HasRoom, setup_of}
use Rattle.flat_play.specs.Playing.{lines_by}
use Rattle.flat_play.proofs.lemmas.Begun.{follows-so-far}
use Rattle.flat_play.proofs.lemmas.PlaySteps.{share_is, below_declared}
use Rattle.flat_play.proofs.lemmas.Steps.{At}
use Rattle.flat_play.proofs.lemmas.Places.{counted, few_lines, rises, split_at}
use Rattle.flat_play.proofs.lemmas.Readers.{session_rise}
use Rattle.flat_race.specs.Sessions.{IsStageOf, SessionStands}
use Rattle.flat_base.proofs.lemmas.Tests.{all-at, and-left, and-right}

-- ---- whose line it is

pub session_is : (s : SessionNo) (who : Actor) → is_session s who ≡ true → who ≡ Session s
session_is s (Session t) is = let same : t.0 ≡ s.0 = eqb-true t.0 s.0 is in ap (λ (n : ℕ). let r : SessionNo = record { 0 = n } in Session r) same
session_is s Display is = absurd (let wrong : false ≡ true = is in cc)
session_is s (Probe p) is = absurd (let wrong : false ≡ true = is in cc)

lines_both : (seat : ℕ) (xs ys : List ScriptLine) → lines_by seat (xs ++ ys) ≡ lines_by seat xs + lines_by seat ys
lines_both seat xs ys = grind (arith, common_steps)

-- the number of a line is within the count of lines
number_few : (script : Script) → is_playable script ≡ true → (place : ℕ) (x : ScriptLine) → slice_get script.lines place ≡ Some x → x.number ≤ 16777216
number_few script playable place x here =
    let within : nat_le x.number script.count ≡ true = all-at (λ (one : ScriptLine). nat_le one.number script.count) (take place script.lines) x
    (drop (place + 1) script.lines)
    (ap (list_all (λ (one : ScriptLine). nat_le one.number script.count)) (sym (split_at script.lines place x here)) ∙ counted script playable) in
    let limit : nat_le script.count SCRIPT_BYTES_MAX ≡ true = few_lines script playable in
    grind (arith, nat_tests)

lines_more : (seat : ℕ) (lines : List ScriptLine) (x : ScriptLine)
    → lines_by seat (lines ++ x ∷ []) ≡ lines_by seat lines + cond (seat_number x.actor == seat) 1 0
lines_more seat lines x = grind (arith, common_steps)

module _ (script : Script) (view : StageView) (s : SessionNo) (place : ℕ) (x : ScriptLine) (at : At script place x) where
  given_is : session_lines s (take (place + 1) script.lines) ≡ session_lines s (take place script.lines)
      ++ (session_line (is_session s x.actor) x.number x.body ++ [])
  given_is = ap (session_lines s) at.taken ∙ flat_map-append (λ (one : ScriptLine). session_line (is_session s one.actor) one.number one.body)
      (take place script.lines) (x ∷ [])

  by_then : lines_by s.0 (take (place + 1) script.lines) ≡ lines_by s.0 (take place script.lines) + cond (seat_number x.actor == s.0) 1 0
  by_then = ap (lines_by s.0) at.taken ∙ lines_more s.0 (take place script.lines) x

  -- a line that isn't the session's
  pub skips : session_line (is_session s x.actor) x.number x.body ≡ [] → (seat : SessionView) → SessionStands script view s place seat
      → SessionStands script view s (place + 1) seat
  skips none seat stands =
      let R : List (ℕ × SessionLine) → Type 0 = λ lines. SeatHasRead lines seat in
      let same : session_lines s (take (place + 1) script.lines) ≡ session_lines s (take place script.lines) =
      given_is ∙ ap (λ (ls : List (ℕ × SessionLine)). session_lines s (take place script.lines) ++ (ls ++ [])) none
      ∙ append-nil (session_lines s (take place script.lines)) in
      record {
        own = stands.own;
        session = stands.session;
        unended = stands.unended;
        spent = let was = stands.spent in let then = by_then in omega (arith, was, then);
        few = let was = stands.few in let last = at.last in let above = at.above in omega (arith, was, last, above);
        reads = subst R (sym same) stands.reads;
      }

  -- its own line, of which this came
  pub reads : (text : SessionLine) → is_session s x.actor ≡ true → x.body ≡ body.Session text → (old new : SessionView) → SessionStands script view s place old
      → GoesOn old new
      → SeatHasRead (session_lines s (take place script.lines) ++ (x.number, text) ∷ []) new → SessionStands script view s (place + 1) new
  reads text whose is old new stands on read =
      let R : List (ℕ × SessionLine) → Type 0 = λ lines. SeatHasRead lines new in
      let line : session_line (is_session s x.actor) x.number x.body ≡ (x.number, text) ∷ [] =
      ap (λ b. session_line b x.number x.body) whose ∙ ap (session_line true x.number) is in
      let given : session_lines s (take (place + 1) script.lines) ≡ session_lines s (take place script.lines) ++ (x.number, text) ∷ [] =
      given_is ∙ ap (λ (ls : List (ℕ × SessionLine)). session_lines s (take place script.lines) ++ (ls ++ [])) line in
      let mine : (seat_number x.actor == s.0) ≡ true = ap (λ a. seat_number a == s.0) (session_is s x.actor whose)
      ∙ (let same : (s.0 == s.0) ≡ true = grind (arith, nat_tests) in same) in
      let one : ◌≡◌ {A = ℕ} (cond (seat_number x.actor == s.0) 1 0) 1 = ap (λ b. cond b 1 0) mine in
      record {
        own = on.stage ∙ stands.own;
        session = on.session ∙ stands.session;
        unended = on.ended ∙ stands.unended;
        spent = let was = stands.spent in let then = by_then in let few = on.few in omega (arith, was, then, one, few);
        few = let was = stands.few in let last = at.last in let above = at.above in let refused = on.refused in omega (arith, was, last, above, refused);
        reads = subst R (sym given) read;
      }

  -- ---- what a line asks for

  pub owned : (text : SessionLine) → is_session s x.actor ≡ true → x.body ≡ body.Session text
      → (is_played_line script.setup s text ≡ true) × (is_declared script.setup s ≡ true)
  owned text whose is =
      let played : is_played script.setup (Session s) (body.Session text) ≡ true =
      sym (ap (λ a. is_played script.setup a x.body) (session_is s x.actor whose) ∙ ap (is_played script.setup (Session s)) is) ∙ at.played in
      (and-right _ _ played, and-left _ _ played)

-- a session has room for one entry more than its lines
pub room : (script : Script) (view : StageView) (seat : SessionView) → IsStageOf view script → seat.stage ≡ view → is_declared script.setup seat.session ≡ true
    → length seat.mine ≤ lines_by seat.session.0 script.lines → HasRoom seat
room script view seat of own declared few =
    let within = below_declared script.setup seat.session declared in
    let share = share_is script seat.session.0 within.0 within.1 in
    let V : StageView → Type 0 = λ v. length seat.mine < slice_index (stage.shares_of v) seat.session.0 in
    let S : List ℕ → Type 0 = λ xs. length seat.mine < slice_index xs seat.session.0 in
    subst V (sym own) (subst S (sym of.shares) (omega (arith, few, share)))

-- a line of another actor gives a session nothing
pub no_line : (s : SessionNo) (who : Actor) (number : ℕ) (text : LineBody) → is_session s who ≡ false → session_line (is_session s who) number text ≡ []
no_line s who number text other = ap (λ b. session_line b number text) other

-- nor does a line that isn't a session's
pub no_text : (b : Bool) (number : ℕ) (text : LineBody) → ((line : SessionLine) → text ≡ body.Session line → ⊥) → session_line b number text ≡ []
no_text true number (body.Session line) other = absurd (other line refl)
no_text true number (body.Display line) other = refl
no_text true number (body.Probe line) other = refl
no_text false number text other = refl

-- ---- what a line asks of its seat

module _ (script : Script) (view : StageView) (seat : SessionView) (place : ℕ) (x : ScriptLine) (at : At script place x) where
  pub line_owned : IsStageOf view script → SessionStands script view seat.session place seat → (text : SessionLine) → is_session seat.session x.actor ≡ true
      → x.body ≡ body.Session text → is_played_line (setup_of seat.stage) seat.session text ≡ true
  line_owned of stands text whose is =
      let P : Setup → Type 0 = λ setup. is_played_line setup seat.session text ≡ true in
      subst P (sym (ap setup_of stands.own ∙ of.setup)) (owned script view seat.session place x at text whose is).0

  pub line_room : IsStageOf view script → SessionStands script view seat.session place seat → (text : SessionLine) → is_session seat.session x.actor ≡ true
      → x.body ≡ body.Session text → HasRoom seat
  line_room of stands text whose is =
      let whole = ap (lines_by seat.session.0) (take-append-drop place script.lines) in
      let split = lines_both seat.session.0 (take place script.lines) (drop place script.lines) in
      let spent = stands.spent in
      room script view seat of stands.own (owned script view seat.session place x at text whose is).1 (omega (arith, whole, split, spent))

  pub line_few : is_playable script ≡ true → slice_get script.lines place ≡ Some x → SessionStands script view seat.session place seat
      → seat.refused + 1 < 4294967296
  line_few playable here stands =
      let most = number_few script playable place x here in
      let above = at.above in
      let few = stands.few in
      omega (arith, most, above, few)

-- ---- behind the last line

module _ (script : Script) (view : StageView) (seat : SessionView) where
  all_given : SessionStands script view seat.session (length script.lines) seat → SeatHasRead (session_lines seat.session script.lines) seat
  all_given stands = let R : List ScriptLine → Type 0 =
      λ lines. SeatHasRead (session_lines seat.session lines) seat in subst R (take_all (length script.lines) script.lines (omega arith)) stands.reads

  pub end_room : IsStageOf view script → SessionStands script view seat.session (length script.lines) seat
      → is_declared (setup_of seat.stage) seat.session ≡ true → HasRoom seat
  end_room of stands declared =
      let D : Setup → Type 0 = λ setup. is_declared setup seat.session ≡ true in
      let whole = ap (lines_by seat.session.0) (take_all (length script.lines) script.lines (omega arith)) in
      let spent = stands.spent in
      room script view seat of stands.own (subst D (ap setup_of stands.own ∙ of.setup) declared) (omega (arith, whole, spent))

  pub end_reads : is_playable script ≡ true → IsStageOf view script → SessionStands script view seat.session (length script.lines) seat → (mine : List Entry)
      → ((given : List (ℕ × SessionLine)) (count : ℕ) → script.count + 1 ≡ count + 1 → Rise 0 given → SeatHasRead given seat
      → IsReading (setup_of seat.stage) count given (history_of mine))
      → IsReading script.setup script.count (session_lines seat.session script.lines) (history_of mine)
  end_reads playable of stands mine reading =
      let I : Setup → Type 0 = λ setup. IsReading setup script.count (session_lines seat.session script.lines) (history_of mine) in
      subst I (ap setup_of stands.own ∙ of.setup) (reading (session_lines seat.session script.lines) script.count refl
      (session_rise seat.session 0 script.lines (rises script playable)) (all_given stands))

-- ---- wherever it stopped

-- the entries of a seat that stands at a place are the reading of its lines so far
pub begun_at : (script : Script) (view : StageView) (s : SessionNo) (place : ℕ) (seat : SessionView) → is_playable script ≡ true → IsStageOf view script
    → SessionStands script view s place seat → (mine : List Entry) → mine ≡ seat.mine
    → Follows script.setup script.count (session_lines s script.lines) (history_of mine)
begun_at script view s place seat playable of stands mine same =
    let F : Setup → Type 0 = λ setup. (count : ℕ) (later : List (ℕ × SessionLine)) → Rise 0 (session_lines s (take place script.lines) ++ later)
    → Follows setup count (session_lines s (take place script.lines) ++ later) (history_of seat.mine) in
    let M : List Entry → Type 0 = λ es. Follows script.setup script.count (session_lines s script.lines) (history_of es) in
    subst M (sym same) (follows-so-far script playable s place (history_of seat.mine) (subst F (ap setup_of stands.own ∙ of.setup) stands.reads.follows))

-- ---- before the first line

pub fresh_stands : NewSeatsHaveRead → (script : Script) (view : StageView) (s : SessionNo) (seat : SessionView) → seat ≡ fresh_view view s
    → SessionStands script view s 0 seat
fresh_stands new script view s seat is =
    let S : SessionView → Type 0 = SessionStands script view s 0 in
    subst S (sym is) (record { own = refl; session = refl; unended = refl; spent = omega arith; few = omega arith; reads = new view s })
