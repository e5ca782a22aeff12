-- A run begins its script wherever it stands.
use Rattle.std.proofs.Common.{◌≡◌, ℕ, ◌+◌, ◌<◌, true, List, [], ◌∷◌, ◌++◌, length, take, drop, get_or, refl, sym, ap, ◌∙◌, subst, arith}
use Rattle.std.proofs.lemmas.Grind.{flat_map-append}
use Rattle.std.proofs.lemmas.List.{take-append-drop}
use Rattle.flat_base.specs.declared.ids.SessionNo.{SessionNo}
use Rattle.flat_scene.specs.declared.journal.Entry.{Entry}
use Rattle.flat_scene.specs.declared.script.SessionLine.{SessionLine}
use Rattle.flat_scene.specs.declared.script.ScriptLine.{ScriptLine}
use Rattle.flat_scene.specs.declared.setup.Setup.{Setup}
use Rattle.flat_scene.specs.History.{own, is_session}
use Rattle.flat_scene.specs.Interleave.{Follows, session_line, session_lines}
use Rattle.flat_rules.specs.Legal.{Legal}
use Rattle.flat_report.specs.Report.{finished}
use Rattle.flat_places.specs.declared.script.Script.{Script}
use Rattle.flat_playable.specs.Playable.{is_playable}
use Rattle.flat_session.specs.declared.session_reader.SessionReader.{SessionReader}
use Rattle.flat_session.specs.Readings.{Rise}
use Rattle.flat_play.specs.declared.play.Play.{Play}
use Rattle.flat_play.specs.Beginning.{AreBegun}
use Rattle.flat_play.specs.Playing.{PlayStands}
use Rattle.flat_play.proofs.lemmas.Places.{all_to, rises}
use Rattle.flat_play.proofs.lemmas.Readers.{session_rise}

-- a session's lines before a place and those behind it are all of its lines
pub parts-of-lines : (s : SessionNo) (place : ℕ) (lines : List ScriptLine)
    → session_lines s (take place lines) ++ session_lines s (drop place lines) ≡ session_lines s lines
parts-of-lines s place lines =
    let line : ScriptLine → List (ℕ × SessionLine) = λ next. session_line (is_session s next.actor) next.number next.body in
    sym (flat_map-append line (take place lines) (drop place lines)) ∙ ap (session_lines s) (take-append-drop place lines)

-- what has read the lines before a place follows all lines so far
pub follows-so-far : (script : Script) → is_playable script ≡ true
    → (s : SessionNo) (place : ℕ) (mine : List Entry) (reads : (count : ℕ) (later : List (ℕ × SessionLine))
    → Rise 0 (session_lines s (take place script.lines) ++ later) → Follows script.setup count (session_lines s (take place script.lines) ++ later) mine)
    → Follows script.setup script.count (session_lines s script.lines) mine
follows-so-far script playable s place mine reads =
    let whole = parts-of-lines s place script.lines in
    let R : List (ℕ × SessionLine) → Type 0 = Rise 0 in
    let F : List (ℕ × SessionLine) → Type 0 = λ lines. Follows script.setup script.count lines mine in
    subst F whole (reads script.count (session_lines s (drop place script.lines)) (subst R (sym whole) (session_rise s 0 script.lines (rises script playable))))

-- a history in which nothing was done begins each script
pub none-begun : (script : Script) → AreBegun script []
none-begun script = record {
  history = [];
  begins = record {
    legal = tt;
    sessions = all_to (λ s. Follows script.setup script.count (session_lines s script.lines) []) script.setup.sessions (λ k below. tt);
    display = tt;
  };
  are = refl;
}

module _ (script : Script) (playable : is_playable script ≡ true) where
  reader-follows : (play : Play) (place : ℕ) → PlayStands script place play → (k : ℕ) → k < script.setup.sessions
      → Follows script.setup script.count (session_lines (record { 0 = k + 1 }) script.lines) (own (record { 0 = k + 1 }) play.board.history)
  reader-follows play place stands k below =
      let within : k < length play.readers.items = (let many = stands.readers.count in omega (arith, many)) in
      let mine = stands.readers.each k (get_or play.readers.items k (some-reader play.readers.items within)) within in
      follows-so-far script playable (record { 0 = k + 1 }) place (own (record { 0 = k + 1 }) play.board.history) mine.reads.follows
    where
      some-reader : (readers : List SessionReader) → k < length readers → SessionReader
      some-reader [] within = absurd (omega arith)
      some-reader (reader ∷ later) within = reader

  -- what is played up to a place begins the script
  pub play-begins : (place : ℕ) (play : Play) → PlayStands script place play → Legal play.board.setup play.board.history
      → AreBegun script (finished script.setup play.board.history)
  play-begins place play stands legal =
      let L : Setup → Type 0 = λ setup. Legal setup play.board.history in
      record {
        history = play.board.history;
        begins = record {
          legal = subst L stands.setup legal;
          sessions = all_to (λ s. Follows script.setup script.count (session_lines s script.lines) (own s play.board.history)) script.setup.sessions
              (reader-follows play place stands);
          display = stands.display.follows;
        };
        are = refl;
      }
