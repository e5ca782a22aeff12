-- The run after one more line of the script.
use Rattle.std.proofs.Common.{◌≡◌, ℕ, ◌+◌, ◌<◌, Bool, true, false, cond, ◌==◌, List, [], ◌∷◌, ◌++◌, take, drop, refl, sym, ap, ◌∙◌, subst, arith, append-nil}
use Rattle.std.proofs.Common.{Option, Some, slice_get}
use Rattle.std.specs.List.{list_all}
use Rattle.std.proofs.lemmas.Grind.{common_steps, flat_map-append}
use Rattle.flat_base.specs.declared.ids.SessionNo.{SessionNo}
use Rattle.flat_scene.specs.declared.journal.Entry.{Entry}
use Rattle.flat_scene.specs.declared.script.SessionLine.{SessionLine}
use Rattle.flat_scene.specs.declared.script.ScriptLine.{ScriptLine}
use Rattle.flat_scene.specs.History.{◌▹◌, own, is_session, is_end}
use Rattle.flat_scene.specs.Journals.{seat_number}
use Rattle.flat_scene.specs.Interleave.{session_lines, session_line, last_line}
use Rattle.flat_core.specs.Machines.{made}
use Rattle.flat_places.specs.declared.script.Script.{Script}
use Rattle.flat_session.specs.declared.session_reader.SessionReader.{SessionReader}
use Rattle.flat_session.specs.Readings.{HasRead}
use Rattle.flat_session.specs.Reads.{Stands}
use Rattle.flat_playable.specs.Playable.{rise_from, is_played, is_playable}
use Rattle.flat_play.specs.Playing.{last_number, lines_by, ReaderStands, IsSpent, IsInOrder}
use Rattle.flat_play.proofs.InOrder.{lines_rise, no_ends_more}
use Rattle.flat_play.proofs.lemmas.Places.{drop_at, take_at, split_at, last_more, last_below, rises, played_all}
use Rattle.flat_base.proofs.lemmas.Tests.{all-at}

-- What is known of a line at its place.
pub record At (script : Script) (place : ℕ) (x : ScriptLine) : Type 0 where
  pub left : drop place script.lines ≡ x ∷ drop (place + 1) script.lines
  pub taken : take (place + 1) script.lines ≡ take place script.lines ++ x ∷ []
  pub last : last_number 0 (take (place + 1) script.lines) ≡ x.number
  pub above : last_number 0 (take place script.lines) < x.number
  pub played : is_played script.setup x.actor x.body ≡ true
  pub split : script.lines ≡ take place script.lines ++ x ∷ drop (place + 1) script.lines
  pub rise : rise_from 0 (take place script.lines ++ x ∷ drop (place + 1) script.lines) ≡ true

pub at_place : (script : Script) (place : ℕ) (x : ScriptLine) → is_playable script ≡ true → slice_get script.lines place ≡ Some x → At script place x
at_place script place x playable at =
    let all : List ScriptLine = script.lines in
    let split : all ≡ take place all ++ x ∷ drop (place + 1) all = split_at all place x at in
    let rise : rise_from 0 (take place all ++ x ∷ drop (place + 1) all) ≡ true = ap (rise_from 0) (sym split) ∙ rises script playable in
    record {
      left = drop_at all place x at;
      taken = take_at all place x at;
      last = ap (last_number 0) (take_at all place x at) ∙ last_more 0 (take place all) x;
      above = last_below 0 (take place all) x (drop (place + 1) all) rise;
      played = all-at (λ (one : ScriptLine). is_played script.setup one.actor one.body) (take place all) x (drop (place + 1) all)
          (ap (list_all (λ (one : ScriptLine). is_played script.setup one.actor one.body)) (sym split) ∙ played_all script playable);
      split = split;
      rise = rise;
    }

-- A line is the only one at its place.
pub one_line : (a b : ScriptLine) (at : Option ScriptLine) → at ≡ Some a → at ≡ Some b → a ≡ b
one_line a b at is also = let both : Some a ≡ Some b = sym is ∙ also in cc

-- A line leaves a history as it was, or adds an entry of its actor and number.
pub data Step (x : ScriptLine) (old new : List Entry) : Type 0 where
  same : new ≡ old → Step x old new
  more : (e : Entry) → e.actor ≡ x.actor → e.line ≡ x.number → is_end e.kind ≡ false → new ≡ (old ▹ e) → Step x old new

-- ---- order and room

seat_more : (b : Bool) (n : ℕ) → cond b (n + 1) n ≡ n + cond b 1 0
seat_more true n = refl
seat_more false n = omega arith

module _ (script : Script) (place : ℕ) (x : ScriptLine) (at : At script place x) where
  pub order_more : (old new : List Entry) → Step x old new → IsInOrder script place old → IsInOrder script (place + 1) new
  order_more old new (same is) order =
      let P : List Entry → Type 0 = IsInOrder script (place + 1) in
      subst P (sym is) (record {
        rise = order.rise;
        last = let last = at.last in let above = at.above in let was = order.last in omega arith;
        no_ends = order.no_ends;
      })
  order_more old new (more e actor line goes_on is) order =
      let P : List Entry → Type 0 = IsInOrder script (place + 1) in
      let less : last_line old < e.line = let above = at.above in let was = order.last in omega arith in
      subst P (sym is) (record {
        rise = lines_rise old e order.rise less;
        last = let last = at.last in omega arith;
        no_ends = no_ends_more old e order.no_ends goes_on;
      })

  lines_spent : (seat : ℕ) → lines_by seat (drop place script.lines) ≡ lines_by seat (drop (place + 1) script.lines) + cond (seat_number x.actor == seat) 1 0
  lines_spent seat = ap (lines_by seat) at.left ∙ grind (arith, common_steps)

  pub spent_more : (old new : List Entry) → Step x old new → IsSpent script place old → IsSpent script (place + 1) new
  spent_more old new (same is) spent =
      let P : List Entry → Type 0 = IsSpent script (place + 1) in
      subst P (sym is) (record { spent = λ seat. let l = lines_spent seat in let s = spent.spent seat in omega arith })
  spent_more old new (more e actor line goes_on is) spent =
      let P : List Entry → Type 0 = IsSpent script (place + 1) in
      subst P (sym is) (record {
        spent = λ seat.
            let l = lines_spent seat in
            let s = spent.spent seat in
            let m : made seat (old ▹ e) ≡ made seat old + cond (seat_number x.actor == seat) 1 0 =
            ap (λ who. made seat (old ▹ record e { actor = who })) actor ∙ grind (arith, common_steps) in
            omega arith;
      })

  -- ---- a session whose line it isn't

  own_same : (s : SessionNo) → is_session s x.actor ≡ false → (old new : List Entry) → Step x old new → own s new ≡ own s old
  own_same s other old new (same is) = ap (own s) is
  own_same s other old new (more e actor line goes_on is) =
      let out : is_session s e.actor ≡ false = ap (is_session s) actor ∙ other in
      ap (own s) is ∙ rw out refl

  no_line : (s : SessionNo) → is_session s x.actor ≡ false → session_lines s (take place script.lines) ≡ session_lines s (take (place + 1) script.lines)
  no_line s other =
      sym (append-nil (session_lines s (take place script.lines)))
      ∙ sym (ap (session_lines s) at.taken ∙ flat_map-append (λ (one : ScriptLine). session_line (is_session s one.actor) one.number one.body)
      (take place script.lines) (x ∷ [])
      ∙ ap (λ b. session_lines s (take place script.lines) ++ (session_line b x.number x.body ++ [])) other)

  pub reader_other : (s : SessionNo) → is_session s x.actor ≡ false → (old new : List Entry) (reader : SessionReader) → Step x old new
      → ReaderStands script s place old reader → ReaderStands script s (place + 1) new reader
  reader_other s other old new reader step stands =
      let mine : own s old ≡ own s new = sym (own_same s other old new step) in
      let S : List Entry → Type 0 = λ es. Stands script.setup es reader in
      let H : List Entry → Type 0 = λ es. HasRead script.setup (session_lines s (take (place + 1) script.lines)) es reader in
      let L : List (ℕ × SessionLine) → Type 0 = λ lines. HasRead script.setup lines (own s old) reader in
      record {
        session = stands.session;
        few = let last = at.last in let above = at.above in let few = stands.few in omega arith;
        stands = subst S mine stands.stands;
        reads = subst H mine (subst L (no_line s other) stands.reads);
      }
