-- The run before its first line.
use Rattle.std.proofs.Common.{◌≡◌, ℕ, zero, suc, ◌+◌, ◌*◌, ◌<◌, ◌≤◌, Bool, true, false, cond, ◌==◌, nat_lt, nat_le, List, [], ◌∷◌, ◌++◌, length, map, sum}
use Rattle.std.proofs.Common.{get_or, length-append, All, refl, sym, ap, ◌∙◌, subst, arith, add-one, None}
use Rattle.std.specs.List.{list_all}
use Rattle.std.specs.Prelude.{slice_index_or}
use Rattle.std.proofs.lemmas.Bool.Decides.{nat_tests}
use Rattle.std.proofs.lemmas.Grind.{common_steps}
use Rattle.std.proofs.lemmas.List.{map-append, get_or_append_left}
use Rattle.std.proofs.Math.Seq.{get_or-append_seam}
use Rattle.std.proofs.lemmas.List.Sums.{sum_by-append}
use Rattle.flat_base.specs.declared.ids.SessionNo.{SessionNo}
use Rattle.flat_base.specs.declared.limits.TheConstants.{SCRIPT_BYTES_MAX, SESSIONS_MAX}
use Rattle.flat_scene.specs.declared.journal.Entry.{Entry}
use Rattle.flat_scene.specs.declared.script.ScriptLine.{ScriptLine}
use Rattle.flat_scene.specs.declared.setup.Setup.{Setup}
use Rattle.flat_scene.specs.Frames.{sessions_to}
use Rattle.flat_scene.specs.Journals.{seat_number}
use Rattle.flat_scene.specs.Interleave.{display_line}
use Rattle.flat_scene.specs.Setups.{is_declared}
use Rattle.flat_scene.specs.Heads.{is_setup, is_within_limits}
use Rattle.flat_rules.proofs.lemmas.ShownList.{length-listed}
use Rattle.flat_rules.specs.Laws.{BegunStatesFit, NothingIsShownAtFirst}
use Rattle.flat_core.specs.Machines.{Machine}
use Rattle.flat_core.specs.Starts.{IsStart}
use Rattle.flat_play.specs.Storing.{FramesStand, StoreStands}
use Rattle.flat_play.proofs.lemmas.Storing.{frames_none}
use Rattle.flat_topology.specs.Shown.{Shown}
use Rattle.flat_session.specs.declared.session_reader.SessionReader.{SessionReader}
use Rattle.flat_session.specs.Readings.{NoneIsRead}
use Rattle.flat_session.specs.Reads.{IsNew}
use Rattle.flat_places.specs.declared.script.Script.{Script}
use Rattle.flat_playable.specs.Playable.{rise_from, is_playable}
use Rattle.flat_play.specs.declared.play.Play.{Play}
use Rattle.flat_topology.specs.Fit.{FitsSetup}
use Rattle.flat_play.specs.Playing.{lines_by, rest_shares, shares_of, AreNew, ReadersStand, DisplayStands, IsInOrder, IsSpent}
use Rattle.flat_play.specs.Playing.{PlayStands}
use Rattle.flat_play.proofs.lemmas.Places.{few_lines, rises, counted, frames_are, setup_is}
use Rattle.flat_play.proofs.lemmas.DisplaySteps.{display_numbered}
use Rattle.flat_base.proofs.lemmas.Tests.{and-left, and-right, and-true}
use Rattle.flat_play.proofs.lemmas.Readers.{new_stands}
use Rattle.flat_play.proofs.lemmas.Unread.{rise_first, rise_later, later_all}

-- ---- the shares

pub sessions_more : (n : ℕ) → sessions_to (n + 1) ≡ sessions_to n ++ (let s : SessionNo = record { 0 = n + 1 } in s) ∷ []
sessions_more n = ap sessions_to (add-one n) ∙ ap (λ k. sessions_to n ++ (let s : SessionNo = record { 0 = k } in s) ∷ []) (sym (add-one n))

pub shares_length : (script : Script) → length (shares_of script) ≡ script.setup.sessions + 1
shares_length script =
    let rest : length (rest_shares script) ≡ script.setup.sessions = length-listed (λ s. lines_by s.0 script.lines + 1) script.setup.sessions in
    omega (arith, rest)

-- a script has no more lines than its count
pub few_from : (n count : ℕ) (lines : List ScriptLine) → n ≤ count → rise_from n lines ≡ true
    → list_all (λ (next : ScriptLine). nat_le next.number count) lines ≡ true → n + length lines ≤ count
few_from n count [] below rise all = omega arith
few_from n count (next ∷ later) below rise all =
    let less : n < next.number = rise_first n next later rise in
    let first : nat_le next.number count ≡ true = and-left _ _ all in
    let within : next.number ≤ count = grind (arith, nat_tests) in
    let rest : next.number + length later ≤ count = few_from next.number count later within (rise_later n next later rise) (and-right _ _ all) in
    omega arith

pub few : (script : Script) → is_playable script ≡ true → length script.lines ≤ SCRIPT_BYTES_MAX
few script playable =
    let counted : length script.lines ≤ script.count = let n =
    few_from 0 script.count script.lines (omega arith) (rises script playable) (counted script playable) in omega arith in
    let limit : nat_le script.count SCRIPT_BYTES_MAX ≡ true = few_lines script playable in
    let le : script.count ≤ SCRIPT_BYTES_MAX = grind (arith, nat_tests) in
    omega arith

lines_more : (seat : ℕ) (next : ScriptLine) (later : List ScriptLine)
    → lines_by seat (next ∷ later) ≡ lines_by seat later + cond (seat_number next.actor == seat) 1 0
lines_more seat next later = grind (arith, common_steps)

at_most_one : (b : Bool) → cond b 1 0 ≤ 1
at_most_one true = omega arith
at_most_one false = omega arith

pub by_at_most : (seat : ℕ) (lines : List ScriptLine) → lines_by seat lines ≤ length lines
by_at_most seat [] = omega arith
by_at_most seat (next ∷ later) =
    let rest : lines_by seat later ≤ length later = by_at_most seat later in
    let one : cond (seat_number next.actor == seat) 1 0 ≤ 1 = at_most_one (seat_number next.actor == seat) in
    let all : lines_by seat (next ∷ later) ≡ lines_by seat later + cond (seat_number next.actor == seat) 1 0 = lines_more seat next later in
    omega (arith, rest, one, all)

sum_end : (xs : List ℕ) (x : ℕ) → sum (xs ++ x ∷ []) ≡ sum xs + x
sum_end xs x = let all : sum (xs ++ x ∷ []) ≡ sum xs + sum (x ∷ []) = sum_by-append (λ (n : ℕ). n) xs (x ∷ []) in let one : 0 + x ≡ x =
    omega arith in all ∙ ap (λ k. sum xs + k) one

sum_first : (x : ℕ) (xs : List ℕ) → sum (x ∷ xs) ≡ x + sum xs
sum_first x xs = let all : sum ((x ∷ []) ++ xs) ≡ sum (x ∷ []) + sum xs = sum_by-append (λ (n : ℕ). n) (x ∷ []) xs in let one : 0 + x ≡ x =
    omega arith in all ∙ ap (λ k. k + sum xs) one

-- so many shares, each of at most this
sum_sessions : (lines : List ScriptLine) (n most : ℕ) → length lines < most → sum (map (λ (s : SessionNo). lines_by s.0 lines + 1) (sessions_to n)) ≤ n * most
sum_sessions lines zero most below = omega arith
sum_sessions lines (suc n) most below =
    let f : SessionNo → ℕ = λ s. lines_by s.0 lines + 1 in
    let s : SessionNo = record { 0 = suc n } in
    let before : sum (map f (sessions_to n)) ≤ n * most = sum_sessions lines n most below in
    let one : lines_by (suc n) lines ≤ length lines = by_at_most (suc n) lines in
    let all : sum (map f (sessions_to n ++ s ∷ [])) ≡ sum (map f (sessions_to n)) + (lines_by (suc n) lines + 1) =
    ap sum (map-append f (sessions_to n) (s ∷ [])) ∙ sum_end (map f (sessions_to n)) (f s) in
    let product : suc n * most ≡ n * most + most = grind arith in
    omega (arith, all, product)

pub few_sessions : (setup : Setup) → is_setup setup ≡ true → setup.sessions ≤ SESSIONS_MAX
few_sessions setup is =
    let limits : is_within_limits setup ≡ true = and-left _ _ (and-left _ _ is) in
    let within = and-right _ _ (and-left _ _ (and-left _ _ (and-left _ _ (and-left _ _ limits)))) in
    let most : nat_le setup.sessions SESSIONS_MAX ≡ true = and-right (nat_lt 0 setup.sessions) _ within in
    grind (arith, nat_tests)

pub limits_are : (setup : Setup) → is_setup setup ≡ true → is_within_limits setup ≡ true
limits_are setup is = and-left _ _ (and-left _ _ is)

few_of_few : (n m most : ℕ) → n ≤ m → n * most ≤ m * most
few_of_few n m most le = grind (arith, common_steps)

pub shares_small : (script : Script) → is_playable script ≡ true → sum (shares_of script) < 2147483648
shares_small script playable =
    let lines : length script.lines ≤ 16777216 = few script playable in
    let sessions : script.setup.sessions ≤ 16 = few_sessions script.setup (setup_is script playable) in
    let rest : sum (rest_shares script) ≤ script.setup.sessions * 16777217 = sum_sessions script.lines script.setup.sessions 16777217 (omega arith) in
    let first : lines_by 0 script.lines ≤ length script.lines = by_at_most 0 script.lines in
    let all : sum (shares_of script) ≡ lines_by 0 script.lines + sum (rest_shares script) = sum_first (lines_by 0 script.lines) (rest_shares script) in
    let bound : script.setup.sessions * 16777217 ≤ 16 * 16777217 = few_of_few script.setup.sessions 16 16777217 sessions in
    omega (arith, rest, first, all, bound, lines)

-- ---- a reader of each session

pub is_numbered : (setup : Setup) (before : ℕ) → before < setup.sessions → is_declared setup (record { 0 = before + 1 }) ≡ true
is_numbered setup before within =
    let a : nat_lt 0 (before + 1) ≡ true = grind (arith, nat_tests) in
    let b : nat_le (before + 1) setup.sessions ≡ true = grind (arith, nat_tests) in
    and-true a b

last_new : (setup : Setup) (readers : List SessionReader) (reader : SessionReader) (k : ℕ) (d : SessionReader)
    → ((k : ℕ) (d : SessionReader) → k < length readers → IsNew setup (record { 0 = k + 1 }) (get_or readers k d))
    → IsNew setup (record { 0 = length readers + 1 }) reader → k < length readers + 1
    → (b : Bool) → nat_lt k (length readers) ≡ b → IsNew setup (record { 0 = k + 1 }) (get_or (readers ++ reader ∷ []) k d)
last_new setup readers reader k d each new below true is =
    let less : k < length readers = grind (arith, nat_tests) in
    let P : SessionReader → Type 0 = IsNew setup (record { 0 = k + 1 }) in
    subst P (sym (get_or_append_left readers (reader ∷ []) d k less)) (each k d less)
last_new setup readers reader k d each new below false is =
    let same : k ≡ length readers = grind (arith, nat_tests) in
    let P : SessionReader → Type 0 = IsNew setup (record { 0 = length readers + 1 }) in
    let N : ℕ → Type 0 = λ n. IsNew setup (record { 0 = n + 1 }) (get_or (readers ++ reader ∷ []) n d) in
    subst N (sym same) (subst P (sym (get_or-append_seam readers reader [] d)) new)

pub new_more : (setup : Setup) (before : ℕ) (readers : List SessionReader) (reader : SessionReader) → AreNew setup before readers
    → IsNew setup (record { 0 = before + 1 }) reader → AreNew setup (before + 1) (readers ++ reader ∷ [])
new_more setup before readers reader are new =
    let N : ℕ → Type 0 = λ n. IsNew setup (record { 0 = n + 1 }) reader in
    record {
      count = length-append readers (reader ∷ []) ∙ ap (λ n. n + 1) are.count;
      each = λ k d within. last_new setup readers reader k d are.each (subst N (sym are.count) new) (omega (arith, length-append readers (reader ∷ [])))
          (nat_lt k (length readers)) refl;
    }

-- ---- no line is played

module _ (script : Script) (playable : is_playable script ≡ true) where
  pub first_display : DisplayStands script 0 []
  first_display = record {
    follows = tt;
    left = later_all (λ one. display_line one.number one.body) display_numbered 0 0 script.lines (omega arith) (rises script playable);
    closing = frames_are script playable;
  }

  first_order : IsInOrder script 0 []
  first_order = record { rise = λ k within. absurd (omega arith); last = omega arith; no_ends = tt }

  first_spent : IsSpent script 0 []
  first_spent = record { spent = λ seat. omega arith }

first_readers : NoneIsRead → (script : Script) (readers : List SessionReader) → AreNew script.setup script.setup.sessions readers
    → ReadersStand script 0 [] readers
first_readers none script readers new = record {
  count = new.count;
  each = λ k d within. new_stands none script (record { 0 = k + 1 }) (slice_index_or readers k d) (new.each k d within);
}

-- what shows nothing fits
pub nothing_fits : BegunStatesFit → NothingIsShownAtFirst → (setup : Setup) (shown : Shown) → length shown ≡ setup.sessions → All (λ state. state ≡ None) shown
    → FitsSetup setup shown
nothing_fits begun at_first setup shown count none = subst (FitsSetup setup) (sym (at_first setup shown count none)) (begun setup [] tt)

pub starts : (script : Script) (play : Play) → is_playable script ≡ true → NoneIsRead
    → play.board ≡ record { setup = script.setup; shares = shares_of script; history = [] } → AreNew script.setup script.setup.sessions play.readers.items
    → IsStart script.setup [] play.start → StoreStands script [] play.store → PlayStands script 0 play
starts script play playable none_is_read board new start stored =
    let history : [] ≡ play.board.history = sym (ap (λ (m : Machine). m.history) board) in
    let P : List Entry → Type 0 = λ es. ReadersStand script 0 es play.readers.items in
    let D : List Entry → Type 0 = DisplayStands script 0 in
    let O : List Entry → Type 0 = IsInOrder script 0 in
    let S : List Entry → Type 0 = IsSpent script 0 in
    let F : List Entry → Type 0 = λ es. FramesStand script es play.start play.store in
    record {
      setup = ap (λ (m : Machine). m.setup) board;
      shares = ap (λ (m : Machine). m.shares) board;
      readers = subst P history (first_readers none_is_read script play.readers.items new);
      display = subst D history (first_display script playable);
      order = subst O history (first_order script playable);
      spent = subst S history (first_spent script playable);
      frames = subst F history (frames_none script play.start play.store start stored);
    }
