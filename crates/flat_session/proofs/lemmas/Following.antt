-- One line more is read by a session.
use Rattle.std.proofs.Common.{not, ◌&&◌, ◌≡◌, ℕ, ◌+◌, ◌<◌, ◌≤◌, Bool, true, false, cond, nat_lt, List, [], ◌∷◌, ◌++◌, length, filter, refl, sym, ap, ◌∙◌, subst}
use Rattle.std.proofs.Common.{arith, append-nil, append_assoc, Option, Some, None, Ok}
use Rattle.std.specs.Prelude.{unwrap_or}
use Rattle.std.specs.List.{list_any}
use Rattle.std.specs.Result.{result_ok}
use Rattle.std.proofs.lemmas.Bool.Decides.{nat_tests}
use Rattle.flat_base.specs.declared.errors.Reason.{Reason}
use Rattle.flat_base.specs.declared.ids.Actor.TheVariants.{Session}
use Rattle.flat_scene.specs.declared.calls.Call.{Call}
use Rattle.flat_scene.specs.declared.journal.Entry.{Entry}
use Rattle.flat_scene.specs.declared.journal.EntryKind.{EntryKind}
use Rattle.flat_scene.specs.declared.journal.EntryKind.TheVariants.{End, Present, Get}
use Rattle.flat_scene.specs.declared.journal.Reply.{Reply}
use Rattle.flat_scene.specs.declared.journal.Reply.TheVariants.{Done}
use Rattle.flat_scene.specs.declared.script.SessionLine.{SessionLine}
use Rattle.flat_scene.specs.declared.script.SessionLine.TheVariants as line
use Rattle.flat_scene.specs.declared.setup.Setup.{Setup}
use Rattle.flat_scene.specs.Draft.{Draft, empty_draft}
use Rattle.flat_scene.specs.Effect.{draft_of}
use Rattle.flat_scene.specs.History.{◌▹◌, own, carried, closes, is_end}
use Rattle.flat_scene.specs.Interleave.{IsReading, is_ended_once, Next, IsNext, Follows, next_of, next_from, next_or, unread_lines, entry_of_line}
use Rattle.flat_scene.specs.Interleave.{entry_of_call, calls_of_line, after_line, or_close, get_tests}
use Rattle.flat_scene.specs.Misuse.{misuse, first_reason}
use Rattle.flat_scene.specs.Tree.{present_tests}
use Rattle.flat_core.specs.Machines.{Machine, entry_of}
use Rattle.flat_session.specs.declared.session_reader.SessionReader.{SessionReader}
use Rattle.flat_session.specs.Readings.{Rise, HasRead, NoneIsRead, OneMoreIsRead, EndsAreRead, next_by}
use Rattle.flat_session.specs.Reads.{Stands, IsOpen, Reads, Makes, draft_so_far, made_by_line, with_line}
use Rattle.flat_session.proofs.lemmas.Readying.{one_more}
use Rattle.flat_session.proofs.lemmas.Standing.{own_more, or_rest}

-- ---- which lines are unread

pub later_all : (n m : ℕ) (later : List (ℕ × SessionLine)) → n ≤ m → Rise m later → filter (λ one. nat_lt n one.0) later ≡ later
later_all n m [] le rise = refl
later_all n m ((number, text) ∷ later) le rise =
    let less : m < number = rise.0 in
    let test : nat_lt n number ≡ true = grind (arith, nat_tests) in
    let at_least : n ≤ number = omega arith in
    ap (λ b. cond b ((number, text) ∷ filter (λ one. nat_lt n one.0) later) (filter (λ one. nat_lt n one.0) later)) test
    ∙ ap (λ ls. (number, text) ∷ ls) (later_all n number later at_least rise.1)

-- what stands before a line has a lesser number
before_less : (m number : ℕ) (text : SessionLine) (given later : List (ℕ × SessionLine)) → Rise m (given ++ (number, text) ∷ later) → m < number
before_less m number text [] later rise = rise.0
before_less m number text ((k, t) ∷ given) later rise = let first : m < k = rise.0 in let rest = before_less k number text given later rise.1 in omega arith

unread : (m number : ℕ) (text : SessionLine) (given later : List (ℕ × SessionLine)) → Rise m (given ++ (number, text) ∷ later)
    → filter (λ one. nat_lt number one.0) (given ++ (number, text) ∷ later) ≡ later
unread m number text [] later rise =
    let test : nat_lt number number ≡ false = grind (arith, nat_tests) in
    ap (λ b. cond b ((number, text) ∷ filter (λ one. nat_lt number one.0) later) (filter (λ one. nat_lt number one.0) later)) test
    ∙ later_all number number later (omega arith) rise.1
unread m number text ((k, t) ∷ given) later rise =
    let less : k < number = before_less k number text given later rise.1 in
    let test : nat_lt number k ≡ false = grind (arith, nat_tests) in
    ap (λ b. cond b ((k, t) ∷ filter (λ one. nat_lt number one.0) (given ++ (number, text) ∷ later))
    (filter (λ one. nat_lt number one.0) (given ++ (number, text) ∷ later))) test ∙ unread k number text given later rise.1

-- ---- a line that makes no entry is a call that is no misuse

no_reason : (misused : Option Reason) (kind : Option EntryKind) → or_close misused kind ≡ None → misused ≡ None
no_reason None kind none = refl
no_reason (Some reason) kind none = absurd (cc)

waits_so : (setup : Setup) (made pending : List Call) (draft : Draft) (text : SessionLine) → entry_of_line setup draft text ≡ None
    → draft_of setup (made ++ pending) ≡ Ok draft → draft_of setup (made ++ (pending ++ calls_of_line text)) ≡ Ok (after_line draft text)
waits_so setup made pending draft (line.Call call) none drawn =
    one_more setup made pending call draft (no_reason (misuse setup draft call) (entry_of_call call) none) drawn
waits_so setup made pending draft (line.Present args) none drawn =
    let reason = no_reason (first_reason (present_tests draft args)) (Some (Present args)) none in
    absurd (let both : Some (Present args) ≡ None = sym (ap (λ r. or_close r (Some (Present args))) reason) ∙ none in cc)
waits_so setup made pending draft (line.Get get) none drawn =
    let reason = no_reason (first_reason (get_tests draft get)) (Some (Get get)) none in
    absurd (let both : Some (Get get) ≡ None = sym (ap (λ r. or_close r (Some (Get get))) reason) ∙ none in cc)
waits_so setup made pending draft (line.Signal f) none drawn = absurd (cc)
waits_so setup made pending draft line.Poll none drawn = absurd (cc)
waits_so setup made pending draft (line.Wait c) none drawn = absurd (cc)
waits_so setup made pending draft line.Disconnect none drawn = absurd (cc)

-- ---- the step

pub none_is_read : NoneIsRead
none_is_read setup reader stands none = record {
  follows = λ count later rise. tt;
  next = λ count later rise. first_next count later rise;
}
  where
    first_next : (count : ℕ) (later : List (ℕ × SessionLine)) → Rise 0 later
        → next_of setup count [] later ≡ next_by setup count [] reader.pending reader.closed reader.refused later
    first_next count later rise =
        let all : unread_lines [] later ≡ later = later_all 0 0 later (omega arith) rise in
        ap (next_from setup count empty_draft []) all
        ∙ ap (λ pending. next_from setup count (draft_so_far setup [] pending) pending later) (sym none)
        ∙ ap (λ b. cond b (record { line = count + 1; carries = []; kind = End (reader.refused + length later) })
        (next_from setup count (draft_so_far setup [] reader.pending) reader.pending later)) stands.closed

module _ (setup : Setup) (given : List (ℕ × SessionLine)) (number : ℕ) (text : SessionLine) (mine : List Entry) (before after : SessionReader)
    (has : HasRead setup given mine before) where
  abbrev lines : List (ℕ × SessionLine) → List (ℕ × SessionLine)
  lines later = given ++ (number, text) ∷ later

  -- the lines with this one are the same lines
  same_lines : (later : List (ℕ × SessionLine)) → (given ++ (number, text) ∷ []) ++ later ≡ lines later
  same_lines later = append_assoc given ((number, text) ∷ []) later

  rise_so : (later : List (ℕ × SessionLine)) → Rise 0 ((given ++ (number, text) ∷ []) ++ later) → Rise 0 (lines later)
  rise_so later rise = let R : List (ℕ × SessionLine) → Type 0 = Rise 0 in subst R (same_lines later) rise

  pub refused_more : before.closed ≡ true → after ≡ record before { refused = before.refused + 1 } → HasRead setup (given ++ (number, text) ∷ []) mine after
  refused_more closed is =
      let H : SessionReader → Type 0 = HasRead setup (given ++ (number, text) ∷ []) mine in
      subst H (sym is) (record {
        follows = λ count later rise. let F : List (ℕ × SessionLine) → Type 0 =
            λ ls. Follows setup count ls mine in subst F (sym (same_lines later)) (has.follows count ((number, text) ∷ later) (rise_so later rise));
        next = λ count later rise.
            ap (next_of setup count mine) (same_lines later) ∙ has.next count ((number, text) ∷ later) (rise_so later rise)
            ∙ ap (λ b. cond b (record { line = count + 1; carries = []; kind = End (before.refused + length ((number, text) ∷ later)) })
            (next_from setup count (draft_so_far setup mine before.pending) before.pending ((number, text) ∷ later))) closed
            ∙ ap (λ n. let next : Next = record { line = count + 1; carries = []; kind = End n } in next) (omega arith)
            ∙ sym (ap (λ b. cond b (record { line = count + 1; carries = []; kind = End (before.refused + 1 + length later) })
            (next_from setup count (draft_so_far setup mine before.pending) before.pending later)) closed);
      })

  -- what an open session reads next
  open_next : before.closed ≡ false → (count : ℕ) (later : List (ℕ × SessionLine)) → Rise 0 (lines later)
      → next_of setup count mine (lines later) ≡ next_from setup count (draft_so_far setup mine before.pending) before.pending ((number, text) ∷ later)
  open_next opened count later rise =
      has.next count ((number, text) ∷ later) rise
      ∙ ap (λ b. cond b (record { line = count + 1; carries = []; kind = End (before.refused + length ((number, text) ∷ later)) })
      (next_from setup count (draft_so_far setup mine before.pending) before.pending ((number, text) ∷ later))) opened

  pub waits_more : before.closed ≡ false → (draft : Draft) → draft_of setup (carried mine ++ before.pending) ≡ Ok draft
      → entry_of_line setup (draft_so_far setup mine before.pending) text ≡ None → after ≡ with_line text before after.draft
      → HasRead setup (given ++ (number, text) ∷ []) mine after
  waits_more opened draft drawn none is =
      let so_far : draft_so_far setup mine before.pending ≡ draft = ap (λ r. unwrap_or (result_ok r) empty_draft) drawn in
      let none_made : entry_of_line setup draft text ≡ None = ap (λ d. entry_of_line setup d text) (sym so_far) ∙ none in
      let carries : List Call = before.pending ++ calls_of_line text in
      let then : draft_so_far setup mine carries ≡ after_line draft text =
      ap (λ r. unwrap_or (result_ok r) empty_draft) (waits_so setup (carried mine) before.pending draft text none_made drawn) in
      let H : SessionReader → Type 0 = HasRead setup (given ++ (number, text) ∷ []) mine in
      subst H (sym is) (record {
        follows = λ count later rise. let F : List (ℕ × SessionLine) → Type 0 =
            λ ls. Follows setup count ls mine in subst F (sym (same_lines later)) (has.follows count ((number, text) ∷ later) (rise_so later rise));
        next = λ count later rise.
            ap (next_of setup count mine) (same_lines later) ∙ open_next opened count later (rise_so later rise)
            ∙ ap (λ d. next_from setup count d before.pending ((number, text) ∷ later)) so_far
            ∙ ap (λ kind. next_or kind number carries (next_from setup count (after_line draft text) carries later)) none_made
            ∙ ap (λ d. next_from setup count d carries later) (sym then)
            ∙ sym (ap (λ b. cond b (record { line = count + 1; carries = []; kind = End (before.refused + length later) })
            (next_from setup count (draft_so_far setup mine carries) carries later)) opened);
      })

  pub enters_more : before.closed ≡ false → before.refused ≡ 0 → list_any (λ e. closes e.reply) mine ≡ false
      → (kind : EntryKind) (reply : Reply) (entry : Entry)
      → entry_of_line setup (draft_so_far setup mine before.pending) text ≡ Some kind
      → entry.line ≡ number → entry.calls ≡ before.pending ++ calls_of_line text → entry.kind ≡ kind → entry.reply ≡ reply → after.pending ≡ []
      → after.closed ≡ closes reply → after.refused ≡ before.refused
      → HasRead setup (given ++ (number, text) ∷ []) (mine ▹ entry) after
  enters_more opened none_refused unclosed kind reply entry some line_is calls_are kind_is reply_is pending closed refused =
      let carries : List Call = before.pending ++ calls_of_line text in
      record {
        follows = λ count later rise.
            let F : List (ℕ × SessionLine) → Type 0 = λ ls. Follows setup count ls (mine ▹ entry) in
            let d = draft_so_far setup mine before.pending in
            let is : next_of setup count mine (lines later) ≡ record { line = number; carries = carries; kind = kind } =
            open_next opened count later (rise_so later rise)
            ∙ ap (λ k. next_or k number carries (next_from setup count (after_line d text) carries later)) some in
            let N : Next → Type 0 = λ next. IsNext next entry in
            subst F (sym (same_lines later)) (
              has.follows count ((number, text) ∷ later) (rise_so later rise),
              subst N (sym is) (record { line = line_is; carried = calls_are; kind = kind_is }),
            );
        next = λ count later rise.
            let left : unread_lines (mine ▹ entry) (lines later) ≡ later =
            ap (λ n. filter (λ one. nat_lt n one.0) (lines later)) line_is ∙ unread 0 number text given later (rise_so later rise) in
            let any : list_any (λ e. closes e.reply) (mine ▹ entry) ≡ after.closed =
            or_rest (closes entry.reply) (list_any (λ e. closes e.reply) mine) unclosed ∙ ap closes reply_is ∙ sym closed in
            let drawn : Draft = unwrap_or (result_ok (draft_of setup (carried (mine ▹ entry)))) empty_draft in
            let none : length later ≡ after.refused + length later = omega (arith, refused, none_refused) in
            ap (next_of setup count (mine ▹ entry)) (same_lines later)
            ∙ ap (λ ls. cond (list_any (λ e. closes e.reply) (mine ▹ entry)) (record { line = count + 1; carries = []; kind = End (length ls) })
            (next_from setup count drawn [] ls)) left
            ∙ ap (λ b. cond b (record { line = count + 1; carries = []; kind = End (length later) }) (next_from setup count drawn [] later)) any
            ∙ ap (λ n. cond after.closed (record { line = count + 1; carries = []; kind = End n }) (next_from setup count drawn [] later)) none
            ∙ ap (λ cs. cond after.closed (record { line = count + 1; carries = []; kind = End (after.refused + length later) })
            (next_from setup count (unwrap_or (result_ok (draft_of setup cs)) empty_draft) [] later)) (sym (append-nil (carried (mine ▹ entry))))
            ∙ ap (λ p. cond after.closed (record { line = count + 1; carries = []; kind = End (after.refused + length later) })
            (next_from setup count (draft_so_far setup (mine ▹ entry) p) p later)) (sym pending);
      }

pub one_more_is_read : OneMoreIsRead
one_more_is_read given number text reply old new before after stands has reads = by_closed before.closed refl reads
  where
    by_made : before.closed ≡ false → (made : Option EntryKind) → made_by_line old before text ≡ made → Makes number text reply old new before after made
        → HasRead old.setup (given ++ (number, text) ∷ []) (own before.session new.history) after
    by_made opened None is makes =
        let was : IsOpen old.setup (own before.session old.history) before = stands.when_open opened in
        let M : Machine → Type 0 = λ m. HasRead old.setup (given ++ (number, text) ∷ []) (own before.session m.history) after in
        subst M (sym makes.1) (waits_more old.setup given number text (own before.session old.history) before after has opened was.draft was.made is makes.2)
    by_made opened (Some kind) is makes =
        let was : IsOpen old.setup (own before.session old.history) before = stands.when_open opened in
        let carries : List Call = before.pending ++ calls_of_line text in
        let grown : own before.session new.history ≡ (own before.session old.history ▹ entry_of (Session before.session) number carries kind reply) =
        ap (λ (m : Machine). own before.session m.history) makes.entry ∙ own_more before.session old.history number carries kind reply in
        let H : List Entry → Type 0 = λ es. HasRead old.setup (given ++ (number, text) ∷ []) es after in
        subst H (sym grown)
        (enters_more old.setup given number text (own before.session old.history) before after has opened was.none_refused (stands.closed ∙ opened) kind reply
        (entry_of (Session before.session) number carries kind reply) is refl refl refl refl
        (ap (λ (r : SessionReader). r.pending) makes.rest) (ap (λ (r : SessionReader). r.closed) makes.rest) (ap (λ (r : SessionReader). r.refused) makes.rest))

    by_closed : (b : Bool) → before.closed ≡ b → Reads number text reply old new before after b
        → HasRead old.setup (given ++ (number, text) ∷ []) (own before.session new.history) after
    by_closed true is reads =
        let M : Machine → Type 0 = λ m. HasRead old.setup (given ++ (number, text) ∷ []) (own before.session m.history) after in
        subst M (sym reads.1) (refused_more old.setup given number text (own before.session old.history) before after has is reads.2)
    by_closed false is reads = by_made is (made_by_line old before text) refl reads

-- ---- the End

-- the End of a session whose lines are all read
pub ends_reading : (setup : Setup) (given : List (ℕ × SessionLine)) (count : ℕ) (mine : List Entry) (reader : SessionReader) (entry : Entry)
    → Stands setup mine reader
    → HasRead setup given mine reader → Rise 0 given
    → entry.line ≡ count + 1 → entry.calls ≡ reader.pending → entry.kind ≡ End reader.refused → IsReading setup count given (mine ▹ entry)
ends_reading setup given count mine reader entry stands has rise line_is calls_are kind_is = by_closed reader.closed refl
  where
    all_given : given ++ [] ≡ given
    all_given = append-nil given

    ended : is_ended_once (mine ▹ entry) ≡ true
    ended = ap (λ k. is_end k && not (list_any (λ e. is_end e.kind) mine)) kind_is ∙ ap not stands.unended

    by_closed : (b : Bool) → reader.closed ≡ b → IsReading setup count given (mine ▹ entry)
    by_closed b is =
        let R : List (ℕ × SessionLine) → Type 0 = Rise 0 in
        let rise_all : Rise 0 (given ++ []) = subst R (sym all_given) rise in
        let F : List (ℕ × SessionLine) → Type 0 = λ ls. Follows setup count ls (mine ▹ entry) in
        let N : Next → Type 0 = λ next. IsNext next entry in
        let next : next_of setup count mine (given ++ []) ≡ record { line = count + 1; carries = reader.pending; kind = End reader.refused } =
        has.next count [] rise_all ∙ by_test b is in
        record {
          follows = subst F all_given (
            has.follows count [] rise_all,
            subst N (sym next) (record { line = line_is; carried = calls_are; kind = kind_is }),
          );
          ended = ended;
        }
      where
        by_test : (b : Bool) → reader.closed ≡ b → next_by setup count mine reader.pending reader.closed reader.refused []
            ≡ record { line = count + 1; carries = reader.pending; kind = End reader.refused }
        by_test true closed =
            ap (λ b. cond b (record { line = count + 1; carries = []; kind = End (reader.refused + 0) })
            (next_from setup count (draft_so_far setup mine reader.pending) reader.pending [])) closed
            ∙ ap (λ n. let next : Next = record { line = count + 1; carries = []; kind = End n } in next) (omega arith)
            ∙ ap (λ p. let next : Next = record { line = count + 1; carries = p; kind = End reader.refused } in next) (sym (stands.when_closed closed))
        by_test false opened =
            ap (λ b. cond b (record { line = count + 1; carries = []; kind = End (reader.refused + 0) })
            (next_from setup count (draft_so_far setup mine reader.pending) reader.pending [])) opened
            ∙ ap (λ n. let next : Next = record { line = count + 1; carries = reader.pending; kind = End n } in next)
            (sym (stands.when_open opened).none_refused)

pub ends_are_read : EndsAreRead
ends_are_read given count m reader stands has rise =
    let mine : List Entry = own reader.session m.history in
    let R : List Entry → Type 0 = IsReading m.setup count given in
    subst R (sym (own_more reader.session m.history (count + 1) reader.pending (End reader.refused) Done))
    (ends_reading m.setup given count mine reader (entry_of (Session reader.session) (count + 1) reader.pending (End reader.refused) Done) stands has rise refl
    refl refl)
