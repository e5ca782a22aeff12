-- Where a run that follows a text stops, each run with this report has stopped.
use Rattle.std.proofs.Common.{◌≡◌, ℕ, ◌<◌, ◌≤◌, ◌&&◌, ◌||◌, not, nat_lt, nat_le, Bool, true, false, cond, List, [], ◌∷◌, ◌++◌}
use Rattle.std.proofs.Common.{drop, Some, None, refl, sym, ap, ◌∙◌, subst, arith, append-nil, true≢false}
use Rattle.std.specs.List.{list_all, list_any}
use Rattle.std.proofs.lemmas.Bool.{eq-eqb}
use Rattle.std.proofs.lemmas.Bool.Decides.{nat_tests}
use Rattle.flat_base.proofs.lemmas.Tests.{and-left, and-right}
use Rattle.flat_base.specs.declared.ids.Actor.{Actor}
use Rattle.flat_base.specs.declared.ids.Actor.TheVariants.{Display, Session, Probe}
use Rattle.flat_base.specs.declared.ids.SessionNo.{SessionNo}
use Rattle.flat_scene.specs.declared.frames.LostDisplay.{LostDisplay}
use Rattle.flat_scene.specs.declared.journal.Entry.{Entry}
use Rattle.flat_scene.specs.declared.script.DisplayLine.{DisplayLine}
use Rattle.flat_scene.specs.History.{◌▹◌, is_display, is_end, is_session, own}
use Rattle.flat_scene.specs.Interleave.{FollowsDisplay, Interleaves, IsFirstLine, IsReading, by_display, display_lines, is_ended_once, session_lines}
use Rattle.flat_scene.specs.Interleave.{unread_lines}
use Rattle.flat_scene.specs.Setups.{is_declared}
use Rattle.flat_rules.specs.Legal.{Legal, frames}
use Rattle.flat_places.specs.declared.script.Script.{Script}
use Rattle.flat_report.specs.Report.{is_loss}
use Rattle.flat_report.proofs.lemmas.Named.{Acts, acts}
use Rattle.flat_report.proofs.lemmas.Turns.{Stands, display-next, session-at}
use Rattle.flat_judge.specs.declared.following.ReplayProgress.{ReplayProgress}
use Rattle.flat_judge.specs.Following.{Begins, GoesOnTo, IsAlong, IsOnly, IsPart, StoppedBefore, and_then, are_behind, next_actor, told}
use Rattle.flat_judge.specs.GuidedRuns.{Grown}
use Rattle.flat_judge.specs.Verdicts.{IsRead, Run, report_of}
use Rattle.flat_judge.proofs.Along.{next-entry, run-next}
use Rattle.flat_judge.proofs.LossesTold.{loss-parts}
use Rattle.flat_judge.proofs.Fitting.{goes_before}

-- ---- no loss behind the last frame

low-loss : (history : List Entry) (x : LostDisplay) (lost : List LostDisplay) → is_loss history (x ∷ lost) ≡ true → nat_le x.frame.0 (frames history) ≡ true
low-loss history x lost loss =
    let number_fits = nat_lt 0 x.frame.0 && nat_le x.frame.0 (frames history) in
    let first = and-left (number_fits && list_all (goes_before x) lost) (is_loss history lost) loss in
    and-right (nat_lt 0 x.frame.0) (nat_le x.frame.0 (frames history)) (and-left number_fits (list_all (goes_before x) lost) first)

none-more : (history : List Entry) (more : List LostDisplay) → is_loss history more ≡ true → are_behind (frames history) more ≡ true → more ≡ []
none-more history [] loss behind = refl
none-more history (x ∷ more) loss behind =
    let low = low-loss history x more loss in
    let high = and-left (nat_lt (frames history) x.frame.0) (are_behind (frames history) more) behind in
    absurd (let wrong : x.frame.0 < x.frame.0 = grind (arith, nat_tests) in omega (arith, wrong))

pub loss-behind : (history : List Entry) (xs ys : List LostDisplay) → is_loss history (xs ++ ys) ≡ true → is_loss history ys ≡ true
loss-behind history [] ys loss = loss
loss-behind history (x ∷ xs) ys loss = loss-behind history xs ys (loss-parts history x (xs ++ ys) loss).1

-- ---- a run that goes no further

module _ (script : Script) (text : List ℕ) (history : List Entry) (along : ReplayProgress) (is : IsAlong script text history along) where
  -- where no run has a further entry, it is the only one
  only-this : ((read : IsRead script) (run : Run script) (report : text ≡ report_of script run) (goes : GoesOnTo history along.lost (frames history) run)
      (other : Entry) (more : List Entry) → goes.later ≡ other ∷ more → ⊥) → IsOnly script text history along.lost
  only-this none read run report =
      let goes = is.led read run report in
      by goes goes.later refl (none read run report goes)
    where
      by : (goes : GoesOnTo history along.lost (frames history) run) (later : List Entry) → goes.later ≡ later
          → ((other : Entry) (more : List Entry) → goes.later ≡ other ∷ more → ⊥) → (run.history ≡ history) × (run.lost ≡ along.lost)
      by goes (other ∷ more) some never = absurd (never other more some)
      by goes [] end never =
          let whole : run.history ≡ history = goes.entries ∙ ap (and_then history) end in
          let L : List Entry → List LostDisplay → Type 0 = λ h ls. is_loss h ls ≡ true in
          let L1 : List Entry → Type 0 = λ h. L h run.lost in
          let L2 : List LostDisplay → Type 0 = L history in
          let loss : is_loss history (along.lost ++ goes.more) ≡ true = subst L2 goes.losses (subst L1 whole run.is.loss) in (
            whole,
            goes.losses ∙ ap (λ (ls : List LostDisplay). along.lost ++ ls)
                (none-more history goes.more (loss-behind history along.lost goes.more loss) goes.behind) ∙ append-nil along.lost,
          )

  -- the text says of nobody that it is next
  pub stops-silent : next_actor script (drop along.at text) ≡ None → IsOnly script text history along.lost
  stops-silent nobody = only-this (λ read run report goes other more some.
      (let its = run-next script text history along.lost run report goes along.at is.begins read other more some in
      let wrong : Some other.actor ≡ None = sym its.0 ∙ nobody in absurd (cc)))

  -- it says so of an actor who makes none
  pub stops-other : (actor : Actor) → next_actor script (drop along.at text) ≡ Some actor
      → ((other : Entry) → other.actor ≡ actor → Stands script.setup script.count script.lines (history ▹ other) → (run : Run script) (more : List Entry)
      → run.history ≡ and_then (history ▹ other) more → ⊥)
      → IsOnly script text history along.lost
  stops-other actor turn never = only-this (λ read run report goes other more some.
      (let its = run-next script text history along.lost run report goes along.at is.begins read other more some in
      let both : Some other.actor ≡ Some actor = sym its.0 ∙ turn in
      let same : other.actor ≡ actor = cc in
      never other same its.1 run more (goes.entries ∙ ap (and_then history) some)))

  -- the next entry of whom it says is that of each run
  pub makes-next : (entry : Entry) → next_actor script (drop along.at text) ≡ Some entry.actor → Stands script.setup script.count script.lines (history ▹ entry)
      → IsPart script text history entry [] (frames history) along
  makes-next entry turn standing = record {
    begins = (let B : List ℕ → Type 0 = λ b. Begins text b along.at in subst B (sym (append-nil (told script along.lost history))) is.begins);
    within = is.within;
    led = λ read run report.
        (let goes = is.led read run report in
        let its = next-entry script text history along.lost run report goes along.at is.begins read entry turn standing in
        record { later = its.0; entries = goes.entries ∙ ap (and_then history) its.1; more = goes.more; losses = goes.losses; behind = goes.behind });
    losses = is.losses;
    posted = is.posted;
  }

-- ---- who has made all entries makes no further one

-- the display
pub display-done : (script : Script) (history : List Entry) (other : Entry) → other.actor ≡ Display
    → unread_lines (by_display history) (display_lines script.lines) ≡ [] → Stands script.setup script.count script.lines (history ▹ other) → ⊥
display-done script history other of_display none standing =
    let first = display-next script.setup script.count script.lines history other of_display standing.display in
    let P : List (ℕ × DisplayLine) → Type 0 = λ ls. IsFirstLine ls other in
    subst P none first

abbrev any_end : List Entry → Bool
any_end entries = list_any (λ (entry : Entry). is_end entry.kind) entries

has-end : (entries : List Entry) → is_ended_once entries ≡ true → any_end entries ≡ true
has-end [] once = once
has-end (e ∷ before) once = let is = and-left (is_end e.kind) (not (any_end before)) once in rw is refl

-- An End stands behind the newest of some entries.
abbrev IsTwice : List Entry → Type 0
IsTwice [] = ⊥
IsTwice (e ∷ before) = any_end before ≡ true

twice-not : (entries : List Entry) → IsTwice entries → is_ended_once entries ≡ true → ⊥
twice-not [] twice once = twice
twice-not (e ∷ before) twice once =
    let none : not (any_end before) ≡ true = and-right (is_end e.kind) (not (any_end before)) once in
    let wrong : not true ≡ true = ap not (sym twice) ∙ none in
    true≢false (sym wrong)

or-right : (a : Bool) {b : Bool} → b ≡ true → (a || b) ≡ true
or-right true is = refl
or-right false is = is

twice-end : (entries : List Entry) → IsTwice entries → any_end entries ≡ true
twice-end [] twice = absurd twice
twice-end (e ∷ before) twice = or-right (is_end e.kind) twice

twice-more : (s : SessionNo) (history : List Entry) (e : Entry) → IsTwice (own s history) → IsTwice (own s (history ▹ e))
twice-more s history e twice = by (is_session s e.actor)
  where
    by : (b : Bool) → IsTwice (cond b (own s history ▹ e) (own s history))
    by true = twice-end (own s history) twice
    by false = twice

twice-all : (s : SessionNo) (history more : List Entry) → IsTwice (own s history) → IsTwice (own s (and_then history more))
twice-all s history [] twice = twice
twice-all s history (e ∷ more) twice = twice-all s (history ▹ e) more (twice-more s history e twice)

twice-here : (s : SessionNo) (history : List Entry) (other : Entry) → is_session s other.actor ≡ true → any_end (own s history) ≡ true
    → IsTwice (own s (history ▹ other))
twice-here s history other mine ended = let P : Bool → Type 0 = λ b. IsTwice (cond b (own s history ▹ other) (own s history)) in subst P (sym mine) ended

-- the reading of a declared session
reading : (script : Script) (history : List Entry) → Interleaves script.setup script.count script.lines history → (s : SessionNo)
    → is_declared script.setup s ≡ true
    → IsReading script.setup script.count (session_lines s script.lines) (own s history)
reading script history interleaves s declared =
    session-at (λ s. IsReading script.setup script.count (session_lines s script.lines) (own s history)) script.setup.sessions s.0
    (let least : 1 ≤ s.0 = grind (arith, nat_tests) in least) (let most : s.0 ≤ script.setup.sessions = grind (arith, nat_tests) in most) interleaves.sessions

-- a session
pub session-done : (script : Script) (s : SessionNo) (history : List Entry) (other : Entry) → other.actor ≡ Session s → is_declared script.setup s ≡ true
    → is_ended_once (own s history) ≡ true
    → (whole : List Entry) → Interleaves script.setup script.count script.lines whole → (more : List Entry) → whole ≡ and_then (history ▹ other) more → ⊥
session-done script s history other of_session declared ended whole interleaves more is =
    let mine : is_session s other.actor ≡ true = rw of_session (eq-eqb s.0 s.0 refl) in
    let twice : IsTwice (own s (and_then (history ▹ other) more)) =
    twice-all s (history ▹ other) more (twice-here s history other mine (has-end (own s history) ended)) in
    let W : List Entry → Type 0 = λ h. IsTwice (own s h) in
    twice-not (own s whole) (subst W (sym is) twice) (reading script whole interleaves s declared).ended

-- ---- a whole run that begins with another one is that one

no-display : (script : Script) (history more : List Entry) → FollowsDisplay (display_lines script.lines) (by_display (more ++ history))
    → unread_lines (by_display history) (display_lines script.lines) ≡ [] → by_display more ≡ []
no-display script history [] follows none = refl
no-display script history (e ∷ more) follows none = by (is_display e.actor) refl (λ f. no-display script history more f none)
  where
    lines : List (ℕ × DisplayLine)
    lines = display_lines script.lines

    appended : (xs : List Entry) → by_display (xs ++ history) ≡ by_display xs ++ by_display history
    appended [] = refl
    appended (x ∷ xs) = one (is_display x.actor) (appended xs)
      where
        one : (b : Bool) → by_display (xs ++ history) ≡ by_display xs ++ by_display history
            → cond b (x ∷ by_display (xs ++ history)) (by_display (xs ++ history)) ≡ cond b (x ∷ by_display xs) (by_display xs) ++ by_display history
        one true is = ap (λ (es : List Entry). x ∷ es) is
        one false is = is

    by : (b : Bool) → is_display e.actor ≡ b → (FollowsDisplay (display_lines script.lines) (by_display (more ++ history)) → by_display more ≡ [])
        → by_display (e ∷ more) ≡ []
    by true is earlier =
        let F : Bool → Type 0 = λ t. FollowsDisplay (display_lines script.lines) (cond t (by_display (more ++ history) ▹ e) (by_display (more ++ history))) in
        let both = subst F is follows in
        let before : by_display (more ++ history) ≡ by_display history = appended more ∙ ap (λ (es : List Entry). es ++ by_display history) (earlier both.0) in
        let P : List Entry → Type 0 = λ es. IsFirstLine (unread_lines es (display_lines script.lines)) e in
        let Q : List (ℕ × DisplayLine) → Type 0 = λ ls. IsFirstLine ls e in
        absurd (subst Q none (subst P before both.1))
    by false is earlier =
        let F : Bool → Type 0 = λ t. FollowsDisplay (display_lines script.lines) (cond t (by_display (more ++ history) ▹ e) (by_display (more ++ history))) in
        let C : Bool → Type 0 = λ t. cond t (e ∷ by_display more) (by_display more) ≡ [] in
        subst C (sym is) (earlier (subst F is follows))

pub whole-only : (script : Script) (history whole : List Entry) → Interleaves script.setup script.count script.lines history → Legal script.setup whole
    → Interleaves script.setup script.count script.lines whole → Grown history whole → whole ≡ history
whole-only script history whole ended legal interleaves grown = by grown.more refl
  where
    by : (more : List Entry) → grown.more ≡ more → whole ≡ history
    by [] none = grown.is ∙ ap (λ (es : List Entry). es ++ history) none
    by (e ∷ more) some =
        let all : whole ≡ e ∷ (more ++ history) = grown.is ∙ ap (λ (es : List Entry). es ++ history) some in
        let L : List Entry → Type 0 = Legal script.setup in
        let D : List Entry → Type 0 = λ h. FollowsDisplay (display_lines script.lines) (by_display h) in
        let I : List Entry → Type 0 = Interleaves script.setup script.count script.lines in
        let acting = acts script e.kind e.actor (subst L all legal).1.may.acts in
        absurd (by_actor e.actor refl acting all more (no-display script history (e ∷ more) (subst D all interleaves.display) ended.all_read)
        (subst I all interleaves))
      where
        in-older : (s : SessionNo) (xs : List Entry) → any_end (own s history) ≡ true → any_end (own s (xs ++ history)) ≡ true
        in-older s [] some = some
        in-older s (x ∷ xs) some = one (is_session s x.actor) (in-older s xs some)
          where
            one : (b : Bool) → any_end (own s (xs ++ history)) ≡ true → any_end (cond b (own s (xs ++ history) ▹ x) (own s (xs ++ history))) ≡ true
            one true later = or-right (is_end x.kind) later
            one false later = later

        by_actor : (actor : Actor) → e.actor ≡ actor → Acts script e.actor → whole ≡ e ∷ (more ++ history) → (older : List Entry) → by_display (e ∷ more) ≡ []
            → Interleaves script.setup script.count script.lines (e ∷ (more ++ history)) → ⊥
        by_actor Display is acting all older none reads =
            let C : Actor → Type 0 = λ a. cond (is_display a) (e ∷ by_display more) (by_display more) ≡ [] in
            let wrong : e ∷ by_display more ≡ [] = subst C is none in cc
        by_actor (Session s) is acting all older none reads =
            let A : Actor → Type 0 = Acts script in
            let declared : is_declared script.setup s ≡ true = subst A is acting in
            let mine : is_session s e.actor ≡ true = rw is (eq-eqb s.0 s.0 refl) in
            let twice : IsTwice (own s (e ∷ (more ++ history))) =
            twice-here s (more ++ history) e mine (in-older s more (has-end (own s history) (reading script history ended s declared).ended)) in
            twice-not (own s (e ∷ (more ++ history))) twice (reading script (e ∷ (more ++ history)) reads s declared).ended
        by_actor (Probe p) is acting all older none reads = let A : Actor → Type 0 = Acts script in subst A is acting

-- the only run up to some entries is the only one that goes on from them to its end
pub only-whole : (script : Script) (text : List ℕ) (history : List Entry) (along : ReplayProgress) → StoppedBefore script text history along
    → Legal script.setup history
    → Interleaves script.setup script.count script.lines history
    → IsOnly script text history along.lost
only-whole script text history along stopped legal interleaves read run report =
    let at = stopped.stopped.only read run report in
    let I : List Entry → Type 0 = Interleaves script.setup script.count script.lines in
    let same : history ≡ stopped.stop = whole-only script stopped.stop history (subst I at.0 run.is.interleaves) legal interleaves stopped.grown in
    (at.0 ∙ sym same, at.1)
