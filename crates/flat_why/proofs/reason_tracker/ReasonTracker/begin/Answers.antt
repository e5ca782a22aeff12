use Rattle.std.proofs.Common.{◌≡◌, ◌++◌, arith, take, drop, List, ℕ, length, map, filter, ap, sym, ◌∙◌, subst}
use Rattle.std.specs.List.{All}
use Rattle.std.specs.Vec.{with_items}
use Rattle.flat_why.proofs.OverSessions.{take-front}
use Rattle.flat_rules.specs.Legal.{Legal}
use Rattle.flat_rules.proofs.lemmas.ShownList.{length-listed}
use Rattle.flat_scene.specs.declared.journal.Entry.{Entry}
use Rattle.flat_scene.specs.declared.setup.Setup.{Setup}
use Rattle.flat_scene.specs.Frames.{sessions_to, taken}
use Rattle.flat_scene.specs.History.{◌▹◌}
use Rattle.flat_why.specs.declared.reasons.MadePresent.{MadePresent}
use Rattle.flat_why.specs.declared.reasons.AttachPoint.{AttachPoint}
use Rattle.flat_why.specs.declared.reason_tracker.ReasonTracker.{ReasonTracker}
use Rattle.flat_why.specs.Reasons.{first_of, is_waiting, nothing_by, standing_in, waiting_of}
use Rattle.flat_why.specs.Noted.{closings_in, uses_in, IsKnown}
use Rattle.flat_why.proofs.FrameEntries.{begin-noted}
use Rattle.flat_why.proofs.Waits.{all-filter}
use Rattle.flat_why.proofs.reason_tracker.ReasonTracker.begin.Goals as goal

pub returns : goal.returns
returns c =
    let script = c.args.script.now in
    let history = c.args.board.now.history in
    let was : ReasonTracker = c.args.self.now in
    let mid : ReasonTracker = c.note_waits.new.self in
    let old : List Entry = c.requires.before.0 in
    let entry : Entry = c.requires.before.1 in
    let is : history ≡ (old ▹ entry) = c.requires.before.3 in
    let stands = c.requires.before.4 in
    let of : c.args.board.now.setup ≡ script.setup = c.requires.of in
    let legal : Legal script.setup (old ▹ entry) = (let L : List Entry → Type 0 = λ h. Legal script.setup h in let S : Setup
    → Type 0 = λ st. Legal st history in subst L is (subst S of c.journal-journal.ensures.legal)) in
    let rest = c.note_waits.ensures.rest in
    let dues : mid.dues.items ≡ filter (is_waiting script.setup history) was.dues.items =
    c.in_ok-note_waits.ensures.dues ∙ ap (λ (st : Setup). filter (is_waiting st history) was.dues.items) of in
    let waits : mid.waits.items ≡ map (waiting_of script.setup history) (filter (is_waiting script.setup history) was.dues.items) =
    c.in_ok-note_waits.ensures.waits ∙ ap (λ (st : Setup). map (waiting_of st history) (filter (is_waiting st history) was.dues.items)) of in
    let closings : c.as_slice.result.now ≡ was.closings.items = c.as_slice.ensures.value ∙ ap (λ (w : ReasonTracker). w.closings.items) rest in
    let uses : c.as_slice-2.result.now ≡ was.last_uses.items = c.as_slice-2.ensures.value ∙ ap (λ (w : ReasonTracker). w.last_uses.items) rest in
    let said : c.as_slice-3.result.now ≡ mid.waits.items = c.as_slice-3.ensures.value in
    let standings : c.note_standings.new.standings ≡ map
    (λ s. standing_in script.setup c.args.shown.now (taken script.setup history) (uses_in was.last_uses.items)
    (nothing_by (closings_in was.closings.items s) (first_of s mid.waits.items)) s) (sessions_to script.setup.sessions) =
    c.note_standings.ensures ∙ (λ i. map (λ s. standing_in (of i) c.args.shown.now (taken (of i) history) (uses_in (uses i))
    (nothing_by (closings_in (closings i) s) (first_of s (said i))) s) (sessions_to (of i).sessions)) in
    let many = ap (λ (xs : List AttachPoint). length xs) standings ∙ length-listed _ script.setup.sessions ∙ sym stands.count in
    let same : mid.standings ≡ was.standings = ap (λ (w : ReasonTracker). w.standings) rest in
    let still = ap (λ v. length v.items) same in
    let whole = mid.standings.ok in
    let items : (with_items mid.standings c.note_standings.new.standings).items ≡ c.note_standings.new.standings =
    ap (λ (k : ℕ). take k (c.note_standings.new.standings ++ drop (length c.note_standings.new.standings) mid.standings.items))
    (let long : mid.standings.len ≡ length c.note_standings.new.standings = omega (arith, many, still, whole) in long)
    ∙ take-front c.note_standings.new.standings (drop (length c.note_standings.new.standings) mid.standings.items) in
    let K : List MadePresent → Type 0 = All (IsKnown script.setup) in
    begin-noted script old history entry c.args.time c.args.shown.now was (record mid { standings = with_items mid.standings c.note_standings.new.standings })
    is c.requires.before.2 legal.1 c.requires.shown stands dues waits (items ∙ standings)
    (ap (λ (w : ReasonTracker). w.closings) rest) (ap (λ (w : ReasonTracker). w.last_uses) rest) (ap (λ (w : ReasonTracker). w.frames) rest)
    (ap (λ (w : ReasonTracker). w.page) rest)
    (ap (λ (xs : List AttachPoint). length xs) items ∙ many)
    (subst K (sym dues) (all-filter (IsKnown script.setup) (is_waiting script.setup history) was.dues.items stands.known))
