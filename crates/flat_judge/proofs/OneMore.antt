-- What the lines of one entry more tell of a text, and of the runs that have it as their report.
use Rattle.std.proofs.Common.{◌≡◌, ℕ, suc, ◌+◌, ◌<◌, ◌≤◌, ◌^◌, ◌==◌, ◌&&◌, nat_lt, nat_le, Bool, true, false, cond, List, [], ◌∷◌, ◌++◌, length, drop}
use Rattle.std.proofs.Common.{map, codes, Some, None, refl, sym, ap, ◌∙◌, subst, arith, append_assoc, append-nil, length-append}
use Rattle.std.specs.List.{list_all}
use Rattle.std.proofs.lemmas.Bool.Decides.{nat_tests}
use Rattle.std.proofs.lemmas.List.{append_cancel_left}
use Rattle.flat_base.proofs.lemmas.Tests.{and-left, and-right, and-true}
use Rattle.flat_scene.specs.declared.frames.LostDisplay.{LostDisplay}
use Rattle.flat_scene.specs.declared.journal.Entry.{Entry}
use Rattle.flat_scene.specs.History.{◌▹◌, is_finish}
use Rattle.flat_rules.specs.Ends.{to_begin, to_finished}
use Rattle.flat_rules.specs.Legal.{frames}
use Rattle.flat_rules.specs.Posts.{Sent, posted}
use Rattle.flat_rules.specs.AllPosts.{posts}
use Rattle.flat_places.specs.declared.script.Script.{Script}
use Rattle.flat_page.specs.Words.{line_of, number, text_of}
use Rattle.flat_places.specs.Forms.{Word}
use Rattle.flat_lines.specs.Ends.{end_line}
use Rattle.flat_lines.specs.EntryLines.{event_line}
use Rattle.flat_lines.specs.FrameLines.{frame_lines, lost_at, lost_line}
use Rattle.flat_report.specs.FrameTexts.{frame_text}
use Rattle.flat_report.specs.Report.{entry_lines, frame_at, hits_at, is_loss, probe_lines, shown_lines}
use Rattle.flat_report.proofs.lemmas.Named.{IsNamed}
use Rattle.flat_report.proofs.lemmas.Openings.{NoLoss, end-no-loss, entry-no-loss, event-no-loss}
use Rattle.flat_report.proofs.lemmas.Reading.{Kept, read-kept}
use Rattle.flat_report.proofs.lemmas.SeenTold.{probe-lines-are, seen-no-loss}
use Rattle.flat_report.proofs.lemmas.Sheets.{line_on, sheet, text-sheet}
use Rattle.flat_report.proofs.lemmas.Tails.{onto, tail, text-append}
use Rattle.flat_report.proofs.lemmas.Turns.{Stands, stands, stood}
use Rattle.flat_judge.specs.declared.following.ReplayProgress.{ReplayProgress}
use Rattle.flat_judge.specs.Following.{AllGoOn, AreLosses, Begins, GoesOnTo, IsAlong, IsLineTold, IsPart, IsShownTold, NoMoreLost, Passes, ReadsLosses}
use Rattle.flat_judge.specs.Following.{are_behind, events_text, own_text, shown_text, told}
use Rattle.flat_judge.specs.Verdicts.{NoRun, Run, report_of}
use Rattle.flat_judge.proofs.Along.{ending, events_here, frames-one, lost-append, own_line, prefix-agrees, shown-agree, shown_here, tail-parts}
use Rattle.flat_judge.proofs.Along.{text-here, then-onto, told-agrees, told-more}
use Rattle.flat_judge.proofs.LossesTold.{are_at, at-here, loss-parts, part, same-losses}
use Rattle.flat_judge.proofs.Fitting.{goes_before}
use Rattle.flat_report.proofs.lemmas.Losses.{is_at, is_small}
use Rattle.flat_report.specs.Runs.{is_display_number}

-- ---- losses, and frames that pass

pub behind-less : (n m : ℕ) (more : List LostDisplay) → n ≤ m → are_behind m more ≡ true → are_behind n more ≡ true
behind-less n m [] upto behind = refl
behind-less n m (x ∷ more) upto behind =
    let first = and-left (nat_lt m x.frame.0) (are_behind m more) behind in
    let less : nat_lt n x.frame.0 ≡ true = grind (arith, nat_tests) in
    and-true less (behind-less n m more upto (and-right (nat_lt m x.frame.0) (are_behind m more) behind))

pub losses-later : (n m : ℕ) (lost : List LostDisplay) → n ≤ m → AreLosses n lost → AreLosses m lost
losses-later n m lost upto losses = ((λ history many. losses.0 history (omega (arith, upto, many))), losses.1)

pub frames-upto : (before : List Entry) (entry : Entry) → frames before ≤ frames (before ▹ entry)
frames-upto before entry = by (is_finish entry.kind) (frames-one before entry)
  where
    by : (b : Bool) → frames (before ▹ entry) ≡ cond b (suc (frames before)) (frames before) → frames before ≤ frames (before ▹ entry)
    by true is = omega (arith, is)
    by false is = omega (arith, is)

-- ---- no line of a lost display, where there is none

module _ (script : Script) (named : IsNamed script) where
  events-no-loss : (sents : List Sent) (text : List ℕ) → NoLoss text → NoLoss (sheet (map (λ sent. event_line script sent.to sent.event) sents) text)
  events-no-loss [] text none = none
  events-no-loss (sent ∷ sents) text none = event-no-loss script named sent.to sent.event
      (sheet (map (λ sent. event_line script sent.to sent.event) sents) text)

  tail-no-loss : (lost : List LostDisplay) (before later : List Entry) (rest : List ℕ) → Stands script.setup script.count script.lines (onto before later)
      → NoLoss rest → NoLoss (sheet (tail (entry_lines script lost) before later) rest)
  tail-no-loss lost before [] rest standing none = none
  tail-no-loss lost before (entry ∷ later) rest standing none =
      entry-no-loss script named before entry (frames before) (hits_at script.setup (to_finished before))
      (sheet ((shown_here script lost before entry ++ events_here script lost before entry) ++ tail (entry_lines script lost) (before ▹ entry) later) rest)
      (stood script.setup script.count script.lines (before ▹ entry) later standing).legal.1

-- ---- one entry more of a run

module _ (script : Script) (text : List ℕ) (before : List Entry) (entry : Entry) where
  -- what a run's report has behind the lines of an entry
  abbrev pub rest_text : (run : Run script) → List Entry → List ℕ
  rest_text run later = text_of (tail (entry_lines script run.lost) (before ▹ entry) later) ++ ending run

  abbrev earlier : (lost : List LostDisplay) (frame : ℕ) (run : Run script) → frames before ≤ frame → GoesOnTo (before ▹ entry) lost frame run
      → GoesOnTo before lost (frames before) run
  earlier lost frame run upto goes = record {
    later = entry ∷ goes.later;
    entries = goes.entries;
    more = goes.more;
    losses = goes.losses;
    behind = behind-less (frames before) frame goes.more upto goes.behind;
  }

  -- its text
  pub run-parts : (lost : List LostDisplay) (frame : ℕ) (run : Run script) → text ≡ report_of script run → frames before ≤ frame
      → (goes : GoesOnTo (before ▹ entry) lost frame run)
      → text ≡ told script lost before ++ (own_text script before entry
      ++ (text_of (shown_here script run.lost before entry) ++ (events_text script before entry ++ rest_text run goes.later)))
  run-parts lost frame run is upto goes =
      text-here script text before lost run is (earlier lost frame run upto goes)
      ∙ ap (λ (t : List ℕ). told script lost before ++ t) (tail-parts script run.lost before entry goes.later (ending run))

  -- where the losses up to this entry are known, what it shows is known
  shown-known : (lost : List LostDisplay) (run : Run script) → GoesOnTo (before ▹ entry) lost (frames (before ▹ entry)) run
      → text_of (shown_here script run.lost before entry) ≡ shown_text script lost before entry
  shown-known lost run goes =
      ap text_of (ap (λ (ls : List LostDisplay). shown_here script ls before entry) goes.losses
      ∙ shown-agree script (lost ++ goes.more) lost before (is_finish entry.kind) (λ finish.
      (let more : frames (before ▹ entry) ≡ suc (frames before) = frames-one before entry ∙ ap (λ b. cond b (suc (frames before)) (frames before)) finish in
      prefix-agrees (frames (before ▹ entry)) lost goes.more goes.behind (suc (frames before)) (omega arith) (omega (arith, more)))))

  -- ---- bytes that pass

  pub part-more : (part bytes : List ℕ) (frame next : ℕ) (along : ReplayProgress) → IsPart script text before entry part frame along
      → Passes text along.at bytes (Some next) → IsPart script text before entry (part ++ bytes) frame (record along { at = next })
  part-more part bytes frame next along is passes =
      let B : List ℕ → Type 0 = λ b. Begins text b next in
      record {
        begins = subst B (append_assoc (told script along.lost before) part bytes) (passes.1 (told script along.lost before ++ part) is.begins);
        within = passes.0;
        led = is.led;
        losses = is.losses;
        posted = is.posted;
      }

  -- the entry's own line
  pub line-passes : (along : ReplayProgress) (next : ℕ) → IsPart script text before entry [] (frames before) along
      → Passes text along.at (own_text script before entry) (Some next) → IsLineTold script text before entry (record along { at = next })
  line-passes along next is passes = part-more [] (own_text script before entry) (frames before) next along is passes

  pub line-parts : (along : ReplayProgress) → IsPart script text before entry [] (frames before) along
      → Passes text along.at (own_text script before entry) None
      → NoRun script text
  line-parts along is parts read run report =
      let goes = is.led read run report in
      let all = run-parts along.lost (frames before) run report (omega arith) goes in
      let B : List ℕ → Type 0 = λ b. Begins text b along.at in
      parts (told script along.lost before) (text_of (shown_here script run.lost before entry) ++ (events_text script before entry ++ rest_text run goes.later))
      (subst B (append-nil (told script along.lost before)) is.begins) all

  -- an entry that finishes no frame shows nothing
  pub shown-none : (along : ReplayProgress) → is_finish entry.kind ≡ false → IsLineTold script text before entry along
      → IsShownTold script text before entry along
  shown-none along other is =
      let same : frames (before ▹ entry) ≡ frames before = frames-one before entry ∙ ap (λ b. cond b (suc (frames before)) (frames before)) other in
      let none : shown_text script along.lost before entry ≡ [] = ap (λ b. text_of (cond b (shown_lines script along.lost before) [])) other in
      let P : List ℕ → ℕ → Type 0 = λ part frame. IsPart script text before entry part frame along in
      let P1 : List ℕ → Type 0 = λ part. P part (frames before) in
      let P2 : ℕ → Type 0 = P (own_text script before entry ++ shown_text script along.lost before entry) in
      subst P2 (sym same) (subst P1 (sym (ap (λ (t : List ℕ). own_text script before entry ++ t) none ∙ append-nil (own_text script before entry))) is)

  -- ---- the events

  pub events-pass : (along : ReplayProgress) (next many : ℕ) → IsShownTold script text before entry along
      → Passes text along.at (events_text script before entry) (Some next) → many ≡ length (posts script.setup (before ▹ entry))
      → IsAlong script text (before ▹ entry) (record along { at = next; posted = many })
  events-pass along next many is passes posted_are =
      let t = told script along.lost before in
      let own = own_text script before entry in
      let shown = shown_text script along.lost before entry in
      let events = events_text script before entry in
      let B : List ℕ → Type 0 = λ b. Begins text b next in
      let all : (t ++ (own ++ shown)) ++ events ≡ told script along.lost (before ▹ entry) =
      append_assoc t (own ++ shown) events ∙ ap (λ (u : List ℕ). t ++ u) (append_assoc own shown events) ∙ sym (told-more script along.lost before entry) in
      record {
        begins = subst B all (passes.1 (t ++ (own ++ shown)) is.begins);
        within = passes.0;
        led = is.led;
        losses = is.losses;
        posted = posted_are;
      }

  pub events-part : (along : ReplayProgress) → IsShownTold script text before entry along → Passes text along.at (events_text script before entry) None
      → NoRun script text
  events-part along is parts read run report =
      let goes = is.led read run report in
      let t = told script along.lost before in
      let own = own_text script before entry in
      let shown = shown_text script along.lost before entry in
      let rest = rest_text run goes.later in
      let all = run-parts along.lost (frames (before ▹ entry)) run report (frames-upto before entry) goes in
      parts (t ++ (own ++ shown)) rest is.begins
      (all ∙ ap (λ (u : List ℕ). t ++ (own ++ (u ++ (events_text script before entry ++ rest)))) (shown-known along.lost run goes)
      ∙ ap (λ (u : List ℕ). t ++ u) (sym (append_assoc own shown (events_text script before entry ++ rest)))
      ∙ sym (append_assoc t (own ++ shown) (events_text script before entry ++ rest)))

-- losses behind others
loss-behind : (history : List Entry) (xs ys : List LostDisplay) → is_loss history (xs ++ ys) ≡ true → is_loss history ys ≡ true
loss-behind history [] ys loss = loss
loss-behind history (x ∷ xs) ys loss = loss-behind history xs ys (loss-parts history x (xs ++ ys) loss).1

-- no display is lost at a frame that isn't finished
none-later : (history : List Entry) (n : ℕ) (lost : List LostDisplay) → frames history < n → is_loss history lost ≡ true → lost_at n lost ≡ []
none-later history n [] less loss = refl
none-later history n (x ∷ lost) less loss =
    let number_fits = nat_lt 0 x.frame.0 && nat_le x.frame.0 (frames history) in
    let first = and-left (number_fits && list_all (goes_before x) lost) (is_loss history lost) loss in
    let low : nat_le x.frame.0 (frames history) ≡ true =
    and-right (nat_lt 0 x.frame.0) (nat_le x.frame.0 (frames history)) (and-left number_fits (list_all (goes_before x) lost) first) in
    let other : (x.frame.0 == n) ≡ false = grind (arith, nat_tests) in
    rw other (none-later history n lost less (loss-parts history x lost loss).1)

small-behind : (xs ys : List LostDisplay) → list_all (λ (one : LostDisplay). is_display_number one.display) (xs ++ ys) ≡ true
    → list_all (λ (one : LostDisplay). is_display_number one.display) ys ≡ true
small-behind [] ys all = all
small-behind (x ∷ xs) ys all = small-behind xs ys (and-right (is_display_number x.display)
    (list_all (λ (one : LostDisplay). is_display_number one.display) (xs ++ ys))
    all)

at-small : (n : ℕ) (xs ys : List LostDisplay) → are_at n xs ≡ true → list_all (λ (one : LostDisplay). is_display_number one.display) (xs ++ ys) ≡ true
    → list_all (is_at n) xs ≡ true
at-small n [] ys at all = refl
at-small n (x ∷ xs) ys at all =
    let rest = λ (zs : List LostDisplay). list_all (λ (one : LostDisplay). is_display_number one.display) zs in
    and-true (and-true (and-left (x.frame.0 == n) (are_at n xs) at) (and-left (is_display_number x.display) (rest (xs ++ ys)) all))
    (at-small n xs ys (and-right (x.frame.0 == n) (are_at n xs) at) (and-right (is_display_number x.display) (rest (xs ++ ys)) all))

are-there : (n : ℕ) (xs : List LostDisplay) → list_all (is_at n) xs ≡ true → are_at n xs ≡ true
are-there n [] at = refl
are-there n (x ∷ xs) at =
    and-true (and-left (x.frame.0 == n) (is_small x) (and-left (is_at n x) (list_all (is_at n) xs) at))
    (are-there n xs (and-right (is_at n x) (list_all (is_at n) xs) at))

at-behind : (n m : ℕ) (xs : List LostDisplay) → n < m → are_at m xs ≡ true → are_behind n xs ≡ true
at-behind n m [] less at = refl
at-behind n m (x ∷ xs) less at =
    let here = and-left (x.frame.0 == m) (are_at m xs) at in
    let above : nat_lt n x.frame.0 ≡ true = grind (arith, nat_tests) in
    and-true above (at-behind n m xs less (and-right (x.frame.0 == m) (are_at m xs) at))

-- ---- a frame, and the displays that were lost at it

module _ (script : Script) (text : List ℕ) (before : List Entry) (entry : Entry) (finish : is_finish entry.kind ≡ true) (along : ReplayProgress)
    (is : IsLineTold script text before entry along) where
  counted : frames (before ▹ entry) ≡ suc (frames before)
  counted = frames-one before entry ∙ ap (λ b. cond b (suc (frames before)) (frames before)) finish

  abbrev fb : List ℕ
  fb = frame_text script (frame_at script.setup (suc (frames before)) (to_begin before))

  abbrev lost_text : List LostDisplay → List ℕ
  lost_text lost = text_of (map lost_line lost)

  shown-split : (lost : List LostDisplay) → text_of (shown_here script lost before entry) ≡ fb ++ lost_text (lost_at (suc (frames before)) lost)
  shown-split lost =
      ap (λ b. text_of (cond b (shown_lines script lost before) [])) finish
      ∙ text-append (frame_lines script (frame_at script.setup (suc (frames before)) (to_begin before))) (map lost_line (lost_at (suc (frames before)) lost))

  abbrev behind_events : (run : Run script) → List Entry → List ℕ
  behind_events run later = events_text script before entry ++ rest_text script text before entry run later

  -- what a run's report has behind the entry's own line
  split-run : (run : Run script) → text ≡ report_of script run → (goes : GoesOnTo (before ▹ entry) along.lost (frames before) run)
      → text ≡ (told script along.lost before ++ own_text script before entry)
      ++ (fb ++ (lost_text (lost_at (suc (frames before)) run.lost) ++ behind_events run goes.later))
  split-run run report goes =
      run-parts script text before entry along.lost (frames before) run report (omega arith) goes
      ∙ ap (λ (u : List ℕ). told script along.lost before ++ (own_text script before entry ++ (u ++ behind_events run goes.later))) (shown-split run.lost)
      ∙ ap (λ (u : List ℕ). told script along.lost before ++ (own_text script before entry ++ u))
      (append_assoc fb (lost_text (lost_at (suc (frames before)) run.lost)) (behind_events run goes.later))
      ∙ sym (append_assoc (told script along.lost before) (own_text script before entry)
      (fb ++ (lost_text (lost_at (suc (frames before)) run.lost) ++ behind_events run goes.later)))

  pub frame-parts : Passes text along.at fb None → NoRun script text
  frame-parts parts read run report =
      let goes = is.led read run report in
      parts (told script along.lost before ++ own_text script before entry) (lost_text (lost_at (suc (frames before)) run.lost) ++ behind_events run goes.later)
      is.begins (split-run run report goes)

  module _ (at next : ℕ) (new : List LostDisplay) (passes : Passes text along.at fb (Some at))
      (reads : ReadsLosses (suc (frames before)) along.lost new text at next)
    where
      more-there : are_at (suc (frames before)) reads.more ≡ true
      more-there = are-there (suc (frames before)) reads.more reads.are_at

      new-agrees : told script new before ≡ told script along.lost before
      new-agrees =
          ap (λ (ls : List LostDisplay). told script ls before) reads.is
          ∙ told-agrees script (along.lost ++ reads.more) along.lost before
          (prefix-agrees (frames before) along.lost reads.more (at-behind (frames before) (suc (frames before)) reads.more (omega arith) more-there))

      none-before : lost_at (suc (frames before)) along.lost ≡ []
      none-before = none-later before (suc (frames before)) along.lost (omega arith) (is.losses.0 before (omega arith))

      new-here : lost_at (suc (frames before)) new ≡ reads.more
      new-here =
          ap (lost_at (suc (frames before))) reads.is ∙ lost-append (suc (frames before)) along.lost reads.more
          ∙ ap (λ (ls : List LostDisplay). ls ++ lost_at (suc (frames before)) reads.more) none-before
          ∙ ap (lost_at (suc (frames before))) (sym (append-nil reads.more)) ∙ at-here (suc (frames before)) reads.more [] more-there refl

      begins-all : Begins text (((told script along.lost before ++ own_text script before entry) ++ fb) ++ lost_text reads.more) next
      begins-all = reads.passes.1 ((told script along.lost before ++ own_text script before entry) ++ fb)
          (passes.1 (told script along.lost before ++ own_text script before entry) is.begins)

      all-is : ((told script along.lost before ++ own_text script before entry) ++ fb) ++ lost_text reads.more ≡ told script new before
          ++ (own_text script before entry ++ shown_text script new before entry)
      all-is =
          append_assoc (told script along.lost before ++ own_text script before entry) fb (lost_text reads.more)
          ∙ append_assoc (told script along.lost before) (own_text script before entry) (fb ++ lost_text reads.more)
          ∙ (let told_same = sym new-agrees in let here_same = sym new-here in
          λ i. told_same i ++ (own_text script before entry ++ (fb ++ lost_text (here_same i))))
          ∙ ap (λ (u : List ℕ). told script new before ++ (own_text script before entry ++ u)) (sym (shown-split new))

      led : AllGoOn script text (before ▹ entry) new (frames (before ▹ entry))
      led read run report =
          let goes = is.led read run report in
          let kept : Kept (2 ^ 32) script = read-kept read.0 script read.1 in
          let L : List LostDisplay → Type 0 = λ ls. is_loss run.history ls ≡ true in
          let N : List LostDisplay → Type 0 = λ ls. list_all (λ (one : LostDisplay). is_display_number one.display) ls ≡ true in
          let M : List LostDisplay → Type 0 = λ ls. NoMoreLost (suc (frames before)) ls (drop next text) in
          let loss : is_loss run.history (along.lost ++ goes.more) ≡ true = subst L goes.losses run.is.loss in
          let numbered : list_all (λ (one : LostDisplay). is_display_number one.display) (along.lost ++ goes.more)
          ≡ true = subst N goes.losses run.is.numbered in
          let two = part run.history (frames before) goes.more goes.behind (loss-behind run.history along.lost goes.more loss) in
          let here_at : lost_at (suc (frames before)) run.lost ≡ two.here =
          ap (lost_at (suc (frames before))) (goes.losses ∙ ap (λ (ls : List LostDisplay). along.lost ++ ls) two.is)
          ∙ lost-append (suc (frames before)) along.lost (two.here ++ two.later)
          ∙ ap (λ (ls : List LostDisplay). ls ++ lost_at (suc (frames before)) (two.here ++ two.later)) none-before
          ∙ at-here (suc (frames before)) two.here two.later two.are_here two.are_later in
          let small : list_all (is_at (suc (frames before))) two.here ≡ true =
          at-small (suc (frames before)) two.here two.later two.are_here (subst N two.is (small-behind along.lost goes.more numbered)) in
          let first = told script along.lost before ++ own_text script before entry in
          let X = behind_events run goes.later in
          let x = drop next text in
          let texts : (first ++ fb) ++ (lost_text reads.more ++ x) ≡ (first ++ fb) ++ (lost_text two.here ++ X) =
          sym (append_assoc (first ++ fb) (lost_text reads.more) x) ∙ sym begins-all.is ∙ split-run run report goes
          ∙ sym (append_assoc first fb (lost_text (lost_at (suc (frames before)) run.lost) ++ X))
          ∙ ap (λ (ls : List LostDisplay). (first ++ fb) ++ (lost_text ls ++ X)) here_at in
          let told_same : lost_text reads.more ++ x ≡ lost_text two.here ++ X =
          append_cancel_left (first ++ fb) (lost_text reads.more ++ x) (lost_text two.here ++ X) texts in
          let sheets : sheet (map lost_line reads.more) x ≡ sheet (map lost_line two.here) X =
          sym (text-sheet (map lost_line reads.more) x) ∙ told_same ∙ text-sheet (map lost_line two.here) X in
          let S : List Entry → Type 0 = Stands script.setup script.count script.lines in
          let whole : Stands script.setup script.count script.lines (onto (before ▹ entry) goes.later) =
          subst S (goes.entries ∙ then-onto (before ▹ entry) goes.later)
          (stands script.setup script.count script.lines run.history run.is.legal run.is.interleaves) in
          let quiet = seen-no-loss script kept.named run.history (probe_lines script) run.seen (line_on (end_line (length run.history) (frames run.history)) [])
          (probe-lines-are script kept.spoken) (end-no-loss script kept.named
          (codes "ends" ∷ codes "entries" ∷ number (length run.history) ∷ codes "frames" ∷ number (frames run.history) ∷ []) []) in
          let Q : List ℕ → Type 0 = NoLoss in
          let none : NoLoss X = subst Q (sym (text-sheet (events_here script run.lost before entry) (rest_text script text before entry run goes.later)))
          (events-no-loss script kept.named (posted script.setup before entry) (rest_text script text before entry run goes.later)
          (subst Q (sym (text-sheet (tail (entry_lines script run.lost) (before ▹ entry) goes.later) (ending run)))
          (tail-no-loss script kept.named run.lost (before ▹ entry) goes.later (ending run) whole quiet))) in
          let same : reads.more ≡ two.here =
          same-losses (suc (frames before)) run.history along.lost reads.more two.here two.later x X reads.are_at small
          (subst L (ap (λ (ls : List LostDisplay). along.lost ++ ls) two.is) loss) (subst M reads.is reads.stops) none sheets in
          let B : ℕ → Type 0 = λ n. are_behind n two.later ≡ true in
          record {
            later = goes.later;
            entries = goes.entries;
            more = two.later;
            losses = goes.losses ∙ ap (λ (ls : List LostDisplay). along.lost ++ ls) two.is ∙ sym (append_assoc along.lost two.here two.later)
                ∙ ap (λ (ls : List LostDisplay). (along.lost ++ ls) ++ two.later) (sym same) ∙ ap (λ (ls : List LostDisplay). ls ++ two.later) (sym reads.is);
            behind = subst B (sym counted) two.are_later;
          }

      pub frame-passes : next ≤ length text → IsShownTold script text before entry (record along { lost = new; at = next })
      frame-passes within =
          let B : List ℕ → Type 0 = λ b. Begins text b next in
          let A : ℕ → Type 0 = λ n. AreLosses n new in
          record {
            begins = subst B all-is begins-all;
            within = within;
            led = led;
            losses = subst A (sym counted) (reads.losses (omega arith) (losses-later (frames before) (suc (frames before)) along.lost (omega arith) is.losses));
            posted = is.posted;
          }

-- an entry's own line has bytes
pub own-some : (script : Script) (before : List Entry) (entry : Entry) → 0 < length (own_text script before entry)
own-some script before entry = fed (own_line script [] before entry)
  where
    fed : (words : List Word) → 0 < length (text_of (words ∷ []))
    fed words = (let long : length (text_of (words ∷ [])) ≡ length (line_of words) + 1 = ap length (append-nil (line_of words ++ 10 ∷ []))
        ∙ length-append (line_of words) (10 ∷ []) in omega (arith, long))
