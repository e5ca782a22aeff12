-- What is handed in is written as the report, where it is that of the history.
use Rattle.std.proofs.Common.{◌≡◌, ℕ, suc, ◌+◌, cond, Bool, true, false, ◌==◌, List, [], ◌∷◌, ◌++◌, filter, take, take_while, drop, length}
use Rattle.std.proofs.Common.{reverse, refl, sym, ap, ◌∙◌, append-nil, append_assoc, add-one, map}
use Rattle.std.specs.List.{zip}
use Rattle.std.proofs.Math.Seq.{take-append_seam, drop-append_seam}
use Rattle.flat_scene.specs.declared.frames.LostDisplay.{LostDisplay}
use Rattle.flat_scene.specs.declared.journal.Entry.{Entry}
use Rattle.flat_scene.specs.declared.journal.PostedEvent.{PostedEvent}
use Rattle.flat_scene.specs.declared.setup.Setup.{Setup}
use Rattle.flat_scene.specs.History.{◌▹◌, is_finish}
use Rattle.flat_scene.specs.Journals.{history_of}
use Rattle.flat_rules.specs.Legal as legal
use Rattle.flat_rules.specs.AllPosts.{posts}
use Rattle.flat_places.specs.declared.script.Script.{Script}
use Rattle.flat_report.specs.declared.probes.ProbeAnswer.{ProbeAnswer}
use Rattle.flat_report.specs.declared.report.HitAnswer.{HitAnswer}
use Rattle.flat_report.specs.FrameTexts.{frame_text}
use Rattle.flat_report.specs.Handed.{answers_of, answers_text, entries_text, ending_text, after_entries, after_entry, entry_text, first_posts, handed_text}
use Rattle.flat_report.specs.Handed.{rest_text, Rest}
use Rattle.flat_lines.specs.Ends.{end_line, title_line}
use Rattle.flat_report.specs.Laws.{HandedIsReport}
use Rattle.flat_report.specs.Probes.{frames_seen}
use Rattle.flat_report.specs.Report.{finished, history_lines, entry_lines, seen_line, probe_lines}
use Rattle.flat_page.specs.Words.{text_of}
use Rattle.flat_places.specs.Forms.{Word}
use Rattle.flat_report.proofs.Answered.{probes-text}
use Rattle.flat_report.proofs.lemmas.Tails.{onto, tail, post_step, frame_step, answer_step, onto-reverse, grows, next_posts, next_text, later_texts}
use Rattle.flat_report.proofs.lemmas.Tails.{later_answers, finished_one, text-append}

-- the posts of the next entry, and those after them
split_posts : (setup : Setup) (before : List Entry) (entry : Entry) (later : List Entry) (ps : List PostedEvent) (count : ℕ)
    → ps ≡ tail (post_step setup) before (entry ∷ later)
    → count ≡ first_posts (length before) ps → (take count ps ≡ post_step setup before entry) × (drop count ps ≡ tail (post_step setup) (before ▹ entry) later)
split_posts setup before entry later ps count are is =
    let many : count ≡ length (post_step setup before entry) =
    is ∙ ap (λ qs. length (take_while (λ post. post.entry == length before) qs)) are ∙ ap length (next_posts setup before entry later) in
    rw (are, many) (
      take-append_seam (post_step setup before entry) (tail (post_step setup) (before ▹ entry) later),
      drop-append_seam (post_step setup before entry) (tail (post_step setup) (before ▹ entry) later),
    )

counted : (b : Bool) (xs : List Entry) (entry : Entry) → cond b (suc (length xs)) (length xs) ≡ length (cond b (entry ∷ xs) xs)
counted true xs entry = refl
counted false xs entry = refl

finished_more : (before : List Entry) (entry : Entry) → legal.frames before + cond (is_finish entry.kind) 1 0 ≡ legal.frames (before ▹ entry)
finished_more before entry = finished_one (is_finish entry.kind) (legal.frames before)
    ∙ counted (is_finish entry.kind) (filter (λ one. is_finish one.kind) before) entry

module _ (script : Script) (lost : List LostDisplay) (probes : List (List ProbeAnswer)) where
  -- what is left before an entry, where these are the places, frames, texts, answers and posts left
  abbrev left : ℕ → ℕ → List (List ℕ) → List HitAnswer → List PostedEvent → Rest
  left place count ts hs ps = record { place = place; finished = count; texts = ts; answers = hs; posts = ps }

  same_rest : (later : List Entry) {place place' count count' : ℕ} {ts ts' : List (List ℕ)} {hs hs' : List HitAnswer} {ps ps' : List PostedEvent}
      → place ≡ place'
      → count ≡ count' → ts ≡ ts' → hs ≡ hs' → ps ≡ ps'
      → rest_text script lost probes (left place count ts hs ps) later ≡ rest_text script lost probes (left place' count' ts' hs' ps') later
  same_rest later a b c d e = λ i. rest_text script lost probes (left (a i) (b i) (c i) (d i) (e i)) later

  -- the text of an entry and of later ones
  one_and_later : (rest : Rest) (entry : Entry) (later : List Entry)
      → rest_text script lost probes rest (entry ∷ later) ≡ entry_text script lost rest entry ++ rest_text script lost probes (after_entry rest entry) later
  one_and_later rest entry later = append_assoc (entry_text script lost rest entry) (entries_text script lost (after_entry rest entry) later)
      (ending_text script probes (after_entries (after_entry rest entry) later))

  -- the text of later entries by what they add is that of their lines, the probes' lines and the last line
  handed_tail : (before later : List Entry)
      → rest_text script lost probes (left (length before) (legal.frames before) (map (frame_text script) (tail (frame_step script.setup) before later))
      (tail (answer_step script.setup) before later) (tail (post_step script.setup) before later)) later
      ≡ text_of (tail (entry_lines script lost) before later)
      ++ (answers_text script probes ++ text_of (end_line (length (onto before later)) (legal.frames (onto before later)) ∷ []))
  handed_tail before [] = refl
  handed_tail before (entry ∷ later) =
      let ts : List (List ℕ) = map (frame_text script) (tail (frame_step script.setup) before (entry ∷ later)) in
      let hs : List HitAnswer = tail (answer_step script.setup) before (entry ∷ later) in
      let ps : List PostedEvent = tail (post_step script.setup) before (entry ∷ later) in
      let many : ℕ = first_posts (length before) ps in
      let split = split_posts script.setup before entry later ps many refl refl in
      let lines : List (List Word) = tail (entry_lines script lost) (before ▹ entry) later in
      let end : List ℕ = answers_text script probes ++ text_of
      (end_line (length (onto (before ▹ entry) later)) (legal.frames (onto (before ▹ entry) later)) ∷ []) in
      let behind : List ℕ = rest_text script lost probes (after_entry (left (length before) (legal.frames before) ts hs ps) entry) later in
      one_and_later (left (length before) (legal.frames before) ts hs ps) entry later
      ∙ ap (λ qs. handed_text script lost (legal.frames before) ts hs qs entry ++ behind) split.0
      ∙ ap (λ t. t ++ behind)
      (next_text script lost before entry (tail (frame_step script.setup) (before ▹ entry) later) (tail (answer_step script.setup) (before ▹ entry) later))
      ∙ ap (λ t. text_of (entry_lines script lost before entry) ++ t)
      (same_rest later (add-one (length before)) (finished_more before entry) (later_texts script before entry later)
      (later_answers script.setup before entry later) split.1 ∙ handed_tail (before ▹ entry) later)
      ∙ sym (append_assoc (text_of (entry_lines script lost before entry)) (text_of lines) end)
      ∙ ap (λ t. t ++ end) (sym (text-append (entry_lines script lost before entry) lines))

pub handed-is-report : HandedIsReport
handed-is-report script all ps ts lost hs probes answered ask ps_are ts_are hs_are =
    let history : List Entry = history_of all in
    let is : history ≡ onto [] all = sym (onto-reverse [] all ∙ append-nil (reverse all)) in
    let ps_tail : ps ≡ tail (post_step script.setup) [] all =
    ps_are ∙ ap (posts script.setup) is ∙ grows (posts script.setup) (post_step script.setup) (λ before entry. refl) [] all in
    let ts_tail : ts ≡ map (frame_text script) (tail (frame_step script.setup) [] all) =
    ts_are ∙ ap (λ (h : List Entry). map (frame_text script) (finished script.setup h)) is
    ∙ ap (map (frame_text script)) (grows (finished script.setup) (frame_step script.setup) (λ before entry. refl) [] all) in
    let hs_tail : hs ≡ tail (answer_step script.setup) [] all =
    hs_are ∙ ap (answers_of script.setup) is ∙ grows (answers_of script.setup) (answer_step script.setup) (λ before entry. refl) [] all in
    let lines : tail (entry_lines script lost) [] all ≡ history_lines script lost history =
    sym (ap (history_lines script lost) is ∙ grows (history_lines script lost) (entry_lines script lost) (λ before entry. refl) [] all) in
    let end : List Entry → List (List Word) = λ h. end_line (length h) (legal.frames h) ∷ [] in
    let seen : List (List Word) = map (seen_line script history) (zip (probe_lines script) (frames_seen probes)) in
    let title : List (List Word) = title_line script.version ∷ [] in
    let body : List (List Word) = history_lines script lost history in
    ap (λ t. text_of title ++ t) (same_rest script lost probes all refl refl ts_tail hs_tail ps_tail ∙ handed_tail script lost probes [] all)
    ∙ ap (λ ls. text_of title ++ (text_of ls ++ (answers_text script probes ++ text_of (end (onto [] all))))) lines
    ∙ ap (λ h. text_of title ++ (text_of body ++ (answers_text script probes ++ text_of (end h)))) (sym is)
    ∙ ap (λ t. text_of title ++ (text_of body ++ (t ++ text_of (end history)))) (sym (probes-text script history probes answered ask))
    ∙ whole title body seen (end history)
  where
    -- the text of four lists of lines
    whole : (a b c d : List (List Word)) → text_of a ++ (text_of b ++ (text_of c ++ text_of d)) ≡ text_of ((a ++ b) ++ c ++ d)
    whole a b c d =
        ap (λ t. text_of a ++ (text_of b ++ t)) (sym (text-append c d)) ∙ sym (append_assoc (text_of a) (text_of b) (text_of (c ++ d)))
        ∙ ap (λ t. t ++ text_of (c ++ d)) (sym (text-append a b)) ∙ sym (text-append (a ++ b) (c ++ d)) ∙ ap text_of (sym (append_assoc (a ++ b) c d))
