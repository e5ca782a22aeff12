-- What is handed in beside the history: the answers to points asked, the events as they are posted, and the answers
-- to probes.
use Rattle.std.specs.Prelude.{ℕ, ◌+◌, ◌==◌, ℤ, Bool, true, false, codes, cond, drop, length, map, take, take_while}
use Rattle.std.specs.Prelude.{List, [], ◌∷◌, ◌++◌}
use Rattle.std.specs.List.{flat_map}
use Rattle.flat_scene.specs.declared.frames.Hit.{Hit}
use Rattle.flat_scene.specs.declared.frames.LostDisplay.{LostDisplay}
use Rattle.flat_scene.specs.declared.journal.Entry.{Entry}
use Rattle.flat_scene.specs.declared.journal.EntryKind.{EntryKind}
use Rattle.flat_scene.specs.declared.journal.EntryKind.TheVariants as kind
use Rattle.flat_scene.specs.declared.journal.PostedEvent.{PostedEvent}
use Rattle.flat_scene.specs.declared.script.ProbeLine.{ProbeLine}
use Rattle.flat_scene.specs.declared.script.ProbeLine.TheVariants as probe
use Rattle.flat_scene.specs.declared.setup.Setup.{Setup}
use Rattle.flat_scene.specs.History.{◌▹◌, is_finish}
use Rattle.flat_rules.specs.Ends.{to_finished}
use Rattle.flat_rules.specs.Legal.{frames}
use Rattle.flat_places.specs.declared.script.Script.{Script}
use Rattle.flat_report.specs.declared.probes.ProbeAnswer.{ProbeAnswer}
use Rattle.flat_report.specs.declared.report.HitAnswer.{HitAnswer}
use Rattle.flat_lines.specs.EntryLines.{entry_line, point_words}
use Rattle.flat_lines.specs.PostLines.{post_line}
use Rattle.flat_lines.specs.Ends.{end_line, title_line}
use Rattle.flat_lines.specs.FrameLines.{lost_at, lost_line}
use Rattle.flat_report.specs.Probes.{frame_seen}
use Rattle.flat_report.specs.Report.{hits_at}
use Rattle.flat_page.specs.Words.{number, text_of, actor_name}
use Rattle.flat_places.specs.Forms.{Word}

-- the answer to an entry that asks for a point, where the last finished frame has this number and these hits
abbrev pub answer_to : Entry → ℕ → (ℤ → ℤ → List Hit) → EntryKind → List HitAnswer
answer_to entry n hits (kind.Hit x y) = (record
    { actor = entry.actor; line = entry.line; frame = record { 0 = n }; hits = hits x y }) ∷ []
answer_to entry n hits _ = []

-- the answers to all points that the compositor asked for, in order
abbrev pub answers_of : Setup → List Entry → List HitAnswer
answers_of setup [] = []
answers_of setup (before ▹ entry) = answers_of setup before
    ++ answer_to entry (frames before) (hits_at setup (to_finished before)) entry.kind

-- the hits of the first answer
abbrev pub first_hits : List HitAnswer → List Hit
first_hits [] = []
first_hits (answer ∷ later) = answer.hits

-- the first of some texts
abbrev pub first_text : List (List ℕ) → List ℕ
first_text [] = []
first_text (text ∷ later) = text

-- what stands between a done line and its events:
-- the text of the frame, which is the first of those left, and the lines of the displays lost at it
abbrev pub shown_text : List LostDisplay → ℕ → List (List ℕ) → List ℕ
shown_text lost number texts = first_text texts ++ text_of (map lost_line (lost_at number lost))

-- the texts of frames after an entry of this kind, and the answers
abbrev pub texts_after : EntryKind → List (List ℕ) → List (List ℕ)
texts_after kind texts = cond (is_finish kind) (drop 1 texts) texts

abbrev pub is_hit : EntryKind → Bool
is_hit (kind.Hit x y) = true
is_hit _ = false

abbrev pub answers_after : EntryKind → List HitAnswer → List HitAnswer
answers_after kind answers = cond (is_hit kind) (drop 1 answers) answers

-- the text of an entry, by what is handed in from it on: the texts of frames and the answers, and its own events
abbrev pub handed_text : Script → List LostDisplay → ℕ → List (List ℕ) → List HitAnswer → List PostedEvent → Entry
    → List ℕ
handed_text script lost finished texts answers posts entry =
    text_of (entry_line script finished (λ x y. first_hits answers) entry ∷ [])
    ++ cond (is_finish entry.kind) (shown_text lost (finished + 1) texts) []
    ++ text_of (map (post_line script) posts)

-- how many of some posts, from the first, are of the entry at a place
abbrev pub first_posts : ℕ → List PostedEvent → ℕ
first_posts place posts = length (take_while (λ post. post.entry == place) posts)

-- what is said of an answer behind the number of its line, by what the line asks
abbrev pub probe_words : Script → ProbeLine → ℕ → List Hit → List Word
probe_words script (probe.Hit x y) frame hits = point_words script x y frame hits
probe_words script (probe.Await n) frame hits = codes "await" ∷ codes "frame" ∷ number frame ∷ []

-- the line of an answer
abbrev pub answer_line : Script → ProbeAnswer → List Word
answer_line script answer = actor_name script answer.actor ∷ number answer.line
    ∷ probe_words script answer.asked (frame_seen answer) answer.hits

-- the text of all probes' answers, probe by probe
abbrev pub answers_text : Script → List (List ProbeAnswer) → List ℕ
answers_text script probes = flat_map (λ one. text_of (map (answer_line script) one)) probes

-- what is left before an entry: its place, how many frames were finished before it, and what is handed in from it on:
-- the texts of frames, of which a `done` takes one, the answers, of which a point takes one, and the posts, from whose
-- front each entry takes its own
pub record Rest : Type 0 where
  pub place : ℕ
  pub finished : ℕ
  pub texts : List (List ℕ)
  pub answers : List HitAnswer
  pub posts : List PostedEvent

-- what is left after an entry
abbrev pub after_entry : Rest → Entry → Rest
after_entry rest entry = record {
  place = rest.place + 1;
  finished = rest.finished + cond (is_finish entry.kind) 1 0;
  texts = texts_after entry.kind rest.texts;
  answers = answers_after entry.kind rest.answers;
  posts = drop (first_posts rest.place rest.posts) rest.posts;
}

-- what is left after some entries
abbrev pub after_entries : Rest → List Entry → Rest
after_entries rest [] = rest
after_entries rest (entry ∷ later) = after_entries (after_entry rest entry) later

-- the text of an entry, by what is left before it
abbrev pub entry_text : Script → List LostDisplay → Rest → Entry → List ℕ
entry_text script lost rest entry = handed_text script lost rest.finished rest.texts rest.answers
    (take (first_posts rest.place rest.posts) rest.posts) entry

-- the text of some entries, by what is left before the first of them
abbrev pub entries_text : Script → List LostDisplay → Rest → List Entry → List ℕ
entries_text script lost rest [] = []
entries_text script lost rest (entry ∷ later) =
    entry_text script lost rest entry ++ entries_text script lost (after_entry rest entry) later

-- what ends a report: the probes' answers, and the last line
abbrev pub ending_text : Script → List (List ProbeAnswer) → Rest → List ℕ
ending_text script probes rest = answers_text script probes ++ text_of (end_line rest.place rest.finished ∷ [])

-- the text of all entries that are left, and what ends the report
abbrev pub rest_text : Script → List LostDisplay → List (List ProbeAnswer) → Rest → List Entry → List ℕ
rest_text script lost probes rest entries =
    entries_text script lost rest entries ++ ending_text script probes (after_entries rest entries)

-- what is left before the first entry: all that is handed in
abbrev pub all_left : List (List ℕ) → List HitAnswer → List PostedEvent → Rest
all_left texts answers posts = record { place = 0; finished = 0; texts = texts; answers = answers; posts = posts }

-- the text of all that is handed in: the entries, the oldest first, their posts, the texts of frames, the displays
-- that were lost, the answers to points, and those to the probes
abbrev pub handed_report : Script → List Entry → List PostedEvent → List (List ℕ) → List LostDisplay → List HitAnswer
    → List (List ProbeAnswer) → List ℕ
handed_report script entries posts texts lost answers probes =
    text_of (title_line script.version ∷ []) ++ rest_text script lost probes (all_left texts answers posts) entries
