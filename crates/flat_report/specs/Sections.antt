-- A report in sections, which are written apart from one another: entries one behind another, and what is left of what
-- is handed in before the first of them.
use Rattle.std.specs.Prelude.{◌+◌, ◌<◌, ◌≤◌, ◌^◌, ℕ, Bool, true, false, List, [], ◌∷◌, ◌++◌, Result, Ok, Err}
use Rattle.std.specs.Prelude.{length, map, slice_index_or}
use Rattle.std.specs.List.{concat, flat_map}
use Rattle.flat_base.specs.declared.errors.NoMemory.{NoMemory}
use Rattle.flat_scene.specs.declared.journal.Entry.{Entry}
use Rattle.flat_page.specs.Words.{text_of}
use Rattle.flat_places.specs.declared.script.Script.{Script}
use Rattle.flat_lines.specs.Ends.{title_line}
use Rattle.flat_report.specs.declared.report_position.ReportPosition.{ReportPosition}
use Rattle.flat_report.specs.declared.probes.ProbeAnswer.{ProbeAnswer}
use Rattle.flat_report.specs.declared.sections.Section.{Section}
use Rattle.flat_report.specs.Handed.{Rest, after_entries, ending_text, entries_text, rest_text}

-- what is left where a report stands
abbrev pub rest_of : ReportPosition → Rest
rest_of cursor = record {
  place = cursor.place;
  finished = cursor.finished;
  texts = cursor.texts.now;
  answers = cursor.answers.now;
  posts = cursor.posts.now;
}

-- The places of some entries, before which a report stands, can be counted, and the frames finished by then.
pub record Fits (cursor : ReportPosition) (entries : List Entry) : Type 0 where
  pub few : cursor.finished ≤ cursor.place
  pub small : cursor.place + length entries < 2 ^ 63

-- the same of the entries of all sections
abbrev pub AllFit : List Section → Type 0
AllFit sections = (i : ℕ) (d : Section) → i < length sections
    → Fits (slice_index_or sections i d).start (slice_index_or sections i d).entries.now

-- what is left after a section
abbrev pub end_of : Section → Rest
end_of section = after_entries (rest_of section.start) section.entries.now

-- the text of a section
abbrev pub section_text : Script → Section → List ℕ
section_text script section = entries_text script section.lost.now (rest_of section.start) section.entries.now

-- the text of sections, one behind the other
abbrev pub sections_text : Script → List Section → List ℕ
sections_text script sections = flat_map (section_text script) sections

-- the report whose entries are those of one section, with what probes were answered
abbrev pub whole_text : Script → List (List ProbeAnswer) → Section → List ℕ
whole_text script probes whole = text_of (title_line script.version ∷ [])
    ++ rest_text script whole.lost.now probes (rest_of whole.start) whole.entries.now

-- what was written of a section, where memory was there for it
abbrev pub is_written : Result (List ℕ) NoMemory → Bool
is_written (Ok text) = true
is_written (Err e) = false

abbrev pub written_text : Result (List ℕ) NoMemory → List ℕ
written_text (Ok text) = text
written_text (Err e) = []

-- a report of which all sections were written, behind which it stands here
abbrev pub joined_text : Script → List (List ProbeAnswer) → List (Result (List ℕ) NoMemory) → ReportPosition → List ℕ
joined_text script probes texts end = text_of (title_line script.version ∷ [])
    ++ (concat (map written_text texts) ++ ending_text script probes (rest_of end))
