-- The report: what a run answers and shows, from the script, the history, the displays that were lost, and the frames
-- that probes saw.
use Rattle.std.specs.Prelude.{ℕ, suc, ℤ, ◌==◌, Bool, true, false, cond, ◌&&◌, ◌||◌, not, nat_le, nat_lt, List, [], ◌∷◌}
use Rattle.std.specs.Prelude.{◌++◌, length, map, filter, codes}
use Rattle.std.specs.List.{flat_map, list_all, range_with_len, zip}
use Rattle.flat_base.specs.declared.ids.Actor.{Actor}
use Rattle.flat_base.specs.declared.ids.Actor.TheVariants.{Probe}
use Rattle.flat_scene.specs.declared.frames.FrameOut.{FrameOut}
use Rattle.flat_scene.specs.declared.frames.Hit.{Hit}
use Rattle.flat_scene.specs.declared.frames.LostDisplay.{LostDisplay}
use Rattle.flat_scene.specs.declared.journal.Entry.{Entry}
use Rattle.flat_scene.specs.declared.script.LineBody.{LineBody}
use Rattle.flat_scene.specs.declared.script.LineBody.TheVariants as body
use Rattle.flat_scene.specs.declared.script.ProbeLine.TheVariants as probe
use Rattle.flat_scene.specs.declared.script.ScriptLine.{ScriptLine}
use Rattle.flat_scene.specs.declared.setup.Setup.{Setup}
use Rattle.flat_scene.specs.Frames.{setup_at}
use Rattle.flat_scene.specs.History.{◌▹◌, is_finish}
use Rattle.flat_rules.specs.Ends.{to_begin, to_finished, has_view}
use Rattle.flat_rules.specs.Legal.{frames}
use Rattle.flat_rules.specs.Posts.{posted}
use Rattle.flat_rules.specs.Shown.{shown_states}
use Rattle.flat_places.specs.declared.script.Script.{Script}
use Rattle.flat_topology.specs.Draw.{draw_list}
use Rattle.flat_topology.specs.Hits.{hit_list}
use Rattle.flat_topology.specs.Views.{view_tree}
use Rattle.flat_lines.specs.Ends.{end_line, title_line}
use Rattle.flat_lines.specs.EntryLines.{event_line, entry_line, point_words}
use Rattle.flat_lines.specs.FrameLines.{frame_lines, lost_at, lost_line}
use Rattle.flat_page.specs.Words.{number, text_of, actor_name}
use Rattle.flat_places.specs.Forms.{Word}

-- ---- frames

-- the frame of a number, as it is composed of the states and the display's pixel ratio at its begin, with which the
-- history ends
abbrev pub frame_at : Setup → ℕ → List Entry → FrameOut
frame_at setup n begun = record {
  frame = record { 0 = n };
  items = draw_list (setup_at setup begun) (shown_states setup begun);
  tree = view_tree (setup_at setup begun) (shown_states setup begun) (λ s. has_view setup begun (record { 0 = s }));
}

-- the history up to and with the begin of the finished frame of a number
abbrev pub begin_of : ℕ → List Entry → List Entry
begin_of n [] = []
begin_of n (before ▹ entry) =
    cond (is_finish entry.kind && (suc (frames before) == n)) (to_begin before) (begin_of n before)

-- all finished frames, in order
abbrev pub finished : Setup → List Entry → List FrameOut
finished setup [] = []
finished setup (before ▹ entry) = finished setup before
    ++ cond (is_finish entry.kind) (frame_at setup (suc (frames before)) (to_begin before) ∷ []) []

-- who is hit at a point, by the states and the pixel ratio at a begin
abbrev pub hits_at : Setup → List Entry → ℤ → ℤ → List Hit
hits_at setup begun = hit_list (setup_at setup begun) (shown_states setup begun)

-- ---- entries

-- what stands between a done line and its events: the frame, and the displays lost at it
abbrev pub shown_lines : Script → List LostDisplay → List Entry → List (List Word)
shown_lines script lost before =
    frame_lines script (frame_at script.setup (suc (frames before)) (to_begin before))
    ++ map lost_line (lost_at (suc (frames before)) lost)

-- the lines of an entry: its own, its frame's, and those of its events
abbrev pub entry_lines : Script → List LostDisplay → List Entry → Entry → List (List Word)
entry_lines script lost before entry =
    entry_line script (frames before) (hits_at script.setup (to_finished before)) entry
    ∷ cond (is_finish entry.kind) (shown_lines script lost before) []
    ++ map (λ sent. event_line script sent.to sent.event) (posted script.setup before entry)

abbrev pub history_lines : Script → List LostDisplay → List Entry → List (List Word)
history_lines script lost [] = []
history_lines script lost (before ▹ entry) = history_lines script lost before ++ entry_lines script lost before entry

-- ---- probes

abbrev pub is_probe : ℕ → Actor → Bool
is_probe n (Probe m) = m == n
is_probe n _ = false

-- the lines of probes: by probe, each probe's in their order
abbrev pub probe_lines_of : ℕ → List ScriptLine → List ScriptLine
probe_lines_of n = filter (λ line. is_probe n line.actor)

abbrev pub probe_lines : Script → List ScriptLine
probe_lines script = flat_map (λ n. probe_lines_of n script.lines) (range_with_len 0 script.setup.probes)

-- what is said of a probe's line, by the frame that it saw
abbrev pub seen_words : Script → List Entry → ℕ → LineBody → List Word
seen_words script history frame (body.Probe (probe.Hit x y)) =
    point_words script x y frame (hits_at script.setup (begin_of frame history) x y)
seen_words script history frame (body.Probe (probe.Await n)) = codes "await" ∷ codes "frame" ∷ number frame ∷ []
seen_words script history frame _ = []

abbrev pub seen_line : Script → List Entry → ScriptLine × ℕ → List Word
seen_line script history (line, frame) = actor_name script line.actor ∷ number line.number
    ∷ seen_words script history frame line.body

-- ---- the whole

-- the lines of the report, where these displays were lost and the probes' lines saw these frames
abbrev pub report_lines : Script → List Entry → List LostDisplay → List ℕ → List (List Word)
report_lines script history lost seen =
    title_line script.version
    ∷ history_lines script lost history ++ map (seen_line script history) (zip (probe_lines script) seen)
    ++ end_line (length history) (frames history) ∷ []

-- the report
abbrev pub report : Script → List Entry → List LostDisplay → List ℕ → List ℕ
report script history lost seen = text_of (report_lines script history lost seen)

-- ---- what may be lost and seen

-- one display is lost before another: at an earlier frame, or at the same frame with a lesser number
abbrev pub is_lost_before : LostDisplay → LostDisplay → Bool
is_lost_before a b = nat_lt a.frame.0 b.frame.0 || (a.frame.0 == b.frame.0 && nat_lt a.display b.display)

-- displays are lost at finished frames, in order, and each once
abbrev pub is_loss : List Entry → List LostDisplay → Bool
is_loss history [] = true
is_loss history (a ∷ later) =
    nat_lt 0 a.frame.0 && nat_le a.frame.0 (frames history)
    && list_all (λ b. is_lost_before a b && not (b.display == a.display)) later && is_loss history later

-- whether two lines are of one probe
abbrev pub same_probe : Actor → Actor → Bool
same_probe (Probe m) (Probe n) = m == n
same_probe _ _ = false

-- the frames that one probe's lines saw never fall
abbrev pub never_falls : List (ScriptLine × ℕ) → Bool
never_falls [] = true
never_falls ((line, frame) ∷ later) =
    list_all (λ next. not (same_probe line.actor next.0.actor) || nat_le frame next.1) later && never_falls later

-- each probe's line saw a finished frame or none
abbrev pub is_seeing : Script → List Entry → List ℕ → Bool
is_seeing script history seen =
    (length seen == length (probe_lines script)) && list_all (λ frame. nat_le frame (frames history)) seen
    && never_falls (zip (probe_lines script) seen)
