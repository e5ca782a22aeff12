-- The next frame, where what is shown and the pixel ratio are those of the last one.
use Rattle.std.proofs.Common.{◌≡◌, ℕ, suc, ◌+◌, ◌<◌, Bool, true, false, List, [], ◌∷◌, ◌++◌, Some, Result, Ok, Err, OnOk, sym, ap, ◌∙◌, subst, arith}
use Rattle.std.proofs.Common.{append-nil, refl}
use Rattle.flat_base.specs.Last.{last_item}
use Rattle.flat_base.specs.declared.ids.FrameNo.{FrameNo}
use Rattle.flat_scene.specs.declared.frames.FrameOut.{FrameOut}
use Rattle.flat_scene.specs.declared.frames.ViewTree.{ViewTree}
use Rattle.flat_scene.specs.declared.journal.Entry.{Entry}
use Rattle.flat_scene.specs.declared.setup.Setup.{Setup}
use Rattle.flat_scene.specs.Frames.{setup_at}
use Rattle.flat_scene.specs.History.{◌▹◌, is_finish}
use Rattle.flat_scene.specs.Setups.{at_ratio}
use Rattle.flat_scene.specs.Heads.{is_setup}
use Rattle.flat_rules.specs.Ends.{to_begin, to_finished}
use Rattle.flat_rules.specs.Legal.{frames}
use Rattle.flat_rules.specs.Shown.{shown_states}
use Rattle.flat_page.proofs.lemmas.LastItems.{last-more}
use Rattle.flat_places.specs.declared.script.Script.{Script}
use Rattle.flat_topology.specs.Draw.{draw_list}
use Rattle.flat_topology.specs.Views.{view_nodes}
use Rattle.flat_tree.specs.Laws.{ViewsGiveTrees}
use Rattle.flat_tree.specs.Trees.{tree_of}
use Rattle.flat_report.specs.FrameTexts.{unchanged}
use Rattle.flat_report.specs.Report.{finished, frame_at}
use Rattle.flat_play.specs.declared.frame.LastFrame.{LastFrame}
use Rattle.flat_play.specs.declared.kept_frames.KeptFrames.{KeptFrames}
use Rattle.flat_play.specs.declared.kept_frames.KeptFrames.TheVariants as kept
use Rattle.flat_play.specs.Keeping.{Keeps, KeepsUnchanged, KeepsMore, keeping_of}
use Rattle.flat_core.specs.declared.start.FrameStart.{FrameStart}
use Rattle.flat_core.specs.Starts.{IsStart}
use Rattle.flat_play.specs.Last.{EndsFrames}
use Rattle.flat_play.proofs.Composing.{composed}
use Rattle.flat_play.proofs.lemmas.FramesShown.{scaled}
use Rattle.flat_play.proofs.lemmas.Seen.{finished_by, frames_more}

-- the last finished frame, where there is one
pub last-finished : (setup : Setup) (history : List Entry) → 0 < frames history
    → last_item (finished setup history) ≡ Some (frame_at setup (frames history) (to_finished history))
last-finished setup [] some = absurd (omega (arith, some))
last-finished setup (before ▹ entry) some = by (last-finished setup before) (is_finish entry.kind) refl
  where
    by : (0 < frames before → last_item (finished setup before) ≡ Some (frame_at setup (frames before) (to_finished before))) → (b : Bool)
        → is_finish entry.kind ≡ b
        → last_item (finished setup (before ▹ entry)) ≡ Some (frame_at setup (frames (before ▹ entry)) (to_finished (before ▹ entry)))
    by earlier true is =
        let many : frames (before ▹ entry) ≡ suc (frames before) = (let more = frames_more before entry true is in omega (arith, more)) in
        let ended : to_finished (before ▹ entry) ≡ to_begin before = rw is refl in
        ap last_item (finished_by setup before entry true is)
        ∙ last-more (finished setup before) (frame_at setup (suc (frames before)) (to_begin before))
        ∙ sym (ap (λ n. Some (frame_at setup n (to_finished (before ▹ entry)))) many
        ∙ ap (λ (h : List Entry). Some (frame_at setup (suc (frames before)) h)) ended)
    by earlier false is =
        let many : frames (before ▹ entry) ≡ frames before = (let more = frames_more before entry false is in omega (arith, more)) in
        let ended : to_finished (before ▹ entry) ≡ to_finished before = rw is refl in
        ap last_item (finished_by setup before entry false is ∙ append-nil (finished setup before))
        ∙ earlier (omega (arith, some, many))
        ∙ sym (ap (λ n. Some (frame_at setup n (to_finished (before ▹ entry)))) many ∙ ap (λ (h : List Entry). Some (frame_at setup (frames before) h)) ended)

-- what is kept tells the last of its frames
last-kept : (script : Script) (kept : KeptFrames) (xs ys : List FrameOut) → Keeps script kept xs → Keeps script kept ys → last_item xs ≡ last_item ys
last-kept script (kept.Texts texts) xs ys one other = sym one.last ∙ other.last
last-kept script (kept.Damages damages) xs ys one other = sym one.last ∙ other.last
last-kept script (kept.Trees trees) xs ys one other = sym one.last ∙ other.last
last-kept script (kept.Last last) xs ys one other = sym one ∙ other

-- what holds in any case holds where a call was done
pub in-any-case : {A E : Type 0} {P : Type 0} (result : Result A E) → P → OnOk result P
in-any-case (Ok value) holds = holds
in-any-case (Err error) holds = tt

-- what was kept as one kind is kept as it, of one frame more
pub more-unchanged : {A E : Type 0} (script : Script) (number : FrameNo) (tree : ViewTree) (old was new : KeptFrames) (result : Result A E) → old ≡ was
    → keeping_of new ≡ keeping_of was
    → ((frames : List FrameOut) (last : FrameOut) → Keeps script was frames → last_item frames ≡ Some last
    → OnOk result (Keeps script new (frames ++ unchanged number tree last ∷ []))) → OnOk result (KeepsUnchanged script number tree old new)
more-unchanged script number tree old was new (Ok value) is same more = record {
  same = same ∙ ap keeping_of (sym is);
  more = λ frames last keeps item. more frames last (subst (λ (k : KeptFrames). Keeps script k frames) is keeps) item;
}
more-unchanged script number tree old was new (Err error) is same more = tt

-- so one frame more is kept that has the items of the last one
pub kept-unchanged : {A E : Type 0} (script : Script) (number : FrameNo) (tree : ViewTree) (old new : KeptFrames) (frames : List FrameOut) (last : FrameOut)
    (result : Result A E) → Keeps script old frames → last_item frames ≡ Some last
    → OnOk result (KeepsUnchanged script number tree old new) → OnOk result (KeepsMore script (unchanged number tree last) old new)
kept-unchanged script number tree old new frames last (Ok value) keeps is more = record {
  same = more.same;
  more = λ others keeps_others. more.more others last keeps_others (last-kept script old others frames keeps_others keeps ∙ is);
}
kept-unchanged script number tree old new frames last (Err error) keeps is more = tt

-- the frame of the begin is the last one, unchanged, where it shows the same states at the same pixel ratio
module _ (setup : Setup) (history : List Entry) (last : LastFrame) (start : FrameStart) (ends : EndsFrames setup history last)
    (starts : IsStart setup history start) (shows : last.reuse ≡ start.shown) (scales : last.ratio ≡ start.ratio) where
  there : setup_at setup (to_finished history) ≡ at_ratio start.ratio setup
  there = ap (λ r. at_ratio r setup) (sym ends.scales ∙ scales)

  states : shown_states setup (to_finished history) ≡ start.shown
  states = sym ends.shows ∙ shows

  pub next-unchanged : is_setup setup ≡ true → ViewsGiveTrees
      → unchanged (record { 0 = last.frame.0 + 1 }) (tree_of (frame_at setup (frames history) (to_finished history)).tree.nodes start.with_view)
      (frame_at setup (frames history) (to_finished history)) ≡ frame_at setup (frames history + 1) (to_begin history)
  next-unchanged is_one follow =
      let was : FrameOut = frame_at setup (frames history) (to_finished history) in
      let items : was.items ≡ draw_list (at_ratio start.ratio setup) start.shown = (λ i. draw_list (there i) (states i)) in
      let nodes : was.tree.nodes ≡ view_nodes (at_ratio start.ratio setup) start.shown = (λ i. view_nodes (there i) (states i)) in
      ap (λ (n : ℕ). unchanged (record { 0 = n + 1 }) (tree_of was.tree.nodes start.with_view) was) ends.number
      ∙ composed setup (to_begin history) start.shown start.with_view start.ratio (scaled setup (to_begin history) start.ratio starts.scales) starts.shows
      starts.views (frames history + 1) was.items was.tree.nodes (tree_of was.tree.nodes start.with_view) is_one follow items nodes refl
