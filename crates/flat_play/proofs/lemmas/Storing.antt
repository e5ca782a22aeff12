-- What is shown of a history and kept of its frames, after one entry more.
use Rattle.std.proofs.Common.{◌≡◌, ℕ, ℤ, suc, ◌+◌, ◌<◌, true, false, cond, List, [], ◌∷◌, ◌++◌, length, refl, sym, ap, ◌∙◌, subst, arith, append-nil}
use Rattle.flat_base.specs.declared.ids.Actor.TheVariants.{Display}
use Rattle.flat_base.specs.declared.ids.FrameNo.{FrameNo}
use Rattle.flat_scene.specs.declared.frames.FrameOut.{FrameOut}
use Rattle.flat_scene.specs.declared.frames.Hit as point
use Rattle.flat_scene.specs.declared.journal.Entry.{Entry}
use Rattle.flat_scene.specs.declared.journal.EntryKind.TheVariants.{Begin, Finish, Hit}
use Rattle.flat_scene.specs.declared.journal.Reply.{Reply}
use Rattle.flat_scene.specs.declared.journal.Reply.TheVariants.{Done}
use Rattle.flat_scene.specs.declared.script.DisplayLine.{DisplayLine}
use Rattle.flat_scene.specs.declared.script.DisplayLine.TheVariants as display
use Rattle.flat_scene.specs.declared.setup.Setup.{Setup}
use Rattle.flat_scene.specs.Frames.{ratio}
use Rattle.flat_scene.specs.History.{◌▹◌, is_begin, is_finish}
use Rattle.flat_scene.specs.Interleave.{entry_of_display}
use Rattle.flat_scene.specs.Setups.{at_ratio}
use Rattle.flat_core.specs.declared.start.FrameStart.{FrameStart}
use Rattle.flat_core.specs.Machines.{entry_of}
use Rattle.flat_core.proofs.lemmas.Starts.{start-same}
use Rattle.flat_core.specs.Starts.{IsStart, StartsFrame, is_beside}
use Rattle.flat_rules.specs.Ends.{to_begin, to_finished}
use Rattle.flat_rules.specs.Laws.{BegunStatesFit, EachSessionHasOneState}
use Rattle.flat_rules.specs.Legal.{Legal, frames, is_frame_open}
use Rattle.flat_rules.specs.Shown.{shown_states}
use Rattle.flat_topology.specs.Changes.{AreSame}
use Rattle.flat_topology.specs.Fit.{FitsSetup}
use Rattle.flat_topology.specs.Hits.{hit_list}
use Rattle.flat_topology.specs.Shown.{Shown, state_of}
use Rattle.flat_places.specs.declared.script.Script.{Script}
use Rattle.flat_report.specs.declared.report.HitAnswer.{HitAnswer}
use Rattle.flat_report.specs.Handed.{answer_to, answers_of}
use Rattle.flat_report.specs.Report.{finished, frame_at, hits_at}
use Rattle.flat_play.specs.declared.frame.LastFrame.{LastFrame}
use Rattle.flat_play.specs.declared.kept_frames.KeptFrames.{KeptFrames}
use Rattle.flat_play.specs.declared.store.FrameStore.{FrameStore}
use Rattle.flat_play.specs.Keeping.{Keeps}
use Rattle.flat_play.specs.Last.{EndsFrames, MayFollow, StaysLast}
use Rattle.flat_play.specs.Storing.{AnswersLine, AnswersPoint, FinishesNext, FramesStand, StaysStored, StoreStands}
use Rattle.flat_play.proofs.lemmas.FramesShown.{all-finished}

-- the same is kept of the same frames
pub keeps_same : (script : Script) (old new : KeptFrames) (was now : List FrameOut) → new ≡ old → now ≡ was → Keeps script old was → Keeps script new now
keeps_same script old new was now kept_is frames_are keeps = let P : List FrameOut → Type 0 = Keeps script old in let Q : KeptFrames → Type 0 =
    λ k. Keeps script k now in subst Q (sym kept_is) (subst P (sym frames_are) keeps)

-- ---- entries that end no frame and ask for no point

-- Two histories finish the same frames, and have the same points asked.
pub record FinishTheSame (setup : Setup) (old new : List Entry) : Type 0 where
  pub finishing : finished setup new ≡ finished setup old
  pub number : frames new ≡ frames old
  pub ended : to_finished new ≡ to_finished old
  pub answering : answers_of setup new ≡ answers_of setup old

pub finish_the_same : (setup : Setup) (old : List Entry) (e : Entry) → is_finish e.kind ≡ false
    → answer_to e (frames old) (hits_at setup (to_finished old)) e.kind ≡ [] → FinishTheSame setup old (old ▹ e)
finish_the_same setup old e no_finish none = record {
  finishing = ap (λ b. finished setup old ++ cond b (frame_at setup (suc (frames old)) (to_begin old) ∷ []) []) no_finish
      ∙ append-nil (finished setup old);
  number = rw no_finish refl;
  ended = rw no_finish refl;
  answering = ap (λ (more : List HitAnswer). answers_of setup old ++ more) none ∙ append-nil (answers_of setup old);
}

pub stored_on : (script : Script) (old new : List Entry) (store : FrameStore) → FinishTheSame script.setup old new → StoreStands script old store
    → StoreStands script new store
stored_on script old new store same stands = record {
  keeps = keeps_same script store.kept store.kept (finished script.setup old) (finished script.setup new) refl same.finishing stands.keeps;
  ends = record {
    number = stands.ends.number ∙ sym same.number;
    is = stands.ends.is;
    shows = stands.ends.shows ∙ ap (shown_states script.setup) (sym same.ended);
    scales = stands.ends.scales ∙ ap (ratio script.setup) (sym same.ended);
  };
  points = stands.points ∙ sym same.answering;
}

pub frames_on : (script : Script) (old new : List Entry) (start : FrameStart) (store : FrameStore) → to_begin new ≡ to_begin old
    → FinishTheSame script.setup old new → FramesStand script old start store → FramesStand script new start store
frames_on script old new start store begun same stands = record {
  starts = start-same script.setup script.setup old new start refl (sym begun) stands.starts;
  same = stands.same;
  stored = stored_on script old new store same stands.stored;
}

-- any entry that begins no frame, ends none and asks for no point
pub frames_beside : (script : Script) (old : List Entry) (start : FrameStart) (store : FrameStore) (e : Entry) → is_begin e.kind ≡ false
    → is_finish e.kind ≡ false → answer_to e (frames old) (hits_at script.setup (to_finished old)) e.kind ≡ []
    → FramesStand script old start store → FramesStand script (old ▹ e) start store
frames_beside script old start store e no_begin no_finish none =
    frames_on script old (old ▹ e) start store (rw no_begin refl) (finish_the_same script.setup old e no_finish none)

-- ---- before the first entry

pub frames_none : (script : Script) (start : FrameStart) (store : FrameStore) → IsStart script.setup [] start → StoreStands script [] store
    → FramesStand script [] start store
frames_none script start store is stands = record {
  starts = is;
  same = λ s within none. ap (λ (states : Shown). state_of states s) (stands.ends.shows ∙ sym is.shows);
  stored = stands;
}

-- ---- a frame

-- a frame may follow that starts with the last begin
pub may_follow : BegunStatesFit → EachSessionHasOneState → (script : Script) (history : List Entry) (start : FrameStart) (store : FrameStore)
    → Legal script.setup history → frames history + 1 < 4294967296 → FramesStand script history start store → MayFollow script.setup start store.last
may_follow fit each script history start store legal few stands = record {
  count = ap (length {A = _}) stands.starts.shows ∙ each script.setup (to_begin history);
  fits = subst (FitsSetup script.setup) (sym stands.starts.shows) (fit script.setup history legal);
  same = stands.same;
  few = (let number = stands.stored.ends.number in omega (arith, few, number));
}

module _ (script : Script) (old : List Entry) (start : FrameStart) (store : FrameStore) (stands : FramesStand script old start store) where
  -- a begin
  pub frames_begin : (n time : ℕ) (then : FrameStart) → is_frame_open old ≡ false
      → StartsFrame script.setup (old ▹ entry_of Display n [] (Begin time) Done) start then
      → FramesStand script (old ▹ entry_of Display n [] (Begin time) Done) then store
  frames_begin n time then shut begins =
      let e : Entry = entry_of Display n [] (Begin time) Done in
      let S : Shown → Type 0 = λ was. AreSame then.changed was then.shown in
      let was : store.last.reuse ≡ start.shown =
      stands.stored.ends.shows ∙ ap (shown_states script.setup) (all-finished old shut) ∙ sym stands.starts.shows in
      record {
        starts = begins.start;
        same = subst S (sym was) begins.changed;
        stored = stored_on script old (old ▹ e) store (finish_the_same script.setup old e refl refl) stands.stored;
      }

  -- its end
  pub frames_done : (n : ℕ) (then : FrameStore) → FinishesNext script old start store then
      → FramesStand script (old ▹ entry_of Display n [] Finish Done) start then
  frames_done n then finishes =
      let e : Entry = entry_of Display n [] Finish Done in
      let number : frames old + 1 ≡ suc (frames old) = omega arith in
      let all : finished script.setup (old ▹ e) ≡ finished script.setup old ++ frame_at script.setup (frames old + 1) (to_begin old) ∷ [] =
      ap (λ (k : ℕ). finished script.setup old ++ frame_at script.setup k (to_begin old) ∷ []) (sym number) in
      record {
        starts = start-same script.setup script.setup old (old ▹ e) start refl refl stands.starts;
        same = λ s within none. ap (λ (states : Shown). state_of states s) finishes.last.shows;
        stored = record {
          keeps = keeps_same script then.kept then.kept (finished script.setup old ++ frame_at script.setup (frames old + 1) (to_begin old) ∷ [])
              (finished script.setup (old ▹ e)) refl all (finishes.kept.more (finished script.setup old) stands.stored.keeps);
          ends = record {
            number = finishes.number ∙ number;
            is = finishes.last.is;
            shows = finishes.last.shows ∙ stands.starts.shows;
            scales = finishes.last.scales ∙ stands.starts.scales;
          };
          points = finishes.points ∙ stands.stored.points ∙ sym (append-nil (answers_of script.setup old));
        };
      }

  -- ---- what is joined, and points

  -- what is joined of the last frame plays no part
  pub frames_stay : (then : FrameStore) → StaysStored script.setup store then → FramesStand script old start then
  frames_stay then stays = record {
    starts = stands.starts;
    same = subst (λ (was : Shown). AreSame start.changed was start.shown) (sym stays.last.reuse) stands.same;
    stored = record {
      keeps = keeps_same script store.kept then.kept (finished script.setup old) (finished script.setup old) stays.kept refl stands.stored.keeps;
      ends = record {
        number = ap (λ (f : FrameNo). f.0) stays.last.frame ∙ stands.stored.ends.number;
        is = stays.last.is;
        shows = stays.last.reuse ∙ stands.stored.ends.shows;
        scales = stays.last.ratio ∙ stands.stored.ends.scales;
      };
      points = stays.points ∙ stands.stored.points;
    };
  }

  -- a point
  frames_point : (n : ℕ) (x y : ℤ) (reply : Reply) (then : FrameStore) → AnswersPoint script.setup n x y store then
      → FramesStand script (old ▹ entry_of Display n [] (Hit x y) reply) start then
  frames_point n x y reply then answers =
      let setup : Setup = script.setup in
      let last : LastFrame = store.last in
      let e : Entry = entry_of Display n [] (Hit x y) reply in
      let ends : EndsFrames setup old last = stands.stored.ends in
      let hits : hit_list (at_ratio last.ratio setup) last.reuse x y ≡ hits_at setup (to_finished old) x y =
      (λ i. hit_list (at_ratio (ends.scales i) setup) (ends.shows i) x y) in
      let number : last.frame ≡ record { 0 = frames old } = ap (λ (k : ℕ). let f : FrameNo = record { 0 = k } in f) ends.number in
      let one : FrameNo → List point.Hit → List HitAnswer = λ f hs. (record { actor = Display; line = n; frame = f; hits = hs }) ∷ [] in
      record {
        starts = start-same setup setup old (old ▹ e) start refl refl stands.starts;
        same = subst (λ (was : Shown). AreSame start.changed was start.shown) (sym answers.last.reuse) stands.same;
        stored = record {
          keeps = keeps_same script store.kept then.kept (finished setup old) (finished setup (old ▹ e)) answers.kept (append-nil (finished setup old))
              stands.stored.keeps;
          ends = record {
            number = ap (λ (f : FrameNo). f.0) answers.last.frame ∙ ends.number;
            is = answers.last.is;
            shows = answers.last.reuse ∙ ends.shows;
            scales = answers.last.ratio ∙ ends.scales;
          };
          points = answers.points
              ∙ ap (λ (given : List HitAnswer). given ++ one last.frame (hit_list (at_ratio last.ratio setup) last.reuse x y)) stands.stored.points
              ∙ ap (λ (f : FrameNo). answers_of setup old ++ one f (hit_list (at_ratio last.ratio setup) last.reuse x y)) number
              ∙ ap (λ (hs : List point.Hit). answers_of setup old ++ one (record { 0 = frames old }) hs) hits;
        };
      }

  stays_beside : (n : ℕ) (text : DisplayLine) (reply : Reply) (then : FrameStore) → then ≡ store → is_begin (entry_of_display text) ≡ false
      → is_finish (entry_of_display text) ≡ false
      → answer_to (entry_of Display n [] (entry_of_display text) reply) (frames old) (hits_at script.setup (to_finished old)) (entry_of_display text) ≡ []
      → FramesStand script (old ▹ entry_of Display n [] (entry_of_display text) reply) start then
  stays_beside n text reply then same no_begin no_finish none =
      let e : Entry = entry_of Display n [] (entry_of_display text) reply in
      subst (λ (s : FrameStore). FramesStand script (old ▹ e) start s) (sym same)
      (frames_beside script old start store e no_begin no_finish none stands)

  -- any line of the display that begins no frame and ends none
  pub frames_line : (n : ℕ) (text : DisplayLine) (reply : Reply) (then : FrameStore) → is_beside text ≡ true → AnswersLine script.setup n text store then
      → FramesStand script (old ▹ entry_of Display n [] (entry_of_display text) reply) start then
  frames_line n (display.Begin time) reply then beside answers = absurd (cc)
  frames_line n display.Done reply then beside answers = absurd (cc)
  frames_line n (display.Hit x y) reply then beside answers = frames_point n x y reply then answers
  frames_line n (display.Signal f) reply then beside answers = stays_beside n (display.Signal f) reply then answers refl refl refl
  frames_line n (display.Wait c) reply then beside answers = stays_beside n (display.Wait c) reply then answers refl refl refl
  frames_line n (display.Dpr to) reply then beside answers = stays_beside n (display.Dpr to) reply then answers refl refl refl

-- what stands of the last frame is all that stands of the store
pub stays_stored : (setup : Setup) (store : FrameStore) (last : LastFrame) → StaysLast setup store.last last
    → StaysStored setup store (record store { last = last })
stays_stored setup store last stays = record { kept = refl; last = stays; points = refl }

-- the answer to a line leaves what is kept of frames
pub answers_keep : (setup : Setup) (n : ℕ) (text : DisplayLine) (old new : FrameStore) → AnswersLine setup n text old new → new.kept ≡ old.kept
answers_keep setup n (display.Begin time) old new answers = ap (λ (s : FrameStore). s.kept) answers
answers_keep setup n display.Done old new answers = ap (λ (s : FrameStore). s.kept) answers
answers_keep setup n (display.Signal f) old new answers = ap (λ (s : FrameStore). s.kept) answers
answers_keep setup n (display.Wait c) old new answers = ap (λ (s : FrameStore). s.kept) answers
answers_keep setup n (display.Hit x y) old new answers = answers.kept
answers_keep setup n (display.Dpr ratio) old new answers = ap (λ (s : FrameStore). s.kept) answers
