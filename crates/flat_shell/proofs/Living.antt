-- A compositor after one more of its entries, or after a look.
use Rattle.std.specs.Arc.{arc_value}
use Rattle.std.proofs.Common.{◌≡◌, ℕ, suc, ◌+◌, ◌<◌, ◌≤◌, ◌==◌, Bool, true, false, cond, not, ◌&&◌, ◌||◌, List}
use Rattle.std.proofs.Common.{[], ◌∷◌, ◌++◌, length, length-append, slice_index, Option, Some, None, append-nil, refl}
use Rattle.std.proofs.Common.{sym, ap, ◌∙◌, subst, arith}
use Rattle.std.proofs.lemmas.List.{length-reverse, reverse-append}
use Rattle.std.proofs.lemmas.List.Sums.{length-filter}
use Rattle.flat_base.specs.Last.{last_item}
use Rattle.flat_base.specs.declared.ids.Actor.TheVariants.{Display}
use Rattle.flat_scene.specs.declared.frames.FrameOut.{FrameOut}
use Rattle.flat_scene.specs.declared.journal.Entry.{Entry}
use Rattle.flat_scene.specs.declared.journal.EntryKind.{EntryKind}
use Rattle.flat_scene.specs.declared.journal.EntryKind.TheVariants.{Begin, Finish}
use Rattle.flat_scene.specs.declared.journal.Reply.{Reply}
use Rattle.flat_scene.specs.declared.journal.Reply.TheVariants.{Done}
use Rattle.flat_topology.specs.Changes.{AreSame}
use Rattle.flat_topology.specs.Shown.{Shown}
use Rattle.flat_base.specs.declared.ids.FrameNo.{FrameNo}
use Rattle.flat_scene.specs.declared.setup.Setup.{Setup}
use Rattle.flat_scene.specs.Frames.{ratio}
use Rattle.flat_scene.specs.Heads.{is_setup}
use Rattle.flat_scene.specs.History.{◌▹◌, is_begin, is_finish}
use Rattle.flat_scene.specs.Journals.{history_of, seat_number}
use Rattle.flat_core.specs.Machines.{entry_of, made}
use Rattle.flat_rules.specs.Seats.{JournalsKeepSeats, of_seat}
use Rattle.flat_rules.specs.Ends.{to_begin, to_finished}
use Rattle.flat_rules.specs.Legal.{Legal, begin_time, frames, is_frame_open, time_of}
use Rattle.flat_rules.specs.Shown.{shown_states}
use Rattle.flat_report.specs.Report.{finished, frame_at}
use Rattle.flat_play.specs.declared.frame.LastFrame.{LastFrame}
use Rattle.flat_play.specs.Last.{IsLast}
use Rattle.flat_play.proofs.lemmas.FramesShown.{all-finished, few_frames}
use Rattle.flat_page.proofs.lemmas.LastItems.{last-more}
use Rattle.flat_play.proofs.lemmas.Seen.{frames_more}
use Rattle.flat_stage.specs.Displays.{CompositorView, DisplayEnters, DisplaySees, DisplayView, IsNewCompositor}
use Rattle.flat_core.specs.Starts.{IsStart, StartsFrame}
use Rattle.flat_stage.specs.Seats.{StageView, entries_of_seat, setup_of, shares_of}
use Rattle.flat_shell.specs.declared.compositor_parts.CompositorParts.{CompositorParts}
use Rattle.flat_shell.specs.Live.{HasLast, IsComposed, IsKept, MayBegin, MayGoBefore, left, next_frame}
use Rattle.flat_shell.proofs.Beside.{HasEntered, IsBeside, has_entered, seen_beside}

-- What is kept beside a seat after an entry: nothing changed but its number, the time and the frames.
pub record IsNext (keeper : CompositorParts) (seat : DisplayView) (kind : EntryKind) (frames_then : ℕ) (shown_then : Option FrameOut)
    (keeper' : CompositorParts) : Type 0 where
  pub stage : keeper'.stage ≡ keeper.stage
  pub setup : keeper'.setup ≡ keeper.setup
  pub share : keeper'.share ≡ keeper.share
  pub made : keeper'.made ≡ length seat.mine + 1
  pub time : keeper'.time ≡ cond (is_begin kind) (time_of kind) (begin_time (history_of seat.mine))
  pub frames : keeper'.frames.0 ≡ frames_then
  pub shown : keeper'.shown ≡ shown_then

module _ (keeper : CompositorParts) (seat seat' : DisplayView) (was : Bool) (kept : IsKept was keeper seat) (kind : EntryKind) (reply : Reply)
    (enters : DisplayEnters (length seat.mine + 1) kind reply seat seat') where
  abbrev setup : Setup
  setup = setup_of seat.stage

  abbrev before : List Entry
  before = history_of seat.seen

  abbrev after : List Entry
  after = history_of seat'.seen

  abbrev entry : Entry
  entry = entry_of Display (length seat.mine + 1) [] kind reply

  entered : HasEntered setup seat.seen entry seat'.seen
  entered = has_entered setup seat.seen seat.mine entry seat'.seen seat'.mine refl kept.whole enters.one

  longer : length seat'.mine ≡ length seat.mine + 1
  longer = ap length enters.one.one_more ∙ length-append seat.mine (entry ∷ [])

  mine_then : history_of seat'.mine ≡ (history_of seat.mine ▹ entry)
  mine_then = ap history_of enters.one.one_more ∙ reverse-append seat.mine (entry ∷ [])

  pub setup_same : setup_of seat'.stage ≡ setup
  setup_same = ap (λ (d : DisplayView). setup_of d.stage) enters.rest

  -- how many frames are finished then, and which
  pub frames_then : frames after ≡ frames before + cond (is_finish kind) 1 0
  frames_then = ap frames entered.grown ∙ frames_more entered.middle entry (is_finish kind) refl ∙ ap (λ n. n + cond (is_finish kind) 1 0) entered.beside.number

  finished_then : finished setup after ≡ finished setup before ++ cond (is_finish kind) (frame_at setup (suc (frames before)) (to_begin before) ∷ []) []
  finished_then = ap (finished setup) entered.grown
      ∙ (λ i. entered.beside.finishing i ++ cond (is_finish kind) (frame_at setup (suc (entered.beside.number i)) (entered.beside.begun i) ∷ []) [])

  -- the last begin, and that of the last finished frame
  pub begun_same : is_begin kind ≡ false → to_begin after ≡ to_begin before
  begun_same none = ap to_begin entered.grown ∙ ap (λ b. cond b (entered.middle ▹ entry) (to_begin entered.middle)) none ∙ entered.beside.begun

  pub begun_now : is_begin kind ≡ true → to_begin after ≡ after
  begun_now now = ap to_begin entered.grown ∙ ap (λ b. cond b (entered.middle ▹ entry) (to_begin entered.middle)) now ∙ sym entered.grown

  pub ended_same : is_finish kind ≡ false → to_finished after ≡ to_finished before
  ended_same none = ap to_finished entered.grown ∙ ap (λ b. cond b (to_begin entered.middle) (to_finished entered.middle)) none ∙ entered.beside.ended

  pub ended_now : is_finish kind ≡ true → to_finished after ≡ to_begin before
  ended_now now = ap to_finished entered.grown ∙ ap (λ b. cond b (to_begin entered.middle) (to_finished entered.middle)) now ∙ entered.beside.begun

  -- what is kept beside the seat
  pub next_kept : (is_open : Bool) (keeper' : CompositorParts) (shown : Option FrameOut)
      → IsNext keeper seat kind (frames before + cond (is_finish kind) 1 0) shown keeper'
      → (is_begin kind || (not (is_finish kind) && was)) ≡ is_open
      → shown ≡ last_item (finished setup before ++ cond (is_finish kind) (frame_at setup (suc (frames before)) (to_begin before) ∷ []) [])
      → length seat.mine + 1 + cond is_open 1 0 ≤ slice_index (shares_of seat.stage) 0 → IsKept is_open keeper' seat'
  next_kept is_open keeper' shown next opens shows room =
      let K : DisplayView → Type 0 = IsKept is_open keeper' in
      subst K (sym enters.rest) (record {
        own = kept.own ∙ ap arc_value (sym next.stage);
        setup = ap arc_value next.setup ∙ kept.setup;
        valid = kept.valid;
        share = next.share ∙ kept.share;
        few = (let low = kept.few in let same = next.share in omega (arith, low, same));
        made = next.made ∙ sym longer;
        room = omega (arith, longer, room);
        time = next.time ∙ sym (ap begin_time mine_then);
        whole = enters.one.whole;
        legal = enters.one.legal;
        frame = ap is_frame_open entered.grown ∙ ap (λ o. is_begin kind || (not (is_finish kind) && o)) (entered.beside.is_open ∙ kept.frame) ∙ opens;
        frames = next.frames ∙ sym frames_then;
        shown = next.shown ∙ shows ∙ ap last_item (sym finished_then);
      })

  -- what is kept of the last frame, after an entry that ends none
  pub last_same : (last : LastFrame) → is_finish kind ≡ false → HasLast setup before last → HasLast (setup_of seat'.stage) after last
  last_same last ends has =
      let S : Setup → Type 0 = λ s. HasLast s after last in
      let as_many = frames_then in
      let none : ◌≡◌ {A = ℕ} (cond (is_finish kind) 1 0) 0 = ap (λ b. cond b 1 0) ends in
      subst S (sym setup_same) (record {
        is = has.is;
        number = has.number ∙ omega (arith, as_many, none);
        showing = has.showing ∙ ap (shown_states setup) (sym (ended_same ends));
        scaling = has.scaling ∙ ap (ratio setup) (sym (ended_same ends));
      })

-- ---- the compositor's entries

-- an entry that begins no frame and ends none
pub beside_then : (keeper keeper' : CompositorParts) (last : LastFrame) (seat seat' : DisplayView) → IsKept false keeper seat
    → HasLast (setup_of seat.stage) (history_of seat.seen) last
    → (kind : EntryKind) (reply : Reply) → DisplayEnters (length seat.mine + 1) kind reply seat seat' → is_begin kind ≡ false → is_finish kind ≡ false
    → keeper' ≡ record keeper { made = length seat.mine + 1 } → 0 < left seat → IsKept false keeper' seat'
    × HasLast (setup_of seat'.stage) (history_of seat'.seen) last
beside_then keeper keeper' last seat seat' kept has kind reply enters begins ends is some =
    let h : List Entry = history_of seat.seen in
    let setup : Setup = setup_of seat.stage in
    let room = kept.room in
    let K : CompositorParts → Type 0 = λ k. IsKept false k seat' in
    let then : CompositorParts = record keeper { made = length seat.mine + 1 } in
    let none : cond (is_finish kind) (frame_at setup (suc (frames h)) (to_begin h) ∷ []) [] ≡ [] =
    ap (λ b. cond b (frame_at setup (suc (frames h)) (to_begin h) ∷ []) []) ends in
    let as_many : frames h ≡ frames h + cond (is_finish kind) 1 0 = let zero_more : ◌≡◌ {A = ℕ} (cond (is_finish kind) 1 0) 0 =
    ap (λ b. cond b 1 0) ends in omega (arith, zero_more) in
    let next : IsNext keeper seat kind (frames h + cond (is_finish kind) 1 0) keeper.shown then =
    record {
      stage = refl;
      setup = refl;
      share = refl;
      made = refl;
      time = kept.time
          ∙ sym (ap (λ b. cond b (time_of kind) (begin_time (history_of seat.mine))) begins);
      frames = kept.frames ∙ as_many;
      shown = refl;
    } in
    let same : keeper.shown ≡ last_item (finished setup h ++ cond (is_finish kind) (frame_at setup (suc (frames h)) (to_begin h) ∷ []) []) =
    kept.shown ∙ ap last_item (sym (ap (λ (fs : List FrameOut). finished setup h ++ fs) none ∙ append-nil (finished setup h))) in (
      subst K (sym is) (next_kept keeper seat seat' false kept kind reply enters false then keeper.shown next (λ i. begins i || (not (ends i) && false)) same
          (omega (arith, room, some))),
      last_same keeper seat seat' false kept kind reply enters last ends has,
    )

-- a frame that begins
pub begun_then : (keeper keeper' : CompositorParts) (last : LastFrame) (old new : CompositorView) (time : ℕ) → IsKept false keeper old.display
    → HasLast (setup_of old.display.stage) (history_of old.display.seen) last
    → IsStart (setup_of old.display.stage) (history_of old.display.seen) old.start
    → DisplayEnters (length old.display.mine + 1) (Begin time) Done old.display new.display
    → keeper' ≡ record keeper { made = length old.display.mine + 1; time = time }
    → MayBegin time old.display
    → StartsFrame (setup_of old.display.stage) (history_of new.display.seen) old.start new.start → IsKept true keeper' new.display
    × MayGoBefore (setup_of new.display.stage) new (Some last)
begun_then keeper keeper' last old new time kept has start enters is may starts =
    let seat : DisplayView = old.display in
    let h : List Entry = history_of seat.seen in
    let setup : Setup = setup_of seat.stage in
    let two = may.0 in
    let then : CompositorParts = record keeper { made = length seat.mine + 1; time = time } in
    let K : CompositorParts → Type 0 = λ k. IsKept true k new.display in
    let S : Setup → Type 0 = λ s. MayGoBefore s new (Some last) in
    let W : Shown → Type 0 = λ states. AreSame new.start.changed states new.start.shown in
    let as_many : frames h ≡ frames h + 0 = omega arith in
    let next : IsNext keeper seat (Begin time) (frames h + 0) keeper.shown then =
    record { stage = refl; setup = refl; share = refl; made = refl; time = refl; frames = kept.frames ∙ as_many; shown = refl } in
    let more = frames_then keeper seat new.display false kept (Begin time) Done enters in
    let was : last.reuse ≡ old.start.shown = has.showing ∙ ap (shown_states setup) (all-finished h kept.frame) ∙ sym start.shows in (
      subst K (sym is) (next_kept keeper seat new.display false kept (Begin time) Done enters true then keeper.shown next refl
          (kept.shown ∙ ap last_item (sym (append-nil (finished setup h)))) (omega (arith, two))),
      subst S (sym (setup_same keeper seat new.display false kept (Begin time) Done enters))
          (record { is = has.is; number = has.number ∙ omega (arith, more); same = subst W (sym was) starts.changed }),
    )

-- a frame that is done
pub done_then : (keeper keeper' : CompositorParts) (last last' : LastFrame) (seat seat' : DisplayView) (number : FrameNo) → IsKept true keeper seat
    → IsComposed (setup_of seat.stage) (history_of seat.seen) last
    → DisplayEnters (length seat.mine + 1) Finish Done seat seat' → number.0 ≡ frames (history_of seat'.seen) → keeper'
    ≡ record keeper { made = length seat.mine + 1; frames = number; shown = Some (next_frame seat) }
    → last' ≡ record last { frame = number } → IsKept false keeper' seat' × HasLast (setup_of seat'.stage) (history_of seat'.seen) last'
done_then keeper keeper' last last' seat seat' number kept composed enters numbered is last_is =
    let h : List Entry = history_of seat.seen in
    let setup : Setup = setup_of seat.stage in
    let room = kept.room in
    let then : CompositorParts = record keeper { made = length seat.mine + 1; frames = number; shown = Some (next_frame seat) } in
    let K : CompositorParts → Type 0 = λ k. IsKept false k seat' in
    let L : LastFrame → Type 0 = λ l. HasLast (setup_of seat'.stage) (history_of seat'.seen) l in
    let S : Setup → Type 0 = λ s. HasLast s (history_of seat'.seen) (record last { frame = number }) in
    let more = frames_then keeper seat seat' true kept Finish Done enters in
    let ended = ended_now keeper seat seat' true kept Finish Done enters refl in
    let next : IsNext keeper seat Finish (frames h + 1) (Some (next_frame seat)) then =
    record { stage = refl; setup = refl; share = refl; made = refl; time = kept.time; frames = numbered ∙ more; shown = refl } in
    let one_more : frames h + 1 ≡ suc (frames h) = omega arith in
    let shown : Some (next_frame seat) ≡ last_item (finished setup h ++ frame_at setup (suc (frames h)) (to_begin h) ∷ []) =
    ap (λ n. Some (frame_at setup n (to_begin h))) one_more ∙ sym (last-more (finished setup h) (frame_at setup (suc (frames h)) (to_begin h))) in (
      subst K (sym is) (next_kept keeper seat seat' true kept Finish Done enters false then (Some (next_frame seat)) next refl shown (omega (arith, room))),
      subst L (sym last_is) (subst S (sym (setup_same keeper seat seat' true kept Finish Done enters)) (record {
        is = record { count = composed.is.count; fits = composed.is.fits; joined = composed.is.joined };
        number = numbered;
        showing = composed.showing ∙ ap (shown_states setup) (sym ended);
        scaling = composed.scaling ∙ ap (ratio setup) (sym ended);
      })),
    )

-- while a frame is open, no more are finished than the display made entries
pub few_then : JournalsKeepSeats → (keeper : CompositorParts) (seat : DisplayView) → IsKept true keeper seat → frames (history_of seat.seen) + 1 < 4294967296
few_then keep keeper seat kept =
    let most = few_frames (setup_of seat.stage) (history_of seat.seen) kept.legal in
    let made_is : made 0 (history_of seat.seen) ≡ length seat.mine =
    sym (length-filter (λ (e : Entry). seat_number e.actor == 0) (history_of seat.seen)) ∙ ap length (keep 0 seat.seen) ∙ length-reverse (of_seat 0 seat.seen)
    ∙ ap length (sym kept.whole) in
    let room = kept.room in
    let share = kept.share in
    let low = kept.few in
    omega (arith, most, made_is, room, share, low)

-- ---- a look

-- what a seat has seen beside, once it looked
module _ (keeper : CompositorParts) (seat seat' : DisplayView) (kept : IsKept false keeper seat) (sees : DisplaySees seat seat')
    (legal : Legal (setup_of seat.stage) (history_of seat'.seen)) (whole : seat'.mine ≡ entries_of_seat 0 seat'.seen) where
  seen_more : IsBeside (setup_of seat.stage) (history_of seat.seen) (history_of seat'.seen)
  seen_more =
      let more : List Entry = sees.longer.0 in
      let L : List Entry → Type 0 = λ es. Legal (setup_of seat.stage) (history_of es) in
      let B : List Entry → Type 0 = λ es. IsBeside (setup_of seat.stage) (history_of seat.seen) (history_of es) in
      let mine : seat'.mine ≡ seat.mine = ap (λ (d : DisplayView). d.mine) sees.rest in
      let own : entries_of_seat 0 (seat.seen ++ more) ≡ entries_of_seat 0 seat.seen = ap (entries_of_seat 0) (sym sees.longer.1) ∙ sym whole ∙ mine
      ∙ kept.whole in
      subst B (sym sees.longer.1) (seen_beside (setup_of seat.stage) seat.seen more (subst L sees.longer.1 legal) own)

  pub looked_kept : IsKept false keeper seat'
  looked_kept =
      let K : DisplayView → Type 0 = IsKept false keeper in
      let mine : seat'.mine ≡ seat.mine = ap (λ (d : DisplayView). d.mine) sees.rest in
      subst K (sym sees.rest) (record {
        own = kept.own;
        setup = kept.setup;
        valid = kept.valid;
        share = kept.share;
        few = kept.few;
        made = kept.made;
        room = kept.room;
        time = kept.time;
        whole = sym mine ∙ whole;
        legal = legal;
        frame = seen_more.is_open ∙ kept.frame;
        frames = kept.frames ∙ sym seen_more.number;
        shown = kept.shown ∙ ap last_item (sym seen_more.finishing);
      })

  pub looked_last : (last : LastFrame) → HasLast (setup_of seat.stage) (history_of seat.seen) last → HasLast (setup_of seat'.stage) (history_of seat'.seen) last
  looked_last last has =
      let S : Setup → Type 0 = λ s. HasLast s (history_of seat'.seen) last in
      subst S (sym (ap (λ (d : DisplayView). setup_of d.stage) sees.rest)) (record {
        is = has.is;
        number = has.number ∙ sym seen_more.number;
        showing = has.showing ∙ ap (shown_states (setup_of seat.stage)) (sym seen_more.ended);
        scaling = has.scaling ∙ ap (ratio (setup_of seat.stage)) (sym seen_more.ended);
      })

-- ---- before any entry

pub opened_live : (view : StageView) (keeper : CompositorParts) (last : LastFrame) (compositor : CompositorView) → IsNewCompositor view compositor → view
    ≡ arc_value keeper.stage → arc_value keeper.setup ≡ setup_of view
    → is_setup (setup_of view) ≡ true → keeper.share ≡ slice_index (shares_of view) 0 → keeper.share < 4294967296 → keeper.made ≡ 0 → keeper.time ≡ 0
    → keeper.frames.0 ≡ 0 → keeper.shown ≡ None
    → IsLast (setup_of view) last → last.frame.0 ≡ 0 → last.reuse ≡ shown_states (setup_of view) [] → last.ratio ≡ (setup_of view).ratio
    → IsKept false keeper compositor.display × HasLast (setup_of compositor.display.stage) (history_of compositor.display.seen) last
    × (compositor.is_open ≡ false)
opened_live view keeper last compositor new own of valid share few made time frames_are shown is number showing scaling =
    let P : DisplayView → Type 0 = λ d. IsKept false keeper d × HasLast (setup_of d.stage) (history_of d.seen) last in
    let both = subst P (sym new.display) (
      record {
        own = own;
        setup = of;
        valid = valid;
        share = share;
        few = few;
        made = made;
        room = omega arith;
        time = time;
        whole = refl;
        legal = tt;
        frame =
            refl;
        frames = frames_are;
        shown = shown;
      },
      record { is = is; number = number; showing = showing; scaling = scaling },
    ) in
    (both.0, both.1, new.closed)
