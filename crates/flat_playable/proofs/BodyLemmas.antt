-- What the lines of a body keep, as they are read.
use Rattle.std.proofs.Common.{◌≡◌, ℕ, ◌+◌, ◌<◌, ◌≤◌, ◌&&◌, not, max, Bool, true, false, cond, nat_lt, nat_le, List, [], ◌∷◌, ◌++◌, length, None, Ok, Err, refl}
use Rattle.std.proofs.Common.{sym, ◌∙◌, ap, arith, append_assoc, append-nil, length-append, subst}
use Rattle.std.specs.List.{list_all, filter_map}
use Rattle.std.specs.Fmt.{decimal}
use Rattle.std.proofs.lemmas.List.Elements.{filter_map-append}
use Rattle.std.proofs.lemmas.Grind.{fold-append}
use Rattle.std.proofs.lemmas.Bool.Decides.{nat_tests}
use Rattle.flat_base.proofs.lemmas.Tests.{all-more}
use Rattle.flat_base.specs.declared.ids.Actor.{Actor}
use Rattle.flat_base.specs.declared.ids.Actor.TheVariants.{Display, Session, Probe}
use Rattle.flat_base.specs.declared.limits.TheConstants.{RATIO_SINCE}
use Rattle.flat_scene.specs.declared.script.ScriptLine.{ScriptLine}
use Rattle.flat_scene.specs.declared.script.DisplayLine.{DisplayLine}
use Rattle.flat_scene.specs.declared.script.DisplayLine.TheVariants as display
use Rattle.flat_scene.specs.declared.script.LineBody.{LineBody}
use Rattle.flat_scene.specs.declared.script.LineBody.TheVariants as body
use Rattle.flat_places.specs.declared.kinds.FaultKind.TheVariants.{Limit, BadOrder}
use Rattle.flat_places.specs.declared.script.Script.{Script}
use Rattle.flat_places.specs.Forms.{Word, Reading, mapped, unless_kind, whole, give}
use Rattle.flat_forms.specs.Body.{time_begun, ends_frame, begin_times, dones, is_open, greatest, in_order, begin_place, display_line, session_line, probe_line}
use Rattle.flat_forms.specs.Body.{actor_line, with_line}
use Rattle.flat_print.specs.Print.{display_words}
use Rattle.flat_forms.proofs.lemmas.FormLemmas.{place_ok, whole_ok, unless_ok, mapped_ok}
use Rattle.flat_print.proofs.lemmas.BodyWordLemmas.{display_spelt}
use Rattle.flat_print.proofs.lemmas.AgainLemmas.{with_lines, Again}
use Rattle.flat_forms.proofs.lemmas.ParserLemmas.{dones_more}
use Rattle.flat_playable.specs.Playable.{rise_from, frames_close, is_played}
use Rattle.flat_playable.specs.Versions.{is_of_first_version, sets_no_ratio}
use Rattle.flat_playable.proofs.PlayedLemmas.{actor_declared, line_played}
use Rattle.flat_playable.proofs.EarlyLemmas.{line_early, line_unscaled}

-- frames

-- a frame is open or not after the lines so far, the last one began at that time, and what follows is judged from there
pub record FramesKept (s : Script) (opened : Bool) (time : ℕ) : Type 0 where
  pub begun : length (begin_times s) ≡ dones s + cond opened 1 0
  pub last : greatest (begin_times s) ≡ time
  pub judged : (later : List ScriptLine) → frames_close false 0 (s.lines ++ later) ≡ frames_close opened time later

-- the same, of a script that has such a state
pub record FramesGoOn (s : Script) : Type 0 where
  pub opened : Bool
  pub time : ℕ
  pub kept : FramesKept s opened time

counts_open : (opened : Bool) (d n : ℕ) → n ≡ d + cond opened 1 0 → nat_lt d n ≡ opened
counts_open true d n is = grind (arith, nat_tests)
counts_open false d n is = grind (arith, nat_tests)

pub open_is : (s : Script) (opened : Bool) (time : ℕ) → FramesKept s opened time → is_open s ≡ opened
open_is s opened time kept = counts_open opened (dones s) (length (begin_times s)) kept.begun

times_after : (s : Script) (n : ℕ) (a : Actor) (b : LineBody)
    → begin_times (with_line s n a b) ≡ begin_times s ++ filter_map (λ (l : ScriptLine). time_begun l.body) (record { number = n; actor = a; body = b } ∷ [])
times_after s n a b = filter_map-append (λ (l : ScriptLine). time_begun l.body) s.lines (record { number = n; actor = a; body = b } ∷ [])

dones_after : (s : Script) (n : ℕ) (a : Actor) (b : LineBody) → dones (with_line s n a b) ≡ dones s + cond (ends_frame b) 1 0
dones_after s n a b = sym (dones_more s.lines (s.lines ++ record { number = n; actor = a; body = b } ∷ []) (record { number = n; actor = a; body = b })
    (dones s) (cond (ends_frame b) 1 0) refl refl refl)

-- a line that has nothing to do with frames
abbrev Passes : LineBody → Type 0
Passes b = (opened : Bool) (time : ℕ) (n : ℕ) (a : Actor) (later : List ScriptLine)
    → frames_close opened time (record { number = n; actor = a; body = b } ∷ later) ≡ frames_close opened time later

passed : (s : Script) (n : ℕ) (a : Actor) (b : LineBody) (opened : Bool) (time : ℕ) → time_begun b ≡ None → ends_frame b ≡ false → Passes b
    → FramesKept s opened time → FramesKept (with_line s n a b) opened time
passed s n a b opened time none other passes kept =
    let x : ScriptLine = record { number = n; actor = a; body = b } in
    let times : begin_times (with_line s n a b) ≡ begin_times s = times_after s n a b ∙ rw none (append-nil (begin_times s)) in
    let ended : dones (with_line s n a b) ≡ dones s = dones_after s n a b ∙ rw other (omega arith) in
    record {
      begun = ap length times ∙ kept.begun ∙ ap (λ d. d + cond opened 1 0) (sym ended);
      last = ap greatest times ∙ kept.last;
      judged = λ later. ap (frames_close false 0) (append_assoc s.lines (x ∷ []) later) ∙ kept.judged (x ∷ later) ∙ passes opened time n a later;
    }

-- a `begin`
begins : (s : Script) (n t : ℕ) (a : Actor) (time : ℕ) → nat_le time t ≡ true → FramesKept s false time
    → FramesKept (with_line s n a (body.Display (display.Begin t))) true t
begins s n t a time least kept =
    let b : LineBody = body.Display (display.Begin t) in
    let x : ScriptLine = record { number = n; actor = a; body = b } in
    let times : begin_times (with_line s n a b) ≡ begin_times s ++ t ∷ [] = times_after s n a b in
    let ended : dones (with_line s n a b) ≡ dones s + 0 = dones_after s n a b in
    let before = kept.begun in
    let last : max (greatest (begin_times s)) t ≡ t = ap (λ m. max m t) kept.last ∙ later_time time t least in
    record {
      begun = ap length times ∙ omega (arith, length-append (begin_times s) (t ∷ []));
      last = ap greatest times ∙ fold-append max 0 (begin_times s) (t ∷ []) ∙ last;
      judged = λ later. ap (frames_close false 0) (append_assoc s.lines (x ∷ []) later) ∙ kept.judged (x ∷ later) ∙ rw least refl;
    }
  where
    later_time : (m k : ℕ) → nat_le m k ≡ true → max m k ≡ k
    later_time m k is = grind (arith, nat_tests)

-- a `done`
ends : (s : Script) (n : ℕ) (a : Actor) (time : ℕ) → FramesKept s true time → FramesKept (with_line s n a (body.Display display.Done)) false time
ends s n a time kept =
    let b : LineBody = body.Display display.Done in
    let x : ScriptLine = record { number = n; actor = a; body = b } in
    let times : begin_times (with_line s n a b) ≡ begin_times s = times_after s n a b ∙ append-nil (begin_times s) in
    let ended : dones (with_line s n a b) ≡ dones s + 1 = dones_after s n a b in
    let before = kept.begun in
    record {
      begun = ap length times ∙ omega arith;
      last = ap greatest times ∙ kept.last;
      judged = λ later. ap (frames_close false 0) (append_assoc s.lines (x ∷ []) later) ∙ kept.judged (x ∷ later);
    }

in_order_least : (least : ℕ) (r : Reading ℕ) (t : ℕ) → in_order least r ≡ Ok t → nat_le least t ≡ true
in_order_least least (Err k) t is = absurd (cc)
in_order_least least (Ok n) t is = by_test (nat_le least n) refl is
  where
    by_test : (b : Bool) → nat_le least n ≡ b → cond {A = Reading ℕ} b (Ok n) (Err BadOrder) ≡ Ok t → nat_le least t ≡ true
    by_test true at same = let e : n ≡ t = cc in ap (nat_le least) (sym e) ∙ at
    by_test false at wrong = absurd (cc)

-- what a `begin` that was read says
record BeginOk (s : Script) (t : ℕ) : Type 0 where
  pub closed : not (is_open s) ≡ true
  pub least : nat_le (greatest (begin_times s)) t ≡ true

begin_ok : (s : Script) (words : List Word) (t : ℕ) (few : Bool)
    → mapped display.Begin (unless_kind Limit few (unless_kind BadOrder (not (is_open s)) (whole (begin_place s) words))) ≡ Ok (display.Begin t) → BeginOk s t
begin_ok s words t few is =
    let m = mapped_ok display.Begin _ (display.Begin t) is in
    let first = unless_ok Limit few _ m.a m.given in
    let second = unless_ok BadOrder (not (is_open s)) (whole (begin_place s) words) m.a first.given in
    let p = place_ok _ words m.a [] (whole_ok (begin_place s) words m.a second.given) in
    let same : display.Begin m.a ≡ display.Begin t = m.value in
    let e : m.a ≡ t = cc in
    record { closed = second.passed; least = ap (nat_le (greatest (begin_times s))) (sym e) ∙ in_order_least (greatest (begin_times s)) _ m.a p.passes }

go_on_at : (s t : Script) → s ≡ t → FramesGoOn t → FramesGoOn s
go_on_at s t e go = let P : Script → Type 0 = FramesGoOn in subst P (sym e) go

begun_by : (s : Script) (n t : ℕ) (a : Actor) (opened : Bool) (time : ℕ) → FramesKept s opened time → BeginOk s t
    → FramesGoOn (with_line s n a (body.Display (display.Begin t)))
begun_by s n t a true time kept is = absurd (let h = is.closed in let o = open_is s true time kept in wrong (is_open s) o h)
  where
    wrong : (b : Bool) → b ≡ true → not b ≡ true → ⊥
    wrong true o h = cc
    wrong false o h = cc
begun_by s n t a false time kept is = record { opened = true; time = t; kept = begins s n t a time (ap (λ m. nat_le m t) (sym kept.last) ∙ is.least) kept }

done_by : (s : Script) (n : ℕ) (a : Actor) (opened : Bool) (time : ℕ) → FramesKept s opened time → is_open s ≡ true
    → FramesGoOn (with_line s n a (body.Display display.Done))
done_by s n a true time kept is = record { opened = false; time = time; kept = ends s n a time kept }
done_by s n a false time kept is = absurd (let o = open_is s false time kept in cc)

display_frames : (s : Script) (n : ℕ) (a : Actor) (l : DisplayLine) (opened : Bool) (time : ℕ) → FramesKept s opened time
    → display_line s (display_words s l) ≡ Ok l → FramesGoOn (with_line s n a (body.Display l))
display_frames s n a (display.Begin t) opened time kept is =
    begun_by s n t a opened time kept (begin_ok s (decimal t ∷ []) t (nat_lt (length (begin_times s)) 512) is)
display_frames s n a display.Done opened time kept is =
    done_by s n a opened time kept (unless_ok BadOrder (is_open s) (whole (give display.Done) []) display.Done is).passed
display_frames s n a (display.Signal f) opened time kept is =
    record { opened = opened; time = time; kept = passed s n a (body.Display (display.Signal f)) opened time refl refl (λ o t k c later. refl) kept }
display_frames s n a (display.Wait c) opened time kept is =
    record { opened = opened; time = time; kept = passed s n a (body.Display (display.Wait c)) opened time refl refl (λ o t k c later. refl) kept }
display_frames s n a (display.Hit x y) opened time kept is =
    record { opened = opened; time = time; kept = passed s n a (body.Display (display.Hit x y)) opened time refl refl (λ o t k c later. refl) kept }
display_frames s n a (display.Dpr r) opened time kept is =
    record { opened = opened; time = time; kept = passed s n a (body.Display (display.Dpr r)) opened time refl refl (λ o t k c later. refl) kept }

frames_at : (s : Script) (n : ℕ) (a : Actor) (b c : LineBody) → b ≡ c → FramesGoOn (with_line s n a b) → FramesGoOn (with_line s n a c)
frames_at s n a b c e go = let P : LineBody → Type 0 = λ x. FramesGoOn (with_line s n a x) in subst P e go

pub line_frames : (s : Script) (n : ℕ) (a : Actor) (words : List Word) (b : LineBody) (opened : Bool) (time : ℕ) → FramesKept s opened time
    → actor_line s a words ≡ Ok b → FramesGoOn (with_line s n a b)
line_frames s n Display words b opened time kept is =
    let m = mapped_ok body.Display (display_line s words) b is in
    frames_at s n Display (body.Display m.a) b m.value (display_frames s n Display m.a opened time kept
    (ap (display_line s) (display_spelt s words m.a m.given) ∙ m.given))
line_frames s n (Session a) words b opened time kept is =
    let m = mapped_ok body.Session (session_line s a words) b is in
    frames_at s n (Session a) (body.Session m.a) b m.value
    (record { opened = opened; time = time; kept = passed s n (Session a) (body.Session m.a) opened time refl refl (λ o t k c later. refl) kept })
line_frames s n (Probe p) words b opened time kept is =
    let m = mapped_ok body.Probe (probe_line s.version words) b is in
    frames_at s n (Probe p) (body.Probe m.a) b m.value (record
    { opened = opened; time = time; kept = passed s n (Probe p) (body.Probe m.a) opened time refl refl (λ o t k c later. refl) kept })

-- all of a body

-- what the lines before line n keep: their numbers rise up to a last one, frames go on, and each line is played
pub record BodyKept (h : Script) (us : List ScriptLine) (n : ℕ) : Type 0 where
  pub last : ℕ
  pub below : last < n
  pub rise : (later : List ScriptLine) → rise_from 0 (us ++ later) ≡ rise_from last later
  pub counted : (c : ℕ) → n ≤ c + 1 → list_all (λ (next : ScriptLine). nat_le next.number c) us ≡ true
  pub frames : FramesGoOn (with_lines h us)
  pub played : list_all (λ (next : ScriptLine). is_played h.setup next.actor next.body) us ≡ true
  pub early : h.version ≡ 1 → list_all is_of_first_version us ≡ true
  pub unscaled : nat_lt h.version RATIO_SINCE ≡ true → list_all sets_no_ratio us ≡ true

pub body_empty : (h : Script) (n : ℕ) → 0 < n → BodyKept h [] n
body_empty h n some = record {
  last = 0;
  below = some;
  rise = λ later. refl;
  counted = λ c few. refl;
  frames = record { opened = false; time = 0; kept = record { begun = refl; last = refl; judged = λ later. refl } };
  played = refl;
  early = λ first. refl;
  unscaled = λ early. refl;
}

pub body_skipped : (h : Script) (us : List ScriptLine) (n : ℕ) → BodyKept h us n → BodyKept h us (n + 1)
body_skipped h us n kept = record {
  last = kept.last;
  below = (let b = kept.below in omega arith);
  rise = kept.rise;
  counted = λ c few. kept.counted c (omega arith);
  frames = kept.frames;
  played = kept.played;
  early = kept.early;
  unscaled = kept.unscaled;
}

below_count : (n c : ℕ) → n + 1 ≤ c + 1 → nat_le n c ≡ true
below_count n c few = grind (arith, nat_tests)

above_last : (last n : ℕ) → last < n → nat_lt last n ≡ true
above_last last n less = grind (arith, nat_tests)

pub body_line_kept : (h : Script) (us : List ScriptLine) (n : ℕ) (words : List Word) (u : Script) (a : Again h us us n n words u)
    → h.setup.sessions ≡ length h.sessions → h.setup.probes ≡ length h.probes → BodyKept h us n
    → BodyKept h (us ++ record { number = n; actor = a.actor; body = a.body } ∷ []) (n + 1)
body_line_kept h us n words u a many probed kept =
    let x : ScriptLine = record { number = n; actor = a.actor; body = a.body } in
    record {
      last = n;
      below = omega arith;
      rise = λ later. ap (rise_from 0) (append_assoc us (x ∷ []) later) ∙ kept.rise (x ∷ later)
          ∙ ap (λ b. b && rise_from n later) (above_last kept.last n kept.below);
      counted = λ c few. all-more (λ next. nat_le next.number c) us x (kept.counted c (omega arith)) (below_count n c few);
      frames = line_frames (with_lines h us) n a.actor a.rest a.body kept.frames.opened kept.frames.time kept.frames.kept a.line;
      played = all-more (λ next. is_played h.setup next.actor next.body) us x kept.played
          (line_played (with_lines h us) a.actor a.rest a.body many (actor_declared h a.first a.actor many probed a.named) a.line);
      unscaled = λ early. all-more sets_no_ratio us x (kept.unscaled early) (line_unscaled (with_lines h us) n a.actor a.rest a.body early a.line);
      early = λ first. all-more is_of_first_version us x (kept.early first) (line_early (with_lines h us) n a.actor a.rest a.body first a.line);
    }
