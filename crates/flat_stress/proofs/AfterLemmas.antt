-- Lines of the load one after another, and what they make of a body.
use Rattle.std.proofs.Common.{◌≡◌, ℕ, zero, suc, ◌+◌, ◌*◌, ◌^◌, ◌<◌, ◌≤◌, max, true, false, cond, nat_lt, nat_le, List, [], ◌∷◌, ◌++◌, length, map, Some, Ok}
use Rattle.std.proofs.Common.{refl, sym, ◌∙◌, ap, subst, codes, arith, append-nil, append_assoc, length-append}
use Rattle.std.specs.List.{flat_map, filter_map, range_with_len}
use Rattle.std.proofs.lemmas.Bool.Decides.{nat_tests}
use Rattle.std.proofs.lemmas.Grind.{fold-append}
use Rattle.std.proofs.lemmas.List.{map-append}
use Rattle.std.proofs.lemmas.List.Elements.{filter_map-append}
use Rattle.std.proofs.lemmas.List.Sums.{count_by-le-length}
use Rattle.flat_base.specs.declared.ids.Actor.{Actor}
use Rattle.flat_base.specs.declared.ids.Actor.TheVariants.{Display, Session}
use Rattle.flat_scene.specs.declared.script.LineBody.{LineBody}
use Rattle.flat_scene.specs.declared.script.LineBody.TheVariants as body
use Rattle.flat_scene.specs.declared.script.DisplayLine.TheVariants as display
use Rattle.flat_scene.specs.declared.script.SessionLine.{SessionLine}
use Rattle.flat_scene.specs.declared.script.ScriptLine.{ScriptLine}
use Rattle.flat_text.proofs.lemmas.NumberLemmas.{natural-decimal}
use Rattle.flat_forms.specs.declared.lines.TextPart.TheVariants as part
use Rattle.flat_places.specs.Forms.{mapped, Word}
use Rattle.flat_places.specs.Names.{actor_named, is_actor}
use Rattle.flat_forms.specs.Body.{time_begun, ends_frame, begin_times, dones, greatest, is_open, lines_of_actor, display_line, actor_line}
use Rattle.flat_forms.specs.Lines.{Sofar, words_read}
use Rattle.flat_script.specs.Grammar.{lines_read}
use Rattle.flat_print.proofs.lemmas.TextLemmas.{IsLine, AllLines, AllLines-append}
use Rattle.flat_print.proofs.lemmas.AgainLemmas.{with_lines}
use Rattle.flat_page.specs.Words.{number, line_of}
use Rattle.flat_stress.specs.Load.{frame, later}
use Rattle.flat_stress.proofs.LineLemmas.{line_good, tested, number_solid}
use Rattle.flat_stress.proofs.PlaceLemmas.{start}
use Rattle.flat_stress.proofs.SaidLemmas.{AllSaid, moves, moves_said}

-- a line that is read

pub line_goes_on : (k : ℕ) (sofar next : Sofar) (ws : List Word) (rest : List (List ℕ)) → IsLine ws → words_read k sofar ws ≡ Ok next
    → lines_read k sofar (line_of ws ∷ rest) ≡ lines_read (k + 1) next rest
line_goes_on k sofar next ws rest good is = rw (good.plain, good.short, good.kept, good.words, is) refl

-- the lines so far, and one more
abbrev more : List ScriptLine → ℕ → Actor → LineBody → List ScriptLine
more us k a b = us ++ record { number = k; actor = a; body = b } ∷ []

few_lines : (us : List ScriptLine) (a : Actor) → length us < 65536 → nat_lt (lines_of_actor (with_lines start us) a) 65536 ≡ true
few_lines us a few = let most = count_by-le-length (λ (l : ScriptLine). is_actor l.actor a) us in below (lines_of_actor (with_lines start us) a) (omega arith)
  where
    below : (n : ℕ) → n < 65536 → nat_lt n 65536 ≡ true
    below n fits = grind (arith, nat_tests)

body_goes_on : (us : List ScriptLine) (k : ℕ) (a : Actor) (b : LineBody) (w : Word) (ws : List Word) (rest : List (List ℕ)) → IsLine (w ∷ ws)
    → length us < 65536
    → actor_named start w ≡ Some a
    → actor_line (with_lines start us) a ws ≡ Ok b → lines_read k (part.Body, with_lines start us) (line_of (w ∷ ws) ∷ rest)
    ≡ lines_read (k + 1) (part.Body, with_lines start (more us k a b)) rest
body_goes_on us k a b w ws rest good few named is =
    line_goes_on k (part.Body, with_lines start us) (part.Body, with_lines start (more us k a b)) (w ∷ ws) rest good
    (let fits = few_lines us a few in rw (named, fits, is) refl)

-- frames

-- so many frames were begun, each at the time of its number, and so many are done
pub record Frames (us : List ScriptLine) (begun ended : ℕ) : Type 0 where
  pub begins : length (begin_times (with_lines start us)) ≡ begun
  pub last : greatest (begin_times (with_lines start us)) ≡ begun
  pub ends : dones (with_lines start us) ≡ ended

times_after : (us : List ScriptLine) (k : ℕ) (a : Actor) (b : LineBody)
    → begin_times (with_lines start (more us k a b)) ≡ begin_times (with_lines start us)
    ++ filter_map (λ (l : ScriptLine). time_begun l.body) (record { number = k; actor = a; body = b } ∷ [])
times_after us k a b = filter_map-append (λ (l : ScriptLine). time_begun l.body) us (record { number = k; actor = a; body = b } ∷ [])

dones_after : (us : List ScriptLine) (k : ℕ) (a : Actor) (b : LineBody)
    → dones (with_lines start (more us k a b)) ≡ dones (with_lines start us) + cond (ends_frame b) 1 0
dones_after us k a b = fold-append (λ n (l : ScriptLine). n + cond (ends_frame l.body) 1 0) 0 us (record { number = k; actor = a; body = b } ∷ [])

said_frames : (us : List ScriptLine) (k : ℕ) (a : Actor) (l : SessionLine) (begun ended : ℕ) → Frames us begun ended
    → Frames (more us k a (body.Session l)) begun ended
said_frames us k a l begun ended frames =
    let times : begin_times (with_lines start (more us k a (body.Session l))) ≡ begin_times (with_lines start us) =
    times_after us k a (body.Session l) ∙ append-nil _ in
    record {
      begins = ap length times ∙ frames.begins;
      last = ap greatest times ∙ frames.last;
      ends = dones_after us k a (body.Session l) ∙ omega (arith, frames.ends);
    }

begin_frames : (us : List ScriptLine) (k f : ℕ) → Frames us f f → Frames (more us k Display (body.Display (display.Begin (f + 1)))) (f + 1) f
begin_frames us k f frames =
    let b : LineBody = body.Display (display.Begin (f + 1)) in
    let before = begin_times (with_lines start us) in
    let times : begin_times (with_lines start (more us k Display b)) ≡ before ++ (f + 1) ∷ [] = times_after us k Display b in
    record {
      begins = ap length times ∙ omega (arith, length-append before ((f + 1) ∷ []), frames.begins);
      last = ap greatest times ∙ fold-append max 0 before ((f + 1) ∷ []) ∙ ap (λ m. max m (f + 1)) frames.last ∙ next f;
      ends = dones_after us k Display b ∙ omega (arith, frames.ends);
    }
  where
    next : (m : ℕ) → max m (m + 1) ≡ m + 1
    next m = grind (arith, nat_tests)

done_frames : (us : List ScriptLine) (k f : ℕ) → Frames us (f + 1) f → Frames (more us k Display (body.Display display.Done)) (f + 1) (f + 1)
done_frames us k f frames =
    let b : LineBody = body.Display display.Done in
    let times : begin_times (with_lines start (more us k Display b)) ≡ begin_times (with_lines start us) = times_after us k Display b ∙ append-nil _ in
    record { begins = ap length times ∙ frames.begins; last = ap greatest times ∙ frames.last; ends = dones_after us k Display b ∙ omega (arith, frames.ends) }

-- no frame is open
pub closed : (us : List ScriptLine) (f : ℕ) → Frames us f f → is_open (with_lines start us) ≡ false
closed us f frames = none (dones (with_lines start us)) (length (begin_times (with_lines start us))) (omega (arith, frames.begins, frames.ends))
  where
    none : (d n : ℕ) → d ≡ n → nat_lt d n ≡ false
    none d n same = grind (arith, nat_tests)

opened : (us : List ScriptLine) (f : ℕ) → Frames us (f + 1) f → is_open (with_lines start us) ≡ true
opened us f frames = some (dones (with_lines start us)) (length (begin_times (with_lines start us))) (omega (arith, frames.begins, frames.ends))
  where
    some : (d n : ℕ) → n ≡ d + 1 → nat_lt d n ≡ true
    some d n one = grind (arith, nat_tests)

begin_read : (us : List ScriptLine) (f : ℕ) → Frames us f f → f < 500
    → display_line (with_lines start us) (codes "begin" ∷ number (f + 1) ∷ []) ≡ Ok (display.Begin (f + 1))
begin_read us f frames few =
    let shut = closed us f frames in
    let room = below (length (begin_times (with_lines start us))) 512 (omega (arith, frames.begins)) in
    let is = natural-decimal (f + 1) (omega arith) in
    let fits = below (f + 1) (2 ^ 63) (omega arith) in
    let rises = least (greatest (begin_times (with_lines start us))) (f + 1) (omega (arith, frames.last)) in
    rw (shut, room, is, fits, rises) refl
  where
    below : (m n : ℕ) → m < n → nat_lt m n ≡ true
    below m n h = grind (arith, nat_tests)

    least : (m n : ℕ) → m ≤ n → nat_le m n ≡ true
    least m n h = grind (arith, nat_tests)

done_read : (us : List ScriptLine) (f : ℕ) → Frames us (f + 1) f → display_line (with_lines start us) (codes "done" ∷ []) ≡ Ok display.Done
done_read us f frames = let open_now = opened us f frames in rw open_now refl

-- what lines from line k on make of a body with these lines so far, where so many frames are begun and done at their end
pub record After (us : List ScriptLine) (k : ℕ) (wss : List (List Word)) (f : ℕ) : Type 0 where
  pub good : AllLines wss
  pub behind : List ScriptLine
  pub frames : Frames behind f f
  pub many : length behind ≡ length us + length wss
  pub read : (rest : List (List ℕ)) → lines_read k (part.Body, with_lines start us) (map line_of wss ++ rest)
      ≡ lines_read (k + length wss) (part.Body, with_lines start behind) rest

-- no line
pub none_after : (us : List ScriptLine) (k f : ℕ) → Frames us f f → After us k [] f
none_after us k f frames = record {
  good = tt;
  behind = us;
  frames = frames;
  many = omega arith;
  read = λ rest. ap (λ i. lines_read i (part.Body, with_lines start us) rest) (omega arith);
}

-- some lines, and others behind them
pub then_after : (us : List ScriptLine) (k : ℕ) (xs ys : List (List Word)) (f g : ℕ) (x : After us k xs f) → After x.behind (k + length xs) ys g
    → After us k (xs ++ ys) g
then_after us k xs ys f g x y = record {
  good = AllLines-append xs ys x.good y.good;
  behind = y.behind;
  frames = y.frames;
  many = omega (arith, y.many, x.many, length-append xs ys);
  read = λ rest.
      ap (λ t. lines_read k (part.Body, with_lines start us) (t ++ rest)) (map-append line_of xs ys)
      ∙ ap (lines_read k (part.Body, with_lines start us)) (append_assoc (map line_of xs) (map line_of ys) rest)
      ∙ x.read (map line_of ys ++ rest) ∙ y.read rest
      ∙ ap (λ i. lines_read i (part.Body, with_lines start y.behind) rest) (omega (arith, length-append xs ys));
}

-- a line at the front
line_after : (us : List ScriptLine) (k : ℕ) (a : Actor) (b : LineBody) (w : Word) (ws : List Word) (wss : List (List Word)) (f : ℕ) → IsLine (w ∷ ws)
    → length us < 65536 → actor_named start w ≡ Some a
    → actor_line (with_lines start us) a ws ≡ Ok b → After (more us k a b) (k + 1) wss f → After us k ((w ∷ ws) ∷ wss) f
line_after us k a b w ws wss f good few named is x = record {
  good = (good, x.good);
  behind = x.behind;
  frames = x.frames;
  many = omega (arith, x.many, length-append us (record { number = k; actor = a; body = b } ∷ []));
  read = λ rest.
      body_goes_on us k a b w ws (map line_of wss ++ rest) good few named is ∙ x.read rest
      ∙ ap (λ i. lines_read i (part.Body, with_lines start x.behind) rest) (omega arith);
}

-- what sessions say
pub said_after : (wss : List (List Word)) → AllSaid wss → (us : List ScriptLine) (k f : ℕ) → Frames us f f → length us + length wss ≤ 65536 → After us k wss f
said_after [] all us k f frames few = none_after us k f frames
said_after (ws ∷ wss) all us k f frames few =
    let s = all.0 in
    let b : LineBody = body.Session s.what in
    let P : List Word → Type 0 = λ t. IsLine t → After us k (t ∷ wss) f in
    let read : actor_line (with_lines start us) (Session s.who) s.words ≡ Ok b = ap (λ r. mapped body.Session r) s.read in
    let rest = said_after wss all.1 (more us k (Session s.who) b) (k + 1) f (said_frames us k (Session s.who) s.what f f frames)
    (omega (arith, few, length-append us (record { number = k; actor = Session s.who; body = b } ∷ []))) in
    subst P (sym s.begins) (λ good. line_after us k (Session s.who) b s.name s.words wss f good (omega arith) s.named read rest) s.good

-- a frame
pub frame_after : (us : List ScriptLine) (k f : ℕ) → Frames us f f → f < 500 → length us + 2 ≤ 65536 → After us k (frame (f + 1)) (f + 1)
frame_after us k f frames few room =
    let begun : LineBody = body.Display (display.Begin (f + 1)) in
    let done : LineBody = body.Display display.Done in
    let mid = more us k Display begun in
    let open_frames = begin_frames us k f frames in
    let many = length-append us (record { number = k; actor = Display; body = begun } ∷ []) in
    let word = tested (codes "display") refl refl in
    line_after us k Display begun (codes "display") (codes "begin" ∷ number (f + 1) ∷ []) ((codes "display" ∷ codes "done" ∷ []) ∷ []) (f + 1)
    (line_good 100 _ _ refl word (tested (codes "begin") refl refl, (number_solid (f + 1) (omega arith), tt)) (omega arith)) (omega arith) refl
    (ap (mapped body.Display) (begin_read us f frames few))
    (line_after mid (k + 1) Display done (codes "display") (codes "done" ∷ []) [] (f + 1)
    (line_good 100 _ _ refl word (tested (codes "done") refl refl, tt) (omega arith)) (omega arith) refl
    (ap (mapped body.Display) (done_read mid f open_frames))
    (none_after (more mid (k + 1) Display done) (k + 1 + 1) (f + 1) (done_frames mid (k + 1) f open_frames)))

-- what is said before a later frame, and the frame
later_after : (us : List ScriptLine) (k f : ℕ) → Frames us f f → f < 500 → length us + 24 ≤ 65536 → After us k (later (f + 1)) (f + 1)
later_after us k f frames few room =
    let x = said_after (moves (f + 1)) (moves_said (f + 1) (omega arith)) us k f frames (omega arith) in
    then_after us k (moves (f + 1)) (frame (f + 1)) f (f + 1) x (frame_after x.behind (k + length (moves (f + 1))) f x.frames few (omega (arith, x.many)))

-- the frames behind frame f
pub rounds_after : (n f g : ℕ) → f + n ≡ g → (us : List ScriptLine) (k : ℕ) → Frames us f f → g ≤ 500 → length us + 24 * n ≤ 65536
    → After us k (flat_map later (range_with_len (f + 1) n)) g
rounds_after zero f g same us k frames few room = let P : ℕ → Type 0 =
    λ m. After us k [] m in subst P (let e : f ≡ g = omega arith in e) (none_after us k f frames)
rounds_after (suc n) f g same us k frames few room =
    let x = later_after us k f frames (omega arith) (omega arith) in
    then_after us k (later (f + 1)) (flat_map later (range_with_len (f + 1 + 1) n)) (f + 1) g x
    (rounds_after n (f + 1) g (omega arith) x.behind (k + length (later (f + 1))) x.frames few (omega (arith, x.many)))
