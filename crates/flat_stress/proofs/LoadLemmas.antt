-- The text of each load is a script.
use Rattle.std.proofs.Common.{◌≡◌, ℕ, zero, suc, ◌+◌, ◌-◌, ◌*◌, ◌<◌, ◌≤◌, false, nat_lt, List, [], ◌∷◌, ◌++◌, length, map, Result, Ok, refl, sym, ◌∙◌, ap}
use Rattle.std.proofs.Common.{codes, arith, append-nil, append_assoc, length-append}
use Rattle.std.specs.List.{flat_map, range_with_len}
use Rattle.std.specs.Fmt.{digits}
use Rattle.std.proofs.lemmas.Bool.Decides.{nat_tests}
use Rattle.std.proofs.lemmas.List.{map-append}
use Rattle.flat_forms.specs.declared.lines.TextPart.TheVariants as part
use Rattle.flat_places.specs.declared.script.Script.{Script}
use Rattle.flat_script.specs.declared.script.ScriptFault.{ScriptFault}
use Rattle.flat_forms.specs.Head.{empty}
use Rattle.flat_forms.specs.Body.{dones}
use Rattle.flat_script.specs.Grammar.{lines_read, text_read, IsScript}
use Rattle.flat_print.proofs.lemmas.TextLemmas.{AllLines, AllLines-append}
use Rattle.flat_print.proofs.lemmas.AgainLemmas.{with_lines}
use Rattle.flat_stress.specs.Words.{session, pair, from_to}
use Rattle.flat_page.specs.Words.{number, text_of, line_of}
use Rattle.flat_places.specs.Forms.{Word}
use Rattle.flat_stress.specs.Load.{head, host, guest, frame, later, load_text}
use Rattle.flat_stress.specs.Laws.{LoadsAreScripts, LoadsHaveTheirFrames}
use Rattle.flat_stress.proofs.LineLemmas.{line_good, lines_of_text, text_fits, tested, number_solid, named_solid}
use Rattle.flat_stress.proofs.PlaceLemmas.{start}
use Rattle.flat_stress.proofs.SaidLemmas.{host_said, guests_said}
use Rattle.flat_stress.proofs.AfterLemmas.{Frames, After, closed, then_after, said_after, frame_after, rounds_after}

-- the head

each_good : (f : ℕ → List Word) (first n : ℕ) → ((i : ℕ) → first ≤ i → i < first + n → AllLines (f i ∷ [])) → AllLines (map f (range_with_len first n))
each_good f first zero all = tt
each_good f first (suc n) all = ((all first (omega arith) (omega arith)).0, each_good f (first + 1) n (λ i low high. all i (omega arith) (omega arith)))

head_good : AllLines head
head_good =
    let of_session : ℕ → List Word = λ i. codes "session" ∷ session i ∷ [] in
    let of_pair : ℕ → List Word = λ i. codes "pair" ∷ pair i ∷ session 1 ∷ session i ∷ [] in
    let one : List (List Word) = (codes "flatland" ∷ number 1 ∷ []) ∷ (codes "display" ∷ number 1000 ∷ number 1000 ∷ []) ∷ [] in
    let two : List (List Word) = map of_session (from_to 1 8) in
    let three : List (List Word) = (codes "pair" ∷ pair 1 ∷ codes "display" ∷ session 1 ∷ []) ∷ [] in
    let four : List (List Word) = map of_pair (from_to 2 8) in
    let word = tested (codes "display") refl refl in
    let first : AllLines one = (
      line_good 102 _ _ refl (tested (codes "flatland") refl refl) (number_solid 1 (omega arith), tt) (omega arith),
      (line_good 100 _ _ refl word (number_solid 1000 (omega arith), (number_solid 1000 (omega arith), tt)) (omega arith), tt),
    ) in
    let second : AllLines two = each_good of_session 1 8
    (λ i low high. (line_good 115 _ _ refl (tested (codes "session") refl refl) (named_solid 83 i refl (omega arith), tt) (omega arith), tt)) in
    let third : AllLines three = (
      line_good 112 _ _ refl (tested (codes "pair") refl refl)
          (named_solid 116 1 refl (omega arith), (word, (named_solid 83 1 refl (omega arith), tt))) (omega arith),
      tt,
    ) in
    let fourth : AllLines four = each_good of_pair 2 7 (λ i low
    high. (
      line_good 112 _ _ refl (tested (codes "pair") refl refl)
          (named_solid 116 i refl (omega arith), (named_solid 83 1 refl (omega arith), (named_solid 83 i refl (omega arith), tt))) (omega arith),
      tt,
    )) in
    let five : List (List Word) = (codes "run" ∷ []) ∷ [] in
    let fifth : AllLines five = (line_good 114 _ _ refl (tested (codes "run") refl refl) tt (omega arith), tt) in
    AllLines-append (one ++ two ++ three ++ four) five (AllLines-append (one ++ two ++ three) four
    (AllLines-append (one ++ two) three (AllLines-append one two first second) third) fourth) fifth

head_read : (rest : List (List ℕ)) → lines_read 1 (part.Start, empty) (map line_of head ++ rest) ≡ lines_read 20 (part.Body, with_lines start []) rest
unfolding start digits
head_read rest = refl

-- the lines behind the head
abbrev acts : ℕ → List (List Word)
acts n = host ++ flat_map guest (from_to 2 8) ++ frame 1 ++ flat_map later (from_to 2 n)

host_many : length host ≡ 32
host_many = refl

guests_many : length (flat_map guest (from_to 2 8)) ≡ 1372
guests_many = refl

later_many : (n k : ℕ) → length (flat_map later (range_with_len k n)) ≡ 24 * n
later_many zero k = refl
later_many (suc n) k = omega (arith, length-append (later k) (flat_map later (range_with_len (k + 1) n)), later_many n (k + 1))

no_frames : Frames [] 0 0
no_frames = record { begins = refl; last = refl; ends = refl }

first_after : After [] 20 (host ++ flat_map guest (from_to 2 8) ++ frame 1) 1
first_after =
    let guests : List (List Word) = flat_map guest (from_to 2 8) in
    let a = said_after host host_said [] 20 0 no_frames (omega (arith, host_many)) in
    let b = then_after [] 20 host guests 0 0 a (said_after guests guests_said a.behind (20 + length host) 0 a.frames
    (omega (arith, a.many, host_many, guests_many))) in
    then_after [] 20 (host ++ guests) (frame 1) 0 1 b (frame_after b.behind (20 + length (host ++ guests)) 0 b.frames (omega arith)
    (omega (arith, b.many, length-append host guests, host_many, guests_many)))

first_many : length (host ++ flat_map guest (from_to 2 8) ++ frame 1) ≡ 1406
first_many = omega (
  arith,
  length-append (host ++ flat_map guest (from_to 2 8)) (frame 1),
  length-append host (flat_map guest (from_to 2 8)),
  host_many,
  guests_many,
)

acts_after : (n : ℕ) → 1 ≤ n → n ≤ 500 → After [] 20 (acts n) n
acts_after n some few =
    let first : List (List Word) = host ++ flat_map guest (from_to 2 8) ++ frame 1 in
    let x = first_after in
    then_after [] 20 first (flat_map later (from_to 2 n)) 1 n x
    (rounds_after (n + 1 - 2) 1 n (omega arith) x.behind (20 + length first) x.frames few (omega (arith, x.many, first_many)))

within : (m n : ℕ) → 1 ≤ n → n ≤ 500 → m ≡ 1406 + 24 * (n + 1 - 2) → m ≤ 13382
within m n some few is = omega arith

acts_many : (n : ℕ) → 1 ≤ n → n ≤ 500 → length (acts n) ≤ 13382
acts_many n some few =
    let first : List (List Word) = host ++ flat_map guest (from_to 2 8) ++ frame 1 in
    let rest : List (List Word) = flat_map later (from_to 2 n) in
    within (length (acts n)) n some few (length-append first rest ∙ ap (λ k. k + length rest) first_many ∙ ap (λ k. 1406 + k) (later_many (n + 1 - 2) 2))

-- the whole

text_is : (wss : List (List Word)) → AllLines wss → length wss ≤ 16000 → text_read (text_of wss) ≡ lines_read 1 (part.Start, empty) (map line_of wss)
text_is wss good few =
    let fits : length (text_of wss) ≤ 16777216 = omega (arith, text_fits wss good) in
    let test : nat_lt 16777216 (length (text_of wss)) ≡ false = grind (arith, nat_tests) in
    rw test (ap (lines_read 1 (part.Start, empty)) (lines_of_text wss good))

-- what the head and such lines are a text of
record Made (wss : List (List Word)) (n : ℕ) : Type 0 where
  pub script : Script
  pub is : IsScript (text_of (head ++ wss)) script
  pub sessions : script.setup.sessions ≡ 8
  pub frames : dones script ≡ n

start_sessions : start.setup.sessions ≡ 8
unfolding start
start_sessions = refl

made : (wss : List (List Word)) (n : ℕ) → After [] 20 wss n → length wss ≤ 13382 → Made wss n
made wss n x few =
    let made : Script = record (with_lines start x.behind) { count = 20 + length wss - 1 } in
    let shut = closed x.behind n x.frames in
    let ended : lines_read (20 + length wss) (part.Body, with_lines start x.behind) [] ≡ Ok made = rw shut refl in
    let lines : map line_of (head ++ wss) ≡ map line_of head ++ (map line_of wss ++ []) =
    map-append line_of head wss ∙ ap (λ t. map line_of head ++ t) (sym (append-nil (map line_of wss))) in
    record {
      script = made;
      is =
          text_is (head ++ wss) (AllLines-append head wss head_good x.good) (omega (arith, length-append head wss, head_many))
          ∙ ap (lines_read 1 (part.Start, empty)) lines ∙ head_read (map line_of wss ++ []) ∙ x.read [] ∙ ended;
      sessions = start_sessions;
      frames = x.frames.ends;
    }
  where
    head_many : length head ≡ 19
    head_many = refl

four_parts : (h o g f l : List (List Word)) → h ++ o ++ g ++ f ++ l ≡ h ++ (o ++ g ++ f ++ l)
four_parts h o g f l = ap (λ t. t ++ f ++ l) (append_assoc h o g) ∙ ap (λ t. t ++ l) (append_assoc h (o ++ g) f) ∙ append_assoc h (o ++ g ++ f) l

load_made : (n : ℕ) → 1 ≤ n → n ≤ 500 → Made (acts n) n
load_made n some few = made (acts n) n (acts_after n some few) (acts_many n some few)

load_is : (n : ℕ) → load_text n ≡ text_of (head ++ acts n)
unfolding load_text
load_is n = ap text_of (four_parts head host (flat_map guest (from_to 2 8)) (frame 1) (flat_map later (from_to 2 n)))

pub loads_are_scripts : LoadsAreScripts
loads_are_scripts n some few = let x = load_made n some few in (x.script, ap text_read (load_is n) ∙ x.is, x.sessions)

same_script : (r : Result Script ScriptFault) (s t : Script) → r ≡ Ok s → r ≡ Ok t → s ≡ t
same_script r s t one other = cc

pub loads_have_their_frames : LoadsHaveTheirFrames
loads_have_their_frames n script some few is =
    let x = load_made n some few in
    ap dones (same_script (text_read (text_of (head ++ acts n))) script x.script (ap text_read (sym (load_is n)) ∙ is) x.is) ∙ x.frames
