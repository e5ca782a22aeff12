-- The text that is printed of a script is read as that script, up to the numbers of its lines.
use Rattle.flat_page.specs.Words.{actor_name, line_of}
use Rattle.std.proofs.Common.{◌≡◌, ℕ, ◌+◌, ◌*◌, ◌-◌, ◌^◌, ◌≤◌, ◌⊎◌, inl, inr, Bool, true, false, cond, not, ◌&&◌, nat_lt, List, [], ◌∷◌, ◌++◌, length, map}
use Rattle.std.proofs.Common.{Result, Ok, Err, refl, sym, ◌∙◌, ap, codes, arith, subst, append_assoc, append-nil, length-append}
use Rattle.std.proofs.lemmas.List.{map-append}
use Rattle.std.proofs.lemmas.Bool.Decides.{nat_tests}
use Rattle.std.specs.Str.{bytes_eq}
use Rattle.std.specs.List.{list_all}
use Rattle.std.proofs.lemmas.Slice.Eq.{bytes_eq-Decides}
use Rattle.flat_base.specs.declared.ids.Actor.{Actor}
use Rattle.flat_base.specs.declared.ids.Actor.TheVariants.{Display, Session, Probe}
use Rattle.flat_scene.specs.declared.script.LineBody.{LineBody}
use Rattle.flat_scene.specs.declared.script.ScriptLine.{ScriptLine}
use Rattle.flat_text.specs.Pieces.{words_of, lines_of}
use Rattle.flat_places.specs.declared.kinds.FaultKind.TheVariants.{TooLong, NotAscii, LongLine, BadHead, BadOrder, UnknownVersion}
use Rattle.flat_places.specs.declared.script.Script.{Script}
use Rattle.flat_script.specs.declared.script.ScriptFault.{ScriptFault}
use Rattle.flat_forms.specs.declared.lines.TextPart.TheVariants as part
use Rattle.flat_places.specs.Forms.{Word, Reading, mapped, whole, give}
use Rattle.flat_forms.specs.Head.{empty, has_display, with_version, first_line, head_line, run_line, is_ready}
use Rattle.flat_places.specs.Places.{number_below, known_version, version}
use Rattle.flat_forms.specs.Body.{actor_line, body_line, is_open, with_line}
use Rattle.flat_forms.specs.Lines.{Sofar, words_read}
use Rattle.flat_script.specs.Grammar.{is_plain, is_skipped, line_read, lines_read, IsScript}
use Rattle.flat_print.specs.Print.{numbered, name_words, display_line_words, buffers_line_words, pair_line_words, fence_line_words, fed, line_words, body_words}
use Rattle.flat_print.specs.Print.{without_number, text_of, script_words, head_words, unnumbered, IsReadBack}
use Rattle.flat_forms.proofs.lemmas.FormLemmas.{mapped_ok, whole_ok, unless_ok, place_ok}
use Rattle.flat_print.proofs.lemmas.TextLemmas.{IsLine, AllLines, line_words_of, line_front, front_fits, spelled-words_of, lines_of_fed, AllLines-append}
use Rattle.flat_print.proofs.lemmas.TextLemmas.{room_of, length-fed, room_of-append, lines_room, lines_room-lines_of, skipped_none}
use Rattle.flat_print.proofs.lemmas.AgainLemmas.{with_lines, SameLines, times_same, dones_same, Again, body_again}
use Rattle.flat_print.proofs.lemmas.BodyWordLemmas.{actor_spelt, body_shown}
use Rattle.flat_forms.proofs.lemmas.StepLemmas.{Step, step_read, size_step, session_step, probe_step, buffers_step, pair_step, fence_step}
use Rattle.flat_forms.proofs.lemmas.FoundLemmas.{step_found}
use Rattle.flat_print.proofs.lemmas.OrderLemmas.{Chain, Ordered, ordered_empty, ordered_version, insert, lines_kept}
use Rattle.flat_print.proofs.ValueWords.{number_words}
use Rattle.std.specs.Fmt.{decimal}
use Rattle.flat_base.specs.declared.limits.TheConstants.{VERSION_MAX}
use Rattle.flat_scene.specs.Setups.{is_within}

-- one line of a text

pub record NextOk (n : ℕ) (sofar : Sofar) (l : List ℕ) (ls : List (List ℕ)) (s : Script) : Type 0 where
  pub next : Sofar
  pub read : line_read n sofar l ≡ Ok next
  pub rest : lines_read (n + 1) next ls ≡ Ok s

next_by : (n : ℕ) (sofar : Sofar) (l : List ℕ) (ls : List (List ℕ)) (s : Script) (r : Reading Sofar) → line_read n sofar l ≡ r
    → lines_read n sofar (l ∷ ls) ≡ Ok s → NextOk n sofar l ls s
next_by n sofar l ls s (Ok next) e is = record { next = next; read = e; rest = rw e at is }
next_by n sofar l ls s (Err k) e is = absurd (let wrong = rw e at is in cc)

pub next_ok : (n : ℕ) (sofar : Sofar) (l : List ℕ) (ls : List (List ℕ)) (s : Script) → lines_read n sofar (l ∷ ls) ≡ Ok s → NextOk n sofar l ls s
next_ok n sofar l ls s is = next_by n sofar l ls s (line_read n sofar l) refl is

goes_on : (n : ℕ) (sofar next : Sofar) (l : List ℕ) (ls : List (List ℕ)) → line_read n sofar l ≡ Ok next
    → lines_read n sofar (l ∷ ls) ≡ lines_read (n + 1) next ls
goes_on n sofar next l ls e = rw e refl

pub record Read (n : ℕ) (sofar next : Sofar) (l : List ℕ) : Type 0 where
  pub line : IsLine (words_of l)
  pub words : words_read n sofar (words_of l) ≡ Ok next

line_by : (n : ℕ) (sofar next : Sofar) (l : List ℕ) (p q r : Bool) → list_all is_plain l ≡ p → nat_lt 1024 (length l) ≡ q → is_skipped l ≡ r
    → cond {A = Reading Sofar} (not p) (Err NotAscii) (cond {A = Reading Sofar} q (Err LongLine)
    (cond {A = Reading Sofar} r (Ok sofar) (words_read n sofar (words_of l)))) ≡ Ok next → (sofar ≡ next) ⊎ Read n sofar next l
line_by n sofar next l false q r a b c is = absurd (cc)
line_by n sofar next l true true r a b c is = absurd (cc)
line_by n sofar next l true false true a b c is = inl (cc)
line_by n sofar next l true false false a b c is = inr (record { line = line_words_of l a b c; words = is })

pub line_ok : (n : ℕ) (sofar next : Sofar) (l : List ℕ) → line_read n sofar l ≡ Ok next → (sofar ≡ next) ⊎ Read n sofar next l
line_ok n sofar next l is = line_by n sofar next l (list_all is_plain l) (nat_lt 1024 (length l)) (is_skipped l) refl refl refl is

spelled_read : (n : ℕ) (sofar : Sofar) (ws : List Word) → IsLine ws → line_read n sofar (line_of ws) ≡ words_read n sofar ws
spelled_read n sofar ws good = let plain = good.plain in let short = good.short in let kept = good.kept in let words =
    good.words in rw (plain, short, kept, words) refl

-- the body

pub record BodyRun (h : Script) (us ms : List ScriptLine) (m : ℕ) (ls : List (List ℕ)) (s : Script) : Type 0 where
  pub more : List (List Word)
  pub us' : List ScriptLine
  pub ms' : List ScriptLine
  pub count : ℕ
  pub all : AllLines more
  pub room : room_of more ≤ lines_room ls
  pub same : SameLines us' ms'
  pub from : ℕ
  pub made : s ≡ record (with_lines h us') { count = from }
  pub words : map (line_words h) us' ≡ map (line_words h) us ++ more
  pub read : lines_read m (part.Body, with_lines h ms) (map line_of more) ≡ Ok (record (with_lines h ms') { count = count })

open_same : (h : Script) (us ms : List ScriptLine) → SameLines us ms → is_open (with_lines h ms) ≡ is_open (with_lines h us)
open_same h us ms same = let times = times_same us ms same in let ended = dones_same us ms same in rw (times, ended) refl

ended : (h : Script) (us ms : List ScriptLine) (n m : ℕ) (s : Script) (b : Bool) → SameLines us ms → is_open (with_lines h us) ≡ b
    → cond {A = Result Script ScriptFault} b (Err (record { line = n; kind = BadOrder })) (Ok (record (with_lines h us) { count = n - 1 })) ≡ Ok s
    → BodyRun h us ms m [] s
ended h us ms n m s true same at is = absurd (cc)
ended h us ms n m s false same at is =
    let e : record (with_lines h us) { count = n - 1 } ≡ s = cc in
    let closed : is_open (with_lines h ms) ≡ false = open_same h us ms same ∙ at in
    record {
      more = [];
      us' = us;
      ms' = ms;
      count = m - 1;
      all = tt;
      room = omega arith;
      same = same;
      from = n - 1;
      made = sym e;
      words = sym (append-nil (map (line_words h) us));
      read = rw closed refl;
    }

lines_more : (us ms : List ScriptLine) (x y : ScriptLine) → SameLines us ms → without_number x ≡ without_number y → SameLines (us ++ x ∷ []) (ms ++ y ∷ [])
lines_more us ms x y same e =
    record {
      same = map-append without_number us (x ∷ []) ∙ ap (λ l. l ++ without_number x ∷ []) same.same ∙ ap (λ l. map without_number ms ++ l ∷ []) e
          ∙ sym (map-append without_number ms (y ∷ []));
    }

-- the canonical words of a line that was read: they are read alike, and stand at its front
record Canonical (h : Script) (us ms : List ScriptLine) (n m : ℕ) (ws : List Word) (actor : Actor) (body : LineBody) : Type 0 where
  pub good : IsLine (line_words h (record { number = n; actor = actor; body = body }))
  pub fits : length (line_of (line_words h (record { number = n; actor = actor; body = body }))) ≤ length (line_of ws)
  pub read : body_line (with_lines h ms) m (line_words h (record { number = n; actor = actor; body = body })) ≡ Ok (with_line (with_lines h ms) m actor body)

some_words : (s : Script) (a : Actor) (ws : List Word) (b : LineBody) → actor_line s a ws ≡ Ok b → (v : Word) × (more : List Word) × (ws ≡ v ∷ more)
some_words s a (v ∷ more) b is = (v, more, refl)
some_words s Display [] b is = absurd (cc)
some_words s (Session t) [] b is = absurd (cc)
some_words s (Probe p) [] b is = absurd (cc)

canonical : (h : Script) (us ms : List ScriptLine) (n m : ℕ) (ws : List Word) (u : Script) → IsLine ws → (a : Again h us ms n m ws u)
    → Canonical h us ms n m ws a.actor a.body
canonical h us ms n m ws u good a =
    let shown = body_shown (with_lines h us) a.actor a.rest a.body a.line in
    let spelt : List Word = body_words h a.body in
    let name : actor_name h a.actor ≡ a.first = actor_spelt h a.first a.actor a.named in
    let some = some_words (with_lines h us) a.actor spelt a.body shown.again in
    let line : ws ≡ a.first ∷ (some.0 ∷ some.1 ++ shown.behind) = a.begins ∙ ap (λ t. a.first ∷ t) (shown.begins ∙ ap (λ t. t ++ shown.behind) some.2) in
    let same : actor_name h a.actor ∷ spelt ≡ a.first ∷ some.0 ∷ some.1 = ap (λ w. w ∷ spelt) name ∙ ap (λ t. a.first ∷ t) some.2 in
    let P : List Word → Type 0 = IsLine in
    record {
      good = subst P (sym same) (line_front a.first some.0 some.1 shown.behind (subst P line good));
      fits = (let short = front_fits a.first (some.0 ∷ some.1) shown.behind in let e = ap (λ t. length (line_of t)) line in
          let f = ap (λ t. length (line_of t)) same in omega arith);
      read = ap (λ w. body_line (with_lines h ms) m (w ∷ spelt)) name ∙ a.again spelt shown.again;
    }

one_line : (h : Script) (us ms : List ScriptLine) (n m : ℕ) (ls : List (List ℕ)) (l : List ℕ) (s u : Script) (good : IsLine (words_of l))
    → (a : Again h us ms n m (words_of l) u)
    → BodyRun h (us ++ record { number = n; actor = a.actor; body = a.body } ∷ []) (ms ++ record { number = m; actor = a.actor; body = a.body } ∷ []) (m + 1) ls
    s → BodyRun h us ms m (l ∷ ls) s
one_line h us ms n m ls l s u good a run =
    let x : ScriptLine = record { number = n; actor = a.actor; body = a.body } in
    let ws = line_words h x in
    let c = canonical h us ms n m (words_of l) u good a in
    let here : line_read m (part.Body, with_lines h ms) (line_of ws) ≡ Ok (part.Body, with_line (with_lines h ms) m a.actor a.body) =
    spelled_read m (part.Body, with_lines h ms) ws c.good ∙ ap (mapped (λ t. (part.Body, t))) c.read in
    let size = spelled-words_of l in
    record {
      more = ws ∷ run.more;
      us' = run.us';
      ms' = run.ms';
      count = run.count;
      all = (c.good, run.all);
      room = (let r = run.room in let f = c.fits in let e : length (line_of (words_of l)) ≡ length l = ap length size in omega arith);
      same = run.same;
      from = run.from;
      made = run.made;
      words = run.words ∙ ap (λ t. t ++ run.more) (map-append (line_words h) us (x ∷ [])) ∙ append_assoc (map (line_words h) us) (ws ∷ []) run.more;
      read = goes_on m (part.Body, with_lines h ms) (part.Body, with_line (with_lines h ms) m a.actor a.body) (line_of ws) (map line_of run.more) here
          ∙ run.read;
    }

skipped_line : (h : Script) (us ms : List ScriptLine) (m : ℕ) (l : List ℕ) (ls : List (List ℕ)) (s : Script) → BodyRun h us ms m ls s
    → BodyRun h us ms m (l ∷ ls) s
skipped_line h us ms m l ls s run = record {
  more = run.more;
  us' = run.us';
  ms' = run.ms';
  count = run.count;
  all = run.all;
  room = (let r = run.room in omega arith);
  same = run.same;
  from = run.from;
  made = run.made;
  words = run.words;
  read = run.read;
}

abbrev BodyRuns : Script → List (List ℕ) → Script → Type 0
BodyRuns h ls s = (us ms : List ScriptLine) (n m : ℕ) → SameLines us ms → lines_read n (part.Body, with_lines h us) ls ≡ Ok s → BodyRun h us ms m ls s

pub read_at : (n : ℕ) (a b : Sofar) (ls : List (List ℕ)) (s : Script) → a ≡ b → lines_read n b ls ≡ Ok s → lines_read n a ls ≡ Ok s
read_at n a b ls s e is = ap (λ x. lines_read n x ls) e ∙ is

body_by : (h : Script) (ls : List (List ℕ)) (us ms : List ScriptLine) (n m : ℕ) (s : Script) (l : List ℕ) (next : NextOk n (part.Body, with_lines h us) l ls s)
    → SameLines us ms
    → ((part.Body, with_lines h us) ≡ next.next) ⊎ Read n (part.Body, with_lines h us) next.next l → BodyRuns h ls s → BodyRun h us ms m (l ∷ ls) s
body_by h ls us ms n m s l next same (inl e) runs = skipped_line h us ms m l ls s
    (runs us ms (n + 1) m same (read_at (n + 1) (part.Body, with_lines h us) next.next ls s e next.rest))
body_by h ls us ms n m s l next same (inr r) runs =
    let t = mapped_ok (λ v. (part.Body, v)) (body_line (with_lines h us) n (words_of l)) next.next r.words in
    let a = body_again h us ms n m (words_of l) t.a same t.given in
    let x : ScriptLine = record { number = n; actor = a.actor; body = a.body } in
    let y : ScriptLine = record { number = m; actor = a.actor; body = a.body } in
    let here : (part.Body, with_lines h (us ++ x ∷ [])) ≡ next.next = ap (λ v. (part.Body, v)) (sym a.read) ∙ t.value in
    one_line h us ms n m ls l s t.a r.line a (runs (us ++ x ∷ []) (ms ++ y ∷ []) (n + 1) (m + 1) (lines_more us ms x y same refl)
    (read_at (n + 1) (part.Body, with_lines h (us ++ x ∷ [])) next.next ls s here next.rest))

pub body_run : (h : Script) (ls : List (List ℕ)) (us ms : List ScriptLine) (n m : ℕ) (s : Script) → SameLines us ms
    → lines_read n (part.Body, with_lines h us) ls ≡ Ok s → BodyRun h us ms m ls s
body_run h [] us ms n m s same is = ended h us ms n m s (is_open (with_lines h us)) same refl is
body_run h (l ∷ ls) us ms n m s same is =
    let next = next_ok n (part.Body, with_lines h us) l ls s is in
    body_by h ls us ms n m s l next same (line_ok n (part.Body, with_lines h us) next.next l next.read)
    (λ us2 ms2 n2 m2 same2 is2. body_run h ls us2 ms2 n2 m2 s same2 is2)

-- the head

pub record HeadRun (version : ℕ) (s : Script) (most : ℕ) : Type 0 where
  pub h : Script
  pub k : ℕ
  pub o : Ordered version h k
  pub none : h.lines ≡ []
  pub ready : is_ready h ≡ true
  pub n : ℕ
  pub rest : List (List ℕ)
  pub read : lines_read n (part.Body, h) rest ≡ Ok s
  pub fits : k + 4 + lines_room rest ≤ most

abbrev HeadRuns : ℕ → List (List ℕ) → Script → ℕ → Type 0
HeadRuns version ls s most = (u : Script) (k n : ℕ) → Ordered version u k → u.lines ≡ [] → k + lines_room ls ≤ most → lines_read n (part.Head, u) ls ≡ Ok s
    → HeadRun version s most

run_length : (l : List ℕ) (w : Word) (words : List Word) → words_of l ≡ w ∷ words → bytes_eq w (codes "run") ≡ true → words ≡ [] → length l ≡ 3
run_length l w words is same none =
    let e : w ≡ codes "run" = (bytes_eq-Decides w (codes "run")).0 same in
    ap length (sym (spelled-words_of l) ∙ ap line_of is ∙ ap (λ v. line_of (v ∷ words)) e ∙ ap (λ v. line_of (codes "run" ∷ v)) none)

head_by : {version : ℕ} (u : Script) (k n most : ℕ) (s : Script) (l : List ℕ) (ls : List (List ℕ)) (next : Sofar) (w : Word) (words : List Word) (b : Bool)
    → words_of l ≡ w ∷ words → IsLine (words_of l) → bytes_eq w (codes "run") ≡ b
    → Ordered version u k → u.lines ≡ [] → k + lines_room (l ∷ ls) ≤ most → lines_read (n + 1) next ls ≡ Ok s
    → cond b (mapped (λ _. (part.Body, u)) (run_line u words)) (mapped (λ t. (part.Head, t)) (head_line u (w ∷ words))) ≡ Ok next → HeadRuns version ls s most
    → HeadRun version s most
head_by u k n most s l ls next w words true is good at o none fits rest read runs =
    let m = mapped_ok (λ _. (part.Body, u)) (run_line u words) next read in
    let tested = unless_ok BadHead (is_ready u) (whole (give (tt {0})) words) m.a m.given in
    let over = whole_ok (give (tt {0})) words m.a tested.given in
    let long = run_length l w words is at over.left in
    record {
      h = u;
      k = k;
      o = o;
      none = none;
      ready = tested.passed;
      n = n + 1;
      rest = ls;
      read = read_at (n + 1) (part.Body, u) next ls s m.value rest;
      fits = omega arith;
    }
head_by u k n most s l ls next w words false is good at o none fits rest read runs =
    let m = mapped_ok (λ t. (part.Head, t)) (head_line u (w ∷ words)) next read in
    let step = step_found u (w ∷ words) m.a m.given in
    let line : IsLine (w ∷ words) = let P : List Word → Type 0 = λ v. IsLine v in subst P is good in
    let long : length (line_of (w ∷ words)) ≡ length l = ap length (ap line_of (sym is) ∙ spelled-words_of l) in
    runs m.a (k + 1 + length (line_of (w ∷ words))) (n + 1) (insert u (w ∷ words) m.a k line o step) (lines_kept u (w ∷ words) m.a step ∙ none) (omega arith)
    (read_at (n + 1) (part.Head, m.a) next ls s m.value rest)

head_words_by : {version : ℕ} (u : Script) (k n most : ℕ) (s : Script) (l : List ℕ) (ls : List (List ℕ)) (next : Sofar) (ws : List Word) → words_of l ≡ ws
    → IsLine (words_of l)
    → Ordered version u k → u.lines ≡ [] → k + lines_room (l ∷ ls) ≤ most → lines_read (n + 1) next ls ≡ Ok s → words_read n (part.Head, u) ws ≡ Ok next
    → HeadRuns version ls s most → HeadRun version s most
head_words_by u k n most s l ls next [] is good o none fits rest read runs = absurd (cc)
head_words_by u k n most s l ls next (w ∷ words) is good o none fits rest read runs =
    head_by u k n most s l ls next w words (bytes_eq w (codes "run")) is good refl o none fits rest read runs

head_line_by : {version : ℕ} (u : Script) (k n most : ℕ) (s : Script) (l : List ℕ) (ls : List (List ℕ)) (next : NextOk n (part.Head, u) l ls s)
    → ((part.Head, u) ≡ next.next) ⊎ Read n (part.Head, u) next.next l
    → Ordered version u k → u.lines ≡ [] → k + lines_room (l ∷ ls) ≤ most → HeadRuns version ls s most → HeadRun version s most
head_line_by u k n most s l ls next (inl e) o none fits runs = runs u k (n + 1) o none (omega arith) (read_at (n + 1) (part.Head, u) next.next ls s e next.rest)
head_line_by u k n most s l ls next (inr r) o none fits runs =
    head_words_by u k n most s l ls next.next (words_of l) refl r.line o none fits next.rest r.words runs

pub head_run : {version : ℕ} (ls : List (List ℕ)) (u : Script) (k n most : ℕ) (s : Script) → Ordered version u k → u.lines ≡ [] → k + lines_room ls ≤ most
    → lines_read n (part.Head, u) ls ≡ Ok s → HeadRun version s most
head_run [] u k n most s o none fits is = absurd (cc)
head_run (l ∷ ls) u k n most s o none fits is =
    let next = next_ok n (part.Head, u) l ls s is in
    head_line_by u k n most s l ls next (line_ok n (part.Head, u) next.next l next.read) o none fits (λ v j i p q r t. head_run ls v j i most s p q r t)

-- the version

known_by : (n v : ℕ) (b : Bool) → is_within VERSION_MAX n ≡ b → cond {A = Reading ℕ} b (Ok n) (Err UnknownVersion) ≡ Ok v
    → (n ≡ v) × (is_within VERSION_MAX v ≡ true)
known_by n v true at is = let e : n ≡ v = cc in (e, ap (is_within VERSION_MAX) (sym e) ∙ at)
known_by n v false at is = absurd (cc)

known_ok : (r : Reading ℕ) (v : ℕ) → known_version r ≡ Ok v → (r ≡ Ok v) × (is_within VERSION_MAX v ≡ true)
known_ok (Err k) v is = absurd (cc)
known_ok (Ok n) v is = let found = known_by n v (is_within VERSION_MAX n) refl is in (ap Ok found.0, found.1)

version_ok : (words : List Word) (v : ℕ) → whole version words ≡ Ok v → (words ≡ decimal v ∷ []) × (is_within VERSION_MAX v ≡ true)
version_ok words v is =
    let p = place_ok _ words v [] (whole_ok version words v is) in
    let known = known_ok (whole (number_below (2 ^ 32)) (p.word ∷ [])) v p.passes in
    (p.begins ∙ (number_words (2 ^ 32)).takes (p.word ∷ []) v [] (whole_ok (number_below (2 ^ 32)) (p.word ∷ []) v known.0), known.1)

-- the words of a first line are those that say its version
pub first_ok : (words : List Word) (v : ℕ) → first_line words ≡ Ok v → (words ≡ codes "flatland" ∷ decimal v ∷ []) × (is_within VERSION_MAX v ≡ true)
first_ok [] v is = absurd (cc)
first_ok (w ∷ words) v is = by_word (bytes_eq w (codes "flatland")) refl is
  where
    by_word : (b : Bool) → bytes_eq w (codes "flatland") ≡ b → cond {A = Reading ℕ} b (whole version words) (Err BadHead) ≡ Ok v
        → (w ∷ words ≡ codes "flatland" ∷ decimal v ∷ []) × (is_within VERSION_MAX v ≡ true)
    by_word true at read =
        let number = version_ok words v read in
        (ap (λ u. u ∷ words) ((bytes_eq-Decides w (codes "flatland")).0 at) ∙ ap (λ t. codes "flatland" ∷ t) number.0, number.1)
    by_word false at read = absurd (cc)

pub record StartRun (s : Script) (most : ℕ) : Type 0 where
  pub v : ℕ
  pub line : IsLine (codes "flatland" ∷ decimal v ∷ [])
  pub first : first_line (codes "flatland" ∷ decimal v ∷ []) ≡ Ok v
  pub n : ℕ
  pub rest : List (List ℕ)
  pub read : lines_read n (part.Head, with_version empty v) rest ≡ Ok s
  pub fits : 1 + length (line_of (codes "flatland" ∷ decimal v ∷ [])) + lines_room rest ≤ most

abbrev StartRuns : List (List ℕ) → Script → ℕ → Type 0
StartRuns ls s most = (n : ℕ) → lines_room ls ≤ most → lines_read n (part.Start, empty) ls ≡ Ok s → StartRun s most

start_by : (n most : ℕ) (s : Script) (l : List ℕ) (ls : List (List ℕ)) (next : Sofar) → IsLine (words_of l) → lines_room (l ∷ ls) ≤ most
    → lines_read (n + 1) next ls ≡ Ok s
    → mapped (λ v. (part.Head, with_version empty v)) (first_line (words_of l)) ≡ Ok next → StartRun s most
start_by n most s l ls next line fits rest read =
    let m = mapped_ok (λ v. (part.Head, with_version empty v)) (first_line (words_of l)) next read in
    let says = (first_ok (words_of l) m.a m.given).0 in
    let long : length (line_of (codes "flatland" ∷ decimal m.a ∷ [])) ≡ length l = ap (λ ws. length (line_of ws)) (sym says) ∙ ap length (spelled-words_of l) in
    let P : List Word → Type 0 = IsLine in
    record {
      v = m.a;
      line = subst P says line;
      first = ap first_line (sym says) ∙ m.given;
      n = n + 1;
      rest = ls;
      read = read_at (n + 1) (part.Head, with_version empty m.a) next ls s m.value rest;
      fits = omega arith;
    }

start_line_by : (n most : ℕ) (s : Script) (l : List ℕ) (ls : List (List ℕ)) (next : NextOk n (part.Start, empty) l ls s)
    → ((part.Start, empty) ≡ next.next) ⊎ Read n (part.Start, empty) next.next l → lines_room (l ∷ ls) ≤ most → StartRuns ls s most → StartRun s most
start_line_by n most s l ls next (inl e) fits runs = runs (n + 1) (omega arith) (read_at (n + 1) (part.Start, empty) next.next ls s e next.rest)
start_line_by n most s l ls next (inr r) fits runs = start_by n most s l ls next.next r.line fits next.rest r.words

start_run : (ls : List (List ℕ)) (n most : ℕ) (s : Script) → lines_room ls ≤ most → lines_read n (part.Start, empty) ls ≡ Ok s → StartRun s most
start_run [] n most s fits is = absurd (cc)
start_run (l ∷ ls) n most s fits is =
    let next = next_ok n (part.Start, empty) l ls s is in
    start_line_by n most s l ls next (line_ok n (part.Start, empty) next.next l next.read) fits (λ m p q. start_run ls m most s p q)

-- the canonical head, read again

abbrev Again_head : ℕ → Script → Script → List Word → Type 0
Again_head n u t ws = head_line u ws ≡ Ok t → words_read n (part.Head, u) ws ≡ Ok (part.Head, t)

again_at : (n : ℕ) (u t : Script) (ws vs : List Word) → ws ≡ vs → Again_head n u t vs → Again_head n u t ws
again_at n u t ws vs e again = let P : List Word → Type 0 = Again_head n u t in subst P (sym e) again

head_again : (n : ℕ) (u t : Script) (ws : List Word) → Step u ws t → Again_head n u t ws
head_again n u t ws (size_step x) = again_at n u t ws _ x.begins (λ r. ap (mapped (λ v. (part.Head, v))) r)
head_again n u t ws (session_step x) = again_at n u t ws _ x.begins (λ r. ap (mapped (λ v. (part.Head, v))) r)
head_again n u t ws (probe_step x) = again_at n u t ws _ x.begins (λ r. ap (mapped (λ v. (part.Head, v))) r)
head_again n u t ws (buffers_step x) = again_at n u t ws _ x.begins (λ r. ap (mapped (λ v. (part.Head, v))) r)
head_again n u t ws (pair_step x) = again_at n u t ws _ x.begins (λ r. ap (mapped (λ v. (part.Head, v))) r)
head_again n u t ws (fence_step x) = again_at n u t ws _ x.begins (λ r. ap (mapped (λ v. (part.Head, v))) r)

one_step : (n : ℕ) (u t : Script) (ws : List Word) (tail : List (List ℕ)) → IsLine ws → Step u ws t
    → lines_read n (part.Head, u) (line_of ws ∷ tail) ≡ lines_read (n + 1) (part.Head, t) tail
one_step n u t ws tail good step = goes_on n (part.Head, u) (part.Head, t) (line_of ws) tail
    (spelled_read n (part.Head, u) ws good ∙ head_again n u t ws step (step_read u ws t step))

chain_read : (k n : ℕ) (u t : Script) (wss : List (List Word)) (tail : List (List ℕ)) → AllLines wss → Chain k u wss t
    → lines_read n (part.Head, u) (map line_of wss ++ tail) ≡ lines_read (n + length wss) (part.Head, t) tail
chain_read k n u t [] tail good chain = ap (λ v. lines_read n (part.Head, v) tail) chain ∙ ap (λ i. lines_read i (part.Head, t) tail) (omega arith)
chain_read k n u t (ws ∷ wss) tail good chain =
    one_step n u chain.mid ws (map line_of wss ++ tail) good.0 chain.step ∙ chain_read k (n + 1) chain.mid t wss tail good.1 chain.behind
    ∙ ap (λ i. lines_read i (part.Head, t) tail) (omega arith)

abbrev declared : {version : ℕ} {u : Script} {k : ℕ} → Ordered version u k → List (List Word)
declared o = o.d ++ (o.s ++ (o.q ++ (o.b ++ (o.p ++ o.f))))

all_declared : {version : ℕ} (u : Script) (k : ℕ) (o : Ordered version u k) → AllLines (declared o)
all_declared u k o = AllLines-append o.d _ o.all_d (AllLines-append o.s _ o.all_s
    (AllLines-append o.q _ o.all_q (AllLines-append o.b _ o.all_b (AllLines-append o.p o.f o.all_p o.all_f))))

declared_room : {version : ℕ} (u : Script) (k : ℕ) (o : Ordered version u k) → room_of (declared o) ≤ k
declared_room u k o =
    omega (
      arith,
      room_of-append o.d (o.s ++ (o.q ++ (o.b ++ (o.p ++ o.f)))),
      room_of-append o.s (o.q ++ (o.b ++ (o.p ++ o.f))),
      room_of-append o.q (o.b ++ (o.p ++ o.f)),
      room_of-append o.b (o.p ++ o.f),
      room_of-append o.p o.f,
      o.fits,
    )

map_more : (xs ys : List (List Word)) (tail : List (List ℕ)) → map line_of (xs ++ ys) ++ tail ≡ map line_of xs ++ (map line_of ys ++ tail)
map_more xs ys tail = ap (λ t. t ++ tail) (map-append line_of xs ys) ∙ append_assoc (map line_of xs) (map line_of ys) tail

abbrev behind_head : {version : ℕ} {u : Script} {k : ℕ} → ℕ → Ordered version u k → ℕ
behind_head n o = n + length o.d + length o.s + length o.q + length o.b + length o.p + length o.f

declared_cut : {version : ℕ} (u : Script) (k : ℕ) (o : Ordered version u k) (tail : List (List ℕ))
    → map line_of (declared o) ++ tail ≡ map line_of o.d
    ++ (map line_of o.s ++ (map line_of o.q ++ (map line_of o.b ++ (map line_of o.p ++ (map line_of o.f ++ tail)))))
declared_cut u k o tail =
    map_more o.d (o.s ++ (o.q ++ (o.b ++ (o.p ++ o.f)))) tail
    ∙ ap (λ t. map line_of o.d ++ t) (map_more o.s (o.q ++ (o.b ++ (o.p ++ o.f))) tail
    ∙ ap (λ t. map line_of o.s ++ t) (map_more o.q (o.b ++ (o.p ++ o.f)) tail
    ∙ ap (λ t. map line_of o.q ++ t) (map_more o.b (o.p ++ o.f) tail ∙ ap (λ t. map line_of o.b ++ t) (map_more o.p o.f tail))))

declared_read : {version : ℕ} (u : Script) (k n : ℕ) (o : Ordered version u k) (tail : List (List ℕ))
    → lines_read n (part.Head, with_version empty version) (map line_of (declared o) ++ tail) ≡ lines_read (behind_head n o) (part.Head, u) tail
declared_read {version = version} u k n o tail =
    let t5 = map line_of o.f ++ tail in
    let t4 = map line_of o.p ++ t5 in
    let t3 = map line_of o.b ++ t4 in
    let t2 = map line_of o.q ++ t3 in
    let t1 = map line_of o.s ++ t2 in
    ap (lines_read n (part.Head, with_version empty version)) (declared_cut u k o tail)
    ∙ chain_read 0 n (with_version empty version) o.u0 o.d t1 o.all_d o.sizes ∙ chain_read 1 _ o.u0 o.u1 o.s t2 o.all_s o.sessions
    ∙ chain_read 2 _ o.u1 o.u2 o.q t3 o.all_q o.probes ∙ chain_read 3 _ o.u2 o.u3 o.b t4 o.all_b o.buffers ∙ chain_read 4 _ o.u3 o.u4 o.p t5 o.all_p o.pairs
    ∙ chain_read 5 _ o.u4 u o.f tail o.all_f o.fences

run_good : IsLine (codes "run" ∷ [])
run_good = record { plain = refl; short = refl; kept = refl; words = refl }

run_read : (n : ℕ) (u : Script) (tail : List (List ℕ)) → is_ready u ≡ true
    → lines_read n (part.Head, u) (codes "run" ∷ tail) ≡ lines_read (n + 1) (part.Body, u) tail
run_read n u tail ready = goes_on n (part.Head, u) (part.Body, u) (codes "run") tail (rw ready refl)

first_of_three : (a b c : Bool) → (a && b && c) ≡ true → a ≡ true
first_of_three true b c h = refl
first_of_three false b c h = absurd (let e : false ≡ true = h in cc)

abbrev last_lines : Script → List ScriptLine → ℕ → Script
last_lines h us n = record (with_lines h us) { count = n }

buffers_is : {version : ℕ} (h : Script) (k : ℕ) (o : Ordered version h k) (us : List ScriptLine) (n : ℕ)
    → numbered (buffers_line_words (last_lines h us n)) 0 h.setup.buffers ≡ o.b
buffers_is h k o us n =
    ap (λ ss. numbered (buffers_line_words (record h { sessions = ss; buffers = h.buffers })) 0 h.setup.buffers) (sym (append-nil h.sessions))
    ∙ ap (λ ns. numbered (buffers_line_words (record h { sessions = h.sessions ++ []; buffers = ns })) 0 h.setup.buffers) (sym (append-nil h.buffers))
    ∙ o.buffer_words [] []

pairs_is : {version : ℕ} (h : Script) (k : ℕ) (o : Ordered version h k) (us : List ScriptLine) (n : ℕ)
    → numbered (pair_line_words (last_lines h us n)) 0 h.setup.pairs ≡ o.p
pairs_is h k o us n =
    ap (λ ss. numbered (pair_line_words (record h { sessions = ss; probes = h.probes; pairs = h.pairs })) 0 h.setup.pairs) (sym (append-nil h.sessions))
    ∙ ap (λ ps. numbered (pair_line_words (record h { sessions = h.sessions ++ []; probes = ps; pairs = h.pairs })) 0 h.setup.pairs) (sym (append-nil h.probes))
    ∙ ap (λ ns. numbered (pair_line_words (record h { sessions = h.sessions ++ []; probes = h.probes ++ []; pairs = ns })) 0 h.setup.pairs)
    (sym (append-nil h.pairs)) ∙ o.pair_words [] [] []

fences_is : {version : ℕ} (h : Script) (k : ℕ) (o : Ordered version h k) (us : List ScriptLine) (n : ℕ)
    → numbered (fence_line_words (last_lines h us n)) 0 h.setup.fences ≡ o.f
fences_is h k o us n =
    ap (λ ss. numbered (fence_line_words (record h { sessions = ss; probes = h.probes; fences = h.fences })) 0 h.setup.fences) (sym (append-nil h.sessions))
    ∙ ap (λ ps. numbered (fence_line_words (record h { sessions = h.sessions ++ []; probes = ps; fences = h.fences })) 0 h.setup.fences)
    (sym (append-nil h.probes))
    ∙ ap (λ ns. numbered (fence_line_words (record h { sessions = h.sessions ++ []; probes = h.probes ++ []; fences = ns })) 0 h.setup.fences)
    (sym (append-nil h.fences)) ∙ o.fence_words [] [] []

six_appends : (d s q b p f r : List (List Word)) → (d ++ (s ++ (q ++ (b ++ (p ++ f))))) ++ r ≡ d ++ (s ++ (q ++ (b ++ (p ++ (f ++ r)))))
six_appends d s q b p f r =
    append_assoc d (s ++ (q ++ (b ++ (p ++ f)))) r ∙ ap (λ t. d ++ t)
    (append_assoc s (q ++ (b ++ (p ++ f))) r ∙ ap (λ t. s ++ t) (append_assoc q (b ++ (p ++ f)) r
    ∙ ap (λ t. q ++ t) (append_assoc b (p ++ f) r ∙ ap (λ t. b ++ t) (append_assoc p f r))))

head_is : {version : ℕ} (h : Script) (k : ℕ) (o : Ordered version h k) (us : List ScriptLine) (n : ℕ) → is_ready h ≡ true
    → head_words (last_lines h us n) ≡ declared o ++ (codes "run" ∷ []) ∷ []
head_is h k o us n ready =
    let shown : o.d ≡ display_line_words h ∷ [] = o.size_words ∙ ap (λ c. cond c (display_line_words h ∷ []) []) (first_of_three (has_display h) _ _ ready) in
    let r : List (List Word) = (codes "run" ∷ []) ∷ [] in
    let line = display_line_words h in
    let sessions = map (name_words (codes "session")) h.sessions in
    let probes = map (name_words (codes "probe")) h.probes in
    let b = buffers_is h k o us n in
    let p = pairs_is h k o us n in
    let f = fences_is h k o us n in
    ap (λ t. line ∷ (sessions ++ (probes ++ (t ++ (numbered (pair_line_words (last_lines h us n)) 0 h.setup.pairs
    ++ (numbered (fence_line_words (last_lines h us n)) 0 h.setup.fences ++ r)))))) b
    ∙ ap (λ t. line ∷ (sessions ++ (probes ++ (o.b ++ (t ++ (numbered (fence_line_words (last_lines h us n)) 0 h.setup.fences ++ r)))))) p
    ∙ ap (λ t. line ∷ (sessions ++ (probes ++ (o.b ++ (o.p ++ (t ++ r)))))) f
    ∙ ap (λ t. line ∷ (sessions ++ (t ++ (o.b ++ (o.p ++ (o.f ++ r)))))) (sym o.probe_words)
    ∙ ap (λ t. line ∷ (t ++ (o.q ++ (o.b ++ (o.p ++ (o.f ++ r)))))) (sym o.session_words)
    ∙ ap (λ t. t ++ (o.s ++ (o.q ++ (o.b ++ (o.p ++ (o.f ++ r)))))) (sym shown)
    ∙ sym (six_appends o.d o.s o.q o.b o.p o.f r)

text_long : (first : List ℕ) (w : List (List Word)) → length (first ++ fed w) ≡ length first + room_of w
text_long first w = omega (arith, length-append first (fed w), length-fed w)

small : (text : List ℕ) (r : Result Script ScriptFault) → length text ≤ 16777216
    → cond {A = Result Script ScriptFault} (nat_lt (16 * 1024 * 1024) (length text)) (Err (record { line = 0; kind = TooLong })) r ≡ r
small text r few = let test : nat_lt 16777216 (length text) ≡ false = grind (arith, nat_tests) in rw test refl

printed_by : (bytes : List ℕ) (s : Script) → length bytes ≤ 16777216 → lines_read 1 (part.Start, empty) (lines_of bytes) ≡ Ok s → IsReadBack (text_of s) s
printed_by bytes s few is =
    let st = start_run (lines_of bytes) 1 (lines_room (lines_of bytes)) s (omega arith) is in
    let hd = head_run st.rest (with_version empty st.v) 0 st.n (lines_room st.rest) s (ordered_empty st.v) refl (omega arith) st.read in
    let h = hd.h in
    let o = hd.o in
    let bare : h ≡ with_lines h [] = ap (with_lines h) hd.none in
    let m = behind_head 2 o + 1 in
    let bd = body_run h hd.rest [] [] hd.n m s (record { same = refl }) (ap (λ v. lines_read hd.n (part.Body, v) hd.rest) (sym bare) ∙ hd.read) in
    let r : List (List Word) = (codes "run" ∷ []) ∷ [] in
    let words : script_words s ≡ (declared o ++ r) ++ bd.more =
    ap script_words bd.made ∙ ap (λ t. t ++ map (line_words h) bd.us') (head_is h hd.k o bd.us' bd.from hd.ready) ∙ ap (λ t. (declared o ++ r) ++ t) bd.words in
    let good : AllLines ((declared o ++ r) ++ bd.more) =
    AllLines-append (declared o ++ r) bd.more (AllLines-append (declared o) r (all_declared h hd.k o) (run_good, tt)) bd.all in
    let first : List ℕ = line_of (codes "flatland" ∷ decimal st.v ∷ []) in
    let text : text_of s ≡ first ++ fed ((declared o ++ r) ++ bd.more) =
    ap (λ v. line_of (codes "flatland" ∷ decimal v ∷ []) ++ fed (script_words s)) (ap (λ (t : Script). t.version) bd.made ∙ ordered_version h hd.k o)
    ∙ ap (λ w. first ++ fed w) words in
    let cut : lines_of (text_of s) ≡ first ∷ map line_of ((declared o ++ r) ++ bd.more) =
    ap lines_of text ∙ lines_of_fed first ((declared o ++ r) ++ bd.more) st.line.plain (skipped_none first st.line.kept) good in
    let pieces : map line_of ((declared o ++ r) ++ bd.more) ≡ map line_of (declared o) ++ (codes "run" ∷ map line_of bd.more) =
    map-append line_of (declared o ++ r) bd.more ∙ map_more (declared o) r (map line_of bd.more) in
    let again : Script = last_lines h bd.ms' bd.count in
    let reading : lines_read 1 (part.Start, empty) (lines_of (text_of s)) ≡ Ok again =
    ap (lines_read 1 (part.Start, empty)) (cut ∙ ap (λ t. first ∷ t) pieces)
    ∙ goes_on 1 (part.Start, empty) (part.Head, with_version empty st.v) first (map line_of (declared o) ++ (codes "run" ∷ map line_of bd.more))
    (spelled_read 1 (part.Start, empty) (codes "flatland" ∷ decimal st.v ∷ []) st.line ∙ ap (mapped (λ v. (part.Head, with_version empty v))) st.first)
    ∙ declared_read h hd.k 2 o (codes "run" ∷ map line_of bd.more)
    ∙ run_read (behind_head 2 o) h (map line_of bd.more) hd.ready
    ∙ ap (λ v. lines_read m (part.Body, v) (map line_of bd.more)) bare ∙ bd.read in
    let long : length (text_of s) ≡ length first + room_of ((declared o ++ r) ++ bd.more) = ap length text ∙ text_long first ((declared o ++ r) ++ bd.more) in
    let fits : length (text_of s) ≤ 16777216 =
    omega (
      arith,
      long,
      room_of-append (declared o ++ r) bd.more,
      room_of-append (declared o) r,
      declared_room h hd.k o,
      bd.room,
      hd.fits,
      st.fits,
      lines_room-lines_of bytes,
      few,
    ) in
    record {
      again = again;
      read = small (text_of s) _ fits ∙ reading;
      same = ap unnumbered bd.made ∙ ap (λ ls. record h { lines = ls; count = 0 }) bd.same.same;
    }

by_size : (bytes : List ℕ) (s : Script) (b : Bool) → nat_lt (16 * 1024 * 1024) (length bytes) ≡ b
    → cond {A = Result Script ScriptFault} b (Err (record { line = 0; kind = TooLong })) (lines_read 1 (part.Start, empty) (lines_of bytes)) ≡ Ok s
    → IsReadBack (text_of s) s
by_size bytes s true at is = absurd (cc)
by_size bytes s false at is = printed_by bytes s (let few : length bytes ≤ 16777216 = grind (arith, nat_tests) in few) is

pub printed : (bytes : List ℕ) (s : Script) → IsScript bytes s → IsReadBack (text_of s) s
printed bytes s is = by_size bytes s (nat_lt (16 * 1024 * 1024) (length bytes)) refl is
