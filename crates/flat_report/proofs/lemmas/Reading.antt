-- What a script that was read from a text is like: its names, the lines of its probes, and how many lines it has.
use Rattle.std.proofs.Common.{◌≡◌, ℕ, zero, suc, ◌^◌, ◌+◌, ◌*◌, ◌-◌, ◌<◌, ◌≤◌, not, nat_lt, Bool, true, false, cond, List, [], ◌∷◌, ◌++◌, length, codes, Some}
use Rattle.std.proofs.Common.{None, Result, Ok, Err, refl, subst, sym, ap, ◌∙◌, arith, length-append}
use Rattle.std.specs.List.{list_all}
use Rattle.std.specs.Str.{bytes_eq}
use Rattle.std.proofs.lemmas.Bool.Decides.{nat_tests}
use Rattle.std.proofs.lemmas.List.Folds.{list_all-append}
use Rattle.std.proofs.lemmas.Slice.Eq.{bytes_eq-Decides}
use Rattle.flat_base.specs.declared.ids.Actor.{Actor}
use Rattle.flat_base.specs.declared.ids.Actor.TheVariants.{Display, Session, Probe}
use Rattle.flat_scene.specs.declared.script.LineBody.{LineBody}
use Rattle.flat_scene.specs.declared.script.LineBody.TheVariants as body
use Rattle.flat_scene.specs.declared.script.ScriptLine.{ScriptLine}
use Rattle.flat_places.specs.declared.kinds.FaultKind.TheVariants.{TooLong, NotAscii, LongLine, BadOrder}
use Rattle.flat_places.specs.declared.script.Script.{Script}
use Rattle.flat_script.specs.declared.script.ScriptFault.{ScriptFault}
use Rattle.flat_forms.specs.declared.lines.TextPart.TheVariants as part
use Rattle.flat_forms.specs.Body.{actor_line, body_line, probe_line, is_open}
use Rattle.flat_places.specs.Forms.{Word, Reading, mapped}
use Rattle.flat_forms.specs.Lines.{Sofar, words_read}
use Rattle.flat_script.specs.Grammar.{is_plain, is_skipped, line_read, lines_read, end_read, IsScript}
use Rattle.flat_forms.specs.Head.{empty, with_version, first_line, head_line, run_line}
use Rattle.flat_places.specs.Names.{is_name, place_of}
use Rattle.flat_print.proofs.lemmas.AgainLemmas.{with_lines, body_again}
use Rattle.flat_forms.proofs.lemmas.FormLemmas.{mapped_ok}
use Rattle.flat_forms.proofs.lemmas.FoundLemmas.{step_found}
use Rattle.flat_forms.proofs.lemmas.IndexLemmas.{place_there, place_else, no_place}
use Rattle.flat_forms.proofs.lemmas.StepLemmas.{SessionStep, ProbeStep, Step, size_step, session_step, probe_step, buffers_step, pair_step, fence_step}
use Rattle.flat_print.proofs.lemmas.TextLemmas.{lines_room, lines_room-lines_of}
use Rattle.flat_page.specs.Words.{name_at}
use Rattle.flat_report.specs.Probes.{is_asking}
use Rattle.flat_report.proofs.lemmas.Named.{AreNames, IsNamed}
use Rattle.flat_print.proofs.lemmas.OrderLemmas.{name_at_seam, lines_kept}

-- ---- what every line keeps

-- What is kept of a script, where the next line would have this number.
pub record Kept (n : ℕ) (s : Script) : Type 0 where
  pub named : IsNamed s
  pub spoken : list_all (λ (line : ScriptLine). is_asking line.actor line.body) s.lines ≡ true
  pub few : length s.lines < n

-- ---- one name more

at-old : (names ys : List Word) (i : ℕ) → i < length names → name_at (names ++ ys) i ≡ name_at names i
at-old [] ys i below = absurd (omega arith)
at-old (w ∷ names) ys zero below = refl
at-old (w ∷ names) ys (suc i) below = at-old names ys i (omega (arith, below))

no-place-some : (i : ℕ) → None ≡ Some i → ⊥
no-place-some i is = cc

-- a name without a place isn't one that has a place
other-name : (names : List Word) (name w : Word) (i : ℕ) → place_of names name ≡ None → place_of names w ≡ Some i → bytes_eq name w ≡ false
other-name names name w i none some = by_test (bytes_eq name w) refl
  where
    by_test : (b : Bool) → bytes_eq name w ≡ b → bytes_eq name w ≡ false
    by_test true at = absurd (no-place-some i (sym none ∙ ap (place_of names) ((bytes_eq-Decides name w).0 at) ∙ some))
    by_test false at = at

names-more : (names : List Word) (name : Word) → AreNames names → is_name name ≡ true → place_of names name ≡ None → AreNames (names ++ name ∷ [])
names-more names name are proper none = record {
  proper = λ i below. proper_at (nat_lt i (length names)) i refl below;
  placed = λ i below. placed_at (nat_lt i (length names)) i refl below;
}
  where
    last : (i : ℕ) → nat_lt i (length names) ≡ false → i < length (names ++ name ∷ []) → length names ≡ i
    last i over below = let upto : length names ≤ i = grind (arith, nat_tests) in omega (arith, upto, below, length-append names (name ∷ []))

    within : (i : ℕ) → nat_lt i (length names) ≡ true → i < length names
    within i is = grind (arith, nat_tests)

    proper_at : (b : Bool) (i : ℕ) → nat_lt i (length names) ≡ b → i < length (names ++ name ∷ []) → is_name (name_at (names ++ name ∷ []) i) ≡ true
    proper_at true i is below = ap is_name (at-old names (name ∷ []) i (within i is)) ∙ are.proper i (within i is)
    proper_at false i is below = subst (λ (k : ℕ). is_name (name_at (names ++ name ∷ []) k) ≡ true) (last i is below)
        (ap is_name (name_at_seam names [] name) ∙ proper)

    placed_at : (b : Bool) (i : ℕ) → nat_lt i (length names) ≡ b → i < length (names ++ name ∷ [])
        → place_of (names ++ name ∷ []) (name_at (names ++ name ∷ []) i) ≡ Some i
    placed_at true i is below =
        let placed = are.placed i (within i is) in
        ap (place_of (names ++ name ∷ [])) (at-old names (name ∷ []) i (within i is))
        ∙ place_else names name (name_at names i) (other-name names name (name_at names i) i none placed) ∙ placed
    placed_at false i is below =
        subst (λ (k : ℕ). place_of (names ++ name ∷ []) (name_at (names ++ name ∷ []) k) ≡ Some k) (last i is below)
        (ap (place_of (names ++ name ∷ [])) (name_at_seam names [] name) ∙ place_there names name none)

session-named : (u : Script) (ws : List Word) (t : Script) → SessionStep u ws t → IsNamed u → IsNamed t
session-named u ws t x is =
    let none = no_place u x.name x.fresh.fresh in
    let count = is.session_count in
    let P : Script → Type 0 = IsNamed in
    subst P (sym x.made) (record {
      session_count = omega (arith, count, length-append u.sessions (x.name ∷ []));
      probe_count = is.probe_count;
      sessions = names-more u.sessions x.name is.sessions x.fresh.name none.sessions;
      probes = is.probes;
      apart = λ i below. place_else u.sessions x.name (name_at u.probes i)
          (other-name u.probes x.name (name_at u.probes i) i none.probes (is.probes.placed i below)) ∙ is.apart i below;
    })

apart-more : (sessions probes : List Word) (name : Word) → ((i : ℕ) → i < length probes → place_of sessions (name_at probes i) ≡ None)
    → place_of sessions name ≡ None
    → (i : ℕ) → i < length (probes ++ name ∷ []) → place_of sessions (name_at (probes ++ name ∷ []) i) ≡ None
apart-more sessions probes name apart none i below = by_place (nat_lt i (length probes)) refl
  where
    within : nat_lt i (length probes) ≡ true → i < length probes
    within is = grind (arith, nat_tests)

    last : nat_lt i (length probes) ≡ false → length probes ≡ i
    last over = let upto : length probes ≤ i = grind (arith, nat_tests) in omega (arith, upto, below, length-append probes (name ∷ []))

    by_place : (b : Bool) → nat_lt i (length probes) ≡ b → place_of sessions (name_at (probes ++ name ∷ []) i) ≡ None
    by_place true is = ap (place_of sessions) (at-old probes (name ∷ []) i (within is)) ∙ apart i (within is)
    by_place false is = subst (λ (k : ℕ). place_of sessions (name_at (probes ++ name ∷ []) k) ≡ None) (last is)
        (ap (place_of sessions) (name_at_seam probes [] name) ∙ none)

probe-named : (u : Script) (ws : List Word) (t : Script) → ProbeStep u ws t → IsNamed u → IsNamed t
probe-named u ws t x is =
    let none = no_place u x.name x.fresh.fresh in
    let count = is.probe_count in
    let P : Script → Type 0 = IsNamed in
    subst P (sym x.made) (record {
      session_count = is.session_count;
      probe_count = omega (arith, count, length-append u.probes (x.name ∷ []));
      sessions = is.sessions;
      probes = names-more u.probes x.name is.probes x.fresh.name none.probes;
      apart = apart-more u.sessions u.probes x.name is.apart none.sessions;
    })

same-names : (u t : Script) → t.setup.sessions ≡ u.setup.sessions → t.setup.probes ≡ u.setup.probes → t.sessions ≡ u.sessions → t.probes ≡ u.probes → IsNamed u
    → IsNamed t
same-names u t count count' sessions probes is = record {
  session_count = count ∙ is.session_count ∙ ap (λ (ws : List Word). length ws) (sym sessions);
  probe_count = count' ∙ is.probe_count ∙ ap (λ (ws : List Word). length ws) (sym probes);
  sessions = (let P : List Word → Type 0 = AreNames in subst P (sym sessions) is.sessions);
  probes = (let P : List Word → Type 0 = AreNames in subst P (sym probes) is.probes);
  apart = both t.sessions t.probes (sym sessions) (sym probes);
}
  where
    both : (ss ps : List Word) → u.sessions ≡ ss → u.probes ≡ ps → (i : ℕ) → i < length ps → place_of ss (name_at ps i) ≡ None
    both ss ps same same' = let P : List Word → List Word → Type 0 =
        λ vs ws. (i : ℕ) → i < length ws → place_of vs (name_at ws i) ≡ None in subst (λ vs. P vs ps) same (subst (λ ws. P u.sessions ws) same' is.apart)

step-named : (u : Script) (ws : List Word) (t : Script) → Step u ws t → IsNamed u → IsNamed t
step-named u ws t (session_step x) is = session-named u ws t x is
step-named u ws t (probe_step x) is = probe-named u ws t x is
step-named u ws t (size_step x) is = let m = x.made in
    same-names u t (ap (λ (s : Script). s.setup.sessions) m) (ap (λ (s : Script). s.setup.probes) m) (ap (λ (s : Script). s.sessions) m)
    (ap (λ (s : Script). s.probes) m) is
step-named u ws t (buffers_step x) is = let m = x.made in
    same-names u t (ap (λ (s : Script). s.setup.sessions) m) (ap (λ (s : Script). s.setup.probes) m) (ap (λ (s : Script). s.sessions) m)
    (ap (λ (s : Script). s.probes) m) is
step-named u ws t (pair_step x) is = let m = x.made in
    same-names u t (ap (λ (s : Script). s.setup.sessions) m) (ap (λ (s : Script). s.setup.probes) m) (ap (λ (s : Script). s.sessions) m)
    (ap (λ (s : Script). s.probes) m) is
step-named u ws t (fence_step x) is = let m = x.made in
    same-names u t (ap (λ (s : Script). s.setup.sessions) m) (ap (λ (s : Script). s.setup.probes) m) (ap (λ (s : Script). s.sessions) m)
    (ap (λ (s : Script). s.probes) m) is

-- ---- one line more

kept-on : (n : ℕ) (s : Script) → Kept n s → Kept (n + 1) s
kept-on n s kept = let few = kept.few in record { named = kept.named; spoken = kept.spoken; few = omega (arith, few) }

kept-at : (n : ℕ) (u t : Script) → u ≡ t → Kept n u → Kept n t
kept-at n u t same kept = let P : Script → Type 0 = Kept n in subst P same kept

head-kept : (n : ℕ) (u : Script) (ws : List Word) (t : Script) → Step u ws t → Kept n u → Kept (n + 1) t
head-kept n u ws t step kept =
    let lines = lines_kept u ws t step in
    let few = kept.few in
    record {
      named = step-named u ws t step kept.named;
      spoken = ap (λ (ls : List ScriptLine). list_all (λ (line : ScriptLine). is_asking line.actor line.body) ls) lines ∙ kept.spoken;
      few = (let same : length t.lines ≡ length u.lines = ap (λ (ls : List ScriptLine). length ls) lines in omega (arith, few, same));
    }

probe-spoken : (s : Script) (actor : Actor) (rest : List Word) (text : LineBody) → actor_line s actor rest ≡ Ok text → is_asking actor text ≡ true
probe-spoken s (Probe p) rest text is = let m = mapped_ok body.Probe (probe_line s.version rest) text is in ap (is_asking (Probe p)) (sym m.value)
probe-spoken s Display rest text is = refl
probe-spoken s (Session a) rest text is = refl

body-kept : (n : ℕ) (u : Script) (ws : List Word) (t : Script) → body_line u n ws ≡ Ok t → Kept n u → Kept (n + 1) t
body-kept n u ws t is kept =
    let a = body_again u u.lines u.lines n n ws t (record { same = refl }) is in
    let line : ScriptLine = record { number = n; actor = a.actor; body = a.body } in
    let says = probe-spoken (with_lines u u.lines) a.actor a.rest a.body a.line in
    let before = kept.spoken in
    let few = kept.few in
    let P : Script → Type 0 = Kept (n + 1) in
    subst P (sym a.read) (record {
      named = record {
        session_count = kept.named.session_count;
        probe_count = kept.named.probe_count;
        sessions = kept.named.sessions;
        probes = kept.named.probes;
        apart = kept.named.apart;
      };
      spoken = list_all-append (λ (line : ScriptLine). is_asking line.actor line.body) u.lines (line ∷ []) ∙ rw (before, says) refl;
      few = omega (arith, few, length-append u.lines (line ∷ []));
    })

version-kept : (n : ℕ) (u : Script) (version : ℕ) → Kept n u → Kept n (with_version u version)
version-kept n u version kept = record {
  named = record {
    session_count = kept.named.session_count;
    probe_count = kept.named.probe_count;
    sessions = kept.named.sessions;
    probes = kept.named.probes;
    apart = kept.named.apart;
  };
  spoken = kept.spoken;
  few = kept.few;
}

words-kept : (n : ℕ) (sofar next : Sofar) (ws : List Word) → words_read n sofar ws ≡ Ok next → Kept n sofar.1 → Kept (n + 1) next.1
words-kept n (part.Start, u) next ws is kept =
    let m = mapped_ok (λ version. (part.Head, with_version u version)) (first_line ws) next is in
    kept-at (n + 1) (with_version u m.a) next.1 (ap (λ (v : Sofar). v.1) m.value) (kept-on n (with_version u m.a) (version-kept n u m.a kept))
words-kept n (part.Head, u) next [] is kept = absurd (cc)
words-kept n (part.Head, u) next (w ∷ ws) is kept = by_run (bytes_eq w (codes "run")) is
  where
    by_run : (b : Bool) → cond b (mapped (λ _. (part.Body, u)) (run_line u ws)) (mapped (λ t. (part.Head, t)) (head_line u (w ∷ ws))) ≡ Ok next
        → Kept (n + 1) next.1
    by_run true is = let m = mapped_ok (λ _. (part.Body, u)) (run_line u ws) next is in
        kept-at (n + 1) u next.1 (ap (λ (v : Sofar). v.1) m.value) (kept-on n u kept)
    by_run false is =
        let m = mapped_ok (λ t. (part.Head, t)) (head_line u (w ∷ ws)) next is in
        kept-at (n + 1) m.a next.1 (ap (λ (v : Sofar). v.1) m.value) (head-kept n u (w ∷ ws) m.a (step_found u (w ∷ ws) m.a m.given) kept)
words-kept n (part.Body, u) next ws is kept =
    let m = mapped_ok (λ t. (part.Body, t)) (body_line u n ws) next is in
    kept-at (n + 1) m.a next.1 (ap (λ (v : Sofar). v.1) m.value) (body-kept n u ws m.a m.given kept)

line-by : (n : ℕ) (sofar next : Sofar) (ws : List Word) (p q r : Bool) → Kept n sofar.1
    → cond {A = Reading Sofar} (not p) (Err NotAscii) (cond {A = Reading Sofar} q (Err LongLine)
    (cond {A = Reading Sofar} r (Ok sofar) (words_read n sofar ws))) ≡ Ok next → Kept (n + 1) next.1
line-by n sofar next ws false q r kept is = absurd (cc)
line-by n sofar next ws true true r kept is = absurd (cc)
line-by n sofar next ws true false true kept is = let same : sofar ≡ next =
    cc in kept-at (n + 1) sofar.1 next.1 (ap (λ (v : Sofar). v.1) same) (kept-on n sofar.1 kept)
line-by n sofar next ws true false false kept is = words-kept n sofar next ws is kept

-- ---- all lines

end-kept : (n : ℕ) (sofar : Sofar) (s : Script) → end_read n sofar ≡ Ok s → Kept n sofar.1 → Kept n s
end-kept n (part.Start, u) s is kept = absurd (cc)
end-kept n (part.Head, u) s is kept = absurd (cc)
end-kept n (part.Body, u) s is kept = by_test (is_open u) is
  where
    by_test : (b : Bool) → cond {A = Result Script ScriptFault} b (Err (record { line = n; kind = BadOrder })) (Ok (record u { count = n - 1 })) ≡ Ok s
        → Kept n s
    by_test true is = absurd (cc)
    by_test false is =
        let same : record u { count = n - 1 } ≡ s = cc in
        kept-at n (record u { count = n - 1 }) s same (record {
          named = record {
            session_count = kept.named.session_count;
            probe_count = kept.named.probe_count;
            sessions = kept.named.sessions;
            probes = kept.named.probes;
            apart = kept.named.apart;
          };
          spoken = kept.spoken;
          few = kept.few;
        })

record NextRead (n : ℕ) (sofar : Sofar) (l : List ℕ) (ls : List (List ℕ)) (s : Script) : Type 0 where
  next : Sofar
  read : line_read n sofar l ≡ Ok next
  rest : lines_read (n + 1) next ls ≡ Ok s

next-by : (n : ℕ) (sofar : Sofar) (l : List ℕ) (ls : List (List ℕ)) (s : Script) (r : Reading Sofar) → line_read n sofar l ≡ r
    → lines_read n sofar (l ∷ ls) ≡ Ok s → NextRead n sofar l ls s
next-by n sofar l ls s (Ok next) e is = record { next = next; read = e; rest = rw e at is }
next-by n sofar l ls s (Err k) e is = absurd (let wrong = rw e at is in cc)

kept-to : (a b : ℕ) (s : Script) → a ≡ b → Kept a s → Kept b s
kept-to a b s same kept = let P : ℕ → Type 0 = λ n. Kept n s in subst P same kept

lines-kept : (n : ℕ) (sofar : Sofar) (ls : List (List ℕ)) (s : Script) → lines_read n sofar ls ≡ Ok s → Kept n sofar.1 → Kept (n + length ls) s
lines-kept n sofar [] s is kept = kept-to n (n + 0) s (omega arith) (end-kept n sofar s is kept)
lines-kept n sofar (l ∷ ls) s is kept =
    let next = next-by n sofar l ls s (line_read n sofar l) refl is in
    let here = line-by n sofar next.next _ (list_all is_plain l) (nat_lt 1024 (length l)) (is_skipped l) kept next.read in
    kept-to (n + 1 + length ls) (n + length (l ∷ ls)) s (omega arith) (lines-kept (n + 1) next.next ls s next.rest here)

nothing-named : IsNamed empty
nothing-named = record {
  session_count = refl;
  probe_count = refl;
  sessions = record { proper = λ i below. absurd (none i below); placed = λ i below. absurd (none i below) };
  probes = record { proper = λ i below. absurd (none i below); placed = λ i below. absurd (none i below) };
  apart = λ i below. absurd (none i below);
}
  where
    none : (i : ℕ) → i < 0 → ⊥
    none i below = omega (arith, below)

few-room : (ls : List (List ℕ)) → length ls ≤ lines_room ls
few-room [] = omega arith
few-room (l ∷ ls) = omega (arith, few-room ls)

-- what was read is named, its probes say what probes say, and it has few lines
pub read-kept : (bytes : List ℕ) (s : Script) → IsScript bytes s → Kept (2 ^ 32) s
read-kept bytes s is = by_size (nat_lt (16 * 1024 * 1024) (length bytes)) _ refl (lines_room-lines_of bytes) is
  where
    by_size : (b : Bool) (ls : List (List ℕ)) → nat_lt (16 * 1024 * 1024) (length bytes) ≡ b → lines_room ls ≤ length bytes + 1
        → cond {A = Result Script ScriptFault} b (Err (record { line = 0; kind = TooLong })) (lines_read 1 (part.Start, empty) ls) ≡ Ok s → Kept (2 ^ 32) s
    by_size true ls at room is = absurd (cc)
    by_size false ls at room is =
        let small : length bytes ≤ 16777216 = grind (arith, nat_tests) in
        let kept = lines-kept 1 (part.Start, empty) ls s is (record { named = nothing-named; spoken = refl; few = omega arith }) in
        let few = kept.few in
        let fits : length s.lines < 4294967296 = omega (arith, few, small, few-room ls, room) in
        record { named = kept.named; spoken = kept.spoken; few = fits }
