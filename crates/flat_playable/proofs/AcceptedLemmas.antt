-- Every script that the reader accepts is playable.
use Rattle.std.proofs.Common.{◌≡◌, ℕ, ◌+◌, ◌-◌, ◌*◌, ◌<◌, ◌≤◌, ◌==◌, ◌⊎◌, inl, inr, not, Bool, true, false, cond, nat_lt, nat_le, List, [], ◌∷◌, ◌++◌, length}
use Rattle.std.proofs.Common.{Some, Result, Ok, Err, refl, sym, ◌∙◌, ap, codes, arith, append-nil, subst}
use Rattle.std.specs.Str.{bytes_eq}
use Rattle.std.specs.List.{list_all, slice_split}
use Rattle.std.specs.Prelude.{find}
use Rattle.std.specs.Fmt.{decimal}
use Rattle.std.proofs.lemmas.Bool.Decides.{nat_tests}
use Rattle.flat_base.specs.declared.limits.TheConstants.{SCRIPT_BYTES_MAX, ONE, RATIO_SINCE, VERSION_MAX}
use Rattle.flat_scene.specs.declared.script.ScriptLine.{ScriptLine}
use Rattle.flat_scene.specs.Heads.{is_setup}
use Rattle.flat_scene.specs.Setups.{is_within}
use Rattle.flat_text.specs.Pieces.{is_feed, words_of, lines_of, without_empty_end}
use Rattle.flat_places.specs.declared.kinds.FaultKind.TheVariants.{TooLong, NotAscii, LongLine, BadHead, BadOrder}
use Rattle.flat_places.specs.declared.script.Script.{Script}
use Rattle.flat_script.specs.declared.script.ScriptFault.{ScriptFault}
use Rattle.flat_forms.specs.declared.lines.TextPart.TheVariants as part
use Rattle.flat_places.specs.Forms.{Word, Reading, mapped, whole, give}
use Rattle.flat_forms.specs.Head.{empty, with_version, first_line, head_line, run_line, is_ready}
use Rattle.flat_forms.specs.Body.{body_line, is_open}
use Rattle.flat_forms.specs.Lines.{Sofar, words_read}
use Rattle.flat_script.specs.Grammar.{is_plain, is_skipped, lines_read, IsScript}
use Rattle.flat_forms.proofs.lemmas.FormLemmas.{mapped_ok, unless_ok}
use Rattle.flat_print.proofs.lemmas.AgainLemmas.{with_lines, body_again}
use Rattle.flat_forms.proofs.lemmas.FoundLemmas.{step_found}
use Rattle.flat_playable.specs.Playable.{is_playable, rise_from, frames_close, is_played}
use Rattle.flat_playable.proofs.BodyLemmas.{FramesKept, open_is, BodyKept, body_empty, body_skipped, body_line_kept}
use Rattle.flat_playable.proofs.HeadLemmas.{HeadKept, head_first, step_kept, setup_given}
use Rattle.flat_playable.specs.Versions.{is_of_first_version, sets_no_ratio, first_kept, version_line}
use Rattle.std.proofs.lemmas.Bool.{and_from}
use Rattle.flat_print.proofs.lemmas.RunLemmas.{NextOk, next_ok, read_at, line_ok, first_ok, Read}
use Rattle.flat_print.proofs.lemmas.TextLemmas.{lines_room, split_room, some_parts, spelled-words_of}
use Rattle.flat_page.specs.Words.{line_of}

-- the body

-- what a body that was read has come to, where the next number of a line would be this one
record BodyEnd (h : Script) (end : ℕ) (s : Script) : Type 0 where
  pub us : List ScriptLine
  pub kept : BodyKept h us end
  pub closed : is_open (with_lines h us) ≡ false
  pub made : s ≡ record (with_lines h us) { count = end - 1 }

ended : (h : Script) (us : List ScriptLine) (n : ℕ) (s : Script) (b : Bool) → BodyKept h us n → is_open (with_lines h us) ≡ b
    → cond {A = Result Script ScriptFault} b (Err (record { line = n; kind = BadOrder })) (Ok (record (with_lines h us) { count = n - 1 })) ≡ Ok s
    → BodyEnd h n s
ended h us n s true kept at is = absurd (cc)
ended h us n s false kept at is = let e : record (with_lines h us) { count = n - 1 } ≡ s = cc in record { us = us; kept = kept; closed = at; made = sym e }

end_at : (h : Script) (a b : ℕ) (s : Script) → a ≡ b → BodyEnd h a s → BodyEnd h b s
end_at h a b s e done = let P : ℕ → Type 0 = λ k. BodyEnd h k s in subst P e done

-- the same of these lines, from any line number on
abbrev BodyEnds : Script → List (List ℕ) → Script → Type 0
BodyEnds h ls s = (us : List ScriptLine) (n : ℕ) → BodyKept h us n → lines_read n (part.Body, with_lines h us) ls ≡ Ok s → BodyEnd h (n + length ls) s

body_by : (h : Script) (ls : List (List ℕ)) (us : List ScriptLine) (n : ℕ) (s : Script) (l : List ℕ) (next : NextOk n (part.Body, with_lines h us) l ls s)
    → h.setup.sessions ≡ length h.sessions → h.setup.probes ≡ length h.probes → BodyKept h us n
    → ((part.Body, with_lines h us) ≡ next.next) ⊎ Read n (part.Body, with_lines h us) next.next l → BodyEnds h ls s → BodyEnd h (n + 1 + length ls) s
body_by h ls us n s l next many probed kept (inl e) ends =
    ends us (n + 1) (body_skipped h us n kept) (read_at (n + 1) (part.Body, with_lines h us) next.next ls s e next.rest)
body_by h ls us n s l next many probed kept (inr r) ends =
    let t = mapped_ok (λ v. (part.Body, v)) (body_line (with_lines h us) n (words_of l)) next.next r.words in
    let a = body_again h us us n n (words_of l) t.a (record { same = refl }) t.given in
    let x : ScriptLine = record { number = n; actor = a.actor; body = a.body } in
    let here : (part.Body, with_lines h (us ++ x ∷ [])) ≡ next.next = ap (λ v. (part.Body, v)) (sym a.read) ∙ t.value in
    ends (us ++ x ∷ []) (n + 1) (body_line_kept h us n (words_of l) t.a a many probed kept)
    (read_at (n + 1) (part.Body, with_lines h (us ++ x ∷ [])) next.next ls s here next.rest)

body_end : (h : Script) (ls : List (List ℕ)) (us : List ScriptLine) (n : ℕ) (s : Script) → h.setup.sessions ≡ length h.sessions
    → h.setup.probes ≡ length h.probes → BodyKept h us n → lines_read n (part.Body, with_lines h us) ls ≡ Ok s → BodyEnd h (n + length ls) s
body_end h [] us n s many probed kept is = end_at h n (n + 0) s (omega arith) (ended h us n s (is_open (with_lines h us)) kept refl is)
body_end h (l ∷ ls) us n s many probed kept is =
    let next = next_ok n (part.Body, with_lines h us) l ls s is in
    end_at h (n + 1 + length ls) (n + length (l ∷ ls)) s (omega arith)
    (body_by h ls us n s l next many probed kept (line_ok n (part.Body, with_lines h us) next.next l next.read)
    (λ vs k more rest. body_end h ls vs k s many probed more rest))

-- the head

-- what a head that was read has come to
record HeadEnd (v end : ℕ) (s : Script) : Type 0 where
  pub h : Script
  pub kept : HeadKept v h
  pub ready : is_ready h ≡ true
  pub body : BodyEnd h end s

head_at : {v : ℕ} (a b : ℕ) (s : Script) → a ≡ b → HeadEnd v a s → HeadEnd v b s
head_at {v = v} a b s e done = let P : ℕ → Type 0 = λ k. HeadEnd v k s in subst P e done

-- the same of these lines, from any line number and any head on
abbrev HeadEnds : ℕ → List (List ℕ) → Script → Type 0
HeadEnds v ls s = (u : Script) (n : ℕ) → 0 < n → HeadKept v u → lines_read n (part.Head, u) ls ≡ Ok s → HeadEnd v (n + length ls) s

head_by : {v : ℕ} (u : Script) (n : ℕ) (s : Script) (ls : List (List ℕ)) (next : Sofar) (w : Word) (words : List Word) (b : Bool) → HeadKept v u
    → lines_read (n + 1) next ls ≡ Ok s
    → cond b (mapped (λ _. (part.Body, u)) (run_line u words)) (mapped (λ t. (part.Head, t)) (head_line u (w ∷ words))) ≡ Ok next → HeadEnds v ls s
    → HeadEnd v (n + 1 + length ls) s
head_by u n s ls next w words true kept rest read ends =
    let m = mapped_ok (λ _. (part.Body, u)) (run_line u words) next read in
    let tested = unless_ok BadHead (is_ready u) (whole (give (tt {0})) words) m.a m.given in
    let bare : with_lines u [] ≡ u = ap (with_lines u) (sym kept.lines) in
    let here : (part.Body, with_lines u []) ≡ next = ap (λ v. (part.Body, v)) bare ∙ m.value in
    record {
      h = u;
      kept = kept;
      ready = tested.passed;
      body =
          body_end u ls [] (n + 1) s kept.sessions kept.probes (body_empty u (n + 1) (omega arith))
          (read_at (n + 1) (part.Body, with_lines u []) next ls s here rest);
    }
head_by u n s ls next w words false kept rest read ends =
    let m = mapped_ok (λ t. (part.Head, t)) (head_line u (w ∷ words)) next read in
    ends m.a (n + 1) (omega arith) (step_kept u (w ∷ words) m.a (step_found u (w ∷ words) m.a m.given) kept)
    (read_at (n + 1) (part.Head, m.a) next ls s m.value rest)

head_words_by : {v : ℕ} (u : Script) (n : ℕ) (s : Script) (ls : List (List ℕ)) (next : Sofar) (ws : List Word) → HeadKept v u
    → lines_read (n + 1) next ls ≡ Ok s
    → words_read n (part.Head, u) ws ≡ Ok next → HeadEnds v ls s → HeadEnd v (n + 1 + length ls) s
head_words_by u n s ls next [] kept rest read ends = absurd (cc)
head_words_by u n s ls next (w ∷ words) kept rest read ends = head_by u n s ls next w words (bytes_eq w (codes "run")) kept rest read ends

head_line_by : {v : ℕ} (u : Script) (n : ℕ) (s : Script) (l : List ℕ) (ls : List (List ℕ)) (next : NextOk n (part.Head, u) l ls s) → HeadKept v u
    → ((part.Head, u) ≡ next.next) ⊎ Read n (part.Head, u) next.next l → HeadEnds v ls s → HeadEnd v (n + 1 + length ls) s
head_line_by u n s l ls next kept (inl e) ends = ends u (n + 1) (omega arith) kept (read_at (n + 1) (part.Head, u) next.next ls s e next.rest)
head_line_by u n s l ls next kept (inr r) ends = head_words_by u n s ls next.next (words_of l) kept next.rest r.words ends

head_end : {v : ℕ} (ls : List (List ℕ)) (u : Script) (n : ℕ) (s : Script) → 0 < n → HeadKept v u → lines_read n (part.Head, u) ls ≡ Ok s
    → HeadEnd v (n + length ls) s
head_end [] u n s some kept is = absurd (cc)
head_end (l ∷ ls) u n s some kept is =
    let next = next_ok n (part.Head, u) l ls s is in
    head_at (n + 1 + length ls) (n + length (l ∷ ls)) s (omega arith)
    (head_line_by u n s l ls next kept (line_ok n (part.Head, u) next.next l next.read) (λ v k p more rest. head_end ls v k s p more rest))

-- the version

-- what a text that was read has come to, and the line that says its version
record StartEnd (end : ℕ) (ls : List (List ℕ)) (s : Script) : Type 0 where
  pub v : ℕ
  pub head : HeadEnd v end s
  pub first : find (λ line. not (is_skipped line)) ls ≡ Some (version_line v)

start_at : (a b : ℕ) (ls : List (List ℕ)) (s : Script) → a ≡ b → StartEnd a ls s → StartEnd b ls s
start_at a b ls s e done = let P : ℕ → Type 0 = λ k. StartEnd k ls s in subst P e done

-- the same of these lines before a version, from any line number on
abbrev StartEnds : List (List ℕ) → Script → Type 0
StartEnds ls s = (n : ℕ) → lines_read n (part.Start, empty) ls ≡ Ok s → StartEnd (n + length ls) ls s

-- a line that isn't skipped says the version
start_words : (n : ℕ) (next : Sofar) (l : List ℕ) (p q : Bool)
    → cond {A = Reading Sofar} (not p) (Err NotAscii) (cond {A = Reading Sofar} q (Err LongLine) (words_read n (part.Start, empty) (words_of l))) ≡ Ok next
    → words_read n (part.Start, empty) (words_of l) ≡ Ok next
start_words n next l false q is = absurd (cc)
start_words n next l true true is = absurd (cc)
start_words n next l true false is = is

start_line_by : (n : ℕ) (s : Script) (l : List ℕ) (ls : List (List ℕ)) (next : Sofar) (skipped : Bool) → is_skipped l ≡ skipped
    → lines_read (n + 1) next ls ≡ Ok s
    → cond {A = Reading Sofar} (not (list_all is_plain l)) (Err NotAscii)
    (cond {A = Reading Sofar} (nat_lt 1024 (length l)) (Err LongLine)
    (cond {A = Reading Sofar} skipped (Ok (part.Start, empty)) (words_read n (part.Start, empty) (words_of l)))) ≡ Ok next
    → StartEnds ls s → StartEnd (n + 1 + length ls) (l ∷ ls) s
start_line_by n s l ls next true at rest is ends =
    let same : (part.Start, empty) ≡ next = skipped_by (list_all is_plain l) (nat_lt 1024 (length l)) is in
    let behind = ends (n + 1) (read_at (n + 1) (part.Start, empty) next ls s same rest) in
    record { v = behind.v; head = behind.head; first = ap (λ b. cond (not b) (Some l) (find (λ line. not (is_skipped line)) ls)) at ∙ behind.first }
  where
    skipped_by : (p q : Bool) → cond {A = Reading Sofar} (not p) (Err NotAscii) (cond {A = Reading Sofar} q (Err LongLine) (Ok (part.Start, empty))) ≡ Ok next
        → (part.Start, empty) ≡ next
    skipped_by false q is = absurd (cc)
    skipped_by true true is = absurd (cc)
    skipped_by true false is = cc
start_line_by n s l ls next false at rest is ends =
    let words = start_words n next l (list_all is_plain l) (nat_lt 1024 (length l)) is in
    let m = mapped_ok (λ v. (part.Head, with_version empty v)) (first_line (words_of l)) next words in
    let says = first_ok (words_of l) m.a m.given in
    let line : l ≡ version_line m.a = sym (spelled-words_of l) ∙ ap line_of says.0 ∙ ap (λ t. codes "flatland " ++ t) (append-nil (decimal m.a)) in
    record {
      v = m.a;
      head = head_end ls (with_version empty m.a) (n + 1) s (omega arith) (head_first m.a says.1)
          (read_at (n + 1) (part.Head, with_version empty m.a) next ls s m.value rest);
      first = ap (λ b. cond (not b) (Some l) (find (λ line. not (is_skipped line)) ls)) at ∙ ap Some line;
    }

start_end : (ls : List (List ℕ)) (n : ℕ) (s : Script) → lines_read n (part.Start, empty) ls ≡ Ok s → StartEnd (n + length ls) ls s
start_end [] n s is = absurd (cc)
start_end (l ∷ ls) n s is =
    let next = next_ok n (part.Start, empty) l ls s is in
    start_at (n + 1 + length ls) (n + length (l ∷ ls)) (l ∷ ls) s (omega arith)
    (start_line_by n s l ls next.next (is_skipped l) refl next.rest next.read (λ k rest. start_end ls k s rest))

-- how many lines a text has

few_pieces : (ls : List (List ℕ)) → 0 < length ls → length (without_empty_end ls) + 1 ≤ lines_room ls
few_pieces [] some = absurd (omega arith)
few_pieces (x ∷ []) some = by_test (length x == 0) refl
  where
    by_test : (b : Bool) → (length x == 0) ≡ b → length (cond b [] (x ∷ [])) + 1 ≤ lines_room (x ∷ [])
    by_test true at = omega arith
    by_test false at = let full : 0 < length x = grind (arith, nat_tests) in omega arith
few_pieces (x ∷ y ∷ ls) some = omega (arith, few_pieces (y ∷ ls) (omega arith))

few_lines : (text : List ℕ) → length (lines_of text) ≤ length text
few_lines text = omega (arith, few_pieces (slice_split is_feed text) (some_parts is_feed text), split_room is_feed text)

-- the whole

-- the parts of the test, and how many sessions are named
pub record Accepted (s : Script) : Type 0 where
  pub setup : is_setup s.setup ≡ true
  pub sessions : length s.sessions ≤ 16
  pub count : nat_le s.count SCRIPT_BYTES_MAX ≡ true
  pub rise : rise_from 0 s.lines ≡ true
  pub counted : list_all (λ (next : ScriptLine). nat_le next.number s.count) s.lines ≡ true
  pub frames : frames_close false 0 s.lines ≡ true
  pub played : list_all (λ (next : ScriptLine). is_played s.setup next.actor next.body) s.lines ≡ true
  pub known : is_within VERSION_MAX s.version ≡ true
  pub early : s.version ≡ 1 → list_all is_of_first_version s.lines ≡ true
  pub one : nat_lt s.version RATIO_SINCE ≡ true → s.setup.ratio ≡ ONE
  pub unscaled : nat_lt s.version RATIO_SINCE ≡ true → list_all sets_no_ratio s.lines ≡ true

frames_end : (h : Script) (us : List ScriptLine) (opened : Bool) (time : ℕ) → FramesKept (with_lines h us) opened time → is_open (with_lines h us) ≡ false
    → frames_close false 0 us ≡ true
frames_end h us opened time kept closed =
    ap (frames_close false 0) (sym (append-nil us)) ∙ kept.judged [] ∙ ap not (sym (open_is (with_lines h us) opened time kept) ∙ closed)

accepted_at : {v : ℕ} (n : ℕ) (few : ℕ) (s : Script) → n ≡ 1 + few → few ≤ 16777216 → HeadEnd v n s → Accepted s
accepted_at n few s is less done =
    let b = done.body in
    let k = b.kept in
    let count : ℕ = n - 1 in
    let P : Script → Type 0 = Accepted in
    subst P (sym b.made) (record {
      setup = setup_given done.h done.kept done.ready;
      sessions = done.kept.few_sessions;
      count = within count (omega arith);
      rise = ap (rise_from 0) (sym (append-nil b.us)) ∙ k.rise [];
      counted = k.counted count (omega arith);
      frames = frames_end done.h b.us k.frames.opened k.frames.time k.frames.kept b.closed;
      played = k.played;
      known = ap (is_within VERSION_MAX) done.kept.said ∙ done.kept.known;
      early = k.early;
      one = λ early. done.kept.one (ap (λ n. nat_lt n RATIO_SINCE) (sym done.kept.said) ∙ early);
      unscaled = k.unscaled;
    })
  where
    within : (m : ℕ) → m ≤ 16777216 → nat_le m 16777216 ≡ true
    within m small = grind (arith, nat_tests)

-- the parts of the test, and the line that says the version
pub record AcceptedText (bytes : List ℕ) (s : Script) : Type 0 where
  pub script : Accepted s
  pub first : first_kept bytes ≡ Some (version_line s.version)

by_size : (bytes : List ℕ) (s : Script) (b : Bool) → nat_lt (16 * 1024 * 1024) (length bytes) ≡ b
    → cond {A = Result Script ScriptFault} b (Err (record { line = 0; kind = TooLong })) (lines_read 1 (part.Start, empty) (lines_of bytes)) ≡ Ok s
    → AcceptedText bytes s
by_size bytes s true at is = absurd (cc)
by_size bytes s false at is =
    let few : length bytes ≤ 16777216 = grind (arith, nat_tests) in
    let lines = few_lines bytes in
    let start = start_end (lines_of bytes) 1 s is in
    let version : start.v ≡ s.version = sym (ap (λ (t : Script). t.version) start.head.body.made ∙ start.head.kept.said) in
    record {
      script = accepted_at (1 + length (lines_of bytes)) (length (lines_of bytes)) s refl (omega arith) start.head;
      first = start.first ∙ ap (λ v. Some (version_line v)) version;
    }

pub accepted_text : (bytes : List ℕ) (s : Script) → IsScript bytes s → AcceptedText bytes s
accepted_text bytes s is = by_size bytes s (nat_lt (16 * 1024 * 1024) (length bytes)) refl is

pub accepted : (bytes : List ℕ) (s : Script) → IsScript bytes s → Accepted s
accepted bytes s is = (accepted_text bytes s is).script

-- all of the parts
pub playable_of : (s : Script) → Accepted s → is_playable s ≡ true
playable_of s a =
    and_from _ _ (and_from _ _ (and_from _ _ (and_from _ _ (and_from _ _ a.setup a.count) a.rise) a.counted) a.frames) a.played
