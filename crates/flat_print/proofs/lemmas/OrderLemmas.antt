-- The lines of a head in the canonical order.
use Rattle.flat_page.specs.Words.{name_at, actor_name}
use Rattle.std.proofs.Common.{◌≡◌, ℕ, ◌+◌, ◌-◌, ◌<◌, ◌≤◌, Bool, true, false, cond, ◌&&◌, nat_lt, nat_le, List, [], ◌∷◌, ◌++◌, length, map, Option, Some, None}
use Rattle.std.proofs.Common.{unwrap_or, option_and_then, if◌then◌else◌, Ok, refl, sym, ◌∙◌, ap, codes, arith, lit<, lit≤, subst, append_assoc, length-append}
use Rattle.std.proofs.Common.{option_map}
use Rattle.std.proofs.lemmas.List.{map-append}
use Rattle.std.proofs.Math.Seq.{get_or-append_seam}
use Rattle.std.proofs.lemmas.Option.{slice_get-get_or}
use Rattle.std.specs.Option.{option_map_or}
use Rattle.std.specs.Str.{bytes_eq}
use Rattle.std.specs.Fmt.{decimal}
use Rattle.std.proofs.lemmas.Slice.Eq.{bytes_eq-Decides}
use Rattle.std.proofs.lemmas.Bool.Decides.{nat_tests}
use Rattle.flat_base.specs.declared.ids.Actor.{Actor}
use Rattle.flat_base.specs.declared.ids.Actor.TheVariants.{Display, Session}
use Rattle.flat_base.specs.declared.ids.SessionNo.{SessionNo}
use Rattle.flat_base.specs.declared.limits.TheConstants.{ONE, RATIO_MIN, RATIO_MAX, RATIO_SINCE}
use Rattle.std.specs.Prelude.{◌==◌}
use Rattle.flat_text.specs.Number.{natural}
use Rattle.flat_text.proofs.lemmas.NumberLemmas.{decimal-natural}
use Rattle.flat_places.specs.declared.kinds.FaultKind.TheVariants.{BadNumber, UnknownName}
use Rattle.flat_places.specs.declared.script.Script.{Script}
use Rattle.flat_places.specs.Forms.{Word, Reading, ◌<*>◌, whole, each, one_or_more, ◌<$>◌}
use Rattle.flat_places.specs.Names.{place_of, session_named, owner_named}
use Rattle.flat_places.specs.Places.{number_from, ratio, first_ratio, owner_word}
use Rattle.flat_forms.specs.Head.{empty, size, side, has_display, with_version, with_display, with_session, with_probe, with_buffers, with_pair, with_fence}
use Rattle.flat_print.specs.Print.{name_words, numbered, buffers_line_words, pair_line_words, fence_line_words, display_line_words, ratio_words}
use Rattle.flat_forms.proofs.lemmas.FormLemmas.{Gives, both_ok, or_kind_ok, whole_ok, apply_ok, map_ok, place_ok}
use Rattle.flat_print.proofs.ValueWords.{test_ok}
use Rattle.flat_print.proofs.NameWords.{name_at-place_of}
use Rattle.flat_print.proofs.lemmas.TextLemmas.{IsLine, line_front, front_fits, AllLines, AllLines-append, room_of, room_of-append}
use Rattle.flat_page.specs.Words.{line_of}
use Rattle.flat_print.proofs.LineLemmas.{numbered-append}
use Rattle.flat_forms.proofs.lemmas.StepLemmas.{SizeStep, SessionStep, ProbeStep, BuffersStep, PairStep, FenceStep, Step, size_step, session_step, probe_step}
use Rattle.flat_forms.proofs.lemmas.StepLemmas.{buffers_step, pair_step, fence_step, sort}
use Rattle.flat_print.proofs.SwapLemmas.{swap}
use Rattle.std.proofs.lemmas.Bool.{and_parts}

-- chains of steps, none of an earlier sort than k

pub record Link (k : ℕ) (u : Script) (ws : List Word) (rest : Script → Type 0) : Type 0 where
  pub mid : Script
  pub step : Step u ws mid
  pub order : k ≤ sort step
  pub behind : rest mid

abbrev pub Chain : ℕ → Script → List (List Word) → Script → Type 0
Chain k u [] t = u ≡ t
Chain k u (ws ∷ wss) t = Link k u ws (λ m. Chain k m wss t)

pub chain_more : (k : ℕ) (u m t : Script) (wss : List (List Word)) (ws : List Word) → Chain k u wss m → (y : Step m ws t) → k ≤ sort y
    → Chain k u (wss ++ ws ∷ []) t
chain_more k u m t [] ws chain y order = let P : Script → Type 0 =
    λ v. Link k v ws (λ w. w ≡ t) in subst P (sym chain) (record { mid = t; step = y; order = order; behind = refl })
chain_more k u m t (b ∷ wss) ws chain y order = record {
  mid = chain.mid;
  step = chain.step;
  order = chain.order;
  behind = chain_more k chain.mid m t wss ws chain.behind y order;
}

-- a line of an earlier sort goes to the front of a chain
pub record Bubbled (k : ℕ) (u : Script) (wss : List (List Word)) (ws : List Word) (t : Script) (j : ℕ) : Type 0 where
  pub mid : Script
  pub first : Step u ws mid
  pub first_sort : sort first ≡ j
  pub behind : Chain k mid wss t

step_from : (u m t : Script) (ws : List Word) → u ≡ m → (y : Step m ws t) → (x : Step u ws t) × (sort x ≡ sort y)
step_from u m t ws e = let P : Script → Type 0 = λ v. (y : Step v ws t) → (x : Step u ws t) × (sort x ≡ sort y) in subst P e (λ y. (y, refl))

pub bubble : (k : ℕ) (u m t : Script) (wss : List (List Word)) (ws : List Word) → Chain k u wss m → (y : Step m ws t) → sort y < k
    → Bubbled k u wss ws t (sort y)
bubble k u m t [] ws chain y less = let x = step_from u m t ws chain y in record { mid = t; first = x.0; first_sort = x.1; behind = refl }
bubble k u m t (b ∷ wss) ws chain y less =
    let inner = bubble k chain.mid m t wss ws chain.behind y less in
    let before : sort inner.first < sort chain.step = let s = inner.first_sort in let o = chain.order in omega arith in
    let swapped = swap u chain.mid inner.mid b ws chain.step inner.first before in
    record {
      mid = swapped.mid;
      first = swapped.first;
      first_sort = swapped.first_sort ∙ inner.first_sort;
      behind = record {
        mid = inner.mid;
        step = swapped.second;
        order = (let s = swapped.second_sort in let o = chain.order in omega arith);
        behind = inner.behind;
      };
    }

-- what is printed of the lines, whatever is declared behind them

abbrev pub buffers_with : Script → List Word → List Word → List (List Word)
buffers_with u xs ys = numbered (buffers_line_words (record u { sessions = u.sessions ++ xs; buffers = u.buffers ++ ys })) 0 u.setup.buffers

abbrev pub pairs_with : Script → List Word → List Word → List Word → List (List Word)
pairs_with u xs zs ys = numbered (pair_line_words (record u { sessions = u.sessions ++ xs; probes = u.probes ++ zs; pairs = u.pairs ++ ys })) 0 u.setup.pairs

abbrev pub fences_with : Script → List Word → List Word → List Word → List (List Word)
fences_with u xs zs ys = numbered (fence_line_words (record u { sessions = u.sessions ++ xs; probes = u.probes ++ zs; fences = u.fences ++ ys })) 0
    u.setup.fences

pub record Ordered (version : ℕ) (u : Script) (k : ℕ) : Type 0 where
  pub d : List (List Word)
  pub s : List (List Word)
  pub q : List (List Word)
  pub b : List (List Word)
  pub p : List (List Word)
  pub f : List (List Word)
  pub u0 : Script
  pub u1 : Script
  pub u2 : Script
  pub u3 : Script
  pub u4 : Script
  pub sizes : Chain 0 (with_version empty version) d u0
  pub sessions : Chain 1 u0 s u1
  pub probes : Chain 2 u1 q u2
  pub buffers : Chain 3 u2 b u3
  pub pairs : Chain 4 u3 p u4
  pub fences : Chain 5 u4 f u
  pub size_words : d ≡ cond (has_display u) (display_line_words u ∷ []) []
  pub session_words : s ≡ map (name_words (codes "session")) u.sessions
  pub probe_words : q ≡ map (name_words (codes "probe")) u.probes
  pub buffer_words : (xs ys : List Word) → buffers_with u xs ys ≡ b
  pub pair_words : (xs zs ys : List Word) → pairs_with u xs zs ys ≡ p
  pub fence_words : (xs zs ys : List Word) → fences_with u xs zs ys ≡ f
  pub buffer_names : length u.setup.buffers ≡ length u.buffers
  pub pair_names : length u.setup.pairs ≡ length u.pairs
  pub fence_names : length u.setup.fences ≡ length u.fences
  pub all_d : AllLines d
  pub all_s : AllLines s
  pub all_q : AllLines q
  pub all_b : AllLines b
  pub all_p : AllLines p
  pub all_f : AllLines f
  pub fits : room_of d + (room_of s + (room_of q + (room_of b + (room_of p + room_of f)))) ≤ k

pub ordered_empty : (version : ℕ) → Ordered version (with_version empty version) 0
ordered_empty version = record {
  d = [];
  s = [];
  q = [];
  b = [];
  p = [];
  f = [];
  u0 = with_version empty version;
  u1 = with_version empty version;
  u2 = with_version empty version;
  u3 = with_version empty version;
  u4 = with_version empty version;
  sizes = refl;
  sessions = refl;
  probes = refl;
  buffers = refl;
  pairs = refl;
  fences = refl;
  size_words = refl;
  session_words = refl;
  probe_words = refl;
  buffer_words = λ xs ys. refl;
  pair_words = λ xs zs ys. refl;
  fence_words = λ xs zs ys. refl;
  buffer_names = refl;
  pair_names = refl;
  fence_names = refl;
  all_d = tt;
  all_s = tt;
  all_q = tt;
  all_b = tt;
  all_p = tt;
  all_f = tt;
  fits = lit≤ tt;
}

-- numbers of a range

passes_by : (p : ℕ → Bool) (n v : ℕ) (b : Bool) → p n ≡ b → cond b (Some n) None ≡ Some v → p v ≡ true
passes_by p n v true at is = let e : n ≡ v = cc in ap p (sym e) ∙ at
passes_by p n v false at is = absurd (cc)

pub test_passes : (p : ℕ → Bool) (o : Option ℕ) (v : ℕ) → option_and_then (λ n. if p n then Some n else None) o ≡ Some v → p v ≡ true
test_passes p None v is = absurd (cc)
test_passes p (Some n) v is = passes_by p n v (p n) refl is

range_ok : (least most : ℕ) (w : Word) (n : ℕ) → (number_from least most (w ∷ [])).0 ≡ Ok n → (decimal n ≡ w) × (nat_le least n ≡ true)
range_ok least most w n is =
    let found = or_kind_ok BadNumber _ n is in
    let test = λ (k : ℕ). nat_le least k && nat_le k most in
    ((decimal-natural w n (test_ok test (natural w) n found)).0, (and_parts (nat_le least n) (nat_le n most) (test_passes test (natural w) n found)).0)

-- names behind more names

pub name_at_seam : (names ys : List Word) (n : Word) → name_at (names ++ n ∷ ys) (length names) ≡ n
name_at_seam names ys n = ap (λ o. unwrap_or o []) (slice_get-get_or (names ++ n ∷ ys) (length names) [] (omega (arith, length-append names (n ∷ ys))))
    ∙ get_or-append_seam names n ys []

name_at_end : (names ys : List Word) (n : Word) (k : ℕ) → k ≡ length names → name_at ((names ++ n ∷ []) ++ ys) k ≡ n
name_at_end names ys n k is = ap (λ zs. name_at zs k) (append_assoc names (n ∷ []) ys) ∙ ap (name_at (names ++ n ∷ ys)) is ∙ name_at_seam names ys n

session_by : (u : Script) (xs : List Word) (w : Word) (a : SessionNo) (o : Option ℕ) → place_of u.sessions w ≡ o
    → option_map (λ i. record { 0 = i + 1 }) o ≡ Some a → name_at (u.sessions ++ xs) (a.0 - 1) ≡ w
session_by u xs w a None at is = absurd (cc)
session_by u xs w a (Some i) at is =
    let number : i + 1 ≡ a.0 = ap (λ (o : Option SessionNo). option_map_or (λ s. s.0) o 0) is in
    ap (name_at (u.sessions ++ xs)) (omega arith) ∙ name_at-place_of u.sessions xs w i at

session_word_of : (u : Script) (xs : List Word) (w : Word) (a : SessionNo) → session_named u w ≡ Some a → name_at (u.sessions ++ xs) (a.0 - 1) ≡ w
session_word_of u xs w a is = session_by u xs w a (place_of u.sessions w) refl is

abbrev more_actors : Script → List Word → List Word → Script
more_actors u xs zs = record u { sessions = u.sessions ++ xs; probes = u.probes ++ zs }

actor_by_name : (u : Script) (xs zs : List Word) (w : Word) (a : Actor) (o : Option SessionNo) → session_named u w ≡ o → option_map Session o ≡ Some a
    → actor_name (more_actors u xs zs) a ≡ w
actor_by_name u xs zs w a None at is = absurd (cc)
actor_by_name u xs zs w a (Some s) at is = let e : Session s ≡ a = cc in ap (actor_name (more_actors u xs zs)) (sym e) ∙ session_word_of u xs w s at

actor_by : (u : Script) (xs zs : List Word) (w : Word) (a : Actor) (b : Bool) → bytes_eq w (codes "display") ≡ b
    → cond b (Some Display) (option_map Session (session_named u w)) ≡ Some a → actor_name (more_actors u xs zs) a ≡ w
actor_by u xs zs w a true at is = let e : Display ≡ a = cc in ap (actor_name (more_actors u xs zs)) (sym e) ∙ sym ((bytes_eq-Decides w (codes "display")).0 at)
actor_by u xs zs w a false at is = actor_by_name u xs zs w a (session_named u w) refl is

actor_name_of : (u : Script) (xs zs : List Word) (w : Word) (a : Actor) → owner_named u w ≡ Some a → actor_name (more_actors u xs zs) a ≡ w
actor_name_of u xs zs w a is = actor_by u xs zs w a (bytes_eq w (codes "display")) refl is

each_words : (u : Script) (xs zs ws : List Word) (os : List Actor) → each (owner_word u) ws ≡ Ok os → map (actor_name (more_actors u xs zs)) os ≡ ws
each_words u xs zs [] os is = let e : [] ≡ os = cc in ap (map (actor_name (more_actors u xs zs))) (sym e)
each_words u xs zs (w ∷ ws) os is =
    let parts = both_ok (λ a rest. a ∷ rest) (owner_word u w) (each (owner_word u) ws) os is in
    let g = actor_name (more_actors u xs zs) in
    ap (map g) (sym parts.value) ∙ ap (λ v. v ∷ map g parts.b) (actor_name_of u xs zs w parts.a (or_kind_ok UnknownName (owner_named u w) parts.a parts.first))
    ∙ ap (λ vs. w ∷ vs) (each_words u xs zs ws parts.b parts.second)

owners_words : (u : Script) (xs zs ws : List Word) (os : List Actor) → one_or_more (owner_word u) ws ≡ Ok os → map (actor_name (more_actors u xs zs)) os ≡ ws
owners_words u xs zs [] os is = absurd (cc)
owners_words u xs zs (w ∷ ws) os is = each_words u xs zs (w ∷ ws) os is

-- the words of the size

-- What stands behind the sides: the pixel ratio as it is printed, and perhaps one that says nothing.
record RatioTaken (version : ℕ) (words : List Word) (q : ℕ) : Type 0 where
  extra : List Word
  is : words ≡ ratio_words q ++ extra
  again : first_ratio version (ratio_words q) ≡ (Ok q, [])

ratio_taken : (version : ℕ) (words : List Word) (q : ℕ) → Gives (first_ratio version) words q [] → RatioTaken version words q
ratio_taken version [] q given =
    let one : ONE ≡ q = let value = given.value in cc in
    subst (λ (r : ℕ). RatioTaken version [] r) one (record { extra = []; is = refl; again = refl })
ratio_taken version (w ∷ ws) q given = by_version (nat_lt version RATIO_SINCE) refl
  where
    by_ratio : (b : Bool) → (q == ONE) ≡ b → nat_lt version RATIO_SINCE ≡ false → decimal q ≡ w → ws ≡ [] → (ratio (w ∷ [])).0 ≡ Ok q
        → RatioTaken version (w ∷ ws) q
    by_ratio true one late number none passes =
        let same : q ≡ ONE = grind (arith, nat_tests) in
        record {
          extra = w ∷ [];
          is = rw one (ap (λ r. w ∷ r) none);
          again = rw one (ap (λ (r : ℕ). let given : Reading ℕ × List Word = (Ok r, []) in given) (sym same));
        }
    by_ratio false other late number none passes = record {
      extra = [];
      is = rw other (ap (λ v. v ∷ ws) (sym number) ∙ ap (λ r. decimal q ∷ r) none);
      again = rw (other, late, number, passes) refl;
    }

    by_version : (b : Bool) → nat_lt version RATIO_SINCE ≡ b → RatioTaken version (w ∷ ws) q
    by_version true early = absurd (let left = rw early at given.left in cc)
    by_version false late =
        let at : Gives ratio (w ∷ ws) q [] = record { value = rw late at given.value; left = rw late at given.left } in
        by_ratio (q == ONE) refl late (range_ok RATIO_MIN RATIO_MAX w q at.value).0 at.left at.value

-- What a display line has: its sides and its pixel ratio as they are printed, which are read as the whole line is.
record SizeTaken (version : ℕ) (rest : List Word) (w h q : ℕ) : Type 0 where
  extra : List Word
  words : rest ≡ (decimal w ∷ decimal h ∷ ratio_words q) ++ extra
  again : whole (size version) (decimal w ∷ decimal h ∷ ratio_words q) ≡ Ok (w, h, q)
  wide : nat_le 1 w ≡ true

abbrev triple : ℕ → ℕ → ℕ → ℕ × ℕ × ℕ
triple x y z = (x, y, z)

size_taken : (version : ℕ) (rest : List Word) (w h q : ℕ) → whole (size version) rest ≡ Ok (w, h, q) → SizeTaken version rest w h q
size_taken version rest w h q is =
    let three = apply_ok (triple <$> side <*> side) (first_ratio version) rest (w, h, q) [] (whole_ok (size version) rest (w, h, q) is) in
    let two = apply_ok (triple <$> side) side rest three.g three.mid three.first in
    let one = map_ok triple side rest two.g two.mid two.first in
    let a = place_ok _ rest one.a two.mid one.given in
    let b = place_ok _ two.mid two.a three.mid two.second in
    let value : triple one.a two.a three.a ≡ triple w h q = ap (λ g. g two.a three.a) one.value ∙ ap (λ g. g three.a) two.value ∙ three.value in
    sized version rest a.word b.word three.mid one.a two.a three.a w h q value (a.begins ∙ ap (λ r. a.word ∷ r) b.begins) a.passes b.passes
    (ratio_taken version three.mid three.a three.second)
  where
    sized : (version : ℕ) (rest : List Word) (u v : Word) (tail : List Word) (x y z w h q : ℕ) → triple x y z ≡ triple w h q → rest ≡ u ∷ v ∷ tail
        → (side (u ∷ [])).0 ≡ Ok x → (side (v ∷ [])).0 ≡ Ok y → RatioTaken version tail z → SizeTaken version rest w h q
    sized version rest u v tail x y z w h q value words first second left =
        let ra = range_ok 1 65536 u x first in
        let rb = range_ok 1 65536 v y second in
        let here : SizeTaken version rest x y z = record {
          extra = left.extra;
          words = words ∙ ap (λ r. r ∷ v ∷ tail) (sym ra.0) ∙ ap (λ r. decimal x ∷ r ∷ tail) (sym rb.0) ∙ ap (λ r. decimal x ∷ decimal y ∷ r) left.is;
          again = (let one : (side (decimal x ∷ [])).0 ≡ Ok x = ap (λ r. (side (r ∷ [])).0) ra.0 ∙ first in
              let two : (side (decimal y ∷ [])).0 ≡ Ok y = ap (λ r. (side (r ∷ [])).0) rb.0 ∙ second in
              let tail_again = left.again in
              rw (one, two, tail_again) refl);
          wide = ra.1;
        } in
        subst (λ (d : ℕ × ℕ × ℕ). SizeTaken version rest d.0 d.1 d.2) value here

-- the line of a declaration, as it is printed

buffers_line : {ws : List Word} {t : Script} (u : Script) (xs ys : List Word) (x : BuffersStep u ws t) → length u.setup.buffers ≡ length u.buffers
    → buffers_line_words (record u { sessions = u.sessions ++ xs; buffers = (u.buffers ++ x.name ∷ []) ++ ys }) (0 + length u.setup.buffers) x.decl ≡ ws
buffers_line u xs ys x many =
    let name = name_at_end u.buffers ys x.name (0 + length u.setup.buffers) (omega arith) in
    let owner = session_word_of u xs x.owner x.decl.owner x.owned in
    let a = (range_ok 1 64 x.a x.decl.count x.count).0 in
    let b = (range_ok 1 65536 x.b x.decl.w x.width).0 in
    let c = (range_ok 1 65536 x.c x.decl.h x.height).0 in
    rw (name, owner, a, b, c) (sym x.begins)

pair_line : {ws : List Word} {t : Script} (u : Script) (xs zs ys : List Word) (x : PairStep u ws t) → length u.setup.pairs ≡ length u.pairs
    → pair_line_words (record u { sessions = u.sessions ++ xs; probes = u.probes ++ zs; pairs = (u.pairs ++ x.name ∷ []) ++ ys }) (0 + length u.setup.pairs)
    x.decl ≡ ws
pair_line u xs zs ys x many =
    let name = name_at_end u.pairs ys x.name (0 + length u.setup.pairs) (omega arith) in
    let viewport = actor_name_of u xs zs x.x x.decl.viewport x.viewport in
    let view = session_word_of u xs x.y x.decl.view x.view in
    rw (name, viewport, view) (sym x.begins)

fence_line : {ws : List Word} {t : Script} (u : Script) (xs zs ys : List Word) (x : FenceStep u ws t) → length u.setup.fences ≡ length u.fences
    → fence_line_words (record u { sessions = u.sessions ++ xs; probes = u.probes ++ zs; fences = (u.fences ++ x.name ∷ []) ++ ys }) (0 + length u.setup.fences)
    x.decl ≡ ws
fence_line u xs zs ys x many =
    let name = name_at_end u.fences ys x.name (0 + length u.setup.fences) (omega arith) in
    let owners = owners_words u xs zs x.rest x.decl.owners x.owners in
    rw (name, owners) (sym x.begins)

pub insert_size : {version : ℕ} (u : Script) (ws : List Word) (t : Script) (k : ℕ) → IsLine ws → Ordered version u k → SizeStep u ws t
    → Ordered version t (k + 1 + length (line_of ws))
insert_size {version = version} u ws t k good o x =
    let P : Script → Type 0 = λ v. Ordered version v (k + 1 + length (line_of ws)) in
    let t1 = with_display u x.w x.h x.q in
    let taken = size_taken u.version x.rest x.w x.h x.q x.read in
    let line : List Word = codes "display" ∷ decimal x.w ∷ decimal x.h ∷ ratio_words x.q in
    let written : ws ≡ line ++ taken.extra = x.begins ∙ ap (λ r. codes "display" ∷ r) taken.words in
    let fine : IsLine line = line_front (codes "display") (decimal x.w) (decimal x.h ∷ ratio_words x.q) taken.extra (subst IsLine written good) in
    let shorter : length (line_of line) ≤ length (line_of ws) =
    let front = front_fits (codes "display") (decimal x.w ∷ decimal x.h ∷ ratio_words x.q) taken.extra in
    let same = ap (λ v. length (line_of v)) written in omega (arith, front, same) in
    let y : Step u line t1 = size_step (record {
      rest = decimal x.w ∷ decimal x.h ∷ ratio_words x.q;
      w = x.w;
      h = x.h;
      q = x.q;
      begins = refl;
      first = x.first;
      read = taken.again;
      made = refl;
    }) in
    let b5 = bubble 5 o.u4 u t1 o.f line o.fences y (lit< tt) in
    let b4 = bubble 4 o.u3 o.u4 b5.mid o.p line o.pairs b5.first (let e = b5.first_sort in omega arith) in
    let b3 = bubble 3 o.u2 o.u3 b4.mid o.b line o.buffers b4.first (let e = b4.first_sort in omega arith) in
    let b2 = bubble 2 o.u1 o.u2 b3.mid o.q line o.probes b3.first (let e = b3.first_sort in omega arith) in
    let b1 = bubble 1 o.u0 o.u1 b2.mid o.s line o.sessions b2.first (let e = b2.first_sort in omega arith) in
    let chain = chain_more 0 (with_version empty version) o.u0 b1.mid o.d line o.sizes b1.first (let e = b1.first_sort in omega arith) in
    let none : o.d ≡ [] = o.size_words ∙ ap (λ c. cond c (display_line_words u ∷ []) []) x.first in
    let wide : nat_lt 0 x.w ≡ true = let r = taken.wide in grind (arith, nat_tests) in
    let shown : o.d ++ line ∷ [] ≡ cond (nat_lt 0 x.w) (display_line_words t1 ∷ []) [] =
    ap (λ l. l ++ line ∷ []) none ∙ ap (λ c. cond c (display_line_words t1 ∷ []) []) (sym wide) in
    subst P (sym x.made) (record {
      d = o.d ++ line ∷ [];
      s = o.s;
      q = o.q;
      b = o.b;
      p = o.p;
      f = o.f;
      u0 = b1.mid;
      u1 = b2.mid;
      u2 = b3.mid;
      u3 = b4.mid;
      u4 = b5.mid;
      sizes = chain;
      sessions = b1.behind;
      probes = b2.behind;
      buffers = b3.behind;
      pairs = b4.behind;
      fences = b5.behind;
      size_words = shown;
      session_words = o.session_words;
      probe_words = o.probe_words;
      buffer_words = o.buffer_words;
      pair_words = o.pair_words;
      fence_words = o.fence_words;
      buffer_names = o.buffer_names;
      pair_names = o.pair_names;
      fence_names = o.fence_names;
      all_d = AllLines-append o.d (line ∷ []) o.all_d (fine, tt);
      all_s = o.all_s;
      all_q = o.all_q;
      all_b = o.all_b;
      all_p = o.all_p;
      all_f = o.all_f;
      fits = (let e = room_of-append o.d (line ∷ []) in let h = o.fits in omega (arith, shorter));
    })

pub insert_session : {version : ℕ} (u : Script) (ws : List Word) (t : Script) (k : ℕ) → IsLine ws → Ordered version u k → SessionStep u ws t
    → Ordered version t (k + 1 + length (line_of ws))
insert_session {version = version} u ws t k good o x =
    let P : Script → Type 0 = λ v. Ordered version v (k + 1 + length (line_of ws)) in
    let t1 = with_session u x.name in
    let y : Step u ws t1 = session_step (record { name = x.name; begins = x.begins; room = x.room; fresh = x.fresh; made = refl }) in
    let b5 = bubble 5 o.u4 u t1 o.f ws o.fences y (lit< tt) in
    let b4 = bubble 4 o.u3 o.u4 b5.mid o.p ws o.pairs b5.first (let e = b5.first_sort in omega arith) in
    let b3 = bubble 3 o.u2 o.u3 b4.mid o.b ws o.buffers b4.first (let e = b4.first_sort in omega arith) in
    let b2 = bubble 2 o.u1 o.u2 b3.mid o.q ws o.probes b3.first (let e = b3.first_sort in omega arith) in
    let chain = chain_more 1 o.u0 o.u1 b2.mid o.s ws o.sessions b2.first (let e = b2.first_sort in omega arith) in
    subst P (sym x.made) (record {
      d = o.d;
      s = o.s ++ ws ∷ [];
      q = o.q;
      b = o.b;
      p = o.p;
      f = o.f;
      u0 = o.u0;
      u1 = b2.mid;
      u2 = b3.mid;
      u3 = b4.mid;
      u4 = b5.mid;
      sizes = o.sizes;
      sessions = chain;
      probes = b2.behind;
      buffers = b3.behind;
      pairs = b4.behind;
      fences = b5.behind;
      size_words = o.size_words;
      session_words = ap (λ l. l ++ ws ∷ []) o.session_words ∙ ap (λ v. map (name_words (codes "session")) u.sessions ++ v ∷ []) x.begins
          ∙ sym (map-append (name_words (codes "session")) u.sessions (x.name ∷ []));
      probe_words = o.probe_words;
      buffer_words = λ xs ys. ap (λ ss. numbered (buffers_line_words (record u { sessions = ss; buffers = u.buffers ++ ys })) 0 u.setup.buffers)
          (append_assoc u.sessions (x.name ∷ []) xs) ∙ o.buffer_words (x.name ∷ xs) ys;
      pair_words = λ xs zs ys. ap (λ ss. numbered (pair_line_words (record u { sessions = ss; probes = u.probes ++ zs; pairs = u.pairs ++ ys })) 0
          u.setup.pairs) (append_assoc u.sessions (x.name ∷ []) xs) ∙ o.pair_words (x.name ∷ xs) zs ys;
      fence_words = λ xs zs ys. ap (λ ss. numbered (fence_line_words (record u { sessions = ss; probes = u.probes ++ zs; fences = u.fences ++ ys })) 0
          u.setup.fences) (append_assoc u.sessions (x.name ∷ []) xs) ∙ o.fence_words (x.name ∷ xs) zs ys;
      buffer_names = o.buffer_names;
      pair_names = o.pair_names;
      fence_names = o.fence_names;
      all_d = o.all_d;
      all_s = AllLines-append o.s (ws ∷ []) o.all_s (good, tt);
      all_q = o.all_q;
      all_b = o.all_b;
      all_p = o.all_p;
      all_f = o.all_f;
      fits = (let e = room_of-append o.s (ws ∷ []) in let h = o.fits in omega arith);
    })

pub insert_probe : {version : ℕ} (u : Script) (ws : List Word) (t : Script) (k : ℕ) → IsLine ws → Ordered version u k → ProbeStep u ws t
    → Ordered version t (k + 1 + length (line_of ws))
insert_probe {version = version} u ws t k good o x =
    let P : Script → Type 0 = λ v. Ordered version v (k + 1 + length (line_of ws)) in
    let t1 = with_probe u x.name in
    let y : Step u ws t1 = probe_step (record { name = x.name; begins = x.begins; room = x.room; fresh = x.fresh; made = refl }) in
    let b5 = bubble 5 o.u4 u t1 o.f ws o.fences y (lit< tt) in
    let b4 = bubble 4 o.u3 o.u4 b5.mid o.p ws o.pairs b5.first (let e = b5.first_sort in omega arith) in
    let b3 = bubble 3 o.u2 o.u3 b4.mid o.b ws o.buffers b4.first (let e = b4.first_sort in omega arith) in
    let chain = chain_more 2 o.u1 o.u2 b3.mid o.q ws o.probes b3.first (let e = b3.first_sort in omega arith) in
    subst P (sym x.made) (record {
      d = o.d;
      s = o.s;
      q = o.q ++ ws ∷ [];
      b = o.b;
      p = o.p;
      f = o.f;
      u0 = o.u0;
      u1 = o.u1;
      u2 = b3.mid;
      u3 = b4.mid;
      u4 = b5.mid;
      sizes = o.sizes;
      sessions = o.sessions;
      probes = chain;
      buffers = b3.behind;
      pairs = b4.behind;
      fences = b5.behind;
      size_words = o.size_words;
      session_words = o.session_words;
      probe_words = ap (λ l. l ++ ws ∷ []) o.probe_words ∙ ap (λ v. map (name_words (codes "probe")) u.probes ++ v ∷ []) x.begins
          ∙ sym (map-append (name_words (codes "probe")) u.probes (x.name ∷ []));
      buffer_words = o.buffer_words;
      pair_words = λ xs zs ys. ap (λ ps. numbered (pair_line_words (record u { sessions = u.sessions ++ xs; probes = ps; pairs = u.pairs ++ ys })) 0
          u.setup.pairs) (append_assoc u.probes (x.name ∷ []) zs) ∙ o.pair_words xs (x.name ∷ zs) ys;
      fence_words = λ xs zs ys. ap (λ ps. numbered (fence_line_words (record u { sessions = u.sessions ++ xs; probes = ps; fences = u.fences ++ ys })) 0
          u.setup.fences) (append_assoc u.probes (x.name ∷ []) zs) ∙ o.fence_words xs (x.name ∷ zs) ys;
      buffer_names = o.buffer_names;
      pair_names = o.pair_names;
      fence_names = o.fence_names;
      all_d = o.all_d;
      all_s = o.all_s;
      all_q = AllLines-append o.q (ws ∷ []) o.all_q (good, tt);
      all_b = o.all_b;
      all_p = o.all_p;
      all_f = o.all_f;
      fits = (let e = room_of-append o.q (ws ∷ []) in let h = o.fits in omega arith);
    })

pub insert_buffers : {version : ℕ} (u : Script) (ws : List Word) (t : Script) (k : ℕ) → IsLine ws → Ordered version u k → BuffersStep u ws t
    → Ordered version t (k + 1 + length (line_of ws))
insert_buffers {version = version} u ws t k good o x =
    let P : Script → Type 0 = λ v. Ordered version v (k + 1 + length (line_of ws)) in
    let t1 = with_buffers u x.name x.decl in
    let y : Step u ws t1 = buffers_step (record {
      name = x.name;
      owner = x.owner;
      a = x.a;
      b = x.b;
      c = x.c;
      decl = x.decl;
      begins = x.begins;
      room = x.room;
      fresh = x.fresh;
      owned = x.owned;
      count = x.count;
      width = x.width;
      height = x.height;
      made = refl;
    }) in
    let b5 = bubble 5 o.u4 u t1 o.f ws o.fences y (lit< tt) in
    let b4 = bubble 4 o.u3 o.u4 b5.mid o.p ws o.pairs b5.first (let e = b5.first_sort in omega arith) in
    let chain = chain_more 3 o.u2 o.u3 b4.mid o.b ws o.buffers b4.first (let e = b4.first_sort in omega arith) in
    let line : (xs ys : List Word) → buffers_line_words (record t1 { sessions = u.sessions ++ xs; buffers = (u.buffers ++ x.name ∷ []) ++ ys })
    (0 + length u.setup.buffers) x.decl ≡ ws = λ xs ys. buffers_line u xs ys x o.buffer_names in
    subst P (sym x.made) (record {
      d = o.d;
      s = o.s;
      q = o.q;
      b = o.b ++ ws ∷ [];
      p = o.p;
      f = o.f;
      u0 = o.u0;
      u1 = o.u1;
      u2 = o.u2;
      u3 = b4.mid;
      u4 = b5.mid;
      sizes = o.sizes;
      sessions = o.sessions;
      probes = o.probes;
      buffers = chain;
      pairs = b4.behind;
      fences = b5.behind;
      size_words = o.size_words;
      session_words = o.session_words;
      probe_words = o.probe_words;
      buffer_words = λ xs ys. numbered-append (buffers_line_words (record t1 { sessions = u.sessions ++ xs; buffers = (u.buffers ++ x.name ∷ []) ++ ys })) 0
          u.setup.buffers (x.decl ∷ []) ∙ ap (λ l. l ++ buffers_line_words
          (record t1 { sessions = u.sessions ++ xs; buffers = (u.buffers ++ x.name ∷ []) ++ ys }) (0 + length u.setup.buffers) x.decl ∷ [])
          (ap (λ ns. numbered (buffers_line_words (record u { sessions = u.sessions ++ xs; buffers = ns })) 0 u.setup.buffers)
          (append_assoc u.buffers (x.name ∷ []) ys) ∙ o.buffer_words xs (x.name ∷ ys)) ∙ ap (λ v. o.b ++ v ∷ []) (line xs ys);
      pair_words = o.pair_words;
      fence_words = o.fence_words;
      buffer_names = omega (arith, length-append u.setup.buffers (x.decl ∷ []), length-append u.buffers (x.name ∷ []), o.buffer_names);
      pair_names = o.pair_names;
      fence_names = o.fence_names;
      all_d = o.all_d;
      all_s = o.all_s;
      all_q = o.all_q;
      all_b = AllLines-append o.b (ws ∷ []) o.all_b (good, tt);
      all_p = o.all_p;
      all_f = o.all_f;
      fits = (let e = room_of-append o.b (ws ∷ []) in let h = o.fits in omega arith);
    })

pub insert_pair : {version : ℕ} (u : Script) (ws : List Word) (t : Script) (k : ℕ) → IsLine ws → Ordered version u k → PairStep u ws t
    → Ordered version t (k + 1 + length (line_of ws))
insert_pair {version = version} u ws t k good o x =
    let P : Script → Type 0 = λ v. Ordered version v (k + 1 + length (line_of ws)) in
    let t1 = with_pair u x.name x.decl in
    let y : Step u ws t1 = pair_step (record {
      name = x.name;
      x = x.x;
      y = x.y;
      decl = x.decl;
      begins = x.begins;
      room = x.room;
      fresh = x.fresh;
      single = x.single;
      viewport = x.viewport;
      view = x.view;
      made = refl;
    }) in
    let b5 = bubble 5 o.u4 u t1 o.f ws o.fences y (lit< tt) in
    let chain = chain_more 4 o.u3 o.u4 b5.mid o.p ws o.pairs b5.first (let e = b5.first_sort in omega arith) in
    let line : (xs zs ys : List Word) → pair_line_words (record t1
    { sessions = u.sessions ++ xs; probes = u.probes ++ zs; pairs = (u.pairs ++ x.name ∷ []) ++ ys }) (0 + length u.setup.pairs) x.decl ≡ ws =
    λ xs zs ys. pair_line u xs zs ys x o.pair_names in
    subst P (sym x.made) (record {
      d = o.d;
      s = o.s;
      q = o.q;
      b = o.b;
      p = o.p ++ ws ∷ [];
      f = o.f;
      u0 = o.u0;
      u1 = o.u1;
      u2 = o.u2;
      u3 = o.u3;
      u4 = b5.mid;
      sizes = o.sizes;
      sessions = o.sessions;
      probes = o.probes;
      buffers = o.buffers;
      pairs = chain;
      fences = b5.behind;
      size_words = o.size_words;
      session_words = o.session_words;
      probe_words = o.probe_words;
      buffer_words = o.buffer_words;
      pair_words = λ xs zs ys. numbered-append (pair_line_words
          (record t1 { sessions = u.sessions ++ xs; probes = u.probes ++ zs; pairs = (u.pairs ++ x.name ∷ []) ++ ys })) 0 u.setup.pairs (x.decl ∷ [])
          ∙ ap (λ l. l ++ pair_line_words (record t1 { sessions = u.sessions ++ xs; probes = u.probes ++ zs; pairs = (u.pairs ++ x.name ∷ []) ++ ys })
          (0 + length u.setup.pairs) x.decl ∷ []) (ap (λ ns. numbered
          (pair_line_words (record u { sessions = u.sessions ++ xs; probes = u.probes ++ zs; pairs = ns })) 0 u.setup.pairs)
          (append_assoc u.pairs (x.name ∷ []) ys) ∙ o.pair_words xs zs (x.name ∷ ys)) ∙ ap (λ v. o.p ++ v ∷ []) (line xs zs ys);
      fence_words = o.fence_words;
      buffer_names = o.buffer_names;
      pair_names = omega (arith, length-append u.setup.pairs (x.decl ∷ []), length-append u.pairs (x.name ∷ []), o.pair_names);
      fence_names = o.fence_names;
      all_d = o.all_d;
      all_s = o.all_s;
      all_q = o.all_q;
      all_b = o.all_b;
      all_p = AllLines-append o.p (ws ∷ []) o.all_p (good, tt);
      all_f = o.all_f;
      fits = (let e = room_of-append o.p (ws ∷ []) in let h = o.fits in omega arith);
    })

pub insert_fence : {version : ℕ} (u : Script) (ws : List Word) (t : Script) (k : ℕ) → IsLine ws → Ordered version u k → FenceStep u ws t
    → Ordered version t (k + 1 + length (line_of ws))
insert_fence {version = version} u ws t k good o x =
    let P : Script → Type 0 = λ v. Ordered version v (k + 1 + length (line_of ws)) in
    let t1 = with_fence u x.name x.decl in
    let y : Step u ws t1 = fence_step (record {
      name = x.name;
      rest = x.rest;
      decl = x.decl;
      begins = x.begins;
      room = x.room;
      fresh = x.fresh;
      owners = x.owners;
      made = refl;
    }) in
    let chain = chain_more 5 o.u4 u t1 o.f ws o.fences y (lit≤ tt) in
    let line : (xs zs ys : List Word) → fence_line_words
    (record t1 { sessions = u.sessions ++ xs; probes = u.probes ++ zs; fences = (u.fences ++ x.name ∷ []) ++ ys }) (0 + length u.setup.fences) x.decl ≡ ws =
    λ xs zs ys. fence_line u xs zs ys x o.fence_names in
    subst P (sym x.made) (record {
      d = o.d;
      s = o.s;
      q = o.q;
      b = o.b;
      p = o.p;
      f = o.f ++ ws ∷ [];
      u0 = o.u0;
      u1 = o.u1;
      u2 = o.u2;
      u3 = o.u3;
      u4 = o.u4;
      sizes = o.sizes;
      sessions = o.sessions;
      probes = o.probes;
      buffers = o.buffers;
      pairs = o.pairs;
      fences = chain;
      size_words = o.size_words;
      session_words = o.session_words;
      probe_words = o.probe_words;
      buffer_words = o.buffer_words;
      pair_words = o.pair_words;
      fence_words = λ xs zs ys. numbered-append (fence_line_words
          (record t1 { sessions = u.sessions ++ xs; probes = u.probes ++ zs; fences = (u.fences ++ x.name ∷ []) ++ ys })) 0 u.setup.fences (x.decl ∷ [])
          ∙ ap (λ l. l ++ fence_line_words (record t1 { sessions = u.sessions ++ xs; probes = u.probes ++ zs; fences = (u.fences ++ x.name ∷ []) ++ ys })
          (0 + length u.setup.fences) x.decl ∷ []) (ap (λ ns. numbered
          (fence_line_words (record u { sessions = u.sessions ++ xs; probes = u.probes ++ zs; fences = ns })) 0 u.setup.fences)
          (append_assoc u.fences (x.name ∷ []) ys) ∙ o.fence_words xs zs (x.name ∷ ys)) ∙ ap (λ v. o.f ++ v ∷ []) (line xs zs ys);
      buffer_names = o.buffer_names;
      pair_names = o.pair_names;
      fence_names = omega (arith, length-append u.setup.fences (x.decl ∷ []), length-append u.fences (x.name ∷ []), o.fence_names);
      all_d = o.all_d;
      all_s = o.all_s;
      all_q = o.all_q;
      all_b = o.all_b;
      all_p = o.all_p;
      all_f = AllLines-append o.f (ws ∷ []) o.all_f (good, tt);
      fits = (let e = room_of-append o.f (ws ∷ []) in let h = o.fits in omega arith);
    })

pub insert : {version : ℕ} (u : Script) (ws : List Word) (t : Script) (k : ℕ) → IsLine ws → Ordered version u k → Step u ws t
    → Ordered version t (k + 1 + length (line_of ws))
insert u ws t k good o (size_step x) = insert_size u ws t k good o x
insert u ws t k good o (session_step x) = insert_session u ws t k good o x
insert u ws t k good o (probe_step x) = insert_probe u ws t k good o x
insert u ws t k good o (buffers_step x) = insert_buffers u ws t k good o x
insert u ws t k good o (pair_step x) = insert_pair u ws t k good o x
insert u ws t k good o (fence_step x) = insert_fence u ws t k good o x

pub lines_kept : (u : Script) (ws : List Word) (t : Script) → Step u ws t → t.lines ≡ u.lines
lines_kept u ws t (size_step x) = ap (λ v. v.lines) x.made
lines_kept u ws t (session_step x) = ap (λ v. v.lines) x.made
lines_kept u ws t (probe_step x) = ap (λ v. v.lines) x.made
lines_kept u ws t (buffers_step x) = ap (λ v. v.lines) x.made
lines_kept u ws t (pair_step x) = ap (λ v. v.lines) x.made
lines_kept u ws t (fence_step x) = ap (λ v. v.lines) x.made

pub version_kept : (u : Script) (ws : List Word) (t : Script) → Step u ws t → t.version ≡ u.version
version_kept u ws t (size_step x) = ap (λ v. v.version) x.made
version_kept u ws t (session_step x) = ap (λ v. v.version) x.made
version_kept u ws t (probe_step x) = ap (λ v. v.version) x.made
version_kept u ws t (buffers_step x) = ap (λ v. v.version) x.made
version_kept u ws t (pair_step x) = ap (λ v. v.version) x.made
version_kept u ws t (fence_step x) = ap (λ v. v.version) x.made

chain_version : (k : ℕ) (u : Script) (wss : List (List Word)) (t : Script) → Chain k u wss t → t.version ≡ u.version
chain_version k u [] t chain = ap (λ (v : Script). v.version) (sym chain)
chain_version k u (ws ∷ wss) t chain = chain_version k chain.mid wss t chain.behind ∙ version_kept u ws chain.mid chain.step

-- the version stands before all of them
pub ordered_version : {version : ℕ} (u : Script) (k : ℕ) → Ordered version u k → u.version ≡ version
ordered_version {version = version} u k o =
    chain_version 5 o.u4 o.f u o.fences ∙ chain_version 4 o.u3 o.p o.u4 o.pairs ∙ chain_version 3 o.u2 o.b o.u3 o.buffers
    ∙ chain_version 2 o.u1 o.q o.u2 o.probes ∙ chain_version 1 o.u0 o.s o.u1 o.sessions ∙ chain_version 0 (with_version empty version) o.d o.u0 o.sizes
