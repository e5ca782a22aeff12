-- What the lines of a head keep, as they are read.
use Rattle.std.proofs.Common.{◌≡◌, ℕ, ◌+◌, ◌<◌, ◌≤◌, ◌==◌, ◌&&◌, ◌||◌, Bool, true, false, cond, nat_lt, nat_le, List, [], ◌∷◌, ◌++◌, length, Option, Some, None}
use Rattle.std.proofs.Common.{option_map, Ok, refl, sym, ◌∙◌, ap, codes, arith, length-append, subst}
use Rattle.std.specs.Prelude.{filter}
use Rattle.std.specs.List.{list_all, list_any}
use Rattle.std.specs.Str.{bytes_eq}
use Rattle.std.proofs.lemmas.List.Folds.{list_any-append}
use Rattle.std.proofs.lemmas.List.Elements.{filter-append}
use Rattle.std.proofs.lemmas.Bool.Decides.{nat_tests}
use Rattle.flat_base.proofs.lemmas.Tests.{all-more, all-also}
use Rattle.flat_base.specs.declared.ids.Actor.{Actor}
use Rattle.flat_base.specs.declared.ids.Actor.TheVariants.{Display, Session, Probe}
use Rattle.flat_base.specs.declared.ids.SessionNo.{SessionNo}
use Rattle.flat_base.specs.declared.limits.TheConstants.{ONE, RATIO_SINCE, VERSION_MAX}
use Rattle.flat_scene.specs.declared.setup.Setup.{Setup}
use Rattle.flat_scene.specs.declared.setup.PairDecl.{PairDecl}
use Rattle.flat_scene.specs.declared.setup.BufferDecl.{BufferDecl}
use Rattle.flat_scene.specs.declared.setup.FenceDecl.{FenceDecl}
use Rattle.flat_scene.specs.History.{is_display}
use Rattle.flat_scene.specs.Setups.{is_within, is_ratio, is_declared}
use Rattle.flat_scene.specs.Heads.{may_own, is_pair_declared, is_buffer_declared, is_fence_declared, owners_declared, is_within_limits, has_one_display_pair}
use Rattle.flat_scene.specs.Heads.{is_setup}
use Rattle.flat_text.specs.Number.{natural}
use Rattle.flat_places.specs.declared.kinds.FaultKind.TheVariants.{BadNumber, UnknownName}
use Rattle.flat_places.specs.declared.script.Script.{Script}
use Rattle.flat_places.specs.Forms.{Word, whole, each, one_or_more, ◌<$>◌, ◌<*>◌}
use Rattle.flat_places.specs.Names.{session_named, owner_named, is_actor}
use Rattle.flat_places.specs.Places.{number_from, ratio, first_ratio, owner_word, has_display_pair}
use Rattle.flat_forms.specs.Head.{empty, with_version, size, side, has_display, is_ready}
use Rattle.flat_forms.proofs.lemmas.FormLemmas.{Gives, both_ok, or_kind_ok, whole_ok, apply_ok, map_ok, place_ok}
use Rattle.flat_forms.proofs.lemmas.StepLemmas.{SizeStep, SessionStep, ProbeStep, BuffersStep, PairStep, FenceStep, Step, size_step, session_step, probe_step}
use Rattle.flat_forms.proofs.lemmas.StepLemmas.{buffers_step, pair_step, fence_step}
use Rattle.flat_playable.proofs.PlayedLemmas.{within_of, session_declared, owner_declared}
use Rattle.std.proofs.lemmas.Bool.{and_parts, and_from}
use Rattle.flat_print.proofs.lemmas.OrderLemmas.{test_passes}

-- numbers of a range

is_within_of : (most n : ℕ) → (nat_le 1 n && nat_le n most) ≡ true → is_within most n ≡ true
is_within_of most n is = let b = and_parts (nat_le 1 n) (nat_le n most) is in ranged b.0 b.1
  where
    ranged : nat_le 1 n ≡ true → nat_le n most ≡ true → is_within most n ≡ true
    ranged p q = let some : 0 < n = grind (arith, nat_tests) in let few : n ≤ most = grind (arith, nat_tests) in within_of most n some few

from_one : (most : ℕ) (w : Word) (n : ℕ) → (number_from 1 most (w ∷ [])).0 ≡ Ok n → is_within most n ≡ true
from_one most w n is = is_within_of most n (test_passes (λ k. nat_le 1 k && nat_le k most) (natural w) n (or_kind_ok BadNumber _ n is))

-- the pixel ratio is one that a display may have, and one where the version gives none
ratio_kept : (version : ℕ) (words : List Word) (q : ℕ) (rest : List Word) → Gives (first_ratio version) words q rest
    → (is_ratio q ≡ true) × (nat_lt version RATIO_SINCE ≡ true → q ≡ ONE)
ratio_kept version [] q rest given =
    let one : ONE ≡ q = let value = given.value in cc in
    (ap is_ratio (sym one), λ early. sym one)
ratio_kept version (w ∷ ws) q rest given = by_version (nat_lt version RATIO_SINCE) refl
  where
    by_version : (b : Bool) → nat_lt version RATIO_SINCE ≡ b → (is_ratio q ≡ true) × (nat_lt version RATIO_SINCE ≡ true → q ≡ ONE)
    by_version true early =
        let one : ONE ≡ q = let value = rw early at given.value in cc in
        (ap is_ratio (sym one), λ at. sym one)
    by_version false late =
        let value : (ratio (w ∷ ws)).0 ≡ Ok q = rw late at given.value in
        (test_passes is_ratio (natural w) q (or_kind_ok BadNumber _ q value), λ early. absurd (let wrong : true ≡ false = sym early ∙ late in cc))

-- What the display's line declares.
record SizeTaken (version w h q : ℕ) : Type 0 where
  wide : is_within 65536 w ≡ true
  high : is_within 65536 h ≡ true
  ratio : is_ratio q ≡ true
  one : nat_lt version RATIO_SINCE ≡ true → q ≡ ONE

abbrev triple : ℕ → ℕ → ℕ → ℕ × ℕ × ℕ
triple a b c = (a, b, c)

size_taken : (version : ℕ) (words : List Word) (w h q : ℕ) → whole (size version) words ≡ Ok (w, h, q) → SizeTaken version w h q
size_taken version words w h q is =
    let last = apply_ok (triple <$> side <*> side) (first_ratio version) words (w, h, q) [] (whole_ok (size version) words (w, h, q) is) in
    let second = apply_ok (triple <$> side) side words last.g last.mid last.first in
    let first = map_ok triple side words second.g second.mid second.first in
    let x = place_ok _ words first.a second.mid first.given in
    let y = place_ok _ second.mid second.a last.mid second.second in
    let value : triple first.a second.a last.a ≡ triple w h q = ap (λ g. g second.a last.a) first.value ∙ ap (λ g. g last.a) second.value ∙ last.value in
    let kept = ratio_kept version last.mid last.a [] last.second in
    let here : SizeTaken version first.a second.a last.a = record {
      wide = from_one 65536 x.word first.a x.passes;
      high = from_one 65536 y.word second.a y.passes;
      ratio = kept.0;
      one = kept.1;
    } in
    subst (λ (d : ℕ × ℕ × ℕ). SizeTaken version d.0 d.1 d.2) value here

-- a declared session stays declared when there is one session more
declared_more : (setup : Setup) (s : SessionNo) → is_declared setup s ≡ true → is_declared (record setup { sessions = setup.sessions + 1 }) s ≡ true
declared_more setup s is = let b = and_parts (nat_lt 0 s.0) (nat_le s.0 setup.sessions) is in and_from _ _ b.0 (wider s.0 setup.sessions b.1)
  where
    wider : (n m : ℕ) → nat_le n m ≡ true → nat_le n (m + 1) ≡ true
    wider n m q = grind (arith, nat_tests)

-- what is declared in one setup is declared in another
abbrev IsWider : Setup → Setup → Type 0
IsWider old new = (s : SessionNo) → is_declared old s ≡ true → is_declared new s ≡ true

owner_more : (old new : Setup) → IsWider old new → (a : Actor) → may_own old a ≡ true → may_own new a ≡ true
owner_more old new wider Display is = refl
owner_more old new wider (Session s) is = wider s is
owner_more old new wider (Probe p) is = absurd (cc)

pair_more : (old new : Setup) → IsWider old new → (d : PairDecl) → is_pair_declared old d ≡ true → is_pair_declared new d ≡ true
pair_more old new wider d is = let b = and_parts (may_own old d.viewport) (is_declared old d.view) is in
    and_from _ _ (owner_more old new wider d.viewport b.0) (wider d.view b.1)

buffer_more : (old new : Setup) → IsWider old new → (d : BufferDecl) → is_buffer_declared old d ≡ true → is_buffer_declared new d ≡ true
buffer_more old new wider d is =
    let count = is_within 64 d.count in
    let w = is_within 65536 d.w in
    let h = is_within 65536 d.h in
    let c = and_parts (is_declared old d.owner && count && w) h is in
    let b = and_parts (is_declared old d.owner && count) w c.0 in
    let a = and_parts (is_declared old d.owner) count b.0 in
    let more = is_declared new d.owner in
    and_from (more && count && w) h (and_from (more && count) w (and_from more count (wider d.owner a.0) a.1) b.1) c.1

fence_more : (old new : Setup) → IsWider old new → (d : FenceDecl) → is_fence_declared old d ≡ true → is_fence_declared new d ≡ true
fence_more old new wider d is =
    let b = and_parts (nat_lt 0 (length d.owners)) (list_all (may_own old) d.owners) is in
    and_from _ _ b.0 (all-also (may_own old) (may_own new) (owner_more old new wider) d.owners b.1)

-- what a head of that version keeps
pub record HeadKept (v : ℕ) (u : Script) : Type 0 where
  pub said : u.version ≡ v
  pub known : is_within VERSION_MAX v ≡ true
  pub ratio : is_ratio u.setup.ratio ≡ true
  pub one : nat_lt v RATIO_SINCE ≡ true → u.setup.ratio ≡ ONE
  pub lines : u.lines ≡ []
  pub probes : u.setup.probes ≡ length u.probes
  pub few_probes : length u.probes ≤ 8
  pub sessions : u.setup.sessions ≡ length u.sessions
  pub few_sessions : length u.sessions ≤ 16
  pub buffer_names : length u.setup.buffers ≡ length u.buffers
  pub few_buffers : length u.buffers ≤ 256
  pub pair_names : length u.setup.pairs ≡ length u.pairs
  pub few_pairs : length u.pairs ≤ 4096
  pub fence_names : length u.setup.fences ≡ length u.fences
  pub few_fences : length u.fences ≤ 4096
  pub sizes : has_display u ≡ true → (is_within 65536 u.setup.width ≡ true) × (is_within 65536 u.setup.height ≡ true)
  pub pairs_owned : list_all (is_pair_declared u.setup) u.setup.pairs ≡ true
  pub buffers_owned : list_all (is_buffer_declared u.setup) u.setup.buffers ≡ true
  pub fences_owned : list_all (is_fence_declared u.setup) u.setup.fences ≡ true
  pub shown : length (filter (λ (pair : PairDecl). is_display pair.viewport) u.setup.pairs) ≡ cond (has_display_pair u) 1 0

pub head_first : (v : ℕ) → is_within VERSION_MAX v ≡ true → HeadKept v (with_version empty v)
head_first v known = record {
  said = refl;
  known = known;
  ratio = refl;
  one = λ early. refl;
  lines = refl;
  probes = refl;
  few_probes = omega arith;
  sessions = refl;
  few_sessions = omega arith;
  buffer_names = refl;
  few_buffers = omega arith;
  pair_names = refl;
  few_pairs = omega arith;
  fence_names = refl;
  few_fences = omega arith;
  sizes = λ is. absurd (let e : false ≡ true = is in cc);
  pairs_owned = refl;
  buffers_owned = refl;
  fences_owned = refl;
  shown = refl;
}

few_more : {A B : Type 0} (xs : List A) (ys : List B) (x : A) (y : B) → length xs ≡ length ys → length (xs ++ x ∷ []) ≡ length (ys ++ y ∷ [])
few_more xs ys x y same = omega (arith, length-append xs (x ∷ []), length-append ys (y ∷ []))

room_left : {A : Type 0} (xs : List A) (x : A) (most : ℕ) → nat_lt (length xs) most ≡ true → length (xs ++ x ∷ []) ≤ most
room_left xs x most room = let less : length xs < most = grind (arith, nat_tests) in omega (arith, length-append xs (x ∷ []))

size_kept : {v : ℕ} (u : Script) (ws : List Word) (t : Script) → SizeStep u ws t → HeadKept v u → HeadKept v t
size_kept {v = v} u ws t x o =
    let P : Script → Type 0 = HeadKept v in
    let taken = size_taken u.version x.rest x.w x.h x.q x.read in
    subst P (sym x.made) (record {
      said = o.said;
      known = o.known;
      ratio = taken.ratio;
      one = λ early. taken.one (ap (λ n. nat_lt n RATIO_SINCE) o.said ∙ early);
      lines = o.lines;
      probes = o.probes;
      few_probes = o.few_probes;
      sessions = o.sessions;
      few_sessions = o.few_sessions;
      buffer_names = o.buffer_names;
      few_buffers = o.few_buffers;
      pair_names = o.pair_names;
      few_pairs = o.few_pairs;
      fence_names = o.fence_names;
      few_fences = o.few_fences;
      sizes = λ is. (taken.wide, taken.high);
      pairs_owned = o.pairs_owned;
      buffers_owned = o.buffers_owned;
      fences_owned = o.fences_owned;
      shown = o.shown;
    })

session_kept : {v : ℕ} (u : Script) (ws : List Word) (t : Script) → SessionStep u ws t → HeadKept v u → HeadKept v t
session_kept {v = v} u ws t x o =
    let P : Script → Type 0 = HeadKept v in
    let more : Setup = record u.setup { sessions = u.setup.sessions + 1 } in
    let before = o.sessions in
    subst P (sym x.made) (record {
      said = o.said;
      known = o.known;
      ratio = o.ratio;
      one = o.one;
      lines = o.lines;
      probes = o.probes;
      few_probes = o.few_probes;
      sessions = omega (arith, length-append u.sessions (x.name ∷ []));
      few_sessions = room_left u.sessions x.name 16 x.room;
      buffer_names = o.buffer_names;
      few_buffers = o.few_buffers;
      pair_names = o.pair_names;
      few_pairs = o.few_pairs;
      fence_names = o.fence_names;
      few_fences = o.few_fences;
      sizes = o.sizes;
      pairs_owned = all-also (is_pair_declared u.setup) (is_pair_declared more) (pair_more u.setup more (declared_more u.setup)) u.setup.pairs o.pairs_owned;
      buffers_owned = all-also (is_buffer_declared u.setup) (is_buffer_declared more) (buffer_more u.setup more (declared_more u.setup)) u.setup.buffers
          o.buffers_owned;
      fences_owned = all-also (is_fence_declared u.setup) (is_fence_declared more) (fence_more u.setup more (declared_more u.setup)) u.setup.fences
          o.fences_owned;
      shown = o.shown;
    })

probe_kept : {v : ℕ} (u : Script) (ws : List Word) (t : Script) → ProbeStep u ws t → HeadKept v u → HeadKept v t
probe_kept {v = v} u ws t x o =
    let P : Script → Type 0 = HeadKept v in
    let more : Setup = record u.setup { probes = u.setup.probes + 1 } in
    let before = o.probes in
    subst P (sym x.made) (record {
      said = o.said;
      known = o.known;
      ratio = o.ratio;
      one = o.one;
      lines = o.lines;
      probes = omega (arith, length-append u.probes (x.name ∷ []));
      few_probes = room_left u.probes x.name 8 x.room;
      sessions = o.sessions;
      few_sessions = o.few_sessions;
      buffer_names = o.buffer_names;
      few_buffers = o.few_buffers;
      pair_names = o.pair_names;
      few_pairs = o.few_pairs;
      fence_names = o.fence_names;
      few_fences = o.few_fences;
      sizes = o.sizes;
      pairs_owned = all-also (is_pair_declared u.setup) (is_pair_declared more) (pair_more u.setup more (λ s is. is)) u.setup.pairs o.pairs_owned;
      buffers_owned = all-also (is_buffer_declared u.setup) (is_buffer_declared more) (buffer_more u.setup more (λ s is. is)) u.setup.buffers o.buffers_owned;
      fences_owned = all-also (is_fence_declared u.setup) (is_fence_declared more) (fence_more u.setup more (λ s is. is)) u.setup.fences o.fences_owned;
      shown = o.shown;
    })

buffers_kept : {v : ℕ} (u : Script) (ws : List Word) (t : Script) → BuffersStep u ws t → HeadKept v u → HeadKept v t
buffers_kept {v = v} u ws t x o =
    let P : Script → Type 0 = HeadKept v in
    let owned = session_declared u x.owner x.decl.owner o.sessions x.owned in
    let count = and_from (is_declared u.setup x.decl.owner) (is_within 64 x.decl.count) owned (from_one 64 x.a x.decl.count x.count) in
    let width = and_from _ (is_within 65536 x.decl.w) count (from_one 65536 x.b x.decl.w x.width) in
    let good : is_buffer_declared u.setup x.decl ≡ true = and_from _ (is_within 65536 x.decl.h) width (from_one 65536 x.c x.decl.h x.height) in
    subst P (sym x.made) (record {
      said = o.said;
      known = o.known;
      ratio = o.ratio;
      one = o.one;
      lines = o.lines;
      probes = o.probes;
      few_probes = o.few_probes;
      sessions = o.sessions;
      few_sessions = o.few_sessions;
      buffer_names = few_more u.setup.buffers u.buffers x.decl x.name o.buffer_names;
      few_buffers = room_left u.buffers x.name 256 x.room;
      pair_names = o.pair_names;
      few_pairs = o.few_pairs;
      fence_names = o.fence_names;
      few_fences = o.few_fences;
      sizes = o.sizes;
      pairs_owned = o.pairs_owned;
      buffers_owned = all-more (is_buffer_declared u.setup) u.setup.buffers x.decl o.buffers_owned good;
      fences_owned = o.fences_owned;
      shown = o.shown;
    })

-- pairs with the display

-- a pair whose viewport end is the display's, as setups say it
abbrev shown_pair : PairDecl → Bool
shown_pair pair = is_display pair.viewport

-- the same, as the reader says it
abbrev display_pair : PairDecl → Bool
display_pair pair = is_actor Display pair.viewport

same_test : (a : Actor) → is_actor Display a ≡ is_display a
same_test Display = refl
same_test (Session s) = refl
same_test (Probe p) = refl

-- one pair more, with the display only where no pair has it yet
shown_more : (pairs : List PairDecl) (d : PairDecl) (has is : Bool) → list_any display_pair pairs ≡ has → is_display d.viewport ≡ is → (is && has) ≡ false
    → length (filter shown_pair pairs) ≡ cond has 1 0 → length (filter shown_pair (pairs ++ d ∷ [])) ≡ cond (list_any display_pair (pairs ++ d ∷ [])) 1 0
shown_more pairs d has is had shows lone before =
    ap length (filter-append shown_pair pairs (d ∷ [])) ∙ length-append (filter shown_pair pairs) (filter shown_pair (d ∷ []))
    ∙ ap (λ k. k + length (filter shown_pair (d ∷ []))) before
    ∙ ap (λ b. cond has 1 0 + length (cond b (d ∷ []) [])) shows ∙ counts has is lone
    ∙ sym (ap (λ b. cond b 1 0) (list_any-append display_pair pairs (d ∷ []) ∙ ap (λ b. b || (display_pair d || false)) had
    ∙ ap (λ b. has || (b || false)) (same_test d.viewport ∙ shows)))
  where
    counts : (h i : Bool) → (i && h) ≡ false → cond h 1 0 + length (cond i (d ∷ []) []) ≡ cond (h || (i || false)) 1 0
    counts true true wrong = absurd (cc)
    counts true false fine = refl
    counts false true fine = refl
    counts false false fine = refl

-- an owner that is the display is written so
display_named_by : (u : Script) (w : Word) (a : Actor) (b : Bool) → bytes_eq w (codes "display") ≡ b → owner_named u w ≡ Some a → is_display a ≡ true
    → bytes_eq w (codes "display") ≡ true
display_named_by u w a true at is shows = at
display_named_by u w (Session s) false at is shows = absurd (cc)
display_named_by u w (Probe p) false at is shows = absurd (cc)
display_named_by u w Display false at is shows = absurd (by_session (session_named u w) (sym (rw at refl) ∙ is))
  where
    by_session : (o : Option SessionNo) → option_map Session o ≡ Some Display → ⊥
    by_session None wrong = cc
    by_session (Some s) wrong = cc

pair_alone : (u : Script) (w : Word) (a : Actor) (is : Bool) → is_display a ≡ is → owner_named u w ≡ Some a
    → (bytes_eq w (codes "display") && has_display_pair u) ≡ false → (is && has_display_pair u) ≡ false
pair_alone u w a false shows named single = refl
pair_alone u w a true shows named single = let word =
    display_named_by u w a (bytes_eq w (codes "display")) refl named shows in ap (λ b. b && has_display_pair u) (sym word) ∙ single

pair_kept : {v : ℕ} (u : Script) (ws : List Word) (t : Script) → PairStep u ws t → HeadKept v u → HeadKept v t
pair_kept {v = v} u ws t x o =
    let P : Script → Type 0 = HeadKept v in
    let good : is_pair_declared u.setup x.decl ≡ true = and_from (may_own u.setup x.decl.viewport) (is_declared u.setup x.decl.view)
    (owner_declared u x.x x.decl.viewport o.sessions x.viewport) (session_declared u x.y x.decl.view o.sessions x.view) in
    subst P (sym x.made) (record {
      said = o.said;
      known = o.known;
      ratio = o.ratio;
      one = o.one;
      lines = o.lines;
      probes = o.probes;
      few_probes = o.few_probes;
      sessions = o.sessions;
      few_sessions = o.few_sessions;
      buffer_names = o.buffer_names;
      few_buffers = o.few_buffers;
      pair_names = few_more u.setup.pairs u.pairs x.decl x.name o.pair_names;
      few_pairs = room_left u.pairs x.name 4096 x.room;
      fence_names = o.fence_names;
      few_fences = o.few_fences;
      sizes = o.sizes;
      pairs_owned = all-more (is_pair_declared u.setup) u.setup.pairs x.decl o.pairs_owned good;
      buffers_owned = o.buffers_owned;
      fences_owned = o.fences_owned;
      shown = shown_more u.setup.pairs x.decl (has_display_pair u) (is_display x.decl.viewport) refl refl
          (pair_alone u x.x x.decl.viewport (is_display x.decl.viewport) refl x.viewport x.single) o.shown;
    })

-- owners of a fence
owners_each : (u : Script) (ws : List Word) (actors : List Actor) → u.setup.sessions ≡ length u.sessions → each (owner_word u) ws ≡ Ok actors
    → list_all (may_own u.setup) actors ≡ true
owners_each u [] actors many is = let e : [] ≡ actors = cc in ap (list_all (may_own u.setup)) (sym e)
owners_each u (w ∷ ws) actors many is =
    let parts = both_ok (λ a rest. a ∷ rest) (owner_word u w) (each (owner_word u) ws) actors is in
    ap (list_all (may_own u.setup)) (sym parts.value) ∙ and_from (may_own u.setup parts.a) (list_all (may_own u.setup) parts.b)
    (owner_declared u w parts.a many (or_kind_ok UnknownName (owner_named u w) parts.a parts.first)) (owners_each u ws parts.b many parts.second)

owners_some : (u : Script) (ws : List Word) (d : FenceDecl) → u.setup.sessions ≡ length u.sessions → one_or_more (owner_word u) ws ≡ Ok d.owners
    → is_fence_declared u.setup d ≡ true
owners_some u [] d many is = absurd (cc)
owners_some u (w ∷ ws) d many is =
    let parts = both_ok (λ a rest. a ∷ rest) (owner_word u w) (each (owner_word u) ws) d.owners is in
    and_from (nat_lt 0 (length d.owners)) (list_all (may_own u.setup) d.owners) (ap (λ l. nat_lt 0 (length l)) (sym parts.value) ∙ some parts.a parts.b)
    (owners_each u (w ∷ ws) d.owners many is)
  where
    some : (x : Actor) (xs : List Actor) → nat_lt 0 (length (x ∷ xs)) ≡ true
    some x xs = grind (arith, nat_tests)

fence_kept : {v : ℕ} (u : Script) (ws : List Word) (t : Script) → FenceStep u ws t → HeadKept v u → HeadKept v t
fence_kept {v = v} u ws t x o =
    let P : Script → Type 0 = HeadKept v in
    subst P (sym x.made) (record {
      said = o.said;
      known = o.known;
      ratio = o.ratio;
      one = o.one;
      lines = o.lines;
      probes = o.probes;
      few_probes = o.few_probes;
      sessions = o.sessions;
      few_sessions = o.few_sessions;
      buffer_names = o.buffer_names;
      few_buffers = o.few_buffers;
      pair_names = o.pair_names;
      few_pairs = o.few_pairs;
      fence_names = few_more u.setup.fences u.fences x.decl x.name o.fence_names;
      few_fences = room_left u.fences x.name 4096 x.room;
      sizes = o.sizes;
      pairs_owned = o.pairs_owned;
      buffers_owned = o.buffers_owned;
      fences_owned = all-more (is_fence_declared u.setup) u.setup.fences x.decl o.fences_owned (owners_some u x.rest x.decl o.sessions x.owners);
      shown = o.shown;
    })

pub step_kept : {v : ℕ} (u : Script) (ws : List Word) (t : Script) → Step u ws t → HeadKept v u → HeadKept v t
step_kept u ws t (size_step x) o = size_kept u ws t x o
step_kept u ws t (session_step x) o = session_kept u ws t x o
step_kept u ws t (probe_step x) o = probe_kept u ws t x o
step_kept u ws t (buffers_step x) o = buffers_kept u ws t x o
step_kept u ws t (pair_step x) o = pair_kept u ws t x o
step_kept u ws t (fence_step x) o = fence_kept u ws t x o

-- a head that is ready gives a setup

within_most : (n m most : ℕ) → n ≡ m → m ≤ most → nat_le n most ≡ true
within_most n m most same few = let k : n ≤ most = omega arith in grind (arith, nat_tests)

one_shown : {v : ℕ} (u : Script) → HeadKept v u → has_display_pair u ≡ true → has_one_display_pair u.setup ≡ true
one_shown u o has = ap (λ n. n == 1) (o.shown ∙ ap (λ b. cond b 1 0) has)

pub setup_given : {v : ℕ} (u : Script) → HeadKept v u → is_ready u ≡ true → is_setup u.setup ≡ true
setup_given u o ready =
    let r = and_parts (has_display u && nat_lt 0 (length u.sessions)) (has_display_pair u) ready in
    let q = and_parts (has_display u) (nat_lt 0 (length u.sessions)) r.0 in
    let sizes = o.sizes q.0 in
    let some : 0 < length u.sessions = positive (length u.sessions) q.1 in
    let sessions : is_within 16 u.setup.sessions ≡ true = ap (is_within 16) o.sessions ∙ within_of 16 (length u.sessions) some o.few_sessions in
    let probes : nat_le u.setup.probes 8 ≡ true = within_most u.setup.probes (length u.probes) 8 o.probes o.few_probes in
    let pairs = within_most (length u.setup.pairs) (length u.pairs) 4096 o.pair_names o.few_pairs in
    let buffers = within_most (length u.setup.buffers) (length u.buffers) 256 o.buffer_names o.few_buffers in
    let fences = within_most (length u.setup.fences) (length u.fences) 4096 o.fence_names o.few_fences in
    let limits : is_within_limits u.setup ≡ true =
    and_from _ (nat_le (length u.setup.fences) 4096) (and_from _ (nat_le (length u.setup.buffers) 256)
    (and_from _ (nat_le (length u.setup.pairs) 4096) (and_from _ (nat_le u.setup.probes 8)
    (and_from _ (is_within 16 u.setup.sessions) (and_from _ (is_within 65536 u.setup.height) (and_from _ (is_within 65536 u.setup.width) o.ratio sizes.0)
    sizes.1) sessions) probes) pairs) buffers) fences in
    let owners : owners_declared u.setup ≡ true = and_from _ (list_all (is_fence_declared u.setup) u.setup.fences)
    (and_from (list_all (is_pair_declared u.setup) u.setup.pairs) (list_all (is_buffer_declared u.setup) u.setup.buffers) o.pairs_owned o.buffers_owned)
    o.fences_owned in
    and_from _ (has_one_display_pair u.setup) (and_from (is_within_limits u.setup) (owners_declared u.setup) limits owners) (one_shown u o r.1)
  where
    positive : (n : ℕ) → nat_lt 0 n ≡ true → 0 < n
    positive n is = grind (arith, nat_tests)
