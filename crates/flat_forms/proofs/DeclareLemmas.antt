-- What a head line that was read says of the name that it declares, and the script with it.
use Rattle.std.proofs.Common.{◌≡◌, ℕ, ◌<◌, ◌≤◌, Bool, true, nat_lt, cond, List, [], ◌∷◌, ◌++◌, length, Option, Some, None, Ok, sym, ◌∙◌, ap, arith}
use Rattle.std.proofs.Common.{length-append, subst}
use Rattle.std.proofs.lemmas.Bool.Decides.{nat_tests}
use Rattle.std.specs.Str.{bytes_eq}
use Rattle.flat_base.specs.declared.ids.Actor.{Actor}
use Rattle.flat_base.specs.declared.ids.SessionNo.{SessionNo}
use Rattle.flat_scene.specs.declared.setup.PairDecl.{PairDecl}
use Rattle.flat_scene.specs.declared.setup.BufferDecl.{BufferDecl}
use Rattle.flat_scene.specs.declared.setup.FenceDecl.{FenceDecl}
use Rattle.flat_places.specs.declared.kinds.FaultKind.TheVariants.{Limit}
use Rattle.flat_places.specs.declared.script.Script.{Script}
use Rattle.flat_places.specs.declared.names.NameMeaning.{NameMeaning}
use Rattle.flat_places.specs.declared.names.NameMeaning.TheVariants.{Session, Probe, Buffers, Pair, Fence}
use Rattle.flat_places.specs.Forms.{Word, whole, unless_kind, ◌<$>◌, ◌<*>◌}
use Rattle.flat_places.specs.Names.{place_of}
use Rattle.flat_places.specs.Places.{session, number_from, new_name, pair_owner, owners}
use Rattle.flat_forms.specs.Head.{empty, side, buffers, pair, fence, with_session, with_probe, with_buffers, with_pair, with_fence}
use Rattle.flat_places.specs.Index.{Means, session_place, probe_place, buffers_place, pair_place, fence_place}
use Rattle.flat_forms.proofs.lemmas.FormLemmas.{apply_ok, map_ok, whole_ok, unless_ok}
use Rattle.flat_forms.proofs.lemmas.IndexLemmas.{IsFresh, new_name_ok, finds_sessions, finds_probes, finds_buffers, finds_pairs, finds_fences}

-- there was room, and the name may be declared
pub record Declares (s : Script) (room : Bool) (name : Word) : Type 0 where
  pub allowed : room ≡ true
  pub fresh : IsFresh s name

pub name_declares : (s : Script) (words : List Word) (room : Bool) (v : Word) → Ok v ≡ unless_kind Limit room (whole (new_name s) words) → Declares s room v
name_declares s words room v is =
    let tested = unless_ok Limit room (whole (new_name s) words) v (sym is) in
    record { allowed = tested.passed; fresh = new_name_ok s words v [] (whole_ok (new_name s) words v tested.given) }

fresh_at : (s : Script) (v w : Word) → v ≡ w → IsFresh s v → IsFresh s w
fresh_at s v w e fresh = let P : Word → Type 0 = λ x. IsFresh s x in subst P e fresh

pub fence_declares : (s : Script) (words : List Word) (room : Bool) (v : Word × FenceDecl) → unless_kind Limit room (whole (fence s) words) ≡ Ok v
    → Declares s room v.0
fence_declares s words room v is =
    let h : Word → List Actor → Word × FenceDecl = λ name actors. (name, record { owners = actors }) in
    let tested = unless_ok Limit room (whole (fence s) words) v is in
    let last = apply_ok (h <$> new_name s) (owners s) words v [] (whole_ok (fence s) words v tested.given) in
    let first = map_ok h (new_name s) words last.g last.mid last.first in
    let same : first.a ≡ v.0 = ap (λ g. (g last.a).0) first.value ∙ ap (λ d. d.0) last.value in
    record { allowed = tested.passed; fresh = fresh_at s first.a v.0 same (new_name_ok s words first.a last.mid first.given) }

pub pair_declares : (s : Script) (words : List Word) (room : Bool) (v : Word × PairDecl) → Ok v ≡ unless_kind Limit room (whole (pair s) words)
    → Declares s room v.0
pair_declares s words room v is =
    let h : Word → Actor → SessionNo → Word × PairDecl = λ name x y. (name, record { viewport = x; view = y }) in
    let tested = unless_ok Limit room (whole (pair s) words) v (sym is) in
    let last = apply_ok (h <$> new_name s <*> pair_owner s) (session s) words v [] (whole_ok (pair s) words v tested.given) in
    let next = apply_ok (h <$> new_name s) (pair_owner s) words last.g last.mid last.first in
    let first = map_ok h (new_name s) words next.g next.mid next.first in
    let same : first.a ≡ v.0 = ap (λ g. (g next.a last.a).0) first.value ∙ ap (λ g. (g last.a).0) next.value ∙ ap (λ d. d.0) last.value in
    record { allowed = tested.passed; fresh = fresh_at s first.a v.0 same (new_name_ok s words first.a next.mid first.given) }

pub buffers_declares : (s : Script) (words : List Word) (room : Bool) (v : Word × BufferDecl) → Ok v ≡ unless_kind Limit room (whole (buffers s) words)
    → Declares s room v.0
buffers_declares s words room v is =
    let h : Word → SessionNo → ℕ → ℕ → ℕ → Word × BufferDecl = λ name a n x y. (name, record { owner = a; count = n; w = x; h = y }) in
    let tested = unless_ok Limit room (whole (buffers s) words) v (sym is) in
    let five = apply_ok (h <$> new_name s <*> session s <*> number_from 1 64 <*> side) side words v [] (whole_ok (buffers s) words v tested.given) in
    let four = apply_ok (h <$> new_name s <*> session s <*> number_from 1 64) side words five.g five.mid five.first in
    let three = apply_ok (h <$> new_name s <*> session s) (number_from 1 64) words four.g four.mid four.first in
    let two = apply_ok (h <$> new_name s) (session s) words three.g three.mid three.first in
    let first = map_ok h (new_name s) words two.g two.mid two.first in
    let same : first.a ≡ v.0 = ap (λ g. (g two.a three.a four.a five.a).0) first.value ∙ ap (λ g. (g three.a four.a five.a).0) two.value
    ∙ ap (λ g. (g four.a five.a).0) three.value
    ∙ ap (λ g. (g five.a).0) four.value ∙ ap (λ d. d.0) five.value in
    record { allowed = tested.passed; fresh = fresh_at s first.a v.0 same (new_name_ok s words first.a two.mid first.given) }

-- the list with one more name is within the limit

pub one_longer : {A : Type 0} (xs ys : List A) (x : A) (n most : ℕ) → ys ≡ xs ++ x ∷ [] → n ≡ length xs → nat_lt n most ≡ true → length ys ≤ most
one_longer xs ys x n most is count room = let below : n < most = grind (arith, nat_tests) in rw is (omega (arith, length-append xs (x ∷ [])))

-- the meaning of words, at a script with the same names

pub means_at : (s t : Script) (o : Option NameMeaning) (w : Word) → t.sessions ≡ s.sessions → t.probes ≡ s.probes → t.buffers ≡ s.buffers → t.pairs ≡ s.pairs
    → t.fences ≡ s.fences → Means o s w → Means o t w
means_at s t o w a b c d e m = record {
  sessions = ap (λ names. place_of names w) a ∙ m.sessions;
  probes = ap (λ names. place_of names w) b ∙ m.probes;
  buffers = ap (λ names. place_of names w) c ∙ m.buffers;
  pairs = ap (λ names. place_of names w) d ∙ m.pairs;
  fences = ap (λ names. place_of names w) e ∙ m.fences;
}

numbered : (f : ℕ → NameMeaning) (b : Bool) (n m : ℕ) (o o' : Option NameMeaning) → n ≡ m → o' ≡ cond b (Some (f n)) o → o' ≡ cond b (Some (f m)) o
numbered f b n m o o' e is = is ∙ ap (λ k. cond b (Some (f k)) o) e

more : (names all : List Word) (name made : Word) → all ≡ names ++ made ∷ [] → made ≡ name → all ≡ names ++ name ∷ []
more names all name made is same = is ∙ ap (λ n. names ++ n ∷ []) same

pub sessions_found : (s t : Script) (name made w : Word) (n : ℕ) (o o' : Option NameMeaning) → t.sessions ≡ s.sessions ++ made ∷ [] → made ≡ name
    → t.probes ≡ s.probes → t.buffers ≡ s.buffers → t.pairs ≡ s.pairs → t.fences ≡ s.fences → n ≡ length s.sessions → IsFresh s name
    → o' ≡ cond (bytes_eq w name) (Some (Session n)) o → Means o s w → Means o' t w
sessions_found s t name made w n o o' is same same_probes same_buffers same_pairs same_fences count fresh meaning m =
    means_at (with_session s name) t o' w (more s.sessions t.sessions name made is same) same_probes same_buffers same_pairs same_fences
    (finds_sessions s name w o o' fresh (numbered (λ k. Session k) (bytes_eq w name) n (length s.sessions) o o' count meaning) m)

pub probes_found : (s t : Script) (name made w : Word) (n : ℕ) (o o' : Option NameMeaning) → t.probes ≡ s.probes ++ made ∷ [] → made ≡ name
    → t.sessions ≡ s.sessions → t.buffers ≡ s.buffers → t.pairs ≡ s.pairs → t.fences ≡ s.fences → n ≡ length s.probes → IsFresh s name
    → o' ≡ cond (bytes_eq w name) (Some (Probe n)) o → Means o s w → Means o' t w
probes_found s t name made w n o o' is same same_sessions same_buffers same_pairs same_fences count fresh meaning m =
    means_at (with_probe s name) t o' w same_sessions (more s.probes t.probes name made is same) same_buffers same_pairs same_fences
    (finds_probes s name w o o' fresh (numbered (λ k. Probe k) (bytes_eq w name) n (length s.probes) o o' count meaning) m)

pub buffers_found : (s t : Script) (name made w : Word) (d : BufferDecl) (n : ℕ) (o o' : Option NameMeaning) → t.buffers ≡ s.buffers ++ made ∷ [] → made ≡ name
    → t.sessions ≡ s.sessions → t.probes ≡ s.probes → t.pairs ≡ s.pairs → t.fences ≡ s.fences → n ≡ length s.buffers → IsFresh s name
    → o' ≡ cond (bytes_eq w name) (Some (Buffers n)) o → Means o s w → Means o' t w
buffers_found s t name made w d n o o' is same same_sessions same_probes same_pairs same_fences count fresh meaning m =
    means_at (with_buffers s name d) t o' w same_sessions same_probes (more s.buffers t.buffers name made is same) same_pairs same_fences
    (finds_buffers s name w d o o' fresh (numbered (λ k. Buffers k) (bytes_eq w name) n (length s.buffers) o o' count meaning) m)

pub pairs_found : (s t : Script) (name made w : Word) (d : PairDecl) (n : ℕ) (o o' : Option NameMeaning) → t.pairs ≡ s.pairs ++ made ∷ [] → made ≡ name
    → t.sessions ≡ s.sessions → t.probes ≡ s.probes → t.buffers ≡ s.buffers → t.fences ≡ s.fences → n ≡ length s.pairs → IsFresh s name
    → o' ≡ cond (bytes_eq w name) (Some (Pair n)) o → Means o s w → Means o' t w
pairs_found s t name made w d n o o' is same same_sessions same_probes same_buffers same_fences count fresh meaning m =
    means_at (with_pair s name d) t o' w same_sessions same_probes same_buffers (more s.pairs t.pairs name made is same) same_fences
    (finds_pairs s name w d o o' fresh (numbered (λ k. Pair k) (bytes_eq w name) n (length s.pairs) o o' count meaning) m)

pub fences_found : (s t : Script) (name made w : Word) (d : FenceDecl) (n : ℕ) (o o' : Option NameMeaning) → t.fences ≡ s.fences ++ made ∷ [] → made ≡ name
    → t.sessions ≡ s.sessions → t.probes ≡ s.probes → t.buffers ≡ s.buffers → t.pairs ≡ s.pairs → n ≡ length s.fences → IsFresh s name
    → o' ≡ cond (bytes_eq w name) (Some (Fence n)) o → Means o s w → Means o' t w
fences_found s t name made w d n o o' is same same_sessions same_probes same_buffers same_pairs count fresh meaning m =
    means_at (with_fence s name d) t o' w same_sessions same_probes same_buffers same_pairs (more s.fences t.fences name made is same)
    (finds_fences s name w d o o' fresh (numbered (λ k. Fence k) (bytes_eq w name) n (length s.fences) o o' count meaning) m)

-- nothing is declared

pub nothing_found : (o : Option NameMeaning) (w : Word) → o ≡ None → Means o empty w
nothing_found o w none = record {
  sessions = sym (ap session_place none);
  probes = sym (ap probe_place none);
  buffers = sym (ap buffers_place none);
  pairs = sym (ap pair_place none);
  fences = sym (ap fence_place none);
}
