-- The index of names after one more name.
use Rattle.std.proofs.Common.{◌≡◌, ℕ, ◌+◌, ◌≤◌, ◌==◌, Bool, true, false, ◌&&◌, not, cond, nat_lt, List, [], ◌∷◌, ◌++◌, length, Option, Some, None, is_some, Ok}
use Rattle.std.proofs.Common.{Err, refl, sym, ◌∙◌, ap, arith, length-append, if◌then◌else◌}
use Rattle.std.proofs.lemmas.Bool.Decides.{nat_tests, same_from_decides, Decides-like}
use Rattle.std.proofs.lemmas.List.Sums.{prefix_len-le-length}
use Rattle.std.proofs.lemmas.Slice.Eq.{bytes_eq-Decides}
use Rattle.std.specs.Str.{bytes_eq}
use Rattle.std.specs.List.{position_or_len}
use Rattle.std.proofs.lemmas.List.Folds.{position_or_len_push}
use Rattle.flat_places.specs.declared.kinds.FaultKind.TheVariants.{BadHead}
use Rattle.flat_places.specs.declared.script.Script.{Script}
use Rattle.flat_places.specs.declared.names.NameMeaning.{NameMeaning}
use Rattle.flat_places.specs.declared.names.NameMeaning.TheVariants.{Session, Probe, Buffers, Pair, Fence}
use Rattle.flat_scene.specs.declared.setup.PairDecl.{PairDecl}
use Rattle.flat_scene.specs.declared.setup.BufferDecl.{BufferDecl}
use Rattle.flat_scene.specs.declared.setup.FenceDecl.{FenceDecl}
use Rattle.flat_places.specs.Forms.{Word, Reading}
use Rattle.flat_places.specs.Names.{place_of, is_name, is_declared}
use Rattle.flat_places.specs.Places.{new_name}
use Rattle.flat_forms.specs.Head.{with_session, with_probe, with_buffers, with_pair, with_fence}
use Rattle.flat_places.specs.Index.{Means, session_place, probe_place, buffers_place, pair_place, fence_place}
use Rattle.flat_forms.proofs.lemmas.FormLemmas.{Gives, place_ok}
use Rattle.std.proofs.lemmas.Bool.{or_parts}

-- a name that may be declared
pub record IsFresh (s : Script) (w : Word) : Type 0 where
  pub name : is_name w ≡ true
  pub fresh : is_declared s w ≡ false

fresh_name : Bool → Bool → Word → Reading Word
fresh_name a b w = if a && not b then Ok w else Err BadHead

tested : (a b : Bool) (w v : Word) → fresh_name a b w ≡ Ok v → (a ≡ true) × (b ≡ false) × (w ≡ v)
unfolding fresh_name
tested true false w v is = (refl, refl, cc)
tested true true w v is = absurd (cc)
tested false b w v is = absurd (cc)

is_fresh : (s : Script) (w v : Word) → fresh_name (is_name w) (is_declared s w) w ≡ Ok v → IsFresh s v
is_fresh s w v is = let parts = tested (is_name w) (is_declared s w) w v is in
    record { name = ap is_name (sym parts.2) ∙ parts.0; fresh = ap (is_declared s) (sym parts.2) ∙ parts.1 }

pub new_name_ok : (s : Script) (words : List Word) (v : Word) (rest : List Word) → Gives (new_name s) words v rest → IsFresh s v
unfolding fresh_name
new_name_ok s words v rest given = let placed = place_ok _ words v rest given in is_fresh s placed.word v placed.passes

-- the place of a name in a list with one more

there : (at len at' len' : ℕ) (b : Bool) → at ≤ len → cond (nat_lt at len) (Some at) None ≡ None → b ≡ true → at' ≡ cond (at == len) (len + cond b 0 1) at
    → len' ≡ len + 1
    → cond (nat_lt at' len') (Some at') None ≡ Some len
there at len at' len' b within none is next more = grind (arith, nat_tests)

elsewhere : (at len at' len' : ℕ) (b : Bool) → at ≤ len → b ≡ false → at' ≡ cond (at == len) (len + cond b 0 1) at → len' ≡ len + 1
    → cond (nat_lt at' len') (Some at') None ≡ cond (nat_lt at len) (Some at) None
elsewhere at len at' len' b within is next more = grind (arith, nat_tests)

pub position_or_len-le-length : {A : Type 0} (p : A → Bool) (xs : List A) → position_or_len p xs ≤ length xs
position_or_len-le-length p xs = prefix_len-le-length (λ x. not (p x)) xs

pub place_there : (names : List Word) (w : Word) → place_of names w ≡ None → place_of (names ++ w ∷ []) w ≡ Some (length names)
place_there names w none =
    let p = λ (n : Word). bytes_eq n w in
    there (position_or_len p names) (length names) (position_or_len p (names ++ w ∷ [])) (length (names ++ w ∷ [])) (bytes_eq w w)
    (position_or_len-le-length p names) none ((bytes_eq-Decides w w).1 refl) (position_or_len_push p names w) (length-append names (w ∷ []))

pub place_else : (names : List Word) (n w : Word) → bytes_eq n w ≡ false → place_of (names ++ n ∷ []) w ≡ place_of names w
place_else names n w other =
    let p = λ (m : Word). bytes_eq m w in
    elsewhere (position_or_len p names) (length names) (position_or_len p (names ++ n ∷ [])) (length (names ++ n ∷ [])) (bytes_eq n w)
    (position_or_len-le-length p names) other (position_or_len_push p names n) (length-append names (n ∷ []))

pub bytes_eq_sym : (xs ys : List ℕ) → bytes_eq xs ys ≡ bytes_eq ys xs
bytes_eq_sym xs ys = same_from_decides (bytes_eq xs ys) (bytes_eq ys xs) (bytes_eq-Decides xs ys)
    (Decides-like (bytes_eq ys xs) (λ e. sym e) (λ e. sym e) (bytes_eq-Decides ys xs))

-- the place of a word after one more name, of that sort and of another sort

added_by : (b : Bool) (names : List Word) (name w : Word) (old new : Option ℕ) → bytes_eq w name ≡ b → place_of names name ≡ None → place_of names w ≡ old
    → new ≡ cond b (Some (length names)) old → place_of (names ++ name ∷ []) w ≡ new
added_by true names name w old new same none here is =
    let e : w ≡ name = (bytes_eq-Decides w name).0 same in ap (place_of (names ++ name ∷ [])) e ∙ place_there names name none ∙ sym is
added_by false names name w old new other none here is = place_else names name w (bytes_eq_sym name w ∙ other) ∙ here ∙ sym is

added : (names : List Word) (name w : Word) (old new : Option ℕ) → place_of names name ≡ None → place_of names w ≡ old
    → new ≡ cond (bytes_eq w name) (Some (length names)) old → place_of (names ++ name ∷ []) w ≡ new
added names name w old new none here is = added_by (bytes_eq w name) names name w old new refl none here is

same_by : (b : Bool) (names : List Word) (name w : Word) (old new : Option ℕ) → bytes_eq w name ≡ b → place_of names name ≡ None → place_of names w ≡ old
    → new ≡ cond b None old → place_of names w ≡ new
same_by true names name w old new same none here is =
    let e : w ≡ name = (bytes_eq-Decides w name).0 same in ap (place_of names) e ∙ none ∙ sym is
same_by false names name w old new other none here is = here ∙ sym is

same : (names : List Word) (name w : Word) (old new : Option ℕ) → place_of names name ≡ None → place_of names w ≡ old
    → new ≡ cond (bytes_eq w name) None old → place_of names w ≡ new
same names name w old new none here is = same_by (bytes_eq w name) names name w old new refl none here is

choose : {A B : Type 0} (f : A → B) (b : Bool) (x y : A) → f (cond b x y) ≡ cond b (f x) (f y)
choose f true x y = refl
choose f false x y = refl

-- a name that isn't declared has no place

pub record NoPlace (s : Script) (w : Word) : Type 0 where
  pub sessions : place_of s.sessions w ≡ None
  pub probes : place_of s.probes w ≡ None
  pub buffers : place_of s.buffers w ≡ None
  pub pairs : place_of s.pairs w ≡ None
  pub fences : place_of s.fences w ≡ None

none : {A : Type 0} (o : Option A) → is_some o ≡ false → o ≡ None
none None h = refl
none (Some a) h = absurd (cc)

pub no_place : (s : Script) (w : Word) → is_declared s w ≡ false → NoPlace s w
no_place s w fresh =
    let one = or_parts (is_some (place_of s.sessions w)) _ fresh in
    let two = or_parts (is_some (place_of s.probes w)) _ one.1 in
    let three = or_parts (is_some (place_of s.buffers w)) _ two.1 in
    let four = or_parts (is_some (place_of s.pairs w)) _ three.1 in
    let five = or_parts (is_some (place_of s.fences w)) _ four.1 in
    record { sessions = none _ one.0; probes = none _ two.0; buffers = none _ three.0; pairs = none _ four.0; fences = none _ five.0 }

pub finds_sessions : (s : Script) (name w : Word) (o o' : Option NameMeaning) → IsFresh s name
    → o' ≡ cond (bytes_eq w name) (Some (Session (length s.sessions))) o
    → Means o s w → Means o' (with_session s name) w
finds_sessions s name w o o' fresh is m =
    let none = no_place s name fresh.fresh in
    let seen = choose {A = Option NameMeaning} {B = Option ℕ} in
    let m' = Some (Session (length s.sessions)) in
    record {
      sessions = added s.sessions name w (session_place o) (session_place o') none.sessions m.sessions
          (ap session_place is ∙ seen session_place (bytes_eq w name) m' o);
      probes = same s.probes name w (probe_place o) (probe_place o') none.probes m.probes (ap probe_place is ∙ seen probe_place (bytes_eq w name) m' o);
      buffers = same s.buffers name w (buffers_place o) (buffers_place o') none.buffers m.buffers
          (ap buffers_place is ∙ seen buffers_place (bytes_eq w name) m' o);
      pairs = same s.pairs name w (pair_place o) (pair_place o') none.pairs m.pairs (ap pair_place is ∙ seen pair_place (bytes_eq w name) m' o);
      fences = same s.fences name w (fence_place o) (fence_place o') none.fences m.fences (ap fence_place is ∙ seen fence_place (bytes_eq w name) m' o);
    }

pub finds_probes : (s : Script) (name w : Word) (o o' : Option NameMeaning) → IsFresh s name → o' ≡ cond (bytes_eq w name) (Some (Probe (length s.probes))) o
    → Means o s w → Means o' (with_probe s name) w
finds_probes s name w o o' fresh is m =
    let none = no_place s name fresh.fresh in
    let seen = choose {A = Option NameMeaning} {B = Option ℕ} in
    let m' = Some (Probe (length s.probes)) in
    record {
      sessions = same s.sessions name w (session_place o) (session_place o') none.sessions m.sessions
          (ap session_place is ∙ seen session_place (bytes_eq w name) m' o);
      probes = added s.probes name w (probe_place o) (probe_place o') none.probes m.probes (ap probe_place is ∙ seen probe_place (bytes_eq w name) m' o);
      buffers = same s.buffers name w (buffers_place o) (buffers_place o') none.buffers m.buffers
          (ap buffers_place is ∙ seen buffers_place (bytes_eq w name) m' o);
      pairs = same s.pairs name w (pair_place o) (pair_place o') none.pairs m.pairs (ap pair_place is ∙ seen pair_place (bytes_eq w name) m' o);
      fences = same s.fences name w (fence_place o) (fence_place o') none.fences m.fences (ap fence_place is ∙ seen fence_place (bytes_eq w name) m' o);
    }

pub finds_buffers : (s : Script) (name w : Word) (d : BufferDecl) (o o' : Option NameMeaning) → IsFresh s name
    → o' ≡ cond (bytes_eq w name) (Some (Buffers (length s.buffers))) o → Means o s w → Means o' (with_buffers s name d) w
finds_buffers s name w d o o' fresh is m =
    let none = no_place s name fresh.fresh in
    let seen = choose {A = Option NameMeaning} {B = Option ℕ} in
    let m' = Some (Buffers (length s.buffers)) in
    record {
      sessions = same s.sessions name w (session_place o) (session_place o') none.sessions m.sessions
          (ap session_place is ∙ seen session_place (bytes_eq w name) m' o);
      probes = same s.probes name w (probe_place o) (probe_place o') none.probes m.probes (ap probe_place is ∙ seen probe_place (bytes_eq w name) m' o);
      buffers = added s.buffers name w (buffers_place o) (buffers_place o') none.buffers m.buffers
          (ap buffers_place is ∙ seen buffers_place (bytes_eq w name) m' o);
      pairs = same s.pairs name w (pair_place o) (pair_place o') none.pairs m.pairs (ap pair_place is ∙ seen pair_place (bytes_eq w name) m' o);
      fences = same s.fences name w (fence_place o) (fence_place o') none.fences m.fences (ap fence_place is ∙ seen fence_place (bytes_eq w name) m' o);
    }

pub finds_pairs : (s : Script) (name w : Word) (d : PairDecl) (o o' : Option NameMeaning) → IsFresh s name
    → o' ≡ cond (bytes_eq w name) (Some (Pair (length s.pairs))) o → Means o s w → Means o' (with_pair s name d) w
finds_pairs s name w d o o' fresh is m =
    let none = no_place s name fresh.fresh in
    let seen = choose {A = Option NameMeaning} {B = Option ℕ} in
    let m' = Some (Pair (length s.pairs)) in
    record {
      sessions = same s.sessions name w (session_place o) (session_place o') none.sessions m.sessions
          (ap session_place is ∙ seen session_place (bytes_eq w name) m' o);
      probes = same s.probes name w (probe_place o) (probe_place o') none.probes m.probes (ap probe_place is ∙ seen probe_place (bytes_eq w name) m' o);
      buffers = same s.buffers name w (buffers_place o) (buffers_place o') none.buffers m.buffers
          (ap buffers_place is ∙ seen buffers_place (bytes_eq w name) m' o);
      pairs = added s.pairs name w (pair_place o) (pair_place o') none.pairs m.pairs (ap pair_place is ∙ seen pair_place (bytes_eq w name) m' o);
      fences = same s.fences name w (fence_place o) (fence_place o') none.fences m.fences (ap fence_place is ∙ seen fence_place (bytes_eq w name) m' o);
    }

pub finds_fences : (s : Script) (name w : Word) (d : FenceDecl) (o o' : Option NameMeaning) → IsFresh s name
    → o' ≡ cond (bytes_eq w name) (Some (Fence (length s.fences))) o → Means o s w → Means o' (with_fence s name d) w
finds_fences s name w d o o' fresh is m =
    let none = no_place s name fresh.fresh in
    let seen = choose {A = Option NameMeaning} {B = Option ℕ} in
    let m' = Some (Fence (length s.fences)) in
    record {
      sessions = same s.sessions name w (session_place o) (session_place o') none.sessions m.sessions
          (ap session_place is ∙ seen session_place (bytes_eq w name) m' o);
      probes = same s.probes name w (probe_place o) (probe_place o') none.probes m.probes (ap probe_place is ∙ seen probe_place (bytes_eq w name) m' o);
      buffers = same s.buffers name w (buffers_place o) (buffers_place o') none.buffers m.buffers
          (ap buffers_place is ∙ seen buffers_place (bytes_eq w name) m' o);
      pairs = same s.pairs name w (pair_place o) (pair_place o') none.pairs m.pairs (ap pair_place is ∙ seen pair_place (bytes_eq w name) m' o);
      fences = added s.fences name w (fence_place o) (fence_place o') none.fences m.fences (ap fence_place is ∙ seen fence_place (bytes_eq w name) m' o);
    }
