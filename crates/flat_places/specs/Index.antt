-- The names of a script, found by a map and a cache in front of it.
use Rattle.std.specs.Prelude.{◌≡◌, ◌<◌, ◌≤◌, ◌==◌, ◌+◌, ◌*◌, ◌%◌, ◌^◌, ℕ, [], ◌∷◌, length, slice_index}
use Rattle.std.specs.Prelude.{slice_index_or, Option, Some, None, IfSome, if◌then◌else◌}
use Rattle.std.specs.BTreeMap as tree
use Rattle.std.specs.Ordering.{nat_cmp}
use Rattle.flat_base.specs.declared.limits.TheConstants.{BUFFER_COLLECTIONS_MAX, FENCES_MAX}
use Rattle.flat_base.specs.declared.limits.TheConstants.{PAIRS_MAX, PROBES_MAX, SESSIONS_MAX}
use Rattle.flat_places.specs.declared.names.NameMeaning.{NameMeaning}
use Rattle.flat_places.specs.declared.names.NameMeaning.TheVariants.{Session, Probe, Buffers, Pair, Fence}
use Rattle.flat_places.specs.declared.names.Names.{Names}
use Rattle.flat_places.specs.declared.names.CachedName.{CachedName}
use Rattle.flat_places.specs.declared.names.TheConstants.{CACHE_SLOTS}
use Rattle.flat_places.specs.declared.names.IndexedScript.{IndexedScript}
use Rattle.flat_places.specs.declared.script.Script.{Script}
use Rattle.flat_places.specs.Forms.{Word}
use Rattle.flat_places.specs.Names.{place_of, is_name}

-- the bytes of a name as the digits of a number, the first one the lowest
abbrev pub key_of : Word → ℕ
key_of [] = 0
key_of (b ∷ bs) = b + 256 * key_of bs

-- what the map has for a word, where that is a name
abbrev pub meaning_at : Names → Word → Option NameMeaning
meaning_at names w = if is_name w then tree.get nat_cmp names.map (key_of w) else None

-- the slot into which a key falls
abbrev pub slot_of : ℕ → ℕ
slot_of key = key % 2 ^ 64 % CACHE_SLOTS

-- each is a byte
abbrev pub AreBytes : Word → Type 0
AreBytes w = (i : ℕ) → slice_index w i < 256

-- what a slot holds fell into it, and the one word of its length and key means that
pub record IsCached (names : Names) (slot : ℕ) (e : CachedName) : Type 0 where
  pub own : slot_of e.key ≡ slot
  pub means : (w : Word) → AreBytes w → length w ≡ e.len → key_of w ≡ e.key →
      meaning_at names w ≡ Some e.meaning

-- so does each slot
abbrev pub IsCache : Names → Type 0
IsCache names = (slot : ℕ) → slot < CACHE_SLOTS → IfSome (slice_index_or names.cache slot None) (IsCached names slot)

-- what a slot holds once a further name falls into it: the first key stays
abbrev pub first_cached : Option CachedName → CachedName → CachedName
first_cached None new = new
first_cached (Some old) new = if old.key == new.key then new else old

-- the place of a session
abbrev pub session_place : Option NameMeaning → Option ℕ
session_place (Some (Session i)) = Some i
session_place _ = None

-- the place of a probe
abbrev pub probe_place : Option NameMeaning → Option ℕ
probe_place (Some (Probe i)) = Some i
probe_place _ = None

-- the place of a buffer collection
abbrev pub buffers_place : Option NameMeaning → Option ℕ
buffers_place (Some (Buffers i)) = Some i
buffers_place _ = None

-- the place of a pair
abbrev pub pair_place : Option NameMeaning → Option ℕ
pair_place (Some (Pair i)) = Some i
pair_place _ = None

-- the place of a fence
abbrev pub fence_place : Option NameMeaning → Option ℕ
fence_place (Some (Fence i)) = Some i
fence_place _ = None

-- the meaning of a word is its place in the script, of the one sort that it is of
pub record Means (o : Option NameMeaning) (s : Script) (w : Word) : Type 0 where
  pub sessions : place_of s.sessions w ≡ session_place o
  pub probes : place_of s.probes w ≡ probe_place o
  pub buffers : place_of s.buffers w ≡ buffers_place o
  pub pairs : place_of s.pairs w ≡ pair_place o
  pub fences : place_of s.fences w ≡ fence_place o

-- the map finds each word of the script, and the script is within its limits
pub record IsIndexed (x : IndexedScript) : Type 0 where
  pub cache : IsCache x.names
  pub finds : (w : Word) → Means (meaning_at x.names w) x.script w
  pub sessions : length x.script.sessions ≤ SESSIONS_MAX
  pub probes : length x.script.probes ≤ PROBES_MAX
  pub buffers : length x.script.buffers ≤ BUFFER_COLLECTIONS_MAX
  pub pairs : length x.script.pairs ≤ PAIRS_MAX
  pub fences : length x.script.fences ≤ FENCES_MAX
