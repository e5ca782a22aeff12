-- The lines of the head.
use Rattle.std.specs.Prelude.{ℕ, ◌+◌, nat_lt, Bool, not, ◌&&◌, List, [], ◌∷◌, ◌++◌, length, Err, codes, if◌then◌else◌}
use Rattle.std.specs.Str.{bytes_eq}
use Rattle.flat_scene.specs.declared.setup.PairDecl.{PairDecl}
use Rattle.flat_scene.specs.declared.setup.BufferDecl.{BufferDecl}
use Rattle.flat_scene.specs.declared.setup.FenceDecl.{FenceDecl}
use Rattle.flat_base.specs.declared.limits.TheConstants.{ONE, BUFFER_COLLECTIONS_MAX, BUFFERS_PER_COLLECTION_MAX}
use Rattle.flat_base.specs.declared.limits.TheConstants.{FENCES_MAX, PAIRS_MAX, PROBES_MAX, SESSIONS_MAX, SIDE_MAX}
use Rattle.flat_places.specs.declared.kinds.FaultKind.TheVariants.{BadHead, Limit}
use Rattle.flat_places.specs.declared.script.Script.{Script}
use Rattle.flat_places.specs.Forms.{Word, Reading, Form, unless_kind, give, whole, named, mapped, ◌<$>◌, ◌<*>◌}
use Rattle.flat_places.specs.Places.{number_from, first_ratio, session, version, has_display_pair, new_name, pair_owner}
use Rattle.flat_places.specs.Places.{owners}

-- nothing declared yet; a width of 0 says that no display line was read
abbrev pub empty : Script
empty = record {
  version = 0;
  setup =
      record { width = 0; height = 0; sessions = 0; probes = 0; pairs = []; buffers = []; fences = []; ratio = ONE };
  sessions = [];
  probes = [];
  buffers = [];
  pairs = [];
  fences = [];
  lines = [];
  count = 0;
}

-- a display line was read
abbrev pub has_display : Script → Bool
has_display s = nat_lt 0 s.setup.width

-- a side of the display or of a buffer
abbrev pub side : Form ℕ
side = number_from 1 SIDE_MAX

-- the script with what a line declares

abbrev pub with_version : Script → ℕ → Script
with_version s v = record s { version = v }

abbrev pub with_display : Script → ℕ → ℕ → ℕ → Script
with_display s w h q = record s { setup = record s.setup { width = w; height = h; ratio = q } }

abbrev pub with_session : Script → Word → Script
with_session s name =
    record s { setup = record s.setup { sessions = s.setup.sessions + 1 }; sessions = s.sessions ++ name ∷ [] }

abbrev pub with_probe : Script → Word → Script
with_probe s name = record s { setup = record s.setup { probes = s.setup.probes + 1 }; probes = s.probes ++ name ∷ [] }

abbrev pub with_buffers : Script → Word → BufferDecl → Script
with_buffers s name d =
    record s { setup = record s.setup { buffers = s.setup.buffers ++ d ∷ [] }; buffers = s.buffers ++ name ∷ [] }

abbrev pub with_pair : Script → Word → PairDecl → Script
with_pair s name d =
    record s { setup = record s.setup { pairs = s.setup.pairs ++ d ∷ [] }; pairs = s.pairs ++ name ∷ [] }

abbrev pub with_fence : Script → Word → FenceDecl → Script
with_fence s name d =
    record s { setup = record s.setup { fences = s.setup.fences ++ d ∷ [] }; fences = s.fences ++ name ∷ [] }

-- what a line declares

-- the size of the display, and its first pixel ratio
abbrev pub size : ℕ → Form (ℕ × ℕ × ℕ)
size version = (λ w h q. (w, h, q)) <$> side <*> side <*> first_ratio version

-- a buffer collection: its name, its owner, how many buffers, and their size
abbrev pub buffers : Script → Form (Word × BufferDecl)
buffers s = (λ name a n x y. (name, record { owner = a; count = n; w = x; h = y }))
    <$> new_name s <*> session s <*> number_from 1 BUFFERS_PER_COLLECTION_MAX <*> side <*> side

-- a pair: its name, and who owns the viewport end and the view end
abbrev pub pair : Script → Form (Word × PairDecl)
pair s = (λ name x y. (name, record { viewport = x; view = y })) <$> new_name s <*> pair_owner s <*> session s

-- a fence: its name and its owners
abbrev pub fence : Script → Form (Word × FenceDecl)
fence s = (λ name actors. (name, record { owners = actors })) <$> new_name s <*> owners s

-- a declaration, of which a script has at most so many
abbrev pub declared : {A : Type 0} → ℕ → List Word → (A → Script) → Form A → List Word → Reading Script
declared most names with form words = mapped with (unless_kind Limit (nat_lt (length names) most) (whole form words))

abbrev pub display_line : Script → List Word → Reading Script
display_line s words =
    mapped (λ d. with_display s d.0 d.1 d.2) (unless_kind BadHead (not (has_display s)) (whole (size s.version) words))

abbrev pub session_line : Script → List Word → Reading Script
session_line s = declared SESSIONS_MAX s.sessions (with_session s) (new_name s)

abbrev pub probe_line : Script → List Word → Reading Script
probe_line s = declared PROBES_MAX s.probes (with_probe s) (new_name s)

abbrev pub buffers_line : Script → List Word → Reading Script
buffers_line s = declared BUFFER_COLLECTIONS_MAX s.buffers (λ d. with_buffers s d.0 d.1) (buffers s)

abbrev pub pair_line : Script → List Word → Reading Script
pair_line s = declared PAIRS_MAX s.pairs (λ d. with_pair s d.0 d.1) (pair s)

abbrev pub fence_line : Script → List Word → Reading Script
fence_line s = declared FENCES_MAX s.fences (λ d. with_fence s d.0 d.1) (fence s)

-- a line of the head, but for the first and the last
abbrev pub head_line : Script → List Word → Reading Script
head_line s = named s.version BadHead (
    (codes "display", display_line s) ∷
    (codes "session", session_line s) ∷
    (codes "probe", probe_line s) ∷
    (codes "buffers", buffers_line s) ∷
    (codes "pair", pair_line s) ∷
    (codes "fence", fence_line s) ∷ [])

-- a display, a session and a pair of the display are there
abbrev pub is_ready : Script → Bool
is_ready s = has_display s && nat_lt 0 (length s.sessions) && has_display_pair s

-- `run`, which ends the head
abbrev pub run_line : Script → List Word → Reading (Unit {0})
run_line s words = unless_kind BadHead (is_ready s) (whole (give (tt {0})) words)

-- `flatland` and the version, which begin the head
abbrev pub first_line : List Word → Reading ℕ
first_line [] = Err BadHead
first_line (w ∷ words) = if bytes_eq w (codes "flatland") then whole version words else Err BadHead
