-- What a builder of a setup was told so far, and the setup that it makes.
use Rattle.std.specs.Prelude.{◌≡◌, ℕ, ◌+◌, ◌<◌, ◌≤◌, ◌^◌, Bool, true, cond}
use Rattle.std.specs.Prelude.{List, [], ◌∷◌, ◌++◌, length, filter, map}
use Rattle.std.specs.Prelude.{slice_index, sum}
use Rattle.flat_base.specs.declared.limits.TheConstants.{ONE, SESSIONS_MAX, PAIRS_MAX}
use Rattle.flat_base.specs.declared.limits.TheConstants.{BUFFER_COLLECTIONS_MAX, FENCES_MAX}
use Rattle.flat_scene.specs.declared.setup.BufferDecl.{BufferDecl}
use Rattle.flat_scene.specs.declared.setup.FenceDecl.{FenceDecl}
use Rattle.flat_scene.specs.declared.setup.PairDecl.{PairDecl}
use Rattle.flat_scene.specs.declared.setup.Setup.{Setup}
use Rattle.flat_scene.specs.History.{is_display}
use Rattle.flat_scene.specs.Heads.{is_setup, owners_declared}
use Rattle.flat_setup.specs.declared.fault.TheConstants.{DISPLAY_OWES, SESSION_OWES, ENTRIES_MAX}

-- What was said so far: the setup, how many entries the display may make, and how many each session may make.
pub record Plan : Type 0 where
  pub setup : Setup
  pub display : ℕ
  pub sessions : List ℕ

-- a display of that size, and nothing else yet
abbrev pub begun : ℕ → ℕ → ℕ → Plan
begun width height entries = record {
  setup = record {
    width = width;
    height = height;
    sessions = 0;
    probes = 0;
    pairs = [];
    buffers = [];
    fences = [];
    ratio = ONE;
  };
  display = entries;
  sessions = [];
}

-- the plan with one thing more

abbrev pub with_ratio : Plan → ℕ → Plan
with_ratio plan ratio = record plan { setup = record plan.setup { ratio = ratio } }

abbrev pub with_session : Plan → ℕ → Plan
with_session plan entries = record plan {
  setup = record plan.setup { sessions = plan.setup.sessions + 1 };
  sessions = plan.sessions ++ entries ∷ [];
}

abbrev pub with_pair : Plan → PairDecl → Plan
with_pair plan pair = record plan { setup = record plan.setup { pairs = plan.setup.pairs ++ pair ∷ [] } }

abbrev pub with_buffers : Plan → BufferDecl → Plan
with_buffers plan buffers = record plan { setup = record plan.setup { buffers = plan.setup.buffers ++ buffers ∷ [] } }

abbrev pub with_fence : Plan → FenceDecl → Plan
with_fence plan fence = record plan { setup = record plan.setup { fences = plan.setup.fences ++ fence ∷ [] } }

-- How many entries each actor may make in all, the display first: those that were said, and those that it may owe.
abbrev pub shares_of : Plan → List ℕ
shares_of plan = (plan.display + DISPLAY_OWES) ∷ map (λ entries. entries + SESSION_OWES) plan.sessions

-- how many pairs have the display's viewport end
abbrev pub display_pairs : Setup → ℕ
display_pairs setup = length (filter (λ pair. is_display pair.viewport) setup.pairs)

-- What holds of a builder at any time, since its calls refuse what would break it.
pub record IsKept (plan : Plan) : Type 0 where
  pub counted : length plan.sessions ≡ plan.setup.sessions
  pub silent : plan.setup.probes ≡ 0
  pub sessions : plan.setup.sessions ≤ SESSIONS_MAX
  pub pairs : length plan.setup.pairs ≤ PAIRS_MAX
  pub buffers : length plan.setup.buffers ≤ BUFFER_COLLECTIONS_MAX
  pub fences : length plan.setup.fences ≤ FENCES_MAX
  pub owned : owners_declared plan.setup ≡ true
  pub alone : display_pairs plan.setup ≤ 1

-- The same of the fields of a builder: whether the display has a pair, and how many entries there are in all.
pub record IsHeld (plan : Plan) (paired : Bool) (total : ℕ) : Type 0 where
  pub kept : IsKept plan
  pub display : display_pairs plan.setup ≡ cond paired 1 0
  pub sum_of : total ≡ sum (shares_of plan)
  pub low : total ≤ ENTRIES_MAX + 1

-- A setup that was built, and how many entries each actor may make in it.
pub record Built : Type 0 where
  pub setup : Setup
  pub shares : List ℕ

-- what a plan builds
abbrev pub built : Plan → Built
built plan = record { setup = plan.setup; shares = shares_of plan }

-- What a service may rely on: the setup is one that a script could give, without probes, and each actor has its share,
-- that of a session with what it may owe.
pub record IsNewSetup (it : Built) : Type 0 where
  pub good : is_setup it.setup ≡ true
  pub silent : it.setup.probes ≡ 0
  pub actors : length it.shares ≡ it.setup.sessions + 1
  pub total : sum it.shares < 2 ^ 32
  pub owing : (s : ℕ) → 0 < s → s ≤ it.setup.sessions → SESSION_OWES ≤ slice_index it.shares s
