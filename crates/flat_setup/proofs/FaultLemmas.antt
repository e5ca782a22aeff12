-- What the faults say, and that no fault is a setup that a script could give.
use Rattle.std.proofs.Common.{◌≡◌, ℕ, zero, suc, ◌+◌, ◌<◌, ◌≤◌, Bool, true, false, ◌&&◌, ◌==◌, List, [], ◌∷◌, length, map, slice_index, refl, arith}
use Rattle.std.specs.Prelude.{sum, Option, None, nat_le, nat_lt}
use Rattle.std.proofs.lemmas.Bool.{le-leb, leb-true}
use Rattle.std.proofs.lemmas.List.{length-map}
use Rattle.std.proofs.lemmas.Bool.Decides.{nat_tests}
use Rattle.flat_base.proofs.lemmas.Tests.{and-left, and-right, and-true}
use Rattle.flat_base.specs.declared.limits.TheConstants.{SIDE_MAX, SESSIONS_MAX, PROBES_MAX, PAIRS_MAX, BUFFER_COLLECTIONS_MAX, FENCES_MAX}
use Rattle.flat_scene.specs.Setups.{is_within, is_ratio}
use Rattle.flat_scene.specs.Heads.{is_setup, is_within_limits, owners_declared, has_one_display_pair}
use Rattle.flat_setup.specs.declared.fault.SetupFault.{SetupFault}
use Rattle.flat_setup.specs.Builders.{Plan, IsKept, IsNewSetup, built, shares_of, display_pairs}
use Rattle.flat_setup.specs.declared.fault.TheConstants.{DISPLAY_OWES, SESSION_OWES, ENTRIES_MAX}
use Rattle.flat_setup.specs.Faults.{unless, is_size, fits, fault_of}
use Rattle.flat_setup.specs.Laws.{FaultlessIsSetup}

-- no fault: the test passes, and there is none later
pub none-unless : (passes : Bool) (fault : SetupFault) (later : Option SetupFault) → unless passes fault later ≡ None → (passes ≡ true) × (later ≡ None)
none-unless true fault later none = (refl, none)
none-unless false fault later none = cc

unless-none : (passes : Bool) (fault : SetupFault) (later : Option SetupFault) → passes ≡ true → later ≡ None → unless passes fault later ≡ None
unless-none true fault later passes none = none
unless-none false fault later passes none = cc

-- the tests of a plan that has no fault
pub record IsFaultless (plan : Plan) : Type 0 where
  pub size : is_size plan.setup.width plan.setup.height ≡ true
  pub ratio : is_ratio plan.setup.ratio ≡ true
  pub session : nat_lt 0 plan.setup.sessions ≡ true
  pub pair : nat_lt 0 (display_pairs plan.setup) ≡ true
  pub entries : fits (sum (shares_of plan)) ≡ true

pub faultless : (plan : Plan) → fault_of plan ≡ None → IsFaultless plan
faultless plan none =
    let size = none-unless _ _ _ none in
    let ratio = none-unless _ _ _ size.1 in
    let session = none-unless _ _ _ ratio.1 in
    let pair = none-unless _ _ _ session.1 in
    let entries = none-unless _ _ _ pair.1 in
    record { size = size.0; ratio = ratio.0; session = session.0; pair = pair.0; entries = entries.0 }

within-limits : (plan : Plan) → IsKept plan → IsFaultless plan → is_within_limits plan.setup ≡ true
within-limits plan kept none =
    let setup = plan.setup in
    let wide = is_within SIDE_MAX setup.width in
    let high = is_within SIDE_MAX setup.height in
    let probes : setup.probes ≤ PROBES_MAX = omega (arith, kept.silent) in
    and-true (and-true (and-true (and-true (and-true (and-true (and-true none.ratio (and-left wide high none.size)) (and-right wide high none.size))
    (and-true none.session (le-leb _ _ kept.sessions)))
    (le-leb _ _ probes)) (le-leb _ _ kept.pairs)) (le-leb _ _ kept.buffers)) (le-leb _ _ kept.fences)

one-is : (n : ℕ) → n ≤ 1 → nat_lt 0 n ≡ true → (n == 1) ≡ true
one-is n few some = grind (arith, nat_tests)

some-is : (n : ℕ) → (n == 1) ≡ true → nat_lt 0 n ≡ true
some-is n one = grind (arith, nat_tests)

pub faultless-is-setup : (plan : Plan) → IsKept plan → IsFaultless plan → is_setup plan.setup ≡ true
faultless-is-setup plan kept none = and-true (and-true (within-limits plan kept none) kept.owned) (one-is (display_pairs plan.setup) kept.alone none.pair)

setup-is-faultless : (plan : Plan) → is_setup plan.setup ≡ true → fits (sum (shares_of plan)) ≡ true → fault_of plan ≡ None
setup-is-faultless plan good entries =
    let setup = plan.setup in
    let ratio = is_ratio setup.ratio in
    let wide = is_within SIDE_MAX setup.width in
    let high = is_within SIDE_MAX setup.height in
    let sessions = is_within SESSIONS_MAX setup.sessions in
    let probes = nat_le setup.probes PROBES_MAX in
    let pairs = nat_le (length setup.pairs) PAIRS_MAX in
    let buffers = nat_le (length setup.buffers) BUFFER_COLLECTIONS_MAX in
    let fences = nat_le (length setup.fences) FENCES_MAX in
    let limits = and-left (is_within_limits setup) (owners_declared setup)
    (and-left (is_within_limits setup && owners_declared setup) (has_one_display_pair setup) good) in
    let one = and-right (is_within_limits setup && owners_declared setup) (has_one_display_pair setup) good in
    let first = and-left (ratio && wide && high && sessions && probes && pairs && buffers) fences limits in
    let second = and-left (ratio && wide && high && sessions && probes && pairs) buffers first in
    let third = and-left (ratio && wide && high && sessions && probes) pairs second in
    let fourth = and-left (ratio && wide && high && sessions) probes third in
    let fifth = and-left (ratio && wide && high) sessions fourth in
    let sixth = and-left (ratio && wide) high fifth in
    let size : is_size setup.width setup.height ≡ true = and-true (and-right ratio wide sixth) (and-right (ratio && wide) high fifth) in
    let some : nat_lt 0 setup.sessions ≡ true = and-left (nat_lt 0 setup.sessions) (nat_le setup.sessions SESSIONS_MAX)
    (and-right (ratio && wide && high) sessions fourth) in
    unless-none _ _ _ size
    (unless-none _ _ _ (and-left ratio wide sixth)
    (unless-none _ _ _ some
    (unless-none _ _ _ (some-is (display_pairs setup) one)
    (unless-none _ _ _ entries refl))))

pub faultless-law : FaultlessIsSetup
faultless-law plan kept =
    (λ none. let found = faultless plan none in (faultless-is-setup plan kept found, found.entries), λ good. setup-is-faultless plan good.0 good.1)

-- what a plan without a fault builds
-- each share of a session has what it may owe
owes : (k : ℕ) (xs : List ℕ) → k < length xs → SESSION_OWES ≤ slice_index (map (λ entries. entries + SESSION_OWES) xs) k
owes k [] within = absurd (omega (arith, within))
owes zero (x ∷ xs) within = omega arith
owes (suc k) (x ∷ xs) within = owes k xs (omega (arith, within))

owing : (first s : ℕ) (xs : List ℕ) → 0 < s → s ≤ length xs → SESSION_OWES ≤ slice_index (first ∷ map (λ entries. entries + SESSION_OWES) xs) s
owing first zero xs some within = absurd (omega (arith, some))
owing first (suc k) xs some within = owes k xs (omega (arith, within))

pub new-setup : (plan : Plan) → IsKept plan → fault_of plan ≡ None → IsNewSetup (built plan)
new-setup plan kept none =
    let found = faultless plan none in
    let fit : sum (shares_of plan) ≤ ENTRIES_MAX = leb-true _ _ found.entries in
    let actors : length (shares_of plan) ≡ plan.setup.sessions + 1 = simp length-map (omega (arith, kept.counted)) in
    record {
      good = faultless-is-setup plan kept found;
      silent = kept.silent;
      actors = actors;
      total = omega arith;
      owing = λ s some within. owing (plan.display + DISPLAY_OWES) s plan.sessions some (let many = kept.counted in omega (arith, within, many));
    }
