-- The display's pixel ratio is always one that a display may have, and its sides are within their limits.
use Rattle.std.proofs.Common.{◌≡◌, ℕ, ◌≤◌, Bool, true, false, List, [], length}
use Rattle.std.specs.Prelude.{◌&&◌, nat_le, unwrap_or}
use Rattle.flat_base.specs.declared.ids.Actor.{Actor}
use Rattle.flat_base.specs.declared.ids.Actor.TheVariants.{Display, Session, Probe}
use Rattle.flat_base.specs.declared.limits.TheConstants.{RATIO_MIN, RATIO_MAX, SIDE_MAX, SESSIONS_MAX, PROBES_MAX, PAIRS_MAX, BUFFER_COLLECTIONS_MAX}
use Rattle.flat_base.specs.declared.limits.TheConstants.{FENCES_MAX}
use Rattle.flat_scene.specs.declared.journal.Entry.{Entry}
use Rattle.flat_scene.specs.declared.journal.EntryKind.{EntryKind}
use Rattle.flat_scene.specs.declared.journal.EntryKind.TheVariants.{Dpr}
use Rattle.flat_scene.specs.declared.setup.Setup.{Setup}
use Rattle.flat_scene.specs.Frames.{ratio, ratio_set}
use Rattle.flat_scene.specs.History.{◌▹◌}
use Rattle.flat_scene.specs.Setups.{is_ratio, is_within}
use Rattle.flat_scene.specs.Heads.{is_within_limits}
use Rattle.flat_base.proofs.lemmas.Tests.{and-left, and-right}
use Rattle.flat_rules.specs.Ends.{to_begin, to_finished}
use Rattle.flat_rules.specs.Legal.{Legal, may_act, may_name}
use Rattle.flat_rules.specs.Watch.{ratio_told}
use Rattle.flat_facts.proofs.lemmas.Tests.{le-of}
use Rattle.flat_facts.proofs.lemmas.Earlier.{begin-earlier, finished-earlier, legal-earlier}

-- what the head gives
head-limits : (a b c d e f g h : Bool) → (a && b && c && d && e && f && g && h) ≡ true → (a ≡ true) × (b ≡ true) × (c ≡ true)
head-limits a b c d e f g h all =
    let to_g = and-left (a && b && c && d && e && f && g) h all in
    let to_f = and-left (a && b && c && d && e && f) g to_g in
    let to_e = and-left (a && b && c && d && e) f to_f in
    let to_d = and-left (a && b && c && d) e to_e in
    let to_c = and-left (a && b && c) d to_d in
    let to_b = and-left (a && b) c to_c in
    (and-left a b to_b, and-right a b to_b, and-right (a && b) c to_c)

-- The display of a setup has a pixel ratio and sides within their limits.
pub record HasDisplay (setup : Setup) : Type 0 where
  pub ratio : is_ratio setup.ratio ≡ true
  pub width : setup.width ≤ SIDE_MAX
  pub height : setup.height ≤ SIDE_MAX

side-most : (n : ℕ) → is_within SIDE_MAX n ≡ true → n ≤ SIDE_MAX
side-most n is = le-of n SIDE_MAX (and-right _ (nat_le n SIDE_MAX) is)

pub has-display : (setup : Setup) → is_within_limits setup ≡ true → HasDisplay setup
has-display setup limits =
    let all = head-limits (is_ratio setup.ratio) (is_within SIDE_MAX setup.width) (is_within SIDE_MAX setup.height) (is_within SESSIONS_MAX setup.sessions)
    (nat_le setup.probes PROBES_MAX)
    (nat_le (length setup.pairs) PAIRS_MAX) (nat_le (length setup.buffers) BUFFER_COLLECTIONS_MAX) (nat_le (length setup.fences) FENCES_MAX) limits in
    record { ratio = all.0; width = side-most setup.width all.1; height = side-most setup.height all.2 }

-- what an entry sets is a ratio, or it leaves the one before; a session sets none
set-ratio : (setup : Setup) (who : Actor) (kind : EntryKind) (before : ℕ) → may_act setup kind who ≡ true → may_name setup who kind ≡ true
    → is_ratio before ≡ true
    → is_ratio (unwrap_or (ratio_set kind) before) ≡ true
set-ratio setup Display (Dpr q) before acts named was = named
set-ratio setup (Session s) (Dpr q) before acts named was = absurd (let wrong : false ≡ true = acts in cc)
set-ratio setup (Probe p) (Dpr q) before acts named was = absurd (let wrong : false ≡ true = acts in cc)
set-ratio setup who _ before acts named was = was

-- the ratio of a legal history
pub ratio-is : (setup : Setup) (h : List Entry) → Legal setup h → is_ratio setup.ratio ≡ true → is_ratio (ratio setup h) ≡ true
ratio-is setup [] legal first = first
ratio-is setup (before ▹ e) legal first = set-ratio setup e.actor e.kind (ratio setup before) legal.1.may.acts legal.1.may.named
    (ratio-is setup before legal.0 first)

least : (q : ℕ) → is_ratio q ≡ true → RATIO_MIN ≤ q
least q is = le-of RATIO_MIN q (and-left (nat_le RATIO_MIN q) (nat_le q RATIO_MAX) is)

-- and of its last begin, and of that of its last finished frame, isn't too small
pub begun-least : (setup : Setup) (h : List Entry) → Legal setup h → HasDisplay setup → RATIO_MIN ≤ ratio setup (to_begin h)
begun-least setup h legal display = least (ratio setup (to_begin h))
    (ratio-is setup (to_begin h) (legal-earlier setup (to_begin h) h (begin-earlier h) legal) display.ratio)

pub told-least : (setup : Setup) (h : List Entry) → Legal setup h → HasDisplay setup → RATIO_MIN ≤ ratio_told setup h
told-least setup h legal display = least (ratio_told setup h)
    (ratio-is setup (to_finished h) (legal-earlier setup (to_finished h) h (finished-earlier h) legal) display.ratio)
