-- Which pairs of a session are listed, since a get of them may wait.
use Rattle.std.specs.Prelude.{◌≡◌, ℕ, ◌+◌, Bool, true, false, cond, ◌&&◌, ◌||◌, ◌==◌, nat_le, nat_lt, List, [], ◌∷◌}
use Rattle.std.specs.Prelude.{filter, is_some, option_map, slice_get, unwrap_or, length}
use Rattle.flat_base.specs.declared.ids.PairNo.{PairNo}
use Rattle.flat_base.specs.declared.ids.SessionNo.{SessionNo}
use Rattle.flat_scene.specs.declared.setup.Setup.{Setup}
use Rattle.flat_gets.specs.declared.pair.PairWatchers.{PairWatchers}
use Rattle.flat_rules.specs.Ends.{views_of, viewports_of}
use Rattle.flat_rules.specs.Legal.{owns_view, owns_viewport}

-- What contracts see of what is kept of a session's gets:
-- how many answers it had, and the pairs of its views and viewports that are listed.
pub record KeptGets : Type 0 where
  pub answers : ℕ
  pub views : List PairNo
  pub viewports : List PairNo

abbrev pub no_gets : KeptGets
no_gets = record { answers = 0; views = []; viewports = [] }

-- whether pairs stand by rising numbers, from a number on
abbrev pub rises_from : ℕ → List PairNo → Bool
rises_from n [] = true
rises_from n (p ∷ more) = nat_le n p.0 && rises_from (p.0 + 1) more

-- one pair more, in its place, unless it is there
abbrev pub with_pair : PairNo → List PairNo → List PairNo
with_pair p [] = p ∷ []
with_pair p (q ∷ more) = cond (nat_lt p.0 q.0) (p ∷ q ∷ more) (cond (p.0 == q.0) (q ∷ more) (q ∷ with_pair p more))

-- whether a pair is listed
abbrev pub is_listed : ℕ → List PairNo → Bool
is_listed i [] = false
is_listed i (p ∷ more) = p.0 == i || is_listed i more

-- whether a get waits at a pair; at one that isn't known none does
abbrev pub waits_at : (PairWatchers → Bool) → List PairWatchers → PairNo → Bool
waits_at waits pairs p = unwrap_or (option_map waits (slice_get pairs p.0)) false

-- Listed are some of these pairs, among them each that a session owns and of which a get waits.
pub record IsList (owns : PairNo → Bool) (all : List PairNo) (waits : PairWatchers → Bool) (pairs : List PairWatchers)
    (listed : List PairNo) : Type 0 where
  pub some : PairNo → Bool
  pub are : listed ≡ filter some all
  pub each : (p : PairNo) → owns p ≡ true → some p ≡ false → waits_at waits pairs p ≡ false

-- a get of the view's layout or status waits, and one of a viewport's child
abbrev pub view_waits : PairWatchers → Bool
view_waits w = is_some w.layout.waits || is_some w.status.waits

abbrev pub viewport_waits : PairWatchers → Bool
viewport_waits w = is_some w.child.waits || nat_lt 0 (length w.former.items)

-- What is listed of a session.
pub record AreListed (setup : Setup) (s : SessionNo) (pairs : List PairWatchers) (session : KeptGets) : Type 0 where
  pub views : IsList (owns_view setup s) (views_of setup s) view_waits pairs session.views
  pub viewports : IsList (owns_viewport setup s) (viewports_of setup s) viewport_waits pairs session.viewports
