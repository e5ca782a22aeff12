-- The viewports that a session's calls made, and neither released nor cleared.
use Rattle.std.specs.Prelude.{ℕ, ◌+◌, ◌-◌, Bool, false, cond, not, ◌==◌, List, [], ◌∷◌, ◌++◌, filter, length, slice_get}
use Rattle.std.specs.Prelude.{Option, Some, None, option_map, unwrap_or, true}
use Rattle.std.specs.List.{list_any}
use Rattle.flat_base.specs.declared.ids.PairNo.{PairNo}
use Rattle.flat_scene.specs.declared.calls.Call.{Call}
use Rattle.flat_scene.specs.declared.calls.Call.TheVariants.{CreateViewport, ReleaseViewport, Clear}
use Rattle.flat_facts.specs.declared.live_viewport.LiveViewport.{LiveViewport}
use Rattle.flat_rules.specs.Legal.{number_if}
use Rattle.flat_rules.specs.Shown.{is_pair}

-- those after a call, the newest last
abbrev pub lives_then : List LiveViewport → Call → List LiveViewport
lives_then lives (CreateViewport c pair w h inset) = lives ++ (record { name = c; pair = pair }) ∷ []
lives_then lives (ReleaseViewport c) = filter (λ live. not (live.name.0 == c.0)) lives
lives_then lives Clear = []
lives_then lives _ = lives

-- the same after several
abbrev pub lives_after : List LiveViewport → List Call → List LiveViewport
lives_after lives [] = lives
lives_after lives (call ∷ calls) = lives_after (lives_then lives call) calls

-- the pair of the one that an id names
abbrev pub pair_named : List LiveViewport → ℕ → Option PairNo
pair_named [] id = None
pair_named (live ∷ lives) id = cond (live.name.0 == id) (Some live.pair) (pair_named lives id)

-- how many are of a pair
abbrev pub held_of : PairNo → List LiveViewport → ℕ
held_of p [] = 0
held_of p (live ∷ lives) = number_if (live.pair.0 == p.0) + held_of p lives

-- whether a call releases the one of a pair, and whether it clears one
abbrev pub releases_live : PairNo → List LiveViewport → Call → Bool
releases_live p lives (ReleaseViewport c) = is_pair (pair_named lives c.0) p
releases_live p lives _ = false

abbrev pub clears_live : PairNo → List LiveViewport → Call → Bool
clears_live p lives Clear = list_any (λ live. live.pair.0 == p.0) lives
clears_live p lives _ = false

-- at how many of these calls such a thing happens
abbrev pub count_of : (List LiveViewport → Call → Bool) → List LiveViewport → List Call → ℕ
count_of test lives [] = 0
count_of test lives (call ∷ calls) = number_if (test lives call) + count_of test (lives_then lives call) calls

-- how many of these calls make a viewport of a pair
abbrev pub makes_one : PairNo → Call → Bool
makes_one p (CreateViewport c pair w h inset) = pair.0 == p.0
makes_one p _ = false

-- whether the last of these calls makes one
abbrev pub uses_last : PairNo → List Call → Bool
uses_last p calls = unwrap_or (option_map (makes_one p) (slice_get calls (length calls - 1))) false

abbrev pub made_of_pair : PairNo → List Call → ℕ
made_of_pair p [] = 0
made_of_pair p (call ∷ calls) = number_if (makes_one p call) + made_of_pair p calls

-- a call that makes a viewport
abbrev pub is_new_viewport : Call → Bool
is_new_viewport (CreateViewport c pair w h inset) = true
is_new_viewport _ = false
