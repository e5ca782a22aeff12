-- Which live viewports the calls of an entry clear.
use Rattle.std.specs.Prelude.{Bool, true, false, cond, ◌&&◌, ◌==◌, List, [], ◌∷◌}
use Rattle.std.specs.List.{list_any}
use Rattle.flat_base.specs.declared.ids.ContentId.{ContentId}
use Rattle.flat_base.specs.declared.ids.PairNo.{PairNo}
use Rattle.flat_scene.specs.declared.calls.Call.{Call}
use Rattle.flat_scene.specs.declared.calls.Call.TheVariants.{ReleaseViewport, Clear}
use Rattle.flat_facts.specs.declared.live_viewport.LiveViewport.{LiveViewport}

-- a call that clears
abbrev pub is_clear : Call → Bool
is_clear Clear = true
is_clear _ = false

-- whether calls clear a live viewport: they do where it isn't released before
abbrev pub is_cleared : ContentId → List Call → Bool
is_cleared name [] = false
is_cleared name (ReleaseViewport c ∷ calls) = cond (name.0 == c.0) false (is_cleared name calls)
is_cleared name (Clear ∷ calls) = true
is_cleared name (_ ∷ calls) = is_cleared name calls

-- whether a call decides what is cleared: it may release a viewport, or it clears them
abbrev pub decides : Call → Bool
decides (ReleaseViewport c) = true
decides Clear = true
decides _ = false

-- whether they clear the viewport of a pair that is among the live ones
abbrev pub clears_pair : PairNo → List LiveViewport → List Call → Bool
clears_pair p live calls = list_any (λ one. one.pair.0 == p.0 && is_cleared one.name calls) live
