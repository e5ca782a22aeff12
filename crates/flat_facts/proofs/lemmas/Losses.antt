-- Calls of which none may lose an end end no view and clear no viewport.
use Rattle.std.proofs.Common.{◌≡◌, Bool, true, false, List, [], ◌∷◌, refl}
use Rattle.std.specs.Prelude.{cond, ◌&&◌, ◌||◌, ◌==◌, Option}
use Rattle.std.specs.List.{list_any}
use Rattle.std.proofs.lemmas.Bool.{or_parts}
use Rattle.flat_base.specs.declared.ids.ContentId.{ContentId}
use Rattle.flat_base.specs.declared.ids.PairNo.{PairNo}
use Rattle.flat_scene.specs.declared.calls.Call.{Call}
use Rattle.flat_scene.specs.declared.calls.Call.TheVariants.{ReleaseView, ReleaseViewport, Clear}
use Rattle.flat_facts.specs.declared.live_viewport.LiveViewport.{LiveViewport}
use Rattle.flat_facts.specs.Clears.{clears_pair, is_cleared}
use Rattle.flat_facts.specs.Views.{ends_it, ends_of, is_loss, view_then}

no-end : (p : PairNo) (view : Option PairNo) (call : Call) → is_loss call ≡ false → ends_it p view call ≡ false
no-end p view ReleaseView none = let wrong : true ≡ false = none in cc
no-end p view Clear none = let wrong : true ≡ false = none in cc
no-end p view _ none = refl

pub no-ends : (p : PairNo) (view : Option PairNo) (calls : List Call) → list_any is_loss calls ≡ false → ends_of p view calls ≡ 0
no-ends p view [] none = refl
no-ends p view (call ∷ calls) none =
    let parts = or_parts (is_loss call) (list_any is_loss calls) none in
    rw (no-end p view call parts.0, no-ends p (view_then view call) calls parts.1) refl

uncleared : (name : ContentId) (calls : List Call) → list_any is_loss calls ≡ false → is_cleared name calls ≡ false
uncleared name [] none = refl
uncleared name (ReleaseViewport c ∷ calls) none = rw (uncleared name calls none) (by_test (name.0 == c.0))
  where
    by_test : (b : Bool) → cond b false false ≡ false
    by_test true = refl
    by_test false = refl
uncleared name (Clear ∷ calls) none = let wrong : true ≡ false = none in cc
uncleared name (call ∷ calls) none = uncleared name calls (or_parts (is_loss call) (list_any is_loss calls) none).1

pub no-clears : (p : PairNo) (live : List LiveViewport) (calls : List Call) → list_any is_loss calls ≡ false → clears_pair p live calls ≡ false
no-clears p [] calls none = refl
no-clears p (one ∷ live) calls none = rw (uncleared one.name calls none, no-clears p live calls none) (by_test (one.pair.0 == p.0))
  where
    by_test : (b : Bool) → ((b && false) || false) ≡ false
    by_test true = refl
    by_test false = refl
