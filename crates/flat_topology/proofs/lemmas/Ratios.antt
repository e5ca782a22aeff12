-- What a pixel ratio plays no part in.
use Rattle.std.proofs.Common.{ℕ}
use Rattle.flat_scene.specs.declared.setup.Setup.{Setup}
use Rattle.flat_scene.specs.Setups.{at_ratio}
use Rattle.flat_topology.specs.Shown.{Shown}
use Rattle.flat_topology.specs.Fit.{FitsSetup}

-- states that fit a setup fit it at each ratio
pub fits-at : (ratio : ℕ) (setup : Setup) (shown : Shown) → FitsSetup setup shown → FitsSetup (at_ratio ratio setup) shown
fits-at ratio setup shown fit = record { views = fit.views; viewports = fit.viewports; once = fit.once; small = fit.small; opacities = fit.opacities }
