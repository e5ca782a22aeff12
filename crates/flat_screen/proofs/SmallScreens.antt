-- A display of one pixel, computed; one without pixels is none, nor is one that is too large.
use Rattle.std.proofs.Common.{◌≡◌, true, false, [], ◌∷◌, None, Some, refl}
use Rattle.flat_screen.specs.Screens.{Screen, after_failure, colour_at, has_pixels}

abbrev one_pixel : Screen
one_pixel = record { width = 1; height = 1; items = []; faults = 0 }

black : colour_at one_pixel 0 0 ≡ Some (0 ∷ 0 ∷ 0 ∷ [])
black = refl

beyond : colour_at one_pixel 0 1 ≡ None
beyond = refl

fails_once : (after_failure one_pixel).faults ≡ 1
fails_once = refl

has_one : has_pixels 1 1 ≡ true
has_one = refl

has_none : has_pixels 0 1 ≡ false
has_none = refl

too_many : has_pixels 65536 65536 ≡ false
too_many = refl
