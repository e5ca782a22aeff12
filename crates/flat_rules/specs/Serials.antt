-- The serial of the viewport that a pair's last use made, and the properties that a tree has for it.
use Rattle.std.specs.Prelude.{◌≡◌, ℕ, ◌+◌, ◌≤◌, false, cond, ◌==◌, nat_le, List, [], ◌∷◌, ◌++◌, length, Option, Some}
use Rattle.std.specs.Prelude.{None}
use Rattle.flat_base.specs.declared.ids.PairNo.{PairNo}
use Rattle.flat_base.specs.declared.ids.SessionNo.{SessionNo}
use Rattle.flat_scene.specs.declared.calls.Call.{Call}
use Rattle.flat_scene.specs.declared.calls.Call.TheVariants.{CreateViewport, CreateImage, CreateFilledRect}
use Rattle.flat_scene.specs.declared.calls.ViewportProps.{ViewportProps}
use Rattle.flat_scene.specs.declared.journal.Entry.{Entry}
use Rattle.flat_scene.specs.declared.trees.ViewportUse.{ViewportUse}
use Rattle.flat_scene.specs.Draft.{of_serial}
use Rattle.flat_scene.specs.History.{calls, presents, is_closed}
use Rattle.flat_rules.specs.Ends.{viewport_uses}
use Rattle.flat_rules.specs.Shown.{is_pair}
use Rattle.flat_rules.specs.Stamps.{made_by}

-- the contents that a call makes, each with its pair where it is a viewport
abbrev pub makes_content : Call → List (Option PairNo)
makes_content (CreateViewport c pair w h inset) = Some pair ∷ []
makes_content (CreateImage c buffers i w h) = None ∷ []
makes_content (CreateFilledRect c) = None ∷ []
makes_content _ = []

-- the same of several calls
abbrev pub contents_made : List Call → List (Option PairNo)
contents_made [] = []
contents_made (call ∷ calls) = makes_content call ++ contents_made calls

-- the serials of the viewports of a pair, where the first of the contents has that serial
abbrev pub serials_in : PairNo → ℕ → List (Option PairNo) → List ℕ
serials_in p next [] = []
serials_in p next (made ∷ more) = cond (is_pair made p) (next ∷ serials_in p (next + 1) more)
    (serials_in p (next + 1) more)

-- This is the serial of the viewport that the last use of a pair's viewport end made:
-- each present has it where it has so many contents.
pub record IsUseSerial (p : PairNo) (s : SessionNo) (history : List Entry) (serial : ℕ) : Type 0 where
  pub tells : (n : ℕ) → n ≤ length (presents s history)
      → of_serial (serials_in p 1 (contents_made (made_by s history n))) (length (viewport_uses p history))
      ≡ cond (nat_le serial (length (contents_made (made_by s history n)))) (Some serial) None
  pub opened : is_closed s history ≡ false
      → (of_serial (serials_in p 1 (contents_made (calls s history))) (length (viewport_uses p history)) ≡ Some serial)
      × (serial ≤ length (contents_made (calls s history)))

-- the properties of the viewport of a serial, among those that a tree has
abbrev pub props_at_serial : List ViewportUse → ℕ → Option ViewportProps
props_at_serial [] serial = None
props_at_serial (one ∷ more) serial = cond (one.serial == serial) (Some one.props) (props_at_serial more serial)
