-- Why a session isn't on the display, by where all sessions hang and by the view tree.
use Rattle.std.specs.Prelude.{ℕ, zero, suc, Bool, cond, ◌==◌, List, [], ◌∷◌, find, Option, Some, None, is_some}
use Rattle.std.specs.List.{list_any}
use Rattle.flat_base.specs.declared.ids.SessionNo.{SessionNo}
use Rattle.flat_scene.specs.declared.frames.ViewNode.{ViewNode}
use Rattle.flat_scene.specs.declared.journal.Entry.{Entry}
use Rattle.flat_scene.specs.declared.setup.Setup.{Setup}
use Rattle.flat_why.specs.declared.reasons.HiddenReason.{HiddenReason}
use Rattle.flat_why.specs.declared.reasons.HiddenReason.TheVariants.{Unhung, Parent, Cycle}
use Rattle.flat_why.specs.declared.reasons.AttachPoint.{AttachPoint}
use Rattle.flat_why.specs.declared.reasons.AttachPoint.TheVariants.{OnDisplay, Below, Nowhere}
use Rattle.flat_why.specs.Reasons.{standing_of}

-- the node of a session in a view tree, if it is one
abbrev pub node_of : SessionNo → List ViewNode → Option ViewNode
node_of s nodes = find (λ node. node.session.0 == s.0) nodes

-- the sessions above one that stands so, its parent first, as far as so many steps go
abbrev pub ancestors : (SessionNo → AttachPoint) → ℕ → AttachPoint → List SessionNo
ancestors stands zero standing = []
ancestors stands (suc steps) (Below parent) = parent ∷ ancestors stands steps (stands parent)
ancestors stands (suc steps) _ = []

-- whether a session hangs below itself: the chain of parents comes back to it in as many steps as there are sessions
abbrev pub is_cyclic : ℕ → (SessionNo → AttachPoint) → SessionNo → Bool
is_cyclic sessions stands s = list_any (λ above. above.0 == s.0) (ancestors stands sessions (stands s))

-- Why a session that stands so isn't on the display, if it isn't: it hangs nowhere, or below itself, or below
-- a session that isn't on it.
abbrev pub hidden_by : ℕ → (SessionNo → AttachPoint) → List ViewNode → SessionNo → AttachPoint → Option HiddenReason
hidden_by sessions stands nodes s OnDisplay = None
hidden_by sessions stands nodes s (Nowhere cause) = Some (Unhung cause)
hidden_by sessions stands nodes s (Below parent) =
    cond (is_some (node_of parent nodes)) None (Some (cond (is_cyclic sessions stands s) Cycle (Parent parent)))

abbrev pub hidden_in : ℕ → (SessionNo → AttachPoint) → List ViewNode → SessionNo → Option HiddenReason
hidden_in sessions stands nodes s = hidden_by sessions stands nodes s (stands s)

-- the same of the frame of a begin, which has this view tree
abbrev pub hidden_of : Setup → List Entry → List ViewNode → SessionNo → Option HiddenReason
hidden_of setup begun nodes s = hidden_in setup.sessions (standing_of setup begun) nodes s
