-- Worked cases, computed.
use Rattle.std.proofs.Common.{ℕ, ◌≡◌, refl, true, false, pos, List, [], ◌∷◌, ◌++◌, length, map, Option, Some, None}
use Rattle.std.specs.Prelude.{codes}
use Rattle.std.specs.Fmt.{digits}
use Rattle.flat_base.specs.declared.ids.SessionNo.{SessionNo}
use Rattle.flat_base.specs.declared.shapes.Rect.{Rect}
use Rattle.flat_scene.specs.declared.frames.FrameOut.{FrameOut}
use Rattle.flat_scene.specs.declared.frames.ViewNode.{ViewNode}
use Rattle.flat_page.specs.Happenings.{merged, all_lines}
use Rattle.flat_page.specs.Words.{line_of}
use Rattle.flat_places.specs.Forms.{Word}
use Rattle.flat_focus.specs.declared.focus.FocusAnswer.TheVariants.{Denied}
use Rattle.flat_focus.specs.declared.text.FocusLine.{FocusLine}
use Rattle.flat_focus.specs.Chains.{path_to, focus_in, chain_in, is_granted, answer_to}
use Rattle.flat_focus.specs.Laws.{is_path}
use Rattle.flat_focus.specs.Text.{event_of, lines_at, end_line}

abbrev session : ℕ → SessionNo
session s = record { 0 = s }

abbrev nowhere : Rect
nowhere = record { x0 = pos 0; y0 = pos 0; x1 = pos 0; y1 = pos 0 }

abbrev node : ℕ → Option SessionNo → ViewNode
node s parent = record { session = session s; parent = parent; bounds = nowhere }

-- ---- trees

-- 1 has 2 and 4 below it, and 2 has 3
abbrev four : List ViewNode
four = node 1 None ∷ node 2 (Some (session 1)) ∷ node 3 (Some (session 2)) ∷ node 4 (Some (session 1)) ∷ []

path_to_the_third : path_to four (session 3) ≡ session 1 ∷ session 2 ∷ session 3 ∷ []
path_to_the_third = refl

it_is_a_path : is_path four (session 1 ∷ session 2 ∷ session 3 ∷ []) ≡ true
it_is_a_path = refl

siblings_are_no_path : is_path four (session 1 ∷ session 2 ∷ session 4 ∷ []) ≡ false
siblings_are_no_path = refl

path_to_no_node : path_to four (session 9) ≡ []
path_to_no_node = refl

-- ---- the chain

-- one that stands above grants, a sibling or one below doesn't
above_grants : is_granted four (session 1) (session 3) ≡ true
above_grants = refl

own_grants : is_granted four (session 4) (session 4) ≡ true
own_grants = refl

sibling_denied : answer_to four (session 4) (session 3) ≡ Denied
sibling_denied = refl

below_denied : answer_to four (session 3) (session 2) ≡ Denied
below_denied = refl

-- before any frame
denied_before_frames : answer_to [] (session 1) (session 1) ≡ Denied
denied_before_frames = refl

-- of a chain of three the last one goes: the second has the focus, not the root
last_goes : chain_in (node 1 None ∷ node 2 (Some (session 1)) ∷ []) (session 1 ∷ session 2 ∷ session 3 ∷ []) ≡ session 1 ∷ session 2 ∷ []
last_goes = refl

-- the focus stays where it is moved with its session
focus_moves : chain_in (node 1 None ∷ node 3 (Some (session 1)) ∷ []) (session 1 ∷ session 2 ∷ session 3 ∷ []) ≡ session 1 ∷ session 3 ∷ []
focus_moves = refl

nobody_left : focus_in [] (session 1 ∷ session 2 ∷ []) ≡ None
nobody_left = refl

all_others_gone : chain_in (node 5 None ∷ []) (session 1 ∷ session 2 ∷ []) ≡ session 5 ∷ []
all_others_gone = refl

-- ---- a shell with two applications

abbrev names : List Word
names = codes "shell" ∷ codes "mail" ∷ codes "clock" ∷ []

abbrev shown : ℕ → List ViewNode → FrameOut
shown n nodes = record { frame = record { 0 = n }; items = []; tree = record { nodes = nodes; apart = [] } }

abbrev shell : ViewNode
shell = node 1 None

abbrev mail : ViewNode
mail = node 2 (Some (session 1))

abbrev clock : ViewNode
clock = node 3 (Some (session 1))

abbrev asks : ℕ → ℕ → ℕ → FocusLine
asks number by of = record { number = number; by = session by; of = session of }

abbrev text_lines : List ℕ → List FrameOut → List FocusLine → List (List ℕ)
text_lines dones frames lines = map line_of (all_lines (lines_at names) (λ one before. event_of one ∷ before) []
    (merged (λ line. line.number) dones frames lines) ++ end_line (length lines) ∷ [])

granted_and_denied : text_lines (48 ∷ 51 ∷ 57 ∷ []) (shown 1 (shell ∷ clock ∷ []) ∷ shown 2 (shell ∷ mail ∷ clock ∷ []) ∷ shown 3 (shell ∷ mail ∷ clock ∷ [])
    ∷ []) (asks 58 1 2 ∷ asks 59 2 3 ∷ asks 60 1 3 ∷ []) ≡
    codes "frame 1 chain shell"
    ∷ codes "frame 2 chain shell"
    ∷ codes "frame 3 chain shell"
    ∷ codes "focus 58 shell mail granted chain shell mail"
    ∷ codes "focus 59 mail clock denied chain shell mail"
    ∷ codes "focus 60 shell clock granted chain shell clock"
    ∷ codes "focus ends requests 3"
    ∷ []
unfolding digits
granted_and_denied = refl

focus_goes_with_its_view : text_lines (57 ∷ 61 ∷ []) (shown 3 (shell ∷ mail ∷ clock ∷ []) ∷ shown 4 (shell ∷ clock ∷ []) ∷ []) (asks 58 1 2 ∷ []) ≡
    codes "frame 3 chain shell"
    ∷ codes "focus 58 shell mail granted chain shell mail"
    ∷ codes "frame 4 chain shell"
    ∷ codes "focus ends requests 1"
    ∷ []
unfolding digits
focus_goes_with_its_view = refl

-- an empty chain has no space at its end
no_view : text_lines (9 ∷ []) (shown 1 [] ∷ []) (asks 8 1 1 ∷ []) ≡ codes "focus 8 shell shell denied chain" ∷ codes "frame 1 chain"
    ∷ codes "focus ends requests 1" ∷ []
unfolding digits
no_view = refl
