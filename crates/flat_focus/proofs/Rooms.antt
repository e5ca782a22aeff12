-- Frames for which there is room.
use Rattle.std.proofs.Common.{ℕ, ◌≤◌, ◌≡◌, sym, subst, List, ◌∷◌, length, get_or}
use Rattle.std.specs.Prelude.{nat_le}
use Rattle.std.specs.List.{list_all}
use Rattle.std.proofs.lemmas.Bool.{and_parts, leb-true}
use Rattle.flat_scene.specs.declared.frames.FrameOut.{FrameOut}
use Rattle.flat_page.proofs.lemmas.Merging.{left, parted}
use Rattle.flat_focus.specs.Room.{AreFew}

few-both : (sessions : ℕ) (out : FrameOut) (frames : List FrameOut) → AreFew sessions (out ∷ frames)
    → (length out.tree.nodes ≤ sessions) × AreFew sessions frames
few-both sessions out frames are =
    let both = and_parts (nat_le (length out.tree.nodes) sessions) (list_all (λ out. nat_le (length out.tree.nodes) sessions) frames) are.few in
    (leb-true (length out.tree.nodes) sessions both.0, record { few = both.1 })

few-parted : (sessions : ℕ) (frames : List FrameOut) (d : FrameOut) → 1 ≤ length frames → AreFew sessions frames
    → AreFew sessions (get_or frames 0 d ∷ left frames)
few-parted sessions frames d some are = subst (λ (fs : List FrameOut). AreFew sessions fs) (parted frames d some) are

pub few-first : (sessions : ℕ) (frames : List FrameOut) (out : FrameOut) → 1 ≤ length frames → out ≡ get_or frames 0 out → AreFew sessions frames
    → length out.tree.nodes ≤ sessions
few-first sessions frames out some is are =
    subst (λ (one : FrameOut). length one.tree.nodes ≤ sessions) (sym is)
    (few-both sessions (get_or frames 0 out) (left frames) (few-parted sessions frames out some are)).0

pub few-rest : (sessions now : ℕ) (frames : List FrameOut) (out : FrameOut) → 1 ≤ length frames → now ≡ sessions → AreFew sessions frames
    → AreFew now (left frames)
few-rest sessions now frames out some same are =
    subst (λ (n : ℕ). AreFew n (left frames)) (sym same) (few-both sessions (get_or frames 0 out) (left frames) (few-parted sessions frames out some are)).1
