use Rattle.std.proofs.Common.{arith, length-append, ◌≡◌, ℕ, ◌+◌, ◌<◌, ◌≤◌, ◌++◌, ◌∷◌, List, [], length, false, subst, sym}
use Rattle.flat_scene.specs.declared.frames.LostDisplay.{LostDisplay}
use Rattle.flat_display.specs.Lost.{Driven, is_lost, AreWithin}
use Rattle.flat_display.specs.Shows.{IsOnce}
use Rattle.flat_display.proofs.Losses.{fewer, once-more, within-more}
use Rattle.flat_display.proofs.set.DisplaySet.lose.Goals as goal

has_room : (d room : ℕ) (ls : List LostDisplay) (n : ℕ) → (d ≤ room + length ls) × IsOnce ls × AreWithin d ls → 1 ≤ n → n ≤ d → is_lost ls n ≡ false → 0 < room
has_room d room ls n (roomy, once, within) low high new = omega (arith, fewer d ls n once within new low high)

stays : (d room room' : ℕ) (ls ls' : List LostDisplay) (l : LostDisplay) → (d ≤ room + length ls) × IsOnce ls × AreWithin d ls → 1 ≤ l.display → l.display ≤ d
    → is_lost ls l.display ≡ false → ls' ≡ ls ++ l ∷ [] → room' + 1 ≡ room → (d ≤ room' + length ls') × IsOnce ls' × AreWithin d ls'
stays d room room' ls ls' l (roomy, once, within) low high new is less =
    rw is (grind (arith, length-append), once-more ls l once new, within-more d ls l within low high)

-- src/set.rt:74:9
pub push-requires : goal.push-requires
push-requires c =
    let High : Driven → Type 0 = λ v. c.args.number ≤ v.displays in
    let New : Driven → Type 0 = λ v. is_lost v.lost c.args.number ≡ false in
    has_room _ _ _ c.args.number c.self.invariant c.requires.first (subst High (sym c.self.view_is) c.requires.last)
    (subst New (sym c.self.view_is) c.requires.new)

-- src/set.rt:68:5
pub invariant_of-self : goal.invariant_of-self
invariant_of-self c =
    let High : Driven → Type 0 = λ v. c.args.number ≤ v.displays in
    let New : Driven → Type 0 = λ v. is_lost v.lost c.args.number ≡ false in
    stays _ _ _ _ _ _ c.self.invariant c.requires.first (subst High (sym c.self.view_is) c.requires.last) (subst New (sym c.self.view_is) c.requires.new)
    c.push.ensures.items c.push.ensures.room
