use Rattle.std.proofs.Common.{◌≡◌, ◌+◌, ◌∙◌, ◌++◌, ◌∷◌, [], List, All, length, None, ap, sym, subst, refl, arith}
use Rattle.std.proofs.lemmas.List.{length_push}
use Rattle.std.specs.Prelude.{option_map, Option}
use Rattle.std.specs.Arc.{arc_value}
use Rattle.std.proofs.lemmas.List.Elements.{All-map, All-push}
use Rattle.flat_scene.specs.declared.trees.Tree.{Tree}
use Rattle.flat_join.proofs.shown_states.ShownStates.new.Goals as goal

pub returns-clause-none : goal.returns-clause-none
returns-clause-none c = let P : Option Tree → Type 0 = λ state. state ≡ None in All-map P (option_map arc_value) c.loop.states.items c.loop.invariant.none

none_more : {A B : Type 0} (f : A → Option B) (xs longer : List A) (x : A) → longer ≡ xs ++ x ∷ [] → All (λ a. f a ≡ None) xs → f x ≡ None
    → All (λ a. f a ≡ None) longer
none_more {A} {B} f xs longer x e all one = let P : A → Type 0 = λ a. f a ≡ None in subst (All P) (sym e) (All-push P xs x all one)

pub loop-preserved : goal.loop-preserved
loop-preserved c =
    record {
      size = ap length c.push_reserved.ensures.items ∙ length_push c.loop.states.items None ∙ ap (λ n. n + 1) c.loop.invariant.size;
      room = omega (arith, c.push_reserved.ensures.capacity, c.loop.invariant.room);
      none = none_more (option_map arc_value) c.loop.states.items c.push_reserved.new.self.items None c.push_reserved.ensures.items c.loop.invariant.none refl;
    }
