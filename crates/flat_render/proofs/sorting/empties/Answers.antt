use Rattle.std.proofs.Common.{ℕ, ◌≡◌, ◌+◌, ◌∙◌, ◌++◌, ◌∷◌, [], List, Vec, length, get_or, ap, sym, subst, arith}
use Rattle.std.specs.declared.alloc.Global.{Global}
use Rattle.std.proofs.lemmas.List.{length_push}
use Rattle.std.proofs.lemmas.List.Elements.{All-push}
use Rattle.flat_render.specs.Bands.{AreEmpty}
use Rattle.flat_render.proofs.sorting.empties.Goals as goal

-- one empty list more
one_more : (n : ℕ) (lists longer : List (Vec ℕ Global)) (new : Vec ℕ Global) → AreEmpty n lists → longer ≡ lists ++ new ∷ [] → new.items ≡ []
    → AreEmpty (n + 1) longer
one_more n lists longer new was more is =
    let P : Vec ℕ Global → Type 0 = λ list. list.items ≡ [] in
    record {
      count = ap length more ∙ length_push lists new ∙ ap (λ k. k + 1) was.count;
      empty = λ c d low.
          subst (λ (all : List (Vec ℕ Global)). (get_or all c d).items ≡ []) (sym more)
          (All-push P lists new (λ k e below. was.empty k e (omega (arith, was.count, below))) is c d (omega (arith, length_push lists new, was.count, low)));
    }

pub loop-preserved : goal.loop-preserved
loop-preserved c =
    one_more c.loop.counter c.loop.lists.items c.push.new.self.items _ c.loop.invariant c.in_ok-push.ensures.items c.in_ok-with_capacity.ensures.items

pub returns : goal.returns
returns c = subst (λ n. AreEmpty n c.loop.lists.items) (omega (arith, c.loop-test.false, c.loop.auto.counter-end)) c.loop.invariant
