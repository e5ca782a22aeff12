use Rattle.std.proofs.Common.{◌≡◌, ◌∙◌, ℕ, ◌+◌, List, [], ◌∷◌, ◌++◌, sym, ap, subst, map, length, length-append}
use Rattle.std.specs.Arc.{arc_value}
use Rattle.std.proofs.lemmas.List.{map-append}
use Rattle.flat_render.specs.Pictures.{width_of, height_of, pixel_of}
use Rattle.flat_texts.specs.Strips.{AreStrips}
use Rattle.flat_texts.proofs.StripLemmas.{strips-more, text-more}
use Rattle.flat_texts.proofs.strips.push_strips.Goals as goal

pub loop-n-preserved : goal.loop-n-preserved
loop-n-preserved c =
    let w : ℕ = width_of c.args.picture.now in
    let h : ℕ = height_of c.args.picture.now in
    let colour : ℕ → ℕ → List ℕ = pixel_of c.args.picture.now in
    let n : ℕ = c.loop-n.n in
    let texts : List (List ℕ) = map arc_value c.loop-n.runs.items in
    let strip : List ℕ = arc_value c.in_ok-run.run' in
    let all : map arc_value c.push-in-loop-n.new.self.items ≡ texts ++ strip ∷ [] =
    ap (λ runs. map arc_value runs) c.in_ok-push-2.ensures.items ∙ map-append arc_value c.loop-n.runs.items (c.in_ok-run.run' ∷ []) in
    record {
      count = ap length all ∙ length-append texts (strip ∷ []) ∙ ap (λ (m : ℕ). m + 1) c.loop-n.invariant.count;
      strips = subst (λ (ts : List (List ℕ)). AreStrips w h colour ts) (sym all)
          (strips-more w h colour n texts strip c.loop-n.invariant.count c.loop-n.invariant.strips c.in_ok-run.ensures);
      text = text-more w h colour n c.args.text.now c.loop-n.text (arc_value c.in_ok-try_clone.field-0) c.push.new.self c.loop-n.invariant.text
          (c.in_ok-try_clone.ensures ∙ c.in_ok-run.ensures) c.in_ok-push.ensures;
    }
