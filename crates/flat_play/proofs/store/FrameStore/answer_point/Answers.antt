use Rattle.std.proofs.Common.{◌≡◌, [], ◌∷◌, ◌++◌, ◌∙◌, refl, w32}
use Rattle.std.proofs.lemmas.Int.{to_z-of_z}
use Rattle.std.proofs.lemmas.Result.{on_ok_weaker}
use Rattle.flat_base.specs.declared.ids.Actor.TheVariants.{Display}
use Rattle.flat_scene.specs.Setups.{at_ratio}
use Rattle.flat_topology.specs.Hits.{hit_list}
use Rattle.flat_play.proofs.store.FrameStore.answer_point.Goals as goal

pub returns-clause-answers : goal.returns-clause-answers
returns-clause-answers c =
    let found = c.in_ok-hits.ensures in
    let last = c.args.self.now.last in
    let x = to_z-of_z w32 c.args.x c.ranges.x in
    let y = to_z-of_z w32 c.args.y c.ranges.y in
    let hits : c.in_ok-hits.hits ≡ hit_list (at_ratio last.ratio c.args.setup.now) last.reuse c.args.x c.args.y =
    found.hits ∙ (λ i. hit_list (at_ratio last.ratio c.args.setup.now) last.reuse (x i) (y i)) in
    on_ok_weaker c.push.result (λ added. record {
      kept = refl;
      last = found.stays;
      points = added ∙ (λ i. c.args.self.now.answers ++ (record { actor = Display; line = c.args.number; frame = found.stays.frame i; hits = hits i }) ∷ []);
    }) c.push.ensures.ok
