use Rattle.std.proofs.Common.{refl}
use Rattle.flat_play.specs.declared.kept_frames.KeptFrames.TheVariants as kept
use Rattle.flat_play.proofs.Unchanged.{more-unchanged}
use Rattle.flat_play.proofs.kept_frames.KeptFrames.keep_unchanged.Goals as goal

pub returns-in-Texts : goal.returns-in-Texts
returns-in-Texts c = more-unchanged c.args.script.now c.args.number c.args.tree c.args.self.now (kept.Texts c.in-Texts.texts)
    (kept.Texts c.push_unchanged.new.self) c.push_unchanged.result c.in-Texts.is refl c.push_unchanged.ensures

pub returns-in-Damages : goal.returns-in-Damages
returns-in-Damages c = more-unchanged c.args.script.now c.args.number c.args.tree c.args.self.now (kept.Damages c.in-Damages.damages)
    (kept.Damages c.push_unchanged-in-Damages.new.self) c.push_unchanged-in-Damages.result c.in-Damages.is refl c.push_unchanged-in-Damages.ensures

pub returns-in-Trees : goal.returns-in-Trees
returns-in-Trees c = more-unchanged c.args.script.now c.args.number c.args.tree c.args.self.now (kept.Trees c.in-Trees.trees)
    (kept.Trees c.push_unchanged-in-Trees.new.self) c.push_unchanged-in-Trees.result c.in-Trees.is refl c.push_unchanged-in-Trees.ensures
