use Rattle.std.proofs.Common.{◌≡◌, true, false, Some, None, refl, sym, ap, ◌∙◌, subst}
use Rattle.flat_scene.specs.declared.journal.Reply.{Reply}
use Rattle.flat_scene.specs.declared.journal.Reply.TheVariants.{Closed}
use Rattle.flat_client.specs.Clients.{MakesEntry}
use Rattle.flat_client.proofs.Answering.{closing}
use Rattle.flat_client.proofs.Settling.{never_open, sayable, settled_by}
use Rattle.flat_client.proofs.client.Client.say.Goals as goal

pub unreachable-requires : goal.unreachable-requires
unreachable-requires g c =
    let so = sayable c.args.text c.args.self.now c.requires.owed c.requires.owes c.requires.room in
    never_open c.in-Ok.reply (closing c.args.text c.in-Ok.reply c.args.self.now c.make.new.self so.closes c.in-Ok.ensures.makes)
    (λ why. c.in_default.not-Closed why.0 why.1)

pub returns-clause-settles : goal.returns-clause-settles
returns-clause-settles g c =
    let M : Reply → Type 0 = λ r. MakesEntry c.args.text r c.args.self.now c.make.new.self in
    settled_by c.args.text (c.in-Closed.error, c.in-Closed.reason) c.args.self.now c.make.new.self c.requires.owed c.requires.opened
    (subst M c.in-Closed.is c.in-Ok.ensures.makes)
