use Rattle.std.proofs.Common.{subst}
use Rattle.flat_base.specs.declared.ids.Actor.TheVariants.{Session}
use Rattle.flat_core.specs.Machines.{MayCall}
use Rattle.flat_session.specs.declared.requested_entry.RequestedEntry.{RequestedEntry}
use Rattle.flat_session.specs.Made.{IsMeant, kind_of}
use Rattle.flat_session.proofs.requested_entry.RequestedEntry.enter.Goals as goal

pub view-requires : goal.view-requires
view-requires c = let P : RequestedEntry → Type 0 = λ m. MayCall c.args.board.now (Session c.args.s) c.args.calls (kind_of m) in subst P c.in-View.is
    c.requires.may

pub viewport-requires : goal.viewport-requires
viewport-requires c = let P : RequestedEntry → Type 0 = λ m. MayCall c.args.board.now (Session c.args.s) c.args.calls (kind_of m) in
    subst P c.in-Viewport.is c.requires.may

pub signal-requires : goal.signal-requires
signal-requires c = let P : RequestedEntry → Type 0 = λ m. MayCall c.args.board.now (Session c.args.s) c.args.calls (kind_of m) in subst P c.in-Signal.is
    c.requires.may

pub poll-requires : goal.poll-requires
poll-requires c = let P : RequestedEntry → Type 0 = λ m. MayCall c.args.board.now (Session c.args.s) c.args.calls (kind_of m) in subst P c.in-Poll.is
    c.requires.may

pub wait-requires : goal.wait-requires
wait-requires c = let P : RequestedEntry → Type 0 = λ m. MayCall c.args.board.now (Session c.args.s) c.args.calls (kind_of m) in subst P c.in-Wait.is
    c.requires.may

pub close-requires : goal.close-requires
close-requires c = let P : RequestedEntry → Type 0 = λ m. MayCall c.args.board.now (Session c.args.s) c.args.calls (kind_of m) in subst P c.in-Close.is
    c.requires.may

pub present-requires-clause-may : goal.present-requires-clause-may
present-requires-clause-may c = let P : RequestedEntry → Type 0 =
    λ m. MayCall c.args.board.now (Session c.args.s) c.args.calls (kind_of m) in subst P c.in-Present.is c.requires.may

pub get-requires-clause-may : goal.get-requires-clause-may
get-requires-clause-may c = let P : RequestedEntry → Type 0 = λ m. MayCall c.args.board.now (Session c.args.s) c.args.calls (kind_of m) in
    subst P c.in-Get.is c.requires.may

pub present-requires-clause-tree : goal.present-requires-clause-tree
present-requires-clause-tree c = let P : RequestedEntry → Type 0 = λ m. IsMeant c.args.board.now c.args.s c.args.calls m in subst P c.in-Present.is
    c.requires.meant

pub get-requires-clause-meant : goal.get-requires-clause-meant
get-requires-clause-meant c = let P : RequestedEntry → Type 0 = λ m. IsMeant c.args.board.now c.args.s c.args.calls m in subst P c.in-Get.is c.requires.meant
