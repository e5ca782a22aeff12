use Rattle.std.proofs.Common.{◌≡◌, ◌≤◌, List, subst, ap, sym, ◌∙◌, arith, None}
use mathlib.Core.List.{IsPrefix}
use Rattle.flat_publish.specs.declared.frame.Frame.{Frame}
use Rattle.flat_publish.specs.Frames.{last_number, IsRising}
use Rattle.flat_publish.proofs.lemmas.Beginnings.{earlier}
use Rattle.flat_publish.proofs.latest_frame.LatestFrame.follow.Goals as goal

pub returns-then-frame-clause-follows : goal.returns-then-frame-clause-follows
returns-then-frame-clause-follows c =
    let both = c.learn.new.self.log in
    let this : IsPrefix c.self.inside.seen.log both = subst (λ (l : List Frame). IsPrefix l both) (ap (λ s. s.log) c.again-both.ensures) c.learn.ensures.2 in
    let mine : IsPrefix c.args.self.now.frames both = rw (← c.self.view_is) this in
    let other : IsPrefix c.args.other.now.frames both = rw (← c.other.view_is) c.learn.ensures.3 in
    let le : last_number c.args.other.now.frames ≤ last_number c.args.self.now.frames =
    omega (arith, c.frame.ensures.number, c.frame-2.ensures.number, c.if-frame.true) in
    earlier None c.args.other.now.frames c.args.self.now.frames both other mine c.frame.ensures.rising le

pub returns-clause-grows : goal.returns-clause-grows
returns-clause-grows c =
    let both = c.learn.new.self.log in
    let this : IsPrefix c.self.inside.seen.log both = subst (λ (l : List Frame). IsPrefix l both) (ap (λ s. s.log) c.again-both.ensures) c.learn.ensures.2 in
    let mine : IsPrefix c.args.self.now.frames both = rw (← c.self.view_is) this in
    let other : IsPrefix c.args.other.now.frames both = rw (← c.other.view_is) c.learn.ensures.3 in
    let le : last_number c.args.self.now.frames ≤ last_number c.args.other.now.frames =
    omega (arith, c.frame.ensures.number, c.frame-2.ensures.number, c.if-frame.false) in
    let grown : IsPrefix c.args.self.now.frames c.args.other.now.frames =
    earlier None c.args.self.now.frames c.args.other.now.frames both mine other c.frame-2.ensures.rising le in
    let is : c.branch.inside.seen.log ≡ c.args.other.now.frames = ap (λ s. s.frames) (c.branch.view_is ∙ c.in_ok-self-inside.ensures) in
    subst (λ (l : List Frame). IsPrefix c.args.self.now.frames l) (sym is) grown
