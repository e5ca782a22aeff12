use Rattle.std.proofs.Common.{◌≡◌, ◌+◌, ℕ, List, refl, sym, subst, arith}
use Rattle.flat_session.specs.declared.session_reader.SessionReader.{SessionReader}
use Rattle.flat_play.specs.Playing.{AreNew}
use Rattle.flat_play.proofs.lemmas.Starting.{is_numbered, new_more}
use Rattle.flat_play.proofs.run.new_readers.Goals as goal

pub new-requires : goal.new-requires
new-requires c = (c.args.setup.now, c.requires, refl)

pub loop-before-preserved : goal.loop-before-preserved
loop-before-preserved c =
    let setup = c.args.setup.now in
    let P : List SessionReader → Type 0 = AreNew setup (c.loop-before.before + 1) in
    let new = c.in_ok-reader.ensures setup refl (is_numbered setup c.loop-before.before (omega (arith, c.loop-before-test.true))) in
    subst P (sym c.in_ok-push.ensures.items) (new_more setup c.loop-before.before c.loop-before.readers.items c.in_ok-reader.reader c.loop-before.invariant new)

pub returns : goal.returns
returns c =
    let last : c.loop-before.before ≡ c.args.setup.now.sessions = omega (arith, c.loop-before.auto.before-end, c.loop-before-test.false) in
    let P : ℕ → Type 0 = λ n. AreNew c.args.setup.now n c.loop-before.readers.items in
    subst P last c.loop-before.invariant
