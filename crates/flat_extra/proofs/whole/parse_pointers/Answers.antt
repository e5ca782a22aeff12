use Rattle.flat_extra.specs.declared.split.ExtraSet.TheVariants.{Pointer}
use Rattle.flat_extra.specs.Extra.{rest_of, extra_of}
use Rattle.flat_extra.specs.Whole.{pointers_of}
use Rattle.flat_extra.proofs.WholeLemmas.{read_long, read_short}
use Rattle.flat_extra.proofs.whole.parse_pointers.Goals as goal

pub returns-in-Ok : goal.returns-in-Ok
returns-in-Ok c = read_short c.pointers_of.result pointers_of Pointer c.args.bytes.now c.in-Ok.split.rest c.in-Ok.split.lines c.in-Ok.ensures.short
    c.in-Ok.ensures.rest c.in-Ok.ensures.lines c.pointers_of.ensures

pub returns-in-Err : goal.returns-in-Err
returns-in-Err c = read_long c.in-Err.error c.args.bytes.now (pointers_of (rest_of Pointer c.args.bytes.now) (extra_of Pointer c.args.bytes.now))
    c.in-Err.ensures.long
