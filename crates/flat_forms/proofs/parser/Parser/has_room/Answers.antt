use Rattle.std.proofs.Common.{◌∙◌, ap, nat_lt, slice_index}
use Rattle.flat_forms.proofs.parser.Parser.has_room.Goals as goal

pub returns : goal.returns
returns c =
    ap (λ n. nat_lt n 65536) (ap (slice_index c.args.self.now.counts) c.slot.ensures.slot ∙ c.requires.kept.lines c.args.actor c.requires.counted)
