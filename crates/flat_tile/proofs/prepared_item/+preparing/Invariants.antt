use Rattle.std.proofs.Common.{◌+◌, ◌*◌}
use Rattle.flat_tile.proofs.prepared_item.+preparing.Given as goal

abbrev pub decreases-prepare_all : goal.decreases-prepare_all
decreases-prepare_all g l = 2 * l.threads

abbrev pub decreases-first : goal.decreases-first
decreases-first g l = 2 * l.low + 1

abbrev pub decreases-second : goal.decreases-second
decreases-second g l = 2 * l.high + 1
