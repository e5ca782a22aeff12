use Rattle.flat_page.specs.Words.{actor_name}
use Rattle.std.proofs.Common.{take, map}
use Rattle.flat_page.specs.Pages.{Writes}
use Rattle.flat_print.proofs.print_words.push_owners.Given as goal

abbrev pub invariant-loop-owner : goal.invariant-loop-owner
invariant-loop-owner l = Writes (map (actor_name l.script) (take l.owner-index l.owners)) l.fn.page l.page
