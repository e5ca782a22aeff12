use Rattle.flat_page.specs.Words.{actor_name}
use Rattle.flat_page.proofs.lemmas.PageLemmas.{more_mapped}
use Rattle.flat_print.proofs.print_words.push_owners.Goals as goal

pub loop-owner-preserved : goal.loop-owner-preserved
loop-owner-preserved c = more_mapped (actor_name c.args.script.now) c.args.owners.now c.loop-owner.owner-index _ c.loop-owner-test.true c.loop-owner.invariant
    (rw c.actor_name.ensures at c.in_ok-word.ensures)
