use Rattle.flat_page.proofs.lemmas.PageLemmas.{more_words}
use Rattle.std.proofs.Common.{[], ◌∷◌}
use Rattle.flat_page.specs.Words.{number, session_name}
use Rattle.flat_print.specs.Choices.{interaction_number}
use Rattle.flat_lines.proofs.entry_lines.push_hits.Goals as goal

pub loop-hit-preserved : goal.loop-hit-preserved
loop-hit-preserved c = more_words (λ hit. session_name c.args.script.now.sessions hit.session ∷ number (interaction_number hit.interaction) ∷ [])
    c.args.hits.now c.loop-hit.hit-index _ c.loop-hit-test.true c.loop-hit.invariant c.in_ok-push_hit.ensures
