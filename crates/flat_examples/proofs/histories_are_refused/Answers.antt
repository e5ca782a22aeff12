use Rattle.std.proofs.Common.{◌≡◌, [], refl}
use Rattle.std.specs.Prelude.{Some, None}
use Rattle.flat_base.specs.declared.errors.FlatlandError.TheVariants.{BadHangingGet}
use Rattle.flat_scene.specs.declared.journal.Reply.TheVariants.{Done, Presented, Polled, Held, Now, Closed}
use Rattle.flat_scene.specs.History.{◌▹◌}
use Rattle.flat_rules.specs.Legal.{Legal, refused_token}
use Rattle.flat_examples.specs.Refused.{home, viewed, begun, finished, left, answered, gets, layout}
use Rattle.flat_examples.proofs.RefusedEntries.{all-entered, entered, none-is-broken, refuses-entry}
use Rattle.flat_examples.proofs.histories_are_refused.Goals as goal

viewed-legal : Legal home viewed
viewed-legal = all-entered home viewed (tt, refl, refl)

begun-legal : Legal home begun
begun-legal = all-entered home begun (((tt, refl, refl), refl, refl), refl, refl)

finished-legal : Legal home finished
finished-legal = entered home begun _ begun-legal refl refl

left-legal : Legal home left
left-legal = entered home viewed _ viewed-legal refl refl

pub returns-clause-rules : goal.returns-clause-rules
returns-clause-rules c = none-is-broken

-- ---- other replies

one-credit : Presented 1 1 ≡ Presented 1 0 → ⊥
one-credit same = cc

one-event : Polled 1 ≡ Polled 0 → ⊥
one-event same = cc

no-news : Now layout ≡ Held → ⊥
no-news same = cc

no-second : Held ≡ Closed (Some BadHangingGet) None → ⊥
no-second same = cc

no-token : Done ≡ refused_token → ⊥
no-token same = cc

pub returns-clause-wrong_credits : goal.returns-clause-wrong_credits
returns-clause-wrong_credits c =
    record { accepted = entered home viewed _ viewed-legal refl refl; breaks = refl; refused = λ legal. one-credit legal.1.reply }

pub returns-clause-wrong_count : goal.returns-clause-wrong_count
returns-clause-wrong_count c =
    record { accepted = entered home viewed _ viewed-legal refl refl; breaks = refl; refused = λ legal. one-event legal.1.reply }

pub returns-clause-second_use : goal.returns-clause-second_use
returns-clause-second_use c =
    record { accepted = entered home viewed _ viewed-legal refl refl; breaks = refl; refused = λ legal. no-token legal.1.reply }

answered-legal : Legal home answered
answered-legal = entered home viewed _ viewed-legal refl refl

held-legal : Legal home (answered ▹ gets 3 Held)
held-legal = entered home answered _ answered-legal refl refl

pub returns-clause-same_answer : goal.returns-clause-same_answer
returns-clause-same_answer c = record { accepted = held-legal; breaks = refl; refused = λ legal. no-news legal.1.reply }

pub returns-clause-second_get : goal.returns-clause-second_get
returns-clause-second_get c =
    record { accepted = entered home (answered ▹ gets 3 Held) _ held-legal refl refl; breaks = refl; refused = λ legal. no-second legal.1.reply }

-- ---- broken rules

pub returns-clause-undeclared_session : goal.returns-clause-undeclared_session
returns-clause-undeclared_session c = refuses-entry home [] _ _ _ tt refl refl refl refl

pub returns-clause-entry_after_close : goal.returns-clause-entry_after_close
returns-clause-entry_after_close c = refuses-entry home left _ _ _ left-legal refl refl refl refl

pub returns-clause-begin_inside_frame : goal.returns-clause-begin_inside_frame
returns-clause-begin_inside_frame c = refuses-entry home begun _ _ _ begun-legal refl refl refl refl

pub returns-clause-done_outside_frame : goal.returns-clause-done_outside_frame
returns-clause-done_outside_frame c = refuses-entry home finished _ _ _ finished-legal refl refl refl refl

pub returns-clause-time_goes_back : goal.returns-clause-time_goes_back
returns-clause-time_goes_back c = refuses-entry home finished _ _ _ finished-legal refl refl refl refl

pub returns-clause-misuse_is_carried : goal.returns-clause-misuse_is_carried
returns-clause-misuse_is_carried c = refuses-entry home viewed _ _ _ viewed-legal refl refl refl refl

pub returns-clause-other_reason : goal.returns-clause-other_reason
returns-clause-other_reason c = refuses-entry home viewed _ _ _ viewed-legal refl refl refl refl

pub returns-clause-misuse_is_hidden : goal.returns-clause-misuse_is_hidden
returns-clause-misuse_is_hidden c = refuses-entry home viewed _ _ _ viewed-legal refl refl refl refl

pub returns-clause-call_after_misuse : goal.returns-clause-call_after_misuse
returns-clause-call_after_misuse c = refuses-entry home viewed _ _ _ viewed-legal refl refl refl refl

pub returns-clause-close_without_cycle : goal.returns-clause-close_without_cycle
returns-clause-close_without_cycle c = refuses-entry home viewed _ _ _ viewed-legal refl refl refl refl

pub returns-clause-close_despite_view : goal.returns-clause-close_despite_view
returns-clause-close_despite_view c = refuses-entry home viewed _ _ _ viewed-legal refl refl refl refl

pub returns-clause-close_without_misuse : goal.returns-clause-close_without_misuse
returns-clause-close_without_misuse c = refuses-entry home viewed _ _ _ viewed-legal refl refl refl refl

pub returns-clause-leaves_with_view : goal.returns-clause-leaves_with_view
returns-clause-leaves_with_view c = refuses-entry home [] _ _ _ tt refl refl refl refl

pub returns-clause-open_end_counts : goal.returns-clause-open_end_counts
returns-clause-open_end_counts c = refuses-entry home viewed _ _ _ viewed-legal refl refl refl refl

pub returns-clause-closed_end_carries : goal.returns-clause-closed_end_carries
returns-clause-closed_end_carries c = refuses-entry home left _ _ _ left-legal refl refl refl refl

pub returns-clause-view_without_call : goal.returns-clause-view_without_call
returns-clause-view_without_call c = refuses-entry home [] _ _ _ tt refl refl refl refl

pub returns-clause-link_is_carried : goal.returns-clause-link_is_carried
returns-clause-link_is_carried c = refuses-entry home [] _ _ _ tt refl refl refl refl

pub returns-clause-fence_of_another : goal.returns-clause-fence_of_another
returns-clause-fence_of_another c = refuses-entry home [] _ _ _ tt refl refl refl refl

pub returns-clause-undeclared_fence : goal.returns-clause-undeclared_fence
returns-clause-undeclared_fence c = refuses-entry home [] _ _ _ tt refl refl refl refl

pub returns-clause-fence_of_a_session : goal.returns-clause-fence_of_a_session
returns-clause-fence_of_a_session c = refuses-entry home [] _ _ _ tt refl refl refl refl

pub returns-clause-present_of_cycle : goal.returns-clause-present_of_cycle
returns-clause-present_of_cycle c = refuses-entry home viewed _ _ _ viewed-legal refl refl refl refl

pub returns-clause-fences_are_too_many : goal.returns-clause-fences_are_too_many
returns-clause-fences_are_too_many c = refuses-entry home viewed _ _ _ viewed-legal refl refl refl refl

pub returns-clause-get_without_view : goal.returns-clause-get_without_view
returns-clause-get_without_view c = refuses-entry home [] _ _ _ tt refl refl refl refl
