-- Small tallies.
use Rattle.std.proofs.Common.{◌≡◌, true, false, refl}
use Rattle.std.specs.Prelude.{◌+◌, ◌*◌, ◌^◌}
use Rattle.flat_waits.specs.declared.wait_tally.ActorUpdate.TheVariants.{Waits, Stops, Enters, Leaves, Returns}
use Rattle.flat_waits.specs.declared.wait_tally.WaitTally.{WaitTally}
use Rattle.flat_waits.specs.Tallies.{after, is_over, tally_of}

-- two actors, one of which has found too little at the news 5
abbrev one_waits : WaitTally
one_waits = record { news = 5; waiting = 1; acting = 2 }

word : tally_of (5 * 2 ^ 32 + (1 * 2 ^ 16 + 2)) ≡ one_waits
word = refl

one_may_act : is_over one_waits ≡ false
one_may_act = refl

both_wait : is_over (after (Waits 5) one_waits) ≡ true
both_wait = refl

-- who looked before the last change isn't counted
looked_early : after (Waits 4) one_waits ≡ one_waits
looked_early = refl

stops_early : after (Stops 4) one_waits ≡ one_waits
stops_early = refl

one_stops : after (Stops 5) one_waits ≡ record { news = 5; waiting = 0; acting = 2 }
one_stops = refl

-- after an entry all look again, and so they do where an actor leaves or returns
one_enters : after Enters one_waits ≡ record { news = 6; waiting = 0; acting = 2 }
one_enters = refl

one_leaves : after Leaves one_waits ≡ record { news = 6; waiting = 0; acting = 1 }
one_leaves = refl

one_returns : after Returns one_waits ≡ record { news = 6; waiting = 0; acting = 3 }
one_returns = refl

-- a race that all have left
none_acts : is_over (record { news = 3; waiting = 0; acting = 0 }) ≡ true
none_acts = refl
