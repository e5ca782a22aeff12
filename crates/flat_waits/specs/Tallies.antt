-- What a race counts of its actors.
use Rattle.std.specs.Prelude.{ℕ, suc, ◌+◌, ◌-◌, ◌/◌, ◌%◌, ◌^◌, ◌<◌, ◌==◌, Bool, nat_le, if◌then◌else◌}
use Rattle.flat_waits.specs.declared.wait_tally.ActorUpdate.{ActorUpdate}
use Rattle.flat_waits.specs.declared.wait_tally.ActorUpdate.TheVariants.{Waits, Stops, Enters, Leaves, Returns}
use Rattle.flat_waits.specs.declared.wait_tally.WaitTally.{WaitTally}

-- the tally that a word holds
abbrev pub tally_of : ℕ → WaitTally
tally_of word = record { news = word / 2 ^ 32; waiting = word / 2 ^ 16 % 2 ^ 16; acting = word % 2 ^ 16 }

-- something changed that a Wait may ask for, and nobody has looked since
abbrev pub with_news : WaitTally → ℕ → WaitTally
with_news tally acting = record { news = suc tally.news; waiting = 0; acting = acting }

abbrev pub after : ActorUpdate → WaitTally → WaitTally
after (Waits news) tally = if news == tally.news then record tally { waiting = suc tally.waiting } else tally
after (Stops news) tally = if news == tally.news then record tally { waiting = tally.waiting - 1 } else tally
after Enters tally = with_news tally tally.acting
after Leaves tally = with_news tally (tally.acting - 1)
after Returns tally = with_news tally (suc tally.acting)

-- No count is full.
pub record HasRoom (tally : WaitTally) : Type 0 where
  pub news : tally.news < 2 ^ 32
  pub waiting : tally.waiting < 2 ^ 16
  pub acting : tally.acting < 2 ^ 16

-- all who may still enter something have looked since the last change, and found too little
abbrev pub is_over : WaitTally → Bool
is_over tally = nat_le tally.acting tally.waiting
