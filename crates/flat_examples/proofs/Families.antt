-- Families: who can change what a session is told.
use Rattle.std.proofs.Common.{◌≡◌, ℕ, true, false, Bool, List, [], ◌∷◌, map, refl}
use Rattle.flat_base.specs.declared.ids.Actor.TheVariants.{Display, Session}
use Rattle.flat_scene.specs.declared.journal.Entry.{Entry}
use Rattle.flat_scene.specs.declared.journal.EntryKind.TheVariants as kind
use Rattle.flat_scene.specs.declared.journal.Reply.TheVariants as reply
use Rattle.flat_scene.specs.declared.setup.Setup.{Setup}
use Rattle.flat_scene.specs.Family.{family, is_linked, only}
use Rattle.flat_scene.specs.Frames.{sessions_to}
use Rattle.flat_scene.specs.History.{◌▹◌}
use Rattle.flat_examples.specs.Words.{s, f, display_over, over, setup_of, by_session, by_display}

-- two pairs join 1 to 2 and 2 to 3; 4 and 5 own a fence together, and 6 owns one with the display
abbrev six : Setup
six = setup_of 6 (display_over 1 ∷ over 1 2 ∷ over 2 3 ∷ [])
    ((record { owners = Session (s 4) ∷ Session (s 5) ∷ [] }) ∷ (record { owners = Display ∷ Session (s 6) ∷ [] }) ∷ [])

-- which of the six are of a session's family
abbrev members : ℕ → List Bool
members n = map (family six (s n)) (sessions_to 6)

-- the links go both ways and are followed: 1 and 3 own no pair together
no_pair_together : is_linked six (s 1) (s 3) ≡ false
no_pair_together = refl

family_of_1 : members 1 ≡ true ∷ true ∷ true ∷ false ∷ false ∷ false ∷ []
family_of_1 = refl

family_of_3 : members 3 ≡ true ∷ true ∷ true ∷ false ∷ false ∷ false ∷ []
family_of_3 = refl

-- a fence joins its owners
family_of_4 : members 4 ≡ false ∷ false ∷ false ∷ true ∷ true ∷ false ∷ []
family_of_4 = refl

-- the display is of no family
family_of_6 : members 6 ≡ false ∷ false ∷ false ∷ false ∷ false ∷ true ∷ []
family_of_6 = refl

-- of a history, a family has its own entries, and of the display's the frames, signals and ratios
abbrev polled : ℕ → ℕ → Entry
polled n line = by_session n line [] kind.Poll (reply.Polled 0)

abbrev begin : Entry
begin = by_display 3 (kind.Begin 10)

abbrev done : Entry
done = by_display 5 kind.Finish

abbrev signal : Entry
signal = by_display 6 (kind.Signal (f 1))

abbrev mixed : List Entry
mixed = [] ▹ polled 4 1 ▹ polled 1 2 ▹ begin ▹ polled 6 4 ▹ done ▹ signal ▹ polled 5 7

only_of_5 : only (family six (s 5)) mixed ≡ ([] ▹ polled 4 1 ▹ begin ▹ done ▹ signal ▹ polled 5 7)
only_of_5 = refl

only_of_2 : only (family six (s 2)) mixed ≡ ([] ▹ polled 1 2 ▹ begin ▹ done ▹ signal)
only_of_2 = refl
