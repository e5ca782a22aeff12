-- The histories of specs/Misread, read line by line.
use Rattle.std.proofs.Common.{◌≡◌, ◌<◌, ◌+◌, ◌-◌, ℕ, zero, suc, true, false, Bool, List, [], ◌∷◌, ◌++◌, length, map, reverse, drop, refl, ap, sym, ◌∙◌, arith}
use Rattle.std.specs.Prelude.{Some, None, slice_index, slice_index_or}
use Rattle.std.specs.List.{AllByRecursion}
use Rattle.std.specs.List.Sorted.{IsStrictlyIncreasing}
use Rattle.flat_base.specs.declared.errors.Reason.TheVariants.{ZeroId}
use Rattle.flat_base.specs.declared.ids.Actor.{Actor}
use Rattle.flat_base.specs.declared.ids.Actor.TheVariants.{Session}
use Rattle.flat_scene.specs.declared.journal.Entry.{Entry}
use Rattle.flat_scene.specs.declared.journal.EntryKind.{EntryKind}
use Rattle.flat_scene.specs.declared.journal.EntryKind.TheVariants as kind
use Rattle.flat_scene.specs.declared.journal.Reply.{Reply}
use Rattle.flat_scene.specs.Frames.{sessions_to}
use Rattle.flat_scene.specs.History.{is_end}
use Rattle.flat_scene.specs.Journals.{seat_number}
use Rattle.flat_scene.specs.Interleave.{Next, IsNext, Interleaves}
use Rattle.flat_rules.specs.Legal.{Legal, time_of}
use Rattle.flat_examples.specs.Refused.{home}
use Rattle.flat_examples.specs.Misread.{ended, view_then_poll, in_order, begin_then_done, frame, two_polls, backwards, skipped, half_ended, miscounted}
use Rattle.flat_examples.specs.Misread.{left_with, closed_for, good_call, call_then_leave, half_framed, written, crossed, swapped, LinesGoBack, LineIsSkipped}
use Rattle.flat_examples.specs.Misread.{EndIsMissing, OtherCount, CloseWithoutMisuse, DisplayStopsEarly, OtherTime, OthersComeFirst, EndsCross}
use Rattle.flat_examples.proofs.RefusedEntries.{all-entered}

-- an entry is the next one, whatever its reply
next : (n : Next) (actor : Actor) (reply : Reply) → IsNext n (record { actor = actor; line = n.line; calls = n.carries; kind = n.kind; reply = reply })
next n actor reply = record { line = refl; carried = refl; kind = refl }

-- ---- what can't be

two-is-not-one : (n m : ℕ) → n ≡ 2 → m ≡ 1 → n ≡ m → ⊥
two-is-not-one n m two one same = omega (arith, two, one, same)

no-true : (b : Bool) → b ≡ true → b ≡ false → ⊥
no-true b is not = cc

no-lengths : {A : Type 0} (xs ys : List A) (k : ℕ) → length ys ≡ 2 → length xs ≡ k + 3 → xs ≡ ys → ⊥
no-lengths xs ys k two more same = omega (arith, ap length same, two, more)

some-line : {A : Type 0} (xs : List A) → length xs ≡ 1 → xs ≡ [] → ⊥
some-line xs one none = two-is-not-one (length xs + 1) 1 (rw one refl) refl (rw none refl)

not-a-poll : (a b : EntryKind) → a ≡ kind.End 0 → b ≡ kind.Poll → a ≡ b → ⊥
not-a-poll a b is was same = cc

other-end : (a b : EntryKind) → a ≡ kind.End 1 → b ≡ kind.End 0 → a ≡ b → ⊥
other-end a b is was same = cc

other-close : (a b : EntryKind) → a ≡ kind.Close (Some ZeroId) → b ≡ kind.Close None → a ≡ b → ⊥
other-close a b is was same = cc

other-begin : (a b : EntryKind) → a ≡ kind.Begin 11 → b ≡ kind.Begin 10 → a ≡ b → ⊥
other-begin a b is was same = eleven (ap time_of same)
  where
    eleven : time_of a ≡ time_of b → ⊥
    eleven times = two-is-not-one (time_of a - 9) (time_of b - 9) (rw is refl) (rw was refl) (rw times refl)

-- ---- the readings beside them

in-order-legal : Legal home (ended in_order)
in-order-legal = all-entered home (ended in_order) ((((tt, refl, refl), refl, refl), refl, refl), refl, refl)

in-order-reads : Interleaves home 2 view_then_poll (ended in_order)
in-order-reads = record {
  sessions = (record { follows = (((tt, next _ _ _), next _ _ _), next _ _ _); ended = refl }, (record { follows = (tt, next _ _ _); ended = refl }, tt));
  display = tt;
  all_read = refl;
}

frame-legal : Legal home (ended (frame 10))
frame-legal = all-entered home (ended (frame 10)) ((((tt, refl, refl), refl, refl), refl, refl), refl, refl)

frame-reads : Interleaves home 2 begin_then_done (ended (frame 10))
frame-reads = record {
  sessions = (record { follows = (tt, next _ _ _); ended = refl }, (record { follows = (tt, next _ _ _); ended = refl }, tt));
  display = ((tt, next _ _ _), next _ _ _);
  all_read = refl;
}

written-reads : Interleaves home 2 two_polls written
written-reads = record {
  sessions = (record { follows = ((tt, next _ _ _), next _ _ _); ended = refl }, (record { follows = ((tt, next _ _ _), next _ _ _); ended = refl }, tt));
  display = tt;
  all_read = refl;
}

-- ---- what is no reading

pub lines-go-back : LinesGoBack
lines-go-back = record {
  right_legal = in-order-legal;
  reads = in-order-reads;
  wrong_legal = all-entered home backwards ((((tt, refl, refl), refl, refl), refl, refl), refl, refl);
  refused = λ reads. two-is-not-one _ _ refl refl reads.sessions.0.follows.0.0.1.line;
}

pub line-is-skipped : LineIsSkipped
line-is-skipped = record {
  right_legal = in-order-legal;
  reads = in-order-reads;
  wrong_legal = all-entered home skipped (((tt, refl, refl), refl, refl), refl, refl);
  refused = λ reads. not-a-poll _ _ refl refl reads.sessions.0.follows.1.kind;
}

pub end-is-missing : EndIsMissing
end-is-missing = record {
  right_legal = in-order-legal;
  reads = in-order-reads;
  wrong_legal = all-entered home half_ended (((tt, refl, refl), refl, refl), refl, refl);
  refused = λ reads. no-true false reads.sessions.1.0.ended refl;
}

left-legal : Legal home (left_with good_call)
left-legal = all-entered home (left_with good_call) (((tt, refl, refl), refl, refl), refl, refl)

left-reads : Interleaves home 2 call_then_leave (left_with good_call)
left-reads = record {
  sessions = (record { follows = ((tt, next _ _ _), next _ _ _); ended = refl }, (record { follows = (tt, next _ _ _); ended = refl }, tt));
  display = tt;
  all_read = refl;
}

pub close-without-misuse : CloseWithoutMisuse
close-without-misuse = record {
  right_legal = left-legal;
  reads = left-reads;
  wrong_legal = all-entered home (closed_for ZeroId good_call) (((tt, refl, refl), refl, refl), refl, refl);
  refused = λ reads. other-close _ _ refl refl reads.sessions.0.follows.0.1.kind;
}

pub other-count : OtherCount
other-count = record {
  right_legal = left-legal;
  reads = left-reads;
  wrong_legal = all-entered home miscounted (((tt, refl, refl), refl, refl), refl, refl);
  refused = λ reads. other-end _ _ refl refl reads.sessions.0.follows.1.kind;
}

pub display-stops-early : DisplayStopsEarly
display-stops-early = record {
  right_legal = frame-legal;
  reads = frame-reads;
  wrong_legal = all-entered home half_framed (((tt, refl, refl), refl, refl), refl, refl);
  refused = λ reads. some-line _ refl reads.all_read;
}

pub other-time : OtherTime
other-time = record {
  right_legal = frame-legal;
  reads = frame-reads;
  wrong_legal = all-entered home (ended (frame 11)) ((((tt, refl, refl), refl, refl), refl, refl), refl, refl);
  refused = λ reads. other-begin _ _ refl refl reads.display.0.1.kind;
}

-- ---- what is out of written order

rise : (k : ℕ) → k + 1 < 2 → slice_index (1 ∷ 2 ∷ []) k < slice_index (1 ∷ 2 ∷ []) (k + 1)
rise zero below = omega arith
rise (suc k) below = absurd (omega (arith, below))

-- 2 and then 1 don't rise
falling : (a b : ℕ) (more : List ℕ) → a ≡ 2 → b ≡ 1 → IsStrictlyIncreasing (a ∷ b ∷ more) → ⊥
falling a b more two one rising = not-less (rising 0 first_two)
  where
    first_two : 0 + 1 < length (a ∷ b ∷ more)
    first_two = grind arith

    not-less : a < b → ⊥
    not-less less = omega (arith, two, one, less)

abbrev lines : List Entry → List ℕ
lines entries = map (λ entry. entry.line) entries

abbrev actors : List Entry → List Actor
actors entries = map (λ entry. entry.actor) entries

-- there are as many ends as sessions, so the two polls are among the lines that rise
no-crossed : (rising ends : List Entry) → reverse crossed ≡ rising ++ ends → IsStrictlyIncreasing (lines rising)
    → actors ends ≡ map Session (sessions_to 2) → ⊥
no-crossed [] ends parts rising order = no-lengths _ _ 1 refl refl (ap (λ es. actors es) parts ∙ order)
no-crossed (x ∷ []) ends parts rising order = no-lengths _ _ 0 refl refl (ap (λ es. actors (drop 1 es)) parts ∙ order)
no-crossed (x ∷ y ∷ more) ends parts rising order =
    falling _ _ _ (sym (ap (λ es. slice_index (lines es) 0) parts)) (sym (ap (λ es. slice_index (lines es) 1) parts)) rising

-- and the ends are the last two entries
no-swapped : (rising ends : List Entry) → reverse swapped ≡ rising ++ ends → AllByRecursion (λ entry. is_end entry.kind ≡ false) rising
    → actors ends ≡ map Session (sessions_to 2) → ⊥
no-swapped [] ends parts no_end order = no-lengths _ _ 1 refl refl (ap (λ es. actors es) parts ∙ order)
no-swapped (x ∷ []) ends parts no_end order = no-lengths _ _ 0 refl refl (ap (λ es. actors (drop 1 es)) parts ∙ order)
no-swapped (x ∷ y ∷ []) ends parts no_end order =
    two-is-not-one _ _ refl refl (ap (λ ends_of. slice_index (map seat_number ends_of) 0) (ap (λ es. actors (drop 2 es)) parts ∙ order))
no-swapped (x ∷ y ∷ z ∷ more) ends parts no_end order =
    no-true _ (sym (ap (λ es. slice_index_or (map (λ entry. is_end entry.kind) es) 2 false) parts)) no_end.1.1.0

pub others-come-first : OthersComeFirst
others-come-first = record {
  right_reads = written-reads;
  written = record { rising = _ ∷ _ ∷ []; ends = _ ∷ _ ∷ []; parts = refl; rise = rise; no_end = (refl, (refl, tt)); in_order = refl };
  wrong_reads = record {
    sessions = (record { follows = ((tt, next _ _ _), next _ _ _); ended = refl }, (record { follows = ((tt, next _ _ _), next _ _ _); ended = refl }, tt));
    display = tt;
    all_read = refl;
  };
  refused = λ order. no-crossed order.rising order.ends order.parts order.rise order.in_order;
}

pub ends-cross : EndsCross
ends-cross = record {
  right_reads = written-reads;
  written = record { rising = _ ∷ _ ∷ []; ends = _ ∷ _ ∷ []; parts = refl; rise = rise; no_end = (refl, (refl, tt)); in_order = refl };
  wrong_reads = record {
    sessions = (record { follows = ((tt, next _ _ _), next _ _ _); ended = refl }, (record { follows = ((tt, next _ _ _), next _ _ _); ended = refl }, tt));
    display = tt;
    all_read = refl;
  };
  refused = λ order. no-swapped order.rising order.ends order.parts order.no_end order.in_order;
}
