-- Cells after any values.
use Rattle.std.proofs.Common.{◌≡◌, ℕ, ◌+◌, Bool, true, false, List, [], ◌∷◌, Option, Some, None, refl, sym, ap, subst}
use Rattle.std.specs.Prelude.{find, is_some}
use Rattle.std.specs.List.{list_any, position_from}
use Rattle.flat_scene.specs.declared.calls.Watch.{Watch}
use Rattle.flat_scene.specs.declared.journal.WatcherValue.{WatcherValue}
use Rattle.flat_watch.specs.Told.{Watching, answer, answered_by, news, settled}
use Rattle.flat_watch.specs.HangingGets.{after_all, answers}
use Rattle.flat_watch.specs.Laws.{is_news, AnswersFirstNews, AnswersOnce, FirstNewsIsAnswered, SilenceChangesNothing, SilentUnasked}
use Rattle.flat_watch.proofs.NewsLemmas.{news-value}

-- a hanging get that holds a get
abbrev waiting : Watch → Option WatcherValue → Watching
waiting get last = record { last = last; waits = Some get }

-- What a hanging get says is, from a number of moments on, the first news among these values.
record SaysFirst (n : ℕ) (get : Watch) (last : Option WatcherValue) (told said : List (Option WatcherValue)) (waits : Option Watch) : Type 0 where
  value : find is_some said ≡ find (is_news last) told
  moment : position_from is_some n said ≡ position_from (is_news last) n told
  held : list_any is_some said ≡ false → waits ≡ Some get

-- a moment without news
silent : (n : ℕ) (get : Watch) (last now : Option WatcherValue) (told said : List (Option WatcherValue)) (waits : Option Watch) → news now last ≡ None
    → SaysFirst (n + 1) get last told said waits → SaysFirst n get last (now ∷ told) (None ∷ said) waits
silent n get last now told said waits none later = record {
  value = rw none later.value;
  moment = rw none later.moment;
  held = later.held;
}

-- a moment with news
spoken : (n : ℕ) (get : Watch) (last now : Option WatcherValue) (v : WatcherValue) (told said : List (Option WatcherValue)) (waits : Option Watch)
    → news now last ≡ Some v
    → SaysFirst n get last (now ∷ told) (Some v ∷ said) waits
spoken n get last now v told said waits some = record {
  value = rw some (ap (λ x. Some x) (sym (news-value now last v some)));
  moment = rw some refl;
  held = λ e. absurd (cc);
}

while_waiting : (told : List (Option WatcherValue)) (n : ℕ) (get : Watch) (last : Option WatcherValue)
    → SaysFirst n get last told (answers (waiting get last) told) (after_all (waiting get last) told).waits
while_waiting [] n get last = record { value = refl; moment = refl; held = λ _. refl }
while_waiting (now ∷ told) n get last = by_news (news now last) refl (while_waiting told (n + 1) get last)
  where
    by_news : (m : Option WatcherValue) → news now last ≡ m → SaysFirst (n + 1) get last told (answers (waiting get last) told)
        (after_all (waiting get last) told).waits
        → SaysFirst n get last (now ∷ told) (m ∷ answers (answered_by m (waiting get last)) told) (after_all (answered_by m (waiting get last)) told).waits
    by_news None e later = silent n get last now told (answers (waiting get last) told) (after_all (waiting get last) told).waits e later
    by_news (Some v) e later = spoken n get last now v told (answers (answered_by (Some v) (waiting get last)) told)
        (after_all (answered_by (Some v) (waiting get last)) told).waits e

from_rest : (get : Watch) (last now : Option WatcherValue) (told : List (Option WatcherValue)) (m : Option WatcherValue) → news now last ≡ m
    → SaysFirst 0 get last (now ∷ told) (m ∷ answers (answered_by m (waiting get last)) told) (after_all (answered_by m (waiting get last)) told).waits
from_rest get last now told None e = silent 0 get last now told (answers (waiting get last) told) (after_all (waiting get last) told).waits e
    (while_waiting told (0 + 1) get last)
from_rest get last now told (Some v) e = spoken 0 get last now v told (answers (answered_by (Some v) (waiting get last)) told)
    (after_all (answered_by (Some v) (waiting get last)) told).waits e

at_rest : (get : Watch) (last now : Option WatcherValue) (later : List (Option WatcherValue))
    → AnswersFirstNews (record { last = last; waits = None }) get now later
at_rest get last now later = let m = from_rest get last now later (news now last) refl in record { value = m.value; moment = m.moment; waits = m.held }

pub first-news-is-answered : FirstNewsIsAnswered
first-news-is-answered w free get now later = subst (λ (o : Option Watch). AnswersFirstNews (record { last = w.last; waits = o }) get now later) (sym free)
    (at_rest get w.last now later)

pub silent-unasked : SilentUnasked
silent-unasked w free now = rw free refl

pub answers-once : AnswersOnce
answers-once w now value is = rw is refl

pub silence-changes-nothing : SilenceChangesNothing
silence-changes-nothing w now none = rw none refl
