-- What the answers of one pair are.
use Rattle.std.proofs.Common.{◌≡◌, ◌∙◌, sym, ◌+◌, Bool, true, false, List, [], ◌∷◌, ◌++◌, length, map, refl, arith, ap, Some, None, append_assoc}
use Rattle.std.specs.Prelude.{Option, cond, not, is_some}
use Rattle.std.proofs.lemmas.List.{map-append}
use Rattle.flat_base.specs.declared.ids.PairNo.{PairNo}
use Rattle.flat_scene.specs.declared.calls.Watch.{Watch}
use Rattle.flat_scene.specs.declared.journal.Event.{Event}
use Rattle.flat_scene.specs.declared.journal.PostedEvent.{PostedEvent}
use Rattle.flat_scene.specs.declared.journal.WatcherValue.{WatcherValue}
use Rattle.flat_rules.specs.Legal.{number_if}
use Rattle.flat_rules.specs.Posts.{event_of}
use Rattle.flat_watch.specs.HangingGets.{answered_get}
use Rattle.flat_watch.specs.Told.{Watching, answer, answered_by, news, settled}
use Rattle.flat_gets.specs.declared.pair.FormerGet.{FormerGet}
use Rattle.flat_gets.specs.Pairs.{events_of, former_events, still_waiting}

-- the answer of a hanging get, as an event
pub events-given : (p : PairNo) (waits : Option Watch) (given : Option WatcherValue) → events_of p (answered_get waits given) ≡ event_of p waits given
events-given p (Some get) (Some value) = refl
events-given p (Some get) None = refl
events-given p None (Some value) = refl
events-given p None None = refl

pub given-count : (p : PairNo) (waits : Option Watch) (given : Option WatcherValue)
    → number_if (is_some (answered_get waits given)) ≡ length (event_of p waits given)
given-count p (Some get) (Some value) = refl
given-count p (Some get) None = refl
given-count p None (Some value) = refl
given-count p None None = refl

-- where no get waits none does afterwards
pub settled-none : (b : Bool) (now : Option WatcherValue) (w : Watching) → is_some w.waits ≡ false → is_some (settled b now w).waits ≡ false
settled-none true now w none = rw none none
settled-none false now w none = none

-- a get that waits is answered, or waits on
pub hanging_get-due : (now : Option WatcherValue) (w : Watching) → number_if (is_some (settled true now w).waits) + number_if
    (is_some (answered_get w.waits (answer now w)))
    ≡ number_if (is_some w.waits)
hanging_get-due now w = by_waits w.waits
  where
    by_news : (get : Watch) (o : Option WatcherValue) → number_if (is_some (answered_by o (record { last = w.last; waits = Some get })).waits) + number_if
        (is_some (answered_get (Some get) o)) ≡ 1
    by_news get (Some value) = refl
    by_news get None = refl

    by_waits : (o : Option Watch) → number_if (is_some (settled true now (record { last = w.last; waits = o })).waits) + number_if
        (is_some (answered_get o (answer now (record { last = w.last; waits = o })))) ≡ number_if (is_some o)
    by_waits None = refl
    by_waits (Some get) = by_news get (news now w.last)

pub former-due : (p : PairNo) (now : Option WatcherValue) (former : List FormerGet)
    → length (still_waiting now former) + length (former_events p now former) ≡ length former
former-due p now [] = refl
former-due p now (one ∷ more) = by_news (news now one.last) (former-due p now more)
  where
    by_news : (o : Option WatcherValue) → length (still_waiting now more) + length (former_events p now more) ≡ length more
        → length (cond (not (is_some o)) (one ∷ still_waiting now more) (still_waiting now more)) + length
        (event_of p (Some one.get) o ++ former_events p now more) ≡ length (one ∷ more)
    by_news None rest = omega (arith, rest)
    by_news (Some value) rest = omega (arith, rest)

pub two-posted : (f : Event → PostedEvent) (old mid new : List PostedEvent) (xs ys zs : List Event) → mid ≡ old ++ map f xs → new ≡ mid ++ map f ys → ys ≡ zs
    → new ≡ old ++ map f (xs ++ zs)
two-posted f old mid new xs ys zs first second same =
    second ∙ ap (λ (l : List PostedEvent). l ++ map f ys) first ∙ append_assoc old (map f xs) (map f ys) ∙ ap (λ (l : List PostedEvent). old ++ l)
    (sym (map-append f xs ys))
    ∙ ap (λ (l : List Event). old ++ map f (xs ++ l)) same
