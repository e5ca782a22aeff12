-- When a value is news.
use Rattle.std.proofs.Common.{◌≡◌, ◌⊎◌, Bool, true, false, cond, Option, Some, None, refl, sym, ◌∙◌, ap, arith, inl, inr}
use Rattle.std.proofs.lemmas.Bool.Decides.{nat_tests}
use Rattle.flat_scene.specs.declared.journal.WatcherValue.{WatcherValue}
use Rattle.flat_scene.specs.declared.journal.WatcherValue.TheVariants as tell
use Rattle.flat_watch.specs.Told.{same_told, news}

pub same-refl : (a : WatcherValue) → same_told a a ≡ true
same-refl (tell.Layout a) = grind (arith, nat_tests)
same-refl tell.Connected = refl
same-refl tell.Disconnected = refl
same-refl tell.HasPresented = refl
same-refl tell.Gone = refl

-- what isn't there is no news
pub news-none : (last : Option WatcherValue) → news None last ≡ None
news-none None = refl
news-none (Some value) = refl

-- what was answered last is no news
pub news-same : (last : Option WatcherValue) → news last last ≡ None
news-same None = refl
news-same (Some value) = rw (same-refl value)

-- news is the value that is there
pub news-value : (now last : Option WatcherValue) (value : WatcherValue) → news now last ≡ Some value → now ≡ Some value
news-value now None value e = e
news-value None (Some last) value e = (cc)
news-value (Some now) (Some last) value e = by_same (same_told now last) e where
  by_same : (b : Bool) → cond b None (Some now) ≡ Some value → Some now ≡ Some value
  by_same true h = (cc)
  by_same false h = h

-- news is there, and wasn't answered last
pub news-differs : (now last : Option WatcherValue) (value : WatcherValue) → news now last ≡ Some value → (now ≡ None) ⊎ (now ≡ last) → ⊥
news-differs now last value e (inl absent) = let f : None ≡ Some value = sym (news-none last) ∙ ap (λ n. news n last) (sym absent) ∙ e in cc
news-differs now last value e (inr same) = let f : None ≡ Some value = sym (news-same last) ∙ ap (λ n. news n last) (sym same) ∙ e in cc
