-- Gone is the last answer of a watcher.
use Rattle.std.proofs.Common.{◌≡◌, ◌∙◌, ap, refl, Bool, true, false, List, [], ◌∷◌, ◌++◌, Option, Some, None}
use Rattle.std.specs.Prelude.{cond, is_some}
use Rattle.flat_base.specs.declared.ids.PairNo.{PairNo}
use Rattle.flat_scene.specs.declared.calls.Watch.{Watch}
use Rattle.flat_scene.specs.declared.journal.Entry.{Entry}
use Rattle.flat_scene.specs.declared.journal.WatcherValue.{WatcherValue}
use Rattle.flat_scene.specs.declared.journal.WatcherValue.TheVariants as tell
use Rattle.flat_scene.specs.declared.setup.Setup.{Setup}
use Rattle.flat_scene.specs.History.{◌▹◌}
use Rattle.flat_watch.specs.Told.{Watching, answer, answered_by, asking, news, same_told, settled}
use Rattle.flat_rules.specs.Posts.{event_of}
use Rattle.flat_rules.specs.Watch.{Watcher, asked, is_open, listener, told, watching}
use Rattle.flat_laws.specs.Ends.{GoneIsTheLastAnswer, IsSpent}
use Rattle.flat_laws.proofs.Lost.{gone-stays}

abbrev gone : Option WatcherValue
gone = Some tell.Gone

-- an answer is the value told
answer-told : (now last : Option WatcherValue) (value : WatcherValue) → news now last ≡ Some value → now ≡ Some value
answer-told now None value is = is
answer-told None (Some last) value is = absurd (cc)
answer-told (Some now) (Some last) value is = by_same (same_told now last) is
  where
    by_same : (b : Bool) → cond b None (Some now) ≡ Some value → Some now ≡ Some value
    by_same true none = absurd (cc)
    by_same false same = same

-- a watcher that settles has the answer that it had, or the value told
settled-last : (listens : Bool) (now : Option WatcherValue) (w : Watching) → (settled listens now w).last ≡ gone → (w.last ≡ gone → now ≡ gone) → now ≡ gone
settled-last false now w is stays = stays is
settled-last true now w is stays = by_waits (is_some w.waits) is
  where
    by_news : (o : Option WatcherValue) → news now w.last ≡ o → (answered_by o w).last ≡ gone → now ≡ gone
    by_news None none same = stays same
    by_news (Some value) some same =
        let value_is : Some value ≡ gone = same in answer-told now w.last value some ∙ value_is

    by_waits : (b : Bool) → (answered_by (cond b (news now w.last) None) w).last ≡ gone → now ≡ gone
    by_waits true h = by_news (news now w.last) refl h
    by_waits false h = stays h

module _ (setup : Setup) (watcher : Watcher) where
  -- a watcher answered gone only if it tells gone
  told-gone : (h : List Entry) → (watching setup watcher h).last ≡ gone → told setup h watcher ≡ gone
  told-gone [] is = absurd (cc)
  told-gone (h ▹ e) is =
      settled-last (is_open setup (listener setup watcher) (h ▹ e)) (told setup (h ▹ e) watcher) (asking (asked setup watcher h e) (watching setup watcher h))
      is
      (λ was. gone-stays setup h (e ∷ []) watcher (told-gone h was))

  no-news : (now last : Option WatcherValue) → now ≡ gone → last ≡ gone → news now last ≡ None
  no-news now last a b = λ i. news (a i) (b i)

  last-settled : (listens : Bool) (now : Option WatcherValue) (w : Watching) → now ≡ gone → w.last ≡ gone → (settled listens now w).last ≡ gone
  last-settled false now w tells is = is
  last-settled true now w tells is = by_waits (is_some w.waits)
    where
      by_waits : (b : Bool) → (answered_by (cond b (news now w.last) None) w).last ≡ gone
      by_waits true = ap (λ (o : Option WatcherValue). (answered_by o w).last) (no-news now w.last tells is) ∙ is
      by_waits false = is

  last-next : (h : List Entry) (e : Entry) → (watching setup watcher h).last ≡ gone → (watching setup watcher (h ▹ e)).last ≡ gone
  last-next h e is =
      last-settled (is_open setup (listener setup watcher) (h ▹ e)) (told setup (h ▹ e) watcher) (asking (asked setup watcher h e) (watching setup watcher h))
      (gone-stays setup h (e ∷ []) watcher (told-gone h is)) is

  last-later : (h later : List Entry) → (watching setup watcher h).last ≡ gone → (watching setup watcher (later ++ h)).last ≡ gone
  last-later h [] is = is
  last-later h (e ∷ later) is = last-next (later ++ h) e (last-later h later is)

  unanswered : (p : PairNo) (now : Option WatcherValue) (w : Watching) → now ≡ gone → w.last ≡ gone → event_of p w.waits (answer now w) ≡ []
  unanswered p now w tells is = by_waits w.waits
    where
      by_waits : (o : Option Watch) → event_of p o (cond (is_some o) (news now w.last) None) ≡ []
      by_waits None = refl
      by_waits (Some get) = ap (event_of p (Some get)) (no-news now w.last tells is)

  spent : (h : List Entry) → (watching setup watcher h).last ≡ gone → IsSpent setup watcher h
  spent h is =
      let tells : told setup h watcher ≡ gone = told-gone h is in
      record {
        no_news = no-news (told setup h watcher) (watching setup watcher h).last tells is;
        no_event = λ p e. unanswered p (told setup (h ▹ e) watcher) (watching setup watcher h) (gone-stays setup h (e ∷ []) watcher tells) is;
      }

pub gone-is-the-last-answer : GoneIsTheLastAnswer
gone-is-the-last-answer setup before later watcher is = spent setup watcher (later ++ before) (last-later setup watcher before later is)
