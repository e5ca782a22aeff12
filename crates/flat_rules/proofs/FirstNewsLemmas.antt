-- A get is answered by the first news.
use Rattle.std.proofs.Common.{◌≡◌, ◌∙◌, Bool, true, false, cond, List, [], ◌++◌, refl, sym, ap, Option, Some, None}
use Rattle.std.specs.Prelude.{is_some}
use Rattle.flat_base.proofs.lemmas.Tests.{none-left, none-right}
use Rattle.flat_base.specs.declared.ids.PairNo.{PairNo}
use Rattle.flat_scene.specs.declared.calls.Watch.{Watch}
use Rattle.flat_scene.specs.declared.journal.Entry.{Entry}
use Rattle.flat_scene.specs.declared.journal.EntryKind.{EntryKind}
use Rattle.flat_scene.specs.declared.journal.EntryKind.TheVariants.{Get}
use Rattle.flat_scene.specs.declared.journal.WatcherValue.{WatcherValue}
use Rattle.flat_scene.specs.declared.setup.Setup.{Setup}
use Rattle.flat_scene.specs.History.{◌▹◌}
use Rattle.flat_rules.specs.FirstNews.{first_news, is_asked, is_heard, FirstNewsAnswers, SecondGetIsRefused, UnaskedStays, NothingIsAnsweredAtFirst}
use Rattle.flat_rules.specs.Legal.{Legal, got, reply_to, reply_to_get}
use Rattle.flat_rules.specs.Local.{pair_watched}
use Rattle.flat_rules.specs.Posts.{told_event, event_of}
use Rattle.flat_rules.specs.Watch.{Watcher, watching, told, asked, asked_in, listener, is_watcher, watcher_of}
use Rattle.flat_watch.specs.Told.{Watching, news, answer, answered_by, settled, asking}
use Rattle.std.specs.Option.{option_or}
use Rattle.flat_rules.proofs.lemmas.SameWatchers.{same-is}
use Rattle.flat_rules.proofs.lemmas.Still.{IsStill, open-before, told-same}
use Rattle.flat_rules.proofs.lemmas.WatchLocal.{asking-none}

none-asked : (o : Option Watch) → is_some o ≡ false → o ≡ None
none-asked None none = refl
none-asked (Some get) none = absurd (let h : true ≡ false = none in cc)

-- ---- one step of a watcher

-- what an open listener's watcher is, where this was the first news so far
abbrev standing : Option WatcherValue → Watch → Option WatcherValue → Watching
standing last get first = answered_by first (record { last = last; waits = Some get })

step : (last : Option WatcherValue) (get : Watch) (first now : Option WatcherValue)
    → settled true now (standing last get first) ≡ standing last get (option_or first (news now last))
step last get (Some value) now = refl
step last get None now = refl

event-step : (p : PairNo) (last : Option WatcherValue) (get : Watch) (first now : Option WatcherValue)
    → event_of p (standing last get first).waits (answer now (standing last get first))
    ≡ event_of p (Some get) (cond (is_some first) None (option_or first (news now last)))
event-step p last get (Some value) now = refl
event-step p last get None now = refl

-- a get that nothing else holds joins
joins : (w : Watching) (last : Option WatcherValue) (get : Watch) → w.waits ≡ None → w.last ≡ last
    → asking (Some get) w ≡ record { last = last; waits = Some get }
joins w last get none is = λ i. record { last = is i; waits = option_or (none i) (Some get) }

rests : (listens : Bool) (now : Option WatcherValue) (w : Watching) → w.waits ≡ None → settled listens now w ≡ w
rests false now w none = refl
rests true now w none = ap (λ (o : Option Watch). answered_by (cond (is_some o) (news now w.last) None) w) none

-- ---- the entry of a get

-- an entry that asks is a get of that watcher
pub record IsGet (setup : Setup) (watcher : Watcher) (get : Watch) (before : List Entry) (entry : Entry) : Type 0 where
  pub kind : entry.kind ≡ Get get
  pub meant : watcher_of setup before entry.actor entry.calls get ≡ Some watcher

module _ (setup : Setup) where
  meant-by : (watcher : Watcher) (o : Option Watcher) → is_watcher setup watcher o ≡ true → o ≡ Some watcher
  meant-by watcher None is = absurd (let h : false ≡ true = is in cc)
  meant-by watcher (Some u) is = let same : watcher ≡ u = same-is watcher u is in ap (λ (w : Watcher). let o : Option Watcher = Some w in o) (sym same)

  by-test : (watcher : Watcher) (get asks : Watch) (before : List Entry) (entry : Entry) (b : Bool)
      → is_watcher setup watcher (watcher_of setup before entry.actor entry.calls asks) ≡ b
      → entry.kind ≡ Get asks → cond b (Some asks) None ≡ Some get → IsGet setup watcher get before entry
  by-test watcher get asks before entry true is kind so =
      let same : asks ≡ get = cc in
      record {
        kind = kind ∙ ap Get same;
        meant = ap (watcher_of setup before entry.actor entry.calls) (sym same) ∙ meant-by watcher (watcher_of setup before entry.actor entry.calls asks) is;
      }
  by-test watcher get asks before entry false is kind so = cc

  pub is-get : (watcher : Watcher) (get : Watch) (before : List Entry) (entry : Entry) (kind : EntryKind) → entry.kind ≡ kind
      → asked_in setup watcher before entry kind ≡ Some get
      → IsGet setup watcher get before entry
  is-get watcher get before entry (Get asks) is so =
      by-test watcher get asks before entry (is_watcher setup watcher (watcher_of setup before entry.actor entry.calls asks)) refl is so
  is-get watcher get before entry _ is so = absurd (let h : None ≡ Some get = so in cc)

  get-still : (watcher : Watcher) (get : Watch) (entry : Entry) → entry.kind ≡ Get get → IsStill (pair_watched watcher) entry
  get-still watcher get entry is = record { no_finish = rw is refl; no_view = rw is refl; no_viewport = rw is refl }

  -- the reply to such an entry
  get-reply : (before : List Entry) (entry : Entry) → Legal setup (before ▹ entry) → (watcher : Watcher) (get : Watch)
      → asked setup watcher before entry ≡ Some get
      → entry.reply ≡ got (is_some (watching setup watcher before).waits) (news (told setup (before ▹ entry) watcher) (watching setup watcher before).last)
  get-reply before entry legal watcher get so =
      let is : IsGet setup watcher get before entry = is-get watcher get before entry entry.kind refl so in
      let still : told setup (before ▹ entry) watcher ≡ told setup before watcher =
      told-same setup watcher before entry (get-still watcher get entry is.kind) in
      legal.1.reply ∙ ap (reply_to setup before entry.actor entry.calls) is.kind ∙ ap (reply_to_get setup before) is.meant
      ∙ ap (λ (now : Option WatcherValue). got (is_some (watching setup watcher before).waits) (news now (watching setup watcher before).last)) (sym still)

  -- ---- all later entries

  heard-before : (watcher : Watcher) (history : List Entry) (next : Entry) → is_heard setup watcher (history ▹ next) ≡ true
      → is_heard setup watcher history ≡ true
  heard-before watcher history next heard = open-before setup (listener setup watcher) history next heard

  -- an entry that is no get of the watcher
  unasked-step : (watcher : Watcher) (history : List Entry) (next : Entry) → asked setup watcher history next ≡ None
      → watching setup watcher (history ▹ next) ≡ settled (is_heard setup watcher (history ▹ next)) (told setup (history ▹ next) watcher)
      (watching setup watcher history)
  unasked-step watcher history next none =
      ap (λ (get : Option Watch). settled (is_heard setup watcher (history ▹ next)) (told setup (history ▹ next) watcher)
      (asking get (watching setup watcher history))) none
      ∙ ap (settled (is_heard setup watcher (history ▹ next)) (told setup (history ▹ next) watcher)) (asking-none (watching setup watcher history))

  module _ (watcher : Watcher) (get : Watch) (last : Option WatcherValue) (before : List Entry) (entry : Entry)
      (so : asked setup watcher before entry ≡ Some get)
      (free : (watching setup watcher before).waits ≡ None) (was : (watching setup watcher before).last ≡ last) where
    holds : (later : List Entry) → is_asked setup watcher (before ▹ entry) later ≡ false → is_heard setup watcher (later ++ (before ▹ entry)) ≡ true
        → watching setup watcher (later ++ (before ▹ entry)) ≡ standing last get (first_news setup watcher last (before ▹ entry) later)
    holds [] none heard =
        (λ i. settled (heard i) (told setup (before ▹ entry) watcher) (asking (so i) (watching setup watcher before)))
        ∙ ap (settled true (told setup (before ▹ entry) watcher)) (joins (watching setup watcher before) last get free was)
        ∙ step last get None (told setup (before ▹ entry) watcher)
    holds (later ▹ next) none heard =
        let history : List Entry = later ++ (before ▹ entry) in
        let earlier : watching setup watcher history ≡ standing last get (first_news setup watcher last (before ▹ entry) later) =
        holds later (none-left (is_asked setup watcher (before ▹ entry) later) (is_some (asked setup watcher history next)) none)
        (heard-before watcher history next heard) in
        let unasked : asked setup watcher history next ≡ None =
        none-asked (asked setup watcher history next) (none-right (is_asked setup watcher (before ▹ entry) later) (is_some (asked setup watcher history next))
        none) in
        unasked-step watcher history next unasked
        ∙ (λ i. settled (heard i) (told setup (history ▹ next) watcher) (earlier i))
        ∙ step last get (first_news setup watcher last (before ▹ entry) later) (told setup (history ▹ next) watcher)

    event : (later : List Entry) (next : Entry) (p : PairNo) → is_asked setup watcher (before ▹ entry) later ≡ false
        → is_heard setup watcher (later ++ (before ▹ entry)) ≡ true
        → told_event setup p watcher (later ++ (before ▹ entry)) next
        ≡ event_of p (Some get) (cond (is_some (first_news setup watcher last (before ▹ entry) later)) None
        (first_news setup watcher last (before ▹ entry) (later ▹ next)))
    event later next p none heard =
        ap (λ (w : Watching). event_of p w.waits (answer (told setup ((later ▹ next) ++ (before ▹ entry)) watcher) w)) (holds later none heard)
        ∙ event-step p last get (first_news setup watcher last (before ▹ entry) later) (told setup ((later ▹ next) ++ (before ▹ entry)) watcher)

pub first-news-answers : FirstNewsAnswers
first-news-answers setup before entry legal watcher get so free = record {
  reply = get-reply setup before entry legal watcher get so
      ∙ ap (λ (o : Option Watch). got (is_some o) (news (told setup (before ▹ entry) watcher) (watching setup watcher before).last)) free;
  event = event setup watcher get (watching setup watcher before).last before entry so free refl;
  holds = holds setup watcher get (watching setup watcher before).last before entry so free refl;
}

pub second-get-is-refused : SecondGetIsRefused
second-get-is-refused setup before entry legal watcher get held so waits =
    get-reply setup before entry legal watcher get so
    ∙ ap (λ (o : Option Watch). got (is_some o) (news (told setup (before ▹ entry) watcher) (watching setup watcher before).last)) waits

pub unasked-stays : UnaskedStays
unasked-stays setup watcher from [] free none = refl
unasked-stays setup watcher from (later ▹ next) free none =
    let history : List Entry = later ++ from in
    let earlier : watching setup watcher history ≡ watching setup watcher from =
    unasked-stays setup watcher from later free (none-left (is_asked setup watcher from later) (is_some (asked setup watcher history next)) none) in
    let unasked : asked setup watcher history next ≡ None =
    none-asked (asked setup watcher history next) (none-right (is_asked setup watcher from later) (is_some (asked setup watcher history next)) none) in
    unasked-step setup watcher history next unasked
    ∙ rests (is_heard setup watcher (history ▹ next)) (told setup (history ▹ next) watcher) (watching setup watcher history)
    (ap (λ (w : Watching). w.waits) earlier ∙ free)
    ∙ earlier

pub nothing-is-answered-at-first : NothingIsAnsweredAtFirst
nothing-is-answered-at-first setup watcher = refl
