-- How many answers sessions have had, entry by entry.
use Rattle.std.proofs.Common.{◌≡◌, ◌∙◌, sym, ◌+◌, ◌≤◌, Bool, true, false, List, [], ◌∷◌, ◌++◌, length, filter, refl, arith, ap, Some, None}
use Rattle.std.specs.Prelude.{Option, cond, ◌&&◌}
use Rattle.std.specs.List.{list_any}
use Rattle.std.proofs.lemmas.Bool.{and_right}
use Rattle.std.proofs.Math.Bool.{or-true}
use Rattle.std.proofs.lemmas.List.Elements.{filter-append}
use Rattle.flat_base.specs.declared.ids.PairNo.{PairNo}
use Rattle.flat_base.specs.declared.ids.SessionNo.{SessionNo}
use Rattle.flat_scene.specs.declared.calls.ViewportProps.{ViewportProps}
use Rattle.flat_scene.specs.declared.calls.Watch.{Watch}
use Rattle.flat_scene.specs.declared.journal.Entry.{Entry}
use Rattle.flat_scene.specs.declared.journal.Event.{Event}
use Rattle.flat_scene.specs.declared.journal.EntryKind.TheVariants.{Viewport}
use Rattle.flat_scene.specs.declared.journal.Reply.{Reply}
use Rattle.flat_scene.specs.declared.journal.Reply.TheVariants.{Now}
use Rattle.flat_scene.specs.declared.journal.WatcherValue.{WatcherValue}
use Rattle.flat_scene.specs.declared.setup.Setup.{Setup}
use Rattle.flat_scene.specs.History.{◌▹◌, closes, is_closed, is_session}
use Rattle.flat_rules.specs.Legal.{Legal, answers, is_now, is_told, number_if, owns_view, sent_to}
use Rattle.flat_rules.specs.Kinds.{is_get}
use Rattle.flat_rules.specs.Posts.{event_of, events_to, news_for, told_event}
use Rattle.flat_rules.specs.Watch.{Watcher, layout_of, status_of, asked, told, watching}
use Rattle.flat_facts.proofs.lemmas.Between.{events-joined}
use Rattle.flat_states.proofs.lemmas.Counts.{few-if}
use Rattle.flat_gets.specs.Gets.{answers_to, gets_made, hears, helds_of}
use Rattle.flat_gets.proofs.GetSteps.{answers-more, quiet-all, untold-kind}

-- ---- what closes

-- what closed a session before does so after one more entry
pub closed-after : (b : Bool) (e : Entry) (xs : List Entry) → list_any (λ entry. closes entry.reply) xs ≡ true
    → list_any (λ entry. closes entry.reply) (cond b (e ∷ xs) xs) ≡ true
closed-after true e xs closed = rw closed (or-true (closes e.reply))
closed-after false e xs closed = closed

-- the entry that closes an open session
pub closes-last : (b : Bool) (e : Entry) (xs : List Entry) → list_any (λ entry. closes entry.reply) xs ≡ false
    → list_any (λ entry. closes entry.reply) (cond b (e ∷ xs) xs) ≡ true → closes e.reply ≡ true
closes-last true e xs before after = by_reply (closes e.reply) refl
  where
    by_reply : (b : Bool) → closes e.reply ≡ b → b ≡ true
    by_reply true is = refl
    by_reply false is = sym before ∙ sym (rw is refl) ∙ after
closes-last false e xs before after = let wrong : false ≡ true = sym before ∙ after in cc

-- an entry with another reply leaves it open
pub closed-not : (b : Bool) (e : Entry) (xs : List Entry) → closes e.reply ≡ false → list_any (λ entry. closes entry.reply) xs ≡ false
    → list_any (λ entry. closes entry.reply) (cond b (e ∷ xs) xs) ≡ false
closed-not true e xs stays opened = rw (stays, opened) refl
closed-not false e xs stays opened = opened

pub closing-untold : (reply : Reply) → closes reply ≡ true → is_now reply ≡ false
closing-untold (Now value) closing = cc
closing-untold reply closing = refl

-- ---- how many gets

-- no more gets were made than there are entries
pub gets-few : (h : List Entry) → gets_made h ≤ length h
gets-few [] = omega arith
gets-few (h ▹ e) = omega (arith, gets-few h, few-if (is_get e.kind))

-- ---- answers

told-one : (p : PairNo) (waits : Option Watch) (given : Option WatcherValue) → filter is_told (event_of p waits given) ≡ event_of p waits given
told-one p (Some get) (Some value) = refl
told-one p (Some get) None = refl
told-one p None given = refl

module _ (setup : Setup) (h : List Entry) (e : Entry) (legal : Legal setup (h ▹ e)) where
  -- one that is closed has no more answers
  pub answers-shut : (s : SessionNo) → is_closed s (h ▹ e) ≡ true → (is_session s e.actor && is_now e.reply) ≡ false
      → answers setup s (h ▹ e) ≡ answers setup s h
  answers-shut s closed none =
      let silent : events_to setup h e s ≡ [] = ap (λ (b : Bool). cond b [] (news_for setup h e s)) closed in
      let untold : sent_to setup s is_told h e ≡ 0 = ap (λ (l : List Event). length (filter is_told l)) silent in
      let no_reply : number_if (is_session s e.actor && is_now e.reply) ≡ 0 = ap number_if none in
      omega (arith, untold, no_reply)

  -- one that is told nothing has none either
  pub answers-silent : (s : SessionNo) → (is_session s e.actor && is_now e.reply) ≡ false → events_to setup h e s ≡ []
      → answers setup s (h ▹ e) ≡ answers setup s h
  answers-silent s none silent =
      let untold : sent_to setup s is_told h e ≡ 0 = ap (λ (l : List Event). length (filter is_told l)) silent in
      let no_reply : number_if (is_session s e.actor && is_now e.reply) ≡ 0 = ap number_if none in
      omega (arith, untold, no_reply)

  -- nor has one of which all watchers rest
  pub answers-rest : (s : SessionNo) → (is_session s e.actor && is_now e.reply) ≡ false
      → ((w : Watcher) → hears setup s w ≡ true → (asked setup w h e ≡ None) × (watching setup w (h ▹ e) ≡ watching setup w h))
      → answers setup s (h ▹ e) ≡ answers setup s h
  answers-rest s none rests = by_closed (is_closed s (h ▹ e)) refl
    where
      by_closed : (b : Bool) → is_closed s (h ▹ e) ≡ b → answers setup s (h ▹ e) ≡ answers setup s h
      by_closed true closed = answers-shut s closed none
      by_closed false opened =
          let silent : length (answers_to (told setup (h ▹ e)) (helds_of setup h s)) ≡ 0 = ap (length {A = Event}) (quiet-all setup h e s opened rests) in
          let no_reply : number_if (is_session s e.actor && is_now e.reply) ≡ 0 = ap number_if none in
          omega (arith, answers-more setup h e s opened, silent, no_reply)

  -- what is no get answers none at once
  pub not-told : is_get e.kind ≡ false → (s : SessionNo) → (is_session s e.actor && is_now e.reply) ≡ false
  not-told no_get s = and_right (is_session s e.actor) (is_now e.reply) (untold-kind setup h e legal no_get)

  -- the owner of a pair's view is told of it where the pair's viewport end is used
  pub answers-joined : (q : PairNo) (props : ViewportProps) → e.kind ≡ Viewport q props → (s : SessionNo) → owns_view setup s q ≡ true
      → is_closed s (h ▹ e) ≡ false
      → answers setup s (h ▹ e) ≡ answers setup s h + length (told_event setup q (layout_of q) h e ++ told_event setup q (status_of q) h e)
  answers-joined q props is s owned opened =
      let all : List Event = told_event setup q (layout_of q) h e ++ told_event setup q (status_of q) h e in
      let events : events_to setup h e s ≡ all = events-joined setup h e legal s q props is
      ∙ ap (λ (b : Bool). cond b [] (cond (owns_view setup s q) all [])) opened ∙ ap (λ (b : Bool). cond b all []) owned in
      let whole : filter is_told all ≡ all =
      filter-append is_told (told_event setup q (layout_of q) h e) (told_event setup q (status_of q) h e)
      ∙ rw (told-one q (watching setup (layout_of q) h).waits _, told-one q (watching setup (status_of q) h).waits _) refl in
      let sent : sent_to setup s is_told h e ≡ length all = ap (λ (l : List Event). length (filter is_told l)) events ∙ ap (length {A = Event}) whole in
      let no_get : is_get e.kind ≡ false = ap is_get is in
      let no_reply : number_if (is_session s e.actor && is_now e.reply) ≡ 0 = ap number_if (not-told no_get s) in
      omega (arith, sent, no_reply)

  -- and no other session
  pub answers-unowned : (q : PairNo) (props : ViewportProps) → e.kind ≡ Viewport q props → (s : SessionNo) → owns_view setup s q ≡ false
      → answers setup s (h ▹ e) ≡ answers setup s h
  answers-unowned q props is s foreign =
      let no_get : is_get e.kind ≡ false = ap is_get is in
      answers-silent s (not-told no_get s) (events-joined setup h e legal s q props is ∙ both (is_closed s (h ▹ e)) (owns_view setup s q) foreign)
    where
      both : (a b : Bool) → b ≡ false → cond a [] (cond b (told_event setup q (layout_of q) h e ++ told_event setup q (status_of q) h e) []) ≡ []
      both true b other = refl
      both false true other = cc
      both false false other = refl
