-- The listed pairs are told, one after another.
use Rattle.std.proofs.Common.{◌≡◌, ◌≢◌, ◌∙◌, sym, subst, ℕ, suc, ◌+◌, ◌<◌, Bool, true, false, List, [], ◌∷◌, ◌++◌, length, map, refl, arith, ap, slice_set}
use Rattle.std.proofs.Common.{slice_index_or, append_assoc, length-append, Option}
use Rattle.std.specs.Prelude.{◌==◌, ◌||◌, sum_by}
use Rattle.std.proofs.lemmas.Bool.Decides.{nat_tests}
use Rattle.std.proofs.lemmas.List.{append-nil, map-append, get_or-set_same, get_or-set_other, get_or_default, length-set}
use Rattle.std.proofs.lemmas.List.Sums.{sum_by-set}
use Rattle.std.proofs.lemmas.Grind.{flat_map-append}
use Rattle.flat_base.specs.declared.ids.PairNo.{PairNo}
use Rattle.flat_base.specs.declared.ids.SessionNo.{SessionNo}
use Rattle.flat_scene.specs.declared.journal.Event.{Event}
use Rattle.flat_scene.specs.declared.journal.PostedEvent.{PostedEvent}
use Rattle.flat_scene.specs.declared.journal.WatcherValue.{WatcherValue}
use Rattle.flat_facts.specs.Begins.{post_of}
use Rattle.flat_facts.proofs.lemmas.Tests.{same-pair}
use Rattle.flat_gets.specs.declared.pair.PairWatchers.{PairWatchers}
use Rattle.flat_gets.specs.declared.pair.WatchedPart.{WatchedPart}
use Rattle.flat_gets.specs.Listed.{is_listed}
use Rattle.flat_gets.specs.Pairs.{IsTold, part_events, waiting_in}
use Rattle.flat_gets.specs.Watchers.{TellsEach, part_answers}
use Rattle.flat_gets.proofs.PairLists.{listed-append}

pub tells-none : (part : WatchedPart) (now : PairNo → Option WatcherValue) (place : ℕ) (s : SessionNo) (old : List PairWatchers) (posts : List PostedEvent)
    → TellsEach part now place s [] old old posts posts 0
tells-none part now place s old posts = record {
  length_is = refl;
  told = λ p d below listed. let wrong : false ≡ true = listed in cc;
  others = λ i d below other. refl;
  posted = λ d. sym (append-nil posts);
  counted = λ d. refl;
}

module _ (part : WatchedPart) (now : PairNo → Option WatcherValue) (place : ℕ) (s : SessionNo) where
  pub tells-next : (before : List PairNo) (p : PairNo) (old cur : List PairWatchers) (was then : PairWatchers) (posts so_far more : List PostedEvent)
      (count n : ℕ)
      → is_listed p.0 before ≡ false → p.0 < length old
      → TellsEach part now place s before old cur posts so_far count → was ≡ slice_index_or cur p.0 was → IsTold part (now p) was then
      → more ≡ so_far ++ map (post_of place s) (part_events part p (now p) was) → n ≡ length (part_events part p (now p) was)
      → TellsEach part now place s (before ++ p ∷ []) old (slice_set cur p.0 then) posts more (count + n)
  tells-next before p old cur was then posts so_far more count n fresh below each at is pushed counts = record {
    length_is = length-set cur p.0 then ∙ each.length_is;
    told = λ q d within listed. by_same q d within (p.0 == q.0) refl (sym (after q.0) ∙ listed);
    others = λ i d within other.
        let parts : (is_listed i before || p.0 == i) ≡ false = sym (after i) ∙ other in
        let not_here : (p.0 == i) ≡ false = grind arith in
        let differ : i ≢ p.0 = λ same. let here : (p.0 == i) ≡ true = grind (arith, nat_tests) in let wrong : true ≡ false = sym here ∙ not_here in cc in
        get_or-set_other cur p.0 i then d differ ∙ each.others i d within (grind arith);
    posted = λ d.
        let first : part_answers part now old d (before ++ p ∷ []) ≡ part_answers part now old d before ++ part_events part p (now p) was = all d in
        pushed ∙ ap (λ (l : List PostedEvent). l ++ map f (part_events part p (now p) was)) (each.posted d)
        ∙ append_assoc posts (map f (part_answers part now old d before)) (map f (part_events part p (now p) was))
        ∙ ap (λ (l : List PostedEvent). posts ++ l) (sym (map-append f (part_answers part now old d before) (part_events part p (now p) was)))
        ∙ ap (λ (l : List Event). posts ++ map f l) (sym first);
    counted = λ d. omega (
      arith,
      each.counted d,
      counts,
      ap (length {A = Event}) (all d),
      length-append (part_answers part now old d before) (part_events part p (now p) was),
    );
  }
    where
      f : Event → PostedEvent
      f = post_of place s

      or-nothing : (a b : Bool) → (a || (b || false)) ≡ (a || b)
      or-nothing true b = refl
      or-nothing false true = refl
      or-nothing false false = refl

      after : (i : ℕ) → is_listed i (before ++ p ∷ []) ≡ (is_listed i before || p.0 == i)
      after i = listed-append i before (p ∷ []) ∙ or-nothing (is_listed i before) (p.0 == i)

      within-cur : p.0 < length cur
      within-cur = omega (arith, below, each.length_is)

      old-is : (d : PairWatchers) → slice_index_or old p.0 d ≡ was
      old-is d = sym (each.others p.0 d below fresh) ∙ get_or_default cur p.0 d was within-cur ∙ sym at

      all : (d : PairWatchers) → part_answers part now old d (before ++ p ∷ []) ≡ part_answers part now old d before ++ part_events part p (now p) was
      all d =
          flat_map-append (λ q. part_events part q (now q) (slice_index_or old q.0 d)) before (p ∷ [])
          ∙ ap (λ (l : List Event). part_answers part now old d before ++ l)
          (append-nil (part_events part p (now p) (slice_index_or old p.0 d)) ∙ ap (part_events part p (now p)) (old-is d))

      by_same : (q : PairNo) (d : PairWatchers) → q.0 < length old → (b : Bool) → (p.0 == q.0) ≡ b → (is_listed q.0 before || b) ≡ true
          → IsTold part (now q) (slice_index_or old q.0 d) (slice_index_or (slice_set cur p.0 then) q.0 d)
      by_same q d within true same listed =
          let it : p ≡ q = same-pair p q same in
          let here : IsTold part (now p) (slice_index_or old p.0 d) (slice_index_or (slice_set cur p.0 then) p.0 d) =
          let O : PairWatchers → Type 0 = λ w. IsTold part (now p) w (slice_index_or (slice_set cur p.0 then) p.0 d) in
          let N : PairWatchers → Type 0 = λ w. IsTold part (now p) was w in
          subst O (sym (old-is d)) (subst N (sym (get_or-set_same cur p.0 then d within-cur)) is) in
          let Q : PairNo → Type 0 = λ r. IsTold part (now r) (slice_index_or old r.0 d) (slice_index_or (slice_set cur p.0 then) r.0 d) in
          subst Q it here
      by_same q d within false other listed =
          let differ : q.0 ≢ p.0 = λ same. let here : (p.0 == q.0) ≡ true = grind (arith, nat_tests) in let wrong : true ≡ false = sym here ∙ other in cc in
          let before_it : is_listed q.0 before ≡ true = grind arith in
          let N : PairWatchers → Type 0 = λ w. IsTold part (now q) (slice_index_or old q.0 d) w in
          subst N (sym (get_or-set_other cur p.0 q.0 then d differ)) (each.told q d within before_it)

-- as many may still be told, with those that were
pub due-next : (cur : List PairWatchers) (place : ℕ) (was then : PairWatchers) (n : ℕ) → place < length cur → was ≡ slice_index_or cur place was
    → waiting_in then + n ≡ waiting_in was → sum_by waiting_in (slice_set cur place then) + n ≡ sum_by waiting_in cur
due-next cur place was then n below at fewer = omega (arith, sum_by-set waiting_in cur place then was below, ap waiting_in at, fewer)

pub count-map : (f : Event → PostedEvent) (events : List Event) → length (map f events) ≡ length events
count-map f [] = refl
count-map f (event ∷ more) = ap suc (count-map f more)
