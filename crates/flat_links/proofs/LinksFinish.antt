-- The end of a frame, for what is kept of sessions and pairs.
use Rattle.std.proofs.Common.{◌≡◌, ◌∙◌, ℕ, ◌+◌, ◌<◌, true, false, List, length, refl, arith, ap, Some, None, slice_set, slice_index_or}
use Rattle.std.specs.Prelude.{Option, option_and_then}
use Rattle.std.specs.Result.{result_ok}
use Rattle.flat_base.specs.declared.ids.PairNo.{PairNo}
use Rattle.flat_base.specs.declared.ids.SessionNo.{SessionNo}
use Rattle.flat_scene.specs.declared.calls.ViewportProps.{ViewportProps}
use Rattle.flat_scene.specs.declared.journal.Entry.{Entry}
use Rattle.flat_scene.specs.declared.setup.Setup.{Setup}
use Rattle.flat_scene.specs.Effect.{draft_of}
use Rattle.flat_links.specs.declared.session_links.SessionLinks.{SessionLinks}
use Rattle.flat_links.specs.declared.pairs.PairState.{PairState}
use Rattle.flat_facts.specs.Begins.{finished, finish_entry}
use Rattle.flat_rules.specs.Numbers.{number, AllNumbered}
use Rattle.flat_rules.specs.Ends.{props_of, taken_calls, to_begin, viewport_uses}
use Rattle.flat_links.specs.Hearing.{losings}
use Rattle.flat_links.proofs.Bounds.{bounds-settled}
use Rattle.flat_links.specs.SessionLinks.{AreLinked, AreSessionLinks, IsPairKept, props_pending}
use Rattle.flat_facts.specs.Pairs.{pair}
use Rattle.flat_rules.specs.Legal.{Legal}
use Rattle.flat_links.specs.Usage.{SettlesPairs, settled}
use Rattle.flat_rules.specs.Watch.{props_seen}
use Rattle.std.specs.Option.{option_or}
use Rattle.flat_links.proofs.Followed.{followed-still}
use Rattle.flat_links.proofs.lemmas.PairIdle.{pair-still}
use Rattle.flat_links.proofs.LinksBegin.{FollowedUpTo, followed-end, followed-here, followed-on}

-- what is pending before the end of a frame is so after it
pending-stays : (setup : Setup) (p : PairNo) (n : ℕ) (v : SessionNo) (h : List Entry) (line : ℕ)
    → props_pending setup p n v h ≡ props_pending setup p n v (finished h line)
pending-stays setup p n v h line = once (option_and_then (props_of p n) (result_ok (draft_of setup (taken_calls setup (to_begin h) v))))
    (props_seen setup p n v h)
  where
    once : (x y : Option ViewportProps) → option_or x y ≡ option_or x (option_or x y)
    once (Some a) y = refl
    once None y = refl

module _ (setup : Setup) (h : List Entry) (line : ℕ) (legal : Legal setup (finished h line)) where
  pub pair-settled : (p : PairNo) (state new : PairState) → new ≡ settled state → IsPairKept setup h p state → IsPairKept setup (finished h line) p new
  pair-settled p state new is kept =
      pair-still setup h (finish_entry line) legal (λ s mine. let wrong : false ≡ true = mine in cc) p refl state new
      (ap (λ (x : PairState). x.ended) is) (ap (λ (x : PairState). x.cleared) is) (ap (λ (x : PairState). x.serial) is) (ap (λ (x : PairState). x.given) is)
      (λ v owner. ap (λ (x : PairState). x.seen) is ∙ kept.pending v owner)
      (λ v owner. ap (λ (x : PairState). x.pending) is ∙ kept.pending v owner ∙ pending-stays setup p (length (viewport_uses p h)) v h line) kept

  -- one session more
  pub finished-on : (i : ℕ) (linked_sessions : List SessionLinks) (was : SessionLinks) → i < length linked_sessions → was ≡ slice_index_or linked_sessions i was
      → AllNumbered (FollowedUpTo setup h (finished h line) i) linked_sessions
      → AllNumbered (FollowedUpTo setup h (finished h line) (i + 1)) (slice_set linked_sessions i
      (let new : SessionLinks = record was { finished = was.begun } in new))
  finished-on i linked_sessions was below is each =
      let old : AreSessionLinks setup h (number i) was = followed-here setup h (finished h line) i linked_sessions was each below is in
      let new : SessionLinks = record was { finished = was.begun } in
      followed-on setup h (finished h line) i linked_sessions new each
      (followed-still setup (number i) h (finish_entry line) (λ mine. let wrong : false ≡ true = mine in cc) was new refl refl old.begun old.begun old)

  -- all of them
  pub tied-finished : (old linked_sessions : List SessionLinks) (pairs new : List PairState) → AreLinked setup h old pairs
      → length linked_sessions ≡ setup.sessions
      → AllNumbered (FollowedUpTo setup h (finished h line) setup.sessions) linked_sessions
      → losings linked_sessions ≡ losings old → SettlesPairs pairs new → AreLinked setup (finished h line) linked_sessions new
  tied-finished old linked_sessions pairs new tied count each same settles = record {
    bound = bounds-settled setup (losings old) (losings linked_sessions) pairs new same settles tied.bound;
    sessions = count;
    count = settles.count ∙ tied.count;
    each_session = followed-end setup h (finished h line) setup.sessions linked_sessions count each;
    each_pair = λ j d below.
        let within : j < length pairs = omega (arith, below, settles.count) in
        pair-settled (pair j) (slice_index_or pairs j d) (slice_index_or new j d) (settles.each j d within) (tied.each_pair j d within);
  }
