-- Frames as they are published: their numbers, and who is hit in them.
use Rattle.std.proofs.Common.{◌≡◌, inl, inr, ℕ, ℤ, zero, suc, ◌+◌, ◌≤◌, ◌==◌, Bool, true, false, cond, List, [], ◌∷◌, ◌++◌, length, map, Option, Some, None}
use Rattle.std.proofs.Common.{refl, sym, ap, ◌∙◌, subst, arith, append-nil, eq-or-lt_of_le}
use Rattle.std.proofs.lemmas.Bool.Decides.{nat_tests}
use Rattle.flat_base.specs.declared.ids.SessionNo.{SessionNo}
use Rattle.flat_scene.specs.declared.journal.Entry.{Entry}
use Rattle.flat_scene.specs.declared.setup.Setup.{Setup}
use Rattle.flat_scene.specs.Frames.{sessions_to}
use Rattle.flat_scene.specs.History.{◌▹◌, is_finish}
use Rattle.flat_rules.specs.Ends.{to_begin}
use Rattle.flat_rules.specs.Legal.{frames}
use Rattle.flat_rules.specs.Shown.{shown, shown_states}
use Rattle.flat_topology.specs.Hits.{hits_among}
use Rattle.flat_topology.specs.Join.{JoinedTree, led_from, led_to, nothing, viewed, viewer_from}
use Rattle.flat_topology.specs.Pairs.{display_pair}
use Rattle.flat_topology.specs.Place.{display_space, placed_in}
use Rattle.flat_publish.specs.declared.frame.Frame.{Frame}
use Rattle.flat_publish.specs.Frames.{frame_hits, last_number, last_of, number_of, IsRising}
use Rattle.flat_publish.proofs.lemmas.Beginnings.{last_snoc, rises_snoc}
use Rattle.flat_report.specs.Report.{begin_of, hits_at}
use Rattle.flat_play.proofs.lemmas.Seen.{frames_more}
use Rattle.flat_report.specs.Probes.{hits_in_frame}
use Rattle.flat_race.specs.Publishing.{hits_of, published_frames, shown_frame}
use Rattle.flat_report.proofs.lemmas.ProbeSteps.{begin-stays}
use Rattle.flat_race.proofs.lemmas.SeenFrames.{hits-last, hits-later}

-- ---- before any frame

none-views : (setup : Setup) (k p : ℕ) (all : List SessionNo) → viewer_from k (map (shown setup []) all) p ≡ None
none-views setup k p [] = refl
none-views setup k p (s ∷ all) = none-views setup (k + 1) p all

leads-nowhere : (setup : Setup) (views p : ℕ) → led_to (shown_states setup []) views p ≡ nothing
leads-nowhere setup zero p = refl
leads-nowhere setup (suc views) p = ap (viewed (led_to (shown_states setup []) views)) (none-views setup 1 p (sessions_to setup.sessions))

joins-nothing : (setup : Setup) (pair : Option ℕ) → led_from (shown_states setup []) pair ≡ nothing
joins-nothing setup None = refl
joins-nothing setup (Some p) = leads-nowhere setup (length (shown_states setup [])) p

pub nobody-hit : (setup : Setup) (x y : ℤ) → hits_at setup [] x y ≡ []
nobody-hit setup x y = ap (λ (tree : JoinedTree). hits_among (placed_in (display_space setup) tree) x y) (joins-nothing setup (display_pair setup))

-- ---- the frames of a history

module _ (setup : Setup) where
  one-behind : (before : List Entry) (entry : Entry) (b : Bool) → is_finish entry.kind ≡ b
      → published_frames setup (before ▹ entry) ≡ published_frames setup before ++ cond b (shown_frame setup (suc (frames before)) (to_begin before) ∷ []) []
  one-behind before entry b is = ap (λ b. published_frames setup before ++ cond b (shown_frame setup (suc (frames before)) (to_begin before) ∷ []) []) is

  none-behind : (before : List Entry) (entry : Entry) → is_finish entry.kind ≡ false → published_frames setup (before ▹ entry) ≡ published_frames setup before
  none-behind before entry is = one-behind before entry false is ∙ append-nil (published_frames setup before)

  -- they are as many as the last number says, and rise
  record Counts (history : List Entry) : Type 0 where
    last : last_number (published_frames setup history) ≡ frames history
    rise : IsRising (published_frames setup history)

  count-more : (before : List Entry) (entry : Entry) (b : Bool) → is_finish entry.kind ≡ b → Counts before → Counts (before ▹ entry)
  count-more before entry false is was =
      let same = none-behind before entry is in
      let grown = frames_more before entry false is in
      let last : last_number (published_frames setup (before ▹ entry)) ≡ frames before = ap last_number same ∙ was.last in
      record { last = omega (arith, last, grown); rise = subst IsRising (sym same) was.rise }
  count-more before entry true is was =
      let all = one-behind before entry true is in
      let next : Frame = shown_frame setup (suc (frames before)) (to_begin before) in
      let grown = frames_more before entry true is in
      let last : last_number (published_frames setup (before ▹ entry)) ≡ suc (frames before) =
      ap last_number all ∙ ap number_of (last_snoc None (published_frames setup before) next) in
      let number = was.last in
      record {
        last = omega (arith, last, grown);
        rise = subst IsRising (sym all) (rises_snoc None (published_frames setup before) next was.rise (omega (arith, number)));
      }

  counts : (history : List Entry) → Counts history
  counts [] = record { last = refl; rise = tt }
  counts (before ▹ entry) = count-more before entry (is_finish entry.kind) refl (counts before)

  pub last-published : (history : List Entry) → last_number (published_frames setup history) ≡ frames history
  last-published history = (counts history).last

  pub published-rise : (history : List Entry) → IsRising (published_frames setup history)
  published-rise history = (counts history).rise

  -- the last one of a history
  last-hits : (before : List Entry) (entry : Entry) → is_finish entry.kind ≡ true → (n : ℕ) (x y : ℤ) → n ≡ suc (frames before)
      → hits_of (published_frames setup (before ▹ entry)) n x y ≡ hits_in_frame setup (before ▹ entry) n x y
  last-hits before entry is n x y at =
      let all = one-behind before entry true is in
      let next : Frame = shown_frame setup (suc (frames before)) (to_begin before) in
      let grown = frames_more before entry true is in
      let c = counts (before ▹ entry) in
      let number : n ≡ last_number (published_frames setup (before ▹ entry)) = (let last = c.last in omega (arith, at, last, grown)) in
      let here : (suc (frames before) == n) ≡ true = grind (arith, nat_tests) in
      let begun : begin_of n (before ▹ entry) ≡ to_begin before = rw (is, here) refl in
      ap (λ k. hits_of (published_frames setup (before ▹ entry)) k x y) number ∙ hits-last (published_frames setup (before ▹ entry)) x y c.rise
      ∙ ap (λ o. frame_hits o x y) (ap last_of all ∙ last_snoc None (published_frames setup before) next)
      ∙ ap (λ h. hits_at setup h x y) (sym begun)

  one-more-hits : (before : List Entry) (entry : Entry) (b : Bool) → is_finish entry.kind ≡ b → (n : ℕ) (x y : ℤ) → n ≤ frames (before ▹ entry)
      → (n ≤ frames before → hits_of (published_frames setup before) n x y ≡ hits_in_frame setup before n x y)
      → hits_of (published_frames setup (before ▹ entry)) n x y ≡ hits_in_frame setup (before ▹ entry) n x y
  one-more-hits before entry false is n x y low was =
      let grown = frames_more before entry false is in
      let low' : n ≤ frames before = omega (arith, low, grown) in
      ap (λ fs. hits_of fs n x y) (none-behind before entry is) ∙ was low' ∙ ap (λ h. hits_at setup h x y) (sym (begin-stays n before entry low'))
  one-more-hits before entry true is n x y low was =
      let grown = frames_more before entry true is in
      let next : Frame = shown_frame setup (suc (frames before)) (to_begin before) in
      let low' : n ≤ suc (frames before) = omega (arith, low, grown) in
      elim (eq-or-lt_of_le low') [
        | inl at ↦ last-hits before entry is n x y at
        | inr less ↦
            let within : n ≤ frames before = omega (arith, less) in
            let c = counts before in
            let last = c.last in
            sym (hits-later (published_frames setup before) (published_frames setup (before ▹ entry)) n x y (next ∷ [], sym (one-behind before entry true is))
            (counts (before ▹ entry)).rise (omega (arith, within, last)))
            ∙ was within ∙ ap (λ h. hits_at setup h x y) (sym (begin-stays n before entry within))
      ]

  -- who is hit in them is who is hit in the history's frames
  pub published-hits : (history : List Entry) (n : ℕ) (x y : ℤ) → n ≤ frames history
      → hits_of (published_frames setup history) n x y ≡ hits_in_frame setup history n x y
  published-hits [] n x y low = sym (nobody-hit setup x y)
  published-hits (before ▹ entry) n x y low = one-more-hits before entry (is_finish entry.kind) refl n x y low (λ low'. published-hits before n x y low')
