-- What is to be published after one more line of the display.
use Rattle.std.proofs.Common.{◌≡◌, ◌⊎◌, inl, inr, ℕ, suc, ◌<◌, ◌≤◌, Bool, true, false, cond, List, [], ◌∷◌, ◌++◌, refl, sym, ap, ◌∙◌, subst, arith, append-nil}
use Rattle.flat_scene.specs.declared.journal.Entry.{Entry}
use Rattle.flat_scene.specs.declared.setup.Setup.{Setup}
use Rattle.flat_scene.specs.History.{◌▹◌, is_finish}
use Rattle.flat_rules.specs.Ends.{to_begin, to_finished}
use Rattle.flat_rules.specs.Legal.{frames}
use Rattle.flat_scene.specs.Frames.{ratio}
use Rattle.flat_scene.specs.Setups.{at_ratio}
use Rattle.flat_rules.specs.Shown.{shown_states}
use Rattle.flat_topology.specs.Connected.{joined_lists}
use Rattle.flat_places.specs.declared.script.Script.{Script}
use Rattle.flat_publish.specs.declared.frame.Frame.{Frame}
use Rattle.flat_publish.specs.Frames.{frame}
use Rattle.flat_publish.specs.State as publish
use Rattle.flat_play.specs.declared.frame.LastFrame.{LastFrame}
use Rattle.flat_play.proofs.lemmas.Seen.{frames_more}
use Rattle.flat_race.specs.Publishing.{FinishesOne, PublishedStand, PublishesLast, published_frames, shown_frame}
use Rattle.flat_race.proofs.lemmas.Beside.{IsBeside}

module _ (setup : Setup) where
  -- nothing was entered, or only what sessions enter
  pub finishes_none : (before after : List Entry) → IsBeside setup before after → FinishesOne setup before after
  finishes_none before after same = inl (same.number, same.publishing)

  -- what sessions entered first plays no part
  pub finishes_then : (before middle after : List Entry) → IsBeside setup before middle → FinishesOne setup middle after → FinishesOne setup before after
  finishes_then before middle after same one = elim one [
    | inl none ↦ inl (none.0 ∙ same.number, none.1 ∙ same.publishing)
    | inr next ↦ inr (
      next.0 ∙ ap suc same.number,
      next.1
          ∙ ap (λ (fs : List Frame). fs ++ shown_frame setup (frames after) (to_finished after) ∷ []) same.publishing,
    )
  ]

  -- an entry of the display
  one_entry : (middle : List Entry) (e : Entry) (b : Bool) → is_finish e.kind ≡ b → FinishesOne setup middle (middle ▹ e)
  one_entry middle e false is =
      let grown = frames_more middle e false is in
      inl (
        omega (arith, grown),
        ap (λ b. published_frames setup middle ++ cond b (shown_frame setup (suc (frames middle)) (to_begin middle) ∷ []) []) is
            ∙ append-nil (published_frames setup middle),
      )
  one_entry middle e true is =
      let grown = frames_more middle e true is in
      let number : frames (middle ▹ e) ≡ suc (frames middle) = omega (arith, grown) in
      let ended : to_finished (middle ▹ e) ≡ to_begin middle = ap (λ b. cond b (to_begin middle) (to_finished middle)) is in
      inr (
        number,
        ap (λ b. published_frames setup middle ++ cond b (shown_frame setup (suc (frames middle)) (to_begin middle) ∷ []) []) is
            ∙ ap (λ (n : ℕ). published_frames setup middle ++ shown_frame setup n (to_begin middle) ∷ []) (sym number)
            ∙ ap (λ (h : List Entry). published_frames setup middle ++ shown_frame setup (frames (middle ▹ e)) h ∷ []) (sym ended),
      )

  pub finishes_one : (before middle after : List Entry) (e : Entry) → IsBeside setup before middle → after ≡ (middle ▹ e) → (b : Bool) → is_finish e.kind ≡ b
      → FinishesOne setup before after
  finishes_one before middle after e same grown b is =
      let F : List Entry → Type 0 = FinishesOne setup before in
      subst F (sym grown) (finishes_then before middle (middle ▹ e) same (one_entry middle e b is))

-- ---- what is published

-- nothing is, before any line
pub published_none : (script : Script) (published : publish.Publishing) → published ≡ record { home = published.home; frames = []; refused = []; given = 0 }
    → PublishedStand script [] published
published_none script published new = let P : publish.Publishing → Type 0 =
    PublishedStand script [] in subst P (sym new) (record { given = omega arith; none_refused = refl; are = λ any. refl })

-- the last frame was published, where it is a new one
pub published_more : (script : Script) (before after : List Entry) (n : ℕ) (last : LastFrame) (old new : publish.Publishing) → n ≡ frames before
    → last.frame.0 ≡ frames after → last.reuse ≡ shown_states script.setup (to_finished after) → last.ratio ≡ ratio script.setup (to_finished after)
    → FinishesOne script.setup before after → PublishesLast script.setup n last old new → PublishedStand script before old → PublishedStand script after new
published_more script before after n last old new n_is number showing scaling one publishes was = elim publishes [
  | inl stays ↦ still stays.0 stays.1
  | inr next ↦ more next
]
  where
    none_given : PublishedStand script before old → frames before ≤ frames after
        → (0 < script.setup.probes → published_frames script.setup after ≡ published_frames script.setup before) → PublishedStand script after old
    none_given was grow same = record {
      given = (let given = was.given in omega (arith, given, grow));
      none_refused = was.none_refused;
      are = λ any. was.are any ∙ sym (same any);
    }

    still : new ≡ old → (script.setup.probes ≡ 0) ⊎ (last.frame.0 ≤ n) → PublishedStand script after new
    still same why =
        let P : publish.Publishing → Type 0 = PublishedStand script after in
        subst P (sym same) (elim why [
          | inl none ↦ elim one [
            | inl stayed ↦ (let as_many = stayed.0 in none_given was (omega (arith, as_many)) (λ any. absurd (omega (arith, any, none))))
            | inr ended ↦ (let one_more = ended.0 in none_given was (omega (arith, one_more)) (λ any. absurd (omega (arith, any, none))))
          ]
          | inr low ↦ elim one [
            | inl stayed ↦ (let as_many = stayed.0 in none_given was (omega (arith, as_many)) (λ any. stayed.1))
            | inr ended ↦ (let one_more = ended.0 in absurd (omega (arith, one_more, low, n_is, number)))
          ]
        ])

    more : (n < last.frame.0) × (new.given ≡ last.frame.0)
        × publish.Publishes old (frame last.frame.0 (joined_lists (at_ratio last.ratio script.setup) last.reuse)) new → PublishedStand script after new
    more next = elim one [
      | inl stayed ↦ (let as_many = stayed.0 in let above = next.0 in absurd (omega (arith, as_many, above, n_is, number)))
      | inr ended ↦
          let given = next.1 in
          let one_frame : frame last.frame.0 (joined_lists (at_ratio last.ratio script.setup) last.reuse)
          ≡ shown_frame script.setup (frames after) (to_finished after) =
          ap (λ (k : ℕ). frame k (joined_lists (at_ratio last.ratio script.setup) last.reuse)) number
          ∙ (λ i. frame (frames after) (joined_lists (at_ratio (scaling i) script.setup) (showing i))) in
          record {
            given = omega (arith, given, number);
            none_refused = next.2.1;
            are = λ any. next.2.0
                ∙ ap (λ (fs : List Frame). old.frames ++ fs ++ frame last.frame.0 (joined_lists (at_ratio last.ratio script.setup) last.reuse) ∷ [])
                was.none_refused
                ∙ ap (λ (fs : List Frame). fs ++ frame last.frame.0 (joined_lists (at_ratio last.ratio script.setup) last.reuse) ∷ []) (append-nil old.frames)
                ∙ ap (λ (fs : List Frame). fs ++ frame last.frame.0 (joined_lists (at_ratio last.ratio script.setup) last.reuse) ∷ []) (was.are any)
                ∙ ap (λ (f : Frame). published_frames script.setup before ++ f ∷ []) one_frame
                ∙ sym ended.1;
          }
    ]
