-- What is shown at a place, and how many frames there may be.
use Rattle.std.proofs.Common.{◌≡◌, ℕ, ◌+◌, ◌≤◌, Bool, true, false, cond, ◌&&◌, ◌||◌, not, ◌==◌, List, [], sym, ap, ◌∙◌, arith, refl}
use Rattle.std.proofs.lemmas.Grind.{common_steps}
use Rattle.flat_base.specs.declared.ids.Actor.{Actor}
use Rattle.flat_base.specs.declared.ids.Actor.TheVariants.{Display, Session, Probe}
use Rattle.flat_scene.specs.declared.journal.Entry.{Entry}
use Rattle.flat_scene.specs.declared.setup.Setup.{Setup}
use Rattle.flat_scene.specs.History.{◌▹◌, is_begin, is_finish}
use Rattle.flat_scene.specs.Journals.{seat_number}
use Rattle.flat_scene.specs.Frames.{ratio, setup_at}
use Rattle.flat_scene.specs.Setups.{at_ratio, is_declared}
use Rattle.flat_core.specs.Machines.{made}
use Rattle.flat_rules.specs.Ends.{to_begin, to_finished}
use Rattle.flat_rules.specs.Legal.{Legal, frames, is_frame_open, may_act, session_may}
use Rattle.flat_rules.proofs.lemmas.FrameKinds.{not-finish}
use Rattle.flat_base.proofs.lemmas.Tests.{and-left}

-- the setup at a pixel ratio that is the one after a history
pub scaled : (setup : Setup) (history : List Entry) (at : ℕ) → at ≡ ratio setup history → at_ratio at setup ≡ setup_at setup history
scaled setup history at is = ap (λ r. at_ratio r setup) is

-- while no frame is open, the last one that began is finished
pub all-finished : (history : List Entry) → is_frame_open history ≡ false → to_finished history ≡ to_begin history
all-finished [] shut = refl
all-finished (before ▹ entry) shut = by_kind (all-finished before) (is_begin entry.kind) refl (is_finish entry.kind) refl
  where
    by_kind : (is_frame_open before ≡ false → to_finished before ≡ to_begin before) → (b : Bool) → is_begin entry.kind ≡ b → (f : Bool)
        → is_finish entry.kind ≡ f → to_finished (before ▹ entry) ≡ to_begin (before ▹ entry)
    by_kind earlier true begins f is = absurd (let wrong : true ≡ false = sym (ap (λ b. b || (not (is_finish entry.kind) && is_frame_open before)) begins)
        ∙ shut in cc)
    by_kind earlier false begins true ends = rw (begins, ends) refl
    by_kind earlier false begins false ends =
        let rests : is_frame_open before ≡ false = sym (λ i. begins i || (not (ends i) && is_frame_open before)) ∙ shut in
        rw (begins, ends) (earlier rests)

-- ---- the display alone finishes frames

one_of_display : (setup : Setup) (before : List Entry) (entry : Entry) → may_act setup entry.kind entry.actor ≡ true → frames before ≤ made 0 before
    → frames (before ▹ entry) ≤ made 0 (before ▹ entry)
one_of_display setup before entry acts few = by_actor entry.actor refl (is_finish entry.kind) refl
  where
    grown : made 0 (before ▹ entry) ≡ made 0 before + cond (seat_number entry.actor == 0) 1 0
    grown = grind (arith, common_steps)

    frames_grow : (b : Bool) → is_finish entry.kind ≡ b → frames (before ▹ entry) ≡ frames before + cond b 1 0
    frames_grow true is = rw is (omega arith)
    frames_grow false is = rw is (omega arith)

    by_actor : (actor : Actor) → entry.actor ≡ actor → (b : Bool) → is_finish entry.kind ≡ b → frames (before ▹ entry) ≤ made 0 (before ▹ entry)
    by_actor Display is true finish = let seat : ◌≡◌ {A = ℕ} (cond (seat_number entry.actor == 0) 1 0) 1 =
        ap (λ (a : Actor). cond (seat_number a == 0) 1 0) is in let f = frames_grow true finish in omega (arith, grown, seat, f)
    by_actor _ is false finish = let f = frames_grow false finish in omega (arith, grown, f)
    by_actor (Session s) is true finish =
        let may = and-left (session_may entry.kind) (is_declared setup s) (sym (ap (may_act setup entry.kind) is) ∙ acts) in
        absurd (let both : true ≡ false = sym finish ∙ not-finish entry.kind may in cc)
    by_actor (Probe p) is true finish = absurd (let both : false ≡ true = sym (ap (may_act setup entry.kind) is) ∙ acts in cc)

-- no more frames are finished than the display made entries
pub few_frames : (setup : Setup) (history : List Entry) → Legal setup history → frames history ≤ made 0 history
few_frames setup [] legal = omega arith
few_frames setup (before ▹ entry) legal = one_of_display setup before entry legal.1.may.acts (few_frames setup before legal.0)
