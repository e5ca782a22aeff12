-- One turn of a run that follows a text, from the parts of an entry's lines.
use Rattle.std.proofs.Common.{◌≡◌, ℕ, ◌+◌, ◌<◌, ◌≤◌, Bool, true, false, List, [], Result, Ok, Err, IfOk, sym, ap, ◌∙◌, subst, arith, true≢false}
use Rattle.flat_scene.specs.declared.journal.Entry.{Entry}
use Rattle.flat_scene.specs.History.{◌▹◌}
use Rattle.flat_rules.specs.Legal.{frames}
use Rattle.flat_places.specs.declared.script.Script.{Script}
use Rattle.flat_judge.specs.declared.following.ReplayProgress.{ReplayProgress}
use Rattle.flat_judge.specs.declared.following.FollowedRun.{FollowedRun}
use Rattle.flat_judge.specs.Following.{AreLosses, HasStopped, IsAlong, IsPart, MakesNext, Stays}
use Rattle.flat_judge.specs.FollowedRuns.{Follows}

module _ (script : Script) (text : List ℕ) where
  -- the text has the lines
  pub held : {So : ReplayProgress → Type 0} (frame from : ℕ) (along : ReplayProgress) (b : Bool) → b ≡ true → Stays script text frame from So along b
      → So along × (from ≤ along.at)
  held frame from along true is (Stays.stays so upto) = (so, upto)
  held frame from along false is (Stays.parts none losses) = absurd (true≢false (sym is))

  -- it hasn't
  pub parted : {So So' : ReplayProgress → Type 0} (n m from from' : ℕ) (along : ReplayProgress) (b : Bool) → b ≡ false
      → ((lost : AreLosses n along.lost) → AreLosses m along.lost) → Stays script text n from So along b → Stays script text m from' So' along false
  parted n m from from' along false is later (Stays.parts none losses) = Stays.parts none (later losses)
  parted n m from from' along true is later (Stays.stays so upto) = absurd (true≢false is)

  from-earlier : {So : ReplayProgress → Type 0} (frame from from' : ℕ) (along : ReplayProgress) (b : Bool) → from' ≤ from
      → Stays script text frame from So along b
      → Stays script text frame from' So along b
  from-earlier frame from from' along true less (Stays.stays so upto) = Stays.stays so (omega (arith, less, upto))
  from-earlier frame from from' along false less (Stays.parts none losses) = Stays.parts none losses

  pub result-earlier : {E : Type 0} (So : ReplayProgress → Type 0) (frame from from' : ℕ) (along : ReplayProgress) (r : Result Bool E) → from' ≤ from
      → IfOk r (Stays script text frame from So along) → IfOk r (Stays script text frame from' So along)
  result-earlier So frame from from' along (Ok b) less stays = from-earlier frame from from' along b less stays
  result-earlier So frame from from' along (Err e) less stays = tt

-- ---- a turn

module _ (script : Script) (text : List ℕ) (old new : FollowedRun) where
  -- no entry comes next
  pub turn-stops : (b : Bool) → b ≡ false → IsAlong script text old.run.screen.board.history old.along
      → MakesNext script text old.run.screen.board.history new.run.screen.board.history old.along b → new.along ≡ old.along → Follows script text old new false
  turn-stops false is along (MakesNext.stops same only) along_is =
      let H : List Entry → ReplayProgress → Type 0 = HasStopped script text in
      let H1 : List Entry → Type 0 = λ h. H h old.along in
      let H2 : ReplayProgress → Type 0 = H new.run.screen.board.history in
      Follows.stops (subst H2 (sym along_is) (subst H1 (sym same) (record { only = only; losses = along.losses })))
  turn-stops true is along (MakesNext.makes entry grown part) along_is = absurd (true≢false is)

  -- What is told of the last entry, by what is known of it.
  abbrev pub Tells : ReplayProgress → ReplayProgress → List Entry → Bool → Type 0
  Tells was is history b = (before : List Entry) (entry : Entry) → history ≡ (before ▹ entry) → IsPart script text before entry [] (frames before) was
      → Stays script text (frames (before ▹ entry)) (was.at + 1) (IsAlong script text (before ▹ entry)) is b

  -- it stays so by another name of what was
  pub tells-from : (was : ReplayProgress) (history : List Entry) (b : Bool) → was ≡ old.along → Tells was new.along history b
      → Tells old.along new.along history b
  tells-from was history b same tells = let T : ReplayProgress → Type 0 = λ a. Tells a new.along history b in subst T same tells

  -- an entry whose lines the text hasn't
  pub turn-parts : (made b : Bool) → made ≡ true → b ≡ false → (after : List Entry) → MakesNext script text old.run.screen.board.history after old.along made
      → Tells old.along new.along after b → new.run.screen.board.history ≡ after → Follows script text old new false
  turn-parts true false made is after (MakesNext.makes entry grown part) tells same =
      by (tells old.run.screen.board.history entry grown part) (ap frames (grown))
    where
      by : Stays script text (frames (old.run.screen.board.history ▹ entry)) (old.along.at + 1) (IsAlong script text (old.run.screen.board.history ▹ entry))
          new.along false → frames after ≡ frames (old.run.screen.board.history ▹ entry) → Follows script text old new false
      by (Stays.parts none losses) many =
          let A : ℕ → Type 0 = λ n. AreLosses n new.along.lost in
          Follows.stops (record { only = λ read run report. absurd (none read run report); losses = subst A (sym (ap frames same ∙ many)) losses })
  turn-parts true true made is after made_it tells same = absurd (true≢false is)
  turn-parts false b made is after made_it tells same = absurd (true≢false (sym made))

  -- an entry whose lines it has
  pub turn-goes : (made b : Bool) → made ≡ true → b ≡ true → (after : List Entry) → MakesNext script text old.run.screen.board.history after old.along made
      → Tells old.along new.along after b → new.run.screen.board.history ≡ after → Follows script text old new true
  turn-goes true true made is after (MakesNext.makes entry grown part) tells same = by (tells old.run.screen.board.history entry grown part)
    where
      by : Stays script text (frames (old.run.screen.board.history ▹ entry)) (old.along.at + 1) (IsAlong script text (old.run.screen.board.history ▹ entry))
          new.along true → Follows script text old new true
      by (Stays.stays along upto) =
          let A : List Entry → Type 0 = λ h. IsAlong script text h new.along in
          Follows.goes (subst A (sym (same ∙ grown)) along) (omega (arith, upto))
  turn-goes true false made is after made_it tells same = absurd (true≢false (sym is))
  turn-goes false b made is after made_it tells same = absurd (true≢false (sym made))

-- ---- turn after turn

pub follows-true : (script : Script) (text : List ℕ) (old new : FollowedRun) (b : Bool) → b ≡ true → Follows script text old new b
    → IsAlong script text new.run.screen.board.history new.along × (old.along.at < new.along.at)
follows-true script text old new true is (Follows.goes along less) = (along, less)
follows-true script text old new false is (Follows.stops stopped) = absurd (true≢false (sym is))

pub follows-false : (script : Script) (text : List ℕ) (old new : FollowedRun) (b : Bool) → b ≡ false → Follows script text old new b
    → HasStopped script text new.run.screen.board.history new.along
follows-false script text old new false is (Follows.stops stopped) = stopped
follows-false script text old new true is (Follows.goes along less) = absurd (true≢false is)
