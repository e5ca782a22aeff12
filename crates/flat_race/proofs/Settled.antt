-- Settled answers are answers by the frames that are published.
use Rattle.std.proofs.Common.{◌≡◌, ℕ, ℤ, zero, suc, ◌<◌, ◌≤◌, Bool, true, false, cond, nat_le, List, [], ◌∷◌, ◌++◌, length, map, take, drop, slice_get}
use Rattle.std.proofs.Common.{slice_set, Some, refl, sym, ap, ◌∙◌, subst, arith}
use Rattle.std.specs.List.{list_all, zip}
use Rattle.std.proofs.lemmas.Bool.Decides.{nat_tests}
use Rattle.flat_base.proofs.lemmas.Tests.{and-left, and-right, and-true}
use Rattle.flat_base.specs.declared.ids.FrameNo.{FrameNo}
use Rattle.flat_scene.specs.declared.frames.Hit.{Hit}
use Rattle.flat_scene.specs.declared.journal.Entry.{Entry}
use Rattle.flat_scene.specs.declared.setup.Setup.{Setup}
use Rattle.flat_scene.specs.declared.script.ProbeLine.{ProbeLine}
use Rattle.flat_scene.specs.declared.script.ProbeLine.TheVariants as probe
use Rattle.flat_scene.specs.declared.script.ScriptLine.{ScriptLine}
use Rattle.flat_report.specs.declared.probes.ProbeAnswer.{ProbeAnswer}
use Rattle.flat_report.specs.Probes.{AreAnsweredBy, answer_by, asked_by, asked_hits, frame_seen, never_fall_from}
use Rattle.flat_rules.specs.Ends.{to_finished}
use Rattle.flat_rules.specs.Legal.{frames}
use Rattle.flat_scene.specs.Frames.{ratio}
use Rattle.flat_scene.specs.Setups.{at_ratio}
use Rattle.flat_rules.specs.Shown.{shown_states}
use Rattle.flat_topology.specs.Hits.{hit_list}
use Rattle.flat_places.specs.declared.script.Script.{Script}
use Rattle.flat_publish.specs.Frames.{last_number}
use Rattle.flat_publish.specs.State.{Publishing}
use Rattle.flat_report.specs.Report.{hits_at}
use Rattle.flat_play.specs.declared.frame.LastFrame.{LastFrame}
use Rattle.flat_play.specs.Last.{StaysLast}
use Rattle.flat_play.proofs.lemmas.Seen.{last-begin}
use Rattle.flat_race.specs.Settling.{LastIsPublished, by_last, settled}
use Rattle.flat_race.specs.Publishing.{hits_of, published_frames}
use Rattle.flat_race.proofs.Published.{last-published, published-hits}

-- ---- one after another

module _ {A : Type 0} (f : A → A) where
  -- the first so many items with another in their place
  abbrev pub first-mapped : ℕ → List A → List A
  first-mapped n xs = map f (take n xs) ++ drop n xs

  pub next-is : (n : ℕ) (xs : List A) → n < length xs → slice_get (first-mapped n xs) n ≡ slice_get xs n
  next-is n [] within = absurd (omega (arith, within))
  next-is zero (x ∷ xs) within = refl
  next-is (suc n) (x ∷ xs) within = next-is n xs (omega (arith, within))

  pub next-mapped : (n : ℕ) (xs : List A) (x : A) → slice_get xs n ≡ Some x → slice_set (first-mapped n xs) n (f x) ≡ first-mapped (suc n) xs
  next-mapped n [] x at = absurd (cc)
  next-mapped zero (y ∷ xs) x at = let same : y ≡ x = cc in ap (λ (z : A). f z ∷ xs) (sym same)
  next-mapped (suc n) (y ∷ xs) x at = ap (λ (zs : List A). f y ∷ zs) (next-mapped n xs x at)

  pub all-mapped : (n : ℕ) (xs : List A) → length xs ≤ n → first-mapped n xs ≡ map f xs
  all-mapped zero [] long = refl
  all-mapped (suc n) [] long = refl
  all-mapped zero (x ∷ xs) long = absurd (omega (arith, long))
  all-mapped (suc n) (x ∷ xs) long = ap (λ (zs : List A). f x ∷ zs) (all-mapped n xs (omega (arith, long)))

  pub mapped-long : (n : ℕ) (xs : List A) → length (first-mapped n xs) ≡ length xs
  mapped-long n [] = (by n)
    where
      by : (n : ℕ) → length (first-mapped n []) ≡ 0
      by zero = refl
      by (suc n) = refl
  mapped-long zero (x ∷ xs) = refl
  mapped-long (suc n) (x ∷ xs) = ap suc (mapped-long n xs)

-- there is an item at each place
pub some-at : {A : Type 0} (n : ℕ) (xs : List A) → n < length xs → (x : A) × (slice_get xs n ≡ Some x)
some-at n [] within = absurd (omega (arith, within))
some-at zero (x ∷ xs) within = (x, refl)
some-at (suc n) (x ∷ xs) within = some-at n xs (omega (arith, within))

-- an item in its own place
pub set-same : {A : Type 0} (n : ℕ) (xs : List A) (x : A) → slice_get xs n ≡ Some x → slice_set xs n x ≡ xs
set-same n [] x at = refl
set-same zero (y ∷ xs) x at = let same : y ≡ x = cc in ap (λ (z : _). z ∷ xs) (sym same)
set-same (suc n) (y ∷ xs) x at = ap (λ (zs : List _). y ∷ zs) (set-same n xs x at)

-- ---- answers

-- an answer by a frame up to the last one stands
pub stands : (last : ℕ) (shown : ℤ → ℤ → List Hit) (answer : ProbeAnswer) → answer.frame.0 ≤ last → settled last shown answer ≡ answer
stands last shown answer low = let is : nat_le answer.frame.0 last ≡ true = grind (arith, nat_tests) in rw is refl

-- hits that agree at each point are asked alike
same-asked : (hits hits' : ℤ → ℤ → List Hit) → ((x y : ℤ) → hits x y ≡ hits' x y) → (asked : ProbeLine) → asked_hits hits asked ≡ asked_hits hits' asked
same-asked hits hits' same (probe.Hit x y) = same x y
same-asked hits hits' same (probe.Await n) = refl

module _ (hits hits' : ℕ → ℤ → ℤ → List Hit) (last : ℕ) (shown : ℤ → ℤ → List Hit) (agree : (n : ℕ) → n ≤ last → (x y : ℤ) → hits n x y ≡ hits' n x y)
    (shows : (x y : ℤ) → shown x y ≡ hits' last x y) where
  abbrev settle : ProbeAnswer → ProbeAnswer
  settle = settled last shown

  -- the frame that a settled answer is by
  abbrev lower : ℕ → ℕ
  lower n = cond (nat_le n last) n last

  lower-is : (answer : ProbeAnswer) → frame_seen (settle answer) ≡ lower (frame_seen answer)
  lower-is answer = by (nat_le (frame_seen answer) last) refl
    where
      by : (b : Bool) → nat_le (frame_seen answer) last ≡ b → frame_seen (cond b answer (by_last last shown answer)) ≡ cond b (frame_seen answer) last
      by true is = refl
      by false is = refl

  -- an answer by a frame, settled
  settle-one : (line : ScriptLine) (n : ℕ) → settle (answer_by hits (line, n)) ≡ answer_by hits' (line, lower n)
  settle-one line n = by (nat_le n last) refl
    where
      by : (b : Bool) → nat_le n last ≡ b → cond b (answer_by hits (line, n)) (by_last last shown (answer_by hits (line, n)))
          ≡ answer_by hits' (line, cond b n last)
      by true is =
          let low : n ≤ last = grind (arith, nat_tests) in
          λ i. record {
            actor = line.actor;
            line = line.number;
            asked = asked_by line.body;
            frame = record { 0 = n };
            hits = same-asked (hits n) (hits' n) (λ x y. agree n low x y) (asked_by line.body) i;
          }
      by false is =
          λ i. record {
            actor = line.actor;
            line = line.number;
            asked = asked_by line.body;
            frame = record { 0 = last };
            hits = same-asked shown (hits' last) shows (asked_by line.body) i;
          }

  settle-all : (lines : List ScriptLine) (seen : List ℕ)
      → map settle (map (answer_by hits) (zip lines seen)) ≡ map (answer_by hits') (zip lines (map lower seen))
  settle-all [] seen = refl
  settle-all (line ∷ lines) [] = refl
  settle-all (line ∷ lines) (n ∷ seen) = λ i. settle-one line n i ∷ settle-all lines seen i

  seen-lower : (answers : List ProbeAnswer) → map frame_seen (map settle answers) ≡ map lower (map frame_seen answers)
  seen-lower [] = refl
  seen-lower (answer ∷ answers) = λ i. lower-is answer i ∷ seen-lower answers i

  many : (answers : List ProbeAnswer) → length (map settle answers) ≡ length answers
  many [] = refl
  many (answer ∷ answers) = ap suc (many answers)

  low : (n : ℕ) → nat_le (lower n) last ≡ true
  low n = by (nat_le n last) refl
    where
      by : (b : Bool) → nat_le n last ≡ b → nat_le (cond b n last) last ≡ true
      by true is = is
      by false is = grind (arith, nat_tests)

  all-low : (seen : List ℕ) → list_all (λ frame. nat_le frame last) (map lower seen) ≡ true
  all-low [] = refl
  all-low (n ∷ seen) = and-true (low n) (all-low seen)

  lower-rises : (n m : ℕ) → nat_le n m ≡ true → nat_le (lower n) (lower m) ≡ true
  lower-rises n m le = by (nat_le n last) refl (nat_le m last) refl
    where
      by : (b : Bool) → nat_le n last ≡ b → (c : Bool) → nat_le m last ≡ c → nat_le (cond b n last) (cond c m last) ≡ true
      by true is true of = le
      by true is false of = is
      by false is true of = absurd (let high : nat_le n last ≡ true = grind (arith, nat_tests) in let both : true ≡ false = sym high ∙ is in cc)
      by false is false of = grind (arith, nat_tests)

  still-rise : (from : ℕ) (seen : List ℕ) → never_fall_from from seen ≡ true → never_fall_from (lower from) (map lower seen) ≡ true
  still-rise from [] rise = refl
  still-rise from (n ∷ seen) rise = and-true (lower-rises from n (and-left (nat_le from n) _ rise)) (still-rise n seen (and-right (nat_le from n) _ rise))

  from-none : (seen : List ℕ) → never_fall_from 0 seen ≡ true → never_fall_from 0 (map lower seen) ≡ true
  from-none [] rise = refl
  from-none (n ∷ seen) rise = and-true (let least : nat_le 0 (lower n) ≡ true = grind (arith, nat_tests) in least)
      (still-rise n seen (and-right (nat_le 0 n) _ rise))

  -- answers by some frames, settled, are answers by those that agree with them up to the last one
  pub settled-answers : (top : ℕ) (lines : List ScriptLine) (answers : List ProbeAnswer) → AreAnsweredBy hits top lines answers
      → AreAnsweredBy hits' last lines (map (settled last shown) answers)
  settled-answers top lines answers was =
      let seen = seen-lower answers in
      record {
        as_many = many answers ∙ was.as_many;
        are = ap (map settle) was.are ∙ settle-all lines (map frame_seen answers) ∙ ap (λ (fs : List ℕ). map (answer_by hits') (zip lines fs)) (sym seen);
        within = ap (list_all (λ frame. nat_le frame last)) seen ∙ all-low (map frame_seen answers);
        rise = ap (never_fall_from 0) seen ∙ from-none (map frame_seen answers) was.rise;
      }

-- ---- what is published last

-- whatever is joined of the last frame, it is published last
pub last-stays : (setup : Setup) (old new : LastFrame) (was now : Publishing) → StaysLast setup old new → now ≡ was → LastIsPublished setup old was
    → LastIsPublished setup new now
last-stays setup old new was now stays same is =
    let P : Publishing → Type 0 = LastIsPublished setup new in
    subst P (sym same) (record {
      number = ap (λ (n : FrameNo). n.0) stays.frame ∙ is.number;
      hits = λ x y. (λ i. hit_list (at_ratio (stays.ratio i) setup) (stays.reuse i) x y) ∙ is.hits x y;
    })

-- behind all lines of the display
pub last-published-is : (script : Script) (history : List Entry) (last : LastFrame) (published : Publishing) → last.frame.0 ≡ frames history
    → last.reuse ≡ shown_states script.setup (to_finished history) → last.ratio ≡ ratio script.setup (to_finished history)
    → published.frames ≡ published_frames script.setup history → LastIsPublished script.setup last published
last-published-is script history last published number shows scales are =
    let counted : last_number published.frames ≡ frames history = ap last_number are ∙ last-published script.setup history in
    record {
      number = number ∙ sym counted;
      hits = λ x y.
          (λ i. hit_list (at_ratio (scales i) script.setup) (shows i) x y) ∙ ap (λ begun. hits_at script.setup begun x y) (sym (last-begin history))
          ∙ sym (published-hits script.setup history (frames history) x y (omega arith))
          ∙ (λ i. hits_of (sym are i) (sym counted i) x y);
    }
