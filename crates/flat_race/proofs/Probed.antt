-- What probes were answered, once they have met what was published.
use Rattle.std.proofs.Common.{◌≡◌, inl, inr, ℕ, zero, suc, ◌+◌, ◌<◌, ◌≤◌, true, List, [], ◌∷◌, ◌++◌, length, slice_get, slice_index_or, slice_set, replicate}
use Rattle.std.proofs.Common.{length-append, Option, Some, None, Fits, w32, nat_le, rules, refl, sym, ap, ◌∙◌, subst, arith}
use Rattle.std.proofs.lemmas.Bool.Decides.{nat_tests}
use Rattle.std.proofs.lemmas.Option.{slice_get_within}
use mathlib.Core.List.{IsPrefix}
use Rattle.flat_base.proofs.lemmas.Tests.{and-left, and-right}
use Rattle.flat_base.specs.declared.limits.TheConstants.{PROBES_MAX}
use Rattle.logbook.specs.Pages.{Book}
use Rattle.flat_scene.specs.declared.journal.Entry.{Entry}
use Rattle.flat_scene.specs.declared.script.ScriptLine.{ScriptLine}
use Rattle.flat_scene.specs.declared.setup.Setup.{Setup}
use Rattle.flat_scene.specs.Heads.{is_setup}
use Rattle.flat_places.specs.declared.script.Script.{Script}
use Rattle.flat_report.specs.Report.{probe_lines_of}
use Rattle.flat_publish.specs.declared.frame.Frame.{Frame}
use Rattle.flat_publish.specs.Frames.{last_number, IsRising}
use Rattle.flat_publish.specs.State as publish
use Rattle.flat_publish.specs.State.{Seen, newcomer}
use Rattle.flat_publish.proofs.lemmas.Beginnings.{same_last}
use Rattle.flat_play.proofs.lemmas.Starting.{limits_are}
use Rattle.flat_race.specs.declared.probe_threads.LentProbe.{LentProbe}
use Rattle.flat_report.specs.declared.probes.ProbeAnswer.{ProbeAnswer}
use Rattle.flat_report.specs.Probes.{AreAnsweredBy, ProbesAnswered}
use Rattle.flat_race.specs.ProbeThreads.{AreAnswered, AreProbesOut, IsProbeOut}
use Rattle.flat_race.specs.Publishing.{PublishedStand, hits_of, published_frames}
use Rattle.flat_race.proofs.Outs.{got-push}
use Rattle.flat_report.proofs.lemmas.ProbeSteps.{answered-later, still-answered}
use Rattle.flat_race.proofs.Published.{last-published, published-hits}
use Rattle.flat_race.proofs.lemmas.SeenFrames.{seen-more}

-- a probe that begins with all that was published, and saw no later frame, saw just that
pub seen-published : (old new published : List Frame) → IsPrefix old new → IsPrefix published new → IsRising new → last_number new ≡ last_number published
    → (lines : List ScriptLine) (answers : List ProbeAnswer)
    → AreAnsweredBy (hits_of old) (last_number old) lines answers → AreAnsweredBy (hits_of published) (last_number published) lines answers
seen-published old new published grows meets rise last lines answers answered =
    let same : published ≡ new = same_last None published new meets rise (omega (arith, last)) in
    subst (λ (fs : List Frame). AreAnsweredBy (hits_of fs) (last_number fs) lines answers) (sym same) (seen-more old new grows rise lines answers answered)

-- ---- probes that are out, and come back

out-behind : (script : Script) (book : Book) (first : ℕ) (outs : List LentProbe) (out : LentProbe) → AreProbesOut script book first outs
    → IsProbeOut script book (first + length outs) out → AreProbesOut script book first (outs ++ out ∷ [])
out-behind script book first [] out are is = (subst (λ (n : ℕ). IsProbeOut script book n out) (omega arith) is, tt)
out-behind script book first (o ∷ outs) out are is = (
  are.0,
  out-behind script book (first + 1) outs out are.1 (subst (λ (n : ℕ). IsProbeOut script book n out) (omega arith) is),
)

-- one more is out
pub probe-out : (script : Script) (book : Book) (outs outs' : List LentProbe) (out : LentProbe) (p : ℕ) → outs' ≡ outs ++ out ∷ [] → length outs ≡ p
    → IsProbeOut script book p out → AreProbesOut script book 0 outs → AreProbesOut script book 0 outs'
probe-out script book outs outs' out p longer many is are =
    let P : List LentProbe → Type 0 = AreProbesOut script book 0 in
    subst P (sym longer) (out-behind script book 0 outs out are (subst (λ (n : ℕ). IsProbeOut script book n out) (omega (arith, many)) is))

-- the first one is taken
pub probe-next : (script : Script) (book : Book) (p : ℕ) (outs outs' : List LentProbe) (out : LentProbe) → outs ≡ out ∷ outs' → AreProbesOut script book p outs
    → IsProbeOut script book p out × AreProbesOut script book (p + 1) outs'
probe-next script book p outs outs' out is are = subst (AreProbesOut script book p) is are

-- one more is answered
pub answered-more : (script : Script) (seen : Seen) (p : ℕ) (answers answers' : List (List ProbeAnswer)) (one : List ProbeAnswer)
    → answers' ≡ answers ++ one ∷ []
    → AreAnsweredBy (hits_of seen.frames) (last_number seen.frames) (probe_lines_of p script.lines) one → AreAnswered script seen p answers
    → AreAnswered script seen (p + 1) answers'
answered-more script seen p answers answers' one longer is are = record {
  many = ap length longer ∙ length-append answers (one ∷ []) ∙ ap (λ n. n + 1) are.many;
  each = λ n x got. elim (got-push answers one n x (subst (λ (l : List (List ProbeAnswer)). slice_get l n ≡ Some x) longer got)) [
    | inl before ↦ are.each n x before
    | inr last ↦
        let A : List ProbeAnswer → Type 0 = λ y. AreAnsweredBy (hits_of seen.frames) (last_number seen.frames) (probe_lines_of n script.lines) y in
        let N : ℕ → Type 0 = λ m. AreAnsweredBy (hits_of seen.frames) (last_number seen.frames) (probe_lines_of m script.lines) one in
        subst A (sym last.1) (subst N (sym (last.0 ∙ are.many)) is)
  ];
}

pub answered-none : (script : Script) (seen : Seen) (answers : List (List ProbeAnswer)) → answers ≡ [] → AreAnswered script seen 0 answers
answered-none script seen answers none = record {
  many = ap length none;
  each = λ n x got. absurd (let wrong : None ≡ Some x = sym (ap (λ l. slice_get l n) none) ∙ got in cc);
}

pub few-probes : (setup : Setup) → is_setup setup ≡ true → setup.probes ≤ PROBES_MAX
few-probes setup is =
    let limits = limits_are setup is in
    let within : nat_le setup.probes PROBES_MAX ≡ true = and-right _ _ (and-left _ _ (and-left _ _ (and-left _ _ limits))) in
    below within
  where
    below : nat_le setup.probes PROBES_MAX ≡ true → setup.probes ≤ PROBES_MAX
    below within = grind (arith, nat_tests)

pub few-fits : (n : ℕ) → n ≤ 8 → Fits w32 n
few-fits n few = search rules

pub at-home : {X : Type 0} (n k : ℕ) (x d : X) → k < n → slice_index_or (replicate n x) k d ≡ x
at-home zero k x d below = absurd (omega (arith, below))
at-home (suc n) zero x d below = refl
at-home (suc n) (suc k) x d below = at-home n k x d (omega (arith, below))

-- one more was taken of those at home
pub home-without : (book : Book) (p count : ℕ) (seats seats' : List (Option Seen)) → seats' ≡ slice_set seats p None
    → ((k : ℕ) → p ≤ k → k < count → slice_index_or seats k None ≡ Some (newcomer book))
    → (k : ℕ) → p + 1 ≤ k → k < count → slice_index_or seats' k None ≡ Some (newcomer book)
home-without book p count seats seats' taken home k above below =
    ap (λ (ss : List (Option Seen)). slice_index_or ss k None) taken ∙ other seats p k (omega (arith, above)) ∙ home k (omega (arith, above)) below
  where
    other : (ss : List (Option Seen)) (i j : ℕ) → i < j → slice_index_or (slice_set ss i None) j None ≡ slice_index_or ss j None
    other [] i j less = refl
    other (s ∷ ss) zero zero less = absurd (omega (arith, less))
    other (s ∷ ss) zero (suc j) less = refl
    other (s ∷ ss) (suc i) zero less = absurd (omega (arith, less))
    other (s ∷ ss) (suc i) (suc j) less = other ss i j (omega (arith, less))

-- ---- of a history

-- what is answered by what was published is answered by the frames of the history
pub answered-all : (script : Script) (history : List Entry) (published : publish.Publishing) (seen : Seen) (answers : List (List ProbeAnswer))
    → seen.frames ≡ published.frames → PublishedStand script history published
    → AreAnswered script seen script.setup.probes answers → ProbesAnswered script history answers
answered-all script history published seen answers same stand are = record {
  count = are.many;
  each = λ n one got. (
      let within = slice_get_within answers n one got in
      let many = are.many in
      let frames_are : seen.frames ≡ published_frames script.setup history = same ∙ stand.are (omega (arith, within, many)) in
      let P : List Frame → Type 0 = λ fs. AreAnsweredBy (hits_of fs) (last_number fs) (probe_lines_of n script.lines) one in
      let answered = subst P frames_are (are.each n one got) in
      let last = last-published script.setup history in
      still-answered (omega (arith, last)) (λ k low x y. published-hits script.setup history k x y (omega (arith, last, low))) (probe_lines_of n script.lines)
      one answered
      );
}

-- and by those of a longer one
pub answered-on-all : (script : Script) (later history all : List Entry) (answers : List (List ProbeAnswer)) → all ≡ later ++ history
    → ProbesAnswered script history answers → ProbesAnswered script all answers
answered-on-all script later history all answers longer are =
    let P : List Entry → Type 0 = λ h. ProbesAnswered script h answers in
    subst P (sym longer) (record {
      count = are.count;
      each =
          λ n one got. answered-later script.setup later history (probe_lines_of n script.lines) one (are.each n one got);
    })
