-- What a probe was answered, line by line.
use Rattle.std.proofs.Common.{◌≡◌, ℕ, ◌+◌, ◌≤◌, Bool, true, false, cond, List, [], ◌∷◌, ◌++◌, length, take, refl, sym, ap, ◌∙◌, subst, append-nil}
use Rattle.std.proofs.lemmas.List.{take_all}
use Rattle.std.proofs.lemmas.List.Elements.{filter-append}
use mathlib.Core.List.{IsPrefix}
use Rattle.flat_base.specs.declared.ids.Actor.{Actor}
use Rattle.flat_base.specs.declared.ids.Actor.TheVariants.{Display, Session, Probe}
use Rattle.flat_scene.specs.declared.script.LineBody.{LineBody}
use Rattle.flat_scene.specs.declared.script.LineBody.TheVariants as body
use Rattle.flat_scene.specs.declared.script.ProbeLine.{ProbeLine}
use Rattle.flat_scene.specs.declared.script.ScriptLine.{ScriptLine}
use Rattle.flat_scene.specs.declared.setup.Setup.{Setup}
use Rattle.flat_places.specs.declared.script.Script.{Script}
use Rattle.flat_playable.specs.Playable.{is_played}
use Rattle.flat_report.specs.Report.{is_probe, probe_lines_of}
use Rattle.flat_publish.specs.Frames.{last_number, IsRising}
use Rattle.flat_publish.specs.State.{Seen}
use Rattle.flat_play.proofs.lemmas.Steps.{At}
use Rattle.flat_report.specs.declared.probes.ProbeAnswer.{ProbeAnswer}
use Rattle.flat_report.specs.Probes.{AreAnsweredBy, answer_by}
use Rattle.flat_race.specs.Probing.{ProbeStands}
use Rattle.flat_race.specs.Publishing.{hits_of}
use Rattle.flat_report.proofs.lemmas.ProbeSteps.{last-answer-more, none-answered}
use Rattle.flat_race.proofs.lemmas.SeenFrames.{seen-more}

module _ (script : Script) (p place : ℕ) (x : ScriptLine) (at : At script place x) where
  lines-then : probe_lines_of p (take (place + 1) script.lines) ≡ probe_lines_of p (take place script.lines) ++ probe_lines_of p (x ∷ [])
  lines-then = ap (probe_lines_of p) at.taken ∙ filter-append (λ (line : ScriptLine). is_probe p line.actor) (take place script.lines) (x ∷ [])

  lines-by : (b : Bool) → is_probe p x.actor ≡ b → probe_lines_of p (take (place + 1) script.lines) ≡ probe_lines_of p (take place script.lines)
      ++ cond b (x ∷ []) []
  lines-by b is = lines-then ∙ ap (λ b. probe_lines_of p (take place script.lines) ++ cond b (x ∷ []) []) is

  -- a line that isn't the probe's
  pub probe-skips : is_probe p x.actor ≡ false → (probe : Seen) (answers : List ProbeAnswer) → ProbeStands script p place probe answers
      → ProbeStands script p (place + 1) probe answers
  probe-skips other probe answers stands =
      let same : probe_lines_of p (take (place + 1) script.lines) ≡ probe_lines_of p (take place script.lines) =
      lines-by false other ∙ append-nil (probe_lines_of p (take place script.lines)) in
      let P : List ScriptLine → Type 0 = λ lines. AreAnsweredBy (hits_of probe.frames) (last_number probe.frames) lines answers in
      subst P (sym same) stands

  -- its own line, which was answered by the frame seen last
  pub probe-answers : (asked : ProbeLine) → is_probe p x.actor ≡ true → x.body ≡ body.Probe asked → (old new : Seen) (answers answers' : List ProbeAnswer)
      → IsPrefix old.frames new.frames → IsRising new.frames
      → answers' ≡ answers ++ answer_by (hits_of new.frames) (record { number = x.number; actor = x.actor; body = body.Probe asked }, last_number new.frames)
      ∷ []
      → ProbeStands script p place old answers → ProbeStands script p (place + 1) new answers'
  probe-answers asked mine is old new answers answers' grows rise gained stands =
      let was = seen-more old.frames new.frames grows rise (probe_lines_of p (take place script.lines)) answers stands in
      let line : ScriptLine = record { number = x.number; actor = x.actor; body = body.Probe asked } in
      let same : x ≡ line = ap (λ (b : LineBody). let l : ScriptLine = record { number = x.number; actor = x.actor; body = b } in l) is in
      let lines : probe_lines_of p (take (place + 1) script.lines) ≡ probe_lines_of p (take place script.lines) ++ line ∷ [] =
      lines-by true mine ∙ ap (λ (l : ScriptLine). probe_lines_of p (take place script.lines) ++ l ∷ []) same in
      let P : List ScriptLine → Type 0 = λ ls. AreAnsweredBy (hits_of new.frames) (last_number new.frames) ls answers' in
      let Q : List ProbeAnswer → Type 0 = λ all. AreAnsweredBy (hits_of new.frames) (last_number new.frames)
      (probe_lines_of p (take place script.lines) ++ line ∷ []) all in
      subst P (sym lines) (subst Q (sym gained) (last-answer-more was line))

-- before the first line
pub probe-starts : (script : Script) (p : ℕ) (probe : Seen) (answers : List ProbeAnswer) → answers ≡ [] → ProbeStands script p 0 probe answers
probe-starts script p probe answers none = let P : List ProbeAnswer → Type 0 =
    ProbeStands script p 0 probe in subst P (sym none) (none-answered (hits_of probe.frames) (last_number probe.frames))

-- behind the last one
pub probe-ends : (script : Script) (p place : ℕ) (probe : Seen) (answers : List ProbeAnswer) → length script.lines ≤ place
    → ProbeStands script p place probe answers
    → AreAnsweredBy (hits_of probe.frames) (last_number probe.frames) (probe_lines_of p script.lines) answers
probe-ends script p place probe answers all stands =
    let P : List ScriptLine → Type 0 = λ lines. AreAnsweredBy (hits_of probe.frames) (last_number probe.frames) (probe_lines_of p lines) answers in
    subst P (take_all place script.lines all) stands

-- a line of a probe asks it something
pub no-other : (setup : Setup) (p : ℕ) (who : Actor) (text : LineBody) → is_probe p who ≡ true → is_played setup who text ≡ true
    → ((asked : ProbeLine) → text ≡ body.Probe asked → ⊥) → ⊥
no-other setup p (Probe q) (body.Probe asked) mine played other = other asked refl
no-other setup p (Probe q) (body.Session text) mine played other = cc
no-other setup p (Probe q) (body.Display text) mine played other = cc
no-other setup p Display text mine played other = let wrong : false ≡ true = mine in cc
no-other setup p (Session s) text mine played other = let wrong : false ≡ true = mine in cc
