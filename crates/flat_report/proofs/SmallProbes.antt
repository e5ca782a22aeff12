-- Two probes beside a worked case of one frame, and small examples of what they are answered.
use Rattle.std.proofs.Common.{◌≡◌, ℕ, zero, suc, ℤ, pos, true, false, List, [], ◌∷◌, ◌++◌, Some, None, map, slice_get, refl, subst}
use Rattle.std.specs.Prelude.{codes}
use Rattle.std.specs.Fmt.{digits}
use Rattle.flat_base.specs.declared.ids.Actor.TheVariants.{Probe}
use Rattle.flat_scene.specs.declared.frames.Hit.{Hit}
use Rattle.flat_scene.specs.declared.script.LineBody.TheVariants as body
use Rattle.flat_scene.specs.declared.script.ProbeLine.{ProbeLine}
use Rattle.flat_scene.specs.declared.script.ProbeLine.TheVariants as probe
use Rattle.flat_scene.specs.declared.script.ScriptLine.{ScriptLine}
use Rattle.flat_scene.specs.declared.setup.Setup.{Setup}
use Rattle.flat_rules.proofs.lemmas.Runs.{one_fill_one_frame-setup, one_fill_one_frame-history, one_fill_one_frame-lines}
use Rattle.flat_places.specs.declared.script.Script.{Script}
use Rattle.flat_page.specs.Words.{line_of}
use Rattle.flat_report.specs.declared.probes.ProbeAnswer.{ProbeAnswer}
use Rattle.flat_report.specs.Handed.{answer_line}
use Rattle.flat_report.specs.Probes.{AreAnsweredBy, ProbesAnswered, ProbesAsk, answer_by, frames_seen, hits_in_frame, never_fall_from, seen_last_from}
use Rattle.flat_report.specs.Report.{is_seeing, probe_lines_of, report_lines}

-- ---- frames that are seen

-- they may stay and rise
rises : never_fall_from 0 (0 ∷ 1 ∷ 1 ∷ 3 ∷ []) ≡ true
rises = refl

falls : never_fall_from 0 (1 ∷ 3 ∷ 1 ∷ []) ≡ false
falls = refl

last : seen_last_from 0 (0 ∷ 1 ∷ 3 ∷ []) ≡ 3
last = refl

-- ---- answers

module _ (hits : ℕ → ℤ → ℤ → List Hit) where
  -- a point has the hits of its frame
  asked : answer_by hits (record { number = 16; actor = Probe 0; body = body.Probe (probe.Hit (pos 5) (pos 7)) }, 2)
      ≡ record { actor = Probe 0; line = 16; asked = probe.Hit (pos 5) (pos 7); frame = record { 0 = 2 }; hits = hits 2 (pos 5) (pos 7) }
  asked = refl

  -- and an await that nobody is hit by names the frame that it saw
  awaited : answer_by hits (record { number = 17; actor = Probe 0; body = body.Probe (probe.Await 1) }, 2)
      ≡ record { actor = Probe 0; line = 17; asked = probe.Await 1; frame = record { 0 = 2 }; hits = [] }
  awaited = refl

-- ---- a whole report

abbrev said : ℕ → ℕ → ProbeLine → ScriptLine
said number p asked = record { number = number; actor = Probe p; body = body.Probe asked }

abbrev watched-setup : Setup
watched-setup = record one_fill_one_frame-setup { probes = 2 }

abbrev watched-script : Script
watched-script = record {
  version = 1;
  setup = watched-setup;
  sessions = (codes "A" ∷ []);
  probes = (codes "P" ∷ codes "Q" ∷ []);
  buffers = [];
  pairs = (codes "t0" ∷ []);
  fences = [];
  lines = said 15 0 (probe.Hit (pos 5) (pos 5)) ∷ said 16 1 (probe.Await 1) ∷ one_fill_one_frame-lines
      ++ (said 17 0 (probe.Hit (pos 5) (pos 5)) ∷ said 18 0 (probe.Await 1) ∷ said 19 1 (probe.Hit (pos 500) (pos 5)) ∷ []);
  count = 19;
}

abbrev answer : ℕ → ℕ → ProbeLine → ℕ → ProbeAnswer
answer number p asked frame = answer_by (hits_in_frame watched-setup one_fill_one_frame-history) (said number p asked, frame)

abbrev of-p : List ProbeAnswer
of-p = answer 15 0 (probe.Hit (pos 5) (pos 5)) 0 ∷ answer 17 0 (probe.Hit (pos 5) (pos 5)) 1 ∷ answer 18 0 (probe.Await 1) 1 ∷ []

abbrev of-q : List ProbeAnswer
of-q = answer 16 1 (probe.Await 1) 1 ∷ answer 19 1 (probe.Hit (pos 500) (pos 5)) 1 ∷ []

of-p-are : AreAnsweredBy (hits_in_frame watched-setup one_fill_one_frame-history) 1 (probe_lines_of 0 watched-script.lines) of-p
of-p-are = record { as_many = refl; are = refl; within = refl; rise = refl }

of-q-are : AreAnsweredBy (hits_in_frame watched-setup one_fill_one_frame-history) 1 (probe_lines_of 1 watched-script.lines) of-q
of-q-are = record { as_many = refl; are = refl; within = refl; rise = refl }

some-is : {one other : List ProbeAnswer} → Some one ≡ Some other → one ≡ other
some-is is = cc

-- the lines of both are answered
watched : ProbesAnswered watched-script one_fill_one_frame-history (of-p ∷ of-q ∷ [])
watched = record { count = refl; each = each }
  where
    each : (n : ℕ) (one : List ProbeAnswer) → slice_get (of-p ∷ of-q ∷ []) n ≡ Some one
        → AreAnsweredBy (hits_in_frame watched-setup one_fill_one_frame-history) 1 (probe_lines_of n watched-script.lines) one
    each zero one is = subst (AreAnsweredBy (hits_in_frame watched-setup one_fill_one_frame-history) 1 (probe_lines_of 0 watched-script.lines)) (some-is is)
        of-p-are
    each (suc zero) one is = subst (AreAnsweredBy (hits_in_frame watched-setup one_fill_one_frame-history) 1 (probe_lines_of 1 watched-script.lines))
        (some-is is) of-q-are
    each (suc (suc n)) one is = absurd (let e : None ≡ Some one = is in cc)

all-ask : ProbesAsk watched-script
all-ask = refl

all-seen : frames_seen (of-p ∷ of-q ∷ []) ≡ 0 ∷ 1 ∷ 1 ∷ 1 ∷ 1 ∷ []
all-seen = refl

-- which a probe may see; but not a later frame first
may-see : is_seeing watched-script one_fill_one_frame-history (0 ∷ 1 ∷ 1 ∷ 1 ∷ 1 ∷ []) ≡ true
may-see = refl

may-not-see : is_seeing watched-script one_fill_one_frame-history (1 ∷ 0 ∷ 1 ∷ 1 ∷ 1 ∷ []) ≡ false
may-not-see = refl

-- the report says them behind the last entry, probe by probe
watched-report : map line_of (report_lines watched-script one_fill_one_frame-history [] (frames_seen (of-p ∷ of-q ∷ []))) ≡
    codes "report flatland 1"
    ∷ codes "A 6 CreateView ok"
    ∷ codes "A 12 Present 1 credits 0"
    ∷ codes "display 13 begin 1000 frame 1"
    ∷ codes "> A credits 5"
    ∷ codes "display 14 done frame 1"
    ∷ codes "item A 1 fill 255 0 0 255 10 10 m 0 65536 65536 0 0 v 0 0 655360 655360 o 65536 src"
    ∷ codes "view A - 0 0 6553600 6553600"
    ∷ codes "> A framepresented 1"
    ∷ codes "A end 0"
    ∷ codes "P 15 hit 5 5 frame 0"
    ∷ codes "P 17 hit 5 5 frame 1 A 0"
    ∷ codes "P 18 await frame 1"
    ∷ codes "Q 16 await frame 1"
    ∷ codes "Q 19 hit 500 5 frame 1"
    ∷ codes "report ends entries 5 frames 1"
    ∷ []
unfolding digits
watched-report = refl

-- and so do the lines of the answers
lines-of-p : map (λ one. line_of (answer_line watched-script one)) of-p ≡ codes "P 15 hit 5 5 frame 0" ∷ codes "P 17 hit 5 5 frame 1 A 0"
    ∷ codes "P 18 await frame 1" ∷ []
unfolding digits
lines-of-p = refl
