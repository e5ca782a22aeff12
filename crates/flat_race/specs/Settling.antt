-- The answers of a probe that has come back, held against the last finished frame.
use Rattle.std.specs.Prelude.{◌≡◌, ℕ, ℤ, cond, nat_le, List}
use Rattle.flat_scene.specs.declared.frames.Hit.{Hit}
use Rattle.flat_report.specs.declared.probes.ProbeAnswer.{ProbeAnswer}
use Rattle.flat_report.specs.Probes.{asked_hits}
use Rattle.flat_scene.specs.declared.setup.Setup.{Setup}
use Rattle.flat_scene.specs.Setups.{at_ratio}
use Rattle.flat_topology.specs.Hits.{hit_list}
use Rattle.flat_publish.specs.Frames.{last_number}
use Rattle.flat_publish.specs.State as publish
use Rattle.flat_play.specs.declared.frame.LastFrame.{LastFrame}
use Rattle.flat_race.specs.Publishing.{hits_of}

-- the answer of the last frame, with its hits, to what was asked
abbrev pub by_last : ℕ → (ℤ → ℤ → List Hit) → ProbeAnswer → ProbeAnswer
by_last last hits answer = record answer { frame = record { 0 = last }; hits = asked_hits hits answer.asked }

-- an answer by a frame up to the last one stands; another becomes that of the last one
abbrev pub settled : ℕ → (ℤ → ℤ → List Hit) → ProbeAnswer → ProbeAnswer
settled last hits answer = cond (nat_le answer.frame.0 last) answer (by_last last hits answer)

-- What is published last is the last finished frame: it has its number, and hits whom that hits.
pub record LastIsPublished (setup : Setup) (last : LastFrame) (published : publish.Publishing) : Type 0 where
  pub number : last.frame.0 ≡ last_number published.frames
  pub hits : (x y : ℤ) → hit_list (at_ratio last.ratio setup) last.reuse x y
      ≡ hits_of published.frames (last_number published.frames) x y
