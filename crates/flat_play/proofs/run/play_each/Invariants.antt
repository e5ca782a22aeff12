use Rattle.std.proofs.Common.{◌≡◌, length, map, take}
use Rattle.flat_report.specs.Report.{finished}
use Rattle.flat_play.specs.Explaining.{StandsExplained, is_film, is_on}
use Rattle.flat_play.specs.Keeping.{keeping_of}
use Rattle.flat_play.specs.Playing.{PlayStands, last_number}
use Rattle.flat_play.specs.Probing.{ProbesStand, SeeInTurn}
use Rattle.flat_play.specs.Touching.{AreAnswered}
use Rattle.flat_play.specs.Showing.{HaveSeen}
use Rattle.flat_play.proofs.run.play_each.Given as goal

abbrev pub invariant-loop-place : goal.invariant-loop-place
invariant-loop-place g l = record {
  stands : PlayStands l.input.script.now l.place l.ran.play;
  seen : HaveSeen (λ b. (goal.Display-dyn g (b.vtable, b.value)).shown b.value) (λ b. (goal.Display-dyn g (b.vtable, b.value)).faults b.value)
      (finished l.input.script.now.setup l.ran.play.board.history) l.ran.play.board.history l.set.lost l.initial.displays.items l.displays.items;
  number : length l.displays.items ≡ l.set.displays;
  kinds : map (λ b. b.vtable) l.displays.items ≡ map (λ b. b.vtable) l.initial.displays.items;
  keeping : keeping_of l.ran.play.store.kept ≡ keeping_of l.initial.ran.play.store.kept;
  same : l.set.displays ≡ l.initial.set.displays;
  answered : AreAnswered l.input.script.now.setup l.ran.play.board.history (last_number 0 (take l.place l.input.script.now.lines)) l.input.pointers.now
      l.left l.ran.touches.items;
  asked : ProbesStand l.input.script.now l.place l.ran.play.board.history l.ran.probes.items;
  turns : SeeInTurn (take l.place l.input.script.now.lines) l.ran.play.board.history l.ran.probes.items;
  explained : StandsExplained l.input.script.now l.ran.play.board.history l.explaining;
  on : is_on l.explaining ≡ is_on l.initial.explaining;
  film : is_film l.explaining ≡ is_film l.initial.explaining;
}
