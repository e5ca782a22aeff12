use Rattle.std.proofs.Common.{◌≡◌, length, map}
use Rattle.flat_scene.specs.Journals.{history_of}
use Rattle.flat_report.specs.Report.{finished}
use Rattle.flat_play.specs.Keeping.{keeping_of}
use Rattle.flat_play.specs.Showing.{HaveSeen}
use Rattle.flat_race.specs.Directing.{CompositorStands}
use Rattle.flat_race.specs.Publishing.{PublishedStand}
use Rattle.flat_race.proofs.director.direct.Given as goal

abbrev pub invariant-loop-place : goal.invariant-loop-place
invariant-loop-place g l = record {
  stands : CompositorStands l.context.script.now l.context.stage.now l.place l.compositor l.film;
  seen : HaveSeen (λ b. (goal.Display-dyn g (b.vtable, b.value)).shown b.value) (λ b. (goal.Display-dyn g (b.vtable, b.value)).faults b.value)
      (finished l.context.script.now.setup (history_of l.compositor.display.seen)) (history_of l.compositor.display.seen) l.film.set.lost
      l.initial.displays.items l.displays.items;
  number : length l.displays.items ≡ l.film.set.displays;
  kinds : map (λ b. b.vtable) l.displays.items ≡ map (λ b. b.vtable) l.initial.displays.items;
  keeping : keeping_of l.film.store.kept ≡ keeping_of l.initial.film.store.kept;
  same : l.film.set.displays ≡ l.initial.film.set.displays;
  published : PublishedStand l.context.script.now (history_of l.compositor.display.seen) l.published;
  home : l.published.home ≡ l.initial.published.home;
}
