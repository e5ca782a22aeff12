use Rattle.std.proofs.Common.{◌≡◌, ◌∙◌, sym, ap, drop, ◌+◌, [], ◌∷◌, map, List}
use Rattle.std.specs.List.{list_any}
use Rattle.flat_scene.specs.declared.calls.Call.{Call}
use Rattle.flat_facts.specs.Lives.{is_new_viewport}
use Rattle.flat_links.specs.Viewports.{marked}
use Rattle.flat_links.proofs.Marks.{drop-is, drop-end, left-next, marked-none}
use Rattle.flat_links.proofs.viewports.Viewports.note_calls.Goals as goal
use Rattle.std.proofs.lemmas.Bool.{or_parts}

pub loop-call-preserved : goal.loop-call-preserved
loop-call-preserved c =
    let inv = c.loop-call.invariant in
    let e = c.note_one.ensures in
    let i = c.loop-call.call-index in
    let calls = c.args.calls.now in
    let call = c.call-item.result in
    let rest : List Call = drop (i + 1) calls in
    let is : drop i calls ≡ call ∷ rest = drop-is calls i call c.loop-call-test.true ∙ ap (λ (x : Call). x ∷ rest) (sym c.call-item.is) in
    let left = left-next call (drop i calls) rest c.args.presents c.loop-call.self.live.items c.note_one.new.self.live.items _ c.loop-call.self.out.items
    c.note_one.new.self.out.items _ is e.live e.out inv.live inv.out in
    record {
      live = left.live;
      out = left.out;
      none = (or_parts (is_new_viewport call) (list_any is_new_viewport rest) (ap (list_any is_new_viewport) (sym is) ∙ inv.none)).1;
      room_live = e.room_live ∙ inv.room_live;
      room_out = e.room_out ∙ inv.room_out;
    }

pub returns-clause-out : goal.returns-clause-out
returns-clause-out c =
    let inv = c.loop-call.invariant in
    let none : drop c.loop-call.call-index c.args.calls.now ≡ [] = drop-end c.args.calls.now c.loop-call.call-index c.loop-call-test.false in
    sym (marked-none c.loop-call.self.live.items c.args.presents c.loop-call.self.out.items)
    ∙ ap (λ (cs : List Call). map (marked c.loop-call.self.live.items cs c.args.presents) c.loop-call.self.out.items) (sym none) ∙ inv.out
