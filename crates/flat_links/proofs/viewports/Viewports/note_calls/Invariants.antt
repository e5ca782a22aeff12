use Rattle.std.proofs.Common.{◌≡◌, false, map, drop}
use Rattle.std.specs.Prelude.{vec_capacity}
use Rattle.std.specs.List.{list_any}
use Rattle.flat_facts.specs.Lives.{lives_after, is_new_viewport}
use Rattle.flat_links.specs.Viewports.{marked}
use Rattle.flat_links.proofs.viewports.Viewports.note_calls.Given as goal

-- what is left leads from here to the same end
abbrev pub invariant-loop-call : goal.invariant-loop-call
invariant-loop-call l = record {
  live : lives_after l.self.live.items (drop l.call-index l.calls) ≡ lives_after l.fn.self.live.items l.calls;
  out : map (marked l.self.live.items (drop l.call-index l.calls) l.presents) l.self.out.items
      ≡ map (marked l.fn.self.live.items l.calls l.presents) l.fn.self.out.items;
  none : list_any is_new_viewport (drop l.call-index l.calls) ≡ false;
  room_live : vec_capacity l.self.live ≡ vec_capacity l.fn.self.live;
  room_out : vec_capacity l.self.out ≡ vec_capacity l.fn.self.out;
}
