use Rattle.std.proofs.Common.{◌≡◌, ◌<◌, ◌≤◌, length, take}
use Rattle.std.specs.Prelude.{◌==◌, count_by}
use Rattle.flat_base.specs.declared.ids.SessionNo.{SessionNo}
use Rattle.flat_why.specs.Noted.{counts_in}
use Rattle.flat_why.proofs.counts.count_items.Given as goal

abbrev pub invariant-loop-item : goal.invariant-loop-item
invariant-loop-item l = record {
  count : length l.counts.items ≡ l.sessions;
  each : (s : SessionNo) → 0 < s.0 → s.0 ≤ l.sessions → counts_in l.counts.items s ≡ count_by (λ item. item.session.0 == s.0) (take l.item-index l.items);
}
