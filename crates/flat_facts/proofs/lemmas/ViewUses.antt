-- The uses of a view end after one more entry.
use Rattle.std.proofs.Common.{◌≡◌, Bool, true, false, List, ◌∷◌, length, arith}
use Rattle.std.specs.Prelude.{cond, ◌&&◌, ◌||◌, nat_lt}
use Rattle.std.proofs.lemmas.Bool.Decides.{nat_tests}
use Rattle.flat_base.specs.declared.ids.PairNo.{PairNo}
use Rattle.flat_scene.specs.declared.journal.Entry.{Entry}
use Rattle.flat_scene.specs.History.{◌▹◌}
use Rattle.flat_rules.specs.Ends.{view_uses, uses_view, is_done}
use Rattle.flat_facts.proofs.lemmas.Tests.{or-false}

-- a view end is used once more, or none is
used-more : (p : PairNo) (e : Entry) (h : List Entry) (b : Bool)
    → nat_lt 0 (length (cond b (e ∷ view_uses p h) (view_uses p h))) ≡ (nat_lt 0 (length (view_uses p h)) || b)
used-more p e h true = grind (arith, nat_tests)
used-more p e h false = or-false _

pub viewed-more : (p : PairNo) (e : Entry) (h : List Entry)
    → nat_lt 0 (length (view_uses p (h ▹ e))) ≡ (nat_lt 0 (length (view_uses p h)) || (uses_view p e.kind && is_done e.reply))
viewed-more p e h = used-more p e h (uses_view p e.kind && is_done e.reply)
