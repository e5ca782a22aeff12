-- What is kept by which pairs tell.
use Rattle.std.proofs.Common.{◌≡◌, ◌∙◌, sym, ℕ, ◌≤◌, Bool, true, false, List, length, refl, arith, ap}
use Rattle.std.specs.Prelude.{◌&&◌, nat_lt}
use Rattle.std.proofs.lemmas.Bool.Decides.{nat_tests}
use Rattle.flat_base.specs.declared.ids.PairNo.{PairNo}
use Rattle.flat_scene.specs.declared.journal.Entry.{Entry}
use Rattle.flat_scene.specs.declared.setup.Setup.{Setup}
use Rattle.flat_states.specs.declared.port.DisplayPort.{DisplayPort}
use Rattle.flat_links.specs.declared.link_table.LinkTable.{LinkTable}
use Rattle.flat_core.specs.PairValues.{TellsPairs}

past : (m n p : ℕ) → m ≡ n → (nat_lt p m && nat_lt p n) ≡ false → n ≤ p
past m n p same over = by_tests (nat_lt p m) (nat_lt p n) refl refl over
  where
    by_tests : (a b : Bool) → nat_lt p m ≡ a → nat_lt p n ≡ b → (a && b) ≡ false → n ≤ p
    by_tests true true i j none = cc
    by_tests true false i j none = grind (arith, nat_tests)
    by_tests false b i j none = grind (arith, nat_tests)

-- a pair that isn't known isn't declared
pub unknown : (kept : Setup) (port : DisplayPort) (links : LinkTable) (views : List Bool) (setup : Setup) (history : List Entry)
    → TellsPairs kept port links views setup history → (p : PairNo) → (nat_lt p.0 (length kept.pairs) && nat_lt p.0 (length links.pairs.items)) ≡ false
    → length setup.pairs ≤ p.0
unknown kept port links views setup history stands p none =
    let count : length links.pairs.items ≡ length setup.pairs = stands.tied.count in
    let same : length kept.pairs ≡ length setup.pairs = ap (λ (s : Setup). length s.pairs) stands.same in
    let all : length kept.pairs ≡ length links.pairs.items = same ∙ sym count in
    let over : length links.pairs.items ≤ p.0 = past (length kept.pairs) (length links.pairs.items) p.0 all none in
    omega (arith, over, count)
