-- One display more that is lost behind others.
use Rattle.std.proofs.Common.{◌≡◌, ◌&&◌, ◌==◌, not, nat_lt, nat_le, Bool, true, List, [], ◌∷◌, ◌++◌, refl}
use Rattle.std.specs.List.{list_all}
use Rattle.flat_scene.specs.declared.frames.LostDisplay.{LostDisplay}
use Rattle.flat_scene.specs.declared.journal.Entry.{Entry}
use Rattle.flat_rules.specs.Legal.{frames}
use Rattle.flat_report.specs.Report.{is_loss, is_lost_before}
use Rattle.flat_base.proofs.lemmas.Tests.{and-left, and-right, and-true, all-more}

abbrev pub goes_before : LostDisplay → LostDisplay → Bool
goes_before a b = is_lost_before a b && not (b.display == a.display)

pub loss-more : (history : List Entry) (lost : List LostDisplay) (next : LostDisplay) → nat_lt 0 next.frame.0 ≡ true
    → nat_le next.frame.0 (frames history) ≡ true
    → list_all (λ one. is_lost_before one next && not (next.display == one.display)) lost ≡ true
    → is_loss history lost ≡ true → is_loss history (lost ++ next ∷ []) ≡ true
loss-more history [] next above within behind was = and-true (and-true (and-true above within) refl) refl
loss-more history (a ∷ later) next above within behind was =
    let number_fits = nat_lt 0 a.frame.0 && nat_le a.frame.0 (frames history) in
    let first = and-left (number_fits && list_all (goes_before a) later) (is_loss history later) was in
    let rest = and-right (number_fits && list_all (goes_before a) later) (is_loss history later) was in
    let fits = and-left number_fits (list_all (goes_before a) later) first in
    let order = and-right number_fits (list_all (goes_before a) later) first in
    let here = and-left (goes_before a next) (list_all (λ one. is_lost_before one next && not (next.display == one.display)) later) behind in
    let further = and-right (goes_before a next) (list_all (λ one. is_lost_before one next && not (next.display == one.display)) later) behind in
    and-true (and-true fits (all-more (goes_before a) later next order here)) (loss-more history later next above within further rest)
