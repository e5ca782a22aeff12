-- When two watchers are one, and a watcher of which nothing was asked.
use Rattle.std.proofs.Common.{◌≡◌, ◌∙◌, ℕ, Bool, true, false, refl, arith, ap, None}
use Rattle.std.specs.Prelude.{Option}
use Rattle.std.proofs.lemmas.Bool.Decides.{nat_tests}
use Rattle.flat_scene.specs.declared.journal.WatcherValue.{WatcherValue}
use Rattle.flat_watch.specs.Told.{settled}
use Rattle.flat_rules.specs.Watch.{Watcher, layout_of, status_of, child_of, same_watcher}

pub same-is : (u w : Watcher) → same_watcher u w ≡ true → u ≡ w
same-is (layout_of p) (layout_of q) is = let n : p.0 ≡ q.0 = grind (arith, nat_tests) in ap (λ (k : ℕ). layout_of (record { 0 = k })) n
same-is (status_of p) (status_of q) is = let n : p.0 ≡ q.0 = grind (arith, nat_tests) in ap (λ (k : ℕ). status_of (record { 0 = k })) n
same-is (child_of p m) (child_of q n) is =
    let pairs : p.0 ≡ q.0 = grind (arith, nat_tests) in
    let uses : m ≡ n = grind (arith, nat_tests) in
    ap (λ (k : ℕ). child_of (record { 0 = k }) m) pairs ∙ ap (child_of q) uses
same-is (layout_of p) (status_of q) is = cc
same-is (layout_of p) (child_of q n) is = cc
same-is (status_of p) (layout_of q) is = cc
same-is (status_of p) (child_of q n) is = cc
same-is (child_of p m) (layout_of q) is = cc
same-is (child_of p m) (status_of q) is = cc

pub same-sym : (u w : Watcher) → same_watcher u w ≡ same_watcher w u
same-sym (layout_of p) (layout_of q) = grind (arith, nat_tests)
same-sym (status_of p) (status_of q) = grind (arith, nat_tests)
same-sym (child_of p m) (child_of q n) = grind (arith, nat_tests)
same-sym (layout_of p) (status_of q) = refl
same-sym (layout_of p) (child_of q n) = refl
same-sym (status_of p) (layout_of q) = refl
same-sym (status_of p) (child_of q n) = refl
same-sym (child_of p m) (layout_of q) = refl
same-sym (child_of p m) (status_of q) = refl

pub nothing-settled : (listens : Bool) (now : Option WatcherValue) → settled listens now (record { last = None; waits = None })
    ≡ record { last = None; waits = None }
nothing-settled true now = refl
nothing-settled false now = refl
