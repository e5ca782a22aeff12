-- What is shown of presents that were taken, in frames that take none, and how views hang.
use Rattle.std.proofs.Common.{◌≡◌, ◌∙◌, sym, ap, refl, List, [], ◌∷◌, ◌++◌, map, Some, None}
use Rattle.std.specs.Prelude.{cond, option_and_then}
use Rattle.std.specs.Result.{result_ok}
use Rattle.flat_base.specs.declared.ids.SessionNo.{SessionNo}
use Rattle.flat_scene.specs.declared.journal.Entry.{Entry}
use Rattle.flat_scene.specs.declared.setup.Setup.{Setup}
use Rattle.flat_scene.specs.declared.trees.Tree.{Tree}
use Rattle.flat_scene.specs.Draft.{of_serial}
use Rattle.flat_scene.specs.Frames.{setup_at, sessions_to, taken}
use Rattle.flat_scene.specs.History.{is_closed, presents, Published}
use Rattle.flat_scene.specs.Setups.{at_ratio}
use Rattle.flat_scene.specs.Tree.{tree}
use Rattle.flat_scene.proofs.lemmas.TakingLemmas.{taken-made}
use Rattle.flat_topology.specs.Draw.{draw_list}
use Rattle.flat_topology.specs.Hits.{hit_list}
use Rattle.flat_topology.specs.Views.{view_nodes}
use Rattle.flat_rules.specs.Shown.{last_taken, shown, shown_states, tree_of}
use Rattle.flat_rules.proofs.lemmas.ShownSteps.{serial-append}
use Rattle.flat_facts.proofs.lemmas.Earlier.{presents-begin}
use Rattle.flat_facts.proofs.lemmas.SerialSteps.{tree-some}
use Rattle.flat_facts.proofs.lemmas.ShownFits.{IsSound, found-sound, presents-sound}
use Rattle.flat_laws.specs.Shows.{IdleFramesShowTheSame, TakenStaysShown}

-- ---- presents that were taken

-- the last present taken is the same as long as no other is taken
last-later : (setup : Setup) (before later : List Entry) (s : SessionNo) → taken setup (later ++ before) s ≡ taken setup before s
    → last_taken setup (later ++ before) s ≡ last_taken setup before s
last-later setup before later s same =
    let all = presents-begin s before (later ++ before) (record { later = later; is = refl }) in
    (λ i. of_serial (all.is i) (same i)) ∙ serial-append (presents s before) all.more (taken setup before s) (taken-made setup s before)

-- a present that is found has a tree
tree-sound : (setup : Setup) (s : SessionNo) (present : Published) → IsSound setup s present → (t : Tree) × (tree_of setup present ≡ Some t)
tree-sound setup s present sound =
    let found = tree-some sound.0 sound.1.tests in
    (found.0, ap (λ r. option_and_then tree (result_ok r)) sound.1.made ∙ found.1)

pub taken-stays-shown : TakenStaysShown
taken-stays-shown setup before later legal s present is same opened =
    let last : last_taken setup (later ++ before) s ≡ Some present = last-later setup before later s same ∙ is in
    let sound = found-sound setup s (taken setup (later ++ before) s) (presents s (later ++ before)) (presents-sound setup s (later ++ before) legal) in
    let found = tree-sound setup s present (rw last at sound) in
    (found.0, found.1, (λ i. cond (opened i) None (option_and_then (tree_of setup) (last i))) ∙ found.1)

-- ---- frames that take none

shown-same : (setup : Setup) (before later : List Entry) (s : SessionNo) → taken setup (later ++ before) s ≡ taken setup before s
    → is_closed s (later ++ before) ≡ is_closed s before → shown setup (later ++ before) s ≡ shown setup before s
shown-same setup before later s same closed =
    λ i. cond (closed i) None (option_and_then (tree_of setup) (last-later setup before later s same i))

map-same : {A B : Type 0} (f g : A → B) → ((x : A) → f x ≡ g x) → (xs : List A) → map f xs ≡ map g xs
map-same f g same [] = refl
map-same f g same (x ∷ xs) = λ i. same x i ∷ map-same f g same xs i

pub idle-show-the-same : IdleFramesShowTheSame
idle-show-the-same setup begun begun' later is ratios same closed =
    let taken_same : (s : SessionNo) → taken setup (later ++ begun) s ≡ taken setup begun s = λ s. ap (λ h. taken setup h s) (sym is) ∙ same s in
    let closed_same : (s : SessionNo) → is_closed s (later ++ begun) ≡ is_closed s begun = λ s. ap (λ h. is_closed s h) (sym is) ∙ closed s in
    let states : shown_states setup begun' ≡ shown_states setup begun =
    ap (shown_states setup) is
    ∙ map-same (shown setup (later ++ begun)) (shown setup begun) (λ s. shown-same setup begun later s (taken_same s) (closed_same s))
    (sessions_to setup.sessions) in
    let setups : setup_at setup begun' ≡ setup_at setup begun = ap (λ r. at_ratio r setup) ratios in
    record {
      items = λ i. draw_list (setups i) (states i);
      views = λ i. view_nodes (setups i) (states i);
      hits = λ x y. λ i. hit_list (setups i) (states i) x y;
    }
