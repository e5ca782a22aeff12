-- A frame is composed of what the sessions show.
use Rattle.std.proofs.Common.{◌≡◌, ℕ, Bool, true, nat_lt, nat_le, List, ap, ◌∙◌, arith}
use Rattle.std.proofs.lemmas.Bool.Decides.{nat_tests}
use Rattle.flat_scene.specs.declared.frames.DrawItem.{DrawItem}
use Rattle.flat_scene.specs.declared.frames.FrameOut.{FrameOut}
use Rattle.flat_scene.specs.declared.frames.SessionSet.{SessionSet}
use Rattle.flat_scene.specs.declared.frames.ViewNode.{ViewNode}
use Rattle.flat_scene.specs.declared.frames.ViewTree.{ViewTree}
use Rattle.flat_scene.specs.declared.journal.Entry.{Entry}
use Rattle.flat_scene.specs.declared.setup.Setup.{Setup}
use Rattle.flat_scene.specs.Frames.{setup_at}
use Rattle.flat_scene.specs.Setups.{at_ratio, is_declared}
use Rattle.flat_scene.specs.Heads.{is_setup}
use Rattle.flat_rules.specs.Ends.{has_view}
use Rattle.flat_rules.specs.Shown.{shown_states}
use Rattle.flat_topology.specs.Draw.{draw_list}
use Rattle.flat_topology.specs.Shown.{Shown}
use Rattle.flat_topology.specs.Views.{view_nodes, view_tree}
use Rattle.flat_tree.specs.Laws.{ViewsGiveTrees, IsSetOf}
use Rattle.flat_tree.specs.Trees.{tree_of}
use Rattle.flat_report.specs.Report.{frame_at}
use Rattle.flat_core.specs.Views.{AreViewed}
use Rattle.flat_play.proofs.lemmas.Starting.{few_sessions}
use Rattle.flat_base.proofs.lemmas.Tests.{and-true}

module _ (setup : Setup) (begun : List Entry) (shown : Shown) (views : SessionSet) (at : ℕ) (scaled : at_ratio at setup ≡ setup_at setup begun)
    (showing : shown ≡ shown_states setup begun) (viewed : AreViewed setup begun views) where
  set_of : IsSetOf (at_ratio at setup) (λ s. has_view setup begun (record { 0 = s })) views
  set_of = record {
    within = λ s above below.
        let declared : is_declared setup (record { 0 = s }) ≡ true =
        and-true (let a : nat_lt 0 s ≡ true = grind (arith, nat_tests) in a) (let b : nat_le s setup.sessions ≡ true = grind (arith, nat_tests) in b) in
        viewed.members (record { 0 = s }) declared;
    beyond = viewed.others;
  }

  pub composed : (n : ℕ) (items : List DrawItem) (nodes : List ViewNode) (tree : ViewTree) → is_setup setup ≡ true → ViewsGiveTrees
      → items ≡ draw_list (at_ratio at setup) shown → nodes ≡ view_nodes (at_ratio at setup) shown
      → tree ≡ tree_of nodes views → record { frame = record { 0 = n }; items = items; tree = tree } ≡ frame_at setup n begun
  composed n items nodes tree is_one follow items_is nodes_is tree_is =
      let has : ℕ → Bool = λ s. has_view setup begun (record { 0 = s }) in
      let seen : tree ≡ view_tree (at_ratio at setup) shown has =
      tree_is ∙ ap (λ (vs : List ViewNode). tree_of vs views) nodes_is ∙ follow (at_ratio at setup) shown has views (few_sessions setup is_one) set_of in
      let drawn_then : items ≡ draw_list (setup_at setup begun) (shown_states setup begun) = items_is ∙ (λ i. draw_list (scaled i) (showing i)) in
      let seen_then : tree ≡ view_tree (setup_at setup begun) (shown_states setup begun) has = seen ∙ (λ i. view_tree (scaled i) (showing i) has) in
      ap (λ (is : List DrawItem). let f : FrameOut = record { frame = record { 0 = n }; items = is; tree = tree } in f) drawn_then
      ∙ ap (λ (t : ViewTree). let f : FrameOut = record {
        frame = record { 0 = n };
        items = draw_list (setup_at setup begun) (shown_states setup begun);
        tree = t;
      } in f) seen_then
