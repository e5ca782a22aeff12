-- What the parts make of a call, in the words of the draft.
use Rattle.std.proofs.Common.{ℕ, ◌+◌, ◌≡◌, not, refl, sym, ◌∙◌, ap, subst, Bool, true, false, cond, List, [], ◌∷◌, ◌++◌, Option, Some, None, Result, Ok, Err}
use Rattle.std.proofs.Common.{OnOk, OnErr, IfErr}
use Rattle.std.specs.Prelude.{◌==◌, ◌&&◌, is_none}
use Rattle.flat_base.specs.declared.errors.Reason.{Reason}
use Rattle.flat_base.specs.declared.errors.Reason.TheVariants.{ZeroId, UnknownContent, WrongContent}
use Rattle.flat_base.specs.declared.ids.ContentId.{ContentId}
use Rattle.flat_base.specs.declared.ids.PairNo.{PairNo}
use Rattle.flat_base.specs.declared.ids.TransformId.{TransformId}
use Rattle.flat_scene.specs.declared.calls.Call.{Call}
use Rattle.flat_scene.specs.declared.calls.Call.TheVariants.{CreateTransform, SetContent, ReleaseViewport, Clear}
use Rattle.flat_scene.specs.declared.setup.Setup.{Setup}
use Rattle.flat_scene.specs.declared.trees.GraphFault.{GraphFault}
use Rattle.flat_scene.specs.declared.trees.GraphFault.TheVariants.{Bad, Memory}
use Rattle.flat_scene.specs.Draft.{Draft, content_of}
use Rattle.flat_scene.specs.Effect.{effect}
use Rattle.flat_scene.specs.Misuse.{Test, first_reason, is_viewport, misuse, names_transform}
use Rattle.flat_graph.specs.Laws as graph
use Rattle.flat_graph.specs.Names.{key_named}
use Rattle.flat_graph.specs.Reasons.{create_tests, name_tests, IsFault, IsMisuse}
use Rattle.flat_graph.specs.Stands as graph_stands
use Rattle.flat_graph.specs.State.{Creates, GraphState, change_named}
use Rattle.flat_graph.proofs.lemmas.StandingLaws as graph_laws
use Rattle.flat_content.specs.Laws as content
use Rattle.flat_content.specs.Reasons.{given_tests, sort_tests}
use Rattle.flat_content.specs.Stands as content_stands
use Rattle.flat_content.specs.Table.{TableState, held_of, made_named, viewport_released}
use Rattle.flat_content.proofs.lemmas.Standing.{content_calls_stand}
use Rattle.flat_content.proofs.lemmas.Others.{other_calls_stand}
use Rattle.flat_draft.specs.Answers.{IsApplied, takes_memory}
use Rattle.flat_draft.specs.Parts.{content_tests, done, made, without_named}
use Rattle.flat_draft.specs.Stands.{StandsFor}
use Rattle.flat_draft.specs.State.{DraftState, emptied}

-- a refusal, whether memory ran out or not
abbrev pub IsFaultOf : Bool → List Test → GraphFault → Type 0
IsFaultOf true tests = IsFault tests
IsFaultOf false tests = IsMisuse tests

-- the answers of creations and of calls that take no memory
pub made-ok : (answer : Result ℕ GraphFault) (P : Type 0) → OnOk answer P → OnOk (made answer) P
made-ok (Ok serial) P h = h
made-ok (Err fault) P h = tt

pub made-err : (answer : Result ℕ GraphFault) (P : Type 0) → OnErr answer P → OnErr (made answer) P
made-err (Ok serial) P h = tt
made-err (Err fault) P h = h

pub made-fault : (answer : Result ℕ GraphFault) (tests : List Test) → IfErr answer (IsFault tests) → IfErr (made answer) (IsFault tests)
made-fault (Ok serial) tests h = tt
made-fault (Err fault) tests h = h

pub done-ok : (answer : Result Unit Reason) (P : Type 0) → OnOk answer P → OnOk (done answer) P
done-ok (Ok it) P h = h
done-ok (Err reason) P h = tt

pub done-err : (answer : Result Unit Reason) (P : Type 0) → OnErr answer P → OnErr (done answer) P
done-err (Ok it) P h = tt
done-err (Err reason) P h = h

pub done-fault : (answer : Result Unit Reason) (tests : List Test) → IfErr answer (λ reason. first_reason tests ≡ Some reason)
    → IfErr (done answer) (IsMisuse tests)
done-fault (Ok it) tests h = tt
done-fault (Err reason) tests h = h

on-ok : (result : Result Unit GraphFault) (P Q : Type 0) → (P → Q) → OnOk result P → OnOk result Q
on-ok (Ok it) P Q f h = f h
on-ok (Err fault) P Q f h = tt

on-err : (result : Result Unit GraphFault) (P Q : Type 0) → (P → Q) → OnErr result P → OnErr result Q
on-err (Ok it) P Q f h = tt
on-err (Err fault) P Q f h = f h

both-ok : (result : Result Unit GraphFault) (P Q : Type 0) → OnOk result P → OnOk result Q → OnOk result (P × Q)
both-ok (Ok it) P Q h k = (h, k)
both-ok (Err fault) P Q h k = tt

both-err : (result : Result Unit GraphFault) (P Q : Type 0) → OnErr result P → OnErr result Q → OnErr result (P × Q)
both-err (Ok it) P Q h k = tt
both-err (Err fault) P Q h k = (h, k)

-- the first reason of two lists of tests
either : Option Reason → Option Reason → Option Reason
either None other = other
either (Some reason) other = Some reason

first-append : (xs ys : List Test) → first_reason (xs ++ ys) ≡ either (first_reason xs) (first_reason ys)
unfolding either
first-append [] ys = refl
first-append (x ∷ xs) ys = by_test x.0 (first-append xs ys)
  where
    by_test : (b : Bool) → first_reason (xs ++ ys) ≡ either (first_reason xs) (first_reason ys)
        → cond b (Some x.1) (first_reason (xs ++ ys)) ≡ either (cond b (Some x.1) (first_reason xs)) (first_reason ys)
    by_test true more = refl
    by_test false more = more

first-both : (xs zs ys ws : List Test) → first_reason xs ≡ first_reason zs → first_reason ys ≡ first_reason ws
    → first_reason (xs ++ ys) ≡ first_reason (zs ++ ws)
first-both xs zs ys ws first second =
    first-append xs ys ∙ ap (λ (x : Option Reason). either x (first_reason ys)) first ∙ ap (either (first_reason zs)) second ∙ sym (first-append zs ws)

pub first-of-more : (xs ys : List Test) (reason : Reason) → first_reason xs ≡ Some reason → first_reason (xs ++ ys) ≡ Some reason
unfolding either
first-of-more xs ys reason e = first-append xs ys ∙ ap (λ (x : Option Reason). either x (first_reason ys)) e

pub first-of-rest : (xs ys : List Test) → first_reason xs ≡ None → first_reason (xs ++ ys) ≡ first_reason ys
unfolding either
first-of-rest xs ys e = first-append xs ys ∙ ap (λ (x : Option Reason). either x (first_reason ys)) e

no-reason : (b : Bool) (r r' : Reason) → cond b (Some r) (Some r') ≡ None → ⊥
no-reason true r r' e = absurd (cc)
no-reason false r r' e = absurd (cc)

bad-fault : (b : Bool) (tests : List Test) (reason : Reason) → IsFaultOf b tests (Bad reason) → first_reason tests ≡ Some reason
bad-fault true tests reason h = h
bad-fault false tests reason h = h

memory-fault : (b : Bool) (tests : List Test) → IsFaultOf b tests Memory → (first_reason tests ≡ None) × (b ≡ true)
memory-fault true tests h = (h, refl)
memory-fault false tests h = absurd h

module _ (setup : Setup) (draft : Draft) where
  applied : (call it : Call) (old new : DraftState) (tests : List Test) (result : Result Unit GraphFault) → call ≡ it
      → first_reason tests ≡ misuse setup draft it
      → OnOk result (StandsFor setup new (effect draft it)) → new.closed ≡ old.closed → OnOk result (first_reason tests ≡ None)
      → IfErr result (IsFaultOf (takes_memory it) tests) → OnErr result (new ≡ old)
      → IsApplied setup draft call old new result
  applied call it old new tests (Ok u) is reason stands closed allowed fault kept = (rw is (sym reason ∙ allowed), rw is stands, closed)
  applied call it old new tests (Err (Bad r)) is reason stands closed allowed fault kept =
      (rw is (sym reason ∙ bad-fault (takes_memory it) tests r fault), kept)
  applied call it old new tests (Err Memory) is reason stands closed allowed fault kept =
      let wants = memory-fault (takes_memory it) tests fault in
      (rw is (sym reason ∙ wants.0), rw is wants.1, kept)

  -- a call on the graph alone
  pub graph-applied : (call it : Call) (old : DraftState) (nodes nodes' after : GraphState) (table : TableState) (view : Option PairNo) (closed : Bool)
      (tests : List Test) (result : Result Unit GraphFault)
      → call ≡ it → record { graph = nodes; contents = table; view = view; closed = closed } ≡ old → content.is_of_contents it ≡ false
      → (effect draft it).view ≡ draft.view → StandsFor setup old draft
      → (graph_stands.StandsFor nodes draft → graph.IsCall setup draft it tests after)
      → OnOk result (nodes' ≡ after) → OnOk result (first_reason tests ≡ None) → IfErr result (IsFaultOf (takes_memory it) tests)
      → OnErr result (nodes' ≡ nodes)
      → IsApplied setup draft call old (record { graph = nodes'; contents = table; view = view; closed = closed }) result
  graph-applied call it old nodes nodes' after table view closed tests result is view_is not_contents same_view s law set allowed fault kept =
      let now : DraftState = record { graph = nodes; contents = table; view = view; closed = closed } in
      let new : DraftState = record { graph = nodes'; contents = table; view = view; closed = closed } in
      let s' : StandsFor setup now draft = subst (λ (state : DraftState). StandsFor setup state draft) (sym view_is) s in
      let call_stands = law s'.graph in
      subst (λ (state : DraftState). IsApplied setup draft call state new result) view_is
      (applied call it now new tests result is call_stands.reason
      (on-ok result (nodes' ≡ after) (StandsFor setup new (effect draft it))
      (λ e. record {
        graph = rw e call_stands.stands;
        contents = other_calls_stand setup table draft it not_contents s'.contents;
        view = s'.view ∙ sym same_view;
      }) set)
      refl allowed fault
      (on-err result (nodes' ≡ nodes) (new ≡ now) (λ e. ap
      (λ (g : GraphState). let state : DraftState = record { graph = g; contents = table; view = view; closed = closed } in state) e) kept))

  -- a call on the table alone
  pub content-applied : (call it : Call) (old : DraftState) (nodes : GraphState) (table table' after : TableState) (view : Option PairNo) (closed : Bool)
      (tests : List Test) (result : Result Unit GraphFault)
      → call ≡ it → record { graph = nodes; contents = table; view = view; closed = closed } ≡ old → graph.is_of_transforms it ≡ false
      → (effect draft it).view ≡ draft.view → StandsFor setup old draft
      → (content_stands.StandsFor setup table draft → content.IsCall setup table draft it tests after)
      → OnOk result (table' ≡ after) → OnOk result (first_reason tests ≡ None) → IfErr result (IsFaultOf (takes_memory it) tests)
      → OnErr result (table' ≡ table)
      → IsApplied setup draft call old (record { graph = nodes; contents = table'; view = view; closed = closed }) result
  content-applied call it old nodes table table' after view closed tests result is view_is not_transforms same_view s law set allowed fault kept =
      let now : DraftState = record { graph = nodes; contents = table; view = view; closed = closed } in
      let new : DraftState = record { graph = nodes; contents = table'; view = view; closed = closed } in
      let s' : StandsFor setup now draft = subst (λ (state : DraftState). StandsFor setup state draft) (sym view_is) s in
      let call_stands = law s'.contents in
      subst (λ (state : DraftState). IsApplied setup draft call state new result) view_is
      (applied call it now new tests result is call_stands.reason
      (on-ok result ((table' ≡ after) × (first_reason tests ≡ None)) (StandsFor setup new (effect draft it))
      (λ e. record {
        graph = graph_laws.other_calls_stand nodes draft it not_transforms s'.graph;
        contents = rw (e.0) (call_stands.stands e.1);
        view = s'.view ∙ sym same_view;
      })
      (both-ok result (table' ≡ after) (first_reason tests ≡ None) set allowed))
      refl allowed fault
      (on-err result (table' ≡ table) (new ≡ now) (λ e. ap
      (λ (t : TableState). let state : DraftState = record { graph = nodes; contents = t; view = view; closed = closed } in state) e) kept))

  -- a creation of a content, and a setter
  pub made-applied : (call it : Call) (old : DraftState) (nodes : GraphState) (table table' after : TableState) (view : Option PairNo) (closed : Bool)
      (tests : List Test) (answer : Result ℕ GraphFault) (result : Result Unit GraphFault)
      → result ≡ made answer → call ≡ it → record { graph = nodes; contents = table; view = view; closed = closed } ≡ old → graph.is_of_transforms it ≡ false
      → (effect draft it).view ≡ draft.view → StandsFor setup old draft
      → (content_stands.StandsFor setup table draft → content.IsCall setup table draft it tests after)
      → takes_memory it ≡ true → OnOk answer (table' ≡ after) → OnOk answer (first_reason tests ≡ None) → IfErr answer (IsFault tests)
      → OnErr answer (table' ≡ table)
      → IsApplied setup draft call old (record { graph = nodes; contents = table'; view = view; closed = closed }) result
  made-applied call it old nodes table table' after view closed tests answer result gives is view_is not_transforms same_view s law takes set allowed fault
      kept =
      rw gives
      (content-applied call it old nodes table table' after view closed tests (made answer) is view_is not_transforms same_view s law
      (made-ok answer (table' ≡ after) set)
      (made-ok answer (first_reason tests ≡ None) allowed) (rw takes (made-fault answer tests fault)) (made-err answer (table' ≡ table) kept))

  pub done-applied : (call it : Call) (old : DraftState) (nodes : GraphState) (table table' after : TableState) (view : Option PairNo) (closed : Bool)
      (tests : List Test) (answer : Result Unit Reason) (result : Result Unit GraphFault)
      → result ≡ done answer → call ≡ it → record { graph = nodes; contents = table; view = view; closed = closed } ≡ old → graph.is_of_transforms it ≡ false
      → (effect draft it).view ≡ draft.view → StandsFor setup old draft
      → (content_stands.StandsFor setup table draft → content.IsCall setup table draft it tests after)
      → takes_memory it ≡ false → OnOk answer (table' ≡ after) → OnOk answer (first_reason tests ≡ None)
      → IfErr answer (λ reason. first_reason tests ≡ Some reason) → OnErr answer (table' ≡ table)
      → IsApplied setup draft call old (record { graph = nodes; contents = table'; view = view; closed = closed }) result
  done-applied call it old nodes table table' after view closed tests answer result gives is view_is not_transforms same_view s law takes set allowed fault
      kept =
      rw gives
      (content-applied call it old nodes table table' after view closed tests (done answer) is view_is not_transforms same_view s law
      (done-ok answer (table' ≡ after) set)
      (done-ok answer (first_reason tests ≡ None) allowed) (rw takes (done-fault answer tests fault)) (done-err answer (table' ≡ table) kept))

  -- a call on the view alone
  pub view-applied : (call it : Call) (old : DraftState) (nodes : GraphState) (table : TableState) (view view' after : Option PairNo) (closed : Bool)
      (tests : List Test) (result : Result Unit GraphFault)
      → call ≡ it → record { graph = nodes; contents = table; view = view; closed = closed } ≡ old → graph.is_of_transforms it ≡ false
      → content.is_of_contents it ≡ false → StandsFor setup old draft
      → (view ≡ draft.view → first_reason tests ≡ misuse setup draft it) → (effect draft it).view ≡ after
      → OnOk result (view' ≡ after) → OnOk result (first_reason tests ≡ None) → IfErr result (IsFaultOf (takes_memory it) tests) → OnErr result (view' ≡ view)
      → IsApplied setup draft call old (record { graph = nodes; contents = table; view = view'; closed = closed }) result
  view-applied call it old nodes table view view' after closed tests result is view_is not_transforms not_contents s reason leaves set allowed fault kept =
      let now : DraftState = record { graph = nodes; contents = table; view = view; closed = closed } in
      let new : DraftState = record { graph = nodes; contents = table; view = view'; closed = closed } in
      let s' : StandsFor setup now draft = subst (λ (state : DraftState). StandsFor setup state draft) (sym view_is) s in
      subst (λ (state : DraftState). IsApplied setup draft call state new result) view_is
      (applied call it now new tests result is (reason s'.view)
      (on-ok result (view' ≡ after) (StandsFor setup new (effect draft it))
      (λ e. record {
        graph = graph_laws.other_calls_stand nodes draft it not_transforms s'.graph;
        contents = other_calls_stand setup table draft it not_contents s'.contents;
        view = e ∙ sym leaves;
      }) set)
      refl allowed fault
      (on-err result (view' ≡ view) (new ≡ now) (λ e. ap (λ (v : Option PairNo). let state : DraftState =
      record { graph = nodes; contents = table; view = v; closed = closed } in state) e) kept))

  -- the creation of a transform
  pub create-applied : (call : Call) (t : TransformId) (old : DraftState) (nodes nodes' : GraphState) (table : TableState) (view : Option PairNo)
      (closed : Bool) (result : Result Unit GraphFault)
      → call ≡ CreateTransform t → record { graph = nodes; contents = table; view = view; closed = closed } ≡ old → StandsFor setup old draft
      → OnOk result (Creates nodes nodes' t.0 (nodes.made + 1)) → OnOk result (first_reason (create_tests nodes t.0) ≡ None)
      → IfErr result (IsFault (create_tests nodes t.0)) → OnErr result (nodes' ≡ nodes)
      → IsApplied setup draft call old (record { graph = nodes'; contents = table; view = view; closed = closed }) result
  create-applied call t old nodes nodes' table view closed result is view_is s created allowed fault kept =
      let now : DraftState = record { graph = nodes; contents = table; view = view; closed = closed } in
      let new : DraftState = record { graph = nodes'; contents = table; view = view; closed = closed } in
      let s' : StandsFor setup now draft = subst (λ (state : DraftState). StandsFor setup state draft) (sym view_is) s in
      let law = (graph_laws.graph_calls_stand setup nodes draft s'.graph).create t in
      subst (λ (state : DraftState). IsApplied setup draft call state new result) view_is
      (applied call (CreateTransform t) now new (create_tests nodes t.0) result is law.reason
      (on-ok result (Creates nodes nodes' t.0 (nodes.made + 1) × (first_reason (create_tests nodes t.0) ≡ None))
      (StandsFor setup new (effect draft (CreateTransform t)))
      (λ e. record {
        graph = law.stands nodes' (nodes.made + 1) e.1 refl e.0;
        contents = other_calls_stand setup table draft (CreateTransform t) refl s'.contents;
        view = s'.view;
      })
      (both-ok result (Creates nodes nodes' t.0 (nodes.made + 1)) (first_reason (create_tests nodes t.0) ≡ None) created allowed))
      refl allowed fault
      (on-err result (nodes' ≡ nodes) (new ≡ now) (λ e. ap
      (λ (g : GraphState). let state : DraftState = record { graph = g; contents = table; view = view; closed = closed } in state) e) kept))

  -- a content is given to a transform
  content-reason : (nodes : GraphState) (table : TableState) (t : TransformId) (c : ContentId) → graph_stands.StandsFor nodes draft
      → content_stands.StandsFor setup table draft
      → first_reason (content_tests nodes table t.0 c.0) ≡ misuse setup draft (SetContent t c)
  content-reason nodes table t c g s =
      let content = (content_calls_stand setup table draft s).held nodes c in
      let giving = (graph_laws.graph_calls_stand setup nodes draft g).set_content t c (held_of table c.0) content in
      first-both (name_tests nodes t.0) (names_transform draft t) (given_tests table c.0)
      ((not (c.0 == 0) && is_none (content_of draft c), UnknownContent) ∷ []) giving.reason (rw (s.names c.0) refl)

  pub given-applied : (call : Call) (t : TransformId) (c : ContentId) (old : DraftState) (nodes nodes' : GraphState) (table : TableState) (view : Option PairNo)
      (closed : Bool) (result : Result Unit GraphFault)
      → call ≡ SetContent t c → record { graph = nodes; contents = table; view = view; closed = closed } ≡ old → StandsFor setup old draft
      → OnOk result (nodes' ≡ change_named nodes t.0 (λ node. record node { content = held_of table c.0 }))
      → OnOk result (first_reason (content_tests nodes table t.0 c.0) ≡ None)
      → IfErr result (IsMisuse (content_tests nodes table t.0 c.0)) → OnErr result (nodes' ≡ nodes)
      → IsApplied setup draft call old (record { graph = nodes'; contents = table; view = view; closed = closed }) result
  given-applied call t c old nodes nodes' table view closed result is view_is s set allowed fault kept =
      let now : DraftState = record { graph = nodes; contents = table; view = view; closed = closed } in
      let new : DraftState = record { graph = nodes'; contents = table; view = view; closed = closed } in
      let s' : StandsFor setup now draft = subst (λ (state : DraftState). StandsFor setup state draft) (sym view_is) s in
      let content = (content_calls_stand setup table draft s'.contents).held nodes c in
      let giving = (graph_laws.graph_calls_stand setup nodes draft s'.graph).set_content t c (held_of table c.0) content in
      subst (λ (state : DraftState). IsApplied setup draft call state new result) view_is
      (applied call (SetContent t c) now new (content_tests nodes table t.0 c.0) result is (content-reason nodes table t c s'.graph s'.contents)
      (on-ok result (nodes' ≡ change_named nodes t.0 (λ node. record node { content = held_of table c.0 }))
      (StandsFor setup new (effect draft (SetContent t c)))
      (λ e. record { graph = rw e giving.stands; contents = other_calls_stand setup table draft (SetContent t c) refl s'.contents; view = s'.view }) set)
      refl allowed fault
      (on-err result (nodes' ≡ nodes) (new ≡ now) (λ e. ap
      (λ (g : GraphState). let state : DraftState = record { graph = g; contents = table; view = view; closed = closed } in state) e) kept))

  -- the release of a viewport
  dropped-stands : (nodes : GraphState) (table : TableState) (c : ContentId) → graph_stands.StandsFor nodes draft → content_stands.StandsFor setup table draft
      → first_reason (sort_tests table is_viewport c.0) ≡ None
      → graph_stands.StandsFor (without_named nodes (key_named table.names c.0)) (effect draft (ReleaseViewport c))
  dropped-stands nodes table c g s none = by_name (key_named table.names c.0) refl none
    where
      by_name : (x : Option ℕ) → key_named table.names c.0 ≡ x
          → cond (c.0 == 0) (Some ZeroId) (cond (is_none x) (Some UnknownContent)
          (first_reason ((not (is_viewport (made_named table c.0)), WrongContent) ∷ []))) ≡ None
          → graph_stands.StandsFor (without_named nodes x) (effect draft (ReleaseViewport c))
      by_name None e none = absurd (no-reason (c.0 == 0) ZeroId UnknownContent none)
      by_name (Some serial) e none = (graph_laws.graph_calls_stand setup nodes draft g).drop_content c serial (sym (s.names c.0) ∙ e)

  pub released-applied : (call : Call) (c : ContentId) (old : DraftState) (nodes nodes' : GraphState) (table table' : TableState) (view : Option PairNo)
      (closed : Bool) (result : Result Unit GraphFault)
      → call ≡ ReleaseViewport c → record { graph = nodes; contents = table; view = view; closed = closed } ≡ old → StandsFor setup old draft
      → OnOk result (nodes' ≡ without_named nodes (key_named table.names c.0)) → OnOk result (table' ≡ viewport_released table c.0)
      → OnOk result (first_reason (sort_tests table is_viewport c.0) ≡ None)
      → IfErr result (IsMisuse (sort_tests table is_viewport c.0)) → OnErr result (nodes' ≡ nodes) → OnErr result (table' ≡ table)
      → IsApplied setup draft call old (record { graph = nodes'; contents = table'; view = view; closed = closed }) result
  released-applied call c old nodes nodes' table table' view closed result is view_is s dropped released allowed fault kept still =
      let now : DraftState = record { graph = nodes; contents = table; view = view; closed = closed } in
      let new : DraftState = record { graph = nodes'; contents = table'; view = view; closed = closed } in
      let s' : StandsFor setup now draft = subst (λ (state : DraftState). StandsFor setup state draft) (sym view_is) s in
      let law = (content_calls_stand setup table draft s'.contents).release_viewport c in
      subst (λ (state : DraftState). IsApplied setup draft call state new result) view_is
      (applied call (ReleaseViewport c) now new (sort_tests table is_viewport c.0) result is law.reason
      (on-ok result ((nodes' ≡ without_named nodes (key_named table.names c.0))
      × ((table' ≡ viewport_released table c.0) × (first_reason (sort_tests table is_viewport c.0) ≡ None)))
      (StandsFor setup new (effect draft (ReleaseViewport c)))
      (λ e. record { graph = rw (e.0) (dropped-stands nodes table c s'.graph s'.contents e.1.1); contents = rw (e.1.0) (law.stands e.1.1); view = s'.view })
      (both-ok result (nodes' ≡ without_named nodes (key_named table.names c.0))
      ((table' ≡ viewport_released table c.0) × (first_reason (sort_tests table is_viewport c.0) ≡ None)) dropped
      (both-ok result (table' ≡ viewport_released table c.0) (first_reason (sort_tests table is_viewport c.0) ≡ None) released allowed)))
      refl allowed fault
      (on-err result ((nodes' ≡ nodes) × (table' ≡ table)) (new ≡ now) (λ e. rw (e.0, e.1) refl)
      (both-err result (nodes' ≡ nodes) (table' ≡ table) kept still)))

  pub cleared-applied : (call : Call) (old : DraftState) → call ≡ Clear → StandsFor setup old draft → IsApplied setup draft call old (emptied old) (Ok tt)
  cleared-applied call old is s =
      applied call Clear old (emptied old) [] (Ok tt) is refl
      (record {
        graph = (graph_laws.graph_calls_stand setup old.graph draft s.graph).clear;
        contents = (content_calls_stand setup old.contents draft s.contents).clear;
        view = refl;
      }) refl refl tt tt
