-- What is asked of calls that look at several parts of a draft.
use Rattle.std.specs.Prelude.{ℕ, ◌++◌, is_some, is_none, List, [], ◌∷◌, Option, Some, None, Result, Ok, Err}
use Rattle.flat_base.specs.declared.errors.Reason.{Reason}
use Rattle.flat_base.specs.declared.errors.Reason.TheVariants.{HasView, NoView}
use Rattle.flat_base.specs.declared.ids.PairNo.{PairNo}
use Rattle.flat_scene.specs.declared.calls.Watch.{Watch}
use Rattle.flat_scene.specs.declared.calls.Watch.TheVariants as watch
use Rattle.flat_scene.specs.declared.trees.GraphFault.{GraphFault}
use Rattle.flat_scene.specs.declared.trees.GraphFault.TheVariants.{Bad}
use Rattle.flat_scene.specs.Misuse.{Test, is_viewport}
use Rattle.flat_graph.specs.Reasons as graph
use Rattle.flat_graph.specs.State.{GraphState, without_held}
use Rattle.flat_content.specs.Reasons.{given_tests, sort_tests}
use Rattle.flat_content.specs.Table.{TableState, pair_named}

abbrev pub view_tests : Option PairNo → List Test
view_tests view = (is_some view, HasView) ∷ []

abbrev pub no_view_tests : Option PairNo → List Test
no_view_tests view = (is_none view, NoView) ∷ []

-- what is asked of a get, and the pair whose watcher it means
abbrev pub watch_tests : Option PairNo → TableState → Watch → List Test
watch_tests view table (watch.Child c) = sort_tests table is_viewport c.0
watch_tests view table other = no_view_tests view

abbrev pub watched : Option PairNo → TableState → Watch → Option PairNo
watched view table (watch.Child c) = pair_named table c.0
watched view table other = view

-- what is asked where a transform is given a content
abbrev pub content_tests : GraphState → TableState → ℕ → ℕ → List Test
content_tests state table t c = graph.name_tests state t ++ given_tests table c

-- the graph in which no node holds the content of that serial, if there is one
abbrev pub without_named : GraphState → Option ℕ → GraphState
without_named state None = state
without_named state (Some serial) = without_held state serial

-- the answer of a creation, without the serial
abbrev pub made : Result ℕ GraphFault → Result Unit GraphFault
made (Ok serial) = Ok tt
made (Err fault) = Err fault

-- the answer of a call that takes no memory
abbrev pub done : Result Unit Reason → Result Unit GraphFault
done (Ok it) = Ok it
done (Err reason) = Err (Bad reason)
