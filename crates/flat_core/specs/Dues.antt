-- How many events may still be posted to all sessions.
use Rattle.std.specs.Prelude.{ℕ, ◌+◌, List, sum_by}
use Rattle.flat_states.specs.Machines.{due}
use Rattle.flat_links.specs.AllEnds.{due_back}
use Rattle.flat_states.specs.declared.state.SessionState.{SessionState}
use Rattle.flat_links.specs.declared.viewports.Viewports.{Viewports}
use Rattle.flat_gets.specs.declared.watching.Watchers.{Watchers}
use Rattle.flat_gets.specs.Dues.{due_told}

-- for presents, tokens and gets
abbrev pub all_due : List SessionState → List Viewports → Watchers → ℕ
all_due sessions ends watchers = sum_by due sessions + (sum_by due_back ends + due_told watchers)
