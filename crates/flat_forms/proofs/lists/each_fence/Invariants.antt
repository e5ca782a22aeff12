use Rattle.std.proofs.Common.{length}
use Rattle.flat_places.specs.Places.{fence_word}
use Rattle.flat_places.specs.Reads.{left}
use Rattle.flat_forms.proofs.lemmas.ListLemmas.{ListGoes}
use Rattle.flat_forms.proofs.lists.each_fence.Given as goal

abbrev pub invariant-loop-owner : goal.invariant-loop-owner
invariant-loop-owner l = ListGoes (fence_word l.script.script l.owner) l.follows l.fn.places l.places l.found

abbrev pub decreases-loop-owner : goal.decreases-loop-owner
decreases-loop-owner l = length (left l.places)
