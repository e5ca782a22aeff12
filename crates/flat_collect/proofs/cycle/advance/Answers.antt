use Rattle.std.proofs.Common.{◌≡◌, ◌++◌, ◌∷◌, [], sym, ◌∙◌, arith, length-append}
use Rattle.flat_collect.proofs.Walks.{contains_at}
use Rattle.flat_collect.proofs.Searches.{top_within, search-down, search-along, search-done, search-back, search-found, left-down, left-along, left-done}
use Rattle.flat_collect.proofs.Searches.{trail-back, trail-down, mark_read}
use Rattle.flat_collect.proofs.cycle.advance.Goals as goal

pub index-requires : goal.index-requires
index-requires c = omega (arith, top_within _ _ _ _ _ c.requires)

pub index_mut-requires : goal.index_mut-requires
index_mut-requires c = omega (arith, top_within _ _ _ _ _ c.requires)

pub index_mut-requires-in-Done : goal.index_mut-requires-in-Done
index_mut-requires-in-Done c = omega (arith, top_within _ _ _ _ _ c.requires)

pub index-requires-2 : goal.index-requires-2
index-requires-2 c = omega (
  arith,
  c.requires.within c.args.key.now c.in-Some-child_at.child
      (contains_at _ c.in-Open.i _ (sym c.child_at.ensures.child ∙ c.in-Some-child_at.is)),
)

pub index_mut-requires-in-New : goal.index_mut-requires-in-New
index_mut-requires-in-New c = omega (
  arith,
  c.requires.within c.args.key.now c.in-Some-child_at.child
      (contains_at _ c.in-Open.i _ (sym c.child_at.ensures.child ∙ c.in-Some-child_at.is)),
)

pub returns-in-Some : goal.returns-in-Some
returns-in-Some c =
    let read = mark_read _ _ _ (top_within _ _ _ _ _ c.requires) c.index.ensures in
    let popped : c.args.path.now.items ≡ c.pop.new.self.items ++ c.in-Some.parent ∷ [] = rw c.in-Some.is at c.pop.ensures.items in
    let before = rw (trail-back c.args.key.now c.in-Some.parent c.args.path.now.items c.pop.new.self.items popped) at c.requires in (
      search-back _ _ _ _ _ _ before (λ i e. c.in_default.not-Open i (sym read ∙ e)),
      rw popped (omega (arith, length-append c.pop.new.self.items (c.in-Some.parent ∷ []))),
    )

pub returns-in_default-child_at : goal.returns-in_default-child_at
returns-in_default-child_at c =
    let within = top_within _ _ _ _ _ c.requires in
    let read = mark_read _ _ _ within c.index.ensures ∙ c.in-Open.is in (
      search-done _ _ _ _ c.in-Open.i _ c.requires read (sym c.child_at.ensures.child ∙ c.in_default-child_at.is),
      left-done _ _ _ _ c.in-Open.i within read,
    )

pub returns-in_ok-push-in-New : goal.returns-in_ok-push-in-New
returns-in_ok-push-in-New c =
    let has = contains_at _ c.in-Open.i _ (sym c.child_at.ensures.child ∙ c.in-Some-child_at.is) in
    let within = c.requires.within c.args.key.now c.in-Some-child_at.child has in
    let read = mark_read _ _ _ within c.index-2.ensures ∙ c.in-New.is in
    let pushed : c.push.new.self.items ≡ c.args.path.now.items ++ c.args.key.now ∷ [] = rw c.in_ok-push-in-New.was at c.push.ensures.items in (
      rw (pushed, trail-down c.args.key.now c.in-Some-child_at.child c.args.path.now.items) (search-down _ _ _ _ _ _ c.requires has read),
      rw pushed (left-down _ _ _ _ _ within read),
    )

pub returns-in-Open-index : goal.returns-in-Open-index
returns-in-Open-index c =
    let has = contains_at _ c.in-Open.i _ (sym c.child_at.ensures.child ∙ c.in-Some-child_at.is) in
    let within = c.requires.within c.args.key.now c.in-Some-child_at.child has in
    let read = mark_read _ _ _ within c.index-2.ensures ∙ c.in-Open-index.is in
    search-found _ _ _ _ c.in-Open-index.field-0 _ _ c.requires has read

pub returns-in-Done : goal.returns-in-Done
returns-in-Done c =
    let next = sym c.child_at.ensures.child ∙ c.in-Some-child_at.is in
    let has = contains_at _ c.in-Open.i _ next in
    let within = top_within _ _ _ _ _ c.requires in
    let read = mark_read _ _ _ within c.index.ensures ∙ c.in-Open.is in
    let child = mark_read _ _ _ (c.requires.within c.args.key.now c.in-Some-child_at.child has) c.index-2.ensures ∙ c.in-Done.is in
    (search-along _ _ _ _ c.in-Open.i _ _ c.requires read next child, left-along _ _ _ _ c.in-Open.i _ within read next)

pub overflow_add-i : goal.overflow_add-i
overflow_add-i c = omega (arith, rw c.in-Some-child_at.is at c.child_at.ensures.room)
