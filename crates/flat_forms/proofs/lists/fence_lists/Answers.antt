use Rattle.std.proofs.Common.{sym, ◌∙◌}
use Rattle.flat_base.specs.declared.ids.Actor.TheVariants.{Session}
use Rattle.flat_places.specs.Places.{fence_word}
use Rattle.flat_forms.proofs.lemmas.ListLemmas.{acquire_read}
use Rattle.flat_forms.proofs.lists.fence_lists.Goals as goal

pub returns-then-is_word : goal.returns-then-is_word
returns-then-is_word c =
    acquire_read (fence_word c.args.script.now.script (Session c.args.session)) c.args.places.now c.next.new.self c.some_fences.new.places
    c.list_if_any.new.places c.in-Some.word.now c.in_ok-acquire.acquire c.in_ok-release.release
    c.in-Some.ensures.taken c.next.ensures.same (sym c.is_word.ensures ∙ c.if-is_word.true) c.in_ok-acquire.ensures c.in_ok-release.ensures
