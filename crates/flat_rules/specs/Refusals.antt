-- By which reasons a draft may refuse a present or a get.
use Rattle.std.specs.Prelude.{Bool, true, false, not, ◌&&◌, ◌||◌, ◌==◌, unwrap_or, is_none}
use Rattle.std.specs.List.{list_any}
use Rattle.flat_base.specs.declared.errors.Reason.{Reason}
use Rattle.flat_base.specs.declared.errors.Reason.TheVariants.{ZeroId, UnknownContent, WrongContent, NoView}
use Rattle.flat_base.specs.declared.errors.Reason.TheVariants.{TooManyFences}
use Rattle.flat_base.specs.Number.{reason_number}
use Rattle.flat_scene.specs.Draft.{Draft, made_of}
use Rattle.flat_scene.specs.Misuse.{first_reason, is_viewport}
use Rattle.flat_scene.specs.Tree.{tree_tests}

-- whether two reasons are the same
abbrev pub same_reason : Reason → Reason → Bool
same_reason a b = reason_number a == reason_number b

-- a present is refused for the tree, or else for its fences
abbrev pub may_refuse_present : Draft → Reason → Bool
may_refuse_present draft reason = same_reason (unwrap_or (first_reason (tree_tests draft)) TooManyFences) reason

-- a get is refused if it names the content 0, one that isn't there, or one that is no viewport, or if there is no view
abbrev pub may_refuse_get : Draft → Reason → Bool
may_refuse_get draft ZeroId = true
may_refuse_get draft UnknownContent = true
may_refuse_get draft WrongContent =
    list_any (λ name. not (name.id == 0) && not (is_viewport (made_of draft (record { 0 = name.id }))))
    draft.content_names
may_refuse_get draft NoView = is_none draft.view
may_refuse_get draft _ = false

abbrev pub may_refuse : Draft → Reason → Bool
may_refuse draft reason = may_refuse_present draft reason || may_refuse_get draft reason
