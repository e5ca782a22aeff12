-- What a session may do is no begin of a frame, no end of one, and sets no pixel ratio.
use Rattle.std.proofs.Common.{◌≡◌, true, false, refl}
use Rattle.std.specs.Prelude.{None}
use Rattle.flat_scene.specs.declared.journal.EntryKind.{EntryKind}
use Rattle.flat_scene.specs.declared.journal.EntryKind.TheVariants.{Begin, Finish, Dpr}
use Rattle.flat_scene.specs.Frames.{ratio_set}
use Rattle.flat_scene.specs.History.{is_begin, is_finish}
use Rattle.flat_rules.specs.Legal.{session_may}

pub not-begin : (kind : EntryKind) → session_may kind ≡ true → is_begin kind ≡ false
not-begin (Begin time) may = absurd (let h : false ≡ true = may in cc)
not-begin _ may = refl

pub not-finish : (kind : EntryKind) → session_may kind ≡ true → is_finish kind ≡ false
not-finish Finish may = absurd (let h : false ≡ true = may in cc)
not-finish _ may = refl

pub not-ratio : (kind : EntryKind) → session_may kind ≡ true → ratio_set kind ≡ None
not-ratio (Dpr ratio) may = absurd (let h : false ≡ true = may in cc)
not-ratio _ may = refl
