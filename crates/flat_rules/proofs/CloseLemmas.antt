-- A refused entry closes its own session.
use Rattle.std.proofs.Common.{◌≡◌, ◌∙◌, true, false, List, refl, ap}
use Rattle.std.specs.Prelude.{Some, None}
use Rattle.flat_base.specs.declared.ids.Actor.{Actor}
use Rattle.flat_scene.specs.declared.calls.Call.{Call}
use Rattle.flat_scene.specs.declared.journal.Entry.{Entry}
use Rattle.flat_scene.specs.declared.journal.EntryKind.{EntryKind}
use Rattle.flat_scene.specs.declared.journal.EntryKind.TheVariants.{Close}
use Rattle.flat_scene.specs.declared.setup.Setup.{Setup}
use Rattle.flat_scene.specs.History.{closes}
use Rattle.flat_scene.proofs.lemmas.Steps.{closes-own}
use Rattle.flat_rules.specs.Closing.{RefusalCloses, CloseCloses, OtherRepliesCloseNone}
use Rattle.flat_rules.specs.Legal.{reply_to}
use Rattle.flat_rules.specs.Kinds.{is_close}
use Rattle.flat_rules.proofs.lemmas.Quiet.{closed-quiet}

pub refusal-closes : RefusalCloses
refusal-closes before entry refused = record { itself = λ s mine. rw (mine, refused) refl; others = λ s other. closes-own s before entry other }

pub close-refused : (setup : Setup) (before : List Entry) (actor : Actor) (carries : List Call) (kind : EntryKind) → is_close kind ≡ true
    → closes (reply_to setup before actor carries kind) ≡ true
close-refused setup before actor carries (Close None) is = refl
close-refused setup before actor carries (Close (Some reason)) is = refl
close-refused setup before actor carries _ is = absurd (let h : false ≡ true = is in cc)

pub close-closes : CloseCloses
close-closes setup before entry legal is =
    refusal-closes before entry (ap closes legal.1.reply ∙ close-refused setup before entry.actor entry.calls entry.kind is)

pub other-replies-close-none : OtherRepliesCloseNone
other-replies-close-none before entry quiet s = closed-quiet before entry s quiet
