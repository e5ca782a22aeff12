use Rattle.std.proofs.Common.{◌≡◌, ◌∙◌, All, List, [], ◌∷◌, ◌++◌, Option, None, Some, OnOk, length, sym, ap, subst, arith}
use Rattle.std.specs.Option.{option_copied}
use Rattle.flat_drawable.specs.Drawable.{IsDrawable}
use Rattle.flat_report.specs.Report.{finished}
use Rattle.flat_scene.specs.declared.frames.FrameOut.{FrameOut}
use Rattle.flat_texts.specs.Filming.{IsFilm}
use Rattle.flat_scene.specs.declared.journal.Entry.{Entry}
use Rattle.flat_play.specs.declared.side_output.SideOutput.{SideOutput}
use Rattle.flat_play.specs.Explaining.{StandsExplained}
use Rattle.flat_play.proofs.Explained.{entered_so_far, last-one, more-explained, one-more, same-explained}
use Rattle.flat_play.proofs.side_output.SideOutput.note.Goals as goal

pub returns-then-len-entries-clause-stands : goal.returns-then-len-entries-clause-stands
returns-then-len-entries-clause-stands c =
    let script = c.args.script.now in
    let history : List Entry = c.args.play.now.board.history in
    let old : List Entry = c.requires.before.0 in
    let entries = c.journal.result.now.entries in
    let whole = entries.ok in
    let long = entered_so_far entries.items history c.journal.ensures.entries in
    let before : length old ≡ c.args.entries = c.requires.before.2 in
    let many = c.len.ensures in
    let S : SideOutput → Type 0 = λ e. StandsExplained script old e in
    same-explained script c.requires.before.1 old history c.in-On.whys (omega (arith, long, whole, before, many, c.if-len-entries.true)) c.requires.before.3
    (subst S c.in-On.is c.requires.before.4)

pub note-requires-clause-before : goal.note-requires-clause-before
note-requires-clause-before c =
    let script = c.args.script.now in
    let history : List Entry = c.args.play.now.board.history in
    let old : List Entry = c.requires.before.0 in
    let entries = c.journal.result.now.entries in
    let whole = entries.ok in
    let long = entered_so_far entries.items history c.journal.ensures.entries in
    let before : length old ≡ c.args.entries = c.requires.before.2 in
    let many = c.len.ensures in
    let S : SideOutput → Type 0 = λ e. StandsExplained script old e in
    more-explained script c.requires.before.1 old history c.in-On.whys (λ same. c.if-len-entries.false (omega (arith, long, whole, before, many, same)))
    c.requires.before.3 (subst S c.in-On.is c.requires.before.4)

-- ---- the picture of a frame

pub push-requires-clause-items : goal.push-requires-clause-items
push-requires-clause-items c =
    let script = c.args.script.now in
    let history : List Entry = c.args.play.now.board.history in
    let old : List Entry = c.requires.before.0 in
    let one = one-more c.items_are_drawable.ensures script c.requires.before.1 old history
    (λ same. c.if-play-frame.false (c.requires.frames.stored.ends.number ∙ same ∙ c.requires.before.5)) c.requires.before.3 in
    let found = last-one script old history one _ (c.last.ensures script (finished script.setup history) c.requires.frames.stored.keeps) in
    let some : Some c.in-Some.frame.now ≡ Some one.frame = sym (ap option_copied c.in-Some.is) ∙ found in
    let same : c.in-Some.frame.now ≡ one.frame = cc in
    let P : FrameOut → Type 0 = λ f. All IsDrawable f.items in
    subst P (sym same) one.drawable

pub unreachable-requires : goal.unreachable-requires
unreachable-requires c =
    let script = c.args.script.now in
    let history : List Entry = c.args.play.now.board.history in
    let old : List Entry = c.requires.before.0 in
    let one = one-more c.items_are_drawable.ensures script c.requires.before.1 old history
    (λ same. c.if-play-frame.false (c.requires.frames.stored.ends.number ∙ same ∙ c.requires.before.5)) c.requires.before.3 in
    let found = last-one script old history one _ (c.last.ensures script (finished script.setup history) c.requires.frames.stored.keeps) in
    let none : ◌≡◌ {A = Option FrameOut} None (Some one.frame) = sym (ap option_copied c.in-None.is) ∙ found in
    cc

pub returns-in-Some-clause-stands : goal.returns-in-Some-clause-stands
returns-in-Some-clause-stands c =
    let script = c.args.script.now in
    let history : List Entry = c.args.play.now.board.history in
    let old : List Entry = c.requires.before.0 in
    let one = one-more c.items_are_drawable.ensures script c.requires.before.1 old history
    (λ same. c.if-play-frame.false (c.requires.frames.stored.ends.number ∙ same ∙ c.requires.before.5)) c.requires.before.3 in
    let found = last-one script old history one _ (c.last.ensures script (finished script.setup history) c.requires.frames.stored.keeps) in
    let some : Some c.in-Some.frame.now ≡ Some one.frame = sym (ap option_copied c.in-Some.is) ∙ found in
    let same : c.in-Some.frame.now ≡ one.frame = cc in
    let S : SideOutput → Type 0 = λ e. StandsExplained script old e in
    let film : IsFilm script.setup (finished script.setup old) c.in-Film.film = subst S c.in-Film.is c.requires.before.4 in
    let P : List FrameOut → Type 0 = λ fs. OnOk c.push.result (IsFilm script.setup fs c.push.new.self) in
    subst P (ap (λ (f : FrameOut). finished script.setup old ++ f ∷ []) same ∙ sym one.is) (c.push.ensures script.setup (finished script.setup old) film)
