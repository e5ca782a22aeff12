use Rattle.std.proofs.Common.{rules, ◌≡◌, ◌+◌, true, false, [], Some, sym, ap, ◌∙◌, subst, arith}
use Rattle.flat_scene.specs.declared.journal.Entry.{Entry}
use Rattle.flat_scene.specs.History.{◌▹◌}
use Rattle.flat_scene.specs.Journals.{history_of}
use Rattle.flat_rules.specs.Legal.{frames}
use Rattle.flat_judge.specs.Following.{IsAlong, IsPart, IsShownTold, Stays}
use Rattle.flat_judge.proofs.LastEntry.{newest-is}
use Rattle.flat_judge.proofs.OneMore.{frames-upto, losses-later}
use Rattle.flat_judge.proofs.Turning.{held, parted, result-earlier}
use Rattle.flat_judge.proofs.following.FollowedRun.tell.Goals as goal

pub returns-then-not-branch-clause-tells : goal.returns-then-not-branch-clause-tells
returns-then-not-branch-clause-tells c = λ before entry is part.
    let script = c.args.script.now in
    let text = c.args.text.now in
    let last : Some c.in-Some.entry.now ≡ Some entry = c.in-Some.ensures.value
    ∙ newest-is c.as_slice-entries.result.now before entry (ap history_of c.as_slice-entries.ensures.value ∙ c.journal.ensures.entries ∙ is) in
    let same : entry ≡ c.in-Some.entry.now = cc in
    let is_its : c.args.self.now.run.screen.board.history ≡ (before ▹ c.in-Some.entry.now) = is ∙ ap (λ (e : Entry). before ▹ e) same in
    let P : Entry → Type 0 = λ e. IsPart script text before e [] (frames before) c.args.self.now.along in
    let line = c.in_ok-tell_line.ensures.tells before is_its (subst P same part) in
    let none : c.in_ok-tell_line.field-0 ≡ false = search rules in
    parted script text (frames before) (frames (before ▹ entry)) _ _ c.tell_line.new.self c.in_ok-tell_line.field-0 none
    (losses-later (frames before) (frames (before ▹ entry)) c.tell_line.new.self.lost (frames-upto before entry)) line

pub tell_shown-requires-clause-within : goal.tell_shown-requires-clause-within
tell_shown-requires-clause-within c = c.in_ok-tell_line.ensures.within

pub returns-then-not-branch-2-clause-tells : goal.returns-then-not-branch-2-clause-tells
returns-then-not-branch-2-clause-tells c = λ before entry is part.
    let script = c.args.script.now in
    let text = c.args.text.now in
    let last : Some c.in-Some.entry.now ≡ Some entry = c.in-Some.ensures.value
    ∙ newest-is c.as_slice-entries.result.now before entry (ap history_of c.as_slice-entries.ensures.value ∙ c.journal.ensures.entries ∙ is) in
    let same : entry ≡ c.in-Some.entry.now = cc in
    let is_its : c.args.self.now.run.screen.board.history ≡ (before ▹ c.in-Some.entry.now) = is ∙ ap (λ (e : Entry). before ▹ e) same in
    let P : Entry → Type 0 = λ e. IsPart script text before e [] (frames before) c.args.self.now.along in
    let line = c.in_ok-tell_line.ensures.tells before is_its (subst P same part) in
    let yes : c.in_ok-tell_line.field-0 ≡ true = search rules in
    let has = held script text (frames before) (c.args.self.now.along.at + 1) c.tell_line.new.self c.in_ok-tell_line.field-0 yes line in
    let shown = c.in_ok-tell_shown.ensures.tells before is_its has.0 in
    let none : c.in_ok-tell_shown.field-0 ≡ false = search rules in
    let F : Entry → Type 0 = λ e. Stays script text (frames (before ▹ e)) (c.args.self.now.along.at + 1) (IsAlong script text (before ▹ e))
    c.tell_shown.new.self false in
    subst F (sym same) (parted script text (frames (before ▹ c.in-Some.entry.now)) (frames (before ▹ c.in-Some.entry.now)) _ _ c.tell_shown.new.self
    c.in_ok-tell_shown.field-0 none (λ losses. losses) shown)

pub tell_events-requires-clause-within : goal.tell_events-requires-clause-within
tell_events-requires-clause-within c = c.in_ok-tell_shown.ensures.within

pub returns-clause-tells : goal.returns-clause-tells
returns-clause-tells c = λ before entry is part.
    let script = c.args.script.now in
    let text = c.args.text.now in
    let last : Some c.in-Some.entry.now ≡ Some entry = c.in-Some.ensures.value
    ∙ newest-is c.as_slice-entries.result.now before entry (ap history_of c.as_slice-entries.ensures.value ∙ c.journal.ensures.entries ∙ is) in
    let same : entry ≡ c.in-Some.entry.now = cc in
    let is_its : c.args.self.now.run.screen.board.history ≡ (before ▹ c.in-Some.entry.now) = is ∙ ap (λ (e : Entry). before ▹ e) same in
    let P : Entry → Type 0 = λ e. IsPart script text before e [] (frames before) c.args.self.now.along in
    let line = c.in_ok-tell_line.ensures.tells before is_its (subst P same part) in
    let yes : c.in_ok-tell_line.field-0 ≡ true = search rules in
    let has = held script text (frames before) (c.args.self.now.along.at + 1) c.tell_line.new.self c.in_ok-tell_line.field-0 yes line in
    let shown = c.in_ok-tell_shown.ensures.tells before is_its has.0 in
    let too : c.in_ok-tell_shown.field-0 ≡ true = search rules in
    let both = held script text (frames (before ▹ c.in-Some.entry.now)) c.tell_line.new.self.at c.tell_shown.new.self c.in_ok-tell_shown.field-0 too shown in
    let E : Entry → Type 0 = λ e. IsShownTold script text before e c.tell_shown.new.self in
    let low = has.1 in
    let more = both.1 in
    result-earlier script text (IsAlong script text (before ▹ entry)) (frames (before ▹ entry)) c.tell_shown.new.self.at (c.args.self.now.along.at + 1)
    c.tell_events.new.self c.tell_events.result (omega (arith, low, more)) (c.tell_events.ensures before entry is (subst E (sym same) both.0))
