use Rattle.std.proofs.Common.{◌≡◌, ◌∙◌, ◌+◌, ◌<◌, ℕ, true, false, List, [], ◌∷◌, ◌++◌, length, take, get_or, refl, sym, ap, map}
use Rattle.std.specs.Prelude.{filter}
use Rattle.std.proofs.lemmas.List.{take_more, map-append, append-nil}
use Rattle.std.proofs.lemmas.List.Elements.{filter-append}
use Rattle.flat_scene.specs.declared.journal.Entry.{Entry}
use Rattle.flat_scene.specs.History.{is_finish}
use Rattle.flat_texts.specs.Lines.{finish_lines}
use Rattle.flat_texts.proofs.lines.finish_lines.Goals as goal
use Rattle.flat_texts.proofs.lines.finish_lines.Goals.{then-is_finish+in_ok-push, else-is_finish}

-- the lines of entries and one more
more : (entries : List Entry) (i : ℕ) (entry : Entry) → i < length entries → entry ≡ get_or entries i entry
    → finish_lines (take (i + 1) entries) ≡ finish_lines (take i entries) ++ finish_lines (entry ∷ [])
more entries i entry within is =
    let p = λ (entry : Entry). is_finish entry.kind in
    let line = λ (entry : Entry). entry.line in
    ap finish_lines (take_more entries i entry within ∙ ap (λ (entry : Entry). take i entries ++ entry ∷ []) (sym is))
    ∙ ap (map line) (filter-append p (take i entries) (entry ∷ [])) ∙ map-append line (filter p (take i entries)) (filter p (entry ∷ []))

finishes : (entry : Entry) → is_finish entry.kind ≡ true → finish_lines (entry ∷ []) ≡ entry.line ∷ []
finishes entry is = rw is refl

finishes_not : (entry : Entry) → is_finish entry.kind ≡ false → finish_lines (entry ∷ []) ≡ []
finishes_not entry is = rw is refl

pub loop-entry-preserved : goal.loop-entry-preserved
loop-entry-preserved c =
    let entry = c.entry-item.result in
    let before = finish_lines (take c.loop-entry.entry-index c.args.entries.now) in
    let next = more c.args.entries.now c.loop-entry.entry-index entry c.loop-entry-test.true c.entry-item.is in
    elim c.if-is_finish.branch [
      | then-is_finish+in_ok-push w ↦ rw w.lines-is (w.in_ok-push.ensures.items ∙ ap (λ (lines : List ℕ). lines ++ entry.line ∷ []) c.loop-entry.invariant
          ∙ ap (λ (lines : List ℕ). before ++ lines) (sym (finishes entry (sym c.is_finish.ensures ∙ w.if-is_finish.true))) ∙ sym next)
      | else-is_finish w ↦ rw w.lines-is (c.loop-entry.invariant ∙ sym (append-nil before)
          ∙ ap (λ (lines : List ℕ). before ++ lines) (sym (finishes_not entry (sym c.is_finish.ensures ∙ w.if-is_finish.false))) ∙ sym next)
    ]
