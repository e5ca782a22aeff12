-- The compositor looks: it may have seen more, and is else as it was.
use Rattle.std.proofs.Common.{◌≡◌, List, [], ◌++◌, refl, sym, ap, ◌∙◌, subst, append-nil}
use Rattle.std.proofs.lemmas.List.{append_assoc}
use Rattle.flat_base.specs.declared.ids.Actor.TheVariants.{Display}
use Rattle.flat_scene.specs.declared.journal.Entry.{Entry}
use Rattle.flat_scene.specs.declared.script.WaitCondition.{WaitCondition}
use Rattle.flat_scene.specs.declared.setup.Setup.{Setup}
use Rattle.flat_scene.specs.Journals.{history_of}
use Rattle.flat_core.specs.Machines.{MayLook}
use Rattle.flat_rules.specs.Legal.{Legal}
use Rattle.flat_stage.specs.Displays.{CompositorView, DisplaySees, DisplayView, KeepsStart}
use Rattle.flat_stage.specs.Seats.{StageView, setup_of, entries_of_seat}
use Rattle.flat_race.specs.Directing.{HasLooked}

-- it has not looked yet, and looks once more
pub looked_none : (setup : Setup) (c : CompositorView) → Legal setup (history_of c.display.seen) → c.display.mine ≡ entries_of_seat 0 c.display.seen
    → HasLooked setup c c
looked_none setup c legal whole = record {
  sees = record { longer = ([], sym (append-nil c.display.seen)); rest = refl };
  legal = legal;
  whole = whole;
  keeps = record { start = refl; is_open = refl };
}

pub looked_more : (setup : Setup) (a b c : CompositorView) → HasLooked setup a b → DisplaySees b.display c.display → Legal setup (history_of c.display.seen)
    → c.display.mine ≡ entries_of_seat 0 c.display.seen → KeepsStart b c → HasLooked setup a c
looked_more setup a b c one sees legal whole keeps =
    let more : List Entry = one.sees.longer.0 ++ sees.longer.0 in
    let longer : c.display.seen ≡ a.display.seen ++ more =
    sees.longer.1 ∙ ap (λ (es : List Entry). es ++ sees.longer.0) one.sees.longer.1 ∙ append_assoc a.display.seen one.sees.longer.0 sees.longer.0 in
    let rest : c.display ≡ record a.display { seen = c.display.seen } =
    sees.rest ∙ ap (λ (d : DisplayView). let then : DisplayView = record d { seen = c.display.seen } in then) one.sees.rest in
    record {
      sees = record { longer = (more, longer); rest = rest };
      legal = legal;
      whole = whole;
      keeps = record { start = keeps.start ∙ one.keeps.start; is_open = keeps.is_open ∙ one.keeps.is_open };
    }

-- by the name of a stage
pub may_look : (view : StageView) (stage_of : StageView) (c : WaitCondition) → stage_of ≡ view → MayLook (setup_of view) Display c
    → MayLook (setup_of stage_of) Display c
may_look view stage_of c same may = let P : StageView → Type 0 = λ v. MayLook (setup_of v) Display c in subst P (sym same) may

pub legal_there : (view : StageView) (stage_of : StageView) (history : List Entry) → stage_of ≡ view → Legal (setup_of stage_of) history
    → Legal (setup_of view) history
legal_there view stage_of history same legal = let P : StageView → Type 0 = λ v. Legal (setup_of v) history in subst P same legal

pub looked_there : (setup setup' : Setup) (a b : CompositorView) → setup ≡ setup' → HasLooked setup a b → HasLooked setup' a b
looked_there setup setup' a b same looked = let P : Setup → Type 0 = λ s. HasLooked s a b in subst P same looked
