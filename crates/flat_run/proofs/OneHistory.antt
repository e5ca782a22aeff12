-- A report of a script has one run.
use Rattle.std.proofs.Common.{◌≡◌, ℕ, true, false, List, Result, Ok, Err, refl, subst, sym, ap, ◌∙◌}
use Rattle.flat_scene.specs.declared.frames.LostDisplay.{LostDisplay}
use Rattle.flat_scene.specs.declared.journal.Entry.{Entry}
use Rattle.flat_places.specs.declared.script.Script.{Script}
use Rattle.flat_script.specs.declared.script.ScriptFault.{ScriptFault}
use Rattle.flat_script.specs.Grammar.{text_read}
use Rattle.flat_report.specs.Laws.{ReportsDetermineHistories}
use Rattle.flat_report.specs.Runs.{IsRun}
use Rattle.flat_report.specs.Report.{report}
use Rattle.flat_run.specs.declared.reading.ParsedText.{ParsedText}
use Rattle.flat_words.specs.declared.service_word.ServiceWord.TheVariants.{Play, Race, Stress, Render, Damage, Focus, Pointer, Judge, Why, Film}
use Rattle.flat_run.specs.Laws.{ReportsHaveOneRun}
use Rattle.flat_run.specs.Forms.{Ran, plain, read_as}

pub same-read : {A : Type 0} (r : Result A ScriptFault) (a b : A) → r ≡ Ok a → r ≡ Ok b → a ≡ b
same-read r a b is is' = cc

-- a script that was read without extra lines
pub plain-read : (r : Result Script ScriptFault) (reading : ParsedText) → read_as plain r ≡ Ok reading → r ≡ Ok reading.script
plain-read (Ok script) reading is = let same : plain script ≡ reading = cc in ap (λ (x : ParsedText). Ok x.script) same
plain-read (Err fault) reading is = absurd (cc)

abbrev made : ParsedText → List Entry → List LostDisplay → List ℕ → Ran
made reading history lost seen = record { reading = reading; history = history; lost = lost; seen = seen }

same-made : (reading : ParsedText) (h h' : List Entry) (l l' : List LostDisplay) (n n' : List ℕ) → h ≡ h' → l ≡ l' → n ≡ n'
    → made reading h l n ≡ made reading h' l' n'
same-made reading h h' l l' n n' one two three = λ i. made reading (one i) (two i) (three i)

-- two runs of one script with the same report are one
one-of : ReportsDetermineHistories → (bytes text : List ℕ) (reading reading' : ParsedText) → text_read bytes ≡ Ok reading.script → reading ≡ reading'
    → (h h' : List Entry) (l l' : List LostDisplay) (n n' : List ℕ)
    → IsRun reading.script h l n → text ≡ report reading.script h l n → IsRun reading'.script h' l' n' → text ≡ report reading'.script h' l' n'
    → made reading h l n ≡ made reading' h' l' n'
one-of determine bytes text reading reading' read same h h' l l' n n' run is =
    let P : ParsedText → Type 0 = λ r. IsRun r.script h' l' n' → text ≡ report r.script h' l' n' → made reading h l n ≡ made r h' l' n' in
    subst P same (λ run' is'. (let one = determine bytes reading.script read h h' l l' n n' run run' (sym is ∙ is') in
    same-made reading h h' l l' n n' one.0 one.1 one.2))

pub one-run : ReportsDetermineHistories → ReportsHaveOneRun
one-run determine Play reports bytes text first second =
    one-of determine bytes text first.ran.reading second.ran.reading (plain-read (text_read bytes) first.ran.reading first.read)
    (same-read _ first.ran.reading second.ran.reading first.read second.read)
    first.ran.history second.ran.history first.ran.lost second.ran.lost first.ran.seen second.ran.seen first.has_run.run first.is second.has_run.run second.is
one-run determine Race reports bytes text first second =
    one-of determine bytes text first.ran.reading second.ran.reading (plain-read (text_read bytes) first.ran.reading first.read)
    (same-read _ first.ran.reading second.ran.reading first.read second.read)
    first.ran.history second.ran.history first.ran.lost second.ran.lost first.ran.seen second.ran.seen first.has_run.run first.is second.has_run.run second.is
one-run determine (Stress asked) reports bytes text first second = absurd (let wrong : false ≡ true = reports in cc)
one-run determine Render reports bytes text first second = absurd (let wrong : false ≡ true = reports in cc)
one-run determine Damage reports bytes text first second = absurd (let wrong : false ≡ true = reports in cc)
one-run determine Focus reports bytes text first second = absurd (let wrong : false ≡ true = reports in cc)
one-run determine Pointer reports bytes text first second = absurd (let wrong : false ≡ true = reports in cc)
one-run determine Judge reports bytes text first second = absurd (let wrong : false ≡ true = reports in cc)
one-run determine Why reports bytes text first second = absurd (let wrong : false ≡ true = reports in cc)
one-run determine Film reports bytes text first second = absurd (let wrong : false ≡ true = reports in cc)
