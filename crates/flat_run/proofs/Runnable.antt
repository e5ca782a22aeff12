-- What a form reads can be run.
use Rattle.std.proofs.Common.{◌≡◌, ℕ, true, List, [], Result, Ok, Err, refl, subst}
use Rattle.flat_extra.specs.declared.split.ExtraSet.TheVariants as set
use Rattle.flat_extra.specs.declared.whole.FocusScript.{FocusScript}
use Rattle.flat_extra.specs.declared.whole.PointerScript.{PointerScript}
use Rattle.flat_extra.specs.Extra.{rest_of}
use Rattle.flat_extra.specs.Laws.{PointersAreKnown}
use Rattle.flat_extra.specs.Rests.{FocusRestIsRead, PointerRestIsRead}
use Rattle.flat_extra.specs.Rising.{PointersRise}
use Rattle.flat_extra.specs.Whole.{focus_read, pointers_read}
use Rattle.flat_places.specs.declared.script.Script.{Script}
use Rattle.flat_playable.specs.Playable.{is_playable}
use Rattle.flat_script.specs.declared.script.ScriptFault.{ScriptFault}
use Rattle.flat_script.specs.Grammar.{text_read}
use Rattle.flat_words.specs.declared.service_word.ServiceWord.{ServiceWord}
use Rattle.flat_words.specs.declared.service_word.ServiceWord.TheVariants.{Play, Race, Stress, Render, Damage, Focus, Pointer, Judge, Why, Film}
use Rattle.flat_run.specs.declared.reading.ParsedText.{ParsedText}
use Rattle.flat_run.specs.Answering.{IsRunnable}
use Rattle.flat_run.specs.Forms.{form_read, plain, read_as}

read-from : {A : Type 0} (f : A → ParsedText) (r : Result A ScriptFault) (reading : ParsedText) → read_as f r ≡ Ok reading → (a : A) × (r ≡ Ok a)
    × (f a ≡ reading)
read-from f (Ok a) reading is = (a, refl, let same : f a ≡ reading = cc in same)
read-from f (Err fault) reading is = absurd (cc)

module _ (playable : (bytes : List ℕ) (script : Script) → text_read bytes ≡ Ok script → is_playable script ≡ true) where
  plain-runs : (bytes : List ℕ) (reading : ParsedText) → read_as plain (text_read bytes) ≡ Ok reading → IsRunnable reading
  plain-runs bytes reading is =
      let from = read-from plain (text_read bytes) reading is in
      subst IsRunnable from.2 (record { playable = playable bytes from.0 from.1; rise = refl; pointers = refl })

  pub runnable : FocusRestIsRead → PointerRestIsRead → PointersRise → PointersAreKnown → (form : ServiceWord) (bytes : List ℕ) (reading : ParsedText)
      → form_read form bytes ≡ Ok reading → IsRunnable reading
  runnable focus pointers rise known Play bytes reading is = plain-runs bytes reading is
  runnable focus pointers rise known Race bytes reading is = plain-runs bytes reading is
  runnable focus pointers rise known (Stress asked) bytes reading is = plain-runs bytes reading is
  runnable focus pointers rise known Render bytes reading is = plain-runs bytes reading is
  runnable focus pointers rise known Damage bytes reading is = plain-runs bytes reading is
  runnable focus pointers rise known Judge bytes reading is = plain-runs bytes reading is
  runnable focus pointers rise known Why bytes reading is = plain-runs bytes reading is
  runnable focus pointers rise known Film bytes reading is = plain-runs bytes reading is
  runnable focus pointers rise known Focus bytes reading is =
      let from = read-from (λ (both : FocusScript). record { script = both.script; focus = both.lines; pointers = [] }) (focus_read bytes) reading is in
      subst IsRunnable from.2 (record { playable = playable (rest_of set.Focus bytes) from.0.script (focus bytes from.0 from.1); rise = refl; pointers = refl })
  runnable focus pointers rise known Pointer bytes reading is =
      let from = read-from (λ (both : PointerScript). record { script = both.script; focus = []; pointers = both.lines }) (pointers_read bytes) reading is in
      subst IsRunnable from.2 (record {
        playable = playable (rest_of set.Pointer bytes) from.0.script (pointers bytes from.0 from.1);
        rise = rise bytes from.0 from.1;
        pointers = known bytes from.0 from.1;
      })
