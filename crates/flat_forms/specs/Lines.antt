-- A line of words, in the part of the text that it is in.
use Rattle.std.specs.Prelude.{ℕ, List, [], ◌∷◌, Err, codes, if◌then◌else◌}
use Rattle.std.specs.Str.{bytes_eq}
use Rattle.flat_places.specs.declared.kinds.FaultKind.TheVariants.{BadHead}
use Rattle.flat_places.specs.declared.script.Script.{Script}
use Rattle.flat_places.specs.Forms.{Word, Reading, mapped}
use Rattle.flat_forms.specs.declared.lines.TextPart.{TextPart}
use Rattle.flat_forms.specs.declared.lines.TextPart.TheVariants.{Start, Head, Body}
use Rattle.flat_forms.specs.Head.{first_line, head_line, run_line, with_version}
use Rattle.flat_forms.specs.Body.{body_line}

-- the part of the text that the next line is in, and the script so far
abbrev pub Sofar : Type 0
Sofar = TextPart × Script

-- what the words of line n make of it
abbrev pub words_read : ℕ → Sofar → List Word → Reading Sofar
words_read n (Start, s) words = mapped (λ version. (Head, with_version s version)) (first_line words)
words_read n (Head, s) [] = Err BadHead
words_read n (Head, s) (w ∷ words) =
    if bytes_eq w (codes "run") then mapped (λ _. (Body, s)) (run_line s words)
    else mapped (λ t. (Head, t)) (head_line s (w ∷ words))
words_read n (Body, s) words = mapped (λ t. (Body, t)) (body_line s n words)
