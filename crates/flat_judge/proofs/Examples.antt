-- Small texts, computed: where they part, which line is which, where a report begins, and what it says of probes.
use Rattle.std.proofs.Common.{◌≡◌, ℕ, List, [], ◌∷◌, ◌++◌, true, false, Some, None, inl, inr, refl}
use Rattle.std.specs.Prelude.{codes}
use Rattle.flat_judge.specs.Cuts.{IsCut, is_title}
use Rattle.flat_text.specs.Pieces.{words_of}
use Rattle.flat_places.specs.declared.script.Script.{Script}
use Rattle.flat_forms.specs.Head.{empty}
use Rattle.flat_judge.specs.Heeding.{is_reached}
use Rattle.flat_judge.specs.Hints.{frame_told, last_lines, probe_by}
use Rattle.flat_judge.specs.Parting.{line_of, parts_from}

-- ---- where two texts part

abbrev two_lines : List ℕ
two_lines = codes "a b" ++ 10 ∷ codes "c" ++ 10 ∷ []

a_text_parts_from_itself_nowhere : parts_from 1 two_lines two_lines ≡ None
a_text_parts_from_itself_nowhere = refl

another_letter_in_line_two : parts_from 1 (codes "a b" ++ 10 ∷ codes "d" ++ 10 ∷ []) two_lines ≡ Some 2
another_letter_in_line_two = refl

-- a line without its feed is another one
no_last_feed : parts_from 1 (codes "a b" ++ 10 ∷ codes "c") two_lines ≡ Some 2
no_last_feed = refl

a_line_too_many : parts_from 1 (two_lines ++ codes "e") two_lines ≡ Some 3
a_line_too_many = refl

no_text : parts_from 1 [] two_lines ≡ Some 1
no_text = refl

-- ---- the line of a number

the_second_line : line_of 2 two_lines ≡ Some (codes "c")
the_second_line = refl

-- where a text ends with a feed no line follows
no_third_line : line_of 3 two_lines ≡ None
no_third_line = refl

-- ---- a script with a report behind it

a_title : is_title (codes "report flatland 2") ≡ true
a_title = refl

no_title_of_version_four : is_title (codes "report flatland 4") ≡ false
no_title_of_version_four = refl

no_title_with_a_space : is_title (codes "report flatland 1 ") ≡ false
no_title_with_a_space = refl

abbrev script_part : List ℕ
script_part = codes "run" ++ 10 ∷ []

abbrev report_part : List ℕ
report_part = codes "report flatland 1" ++ 10 ∷ codes "report ends" ++ 10 ∷ []

cut_before_the_title : IsCut (script_part ++ report_part) script_part report_part
cut_before_the_title = record { whole = refl; lines = refl; none = refl; titled = inr refl }

cut_at_the_end : IsCut script_part script_part []
cut_at_the_end = record { whole = refl; lines = refl; none = refl; titled = inl refl }

-- no cut within a line
not_within_a_line : IsCut (codes "x" ++ report_part) (codes "x") report_part → ⊥
not_within_a_line cut = let wrong = cut.lines in cc

-- ---- what a report says of probes

the_frame_of_a_hit : frame_told (words_of (codes "P 9 hit 10 20 frame 2 A 0")) ≡ 2
the_frame_of_a_hit = refl

the_frame_of_an_await : frame_told (words_of (codes "P 9 await frame 7")) ≡ 7
the_frame_of_an_await = refl

-- no number, or a greater one than any frame has
no_frame : frame_told (words_of (codes "P 9 await frame x")) ≡ 0
no_frame = refl

no_frame_of_more_bits : frame_told (words_of (codes "P 9 await frame 4294967296")) ≡ 0
no_frame_of_more_bits = refl

the_last_two_lines : last_lines 2 (codes "A end 0" ++ 10 ∷ codes "P 9 await frame 7" ++ 10 ∷ codes "report ends" ++ 10 ∷ []) ≡ codes "P 9 await frame 7"
    ∷ codes "report ends" ∷ []
the_last_two_lines = refl

abbrev asked_script : Script
asked_script = record empty { probes = codes "P" ∷ codes "view" ∷ [] }

the_first_probe : probe_by asked_script (Some (codes "P")) (Some (codes "9")) ≡ Some 0
the_first_probe = refl

-- a line of a view names a session in the second place
not_of_a_probe_named_view : probe_by asked_script (Some (codes "view")) (Some (codes "A")) ≡ None
not_of_a_probe_named_view = refl

a_line_waits_for_its_frame : is_reached (Some 2) 1 ≡ false
a_line_waits_for_its_frame = refl
