-- what the load is, worked out
use Rattle.std.proofs.Common.{◌≡◌, ℕ, List, [], ◌∷◌, ◌++◌, length, take, refl, codes}
use Rattle.std.specs.List.{flat_map}
use Rattle.std.specs.Fmt.{digits}
use Rattle.flat_page.specs.Words.{text_of}
use Rattle.flat_stress.specs.Load.{head, host, guest, later, load}

-- lines as they stand in a text
abbrev lines : List (List ℕ) → List ℕ
lines ls = flat_map (λ l. l ++ 10 ∷ []) ls

the_head : text_of head ≡ lines (
    codes "flatland 1" ∷
    codes "display 1000 1000" ∷
    codes "session S1" ∷
    codes "session S2" ∷
    codes "session S3" ∷
    codes "session S4" ∷
    codes "session S5" ∷
    codes "session S6" ∷
    codes "session S7" ∷
    codes "session S8" ∷
    codes "pair t1 display S1" ∷
    codes "pair t2 S1 S2" ∷
    codes "pair t3 S1 S3" ∷
    codes "pair t4 S1 S4" ∷
    codes "pair t5 S1 S5" ∷
    codes "pair t6 S1 S6" ∷
    codes "pair t7 S1 S7" ∷
    codes "pair t8 S1 S8" ∷
    codes "run" ∷ [])
unfolding digits
the_head = refl

the_host : text_of host ≡ lines (
    codes "S1 CreateView t1" ∷
    codes "S1 CreateTransform 1" ∷
    codes "S1 SetRootTransform 1" ∷
    codes "S1 CreateTransform 2" ∷
    codes "S1 AddChild 1 2" ∷
    codes "S1 CreateViewport 2 t2 100 100" ∷
    codes "S1 SetContent 2 2" ∷
    codes "S1 CreateTransform 3" ∷
    codes "S1 AddChild 1 3" ∷
    codes "S1 CreateViewport 3 t3 100 100" ∷
    codes "S1 SetContent 3 3" ∷
    codes "S1 CreateTransform 4" ∷
    codes "S1 AddChild 1 4" ∷
    codes "S1 CreateViewport 4 t4 100 100" ∷
    codes "S1 SetContent 4 4" ∷
    codes "S1 CreateTransform 5" ∷
    codes "S1 AddChild 1 5" ∷
    codes "S1 CreateViewport 5 t5 100 100" ∷
    codes "S1 SetContent 5 5" ∷
    codes "S1 CreateTransform 6" ∷
    codes "S1 AddChild 1 6" ∷
    codes "S1 CreateViewport 6 t6 100 100" ∷
    codes "S1 SetContent 6 6" ∷
    codes "S1 CreateTransform 7" ∷
    codes "S1 AddChild 1 7" ∷
    codes "S1 CreateViewport 7 t7 100 100" ∷
    codes "S1 SetContent 7 7" ∷
    codes "S1 CreateTransform 8" ∷
    codes "S1 AddChild 1 8" ∷
    codes "S1 CreateViewport 8 t8 100 100" ∷
    codes "S1 SetContent 8 8" ∷
    codes "S1 Present 0" ∷ [])
unfolding digits
the_host = refl

a_guest : text_of (take 9 (guest 2)) ≡ lines (
    codes "S2 CreateView t2" ∷
    codes "S2 CreateTransform 1" ∷
    codes "S2 SetRootTransform 1" ∷
    codes "S2 CreateTransform 2" ∷
    codes "S2 AddChild 1 2" ∷
    codes "S2 SetTranslation 2 6 4" ∷
    codes "S2 CreateFilledRect 2" ∷
    codes "S2 SetSolidFill 2 2 0 0 255 4 4" ∷
    codes "S2 SetContent 2 2" ∷ [])
unfolding digits
a_guest = refl

the_third_frame : text_of (later 3) ≡ lines (
    codes "S1 SetTranslation 2 203 103" ∷
    codes "S1 SetTranslation 3 303 153" ∷
    codes "S1 SetTranslation 4 403 203" ∷
    codes "S1 SetTranslation 5 503 253" ∷
    codes "S1 SetTranslation 6 603 303" ∷
    codes "S1 SetTranslation 7 703 353" ∷
    codes "S1 SetTranslation 8 803 403" ∷
    codes "S1 Present 3" ∷
    codes "S2 SetTranslation 2 3 0" ∷
    codes "S2 Present 3" ∷
    codes "S3 SetTranslation 2 3 0" ∷
    codes "S3 Present 3" ∷
    codes "S4 SetTranslation 2 3 0" ∷
    codes "S4 Present 3" ∷
    codes "S5 SetTranslation 2 3 0" ∷
    codes "S5 Present 3" ∷
    codes "S6 SetTranslation 2 3 0" ∷
    codes "S6 Present 3" ∷
    codes "S7 SetTranslation 2 3 0" ∷
    codes "S7 Present 3" ∷
    codes "S8 SetTranslation 2 3 0" ∷
    codes "S8 Present 3" ∷
    codes "display begin 3" ∷
    codes "display done" ∷ [])
unfolding digits
the_third_frame = refl

one_frame : length (load 1) ≡ 1425
one_frame = refl

two_frames : length (load 2) ≡ 1449
two_frames = refl
