-- The load: a host session shows seven guests in viewports of its own, each guest shows 32 small fills, and in each
-- later frame everything moves a little.
use Rattle.std.specs.Prelude.{ℕ, ◌+◌, ◌*◌, ◌%◌, List, [], ◌∷◌, ◌++◌, map, codes}
use Rattle.std.specs.List.{flat_map}
use Rattle.flat_stress.specs.Words.{session, pair, from_to}
use Rattle.flat_page.specs.Words.{number, text_of}
use Rattle.flat_places.specs.Forms.{Word}

abbrev pub Line : Type 0
Line = List Word

-- a line of a session
abbrev pub says : ℕ → List Word → Line
says i words = session i ∷ words

abbrev pub head : List Line
head =
    (codes "flatland" ∷ number 1 ∷ []) ∷ (codes "display" ∷ number 1000 ∷ number 1000 ∷ []) ∷ []
    ++ map (λ i. codes "session" ∷ session i ∷ []) (from_to 1 8)
    ++ (codes "pair" ∷ pair 1 ∷ codes "display" ∷ session 1 ∷ []) ∷ []
    ++ map (λ i. codes "pair" ∷ pair i ∷ session 1 ∷ session i ∷ []) (from_to 2 8)
    ++ (codes "run" ∷ []) ∷ []

-- what each session does first
abbrev pub opening : ℕ → List Line
opening i =
    says i (codes "CreateView" ∷ pair i ∷ [])
    ∷ says i (codes "CreateTransform" ∷ number 1 ∷ [])
    ∷ says i (codes "SetRootTransform" ∷ number 1 ∷ []) ∷ []

-- a node below the root
abbrev pub node : ℕ → ℕ → List Line
node i j = says i (codes "CreateTransform" ∷ number j ∷ []) ∷ says i (codes "AddChild" ∷ number 1 ∷ number j ∷ []) ∷ []

abbrev pub move : ℕ → ℕ → ℕ → ℕ → Line
move i j x y = says i (codes "SetTranslation" ∷ number j ∷ number x ∷ number y ∷ [])

abbrev pub fill : ℕ → ℕ → List Line
fill i j =
    says i (codes "CreateFilledRect" ∷ number j ∷ [])
    ∷ says i (codes "SetSolidFill" ∷ number j ∷ number j ∷ number 0 ∷ number 0 ∷ number 255 ∷ number 4 ∷ number 4 ∷ [])
    ∷ says i (codes "SetContent" ∷ number j ∷ number j ∷ []) ∷ []

-- a viewport of the host, which shows the guest of that number
abbrev pub viewport : ℕ → List Line
viewport i =
    says 1 (codes "CreateViewport" ∷ number i ∷ pair i ∷ number 100 ∷ number 100 ∷ [])
    ∷ says 1 (codes "SetContent" ∷ number i ∷ number i ∷ []) ∷ []

abbrev pub present : ℕ → ℕ → Line
present i time = says i (codes "Present" ∷ number time ∷ [])

abbrev pub host : List Line
host = opening 1 ++ flat_map (λ i. node 1 i ++ viewport i) (from_to 2 8) ++ present 1 0 ∷ []

abbrev pub guest : ℕ → List Line
guest i = opening i ++ flat_map (λ j. node i j ++ move i j (3 * j) (2 * j) ∷ fill i j) (from_to 2 33)
    ++ present i 0 ∷ []

abbrev pub frame : ℕ → List Line
frame k = (codes "display" ∷ codes "begin" ∷ number k ∷ []) ∷ (codes "display" ∷ codes "done" ∷ []) ∷ []

-- what is said before frame k, and the frame
abbrev pub later : ℕ → List Line
later k =
    map (λ i. move 1 i ((100 * i + k) % 900) ((50 * i + k) % 900)) (from_to 2 8)
    ++ present 1 k ∷ []
    ++ flat_map (λ i. move i 2 (k % 90) 0 ∷ present i k ∷ []) (from_to 2 8)
    ++ frame k

-- the load of so many frames
abbrev pub load : ℕ → List Line
load n = head ++ host ++ flat_map guest (from_to 2 8) ++ frame 1 ++ flat_map later (from_to 2 n)

unfoldable pub load_text : ℕ → List ℕ
load_text n = text_of (load n)
