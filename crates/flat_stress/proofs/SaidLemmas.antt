-- What the sessions of the load say: each line is one that is read behind the head.
use Rattle.std.proofs.Common.{◌≡◌, ℕ, zero, suc, ◌+◌, ◌*◌, ◌%◌, ◌<◌, ◌≤◌, List, [], ◌∷◌, ◌++◌, length, map, Some, Ok, refl, codes, arith}
use Rattle.std.specs.List.{flat_map, range_with_len}
use Rattle.flat_base.specs.declared.ids.Actor.TheVariants.{Session}
use Rattle.flat_base.specs.declared.ids.SessionNo.{SessionNo}
use Rattle.flat_scene.specs.declared.script.SessionLine.{SessionLine}
use Rattle.flat_places.specs.Names.{actor_named}
use Rattle.flat_forms.specs.Body.{session_line}
use Rattle.flat_print.proofs.lemmas.TextLemmas.{IsLine, AllLines}
use Rattle.flat_stress.specs.Words.{session, pair, from_to}
use Rattle.flat_page.specs.Words.{number}
use Rattle.flat_places.specs.Forms.{Word}
use Rattle.flat_stress.specs.Load.{says, opening, node, move, fill, viewport, present, host, guest}
use Rattle.flat_stress.proofs.LineLemmas.{IsSolid, AllSolid, line_good, tested, number_solid, named_solid}
use Rattle.flat_stress.proofs.PlaceLemmas.{start, no, session_named, view_read, viewport_read, transform_read, root_read, child_read, content_read, move_read}
use Rattle.flat_stress.proofs.PlaceLemmas.{rect_read, fill_read, present_read}

-- words that a session says
pub record Said (ws : List Word) : Type 0 where
  pub who : SessionNo
  pub name : Word
  pub words : List Word
  pub what : SessionLine
  pub begins : ws ≡ name ∷ words
  pub good : IsLine ws
  pub named : actor_named start name ≡ Some (Session who)
  pub read : session_line start who words ≡ Ok what

abbrev pub AllSaid : List (List Word) → Type 0
AllSaid [] = Unit {0}
AllSaid (ws ∷ wss) = Said ws × AllSaid wss

pub said_lines : (wss : List (List Word)) → AllSaid wss → AllLines wss
said_lines [] all = tt
said_lines (ws ∷ wss) all = (all.0.good, said_lines wss all.1)

both_said : (xs ys : List (List Word)) → AllSaid xs → AllSaid ys → AllSaid (xs ++ ys)
both_said [] ys a b = b
both_said (x ∷ xs) ys a b = (a.0, both_said xs ys a.1 b)

each_said : (f : ℕ → List (List Word)) (first n : ℕ) → ((i : ℕ) → first ≤ i → i < first + n → AllSaid (f i)) → AllSaid (flat_map f (range_with_len first n))
each_said f first zero all = tt
each_said f first (suc n) all = both_said (f first) (flat_map f (range_with_len (first + 1) n)) (all first (omega arith) (omega arith))
    (each_said f (first + 1) n (λ i low high. all i (omega arith) (omega arith)))

each_line_said : (f : ℕ → List Word) (first n : ℕ) → ((i : ℕ) → first ≤ i → i < first + n → Said (f i)) → AllSaid (map f (range_with_len first n))
each_line_said f first zero all = tt
each_line_said f first (suc n) all = (all first (omega arith) (omega arith), each_line_said f (first + 1) n (λ i low high. all i (omega arith) (omega arith)))

-- one line

said : (i : ℕ) (words : List Word) (l : SessionLine) → 1 ≤ i → i ≤ 8 → AllSolid words → length words ≤ 24 → session_line start (no i) words ≡ Ok l
    → Said (says i words)
said i words l low high solid few read = record {
  who = no i;
  name = session i;
  words = words;
  what = l;
  begins = refl;
  good = line_good 83 (number i) words refl (named_solid 83 i refl (omega arith)) solid few;
  named = session_named i low high;
  read = read;
}

-- a number of the load
small : (n : ℕ) → n < 1000 → IsSolid (number n)
small n few = number_solid n (omega arith)

name : (i : ℕ) → i ≤ 8 → IsSolid (pair i)
name i high = named_solid 116 i refl (omega arith)

view_said : (i : ℕ) → 1 ≤ i → i ≤ 8 → Said (says i (codes "CreateView" ∷ pair i ∷ []))
view_said i low high = said i _ _ low high (tested (codes "CreateView") refl refl, (name i high, tt)) (omega arith) (view_read i low high)

transform_said : (i t : ℕ) → 1 ≤ i → i ≤ 8 → t < 1000 → Said (says i (codes "CreateTransform" ∷ number t ∷ []))
transform_said i t low high few = said i _ _ low high (tested (codes "CreateTransform") refl refl, (small t few, tt)) (omega arith)
    (transform_read (no i) t (omega arith))

root_said : (i t : ℕ) → 1 ≤ i → i ≤ 8 → t < 1000 → Said (says i (codes "SetRootTransform" ∷ number t ∷ []))
root_said i t low high few = said i _ _ low high (tested (codes "SetRootTransform") refl refl, (small t few, tt)) (omega arith)
    (root_read (no i) t (omega arith))

child_said : (i p k : ℕ) → 1 ≤ i → i ≤ 8 → p < 1000 → k < 1000 → Said (says i (codes "AddChild" ∷ number p ∷ number k ∷ []))
child_said i p k low high of_p of_k = said i _ _ low high (tested (codes "AddChild") refl refl, (small p of_p, (small k of_k, tt))) (omega arith)
    (child_read (no i) p k (omega arith) (omega arith))

content_said : (i t c : ℕ) → 1 ≤ i → i ≤ 8 → t < 1000 → c < 1000 → Said (says i (codes "SetContent" ∷ number t ∷ number c ∷ []))
content_said i t c low high of_t of_c = said i _ _ low high (tested (codes "SetContent") refl refl, (small t of_t, (small c of_c, tt))) (omega arith)
    (content_read (no i) t c (omega arith) (omega arith))

move_said : (i t x y : ℕ) → 1 ≤ i → i ≤ 8 → t < 1000 → x < 1000 → y < 1000 → Said (move i t x y)
move_said i t x y low high of_t of_x of_y =
    said i _ _ low high (tested (codes "SetTranslation") refl refl, (small t of_t, (small x of_x, (small y of_y, tt)))) (omega arith)
    (move_read (no i) t x y (omega arith) (omega arith) (omega arith))

rect_said : (i c : ℕ) → 1 ≤ i → i ≤ 8 → c < 1000 → Said (says i (codes "CreateFilledRect" ∷ number c ∷ []))
rect_said i c low high few = said i _ _ low high (tested (codes "CreateFilledRect") refl refl, (small c few, tt)) (omega arith)
    (rect_read (no i) c (omega arith))

colour_said : (i c r g b o w h : ℕ) → 1 ≤ i → i ≤ 8 → c < 1000 → r < 256 → g < 256 → b < 256 → o < 256 → w < 1000 → h < 1000
    → Said (says i (codes "SetSolidFill" ∷ number c ∷ number r ∷ number g ∷ number b ∷ number o ∷ number w ∷ number h ∷ []))
colour_said i c r g b o w h low high of_c of_r of_g of_b of_o of_w of_h =
    said i _ _ low high (
      tested (codes "SetSolidFill") refl refl,
      (
        small c of_c,
        (small r (omega arith), (small g (omega arith), (small b (omega arith), (small o (omega arith), (small w of_w, (small h of_h, tt)))))),
      ),
    )
    (omega arith) (fill_read (no i) c r g b o w h (omega arith) of_r of_g of_b of_o (omega arith) (omega arith))

viewport_said : (i : ℕ) → 2 ≤ i → i ≤ 8 → Said (says 1 (codes "CreateViewport" ∷ number i ∷ pair i ∷ number 100 ∷ number 100 ∷ []))
viewport_said i low high =
    said 1 _ _ (omega arith) (omega arith) (
      tested (codes "CreateViewport") refl refl,
      (small i (omega arith), (name i high, (small 100 (omega arith), (small 100 (omega arith), tt)))),
    ) (omega arith) (viewport_read i low high)

pub present_said : (i t : ℕ) → 1 ≤ i → i ≤ 8 → t < 1000 → Said (present i t)
present_said i t low high few = said i _ _ low high (tested (codes "Present") refl refl, (small t few, tt)) (omega arith) (present_read (no i) t (omega arith))

-- the parts of the load

opening_said : (i : ℕ) → 1 ≤ i → i ≤ 8 → AllSaid (opening i)
opening_said i low high = (view_said i low high, (transform_said i 1 low high (omega arith), (root_said i 1 low high (omega arith), tt)))

node_said : (i j : ℕ) → 1 ≤ i → i ≤ 8 → j < 100 → AllSaid (node i j)
node_said i j low high few = (transform_said i j low high (omega arith), (child_said i 1 j low high (omega arith) (omega arith), tt))

fill_said : (i j : ℕ) → 1 ≤ i → i ≤ 8 → j < 100 → AllSaid (fill i j)
fill_said i j low high few = (
  rect_said i j low high (omega arith),
  (
    colour_said i j j 0 0 255 4 4 low high (omega arith) (omega arith) (omega arith) (omega arith) (omega arith)
        (omega arith) (omega arith),
    (content_said i j j low high (omega arith) (omega arith), tt),
  ),
)

shown_said : (i : ℕ) → 2 ≤ i → i ≤ 8 → AllSaid (viewport i)
shown_said i low high = (viewport_said i low high, (content_said 1 i i (omega arith) (omega arith) (omega arith) (omega arith), tt))

pub host_said : AllSaid host
host_said =
    both_said (opening 1 ++ flat_map (λ i. node 1 i ++ viewport i) (from_to 2 8)) (present 1 0 ∷ [])
    (both_said (opening 1) (flat_map (λ i. node 1 i ++ viewport i) (from_to 2 8)) (opening_said 1 (omega arith) (omega arith))
    (each_said (λ i. node 1 i ++ viewport i) 2 7 (λ i low high. both_said (node 1 i) (viewport i) (node_said 1 i (omega arith) (omega arith) (omega arith))
    (shown_said i low (omega arith)))))
    (present_said 1 0 (omega arith) (omega arith) (omega arith), tt)

fills_said : (i : ℕ) → 1 ≤ i → i ≤ 8 → AllSaid (flat_map (λ j. node i j ++ move i j (3 * j) (2 * j) ∷ fill i j) (from_to 2 33))
fills_said i low high =
    each_said (λ j. node i j ++ move i j (3 * j) (2 * j) ∷ fill i j) 2 32
    (λ j least most. both_said (node i j) (move i j (3 * j) (2 * j) ∷ fill i j) (node_said i j low high (omega arith))
    (move_said i j (3 * j) (2 * j) low high (omega arith) (omega arith) (omega arith), fill_said i j low high (omega arith)))

guest_said : (i : ℕ) → 1 ≤ i → i ≤ 8 → AllSaid (guest i)
guest_said i low high =
    let fills = flat_map (λ j. node i j ++ move i j (3 * j) (2 * j) ∷ fill i j) (from_to 2 33) in
    both_said (opening i ++ fills) (present i 0 ∷ []) (both_said (opening i) fills (opening_said i low high) (fills_said i low high))
    (present_said i 0 low high (omega arith), tt)

pub guests_said : AllSaid (flat_map guest (from_to 2 8))
guests_said = each_said guest 2 7 (λ i low high. guest_said i (omega arith) (omega arith))

-- what is said before a later frame
abbrev pub moves : ℕ → List (List Word)
moves k =
    map (λ i. move 1 i ((100 * i + k) % 900) ((50 * i + k) % 900)) (from_to 2 8)
    ++ present 1 k ∷ []
    ++ flat_map (λ i. move i 2 (k % 90) 0 ∷ present i k ∷ []) (from_to 2 8)

pub moves_said : (k : ℕ) → k < 1000 → AllSaid (moves k)
moves_said k few =
    let of_host : ℕ → List Word = λ i. move 1 i ((100 * i + k) % 900) ((50 * i + k) % 900) in
    let of_guest : ℕ → List (List Word) = λ i. move i 2 (k % 90) 0 ∷ present i k ∷ [] in
    both_said (map of_host (from_to 2 8) ++ present 1 k ∷ []) (flat_map of_guest (from_to 2 8))
    (both_said (map of_host (from_to 2 8)) (present 1 k ∷ [])
    (each_line_said of_host 2 7 (λ i low high. move_said 1 i ((100 * i + k) % 900) ((50 * i + k) % 900) (omega arith) (omega arith) (omega arith) (omega arith)
    (omega arith)))
    (present_said 1 k (omega arith) (omega arith) few, tt))
    (each_said of_guest 2 7 (λ i low high. (
      move_said i 2 (k % 90) 0 (omega arith) (omega arith) (omega arith) (omega arith) (omega arith),
      (present_said i k (omega arith) (omega arith) few, tt),
    )))
