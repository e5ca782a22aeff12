-- Lines written one after another, each behind a line feed.
use Rattle.std.proofs.Common.{◌≡◌, ℕ, List, [], ◌∷◌, ◌++◌, refl, sym, ap, ◌∙◌, append_assoc, append-nil, take, ◌<◌, length, get_or, map, ◌+◌, arith}
use Rattle.std.proofs.Common.{length-take}
use Rattle.std.proofs.lemmas.List.{take_more, map-append}
use Rattle.flat_places.specs.Forms.{Word}
use Rattle.flat_print.specs.Print.{Feeds, Starts, fed, numbered}
use Rattle.flat_page.specs.Words.{spaced, line_of}
use Rattle.flat_page.specs.Pages.{Writes}

pub fed-append : (xs ys : List (List Word)) → fed (xs ++ ys) ≡ fed xs ++ fed ys
fed-append [] ys = refl
fed-append (x ∷ xs) ys = ap (λ t. 10 ∷ (line_of x ++ t)) (fed-append xs ys) ∙ ap (λ t. 10 ∷ t) (sym (append_assoc (line_of x) (fed xs) (fed ys)))

pub no_line : (old : List ℕ) → Feeds [] old old
no_line old = record { text = sym (append-nil old) }

pub then_lines : {xs ys : List (List Word)} {old mid new : List ℕ} → Feeds xs old mid → Feeds ys mid new → Feeds (xs ++ ys) old new
then_lines {xs = xs} {ys = ys} {old = old} first second =
    record { text = second.text ∙ ap (λ m. m ++ fed ys) first.text ∙ append_assoc old (fed xs) (fed ys) ∙ ap (λ t. old ++ t) (sym (fed-append xs ys)) }

-- a first word and the words behind it are a line
pub one_line : {w : Word} {ws : List Word} {old mid new : List ℕ} → Starts w old mid → Writes ws mid new → Feeds ((w ∷ ws) ∷ []) old new
one_line {w = w} {ws = ws} {old = old} first rest =
    record {
      text = rest.text ∙ ap (λ m. m ++ spaced ws) first.text ∙ append_assoc old (10 ∷ w) (spaced ws)
          ∙ ap (λ t. old ++ 10 ∷ t) (sym (append-nil (w ++ spaced ws)));
    }

pub same_lines : {xs ys : List (List Word)} {old new : List ℕ} → xs ≡ ys → Feeds xs old new → Feeds ys old new
same_lines {old = old} same written = record { text = written.text ∙ ap (λ ws. old ++ fed ws) same }

one_more_line : {A : Type 0} (g : A → List Word) (xs : List A) (i : ℕ) (d : A) → i < length xs
    → map g (take (i + 1) xs) ≡ map g (take i xs) ++ g (get_or xs i d) ∷ []
one_more_line g xs i d within = ap (map g) (take_more xs i d within) ∙ map-append g (take i xs) (get_or xs i d ∷ [])

-- a loop over items that writes a line for each
pub more_lines : {A : Type 0} (g : A → List Word) (xs : List A) (i : ℕ) (d : A) (ws : List Word) {old mid new : List ℕ} → i < length xs → ws ≡ g (get_or xs i d)
    → Feeds (map g (take i xs)) old mid → Feeds (ws ∷ []) mid new
    → Feeds (map g (take (i + 1) xs)) old new
more_lines g xs i d ws within is first second = same_lines (ap (λ v. map g (take i xs) ++ v ∷ []) is ∙ sym (one_more_line g xs i d within))
    (then_lines first second)

pub numbered-append : {A : Type 0} (f : ℕ → A → List Word) (n : ℕ) (xs ys : List A) → numbered f n (xs ++ ys) ≡ numbered f n xs ++ numbered f (n + length xs) ys
numbered-append f n [] ys = ap (λ k. numbered f k ys) (omega arith)
numbered-append f n (x ∷ xs) ys = ap (λ t. f n x ∷ t) (numbered-append f (n + 1) xs ys ∙ ap (λ k. numbered f (n + 1) xs ++ numbered f k ys) (omega arith))

one_more_numbered : {A : Type 0} (f : ℕ → A → List Word) (xs : List A) (i : ℕ) (d : A) → i < length xs
    → numbered f 0 (take (i + 1) xs) ≡ numbered f 0 (take i xs) ++ f i (get_or xs i d) ∷ []
one_more_numbered f xs i d within =
    let many : 0 + length (take i xs) ≡ i = omega (arith, length-take i xs) in
    ap (numbered f 0) (take_more xs i d within) ∙ numbered-append f 0 (take i xs) (get_or xs i d ∷ [])
    ∙ ap (λ k. numbered f 0 (take i xs) ++ f k (get_or xs i d) ∷ []) many

-- a loop over numbered items that writes a line for each
pub more_numbered : {A : Type 0} (f : ℕ → A → List Word) (xs : List A) (i : ℕ) (d : A) (ws : List Word) {old mid new : List ℕ} → i < length xs
    → ws ≡ f i (get_or xs i d) → Feeds (numbered f 0 (take i xs)) old mid
    → Feeds (ws ∷ []) mid new → Feeds (numbered f 0 (take (i + 1) xs)) old new
more_numbered f xs i d ws within is first second = same_lines (ap (λ v. numbered f 0 (take i xs) ++ v ∷ []) is ∙ sym (one_more_numbered f xs i d within))
    (then_lines first second)
