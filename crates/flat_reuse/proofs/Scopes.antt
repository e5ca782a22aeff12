-- The derived tests of equality decide whether two matrices, or two rectangles, are equal.
use Rattle.std.proofs.Common.{◌≡◌, refl, ap, ℤ, Bool}
use Rattle.std.specs.Bool.{Decides}
use Rattle.std.specs.Cmp.{booleans_Decides}
use Rattle.std.proofs.lemmas.Bool.Decides.{Decides-and, Decides-like, Decides-int_eq}
use Rattle.flat_base.specs.declared.shapes.Rect.{Rect}
use Rattle.flat_base.specs.contracts.shapes.RectPartialEq.TheImpl.{eq-value as rect}
use Rattle.flat_geom.specs.declared.matrix.Matrix.{Matrix}
use Rattle.flat_geom.specs.contracts.matrix.MatrixPartialEq.TheImpl.{eq-value as matrix}

abbrev rect_at : ℤ → ℤ → ℤ → ℤ → Rect
rect_at x0 y0 x1 y1 = record { x0 = x0; y0 = y0; x1 = x1; y1 = y1 }

same-rect : (x x' y y' w w' h h' : ℤ) → x ≡ x' → y ≡ y' → w ≡ w' → h ≡ h' → rect_at x y w h ≡ rect_at x' y' w' h'
same-rect x x' y y' w w' h h' e0 e1 e2 e3 = rw (e0, e1, e2, e3) refl

rect-of : (a b : Rect) → a.x0 ≡ b.x0 → a.y0 ≡ b.y0 → a.x1 ≡ b.x1 → a.y1 ≡ b.y1 → a ≡ b
rect-of a b = same-rect a.x0 b.x0 a.y0 b.y0 a.x1 b.x1 a.y1 b.y1

pub rect-same : (a b : Rect) → Decides (rect.it a b) (a ≡ b)
rect-same a b =
    Decides-like _ (λ p. rect-of a b p.0 p.1.0 p.1.1.0 p.1.1.1)
    (λ e. (ap (λ (r : Rect). r.x0) e, (ap (λ (r : Rect). r.y0) e, (ap (λ (r : Rect). r.x1) e, ap (λ (r : Rect). r.y1) e))))
    (Decides-and _ _ (Decides-int_eq a.x0 b.x0) (Decides-and _ _ (Decides-int_eq a.y0 b.y0)
    (Decides-and _ _ (Decides-int_eq a.x1 b.x1) (Decides-int_eq a.y1 b.y1))))

abbrev matrix_at : Bool → ℤ → ℤ → ℤ → ℤ → Matrix
matrix_at swap a b x y = record { swap = swap; a = a; b = b; x = x; y = y }

same-matrix : (s s' : Bool) (a a' b b' x x' y y' : ℤ) → s ≡ s' → a ≡ a' → b ≡ b' → x ≡ x' → y ≡ y' → matrix_at s a b x y ≡ matrix_at s' a' b' x' y'
same-matrix s s' a a' b b' x x' y y' e0 e1 e2 e3 e4 = rw (e0, e1, e2, e3, e4) refl

matrix-of : (m n : Matrix) → m.swap ≡ n.swap → m.a ≡ n.a → m.b ≡ n.b → m.x ≡ n.x → m.y ≡ n.y → m ≡ n
matrix-of m n = same-matrix m.swap n.swap m.a n.a m.b n.b m.x n.x m.y n.y

pub matrix-same : (m n : Matrix) → Decides (matrix.it m n) (m ≡ n)
matrix-same m n =
    Decides-like _ (λ p. matrix-of m n p.0 p.1.0 p.1.1.0 p.1.1.1.0 p.1.1.1.1)
    (λ e. (ap (λ (r : Matrix). r.swap) e, (ap (λ (r : Matrix). r.a) e, (ap (λ (r : Matrix). r.b) e, (ap (λ (r : Matrix). r.x) e, ap (λ (r : Matrix). r.y) e)))))
    (Decides-and _ _ (booleans_Decides m.swap n.swap) (Decides-and _ _ (Decides-int_eq m.a n.a)
    (Decides-and _ _ (Decides-int_eq m.b n.b) (Decides-and _ _ (Decides-int_eq m.x n.x) (Decides-int_eq m.y n.y)))))
