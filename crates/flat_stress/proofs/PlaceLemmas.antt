-- What the places of a line read of numbers, and of the names that the load's head gives.
use Rattle.std.proofs.Common.{false, ◌≡◌, ℕ, zero, suc, ◌^◌, ◌-◌, ◌<◌, ◌≤◌, true, nat_lt, [], ◌∷◌, Some, None, Ok, refl, codes, arith, pos, map}
use Rattle.std.proofs.Common.{option_and_then, if◌then◌else◌}
use Rattle.std.specs.Fmt.{decimal, digits}
use Rattle.std.proofs.lemmas.Bool.Decides.{nat_tests}
use Rattle.flat_base.specs.declared.ids.Actor.TheVariants.{Display, Session}
use Rattle.flat_base.specs.declared.ids.SessionNo.{SessionNo}
use Rattle.flat_scene.specs.declared.calls.Call.TheVariants as call
use Rattle.flat_scene.specs.declared.script.SessionLine.TheVariants as line
use Rattle.flat_text.specs.Number.{natural, signed}
use Rattle.flat_text.proofs.lemmas.NumberLemmas.{natural-decimal, signed-signed_decimal}
use Rattle.flat_places.specs.declared.kinds.FaultKind.TheVariants.{BadNumber}
use Rattle.flat_places.specs.declared.script.Script.{Script}
use Rattle.flat_places.specs.Forms.{or_kind}
use Rattle.flat_places.specs.Names.{actor_named}
use Rattle.flat_places.specs.Places.{fits_i32}
use Rattle.flat_scene.specs.Draft.{no_inset}
use Rattle.flat_forms.specs.Body.{session_line}
use Rattle.flat_stress.specs.Words.{session, pair, from_to}
use Rattle.flat_page.specs.Words.{number}

-- the script after the load's head
unfoldable pub start : Script
start = record {
  version = 1;
  setup = record {
    width = 1000;
    height = 1000;
    sessions = 8;
    probes = 0;
    pairs = record { viewport = Display; view = record { 0 = 1 } }
        ∷ map (λ i. record { viewport = Session (record { 0 = 1 }); view = record { 0 = i } }) (from_to 2 8);
    buffers = [];
    fences = [];
    ratio = 65536;
  };
  sessions = map session (from_to 1 8);
  probes = [];
  buffers = [];
  pairs = map pair (from_to 1 8);
  fences = [];
  lines = [];
  count = 0;
}

-- a session
abbrev pub no : ℕ → SessionNo
no i = record { 0 = i }

-- what holds of each of the eight sessions
by_session : (P : ℕ → Type 0) → P 1 → P 2 → P 3 → P 4 → P 5 → P 6 → P 7 → P 8 → (i : ℕ) → 1 ≤ i → i ≤ 8 → P i
by_session P a b c d e f g h zero low high = absurd (omega arith)
by_session P a b c d e f g h (suc zero) low high = a
by_session P a b c d e f g h (suc (suc zero)) low high = b
by_session P a b c d e f g h (suc (suc (suc zero))) low high = c
by_session P a b c d e f g h (suc (suc (suc (suc zero)))) low high = d
by_session P a b c d e f g h (suc (suc (suc (suc (suc zero))))) low high = e
by_session P a b c d e f g h (suc (suc (suc (suc (suc (suc zero)))))) low high = f
by_session P a b c d e f g h (suc (suc (suc (suc (suc (suc (suc zero))))))) low high = g
by_session P a b c d e f g h (suc (suc (suc (suc (suc (suc (suc (suc zero)))))))) low high = h
by_session P a b c d e f g h (suc (suc (suc (suc (suc (suc (suc (suc (suc i))))))))) low high = absurd (omega arith)

-- the names

pub session_named : (i : ℕ) → 1 ≤ i → i ≤ 8 → actor_named start (session i) ≡ Some (Session (no i))
unfolding start digits
session_named i low high = by_session (λ k. actor_named start (session k) ≡ Some (Session (no k))) refl refl refl refl refl refl refl refl i low high

pub view_read : (i : ℕ) → 1 ≤ i → i ≤ 8 → session_line start (no i) (codes "CreateView" ∷ pair i ∷ []) ≡ Ok (line.Call (call.CreateView (record { 0 = i - 1 })))
unfolding start digits
view_read i low high = by_session (λ k. session_line start (no k) (codes "CreateView" ∷ pair k ∷ []) ≡ Ok (line.Call (call.CreateView (record { 0 = k - 1 }))))
    refl refl refl refl refl refl refl refl i low high

-- a viewport of the host
abbrev Shows : ℕ → Type 0
Shows k = 2 ≤ k → session_line start (no 1) (codes "CreateViewport" ∷ number k ∷ pair k ∷ number 100 ∷ number 100 ∷ [])
    ≡ Ok (line.Call (call.CreateViewport (record { 0 = k }) (record { 0 = k - 1 }) 100 100 no_inset))

pub viewport_read : (i : ℕ) → 2 ≤ i → i ≤ 8 → session_line start (no 1) (codes "CreateViewport" ∷ number i ∷ pair i ∷ number 100 ∷ number 100 ∷ [])
    ≡ Ok (line.Call (call.CreateViewport (record { 0 = i }) (record { 0 = i - 1 }) 100 100 no_inset))
unfolding start digits
viewport_read i low high = by_session Shows (λ wrong. absurd (omega arith)) (λ h. refl) (λ h. refl) (λ h. refl) (λ h. refl) (λ h. refl) (λ h. refl) (λ h. refl)
    i (omega arith) high low

-- the numbers

number_read : (most n : ℕ) → n < most → most ≤ 10 ^ 20
    → or_kind BadNumber (option_and_then (λ k. if nat_lt k most then Some k else None) (natural (decimal n))) ≡ Ok n
number_read most n small fits =
    let is = natural-decimal n (omega arith) in
    let within : nat_lt n most ≡ true = grind (arith, nat_tests) in
    rw (is, within) refl

signed_read : (n : ℕ) → n < 2 ^ 31 → or_kind BadNumber (option_and_then (λ k. if fits_i32 k then Some k else None) (signed (decimal n))) ≡ Ok (pos n)
signed_read n small =
    let is = signed-signed_decimal (pos n) (omega arith) in
    let within : nat_lt n (2 ^ 31) ≡ true = grind (arith, nat_tests) in
    rw (is, within) refl

-- the lines

pub transform_read : (a : SessionNo) (t : ℕ) → t < 2 ^ 64
    → session_line start a (codes "CreateTransform" ∷ number t ∷ []) ≡ Ok (line.Call (call.CreateTransform (record { 0 = t })))
transform_read a t small = rw (number_read (2 ^ 64) t small (omega arith)) refl

pub root_read : (a : SessionNo) (t : ℕ) → t < 2 ^ 64 → session_line start a (codes "SetRootTransform" ∷ number t ∷ [])
    ≡ Ok (line.Call (call.SetRootTransform (record { 0 = t })))
root_read a t small = rw (number_read (2 ^ 64) t small (omega arith)) refl

pub child_read : (a : SessionNo) (p k : ℕ) → p < 2 ^ 64 → k < 2 ^ 64
    → session_line start a (codes "AddChild" ∷ number p ∷ number k ∷ []) ≡ Ok (line.Call (call.AddChild (record { 0 = p }) (record { 0 = k })))
child_read a p k first second = rw (number_read (2 ^ 64) p first (omega arith), number_read (2 ^ 64) k second (omega arith)) refl

pub content_read : (a : SessionNo) (t c : ℕ) → t < 2 ^ 64 → c < 2 ^ 64
    → session_line start a (codes "SetContent" ∷ number t ∷ number c ∷ []) ≡ Ok (line.Call (call.SetContent (record { 0 = t }) (record { 0 = c })))
content_read a t c first second = rw (number_read (2 ^ 64) t first (omega arith), number_read (2 ^ 64) c second (omega arith)) refl

pub move_read : (a : SessionNo) (t x y : ℕ) → t < 2 ^ 64 → x < 2 ^ 31 → y < 2 ^ 31
    → session_line start a (codes "SetTranslation" ∷ number t ∷ number x ∷ number y ∷ [])
    ≡ Ok (line.Call (call.SetTranslation (record { 0 = t }) (pos x) (pos y)))
move_read a t x y first second third = rw (number_read (2 ^ 64) t first (omega arith), signed_read x second, signed_read y third) refl

pub rect_read : (a : SessionNo) (c : ℕ) → c < 2 ^ 64 → session_line start a (codes "CreateFilledRect" ∷ number c ∷ [])
    ≡ Ok (line.Call (call.CreateFilledRect (record { 0 = c })))
rect_read a c small = rw (number_read (2 ^ 64) c small (omega arith)) refl

pub fill_read : (a : SessionNo) (c r g b o w h : ℕ) → c < 2 ^ 64 → r < 256 → g < 256 → b < 256 → o < 256 → w < 2 ^ 32 → h < 2 ^ 32
    → session_line start a (codes "SetSolidFill" ∷ number c ∷ number r ∷ number g ∷ number b ∷ number o ∷ number w ∷ number h ∷ [])
    ≡ Ok (line.Call (call.SetSolidFill (record { 0 = c }) r g b o w h))
fill_read a c r g b o w h of_c of_r of_g of_b of_o of_w of_h =
    rw (
      number_read (2 ^ 64) c of_c (omega arith),
      number_read 256 r of_r (omega arith),
      number_read 256 g of_g (omega arith),
      number_read 256 b of_b (omega arith),
      number_read 256 o of_o (omega arith),
      number_read (2 ^ 32) w of_w (omega arith),
      number_read (2 ^ 32) h of_h (omega arith),
    ) refl

pub present_read : (a : SessionNo) (t : ℕ) → t < 2 ^ 63
    → session_line start a (codes "Present" ∷ number t ∷ []) ≡ Ok (line.Present (record { time = t; acquire = []; release = []; unsquashable = false }))
present_read a t small = rw (number_read (2 ^ 63) t small (omega arith)) refl
