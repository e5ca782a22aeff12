-- Seats that go out one after another, and come back the last first.
use Rattle.std.proofs.Common.{◌≡◌, ◌⊎◌, inl, inr, ℕ, zero, suc, ◌+◌, ◌-◌, ◌<◌, Bool, true, false, cond, ◌==◌, List, [], ◌∷◌, ◌++◌, length, length-append}
use Rattle.std.proofs.Common.{slice_get, slice_set, slice_index_or, Option, Some, None, refl, sym, ap, ◌∙◌, subst, arith, eq-or-lt_of_le}
use Rattle.std.proofs.lemmas.Bool.Decides.{nat_tests}
use Rattle.flat_base.specs.declared.ids.SessionNo.{SessionNo}
use Rattle.flat_scene.specs.Journals.{history_of}
use Rattle.flat_scene.specs.Interleave.{Follows, IsReading, session_lines}
use Rattle.flat_places.specs.declared.script.Script.{Script}
use Rattle.flat_play.proofs.lemmas.Slots.{got-other, got-same, set-length}
use Rattle.flat_stage.specs.Homes.{AreFresh, fresh_view, seats_without, session_at}
use Rattle.flat_stage.specs.Seats.{SessionView, StageView}
use Rattle.flat_race.specs.declared.threads.LentSeat.{LentSeat}
use Rattle.flat_race.specs.declared.session.SessionBack.{SessionBack}
use Rattle.flat_race.specs.SessionThreads.{AreBack, AreLeft, AreOut, IsOut}
use Rattle.flat_race.specs.Sessions.{HasRun}

module _ {X : Type 0} where
  pub got-push : (xs : List X) (x : X) (i : ℕ) (o : X) → slice_get (xs ++ x ∷ []) i ≡ Some o → (slice_get xs i ≡ Some o) ⊎ ((i ≡ length xs) × (o ≡ x))
  got-push [] x zero o e = let f : x ≡ o = cc in inr (refl, sym f)
  got-push [] x (suc i) o e = absurd (let f : None ≡ Some o = e in cc)
  got-push (y ∷ ys) x zero o e = inl e
  got-push (y ∷ ys) x (suc i) o e = elim (got-push ys x i o e) [ inl f ↦ inl f | inr f ↦ inr (ap suc f.0, f.1) ]

  got-before : (xs : List X) (x : X) (i : ℕ) (o : X) → slice_get xs i ≡ Some o → slice_get (xs ++ x ∷ []) i ≡ Some o
  got-before [] x i o e = absurd (let f : None ≡ Some o = e in cc)
  got-before (y ∷ ys) x zero o e = e
  got-before (y ∷ ys) x (suc i) o e = got-before ys x i o e

  got-last : (xs : List X) (x : X) → slice_get (xs ++ x ∷ []) (length xs) ≡ Some x
  got-last [] x = refl
  got-last (y ∷ ys) x = got-last ys x

module _ (view : StageView) (script : Script) where
  -- one more is out
  pub out-more : (out out' : List LentSeat) (o : LentSeat) (k : ℕ) → out' ≡ out ++ o ∷ [] → length out ≡ k → IsOut view script (record { 0 = k + 1 }) o
      → AreOut view script k out → AreOut view script (k + 1) out'
  out-more out out' o k e len is are = record {
    many = ap length e ∙ length-append out (o ∷ []) ∙ ap (λ n. n + 1) len;
    each = λ i x got. elim (got-push out o i x (subst (λ (l : List LentSeat). slice_get l i ≡ Some x) e got)) [
      | inl f ↦ are.each i x f
      | inr f ↦ subst (λ (y : LentSeat). IsOut view script (record { 0 = i + 1 }) y) (sym f.1)
          (subst (λ (j : ℕ). IsOut view script (record { 0 = j + 1 }) o) (sym (f.0 ∙ len)) is)
    ];
  }

  -- the last one is taken
  pub out-last : (out out' : List LentSeat) (o : LentSeat) (k : ℕ) → out ≡ out' ++ o ∷ [] → length out' ≡ k → AreOut view script (length out) out
      → IsOut view script (record { 0 = k + 1 }) o × AreOut view script k out'
  out-last out out' o k e len are = (
    subst (λ (j : ℕ). IsOut view script (record { 0 = j + 1 }) o) len
        (are.each (length out') o (ap (λ (l : List LentSeat). slice_get l (length out')) e ∙ got-last out' o)),
    record { many = len; each = λ i x got. are.each i x (ap (λ (l : List LentSeat). slice_get l i) e ∙ got-before out' o i x got) },
  )

  -- one more is back
  pub back-more : (k : ℕ) (are_whole are_whole' : Bool) (seats seats' : List (Option SessionView)) (back : SessionBack)
      → HasRun view script (record { 0 = k + 1 }) back → k < script.setup.sessions
      → seats' ≡ slice_set seats (back.seat.session.0 - 1) (Some back.seat) → (are_whole' ≡ true → (are_whole ≡ true) × (back.is_whole ≡ true))
      → AreBack view script (k + 1) are_whole seats → AreBack view script k are_whole' seats'
  back-more k are_whole are_whole' seats seats' back run within put both was =
      let n : back.seat.session.0 ≡ k + 1 = ap (λ (s : SessionNo). s.0) run.session in
      let put' : seats' ≡ slice_set seats k (Some back.seat) = put ∙ ap (λ (j : ℕ). slice_set seats j (Some back.seat)) (omega (arith, n)) in
      let inside : k < length seats = let c = was.count in omega (arith, c) in
      let here : slice_get seats' k ≡ Some (Some back.seat) =
      ap (λ (l : List (Option SessionView)). slice_get l k) put' ∙ got-same seats k (Some back.seat) inside in
      let other = λ (s : ℕ) (low : k < s). ap (λ (l : List (Option SessionView)). slice_get l s) put'
      ∙ got-other seats k s (Some back.seat) (λ (e : s ≡ k). omega (arith, e, low)) in
      record {
        count = ap length put' ∙ set-length seats k (Some back.seat) ∙ was.count;
        home = λ s low high. elim (eq-or-lt_of_le low) [
          | inl e ↦ subst (λ (j : ℕ). (seat : SessionView) × (slice_get seats' j ≡ Some (Some seat)) × (seat.session.0 ≡ j + 1)) e (back.seat, here, n)
          | inr l ↦ let h = was.home s (omega (arith, l)) high in (h.0, other s l ∙ h.1, h.2)
        ];
        begun = λ s seat low high got. elim (eq-or-lt_of_le low) [
          | inl e ↦
              let same : seat ≡ back.seat = (let both : Some (Some seat) ≡ Some (Some back.seat) = sym got ∙ ap (slice_get seats') (sym e) ∙ here in cc) in
              subst (λ (j : ℕ). Follows script.setup script.count (session_lines (record { 0 = j + 1 }) script.lines) (history_of seat.mine)) e
              (subst (λ (v : SessionView). Follows script.setup script.count (session_lines (record { 0 = k + 1 }) script.lines) (history_of v.mine)) (sym same)
              run.begun)
          | inr l ↦ was.begun s seat (omega (arith, l)) high (sym (other s l) ∙ got)
        ];
        read = λ s seat low high got whole. elim (eq-or-lt_of_le low) [
          | inl e ↦
              let same : seat ≡ back.seat = (let both : Some (Some seat) ≡ Some (Some back.seat) = sym got ∙ ap (slice_get seats') (sym e) ∙ here in cc) in
              subst (λ (j : ℕ). IsReading script.setup script.count (session_lines (record { 0 = j + 1 }) script.lines) (history_of seat.mine)) e
              (subst (λ (v : SessionView). IsReading script.setup script.count (session_lines (record { 0 = k + 1 }) script.lines) (history_of v.mine))
              (sym same) (run.read (both whole).1))
          | inr l ↦ was.read s seat (omega (arith, l)) high (sym (other s l) ∙ got) (both whole).0
        ];
      }

-- ---- seats that are handed out

index_is : {X : Type 0} (xs : List X) (k : ℕ) (x d : X) → slice_get xs k ≡ Some x → slice_index_or xs k d ≡ x
index_is [] k x d e = absurd (let f : None ≡ Some x = e in cc)
index_is (y ∷ ys) zero x d e = cc
index_is (y ∷ ys) (suc k) x d e = index_is ys k x d e

not_zero : (k : ℕ) → (k + 1 == 0) ≡ false
not_zero k = grind (arith, nat_tests)

at_place : (seats : List (Option SessionView)) (k : ℕ) (seat : Option SessionView) → slice_get seats k ≡ Some seat
    → session_at seats (record { 0 = k + 1 }) ≡ seat
at_place seats k seat got =
    let none : Option SessionView = None in
    ap (λ b. cond b none (slice_index_or seats (k + 1 - 1) none)) (not_zero k)
    ∙ ap (λ (n : ℕ). slice_index_or seats n none) (let e : k + 1 - 1 ≡ k = omega arith in e) ∙ index_is seats k seat none got

without_place : (seats : List (Option SessionView)) (k : ℕ) → seats_without seats (record { 0 = k + 1 }) ≡ slice_set seats k None
without_place seats k =
    ap (λ b. cond b seats (slice_set seats (k + 1 - 1) None)) (not_zero k) ∙ ap (λ (n : ℕ). slice_set seats n None) (let e : k + 1 - 1 ≡ k = omega arith in e)

pub left-all : (view : StageView) (sessions : ℕ) (seats : List (Option SessionView)) → AreFresh view sessions seats → AreLeft view sessions 0 seats
left-all view sessions seats fresh = record { count = fresh.count; each = λ k low high. fresh.each k high }

pub left-next : (view : StageView) (sessions k : ℕ) (seats : List (Option SessionView)) → k < sessions → AreLeft view sessions k seats
    → session_at seats (record { 0 = k + 1 }) ≡ Some (fresh_view view (record { 0 = k + 1 }))
left-next view sessions k seats within left =
    let got : slice_get seats k ≡ Some (Some (fresh_view view (record { 0 = k + 1 }))) = left.each k (omega arith) within in
    at_place seats k (Some (fresh_view view (record { 0 = k + 1 }))) got

pub left-more : (view : StageView) (sessions k : ℕ) (seats seats' : List (Option SessionView)) → seats' ≡ seats_without seats (record { 0 = k + 1 })
    → AreLeft view sessions k seats → AreLeft view sessions (k + 1) seats'
left-more view sessions k seats seats' is left =
    let without : seats' ≡ slice_set seats k None = is ∙ without_place seats k in
    record {
      count = ap length without ∙ set-length seats k None ∙ left.count;
      each = λ j low high. ap (λ (l : List (Option SessionView)). slice_get l j) without ∙ got-other seats k j None (λ (e : j ≡ k). omega (arith, e, low))
          ∙ left.each j (omega (arith, low)) high;
    }

-- the seat that is handed out read no line
pub next_is_fresh : (view : StageView) (sessions k : ℕ) (seats : List (Option SessionView)) (seat : SessionView) → k < sessions → AreLeft view sessions k seats
    → Some seat ≡ session_at seats (record { 0 = k + 1 }) → seat ≡ fresh_view view seat.session
next_is_fresh view sessions k seats seat within left is =
    let both : Some seat ≡ Some (fresh_view view (record { 0 = k + 1 })) = is ∙ left-next view sessions k seats within left in
    let fresh : seat ≡ fresh_view view (record { 0 = k + 1 }) = cc in
    fresh ∙ ap (fresh_view view) (sym (ap (λ (v : SessionView). v.session) fresh))

pub is_next : (view : StageView) (sessions k : ℕ) (seats : List (Option SessionView)) (seat : SessionView) → k < sessions → AreLeft view sessions k seats
    → Some seat ≡ session_at seats (record { 0 = k + 1 }) → seat.session ≡ record { 0 = k + 1 }
is_next view sessions k seats seat within left is =
    let both : Some seat ≡ Some (fresh_view view (record { 0 = k + 1 })) = is ∙ left-next view sessions k seats within left in
    let fresh : seat ≡ fresh_view view (record { 0 = k + 1 }) = cc in
    ap (λ (v : SessionView). v.session) fresh
