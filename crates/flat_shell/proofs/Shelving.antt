-- What a shell keeps when a seat leaves, or comes home.
use Rattle.std.proofs.Common.{◌≡◌, ℕ, zero, suc, ◌+◌, ◌-◌, ◌<◌, ◌≤◌, ◌==◌, Bool, true, false, cond, not, nat_lt}
use Rattle.std.proofs.Common.{nat_le, List, [], ◌∷◌, length, replicate, slice_get, slice_index, slice_index_or}
use Rattle.std.proofs.Common.{slice_set, Option, Some, None, refl, sym, ap, ◌∙◌, subst, arith}
use Rattle.std.proofs.lemmas.Bool.Decides.{nat_tests}
use Rattle.flat_base.proofs.lemmas.Tests.{and-left, and-right}
use Rattle.flat_base.specs.declared.ids.SessionNo.{SessionNo}
use Rattle.flat_scene.specs.declared.setup.Setup.{Setup}
use Rattle.flat_scene.specs.Setups.{is_declared, is_within}
use Rattle.flat_play.proofs.lemmas.Slots.{got-other, set-length}
use Rattle.flat_stage.specs.Homes.{AreFresh, SeatsView, fresh_view, seats_without, session_at}
use Rattle.flat_stage.specs.Seats.{SessionView, StageView, setup_of, shares_of}
use Rattle.flat_shell.specs.Shells.{IsShell, ShellView, is_waiting}

both : (b x : Bool) → cond b false x ≡ true → (b ≡ false) × (x ≡ true)
both true x holds = absurd (let wrong : false ≡ true = holds in cc)
both false x holds = (refl, holds)

-- a flag that isn't set has a place, and is another one than that which is set now
within : (handed : List Bool) (i : ℕ) → not (slice_index_or handed i true) ≡ true → i < length handed
within [] i holds = absurd (let wrong : false ≡ true = holds in cc)
within (b ∷ bs) zero holds = omega arith
within (b ∷ bs) (suc i) holds = let rest = within bs i holds in omega (arith, rest)

apart : (handed : List Bool) (j i : ℕ) → j < length handed → not (slice_index_or (slice_set handed j true) i true) ≡ true → (i ≡ j → ⊥)
    × (not (slice_index_or handed i true) ≡ true)
apart [] j i less holds = absurd (omega (arith, less))
apart (b ∷ bs) zero zero less holds = absurd (let wrong : false ≡ true = holds in cc)
apart (b ∷ bs) zero (suc i) less holds = (λ e. omega (arith, e), holds)
apart (b ∷ bs) (suc j) zero less holds = (λ e. omega (arith, e), holds)
apart (b ∷ bs) (suc j) (suc i) less holds = let rest = apart bs j i (omega (arith, less)) holds in (λ e. rest.0 (omega (arith, e)), rest.1)

found : (home : List (Option SessionView)) (i : ℕ) (x : SessionView) → slice_get home i ≡ Some (Some x) → slice_index_or home i None ≡ Some x
found [] i x e = absurd (cc)
found (y ∷ ys) zero x e = cc
found (y ∷ ys) (suc i) x e = found ys i x e

pub read-at : (xs : List ℕ) (i x : ℕ) → slice_get xs i ≡ Some x → slice_index xs i ≡ x
read-at [] i x e = absurd (cc)
read-at (y ∷ ys) zero x e = cc
read-at (y ∷ ys) (suc i) x e = read-at ys i x e

-- ---- a stage that was opened

unset : (n i : ℕ) → i < n → not (slice_index_or (replicate n false) i true) ≡ true
unset zero i less = absurd (omega (arith, less))
unset (suc n) zero less = refl
unset (suc n) (suc i) less = unset n i (omega (arith, less))

pub waits-first : (handed : List Bool) (n : ℕ) (s : SessionNo) → handed ≡ replicate n false → is_within n s.0 ≡ true
    → cond (s.0 == 0) false (not (slice_index_or handed (s.0 - 1) true)) ≡ true
waits-first handed n s none declared =
    let low = and-left (nat_lt 0 s.0) (nat_le s.0 n) declared in
    let high = and-right (nat_lt 0 s.0) (nat_le s.0 n) declared in
    let some : (s.0 == 0) ≡ false = grind (arith, nat_tests) in
    let above : 0 < s.0 = grind (arith, nat_tests) in
    let most : s.0 ≤ n = grind (arith, nat_tests) in
    ap (λ b. cond b false (not (slice_index_or handed (s.0 - 1) true))) some ∙ ap (λ (bs : List Bool). not (slice_index_or bs (s.0 - 1) true)) none
    ∙ unset n (s.0 - 1) (omega (arith, above, most))

pub opened : (view : StageView) (setup : Setup) (shares : List ℕ) (shell : ShellView) → shell.stage ≡ view → setup ≡ setup_of shell.stage → shares
    ≡ shares_of shell.stage → length shares ≡ setup.sessions + 1
    → ((s : ℕ) → 0 < s → s ≤ setup.sessions → 2 ≤ slice_index shares s) → AreFresh view setup.sessions shell.home → length shell.handed ≡ setup.sessions
    → IsShell view setup shares shell
opened view setup shares shell own of same many room fresh flags = record {
  own = own;
  of = of;
  same = same;
  many = many;
  room = room;
  count = fresh.count;
  flags = flags;
  waiting = λ s waits.
      let parts = both (s.0 == 0) (not (slice_index_or shell.handed (s.0 - 1) true)) waits in
      let other = parts.0 in
      let above : 0 < s.0 = grind (arith, nat_tests) in
      let inside = within shell.handed (s.0 - 1) parts.1 in
      let number : s.0 - 1 + 1 ≡ s.0 = omega (arith, above) in
      fresh.each (s.0 - 1) (omega (arith, inside, flags)) ∙ ap (λ (n : ℕ). let t : SessionNo = record { 0 = n } in Some (Some (fresh_view view t))) number
      ∙ ap (λ (v : StageView). Some (Some (fresh_view v s))) (sym own);
}

module _ (view : StageView) (setup : Setup) (shares : List ℕ) (old : ShellView) (kept : IsShell view setup shares old) where
  -- one place is set, and its client is handed out from now on
  pub place_set : (j : ℕ) (x : Option SessionView) → j < length old.handed
      → IsShell view setup shares (record { stage = old.stage; home = slice_set old.home j x; handed = slice_set old.handed j true })
  place_set j x less = record {
    own = kept.own;
    of = kept.of;
    same = kept.same;
    many = kept.many;
    room = kept.room;
    count = set-length old.home j x ∙ kept.count;
    flags = set-length old.handed j true ∙ kept.flags;
    waiting = λ s waits.
        let parts = both (s.0 == 0) (not (slice_index_or (slice_set old.handed j true) (s.0 - 1) true)) waits in
        let other = apart old.handed j (s.0 - 1) less parts.1 in
        got-other old.home j (s.0 - 1) x other.0 ∙ kept.waiting s (ap (λ b. cond b false (not (slice_index_or old.handed (s.0 - 1) true))) parts.0 ∙ other.1);
  }

  module _ (s : SessionNo) (waits : is_waiting old s ≡ true) where
    abbrev parts : ((s.0 == 0) ≡ false) × (not (slice_index_or old.handed (s.0 - 1) true) ≡ true)
    parts = both (s.0 == 0) (not (slice_index_or old.handed (s.0 - 1) true)) waits

    there : s.0 - 1 < length old.handed
    there = within old.handed (s.0 - 1) parts.1

    above : 0 < s.0
    above = let other = parts.0 in grind (arith, nat_tests)

    -- a seat leaves
    pub hands_then : (seats : SeatsView) → seats ≡ record { stage = old.stage; seats = seats_without old.home s }
        → IsShell view setup shares (record { stage = seats.stage; home = seats.seats; handed = slice_set old.handed (s.0 - 1) true })
    hands_then seats is =
        let K : SeatsView → Type 0 = λ h. IsShell view setup shares (record { stage = h.stage; home = h.seats; handed = slice_set old.handed (s.0 - 1) true })
        in
        let B : Bool → Type 0 = λ b. IsShell view setup shares
        (record { stage = old.stage; home = cond b old.home (slice_set old.home (s.0 - 1) None); handed = slice_set old.handed (s.0 - 1) true }) in
        subst K (sym is) (subst B (sym parts.0) (place_set (s.0 - 1) None there))

    pub seat_is : (seat : SessionView) → Some seat ≡ session_at old.home s → seat ≡ fresh_view old.stage s
    seat_is seat is =
        let at : session_at old.home s ≡ Some (fresh_view old.stage s) = ap (λ b. cond b None (slice_index_or old.home (s.0 - 1) None)) parts.0
        ∙ found old.home (s.0 - 1) (fresh_view old.stage s) (kept.waiting s waits) in
        let both_are : Some seat ≡ Some (fresh_view old.stage s) = is ∙ at in
        cc

    pub room_for : 2 ≤ slice_index shares s.0
    room_for = kept.room s.0 above (let inside = there in let many = kept.flags in let some = above in omega (arith, inside, many, some))

  -- a seat comes home
  pub home_then : (seats : SeatsView) (s : SessionNo) (seat : SessionView) → is_declared (setup_of old.stage) s ≡ true → seat.session.0 ≡ s.0 → seats
      ≡ record { stage = old.stage; seats = slice_set old.home (seat.session.0 - 1) (Some seat) }
      → IsShell view setup shares (record { stage = seats.stage; home = seats.seats; handed = slice_set old.handed (s.0 - 1) true })
  home_then seats s seat declared numbered is =
      let K : SeatsView → Type 0 = λ h. IsShell view setup shares (record { stage = h.stage; home = h.seats; handed = slice_set old.handed (s.0 - 1) true }) in
      let N : ℕ → Type 0 = λ n. IsShell view setup shares
      (record { stage = old.stage; home = slice_set old.home (n - 1) (Some seat); handed = slice_set old.handed (s.0 - 1) true }) in
      let low = and-left (nat_lt 0 s.0) (nat_le s.0 (setup_of old.stage).sessions) declared in
      let high = and-right (nat_lt 0 s.0) (nat_le s.0 (setup_of old.stage).sessions) declared in
      let some : 0 < s.0 = grind (arith, nat_tests) in
      let most : s.0 ≤ (setup_of old.stage).sessions = grind (arith, nat_tests) in
      let many : length old.handed ≡ (setup_of old.stage).sessions = kept.flags ∙ ap (λ (x : Setup). x.sessions) kept.of in
      subst K (sym is) (subst N (sym numbered) (place_set (s.0 - 1) (Some seat) (omega (arith, some, most, many))))
