-- Credits and waiting presents.
use Rattle.std.proofs.Common.{◌≡◌, subst, ℕ, ◌+◌, ◌-◌, ◌<◌, ◌≤◌, Bool, true, false, cond, List, [], ◌++◌, length, drop, refl, ap, arith, inl, inr, ◌⊎◌}
use Rattle.std.proofs.Common.{length-append}
use Rattle.std.specs.Prelude.{◌==◌, nat_lt}
use Rattle.std.proofs.lemmas.Grind.{common_steps}
use Rattle.std.proofs.lemmas.List.{length-drop}
use Rattle.flat_base.specs.declared.ids.Actor.{Actor}
use Rattle.flat_base.specs.declared.ids.Actor.TheVariants.{Display, Session, Probe}
use Rattle.flat_base.specs.declared.ids.FenceNo.{FenceNo}
use Rattle.flat_base.specs.declared.ids.SessionNo.{SessionNo}
use Rattle.flat_scene.specs.declared.calls.Call.{Call}
use Rattle.flat_scene.specs.declared.journal.Entry.{Entry}
use Rattle.flat_scene.specs.declared.journal.EntryKind.{EntryKind}
use Rattle.flat_scene.specs.declared.journal.EntryKind.TheVariants as kind
use Rattle.flat_scene.specs.declared.journal.Reply.{Reply}
use Rattle.flat_scene.specs.declared.journal.Reply.TheVariants.{Presented}
use Rattle.flat_scene.specs.declared.setup.Setup.{Setup}
use Rattle.flat_scene.specs.Frames.{is_signalled, takes, taken, credits}
use Rattle.flat_scene.specs.History.{◌▹◌, is_session, is_closed, presents, published, calls, Published}
use Rattle.flat_scene.proofs.lemmas.Steps.{presents-own, presents-other}
use Rattle.flat_scene.proofs.lemmas.TakingLemmas.{taken-made}
use Rattle.flat_rules.specs.Legal.{Legal, LegalEntry, reply_to, reply_to_present}
use Rattle.flat_rules.specs.Laws.{CreditsAddUp}
use Rattle.flat_rules.proofs.lemmas.Locality.{same-session}

-- how many may wait, by how many were taken
abbrev most : ℕ → ℕ
most n = cond (n == 0) 1 5

-- what one entry may change: nothing, or some that waited are taken, or one more is made where there was a credit
abbrev Changes : ℕ → ℕ → ℕ → ℕ → Type 0
Changes made made' took took' = ((made' ≡ made) × (took ≤ took')) ⊎ ((made' ≡ made + 1) × (took' ≡ took) × (made - took < most took))

more-most : (took took' : ℕ) → took ≤ took' → most took ≤ most took'
more-most took took' more = grind (arith, common_steps)

adds-up : (made made' took took' : ℕ) → took ≤ made → made - took ≤ most took → Changes made made' took took' → made' - took' ≤ most took'
adds-up made made' took took' fits few (inl (same, more)) = omega (arith, same, more, more-most took took' more)
adds-up made made' took took' fits few (inr (one, same, less)) =
    let no_less : most took ≤ most took' = more-most took took' (omega (arith, same)) in omega (arith, one, same, less, no_less)

-- a present is accepted only where there was a credit
accepted : (setup : Setup) (before : List Entry) (s : SessionNo) (actor : Actor) (number left : ℕ) → is_session s actor ≡ true
    → Presented number left ≡ reply_to_present setup before actor → 0 < credits setup before s
accepted setup before s Display number left mine is = absurd (cc)
accepted setup before s (Probe p) number left mine is = absurd (cc)
accepted setup before s (Session t) number left mine is = by_credit (nat_lt 0 (credits setup before t)) refl
  where
    by_credit : (b : Bool) → nat_lt 0 (credits setup before t) ≡ b → 0 < credits setup before s
    by_credit true some =
        let here : 0 < credits setup before t = grind (arith, common_steps) in
        subst (λ (u : SessionNo). 0 < credits setup before u) (same-session s t mine) here
    by_credit false none = absurd (let never = rw none at is in cc)

-- what an own entry publishes and takes
publishes : (setup : Setup) (before : List Entry) (s : SessionNo) (actor : Actor) (carries : List Call) (k : EntryKind) (reply : Reply) (made : List Call)
    → is_session s actor ≡ true → reply ≡ reply_to setup before actor carries k
    → (length (published k reply made) ≡ 0) ⊎ ((length (published k reply made) ≡ 1) × (0 < credits setup before s))
publishes setup before s actor carries (kind.Present args) (Presented number left) made mine is = inr (refl, accepted setup before s actor number left mine is)
publishes setup before s actor carries (kind.Present args) _ made mine is = inl refl
publishes setup before s actor carries _ reply made mine is = inl refl

-- only a begin takes
takes-nothing : (k : EntryKind) (reply : Reply) (made : List Call) (is_signalled : FenceNo → Bool) (closed : Bool) (wait : List Published)
    → length (published k reply made) ≡ 1 → length (takes k is_signalled closed wait) ≡ 0
takes-nothing (kind.Begin time) reply made is_signalled closed wait one = absurd (omega (arith, one))
takes-nothing _ reply made is_signalled closed wait one = refl

changes : (setup : Setup) (before : List Entry) (e : Entry) → LegalEntry setup before e → (s : SessionNo)
    → Changes (length (presents s before)) (length (presents s (before ▹ e))) (taken setup before s) (taken setup (before ▹ e) s)
changes setup before e legal s = by_owner (is_session s e.actor) refl
  where
    by_owner : (b : Bool) → is_session s e.actor ≡ b
        → Changes (length (presents s before)) (length (presents s (before ▹ e))) (taken setup before s) (taken setup (before ▹ e) s)
    by_owner false other = inl (ap length (presents-other s before e other), omega arith)
    by_owner true mine = by_kind (publishes setup before s e.actor e.calls e.kind e.reply (calls s before ++ e.calls) mine legal.reply)
      where
        by_kind : (length (published e.kind e.reply (calls s before ++ e.calls)) ≡ 0)
            ⊎ ((length (published e.kind e.reply (calls s before ++ e.calls)) ≡ 1) × (0 < credits setup before s))
            → Changes (length (presents s before)) (length (presents s (before ▹ e))) (taken setup before s) (taken setup (before ▹ e) s)
        by_kind (inl none) =
            inl (
              omega (
                arith,
                ap length (presents-own s before e mine),
                length-append (presents s before) (published e.kind e.reply (calls s before ++ e.calls)),
                none,
              ),
              omega arith,
            )
        by_kind (inr (one, credit)) =
            let still = takes-nothing e.kind e.reply (calls s before ++ e.calls) (is_signalled setup before) (is_closed s before)
            (drop (taken setup before s) (presents s before)) one in
            inr (
              omega (
                arith,
                ap length (presents-own s before e mine),
                length-append (presents s before) (published e.kind e.reply (calls s before ++ e.calls)),
                one,
              ),
              omega (arith, still),
              omega (arith, credit, length-drop (taken setup before s) (presents s before)),
            )

few-wait : (setup : Setup) (s : SessionNo) (history : List Entry) → Legal setup history
    → length (presents s history) - taken setup history s ≤ most (taken setup history s)
few-wait setup s [] legal = omega arith
few-wait setup s (before ▹ e) legal =
    adds-up (length (presents s before)) (length (presents s (before ▹ e))) (taken setup before s) (taken setup (before ▹ e) s)
    (taken-made setup s before) (few-wait setup s before legal.0) (changes setup before e legal.1 s)

pub credits-add-up : CreditsAddUp
credits-add-up setup history legal s =
    omega (arith, few-wait setup s history legal, length-drop (taken setup history s) (presents s history))
