-- Presents, fences, what frames take and let go: of each session's family they are local.
use Rattle.std.proofs.Common.{◌≡◌, Bool, true, List, [], ◌∷◌, refl, ap, ◌∙◌, sym}
use Rattle.std.specs.Prelude.{flat_map, ◌||◌, ◌==◌}
use Rattle.std.specs.List.{list_any}
use Rattle.std.proofs.lemmas.List.Folds.{list_any-append}
use Rattle.flat_base.specs.declared.ids.FenceNo.{FenceNo}
use Rattle.flat_base.specs.declared.ids.SessionNo.{SessionNo}
use Rattle.flat_scene.specs.declared.journal.Entry.{Entry}
use Rattle.flat_scene.specs.declared.setup.Setup.{Setup}
use Rattle.flat_scene.specs.Family.{family, only}
use Rattle.flat_scene.specs.Laws.{IsClosedFamily}
use Rattle.flat_scene.specs.Frames.{is_signalled, taken, going, credits, is_among, is_released_by, sessions_to}
use Rattle.flat_scene.specs.Releases.{releases}
use Rattle.flat_scene.specs.History.{presents, Published}
use Rattle.flat_scene.specs.Heads.{owners_declared}
use Rattle.flat_scene.proofs.lemmas.FamilyLeast.{family-is-least}
use Rattle.flat_rules.specs.Legal.{Legal, owns_fence}
use Rattle.flat_rules.specs.Local.{PresentsAreLocal, SignalledIsLocal, TakenIsLocal, CreditsAreLocal, GoingIsLocal, ReleasedIsLocal}
use Rattle.flat_rules.proofs.lemmas.Locality.{IsOfFamily, frames-local, own-only, released-same}
use Rattle.flat_rules.proofs.lemmas.AllOrSome.{any-same}

pub closed-family : (setup : Setup) → owners_declared setup ≡ true → (s : SessionNo) → IsClosedFamily setup (family setup s)
closed-family setup owners s = (family-is-least setup owners s).closed

-- what is released, session by session
among-presents : (xs : List Published) (f : FenceNo) → is_among (flat_map (λ (present : Published). present.args.release) xs) f ≡ is_released_by xs f
among-presents [] f = refl
among-presents (x ∷ xs) f =
    list_any-append (λ (other : FenceNo). other.0 == f.0) x.args.release (flat_map (λ (present : Published). present.args.release) xs)
    ∙ ap (λ (b : Bool). is_among x.args.release f || b) (among-presents xs f)

among-sessions : (g : SessionNo → List Published) (ss : List SessionNo) (f : FenceNo)
    → is_among (flat_map (λ s. flat_map (λ (present : Published). present.args.release) (g s)) ss) f ≡ list_any (λ s. is_released_by (g s) f) ss
among-sessions g [] f = refl
among-sessions g (s ∷ ss) f =
    list_any-append (λ (other : FenceNo). other.0 == f.0) (flat_map (λ (present : Published). present.args.release) (g s))
    (flat_map (λ t. flat_map (λ (present : Published). present.args.release) (g t)) ss)
    ∙ rw (among-presents (g s) f, among-sessions g ss f) refl

module _ (setup : Setup) (of_family : SessionNo → Bool) (closed : IsClosedFamily setup of_family) where
  pub presents-only : (t : SessionNo) → of_family t ≡ true → (history : List Entry) → presents t (only of_family history) ≡ presents t history
  presents-only t mine history = rw (own-only setup of_family t mine history) refl

  pub took-only : (history : List Entry) → Legal setup history → (s : SessionNo) → of_family s ≡ true
      → taken setup (only of_family history) s ≡ taken setup history s
  took-only history legal s mine = (frames-local setup of_family closed history legal).took s mine

  pub credits-only : (history : List Entry) → Legal setup history → (s : SessionNo) → of_family s ≡ true
      → credits setup (only of_family history) s ≡ credits setup history s
  credits-only history legal s mine = rw (own-only setup of_family s mine history, took-only history legal s mine) refl

  pub signalled-only : (history : List Entry) → Legal setup history → (s : SessionNo) (f : FenceNo) → of_family s ≡ true → owns_fence setup s f ≡ true
      → is_signalled setup (only of_family history) f ≡ is_signalled setup history f
  signalled-only history legal s f mine owns = (frames-local setup of_family closed history legal).signalled f (record { s = s; mine = mine; owns = owns })

  pub going-only : (history : List Entry) → Legal setup history → (s : SessionNo) → of_family s ≡ true
      → going setup (only of_family history) s ≡ going setup history s
  going-only history legal s mine = (frames-local setup of_family closed history legal).goes s mine

  pub releases-only : (history : List Entry) → Legal setup history → (s : SessionNo) (f : FenceNo) → of_family s ≡ true → owns_fence setup s f ≡ true
      → is_among (releases setup (only of_family history)) f ≡ is_among (releases setup history) f
  releases-only history legal s f mine owns =
      let of_it : IsOfFamily setup of_family closed f = record { s = s; mine = mine; owns = owns } in
      among-sessions (going setup (only of_family history)) (sessions_to setup.sessions) f
      ∙ any-same (λ t. is_released_by (going setup (only of_family history) t) f) (λ t. is_released_by (going setup history t) f)
      (released-same setup of_family closed history legal (frames-local setup of_family closed history legal) f of_it) (sessions_to setup.sessions)
      ∙ sym (among-sessions (going setup history) (sessions_to setup.sessions) f)

pub presents-are-local : PresentsAreLocal
presents-are-local setup owners history legal s t mine = presents-only setup (family setup s) (closed-family setup owners s) t mine history

pub signalled-is-local : SignalledIsLocal
signalled-is-local setup owners history legal s t f mine owns = signalled-only setup (family setup s) (closed-family setup owners s) history legal t f mine owns

pub taken-is-local : TakenIsLocal
taken-is-local setup owners history legal s t mine = took-only setup (family setup s) (closed-family setup owners s) history legal t mine

pub credits-are-local : CreditsAreLocal
credits-are-local setup owners history legal s t mine = credits-only setup (family setup s) (closed-family setup owners s) history legal t mine

pub going-is-local : GoingIsLocal
going-is-local setup owners history legal s t mine = going-only setup (family setup s) (closed-family setup owners s) history legal t mine

pub released-is-local : ReleasedIsLocal
released-is-local setup owners history legal s t f mine owns = releases-only setup (family setup s) (closed-family setup owners s) history legal t f mine owns
