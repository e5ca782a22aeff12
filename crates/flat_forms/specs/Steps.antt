-- What the code of a line answers, as readings say it.
use Rattle.std.specs.Prelude.{◌≡◌, Result, Ok, Err}
use Rattle.flat_places.specs.Forms.{Reading}
use Rattle.flat_forms.specs.declared.lines.LineError.{LineError}
use Rattle.flat_forms.specs.declared.lines.LineError.TheVariants.{Kind, Memory}

-- the kind is the reading's; of memory nothing is said
abbrev pub Refused : {A : Type 0} → LineError → Reading A → Type 0
Refused Memory r = Unit {0}
Refused (Kind k) r = r ≡ Err k

-- a call that changes a value answers as the reading says, and the value is the reading's
abbrev pub Steps : {A : Type 0} → Result (Unit {0}) LineError → Reading A → A → Type 0
Steps (Ok u) r new = r ≡ Ok new
Steps (Err e) r new = Refused e r

-- a call answers as the reading says, where its value is seen in a certain way
abbrev pub ReachesBy : {A B : Type 0} → (A → B) → Result A LineError → Reading B → Type 0
ReachesBy view (Ok v) r = r ≡ Ok (view v)
ReachesBy view (Err e) r = Refused e r

-- a call answers as the reading says
abbrev pub Reaches : {A : Type 0} → Result A LineError → Reading A → Type 0
Reaches {A = A} result r = ReachesBy {A = A} {B = A} (λ v. v) result r
