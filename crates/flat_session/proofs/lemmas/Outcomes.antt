-- What follows of an answer that may be an error.
use Rattle.std.proofs.Common.{Result, Ok, Err, IfOk, OnErr}

pub if_ok : {A E : Type 0} (P Q : A → Type 0) (r : Result A E) → ((v : A) → P v → Q v) → IfOk r P → IfOk r Q
if_ok P Q (Ok v) also holds = also v holds
if_ok P Q (Err e) also holds = tt

pub on_err : {A E : Type 0} (P Q R : Type 0) (r : Result A E) → (P → Q → R) → OnErr r P → OnErr r Q → OnErr r R
on_err P Q R (Ok v) also first second = tt
on_err P Q R (Err e) also first second = also first second

pub on_err_three : {A E : Type 0} (P Q R S : Type 0) (r : Result A E) → (P → Q → R → S) → OnErr r P → OnErr r Q → OnErr r R → OnErr r S
on_err_three P Q R S (Ok v) also first second third = tt
on_err_three P Q R S (Err e) also first second third = also first second third
