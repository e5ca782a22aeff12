-- Histories that go on, and the entries of one actor in them.
use Rattle.std.proofs.Common.{◌≡◌, ◌≢◌, ℕ, ◌<◌, ◌≤◌, eqb, cond, List, [], ◌∷◌, ◌++◌, length, drop, sym, refl, ap, ◌∙◌, arith, true, false, eq-eqb, ne_eqb, zero}
use Rattle.std.proofs.Common.{suc, append_assoc, append-nil, Bool, lt_of_not-le}
use mathlib.Core.Logic.{dite}
use native.Mathlib.Decide.{dec_le}
use Rattle.std.specs.List.{All}
use Rattle.std.proofs.lemmas.List.Elements.{filter-append}
use Rattle.std.proofs.Math.Seq.{drop-append_seam}
use Rattle.flat_lock.specs.History.{StartsWith, entries_of, GoesOn}
use Rattle.flat_lock.specs.Rule.{OwnsActor}

module _ {E : Type 0} where
  -- where a filter leaves none, its test fails at the first one
  none_left : (b : Bool) (x : E) (rest : List E) → cond b (x ∷ rest) rest ≡ [] → (rest ≡ []) × (b ≡ false)
  none_left true x rest e = absurd (let f : x ∷ rest ≡ [] = e in cc)
  none_left false x rest e = (e, refl)

  pub begins_itself : (l : List E) → StartsWith l l
  begins_itself l = ([], sym (append-nil l))

  -- what begins with a history begins with all that it begins with
  pub begins_within : (whole between part : List E) → StartsWith whole between → StartsWith between part → StartsWith whole part
  begins_within whole between part long begins = (begins.0 ++ long.0, long.1 ∙ (ap (λ (l : List E). l ++ long.0) begins.1 ∙ append_assoc part begins.0 long.0))

  module _ (actor : E → ℕ) where
    -- the entries of an actor in a list of its own entries
    pub entries_of-own : (a : ℕ) (new : List E) → All (λ e. actor e ≡ a) new → entries_of actor a new ≡ new
    entries_of-own a [] own = refl
    entries_of-own a (x ∷ xs) own =
        let first : eqb (actor x) a ≡ true = eq-eqb (actor x) a (own 0 x (omega arith)) in
        ap (λ b. cond b (x ∷ entries_of actor a xs) (entries_of actor a xs)) first
        ∙ ap (λ l. x ∷ l) (entries_of-own a xs (λ k d l. own (suc k) d (omega arith)))

    -- the entries of another actor in it
    pub entries_of-foreign : (a other : ℕ) (new : List E) → other ≢ a → All (λ e. actor e ≡ a) new → entries_of actor other new ≡ []
    entries_of-foreign a other [] apart own = refl
    entries_of-foreign a other (x ∷ xs) apart own =
        let is : actor x ≡ a = own 0 x (omega arith) in
        let not : eqb (actor x) other ≡ false = ne_eqb (actor x) other (λ t. apart (sym t ∙ is)) in
        ap (λ b. cond b (x ∷ entries_of actor other xs) (entries_of actor other xs)) not
        ∙ entries_of-foreign a other xs apart (λ k d l. own (suc k) d (omega arith))

    -- the entries of the actor that goes on
    pub entries_of-goes_on : (a : ℕ) (before after : List E) → GoesOn actor a before after
        → entries_of actor a after ≡ entries_of actor a before ++ drop (length before) after
    entries_of-goes_on a before after goes =
        let new = goes.0 in
        let rest : entries_of actor a new ≡ drop (length before) after =
        entries_of-own a new goes.2 ∙ sym (ap (drop (length before)) goes.1 ∙ drop-append_seam before new) in
        ap (entries_of actor a) goes.1 ∙ (filter-append (λ e. eqb (actor e) a) before new ∙ ap (λ (l : List E). entries_of actor a before ++ l) rest)

    -- the entries of another
    pub entries_of-others : (a other : ℕ) (before after : List E) → other ≢ a → GoesOn actor a before after
        → entries_of actor other after ≡ entries_of actor other before
    entries_of-others a other before after apart goes =
        let new = goes.0 in
        let none : entries_of actor other new ≡ [] = entries_of-foreign a other new apart goes.2 in
        ap (entries_of actor other) goes.1
        ∙ (filter-append (λ e. eqb (actor e) other) before new
        ∙ (ap (λ (l : List E). entries_of actor other before ++ l) none ∙ append-nil (entries_of actor other before)))

    pub begins_after : (a : ℕ) (before after part : List E) → GoesOn actor a before after → StartsWith before part → StartsWith after part
    begins_after a before after part goes begins = begins_within after before part (goes.0, goes.1) begins

    -- where no actor from n on has an entry, each entry is of an actor below n
    pub all_below : (n : ℕ) (log : List E) → ((a : ℕ) → n ≤ a → entries_of actor a log ≡ []) → All (λ e. actor e < n) log
    all_below n [] none = λ k d l. absurd (omega arith)
    all_below n (x ∷ xs) none =
        let first : actor x < n = dite (dec_le n (actor x))
        (λ from. let both = sym (eq-eqb (actor x) (actor x) refl)
        ∙ (none_left (eqb (actor x) (actor x)) x (entries_of actor (actor x) xs) (none (actor x) from)).1 in absurd (let f : true ≡ false = both in cc))
        (λ not. lt_of_not-le not) in
        let rest : All (λ e. actor e < n) xs = all_below n xs (λ a from. (none_left (eqb (actor x) a) x (entries_of actor a xs) (none a from)).0) in
        elim [ zero ↦ λ d l. first | suc k ↦ λ d l. rest k d (omega arith) ]

    -- an actor without a new entry is owned as before
    pub owns-others : {log : List E} {known : ℕ} {owner : ℕ → ℕ} {seat number : ℕ} {mine : List E} (a : ℕ) (log' : List E) → GoesOn actor a log log'
        → number ≢ a
        → OwnsActor actor log known owner seat number mine → OwnsActor actor log' known owner seat number mine
    owns-others {log} {known} {owner} {seat} {number} a log' goes apart owns =
        record { made = owns.made ∙ sym (entries_of-others a number log log' apart goes); known = owns.known; owned = owns.owned }

    -- an actor whose owner stays is owned as before, where more actors are handed out
    pub owns-more : {log : List E} {known : ℕ} {owner : ℕ → ℕ} {seat number : ℕ} {mine : List E} (known' : ℕ) (owner' : ℕ → ℕ) → known ≤ known'
        → owner' number ≡ owner number
        → OwnsActor actor log known owner seat number mine → OwnsActor actor log known' owner' seat number mine
    owns-more known' owner' more stays owns = record { made = owns.made; known = let less = owns.known in omega arith; owned = stays ∙ owns.owned }
