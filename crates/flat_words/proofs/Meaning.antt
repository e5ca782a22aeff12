-- The command takes the words of each form, and no others that begin with no hyphen.
use Rattle.std.proofs.Common.{◌≡◌, ◌∙◌, ◌==◌, ◌||◌, ◌≤◌, ◌+◌, ◌/◌, ◌%◌, ℕ, Bool, cond, codes, true, false, refl, sym, ap, subst, arith, List, [], ◌∷◌, Option}
use Rattle.std.proofs.Common.{Some, None, IsSomeAnd, Decides, decimal, bytes_eq, true≢false, nat_lt, option_map, unwrap_or}
use Rattle.std.specs.List.{list_any}
use Rattle.std.proofs.lemmas.Bool.{or_parts, ne_eqb}
use Rattle.std.proofs.lemmas.Slice.Eq.{bytes_eq-Decides}
use Rattle.clap.proofs.CountText.{decimal-count_text}
use Rattle.clap.specs.Words.{Row, Text, count_text, fault_of, subcommand_of}
use Rattle.clap.specs.Walk.{idle, subcommand_met}
use Rattle.flat_words.specs.declared.service_word.ServiceWord.{ServiceWord}
use Rattle.flat_words.specs.declared.service_word.ServiceWord.TheVariants.{Play, Race, Stress, Render, Damage, Focus, Pointer, Judge, Why, Film}
use Rattle.flat_words.specs.Command.{IsNamed, service, is_option}
use Rattle.flat_words.specs.Forms.{CallFor, IsAllowed, words_of}
use Rattle.clap.specs.declared.error.kind.ErrorKind.TheVariants.{UnknownArgument}
use Rattle.flat_words.proofs.Calls.{load_only, load_read, load_rows, names, nothing, play_alone, play_called, play_more, race_alone, race_called, race_more}
use Rattle.flat_words.proofs.Calls.{render_alone, render_called, render_more, damage_alone, damage_called, damage_more, focus_alone, focus_called, focus_more}
use Rattle.flat_words.proofs.Calls.{pointer_alone, pointer_called, pointer_more, judge_alone, judge_called, judge_more, why_alone, why_called, why_more}
use Rattle.flat_words.proofs.Calls.{film_alone, film_called, film_more, stray, stress_alone, stress_called, stress_more, stress_one}

abbrev is_filled : {X : Type 0} → List X → Bool
is_filled [] = false
is_filled (x ∷ xs) = true

filled : {X : Type 0} {x : X} {xs : List X} → x ∷ xs ≡ [] → ⊥
filled e = true≢false (ap is_filled e)

abbrev Names : Option (Text × List Row) → ServiceWord → Type 0
Names found form = IsSomeAnd found (λ call. IsNamed call form)

-- ---- the words that the command takes

-- a word that is the whole of a form: the command takes it alone, and it names that form alone
record Lone (name : Text) (form : ServiceWord) : Type 0 where
  pub words : words_of form ≡ name ∷ []
  pub allowed : IsAllowed form
  pub alone : fault_of service (name ∷ []) ≡ []
  pub more : (word : Text) (rest : List Text) → is_option word ≡ false → fault_of service (name ∷ word ∷ rest) ≡ UnknownArgument ∷ []
  pub called : subcommand_of service (name ∷ []) ≡ Some (name, [])
  pub only : (other : ServiceWord) → IsNamed (name, []) other → other ≡ form

play_only : (other : ServiceWord) → IsNamed (codes "play", []) other → other ≡ Play
play_only Play e = refl
play_only Race e = absurd (true≢false (ap (bytes_eq (codes "play")) e))
play_only (Stress n) e = absurd (true≢false (ap (bytes_eq (codes "play")) e.0))
play_only Render e = absurd (true≢false (ap (bytes_eq (codes "play")) e))
play_only Damage e = absurd (true≢false (ap (bytes_eq (codes "play")) e))
play_only Focus e = absurd (true≢false (ap (bytes_eq (codes "play")) e))
play_only Pointer e = absurd (true≢false (ap (bytes_eq (codes "play")) e))
play_only Judge e = absurd (true≢false (ap (bytes_eq (codes "play")) e))
play_only Why e = absurd (true≢false (ap (bytes_eq (codes "play")) e))
play_only Film e = absurd (true≢false (ap (bytes_eq (codes "play")) e))

play : Lone (codes "play") Play
play = record { words = refl; allowed = tt; alone = play_alone; more = play_more; called = play_called; only = play_only }

race_only : (other : ServiceWord) → IsNamed (codes "race", []) other → other ≡ Race
race_only Play e = absurd (true≢false (ap (bytes_eq (codes "race")) e))
race_only Race e = refl
race_only (Stress n) e = absurd (true≢false (ap (bytes_eq (codes "race")) e.0))
race_only Render e = absurd (true≢false (ap (bytes_eq (codes "race")) e))
race_only Damage e = absurd (true≢false (ap (bytes_eq (codes "race")) e))
race_only Focus e = absurd (true≢false (ap (bytes_eq (codes "race")) e))
race_only Pointer e = absurd (true≢false (ap (bytes_eq (codes "race")) e))
race_only Judge e = absurd (true≢false (ap (bytes_eq (codes "race")) e))
race_only Why e = absurd (true≢false (ap (bytes_eq (codes "race")) e))
race_only Film e = absurd (true≢false (ap (bytes_eq (codes "race")) e))

race : Lone (codes "race") Race
race = record { words = refl; allowed = tt; alone = race_alone; more = race_more; called = race_called; only = race_only }

render_only : (other : ServiceWord) → IsNamed (codes "render", []) other → other ≡ Render
render_only Play e = absurd (true≢false (ap (bytes_eq (codes "render")) e))
render_only Race e = absurd (true≢false (ap (bytes_eq (codes "render")) e))
render_only (Stress n) e = absurd (true≢false (ap (bytes_eq (codes "render")) e.0))
render_only Render e = refl
render_only Damage e = absurd (true≢false (ap (bytes_eq (codes "render")) e))
render_only Focus e = absurd (true≢false (ap (bytes_eq (codes "render")) e))
render_only Pointer e = absurd (true≢false (ap (bytes_eq (codes "render")) e))
render_only Judge e = absurd (true≢false (ap (bytes_eq (codes "render")) e))
render_only Why e = absurd (true≢false (ap (bytes_eq (codes "render")) e))
render_only Film e = absurd (true≢false (ap (bytes_eq (codes "render")) e))

render : Lone (codes "render") Render
render = record { words = refl; allowed = tt; alone = render_alone; more = render_more; called = render_called; only = render_only }

damage_only : (other : ServiceWord) → IsNamed (codes "damage", []) other → other ≡ Damage
damage_only Play e = absurd (true≢false (ap (bytes_eq (codes "damage")) e))
damage_only Race e = absurd (true≢false (ap (bytes_eq (codes "damage")) e))
damage_only (Stress n) e = absurd (true≢false (ap (bytes_eq (codes "damage")) e.0))
damage_only Render e = absurd (true≢false (ap (bytes_eq (codes "damage")) e))
damage_only Damage e = refl
damage_only Focus e = absurd (true≢false (ap (bytes_eq (codes "damage")) e))
damage_only Pointer e = absurd (true≢false (ap (bytes_eq (codes "damage")) e))
damage_only Judge e = absurd (true≢false (ap (bytes_eq (codes "damage")) e))
damage_only Why e = absurd (true≢false (ap (bytes_eq (codes "damage")) e))
damage_only Film e = absurd (true≢false (ap (bytes_eq (codes "damage")) e))

damage : Lone (codes "damage") Damage
damage = record { words = refl; allowed = tt; alone = damage_alone; more = damage_more; called = damage_called; only = damage_only }

focus_only : (other : ServiceWord) → IsNamed (codes "focus", []) other → other ≡ Focus
focus_only Play e = absurd (true≢false (ap (bytes_eq (codes "focus")) e))
focus_only Race e = absurd (true≢false (ap (bytes_eq (codes "focus")) e))
focus_only (Stress n) e = absurd (true≢false (ap (bytes_eq (codes "focus")) e.0))
focus_only Render e = absurd (true≢false (ap (bytes_eq (codes "focus")) e))
focus_only Damage e = absurd (true≢false (ap (bytes_eq (codes "focus")) e))
focus_only Focus e = refl
focus_only Pointer e = absurd (true≢false (ap (bytes_eq (codes "focus")) e))
focus_only Judge e = absurd (true≢false (ap (bytes_eq (codes "focus")) e))
focus_only Why e = absurd (true≢false (ap (bytes_eq (codes "focus")) e))
focus_only Film e = absurd (true≢false (ap (bytes_eq (codes "focus")) e))

focus : Lone (codes "focus") Focus
focus = record { words = refl; allowed = tt; alone = focus_alone; more = focus_more; called = focus_called; only = focus_only }

pointer_only : (other : ServiceWord) → IsNamed (codes "pointer", []) other → other ≡ Pointer
pointer_only Play e = absurd (true≢false (ap (bytes_eq (codes "pointer")) e))
pointer_only Race e = absurd (true≢false (ap (bytes_eq (codes "pointer")) e))
pointer_only (Stress n) e = absurd (true≢false (ap (bytes_eq (codes "pointer")) e.0))
pointer_only Render e = absurd (true≢false (ap (bytes_eq (codes "pointer")) e))
pointer_only Damage e = absurd (true≢false (ap (bytes_eq (codes "pointer")) e))
pointer_only Focus e = absurd (true≢false (ap (bytes_eq (codes "pointer")) e))
pointer_only Pointer e = refl
pointer_only Judge e = absurd (true≢false (ap (bytes_eq (codes "pointer")) e))
pointer_only Why e = absurd (true≢false (ap (bytes_eq (codes "pointer")) e))
pointer_only Film e = absurd (true≢false (ap (bytes_eq (codes "pointer")) e))

pointer : Lone (codes "pointer") Pointer
pointer = record { words = refl; allowed = tt; alone = pointer_alone; more = pointer_more; called = pointer_called; only = pointer_only }

judge_only : (other : ServiceWord) → IsNamed (codes "judge", []) other → other ≡ Judge
judge_only Play e = absurd (true≢false (ap (bytes_eq (codes "judge")) e))
judge_only Race e = absurd (true≢false (ap (bytes_eq (codes "judge")) e))
judge_only (Stress n) e = absurd (true≢false (ap (bytes_eq (codes "judge")) e.0))
judge_only Render e = absurd (true≢false (ap (bytes_eq (codes "judge")) e))
judge_only Damage e = absurd (true≢false (ap (bytes_eq (codes "judge")) e))
judge_only Focus e = absurd (true≢false (ap (bytes_eq (codes "judge")) e))
judge_only Pointer e = absurd (true≢false (ap (bytes_eq (codes "judge")) e))
judge_only Why e = absurd (true≢false (ap (bytes_eq (codes "judge")) e))
judge_only Film e = absurd (true≢false (ap (bytes_eq (codes "judge")) e))
judge_only Judge e = refl

judge : Lone (codes "judge") Judge
judge = record { words = refl; allowed = tt; alone = judge_alone; more = judge_more; called = judge_called; only = judge_only }

why_only : (other : ServiceWord) → IsNamed (codes "why", []) other → other ≡ Why
why_only Play e = absurd (true≢false (ap (bytes_eq (codes "why")) e))
why_only Race e = absurd (true≢false (ap (bytes_eq (codes "why")) e))
why_only (Stress n) e = absurd (true≢false (ap (bytes_eq (codes "why")) e.0))
why_only Render e = absurd (true≢false (ap (bytes_eq (codes "why")) e))
why_only Damage e = absurd (true≢false (ap (bytes_eq (codes "why")) e))
why_only Focus e = absurd (true≢false (ap (bytes_eq (codes "why")) e))
why_only Pointer e = absurd (true≢false (ap (bytes_eq (codes "why")) e))
why_only Judge e = absurd (true≢false (ap (bytes_eq (codes "why")) e))
why_only Why e = refl
why_only Film e = absurd (true≢false (ap (bytes_eq (codes "why")) e))

why : Lone (codes "why") Why
why = record { words = refl; allowed = tt; alone = why_alone; more = why_more; called = why_called; only = why_only }

film_only : (other : ServiceWord) → IsNamed (codes "film", []) other → other ≡ Film
film_only Play e = absurd (true≢false (ap (bytes_eq (codes "film")) e))
film_only Race e = absurd (true≢false (ap (bytes_eq (codes "film")) e))
film_only (Stress n) e = absurd (true≢false (ap (bytes_eq (codes "film")) e.0))
film_only Render e = absurd (true≢false (ap (bytes_eq (codes "film")) e))
film_only Damage e = absurd (true≢false (ap (bytes_eq (codes "film")) e))
film_only Focus e = absurd (true≢false (ap (bytes_eq (codes "film")) e))
film_only Pointer e = absurd (true≢false (ap (bytes_eq (codes "film")) e))
film_only Judge e = absurd (true≢false (ap (bytes_eq (codes "film")) e))
film_only Why e = absurd (true≢false (ap (bytes_eq (codes "film")) e))
film_only Film e = refl

film : Lone (codes "film") Film
film = record { words = refl; allowed = tt; alone = film_alone; more = film_more; called = film_called; only = film_only }

after_lone : {name : Text} {lone : ServiceWord} → Lone name lone → (rest : List Text) → list_any is_option rest ≡ false → fault_of service (name ∷ rest) ≡ []
    → (form : ServiceWord)
    → Names (subcommand_of service (name ∷ rest)) form → CallFor (name ∷ rest) form
after_lone {name} {lone} is [] plain ok form named =
    subst (CallFor (name ∷ [])) (sym (is.only form (subst (λ o. Names o form) is.called named))) (sym is.words, is.allowed)
after_lone is (word ∷ rest) plain ok form named = absurd (filled (sym (is.more word rest (or_parts (is_option word) _ plain).0) ∙ ok))

after_stress : (rest : List Text) → list_any is_option rest ≡ false → fault_of service (codes "stress" ∷ rest) ≡ [] → (form : ServiceWord)
    → Names (subcommand_of service (codes "stress" ∷ rest)) form → CallFor (codes "stress" ∷ rest) form
after_stress [] plain ok form named = absurd (filled (sym stress_alone ∙ ok))
after_stress (word ∷ []) plain ok form named =
    let load = load_only _ (load_rows word) (Some word) (stress_called word (or_parts (is_option word) _ plain).0) (load_read word) form named in
    subst (CallFor (codes "stress" ∷ word ∷ [])) (sym load.1) (ap (λ (o : Option Text). codes "stress" ∷ unwrap_or o word ∷ []) load.2, (load.3, load.4))
after_stress (word ∷ last ∷ rest) plain ok form named =
    let first = or_parts (is_option word) _ plain in
    absurd (filled (sym (stress_more word last rest first.0 (or_parts (is_option last) _ first.1).0) ∙ ok))

unknown : (word : Text) → bytes_eq (codes "play") word ≡ false → bytes_eq (codes "race") word ≡ false → bytes_eq (codes "stress") word ≡ false
    → bytes_eq (codes "render") word ≡ false → bytes_eq (codes "damage") word ≡ false → bytes_eq (codes "focus") word ≡ false
    → bytes_eq (codes "pointer") word ≡ false → bytes_eq (codes "judge") word ≡ false → bytes_eq (codes "why") word ≡ false
    → bytes_eq (codes "film") word ≡ false
    → subcommand_met names idle word ≡ None
unknown word play race stress render damage focus pointer judge why film =
    λ i. option_map (λ (s : Text × List Text). s.0) (cond (play i || false) (Some (codes "play", []))
    (cond (race i || false) (Some (codes "race", [])) (cond (stress i || false) (Some (codes "stress", []))
    (cond (render i || false) (Some (codes "render", []))
    (cond (damage i || false) (Some (codes "damage", []))
    (cond (focus i || false) (Some (codes "focus", []))
    (cond (pointer i || false) (Some (codes "pointer", []))
    (cond (judge i || false) (Some (codes "judge", []))
    (cond (why i || false) (Some (codes "why", [])) (cond (film i || false) (Some (codes "film", [])) None))))))))))

-- where no word begins with a hyphen, and the command takes them all, they call for the form that they name
pub called : (words : List Text) → list_any is_option words ≡ false → fault_of service words ≡ [] → (form : ServiceWord)
    → Names (subcommand_of service words) form → CallFor words form
called [] plain ok form named = absurd (filled (sym nothing ∙ ok))
called (word ∷ rest) plain ok form named =
    by_lone play (λ no_play. by_lone race (λ no_race. by_stress (λ no_stress. by_lone render (λ no_render. by_lone damage (λ no_damage.
    by_lone focus (λ no_focus. by_lone pointer (λ no_pointer. by_lone judge (λ no_judge. by_lone why (λ no_why. by_lone film (λ no_film.
    absurd (filled (sym (stray word rest parts.0 (unknown word no_play no_race no_stress no_render no_damage no_focus no_pointer no_judge no_why no_film))
    ∙ ok))))))))))))
  where
    parts : (is_option word ≡ false) × (list_any is_option rest ≡ false)
    parts = or_parts (is_option word) _ plain

    Meant : Text → Type 0
    Meant name = fault_of service (name ∷ rest) ≡ [] → Names (subcommand_of service (name ∷ rest)) form → CallFor (name ∷ rest) form

    -- the word is that name, or it is left to the later ones
    by_name : (name : Text) → Meant name → (b : Bool) → bytes_eq name word ≡ b → Decides b (name ≡ word)
        → (bytes_eq name word ≡ false → CallFor (word ∷ rest) form) → CallFor (word ∷ rest) form
    by_name name meant true e is later = subst Meant (is.0 refl) meant ok named
    by_name name meant false e is later = later e

    by_lone : {name : Text} {lone : ServiceWord} → Lone name lone → (bytes_eq name word ≡ false → CallFor (word ∷ rest) form) → CallFor (word ∷ rest) form
    by_lone {name} is later = by_name name (λ k n. after_lone is rest parts.1 k form n) (bytes_eq name word) refl (bytes_eq-Decides name word) later

    by_stress : (bytes_eq (codes "stress") word ≡ false → CallFor (word ∷ rest) form) → CallFor (word ∷ rest) form
    by_stress later =
        by_name (codes "stress") (λ k n. after_stress rest parts.1 k form n) (bytes_eq (codes "stress") word) refl (bytes_eq-Decides (codes "stress") word)
        later

-- ---- the words of a form

digit_plain : (x : ℕ) → ((48 + x) == 45) ≡ false
digit_plain x = ne_eqb (48 + x) 45 (λ e. omega (arith, e))

count_plain : (n : ℕ) → is_option (count_text n) ≡ false
count_plain n = go (nat_lt n 10) (nat_lt n 100)
  where
    go : (a b : Bool) → is_option (cond a ((48 + n) ∷ []) (cond b ((48 + n / 10) ∷ (48 + n % 10) ∷ [])
        ((48 + n / 100) ∷ (48 + n / 10 % 10) ∷ (48 + n % 10) ∷ []))) ≡ false
    go true b = digit_plain n
    go false true = digit_plain (n / 10)
    go false false = digit_plain (n / 100)

decimal_plain : (n : ℕ) → n ≤ 500 → is_option (decimal n) ≡ false
decimal_plain n high = subst (λ t. is_option t ≡ false) (sym (decimal-count_text n (omega (arith, high)))) (count_plain n)

-- the words of a form have no hyphen in front, the command takes them, and they name the form
abbrev Taken : ServiceWord → List Text → Type 0
Taken form words = (list_any is_option words ≡ false) × (fault_of service words ≡ []) × Names (subcommand_of service words) form

pub taken : (words : List Text) (form : ServiceWord) → CallFor words form → Taken form words
taken words Play call = subst (Taken Play) (sym call.0) (refl, play_alone, subst (λ o. Names o Play) (sym play_called) refl)
taken words Race call = subst (Taken Race) (sym call.0) (refl, race_alone, subst (λ o. Names o Race) (sym race_called) refl)
taken words Render call = subst (Taken Render) (sym call.0) (refl, render_alone, subst (λ o. Names o Render) (sym render_called) refl)
taken words Damage call = subst (Taken Damage) (sym call.0) (refl, damage_alone, subst (λ o. Names o Damage) (sym damage_called) refl)
taken words Focus call = subst (Taken Focus) (sym call.0) (refl, focus_alone, subst (λ o. Names o Focus) (sym focus_called) refl)
taken words Pointer call = subst (Taken Pointer) (sym call.0) (refl, pointer_alone, subst (λ o. Names o Pointer) (sym pointer_called) refl)
taken words Judge call = subst (Taken Judge) (sym call.0) (refl, judge_alone, subst (λ o. Names o Judge) (sym judge_called) refl)
taken words Why call = subst (Taken Why) (sym call.0) (refl, why_alone, subst (λ o. Names o Why) (sym why_called) refl)
taken words Film call = subst (Taken Film) (sym call.0) (refl, film_alone, subst (λ o. Names o Film) (sym film_called) refl)
taken words (Stress n) call =
    let plain = decimal_plain n call.1.1 in
    subst (Taken (Stress n)) (sym call.0) (
      ap (λ b. b || false) plain,
      stress_one (decimal n) plain,
      subst (λ o. Names o (Stress n)) (sym (stress_called (decimal n) plain)) (refl, load_read (decimal n), call.1.0, call.1.1),
    )
