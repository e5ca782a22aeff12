-- What the command makes of words that begin with no hyphen.
use Rattle.std.proofs.Common.{◌≡◌, ◌∙◌, ◌&&◌, ◌≤◌, ℕ, cond, codes, false, refl, sym, ap, ap₂, subst, List, [], ◌∷◌, Option, Some, None, IsSomeAnd, decimal}
use Rattle.std.proofs.Common.{bytes_eq, true≢false, fold, is_some, option_map, unwrap_or}
use Rattle.std.specs.Option.{option_and_then, option_map_or}
use Rattle.clap.specs.Lexer.{long_of, long_of_rest, short_of, short_of_rest, strip_byte}
use Rattle.clap.specs.Words.{Kinds, Row, Rule, Shape, Text, built, fault_of, first_of, new_app, subcommand_of, with_rule}
use Rattle.clap.specs.Kinds.{or_else}
use Rattle.clap.specs.Simple.{built_leaf, entered, inherited, names_of}
use Rattle.clap.specs.Walk.{Held, Names, Step, Walk, after_step, arg_by_index, finished, idle, long_or_other, nothing_held, settled, short_or_plain}
use Rattle.clap.specs.Walk.{subcommand_met, subcommand_or_other, to_positional, trailing, value, walk_from, walked, word_met}
use Rattle.clap.specs.Faults.{bundle_fault, check_fault, defaults_fault, entered_fault, flag_word_fault, level_fault, other_fault, settle_fault, step_fault}
use Rattle.clap.specs.Faults.{turn_fault, walk_fault, word_fault}
use Rattle.clap.specs.declared.error.kind.ErrorKind.TheVariants.{InvalidSubcommand, MissingRequiredArgument, MissingSubcommand, UnknownArgument}
use Rattle.clap.proofs.OnLiterals.{clap_on_literals}
use Rattle.clap.proofs.FaultLemmas.{stopped_fault}
use Rattle.clap.proofs.WalkLemmas.{walk_stopped}
use Rattle.flat_words.specs.declared.service_word.ServiceWord.{ServiceWord}
use Rattle.flat_words.specs.declared.service_word.ServiceWord.TheVariants.{Play, Race, Stress, Render, Damage, Focus, Pointer, Judge, Why, Film}
use Rattle.flat_words.specs.Command.{IsNamed, frames, service, is_option}

-- ---- a word without a hyphen

not_stripped : (word : Text) → is_option word ≡ false → strip_byte 45 word ≡ None
not_stripped [] plain = refl
not_stripped (byte ∷ rest) plain = ap (λ b. cond b (Some rest) None) plain

not_long : (word : Text) → is_option word ≡ false → long_of word ≡ None
not_long word plain = ap (λ o. option_and_then long_of_rest (option_and_then (strip_byte 45) o)) (not_stripped word plain)

not_short : (word : Text) → is_option word ≡ false → short_of word ≡ None
not_short word plain = ap (λ o. option_and_then short_of_rest o) (not_stripped word plain)

not_dashes : (word : Text) → is_option word ≡ false → bytes_eq word (45 ∷ 45 ∷ []) ≡ false
not_dashes [] plain = refl
not_dashes (byte ∷ rest) plain = ap (λ b. b && bytes_eq rest (45 ∷ [])) plain

-- the walk between two words, where nothing waits
abbrev between : Held → ℕ → Walk
between held position = record { held = held; waiting = idle; position = position; is_trailing = false; stopped = None }

-- such a word that names no subcommand goes to a positional
plain_met : (rules : List Rule) (names : Names) (held : Held) (position : ℕ) (word : Text) → is_option word ≡ false → subcommand_met names idle word ≡ None
    → word_met rules names false idle position word held ≡ (held, value)
plain_met rules names held position word plain other =
    ap (λ o. subcommand_or_other rules o idle position word held) other
    ∙ ap (λ b. cond b (held, trailing position) (long_or_other rules idle word (long_of word) held)) (not_dashes word plain)
    ∙ ap (λ o. long_or_other rules idle word o held) (not_long word plain)
    ∙ ap (λ o. short_or_plain rules idle word o held) (not_short word plain)

plain_walk : (rules : List Rule) (names : Names) (held : Held) (position : ℕ) (word : Text) → is_option word ≡ false → subcommand_met names idle word ≡ None
    → walked rules names (between held position) word ≡ to_positional rules (arg_by_index rules position) word (between held position) held
unfolding walked
plain_walk rules names held position word plain other =
    ap (λ (p : Held × Step). after_step rules word (between held position) p.0 p.1) (plain_met rules names held position word plain other)

plain_fault : (shape : Shape) (names : Names) (held : Held) (word : Text) → is_option word ≡ false → subcommand_met names idle word ≡ None
    → word_fault shape names false idle word held ≡ []
plain_fault shape names held word plain other =
    ap (λ o. other_fault shape o word held) other
    ∙ ap (λ b. cond b [] (flag_word_fault shape.rules shape.args_override_self (long_of word) word held)) (not_dashes word plain)
    ∙ ap (λ o. flag_word_fault shape.rules shape.args_override_self o word held) (not_long word plain)
    ∙ ap (λ o. option_map_or (λ flags. bundle_fault shape.rules shape.args_override_self flags held) o []) (not_short word plain)

plain_turn : (shape : Shape) (names : Names) (held : Held) (position : ℕ) (word : Text) → is_option word ≡ false → subcommand_met names idle word ≡ None
    → turn_fault shape names (between held position) word ≡ step_fault shape position held value
plain_turn shape names held position word plain other =
    ap₂ (λ (k : Kinds) (p : Held × Step). or_else k (step_fault shape position p.0 p.1)) (plain_fault shape names held word plain other)
    (plain_met shape.rules names held position word plain other)

-- ---- the first word

abbrev pub names : Names
names = names_of (built service)

abbrev start : Walk
start = walk_from nothing_held

-- what the words come to, where the walk over them fails so and ends there
abbrev fault_at : Kinds → Walk → Kinds
fault_at first end = or_else first
    (or_else (entered_fault (built service) end.stopped)
    (or_else (settle_fault (built service).top.rules (built service).top.args_override_self end.held)
    (or_else (defaults_fault (settled (built service).top.rules end.held).rows (built service).top.rules)
    (check_fault (built service).top (finished (built service).top.rules end.held) (is_some (entered (built service) end.stopped))))))

pub stray : (word : Text) (rest : List Text) → is_option word ≡ false → subcommand_met names idle word ≡ None
    → fault_of service (word ∷ rest) ≡ UnknownArgument ∷ InvalidSubcommand ∷ []
unfolding clap_on_literals
stray word rest plain other =
    ap (λ k. fault_at (or_else k (walk_fault (built service).top names (walked [] names start word) rest))
    (fold (walked [] names) (walked [] names start word) rest))
    (plain_turn (built service).top names nothing_held 1 word plain other)

-- the walk that met a subcommand, with the words after it
abbrev met : Text → List Text → Walk
met name rest = record start { stopped = Some (name, rest) }

play_fault : (rest : List Text) → fault_of service (codes "play" ∷ rest) ≡ fault_at [] (met (codes "play") rest)
unfolding clap_on_literals
play_fault rest = ap₂ fault_at (stopped_fault (built service).top names start (codes "play", []) rest)
    (sym (walk_stopped [] names start (codes "play") [] rest))

race_fault : (rest : List Text) → fault_of service (codes "race" ∷ rest) ≡ fault_at [] (met (codes "race") rest)
unfolding clap_on_literals
race_fault rest = ap₂ fault_at (stopped_fault (built service).top names start (codes "race", []) rest)
    (sym (walk_stopped [] names start (codes "race") [] rest))

render_fault : (rest : List Text) → fault_of service (codes "render" ∷ rest) ≡ fault_at [] (met (codes "render") rest)
unfolding clap_on_literals
render_fault rest = ap₂ fault_at (stopped_fault (built service).top names start (codes "render", []) rest)
    (sym (walk_stopped [] names start (codes "render") [] rest))

damage_fault : (rest : List Text) → fault_of service (codes "damage" ∷ rest) ≡ fault_at [] (met (codes "damage") rest)
unfolding clap_on_literals
damage_fault rest = ap₂ fault_at (stopped_fault (built service).top names start (codes "damage", []) rest)
    (sym (walk_stopped [] names start (codes "damage") [] rest))

focus_fault : (rest : List Text) → fault_of service (codes "focus" ∷ rest) ≡ fault_at [] (met (codes "focus") rest)
unfolding clap_on_literals
focus_fault rest = ap₂ fault_at (stopped_fault (built service).top names start (codes "focus", []) rest)
    (sym (walk_stopped [] names start (codes "focus") [] rest))

pointer_fault : (rest : List Text) → fault_of service (codes "pointer" ∷ rest) ≡ fault_at [] (met (codes "pointer") rest)
unfolding clap_on_literals
pointer_fault rest = ap₂ fault_at (stopped_fault (built service).top names start (codes "pointer", []) rest)
    (sym (walk_stopped [] names start (codes "pointer") [] rest))

judge_fault : (rest : List Text) → fault_of service (codes "judge" ∷ rest) ≡ fault_at [] (met (codes "judge") rest)
unfolding clap_on_literals
judge_fault rest = ap₂ fault_at (stopped_fault (built service).top names start (codes "judge", []) rest)
    (sym (walk_stopped [] names start (codes "judge") [] rest))

why_fault : (rest : List Text) → fault_of service (codes "why" ∷ rest) ≡ fault_at [] (met (codes "why") rest)
unfolding clap_on_literals
why_fault rest = ap₂ fault_at (stopped_fault (built service).top names start (codes "why", []) rest) (sym (walk_stopped [] names start (codes "why") [] rest))

film_fault : (rest : List Text) → fault_of service (codes "film" ∷ rest) ≡ fault_at [] (met (codes "film") rest)
unfolding clap_on_literals
film_fault rest = ap₂ fault_at (stopped_fault (built service).top names start (codes "film", []) rest)
    (sym (walk_stopped [] names start (codes "film") [] rest))

stress_fault : (rest : List Text) → fault_of service (codes "stress" ∷ rest) ≡ fault_at [] (met (codes "stress") rest)
unfolding clap_on_literals
stress_fault rest = ap₂ fault_at (stopped_fault (built service).top names start (codes "stress", []) rest)
    (sym (walk_stopped [] names start (codes "stress") [] rest))

-- ---- the words after it

abbrev level_at : Shape → Kinds → Walk → Kinds
level_at shape first end = or_else first
    (or_else (settle_fault shape.rules shape.args_override_self end.held)
    (or_else (defaults_fault (settled shape.rules end.held).rows shape.rules)
    (check_fault shape (finished shape.rules end.held) false)))

-- the subcommand of a form that has no word of its own
abbrev bare : Text → Shape
bare name = built_leaf (inherited (built service).top (new_app name).top)

-- the subcommand of a load
abbrev load : Shape
load = built_leaf (inherited (built service).top (with_rule (new_app (codes "stress")) frames).top)

bare_more : (name word : Text) (rest : List Text) → is_option word ≡ false
    → level_fault (bare name) [] nothing_held (word ∷ rest) false [] ≡ UnknownArgument ∷ []
unfolding walk_fault
bare_more name word rest plain =
    ap (λ k. level_at (bare name) (or_else k (walk_fault (bare name) [] (walked [] [] start word) rest)) (fold (walked [] []) (walked [] [] start word) rest))
    (plain_turn (bare name) [] nothing_held 1 word plain refl)

-- the walk that has the number of frames
abbrev one : Text → Walk
one word = to_positional load.rules (arg_by_index load.rules 1) word start nothing_held

load_one : (word : Text) → is_option word ≡ false → level_fault load [] nothing_held (word ∷ []) false [] ≡ []
unfolding walk_fault defaults_fault
load_one word plain =
    ap₂ (λ (k : Kinds) (w : Walk). level_at load (or_else k []) w) (plain_turn load [] nothing_held 1 word plain refl)
    (plain_walk load.rules [] nothing_held 1 word plain refl)

load_two : (word last : Text) (rest : List Text) → is_option word ≡ false → is_option last ≡ false
    → level_fault load [] nothing_held (word ∷ last ∷ rest) false [] ≡ UnknownArgument ∷ []
unfolding walk_fault defaults_fault
load_two word last rest plain last_plain =
    ap₂ (λ (k : Kinds) (w : Walk). level_at load (or_else k (walk_fault load [] w (last ∷ rest))) (fold (walked load.rules []) w (last ∷ rest)))
    (plain_turn load [] nothing_held 1 word plain refl) (plain_walk load.rules [] nothing_held 1 word plain refl)
    ∙ ap (λ k. level_at load (or_else k (walk_fault load [] (walked load.rules [] (one word) last) rest))
    (fold (walked load.rules []) (one word) (last ∷ rest)))
    (plain_turn load [] (one word).held 2 last last_plain refl)

-- ---- the words of each form, and more

pub play_alone : fault_of service (codes "play" ∷ []) ≡ []
unfolding clap_on_literals
play_alone = refl

pub play_more : (word : Text) (rest : List Text) → is_option word ≡ false → fault_of service (codes "play" ∷ word ∷ rest) ≡ UnknownArgument ∷ []
unfolding walk_fault defaults_fault
play_more word rest plain = play_fault (word ∷ rest) ∙ ap (λ k. or_else k []) (bare_more (codes "play") word rest plain)

pub race_alone : fault_of service (codes "race" ∷ []) ≡ []
unfolding clap_on_literals
race_alone = refl

pub race_more : (word : Text) (rest : List Text) → is_option word ≡ false → fault_of service (codes "race" ∷ word ∷ rest) ≡ UnknownArgument ∷ []
unfolding walk_fault defaults_fault
race_more word rest plain = race_fault (word ∷ rest) ∙ ap (λ k. or_else k []) (bare_more (codes "race") word rest plain)

pub render_alone : fault_of service (codes "render" ∷ []) ≡ []
unfolding clap_on_literals
render_alone = refl

pub render_more : (word : Text) (rest : List Text) → is_option word ≡ false → fault_of service (codes "render" ∷ word ∷ rest) ≡ UnknownArgument ∷ []
unfolding walk_fault defaults_fault
render_more word rest plain = render_fault (word ∷ rest) ∙ ap (λ k. or_else k []) (bare_more (codes "render") word rest plain)

pub damage_alone : fault_of service (codes "damage" ∷ []) ≡ []
unfolding clap_on_literals
damage_alone = refl

pub damage_more : (word : Text) (rest : List Text) → is_option word ≡ false → fault_of service (codes "damage" ∷ word ∷ rest) ≡ UnknownArgument ∷ []
unfolding walk_fault defaults_fault
damage_more word rest plain = damage_fault (word ∷ rest) ∙ ap (λ k. or_else k []) (bare_more (codes "damage") word rest plain)

pub focus_alone : fault_of service (codes "focus" ∷ []) ≡ []
unfolding clap_on_literals
focus_alone = refl

pub focus_more : (word : Text) (rest : List Text) → is_option word ≡ false → fault_of service (codes "focus" ∷ word ∷ rest) ≡ UnknownArgument ∷ []
unfolding walk_fault defaults_fault
focus_more word rest plain = focus_fault (word ∷ rest) ∙ ap (λ k. or_else k []) (bare_more (codes "focus") word rest plain)

pub pointer_alone : fault_of service (codes "pointer" ∷ []) ≡ []
unfolding clap_on_literals
pointer_alone = refl

pub judge_alone : fault_of service (codes "judge" ∷ []) ≡ []
unfolding clap_on_literals
judge_alone = refl

pub why_alone : fault_of service (codes "why" ∷ []) ≡ []
unfolding clap_on_literals
why_alone = refl

pub film_alone : fault_of service (codes "film" ∷ []) ≡ []
unfolding clap_on_literals
film_alone = refl

pub pointer_more : (word : Text) (rest : List Text) → is_option word ≡ false → fault_of service (codes "pointer" ∷ word ∷ rest) ≡ UnknownArgument ∷ []
unfolding walk_fault defaults_fault
pointer_more word rest plain = pointer_fault (word ∷ rest) ∙ ap (λ k. or_else k []) (bare_more (codes "pointer") word rest plain)

pub judge_more : (word : Text) (rest : List Text) → is_option word ≡ false → fault_of service (codes "judge" ∷ word ∷ rest) ≡ UnknownArgument ∷ []
unfolding walk_fault defaults_fault
judge_more word rest plain = judge_fault (word ∷ rest) ∙ ap (λ k. or_else k []) (bare_more (codes "judge") word rest plain)

pub why_more : (word : Text) (rest : List Text) → is_option word ≡ false → fault_of service (codes "why" ∷ word ∷ rest) ≡ UnknownArgument ∷ []
unfolding walk_fault defaults_fault
why_more word rest plain = why_fault (word ∷ rest) ∙ ap (λ k. or_else k []) (bare_more (codes "why") word rest plain)

pub film_more : (word : Text) (rest : List Text) → is_option word ≡ false → fault_of service (codes "film" ∷ word ∷ rest) ≡ UnknownArgument ∷ []
unfolding walk_fault defaults_fault
film_more word rest plain = film_fault (word ∷ rest) ∙ ap (λ k. or_else k []) (bare_more (codes "film") word rest plain)

pub stress_alone : fault_of service (codes "stress" ∷ []) ≡ MissingRequiredArgument ∷ []
unfolding clap_on_literals
stress_alone = refl

pub stress_one : (word : Text) → is_option word ≡ false → fault_of service (codes "stress" ∷ word ∷ []) ≡ []
unfolding walk_fault defaults_fault
stress_one word plain = stress_fault (word ∷ []) ∙ ap (λ k. or_else k []) (load_one word plain)

pub stress_more : (word last : Text) (rest : List Text) → is_option word ≡ false → is_option last ≡ false
    → fault_of service (codes "stress" ∷ word ∷ last ∷ rest) ≡ UnknownArgument ∷ []
unfolding walk_fault defaults_fault
stress_more word last rest plain last_plain = stress_fault (word ∷ last ∷ rest) ∙ ap (λ k. or_else k []) (load_two word last rest plain last_plain)

pub nothing : fault_of service [] ≡ MissingSubcommand ∷ []
unfolding clap_on_literals
nothing = refl

-- ---- what they call

pub play_called : subcommand_of service (codes "play" ∷ []) ≡ Some (codes "play", [])
unfolding clap_on_literals
play_called = refl

pub race_called : subcommand_of service (codes "race" ∷ []) ≡ Some (codes "race", [])
unfolding clap_on_literals
race_called = refl

pub render_called : subcommand_of service (codes "render" ∷ []) ≡ Some (codes "render", [])
unfolding clap_on_literals
render_called = refl

pub damage_called : subcommand_of service (codes "damage" ∷ []) ≡ Some (codes "damage", [])
unfolding clap_on_literals
damage_called = refl

pub focus_called : subcommand_of service (codes "focus" ∷ []) ≡ Some (codes "focus", [])
unfolding clap_on_literals
focus_called = refl

pub pointer_called : subcommand_of service (codes "pointer" ∷ []) ≡ Some (codes "pointer", [])
unfolding clap_on_literals
pointer_called = refl

pub judge_called : subcommand_of service (codes "judge" ∷ []) ≡ Some (codes "judge", [])
unfolding clap_on_literals
judge_called = refl

pub why_called : subcommand_of service (codes "why" ∷ []) ≡ Some (codes "why", [])
unfolding clap_on_literals
why_called = refl

pub film_called : subcommand_of service (codes "film" ∷ []) ≡ Some (codes "film", [])
unfolding clap_on_literals
film_called = refl

abbrev pub load_rows : Text → List Row
load_rows word = finished load.rules (one word).held

pub stress_called : (word : Text) → is_option word ≡ false → subcommand_of service (codes "stress" ∷ word ∷ []) ≡ Some (codes "stress", load_rows word)
unfolding walked
stress_called word plain = ap (λ (w : Walk). Some (codes "stress", finished load.rules w.held)) (plain_walk load.rules [] nothing_held 1 word plain refl)

pub load_read : (word : Text) → first_of (codes "frames") (load_rows word) ≡ Some word
load_read word = refl

-- ---- what the getters tell

abbrev both : {X : Type 0} → (X → Text) → (X → List Row) → X → Text × List Row
both name_of rows_of x = (name_of x, rows_of x)

pub told : {X : Type 0} (call : Option X) (name_of : X → Text) (rows_of : X → List Row) (name : Text) (rows : List Row) → Some name ≡ option_map name_of call
    → Some rows ≡ option_map (λ (p : Text × List Row). p.1) (option_map (both name_of rows_of) call)
    → option_map (both name_of rows_of) call ≡ Some (name, rows)
told None name_of rows_of name rows n r = absurd (true≢false (ap is_some n))
told (Some x) name_of rows_of name rows n r =
    ap₂ (λ (t : Text) (rs : List Row). Some (t, rs)) (sym (ap (λ o. unwrap_or o name) n)) (sym (ap (λ o. unwrap_or o rows) r))

-- a load's frames are what its word says
pub load_only : (found : Option (Text × List Row)) (rows : List Row) (word : Option Text) → found ≡ Some (codes "stress", rows)
    → first_of (codes "frames") rows ≡ word → (form : ServiceWord) → IsSomeAnd found (λ call. IsNamed call form)
    → (n : ℕ) × (form ≡ Stress n) × (word ≡ Some (decimal n)) × (1 ≤ n) × (n ≤ 500)
load_only found rows word is read form named = go form (subst (λ o. IsSomeAnd o (λ call. IsNamed call form)) is named)
  where
    go : (form : ServiceWord) → IsNamed (codes "stress", rows) form → (n : ℕ) × (form ≡ Stress n) × (word ≡ Some (decimal n)) × (1 ≤ n) × (n ≤ 500)
    go Play e = absurd (true≢false (ap (bytes_eq (codes "stress")) e))
    go Race e = absurd (true≢false (ap (bytes_eq (codes "stress")) e))
    go Render e = absurd (true≢false (ap (bytes_eq (codes "stress")) e))
    go Damage e = absurd (true≢false (ap (bytes_eq (codes "stress")) e))
    go Focus e = absurd (true≢false (ap (bytes_eq (codes "stress")) e))
    go Pointer e = absurd (true≢false (ap (bytes_eq (codes "stress")) e))
    go Judge e = absurd (true≢false (ap (bytes_eq (codes "stress")) e))
    go Why e = absurd (true≢false (ap (bytes_eq (codes "stress")) e))
    go Film e = absurd (true≢false (ap (bytes_eq (codes "stress")) e))
    go (Stress n) e = (n, refl, sym read ∙ e.1, e.2, e.3)

pub load_form : (found : Option (Text × List Row)) (rows : List Row) (word : Text) (n : ℕ) → found ≡ Some (codes "stress", rows)
    → first_of (codes "frames") rows ≡ Some word → decimal n ≡ word → 1 ≤ n → n ≤ 500 → IsSomeAnd found (λ call. IsNamed call (Stress n))
load_form found rows word n is read text low high =
    subst (λ o. IsSomeAnd o (λ call. IsNamed call (Stress n))) (sym is) (refl, read ∙ ap Some (sym text), low, high)
