-- A line of the body is read alike where the lines before it have other numbers.
use Rattle.std.proofs.Common.{◌≡◌, ℕ, ◌+◌, true, cond, nat_lt, List, [], ◌∷◌, map, count_by, fold, Option, Some, None, Ok, Err, refl, sym, ◌∙◌, ap}
use Rattle.std.specs.List.{filter_map, cons_option}
use Rattle.std.specs.Option.{option_map_or}
use Rattle.flat_base.specs.declared.ids.Actor.{Actor}
use Rattle.flat_base.specs.declared.ids.Actor.TheVariants.{Display, Session, Probe}
use Rattle.flat_base.specs.declared.ids.SessionNo.{SessionNo}
use Rattle.flat_scene.specs.declared.script.ScriptLine.{ScriptLine}
use Rattle.flat_scene.specs.declared.script.LineBody.{LineBody}
use Rattle.flat_forms.specs.declared.calls.CallName.{CallName}
use Rattle.flat_places.specs.declared.kinds.FaultKind.TheVariants.{UnknownActor, Limit}
use Rattle.flat_places.specs.declared.script.Script.{Script}
use Rattle.flat_places.specs.Forms.{Word, mapped}
use Rattle.flat_places.specs.Names.{is_actor, actor_named}
use Rattle.flat_forms.specs.Calls.{call_form}
use Rattle.flat_forms.specs.Body.{time_begun, ends_frame, lines_of_actor, display_line, session_line, actor_line, counted_line, body_line, with_line}
use Rattle.flat_print.specs.Print.{without_number}
use Rattle.flat_forms.proofs.lemmas.FormLemmas.{unless_ok, mapped_ok}

abbrev pub with_lines : Script → List ScriptLine → Script
with_lines s ls = record s { lines = ls }

pub record SameLines (ls ms : List ScriptLine) : Type 0 where
  pub same : map without_number ls ≡ map without_number ms

times_without : (ls : List ScriptLine) → filter_map (λ l. time_begun l.body) (map without_number ls) ≡ filter_map (λ l. time_begun l.body) ls
times_without [] = refl
times_without (l ∷ ls) = ap (λ t. cons_option (time_begun l.body) t) (times_without ls)

dones_without : (n : ℕ) (ls : List ScriptLine) → fold (λ k l. k + cond (ends_frame l.body) 1 0) n (map without_number ls)
    ≡ fold (λ k l. k + cond (ends_frame l.body) 1 0) n ls
dones_without n [] = refl
dones_without n (l ∷ ls) = dones_without (n + cond (ends_frame l.body) 1 0) ls

actors_without : (a : Actor) (n : ℕ) (ls : List ScriptLine)
    → fold (λ k l. k + cond (is_actor l.actor a) 1 0) n (map without_number ls) ≡ fold (λ k l. k + cond (is_actor l.actor a) 1 0) n ls
actors_without a n [] = refl
actors_without a n (l ∷ ls) = actors_without a (n + cond (is_actor l.actor a) 1 0) ls

pub times_same : (ls ms : List ScriptLine) → SameLines ls ms → filter_map (λ l. time_begun l.body) ms ≡ filter_map (λ l. time_begun l.body) ls
times_same ls ms s = sym (times_without ms) ∙ ap (filter_map (λ l. time_begun l.body)) (sym s.same) ∙ times_without ls

pub dones_same : (ls ms : List ScriptLine) → SameLines ls ms → count_by (λ l. ends_frame l.body) ms ≡ count_by (λ l. ends_frame l.body) ls
dones_same ls ms s = sym (dones_without 0 ms) ∙ ap (count_by (λ l. ends_frame l.body)) (sym s.same) ∙ dones_without 0 ls

pub actors_same : (a : Actor) (ls ms : List ScriptLine) → SameLines ls ms → count_by (λ l. is_actor l.actor a) ms ≡ count_by (λ l. is_actor l.actor a) ls
actors_same a ls ms s = sym (actors_without a 0 ms) ∙ ap (count_by (λ l. is_actor l.actor a)) (sym s.same) ∙ actors_without a 0 ls

call_form_same : (s : Script) (ls ms : List ScriptLine) (a : SessionNo) (n : CallName) → call_form (with_lines s ms) a n ≡ call_form (with_lines s ls) a n
call_form_same s ls ms a n = refl

session_line_same : (s : Script) (ls ms : List ScriptLine) (a : SessionNo) (words : List Word)
    → session_line (with_lines s ms) a words ≡ session_line (with_lines s ls) a words
session_line_same s ls ms a words = refl

display_line_same : (s : Script) (ls ms : List ScriptLine) (words : List Word) → SameLines ls ms
    → display_line (with_lines s ms) words ≡ display_line (with_lines s ls) words
display_line_same s ls ms words same = let times = times_same ls ms same in let ended = dones_same ls ms same in simp (times, ended)

actor_line_same : (s : Script) (ls ms : List ScriptLine) (a : Actor) (words : List Word) → SameLines ls ms
    → actor_line (with_lines s ms) a words ≡ actor_line (with_lines s ls) a words
actor_line_same s ls ms Display words same = ap (mapped _) (display_line_same s ls ms words same)
actor_line_same s ls ms (Session a) words same = refl
actor_line_same s ls ms (Probe p) words same = refl

-- what a line of the body says; and all words that say the same are read again
pub record Again (s : Script) (ls ms : List ScriptLine) (n m : ℕ) (words : List Word) (u : Script) : Type 0 where
  pub actor : Actor
  pub first : Word
  pub rest : List Word
  pub body : LineBody
  pub begins : words ≡ first ∷ rest
  pub named : actor_named s first ≡ Some actor
  pub line : actor_line (with_lines s ls) actor rest ≡ Ok body
  pub read : u ≡ with_line (with_lines s ls) n actor body
  pub again : (spelt : List Word) → actor_line (with_lines s ls) actor spelt ≡ Ok body
      → body_line (with_lines s ms) m (first ∷ spelt) ≡ Ok (with_line (with_lines s ms) m actor body)

counted_again : (s : Script) (ls ms : List ScriptLine) (n m : ℕ) (w : Word) (words : List Word) (u : Script) (a : Actor) → SameLines ls ms
    → actor_named s w ≡ Some a
    → counted_line (with_lines s ls) n a words ≡ Ok u → Again s ls ms n m (w ∷ words) u
counted_again s ls ms n m w words u a same named is =
    let tested = unless_ok Limit (nat_lt (lines_of_actor (with_lines s ls) a) 65536) _ u is in
    let parts = mapped_ok (with_line (with_lines s ls) n a) (actor_line (with_lines s ls) a words) u tested.given in
    let count : nat_lt (lines_of_actor (with_lines s ms) a) 65536 ≡ true = ap (λ k. nat_lt k 65536) (actors_same a ls ms same) ∙ tested.passed in
    let again : (spelt : List Word) → actor_line (with_lines s ls) a spelt ≡ Ok parts.a
    → body_line (with_lines s ms) m (w ∷ spelt) ≡ Ok (with_line (with_lines s ms) m a parts.a) =
    λ spelt says. let line : actor_line (with_lines s ms) a spelt ≡ Ok parts.a = actor_line_same s ls ms a spelt same ∙ says in rw (named, count, line) refl in
    record { actor = a; first = w; rest = words; body = parts.a; begins = refl; named = named; line = parts.given; read = sym parts.value; again = again }

by_actor : (s : Script) (ls ms : List ScriptLine) (n m : ℕ) (w : Word) (words : List Word) (u : Script) (o : Option Actor) → SameLines ls ms
    → actor_named s w ≡ o
    → option_map_or (λ a. counted_line (with_lines s ls) n a words) o (Err UnknownActor) ≡ Ok u → Again s ls ms n m (w ∷ words) u
by_actor s ls ms n m w words u None same named is = absurd (cc)
by_actor s ls ms n m w words u (Some a) same named is = counted_again s ls ms n m w words u a same named is

pub body_again : (s : Script) (ls ms : List ScriptLine) (n m : ℕ) (words : List Word) (u : Script) → SameLines ls ms
    → body_line (with_lines s ls) n words ≡ Ok u → Again s ls ms n m words u
body_again s ls ms n m [] u same is = absurd (cc)
body_again s ls ms n m (w ∷ words) u same is = by_actor s ls ms n m w words u (actor_named s w) same refl is
