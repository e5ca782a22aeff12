-- A line of a script at its place.
use Rattle.std.proofs.Common.{◌≡◌, ℕ, ◌+◌, ◌<◌, true, false, nat_le, List, [], ◌∷◌, ◌++◌, length, take, drop, get_or, zero, suc, refl, sym, ap, ◌∙◌, subst}
use Rattle.std.proofs.Common.{arith, add-one, Some, slice_get}
use Rattle.std.specs.List.{list_all, AllByRecursion}
use Rattle.std.proofs.Math.Seq.{drop-cons}
use Rattle.std.proofs.lemmas.Bool.{eq-eqb}
use Rattle.std.proofs.lemmas.Grind.{flat_map-append}
use Rattle.std.proofs.lemmas.List.{take_more, take-append-drop}
use Rattle.std.proofs.lemmas.Option.{slice_get_within, slice_get-get_or}
use Rattle.flat_base.specs.declared.ids.Actor.TheVariants.{Session}
use Rattle.flat_base.specs.declared.ids.SessionNo.{SessionNo}
use Rattle.flat_base.specs.declared.limits.TheConstants.{SCRIPT_BYTES_MAX}
use Rattle.flat_scene.specs.declared.script.LineBody.TheVariants as body
use Rattle.flat_scene.specs.declared.script.SessionLine.{SessionLine}
use Rattle.flat_scene.specs.declared.script.ScriptLine.{ScriptLine}
use Rattle.flat_scene.specs.Frames.{sessions_to}
use Rattle.flat_scene.specs.Interleave.{session_lines, session_line}
use Rattle.flat_scene.specs.History.{is_session}
use Rattle.flat_scene.specs.Setups.{is_declared}
use Rattle.flat_scene.specs.Heads.{is_setup}
use Rattle.flat_places.specs.declared.script.Script.{Script}
use Rattle.flat_rules.specs.Owned.{is_played_line}
use Rattle.flat_playable.specs.Playable.{rise_from, frames_close, is_played, is_playable}
use Rattle.flat_play.specs.Playing.{last_number}
use Rattle.flat_base.proofs.lemmas.Tests.{and-left, and-right, all-at}
use Rattle.flat_play.proofs.lemmas.Unread.{rise_first, rise_later}

-- ---- lists around a place

module _ {A : Type 0} (xs : List A) (i : ℕ) (x : A) (at : slice_get xs i ≡ Some x) where
  pub within : i < length xs
  within = slice_get_within xs i x at

  item_is : get_or xs i x ≡ x
  item_is = let e : Some (get_or xs i x) ≡ Some x = sym (slice_get-get_or xs i x within) ∙ at in cc

  pub drop_at : drop i xs ≡ x ∷ drop (i + 1) xs
  drop_at = let inside : i < length xs = within in drop-cons xs i x inside ∙ ap (λ n. get_or xs i x ∷ drop n xs) (sym (add-one i))
      ∙ ap (λ y. y ∷ drop (i + 1) xs) item_is

  pub take_at : take (i + 1) xs ≡ take i xs ++ x ∷ []
  take_at = take_more xs i x within ∙ ap (λ y. take i xs ++ y ∷ []) item_is

  pub split_at : xs ≡ take i xs ++ x ∷ drop (i + 1) xs
  split_at = sym (take-append-drop i xs) ∙ ap (λ t. take i xs ++ t) drop_at

-- past the last item there is none
pub drop_all : {A : Type 0} (xs : List A) → drop (length xs) xs ≡ []
drop_all [] = refl
drop_all (x ∷ xs) = drop_all xs

-- ---- numbers

pub last_more : (n : ℕ) (xs : List ScriptLine) (x : ScriptLine) → last_number n (xs ++ x ∷ []) ≡ x.number
last_more n [] x = refl
last_more n (y ∷ xs) x = last_more y.number xs x

pub last_below : (n : ℕ) (xs : List ScriptLine) (x : ScriptLine) (later : List ScriptLine) → rise_from n (xs ++ x ∷ later) ≡ true → last_number n xs < x.number
last_below n [] x later rise = rise_first n x later rise
last_below n (y ∷ xs) x later rise = last_below y.number xs x later (rise_later n y (xs ++ x ∷ later) rise)

-- ---- what a playable script says

module _ (script : Script) (playable : is_playable script ≡ true) where
  pub setup_is : is_setup script.setup ≡ true
  setup_is = and-left _ _ (and-left _ _ (and-left _ _ (and-left _ _ (and-left _ _ playable))))

  pub few_lines : nat_le script.count SCRIPT_BYTES_MAX ≡ true
  few_lines = and-right _ _ (and-left _ _ (and-left _ _ (and-left _ _ (and-left _ _ playable))))

  pub rises : rise_from 0 script.lines ≡ true
  rises = and-right _ _ (and-left _ _ (and-left _ _ (and-left _ _ playable)))

  pub counted : list_all (λ (next : ScriptLine). nat_le next.number script.count) script.lines ≡ true
  counted = and-right _ _ (and-left _ _ (and-left _ _ playable))

  pub frames_are : frames_close false 0 script.lines ≡ true
  frames_are = and-right _ _ (and-left _ _ playable)

  pub played_all : list_all (λ (next : ScriptLine). is_played script.setup next.actor next.body) script.lines ≡ true
  played_all = and-right _ _ playable

-- ---- a session's line

-- What is known of a session's line at its place.
pub record Here (script : Script) (s : SessionNo) (place number : ℕ) (text : SessionLine) : Type 0 where
  pub taken : session_lines s (take (place + 1) script.lines) ≡ session_lines s (take place script.lines) ++ (number, text) ∷ []
  pub last : last_number 0 (take (place + 1) script.lines) ≡ number
  pub above : last_number 0 (take place script.lines) < number
  pub played : is_played_line script.setup s text ≡ true
  pub declared : is_declared script.setup s ≡ true

own_line : (s : SessionNo) (number : ℕ) (text : SessionLine) → session_line (is_session s (Session s)) number (body.Session text) ≡ (number, text) ∷ []
own_line s number text = rw (eq-eqb s.0 s.0 refl) refl

pub here : (script : Script) (s : SessionNo) (place number : ℕ) (text : SessionLine) → is_playable script ≡ true
    → slice_get script.lines place ≡ Some (record { number = number; actor = Session s; body = body.Session text }) → Here script s place number text
here script s place number text playable at =
    let next : ScriptLine = record { number = number; actor = Session s; body = body.Session text } in
    let all : List ScriptLine = script.lines in
    let split : all ≡ take place all ++ next ∷ drop (place + 1) all = split_at all place next at in
    let rise : rise_from 0 (take place all ++ next ∷ drop (place + 1) all) ≡ true = ap (rise_from 0) (sym split) ∙ rises script playable in
    let played : is_played script.setup (Session s) (body.Session text) ≡ true =
    all-at (λ (one : ScriptLine). is_played script.setup one.actor one.body) (take place all) next (drop (place + 1) all)
    (ap (list_all (λ (one : ScriptLine). is_played script.setup one.actor one.body)) (sym split) ∙ played_all script playable) in
    record {
      taken = ap (session_lines s) (take_at all place next at)
          ∙ flat_map-append (λ (one : ScriptLine). session_line (is_session s one.actor) one.number one.body) (take place all) (next ∷ [])
          ∙ ap (λ t. session_lines s (take place all) ++ (t ++ [])) (own_line s number text);
      last = ap (last_number 0) (take_at all place next at) ∙ last_more 0 (take place all) next;
      above = last_below 0 (take place all) next (drop (place + 1) all) rise;
      played = and-right _ _ played;
      declared = and-left _ _ played;
    }

-- ---- all sessions

pub all_end : {A : Type 0} (P : A → Type 0) (xs : List A) (x : A) → AllByRecursion P xs → P x → AllByRecursion P (xs ++ x ∷ [])
all_end P [] x all one = (one, tt)
all_end P (y ∷ xs) x all one = (all.0, all_end P xs x all.1 one)

pub all_to : (P : SessionNo → Type 0) (n : ℕ) → ((k : ℕ) → k < n → P (record { 0 = k + 1 })) → AllByRecursion P (sessions_to n)
all_to P zero each = tt
all_to P (suc n) each =
    let Q : ℕ → Type 0 = λ m. P (record { 0 = m }) in
    all_end P (sessions_to n) (record { 0 = suc n }) (all_to P n (λ k below. each k (omega arith))) (subst Q (add-one n) (each n (omega arith)))
