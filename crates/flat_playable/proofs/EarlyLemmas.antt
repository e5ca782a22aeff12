-- A line that is read in a script of the first version has nothing of the second.
use Rattle.std.proofs.Common.{◌≡◌, ℕ, nat_lt, Bool, true, false, ◌&&◌, if◌then◌else◌, List, [], ◌∷◌, ◌++◌, Ok, refl, sym, ◌∙◌, ap, codes}
use Rattle.std.specs.Fmt.{decimal}
use Rattle.std.specs.Str.{bytes_eq}
use Rattle.std.proofs.lemmas.Slice.Eq.{bytes_eq-Decides}
use Rattle.flat_base.specs.declared.ids.Actor.{Actor}
use Rattle.flat_base.specs.declared.ids.Actor.TheVariants.{Display, Session, Probe}
use Rattle.flat_base.specs.declared.ids.FenceNo.{FenceNo}
use Rattle.flat_base.specs.declared.ids.SessionNo.{SessionNo}
use Rattle.flat_scene.specs.declared.calls.Call.{Call}
use Rattle.flat_scene.specs.declared.calls.Call.TheVariants as call
use Rattle.flat_scene.specs.declared.calls.PresentArgs.{PresentArgs}
use Rattle.flat_scene.specs.declared.script.LineBody.{LineBody}
use Rattle.flat_scene.specs.declared.script.LineBody.TheVariants as body
use Rattle.flat_scene.specs.declared.script.SessionLine.{SessionLine}
use Rattle.flat_scene.specs.declared.script.SessionLine.TheVariants as line
use Rattle.flat_places.specs.declared.script.Script.{Script}
use Rattle.flat_places.specs.Forms.{Word, Form, Reading, whole, ◌<$>◌, ◌<*>◌}
use Rattle.flat_places.specs.Known.{knows}
use Rattle.flat_places.specs.Places.{time, fence_word, unsquashable}
use Rattle.flat_forms.specs.Body.{fence_lists, present, session_line, display_line, probe_line, actor_line}
use Rattle.flat_print.specs.Print.{session_words, display_words, call_words, lists_words, unsquashable_word}
use Rattle.flat_forms.proofs.lemmas.FormLemmas.{Gives, apply_ok, map_ok, whole_ok, mapped_ok}
use Rattle.flat_print.proofs.lemmas.BodyWordLemmas.{display_spelt, session_shown}
use Rattle.flat_playable.specs.Versions.{is_early, is_of_first_version, sets_no_ratio}
use Rattle.flat_base.specs.declared.limits.TheConstants.{RATIO_SINCE}
use Rattle.flat_scene.specs.declared.script.DisplayLine.{DisplayLine}
use Rattle.flat_scene.specs.declared.script.DisplayLine.TheVariants as display
use Rattle.flat_playable.proofs.PlayedLemmas.{ratio_line}

not_known : (version : ℕ) (w : Word) → version ≡ 1 → bytes_eq w (codes "unsquashable") ≡ true → knows version w ≡ false
not_known version w first at =
    ap (λ v. knows v w) first ∙ ap (knows 1) ((bytes_eq-Decides w (codes "unsquashable")).0 at)

alone_never : (version : ℕ) (words : List Word) (alone : Bool) (rest : List Word) → version ≡ 1 → Gives (unsquashable version) words alone rest → false ≡ alone
alone_never version [] alone rest first given = let value = given.value in cc
alone_never version (w ∷ words) alone rest first given = by_test (bytes_eq w (codes "unsquashable")) (knows version w) refl refl given.value
  where
    taken : Bool → Reading Bool × List Word
    taken b = if b then (Ok true, words) else (Ok false, w ∷ words)

    by_test : (b c : Bool) → bytes_eq w (codes "unsquashable") ≡ b → knows version w ≡ c → (taken (b && c)).0 ≡ Ok alone → false ≡ alone
    by_test true true at known value = absurd (let wrong : true ≡ false = sym known ∙ not_known version w first at in cc)
    by_test true false at known value = cc
    by_test false c at known value = cc

present_early : (s : Script) (a : SessionNo) (p : PresentArgs) (words : List Word) → s.version ≡ 1
    → whole (line.Present <$> present s a) words ≡ Ok (line.Present p) → is_early (line.Present p) ≡ true
present_early s a p words early is =
    let lists : Form (List FenceNo × List FenceNo) = λ ws. (fence_lists (fence_word s (Session a)) ws, []) in
    let alone = unsquashable s.version in
    let h : ℕ → Bool → List FenceNo × List FenceNo → PresentArgs = λ t u both. record { time = t; acquire = both.0; release = both.1; unsquashable = u } in
    let whole_line = map_ok line.Present (present s a) words (line.Present p) [] (whole_ok (line.Present <$> present s a) words (line.Present p) is) in
    let third = apply_ok (h <$> time <*> alone) lists words whole_line.a [] whole_line.given in
    let second = apply_ok (h <$> time) alone words third.g third.mid third.first in
    let first = map_ok h time words second.g second.mid second.first in
    let none : false ≡ second.a = alone_never s.version second.mid second.a third.mid early second.second in
    let args : h first.a second.a third.a ≡ whole_line.a = ap (λ g. g second.a third.a) first.value ∙ ap (λ g. g third.a) second.value ∙ third.value in
    ap is_early (sym (ap (λ u. line.Present (h first.a u third.a)) none ∙ ap line.Present args ∙ whole_line.value))

call_early : (s : Script) (a : SessionNo) (c : Call) → s.version ≡ 1 → session_line s a (call_words s c) ≡ Ok (line.Call c) → is_early (line.Call c) ≡ true
call_early s a (call.ReplaceChildren p ks) first is = absurd (let wrong = rw first at is in cc)
call_early s a _ first is = refl

session_early : (s : Script) (a : SessionNo) (l : SessionLine) → s.version ≡ 1 → session_line s a (session_words s l) ≡ Ok l → is_early l ≡ true
session_early s a (line.Call c) first is = call_early s a c first is
session_early s a (line.Present p) first is = present_early s a p (decimal p.time ∷ unsquashable_word p.unsquashable ++ lists_words s p) first is
session_early s a _ first is = refl

-- a line that sets a pixel ratio isn't read below the third version
display_unscaled : (s : Script) (n : ℕ) (l : DisplayLine) → nat_lt s.version RATIO_SINCE ≡ true → display_line s (display_words s l) ≡ Ok l
    → sets_no_ratio (record { number = n; actor = Display; body = body.Display l }) ≡ true
display_unscaled s n (display.Dpr r) early is = absurd (let wrong : true ≡ false = sym early ∙ (ratio_line s r (decimal r ∷ []) is).0 in cc)
display_unscaled s n _ early is = refl

pub line_unscaled : (s : Script) (n : ℕ) (a : Actor) (words : List Word) (b : LineBody) → nat_lt s.version RATIO_SINCE ≡ true → actor_line s a words ≡ Ok b
    → sets_no_ratio (record { number = n; actor = a; body = b }) ≡ true
line_unscaled s n Display words b early is =
    let m = mapped_ok body.Display (display_line s words) b is in
    let read : display_line s (display_words s m.a) ≡ Ok m.a = ap (display_line s) (display_spelt s words m.a m.given) ∙ m.given in
    ap (λ t. sets_no_ratio (record { number = n; actor = Display; body = t })) (sym m.value) ∙ display_unscaled s n m.a early read
line_unscaled s n (Session a) words b early is =
    let m = mapped_ok body.Session (session_line s a words) b is in
    ap (λ t. sets_no_ratio (record { number = n; actor = Session a; body = t })) (sym m.value)
line_unscaled s n (Probe p) words b early is =
    let m = mapped_ok body.Probe (probe_line s.version words) b is in
    ap (λ t. sets_no_ratio (record { number = n; actor = Probe p; body = t })) (sym m.value)

pub line_early : (s : Script) (n : ℕ) (a : Actor) (words : List Word) (b : LineBody) → s.version ≡ 1 → actor_line s a words ≡ Ok b
    → is_of_first_version (record { number = n; actor = a; body = b }) ≡ true
line_early s n Display words b first is =
    let m = mapped_ok body.Display (display_line s words) b is in
    ap (λ t. is_of_first_version (record { number = n; actor = Display; body = t })) (sym m.value)
line_early s n (Session a) words b first is =
    let m = mapped_ok body.Session (session_line s a words) b is in
    let shown = session_shown s a words m.a m.given in
    ap (λ t. is_of_first_version (record { number = n; actor = Session a; body = t })) (sym m.value) ∙ session_early s a m.a first shown.again
line_early s n (Probe p) words b first is =
    let m = mapped_ok body.Probe (probe_line s.version words) b is in
    ap (λ t. is_of_first_version (record { number = n; actor = Probe p; body = t })) (sym m.value)
