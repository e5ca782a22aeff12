-- A line that may make no entry: what is known where it is read, and where it comes back.
use Rattle.std.proofs.Common.{◌≡◌, ◌-◌, Bool, true, false, Ok, List, [], ◌∷◌, ◌++◌, length, take, refl, sym, ap, ◌∙◌, Option, Some, None}
use Rattle.std.specs.Prelude.{is_some}
use Rattle.flat_base.specs.Last.{last_item}
use Rattle.flat_base.specs.declared.errors.Reason.{Reason}
use Rattle.flat_base.specs.declared.ids.SessionNo.{SessionNo}
use Rattle.flat_scene.specs.declared.calls.Call.{Call}
use Rattle.flat_scene.specs.declared.calls.Call.TheVariants.{CreateView, CreateViewport}
use Rattle.flat_scene.specs.declared.journal.EntryKind.{EntryKind}
use Rattle.flat_scene.specs.declared.journal.EntryKind.TheVariants.{Present, Get}
use Rattle.flat_scene.specs.declared.script.SessionLine.{SessionLine}
use Rattle.flat_scene.specs.declared.script.SessionLine.TheVariants as line
use Rattle.flat_scene.specs.declared.setup.Setup.{Setup}
use Rattle.flat_scene.specs.Draft.{Draft}
use Rattle.flat_scene.specs.Interleave.{entry_of_call, entry_of_line, get_tests, or_close}
use Rattle.flat_scene.specs.Misuse.{first_reason, misuse}
use Rattle.flat_scene.specs.Tree.{present_tests}
use Rattle.flat_draft.specs.Answers.{IsTried, uses_an_end}
use Rattle.flat_draft.specs.State.{DraftState}
use Rattle.flat_rules.specs.Owned.{is_played_line}
use Rattle.flat_session.specs.declared.session_reader.SessionReader.{SessionReader}
use Rattle.flat_session.specs.Reads.{Tells}
use Rattle.flat_session.proofs.lemmas.Entering.{last_call}
use Rattle.flat_session.proofs.lemmas.Standing.{all_but_one}
use Rattle.flat_session.proofs.lemmas.Tellings.{call_done}

-- ---- which lines make an entry

closes_or_enters : (misused : Option Reason) (kind : EntryKind) → is_some (or_close misused (Some kind)) ≡ true
closes_or_enters None kind = refl
closes_or_enters (Some reason) kind = refl

-- a line that is no call makes one
abbrev is_call : SessionLine → Bool
is_call (line.Call call) = true
is_call _ = false

pub others_enter : (setup : Setup) (draft : Draft) (text : SessionLine) → is_call text ≡ false → is_some (entry_of_line setup draft text) ≡ true
others_enter setup draft (line.Call call) other = absurd (cc)
others_enter setup draft (line.Present args) other = closes_or_enters (first_reason (present_tests draft args)) (Present args)
others_enter setup draft (line.Get get) other = closes_or_enters (first_reason (get_tests draft get)) (Get get)
others_enter setup draft (line.Signal f) other = refl
others_enter setup draft line.Poll other = refl
others_enter setup draft (line.Wait c) other = refl
others_enter setup draft line.Disconnect other = refl

-- so does a call that uses an end
pub ends_enter : (setup : Setup) (draft : Draft) (call : Call) → uses_an_end call ≡ true → is_some (entry_of_line setup draft (line.Call call)) ≡ true
ends_enter setup draft (CreateView pair) uses = closes_or_enters (misuse setup draft (CreateView pair)) _
ends_enter setup draft (CreateViewport c pair w h inset) uses = closes_or_enters (misuse setup draft (CreateViewport c pair w h inset)) _
ends_enter setup draft _ uses = absurd (cc)

-- and a misuse
pub misuse_enters : (setup : Setup) (draft : Draft) (call : Call) (reason : Reason) → misuse setup draft call ≡ Some reason
    → is_some (entry_of_line setup draft (line.Call call)) ≡ true
misuse_enters setup draft call reason is = ap (λ m. is_some (or_close m (entry_of_call call))) is

-- a private call that is done makes none
pub private_done : (setup : Setup) (s : SessionNo) (draft : Draft) (old new : DraftState) (call : Call) → uses_an_end call ≡ false
    → is_played_line setup s (line.Call call) ≡ true
    → IsTried setup draft call old new (Ok tt) → Tells setup s draft (line.Call call) new None
private_done setup s draft old new (CreateView pair) other played tried = absurd (cc)
private_done setup s draft old new (CreateViewport c pair w h inset) other played tried = absurd (cc)
private_done setup s draft old new call other played tried = call_done setup s draft old new call refl played tried

-- ---- a call that is put behind those that wait, and taken back

module _ (old pushed : List Call) (call : Call) (is : pushed ≡ old ++ call ∷ []) where
  pub last_is : (last : Call) → last_item pushed ≡ Some last → last ≡ call
  last_is last found = let both : Some last ≡ Some call = sym found ∙ ap last_item is ∙ last_call old call in cc

  pub taken_back : (rest : List Call) → rest ≡ take (length pushed - 1) pushed → rest ≡ old
  taken_back rest taken = taken ∙ ap (λ p. take (length p - 1) p) is ∙ all_but_one old call

-- a reader with the calls and the draft that it had
pub same_reader : (reader : SessionReader) (pending : List Call) (draft : DraftState) → pending ≡ reader.pending → draft ≡ reader.draft
    → record reader { pending = pending; draft = draft } ≡ reader
same_reader reader pending draft same_calls same_draft =
    ap (λ p. record reader { pending = p; draft = draft }) same_calls ∙ ap (λ d. record reader { draft = d }) same_draft
