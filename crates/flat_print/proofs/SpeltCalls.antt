-- What is said of a call's words: they are those that it was read from, or some that are read as it.
use Rattle.std.proofs.Common.{◌≡◌, List}
use Rattle.std.proofs.Common.{Ok}
use Rattle.flat_base.specs.declared.ids.SessionNo.{SessionNo}
use Rattle.flat_scene.specs.declared.calls.Call.{Call}
use Rattle.flat_forms.specs.declared.calls.CallName.{CallName}
use Rattle.flat_places.specs.declared.script.Script.{Script}
use Rattle.flat_places.specs.Forms.{Word, whole}
use Rattle.flat_forms.specs.Calls.{call_form}
use Rattle.flat_print.specs.Print.{call_fields, call_name}
use Rattle.flat_forms.proofs.lemmas.FormLemmas.{Shown, shown_whole}

-- what a call was read from are its name and its fields
pub record Spelt (s : Script) (name : CallName) (words : List Word) (c : Call) : Type 0 where
  pub fields : call_fields s c ≡ words
  pub named : call_name c ≡ name

-- a call's name, and its fields, which are read as it
pub record ShownCall (s : Script) (o : SessionNo) (name : CallName) (words : List Word) (c : Call) : Type 0 where
  pub fields : Shown (whole (call_form s o name)) (call_fields s c) words c
  pub named : call_name c ≡ name

abbrev pub CallShown : Script → SessionNo → CallName → Type 0
CallShown s o n = (words : List Word) (c : Call) → whole (call_form s o n) words ≡ Ok c → ShownCall s o n words c

pub in_full : (s : Script) (o : SessionNo) (n : CallName) → ((words : List Word) (c : Call) → whole (call_form s o n) words ≡ Ok c → Spelt s n words c)
    → CallShown s o n
in_full s o n spelt words c is =
    let full = spelt words c is in
    record { fields = shown_whole (whole (call_form s o n)) (call_fields s c) words c full.fields is; named = full.named }
