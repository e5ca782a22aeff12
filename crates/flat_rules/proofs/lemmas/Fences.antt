-- A fence that may be signalled is declared.
use Rattle.std.proofs.Common.{◌≡◌, ◌<◌, ◌≤◌, Bool, true, false, length, refl, sym, ap, ◌∙◌, arith, Option}
use Rattle.std.specs.Prelude.{List, nat_lt, slice_get, unwrap_or, option_map}
use Rattle.std.specs.List.{list_any, list_all}
use Rattle.std.proofs.lemmas.Bool.Decides.{nat_tests}
use Rattle.std.proofs.lemmas.Option.{slice_get_past}
use Rattle.flat_base.specs.declared.ids.Actor.{Actor}
use Rattle.flat_base.specs.declared.ids.Actor.TheVariants.{Display, Session, Probe}
use Rattle.flat_base.specs.declared.ids.FenceNo.{FenceNo}
use Rattle.flat_base.proofs.lemmas.Tests.{and-left}
use Rattle.flat_scene.specs.declared.calls.Call.{Call}
use Rattle.flat_scene.specs.declared.journal.Entry.{Entry}
use Rattle.flat_scene.specs.declared.journal.EntryKind.TheVariants.{Signal}
use Rattle.flat_scene.specs.declared.setup.FenceDecl.{FenceDecl}
use Rattle.flat_scene.specs.declared.setup.Setup.{Setup}
use Rattle.flat_scene.specs.History.{is_display, is_session}
use Rattle.flat_rules.specs.Legal.{MayEnter, owns_fence, owns_in_call}

-- a fence of which some owner is known
fence-below : (setup : Setup) (test : Actor → Bool) (f : FenceNo)
    → unwrap_or (option_map (λ fence. list_any test fence.owners) (slice_get setup.fences f.0)) false ≡ true → f.0 < length setup.fences
fence-below setup test f owned = by_length (nat_lt f.0 (length setup.fences)) refl
  where
    by_length : (b : Bool) → nat_lt f.0 (length setup.fences) ≡ b → f.0 < length setup.fences
    by_length true at = grind (arith, nat_tests)
    by_length false at =
        let past : length setup.fences ≤ f.0 = grind (arith, nat_tests) in
        absurd (let wrong : false ≡ true = sym (ap (λ (o : Option FenceDecl). unwrap_or (option_map (λ fence. list_any test fence.owners) o) false)
        (slice_get_past setup.fences f.0 past)) ∙ owned in cc)

pub signal-declared : (setup : Setup) (before : List Entry) (who : Actor) (carries : List Call) (f : FenceNo) → MayEnter setup before who carries (Signal f)
    → f.0 < length setup.fences
signal-declared setup before Display carries f may = fence-below setup is_display f may.named
signal-declared setup before (Session s) carries f may =
    fence-below setup (is_session s) f (and-left (owns_fence setup s f) (list_all (owns_in_call setup s) carries) may.owned)
signal-declared setup before (Probe p) carries f may = absurd (let wrong : false ≡ true = may.acts in cc)
