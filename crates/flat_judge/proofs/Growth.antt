-- Histories that grow.
use Rattle.std.proofs.Common.{◌≡◌, ◌≤◌, Bool, true, false, List, [], ◌∷◌, ◌++◌, refl, sym, ap, ◌∙◌, subst, arith, append_assoc, true≢false}
use Rattle.flat_base.specs.declared.ids.Actor.{Actor}
use Rattle.flat_base.specs.declared.ids.Actor.TheVariants.{Display}
use Rattle.flat_scene.specs.declared.journal.Entry.{Entry}
use Rattle.flat_scene.specs.History.{◌▹◌}
use Rattle.flat_core.specs.Machines.{Machine, entry_of}
use Rattle.flat_rules.specs.Legal.{frames, reply_to}
use Rattle.flat_judge.specs.GuidedRuns.{DisplayGoes, Goes, Grown}
use Rattle.flat_judge.proofs.OneMore.{frames-upto}

pub grown-none : (old new : List Entry) → new ≡ old → Grown old new
grown-none old new same = record { more = []; is = same }

pub grown-on : (a b c : List Entry) → Grown a b → Grown b c → Grown a c
grown-on a b c first second = record {
  more = second.more ++ first.more;
  is = second.is ∙ ap (λ (es : List Entry). second.more ++ es) first.is ∙ sym (append_assoc second.more first.more a);
}

pub grown-goes : (who : Actor) (old new : Machine) (made : Bool) → Goes who old new made → Grown old.history new.history
grown-goes who old new false (Goes.stays same) = grown-none old.history new.history (ap (λ (m : Machine). m.history) same)
grown-goes who old new true (Goes.enters number carries kind reply aside is) =
    record { more = entry_of who number carries kind reply ∷ []; is = ap (λ (m : Machine). m.history) is }

pub grown-display : (old new : Machine) (made : Bool) → DisplayGoes old new made → Grown old.history new.history
grown-display old new false (DisplayGoes.stays same) = grown-none old.history new.history (ap (λ (m : Machine). m.history) same)
grown-display old new true (DisplayGoes.enters number kind is) =
    record { more = entry_of Display number [] kind (reply_to old.setup old.history Display [] kind) ∷ []; is = ap (λ (m : Machine). m.history) is }

pub frames-grown : (old new : List Entry) → Grown old new → frames old ≤ frames new
frames-grown old new grown = by grown.more new grown.is
  where
    by : (more new : List Entry) → new ≡ more ++ old → frames old ≤ frames new
    by [] new is = (let same : frames new ≡ frames old = ap frames is in omega (arith, same))
    by (e ∷ more) new is =
        let one : frames new ≡ frames ((more ++ old) ▹ e) = ap frames is in
        let less = by more (more ++ old) refl in
        let upto = frames-upto (more ++ old) e in
        omega (arith, one, less, upto)

pub display-stays : (old new : Machine) (made : Bool) → made ≡ false → DisplayGoes old new made → new ≡ old
display-stays old new false none (DisplayGoes.stays same) = same
display-stays old new true none (DisplayGoes.enters number kind is) = absurd (true≢false none)

-- what stays goes on as what it was
pub display-from : (first old new : Machine) (made : Bool) → old ≡ first → DisplayGoes old new made → DisplayGoes first new made
display-from first old new made same goes = let D : Machine → Type 0 = λ m. DisplayGoes m new made in subst D same goes
