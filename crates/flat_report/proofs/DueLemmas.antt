-- A frame takes what is due at its begin.
use Rattle.std.proofs.Common.{◌≡◌, ℕ, suc, ◌+◌, ◌<◌, Bool, true, false, cond, ◌||◌, List, [], ◌∷◌, ◌++◌, length, take_while, refl, subst, sym, arith}
use Rattle.std.specs.List.{list_all, list_any}
use Rattle.std.proofs.lemmas.Bool.{and_parts}
use Rattle.std.proofs.lemmas.List.Sums.{take_while-cons}
use Rattle.flat_base.specs.declared.ids.SessionNo.{SessionNo}
use Rattle.flat_scene.specs.declared.journal.Entry.{Entry}
use Rattle.flat_scene.specs.declared.journal.EntryKind.{EntryKind}
use Rattle.flat_scene.specs.declared.journal.EntryKind.TheVariants.{Begin}
use Rattle.flat_scene.specs.declared.setup.Setup.{Setup}
use Rattle.flat_scene.specs.Frames.{is_ready, is_signalled, is_unsquashable, ready_prefix, taken, takes, up_to_first, waiting}
use Rattle.flat_scene.specs.History.{◌▹◌, is_closed, Published}
use Rattle.flat_report.specs.Due.{IsDue}
use Rattle.flat_report.specs.Laws.{DuePresentsAreTaken}

neither : (a b : Bool) → (a || b) ≡ false → (a ≡ false) × (b ≡ false)
neither false b h = (refl, h)
neither true b h = absurd (let wrong : true ≡ false = h in cc)

module _ {A : Type 0} (ready unsquashable : A → Bool) where
  -- all before the first item that isn't ready, up to the first unsquashable one, goes beyond some that are ready and squashable
  taken-through : (earlier : List A) (x : A) (later : List A) → list_all ready (earlier ++ x ∷ []) ≡ true → list_any unsquashable earlier ≡ false
      → length earlier < length (up_to_first unsquashable (take_while ready (earlier ++ x ∷ later)))
  taken-through [] x later all none =
      let P : List A → Type 0 = λ ys. 0 < length (up_to_first unsquashable ys) in
      let Q : Bool → Type 0 = λ b. P (cond b (x ∷ take_while ready later) []) in
      let some : Q true = omega arith in
      subst P (sym (take_while-cons ready x later)) (subst Q (sym (and_parts (ready x) true all).0) some)
  taken-through (y ∷ earlier) x later all none =
      let first = and_parts (ready y) (list_all ready (earlier ++ x ∷ [])) all in
      let calm = neither (unsquashable y) (list_any unsquashable earlier) none in
      let beyond = taken-through earlier x later first.1 calm.1 in
      let rest : List A = take_while ready (earlier ++ x ∷ later) in
      let P : List A → Type 0 = λ ys. suc (length earlier) < length (up_to_first unsquashable ys) in
      let Q : Bool → Type 0 = λ b. P (cond b (y ∷ rest) []) in
      let R : Bool → Type 0 = λ b. suc (length earlier) < suc (length (cond b [] (up_to_first unsquashable rest))) in
      let some : R false = omega (arith, beyond) in
      let there : Q true = subst R (sym calm.0) some in
      subst P (sym (take_while-cons ready y (earlier ++ x ∷ later))) (subst Q (sym first.0) there)

due-taken : (setup : Setup) (before : List Entry) (entry : Entry) (time : ℕ) (s : SessionNo) (earlier : List Published) (present : Published)
    → entry.kind ≡ Begin time → IsDue setup before time s earlier present
    → taken setup before s + length earlier < taken setup (before ▹ entry) s
due-taken setup before entry time s earlier present is due =
    let through = taken-through (λ (p : Published). is_ready time (is_signalled setup before) p.args) is_unsquashable earlier present due.later due.ready
    due.squashable in
    let W : List Published → Type 0 = λ ps. taken setup before s + length earlier < taken setup before s + length
    (ready_prefix time (is_signalled setup before) ps) in
    let C : Bool → Type 0 = λ b. taken setup before s + length earlier < taken setup before s + length
    (cond b [] (ready_prefix time (is_signalled setup before) (waiting setup before s))) in
    let K : EntryKind → Type 0 = λ k. taken setup before s + length earlier < taken setup before s + length
    (takes k (is_signalled setup before) (is_closed s before) (waiting setup before s)) in
    let some : W (earlier ++ present ∷ due.later) = omega (arith, through) in
    subst K (sym is) (subst C (sym due.is_open) (subst W (sym due.waits) some))

pub due-presents-are-taken : DuePresentsAreTaken
due-presents-are-taken setup [] = tt
due-presents-are-taken setup (before ▹ entry) = (due-presents-are-taken setup before, due-taken setup before entry)
