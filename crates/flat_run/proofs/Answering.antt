-- What is answered to what a source gives, and what is written of it.
use Rattle.std.proofs.Common.{◌≡◌, ◌≢◌, ◌==◌, ◌||◌, ◌*◌, ◌≤◌, nat_lt, inl, inr, ◌⊎◌, ℕ, zero, suc, ◌<◌, Bool, true, false, List, [], ◌∷◌, ◌++◌, ap, ◌∙◌, length}
use Rattle.std.proofs.Common.{take, Option, Result, None, Some, Ok, Err, IfOk, IfSome, IsTrue, refl, sym, subst, arith, append-nil}
use Rattle.std.proofs.lemmas.Bool.{lt-ltb, eqb-true, eq-eqb}
use Rattle.std.proofs.lemmas.List.{append_cancel_right}
use Rattle.flat_base.specs.declared.limits.TheConstants.{SCRIPT_BYTES_MAX}
use Rattle.flat_io.specs.Counts.{has_risen}
use Rattle.flat_io.specs.Told.{Appends}
use Rattle.flat_io.specs.Whole.{AppendsPrefix}
use Rattle.flat_io.specs.Reads.{Given}
use Rattle.flat_scene.specs.declared.frames.FrameOut.{FrameOut}
use Rattle.flat_render.specs.declared.tile_grid.TheConstants.{PIXELS_MAX}
use Rattle.flat_places.specs.declared.script.Script.{Script}
use Rattle.flat_script.specs.declared.script.ScriptFault.{ScriptFault}
use Rattle.flat_stress.specs.Load.{load_text}
use Rattle.flat_words.specs.declared.service_word.ServiceWord.{ServiceWord}
use Rattle.flat_words.specs.declared.service_word.ServiceWord.TheVariants.{Play, Race, Stress, Render, Damage, Focus, Pointer, Judge, Why, Film}
use Rattle.flat_words.specs.Forms.{CallFor}
use Rattle.flat_run.specs.declared.reading.ParsedText.{ParsedText}
use Rattle.flat_run.specs.declared.given.Given.TheVariants as given
use Rattle.flat_run.specs.declared.given.Given as gave
use Rattle.flat_run.specs.Answering.{IsDenied, IsGiven, IsRead, IsScriptFor, IsTurnedAway}
use Rattle.flat_forms.specs.Body.{dones}
use Rattle.flat_run.specs.declared.given.TheConstants.{FILM_PIXELS_MAX}
use Rattle.flat_run.specs.Forms.{is_read, form_read, pixels, Fits}
use Rattle.flat_run.specs.Judging.{fault_line}
use Rattle.flat_run.specs.Promise.{large_line, CallForNothing, AreTextOf, AreGiven, AreAll, AreTooLarge, Refuses, IsRefused, IsTooLarge, Tells, IsTold}
use Rattle.flat_run.specs.Promise.{IsAnswer, IsWhole, IsCutOff, Gives, IsThere}
use Rattle.flat_places.specs.declared.kinds.FaultKind.TheVariants.{TooLong}

-- the form that was found is that of the words
pub called_for : (words : List (List ℕ)) (found : Option ServiceWord) (form : ServiceWord) → found ≡ Some form → IfSome found (λ f. CallFor words f)
    → CallFor words form
called_for words found form is holds = subst (λ (o : Option ServiceWord). IfSome o (λ f. CallFor words f)) is holds

-- where none was found, the words call for none
pub none_called : {E : Type 0} (words : List (List ℕ)) (answer : Result (Option ServiceWord) E) → answer ≡ Ok None
    → ((form : ServiceWord) → CallFor words form → IfOk answer (λ found. found ≡ Some form)) → CallForNothing words
none_called words answer is only form calls =
    let found : None ≡ Some form = subst (λ r. IfOk r (λ found. found ≡ Some form)) is (only form calls) in cc

-- ---- the bytes

-- a text that is too long is at fault as a whole, for each form
is_long : (bytes : List ℕ) → SCRIPT_BYTES_MAX < length bytes → nat_lt SCRIPT_BYTES_MAX (length bytes) ≡ true
is_long bytes long = lt-ltb SCRIPT_BYTES_MAX (length bytes) long

too_long : (form : ServiceWord) (bytes : List ℕ) → SCRIPT_BYTES_MAX < length bytes → form_read form bytes ≡ Err (record { line = 0; kind = TooLong })
too_long Play bytes long = rw (is_long bytes long) refl
too_long Race bytes long = rw (is_long bytes long) refl
too_long (Stress asked) bytes long = rw (is_long bytes long) refl
too_long Render bytes long = rw (is_long bytes long) refl
too_long Damage bytes long = rw (is_long bytes long) refl
too_long Focus bytes long = rw (is_long bytes long) refl
too_long Pointer bytes long = rw (is_long bytes long) refl
too_long Judge bytes long = rw (is_long bytes long) refl
too_long Why bytes long = rw (is_long bytes long) refl
too_long Film bytes long = rw (is_long bytes long) refl

-- a text that is longer than a limit
longer : (limit : ℕ) → (bytes : List ℕ) × (limit < length bytes)
longer zero = (0 ∷ [], omega arith)
longer (suc limit) = let one = longer limit in let long = one.1 in (0 ∷ one.0, omega (arith, long))

-- what was read whole is all
pub all_read : (left left' : Option (List ℕ)) (bytes : List ℕ) → Given left left' (λ given after. (given ≡ bytes) × (after ≡ [])) → AreAll bytes left left'
all_read left None bytes it = tt
all_read None (Some after) bytes it = absurd it
all_read (Some before) (Some after) bytes (given, is, same) = (is ∙ ap (λ rest. given ++ rest) same.1 ∙ append-nil given ∙ same.0, same.1)

-- what is all was given
all_given : (left left' : Option (List ℕ)) (bytes : List ℕ) → AreAll bytes left left' → AreGiven bytes left left'
all_given left None bytes it = tt
all_given None (Some after) bytes it = absurd it
all_given (Some before) (Some after) bytes (is, none) = is ∙ sym (append-nil bytes) ∙ ap (λ rest. bytes ++ rest) (sym none)

-- bytes that were read whole were given
pub whole_given : (left left' : Option (List ℕ)) (bytes : List ℕ) → Given left left' (λ given after. (given ≡ bytes) × (after ≡ []))
    → (given : List ℕ) × AreGiven given left left'
whole_given left left' bytes it = (bytes, all_given left left' bytes (all_read left left' bytes it))

-- as were those of a text that wasn't
pub part_given : (left left' : Option (List ℕ)) (P : List ℕ → List ℕ → Type 0) → Given left left' P → (given : List ℕ) × AreGiven given left left'
part_given left None P it = ([], tt)
part_given None (Some after) P it = absurd it
part_given (Some before) (Some after) P (given, is, holds) = (given, is)

-- nothing was read
pub none_given : (left left' : Option (List ℕ)) → left' ≡ left → (given : List ℕ) × AreGiven given left left'
none_given left left' same = subst (λ (l : Option (List ℕ)). (given : List ℕ) × AreGiven given left l) (sym same) (stays left)
  where
    stays : (left : Option (List ℕ)) → (given : List ℕ) × AreGiven given left left
    stays None = ([], tt)
    stays (Some bytes) = ([], refl)

-- some bytes are more than a script may have
too_many : (left left' : Option (List ℕ)) → Given left left' (λ given after. SCRIPT_BYTES_MAX < length given)
    → (bytes : List ℕ) × (SCRIPT_BYTES_MAX < length bytes) × AreGiven bytes left left'
too_many left None it = let one = longer SCRIPT_BYTES_MAX in (one.0, one.1, tt)
too_many None (Some after) it = absurd it
too_many (Some before) (Some after) (given, is, long) = (given, long, is)

-- the first bytes of a text were gained
pub part_gained : (text : List ℕ) (held held' : Option (List ℕ)) → AppendsPrefix text held held' → (more : List ℕ) × Appends more held held'
part_gained text held None part = ([], tt)
part_gained text None (Some after) part = absurd part
part_gained text (Some before) (Some after) (count, is) = (take count text, is)

-- ---- what is said twice

one_or : (a b : Bool) → (a || b) ≡ true → b ≢ true → a ≡ true
one_or true b either not_b = refl
one_or false b either not_b = absurd (not_b either)

-- a status that is no write fault is the one that was given
pub is_status : (result status : ℕ) → (result == status || result == 5) ≡ true → result ≢ 5 → result ≡ status
is_status result status either not_5 = eqb-true result status (one_or (result == status) (result == 5) either (λ yes. not_5 (eqb-true result 5 yes)))

pub answered_or_fault : (result status expected : ℕ) → (result == status || result == 5) ≡ true → status ≡ expected → (result ≡ 5 → ⊥)
    → (result == expected || result == 6) ≡ true
answered_or_fault result status expected either is not_5 =
    let same : result ≡ status = is_status result status either not_5 in
    ap (λ b. b || result == 6) (eq-eqb result expected (same ∙ is))

-- ---- where a script is there

-- the form of the words is the one that was found
pub one_form : (found : Option ServiceWord) (mine form : ServiceWord) → found ≡ Some mine → found ≡ Some form → form ≡ mine
one_form found mine form is only = cc

refuses_none : (form : ServiceWord) (bytes bytes' text : List ℕ) (reading : ParsedText) → form_read form bytes ≡ Ok reading → bytes ≡ bytes'
    → Refuses form bytes' text
    → ⊥
refuses_none form bytes bytes' text reading read same refuses =
    let both : Ok reading ≡ Err refuses.fault = sym read ∙ ap (form_read form) same ∙ refuses.read in
    cc

module _ (form : ServiceWord) (IsOfSort : Script → Type 0) (left left' : Option (List ℕ)) (failed failed' : ℕ)
    (gives : Gives form IsOfSort left left' failed failed')
  where
    -- what it gave is all that was read
    gives_all : (bytes : List ℕ) → AreAll bytes left left' → gives.given ≡ bytes
    gives_all bytes all =
        let P : Option (List ℕ) → Type 0 = λ l. AreAll bytes l left' in
        let Q : Option (List ℕ) → Type 0 = λ l. AreAll bytes (Some (gives.given ++ gives.after)) l in
        let both : AreAll bytes (Some (gives.given ++ gives.after)) (Some gives.after) = subst Q gives.after_is (subst P gives.before_is all) in
        sym (append-nil gives.given) ∙ ap (λ rest. gives.given ++ rest) (sym both.1) ∙ both.0

    -- or more than that
    gives_many : (bytes : List ℕ) → (SCRIPT_BYTES_MAX < length bytes) × AreGiven bytes left left' → gives.given ≡ bytes
    gives_many bytes many =
        let P : Option (List ℕ) → Type 0 = λ l. AreGiven bytes l left' in
        let Q : Option (List ℕ) → Type 0 = λ l. AreGiven bytes (Some (gives.given ++ gives.after)) l in
        let both : AreGiven bytes (Some (gives.given ++ gives.after)) (Some gives.after) = subst Q gives.after_is (subst P gives.before_is many.1) in
        append_cancel_right gives.given bytes gives.after both

    -- a source that gives a script isn't refused
    gives_no_fault : (text : List ℕ) → IsRefused form left left' text → ⊥
    gives_no_fault text refused = by_given refused.given
      where
        by_given : AreAll refused.bytes left left' ⊎ ((SCRIPT_BYTES_MAX < length refused.bytes) × AreGiven refused.bytes left left') → ⊥
        by_given (inl all) = refuses_none form gives.given refused.bytes text gives.reading gives.read (gives_all refused.bytes all) refused.refuses
        by_given (inr many) = refuses_none form gives.given refused.bytes text gives.reading gives.read (gives_many refused.bytes many) refused.refuses

    -- it is read as what it gives
    reads_it : (bytes : List ℕ) (reading : ParsedText) → AreAll bytes left left' → form_read form bytes ≡ Ok reading → gives.reading ≡ reading
    reads_it bytes reading all read =
        let both : Ok gives.reading ≡ Ok reading = sym gives.read ∙ ap (form_read form) (gives_all bytes all) ∙ read in
        cc

over : (limit size : ℕ) → size ≤ limit → limit < size → ⊥
over limit size most more = omega (arith, most, more)

too_large_to_fit : (form : ServiceWord) (script : Script) → Fits form script → IsTooLarge form script → ⊥
too_large_to_fit Render script fits large = over PIXELS_MAX (pixels script) fits large
too_large_to_fit Film script fits (inl large) = over PIXELS_MAX (pixels script) fits.0 large
too_large_to_fit Film script fits (inr large) = over FILM_PIXELS_MAX (dones script * pixels script) fits.1 large
too_large_to_fit Play script fits large = large
too_large_to_fit Race script fits large = large
too_large_to_fit (Stress asked) script fits large = large
too_large_to_fit Damage script fits large = large
too_large_to_fit Focus script fits large = large
too_large_to_fit Pointer script fits large = large
too_large_to_fit Judge script fits large = large
too_large_to_fit Why script fits large = large

-- a form that writes pictures reads a script
large_is_read : (form : ServiceWord) (script : Script) → IsTooLarge form script → is_read form ≡ true
large_is_read (Stress asked) script large = absurd large
large_is_read Play script large = refl
large_is_read Race script large = refl
large_is_read Render script large = refl
large_is_read Damage script large = refl
large_is_read Focus script large = refl
large_is_read Pointer script large = refl
large_is_read Judge script large = refl
large_is_read Why script large = refl
large_is_read Film script large = refl

-- what a form whose script is read has there
gives_of : (form : ServiceWord) (left left' : Option (List ℕ)) (failed failed' : ℕ) → is_read form ≡ true → IsThere form left left' failed failed'
    → Gives form (Fits form) left left' failed failed'
gives_of Play left left' failed failed' read there = there
gives_of Race left left' failed failed' read there = there
gives_of (Stress asked) left left' failed failed' read there = absurd (let wrong : false ≡ true = read in cc)
gives_of Render left left' failed failed' read there = there
gives_of Damage left left' failed failed' read there = there
gives_of Focus left left' failed failed' read there = there
gives_of Pointer left left' failed failed' read there = there
gives_of Judge left left' failed failed' read there = absurd there
gives_of Why left left' failed failed' read there = there
gives_of Film left left' failed failed' read there = there

-- no read failed, where one was made
pub there_no_read_fault : (form form' : ServiceWord) (left left' : Option (List ℕ)) (failed failed' : ℕ) → form' ≡ form → IsThere form left left' failed failed'
    → is_read form' ≡ true → IsTrue (has_risen failed failed') → ⊥
there_no_read_fault form form' left left' failed failed' same there read risen =
    let gives = gives_of form left left' failed failed' (sym (ap is_read same) ∙ read) there in
    let both : true ≡ false = sym risen ∙ gives.steady in cc

pub large_no_read_fault : (form : ServiceWord) (left left' : Option (List ℕ)) (failed failed' : ℕ) → Gives form (IsTooLarge form) left left' failed failed'
    → IsTrue (has_risen failed failed') → ⊥
large_no_read_fault form left left' failed failed' there risen = let both : true ≡ false = sym risen ∙ there.steady in cc

-- ---- what is answered

-- the text of a script that is read is all that was read
pub text_of : (form : ServiceWord) → is_read form ≡ true → (left left' : Option (List ℕ)) (bytes : List ℕ) → AreAll bytes left left'
    → AreTextOf form left left' bytes
text_of (Stress asked) read left left' bytes all = absurd (let wrong : false ≡ true = read in cc)
text_of Play read left left' bytes all = all
text_of Race read left left' bytes all = all
text_of Render read left left' bytes all = all
text_of Damage read left left' bytes all = all
text_of Focus read left left' bytes all = all
text_of Pointer read left left' bytes all = all
text_of Judge read left left' bytes all = all
text_of Why read left left' bytes all = all
text_of Film read left left' bytes all = all

-- ---- what is refused

-- a text with a fault
pub denied : (form : ServiceWord) (bytes : List ℕ) (fault : ScriptFault) → form_read form bytes ≡ Err fault → (status : ℕ) (text : List ℕ) → status ≡ 3
    → text ≡ fault_line fault → IsDenied form bytes status text
denied form bytes fault read status text is_3 is = subst (λ n. IsDenied form bytes n text) (sym is_3)
    (IsDenied.refusal (record { fault = fault; read = read; is = is }))

-- a script whose display is too large
pub denied_large : (form : ServiceWord) (bytes : List ℕ) (reading : ParsedText) → form_read form bytes ≡ Ok reading → IsTooLarge form reading.script
    → (status : ℕ) (text : List ℕ) → status ≡ 7 → text ≡ large_line → IsDenied form bytes status text
denied_large form bytes reading read is status text is_7 text_is =
    let large : AreTooLarge form bytes = record { reading = reading; read = read; large = is } in
    subst (λ n. IsDenied form bytes n text) (sym is_7) (subst (λ t. IsDenied form bytes 7 t) (sym text_is) (IsDenied.too_large large))

-- what was read whole is all that a source gave
pub whole_is_given : (form : ServiceWord) (left left' : Option (List ℕ)) (bytes bytes' : List ℕ) (given : gave.Given) → bytes ≡ bytes'
    → Given left left' (λ given after. (given ≡ bytes') × (after ≡ [])) → IsRead form bytes given → IsGiven form left left' given
whole_is_given form left left' bytes bytes' (given.Script reading) same it read =
    let P : List ℕ → Type 0 = λ b. IsScriptFor form b reading in
    (bytes', all_read left left' bytes' it, subst P same read)
whole_is_given form left left' bytes bytes' (given.Refused answer) same it read =
    let P : List ℕ → Type 0 = λ b. IsDenied form b answer.status answer.text in
    by answer.status answer.text (subst P same read)
  where
    by : (status : ℕ) (text : List ℕ) → IsDenied form bytes' status text → IsTurnedAway form left left' status text
    by status text (IsDenied.refusal refuses) = IsTurnedAway.refusal (record { bytes = bytes'; given = inl (all_read left left' bytes' it); refuses = refuses })
    by status text (IsDenied.too_large large) = IsTurnedAway.too_large bytes' (all_read left left' bytes' it) large

-- more bytes than a script may have
pub long_is_refused : (form : ServiceWord) (left left' : Option (List ℕ)) → Given left left' (λ given after. SCRIPT_BYTES_MAX < length given)
    → (status : ℕ) (text : List ℕ) → status ≡ 3 → text ≡ fault_line (record { line = 0; kind = TooLong }) → IsTurnedAway form left left' status text
long_is_refused form left left' it status text is_3 is =
    let many = too_many left left' it in
    subst (λ n. IsTurnedAway form left left' n text) (sym is_3)
    (IsTurnedAway.refusal (record {
      bytes = many.0;
      given = inr (many.1, many.2);
      refuses = record { fault = record { line = 0; kind = TooLong }; read = too_long form many.0 many.1; is = is };
    }))

-- What displays tell, and how a call found and left them.
module _ {D : Type 0} (shown : D → Option (List FrameOut)) (faults : D → ℕ) (olds news : List D) where
  module _ (words : List (List ℕ)) (left left' : Option (List ℕ)) where
    -- what a source gave was refused
    pub turned_away : (form : ServiceWord) → is_read form ≡ true → CallFor words form → (status : ℕ) (text : List ℕ) → news ≡ olds
        → IsTurnedAway form left left' status text → IsAnswer shown faults olds news words left left' status text
    turned_away form read calls status text same (IsTurnedAway.refusal refused) = IsAnswer.refusal form calls read refused same
    turned_away form read calls status text same (IsTurnedAway.too_large bytes all large) = IsAnswer.too_large form bytes calls all large same

    -- what it gave was run
    pub read_told : (form : ServiceWord) → is_read form ≡ true → CallFor words form → (bytes : List ℕ) → AreAll bytes left left' → (status : ℕ) (text : List ℕ)
        → status ≡ 0 → IsTold shown faults olds news form bytes text → IsAnswer shown faults olds news words left left' status text
    read_told form read calls bytes all status text is_0 told =
        subst (λ n. IsAnswer shown faults olds news words left left' n text) (sym is_0)
        (IsAnswer.told form bytes calls (text_of form read left left' bytes all) told)

    -- a load
    pub load_told : (asked status : ℕ) (text : List ℕ) → CallFor words (Stress asked) → status ≡ 0
        → IsTold shown faults olds news (Stress asked) (load_text asked) text → IsAnswer shown faults olds news words left left' status text
    load_told asked status text calls is_0 told = subst (λ n. IsAnswer shown faults olds news words left left' n text) (sym is_0)
        (IsAnswer.told (Stress asked) (load_text asked) calls refl told)

    -- ---- what is written

    module _ (held held' : Option (List ℕ)) (status result : ℕ) (text : List ℕ) (is : IsAnswer shown faults olds news words left left' status text) where
      pub text_whole : (result ≡ status → Appends text held held') → (result == status || result == 5) ≡ true → result ≢ 5
          → IsWhole shown faults olds news words left left' held held' result
      text_whole whole either not_5 =
          let same : result ≡ status = is_status result status either not_5 in
          record { text = text; is = subst (λ n. IsAnswer shown faults olds news words left left' n text) (sym same) is; whole = whole same }

      pub text_cut_off : AppendsPrefix text held held' → IsCutOff shown faults olds news words left left' held held'
      text_cut_off part = record { status = status; text = text; is = is; part = part }

    -- ---- where a script is there

    -- then nothing but what ran is told
    pub only_told : (form : ServiceWord) (failed failed' : ℕ) → CallFor words form → ((f : ServiceWord) → CallFor words f → f ≡ form)
        → IsThere form left left' failed failed'
        → (status : ℕ) (text : List ℕ) → IsAnswer shown faults olds news words left left' status text → status ≡ 0
    only_told form failed failed' calls one there status text (IsAnswer.usage nothing same) = absurd (nothing form calls)
    only_told form failed failed' calls one there status text (IsAnswer.refusal form' calls' read refused same) =
        let is : form' ≡ form = one form' calls' in
        absurd (gives_no_fault form (Fits form) left left' failed failed' (gives_of form left left' failed failed' (sym (ap is_read is) ∙ read) there) text
        (subst (λ f. IsRefused f left left' text) is refused))
    only_told form failed failed' calls one there status text (IsAnswer.too_large form' bytes calls' all large same) =
        let here : IsThere form' left left' failed failed' = subst (λ f. IsThere f left left' failed failed') (sym (one form' calls')) there in
        let gives : Gives form' (Fits form') left left' failed failed' =
        gives_of form' left left' failed failed' (large_is_read form' large.reading.script large.large) here in
        let reads : gives.reading ≡ large.reading = reads_it form' (Fits form') left left' failed failed' gives bytes large.reading all large.read in
        let fits : Fits form' large.reading.script = subst (λ (r : ParsedText). Fits form' r.script) reads gives.sort in
        absurd (too_large_to_fit form' large.reading.script fits large.large)
    only_told form failed failed' calls one there status text (IsAnswer.judged bytes calls' all is same) =
        absurd (subst (λ f. IsThere f left left' failed failed') (sym (one Judge calls')) there)
    only_told form failed failed' calls one there status text (IsAnswer.told form' bytes calls' of told) = refl

    -- or that a picture would be too large
    pub only_large : (form : ServiceWord) (failed failed' : ℕ) → CallFor words form → ((f : ServiceWord) → CallFor words f → f ≡ form)
        → Gives form (IsTooLarge form) left left' failed failed'
        → (status : ℕ) (text : List ℕ) → IsAnswer shown faults olds news words left left' status text → status ≡ 7
    only_large form failed failed' calls one there status text (IsAnswer.usage nothing same) = absurd (nothing form calls)
    only_large form failed failed' calls one there status text (IsAnswer.refusal form' calls' read refused same) =
        absurd (gives_no_fault form (IsTooLarge form) left left' failed failed' there text
        (subst (λ f. IsRefused f left left' text) (one form' calls') refused))
    only_large form failed failed' calls one there status text (IsAnswer.too_large form' bytes calls' all large same) = refl
    only_large form failed failed' calls one there status text (IsAnswer.judged bytes calls' all is same) =
        absurd (subst (λ f. IsTooLarge f there.reading.script) (sym (one Judge calls')) there.sort)
    only_large form failed failed' calls one there status text (IsAnswer.told form' bytes calls' of told) =
        let is : form' ≡ form = one form' calls' in
        let of_form : AreTextOf form left left' bytes = subst (λ f. AreTextOf f left left' bytes) is of in
        let all : AreAll bytes left left' = all_of form (large_is_read form there.reading.script there.sort) bytes of_form in
        let tells : Tells form bytes text = subst (λ f. Tells f bytes text) is told.0 in
        let reads : there.reading ≡ tells.ran.reading = reads_it form (IsTooLarge form) left left' failed failed' there bytes tells.ran.reading all
        tells.read in
        let large : IsTooLarge form tells.ran.reading.script = subst (λ (r : ParsedText). IsTooLarge form r.script) reads there.sort in
        absurd (too_large_to_fit form tells.ran.reading.script tells.has_run.fits large)
      where
        all_of : (f : ServiceWord) → is_read f ≡ true → (bs : List ℕ) → AreTextOf f left left' bs → AreAll bs left left'
        all_of (Stress asked) read bs it = absurd (let wrong : false ≡ true = read in cc)
        all_of Play read bs it = it
        all_of Race read bs it = it
        all_of Render read bs it = it
        all_of Damage read bs it = it
        all_of Focus read bs it = it
        all_of Pointer read bs it = it
        all_of Judge read bs it = it
        all_of Why read bs it = it
        all_of Film read bs it = it
