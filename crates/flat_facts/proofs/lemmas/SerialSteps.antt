-- What an entry does to the serial of a pair's last use, and what frames have seen of that use.
use Rattle.std.proofs.Common.{◌≡◌, ◌∙◌, sym, subst, ℕ, ◌+◌, ◌-◌, ◌≤◌, ◌<◌, Bool, true, false, cond, List, [], ◌∷◌, ◌++◌, length, refl, arith, ap, Some, None}
use Rattle.std.proofs.Common.{length-append, inl, inr, ◌⊎◌}
use Rattle.std.specs.Prelude.{◌==◌, nat_le, Option, option_and_then, option_map, unwrap_or, slice_get, filter_map}
use Rattle.std.specs.Result.{result_ok}
use Rattle.std.proofs.lemmas.Bool.Decides.{nat_tests}
use Rattle.std.proofs.lemmas.List.{append-nil, append_assoc}
use Rattle.flat_base.specs.declared.errors.Reason.TheVariants.{Cycle, TreeTooLarge}
use Rattle.flat_base.specs.declared.ids.PairNo.{PairNo}
use Rattle.flat_base.specs.declared.ids.SessionNo.{SessionNo}
use Rattle.flat_scene.specs.declared.calls.Call.{Call}
use Rattle.flat_scene.specs.declared.calls.Call.TheVariants.{CreateViewport}
use Rattle.flat_scene.specs.declared.calls.ViewportProps.{ViewportProps}
use Rattle.flat_scene.specs.declared.journal.Entry.{Entry}
use Rattle.flat_scene.specs.declared.setup.Setup.{Setup}
use Rattle.flat_scene.specs.declared.trees.Children.{Children}
use Rattle.flat_scene.specs.declared.trees.Tree.{Tree}
use Rattle.flat_scene.specs.Draft.{Draft, of_serial}
use Rattle.flat_scene.specs.Effect.{draft_of}
use Rattle.flat_scene.specs.Frames.{taken}
use Rattle.flat_scene.specs.History.{◌▹◌, own, calls, closes, is_closed, is_session, presents, published, Published}
use Rattle.flat_scene.specs.Misuse.{first_reason}
use Rattle.flat_scene.specs.Tree.{tree, tree_tests, all_nodes, is_too_large, is_cyclic, head_of, use_of}
use Rattle.flat_scene.proofs.lemmas.Presented.{tree-of-tested}
use Rattle.flat_scene.proofs.lemmas.Steps.{presents-own, presents-other}
use Rattle.flat_base.proofs.lemmas.Tests.{and-left}
use Rattle.flat_rules.specs.Ends.{viewport_uses, props_of, taken_calls}
use Rattle.flat_rules.specs.Legal.{Legal, owns_viewport, makes_viewport, all_but_last}
use Rattle.flat_facts.specs.Lives.{made_of_pair}
use Rattle.flat_rules.specs.Serials.{makes_content, contents_made, serials_in, IsUseSerial, props_at_serial}
use Rattle.flat_rules.specs.Shown.{is_pair, last_taken, tree_of}
use Rattle.flat_rules.specs.Stamps.{made_by}
use Rattle.flat_facts.proofs.lemmas.Earlier.{Begins, begins-more, IsEarlier, calls-taken, taken-fits, legal-earlier}
use Rattle.flat_facts.proofs.lemmas.LiveCounts.{made-append}
use Rattle.flat_facts.proofs.lemmas.Serials.{serials-append, contents-append, serials-count, use-props}
use Rattle.flat_facts.proofs.lemmas.ShownFits.{MaySound, found-sound, presents-sound}
use Rattle.flat_rules.proofs.lemmas.ShownSteps.{serial-append, closed-before}
use Rattle.flat_facts.proofs.lemmas.StampSteps.{not-presented}
use Rattle.flat_facts.proofs.lemmas.Uses.{uses-other, uses-own, uses-made}
use Rattle.flat_facts.proofs.lemmas.ViewCalls.{split-last}
use Rattle.flat_facts.proofs.lemmas.ViewHistory.{published-made}
use Rattle.flat_facts.proofs.lemmas.ViewLaw.{made_at, MadeOf, made-earlier, le-or-lt}
use Rattle.flat_rules.proofs.lemmas.ListLemmas.{serial-within, serial-beyond}
use Rattle.flat_facts.proofs.LowTrees.{second_none}

-- ---- the calls up to a present are the first of all calls

begins-of : (ps more : List Published) (cs carries : List Call) (n : ℕ) → MadeOf ps more (cs ++ carries) → n ≤ length (ps ++ more)
    → (n ≤ length ps → Begins (made_at ps n) cs) → Begins (made_at (ps ++ more) n) (cs ++ carries)
begins-of ps more cs carries n made fits before = by_place (le-or-lt n (length ps))
  where
    by_place : (n ≤ length ps) ⊎ (length ps < n) → Begins (made_at (ps ++ more) n) (cs ++ carries)
    by_place (inl few) =
        subst (λ (xs : List Call). Begins xs (cs ++ carries)) (sym (made-earlier ps more n few))
        (begins-more (made_at ps n) cs carries (cs ++ carries) (before few) refl)
    by_place (inr past) = subst (λ (xs : List Call). Begins xs (cs ++ carries)) (sym (made n past fits))
        (record { more = []; is = sym (append-nil (cs ++ carries)) })

calls-own : (s : SessionNo) (h : List Entry) (e : Entry) → is_session s e.actor ≡ true → calls s (h ▹ e) ≡ calls s h ++ e.calls
calls-own s h e mine = rw mine refl

calls-other : (s : SessionNo) (h : List Entry) (e : Entry) → is_session s e.actor ≡ false → calls s (h ▹ e) ≡ calls s h
calls-other s h e other = rw other refl

pub made-begins : (s : SessionNo) (h : List Entry) (n : ℕ) → n ≤ length (presents s h) → Begins (made_by s h n) (calls s h)
made-begins s [] n fits = record { more = []; is = refl }
made-begins s (h ▹ e) n fits = by_owner (λ few. made-begins s h n few) (is_session s e.actor) refl
  where
    by_owner : (n ≤ length (presents s h) → Begins (made_by s h n) (calls s h)) → (b : Bool) → is_session s e.actor ≡ b
        → Begins (made_by s (h ▹ e) n) (calls s (h ▹ e))
    by_owner before false other =
        let same : presents s (h ▹ e) ≡ presents s h = presents-other s h e other in
        let few : n ≤ length (presents s h) = omega (arith, fits, ap (length {A = Published}) same) in
        subst (λ (xs : List Call). Begins (made_by s (h ▹ e) n) xs) (sym (calls-other s h e other))
        (subst (λ (ps : List Published). Begins (made_at ps n) (calls s h)) (sym same) (before few))
    by_owner before true mine =
        let more : List Published = published e.kind e.reply (calls s h ++ e.calls) in
        let is : presents s (h ▹ e) ≡ presents s h ++ more = presents-own s h e mine in
        let few : n ≤ length (presents s h ++ more) = omega (arith, fits, ap (length {A = Published}) is) in
        subst (λ (xs : List Call). Begins (made_by s (h ▹ e) n) xs) (sym (calls-own s h e mine))
        (subst (λ (ps : List Published). Begins (made_at ps n) (calls s h ++ e.calls)) (sym is)
        (begins-of (presents s h) more (calls s h) e.calls n (published-made e.kind e.reply (presents s h) (calls s h ++ e.calls)) few before))

-- ---- what has the serial

-- The n-th viewport of a pair has this serial, where there are so many contents.
abbrev pub Has : PairNo → ℕ → ℕ → List Call → Type 0
Has p n serial cs = of_serial (serials_in p 1 (contents_made cs)) n ≡ cond (nat_le serial (length (contents_made cs))) (Some serial) None

-- calls that have it go on to have it
pub has-more : (p : PairNo) (n serial : ℕ) (cs more : List Call) → of_serial (serials_in p 1 (contents_made cs)) n ≡ Some serial
    → serial ≤ length (contents_made cs)
    → (of_serial (serials_in p 1 (contents_made (cs ++ more))) n ≡ Some serial) × (serial ≤ length (contents_made (cs ++ more)))
has-more p n serial cs more at fits =
    let all : contents_made (cs ++ more) ≡ contents_made cs ++ contents_made more = contents-append cs more in
    let serials : serials_in p 1 (contents_made (cs ++ more)) ≡ serials_in p 1 (contents_made cs)
    ++ serials_in p (1 + length (contents_made cs)) (contents_made more) =
    ap (serials_in p 1) all ∙ serials-append p 1 (contents_made cs) (contents_made more) in
    let long : length (contents_made (cs ++ more)) ≡ length (contents_made cs) + length (contents_made more) =
    ap (length {A = Option PairNo}) all ∙ length-append (contents_made cs) (contents_made more) in (
      ap (λ (l : List ℕ). of_serial l n) serials ∙ serial-append (serials_in p 1 (contents_made cs))
          (serials_in p (1 + length (contents_made cs)) (contents_made more)) n (serial-within (serials_in p 1 (contents_made cs)) n serial at) ∙ at,
      omega (arith, fits, long),
    )

has-some : (p : PairNo) (n serial : ℕ) (cs : List Call) → (of_serial (serials_in p 1 (contents_made cs)) n ≡ Some serial) × (serial ≤ length (contents_made cs))
    → Has p n serial cs
has-some p n serial cs both = let fits : nat_le serial (length (contents_made cs)) ≡ true = fits_is both.1 in both.0 ∙ sym (rw fits refl)
  where
    fits_is : serial ≤ length (contents_made cs) → nat_le serial (length (contents_made cs)) ≡ true
    fits_is few = grind (arith, nat_tests)

-- fewer calls don't have it, where they made fewer viewports of the pair and fewer contents
has-none : (p : PairNo) (n serial : ℕ) (cs : List Call) → made_of_pair p cs < n → length (contents_made cs) < serial → Has p n serial cs
has-none p n serial cs few short =
    let over : nat_le serial (length (contents_made cs)) ≡ false = over_is short in
    serial-beyond (serials_in p 1 (contents_made cs)) n (omega (arith, few, serials-count p 1 cs)) ∙ sym (rw over refl)
  where
    over_is : length (contents_made cs) < serial → nat_le serial (length (contents_made cs)) ≡ false
    over_is short' = grind (arith, nat_tests)

-- ---- one entry more

module _ (setup : Setup) (s : SessionNo) (p : PairNo) (owned : owns_viewport setup s p ≡ true) (h : List Entry) (e : Entry) (legal : Legal setup (h ▹ e)) where
  abbrev uses : List Entry → ℕ
  uses k = length (viewport_uses p k)

  -- another's entry
  pub serial-other : is_session s e.actor ≡ false → (serial : ℕ) → IsUseSerial p s h serial → IsUseSerial p s (h ▹ e) serial
  serial-other other serial old =
      let same : presents s (h ▹ e) ≡ presents s h = presents-other s h e other in
      let n : uses (h ▹ e) ≡ uses h = ap (length {A = Entry}) (uses-other setup s p owned h e legal.1 other) in
      let P : List Published → ℕ → Type 0 = λ ps u. (k : ℕ) → k ≤ length ps → Has p u serial (made_at ps k) in
      let Q : List Call → ℕ → Type 0 = λ cs u. (of_serial (serials_in p 1 (contents_made cs)) u ≡ Some serial) × (serial ≤ length (contents_made cs)) in
      record {
        tells = subst (λ (u : ℕ). P (presents s (h ▹ e)) u) (sym n) (subst (λ (ps : List Published). P ps (uses h)) (sym same) old.tells);
        opened = λ o.
            let before = old.opened (closed-before (is_session s e.actor) e (own s h) o) in
            subst (λ (u : ℕ). Q (calls s (h ▹ e)) u) (sym n) (subst (λ (cs : List Call). Q cs (uses h)) (sym (calls-other s h e other)) before);
      }

  more-tells : (serial u : ℕ) (ps more : List Published) (all : List Call) → MadeOf ps more all → ((k : ℕ) → k ≤ length ps → Has p u serial (made_at ps k))
      → (length ps < length (ps ++ more) → Has p u serial all)
      → (k : ℕ) → k ≤ length (ps ++ more) → Has p u serial (made_at (ps ++ more) k)
  more-tells serial u ps more all made before now k fits = by_place (le-or-lt k (length ps))
    where
      by_place : (k ≤ length ps) ⊎ (length ps < k) → Has p u serial (made_at (ps ++ more) k)
      by_place (inl few) = subst (Has p u serial) (sym (made-earlier ps more k few)) (before k few)
      by_place (inr past) = subst (Has p u serial) (sym (made k past fits)) (now (omega (arith, past, fits)))

  -- its own entry that is no use of the pair, and closes nothing
  pub serial-own : is_session s e.actor ≡ true → closes e.reply ≡ false → is_closed s h ≡ false → uses (h ▹ e) ≡ uses h → (serial : ℕ)
      → IsUseSerial p s h serial → IsUseSerial p s (h ▹ e) serial
  serial-own mine stays open_before n serial old =
      let all : List Call = calls s h ++ e.calls in
      let more : List Published = published e.kind e.reply all in
      let P : List Published → ℕ → Type 0 = λ ps u. (k : ℕ) → k ≤ length ps → Has p u serial (made_at ps k) in
      let Q : List Call → ℕ → Type 0 = λ cs u. (of_serial (serials_in p 1 (contents_made cs)) u ≡ Some serial) × (serial ≤ length (contents_made cs)) in
      let was = old.opened open_before in
      let now : Q all (uses h) = has-more p (uses h) serial (calls s h) e.calls was.0 was.1 in
      let here : P (presents s h ++ more) (uses h) =
      more-tells serial (uses h) (presents s h) more all (published-made e.kind e.reply (presents s h) all) old.tells
      (λ some. has-some p (uses h) serial all now) in
      record {
        tells = subst (λ (u : ℕ). P (presents s (h ▹ e)) u) (sym n) (subst (λ (ps : List Published). P ps (uses h)) (sym (presents-own s h e mine)) here);
        opened = λ o. subst (λ (u : ℕ). Q (calls s (h ▹ e)) u) (sym n) (subst (λ (cs : List Call). Q cs (uses h)) (sym (calls-own s h e mine)) now);
      }

  -- one that closes the session
  pub serial-closing : is_session s e.actor ≡ true → closes e.reply ≡ true → uses (h ▹ e) ≡ uses h → (serial : ℕ) → IsUseSerial p s h serial
      → IsUseSerial p s (h ▹ e) serial
  serial-closing mine is n serial old =
      let same : presents s (h ▹ e) ≡ presents s h = presents-own s h e mine
      ∙ ap (λ (l : List Published). presents s h ++ l) (not-presented e.kind e.reply (calls s h ++ e.calls) is) ∙ append-nil (presents s h) in
      let P : List Published → ℕ → Type 0 = λ ps u. (k : ℕ) → k ≤ length ps → Has p u serial (made_at ps k) in
      let shut : is_closed s (h ▹ e) ≡ true = rw (mine, is) refl in
      record {
        tells = subst (λ (u : ℕ). P (presents s (h ▹ e)) u) (sym n) (subst (λ (ps : List Published). P ps (uses h)) (sym same) old.tells);
        opened = λ o. let wrong : true ≡ false = sym shut ∙ o in cc;
      }

  -- ---- a new use

  last-call : (props : ViewportProps) (call : Call) → makes_viewport p props (Some call) ≡ true
      → (q : PairNo) × ((makes_content call ≡ Some q ∷ []) × ((q.0 == p.0) ≡ true))
  last-call props (CreateViewport c q w x inset) is = (q, (refl, and-left (q.0 == p.0) _ (and-left _ _ (and-left _ _ is))))
  last-call props _ is = cc

  last-serial : (xs : List ℕ) (x : ℕ) → of_serial (xs ++ x ∷ []) (length xs + 1) ≡ Some x
  last-serial [] x = refl
  last-serial (y ∷ ys) x =
      let more : (length (y ∷ ys) + 1 == 1) ≡ false = grind (arith, nat_tests) in
      let less : length (y ∷ ys) + 1 - 1 ≡ length ys + 1 = omega arith in
      rw (more, less) (last-serial ys x)

  -- the viewport that is made last has the last serial
  made-new : (props : ViewportProps) (carries : List Call) (last : Option Call) → slice_get carries (length carries - 1) ≡ last
      → makes_viewport p props last ≡ true
      → of_serial (serials_in p 1 (contents_made (calls s h ++ carries))) (made_of_pair p (calls s h ++ carries))
      ≡ Some (length (contents_made (calls s h ++ carries)))
  made-new props carries None at is = cc
  made-new props carries (Some call) at is =
      let one = last-call props call is in
      let first : List Call = calls s h ++ all_but_last carries in
      let xs : List (Option PairNo) = contents_made first in
      let split : calls s h ++ carries ≡ first ++ call ∷ [] =
      ap (λ (l : List Call). calls s h ++ l) (split-last carries call at) ∙ sym (append_assoc (calls s h) (all_but_last carries) (call ∷ [])) in
      let content : contents_made (call ∷ []) ≡ Some one.0 ∷ [] = append-nil (makes_content call) ∙ one.1.0 in
      let all : contents_made (calls s h ++ carries) ≡ xs ++ Some one.0 ∷ [] =
      ap contents_made split ∙ contents-append first (call ∷ []) ∙ ap (λ (l : List (Option PairNo)). xs ++ l) content in
      let mine : is_pair (Some one.0) p ≡ true = one.1.1 in
      let end : serials_in p (1 + length xs) (Some one.0 ∷ []) ≡ (1 + length xs) ∷ [] = rw mine refl in
      let serials : serials_in p 1 (contents_made (calls s h ++ carries)) ≡ serials_in p 1 xs ++ (1 + length xs) ∷ [] =
      ap (serials_in p 1) all ∙ serials-append p 1 xs (Some one.0 ∷ []) ∙ ap (λ (l : List ℕ). serials_in p 1 xs ++ l) end in
      let count : length (serials_in p 1 (contents_made (calls s h ++ carries))) ≡ made_of_pair p (calls s h ++ carries) =
      serials-count p 1 (calls s h ++ carries) in
      let long : length (serials_in p 1 (contents_made (calls s h ++ carries))) ≡ length (serials_in p 1 xs) + 1 =
      ap (length {A = ℕ}) serials ∙ length-append (serials_in p 1 xs) ((1 + length xs) ∷ []) in
      let n : made_of_pair p (calls s h ++ carries) ≡ length (serials_in p 1 xs) + 1 = sym count ∙ long in
      let m : length (contents_made (calls s h ++ carries)) ≡ 1 + length xs =
      ap (length {A = Option PairNo}) all ∙ length-append xs (Some one.0 ∷ []) ∙ omega arith in
      ap (λ (l : List ℕ). of_serial l (made_of_pair p (calls s h ++ carries))) serials
      ∙ ap (λ (k : ℕ). of_serial (serials_in p 1 xs ++ (1 + length xs) ∷ []) k) n ∙ last-serial (serials_in p 1 xs) (1 + length xs)
      ∙ ap (λ (k : ℕ). let o : Option ℕ = Some k in o) (sym m)

  made-begins-more : (cs more all : List Call) → all ≡ cs ++ more
      → (made_of_pair p cs ≤ made_of_pair p all) × (length (contents_made cs) ≤ length (contents_made all))
  made-begins-more cs more all is =
      let pairs : made_of_pair p all ≡ made_of_pair p (cs ++ more) = ap (made_of_pair p) is in
      let contents : length (contents_made all) ≡ length (contents_made cs) + length (contents_made more) =
      ap (λ (l : List Call). length (contents_made l)) is ∙ ap (length {A = Option PairNo}) (contents-append cs more)
      ∙ length-append (contents_made cs) (contents_made more) in
      (omega (arith, made-append p cs more, pairs), omega (arith, contents))

  -- a use of the pair: the viewport that it makes has the last serial
  pub serial-new : is_session s e.actor ≡ true → closes e.reply ≡ false → is_closed s h ≡ false → ((made : List Call) → published e.kind e.reply made ≡ [])
      → uses (h ▹ e) ≡ uses h + 1
      → (props : ViewportProps) → makes_viewport p props (slice_get e.calls (length e.calls - 1)) ≡ true
      → IsUseSerial p s (h ▹ e) (length (contents_made (calls s h ++ e.calls)))
  serial-new mine stays open_before none n props last =
      let all : List Call = calls s h ++ e.calls in
      let serial : ℕ = length (contents_made all) in
      let same : presents s (h ▹ e) ≡ presents s h = presents-own s h e mine ∙ ap (λ (l : List Published). presents s h ++ l) (none all)
      ∙ append-nil (presents s h) in
      let before : uses h ≡ made_of_pair p (calls s h) = uses-made setup s p owned h legal.0 open_before in
      let more = uses-own setup s p owned h e legal.1 mine stays in
      let now : uses (h ▹ e) ≡ made_of_pair p all = omega (arith, more, before, made-append p (calls s h) e.calls) in
      let fresh : of_serial (serials_in p 1 (contents_made all)) (made_of_pair p all) ≡ Some serial =
      made-new props e.calls (slice_get e.calls (length e.calls - 1)) refl last in
      let grown : length (contents_made (calls s h)) < serial = longer props e.calls (slice_get e.calls (length e.calls - 1)) refl last in
      let P : List Published → ℕ → Type 0 = λ ps u. (k : ℕ) → k ≤ length ps → Has p u serial (made_at ps k) in
      let Q : List Call → ℕ → Type 0 = λ cs u. (of_serial (serials_in p 1 (contents_made cs)) u ≡ Some serial) × (serial ≤ length (contents_made cs)) in
      let old : P (presents s h) (uses (h ▹ e)) =
      λ k fits.
      let begins = made-begins s h k fits in
      let less = made-begins-more (made_by s h k) begins.more (calls s h) begins.is in
      has-none p (uses (h ▹ e)) serial (made_by s h k) (omega (arith, less.0, before, n)) (omega (arith, less.1, grown)) in
      record {
        tells = subst (λ (ps : List Published). P ps (uses (h ▹ e))) (sym same) old;
        opened = λ o. subst (λ (u : ℕ). Q (calls s (h ▹ e)) u) (sym now)
            (subst (λ (cs : List Call). Q cs (made_of_pair p all)) (sym (calls-own s h e mine)) (fresh, omega arith));
      }
    where
      longer : (props : ViewportProps) (carries : List Call) (last : Option Call) → slice_get carries (length carries - 1) ≡ last
          → makes_viewport p props last ≡ true → length (contents_made (calls s h)) < length (contents_made (calls s h ++ carries))
      longer props carries None at is = cc
      longer props carries (Some call) at is =
          let one = last-call props call is in
          let content : length (contents_made (call ∷ [])) ≡ 1 = ap (length {A = Option PairNo}) (append-nil (makes_content call) ∙ one.1.0) in
          let split : length (contents_made carries) ≡ length (contents_made (all_but_last carries)) + length (contents_made (call ∷ [])) =
          ap (λ (l : List Call). length (contents_made l)) (split-last carries call at)
          ∙ ap (length {A = Option PairNo}) (contents-append (all_but_last carries) (call ∷ []))
          ∙ length-append (contents_made (all_but_last carries)) (contents_made (call ∷ [])) in
          let all : length (contents_made (calls s h ++ carries)) ≡ length (contents_made (calls s h)) + length (contents_made carries) =
          ap (length {A = Option PairNo}) (contents-append (calls s h) carries) ∙ length-append (contents_made (calls s h)) (contents_made carries) in
          omega (arith, content, split, all)

-- ---- what a frame has seen

pub tree-some : (d : Draft) → first_reason (tree_tests d) ≡ None → (t : Tree) × (tree d ≡ Some t)
tree-some d none = by_nodes (all_nodes d) refl
  where
    by_nodes : (all : Option Children) → all_nodes d ≡ all → (t : Tree) × (tree d ≡ Some t)
    by_nodes None is =
        let fits : is_too_large (all_nodes d) ≡ false = second_none (is_cyclic d) (is_too_large (all_nodes d)) Cycle TreeTooLarge _ none in
        let wrong : true ≡ false = ap is_too_large (sym is) ∙ fits in cc
    by_nodes (Some all) is = (record { view = d.view; root = head_of all; viewports = filter_map (use_of d) d.viewports }, tree-of-tested d none ∙ rw is refl)

-- the calls of a present; none where there is no present
abbrev calls_in : Option Published → List Call
calls_in o = unwrap_or (option_map (λ present. present.made) o) []

-- the properties that the state taken at an earlier moment has of the last use, read off the tree that was taken
pub seen-props : (setup : Setup) (s : SessionNo) (p : PairNo) (k h : List Entry) (serial : ℕ) → Legal setup h → IsEarlier k h → 0 < length (viewport_uses p h)
    → IsUseSerial p s h serial
    → option_and_then (props_of p (length (viewport_uses p h))) (result_ok (draft_of setup (taken_calls setup k s)))
    ≡ option_and_then (λ (t : Tree). props_at_serial t.viewports serial) (option_and_then (tree_of setup) (last_taken setup k s))
seen-props setup s p k h serial legal before some is =
    by_present (last_taken setup k s) refl (found-sound setup s (taken setup k s) (presents s k)
    (presents-sound setup s k (legal-earlier setup k h before legal)))
  where
    tells : Has p (length (viewport_uses p h)) serial (taken_calls setup k s)
    tells = subst (Has p (length (viewport_uses p h)) serial) (sym (calls-taken setup s k h before))
        (is.tells (taken setup k s) (taken-fits setup s k h before))

    by_present : (o : Option Published) → last_taken setup k s ≡ o → MaySound setup s o
        → option_and_then (props_of p (length (viewport_uses p h))) (result_ok (draft_of setup (calls_in (last_taken setup k s))))
        ≡ option_and_then (λ (t : Tree). props_at_serial t.viewports serial) (option_and_then (tree_of setup) (last_taken setup k s))
    by_present None at sound = rw at refl
    by_present (Some present) at sound =
        let d : Draft = sound.0 in
        let good = sound.1 in
        let t = tree-some d good.tests in
        let has : Has p (length (viewport_uses p h)) serial present.made =
        ap (λ (o : Option Published). of_serial (serials_in p 1 (contents_made (calls_in o))) (length (viewport_uses p h))) (sym at) ∙ tells
        ∙ ap (λ (o : Option Published). cond (nat_le serial (length (contents_made (calls_in o)))) (Some serial) None) at in
        let props : props_of p (length (viewport_uses p h)) d ≡ props_at_serial t.0.viewports serial =
        use-props setup present.made d good.made t.0 t.1 p (length (viewport_uses p h)) serial has in
        rw at (rw (good.made, t.1) props)
