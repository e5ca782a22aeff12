-- What the viewports of the tree that a frame took say of the last use of a pair.
use Rattle.std.proofs.Common.{◌≡◌, ◌∙◌, sym, subst, ℕ, ◌+◌, ◌-◌, ◌<◌, ◌≤◌, Bool, true, false, cond, List, [], ◌∷◌, length, map, filter_map, drop, refl, arith}
use Rattle.std.proofs.Common.{ap, Some, None, Ok}
use Rattle.std.specs.Prelude.{◌&&◌, ◌||◌, ◌==◌, nat_le, Option, option_and_then, option_map}
use Rattle.std.specs.List.{list_any, list_all}
use Rattle.std.specs.Result.{result_ok}
use Rattle.std.proofs.lemmas.Bool.Decides.{nat_tests}
use Rattle.flat_base.specs.declared.ids.FenceNo.{FenceNo}
use Rattle.flat_base.specs.declared.ids.PairNo.{PairNo}
use Rattle.flat_base.specs.declared.ids.SessionNo.{SessionNo}
use Rattle.flat_scene.specs.declared.calls.Call.{Call}
use Rattle.flat_scene.specs.declared.calls.ViewportProps.{ViewportProps}
use Rattle.flat_scene.specs.declared.journal.Entry.{Entry}
use Rattle.flat_scene.specs.declared.journal.EntryKind.{EntryKind}
use Rattle.flat_scene.specs.declared.journal.EntryKind.TheVariants.{Begin}
use Rattle.flat_scene.specs.declared.setup.Setup.{Setup}
use Rattle.flat_scene.specs.declared.trees.Children.{Children}
use Rattle.flat_scene.specs.declared.trees.Tree.{Tree}
use Rattle.flat_scene.specs.declared.trees.ViewportUse.{ViewportUse}
use Rattle.flat_scene.specs.Draft.{Draft, Made, an_image, a_fill, a_viewport, of_serial}
use Rattle.flat_scene.specs.Effect.{draft_of}
use Rattle.flat_scene.specs.Frames.{taken, takes}
use Rattle.flat_scene.specs.History.{◌▹◌, is_begin, is_closed, is_finish, is_session, presents, Published}
use Rattle.flat_scene.specs.Tree.{tree, use_of, all_nodes, head_of}
use Rattle.flat_scene.proofs.lemmas.Presented.{tree-unfolded}
use Rattle.flat_rules.specs.Ends.{is_made_of, props_in, props_of, serials_of, taken_calls, to_begin, to_finished, viewport_uses}
use Rattle.flat_rules.specs.Legal.{Legal, owns_viewport}
use Rattle.flat_rules.specs.Serials.{IsUseSerial, contents_made, props_at_serial, serials_in}
use Rattle.flat_rules.specs.Shown.{last_taken, tree_of}
use Rattle.flat_links.specs.Usage.{props_among, uses_in}
use Rattle.flat_rules.specs.Watch.{props_seen}
use Rattle.std.specs.Option.{option_or}
use Rattle.flat_facts.proofs.lemmas.Earlier.{IsEarlier, calls-taken, legal-earlier, taken-fits}
use Rattle.flat_facts.proofs.lemmas.Foreign.{owned-differs}
use Rattle.flat_facts.proofs.lemmas.Lives.{pair_made}
use Rattle.flat_rules.proofs.lemmas.Owned.{made_owned}
use Rattle.flat_rules.proofs.lemmas.OwnedTree.{at-serial}
use Rattle.flat_links.proofs.lemmas.PairSteps.{no-begin}
use Rattle.flat_facts.proofs.lemmas.SerialSteps.{Has, seen-props, tree-some}
use Rattle.flat_facts.proofs.lemmas.Serials.{draft-contents, serials-are, uses-props, either}
use Rattle.flat_facts.proofs.lemmas.ShownFits.{IsGood, IsSound, MaySound, found-sound, presents-sound}
use Rattle.flat_rules.proofs.lemmas.ShownSteps.{serial-zero}
use Rattle.std.proofs.lemmas.Bool.{and_right}
use Rattle.std.proofs.lemmas.List.{length-map}
use Rattle.flat_rules.proofs.lemmas.ListLemmas.{serial-within}

-- ---- the viewports of a draft

or-none : (o : Option ViewportProps) → option_or o None ≡ o
or-none (Some x) = refl
or-none None = refl

or-same : (b : Bool) (x : ViewportProps) → option_or (cond b (Some x) None) (Some x) ≡ Some x
or-same true x = refl
or-same false x = refl

-- where the content of a serial is of the pair, if it is a viewport, its properties are found among those that live
among-uses : (p : PairNo) (d : Draft) (serial : ℕ) → ((m : Made) → of_serial d.contents serial ≡ Some m → is_made_of p m ≡ true) → (vs : List ℕ)
    → props_among p (filter_map (use_of d) vs) serial ≡ cond (list_any (λ live. live == serial) vs) (option_and_then props_in (of_serial d.contents serial))
    None
among-uses p d serial fits [] = refl
among-uses p d serial fits (v ∷ vs) = by_made (among-uses p d serial fits vs) (of_serial d.contents v) refl (v == serial) refl
  where
    rest : Option ViewportProps
    rest = cond (list_any (λ live. live == serial) vs) (option_and_then props_in (of_serial d.contents serial)) None

    here : (m : Made) → of_serial d.contents v ≡ Some m → (v == serial) ≡ true → of_serial d.contents serial ≡ Some m
    here m at is = let same : v ≡ serial = grind (arith, nat_tests) in ap (of_serial d.contents) (sym same) ∙ at

    skipped : (m : Option Made) → of_serial d.contents v ≡ m → option_and_then props_in m ≡ None → (b : Bool) → (v == serial) ≡ b
        → rest ≡ cond (b || list_any (λ live. live == serial) vs) (option_and_then props_in (of_serial d.contents serial)) None
    skipped m at none false is = refl
    skipped m at none true is =
        let same : v ≡ serial = grind (arith, nat_tests) in
        let nothing : option_and_then props_in (of_serial d.contents serial) ≡ None =
        ap (λ (n : ℕ). option_and_then props_in (of_serial d.contents n)) (sym same) ∙ ap (option_and_then props_in) at ∙ none in
        (rw nothing (either (list_any (λ live. live == serial) vs))) ∙ sym nothing

    by_made : props_among p (filter_map (use_of d) vs) serial ≡ rest → (m : Option Made) → of_serial d.contents v ≡ m → (b : Bool) → (v == serial) ≡ b
        → props_among p (filter_map (use_of d) (v ∷ vs)) serial
        ≡ cond (b || list_any (λ live. live == serial) vs) (option_and_then props_in (of_serial d.contents serial)) None
    by_made later None at b is = rw at (later ∙ skipped None at refl b is)
    by_made later (Some (an_image i)) at b is = rw at (later ∙ skipped (Some (an_image i)) at refl b is)
    by_made later (Some (a_fill x)) at b is = rw at (later ∙ skipped (Some (a_fill x)) at refl b is)
    by_made later (Some (a_viewport q props)) at false is =
        let off : (q.0 == p.0 && v == serial) ≡ false = and_right (q.0 == p.0) (v == serial) is in
        rw at (ap (λ (b : Bool). option_or (props_among p (filter_map (use_of d) vs) serial) (cond b (Some props) None)) off
        ∙ or-none (props_among p (filter_map (use_of d) vs) serial) ∙ later)
    by_made later (Some (a_viewport q props)) at true is =
        let found : of_serial d.contents serial ≡ Some (a_viewport q props) = here (a_viewport q props) at is in
        let mine : (q.0 == p.0) ≡ true = fits (a_viewport q props) found in
        let props_are : option_and_then props_in (of_serial d.contents serial) ≡ Some props = ap (option_and_then props_in) found in
        let before : props_among p (filter_map (use_of d) vs) serial ≡ cond (list_any (λ live. live == serial) vs) (Some props) None =
        later ∙ ap (λ (o : Option ViewportProps). cond (list_any (λ live. live == serial) vs) o None) props_are in
        rw at (rw (mine, is) (ap (λ (o : Option ViewportProps). option_or o (Some props)) before ∙ or-same (list_any (λ live. live == serial) vs) props)
        ∙ sym props_are)

-- of a pair that isn't owned there is none
among-foreign : (setup : Setup) (s : SessionNo) (p : PairNo) → owns_viewport setup s p ≡ false → (d : Draft) → list_all (made_owned setup s) d.contents ≡ true
    → (n : ℕ) (vs : List ℕ) → props_among p (filter_map (use_of d) vs) n ≡ None
among-foreign setup s p foreign d owned n [] = refl
among-foreign setup s p foreign d owned n (v ∷ vs) = by_made (among-foreign setup s p foreign d owned n vs) (of_serial d.contents v) refl
  where
    by_made : props_among p (filter_map (use_of d) vs) n ≡ None → (m : Option Made) → of_serial d.contents v ≡ m
        → props_among p (filter_map (use_of d) (v ∷ vs)) n ≡ None
    by_made later None at = rw at later
    by_made later (Some (an_image i)) at = rw at later
    by_made later (Some (a_fill x)) at = rw at later
    by_made later (Some (a_viewport q props)) at =
        let mine : owns_viewport setup s q ≡ true = at-serial (made_owned setup s) d.contents v (a_viewport q props) owned at in
        let other : (q.0 == p.0) ≡ false = owned-differs (owns_viewport setup s) q p mine foreign (q.0 == p.0) refl in
        rw at (rw (other, later) refl)

-- a serial that a pair has leads to a content of the pair
serial-pair : (p : PairNo) (next : ℕ) (ms : List Made) (n x : ℕ) → of_serial (serials_of p next ms) n ≡ Some x
    → (next ≤ x) × ((m : Made) → of_serial ms (x + 1 - next) ≡ Some m → is_made_of p m ≡ true)
serial-pair p next [] n x is = cc
serial-pair p next (first ∷ ms) n x is = by_pair (λ k h. serial-pair p (next + 1) ms k x h) (is_made_of p first) refl is
  where
    later : (next + 1 ≤ x) × ((m : Made) → of_serial ms (x + 1 - (next + 1)) ≡ Some m → is_made_of p m ≡ true)
        → (next ≤ x) × ((m : Made) → of_serial (first ∷ ms) (x + 1 - next) ≡ Some m → is_made_of p m ≡ true)
    later rest =
        let few : next + 1 ≤ x = rest.0 in
        let past : (x + 1 - next == 1) ≡ false = grind (arith, nat_tests) in
        let less : x + 1 - (next + 1) ≡ x + 1 - next - 1 = omega arith in
        (omega (arith, few), λ m at. rest.1 m (ap (of_serial ms) less ∙ sym (rw past refl) ∙ at))

    by_place : ((k : ℕ) → of_serial (serials_of p (next + 1) ms) k ≡ Some x
        → (next + 1 ≤ x) × ((m : Made) → of_serial ms (x + 1 - (next + 1)) ≡ Some m → is_made_of p m ≡ true)) → is_made_of p first ≡ true
        → (b : Bool) → cond b (Some next) (of_serial (serials_of p (next + 1) ms) (n - 1)) ≡ Some x
        → (next ≤ x) × ((m : Made) → of_serial (first ∷ ms) (x + 1 - next) ≡ Some m → is_made_of p m ≡ true)
    by_place rest mine false h = later (rest (n - 1) h)
    by_place rest mine true h =
        let same : next ≡ x = cc in
        let one : x + 1 - next ≡ 1 = omega (arith, same) in (
          omega (arith, same),
          λ m at. let found : Some first ≡ Some m = ap (of_serial (first ∷ ms)) (sym one) ∙ at in let it : first ≡ m = cc in
              ap (is_made_of p) (sym it) ∙ mine,
        )

    by_pair : ((k : ℕ) → of_serial (serials_of p (next + 1) ms) k ≡ Some x
        → (next + 1 ≤ x) × ((m : Made) → of_serial ms (x + 1 - (next + 1)) ≡ Some m → is_made_of p m ≡ true)) → (b : Bool) → is_made_of p first ≡ b
        → of_serial (cond b (next ∷ serials_of p (next + 1) ms) (serials_of p (next + 1) ms)) n ≡ Some x
        → (next ≤ x) × ((m : Made) → of_serial (first ∷ ms) (x + 1 - next) ≡ Some m → is_made_of p m ≡ true)
    by_pair rest true mine h = by_place rest mine (n == 1) h
    by_pair rest false other h = later (rest n h)

-- the content of the last use's serial is of the pair
serial-fits : (setup : Setup) (cs : List Call) (d : Draft) → draft_of setup cs ≡ Ok d → (p : PairNo) (n serial : ℕ) → Has p n serial cs → (m : Made)
    → of_serial d.contents serial ≡ Some m → is_made_of p m ≡ true
serial-fits setup cs d good p n serial has m at =
    let contents : map pair_made d.contents ≡ contents_made cs = draft-contents setup cs d good in
    let count : length (contents_made cs) ≡ length d.contents = ap (length {A = Option PairNo}) (sym contents) ∙ length-map d.contents pair_made in
    let few : serial ≤ length d.contents = serial-within d.contents serial m at in
    let fits : nat_le serial (length (contents_made cs)) ≡ true = grind (arith, nat_tests) in
    let found : of_serial (serials_of p 1 d.contents) n ≡ Some serial =
    ap (λ (l : List ℕ). of_serial l n) (serials-are p 1 d.contents ∙ ap (serials_in p 1) contents) ∙ has ∙ ap (λ b. cond b (Some serial) None) fits in
    let back : serial ≡ serial + 1 - 1 = omega arith in
    (serial-pair p 1 d.contents n serial found).1 m (ap (of_serial d.contents) (sym back) ∙ at)

-- ---- the tree that was taken

viewports-are : (d : Draft) (t : Tree) → tree d ≡ Some t → t.viewports ≡ filter_map (use_of d) d.viewports
viewports-are d t is = by_nodes (all_nodes d) (tree-unfolded d t is)
  where
    by_nodes : (all : Option Children) → option_map (λ all. let u : Tree =
        record { view = d.view; root = head_of all; viewports = filter_map (use_of d) d.viewports } in u) all ≡ Some t
        → t.viewports ≡ filter_map (use_of d) d.viewports
    by_nodes None h = cc
    by_nodes (Some all) h =
        let same : record { view = d.view; root = head_of all; viewports = filter_map (use_of d) d.viewports } ≡ t = cc in
        ap (λ (u : Tree). u.viewports) (sym same)

module _ (setup : Setup) (v : SessionNo) (k h : List Entry) (legal : Legal setup h) (before : IsEarlier k h) (p : PairNo) where
  abbrev pub uses_taken : List ViewportUse
  uses_taken = uses_in (option_and_then (tree_of setup) (last_taken setup k v))

  sound : MaySound setup v (last_taken setup k v)
  sound = found-sound setup v (taken setup k v) (presents v k) (presents-sound setup v k (legal-earlier setup k h before legal))

  -- What is known of the viewports in the tree of a present.
  record InTree (present : Published) : Type 0 where
    draft : Draft
    good : IsGood setup v present.made draft
    uses : uses_in (tree_of setup present) ≡ filter_map (use_of draft) draft.viewports

  in-tree : (present : Published) → IsSound setup v present → InTree present
  in-tree present it =
      let t = tree-some it.0 it.1.tests in
      record {
        draft = it.0;
        good = it.1;
        uses = ap (λ r. uses_in (option_and_then tree (result_ok r))) it.1.made ∙ ap uses_in t.1 ∙ viewports-are it.0 t.0 t.1;
      }

  -- of a pair of another
  pub foreign-uses : owns_viewport setup v p ≡ false → (n : ℕ) → props_among p uses_taken n ≡ None
  foreign-uses foreign n = by_present (last_taken setup k v) sound
    where
      by_present : (o : Option Published) → MaySound setup v o → props_among p (uses_in (option_and_then (tree_of setup) o)) n ≡ None
      by_present None it = refl
      by_present (Some present) it =
          let t = in-tree present it in
          ap (λ (us : List ViewportUse). props_among p us n) t.uses ∙ among-foreign setup v p foreign t.draft t.good.owned.contents n t.draft.viewports

  -- there is none of serial 0
  pub no-uses : props_among p uses_taken 0 ≡ None
  no-uses = by_present (last_taken setup k v) sound
    where
      by_present : (o : Option Published) → MaySound setup v o → props_among p (uses_in (option_and_then (tree_of setup) o)) 0 ≡ None
      by_present None it = refl
      by_present (Some present) it =
          let t = in-tree present it in
          let none : of_serial t.draft.contents 0 ≡ None = serial-zero t.draft.contents in
          ap (λ (us : List ViewportUse). props_among p us 0) t.uses
          ∙ among-uses p t.draft 0 (λ m at. let wrong : None ≡ Some m = sym none ∙ at in cc) t.draft.viewports
          ∙ (rw none (either (list_any (λ live. live == 0) t.draft.viewports)))

  -- of the last use it has the properties that the calls which were taken gave it
  pub last-uses : (serial : ℕ) → 0 < length (viewport_uses p h) → IsUseSerial p v h serial
      → props_among p uses_taken serial ≡ option_and_then (props_of p (length (viewport_uses p h))) (result_ok (draft_of setup (taken_calls setup k v)))
  last-uses serial some is = by_present (last_taken setup k v) refl sound ∙ sym (seen-props setup v p k h serial legal before some is)
    where
      tells : Has p (length (viewport_uses p h)) serial (taken_calls setup k v)
      tells = subst (Has p (length (viewport_uses p h)) serial) (sym (calls-taken setup v k h before))
          (is.tells (taken setup k v) (taken-fits setup v k h before))

      by_present : (o : Option Published) → last_taken setup k v ≡ o → MaySound setup v o
          → props_among p (uses_in (option_and_then (tree_of setup) o)) serial
          ≡ option_and_then (λ (t : Tree). props_at_serial t.viewports serial) (option_and_then (tree_of setup) o)
      by_present None at it = refl
      by_present (Some present) at it =
          let d : Draft = it.0 in
          let t = tree-some it.0 it.1.tests in
          let tree_is : tree_of setup present ≡ Some t.0 = ap (λ r. option_and_then tree (result_ok r)) it.1.made ∙ t.1 in
          let uses : t.0.viewports ≡ filter_map (use_of it.0) it.0.viewports = viewports-are it.0 t.0 t.1 in
          let has : Has p (length (viewport_uses p h)) serial present.made = rw at at tells in
          let fits = serial-fits setup present.made it.0 it.1.made p (length (viewport_uses p h)) serial has in
          let same : props_among p t.0.viewports serial ≡ props_at_serial t.0.viewports serial =
          ap (λ (us : List ViewportUse). props_among p us serial) uses ∙ among-uses p it.0 serial fits it.0.viewports
          ∙ sym (uses-props it.0 serial it.0.viewports)
          ∙ ap (λ (us : List ViewportUse). props_at_serial us serial) (sym uses) in
          rw tree_is same

-- ---- frames

module _ (setup : Setup) (v : SessionNo) where
  -- what the last finished frame had is seen already
  pub seen-already : (p : PairNo) (n : ℕ) (h : List Entry)
      → option_or (option_and_then (props_of p n) (result_ok (draft_of setup (taken_calls setup (to_finished h) v)))) (props_seen setup p n v h)
      ≡ props_seen setup p n v h
  seen-already p n [] = refl
  seen-already p n (h ▹ e) = by_kind (seen-already p n h) (is_finish e.kind) refl
    where
      had : List Entry → Option ViewportProps
      had k = option_and_then (props_of p n) (result_ok (draft_of setup (taken_calls setup k v)))

      twice : (x y : Option ViewportProps) → option_or x (option_or x y) ≡ option_or x y
      twice (Some a) y = refl
      twice None y = refl

      by_kind : option_or (had (to_finished h)) (props_seen setup p n v h) ≡ props_seen setup p n v h → (b : Bool) → is_finish e.kind ≡ b
          → option_or (had (cond b (to_begin h) (to_finished h))) (option_or (cond b (had (to_begin h)) None) (props_seen setup p n v h))
          ≡ option_or (cond b (had (to_begin h)) None) (props_seen setup p n v h)
      by_kind before true is = twice (had (to_begin h)) (props_seen setup p n v h)
      by_kind before false is = before

  takes-closed : (kind : EntryKind) (signalled : FenceNo → Bool) (w : List Published) → takes kind signalled true w ≡ []
  takes-closed (Begin time) signalled w = refl
  takes-closed _ signalled w = refl

  -- of a closed session a frame takes nothing
  pub closed-took : (h : List Entry) → Legal setup h → is_closed v (to_begin h) ≡ true → taken setup (to_begin h) v ≡ taken setup (drop 1 (to_begin h)) v
  closed-took [] legal shut = refl
  closed-took (h ▹ e) legal shut = by_kind (λ s. closed-took h legal.0 s) (is_begin e.kind) refl shut
    where
      not_mine : is_begin e.kind ≡ true → (b : Bool) → is_session v e.actor ≡ b → b ≡ false
      not_mine begins false is = refl
      not_mine begins true mine = let wrong : true ≡ false = sym begins ∙ no-begin setup v h e legal mine in cc

      by_kind : (is_closed v (to_begin h) ≡ true → taken setup (to_begin h) v ≡ taken setup (drop 1 (to_begin h)) v) → (b : Bool) → is_begin e.kind ≡ b
          → is_closed v (cond b (h ▹ e) (to_begin h)) ≡ true
          → taken setup (cond b (h ▹ e) (to_begin h)) v ≡ taken setup (drop 1 (cond b (h ▹ e) (to_begin h))) v
      by_kind before false quiet s = before s
      by_kind before true begins s =
          let other : is_session v e.actor ≡ false = not_mine begins (is_session v e.actor) refl in
          let shut_before : is_closed v h ≡ true = rw other at s in
          rw shut_before (rw (takes-closed e.kind _ _) (omega arith))
