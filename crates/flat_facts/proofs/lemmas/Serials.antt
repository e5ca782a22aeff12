-- What a tree has of the viewport of a pair's last use.
use Rattle.std.proofs.Common.{◌≡◌, ◌∙◌, sym, ℕ, ◌+◌, ◌-◌, Bool, true, false, cond, List, [], ◌∷◌, ◌++◌, length, map, filter_map, refl, arith, ap, Some, None}
use Rattle.std.proofs.Common.{Ok, Err, length-append, ◌<◌}
use Rattle.std.specs.Prelude.{◌||◌, ◌==◌, nat_le, Option, option_map, option_and_then}
use Rattle.std.specs.List.{list_any}
use Rattle.std.proofs.lemmas.Bool.Decides.{nat_tests}
use Rattle.std.proofs.lemmas.List.{append-nil, append_assoc, map-append, length-map}
use Rattle.flat_base.specs.declared.errors.Reason.{Reason}
use Rattle.flat_base.specs.declared.ids.PairNo.{PairNo}
use Rattle.flat_scene.specs.declared.calls.Call.{Call}
use Rattle.flat_scene.specs.declared.calls.Call.TheVariants.{CreateViewport, SetViewportProperties, CreateImage, SetImageSampleRegion, SetImageDestinationSize}
use Rattle.flat_scene.specs.declared.calls.Call.TheVariants.{SetImageBlendingFunction, SetImageFlip, SetImageOpacity, CreateFilledRect, SetSolidFill}
use Rattle.flat_scene.specs.declared.calls.ViewportProps.{ViewportProps}
use Rattle.flat_scene.specs.declared.setup.Setup.{Setup}
use Rattle.flat_scene.specs.declared.trees.Tree.{Tree}
use Rattle.flat_scene.specs.declared.trees.ViewportUse.{ViewportUse}
use Rattle.flat_scene.specs.Draft.{Draft, Made, an_image, a_fill, a_viewport, of_serial, changed_at, content_of, empty_draft}
use Rattle.flat_scene.specs.Effect.{effect, after_calls, unless, changed_if, on_image, on_viewport, on_fill, draft_of}
use Rattle.flat_scene.specs.Misuse.{misuse}
use Rattle.flat_scene.specs.Tree.{tree, use_of, all_nodes, head_of}
use Rattle.flat_scene.proofs.lemmas.Presented.{tree-unfolded}
use Rattle.flat_scene.specs.declared.trees.Children.{Children}
use Rattle.flat_rules.specs.Ends.{is_made_of, serials_of, props_of, live_props, props_in}
use Rattle.flat_rules.specs.Legal.{number_if}
use Rattle.flat_facts.specs.Lives.{made_of_pair, makes_one}
use Rattle.flat_rules.specs.Serials.{makes_content, contents_made, serials_in, props_at_serial}
use Rattle.flat_rules.specs.Shown.{is_pair}
use Rattle.flat_facts.proofs.lemmas.Lives.{pair_made, image-pair, viewport-pair, fill-pair}
use Rattle.flat_facts.proofs.lemmas.ViewCalls.{after-refused}
use Rattle.flat_rules.proofs.lemmas.ListLemmas.{serial-beyond}

-- ---- the contents of a draft

changed-pairs : (f : Made → Made) → ((m : Made) → pair_made (f m) ≡ pair_made m) → (n : ℕ) (ms : List Made)
    → map pair_made (changed_at n f ms) ≡ map pair_made ms
changed-pairs f same n [] = refl
changed-pairs f same n (m ∷ ms) = by_place (changed-pairs f same (n - 1) ms) (n == 1)
  where
    by_place : map pair_made (changed_at (n - 1) f ms) ≡ map pair_made ms → (b : Bool)
        → map pair_made (cond b (f m ∷ ms) (m ∷ changed_at (n - 1) f ms)) ≡ map pair_made (m ∷ ms)
    by_place rest true = ap (λ (o : Option PairNo). o ∷ map pair_made ms) (same m)
    by_place rest false = ap (λ (l : List (Option PairNo)). pair_made m ∷ l) rest

kept-pairs : (f : Made → Made) → ((m : Made) → pair_made (f m) ≡ pair_made m) → (serial : Option ℕ) (ms : List Made)
    → map pair_made (changed_if serial f ms) ≡ map pair_made ms ++ []
kept-pairs f same None ms = sym (append-nil (map pair_made ms))
kept-pairs f same (Some n) ms = changed-pairs f same n ms ∙ sym (append-nil (map pair_made ms))

call-contents : (d : Draft) (call : Call) → map pair_made (effect d call).contents ≡ map pair_made d.contents ++ makes_content call
call-contents d (CreateViewport c p w h inset) = map-append pair_made d.contents (a_viewport p (record { w = w; h = h; inset = inset }) ∷ [])
call-contents d (CreateImage c buffers i w h) = map-append pair_made d.contents _
call-contents d (CreateFilledRect c) = map-append pair_made d.contents (a_fill None ∷ [])
call-contents d (SetViewportProperties c w h inset) = kept-pairs (on_viewport _) (viewport-pair _) (content_of d c) d.contents
call-contents d (SetImageSampleRegion c rect) = kept-pairs (on_image _) (image-pair _) (content_of d c) d.contents
call-contents d (SetImageDestinationSize c w h) = kept-pairs (on_image _) (image-pair _) (content_of d c) d.contents
call-contents d (SetImageBlendingFunction c m) = kept-pairs (on_image _) (image-pair _) (content_of d c) d.contents
call-contents d (SetImageFlip c f) = kept-pairs (on_image _) (image-pair _) (content_of d c) d.contents
call-contents d (SetImageOpacity c v) = kept-pairs (on_image _) (image-pair _) (content_of d c) d.contents
call-contents d (SetSolidFill c r g b a w h) = kept-pairs (on_fill _) (fill-pair _) (content_of d c) d.contents
call-contents d _ = sym (append-nil (map pair_made d.contents))

contents-more : (setup : Setup) (d : Draft) (call : Call) (calls : List Call) (d' : Draft) → (reason : Option Reason)
    → (after_calls setup (Ok (effect d call)) calls ≡ Ok d' → map pair_made d'.contents ≡ map pair_made (effect d call).contents ++ contents_made calls)
    → after_calls setup (unless reason (effect d call)) calls ≡ Ok d' → map pair_made d'.contents ≡ map pair_made d.contents ++ contents_made (call ∷ calls)
contents-more setup d call calls d' None rest good =
    rest good ∙ ap (λ (l : List (Option PairNo)). l ++ contents_made calls) (call-contents d call)
    ∙ append_assoc (map pair_made d.contents) (makes_content call) (contents_made calls)
contents-more setup d call calls d' (Some reason) rest good = let wrong : Err reason ≡ Ok d' = sym (after-refused setup reason calls) ∙ good in cc

calls-contents : (setup : Setup) (d : Draft) (calls : List Call) (d' : Draft) → after_calls setup (Ok d) calls ≡ Ok d'
    → map pair_made d'.contents ≡ map pair_made d.contents ++ contents_made calls
calls-contents setup d [] d' good = let same : d ≡ d' =
    cc in ap (λ (x : Draft). map pair_made x.contents) (sym same) ∙ sym (append-nil (map pair_made d.contents))
calls-contents setup d (call ∷ calls) d' good = contents-more setup d call calls d' (misuse setup d call)
    (λ rest. calls-contents setup (effect d call) calls d' rest) good

pub draft-contents : (setup : Setup) (calls : List Call) (d : Draft) → draft_of setup calls ≡ Ok d → map pair_made d.contents ≡ contents_made calls
draft-contents setup calls d good = calls-contents setup empty_draft calls d good

-- ---- the serials of a pair

pub made-is : (p : PairNo) (m : Made) → is_made_of p m ≡ is_pair (pair_made m) p
made-is p (an_image i) = refl
made-is p (a_fill x) = refl
made-is p (a_viewport q props) = refl

pub serials-are : (p : PairNo) (next : ℕ) (ms : List Made) → serials_of p next ms ≡ serials_in p next (map pair_made ms)
serials-are p next [] = refl
serials-are p next (m ∷ ms) = rw (made-is p m, serials-are p (next + 1) ms) refl

pub serials-append : (p : PairNo) (next : ℕ) (xs ys : List (Option PairNo))
    → serials_in p next (xs ++ ys) ≡ serials_in p next xs ++ serials_in p (next + length xs) ys
serials-append p next [] ys = ap (λ (n : ℕ). serials_in p n ys) (omega arith)
serials-append p next (x ∷ xs) ys = by_pair (serials-append p (next + 1) xs ys ∙ ap (λ (n : ℕ). serials_in p (next + 1) xs ++ serials_in p n ys) (omega arith))
    (is_pair x p)
  where
    by_pair : serials_in p (next + 1) (xs ++ ys) ≡ serials_in p (next + 1) xs ++ serials_in p (next + length (x ∷ xs)) ys → (b : Bool)
        → cond b (next ∷ serials_in p (next + 1) (xs ++ ys)) (serials_in p (next + 1) (xs ++ ys))
        ≡ cond b (next ∷ serials_in p (next + 1) xs) (serials_in p (next + 1) xs) ++ serials_in p (next + length (x ∷ xs)) ys
    by_pair rest true = ap (λ (l : List ℕ). next ∷ l) rest
    by_pair rest false = rest

pub contents-append : (xs ys : List Call) → contents_made (xs ++ ys) ≡ contents_made xs ++ contents_made ys
contents-append [] ys = refl
contents-append (x ∷ xs) ys = ap (λ (l : List (Option PairNo)). makes_content x ++ l) (contents-append xs ys)
    ∙ sym (append_assoc (makes_content x) (contents_made xs) (contents_made ys))

one-serial : (p : PairNo) (next : ℕ) (call : Call) → length (serials_in p next (makes_content call)) ≡ number_if (makes_one p call)
one-serial p next (CreateViewport c q w h inset) = by_pair (q.0 == p.0)
  where
    by_pair : (b : Bool) → length (cond b (next ∷ []) []) ≡ number_if b
    by_pair true = refl
    by_pair false = refl
one-serial p next _ = refl

-- there are as many as calls made
pub serials-count : (p : PairNo) (next : ℕ) (cs : List Call) → length (serials_in p next (contents_made cs)) ≡ made_of_pair p cs
serials-count p next [] = refl
serials-count p next (c ∷ cs) =
    ap (length {A = ℕ}) (serials-append p next (makes_content c) (contents_made cs))
    ∙ length-append (serials_in p next (makes_content c)) (serials_in p (next + length (makes_content c)) (contents_made cs))
    ∙ omega (arith, one-serial p next c, serials-count p (next + length (makes_content c)) cs)

-- ---- what a tree has

pub either : (b : Bool) → cond {A = Option ViewportProps} b None None ≡ None
either true = refl
either false = refl

-- the properties of a live viewport are those of its use
pub uses-props : (d : Draft) (serial : ℕ) (vs : List ℕ)
    → props_at_serial (filter_map (use_of d) vs) serial ≡ cond (list_any (λ live. live == serial) vs) (option_and_then props_in (of_serial d.contents serial))
    None
uses-props d serial [] = refl
uses-props d serial (v ∷ vs) = by_made (uses-props d serial vs) (of_serial d.contents v) refl (v == serial) refl
  where
    rest : Option ViewportProps
    rest = cond (list_any (λ live. live == serial) vs) (option_and_then props_in (of_serial d.contents serial)) None

    no_props : option_and_then props_in (of_serial d.contents serial) ≡ None → rest ≡ None
    no_props none = rw none (either (list_any (λ live. live == serial) vs))

    same_number : (v == serial) ≡ true → v ≡ serial
    same_number is = grind (arith, nat_tests)

    skipped : (m : Option Made) → of_serial d.contents v ≡ m → option_and_then props_in m ≡ None → (b : Bool) → (v == serial) ≡ b
        → rest ≡ cond (b || list_any (λ live. live == serial) vs) (option_and_then props_in (of_serial d.contents serial)) None
    skipped m at none false is = refl
    skipped m at none true is =
        let here : option_and_then props_in (of_serial d.contents serial) ≡ None =
        ap (λ (n : ℕ). option_and_then props_in (of_serial d.contents n)) (sym (same_number is)) ∙ ap (option_and_then props_in) at ∙ none in
        no_props here ∙ sym here

    by_made : props_at_serial (filter_map (use_of d) vs) serial ≡ rest → (m : Option Made) → of_serial d.contents v ≡ m → (b : Bool) → (v == serial) ≡ b
        → props_at_serial (filter_map (use_of d) (v ∷ vs)) serial
        ≡ cond (b || list_any (λ live. live == serial) vs) (option_and_then props_in (of_serial d.contents serial)) None
    by_made later None at b is = rw at (later ∙ skipped None at refl b is)
    by_made later (Some (an_image i)) at b is = rw at (later ∙ skipped (Some (an_image i)) at refl b is)
    by_made later (Some (a_fill x)) at b is = rw at (later ∙ skipped (Some (a_fill x)) at refl b is)
    by_made later (Some (a_viewport p props)) at false is = rw (at, is) later
    by_made later (Some (a_viewport p props)) at true is =
        let here : option_and_then props_in (of_serial d.contents serial) ≡ Some props =
        ap (λ (n : ℕ). option_and_then props_in (of_serial d.contents n)) (sym (same_number is)) ∙ ap (option_and_then props_in) at in
        rw (at, is) (sym here)

-- the properties of a pair's use, by the serial of the viewport that it made
pub use-props : (setup : Setup) (calls : List Call) (d : Draft) → draft_of setup calls ≡ Ok d → (t : Tree) → tree d ≡ Some t → (p : PairNo) (n serial : ℕ)
    → of_serial (serials_in p 1 (contents_made calls)) n ≡ cond (nat_le serial (length (contents_made calls))) (Some serial) None
    → props_of p n d ≡ props_at_serial t.viewports serial
use-props setup calls d good t is p n serial tells =
    let contents = draft-contents setup calls d good in
    let serials : serials_of p 1 d.contents ≡ serials_in p 1 (contents_made calls) = serials-are p 1 d.contents ∙ ap (serials_in p 1) contents in
    let count : length (contents_made calls) ≡ length d.contents = ap (length {A = Option PairNo}) (sym contents) ∙ length-map d.contents pair_made in
    let used : of_serial (serials_of p 1 d.contents) n ≡ cond (nat_le serial (length d.contents)) (Some serial) None =
    ap (λ (l : List ℕ). of_serial l n) serials ∙ tells ∙ ap (λ (k : ℕ). cond (nat_le serial k) (Some serial) None) count in
    ap (option_and_then (live_props d)) used ∙ by_count (nat_le serial (length d.contents)) refl ∙ sym (uses-props d serial d.viewports)
    ∙ ap (λ (us : List ViewportUse). props_at_serial us serial) (viewports_are (all_nodes d) (tree-unfolded d t is))
  where
    past : nat_le serial (length d.contents) ≡ false → length d.contents < serial
    past over = grind (arith, nat_tests)

    by_count : (b : Bool) → nat_le serial (length d.contents) ≡ b
        → option_and_then (live_props d) (cond b (Some serial) None)
        ≡ cond (list_any (λ live. live == serial) d.viewports) (option_and_then props_in (of_serial d.contents serial)) None
    by_count true fits = refl
    by_count false over = sym (rw (serial-beyond d.contents serial (past over)) (either (list_any (λ live. live == serial) d.viewports)))

    viewports_are : (all : Option Children) → option_map
        (λ all. let u : Tree = record { view = d.view; root = head_of all; viewports = filter_map (use_of d) d.viewports } in u) all ≡ Some t
        → filter_map (use_of d) d.viewports ≡ t.viewports
    viewports_are None h = cc
    viewports_are (Some all) h =
        let same : record { view = d.view; root = head_of all; viewports = filter_map (use_of d) d.viewports } ≡ t = cc in
        ap (λ (u : Tree). u.viewports) same
