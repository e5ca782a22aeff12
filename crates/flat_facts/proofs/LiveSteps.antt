-- What a call that is no misuse does to the live viewports of a draft.
use Rattle.std.proofs.Common.{◌≡◌, ◌∙◌, sym, subst, ℕ, ◌+◌, ◌-◌, ◌≤◌, Bool, true, false, List, [], ◌∷◌, ◌++◌, length, refl, arith, ap, Some, None}
use Rattle.std.proofs.Common.{length-append}
use Rattle.std.specs.Prelude.{cond, not, ◌==◌, nat_le, filter, Option, is_some, is_none, option_and_then}
use Rattle.std.proofs.lemmas.Bool.Decides.{nat_tests}
use Rattle.std.proofs.lemmas.List.{append-nil}
use Rattle.std.proofs.lemmas.List.Folds.{list_all-append}
use Rattle.flat_base.specs.declared.errors.Reason.{Reason}
use Rattle.flat_base.specs.declared.errors.Reason.TheVariants.{ZeroId, IdInUse, UnknownContent, WrongContent}
use Rattle.flat_base.specs.declared.ids.ContentId.{ContentId}
use Rattle.flat_scene.specs.declared.calls.Call.{Call}
use Rattle.flat_scene.specs.declared.calls.Call.TheVariants.{CreateViewport, SetViewportProperties, ReleaseViewport, CreateImage, SetImageSampleRegion}
use Rattle.flat_scene.specs.declared.calls.Call.TheVariants.{SetImageDestinationSize, SetImageBlendingFunction, SetImageFlip, SetImageOpacity, ReleaseImage}
use Rattle.flat_scene.specs.declared.calls.Call.TheVariants.{CreateFilledRect, SetSolidFill, ReleaseFilledRect, Clear}
use Rattle.flat_scene.specs.declared.setup.Setup.{Setup}
use Rattle.flat_scene.specs.Draft.{Draft, Made, an_image, a_fill, a_viewport, Name, named, without_name, of_serial, content_of, made_of, changed_at}
use Rattle.flat_scene.specs.Effect.{effect, changed_if, on_image, on_viewport, on_fill, is_serial, new_image}
use Rattle.flat_scene.specs.Misuse.{misuse, is_image, is_fill}
use Rattle.flat_facts.specs.declared.live_viewport.LiveViewport.{LiveViewport}
use Rattle.flat_facts.specs.Lives.{lives_then}
use Rattle.flat_facts.proofs.lemmas.Lives.{pair_made, pair_at, live_at, serial_at, lives_by, serials_by, are_apart, are_within, lives_of, IsTidy, lives-same}
use Rattle.flat_facts.proofs.lemmas.Lives.{serials-same, within-more, lives-append, serials-append, changed-pair, image-pair, viewport-pair, fill-pair}
use Rattle.flat_facts.proofs.lemmas.Lives.{none-named, lives-without, lives-unnamed, serials-without, serials-unnamed, all-fewer, apart-fewer, apart-more}
use Rattle.flat_rules.proofs.lemmas.ShownSteps.{serial-append}
use Rattle.flat_rules.proofs.lemmas.ListLemmas.{length-changed}

-- ---- what the tests of a call say

-- the first two tests of a creation, and the third of a release
new-named : (zero : Bool) (o : Option ℕ) (rest : Option Reason) → cond zero (Some ZeroId) (cond (is_some o) (Some IdInUse) rest) ≡ None → o ≡ None
new-named zero None rest none = refl
new-named true (Some k) rest none = cc
new-named false (Some k) rest none = cc

of-sort : (a b c : Bool) → cond a (Some ZeroId) (cond b (Some UnknownContent) (cond (not c) (Some WrongContent) None)) ≡ None → c ≡ true
of-sort true b c none = cc
of-sort false true c none = cc
of-sort false false false none = cc
of-sort false false true none = refl

-- the pair of what an id names
pair-made : (d : Draft) (c : ContentId) (o : Option ℕ)
    → option_and_then (pair_at d.contents) o ≡ option_and_then pair_made (option_and_then (of_serial d.contents) o)
pair-made d c None = refl
pair-made d c (Some k) = refl

image-none : (m : Option Made) → is_image m ≡ true → option_and_then pair_made m ≡ None
image-none None is = refl
image-none (Some (an_image i)) is = refl
image-none (Some (a_fill x)) is = refl
image-none (Some (a_viewport p props)) is = cc

fill-none : (m : Option Made) → is_fill m ≡ true → option_and_then pair_made m ≡ None
fill-none None is = refl
fill-none (Some (an_image i)) is = refl
fill-none (Some (a_fill x)) is = refl
fill-none (Some (a_viewport p props)) is = cc

-- ---- one call

-- The live viewports and the names after a call.
pub record Follows (d : Draft) (call : Call) : Type 0 where
  pub tidy : IsTidy (effect d call)
  pub lives : lives_of (effect d call) ≡ lives_then (lives_of d) call

follows-same : (d : Draft) (call : Call) → IsTidy d → (effect d call).contents ≡ d.contents → (effect d call).content_names ≡ d.content_names
    → (effect d call).viewports ≡ d.viewports → lives_then (lives_of d) call ≡ lives_of d
    → Follows d call
follows-same d call tidy contents names viewports same = record {
  tidy = record {
    within = rw (contents, names) tidy.within;
    apart = rw names tidy.apart;
    viewports = rw (contents, names, viewports) tidy.viewports;
  };
  lives = rw (contents, names) (sym same);
}

-- contents are changed, and remain of the same pairs
tidy-changed : (d : Draft) (f : Made → Made) → ((m : Made) → pair_made (f m) ≡ pair_made m) → (serial : Option ℕ) → IsTidy d
    → (let e : Draft = record d { contents = changed_if serial f d.contents } in IsTidy e × (lives_of e ≡ lives_of d))
tidy-changed d f same None tidy = (record { within = tidy.within; apart = tidy.apart; viewports = tidy.viewports }, refl)
tidy-changed d f same (Some n) tidy =
    let alike : (k : ℕ) → k ≤ length d.contents → pair_at (changed_at n f d.contents) k ≡ pair_at d.contents k =
    λ k fits. changed-pair f same n k d.contents in (
      record {
        within = rw (length-changed f n d.contents) tidy.within;
        apart = tidy.apart;
        viewports = tidy.viewports ∙ sym (serials-same (length d.contents) (pair_at (changed_at n f d.contents)) (pair_at d.contents) alike d.content_names
            tidy.within);
      },
      lives-same (length d.contents) (pair_at (changed_at n f d.contents)) (pair_at d.contents) alike d.content_names tidy.within,
    )

follows-changed : (d : Draft) (call : Call) (f : Made → Made) → ((m : Made) → pair_made (f m) ≡ pair_made m) → (serial : Option ℕ) → IsTidy d
    → effect d call ≡ record d { contents = changed_if serial f d.contents }
    → lives_then (lives_of d) call ≡ lives_of d → Follows d call
follows-changed d call f same serial tidy is stays =
    let both = tidy-changed d f same serial tidy in
    record { tidy = subst IsTidy (sym is) both.0; lives = ap lives_of is ∙ both.1 ∙ sym stays }

-- a content is made
last-serial : (ms : List Made) (m : Made) → of_serial (ms ++ m ∷ []) (length ms + 1) ≡ Some m
last-serial [] m = refl
last-serial (x ∷ ms) m =
    let more : (length (x ∷ ms) + 1 == 1) ≡ false = grind (arith, nat_tests) in
    let less : length (x ∷ ms) + 1 - 1 ≡ length ms + 1 = omega arith in
    rw (more, less) (last-serial ms m)

new-within : (n : ℕ) (id : ℕ) (names : List Name) → are_within n names ≡ true
    → are_within (n + 1) (names ++ (let name : Name = record { id = id; serial = n + 1 } in name) ∷ []) ≡ true
new-within n id names within =
    let name : Name = record { id = id; serial = n + 1 } in
    let fits : nat_le (n + 1) (n + 1) ≡ true = grind (arith, nat_tests) in
    list_all-append (λ (x : Name). nat_le x.serial (n + 1)) names (name ∷ []) ∙ rw (within-more n (n + 1) names (omega arith) within, fits) refl

module _ (d : Draft) (c : ContentId) (m : Made) (tidy : IsTidy d) (fresh : named d.content_names c.0 ≡ None) where
  abbrev contents : List Made
  contents = d.contents ++ m ∷ []

  abbrev name : Name
  name = record { id = c.0; serial = length d.contents + 1 }

  abbrev names : List Name
  names = d.content_names ++ name ∷ []

  earlier : (k : ℕ) → k ≤ length d.contents → pair_at contents k ≡ pair_at d.contents k
  earlier k fits = ap (option_and_then pair_made) (serial-append d.contents (m ∷ []) k fits)

  last : pair_at contents (length d.contents + 1) ≡ pair_made m
  last = ap (option_and_then pair_made) (last-serial d.contents m)

  count : length contents ≡ length d.contents + 1
  count = length-append d.contents (m ∷ [])

  made-within : are_within (length contents) names ≡ true
  made-within = rw count (new-within (length d.contents) c.0 d.content_names tidy.within)

  made-apart : are_apart names ≡ true
  made-apart = apart-more (length d.contents) c.0 d.content_names tidy.within (none-named c.0 d.content_names fresh) tidy.apart

  made-lives : lives_by (pair_at contents) names ≡ lives_of d ++ live_at name (pair_made m)
  made-lives =
      lives-append (pair_at contents) d.content_names (name ∷ [])
      ∙ rw (lives-same (length d.contents) (pair_at contents) (pair_at d.contents) earlier d.content_names tidy.within, last)
      (ap (λ (l : List LiveViewport). lives_of d ++ l) (append-nil (live_at name (pair_made m))))

  made-serials : serials_by (pair_at contents) names ≡ d.viewports ++ serial_at name (pair_made m)
  made-serials =
      serials-append (pair_at contents) d.content_names (name ∷ [])
      ∙ rw (serials-same (length d.contents) (pair_at contents) (pair_at d.contents) earlier d.content_names tidy.within, last)
      (ap (λ (l : List ℕ). serials_by (pair_at d.contents) d.content_names ++ l) (append-nil (serial_at name (pair_made m)))
      ∙ ap (λ (l : List ℕ). l ++ serial_at name (pair_made m)) (sym tidy.viewports))

-- a name is taken away
module _ (d : Draft) (id : ℕ) (tidy : IsTidy d) where
  fewer-within : are_within (length d.contents) (without_name id d.content_names) ≡ true
  fewer-within = all-fewer (λ (x : Name). nat_le x.serial (length d.contents)) (λ (x : Name). not (x.id == id)) d.content_names tidy.within

  fewer-apart : are_apart (without_name id d.content_names) ≡ true
  fewer-apart = apart-fewer (λ (x : Name). not (x.id == id)) d.content_names tidy.apart

pub follows : (setup : Setup) (d : Draft) (call : Call) → IsTidy d → misuse setup d call ≡ None → Follows d call
follows setup d (CreateViewport c p w h inset) tidy good =
    let fresh : named d.content_names c.0 ≡ None = new-named (c.0 == 0) (content_of d c) _ good in
    let m : Made = a_viewport p (record { w = w; h = h; inset = inset }) in
    record {
      tidy = record { within = made-within d c m tidy fresh; apart = made-apart d c m tidy fresh; viewports = sym (made-serials d c m tidy fresh) };
      lives = made-lives d c m tidy fresh;
    }
follows setup d (CreateImage c buffers i w h) tidy good =
    let fresh : named d.content_names c.0 ≡ None = new-named (c.0 == 0) (content_of d c) _ good in
    record {
      tidy = record {
        within = made-within d c (new_image buffers i w h) tidy fresh;
        apart = made-apart d c (new_image buffers i w h) tidy fresh;
        viewports = sym (made-serials d c (new_image buffers i w h) tidy fresh ∙ append-nil d.viewports);
      };
      lives = made-lives d c (new_image buffers i w h) tidy fresh ∙ append-nil (lives_of d);
    }
follows setup d (CreateFilledRect c) tidy good =
    let fresh : named d.content_names c.0 ≡ None = new-named (c.0 == 0) (content_of d c) _ good in
    record {
      tidy = record {
        within = made-within d c (a_fill None) tidy fresh;
        apart = made-apart d c (a_fill None) tidy fresh;
        viewports = sym (made-serials d c (a_fill None) tidy fresh ∙ append-nil d.viewports);
      };
      lives = made-lives d c (a_fill None) tidy fresh ∙ append-nil (lives_of d);
    }
follows setup d (ReleaseViewport c) tidy good = record {
  tidy = record {
    within = fewer-within d c.0 tidy;
    apart = fewer-apart d c.0 tidy;
    viewports = ap (filter (λ (k : ℕ). not (is_serial (content_of d c) k))) tidy.viewports
        ∙ sym (serials-without (pair_at d.contents) c.0 d.content_names tidy.apart);
  };
  lives = lives-without (pair_at d.contents) c.0 d.content_names;
}
follows setup d (ReleaseImage c) tidy good =
    let none : option_and_then (pair_at d.contents) (content_of d c) ≡ None =
    pair-made d c (content_of d c) ∙ image-none (made_of d c) (of-sort (c.0 == 0) (is_none (content_of d c)) (is_image (made_of d c)) good) in
    record {
      tidy = record {
        within = fewer-within d c.0 tidy;
        apart = fewer-apart d c.0 tidy;
        viewports = tidy.viewports ∙ sym (serials-unnamed (pair_at d.contents) c.0 d.content_names tidy.apart none);
      };
      lives = lives-unnamed (pair_at d.contents) c.0 d.content_names tidy.apart none;
    }
follows setup d (ReleaseFilledRect c) tidy good =
    let none : option_and_then (pair_at d.contents) (content_of d c) ≡ None =
    pair-made d c (content_of d c) ∙ fill-none (made_of d c) (of-sort (c.0 == 0) (is_none (content_of d c)) (is_fill (made_of d c)) good) in
    record {
      tidy = record {
        within = fewer-within d c.0 tidy;
        apart = fewer-apart d c.0 tidy;
        viewports = tidy.viewports ∙ sym (serials-unnamed (pair_at d.contents) c.0 d.content_names tidy.apart none);
      };
      lives = lives-unnamed (pair_at d.contents) c.0 d.content_names tidy.apart none;
    }
follows setup d Clear tidy good = record { tidy = record { within = refl; apart = refl; viewports = refl }; lives = refl }
follows setup d (SetViewportProperties c w h inset) tidy good = follows-changed d _ (on_viewport _) (viewport-pair _) (content_of d c) tidy refl refl
follows setup d (SetImageSampleRegion c rect) tidy good = follows-changed d _ (on_image _) (image-pair _) (content_of d c) tidy refl refl
follows setup d (SetImageDestinationSize c w h) tidy good = follows-changed d _ (on_image _) (image-pair _) (content_of d c) tidy refl refl
follows setup d (SetImageBlendingFunction c m) tidy good = follows-changed d _ (on_image _) (image-pair _) (content_of d c) tidy refl refl
follows setup d (SetImageFlip c f) tidy good = follows-changed d _ (on_image _) (image-pair _) (content_of d c) tidy refl refl
follows setup d (SetImageOpacity c v) tidy good = follows-changed d _ (on_image _) (image-pair _) (content_of d c) tidy refl refl
follows setup d (SetSolidFill c r g b a w h) tidy good = follows-changed d _ (on_fill _) (fill-pair _) (content_of d c) tidy refl refl
follows setup d call tidy good = follows-same d call tidy refl refl refl refl
