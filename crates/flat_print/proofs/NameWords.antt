-- The words of a name are those that it was read from: of pairs, buffer collections and fences.
use Rattle.flat_page.specs.Words.{name_at}
use Rattle.std.proofs.Common.{◌≡◌, ℕ, ◌<◌, zero, suc, Bool, false, List, [], ◌∷◌, ◌++◌, length}
use Rattle.std.proofs.Common.{Option, Some, None, Ok, Err, refl, sym, ◌∙◌, ap, slice_get, unwrap_or, arith, get_or}
use Rattle.std.proofs.Common.{append-nil, length-append}
use Rattle.std.specs.Option.{option_map_or}
use Rattle.std.specs.Str.{bytes_eq}
use Rattle.std.proofs.lemmas.Slice.Eq.{bytes_eq-Decides}
use Rattle.std.proofs.lemmas.List.Quantifiers.{position-Some}
use Rattle.std.proofs.lemmas.Option.{slice_get-get_or}
use Rattle.flat_base.specs.declared.ids.SessionNo.{SessionNo}
use Rattle.flat_base.specs.declared.ids.Actor.{Actor}
use Rattle.flat_base.specs.declared.ids.Actor.TheVariants.{Session}
use Rattle.flat_base.specs.declared.ids.FenceNo.{FenceNo}
use Rattle.flat_scene.specs.declared.setup.PairDecl.{PairDecl}
use Rattle.flat_places.specs.declared.kinds.FaultKind.TheVariants.{UnknownName, NotOwner}
use Rattle.flat_places.specs.declared.script.Script.{Script}
use Rattle.flat_places.specs.Forms.{Word, unless_kind, mapped, place}
use Rattle.flat_places.specs.Names.{place_of, is_actor}
use Rattle.flat_places.specs.Places.{owned, view_end}
use Rattle.flat_places.specs.Places.{viewport_end, collection, fence, fence_word as tested_fence}
use Rattle.flat_print.specs.Print.{pair_word, buffers_word, fence_word}
use Rattle.flat_forms.proofs.lemmas.FormLemmas.{mapped_ok, unless_ok, place_ok}
use Rattle.flat_print.proofs.ValueWords.{Spells}

get_or_front : (xs ys : List Word) (i : ℕ) → i < length xs → get_or (xs ++ ys) i [] ≡ get_or xs i []
get_or_front [] ys i within = absurd (omega arith)
get_or_front (x ∷ xs) ys zero within = refl
get_or_front (x ∷ xs) ys (suc i) within = get_or_front xs ys i (omega arith)

pub name_at-place_of : (names more : List Word) (w : Word) (i : ℕ) → place_of names w ≡ Some i → name_at (names ++ more) i ≡ w
name_at-place_of names more w i is =
    let found = position-Some (λ n. bytes_eq n w) names i [] is in
    let within : i < length (names ++ more) = let few : i < length names = found.0 in omega (arith, length-append names more) in
    let same : get_or names i [] ≡ w = (bytes_eq-Decides (get_or names i []) w).0 found.1 in
    ap (λ o. unwrap_or o []) (slice_get-get_or (names ++ more) i [] within) ∙ get_or_front names more i found.0 ∙ same

owned_ok : {D : Type 0} (names : List Word) (decls : List D) (owns : D → Bool) (w : Word) (i : ℕ) → owned names decls owns w ≡ Ok i → place_of names w ≡ Some i
owned_ok {D = D} names decls owns w i is = by_place (place_of names w) is
  where
    by_place : (o : Option ℕ) → option_map_or (λ j. unless_kind NotOwner (option_map_or owns (slice_get decls j) false) (Ok j)) o (Err UnknownName) ≡ Ok i
        → o ≡ Some i
    by_place None wrong = absurd (cc)
    by_place (Some j) found = let tested = unless_ok NotOwner _ (Ok j) i found in let same = tested.given in ap Some (cc)

pub fence_spelt : (s : Script) (a : Actor) (w : Word) (f : FenceNo) → tested_fence s a w ≡ Ok f → w ≡ fence_word s f
fence_spelt s a w f is =
    let m = mapped_ok (λ i. record { 0 = i }) _ f is in
    let at = owned_ok s.fences s.setup.fences _ w m.a m.given in
    sym (name_at-place_of s.fences [] w m.a at) ∙ ap (λ names. name_at names m.a) (append-nil s.fences) ∙ ap (fence_word s) m.value

pair_end_words : (s : Script) (owns : PairDecl → Bool)
    → Spells (place (λ w. mapped (λ i. record { 0 = i }) (owned s.pairs s.setup.pairs owns w))) (λ p. pair_word s p ∷ [])
pair_end_words s owns = record {
  takes = λ words v rest given.
      let p = place_ok _ words v rest given in
      let m = mapped_ok (λ i. record { 0 = i }) _ v p.passes in
      let at = owned_ok s.pairs s.setup.pairs owns p.word m.a m.given in
      p.begins ∙ ap (λ w. w ∷ rest) (sym (name_at-place_of s.pairs [] p.word m.a at) ∙ ap (λ names. name_at names m.a) (append-nil s.pairs)
      ∙ ap (pair_word s) m.value);
}

pub view_end_words : (s : Script) (o : SessionNo) → Spells (view_end s o) (λ p. pair_word s p ∷ [])
view_end_words s o = pair_end_words s (λ d. is_actor (Session o) (Session d.view))

pub viewport_end_words : (s : Script) (o : SessionNo) → Spells (viewport_end s o) (λ p. pair_word s p ∷ [])
viewport_end_words s o = pair_end_words s (λ d. is_actor (Session o) d.viewport)

pub collection_words : (s : Script) (o : SessionNo) → Spells (collection s o) (λ b. buffers_word s b ∷ [])
collection_words s o = record {
  takes = λ words v rest given.
      let p = place_ok _ words v rest given in
      let m = mapped_ok (λ i. record { 0 = i }) _ v p.passes in
      let at = owned_ok s.buffers s.setup.buffers _ p.word m.a m.given in
      p.begins ∙ ap (λ w. w ∷ rest) (sym (name_at-place_of s.buffers [] p.word m.a at) ∙ ap (λ names. name_at names m.a) (append-nil s.buffers)
      ∙ ap (buffers_word s) m.value);
}

pub fence_words : (s : Script) (a : Actor) → Spells (fence s a) (λ f. fence_word s f ∷ [])
fence_words s a = record {
  takes = λ words v rest given.
      let p = place_ok _ words v rest given in
      p.begins ∙ ap (λ w. w ∷ rest) (fence_spelt s a p.word v p.passes);
}
