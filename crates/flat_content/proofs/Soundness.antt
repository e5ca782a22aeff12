-- What each change of a table leaves sound.
use Rattle.std.proofs.Common.{ℕ, zero, suc, slice_get, ◌+◌, ◌<◌, ◌≤◌, ◌^◌, ◌≡◌, ◌≢◌, refl, sym, ◌∙◌, ap, Bool, true, false, cond, List, [], ◌∷◌, ◌++◌, length}
use Rattle.std.proofs.Common.{Option, Some, None, length-append, arith}
use Rattle.std.specs.Prelude.{◌==◌, ◌&&◌, ◌||◌, nat_le, nat_lt, is_some}
use Rattle.std.specs.List.{list_all}
use Rattle.std.proofs.lemmas.Bool.Decides.{nat_tests}
use Rattle.flat_base.specs.declared.limits.TheConstants.{SIDE_MAX}
use Rattle.flat_scene.specs.declared.setup.BufferDecl.{BufferDecl}
use Rattle.flat_scene.specs.Draft.{changed_at, of_serial}
use Rattle.flat_scene.specs.Misuse.{is_bad_image, is_bad_index}
use Rattle.flat_graph.specs.declared.names.NamedNode.{NamedNode}
use Rattle.flat_graph.specs.Names.{key_named, names_but, IsRising}
use Rattle.flat_graph.proofs.lemmas.DraftNames.{changed-length}
use Rattle.flat_graph.proofs.lemmas.NameLemmas.{named-with, named-but, rising-with, rising-but, length-but}
use Rattle.flat_content.specs.declared.stored_content.StoredContent.{StoredContent}
use Rattle.flat_content.proofs.Serials.{changed-alike}
use Rattle.flat_content.specs.Limits.{are_sides}
use Rattle.flat_content.specs.Table.{TableState, IsSound, IsTable, HasRoom, change_at, change_named, released, with_stored}
use Rattle.std.proofs.lemmas.Bool.{and_parts}

pub sound-released : (table : TableState) (id : ℕ) → IsSound table → IsSound (released table id)
sound-released table id t = record {
  rising = rising-but id table.names t.rising;
  no_zero = named-but id table.names 0 ∙ zero_none (id == 0);
  from_one = λ other serial e. t.from_one other serial (was other serial (id == other) (sym (named-but id table.names other) ∙ e));
  made = λ other serial e. t.made other serial (was other serial (id == other) (sym (named-but id table.names other) ∙ e));
}
  where
    zero_none : (b : Bool) → cond b None (key_named table.names 0) ≡ None
    zero_none true = refl
    zero_none false = t.no_zero

    was : (other serial : ℕ) (b : Bool) → cond b None (key_named table.names other) ≡ Some serial → key_named table.names other ≡ Some serial
    was other serial true e = absurd (cc)
    was other serial false e = e

pub table-released : (table : TableState) (id : ℕ) → IsTable table → IsTable (released table id)
table-released table id t = record { sound = sound-released table id t.sound; few = t.few; sides = t.sides }

-- where the contents are as many, and the names the same
pub sound-changed : (table : TableState) (contents : List StoredContent) → length contents ≡ length table.contents → IsSound table
    → IsSound (record table { contents = contents })
sound-changed table contents same t = record {
  rising = t.rising;
  no_zero = t.no_zero;
  from_one = t.from_one;
  made = λ id serial e. let low : serial ≤ length table.contents = t.made id serial e in omega arith;
}

pub change-length : (at : Option ℕ) (change : StoredContent → StoredContent) (contents : List StoredContent)
    → length (change_at at change contents) ≡ length contents
change-length None change contents = refl
change-length (Some serial) change contents = changed-length serial change contents

pub table-set : (table : TableState) (serial : ℕ) (change : StoredContent → StoredContent) → IsTable table
    → IsTable (record table { contents = changed_at serial change table.contents })
table-set table serial change t = record {
  sound = sound-changed table (changed_at serial change table.contents) (changed-length serial change table.contents) t.sound;
  few = let low : length table.contents < 2 ^ 32 = t.few in rw (changed-length serial change table.contents) low;
  sides = t.sides;
}

pub sound-added : (table : TableState) (id : ℕ) (stored : StoredContent) → id ≢ 0 → key_named table.names id ≡ None → IsSound table
    → IsSound (with_stored table id stored)
sound-added table id stored some absent t = record {
  rising = rising-with name table.names absent t.rising;
  no_zero = named-with name table.names 0 absent ∙ zero_none (id == 0) refl;
  from_one = λ other serial e. low other serial (id == other) (sym (named-with name table.names other absent) ∙ e);
  made = λ other serial e. high other serial (id == other) (length-append table.contents (stored ∷ [])) (sym (named-with name table.names other absent) ∙ e);
}
  where
    name : NamedNode
    name = record { id = id; key = length table.contents + 1 }

    zero_none : (b : Bool) → (id == 0) ≡ b → cond b (Some (length table.contents + 1)) (key_named table.names 0) ≡ None
    zero_none true e = absurd (some (grind (arith, nat_tests)))
    zero_none false e = t.no_zero

    low : (other serial : ℕ) (b : Bool) → cond b (Some (length table.contents + 1)) (key_named table.names other) ≡ Some serial → 1 ≤ serial
    low other serial true e = let same : length table.contents + 1 ≡ serial = cc in omega arith
    low other serial false e = t.from_one other serial e

    high : (other serial : ℕ) (b : Bool) → length (table.contents ++ stored ∷ []) ≡ length table.contents + 1
        → cond b (Some (length table.contents + 1)) (key_named table.names other) ≡ Some serial
        → serial ≤ length (table.contents ++ stored ∷ [])
    high other serial true more e = let same : length table.contents + 1 ≡ serial = cc in omega arith
    high other serial false more e = let within : serial ≤ length table.contents = t.made other serial e in omega arith

pub table-added : (table : TableState) (id : ℕ) (stored : StoredContent) → id ≢ 0 → key_named table.names id ≡ None → length table.contents + 1 < 2 ^ 32
    → IsTable table → IsTable (with_stored table id stored)
table-added table id stored some absent room t = record {
  sound = sound-added table id stored some absent t.sound;
  few = omega (arith, length-append table.contents (stored ∷ []));
  sides = t.sides;
}

-- putting what a change makes of a content in its place is that change
pub set-by : (table : TableState) (id serial : ℕ) (was now : StoredContent) (change : StoredContent → StoredContent) (contents : List StoredContent)
    → key_named table.names id ≡ Some serial → of_serial table.contents serial ≡ Some was
    → now ≡ change was → contents ≡ changed_at serial (λ _. now) table.contents → record table { contents = contents } ≡ change_named table id change
set-by table id serial was now change contents named there same put =
    let e : contents ≡ change_at (key_named table.names id) change table.contents =
    put ∙ changed-alike table.contents serial (λ _. now) change was there same ∙ ap (λ (x : Option ℕ). change_at x change table.contents) (sym named) in
    ap (λ (cs : List StoredContent). let t : TableState = record table { contents = cs } in t) e

sides-get : (buffers : List BufferDecl) (i : ℕ) (decl : BufferDecl) → list_all are_sides buffers ≡ true → slice_get buffers i ≡ Some decl
    → are_sides decl ≡ true
sides-get [] i decl all e = absurd (cc)
sides-get (b ∷ bs) zero decl all e = let it : b ≡ decl = cc in rw it at (and_parts (are_sides b) (list_all are_sides bs) all).0
sides-get (b ∷ bs) (suc i) decl all e = sides-get bs i decl (and_parts (are_sides b) (list_all are_sides bs) all).1 e

-- what is no bad image fits 31 bits
pub image-fits : (buffers : List BufferDecl) (i w h index : ℕ) → list_all are_sides buffers ≡ true → is_bad_image (slice_get buffers i) w h ≡ false
    → is_bad_index (slice_get buffers i) index ≡ false
    → (w < 2 ^ 31) × (h < 2 ^ 31)
image-fits buffers i w h index all image place = by_decl (slice_get buffers i) refl image place
  where
    by_decl : (x : Option BufferDecl) → slice_get buffers i ≡ x → is_bad_image x w h ≡ false → is_bad_index x index ≡ false → (w < 2 ^ 31) × (h < 2 ^ 31)
    by_decl None e image place = absurd (cc)
    by_decl (Some decl) e image place = sized (nat_le decl.w SIDE_MAX) (nat_le decl.h SIDE_MAX) (w == 0) (h == 0) (nat_lt decl.w w) (nat_lt decl.h h) refl refl
        refl refl (sides-get buffers i decl all e) image
      where
        sized : (b c z z' d e : Bool) → b ≡ nat_le decl.w SIDE_MAX → c ≡ nat_le decl.h SIDE_MAX → d ≡ nat_lt decl.w w → e ≡ nat_lt decl.h h → b && c ≡ true
            → z || z' || d || e ≡ false → (w < 2 ^ 31) × (h < 2 ^ 31)
        sized true true false false false false b c d e all image = (grind (arith, nat_tests), grind (arith, nat_tests))
        sized false c z z' d e b c' d' e' all image = absurd (cc)
        sized true false z z' d e b c' d' e' all image = absurd (cc)
        sized true true true z' d e b c' d' e' all image = absurd (cc)
        sized true true false true d e b c' d' e' all image = absurd (cc)
        sized true true false false true e b c' d' e' all image = absurd (cc)
        sized true true false false false true b c' d' e' all image = absurd (cc)

-- the viewports in use are free
pub table-use : (table : TableState) (viewports : List ℕ) → IsTable table → IsTable (record table { viewports = viewports })
table-use table viewports t = record {
  sound = record { rising = t.sound.rising; no_zero = t.sound.no_zero; from_one = t.sound.from_one; made = t.sound.made };
  few = t.few;
  sides = t.sides;
}

-- room stays where the contents are as many, and where there are no more names and viewports in use
pub room-same : {contents contents' most most' names most_names viewports most_viewports : ℕ} → HasRoom contents most names most_names viewports most_viewports
    → contents' ≡ contents → most' ≡ most
    → HasRoom contents' most' names most_names viewports most_viewports
room-same room same capacity = record {
  one_content = let h = room.one_content in omega arith;
  one_name = room.one_name;
  one_viewport = room.one_viewport;
  one_serial = let h = room.one_serial in omega arith;
}

pub room-fewer : {contents most names names' most_names most_names' viewports viewports' most_viewports most_viewports' : ℕ}
    → HasRoom contents most names most_names viewports most_viewports
    → names' ≤ names → most_names' ≡ most_names → viewports' ≤ viewports → most_viewports' ≡ most_viewports
    → HasRoom contents most names' most_names' viewports' most_viewports'
room-fewer room fewer same fewer' same' = record {
  one_content = room.one_content;
  one_name = let h = room.one_name in omega arith;
  one_viewport = let h = room.one_viewport in omega arith;
  one_serial = room.one_serial;
}

-- no more names where one was taken away
pub but-fewer : (id : ℕ) (names : List NamedNode) → IsRising names → length (names_but id names) ≤ length names
but-fewer id names rising = fewer (is_some (key_named names id)) (length-but id names rising)
  where
    fewer : (b : Bool) → length (names_but id names) + cond b 1 0 ≡ length names → length (names_but id names) ≤ length names
    fewer true e = omega arith
    fewer false e = omega arith
