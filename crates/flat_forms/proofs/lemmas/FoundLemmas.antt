-- What a head line that was read says.
use Rattle.std.proofs.Common.{◌≡◌, ℕ, Bool, true, false, cond, not, ◌&&◌, nat_lt, List, [], ◌∷◌, length, Ok, Err, refl, sym, ◌∙◌, ap, codes, subst}
use Rattle.std.specs.Str.{bytes_eq}
use Rattle.std.proofs.lemmas.Slice.Eq.{bytes_eq-Decides}
use Rattle.flat_base.specs.declared.ids.Actor.{Actor}
use Rattle.flat_base.specs.declared.ids.SessionNo.{SessionNo}
use Rattle.flat_scene.specs.declared.setup.PairDecl.{PairDecl}
use Rattle.flat_scene.specs.declared.setup.BufferDecl.{BufferDecl}
use Rattle.flat_scene.specs.declared.setup.FenceDecl.{FenceDecl}
use Rattle.flat_places.specs.declared.kinds.FaultKind.TheVariants.{BadHead, UnknownName, Limit}
use Rattle.flat_places.specs.declared.script.Script.{Script}
use Rattle.flat_places.specs.Forms.{Word, Reading, whole, ◌<$>◌, ◌<*>◌}
use Rattle.flat_places.specs.Names.{is_name, is_declared}
use Rattle.flat_places.specs.Places.{session, number_from, new_name, pair_owner, owners}
use Rattle.flat_forms.specs.Head.{head_line, display_line, session_line, probe_line, buffers_line, pair_line, fence_line, side, size, buffers, pair, fence}
use Rattle.flat_forms.specs.Head.{has_display, with_display, with_session, with_probe, with_buffers, with_pair, with_fence}
use Rattle.flat_forms.proofs.lemmas.FormLemmas.{Gives, apply_ok, map_ok, place_ok, whole_ok, unless_ok, mapped_ok, or_kind_ok}
use Rattle.flat_forms.proofs.lemmas.IndexLemmas.{new_name_ok}
use Rattle.flat_forms.proofs.lemmas.StepLemmas.{SizeStep, SessionStep, ProbeStep, BuffersStep, PairStep, FenceStep, Step, size_step, session_step, probe_step}
use Rattle.flat_forms.proofs.lemmas.StepLemmas.{buffers_step, pair_step, fence_step}
use Rattle.std.proofs.lemmas.Bool.{not-true}

tested_word : (b : Bool) (w v : Word) → cond {A = Reading Word} b (Ok w) (Err BadHead) ≡ Ok v → w ≡ v
tested_word true w v is = cc
tested_word false w v is = absurd (cc)

new_name_word : (s : Script) (words : List Word) (v : Word) (rest : List Word) → Gives (new_name s) words v rest → words ≡ v ∷ rest
new_name_word s words v rest given =
    let p = place_ok _ words v rest given in
    p.begins ∙ ap (λ w. w ∷ rest) (tested_word (is_name p.word && not (is_declared s p.word)) p.word v p.passes)

size_found : (u : Script) (words : List Word) (t : Script) → display_line u words ≡ Ok t → SizeStep u (codes "display" ∷ words) t
size_found u words t is =
    let m = mapped_ok (λ d. with_display u d.0 d.1 d.2) _ t is in
    let tested = unless_ok BadHead (not (has_display u)) (whole (size u.version) words) m.a m.given in
    record {
      rest = words;
      w = m.a.0;
      h = m.a.1;
      q = m.a.2;
      begins = refl;
      first = not-true (has_display u) tested.passed;
      read = tested.given;
      made = sym m.value;
    }

session_found : (u : Script) (words : List Word) (t : Script) → session_line u words ≡ Ok t → SessionStep u (codes "session" ∷ words) t
session_found u words t is =
    let m = mapped_ok (with_session u) _ t is in
    let tested = unless_ok Limit (nat_lt (length u.sessions) 16) (whole (new_name u) words) m.a m.given in
    let given = whole_ok (new_name u) words m.a tested.given in
    record {
      name = m.a;
      begins = ap (λ r. codes "session" ∷ r) (new_name_word u words m.a [] given);
      room = tested.passed;
      fresh = new_name_ok u words m.a [] given;
      made = sym m.value;
    }

probe_found : (u : Script) (words : List Word) (t : Script) → probe_line u words ≡ Ok t → ProbeStep u (codes "probe" ∷ words) t
probe_found u words t is =
    let m = mapped_ok (with_probe u) _ t is in
    let tested = unless_ok Limit (nat_lt (length u.probes) 8) (whole (new_name u) words) m.a m.given in
    let given = whole_ok (new_name u) words m.a tested.given in
    record {
      name = m.a;
      begins = ap (λ r. codes "probe" ∷ r) (new_name_word u words m.a [] given);
      room = tested.passed;
      fresh = new_name_ok u words m.a [] given;
      made = sym m.value;
    }

fence_found : (u : Script) (words : List Word) (t : Script) → fence_line u words ≡ Ok t → FenceStep u (codes "fence" ∷ words) t
fence_found u words t is =
    let h : Word → List Actor → Word × FenceDecl = λ name actors. (name, record { owners = actors }) in
    let m = mapped_ok (λ d. with_fence u d.0 d.1) _ t is in
    let tested = unless_ok Limit (nat_lt (length u.fences) 4096) (whole (fence u) words) m.a m.given in
    let last = apply_ok (h <$> new_name u) (owners u) words m.a [] (whole_ok (fence u) words m.a tested.given) in
    let first = map_ok h (new_name u) words last.g last.mid last.first in
    let value : h first.a last.a ≡ m.a = ap (λ g. g last.a) first.value ∙ last.value in
    record {
      name = first.a;
      rest = last.mid;
      decl = record { owners = last.a };
      begins = ap (λ r. codes "fence" ∷ r) (new_name_word u words first.a last.mid first.given);
      room = tested.passed;
      fresh = new_name_ok u words first.a last.mid first.given;
      owners = last.second.value;
      made = sym m.value ∙ ap (λ d. with_fence u d.0 d.1) (sym value);
    }

pair_found : (u : Script) (words : List Word) (t : Script) → pair_line u words ≡ Ok t → PairStep u (codes "pair" ∷ words) t
pair_found u words t is =
    let h : Word → Actor → SessionNo → Word × PairDecl = λ name x y. (name, record { viewport = x; view = y }) in
    let m = mapped_ok (λ d. with_pair u d.0 d.1) _ t is in
    let tested = unless_ok Limit (nat_lt (length u.pairs) 4096) (whole (pair u) words) m.a m.given in
    let last = apply_ok (h <$> new_name u <*> pair_owner u) (session u) words m.a [] (whole_ok (pair u) words m.a tested.given) in
    let next = apply_ok (h <$> new_name u) (pair_owner u) words last.g last.mid last.first in
    let first = map_ok h (new_name u) words next.g next.mid next.first in
    let x = place_ok _ next.mid next.a last.mid next.second in
    let y = place_ok _ last.mid last.a [] last.second in
    let lone = unless_ok BadHead _ _ next.a x.passes in
    let value : h first.a next.a last.a ≡ m.a = ap (λ g. g next.a last.a) first.value ∙ ap (λ g. g last.a) next.value ∙ last.value in
    record {
      name = first.a;
      x = x.word;
      y = y.word;
      decl = record { viewport = next.a; view = last.a };
      begins = ap (λ r. codes "pair" ∷ r) (new_name_word u words first.a next.mid first.given
          ∙ ap (λ r. first.a ∷ r) (x.begins ∙ ap (λ r. x.word ∷ r) y.begins));
      room = tested.passed;
      fresh = new_name_ok u words first.a next.mid first.given;
      single = not-true _ lone.passed;
      viewport = or_kind_ok UnknownName _ next.a lone.given;
      view = or_kind_ok UnknownName _ last.a y.passes;
      made = sym m.value ∙ ap (λ d. with_pair u d.0 d.1) (sym value);
    }

buffers_found : (u : Script) (words : List Word) (t : Script) → buffers_line u words ≡ Ok t → BuffersStep u (codes "buffers" ∷ words) t
buffers_found u words t is =
    let h : Word → SessionNo → ℕ → ℕ → ℕ → Word × BufferDecl = λ name a n x y. (name, record { owner = a; count = n; w = x; h = y }) in
    let m = mapped_ok (λ d. with_buffers u d.0 d.1) _ t is in
    let tested = unless_ok Limit (nat_lt (length u.buffers) 256) (whole (buffers u) words) m.a m.given in
    let five = apply_ok (h <$> new_name u <*> session u <*> number_from 1 64 <*> side) side words m.a [] (whole_ok (buffers u) words m.a tested.given) in
    let four = apply_ok (h <$> new_name u <*> session u <*> number_from 1 64) side words five.g five.mid five.first in
    let three = apply_ok (h <$> new_name u <*> session u) (number_from 1 64) words four.g four.mid four.first in
    let two = apply_ok (h <$> new_name u) (session u) words three.g three.mid three.first in
    let first = map_ok h (new_name u) words two.g two.mid two.first in
    let o = place_ok _ two.mid two.a three.mid two.second in
    let a = place_ok _ three.mid three.a four.mid three.second in
    let b = place_ok _ four.mid four.a five.mid four.second in
    let c = place_ok _ five.mid five.a [] five.second in
    let value : h first.a two.a three.a four.a five.a ≡ m.a =
    ap (λ g. g two.a three.a four.a five.a) first.value ∙ ap (λ g. g three.a four.a five.a) two.value ∙ ap (λ g. g four.a five.a) three.value
    ∙ ap (λ g. g five.a) four.value ∙ five.value in
    record {
      name = first.a;
      owner = o.word;
      a = a.word;
      b = b.word;
      c = c.word;
      decl = record { owner = two.a; count = three.a; w = four.a; h = five.a };
      begins = ap (λ r. codes "buffers" ∷ r) (new_name_word u words first.a two.mid first.given
          ∙ ap (λ r. first.a ∷ r) (o.begins ∙ ap (λ r. o.word ∷ r) (a.begins ∙ ap (λ r. a.word ∷ r) (b.begins ∙ ap (λ r. b.word ∷ r) c.begins))));
      room = tested.passed;
      fresh = new_name_ok u words first.a two.mid first.given;
      owned = or_kind_ok UnknownName _ two.a o.passes;
      count = a.passes;
      width = b.passes;
      height = c.passes;
      made = sym m.value ∙ ap (λ d. with_buffers u d.0 d.1) (sym value);
    }

step_at : (u : Script) (v w : Word) (words : List Word) (t : Script) → bytes_eq v w ≡ true → Step u (w ∷ words) t → Step u (v ∷ words) t
step_at u v w words t same step = let P : Word → Type 0 = λ x. Step u (x ∷ words) t in subst P (sym ((bytes_eq-Decides v w).0 same)) step

by_fence : (u : Script) (w : Word) (words : List Word) (t : Script) (b : Bool) → bytes_eq w (codes "fence") ≡ b
    → cond b (fence_line u words) (Err BadHead) ≡ Ok t → Step u (w ∷ words) t
by_fence u w words t true at is = step_at u w (codes "fence") words t at (fence_step (fence_found u words t is))
by_fence u w words t false at is = absurd (cc)

by_pair : (u : Script) (w : Word) (words : List Word) (t : Script) (b : Bool) → bytes_eq w (codes "pair") ≡ b
    → cond b (pair_line u words) (cond (bytes_eq w (codes "fence")) (fence_line u words) (Err BadHead)) ≡ Ok t → Step u (w ∷ words) t
by_pair u w words t true at is = step_at u w (codes "pair") words t at (pair_step (pair_found u words t is))
by_pair u w words t false at is = by_fence u w words t (bytes_eq w (codes "fence")) refl is

by_buffers : (u : Script) (w : Word) (words : List Word) (t : Script) (b : Bool) → bytes_eq w (codes "buffers") ≡ b
    → cond b (buffers_line u words) (cond (bytes_eq w (codes "pair")) (pair_line u words)
    (cond (bytes_eq w (codes "fence")) (fence_line u words) (Err BadHead))) ≡ Ok t → Step u (w ∷ words) t
by_buffers u w words t true at is = step_at u w (codes "buffers") words t at (buffers_step (buffers_found u words t is))
by_buffers u w words t false at is = by_pair u w words t (bytes_eq w (codes "pair")) refl is

by_probe : (u : Script) (w : Word) (words : List Word) (t : Script) (b : Bool) → bytes_eq w (codes "probe") ≡ b
    → cond b (probe_line u words) (cond (bytes_eq w (codes "buffers")) (buffers_line u words)
    (cond (bytes_eq w (codes "pair")) (pair_line u words) (cond (bytes_eq w (codes "fence")) (fence_line u words) (Err BadHead)))) ≡ Ok t → Step u (w ∷ words) t
by_probe u w words t true at is = step_at u w (codes "probe") words t at (probe_step (probe_found u words t is))
by_probe u w words t false at is = by_buffers u w words t (bytes_eq w (codes "buffers")) refl is

by_session : (u : Script) (w : Word) (words : List Word) (t : Script) (b : Bool) → bytes_eq w (codes "session") ≡ b
    → cond b (session_line u words) (cond (bytes_eq w (codes "probe")) (probe_line u words)
    (cond (bytes_eq w (codes "buffers")) (buffers_line u words)
    (cond (bytes_eq w (codes "pair")) (pair_line u words) (cond (bytes_eq w (codes "fence")) (fence_line u words) (Err BadHead))))) ≡ Ok t
    → Step u (w ∷ words) t
by_session u w words t true at is = step_at u w (codes "session") words t at (session_step (session_found u words t is))
by_session u w words t false at is = by_probe u w words t (bytes_eq w (codes "probe")) refl is

by_display : (u : Script) (w : Word) (words : List Word) (t : Script) (b : Bool) → bytes_eq w (codes "display") ≡ b
    → cond b (display_line u words) (cond (bytes_eq w (codes "session")) (session_line u words)
    (cond (bytes_eq w (codes "probe")) (probe_line u words)
    (cond (bytes_eq w (codes "buffers")) (buffers_line u words)
    (cond (bytes_eq w (codes "pair")) (pair_line u words) (cond (bytes_eq w (codes "fence")) (fence_line u words) (Err BadHead)))))) ≡ Ok t
    → Step u (w ∷ words) t
by_display u w words t true at is = step_at u w (codes "display") words t at (size_step (size_found u words t is))
by_display u w words t false at is = by_session u w words t (bytes_eq w (codes "session")) refl is

pub step_found : (u : Script) (ws : List Word) (t : Script) → head_line u ws ≡ Ok t → Step u ws t
step_found u [] t is = absurd (cc)
step_found u (w ∷ words) t is = by_display u w words t (bytes_eq w (codes "display")) refl is
