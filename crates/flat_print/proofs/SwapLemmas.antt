-- Two lines of the head may change places where the later one is of an earlier sort.
use Rattle.std.proofs.Common.{◌≡◌, ℕ, ◌+◌, ◌<◌, ◌==◌, Bool, true, false, cond, ◌||◌, nat_lt, List, [], ◌∷◌, ◌++◌, length, Option, Some, None, is_some, Ok, refl}
use Rattle.std.proofs.Common.{sym, ◌∙◌, ap, codes, arith, subst, length-append, option_map}
use Rattle.std.specs.Str.{bytes_eq}
use Rattle.std.specs.List.{position_or_len}
use Rattle.std.proofs.lemmas.List.Folds.{position_or_len_push}
use Rattle.std.proofs.lemmas.Slice.Eq.{bytes_eq-Decides}
use Rattle.std.proofs.lemmas.Bool.Decides.{nat_tests}
use Rattle.flat_base.specs.declared.ids.Actor.{Actor}
use Rattle.flat_base.specs.declared.ids.Actor.TheVariants.{Display, Session}
use Rattle.flat_base.specs.declared.ids.SessionNo.{SessionNo}
use Rattle.flat_scene.specs.declared.setup.PairDecl.{PairDecl}
use Rattle.flat_scene.specs.declared.setup.BufferDecl.{BufferDecl}
use Rattle.flat_scene.specs.declared.setup.FenceDecl.{FenceDecl}
use Rattle.flat_places.specs.declared.kinds.FaultKind.TheVariants.{UnknownName}
use Rattle.flat_places.specs.declared.script.Script.{Script}
use Rattle.flat_places.specs.Forms.{Word, each, one_or_more, both, or_kind}
use Rattle.flat_places.specs.Names.{place_of, is_declared, session_named, owner_named}
use Rattle.flat_places.specs.Places.{owner_word}
use Rattle.flat_forms.specs.Head.{with_display, with_session, with_probe, with_buffers, with_pair, with_fence}
use Rattle.flat_forms.proofs.lemmas.FormLemmas.{both_ok, or_kind_ok}
use Rattle.flat_forms.proofs.lemmas.IndexLemmas.{IsFresh, NoPlace, no_place, place_there, place_else, bytes_eq_sym}
use Rattle.flat_forms.proofs.lemmas.StepLemmas.{SizeStep, SessionStep, ProbeStep, BuffersStep, PairStep, FenceStep, Step, size_step, session_step, probe_step}
use Rattle.flat_forms.proofs.lemmas.StepLemmas.{buffers_step, pair_step, fence_step, sort}

-- places in a list with one more name

stays : (at len at' len' i : ℕ) (b : Bool) → cond (nat_lt at len) (Some at) None ≡ Some i → at' ≡ cond (at == len) (len + cond b 0 1) at → len' ≡ len + 1
    → cond (nat_lt at' len') (Some at') None ≡ Some i
stays at len at' len' i b is next more = grind (arith, nat_tests)

pub place_stays : (names : List Word) (n w : Word) (i : ℕ) → place_of names w ≡ Some i → place_of (names ++ n ∷ []) w ≡ Some i
place_stays names n w i is =
    let p = λ (m : Word). bytes_eq m w in
    stays (position_or_len p names) (length names) (position_or_len p (names ++ n ∷ [])) (length (names ++ n ∷ [])) i (bytes_eq n w) is
    (position_or_len_push p names n) (length-append names (n ∷ []))

place_before_at : (names : List Word) (n w : Word) (o : Option ℕ) → place_of names w ≡ o → place_of (names ++ n ∷ []) w ≡ None → place_of names w ≡ None
place_before_at names n w None at none = at
place_before_at names n w (Some i) at none = let some = place_stays names n w i at in absurd (let e = sym some ∙ none in none_some e)
  where
    none_some : Some i ≡ None → ⊥
    none_some wrong = cc

place_before : (names : List Word) (n w : Word) → place_of (names ++ n ∷ []) w ≡ None → place_of names w ≡ None
place_before names n w none = place_before_at names n w (place_of names w) refl none

differs_at : (names : List Word) (n w : Word) (b : Bool) → bytes_eq n w ≡ b → place_of (names ++ n ∷ []) w ≡ None → bytes_eq n w ≡ false
differs_at names n w false at none = at
differs_at names n w true at none =
    let same : n ≡ w = (bytes_eq-Decides n w).0 at in
    let there = place_there names w (place_before names n w none) in
    let here : place_of (names ++ n ∷ []) w ≡ Some (length names) = ap (λ x. place_of (names ++ x ∷ []) w) same ∙ there in
    absurd (some_none (sym here ∙ none))
  where
    some_none : Some (length names) ≡ None → ⊥
    some_none wrong = cc

differs : (names : List Word) (n w : Word) → place_of (names ++ n ∷ []) w ≡ None → bytes_eq n w ≡ false
differs names n w none = differs_at names n w (bytes_eq n w) refl none

five_none : (a b c d e : Option ℕ) → a ≡ None → b ≡ None → c ≡ None → d ≡ None → e ≡ None
    → (is_some a || (is_some b || (is_some c || (is_some d || (is_some e || false))))) ≡ false
five_none a b c d e p q r s t = rw (p, q, r, s, t) refl

undeclared : (s : Script) (w : Word) → NoPlace s w → is_declared s w ≡ false
undeclared s w n = five_none (place_of s.sessions w) (place_of s.probes w) (place_of s.buffers w) (place_of s.pairs w) (place_of s.fences w) n.sessions n.probes
    n.buffers n.pairs n.fences

before_session : (u : Script) (m n : Word) → IsFresh (with_session u m) n → IsFresh u n
before_session u m n fresh =
    let none = no_place (with_session u m) n fresh.fresh in
    record {
      name = fresh.name;
      fresh = undeclared u n (record
          { sessions = place_before u.sessions m n none.sessions; probes = none.probes; buffers = none.buffers; pairs = none.pairs; fences = none.fences });
    }

after_session : (u : Script) (m n : Word) → IsFresh u n → bytes_eq m n ≡ false → IsFresh (with_session u m) n
after_session u m n fresh other =
    let none = no_place u n fresh.fresh in
    record {
      name = fresh.name;
      fresh = undeclared (with_session u m) n
          (record {
            sessions = place_else u.sessions m n other ∙ none.sessions;
            probes = none.probes;
            buffers = none.buffers;
            pairs = none.pairs;
            fences = none.fences;
          });
    }

apart_session : (u : Script) (m n : Word) → IsFresh (with_session u m) n → bytes_eq n m ≡ false
apart_session u m n fresh = bytes_eq_sym n m ∙ differs u.sessions m n (no_place (with_session u m) n fresh.fresh).sessions

before_probe : (u : Script) (m n : Word) → IsFresh (with_probe u m) n → IsFresh u n
before_probe u m n fresh =
    let none = no_place (with_probe u m) n fresh.fresh in
    record {
      name = fresh.name;
      fresh = undeclared u n (record
          { sessions = none.sessions; probes = place_before u.probes m n none.probes; buffers = none.buffers; pairs = none.pairs; fences = none.fences });
    }

after_probe : (u : Script) (m n : Word) → IsFresh u n → bytes_eq m n ≡ false → IsFresh (with_probe u m) n
after_probe u m n fresh other =
    let none = no_place u n fresh.fresh in
    record {
      name = fresh.name;
      fresh = undeclared (with_probe u m) n
          (record {
            sessions = none.sessions;
            probes = place_else u.probes m n other ∙ none.probes;
            buffers = none.buffers;
            pairs = none.pairs;
            fences = none.fences;
          });
    }

apart_probe : (u : Script) (m n : Word) → IsFresh (with_probe u m) n → bytes_eq n m ≡ false
apart_probe u m n fresh = bytes_eq_sym n m ∙ differs u.probes m n (no_place (with_probe u m) n fresh.fresh).probes

before_buffers : (u : Script) (m n : Word) (d : BufferDecl) → IsFresh (with_buffers u m d) n → IsFresh u n
before_buffers u m n d fresh =
    let none = no_place (with_buffers u m d) n fresh.fresh in
    record {
      name = fresh.name;
      fresh = undeclared u n (record
          { sessions = none.sessions; probes = none.probes; buffers = place_before u.buffers m n none.buffers; pairs = none.pairs; fences = none.fences });
    }

after_buffers : (u : Script) (m n : Word) (d : BufferDecl) → IsFresh u n → bytes_eq m n ≡ false → IsFresh (with_buffers u m d) n
after_buffers u m n d fresh other =
    let none = no_place u n fresh.fresh in
    record {
      name = fresh.name;
      fresh = undeclared (with_buffers u m d) n
          (record {
            sessions = none.sessions;
            probes = none.probes;
            buffers = place_else u.buffers m n other ∙ none.buffers;
            pairs = none.pairs;
            fences = none.fences;
          });
    }

apart_buffers : (u : Script) (m n : Word) (d : BufferDecl) → IsFresh (with_buffers u m d) n → bytes_eq n m ≡ false
apart_buffers u m n d fresh = bytes_eq_sym n m ∙ differs u.buffers m n (no_place (with_buffers u m d) n fresh.fresh).buffers

before_pair : (u : Script) (m n : Word) (d : PairDecl) → IsFresh (with_pair u m d) n → IsFresh u n
before_pair u m n d fresh =
    let none = no_place (with_pair u m d) n fresh.fresh in
    record {
      name = fresh.name;
      fresh = undeclared u n (record
          { sessions = none.sessions; probes = none.probes; buffers = none.buffers; pairs = place_before u.pairs m n none.pairs; fences = none.fences });
    }

after_pair : (u : Script) (m n : Word) (d : PairDecl) → IsFresh u n → bytes_eq m n ≡ false → IsFresh (with_pair u m d) n
after_pair u m n d fresh other =
    let none = no_place u n fresh.fresh in
    record {
      name = fresh.name;
      fresh = undeclared (with_pair u m d) n
          (record {
            sessions = none.sessions;
            probes = none.probes;
            buffers = none.buffers;
            pairs = place_else u.pairs m n other ∙ none.pairs;
            fences = none.fences;
          });
    }

apart_pair : (u : Script) (m n : Word) (d : PairDecl) → IsFresh (with_pair u m d) n → bytes_eq n m ≡ false
apart_pair u m n d fresh = bytes_eq_sym n m ∙ differs u.pairs m n (no_place (with_pair u m d) n fresh.fresh).pairs

before_fence : (u : Script) (m n : Word) (d : FenceDecl) → IsFresh (with_fence u m d) n → IsFresh u n
before_fence u m n d fresh =
    let none = no_place (with_fence u m d) n fresh.fresh in
    record {
      name = fresh.name;
      fresh = undeclared u n (record
          { sessions = none.sessions; probes = none.probes; buffers = none.buffers; pairs = none.pairs; fences = place_before u.fences m n none.fences });
    }

after_fence : (u : Script) (m n : Word) (d : FenceDecl) → IsFresh u n → bytes_eq m n ≡ false → IsFresh (with_fence u m d) n
after_fence u m n d fresh other =
    let none = no_place u n fresh.fresh in
    record {
      name = fresh.name;
      fresh = undeclared (with_fence u m d) n
          (record {
            sessions = none.sessions;
            probes = none.probes;
            buffers = none.buffers;
            pairs = none.pairs;
            fences = place_else u.fences m n other ∙ none.fences;
          });
    }

apart_fence : (u : Script) (m n : Word) (d : FenceDecl) → IsFresh (with_fence u m d) n → bytes_eq n m ≡ false
apart_fence u m n d fresh = bytes_eq_sym n m ∙ differs u.fences m n (no_place (with_fence u m d) n fresh.fresh).fences

-- sessions stay

session_stays_at : (u : Script) (n w : Word) (a : SessionNo) (o : Option ℕ) → place_of u.sessions w ≡ o → option_map (λ i. record { 0 = i + 1 }) o ≡ Some a
    → session_named (with_session u n) w ≡ Some a
session_stays_at u n w a None at is = absurd (cc)
session_stays_at u n w a (Some i) at is = ap (option_map (λ j. record { 0 = j + 1 })) (place_stays u.sessions n w i at) ∙ is

session_stays : (u : Script) (n w : Word) (a : SessionNo) → session_named u w ≡ Some a → session_named (with_session u n) w ≡ Some a
session_stays u n w a is = session_stays_at u n w a (place_of u.sessions w) refl is

owner_by : (u : Script) (n w : Word) (a : Actor) (o : Option SessionNo) → session_named u w ≡ o → option_map Session o ≡ Some a
    → option_map Session (session_named (with_session u n) w) ≡ Some a
owner_by u n w a None at is = absurd (cc)
owner_by u n w a (Some s) at is = ap (option_map Session) (session_stays u n w s at) ∙ is

owner_at : (u : Script) (n w : Word) (a : Actor) (b : Bool) → cond b (Some Display) (option_map Session (session_named u w)) ≡ Some a
    → cond b (Some Display) (option_map Session (session_named (with_session u n) w)) ≡ Some a
owner_at u n w a true is = is
owner_at u n w a false is = owner_by u n w a (session_named u w) refl is

owner_stays : (u : Script) (n w : Word) (a : Actor) → owner_named u w ≡ Some a → owner_named (with_session u n) w ≡ Some a
owner_stays u n w a is = owner_at u n w a (bytes_eq w (codes "display")) is

each_stays : (u : Script) (n : Word) (ws : List Word) (os : List Actor) → each (owner_word u) ws ≡ Ok os → each (owner_word (with_session u n)) ws ≡ Ok os
each_stays u n [] os is = is
each_stays u n (w ∷ ws) os is =
    let parts = both_ok (λ a rest. a ∷ rest) (owner_word u w) (each (owner_word u) ws) os is in
    let first = owner_stays u n w parts.a (or_kind_ok UnknownName (owner_named u w) parts.a parts.first) in
    let rest = each_stays u n ws parts.b parts.second in
    ap (λ o. both (λ a r. a ∷ r) (or_kind UnknownName o) (each (owner_word (with_session u n)) ws)) first ∙ ap (λ r. both (λ a q. a ∷ q) (Ok parts.a) r) rest
    ∙ ap Ok parts.value

owners_stay : (u : Script) (n : Word) (ws : List Word) (os : List Actor) → one_or_more (owner_word u) ws ≡ Ok os
    → one_or_more (owner_word (with_session u n)) ws ≡ Ok os
owners_stay u n [] os is = absurd (cc)
owners_stay u n (w ∷ ws) os is = each_stays u n (w ∷ ws) os is

-- the two lines in the other order
pub record Swapped (u : Script) (b ws : List Word) (t : Script) (i j : ℕ) : Type 0 where
  pub mid : Script
  pub first : Step u ws mid
  pub first_sort : sort first ≡ j
  pub second : Step mid b t
  pub second_sort : sort second ≡ i

swap_session_size : (u m t : Script) (b ws : List Word) → SessionStep u b m → SizeStep m ws t → Swapped u b ws t 1 0
swap_session_size u m t b ws x moved =
    let P : Script → Type 0 = λ v. SizeStep v ws t in
    let y = subst P x.made moved in
    record {
      mid = with_display u y.w y.h y.q;
      first = size_step (record { rest = y.rest; w = y.w; h = y.h; q = y.q; begins = y.begins; first = y.first; read = y.read; made = refl });
      first_sort = refl;
      second = session_step (record {
        name = x.name;
        begins = x.begins;
        room = x.room;
        fresh = record { name = x.fresh.name; fresh = x.fresh.fresh };
        made = y.made;
      });
      second_sort = refl;
    }

swap_probe_size : (u m t : Script) (b ws : List Word) → ProbeStep u b m → SizeStep m ws t → Swapped u b ws t 2 0
swap_probe_size u m t b ws x moved =
    let P : Script → Type 0 = λ v. SizeStep v ws t in
    let y = subst P x.made moved in
    record {
      mid = with_display u y.w y.h y.q;
      first = size_step (record { rest = y.rest; w = y.w; h = y.h; q = y.q; begins = y.begins; first = y.first; read = y.read; made = refl });
      first_sort = refl;
      second = probe_step (record {
        name = x.name;
        begins = x.begins;
        room = x.room;
        fresh = record { name = x.fresh.name; fresh = x.fresh.fresh };
        made = y.made;
      });
      second_sort = refl;
    }

swap_probe_session : (u m t : Script) (b ws : List Word) → ProbeStep u b m → SessionStep m ws t → Swapped u b ws t 2 1
swap_probe_session u m t b ws x moved =
    let P : Script → Type 0 = λ v. SessionStep v ws t in
    let y = subst P x.made moved in
    record {
      mid = with_session u y.name;
      first = session_step (record { name = y.name; begins = y.begins; room = y.room; fresh = before_probe u x.name y.name y.fresh; made = refl });
      first_sort = refl;
      second = probe_step (record {
        name = x.name;
        begins = x.begins;
        room = x.room;
        fresh = after_session u y.name x.name x.fresh (apart_probe u x.name y.name y.fresh);
        made = y.made;
      });
      second_sort = refl;
    }

swap_buffers_size : (u m t : Script) (b ws : List Word) → BuffersStep u b m → SizeStep m ws t → Swapped u b ws t 3 0
swap_buffers_size u m t b ws x moved =
    let P : Script → Type 0 = λ v. SizeStep v ws t in
    let y = subst P x.made moved in
    record {
      mid = with_display u y.w y.h y.q;
      first = size_step (record { rest = y.rest; w = y.w; h = y.h; q = y.q; begins = y.begins; first = y.first; read = y.read; made = refl });
      first_sort = refl;
      second = buffers_step (record {
        name = x.name;
        owner = x.owner;
        a = x.a;
        b = x.b;
        c = x.c;
        decl = x.decl;
        begins = x.begins;
        room = x.room;
        fresh = record { name = x.fresh.name; fresh = x.fresh.fresh };
        owned = x.owned;
        count = x.count;
        width = x.width;
        height = x.height;
        made = y.made;
      });
      second_sort = refl;
    }

swap_buffers_session : (u m t : Script) (b ws : List Word) → BuffersStep u b m → SessionStep m ws t → Swapped u b ws t 3 1
swap_buffers_session u m t b ws x moved =
    let P : Script → Type 0 = λ v. SessionStep v ws t in
    let y = subst P x.made moved in
    record {
      mid = with_session u y.name;
      first = session_step (record { name = y.name; begins = y.begins; room = y.room; fresh = before_buffers u x.name y.name x.decl y.fresh; made = refl });
      first_sort = refl;
      second = buffers_step (record {
        name = x.name;
        owner = x.owner;
        a = x.a;
        b = x.b;
        c = x.c;
        decl = x.decl;
        begins = x.begins;
        room = x.room;
        fresh = after_session u y.name x.name x.fresh (apart_buffers u x.name y.name x.decl y.fresh);
        owned =
            session_stays u y.name x.owner x.decl.owner x.owned;
        count = x.count;
        width = x.width;
        height = x.height;
        made = y.made;
      });
      second_sort = refl;
    }

swap_buffers_probe : (u m t : Script) (b ws : List Word) → BuffersStep u b m → ProbeStep m ws t → Swapped u b ws t 3 2
swap_buffers_probe u m t b ws x moved =
    let P : Script → Type 0 = λ v. ProbeStep v ws t in
    let y = subst P x.made moved in
    record {
      mid = with_probe u y.name;
      first = probe_step (record { name = y.name; begins = y.begins; room = y.room; fresh = before_buffers u x.name y.name x.decl y.fresh; made = refl });
      first_sort = refl;
      second = buffers_step (record {
        name = x.name;
        owner = x.owner;
        a = x.a;
        b = x.b;
        c = x.c;
        decl = x.decl;
        begins = x.begins;
        room = x.room;
        fresh = after_probe u y.name x.name x.fresh (apart_buffers u x.name y.name x.decl y.fresh);
        owned = x.owned;
        count = x.count;
        width = x.width;
        height = x.height;
        made = y.made;
      });
      second_sort = refl;
    }

swap_pair_size : (u m t : Script) (b ws : List Word) → PairStep u b m → SizeStep m ws t → Swapped u b ws t 4 0
swap_pair_size u m t b ws x moved =
    let P : Script → Type 0 = λ v. SizeStep v ws t in
    let y = subst P x.made moved in
    record {
      mid = with_display u y.w y.h y.q;
      first = size_step (record { rest = y.rest; w = y.w; h = y.h; q = y.q; begins = y.begins; first = y.first; read = y.read; made = refl });
      first_sort = refl;
      second = pair_step (record {
        name = x.name;
        x = x.x;
        y = x.y;
        decl = x.decl;
        begins = x.begins;
        room = x.room;
        fresh = record { name = x.fresh.name; fresh = x.fresh.fresh };
        single = x.single;
        viewport = x.viewport;
        view = x.view;
        made = y.made;
      });
      second_sort = refl;
    }

swap_pair_session : (u m t : Script) (b ws : List Word) → PairStep u b m → SessionStep m ws t → Swapped u b ws t 4 1
swap_pair_session u m t b ws x moved =
    let P : Script → Type 0 = λ v. SessionStep v ws t in
    let y = subst P x.made moved in
    record {
      mid = with_session u y.name;
      first = session_step (record { name = y.name; begins = y.begins; room = y.room; fresh = before_pair u x.name y.name x.decl y.fresh; made = refl });
      first_sort = refl;
      second = pair_step (record {
        name = x.name;
        x = x.x;
        y = x.y;
        decl = x.decl;
        begins = x.begins;
        room = x.room;
        fresh = after_session u y.name x.name x.fresh (apart_pair u x.name y.name x.decl y.fresh);
        single = x.single;
        viewport =
            owner_stays u y.name x.x x.decl.viewport x.viewport;
        view = session_stays u y.name x.y x.decl.view x.view;
        made = y.made;
      });
      second_sort = refl;
    }

swap_pair_probe : (u m t : Script) (b ws : List Word) → PairStep u b m → ProbeStep m ws t → Swapped u b ws t 4 2
swap_pair_probe u m t b ws x moved =
    let P : Script → Type 0 = λ v. ProbeStep v ws t in
    let y = subst P x.made moved in
    record {
      mid = with_probe u y.name;
      first = probe_step (record { name = y.name; begins = y.begins; room = y.room; fresh = before_pair u x.name y.name x.decl y.fresh; made = refl });
      first_sort = refl;
      second = pair_step (record {
        name = x.name;
        x = x.x;
        y = x.y;
        decl = x.decl;
        begins = x.begins;
        room = x.room;
        fresh = after_probe u y.name x.name x.fresh (apart_pair u x.name y.name x.decl y.fresh);
        single = x.single;
        viewport = x.viewport;
        view = x.view;
        made = y.made;
      });
      second_sort = refl;
    }

swap_pair_buffers : (u m t : Script) (b ws : List Word) → PairStep u b m → BuffersStep m ws t → Swapped u b ws t 4 3
swap_pair_buffers u m t b ws x moved =
    let P : Script → Type 0 = λ v. BuffersStep v ws t in
    let y = subst P x.made moved in
    record {
      mid = with_buffers u y.name y.decl;
      first = buffers_step (record {
        name = y.name;
        owner = y.owner;
        a = y.a;
        b = y.b;
        c = y.c;
        decl = y.decl;
        begins = y.begins;
        room = y.room;
        fresh = before_pair u x.name y.name x.decl y.fresh;
        owned = y.owned;
        count = y.count;
        width = y.width;
        height = y.height;
        made = refl;
      });
      first_sort = refl;
      second = pair_step (record {
        name = x.name;
        x = x.x;
        y = x.y;
        decl = x.decl;
        begins = x.begins;
        room = x.room;
        fresh = after_buffers u y.name x.name y.decl x.fresh (apart_pair u x.name y.name x.decl y.fresh);
        single = x.single;
        viewport = x.viewport;
        view =
            x.view;
        made = y.made;
      });
      second_sort = refl;
    }

swap_fence_size : (u m t : Script) (b ws : List Word) → FenceStep u b m → SizeStep m ws t → Swapped u b ws t 5 0
swap_fence_size u m t b ws x moved =
    let P : Script → Type 0 = λ v. SizeStep v ws t in
    let y = subst P x.made moved in
    record {
      mid = with_display u y.w y.h y.q;
      first = size_step (record { rest = y.rest; w = y.w; h = y.h; q = y.q; begins = y.begins; first = y.first; read = y.read; made = refl });
      first_sort = refl;
      second = fence_step (record {
        name = x.name;
        rest = x.rest;
        decl = x.decl;
        begins = x.begins;
        room = x.room;
        fresh = record { name = x.fresh.name; fresh = x.fresh.fresh };
        owners = x.owners;
        made = y.made;
      });
      second_sort = refl;
    }

swap_fence_session : (u m t : Script) (b ws : List Word) → FenceStep u b m → SessionStep m ws t → Swapped u b ws t 5 1
swap_fence_session u m t b ws x moved =
    let P : Script → Type 0 = λ v. SessionStep v ws t in
    let y = subst P x.made moved in
    record {
      mid = with_session u y.name;
      first = session_step (record { name = y.name; begins = y.begins; room = y.room; fresh = before_fence u x.name y.name x.decl y.fresh; made = refl });
      first_sort = refl;
      second = fence_step (record {
        name = x.name;
        rest = x.rest;
        decl = x.decl;
        begins = x.begins;
        room = x.room;
        fresh = after_session u y.name x.name x.fresh (apart_fence u x.name y.name x.decl y.fresh);
        owners =
            owners_stay u y.name x.rest x.decl.owners x.owners;
        made = y.made;
      });
      second_sort = refl;
    }

swap_fence_probe : (u m t : Script) (b ws : List Word) → FenceStep u b m → ProbeStep m ws t → Swapped u b ws t 5 2
swap_fence_probe u m t b ws x moved =
    let P : Script → Type 0 = λ v. ProbeStep v ws t in
    let y = subst P x.made moved in
    record {
      mid = with_probe u y.name;
      first = probe_step (record { name = y.name; begins = y.begins; room = y.room; fresh = before_fence u x.name y.name x.decl y.fresh; made = refl });
      first_sort = refl;
      second = fence_step (record {
        name = x.name;
        rest = x.rest;
        decl = x.decl;
        begins = x.begins;
        room = x.room;
        fresh = after_probe u y.name x.name x.fresh (apart_fence u x.name y.name x.decl y.fresh);
        owners = x.owners;
        made = y.made;
      });
      second_sort = refl;
    }

swap_fence_buffers : (u m t : Script) (b ws : List Word) → FenceStep u b m → BuffersStep m ws t → Swapped u b ws t 5 3
swap_fence_buffers u m t b ws x moved =
    let P : Script → Type 0 = λ v. BuffersStep v ws t in
    let y = subst P x.made moved in
    record {
      mid = with_buffers u y.name y.decl;
      first = buffers_step (record {
        name = y.name;
        owner = y.owner;
        a = y.a;
        b = y.b;
        c = y.c;
        decl = y.decl;
        begins = y.begins;
        room = y.room;
        fresh = before_fence u x.name y.name x.decl y.fresh;
        owned = y.owned;
        count = y.count;
        width = y.width;
        height = y.height;
        made = refl;
      });
      first_sort = refl;
      second = fence_step (record {
        name = x.name;
        rest = x.rest;
        decl = x.decl;
        begins = x.begins;
        room = x.room;
        fresh = after_buffers u y.name x.name y.decl x.fresh (apart_fence u x.name y.name x.decl y.fresh);
        owners = x.owners;
        made = y.made;
      });
      second_sort = refl;
    }

swap_fence_pair : (u m t : Script) (b ws : List Word) → FenceStep u b m → PairStep m ws t → Swapped u b ws t 5 4
swap_fence_pair u m t b ws x moved =
    let P : Script → Type 0 = λ v. PairStep v ws t in
    let y = subst P x.made moved in
    record {
      mid = with_pair u y.name y.decl;
      first = pair_step (record {
        name = y.name;
        x = y.x;
        y = y.y;
        decl = y.decl;
        begins = y.begins;
        room = y.room;
        fresh = before_fence u x.name y.name x.decl y.fresh;
        single = y.single;
        viewport = y.viewport;
        view = y.view;
        made = refl;
      });
      first_sort = refl;
      second = fence_step (record {
        name = x.name;
        rest = x.rest;
        decl = x.decl;
        begins = x.begins;
        room = x.room;
        fresh = after_pair u y.name x.name y.decl x.fresh (apart_fence u x.name y.name x.decl y.fresh);
        owners = x.owners;
        made = y.made;
      });
      second_sort = refl;
    }

pub swap : (u m t : Script) (b ws : List Word) (x : Step u b m) (y : Step m ws t) → sort y < sort x → Swapped u b ws t (sort x) (sort y)
swap u m t b ws (size_step x) (size_step y) less = absurd (omega arith)
swap u m t b ws (size_step x) (session_step y) less = absurd (omega arith)
swap u m t b ws (size_step x) (probe_step y) less = absurd (omega arith)
swap u m t b ws (size_step x) (buffers_step y) less = absurd (omega arith)
swap u m t b ws (size_step x) (pair_step y) less = absurd (omega arith)
swap u m t b ws (size_step x) (fence_step y) less = absurd (omega arith)
swap u m t b ws (session_step x) (size_step y) less = swap_session_size u m t b ws x y
swap u m t b ws (session_step x) (session_step y) less = absurd (omega arith)
swap u m t b ws (session_step x) (probe_step y) less = absurd (omega arith)
swap u m t b ws (session_step x) (buffers_step y) less = absurd (omega arith)
swap u m t b ws (session_step x) (pair_step y) less = absurd (omega arith)
swap u m t b ws (session_step x) (fence_step y) less = absurd (omega arith)
swap u m t b ws (probe_step x) (size_step y) less = swap_probe_size u m t b ws x y
swap u m t b ws (probe_step x) (session_step y) less = swap_probe_session u m t b ws x y
swap u m t b ws (probe_step x) (probe_step y) less = absurd (omega arith)
swap u m t b ws (probe_step x) (buffers_step y) less = absurd (omega arith)
swap u m t b ws (probe_step x) (pair_step y) less = absurd (omega arith)
swap u m t b ws (probe_step x) (fence_step y) less = absurd (omega arith)
swap u m t b ws (buffers_step x) (size_step y) less = swap_buffers_size u m t b ws x y
swap u m t b ws (buffers_step x) (session_step y) less = swap_buffers_session u m t b ws x y
swap u m t b ws (buffers_step x) (probe_step y) less = swap_buffers_probe u m t b ws x y
swap u m t b ws (buffers_step x) (buffers_step y) less = absurd (omega arith)
swap u m t b ws (buffers_step x) (pair_step y) less = absurd (omega arith)
swap u m t b ws (buffers_step x) (fence_step y) less = absurd (omega arith)
swap u m t b ws (pair_step x) (size_step y) less = swap_pair_size u m t b ws x y
swap u m t b ws (pair_step x) (session_step y) less = swap_pair_session u m t b ws x y
swap u m t b ws (pair_step x) (probe_step y) less = swap_pair_probe u m t b ws x y
swap u m t b ws (pair_step x) (buffers_step y) less = swap_pair_buffers u m t b ws x y
swap u m t b ws (pair_step x) (pair_step y) less = absurd (omega arith)
swap u m t b ws (pair_step x) (fence_step y) less = absurd (omega arith)
swap u m t b ws (fence_step x) (size_step y) less = swap_fence_size u m t b ws x y
swap u m t b ws (fence_step x) (session_step y) less = swap_fence_session u m t b ws x y
swap u m t b ws (fence_step x) (probe_step y) less = swap_fence_probe u m t b ws x y
swap u m t b ws (fence_step x) (buffers_step y) less = swap_fence_buffers u m t b ws x y
swap u m t b ws (fence_step x) (pair_step y) less = swap_fence_pair u m t b ws x y
swap u m t b ws (fence_step x) (fence_step y) less = absurd (omega arith)
