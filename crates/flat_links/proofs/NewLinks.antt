-- What is kept before any entry.
use Rattle.std.proofs.Common.{◌≡◌, ◌∙◌, sym, subst, ℕ, zero, suc, ◌+◌, ◌<◌, Bool, false, List, [], ◌∷◌, length, map, replicate, refl, arith, ap, Some, None}
use Rattle.std.proofs.Common.{slice_index_or}
use Rattle.std.specs.Prelude.{Option}
use Rattle.std.proofs.lemmas.List.{get_or-replicate, length-replicate}
use Rattle.flat_base.specs.declared.ids.SessionNo.{SessionNo}
use Rattle.flat_scene.specs.declared.setup.Setup.{Setup}
use Rattle.flat_scene.specs.declared.trees.Tree.{Tree}
use Rattle.flat_scene.specs.Frames.{sessions_to}
use Rattle.flat_links.specs.declared.session_links.SessionLinks.{SessionLinks}
use Rattle.flat_links.specs.declared.session_links.SeenAtBegin.{SeenAtBegin}
use Rattle.flat_links.specs.declared.pairs.PairState.{PairState}
use Rattle.flat_rules.specs.Numbers.{number}
use Rattle.flat_links.specs.Hearing.{IsBound, losings}
use Rattle.flat_links.specs.Noted.{new_pair}
use Rattle.flat_links.specs.SessionLinks.{AreLinked, AreSessionLinks, IsPairKept, new_session_links, nothing, seen_by_begin}
use Rattle.flat_facts.specs.Pairs.{pair}
use Rattle.flat_rules.specs.Shown.{shown, shown_states, is_connected}
use Rattle.flat_topology.specs.Join.{viewer_from, led_to, led_from, sessions_in, join}
use Rattle.flat_topology.specs.Pairs.{display_pair}
use Rattle.flat_topology.specs.Shown.{Shown}

-- nobody shows a view where nothing is shown
no-viewer : (f : SessionNo → Option Tree) → ((s : SessionNo) → f s ≡ None) → (n p : ℕ) (xs : List SessionNo) → viewer_from n (map f xs) p ≡ None
no-viewer f none n p [] = refl
no-viewer f none n p (x ∷ xs) = rw (none x) (no-viewer f none (n + 1) p xs)

led-nowhere : (shown : Shown) → ((n p : ℕ) → viewer_from n shown p ≡ None) → (views p : ℕ) → sessions_in (led_to shown views p) ≡ []
led-nowhere shown none zero p = refl
led-nowhere shown none (suc views) p = rw (none 1 p) refl

from-nowhere : (shown : Shown) → ((n p : ℕ) → viewer_from n shown p ≡ None) → (o : Option ℕ) → sessions_in (led_from shown o) ≡ []
from-nowhere shown none None = refl
from-nowhere shown none (Some p) = led-nowhere shown none (length shown) p

not-connected : (setup : Setup) (s : SessionNo) → is_connected setup [] s ≡ false
not-connected setup s =
    let none : sessions_in (join setup (shown_states setup [])) ≡ [] =
    from-nowhere (shown_states setup []) (λ n p. no-viewer (shown setup []) (λ t. refl) n p (sessions_to setup.sessions)) (display_pair setup) in
    rw none refl

nothing-seen : (setup : Setup) (s : SessionNo) → nothing ≡ seen_by_begin setup [] s
nothing-seen setup s = ap (λ (b : Bool). let g : SeenAtBegin = record { closed = false; taken = 0; view = None; connected = b } in g)
    (sym (not-connected setup s))

new-followed : (setup : Setup) (s : SessionNo) → AreSessionLinks setup [] s new_session_links
new-followed setup s = record { contents = λ o. refl; losing = refl; begun = nothing-seen setup s; finished = nothing-seen setup s }

no-use : (n : ℕ) → n < n → ⊥
no-use n h = omega (arith, h)

new-kept : (setup : Setup) (i : ℕ) → IsPairKept setup [] (pair i) new_pair
new-kept setup i = record {
  ended = λ w owner. record { tells = λ n few. refl; opened = λ o. refl };
  cleared = λ v owner. record { tells = λ n few. refl; opened = λ o. refl };
  serial = λ v owner some. absurd (no-use 0 some);
  unused = λ none. refl;
  given = refl;
  seen = λ v owner. refl;
  pending = λ v owner. refl;
}

pub new-tied : (setup : Setup) (linked_sessions : List SessionLinks) (pairs : List PairState) (n : ℕ)
    → linked_sessions ≡ replicate setup.sessions new_session_links
    → pairs ≡ replicate n new_pair → n ≡ length setup.pairs → AreLinked setup [] linked_sessions pairs
new-tied setup linked_sessions pairs n all each count =
    let many : length linked_sessions ≡ setup.sessions = ap (length {A = SessionLinks}) all ∙ length-replicate setup.sessions new_session_links in
    let long : length pairs ≡ n = ap (length {A = PairState}) each ∙ length-replicate n new_pair in
    record {
      sessions = many;
      count = long ∙ count;
      each_session = λ i d below.
          let is : slice_index_or linked_sessions i d ≡ new_session_links =
          ap (λ (xs : List SessionLinks). slice_index_or xs i d) all ∙ get_or-replicate setup.sessions i new_session_links d (omega (arith, below, many)) in
          subst (AreSessionLinks setup [] (number i)) (sym is) (new-followed setup (number i));
      each_pair = λ i d below.
          let is : slice_index_or pairs i d ≡ new_pair = ap (λ (xs : List PairState). slice_index_or xs i d) each
          ∙ get_or-replicate n i new_pair d (omega (arith, below, long)) in
          subst (IsPairKept setup [] (pair i)) (sym is) (new-kept setup i);
      bound = λ i d below.
          let is : slice_index_or pairs i d ≡ new_pair = ap (λ (xs : List PairState). slice_index_or xs i d) each
          ∙ get_or-replicate n i new_pair d (omega (arith, below, long)) in
          subst (IsBound setup (losings linked_sessions) (pair i)) (sym is) (record { ended = λ w owner. refl; cleared = λ v owner. refl });
    }
