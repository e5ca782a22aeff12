-- Who stands in the joined tree.
use Rattle.std.proofs.Common.{ℕ, zero, suc, ◌+◌, ◌<◌, ◌≡◌, ◌⊎◌, inl, inr, refl, sym, ◌∙◌, subst, ◌++◌, length, Option, Some, None, arith}
use Rattle.std.specs.List.{Contains}
use Rattle.flat_scene.specs.declared.setup.Setup.{Setup}
use Rattle.flat_scene.specs.declared.trees.Children.{Children}
use Rattle.flat_scene.specs.declared.trees.Children.TheVariants.{Empty}
use Rattle.flat_scene.specs.declared.trees.Content.{Content}
use Rattle.flat_scene.specs.declared.trees.Content.TheVariants as content
use Rattle.flat_scene.specs.Trees.{first}
use Rattle.flat_topology.specs.Shown.{Shown, state_of, view_of, pair_in, pairs_in, pairs_shown}
use Rattle.flat_topology.specs.Pairs.{display_pair}
use Rattle.flat_topology.specs.Links.{IsBelow, IsConnectedThrough, HangsBelow}
use Rattle.flat_topology.specs.Fit.{FitsSetup}
use Rattle.flat_topology.specs.Join.{JoinedTree, Viewer, viewer_from, linked_to, joined_nodes, viewed, led_to, led_from, sessions_in}
use Rattle.flat_topology.proofs.lemmas.Distinct.{in-first, in-second, in-third, In, Distinct, in-left, in-right, in-append, distinct-append, distinct-left}
use Rattle.flat_topology.proofs.lemmas.Distinct.{distinct-right, distinct-apart, contains-in, in-contains, distinct-pairs}
use Rattle.flat_topology.proofs.lemmas.Distances.{viewer-state, viewer-found, view-one, below-one, distance-one, distance-below, no-cycle}

-- ---- nodes and their viewports, whatever a pair leads to

module _ (led : ℕ → JoinedTree) where
  -- who stands below a content, stands in what its pair leads to
  in-linked : (what : Option Content) (c : ℕ) → In c (sessions_in (linked_to led what)) → (q : ℕ) × In q (pair_in what) × In c (sessions_in (led q))
  in-linked None c on = absurd on
  in-linked (Some (content.Fill serial rgba w h)) c on = absurd on
  in-linked (Some (content.Image serial buffers index sample w h blend flip opacity)) c on = absurd on
  in-linked (Some (content.Viewport serial pair props)) c on = (pair.0, inl refl, on)

  linked-in : (what : Option Content) (q c : ℕ) → In q (pair_in what) → In c (sessions_in (led q)) → In c (sessions_in (linked_to led what))
  linked-in None q c has on = absurd has
  linked-in (Some (content.Fill serial rgba w h)) q c has on = absurd has
  linked-in (Some (content.Image serial buffers index sample w h blend flip opacity)) q c has on = absurd has
  linked-in (Some (content.Viewport serial pair props)) q c (inl same) on = rw (← same) on
  linked-in (Some (content.Viewport serial pair props)) q c (inr more) on = absurd more

  distinct-linked : (what : Option Content) → ((q : ℕ) → In q (pair_in what) → Distinct (sessions_in (led q)))
      → Distinct (sessions_in (linked_to led what))
  distinct-linked None each = tt
  distinct-linked (Some (content.Fill serial rgba w h)) each = tt
  distinct-linked (Some (content.Image serial buffers index sample w h blend flip opacity)) each = tt
  distinct-linked (Some (content.Viewport serial pair props)) each = each pair.0 (inl refl)

  -- the same of nodes
  pub in-nodes : (s : ℕ) (nodes : Children) (c : ℕ) → In c (sessions_in (joined_nodes led s nodes))
      → (q : ℕ) × In q (pairs_in nodes) × In c (sessions_in (led q))
  in-nodes s Empty c on = absurd on
  in-nodes s (first serial scale turn place clip opacity hits what children rest) c on =
      by_first (in-append c (sessions_in (linked_to led what)) (sessions_in (joined_nodes led s children) ++ sessions_in (joined_nodes led s rest)) on)
      (in-nodes s children c) (in-nodes s rest c)
    where
      by_first : In c (sessions_in (linked_to led what)) ⊎ In c (sessions_in (joined_nodes led s children) ++ sessions_in (joined_nodes led s rest))
          → (In c (sessions_in (joined_nodes led s children)) → (q : ℕ) × In q (pairs_in children) × In c (sessions_in (led q)))
          → (In c (sessions_in (joined_nodes led s rest)) → (q : ℕ) × In q (pairs_in rest) × In c (sessions_in (led q)))
          → (q : ℕ) × In q ((pair_in what ++ pairs_in children) ++ pairs_in rest) × In c (sessions_in (led q))
      by_first (inl here) below after =
          let found : (q : ℕ) × In q (pair_in what) × In c (sessions_in (led q)) = in-linked what c here in
          (found.0, in-first found.0 (pair_in what) (pairs_in children) (pairs_in rest) found.1, found.2)
      by_first (inr later) below after = by_rest (in-append c (sessions_in (joined_nodes led s children)) (sessions_in (joined_nodes led s rest)) later)
        where
          by_rest : In c (sessions_in (joined_nodes led s children)) ⊎ In c (sessions_in (joined_nodes led s rest))
              → (q : ℕ) × In q ((pair_in what ++ pairs_in children) ++ pairs_in rest) × In c (sessions_in (led q))
          by_rest (inl under) = let found = below under in (found.0, in-second found.0 (pair_in what) (pairs_in children) (pairs_in rest) found.1, found.2)
          by_rest (inr beside) = let found = after beside in (found.0, in-right found.0 (pair_in what ++ pairs_in children) (pairs_in rest) found.1, found.2)

  pub nodes-in : (s : ℕ) (nodes : Children) (q c : ℕ) → In q (pairs_in nodes) → In c (sessions_in (led q))
      → In c (sessions_in (joined_nodes led s nodes))
  nodes-in s Empty q c has on = absurd has
  nodes-in s (first serial scale turn place clip opacity hits what children rest) q c has on =
      by_first (in-append q (pair_in what ++ pairs_in children) (pairs_in rest) has) (λ below. nodes-in s children q c below on)
      (λ after. nodes-in s rest q c after on)
    where
      by_first : In q (pair_in what ++ pairs_in children) ⊎ In q (pairs_in rest)
          → (In q (pairs_in children) → In c (sessions_in (joined_nodes led s children)))
          → (In q (pairs_in rest) → In c (sessions_in (joined_nodes led s rest)))
          → In c (sessions_in (linked_to led what) ++ (sessions_in (joined_nodes led s children) ++ sessions_in (joined_nodes led s rest)))
      by_first (inr late) below after =
          in-right c (sessions_in (linked_to led what)) (sessions_in (joined_nodes led s children) ++ sessions_in (joined_nodes led s rest))
          (in-right c (sessions_in (joined_nodes led s children)) (sessions_in (joined_nodes led s rest)) (after late))
      by_first (inl early) below after = by_own (in-append q (pair_in what) (pairs_in children) early)
        where
          by_own : In q (pair_in what) ⊎ In q (pairs_in children)
              → In c (sessions_in (linked_to led what) ++ (sessions_in (joined_nodes led s children) ++ sessions_in (joined_nodes led s rest)))
          by_own (inl own) = in-left c (sessions_in (linked_to led what)) (sessions_in (joined_nodes led s children) ++ sessions_in (joined_nodes led s rest))
              (linked-in what q c own on)
          by_own (inr under) =
              in-right c (sessions_in (linked_to led what)) (sessions_in (joined_nodes led s children) ++ sessions_in (joined_nodes led s rest))
              (in-left c (sessions_in (joined_nodes led s children)) (sessions_in (joined_nodes led s rest)) (below under))

  -- nobody stands twice below nodes, where nobody does in what a pair leads to, nor in what two pairs lead to
  pub distinct-nodes : (s : ℕ) (nodes : Children) → Distinct (pairs_in nodes) → ((q : ℕ) → In q (pairs_in nodes) → Distinct (sessions_in (led q)))
      → ((q r c : ℕ) → In q (pairs_in nodes) → In r (pairs_in nodes) → In c (sessions_in (led q)) → In c (sessions_in (led r)) → q ≡ r)
      → Distinct (sessions_in (joined_nodes led s nodes))
  distinct-nodes s Empty pairs each one = tt
  distinct-nodes s (first serial scale turn place clip opacity hits what children rest) pairs each one =
      distinct-append (sessions_in (linked_to led what)) (sessions_in (joined_nodes led s children) ++ sessions_in (joined_nodes led s rest))
      (distinct-linked what (λ q on. each q (own q on)))
      (distinct-append (sessions_in (joined_nodes led s children)) (sessions_in (joined_nodes led s rest))
      (distinct-nodes s children (distinct-right (pair_in what) (pairs_in children) (distinct-left (pair_in what ++ pairs_in children) (pairs_in rest) pairs))
      (λ q on. each q (below q on)) (λ q r c on on'. one q r c (below q on) (below r on')))
      (distinct-nodes s rest (distinct-right (pair_in what ++ pairs_in children) (pairs_in rest) pairs)
      (λ q on. each q (after q on)) (λ q r c on on'. one q r c (after q on) (after r on')))
      (λ c left right. apart-rest c (in-nodes s children c left) (in-nodes s rest c right)))
      (λ c left right. apart-own c (in-linked what c left)
      (in-append c (sessions_in (joined_nodes led s children)) (sessions_in (joined_nodes led s rest)) right))
    where
      own : (q : ℕ) → In q (pair_in what) → In q ((pair_in what ++ pairs_in children) ++ pairs_in rest)
      own q on = in-first q (pair_in what) (pairs_in children) (pairs_in rest) on

      below : (q : ℕ) → In q (pairs_in children) → In q ((pair_in what ++ pairs_in children) ++ pairs_in rest)
      below q on = in-second q (pair_in what) (pairs_in children) (pairs_in rest) on

      after : (q : ℕ) → In q (pairs_in rest) → In q ((pair_in what ++ pairs_in children) ++ pairs_in rest)
      after q on = in-third q (pair_in what) (pairs_in children) (pairs_in rest) on

      apart-rest : (c : ℕ) → ((q : ℕ) × In q (pairs_in children) × In c (sessions_in (led q)))
          → ((q : ℕ) × In q (pairs_in rest) × In c (sessions_in (led q))) → ⊥
      apart-rest c l r =
          let same : l.0 ≡ r.0 = one l.0 r.0 c (below l.0 l.1) (after r.0 r.1) l.2 r.2 in
          distinct-apart (pair_in what ++ pairs_in children) (pairs_in rest) pairs l.0 (in-right l.0 (pair_in what) (pairs_in children) l.1) (rw same r.1)

      apart-own : (c : ℕ) → ((q : ℕ) × In q (pair_in what) × In c (sessions_in (led q)))
          → In c (sessions_in (joined_nodes led s children)) ⊎ In c (sessions_in (joined_nodes led s rest)) → ⊥
      apart-own c l (inl right) =
          let r : (q : ℕ) × In q (pairs_in children) × In c (sessions_in (led q)) = in-nodes s children c right in
          let same : l.0 ≡ r.0 = one l.0 r.0 c (own l.0 l.1) (below r.0 r.1) l.2 r.2 in
          distinct-apart (pair_in what) (pairs_in children) (distinct-left (pair_in what ++ pairs_in children) (pairs_in rest) pairs) l.0 l.1 (rw same r.1)
      apart-own c l (inr right) =
          let r : (q : ℕ) × In q (pairs_in rest) × In c (sessions_in (led q)) = in-nodes s rest c right in
          let same : l.0 ≡ r.0 = one l.0 r.0 c (own l.0 l.1) (after r.0 r.1) l.2 r.2 in
          distinct-apart (pair_in what ++ pairs_in children) (pairs_in rest) pairs l.0 (in-left l.0 (pair_in what) (pairs_in children) l.1) (rw same r.1)

-- ---- who is reached from a pair

module _ (setup : Setup) (shown : Shown) (fit : FitsSetup setup shown) where
  -- c is reached from a pair through so many sessions: it shows the pair's view, or it is below one that is reached
  abbrev pub IsReached : ℕ → ℕ → ℕ → Type 0
  IsReached zero p c = view_of (state_of shown c) ≡ Some p
  IsReached (suc between) p c = (s : ℕ) × IsBelow shown c s × IsReached between p s

  -- what is reached from a pair of a session's viewport, hangs below the session
  reached-hangs : (between q s c : ℕ) → IsReached between q c → Contains (pairs_shown shown s) q → HangsBelow shown between c s
  reached-hangs zero q s c way has = record { pair = q; viewport = has; view = way }
  reached-hangs (suc between) q s c way has = (way.0, way.1, reached-hangs between q s way.0 way.2 has)

  reached-more : (between p q s c : ℕ) → IsReached between q c → Contains (pairs_shown shown s) q → view_of (state_of shown s) ≡ Some p
      → IsReached (suc between) p c
  reached-more zero p q s c way has shows = (s, record { pair = q; viewport = has; view = way }, shows)
  reached-more (suc between) p q s c way has shows = (way.0, way.1, reached-more between p q s way.0 way.2 has shows)

  -- a session is reached through so many others from one pair only
  reached-one : (between p q c : ℕ) → IsReached between p c → IsReached between q c → p ≡ q
  reached-one zero p q c x y = let e : Some p ≡ Some q = sym x ∙ y in cc
  reached-one (suc between) p q c x y =
      let same : x.0 ≡ y.0 = below-one setup shown fit c x.0 y.0 x.1 y.1 in
      reached-one between p q x.0 x.2 (rw (← same) at y.2)

  pub reached-connected : (between p c : ℕ) → display_pair setup ≡ Some p → IsReached between p c → IsConnectedThrough setup shown between c
  reached-connected zero p c display way = record { pair = p; viewport = display; view = way }
  reached-connected (suc between) p c display way = (way.0, way.1, reached-connected between p way.0 display way.2)

  -- who stands in what a pair leads to, is reached from it
  in-viewed : (views p c : ℕ) (found : Option Viewer) → viewer_from 1 shown p ≡ found → In c (sessions_in (viewed (led_to shown views) found))
      → ((q : ℕ) → In c (sessions_in (led_to shown views q)) → (between : ℕ) × IsReached between q c) → (between : ℕ) × IsReached between p c
  in-viewed views p c None e on again = absurd on
  in-viewed views p c (Some viewer) e (inl same) again = (0, rw same (viewer-state shown p viewer e).0)
  in-viewed views p c (Some viewer) e (inr on) again =
      let state = viewer-state shown p viewer e in
      let found : (q : ℕ) × In q (pairs_in viewer.nodes) × In c (sessions_in (led_to shown views q)) =
      in-nodes (led_to shown views) viewer.session viewer.nodes c on in
      let way : (between : ℕ) × IsReached between found.0 c = again found.0 found.2 in
      let has : Contains (pairs_shown shown viewer.session) found.0 = contains-in found.0 _ (rw (← state.1) found.1) in
      (suc way.0, reached-more way.0 p found.0 viewer.session c way.1 has state.0)

  pub in-led : (views p c : ℕ) → In c (sessions_in (led_to shown views p)) → (between : ℕ) × IsReached between p c
  in-led zero p c on = absurd on
  in-led (suc views) p c on = in-viewed views p c (viewer_from 1 shown p) refl on (λ q. in-led views q c)

  -- ---- each at most once

  -- whoever shows the pair is connected
  IsLive : ℕ → Type 0
  IsLive p = (s : ℕ) → view_of (state_of shown s) ≡ Some p → (d : ℕ) × IsConnectedThrough setup shown d s

  module _ (views p : ℕ) (viewer : Viewer) (is_viewer : viewer_from 1 shown p ≡ Some viewer) (d : ℕ)
      (connected : IsConnectedThrough setup shown d viewer.session) where
    shows : (q : ℕ) → In q (pairs_in viewer.nodes) → Contains (pairs_shown shown viewer.session) q
    shows q on = contains-in q _ (rw (← (viewer-state shown p viewer is_viewer).1) on)

    -- the viewer doesn't stand below itself
    not_below_itself : ((q : ℕ) × In q (pairs_in viewer.nodes) × In viewer.session (sessions_in (led_to shown views q))) → ⊥
    not_below_itself found =
        let way = in-led views found.0 viewer.session found.2 in
        no-cycle setup shown fit viewer.session way.0 d connected (reached-hangs way.0 found.0 viewer.session viewer.session way.1 (shows found.0 found.1))

    -- who stands below two of its viewports, stands below one
    below_one_pair : (q r c : ℕ) → In q (pairs_in viewer.nodes) → In r (pairs_in viewer.nodes) → In c (sessions_in (led_to shown views q))
        → In c (sessions_in (led_to shown views r)) → q ≡ r
    below_one_pair q r c on on' here there =
        let way = in-led views q c here in
        let way' = in-led views r c there in
        let x = distance-below setup shown fit way.0 d c viewer.session (reached-hangs way.0 q viewer.session c way.1 (shows q on)) connected in
        let y = distance-below setup shown fit way'.0 d c viewer.session (reached-hangs way'.0 r viewer.session c way'.1 (shows r on')) connected in
        let distances : suc (d + way.0) ≡ suc (d + way'.0) = distance-one setup shown fit (suc (d + way.0)) (suc (d + way'.0)) c x y in
        let same : way'.0 ≡ way.0 = omega (arith, distances) in
        let P : ℕ → Type 0 = λ n. IsReached n r c in
        reached-one way.0 q r c way.1 (subst P same way'.1)

  distinct-viewed : (views p : ℕ) (found : Option Viewer) → viewer_from 1 shown p ≡ found → IsLive p
      → ((q : ℕ) → IsLive q → Distinct (sessions_in (led_to shown views q))) → Distinct (sessions_in (viewed (led_to shown views) found))
  unfolding IsLive
  distinct-viewed views p None e live again = tt
  distinct-viewed views p (Some viewer) e live again =
      let state = viewer-state shown p viewer e in
      let above : (d : ℕ) × IsConnectedThrough setup shown d viewer.session = live viewer.session state.0 in (
        λ on. not_below_itself views p viewer e above.0 above.1 (in-nodes (led_to shown views) viewer.session viewer.nodes viewer.session on),
        distinct-nodes (led_to shown views) viewer.session viewer.nodes
            (rw state.1 (distinct-pairs (pairs_shown shown viewer.session) (fit.once viewer.session)))
            (λ q on. again q (λ c view. (
              suc above.0,
              (
                viewer.session,
                record { pair = q; viewport = shows views p viewer e above.0 above.1 q on; view = view },
                above.1,
              ),
            )))
            (below_one_pair views p viewer e above.0 above.1),
      )

  distinct-led : (views p : ℕ) → IsLive p → Distinct (sessions_in (led_to shown views p))
  distinct-led zero p live = tt
  distinct-led (suc views) p live = distinct-viewed views p (viewer_from 1 shown p) refl live (λ q. distinct-led views q)

  display-live : (p : ℕ) → display_pair setup ≡ Some p → IsLive p
  unfolding IsLive
  display-live p display s view = (0, record { pair = p; viewport = display; view = view })

  pub distinct-from : (found : Option ℕ) → display_pair setup ≡ found → Distinct (sessions_in (led_from shown found))
  distinct-from None e = tt
  distinct-from (Some p) e = distinct-led (length shown) p (display-live p e)

  -- ---- each that is connected

  -- the same way, told from its beginning: the pair's view shows a viewport, and c is reached from that one's pair
  abbrev pub IsReachedFrom : ℕ → ℕ → ℕ → Type 0
  IsReachedFrom zero p c = view_of (state_of shown c) ≡ Some p
  IsReachedFrom (suc between) p c = (s : ℕ) × (q : ℕ) × (view_of (state_of shown s) ≡ Some p) × Contains (pairs_shown shown s) q × IsReachedFrom between q c

  reached-below : (between p s c : ℕ) → IsReachedFrom between p s → IsBelow shown c s → IsReachedFrom (suc between) p c
  reached-below zero p s c way below = (s, below.pair, way, below.viewport, below.view)
  reached-below (suc between) p s c way below = (way.0, way.1, way.2, way.3, reached-below between way.1 s c way.4 below)

  pub connected-reached : (d c : ℕ) → IsConnectedThrough setup shown d c → (p : ℕ) × (display_pair setup ≡ Some p) × IsReachedFrom d p c
  connected-reached zero c x = (x.pair, x.viewport, x.view)
  connected-reached (suc d) c x =
      let above = connected-reached d x.0 x.2 in
      (above.0, above.1, reached-below d above.0 x.0 c above.2 x.1)

  -- who is reached from a pair, stands in what it leads to
  pub led-in : (views between p c : ℕ) → IsReachedFrom between p c → between < views → In c (sessions_in (led_to shown views p))
  led-in zero between p c way low = absurd (omega arith)
  led-in (suc views) zero p c way low =
      let found = viewer-found shown p c way in
      let here : c ≡ found.0.session = view-one setup shown fit c found.0.session p way (viewer-state shown p found.0 found.1).0 in
      rw found.1 (inl here)
  led-in (suc views) (suc between) p c way low =
      let found = viewer-found shown p way.0 way.2 in
      let state = viewer-state shown p found.0 found.1 in
      let here : way.0 ≡ found.0.session = view-one setup shown fit way.0 found.0.session p way.2 state.0 in
      let has : In way.1 (pairs_in found.0.nodes) = rw state.1 (rw here at (in-contains way.1 (pairs_shown shown way.0) way.3)) in
      rw found.1 (inr (nodes-in (led_to shown views) found.0.session found.0.nodes way.1 c has (led-in views between way.1 c way.4 (omega arith))))
