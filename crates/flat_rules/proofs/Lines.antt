-- Nothing that a history says of sessions, frames and ends hangs on the lines of its entries.
use Rattle.std.proofs.Common.{◌≡◌, ◌∙◌, suc, ◌+◌, Bool, true, false, cond, List, [], ◌∷◌, ◌++◌, drop, filter, map, length, refl, ap, Option, Some, None}
use Rattle.std.specs.Prelude.{◌||◌, ◌&&◌, option_map, option_and_then, unwrap_or}
use Rattle.std.specs.List.{list_any, drop-map}
use Rattle.flat_base.specs.declared.ids.Actor.{Actor}
use Rattle.flat_base.specs.declared.ids.Actor.TheVariants.{Display, Session, Probe}
use Rattle.flat_base.specs.declared.ids.PairNo.{PairNo}
use Rattle.flat_base.specs.declared.ids.SessionNo.{SessionNo}
use Rattle.flat_scene.specs.declared.calls.Call.{Call}
use Rattle.flat_scene.specs.declared.journal.Entry.{Entry}
use Rattle.flat_scene.specs.declared.setup.Setup.{Setup}
use Rattle.flat_scene.specs.Draft.{Draft, of_serial}
use Rattle.flat_scene.specs.Frames.{is_signalled, taken, going, takes, lets_go, signals, credits, sessions_to}
use Rattle.flat_scene.specs.History.{◌▹◌, own, is_session, is_closed, closes, carried, calls, published, published_all, presents, Published, is_begin}
use Rattle.flat_scene.specs.History.{is_finish}
use Rattle.flat_topology.specs.Join.{is_joined}
use Rattle.flat_rules.specs.Determined.{but_line}
use Rattle.flat_rules.specs.Ends.{view_uses, viewport_uses, uses_view, uses_viewport, is_done, to_begin, to_finished, taken_calls, has_ended, happens, loses}
use Rattle.flat_rules.specs.Shown.{shown, tree_of, last_taken, is_connected}

-- a history with other lines
abbrev pub lined : List Entry → List Entry
lined = map but_line

-- ---- lists

pub filter-lined : (p : Entry → Bool) → ((e : Entry) → p (but_line e) ≡ p e) → (h : List Entry) → filter p (lined h) ≡ lined (filter p h)
filter-lined p same [] = refl
filter-lined p same (before ▹ e) = (λ i. cond (same e i) (but_line e ∷ filter p (lined before)) (filter p (lined before)))
    ∙ by_test (p e) (filter-lined p same before)
  where
    by_test : (b : Bool) → filter p (lined before) ≡ lined (filter p before)
        → cond b (but_line e ∷ filter p (lined before)) (filter p (lined before)) ≡ lined (cond b (e ∷ filter p before) (filter p before))
    by_test true earlier = ap (λ (l : List Entry). but_line e ∷ l) earlier
    by_test false earlier = earlier

pub any-lined : (p : Entry → Bool) → ((e : Entry) → p (but_line e) ≡ p e) → (h : List Entry) → list_any p (lined h) ≡ list_any p h
any-lined p same [] = refl
any-lined p same (before ▹ e) = λ i. same e i || any-lined p same before i

pub length-lined : (h : List Entry) → length (lined h) ≡ length h
length-lined [] = refl
length-lined (before ▹ e) = ap suc (length-lined before)

-- ---- one session

pub own-lined : (s : SessionNo) (h : List Entry) → own s (lined h) ≡ lined (own s h)
own-lined s = filter-lined (λ e. is_session s e.actor) (λ e. refl)

carried-lined : (h : List Entry) → carried (lined h) ≡ carried h
carried-lined [] = refl
carried-lined (before ▹ e) = ap (λ (made : List Call). made ++ e.calls) (carried-lined before)

pub calls-lined : (s : SessionNo) (h : List Entry) → calls s (lined h) ≡ calls s h
calls-lined s h = ap carried (own-lined s h) ∙ carried-lined (own s h)

published-lined : (h : List Entry) → published_all (lined h) ≡ published_all h
published-lined [] = refl
published-lined (before ▹ e) = λ i. published-lined before i ++ published e.kind e.reply (carried-lined before i ++ e.calls)

pub presents-lined : (s : SessionNo) (h : List Entry) → presents s (lined h) ≡ presents s h
presents-lined s h = ap published_all (own-lined s h) ∙ published-lined (own s h)

pub closed-lined : (s : SessionNo) (h : List Entry) → is_closed s (lined h) ≡ is_closed s h
closed-lined s h = ap (list_any (λ (e : Entry). closes e.reply)) (own-lined s h) ∙ any-lined (λ e. closes e.reply) (λ e. refl) (own s h)

-- ---- frames

pub begin-lined : (h : List Entry) → to_begin (lined h) ≡ lined (to_begin h)
begin-lined [] = refl
begin-lined (before ▹ e) = by_kind (is_begin e.kind) (begin-lined before)
  where
    by_kind : (b : Bool) → to_begin (lined before) ≡ lined (to_begin before)
        → cond b (lined (before ▹ e)) (to_begin (lined before)) ≡ lined (cond b (before ▹ e) (to_begin before))
    by_kind true earlier = refl
    by_kind false earlier = earlier

pub begun-lined : (h : List Entry) → drop 1 (to_begin (lined h)) ≡ lined (drop 1 (to_begin h))
begun-lined h = ap (drop 1) (begin-lined h) ∙ drop-map but_line 1 (to_begin h)

pub finished-lined : (h : List Entry) → to_finished (lined h) ≡ lined (to_finished h)
finished-lined [] = refl
finished-lined (before ▹ e) = by_kind (is_finish e.kind) (finished-lined before)
  where
    by_kind : (b : Bool) → to_finished (lined before) ≡ lined (to_finished before)
        → cond b (to_begin (lined before)) (to_finished (lined before)) ≡ lined (cond b (to_begin before) (to_finished before))
    by_kind true earlier = begin-lined before
    by_kind false earlier = earlier

module _ (setup : Setup) where
  -- What frames take is the same.
  pub record FramesAlike (h : List Entry) : Type 0 where
    pub signalled : is_signalled setup (lined h) ≡ is_signalled setup h
    pub took : taken setup (lined h) ≡ taken setup h
    pub goes : going setup (lined h) ≡ going setup h

  pub frames-lined : (h : List Entry) → FramesAlike h
  frames-lined [] = record { signalled = refl; took = refl; goes = refl }
  frames-lined (before ▹ e) = one_more (frames-lined before)
    where
      one_more : FramesAlike before → FramesAlike (before ▹ e)
      one_more earlier = record {
        signalled = λ i. λ f. earlier.signalled i f || signals (sessions_to setup.sessions) e.kind (earlier.goes i) f;
        took = λ i. λ s. earlier.took i s + length (takes e.kind (earlier.signalled i) (closed-lined s before i)
            (drop (earlier.took i s) (presents-lined s before i)));
        goes = λ i. λ s. lets_go e.kind (earlier.signalled i) (closed-lined s before i) (drop (earlier.took i s) (presents-lined s before i))
            (earlier.goes i s);
      }

  pub took-lined : (h : List Entry) (s : SessionNo) → taken setup (lined h) s ≡ taken setup h s
  took-lined h s = λ i. (frames-lined h).took i s

  pub credits-lined : (h : List Entry) (s : SessionNo) → credits setup (lined h) s ≡ credits setup h s
  credits-lined h s = rw (presents-lined s h, took-lined h s) refl

  -- what was taken, at the begin of the last frame and before it
  pub took-begin : (h : List Entry) (s : SessionNo) → taken setup (to_begin (lined h)) s ≡ taken setup (to_begin h) s
  took-begin h s = ap (λ (g : List Entry). taken setup g s) (begin-lined h) ∙ took-lined (to_begin h) s

  pub took-begun : (h : List Entry) (s : SessionNo) → taken setup (drop 1 (to_begin (lined h))) s ≡ taken setup (drop 1 (to_begin h)) s
  took-begun h s = ap (λ (g : List Entry). taken setup g s) (begun-lined h) ∙ took-lined (drop 1 (to_begin h)) s

  -- ---- what is shown

  last-lined : (h : List Entry) (s : SessionNo) → last_taken setup (lined h) s ≡ last_taken setup h s
  last-lined h s = λ i. of_serial (presents-lined s h i) (took-lined h s i)

  pub taken-calls-lined : (h : List Entry) (s : SessionNo) → taken_calls setup (lined h) s ≡ taken_calls setup h s
  taken-calls-lined h s = λ i. unwrap_or (option_map (λ (present : Published). present.made) (last-lined h s i)) []

  pub shown-lined : (h : List Entry) → shown setup (lined h) ≡ shown setup h
  shown-lined h = λ i. λ s. cond (closed-lined s h i) None (option_and_then (tree_of setup) (last-lined h s i))

  pub connected-lined : (h : List Entry) (s : SessionNo) → is_connected setup (lined h) s ≡ is_connected setup h s
  connected-lined h s = λ i. is_joined setup (map (shown-lined h i) (sessions_to setup.sessions)) s.0

  -- ---- ends

  pub views-lined : (p : PairNo) (h : List Entry) → view_uses p (lined h) ≡ lined (view_uses p h)
  views-lined p = filter-lined (λ e. uses_view p e.kind && is_done e.reply) (λ e. refl)

  pub viewports-lined : (p : PairNo) (h : List Entry) → viewport_uses p (lined h) ≡ lined (viewport_uses p h)
  viewports-lined p = filter-lined (λ e. uses_viewport p e.kind && is_done e.reply) (λ e. refl)

  pub view-count : (p : PairNo) (h : List Entry) → length (view_uses p (lined h)) ≡ length (view_uses p h)
  view-count p h = ap length (views-lined p h) ∙ length-lined (view_uses p h)

  pub viewport-count : (p : PairNo) (h : List Entry) → length (viewport_uses p (lined h)) ≡ length (viewport_uses p h)
  viewport-count p h = ap length (viewports-lined p h) ∙ length-lined (viewport_uses p h)

  ended-lined : (test : Draft → Call → Bool) (h : List Entry) (s : SessionNo) → has_ended setup test (lined h) s ≡ has_ended setup test h s
  ended-lined test h s = λ i. closed-lined s h i || happens setup test (taken-calls-lined h s i)

  pub loses-lined : (test : Draft → Call → Bool) (h : List Entry) (owner : Option Actor) → loses setup test (lined h) owner ≡ loses setup test h owner
  loses-lined test h None = refl
  loses-lined test h (Some Display) = refl
  loses-lined test h (Some (Probe n)) = refl
  loses-lined test h (Some (Session s)) = ended-lined test h s
