-- What a session's line makes may be entered.
use Rattle.std.proofs.Common.{◌≡◌, ℕ, ◌-◌, ◌<◌, Bool, true, false, cond, not, ◌&&◌, ◌||◌, ◌==◌, List, [], ◌∷◌, ◌++◌, length, refl, sym, ap, ◌∙◌, arith}
use Rattle.std.proofs.Common.{append_assoc, length-append, Option, Some, None, Result, Ok, Err, slice_get, option_map, is_some}
use Rattle.std.specs.List.{list_any, list_all}
use Rattle.std.specs.Option.{option_and_then}
use Rattle.std.specs.Result.{result_ok}
use Rattle.std.proofs.lemmas.Bool.{eq-eqb}
use Rattle.std.proofs.lemmas.Option.{slice_get-get_or}
use Rattle.std.proofs.Math.Seq.{get_or-append_seam}
use Rattle.flat_base.specs.declared.errors.Reason.{Reason}
use Rattle.flat_base.specs.declared.ids.ContentId.{ContentId}
use Rattle.flat_base.specs.declared.ids.FenceNo.{FenceNo}
use Rattle.flat_base.specs.declared.ids.PairNo.{PairNo}
use Rattle.flat_scene.specs.declared.script.WaitCondition.{WaitCondition}
use Rattle.flat_scene.specs.declared.script.WaitCondition.TheVariants as asks
use Rattle.flat_base.specs.declared.ids.SessionNo.{SessionNo}
use Rattle.flat_base.specs.declared.ids.Actor.TheVariants.{Session}
use Rattle.flat_scene.specs.declared.calls.Call.{Call}
use Rattle.flat_scene.specs.declared.calls.Call.TheVariants.{CreateView, CreateViewport, CreateImage}
use Rattle.flat_scene.specs.declared.calls.Inset.{Inset}
use Rattle.flat_scene.specs.declared.calls.PresentArgs.{PresentArgs}
use Rattle.flat_scene.specs.declared.calls.ViewportProps.{ViewportProps}
use Rattle.flat_scene.specs.declared.calls.Watch.{Watch}
use Rattle.flat_scene.specs.declared.calls.Watch.TheVariants as watch
use Rattle.flat_scene.specs.declared.journal.Entry.{Entry}
use Rattle.flat_scene.specs.declared.journal.EntryKind.TheVariants.{View, Viewport, Present, Get, Signal, Poll, Wait, Close, End}
use Rattle.flat_scene.specs.declared.setup.Setup.{Setup}
use Rattle.flat_scene.specs.Draft.{Draft, Made, a_viewport, an_image, a_fill, made_of, empty_draft}
use Rattle.flat_scene.specs.Effect.{draft_of, after_call, after_calls}
use Rattle.flat_scene.specs.History.{calls, own, is_closed, is_end}
use Rattle.flat_scene.specs.Misuse.{first_reason, misuse}
use Rattle.flat_scene.specs.Setups.{is_declared}
use Rattle.flat_scene.specs.Tree.{present_tests}
use Rattle.flat_core.specs.Machines.{Machine, MayCall, HasShare}
use Rattle.flat_rules.specs.Legal.{is_link, all_but_last, owns_in_call, owns_in_kind, owns_view, owns_viewport, owns_fence, same_inset, may_close, session_may}
use Rattle.flat_rules.specs.Legal.{has_tree}
use Rattle.flat_rules.specs.Ends.{viewport_uses}
use Rattle.flat_core.specs.Watchers.{watcher_meant}
use Rattle.flat_rules.specs.Watch.{layout_of, status_of, child_of, watcher_in, watcher_of, watcher_of_made}
use Rattle.flat_content.specs.Table.{pair_of}
use Rattle.flat_draft.specs.Answers.{pair_watched}
use Rattle.flat_rules.specs.Refusals.{may_refuse}
use Rattle.flat_rules.proofs.lemmas.Refusals.{same-itself}
use Rattle.flat_draft.proofs.lemmas.Following.{calls_follow}
use Rattle.flat_rules.specs.Owned.{is_private, is_played_call, is_played_condition}
use Rattle.flat_base.proofs.lemmas.Tests.{and-true, or-false, none-left, none-right, all-more, all-also, none-also}

-- ---- lists with one call more

pub last_call : (xs : List Call) (c : Call) → slice_get (xs ++ c ∷ []) (length (xs ++ c ∷ []) - 1) ≡ Some c
last_call xs c =
    let here : length (xs ++ c ∷ []) - 1 ≡ length xs = omega (arith, length-append xs (c ∷ [])) in
    let within : length xs < length (xs ++ c ∷ []) = omega (arith, length-append xs (c ∷ [])) in
    ap (slice_get (xs ++ c ∷ [])) here ∙ slice_get-get_or (xs ++ c ∷ []) (length xs) c within ∙ ap Some (get_or-append_seam xs c [] c)

not_last : (b : Bool) (x : Call) (rest : List Call) → b ≡ false → cond b [] (x ∷ all_but_last rest) ≡ x ∷ all_but_last rest
not_last b x rest is = rw is refl

pub but_last : (xs : List Call) (c : Call) → all_but_last (xs ++ c ∷ []) ≡ xs
but_last [] c = refl
but_last (x ∷ xs) c =
    let more : (length (xs ++ c ∷ []) == 0) ≡ false = rw (length-append xs (c ∷ [])) (grind arith) in
    not_last (length (xs ++ c ∷ []) == 0) x (xs ++ c ∷ []) more ∙ ap (λ t. x ∷ t) (but_last xs c)

-- ---- private calls

module _ (setup : Setup) (s : SessionNo) where
  private_is : (c : Call) → is_private setup s c ≡ true → (is_link c ≡ false) × (owns_in_call setup s c ≡ true)
  private_is (CreateView pair) private = absurd (cc)
  private_is (CreateViewport c pair w h inset) private = absurd (cc)
  private_is (CreateImage c buffers i w h) private = (refl, private)
  private_is _ private = (refl, refl)

  played_is : (c : Call) → is_played_call setup s c ≡ true → owns_in_call setup s c ≡ true
  played_is (CreateView pair) played = played
  played_is (CreateViewport c pair w h inset) played = played
  played_is (CreateImage c buffers i w h) played = played
  played_is _ played = refl

  no_links : (xs : List Call) → list_all (is_private setup s) xs ≡ true → list_any is_link xs ≡ false
  no_links xs all = none-also (is_private setup s) is_link (λ c is. (private_is c is).0) xs all

  all_owned : (xs : List Call) → list_all (is_private setup s) xs ≡ true → list_all (owns_in_call setup s) xs ≡ true
  all_owned xs all = all-also (is_private setup s) (owns_in_call setup s) (λ c is. (private_is c is).1) xs all

-- ---- drafts of fewer calls

pub after_error : (setup : Setup) (reason : Reason) (xs : List Call) → after_calls setup (Err reason) xs ≡ Err reason
after_error setup reason [] = refl
after_error setup reason (x ∷ xs) = after_error setup reason xs

-- calls without a misuse have none among the first of them
fewer : (setup : Setup) (start : Result Draft Reason) (xs ys : List Call) (draft : Draft) → after_calls setup start (xs ++ ys) ≡ Ok draft
    → is_some (result_ok (after_calls setup start xs)) ≡ true
fewer setup (Ok d) [] ys draft made = refl
fewer setup (Err reason) [] ys draft made = absurd (let e : Err reason ≡ Ok draft = sym (after_error setup reason ys) ∙ made in cc)
fewer setup start (x ∷ xs) ys draft made = fewer setup (after_call setup start x) xs ys draft made

-- the last call, as a list
abbrev last_ones : List Call → List Call
last_ones [] = []
last_ones (x ∷ xs) = cond (length xs == 0) (x ∷ []) (last_ones xs)

more_than_none : (y : Call) (ys : List Call) → (length (y ∷ ys) == 0) ≡ false
more_than_none y ys = grind arith

split_last : (xs : List Call) → xs ≡ all_but_last xs ++ last_ones xs
split_last [] = refl
split_last (x ∷ []) = refl
split_last (x ∷ y ∷ ys) = rw (more_than_none y ys) (ap (λ t. x ∷ t) (split_last (y ∷ ys)))

no_links_first : (xs ys : List Call) → list_any is_link (xs ++ ys) ≡ false → list_any is_link xs ≡ false
no_links_first [] ys none = refl
no_links_first (x ∷ xs) ys none = or-false (none-left (is_link x) (list_any is_link (xs ++ ys)) none)
    (no_links_first xs ys (none-right (is_link x) (list_any is_link (xs ++ ys)) none))

fewer_by_one : (setup : Setup) (first xs : List Call) (draft : Draft) → draft_of setup (first ++ xs) ≡ Ok draft
    → is_some (result_ok (draft_of setup (first ++ all_but_last xs))) ≡ true
fewer_by_one setup first xs draft made =
    fewer setup (Ok empty_draft) (first ++ all_but_last xs) (last_ones xs) draft
    (ap (draft_of setup) (append_assoc first (all_but_last xs) (last_ones xs) ∙ ap (λ t. first ++ t) (sym (split_last xs))) ∙ made)

-- the calls with a last one that is a misuse
misused_last : (setup : Setup) (first xs : List Call) (c : Call) (why : Reason) (draft : Draft) → draft_of setup (first ++ xs) ≡ Ok draft
    → misuse setup draft c ≡ Some why → draft_of setup (first ++ (xs ++ c ∷ [])) ≡ Err why
misused_last setup first xs c why draft made misused =
    ap (draft_of setup) (sym (append_assoc first xs (c ∷ []))) ∙ (calls_follow setup (first ++ xs) draft c made).misused why misused

-- a tree is asked of a present alone
no_tree_view : (setup : Setup) (p : PairNo) (draft : Option Draft) → has_tree setup draft (View p) ≡ true
no_tree_view setup p None = refl
no_tree_view setup p (Some d) = refl

no_tree_viewport : (setup : Setup) (p : PairNo) (props : ViewportProps) (draft : Option Draft) → has_tree setup draft (Viewport p props) ≡ true
no_tree_viewport setup p props None = refl
no_tree_viewport setup p props (Some d) = refl

no_tree_get : (setup : Setup) (get : Watch) (draft : Option Draft) → has_tree setup draft (Get get) ≡ true
no_tree_get setup get None = refl
no_tree_get setup get (Some d) = refl

no_tree_signal : (setup : Setup) (f : FenceNo) (draft : Option Draft) → has_tree setup draft (Signal f) ≡ true
no_tree_signal setup f None = refl
no_tree_signal setup f (Some d) = refl

no_tree_poll : (setup : Setup) (draft : Option Draft) → has_tree setup draft Poll ≡ true
no_tree_poll setup None = refl
no_tree_poll setup (Some d) = refl

no_tree_wait : (setup : Setup) (c : WaitCondition) (draft : Option Draft) → has_tree setup draft (Wait c) ≡ true
no_tree_wait setup c None = refl
no_tree_wait setup c (Some d) = refl

no_tree_close : (setup : Setup) (reason : Option Reason) (draft : Option Draft) → has_tree setup draft (Close reason) ≡ true
no_tree_close setup reason None = refl
no_tree_close setup reason (Some d) = refl

no_tree_end : (setup : Setup) (n : ℕ) (draft : Option Draft) → has_tree setup draft (End n) ≡ true
no_tree_end setup n None = refl
no_tree_end setup n (Some d) = refl

-- a viewport's own call
same_inset_is : (inset : Inset) → same_inset inset inset ≡ true
same_inset_is inset = rw (
  eq-eqb inset.top inset.top refl,
  eq-eqb inset.right inset.right refl,
  eq-eqb inset.bottom inset.bottom refl,
  eq-eqb inset.left inset.left refl,
) refl

same_viewport : (p : PairNo) (props : ViewportProps) → (p.0 == p.0 && props.w == props.w && props.h == props.h && same_inset props.inset props.inset) ≡ true
same_viewport p props = rw (eq-eqb p.0 p.0 refl, eq-eqb props.w props.w refl, eq-eqb props.h props.h refl, same_inset_is props.inset) refl

-- ---- which watcher a get means

watched_in : (setup : Setup) (before : List Entry) (draft : Draft) (get : Watch) (pair : PairNo) → pair_watched draft get ≡ Some pair
    → watcher_in setup before draft get ≡ Some (watcher_meant before get pair)
watched_in setup before draft watch.Layout pair is = ap (option_map layout_of) is
watched_in setup before draft watch.Status pair is = ap (option_map status_of) is
watched_in setup before draft (watch.Child c) pair is = by_made (made_of draft c) is
  where
    by_made : (made : Option Made) → option_and_then pair_of made ≡ Some pair
        → option_and_then (watcher_of_made setup before) made ≡ Some (child_of pair (length (viewport_uses pair before)))
    by_made None none = cc
    by_made (Some (a_viewport q props)) some = let same : q ≡ pair = cc in ap (λ (p : PairNo). Some (child_of p (length (viewport_uses p before)))) same
    by_made (Some (an_image image)) none = cc
    by_made (Some (a_fill solid)) none = cc

pub get_meant : (m : Machine) (s : SessionNo) (pending : List Call) (draft : Draft) → draft_of m.setup (calls s m.history ++ pending) ≡ Ok draft
    → (get : Watch) (pair : PairNo) → pair_watched draft get ≡ Some pair
    → watcher_of m.setup m.history (Session s) pending get ≡ Some (watcher_meant m.history get pair)
get_meant m s pending draft made get pair meant = ap (λ r. option_and_then (λ d. watcher_in m.setup m.history d get) (result_ok r)) made
    ∙ watched_in m.setup m.history draft get pair meant

-- ---- what may be entered

-- What is known of a session that isn't closed, whose calls since its last entry are these.
pub record IsWaiting (m : Machine) (s : SessionNo) (pending : List Call) (draft : Draft) : Type 0 where
  pub share : HasShare m (Session s)
  pub declared : is_declared m.setup s ≡ true
  pub unended : list_any (λ entry. is_end entry.kind) (own s m.history) ≡ false
  pub unclosed : is_closed s m.history ≡ false
  pub private : list_all (is_private m.setup s) pending ≡ true
  pub made : draft_of m.setup (calls s m.history ++ pending) ≡ Ok draft

module _ (m : Machine) (s : SessionNo) (pending : List Call) (draft : Draft) (waits : IsWaiting m s pending draft) where
  goes : (not (list_any (λ entry. is_end entry.kind) (own s m.history)) && (false || not (is_closed s m.history))) ≡ true
  goes = rw (waits.unended, waits.unclosed) refl

  drafted : is_some (result_ok (draft_of m.setup (calls s m.history ++ pending))) ≡ true
  drafted = rw waits.made refl

  pub may_view : (p : PairNo) (after : Draft) → owns_view m.setup s p ≡ true → draft_of m.setup (calls s m.history ++ (pending ++ CreateView p ∷ [])) ≡ Ok after
      → MayCall m (Session s) (pending ++ CreateView p ∷ []) (View p)
  may_view p after owns made = record {
    may = record {
      acts = waits.declared;
      lasts = goes;
      times = refl;
      drafted = rw (waits.unclosed, made) refl;
      calls = rw (last_call pending (CreateView p)) (eq-eqb p.0 p.0 refl);
      links = rw (but_last pending (CreateView p), no_links m.setup s pending waits.private) refl;
      owned = and-true owns (all-more (owns_in_call m.setup s) pending (CreateView p) (all_owned m.setup s pending waits.private) owns);
      named = refl;
      tree = no_tree_view m.setup p _;
      watcher = refl;
    };
    share = waits.share;
  }

  pub may_viewport : (c : ContentId) (p : PairNo) (props : ViewportProps) (after : Draft) → owns_viewport m.setup s p ≡ true
      → draft_of m.setup (calls s m.history ++ (pending ++ CreateViewport c p props.w props.h props.inset ∷ [])) ≡ Ok after
      → MayCall m (Session s) (pending ++ CreateViewport c p props.w props.h props.inset ∷ []) (Viewport p props)
  may_viewport c p props after owns made =
      let one : Call = CreateViewport c p props.w props.h props.inset in
      record {
        may = record {
          acts = waits.declared;
          lasts = goes;
          times = refl;
          drafted = rw (waits.unclosed, made) refl;
          calls = rw (last_call pending one) (same_viewport p props);
          links = rw (but_last pending one, no_links m.setup s pending waits.private) refl;
          owned = and-true owns (all-more (owns_in_call m.setup s) pending one (all_owned m.setup s pending waits.private) owns);
          named = refl;
          tree = no_tree_viewport m.setup p props _;
          watcher = refl;
        };
        share = waits.share;
      }

  pub may_present : (args : PresentArgs) → (list_all (owns_fence m.setup s) args.acquire && list_all (owns_fence m.setup s) args.release) ≡ true
      → first_reason (present_tests draft args) ≡ None → MayCall m (Session s) pending (Present args)
  may_present args lists allowed = record {
    may = record {
      acts = waits.declared;
      lasts = goes;
      times = refl;
      drafted = rw (waits.unclosed) drafted;
      calls = refl;
      links = rw (no_links m.setup s pending waits.private) refl;
      owned = and-true lists (all_owned m.setup s pending waits.private);
      named = refl;
      tree = rw (waits.made, allowed) refl;
      watcher = refl;
    };
    share = waits.share;
  }

  pub may_get : (get : Watch) (pair : PairNo) → pair_watched draft get ≡ Some pair → MayCall m (Session s) pending (Get get)
  may_get get pair meant = record {
    may = record {
      acts = waits.declared;
      lasts = goes;
      times = refl;
      drafted = rw (waits.unclosed) drafted;
      calls = refl;
      links = rw (no_links m.setup s pending waits.private) refl;
      owned = all_owned m.setup s pending waits.private;
      named = refl;
      tree = no_tree_get m.setup get _;
      watcher = ap is_some (get_meant m s pending draft waits.made get pair meant);
    };
    share = waits.share;
  }

  pub may_signal : (f : FenceNo) → owns_fence m.setup s f ≡ true → MayCall m (Session s) pending (Signal f)
  may_signal f owns = record {
    may = record {
      acts = waits.declared;
      lasts = goes;
      times = refl;
      drafted = rw (waits.unclosed) drafted;
      calls = refl;
      links = rw (no_links m.setup s pending waits.private) refl;
      owned = and-true owns (all_owned m.setup s pending waits.private);
      named = refl;
      tree = no_tree_signal m.setup f _;
      watcher = refl;
    };
    share = waits.share;
  }

  pub may_poll : MayCall m (Session s) pending Poll
  may_poll = record {
    may = record {
      acts = waits.declared;
      lasts = goes;
      times = refl;
      drafted = rw (waits.unclosed) drafted;
      calls = refl;
      links = rw (no_links m.setup s pending waits.private) refl;
      owned = all_owned m.setup s pending waits.private;
      named = refl;
      tree = no_tree_poll m.setup _;
      watcher = refl;
    };
    share = waits.share;
  }

  waits_for : (c : WaitCondition) → (session_may (Wait c) && is_declared m.setup s) ≡ true → owns_in_kind m.setup s (Wait c) ≡ true
      → MayCall m (Session s) pending (Wait c)
  waits_for c acts owns = record {
    may = record {
      acts = acts;
      lasts = goes;
      times = refl;
      drafted = rw (waits.unclosed) drafted;
      calls = refl;
      links = rw (no_links m.setup s pending waits.private) refl;
      owned = and-true owns (all_owned m.setup s pending waits.private);
      named = refl;
      tree = no_tree_wait m.setup c _;
      watcher = refl;
    };
    share = waits.share;
  }

  pub may_wait : (c : WaitCondition) → is_played_condition m.setup s c ≡ true → MayCall m (Session s) pending (Wait c)
  may_wait (asks.Frames n) played = waits_for (asks.Frames n) waits.declared refl
  may_wait (asks.Credits n) played = waits_for (asks.Credits n) waits.declared refl
  may_wait (asks.Taken n) played = waits_for (asks.Taken n) waits.declared refl
  may_wait (asks.Fence f) played = waits_for (asks.Fence f) waits.declared played
  may_wait (asks.Answers n) played = waits_for (asks.Answers n) waits.declared refl
  may_wait (asks.Presents t n) played = absurd (cc)

  -- a call that is a misuse closes by its reason
  pub may_close_call : (c : Call) (why : Reason) → is_played_call m.setup s c ≡ true → misuse m.setup draft c ≡ Some why
      → MayCall m (Session s) (pending ++ c ∷ []) (Close (Some why))
  may_close_call c why played misused =
      let before : is_some (result_ok (draft_of m.setup (calls s m.history ++ all_but_last (pending ++ c ∷ [])))) ≡ true = rw (but_last pending c) drafted in
      let closed : may_close (pending ++ c ∷ []) (draft_of m.setup (calls s m.history ++ (pending ++ c ∷ []))) (Some why) ≡ true =
      rw (misused_last m.setup (calls s m.history) pending c why draft waits.made misused) (same-itself why) in
      record {
        may = record {
          acts = waits.declared;
          lasts = goes;
          times = refl;
          drafted = and-true before closed;
          calls = refl;
          links = rw (but_last pending c, no_links m.setup s pending waits.private) refl;
          owned = all-more (owns_in_call m.setup s) pending c (all_owned m.setup s pending waits.private) (played_is m.setup s c played);
          named = refl;
          tree = no_tree_close m.setup (Some why) _;
          watcher = refl;
        };
        share = waits.share;
      }

  closes_alone : (why : Option Reason) → may_close pending (Ok draft) why ≡ true → MayCall m (Session s) pending (Close why)
  closes_alone why may = record {
    may = record {
      acts = waits.declared;
      lasts = goes;
      times = refl;
      drafted = and-true (fewer_by_one m.setup (calls s m.history) pending draft waits.made) (rw waits.made may);
      calls = refl;
      links = rw (no_links_first (all_but_last pending) (last_ones pending)
          (ap (list_any is_link) (sym (split_last pending)) ∙ no_links m.setup s pending waits.private)) refl;
      owned = all_owned m.setup s pending waits.private;
      named = refl;
      tree = no_tree_close m.setup why _;
      watcher = refl;
    };
    share = waits.share;
  }

  -- a present or a get that is refused closes by its reason
  pub may_close_refused : (why : Reason) → may_refuse draft why ≡ true → MayCall m (Session s) pending (Close (Some why))
  may_close_refused why refused = closes_alone (Some why) (rw (no_links m.setup s pending waits.private, refused) refl)

  -- and a session may leave
  pub may_leave : MayCall m (Session s) pending (Close None)
  may_leave = closes_alone None (rw (no_links m.setup s pending waits.private) refl)

  -- a session that isn't closed ends
  pub may_end : MayCall m (Session s) pending (End 0)
  may_end = record {
    may = record {
      acts = waits.declared;
      lasts = rw waits.unended refl;
      times = refl;
      drafted = rw waits.unclosed drafted;
      calls = refl;
      links = rw (no_links m.setup s pending waits.private) refl;
      owned = all_owned m.setup s pending waits.private;
      named = refl;
      tree = no_tree_end m.setup 0 _;
      watcher = refl;
    };
    share = waits.share;
  }

-- a session that was closed ends
pub may_end_closed : (m : Machine) (s : SessionNo) (refused : ℕ) → HasShare m (Session s) → is_declared m.setup s ≡ true
    → list_any (λ entry. is_end entry.kind) (own s m.history) ≡ false → is_closed s m.history ≡ true
    → MayCall m (Session s) [] (End refused)
may_end_closed m s refused share declared unended closed = record {
  may = record {
    acts = declared;
    lasts = rw unended refl;
    times = refl;
    drafted = rw closed refl;
    calls = refl;
    links = refl;
    owned = refl;
    named = refl;
    tree = no_tree_end m.setup refused _;
    watcher = refl;
  };
  share = share;
}
