-- The layouts that are told are those of finished frames.
use Rattle.std.proofs.Common.{◌≡◌, ◌∙◌, sym, ap, refl, ℕ, Bool, true, false, List, [], length, Option, Some, None}
use Rattle.std.specs.Prelude.{cond, option_map, option_and_then}
use Rattle.std.specs.Result.{result_ok}
use Rattle.flat_base.specs.declared.ids.PairNo.{PairNo}
use Rattle.flat_base.specs.declared.ids.SessionNo.{SessionNo}
use Rattle.flat_scene.specs.declared.calls.ViewportProps.{ViewportProps}
use Rattle.flat_scene.specs.declared.journal.Entry.{Entry}
use Rattle.flat_scene.specs.declared.journal.Layout.{Layout}
use Rattle.flat_scene.specs.declared.journal.WatcherValue.{WatcherValue}
use Rattle.flat_scene.specs.declared.journal.WatcherValue.TheVariants as tell
use Rattle.flat_scene.specs.declared.setup.Setup.{Setup}
use Rattle.flat_scene.specs.Effect.{draft_of}
use Rattle.flat_scene.specs.Frames.{ratio}
use Rattle.flat_scene.specs.History.{◌▹◌, is_finish}
use Rattle.std.specs.Option.{option_or}
use Rattle.flat_rules.specs.Ends.{is_viewport_lost, props_of, taken_calls, to_begin, to_finished, viewport_owner, viewport_uses}
use Rattle.flat_rules.specs.Watch.{are_joined, display_props, layout_in, props_given, props_seen, props_told}
use Rattle.flat_laws.specs.Shows.{LayoutsAreOfFrames, props_shown}

-- what the last finished frame shows of a viewport is what frames have seen of it last
shown-seen : (setup : Setup) (p : PairNo) (n : ℕ) (s : SessionNo) (props : ViewportProps) (history : List Entry)
    → props_shown setup (to_finished history) s p n ≡ Some props → props_seen setup p n s history ≡ Some props
shown-seen setup p n s props [] is = absurd (cc)
shown-seen setup p n s props (before ▹ entry) is = by_kind (is_finish entry.kind) (shown-seen setup p n s props before) is
  where
    by_kind : (b : Bool) → (props_shown setup (to_finished before) s p n ≡ Some props → props_seen setup p n s before ≡ Some props)
        → props_shown setup (cond b (to_begin before) (to_finished before)) s p n ≡ Some props
        → option_or (cond b (option_and_then (props_of p n) (result_ok (draft_of setup (taken_calls setup (to_begin before) s)))) None)
        (props_seen setup p n s before)
        ≡ Some props
    by_kind true earlier here = ap (λ o. option_or o (props_seen setup p n s before)) here
    by_kind false earlier here = earlier here

-- the properties that a layout was told by
record ToldBy (at : ℕ) (given : Option ViewportProps) (layout : Layout) : Type 0 where
  props : ViewportProps
  is : given ≡ Some props
  gives : tell.Layout layout ≡ layout_in at props

told-by : (lost joined : Bool) (at : ℕ) (given : Option ViewportProps) (layout : Layout)
    → cond lost (Some tell.Gone) (cond joined (option_map (layout_in at) given) None) ≡ Some (tell.Layout layout) → ToldBy at given layout
told-by true joined at given layout is = absurd (cc)
told-by false true at (Some props) layout is = record { props = props; is = refl; gives = cc }
told-by false true at None layout is = absurd (cc)
told-by false false at given layout is = absurd (cc)

abbrev ratio_of : WatcherValue → ℕ
ratio_of (tell.Layout layout) = layout.ratio
ratio_of _ = 0

pub layouts-of-frames : LayoutsAreOfFrames
layouts-of-frames setup history p layout is =
    let at : ℕ = ratio setup (to_finished history) in
    let uses : ℕ = length (viewport_uses p history) in
    let by : ToldBy at (props_told setup (viewport_owner setup p) history p) layout =
    told-by (is_viewport_lost setup (to_finished history) p) (are_joined setup history p) at (props_told setup (viewport_owner setup p) history p) layout is in
    let same : layout.ratio ≡ at = ap ratio_of by.gives in
    let given : (props : ViewportProps) → props_told setup (viewport_owner setup p) history p ≡ Some props → tell.Layout layout ≡ layout_in layout.ratio props =
    λ props there. by_props props (sym by.is ∙ there) by.gives same in
    record {
      at_ratio = same;
      of_display = λ owner. given (display_props layout.ratio setup)
          (ap (λ o. props_told setup o history p) owner ∙ ap (λ r. Some (display_props r setup)) (sym same));
      of_session = λ s props owner there. given props
          (ap (λ o. props_told setup o history p) owner
          ∙ ap (λ o. option_or o (props_given setup (viewport_uses p history))) (shown-seen setup p uses s props history there));
    }
  where
    by_props : {at : ℕ} {found : ViewportProps} (props : ViewportProps) → Some found ≡ Some props
        → tell.Layout layout ≡ layout_in at found → layout.ratio ≡ at → tell.Layout layout ≡ layout_in layout.ratio props
    by_props {at} {found} props same gives at_is =
        let eq : found ≡ props = cc in
        gives ∙ ap (layout_in at) eq ∙ ap (λ r. layout_in r props) (sym at_is)
