use Rattle.std.proofs.Common.{◌≡◌, ◌∙◌, ◌-◌, ◌≤◌, sym, Some, None, [], ◌∷◌, ◌++◌, length, map, ap, refl, arith, List}
use Rattle.std.specs.Prelude.{slice_get}
use Rattle.std.specs.List.{list_any}
use Rattle.flat_scene.specs.declared.calls.Call.{Call}
use Rattle.flat_scene.specs.declared.calls.Call.TheVariants.{CreateViewport}
use Rattle.flat_facts.specs.declared.live_viewport.LiveViewport.{LiveViewport}
use Rattle.flat_links.specs.declared.tokens.OutToken.{OutToken}
use Rattle.flat_rules.specs.Legal.{all_but_last}
use Rattle.flat_facts.specs.Lives.{lives_after, is_new_viewport}
use Rattle.flat_links.specs.Viewports.{marked, with_out}
use Rattle.flat_links.proofs.UseLast.{IsUseCall, at-get, but-last, is-made, last-some, lives-fewer, use-of, lives-used, marks-used}
use Rattle.flat_links.proofs.viewports.Viewports.use_end.Goals as goal

pub note_calls-requires : goal.note_calls-requires
note_calls-requires c =
    let calls = c.args.calls.now in
    let one = last-some c.args.p calls (slice_get calls (length calls - 1)) refl c.requires.last in
    ap (list_any is_new_viewport) (but-last calls one.0 one.1) ∙ c.requires.others

pub returns-in-CreateViewport-clause-live : goal.returns-in-CreateViewport-clause-live
returns-in-CreateViewport-clause-live c =
    let calls = c.args.calls.now in
    let it = c.in-CreateViewport in
    let one = last-some c.args.p calls (slice_get calls (length calls - 1)) refl c.requires.last in
    let at : slice_get calls (length calls - 1) ≡ Some (CreateViewport it.c it.pair it.w it.h it.inset) =
    one.1 ∙ ap Some (sym (c.index-calls-place.is ∙ at-get calls (length calls - 1) one.0 c.index-calls-place.result one.1) ∙ it.is) in
    let is : IsUseCall c.args.p calls it.c it.w it.h it.inset = use-of c.args.p calls it.c it.pair it.w it.h it.inset c.requires.last at in
    let new : List LiveViewport = record { name = it.c; pair = c.args.p } ∷ [] in
    c.join.ensures.live ∙ ap (λ (l : List LiveViewport). l ++ new)
    (c.note_calls.ensures.live ∙ ap (lives_after c.args.self.now.live.items) (but-last calls one.0 one.1))
    ∙ sym (lives-used c.args.p calls it.c it.w it.h it.inset is c.args.self.now.live.items)

pub returns-in-CreateViewport-clause-out : goal.returns-in-CreateViewport-clause-out
returns-in-CreateViewport-clause-out c =
    let calls = c.args.calls.now in
    let it = c.in-CreateViewport in
    let one = last-some c.args.p calls (slice_get calls (length calls - 1)) refl c.requires.last in
    let at : slice_get calls (length calls - 1) ≡ Some (CreateViewport it.c it.pair it.w it.h it.inset) =
    one.1 ∙ ap Some (sym (c.index-calls-place.is ∙ at-get calls (length calls - 1) one.0 c.index-calls-place.result one.1) ∙ it.is) in
    let is : IsUseCall c.args.p calls it.c it.w it.h it.inset = use-of c.args.p calls it.c it.pair it.w it.h it.inset c.requires.last at in
    let lives = c.args.self.now.live.items in
    let outs = c.args.self.now.out.items in
    let token : OutToken = record { pair = c.args.p; released = None } in
    c.join.ensures.out
    ∙ ap (with_out token) (c.note_calls.ensures.out ∙ ap (λ (cs : List Call). map (marked lives cs c.args.presents) outs) (but-last calls one.0 one.1)
    ∙ sym (marks-used c.args.p calls it.c it.w it.h it.inset is lives c.args.presents outs))

pub join-requires-clause-room_live : goal.join-requires-clause-room_live
join-requires-clause-room_live c =
    let calls = c.args.calls.now in
    let lives = c.args.self.now.live.items in
    let one = last-some c.args.p calls (slice_get calls (length calls - 1)) refl c.requires.last in
    let few : length (lives_after lives (all_but_last calls)) ≤ length lives = lives-fewer lives (all_but_last calls) c.requires.others in
    let long : length c.note_calls.new.self.live.items ≡ length (lives_after lives (all_but_last calls)) =
    ap (length {A = LiveViewport}) (c.note_calls.ensures.live ∙ ap (lives_after lives) (but-last calls one.0 one.1)) in
    omega (arith, few, long, c.note_calls.ensures.room_live, c.requires.room_live)

pub returns-in_default : goal.returns-in_default
returns-in_default c =
    let calls = c.args.calls.now in
    let one = last-some c.args.p calls (slice_get calls (length calls - 1)) refl c.requires.last in
    let is : c.index-calls-place.result ≡ one.0 = c.index-calls-place.is ∙ at-get calls (length calls - 1) one.0 c.index-calls-place.result one.1 in
    absurd (is-made c.args.p one.0 one.2 (λ name q w h inset same. c.in_default.not-CreateViewport name q w h inset (is ∙ same)))
