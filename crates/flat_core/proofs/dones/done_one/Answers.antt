use Rattle.std.proofs.Common.{◌≡◌, ℕ, Bool, true, false, List, [], ◌++◌, length, refl, ap, sym, ◌∙◌}
use Rattle.std.specs.Prelude.{cond, map}
use Rattle.std.proofs.lemmas.List.{append-nil}
use Rattle.flat_scene.specs.History.{is_closed}
use Rattle.flat_rules.specs.Legal.{is_frame_open}
use Rattle.flat_rules.specs.Posts.{frame_took}
use Rattle.flat_scene.specs.declared.journal.Entry.{Entry}
use Rattle.flat_scene.specs.Frames.{taken}
use Rattle.flat_scene.specs.History.{◌▹◌}
use Rattle.flat_facts.specs.Begins.{finish_entry, post_of, took_event}
use Rattle.flat_rules.specs.Legal.{Legal, LegalEntry}
use Rattle.flat_states.specs.Seen.{seen_of}
use Rattle.flat_links.specs.Viewports.{back_events}
use Rattle.flat_states.proofs.lemmas.Counts.{seen-count, taken-kept}
use Rattle.flat_links.proofs.lemmas.ViewportUses.{viewports-finish}
use Rattle.flat_states.proofs.lemmas.DoneSteps.{told-then}
use Rattle.flat_core.proofs.dones.done_one.Goals as goal

pub returns-then-state-clause-posts : goal.returns-then-state-clause-posts
returns-then-state-clause-posts c =
    let closed : is_closed c.args.s c.args.log.now.history ≡ true = sym c.requires.kept.closed ∙ c.if-state.true in
    rw closed (sym (append-nil _))

took-is : (b : Bool) (n took : ℕ) → b ≡ true → took ≡ cond b n 0 → took ≡ n
took-is true n took opened is = is
took-is false n took opened is = cc

pub returns-clause-ends : goal.returns-clause-ends
returns-clause-ends c =
    let setup = c.args.setup.now in
    let h = c.args.log.now.history in
    let e = finish_entry c.args.line in
    let legal : Legal setup (h ▹ e) = (c.requires.legal, (let one : LegalEntry setup h e = record { may = c.requires.may; reply = refl } in one)) in
    let step = viewports-finish setup c.args.s c.requires.declared h e legal refl refl (λ p. refl) c.args.ends.now.live.items c.args.ends.now.out.items
    c.requires.ends in
    let taken_is : c.taken.result ≡ taken setup h c.args.s =
    c.taken.ensures ∙ taken-kept setup (seen_of setup h c.args.s) c.args.state.now c.requires.kept (seen-count setup h c.args.s) in
    rw (c.take_back-back.ensures.live, c.take_back-back.ensures.out, taken_is) step

pub returns-clause-posts : goal.returns-clause-posts
returns-clause-posts c =
    let setup = c.args.setup.now in
    let h = c.args.log.now.history in
    let s = c.args.s in
    let outs = c.args.ends.now.out.items in
    let opened : is_closed s h ≡ false = sym c.requires.kept.closed ∙ c.if-state.false in
    let took : c.args.state.now.took ≡ frame_took setup h s =
    took-is (is_frame_open h) (frame_took setup h s) c.args.state.now.took c.requires.opened c.requires.kept.took in
    let taken_is : c.taken.result ≡ taken setup h s = c.taken.ensures
    ∙ taken-kept setup (seen_of setup h s) c.args.state.now c.requires.kept (seen-count setup h s) in
    let all : cond (is_closed s h) [] (took_event (frame_took setup h s) ++ back_events (taken setup h s) outs) ≡ took_event c.args.state.now.took
    ++ back_events c.taken.result outs = rw (opened, took, taken_is) refl in
    let second : c.take_back-back.new.log.posts ≡ c.post_took-presented.new.log.posts ++ map (post_of (length h) s) (back_events c.taken.result outs) =
    c.take_back-back.ensures.posts ∙ ap (λ (k : List Entry). c.post_took-presented.new.log.posts
    ++ map (post_of (length k) s) (back_events c.taken.result outs)) c.post_took-presented.ensures.history in
    told-then (post_of (length h) s) c.args.log.now.posts c.post_took-presented.new.log.posts c.take_back-back.new.log.posts (took_event c.args.state.now.took)
    (back_events c.taken.result outs) _ c.post_took-presented.ensures.posts second all
