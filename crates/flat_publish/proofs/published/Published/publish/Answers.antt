use Rattle.std.proofs.Common.{◌≡◌, ◌⊎◌, [], ◌∷◌, ◌++◌, Some, drop, length, inl, inr, refl, sym, ap, ◌∙◌, subst, ⊎_elim, le_refl, List, None}
use mathlib.Core.List.{IsPrefix}
use Rattle.left_right.specs.Sides.{view}
use Rattle.flat_publish.specs.declared.frame.Frame.{Frame}
use Rattle.flat_publish.specs.Frames.{last_number, number_of, frame}
use Rattle.flat_publish.specs.Book.{head_of}
use Rattle.flat_publish.specs.State.{Seen}
use Rattle.std.specs.Arc.{arc_value}
use Rattle.flat_publish.proofs.lemmas.Beginnings.{prefix_self, drop_whole, last_snoc}
use Rattle.flat_publish.proofs.Publishing.{on_ok, on_err, on_both, all_published, refused_more, still_begins}
use Rattle.flat_publish.proofs.published.Published.publish.Goals as goal

pub invariant_of-self-2 : goal.invariant_of-self-2
invariant_of-self-2 g c =
    let was = c.self.invariant in
    let added = c.in_ok-latest.ensures in
    let sent = c.replace_with.ensures in
    let now = c.replace_with.new.dest in
    let newest = c.add_frame.new.newest in
    let f : Frame = frame c.args.number.0 (arc_value c.args.joined) in
    let here = on_both c.replace_with.result sent.0 sent.1.0 sent.1.1 in record {
      head = was.head ∙ ap head_of (sym added.book);
      home = ⊎_elim (λ t. ap (λ (l : Seen). l.home) (t.0 ∙ added.ok)) (λ t. ap (λ (l : Seen). l.home) t.0 ∙ (was.home ∙ sym added.book)) here;
      known = ⊎_elim (λ t. t.1 ∙ ap (λ (l : Seen). Some l.home) added.ok) (λ t. t.1 ∙ (was.known ∙ ap Some (sym added.book))) here;
      begins = ⊎_elim (λ t. subst (λ (l : List Frame). IsPrefix l newest.log) (sym (ap (λ (l : Seen). l.frames) (t.0 ∙ added.ok))) (prefix_self newest.log))
          (λ t. subst (λ (l : List Frame). IsPrefix l newest.log) (sym (ap (λ (l : Seen). l.frames) t.0))
          (still_begins _ _ newest.log f was.begins added.added)) here;
      added_last = sym (ap last_number added.added ∙ ap number_of (last_snoc None c.self.inside.newest.log f));
      given = le_refl _;
      rising = added.rising;
    }

pub returns-clause-ok : goal.returns-clause-ok
returns-clause-ok g c =
    let was = c.self.invariant in
    let added = c.in_ok-latest.ensures in
    let newest = c.add_frame.new.newest in
    let f : Frame = frame c.args.number.0 (arc_value c.args.joined) in
    on_ok c.replace_with.result (λ shown. let frames = ap (λ (l : Seen). l.frames) (shown ∙ added.ok) in (
      rw (← c.self.view_is) (frames ∙ all_published _ _ newest.log f was.begins added.added),
      ap (λ (l : List Frame). drop (length l) newest.log) frames
          ∙ drop_whole newest.log,
    )) c.replace_with.ensures.0

pub returns-clause-err : goal.returns-clause-err
returns-clause-err g c =
    let was = c.self.invariant in
    let added = c.in_ok-latest.ensures in
    let newest = c.add_frame.new.newest in
    let f : Frame = frame c.args.number.0 (arc_value c.args.joined) in
    on_err c.replace_with.result (λ kept. let frames = ap (λ (l : Seen). l.frames) kept.0 in
    rw (← c.self.view_is) (frames, inr (ap (λ (l : List Frame). drop (length l) newest.log) frames ∙ refused_more _ _ newest.log f was.begins added.added)))
    c.replace_with.ensures.1.1
