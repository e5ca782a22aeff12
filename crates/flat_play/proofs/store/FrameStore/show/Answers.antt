use Rattle.std.proofs.Common.{◌≡◌, Some, [], ◌∷◌, ◌++◌, ◌∙◌}
use Rattle.flat_scene.specs.declared.frames.FrameOut.{FrameOut}
use Rattle.flat_page.proofs.lemmas.LastItems.{last-more}
use Rattle.flat_play.proofs.lemmas.Seen.{shows_same}
use Rattle.flat_play.proofs.store.FrameStore.show.Goals as goal

same-frame : (one other : FrameOut) → Some one ≡ Some other → one ≡ other
same-frame one other is = cc

pub returns-in-Some-clause-shows : goal.returns-in-Some-clause-shows
returns-in-Some-clause-shows g c = λ script before frame keeps.
    let same : c.in-Some.frame.now ≡ frame = same-frame c.in-Some.frame.now frame
    (c.in-Some.ensures script (before ++ frame ∷ []) keeps ∙ last-more before frame) in
    let shows = c.show.ensures.shows in
    (shows.0, shows.1, shows_same _ _ _ _ _ _ _ _ _ same shows.2)
