use Rattle.std.proofs.Common.{refl}
use Rattle.flat_draft.specs.Parts.{no_view_tests, view_tests}
use Rattle.flat_draft.proofs.Applying.{view-applied, given-applied, released-applied, cleared-applied}
use Rattle.flat_draft.proofs.draft.Draft.apply.Goals as goal

pub returns-in-CreateView-clause-applied : goal.returns-in-CreateView-clause-applied
returns-in-CreateView-clause-applied c = λ setup draft s.
    view-applied setup draft _ _ _ _ _ c.self.inside.view _ _ _ (view_tests c.self.inside.view) c.create_view.result c.in-CreateView.is c.self.view_is refl refl
    s (λ e. rw e refl) refl
    c.create_view.ensures.created c.create_view.ensures.allowed c.create_view.ensures.fault c.create_view.ensures.kept

pub returns-in-ReleaseView-clause-applied : goal.returns-in-ReleaseView-clause-applied
returns-in-ReleaseView-clause-applied c = λ setup draft s.
    view-applied setup draft _ _ _ _ _ c.self-in-ReleaseView.inside.view _ _ _ (no_view_tests c.self-in-ReleaseView.inside.view) c.release_view.result
    c.in-ReleaseView.is c.self-in-ReleaseView.view_is refl refl s (λ e. rw e refl) refl
    c.release_view.ensures.released c.release_view.ensures.allowed c.release_view.ensures.fault c.release_view.ensures.kept

pub returns-in-SetContent-clause-applied : goal.returns-in-SetContent-clause-applied
returns-in-SetContent-clause-applied c = λ setup draft s.
    given-applied setup draft _ c.in-SetContent.t c.in-SetContent.c _ c.self-in-SetContent.inside.graph _ c.self-in-SetContent.inside.contents _ _
    c.set_content.result c.in-SetContent.is c.self-in-SetContent.view_is s
    c.set_content.ensures.set c.set_content.ensures.allowed
    c.set_content.ensures.fault
    c.set_content.ensures.kept

pub returns-in-ReleaseViewport-clause-applied : goal.returns-in-ReleaseViewport-clause-applied
returns-in-ReleaseViewport-clause-applied c = λ setup draft s.
    let e = c.release_viewport.ensures in
    released-applied setup draft _ c.in-ReleaseViewport.c _ c.self-in-ReleaseViewport.inside.graph _ c.self-in-ReleaseViewport.inside.contents _ _ _
    c.release_viewport.result c.in-ReleaseViewport.is c.self-in-ReleaseViewport.view_is s
    e.dropped e.released e.allowed
    e.fault e.kept e.still

pub returns-in-Clear-clause-applied : goal.returns-in-Clear-clause-applied
returns-in-Clear-clause-applied c = λ setup draft s. rw c.clear.ensures (cleared-applied setup draft _ _ c.in-Clear.is s)
